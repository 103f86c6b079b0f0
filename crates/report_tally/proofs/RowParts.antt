-- What a row is told by is what its line is.
use Rattle.std.proofs.Common.{◌≡◌, ◌≢◌, ℕ, ◌+◌, ◌<◌, ◌≤◌, ◌==◌, Bool, true, false, List, [], ◌∷◌, ◌++◌, Option, Some, None, length, refl, sym, ap, ◌∙◌, append-nil, arith}
use Rattle.std.specs.Prelude.{codes, decimal, if◌then◌else◌}
use Rattle.std.specs.Str.{bytes_eq}
use Rattle.std.proofs.lemmas.Bool.Decides.{nat_tests}
use Rattle.std.proofs.lemmas.List.{length-append}
use Rattle.zbase.specs.Hex.{hex16_text}
use Rattle.schedule.specs.declared.line.Line.{Line}
use Rattle.schedule.specs.Rows.{Lacks}
use Rattle.report_tally.specs.Fronts.{after, before, by_mark, kind_by, kind_in, length_by, length_in, tid_by, tid_in}
use Rattle.report_tally.specs.HeadLaws.{id_lacks, number_lacks, word_spaceless}
use Rattle.report_tally.specs.Heads.{bytes_of, fields_of, fields_text, head_of, word_of}
use Rattle.report_tally.specs.Lasts.{tid_text}
use Rattle.report_tally.specs.Tallies.{kind_of}
use Rattle.schedule.specs.Lines.{text_field}

-- ---- before and behind a byte

other : (a b : ℕ) → a ≢ b → (a == b) ≡ false
other a b not = grind (arith, nat_tests, not)

same : (a : ℕ) → (a == a) ≡ true
same a = grind (arith, nat_tests)

pub before_is : (byte : ℕ) (front rest : List ℕ) → Lacks byte front → before byte (front ++ byte ∷ rest) ≡ front
before_is byte [] rest lacks = rw (same byte) refl
before_is byte (x ∷ front) rest lacks = rw (other x byte lacks.0) (ap (λ xs. x ∷ xs) (before_is byte front rest lacks.1))

pub after_is : (byte : ℕ) (front rest : List ℕ) → Lacks byte front → after byte (front ++ byte ∷ rest) ≡ rest
after_is byte [] rest lacks = rw (same byte) refl
after_is byte (x ∷ front) rest lacks = rw (other x byte lacks.0) (after_is byte front rest lacks.1)

pub before_all : (byte : ℕ) (xs : List ℕ) → Lacks byte xs → before byte xs ≡ xs
before_all byte [] lacks = refl
before_all byte (x ∷ xs) lacks = rw (other x byte lacks.0) (ap (λ ys. x ∷ ys) (before_all byte xs lacks.1))

pub after_none : (byte : ℕ) (xs : List ℕ) → Lacks byte xs → after byte xs ≡ []
after_none byte [] lacks = refl
after_none byte (x ∷ xs) lacks = rw (other x byte lacks.0) (after_none byte xs lacks.1)

-- what a split says, in these words
pub before_split : (byte : ℕ) (text front rest : List ℕ) → text ≡ front ++ byte ∷ rest → Lacks byte front → front ≡ before byte text
before_split byte text front rest is lacks = sym (before_is byte front rest lacks) ∙ ap (before byte) (sym is)

pub after_split : (byte : ℕ) (text front rest : List ℕ) → text ≡ front ++ byte ∷ rest → Lacks byte front → rest ≡ after byte text
after_split byte text front rest is lacks = sym (after_is byte front rest lacks) ∙ ap (after byte) (sym is)

-- ---- the parts of a row

-- the fields, without the space before the first
abbrev fields_behind : List (List ℕ) → List ℕ
fields_behind [] = []
fields_behind (f ∷ fs) = f ++ fields_text fs

row_before : (word : List ℕ) (fields : List (List ℕ)) → Lacks 32 word → before 32 (word ++ fields_text fields) ≡ word
row_before word [] lacks = ap (before 32) (append-nil word) ∙ before_all 32 word lacks
row_before word (f ∷ fs) lacks = before_is 32 word (f ++ fields_text fs) lacks

row_after : (word : List ℕ) (fields : List (List ℕ)) → Lacks 32 word → after 32 (word ++ fields_text fields) ≡ fields_behind fields
row_after word [] lacks = ap (after 32) (append-nil word) ∙ after_none 32 word lacks
row_after word (f ∷ fs) lacks = after_is 32 word (f ++ fields_text fs) lacks

spaceless : (n : ℕ) → Lacks 32 (decimal n)
spaceless n = number_lacks 32 n (omega arith)

-- ---- kinds

by_parts : (line : Line) → kind_by (word_of line) (fields_behind (fields_of line)) ≡ kind_of line
by_parts Line.Head = refl
by_parts (Line.Opened t n) = refl
by_parts (Line.Begin w t) = refl
by_parts (Line.Fetch w ask) = refl
by_parts (Line.Computed w) = refl
by_parts (Line.Busy w v) = refl
by_parts (Line.Vote w t) = refl
by_parts (Line.Conflict w c) = refl
by_parts (Line.GivenUp w cs) = refl
by_parts (Line.Idle w) = refl
by_parts (Line.SpentTids w) = refl
by_parts (Line.SpentOids w o n) = refl
by_parts (Line.SpentFull w need limit) = refl
by_parts (Line.DiskFault w) = refl
by_parts (Line.Memory w) = refl
by_parts (Line.Unknown w t) = refl
by_parts (Line.ReplyRead w t bytes) = ap (λ t. by_mark (before 32 t)) (after_is 32 (decimal w) (codes "read" ++ fields_text (hex16_text t ∷ decimal (length bytes) ∷ [])) (spaceless w))
by_parts (Line.ReplyCommit w t bytes) = ap (λ t. by_mark (before 32 t)) (after_is 32 (decimal w) (codes "commit" ++ fields_text (hex16_text t ∷ decimal (length bytes) ∷ [])) (spaceless w))
by_parts (Line.ReplyNone w bytes) = ap (λ t. by_mark (before 32 t)) (after_is 32 (decimal w) (codes "none" ++ fields_text (decimal (length bytes) ∷ [])) (spaceless w))
by_parts (Line.Shown w o role) = refl
by_parts (Line.Denied w o permission) = refl
by_parts Line.Stop = refl
by_parts (Line.Lost w) = refl
by_parts Line.OpenFault = refl
by_parts (Line.Restart t n) = refl
by_parts (Line.History n) = refl
by_parts (Line.Floor t) = refl
by_parts (Line.Transaction t user description extension n) = refl
by_parts (Line.RecordRow o v) = refl
by_parts (Line.Packed t n) = refl
by_parts Line.PackBusy = refl
by_parts (Line.PackUnreadable o) = refl
by_parts (Line.PackFull need limit) = refl
by_parts Line.PackMemory = refl
by_parts Line.PackFault = refl
by_parts Line.End = refl

pub kind_is : (line : Line) (row : List ℕ) → row ≡ head_of line → kind_in row ≡ kind_of line
kind_is line row is =
    ap kind_in is
    ∙ ap (λ word. kind_by word (after 32 (head_of line))) (row_before (word_of line) (fields_of line) (word_spaceless line))
    ∙ ap (kind_by (word_of line)) (row_after (word_of line) (fields_of line) (word_spaceless line))
    ∙ by_parts line

-- ---- how many bytes belong to a row

-- the number of a reply's bytes
abbrev pub bytes_text : Line → Option (List ℕ)
bytes_text (Line.ReplyRead w t bytes) = Some (decimal (length bytes))
bytes_text (Line.ReplyCommit w t bytes) = Some (decimal (length bytes))
bytes_text (Line.ReplyNone w bytes) = Some (decimal (length bytes))
bytes_text _ = None

abbrev by_rest : List ℕ → List ℕ
by_rest t = if bytes_eq (before 32 t) (codes "none") then after 32 t else after 32 (after 32 t)

long_by_parts : (line : Line) → length_by (word_of line) (fields_behind (fields_of line)) ≡ bytes_text line
long_by_parts Line.Head = refl
long_by_parts (Line.Opened t n) = refl
long_by_parts (Line.Begin w t) = refl
long_by_parts (Line.Fetch w ask) = refl
long_by_parts (Line.Computed w) = refl
long_by_parts (Line.Busy w v) = refl
long_by_parts (Line.Vote w t) = refl
long_by_parts (Line.Conflict w c) = refl
long_by_parts (Line.GivenUp w cs) = refl
long_by_parts (Line.Idle w) = refl
long_by_parts (Line.SpentTids w) = refl
long_by_parts (Line.SpentOids w o n) = refl
long_by_parts (Line.SpentFull w need limit) = refl
long_by_parts (Line.DiskFault w) = refl
long_by_parts (Line.Memory w) = refl
long_by_parts (Line.Unknown w t) = refl
long_by_parts (Line.ReplyRead w t bytes) =
    ap (λ u. Some (by_rest u)) (after_is 32 (decimal w) (codes "read" ++ fields_text (hex16_text t ∷ decimal (length bytes) ∷ [])) (spaceless w))
    ∙ ap (λ u. Some u) (after_is 32 (hex16_text t) (decimal (length bytes) ++ []) (id_lacks 32 t (omega arith)))
    ∙ ap (λ u. Some u) (append-nil (decimal (length bytes)))
long_by_parts (Line.ReplyCommit w t bytes) =
    ap (λ u. Some (by_rest u)) (after_is 32 (decimal w) (codes "commit" ++ fields_text (hex16_text t ∷ decimal (length bytes) ∷ [])) (spaceless w))
    ∙ ap (λ u. Some u) (after_is 32 (hex16_text t) (decimal (length bytes) ++ []) (id_lacks 32 t (omega arith)))
    ∙ ap (λ u. Some u) (append-nil (decimal (length bytes)))
long_by_parts (Line.ReplyNone w bytes) = ap (λ t. Some (by_rest t)) (after_is 32 (decimal w) (codes "none" ++ fields_text (decimal (length bytes) ∷ [])) (spaceless w)) ∙ ap (λ t. Some t) (append-nil (decimal (length bytes)))
long_by_parts (Line.Shown w o role) = refl
long_by_parts (Line.Denied w o permission) = refl
long_by_parts Line.Stop = refl
long_by_parts (Line.Lost w) = refl
long_by_parts Line.OpenFault = refl
long_by_parts (Line.Restart t n) = refl
long_by_parts (Line.History n) = refl
long_by_parts (Line.Floor t) = refl
long_by_parts (Line.Transaction t user description extension n) = refl
long_by_parts (Line.RecordRow o v) = refl
long_by_parts (Line.Packed t n) = refl
long_by_parts Line.PackBusy = refl
long_by_parts (Line.PackUnreadable o) = refl
long_by_parts (Line.PackFull need limit) = refl
long_by_parts Line.PackMemory = refl
long_by_parts Line.PackFault = refl
long_by_parts Line.End = refl

pub long_is : (line : Line) (row : List ℕ) → row ≡ head_of line → length_in row ≡ bytes_text line
long_is line row is =
    ap length_in is
    ∙ ap (λ word. length_by word (after 32 (head_of line))) (row_before (word_of line) (fields_of line) (word_spaceless line))
    ∙ ap (length_by (word_of line)) (row_after (word_of line) (fields_of line) (word_spaceless line))
    ∙ long_by_parts line

-- a number stands for the bytes without the line feed behind them
pub record Numbers (line : Line) (text : List ℕ) : Type 0 where
  pub number : ℕ
  pub is : text ≡ decimal number
  pub long : length (bytes_of line) ≡ number + 1

one_more : (bytes : List ℕ) → length (bytes ++ 10 ∷ []) ≡ length bytes + 1
one_more bytes = length-append bytes (10 ∷ [])

some_text : (bytes text : List ℕ) → Some (decimal (length bytes)) ≡ Some text → text ≡ decimal (length bytes)
some_text bytes text e = cc

no_text : (text : List ℕ) → (let none : Option (List ℕ) = None in none) ≡ Some text → ⊥
no_text text e = cc

pub numbers : (line : Line) (text : List ℕ) → bytes_text line ≡ Some text → Numbers line text
numbers Line.Head text e = absurd (no_text text e)
numbers (Line.Opened t n) text e = absurd (no_text text e)
numbers (Line.Begin w t) text e = absurd (no_text text e)
numbers (Line.Fetch w ask) text e = absurd (no_text text e)
numbers (Line.Computed w) text e = absurd (no_text text e)
numbers (Line.Busy w v) text e = absurd (no_text text e)
numbers (Line.Vote w t) text e = absurd (no_text text e)
numbers (Line.Conflict w c) text e = absurd (no_text text e)
numbers (Line.GivenUp w cs) text e = absurd (no_text text e)
numbers (Line.Idle w) text e = absurd (no_text text e)
numbers (Line.SpentTids w) text e = absurd (no_text text e)
numbers (Line.SpentOids w o n) text e = absurd (no_text text e)
numbers (Line.SpentFull w need limit) text e = absurd (no_text text e)
numbers (Line.DiskFault w) text e = absurd (no_text text e)
numbers (Line.Memory w) text e = absurd (no_text text e)
numbers (Line.Unknown w t) text e = absurd (no_text text e)
numbers (Line.ReplyRead w t bytes) text e = record { number = length bytes; is = some_text bytes text e; long = one_more bytes }
numbers (Line.ReplyCommit w t bytes) text e = record { number = length bytes; is = some_text bytes text e; long = one_more bytes }
numbers (Line.ReplyNone w bytes) text e = record { number = length bytes; is = some_text bytes text e; long = one_more bytes }
numbers (Line.Shown w o role) text e = absurd (no_text text e)
numbers (Line.Denied w o permission) text e = absurd (no_text text e)
numbers Line.Stop text e = absurd (no_text text e)
numbers (Line.Lost w) text e = absurd (no_text text e)
numbers Line.OpenFault text e = absurd (no_text text e)
numbers (Line.Restart t n) text e = absurd (no_text text e)
numbers (Line.History n) text e = absurd (no_text text e)
numbers (Line.Floor t) text e = absurd (no_text text e)
numbers (Line.Transaction t user description extension n) text e = absurd (no_text text e)
numbers (Line.RecordRow o v) text e = absurd (no_text text e)
numbers (Line.Packed t n) text e = absurd (no_text text e)
numbers Line.PackBusy text e = absurd (no_text text e)
numbers (Line.PackUnreadable o) text e = absurd (no_text text e)
numbers (Line.PackFull need limit) text e = absurd (no_text text e)
numbers Line.PackMemory text e = absurd (no_text text e)
numbers Line.PackFault text e = absurd (no_text text e)
numbers Line.End text e = absurd (no_text text e)

some_none : (text : List ℕ) → Some text ≡ None → ⊥
some_none text e = cc

pub no_bytes : (line : Line) → bytes_text line ≡ None → length (bytes_of line) ≡ 0
no_bytes Line.Head e = refl
no_bytes (Line.Opened t n) e = refl
no_bytes (Line.Begin w t) e = refl
no_bytes (Line.Fetch w ask) e = refl
no_bytes (Line.Computed w) e = refl
no_bytes (Line.Busy w v) e = refl
no_bytes (Line.Vote w t) e = refl
no_bytes (Line.Conflict w c) e = refl
no_bytes (Line.GivenUp w cs) e = refl
no_bytes (Line.Idle w) e = refl
no_bytes (Line.SpentTids w) e = refl
no_bytes (Line.SpentOids w o n) e = refl
no_bytes (Line.SpentFull w need limit) e = refl
no_bytes (Line.DiskFault w) e = refl
no_bytes (Line.Memory w) e = refl
no_bytes (Line.Unknown w t) e = refl
no_bytes (Line.ReplyRead w t bytes) e = absurd (some_none (decimal (length bytes)) e)
no_bytes (Line.ReplyCommit w t bytes) e = absurd (some_none (decimal (length bytes)) e)
no_bytes (Line.ReplyNone w bytes) e = absurd (some_none (decimal (length bytes)) e)
no_bytes (Line.Shown w o role) e = refl
no_bytes (Line.Denied w o permission) e = refl
no_bytes Line.Stop e = refl
no_bytes (Line.Lost w) e = refl
no_bytes Line.OpenFault e = refl
no_bytes (Line.Restart t n) e = refl
no_bytes (Line.History n) e = refl
no_bytes (Line.Floor t) e = refl
no_bytes (Line.Transaction t user description extension n) e = refl
no_bytes (Line.RecordRow o v) e = refl
no_bytes (Line.Packed t n) e = refl
no_bytes Line.PackBusy e = refl
no_bytes (Line.PackUnreadable o) e = refl
no_bytes (Line.PackFull need limit) e = refl
no_bytes Line.PackMemory e = refl
no_bytes Line.PackFault e = refl
no_bytes Line.End e = refl

-- ---- transactions

tid_by_parts : (line : Line) → tid_by (word_of line) (fields_behind (fields_of line)) ≡ tid_text line
tid_by_parts Line.Head = refl
tid_by_parts (Line.Opened t n) = refl
tid_by_parts (Line.Begin w t) = refl
tid_by_parts (Line.Fetch w ask) = refl
tid_by_parts (Line.Computed w) = refl
tid_by_parts (Line.Busy w v) = refl
tid_by_parts (Line.Vote w t) = refl
tid_by_parts (Line.Conflict w c) = refl
tid_by_parts (Line.GivenUp w cs) = refl
tid_by_parts (Line.Idle w) = refl
tid_by_parts (Line.SpentTids w) = refl
tid_by_parts (Line.SpentOids w o n) = refl
tid_by_parts (Line.SpentFull w need limit) = refl
tid_by_parts (Line.DiskFault w) = refl
tid_by_parts (Line.Memory w) = refl
tid_by_parts (Line.Unknown w t) = refl
tid_by_parts (Line.ReplyRead w t bytes) = refl
tid_by_parts (Line.ReplyCommit w t bytes) = refl
tid_by_parts (Line.ReplyNone w bytes) = refl
tid_by_parts (Line.Shown w o role) = refl
tid_by_parts (Line.Denied w o permission) = refl
tid_by_parts Line.Stop = refl
tid_by_parts (Line.Lost w) = refl
tid_by_parts Line.OpenFault = refl
tid_by_parts (Line.Restart t n) = refl
tid_by_parts (Line.History n) = refl
tid_by_parts (Line.Floor t) = refl
tid_by_parts (Line.Transaction t user description extension n) = ap (λ u. Some u) (before_is 32 (hex16_text t) (text_field user ++ fields_text (text_field description ∷ text_field extension ∷ decimal n ∷ [])) (id_lacks 32 t (omega arith)))
tid_by_parts (Line.RecordRow o v) = refl
tid_by_parts (Line.Packed t n) = refl
tid_by_parts Line.PackBusy = refl
tid_by_parts (Line.PackUnreadable o) = refl
tid_by_parts (Line.PackFull need limit) = refl
tid_by_parts Line.PackMemory = refl
tid_by_parts Line.PackFault = refl
tid_by_parts Line.End = refl

pub tid_is : (line : Line) (row : List ℕ) → row ≡ head_of line → tid_in row ≡ tid_text line
tid_is line row is =
    ap tid_in is
    ∙ ap (λ word. tid_by word (after 32 (head_of line))) (row_before (word_of line) (fields_of line) (word_spaceless line))
    ∙ ap (tid_by (word_of line)) (row_after (word_of line) (fields_of line) (word_spaceless line))
    ∙ tid_by_parts line

-- ---- lengths

within : (byte : ℕ) (xs : List ℕ) → length (after byte xs) ≤ length xs
within byte [] = omega arith
within byte (x ∷ xs) = go (x == byte) (within byte xs)
  where
    go : (b : Bool) → length (after byte xs) ≤ length xs → length (if b then xs else after byte xs) ≤ length (x ∷ xs)
    go true rest = omega arith
    go false rest = omega (arith, rest)

pub after_shorter : (byte : ℕ) (xs : List ℕ) → (xs ≡ [] → ⊥) → length (after byte xs) < length xs
after_shorter byte [] some = absurd (some refl)
after_shorter byte (x ∷ xs) some = go (x == byte) (within byte xs)
  where
    go : (b : Bool) → length (after byte xs) ≤ length xs → length (if b then xs else after byte xs) < length (x ∷ xs)
    go true rest = omega arith
    go false rest = omega (arith, rest)
