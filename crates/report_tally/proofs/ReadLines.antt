-- A line more, and what is left of a report behind a line.
use Rattle.std.proofs.Common.{◌≡◌, ℕ, ◌+◌, ◌<◌, ◌^◌, Bool, List, [], ◌∷◌, ◌++◌, Option, None, Some, length, refl, sym, ap, ◌∙◌, subst, append_assoc, append-nil, arith}
use Rattle.std.specs.Prelude.{MatchOption, codes, option_map, if◌then◌else◌}
use Rattle.std.proofs.lemmas.List.{length-append}
use Rattle.schedule.specs.declared.line.Line.{Line}
use Rattle.schedule.specs.Lines.{report_text}
use Rattle.report_tally.specs.declared.kind.Kind.{Kind}
use Rattle.report_tally.specs.declared.kind.Kind.TheVariants as kinds
use Rattle.report_tally.specs.declared.kind.Tally.{Tally}
use Rattle.report_tally.specs.Fronts.{after, before}
use Rattle.report_tally.specs.HeadLaws.{head_lacks, line_is}
use Rattle.report_tally.specs.Heads.{bytes_of, head_of}
use Rattle.zbase.specs.Hex.{hex16_text, hex_digits}
use Rattle.report_tally.specs.Lasts.{last_by, last_from, last_tid, tid_text}
use Rattle.report_tally.specs.Tallies.{capped, counted, how_many, is_commit, is_conflict, is_given_up, is_read, kind_of, tally_of, tally_with}
use Rattle.report_tally.specs.Tidy.{AreTidy, IsTidy}
use Rattle.report_tally.proofs.RowParts.{after_is, before_is}

-- ---- one more line

many_more : (is : Kind → Bool) (lines : List Line) (line : Line) → how_many is (lines ++ line ∷ []) ≡ how_many is lines + (if is (kind_of line) then 1 else 0)
many_more is [] line = omega arith
many_more is (l ∷ lines) line = omega (arith, many_more is lines line)

with_one : (n m : ℕ) → m ≡ n + 1 → capped m ≡ capped (capped n + 1)
with_one n m e = omega (arith, e)

with_none : (n m : ℕ) → m ≡ n + 0 → capped m ≡ capped n
with_none n m e = omega (arith, e)

all_four : {a b c d x y z w : ℕ} → a ≡ x → b ≡ y → c ≡ z → d ≡ w → tally_with a b c d ≡ tally_with x y z w
all_four p q r s = cc

pub counted_more : (lines : List Line) (line : Line) → counted (tally_of lines) (kind_of line) ≡ tally_of (lines ++ line ∷ [])
counted_more lines line = sym (go (kind_of line) (many_more is_read lines line) (many_more is_commit lines line) (many_more is_conflict lines line) (many_more is_given_up lines line))
  where
    go : (k : Kind)
        → how_many is_read (lines ++ line ∷ []) ≡ how_many is_read lines + (if is_read k then 1 else 0)
        → how_many is_commit (lines ++ line ∷ []) ≡ how_many is_commit lines + (if is_commit k then 1 else 0)
        → how_many is_conflict (lines ++ line ∷ []) ≡ how_many is_conflict lines + (if is_conflict k then 1 else 0)
        → how_many is_given_up (lines ++ line ∷ []) ≡ how_many is_given_up lines + (if is_given_up k then 1 else 0)
        → tally_of (lines ++ line ∷ []) ≡ counted (tally_of lines) k
    go kinds.Read a b c d = all_four (with_one _ _ a) (with_none _ _ b) (with_none _ _ c) (with_none _ _ d)
    go kinds.Commit a b c d = all_four (with_none _ _ a) (with_one _ _ b) (with_none _ _ c) (with_none _ _ d)
    go kinds.Conflict a b c d = all_four (with_none _ _ a) (with_none _ _ b) (with_one _ _ c) (with_none _ _ d)
    go kinds.GivenUp a b c d = all_four (with_none _ _ a) (with_none _ _ b) (with_none _ _ c) (with_one _ _ d)
    go kinds.Other a b c d = all_four (with_none _ _ a) (with_none _ _ b) (with_none _ _ c) (with_none _ _ d)

-- ---- what is left

-- some lines of the report were read, of which this was found, and these are left
pub record Left {S : Type 0} (of : List Line → S) (lines : List Line) (rest : List ℕ) (found : S) : Type 0 where
  pub done : List Line
  pub left : List Line
  pub all : done ++ left ≡ lines
  pub tidy : AreTidy left
  pub text : rest ≡ report_text left
  pub so_far : found ≡ of done

pub at_first : {S : Type 0} (of : List Line → S) (lines : List Line) (rest : List ℕ) → AreTidy lines → rest ≡ report_text lines → Left of lines rest (of [])
at_first of lines rest tidy text = record { done = []; left = lines; all = refl; tidy = tidy; text = text; so_far = refl }

none_left : (left : List Line) → [] ≡ report_text left → left ≡ []
none_left [] e = refl
none_left (line ∷ more) e =
    let one : [] ≡ (head_of line ++ 10 ∷ bytes_of line) ++ report_text more = e ∙ ap (λ t. t ++ report_text more) (line_is line) in
    absurd (let long = ap length one in omega (arith, long, length-append (head_of line ++ 10 ∷ bytes_of line) (report_text more), length-append (head_of line) (10 ∷ bytes_of line)))

pub at_last : {S : Type 0} (of : List Line → S) (lines : List Line) (rest : List ℕ) (found : S) → rest ≡ [] → Left of lines rest found → found ≡ of lines
at_last of lines rest found none l =
    let no_more : l.left ≡ [] = none_left l.left (sym none ∙ l.text) in
    l.so_far ∙ ap of (sym (append-nil l.done) ∙ ap (λ xs. l.done ++ xs) (sym no_more) ∙ l.all)

regroup : (line : Line) (more : List Line) → report_text (line ∷ more) ≡ head_of line ++ 10 ∷ (bytes_of line ++ report_text more)
regroup line more = ap (λ t. t ++ report_text more) (line_is line) ∙ append_assoc (head_of line) (10 ∷ bytes_of line) (report_text more)

short : (front back : List ℕ) (n : ℕ) → length (front ++ back) < n → length back < n
short front back n lt = omega (arith, lt, length-append front back)

shorter : (front back : List ℕ) (n : ℕ) → length (front ++ back) < n → length front < n
shorter front back n lt = omega (arith, lt, length-append front back)

-- what is read of a row and of the bytes behind it
pub record Reads (row behind : List ℕ) (count : ℕ) (rest : List ℕ) : Type 0 where
  pub count_is : (line : Line) → IsTidy line → length (bytes_of line) < 2 ^ 64 → row ≡ head_of line → count ≡ length (bytes_of line)
  pub rest_is : (front back : List ℕ) → behind ≡ front ++ back → count ≡ length front → rest ≡ back

-- where what is found by a row more is what its line says
pub one_more : {S : Type 0} (of : List Line → S) (lines : List Line) (old : List ℕ) (found new : S) (count : ℕ) (rest : List ℕ) → length old < 2 ^ 64 → (old ≡ [] → ⊥) → Left of lines old found → Reads (before 10 old) (after 10 old) count rest
    → ((done : List Line) (line : Line) → IsTidy line → before 10 old ≡ head_of line → found ≡ of done → new ≡ of (done ++ line ∷ [])) → Left of lines rest new
one_more of lines old found new count rest small some l reads finds = go l.left l.all l.tidy l.text
  where
    go : (left : List Line) → l.done ++ left ≡ lines → AreTidy left → old ≡ report_text left → Left of lines rest new
    go [] all tidy text = absurd (some text)
    go (line ∷ more) all tidy text =
        let is : old ≡ head_of line ++ 10 ∷ (bytes_of line ++ report_text more) = text ∙ regroup line more in
        let row : before 10 old ≡ head_of line = ap (before 10) is ∙ before_is 10 (head_of line) (bytes_of line ++ report_text more) (head_lacks line tidy.0) in
        let behind : after 10 old ≡ bytes_of line ++ report_text more = ap (after 10) is ∙ after_is 10 (head_of line) (bytes_of line ++ report_text more) (head_lacks line tidy.0) in
        let within : length (head_of line ++ 10 ∷ (bytes_of line ++ report_text more)) < 2 ^ 64 = subst (λ t. length t < 2 ^ 64) is small in
        let tail : length (10 ∷ (bytes_of line ++ report_text more)) < 2 ^ 64 = short (head_of line) (10 ∷ (bytes_of line ++ report_text more)) (2 ^ 64) within in
        let long : length (bytes_of line) < 2 ^ 64 = shorter (bytes_of line) (report_text more) (2 ^ 64) (omega (arith, tail)) in
        record {
          done = l.done ++ line ∷ [];
          left = more;
          all = append_assoc l.done (line ∷ []) more ∙ all;
          tidy = tidy.1;
          text = reads.rest_is (bytes_of line) (report_text more) behind (reads.count_is line tidy.0 long row);
          so_far = finds l.done line tidy.0 row l.so_far;
        }

-- ---- what is found by a row more

pub tallied : (tally : Tally) (kind : Kind) (done : List Line) (line : Line) → kind ≡ kind_of line → tally ≡ tally_of done → counted tally kind ≡ tally_of (done ++ line ∷ [])
tallied tally kind done line is so_far = ap (counted tally) is ∙ ap (λ t. counted t (kind_of line)) so_far ∙ counted_more done line

last_more : (t : ℕ) (done : List Line) (line : Line) → last_from t (done ++ line ∷ []) ≡ last_by (last_from t done) line
last_more t [] line = refl
last_more t (l ∷ done) line = last_more (last_by t l) done line

some_none : (a : List ℕ) → Some a ≡ None → ⊥
some_none a e = cc

none_some : (a : List ℕ) → None ≡ Some a → ⊥
none_some a e = cc

some_is : (a b : List ℕ) → Some a ≡ Some b → a ≡ b
some_is a b e = cc

-- a row that names a transaction, or none
pub told_last : (last digits : List ℕ) (done : List Line) (line : Line) → Some digits ≡ tid_text line → digits ≡ hex16_text (last_tid (done ++ line ∷ []))
told_last last digits done line is = finds line is (last_more 0 done line)
  where
    finds : (l : Line) → Some digits ≡ tid_text l → last_from 0 (done ++ line ∷ []) ≡ last_by (last_from 0 done) l → digits ≡ hex16_text (last_from 0 (done ++ line ∷ []))
    finds Line.Head e so = absurd (some_none digits e)
    finds (Line.Opened t n) e so = absurd (some_none digits e)
    finds (Line.Begin w t) e so = absurd (some_none digits e)
    finds (Line.Fetch w ask) e so = absurd (some_none digits e)
    finds (Line.Computed w) e so = absurd (some_none digits e)
    finds (Line.Busy w v) e so = absurd (some_none digits e)
    finds (Line.Vote w t) e so = absurd (some_none digits e)
    finds (Line.Conflict w c) e so = absurd (some_none digits e)
    finds (Line.GivenUp w cs) e so = absurd (some_none digits e)
    finds (Line.Idle w) e so = absurd (some_none digits e)
    finds (Line.SpentTids w) e so = absurd (some_none digits e)
    finds (Line.SpentOids w o n) e so = absurd (some_none digits e)
    finds (Line.SpentFull w need limit) e so = absurd (some_none digits e)
    finds (Line.DiskFault w) e so = absurd (some_none digits e)
    finds (Line.Memory w) e so = absurd (some_none digits e)
    finds (Line.Unknown w t) e so = absurd (some_none digits e)
    finds (Line.ReplyRead w t bytes) e so = absurd (some_none digits e)
    finds (Line.ReplyCommit w t bytes) e so = absurd (some_none digits e)
    finds (Line.ReplyNone w bytes) e so = absurd (some_none digits e)
    finds (Line.Shown w o role) e so = absurd (some_none digits e)
    finds (Line.Denied w o permission) e so = absurd (some_none digits e)
    finds Line.Stop e so = absurd (some_none digits e)
    finds (Line.Lost w) e so = absurd (some_none digits e)
    finds Line.OpenFault e so = absurd (some_none digits e)
    finds (Line.Restart t n) e so = absurd (some_none digits e)
    finds (Line.History n) e so = absurd (some_none digits e)
    finds (Line.Floor t) e so = absurd (some_none digits e)
    finds (Line.Transaction t user description extension n) e so = some_is digits (hex16_text t) e ∙ ap hex16_text (sym so)
    finds (Line.RecordRow o v) e so = absurd (some_none digits e)
    finds (Line.Packed t n) e so = absurd (some_none digits e)
    finds Line.PackBusy e so = absurd (some_none digits e)
    finds (Line.PackUnreadable o) e so = absurd (some_none digits e)
    finds (Line.PackFull need limit) e so = absurd (some_none digits e)
    finds Line.PackMemory e so = absurd (some_none digits e)
    finds Line.PackFault e so = absurd (some_none digits e)
    finds Line.End e so = absurd (some_none digits e)

pub told_none : (last : List ℕ) (done : List Line) (line : Line) → None ≡ tid_text line → last ≡ hex16_text (last_tid done) → last ≡ hex16_text (last_tid (done ++ line ∷ []))
told_none last done line is so_far = finds line is (last_more 0 done line)
  where
    finds : (l : Line) → None ≡ tid_text l → last_from 0 (done ++ line ∷ []) ≡ last_by (last_from 0 done) l → last ≡ hex16_text (last_from 0 (done ++ line ∷ []))
    finds Line.Head e so = so_far ∙ ap hex16_text (sym so)
    finds (Line.Opened t n) e so = so_far ∙ ap hex16_text (sym so)
    finds (Line.Begin w t) e so = so_far ∙ ap hex16_text (sym so)
    finds (Line.Fetch w ask) e so = so_far ∙ ap hex16_text (sym so)
    finds (Line.Computed w) e so = so_far ∙ ap hex16_text (sym so)
    finds (Line.Busy w v) e so = so_far ∙ ap hex16_text (sym so)
    finds (Line.Vote w t) e so = so_far ∙ ap hex16_text (sym so)
    finds (Line.Conflict w c) e so = so_far ∙ ap hex16_text (sym so)
    finds (Line.GivenUp w cs) e so = so_far ∙ ap hex16_text (sym so)
    finds (Line.Idle w) e so = so_far ∙ ap hex16_text (sym so)
    finds (Line.SpentTids w) e so = so_far ∙ ap hex16_text (sym so)
    finds (Line.SpentOids w o n) e so = so_far ∙ ap hex16_text (sym so)
    finds (Line.SpentFull w need limit) e so = so_far ∙ ap hex16_text (sym so)
    finds (Line.DiskFault w) e so = so_far ∙ ap hex16_text (sym so)
    finds (Line.Memory w) e so = so_far ∙ ap hex16_text (sym so)
    finds (Line.Unknown w t) e so = so_far ∙ ap hex16_text (sym so)
    finds (Line.ReplyRead w t bytes) e so = so_far ∙ ap hex16_text (sym so)
    finds (Line.ReplyCommit w t bytes) e so = so_far ∙ ap hex16_text (sym so)
    finds (Line.ReplyNone w bytes) e so = so_far ∙ ap hex16_text (sym so)
    finds (Line.Shown w o role) e so = so_far ∙ ap hex16_text (sym so)
    finds (Line.Denied w o permission) e so = so_far ∙ ap hex16_text (sym so)
    finds Line.Stop e so = so_far ∙ ap hex16_text (sym so)
    finds (Line.Lost w) e so = so_far ∙ ap hex16_text (sym so)
    finds Line.OpenFault e so = so_far ∙ ap hex16_text (sym so)
    finds (Line.Restart t n) e so = so_far ∙ ap hex16_text (sym so)
    finds (Line.History n) e so = so_far ∙ ap hex16_text (sym so)
    finds (Line.Floor t) e so = so_far ∙ ap hex16_text (sym so)
    finds (Line.Transaction t user description extension n) e so = absurd (none_some (hex16_text t) e)
    finds (Line.RecordRow o v) e so = so_far ∙ ap hex16_text (sym so)
    finds (Line.Packed t n) e so = so_far ∙ ap hex16_text (sym so)
    finds Line.PackBusy e so = so_far ∙ ap hex16_text (sym so)
    finds (Line.PackUnreadable o) e so = so_far ∙ ap hex16_text (sym so)
    finds (Line.PackFull need limit) e so = so_far ∙ ap hex16_text (sym so)
    finds Line.PackMemory e so = so_far ∙ ap hex16_text (sym so)
    finds Line.PackFault e so = so_far ∙ ap hex16_text (sym so)
    finds Line.End e so = so_far ∙ ap hex16_text (sym so)

-- what was found in a row, or else before it
pub later_is : {X : Type 0} (now : X → List ℕ) (found : Option X) (last result : List ℕ) (done : List Line) (line : Line) → MatchOption found (result ≡ last) (λ x. result ≡ now x) → option_map now found ≡ tid_text line → last ≡ hex16_text (last_tid done) → result ≡ hex16_text (last_tid (done ++ line ∷ []))
later_is now None last result done line is named so_far = is ∙ told_none last done line named so_far
later_is now (Some x) last result done line is named so_far = is ∙ told_last last (now x) done line named

-- nothing was found before
pub zeros : hex16_text 0 ≡ codes "0000000000000000"
unfolding hex16_text hex_digits
zeros = refl

pub no_length : (xs : List ℕ) → length xs ≡ 0 → xs ≡ []
no_length [] e = refl
no_length (x ∷ xs) e = absurd (omega (arith, e))
