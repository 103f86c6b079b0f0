-- Each line is its row, a line feed and its bytes; the row of a tidy line has no line feed, and its word no space.
use Rattle.std.proofs.Common.{◌≡◌, ◌≢◌, ℕ, zero, suc, ◌<◌, ◌/◌, ◌%◌, ◌==◌, ◌||◌, Bool, true, false, List, [], ◌∷◌, ◌++◌, Some, None, length, flat_map, slice_get, true≢false, refl, sym, ap, ◌∙◌, append_assoc, arith}
use Rattle.std.specs.Prelude.{codes, decimal, if◌then◌else◌}
use Rattle.std.specs.Fmt.{digit_glyph, digits, digits_onto}
use Rattle.std.specs.List.{AllByRecursion, list_any}
use Rattle.std.proofs.lemmas.Bool.Decides.{nat_tests}
use Rattle.zbase.specs.Hex.{hex16_text, hex_bytes, hex_digit, hex_digits}
use Rattle.zbase.specs.History.{Value}
use Rattle.zbase.specs.declared.ids.Clash.{Clash}
use Rattle.evaluator.specs.declared.ask.Ask.{Ask}
use Rattle.evaluator.specs.Permissions.{permission_names, permission_text, text_or_none}
use Rattle.schedule.specs.declared.line.Line.{Line}
use Rattle.schedule.specs.Lines.{ask_fields, clash_fields, line_text, text_field, value_field}
use Rattle.schedule.specs.Rows.{Lacks, block, rest_of_row, row}
use Rattle.report_tally.specs.Heads.{bytes_of, fields_of, fields_text, head_of, word_of}
use Rattle.report_tally.specs.Tidy.{IsTidy}

-- ---- the parts of a line

rest_is : (fields : List (List ℕ)) → rest_of_row fields ≡ fields_text fields ++ 10 ∷ []
rest_is [] = refl
rest_is (f ∷ fs) = ap (λ xs. 32 ∷ f ++ xs) (rest_is fs) ∙ ap (λ xs. 32 ∷ xs) (sym (append_assoc f (fields_text fs) (10 ∷ [])))

row_is : (word : List ℕ) (fields : List (List ℕ)) → row word fields ≡ (word ++ fields_text fields) ++ 10 ∷ []
row_is word fields = ap (λ xs. word ++ xs) (rest_is fields) ∙ sym (append_assoc word (fields_text fields) (10 ∷ []))

block_is : (word : List ℕ) (fields : List (List ℕ)) (bytes : List ℕ) → block (row word fields) bytes ≡ (word ++ fields_text fields) ++ 10 ∷ (bytes ++ 10 ∷ [])
block_is word fields bytes =
    append_assoc (row word fields) bytes (10 ∷ [])
    ∙ ap (λ xs. xs ++ (bytes ++ 10 ∷ [])) (row_is word fields)
    ∙ append_assoc (word ++ fields_text fields) (10 ∷ []) (bytes ++ 10 ∷ [])

pub line_is : (line : Line) → line_text line ≡ head_of line ++ 10 ∷ bytes_of line
unfolding line_text
line_is Line.Head = row_is (codes "zope") (codes "report" ∷ codes "1" ∷ [])
line_is (Line.Opened t n) = row_is (codes "open") (hex16_text t ∷ decimal n ∷ [])
line_is (Line.Begin w t) = row_is (codes "begin") (decimal w ∷ hex16_text t ∷ [])
line_is (Line.Fetch w ask) = row_is (codes "fetch") (decimal w ∷ ask_fields ask)
line_is (Line.Computed w) = row_is (codes "computed") (decimal w ∷ [])
line_is (Line.Busy w v) = row_is (codes "busy") (decimal w ∷ decimal v ∷ [])
line_is (Line.Vote w t) = row_is (codes "vote") (decimal w ∷ hex16_text t ∷ [])
line_is (Line.Conflict w c) = row_is (codes "conflict") (decimal w ∷ clash_fields c)
line_is (Line.GivenUp w cs) = row_is (codes "givenup") (decimal w ∷ flat_map clash_fields cs)
line_is (Line.Idle w) = row_is (codes "idle") (decimal w ∷ [])
line_is (Line.SpentTids w) = row_is (codes "spent") (decimal w ∷ codes "tids" ∷ [])
line_is (Line.SpentOids w o n) = row_is (codes "spent") (decimal w ∷ codes "oids" ∷ hex16_text o ∷ decimal n ∷ [])
line_is (Line.SpentFull w need limit) = row_is (codes "spent") (decimal w ∷ codes "full" ∷ decimal need ∷ decimal limit ∷ [])
line_is (Line.DiskFault w) = row_is (codes "diskfault") (decimal w ∷ [])
line_is (Line.Memory w) = row_is (codes "memory") (decimal w ∷ [])
line_is (Line.Unknown w t) = row_is (codes "unknown") (decimal w ∷ hex16_text t ∷ [])
line_is (Line.ReplyRead w t bytes) = block_is (codes "reply") (decimal w ∷ codes "read" ∷ hex16_text t ∷ decimal (length bytes) ∷ []) bytes
line_is (Line.ReplyCommit w t bytes) = block_is (codes "reply") (decimal w ∷ codes "commit" ∷ hex16_text t ∷ decimal (length bytes) ∷ []) bytes
line_is (Line.ReplyNone w bytes) = block_is (codes "reply") (decimal w ∷ codes "none" ∷ decimal (length bytes) ∷ []) bytes
line_is (Line.Shown w o role) = row_is (codes "shown") (decimal w ∷ hex16_text o ∷ role ∷ [])
line_is (Line.Denied w o permission) = row_is (codes "denied") (decimal w ∷ hex16_text o ∷ permission_text permission ∷ [])
line_is Line.Stop = row_is (codes "stop") []
line_is (Line.Lost w) = row_is (codes "lost") (decimal w ∷ [])
line_is Line.OpenFault = row_is (codes "openfault") []
line_is (Line.Restart t n) = row_is (codes "restart") (hex16_text t ∷ decimal n ∷ [])
line_is (Line.History n) = row_is (codes "history") (decimal n ∷ [])
line_is (Line.Floor t) = row_is (codes "floor") (hex16_text t ∷ [])
line_is (Line.Transaction t user description extension n) = row_is (codes "transaction") (hex16_text t ∷ text_field user ∷ text_field description ∷ text_field extension ∷ decimal n ∷ [])
line_is (Line.RecordRow o v) = row_is (codes "record") (hex16_text o ∷ value_field v ∷ [])
line_is (Line.Packed t n) = row_is (codes "packed") (hex16_text t ∷ decimal n ∷ [])
line_is Line.PackBusy = row_is (codes "pack") (codes "busy" ∷ [])
line_is (Line.PackUnreadable o) = row_is (codes "pack") (codes "unreadable" ∷ hex16_text o ∷ [])
line_is (Line.PackFull need limit) = row_is (codes "pack") (codes "full" ∷ decimal need ∷ decimal limit ∷ [])
line_is Line.PackMemory = row_is (codes "pack") (codes "memory" ∷ [])
line_is Line.PackFault = row_is (codes "packfault") []
line_is Line.End = row_is (codes "end") []

-- ---- texts without a byte

neither : (a b : Bool) → (a || b) ≡ false → (a ≡ false) × (b ≡ false)
neither true b e = absurd (true≢false e)
neither false b e = (refl, e)

differs : (a b : ℕ) → (a == b) ≡ false → a ≢ b
differs a b e same = grind (arith, nat_tests)

lacks_by : (byte : ℕ) (xs : List ℕ) → list_any (λ b. b == byte) xs ≡ false → Lacks byte xs
lacks_by byte [] none = tt
lacks_by byte (x ∷ xs) none = (let both = neither (x == byte) (list_any (λ b. b == byte) xs) none in (differs x byte both.0, lacks_by byte xs both.1))

pub lacks_append : (byte : ℕ) (xs ys : List ℕ) → Lacks byte xs → Lacks byte ys → Lacks byte (xs ++ ys)
lacks_append byte [] ys p q = q
lacks_append byte (x ∷ xs) ys p q = (p.0, lacks_append byte xs ys p.1 q)

hex_digit_is_none : (byte d : ℕ) → byte < 48 → hex_digit d ≢ byte
hex_digit_is_none byte d small e = grind (arith, nat_tests)

hex_lacks : (byte k n : ℕ) → byte < 48 → Lacks byte (hex_digits k n)
unfolding hex_digits
hex_lacks byte zero n small = tt
hex_lacks byte (suc k) n small = lacks_append byte (hex_digits k (n / 16)) (hex_digit (n % 16) ∷ []) (hex_lacks byte k (n / 16) small) (hex_digit_is_none byte (n % 16) small, tt)

-- an id
pub id_lacks : (byte n : ℕ) → byte < 48 → Lacks byte (hex16_text n)
unfolding hex16_text
id_lacks byte n small = hex_lacks byte 16 n small

glyph_is_none : (byte n : ℕ) → byte < 48 → digit_glyph false (n % 10) ≢ byte
glyph_is_none byte n small e = (let f : n % 10 < 10 = omega arith in grind (arith, nat_tests))

either : (byte : ℕ) (b : Bool) (xs ys : List ℕ) → Lacks byte xs → Lacks byte ys → Lacks byte (if b then xs else ys)
either byte true xs ys p q = p
either byte false xs ys p q = q

digits_lack : (byte k n : ℕ) (more : List ℕ) → byte < 48 → Lacks byte more → Lacks byte (digits_onto k 10 false n more)
digits_lack byte zero n more small p = p
digits_lack byte (suc k) n more small p =
    let one : Lacks byte (digit_glyph false (n % 10) ∷ more) = (glyph_is_none byte n small, p) in
    either byte (n / 10 == 0) (digit_glyph false (n % 10) ∷ more) (digits_onto k 10 false (n / 10) (digit_glyph false (n % 10) ∷ more)) one
    (digits_lack byte k (n / 10) (digit_glyph false (n % 10) ∷ more) small one)

-- a number
pub number_lacks : (byte n : ℕ) → byte < 48 → Lacks byte (decimal n)
unfolding digits
number_lacks byte n small = digits_lack byte 64 n [] small tt

-- bytes in digits
bytes_lack : (bytes : List ℕ) → Lacks 10 (hex_bytes bytes)
bytes_lack [] = tt
bytes_lack (b ∷ bytes) = (hex_digit_is_none 10 (b / 16) (omega arith), (hex_digit_is_none 10 (b % 16) (omega arith), bytes_lack bytes))

text_lacks : (text : List ℕ) → Lacks 10 (text_field text)
text_lacks [] = lacks_by 10 (codes "-") refl
text_lacks (b ∷ bytes) = bytes_lack (b ∷ bytes)

value_lacks : (v : Value) → Lacks 10 (value_field v)
value_lacks None = lacks_by 10 (codes "none") refl
value_lacks (Some bytes) = bytes_lack bytes

names_lack : (names : List (List ℕ)) (n : ℕ) → AllByRecursion (Lacks 10) names → Lacks 10 (text_or_none (slice_get names n))
names_lack [] n all = tt
names_lack (name ∷ names) zero all = all.0
names_lack (name ∷ names) (suc n) all = names_lack names n all.1

all_lack : (names : List (List ℕ)) → list_any (λ name. list_any (λ b. b == 10) name) names ≡ false → AllByRecursion (Lacks 10) names
all_lack [] none = tt
all_lack (name ∷ names) none =
    let both = neither (list_any (λ b. b == 10) name) (list_any (λ xs. list_any (λ b. b == 10) xs) names) none in
    (lacks_by 10 name both.0, all_lack names both.1)

permission_lacks : (n : ℕ) → Lacks 10 (permission_text n)
unfolding permission_text
permission_lacks n = names_lack ([] ∷ permission_names) n (all_lack ([] ∷ permission_names) refl)

-- ---- the fields of a line

number : (n : ℕ) → Lacks 10 (decimal n)
number n = number_lacks 10 n (omega arith)

id : (n : ℕ) → Lacks 10 (hex16_text n)
id n = id_lacks 10 n (omega arith)

asks_lack : (ask : Ask) → AllByRecursion (Lacks 10) (ask_fields ask)
asks_lack (Ask.Object o) = (lacks_by 10 (codes "object") refl, (id o, tt))
asks_lack (Ask.Transaction t) = (lacks_by 10 (codes "transaction") refl, (id t, tt))
asks_lack Ask.Log = (lacks_by 10 (codes "log") refl, tt)

clashes_lack : (clashes : List Clash) → AllByRecursion (Lacks 10) (flat_map clash_fields clashes)
clashes_lack [] = tt
clashes_lack (c ∷ clashes) = (id c.oid, (id c.seen, (id c.found, clashes_lack clashes)))

fields_lack : (line : Line) → IsTidy line → AllByRecursion (Lacks 10) (fields_of line)
fields_lack Line.Head tidy = (lacks_by 10 (codes "report") refl, (lacks_by 10 (codes "1") refl, tt))
fields_lack (Line.Opened t n) tidy = (id t, (number n, tt))
fields_lack (Line.Begin w t) tidy = (number w, (id t, tt))
fields_lack (Line.Fetch w ask) tidy = (number w, asks_lack ask)
fields_lack (Line.Computed w) tidy = (number w, tt)
fields_lack (Line.Busy w v) tidy = (number w, (number v, tt))
fields_lack (Line.Vote w t) tidy = (number w, (id t, tt))
fields_lack (Line.Conflict w c) tidy = (number w, (id c.oid, (id c.seen, (id c.found, tt))))
fields_lack (Line.GivenUp w cs) tidy = (number w, clashes_lack cs)
fields_lack (Line.Idle w) tidy = (number w, tt)
fields_lack (Line.SpentTids w) tidy = (number w, (lacks_by 10 (codes "tids") refl, tt))
fields_lack (Line.SpentOids w o n) tidy = (number w, (lacks_by 10 (codes "oids") refl, (id o, (number n, tt))))
fields_lack (Line.SpentFull w need limit) tidy = (number w, (lacks_by 10 (codes "full") refl, (number need, (number limit, tt))))
fields_lack (Line.DiskFault w) tidy = (number w, tt)
fields_lack (Line.Memory w) tidy = (number w, tt)
fields_lack (Line.Unknown w t) tidy = (number w, (id t, tt))
fields_lack (Line.ReplyRead w t bytes) tidy = (number w, (lacks_by 10 (codes "read") refl, (id t, (number (length bytes), tt))))
fields_lack (Line.ReplyCommit w t bytes) tidy = (number w, (lacks_by 10 (codes "commit") refl, (id t, (number (length bytes), tt))))
fields_lack (Line.ReplyNone w bytes) tidy = (number w, (lacks_by 10 (codes "none") refl, (number (length bytes), tt)))
fields_lack (Line.Shown w o role) tidy = (number w, (id o, (tidy, tt)))
fields_lack (Line.Denied w o permission) tidy = (number w, (id o, (permission_lacks permission, tt)))
fields_lack Line.Stop tidy = tt
fields_lack (Line.Lost w) tidy = (number w, tt)
fields_lack Line.OpenFault tidy = tt
fields_lack (Line.Restart t n) tidy = (id t, (number n, tt))
fields_lack (Line.History n) tidy = (number n, tt)
fields_lack (Line.Floor t) tidy = (id t, tt)
fields_lack (Line.Transaction t user description extension n) tidy = (id t, (text_lacks user, (text_lacks description, (text_lacks extension, (number n, tt)))))
fields_lack (Line.RecordRow o v) tidy = (id o, (value_lacks v, tt))
fields_lack (Line.Packed t n) tidy = (id t, (number n, tt))
fields_lack Line.PackBusy tidy = (lacks_by 10 (codes "busy") refl, tt)
fields_lack (Line.PackUnreadable o) tidy = (lacks_by 10 (codes "unreadable") refl, (id o, tt))
fields_lack (Line.PackFull need limit) tidy = (lacks_by 10 (codes "full") refl, (number need, (number limit, tt)))
fields_lack Line.PackMemory tidy = (lacks_by 10 (codes "memory") refl, tt)
fields_lack Line.PackFault tidy = tt
fields_lack Line.End tidy = tt

fields_text_lacks : (fields : List (List ℕ)) → AllByRecursion (Lacks 10) fields → Lacks 10 (fields_text fields)
fields_text_lacks [] all = tt
fields_text_lacks (f ∷ fs) all = ((λ (e : 32 ≡ 10). absurd (omega (arith, e))), lacks_append 10 f (fields_text fs) all.0 (fields_text_lacks fs all.1))

word_lacks : (line : Line) → Lacks 10 (word_of line)
word_lacks Line.Head = lacks_by 10 (codes "zope") refl
word_lacks (Line.Opened t n) = lacks_by 10 (codes "open") refl
word_lacks (Line.Begin w t) = lacks_by 10 (codes "begin") refl
word_lacks (Line.Fetch w ask) = lacks_by 10 (codes "fetch") refl
word_lacks (Line.Computed w) = lacks_by 10 (codes "computed") refl
word_lacks (Line.Busy w v) = lacks_by 10 (codes "busy") refl
word_lacks (Line.Vote w t) = lacks_by 10 (codes "vote") refl
word_lacks (Line.Conflict w c) = lacks_by 10 (codes "conflict") refl
word_lacks (Line.GivenUp w cs) = lacks_by 10 (codes "givenup") refl
word_lacks (Line.Idle w) = lacks_by 10 (codes "idle") refl
word_lacks (Line.SpentTids w) = lacks_by 10 (codes "spent") refl
word_lacks (Line.SpentOids w o n) = lacks_by 10 (codes "spent") refl
word_lacks (Line.SpentFull w need limit) = lacks_by 10 (codes "spent") refl
word_lacks (Line.DiskFault w) = lacks_by 10 (codes "diskfault") refl
word_lacks (Line.Memory w) = lacks_by 10 (codes "memory") refl
word_lacks (Line.Unknown w t) = lacks_by 10 (codes "unknown") refl
word_lacks (Line.ReplyRead w t bytes) = lacks_by 10 (codes "reply") refl
word_lacks (Line.ReplyCommit w t bytes) = lacks_by 10 (codes "reply") refl
word_lacks (Line.ReplyNone w bytes) = lacks_by 10 (codes "reply") refl
word_lacks (Line.Shown w o role) = lacks_by 10 (codes "shown") refl
word_lacks (Line.Denied w o permission) = lacks_by 10 (codes "denied") refl
word_lacks Line.Stop = lacks_by 10 (codes "stop") refl
word_lacks (Line.Lost w) = lacks_by 10 (codes "lost") refl
word_lacks Line.OpenFault = lacks_by 10 (codes "openfault") refl
word_lacks (Line.Restart t n) = lacks_by 10 (codes "restart") refl
word_lacks (Line.History n) = lacks_by 10 (codes "history") refl
word_lacks (Line.Floor t) = lacks_by 10 (codes "floor") refl
word_lacks (Line.Transaction t user description extension n) = lacks_by 10 (codes "transaction") refl
word_lacks (Line.RecordRow o v) = lacks_by 10 (codes "record") refl
word_lacks (Line.Packed t n) = lacks_by 10 (codes "packed") refl
word_lacks Line.PackBusy = lacks_by 10 (codes "pack") refl
word_lacks (Line.PackUnreadable o) = lacks_by 10 (codes "pack") refl
word_lacks (Line.PackFull need limit) = lacks_by 10 (codes "pack") refl
word_lacks Line.PackMemory = lacks_by 10 (codes "pack") refl
word_lacks Line.PackFault = lacks_by 10 (codes "packfault") refl
word_lacks Line.End = lacks_by 10 (codes "end") refl

-- a row has no line feed
pub head_lacks : (line : Line) → IsTidy line → Lacks 10 (head_of line)
head_lacks line tidy = lacks_append 10 (word_of line) (fields_text (fields_of line)) (word_lacks line) (fields_text_lacks (fields_of line) (fields_lack line tidy))

-- and its word no space
pub word_spaceless : (line : Line) → Lacks 32 (word_of line)
word_spaceless Line.Head = lacks_by 32 (codes "zope") refl
word_spaceless (Line.Opened t n) = lacks_by 32 (codes "open") refl
word_spaceless (Line.Begin w t) = lacks_by 32 (codes "begin") refl
word_spaceless (Line.Fetch w ask) = lacks_by 32 (codes "fetch") refl
word_spaceless (Line.Computed w) = lacks_by 32 (codes "computed") refl
word_spaceless (Line.Busy w v) = lacks_by 32 (codes "busy") refl
word_spaceless (Line.Vote w t) = lacks_by 32 (codes "vote") refl
word_spaceless (Line.Conflict w c) = lacks_by 32 (codes "conflict") refl
word_spaceless (Line.GivenUp w cs) = lacks_by 32 (codes "givenup") refl
word_spaceless (Line.Idle w) = lacks_by 32 (codes "idle") refl
word_spaceless (Line.SpentTids w) = lacks_by 32 (codes "spent") refl
word_spaceless (Line.SpentOids w o n) = lacks_by 32 (codes "spent") refl
word_spaceless (Line.SpentFull w need limit) = lacks_by 32 (codes "spent") refl
word_spaceless (Line.DiskFault w) = lacks_by 32 (codes "diskfault") refl
word_spaceless (Line.Memory w) = lacks_by 32 (codes "memory") refl
word_spaceless (Line.Unknown w t) = lacks_by 32 (codes "unknown") refl
word_spaceless (Line.ReplyRead w t bytes) = lacks_by 32 (codes "reply") refl
word_spaceless (Line.ReplyCommit w t bytes) = lacks_by 32 (codes "reply") refl
word_spaceless (Line.ReplyNone w bytes) = lacks_by 32 (codes "reply") refl
word_spaceless (Line.Shown w o role) = lacks_by 32 (codes "shown") refl
word_spaceless (Line.Denied w o permission) = lacks_by 32 (codes "denied") refl
word_spaceless Line.Stop = lacks_by 32 (codes "stop") refl
word_spaceless (Line.Lost w) = lacks_by 32 (codes "lost") refl
word_spaceless Line.OpenFault = lacks_by 32 (codes "openfault") refl
word_spaceless (Line.Restart t n) = lacks_by 32 (codes "restart") refl
word_spaceless (Line.History n) = lacks_by 32 (codes "history") refl
word_spaceless (Line.Floor t) = lacks_by 32 (codes "floor") refl
word_spaceless (Line.Transaction t user description extension n) = lacks_by 32 (codes "transaction") refl
word_spaceless (Line.RecordRow o v) = lacks_by 32 (codes "record") refl
word_spaceless (Line.Packed t n) = lacks_by 32 (codes "packed") refl
word_spaceless Line.PackBusy = lacks_by 32 (codes "pack") refl
word_spaceless (Line.PackUnreadable o) = lacks_by 32 (codes "pack") refl
word_spaceless (Line.PackFull need limit) = lacks_by 32 (codes "pack") refl
word_spaceless Line.PackMemory = lacks_by 32 (codes "pack") refl
word_spaceless Line.PackFault = lacks_by 32 (codes "packfault") refl
word_spaceless Line.End = lacks_by 32 (codes "end") refl
