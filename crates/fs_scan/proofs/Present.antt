-- What is read of a record where it stands, and the records to which it points back.
use Rattle.std.proofs.Common.{◌≡◌, ◌≢◌, ℕ, zero, suc, get_or, filter, ◌+◌, ◌-◌, ◌<◌, ◌≤◌, ◌^◌, Bool, true, false, cond, eqb, IfSome, ◌||◌, List, [], ◌∷◌, ◌++◌, length, take, drop, Option, Some, None, refl, sym, ap, subst, ◌∙◌, append_assoc, arith, inl, inr}
use Rattle.std.specs.Prelude.{◌⊎◌, ◌&&◌, if◌then◌else◌, nat_lt}
use Rattle.std.specs.Option.{ForSome, is_some}
use Rattle.zdisk.specs.Disk.{Told, bytes_at, content}
use Rattle.std.specs.List.{list_any}
use Rattle.std.proofs.lemmas.List.Filters.{length-filter_more}
use Rattle.zbase.specs.declared.ids.Row.{Row}
use Rattle.std.proofs.lemmas.List.{length-append, length-drop, length-map, drop_at, drop-append-le, take-append-drop, take_all}
use Rattle.std.proofs.lemmas.Bool.{eq-eqb, ne_eqb, false≢true, lt-ltb}
use Rattle.zbase.specs.Numbers.{be64, be16}
use Rattle.zbase.specs.NumberLaws.{length-be64, length-be16, same_be64}
use Rattle.fs_record.specs.declared.heads.DataHead.{DataHead}
use Rattle.fs_record.specs.declared.body.Body.{Body}
use Rattle.fs_record.specs.declared.body.Body.TheVariants.{Full, Back}
use Rattle.fs_record.specs.Spelling.{data_head, head_of, Data, data_spelling, body_length, body_spelling}
use Rattle.fs_record.specs.SpellingLaws.{same_data_head, long_data, length-data_head}
use Rattle.fs_record.specs.Fits.{FitsDataHead, FitsBody, FitsData}
use Rattle.fs_record.specs.File.{Earlier, rows, is_row, is_right_body, value_at, value_of}
use Rattle.fs_record.specs.Standing.{IsBefore, IsPlace}
use Rattle.fs_index.specs.Places.{Slots, place_of}
use Rattle.fs_record.specs.Reading.{u64_read}
use Rattle.fs_scan.specs.Keeping.{row_on, rows_on}
use Rattle.fs_scan.specs.Newest.{place_in}
use Rattle.fs_scan.specs.Present.{AllStand, back_in, is_present, means_value}
use Rattle.fs_scan.proofs.KeptPlaces.{id_there}

-- ---- one record

pub too_short : (bytes : List ℕ) (d : Data) (more : List ℕ) → FitsData d → bytes ≡ data_spelling d ++ more → length bytes < 43 → ⊥
too_short bytes d more fits e short = omega (arith, ap length e, length-append (data_spelling d) more, long_data d fits.body)

pub head_is : (bytes : List ℕ) (h : DataHead) (d : Data) (more : List ℕ) → bytes ≡ data_head h ++ drop 42 bytes → FitsDataHead h → FitsData d → bytes ≡ data_spelling d ++ more → (h ≡ head_of d) × (drop 42 bytes ≡ body_spelling d.body ++ more)
unfolding data_spelling
head_is bytes h d more read fits fits_data e = same_data_head h (head_of d) (drop 42 bytes) (body_spelling d.body ++ more) fits fits_data.head (sym read ∙ e ∙ append_assoc (data_head (head_of d)) (body_spelling d.body) more)

-- ---- its length and its back pointer alone

-- what stands in front of the length
before_length : DataHead → List ℕ
before_length h = be64 h.oid ++ be64 h.tid ++ be64 h.prev ++ be64 h.start ++ be16 h.version

length-before_length : (h : DataHead) → length (before_length h) ≡ 34
unfolding before_length
length-before_length h = simp (length-append, length-be64, length-be16)

regroup : (front long body more : List ℕ) → ((front ++ long) ++ body) ++ more ≡ front ++ (long ++ (body ++ more))
regroup front long body more = simp append_assoc

length_stands : (d : Data) (more : List ℕ) → drop 34 (data_spelling d ++ more) ≡ be64 (body_length d.body) ++ (body_spelling d.body ++ more)
unfolding data_spelling data_head before_length
length_stands d more =
    let front = before_length (head_of d) in
    let long = be64 (body_length d.body) in
    let body = body_spelling d.body in
    ap (drop 34) (regroup front long body more) ∙ drop_at front (long ++ (body ++ more)) 34 (length-before_length (head_of d))

-- the length that is read, and what stands behind it
length_is : (bytes : List ℕ) (long : ℕ) (d : Data) (more : List ℕ) → drop 34 bytes ≡ be64 long ++ drop 42 bytes → long < 2 ^ 64 → FitsData d → bytes ≡ data_spelling d ++ more → (long ≡ body_length d.body) × (drop 42 bytes ≡ body_spelling d.body ++ more)
length_is bytes long d more read lt fits e =
    same_be64 long (body_length d.body) (drop 42 bytes) (body_spelling d.body ++ more) lt fits.head.length (sym read ∙ ap (drop 34) e ∙ length_stands d more)

full : (body : Body) → body_length body ≢ 0 → None ≡ back_in body
full (Full bytes) long = refl
full (Back place) long = absurd (long refl)

pub has_data : (bytes : List ℕ) (long : ℕ) (d : Data) (more : List ℕ) → drop 34 bytes ≡ be64 long ++ drop 42 bytes → long < 2 ^ 64 → FitsData d → bytes ≡ data_spelling d ++ more → long ≢ 0 → None ≡ back_in d.body
has_data bytes long d more read lt fits e some = full d.body (λ none. some ((length_is bytes long d more read lt fits e).0 ∙ none))

short_body : (h : DataHead) (body : Body) (bytes more : List ℕ) → bytes ≡ (data_head h ++ body_spelling body) ++ more → length bytes < 50 → None ≡ back_in body
short_body h (Full written) bytes more e short = refl
short_body h (Back place) bytes more e short = absurd (omega (arith, ap length e, length-append (data_head h ++ be64 place) more, length-append (data_head h) (be64 place), length-data_head h, length-be64 place))

pub no_room : (bytes : List ℕ) (d : Data) (more : List ℕ) → bytes ≡ data_spelling d ++ more → length bytes < 50 → None ≡ back_in d.body
unfolding data_spelling
no_room bytes d more e short = short_body (head_of d) d.body bytes more e short

body_back : (body : Body) (place : ℕ) (behind rest more : List ℕ) → FitsBody body → body_length body ≡ 0 → behind ≡ body_spelling body ++ more → behind ≡ be64 place ++ rest → place < 2 ^ 64 → Some place ≡ back_in body
body_back (Full bytes) place behind rest more fits none e read lt = absurd (omega arith)
body_back (Back at) place behind rest more fits none e read lt = ap Some (same_be64 place at rest more lt fits (sym read ∙ e)).0

pub points_back : (bytes : List ℕ) (long : ℕ) (d : Data) (more : List ℕ) (place : ℕ) → drop 34 bytes ≡ be64 long ++ drop 42 bytes → long < 2 ^ 64 → FitsData d → bytes ≡ data_spelling d ++ more → long ≡ 0 → drop 42 bytes ≡ be64 place ++ drop 50 bytes → place < 2 ^ 64 → Some place ≡ back_in d.body
points_back bytes long d more place read long_fits fits e none there lt =
    let r = length_is bytes long d more read long_fits fits e in
    body_back d.body place (drop 42 bytes) (drop 50 bytes) more fits.body (sym r.0 ∙ none) r.1 there lt

-- ---- the same, where a disk tells, by so many bytes at the record's front

-- what is said of the back pointer that was found there
abbrev pub PointsTo : Option Told → ℕ → Option ℕ → Type 0
PointsTo disk at back = IfSome disk (λ told. (d : Data) (more : List ℕ) → FitsData d → drop at (content told) ≡ data_spelling d ++ more → back ≡ back_in d.body)

pub short_at : (disk : Option Told) (len at left : ℕ) → ForSome disk (λ told. len ≡ length (content told)) → left ≡ len - at → left < 50 → PointsTo disk at None
short_at None len at left whole is few = tt
short_at (Some told) len at left whole is few = λ d more fits e. no_room (drop at (content told)) d more e (omega (arith, length-drop at (content told), whole told refl, is, few))

-- a number in the front stands in the whole
in_whole : (n m long : ℕ) (front rest : List ℕ) → length front ≡ 50 → n ≤ 50 → m ≤ 50 → front ≡ take 50 rest → drop n front ≡ be64 long ++ drop m front → drop n rest ≡ be64 long ++ drop m rest
in_whole n m long front rest size le lem is read =
    let whole : rest ≡ front ++ drop 50 rest = sym (take-append-drop 50 rest) ∙ ap (λ (x : List ℕ). x ++ drop 50 rest) (sym is) in
    let behind : drop m front ++ drop 50 rest ≡ drop m rest = sym (drop-append-le m front (drop 50 rest) (omega (arith, size, lem))) ∙ ap (drop m) (sym whole) in
    ap (drop n) whole
    ∙ drop-append-le n front (drop 50 rest) (omega (arith, size, le))
    ∙ ap (λ (x : List ℕ). x ++ drop 50 rest) read
    ∙ append_assoc (be64 long) (drop m front) (drop 50 rest)
    ∙ ap (λ (x : List ℕ). be64 long ++ x) behind

pub full_at : (disk : Option Told) (at long : ℕ) (front : List ℕ) → length front ≡ 50 → IfSome disk (λ told. front ≡ bytes_at told at (length front)) → drop 34 front ≡ be64 long ++ drop 42 front → long < 2 ^ 64 → long ≢ 0 → PointsTo disk at None
full_at None at long front size is read lt some = tt
full_at (Some told) at long front size is read lt some = λ d more fits e.
    has_data (drop at (content told)) long d more (in_whole 34 42 long front (drop at (content told)) size (omega arith) (omega arith) (is ∙ ap (λ (n : ℕ). take n (drop at (content told))) size) read) lt fits e some

pub back_there : (disk : Option Told) (at long place : ℕ) (front : List ℕ) → length front ≡ 50 → IfSome disk (λ told. front ≡ bytes_at told at (length front)) → drop 34 front ≡ be64 long ++ drop 42 front → long < 2 ^ 64 → long ≡ 0 → drop 42 front ≡ be64 place ++ drop 50 front → place < 2 ^ 64 → PointsTo disk at (Some place)
back_there None at long place front size is read lt none there fits_place = tt
back_there (Some told) at long place front size is read lt none there fits_place = λ d more fits e.
    let rest = drop at (content told) in
    let taken = is ∙ ap (λ (n : ℕ). take n rest) size in
    points_back rest long d more place (in_whole 34 42 long front rest size (omega arith) (omega arith) taken read) lt fits e none (in_whole 42 50 place front rest size (omega arith) (omega arith) taken there) fits_place

-- ---- the way back

abbrev pub Leads : List Earlier → ℕ → ℕ → Option ℕ → Type 0
Leads records oid at None = means_value records at ≡ true
Leads records oid at (Some back) = (back < at) × (back ≡ 0 → means_value records at ≡ false) × (back ≢ 0 → IsPlace records oid back × (value_at back records ≡ value_at at records))

meant : (records : List Earlier) (oid at back : ℕ) (zero : Bool) → eqb back 0 ≡ zero → value_at at records ≡ cond zero None (value_at back records) → (zero || list_any (is_row oid back) (rows records)) ≡ true → (back ≡ 0 → means_value records at ≡ false) × (back ≢ 0 → IsPlace records oid back × (value_at back records ≡ value_at at records))
meant records oid at back true is has right = (λ none. ap is_some has, λ some. absurd (false≢true (sym (ne_eqb back 0 some) ∙ is)))
meant records oid at back false is has right = (λ none. absurd (false≢true (sym is ∙ eq-eqb back 0 none)), λ some. (right, sym has))

body_leads : (records : List Earlier) (oid at : ℕ) (body : Body) → value_at at records ≡ value_of records body → is_right_body (rows records) oid body ≡ true → IsBefore at body → Leads records oid at (back_in body)
body_leads records oid at (Full bytes) has right before = ap is_some has
body_leads records oid at (Back back) has right before =
    let m = meant records oid at back _ refl has right in
    (before, m.0, m.1)

-- what a record is found to point back to leads on
pub leads : (bytes rest : List ℕ) (records : List Earlier) (oid at : ℕ) (o : Option ℕ) → rest ≡ drop at bytes → ((d : Data) (more : List ℕ) → FitsData d → rest ≡ data_spelling d ++ more → o ≡ back_in d.body) → AllStand bytes records → IsPlace records oid at → Leads records oid at o
leads bytes rest records oid at o e says all is =
    let found = all oid at is in
    let s = found.1.stands in
    subst (Leads records oid at) (sym (says s.written s.behind s.fits (e ∙ s.spelled)))
    (body_leads records oid at s.written.body (found.1.value ∙ s.value) (subst (λ (o : ℕ). is_right_body (rows records) o s.written.body ≡ true) found.1.object s.right) s.before)

-- ---- the way back, where a disk tells

-- the record that was come to is the object's, and means what the first one means
abbrev pub Came : Option Told → ℕ → ℕ → Type 0
Came disk place at = IfSome disk (λ told. (records : List Earlier) (oid : ℕ) → AllStand (content told) records → IsPlace records oid place → IsPlace records oid at × (value_at at records ≡ value_at place records))

-- what is said of whether it means a value
abbrev pub HasValue : Option Told → ℕ → Bool → Type 0
HasValue disk place has = IfSome disk (λ told. (records : List Earlier) (oid : ℕ) → AllStand (content told) records → IsPlace records oid place → has ≡ means_value records place)

pub came_first : (disk : Option Told) (place : ℕ) → Came disk place place
came_first None place = tt
came_first (Some told) place = λ records oid all is. (is, refl)

on_way : (told : Told) (given : Option Told) (at : ℕ) (back : Option ℕ) (records : List Earlier) (oid : ℕ) → given ≡ Some told → PointsTo given at back → AllStand (content told) records → IsPlace records oid at → Leads records oid at back
on_way told given at back records oid same points all is = leads (content told) (drop at (content told)) records oid at back refl (subst (λ (g : Option Told). PointsTo g at back) same points) all is

pub has_one : (disk given : Option Told) (place at : ℕ) → given ≡ disk → Came disk place at → PointsTo given at None → HasValue disk place true
has_one None given place at same came points = tt
has_one (Some told) given place at same came points = λ records oid all is.
    let here = came records oid all is in
    sym (on_way told given at None records oid same points all here.0) ∙ ap is_some here.1

pub has_none : (disk given : Option Told) (place at back : ℕ) → given ≡ disk → Came disk place at → PointsTo given at (Some back) → (back ≡ 0) ⊎ (at ≤ back) → HasValue disk place false
has_none None given place at back same came points ends = tt
has_none (Some told) given place at back same came points ends = λ records oid all is.
    let here = came records oid all is in
    let way = on_way told given at (Some back) records oid same points all here.0 in
    elim ends [
      | inl none ↦ sym (way.1 none) ∙ ap is_some here.1
      | inr behind ↦ absurd (omega (arith, way.0, behind))
    ]

pub came_on : (disk given : Option Told) (place at back : ℕ) → given ≡ disk → Came disk place at → PointsTo given at (Some back) → back ≢ 0 → Came disk place back
came_on None given place at back same came points some = tt
came_on (Some told) given place at back same came points some = λ records oid all is.
    let here = came records oid all is in
    let way = (on_way told given at (Some back) records oid same points all here.0).2 some in
    (way.0, way.1 ∙ here.1)

-- ---- whether a record is its object's last one and means a value

abbrev pub Says : Option Told → Slots → ℕ → Bool → Type 0
Says disk newest place answer = IfSome disk (λ told. (records : List Earlier) → AllStand (content told) records → IsPlace records (row_on (content told) place).oid place → answer ≡ is_present records newest (row_on (content told) place))

-- the id that was read there
abbrev pub HasId : Option Told → ℕ → ℕ → Type 0
HasId disk place id = IfSome disk (λ told. id ≡ u64_read place (content told))

pub id_told : (disk : Option Told) (place id : ℕ) → IfSome disk (λ told. drop place (content told) ≡ be64 id ++ drop (place + 8) (content told)) → id < 2 ^ 64 → HasId disk place id
id_told None place id is lt = tt
id_told (Some told) place id is lt = sym (id_there (content told) (drop (place + 8) (content told)) id place lt is)

pub not_there : (disk : Option Told) (len place left : ℕ) (newest : Slots) → ForSome disk (λ told. len ≡ length (content told)) → left ≡ len - place → left < 8 → Says disk newest place false
not_there None len place left newest whole is few = tt
not_there (Some told) len place left newest whole is few = λ records all at.
    let s = (all (row_on (content told) place).oid place at).1.stands in
    absurd (too_short (drop place (content told)) s.written s.behind s.fits s.spelled (omega (arith, length-drop place (content told), whole told refl, is, few)))

pub not_last : (disk : Option Told) (newest : Slots) (place id : ℕ) → HasId disk place id → (place_in (place_of newest id) ≡ place → ⊥) → Says disk newest place false
not_last None newest place id has other = tt
not_last (Some told) newest place id has other = λ records all at.
    sym (ap (λ (b : Bool). b && means_value records place) (ap (λ (n : ℕ). eqb (place_in (place_of newest n)) place) (sym has) ∙ ne_eqb (place_in (place_of newest id)) place other))

pub last_has : (disk given : Option Told) (newest : Slots) (place id : ℕ) (answer : Bool) → given ≡ disk → HasId disk place id → place_in (place_of newest id) ≡ place → HasValue given place answer → Says disk newest place answer
last_has None given newest place id answer same has is value = tt
last_has (Some told) given newest place id answer same has is value = λ records all at.
    subst (λ (g : Option Told). HasValue g place answer) same value records (row_on (content told) place).oid all at
    ∙ sym (ap (λ (b : Bool). b && means_value records place) (ap (λ (n : ℕ). eqb (place_in (place_of newest n)) place) (sym has) ∙ eq-eqb (place_in (place_of newest id)) place is))

pub last_full : (disk given : Option Told) (newest : Slots) (place id : ℕ) → given ≡ disk → HasId disk place id → place_in (place_of newest id) ≡ place → PointsTo given place None → Says disk newest place true
last_full disk given newest place id same has is points = last_has disk disk newest place id true refl has is (has_one disk given place place same (came_first disk place) points)

-- ---- counting

row_at : (bytes ps : List ℕ) (i : ℕ) (d : Row) → i < length ps → get_or (rows_on bytes ps) i d ≡ row_on bytes (get_or ps i 0)
row_at bytes [] i d lt = absurd (omega (arith, lt))
row_at bytes (p ∷ ps) zero d lt = refl
row_at bytes (p ∷ ps) (suc i) d lt = row_at bytes ps i d (omega (arith, lt))

or_true : (a b : Bool) → b ≡ true → (a || b) ≡ true
or_true true b e = refl
or_true false b e = e

any_at : (all : List Row) (i : ℕ) (d : Row) → i < length all → list_any (is_row (get_or all i d).oid (get_or all i d).place) all ≡ true
any_at [] i d lt = absurd (omega (arith, lt))
any_at (row ∷ all) zero d lt = rw (eq-eqb row.oid row.oid refl, eq-eqb row.place row.place refl) refl
any_at (row ∷ all) (suc i) d lt = or_true (is_row (get_or all i d).oid (get_or all i d).place row) _ (any_at all i d (omega (arith, lt)))

-- so many of the first records are present, where a disk tells
abbrev pub Counted : Option Told → List ℕ → Slots → ℕ → ℕ → Type 0
Counted disk places newest i count = IfSome disk (λ told. (records : List Earlier) → AllStand (content told) records → rows records ≡ rows_on (content told) places → count ≡ length (filter (is_present records newest) (take i (rows records))))

pub count_none : (disk : Option Told) (places : List ℕ) (newest : Slots) → Counted disk places newest 0 0
count_none None places newest = tt
count_none (Some told) places newest = λ records all is. refl

one_told : (bytes places : List ℕ) (newest : Slots) (i count next place : ℕ) (has : Bool) (records : List Earlier) → place ≡ get_or places i 0 → i < length places → AllStand bytes records → rows records ≡ rows_on bytes places
    → (IsPlace records (row_on bytes place).oid place → has ≡ is_present records newest (row_on bytes place)) → next ≡ count + cond has 1 0 → count ≡ length (filter (is_present records newest) (take i (rows records))) → next ≡ length (filter (is_present records newest) (take (i + 1) (rows records)))
one_told bytes places newest i count next place has records is lt all same says put counted =
    let d = row_on bytes 0 in
    let long : i < length (rows records) = omega (arith, lt, ap length same, length-map places (row_on bytes)) in
    let row : get_or (rows records) i d ≡ row_on bytes place = ap (λ (rs : List Row). get_or rs i d) same ∙ row_at bytes places i d lt ∙ ap (row_on bytes) (sym is) in
    let there : IsPlace records (row_on bytes place).oid place = subst (λ (r : Row). IsPlace records r.oid r.place) row (any_at (rows records) i d long) in
    put ∙ ap (λ (n : ℕ). n + cond has 1 0) counted
    ∙ ap (λ (b : Bool). length (filter (is_present records newest) (take i (rows records))) + cond b 1 0) (says there ∙ ap (is_present records newest) (sym row))
    ∙ sym (length-filter_more (is_present records newest) (rows records) i d long)

pub count_one : (disk given : Option Told) (places : List ℕ) (newest : Slots) (i count next place : ℕ) (has : Bool) → given ≡ disk → place ≡ get_or places i 0 → i < length places → Says given newest place has → next ≡ count + cond has 1 0 → Counted disk places newest i count → Counted disk places newest (i + 1) next
count_one None given places newest i count next place has same is lt says put counted = tt
count_one (Some told) given places newest i count next place has same is lt says put counted = λ records all rows_are.
    one_told (content told) places newest i count next place has records is lt all rows_are (subst (λ (g : Option Told). Says g newest place has) same says records all) put (counted records all rows_are)

pub count_all : (disk : Option Told) (places : List ℕ) (newest : Slots) (i count : ℕ) → length places ≤ i → Counted disk places newest i count
    → IfSome disk (λ told. (records : List Earlier) → AllStand (content told) records → rows records ≡ rows_on (content told) places → count ≡ length (filter (is_present records newest) (rows records)))
count_all None places newest i count le counted = tt
count_all (Some told) places newest i count le counted = λ records all is.
    counted records all is ∙ ap (λ (rs : List Row). length (filter (is_present records newest) rs)) (take_all i (rows records) (omega (arith, le, ap length is, length-map places (row_on (content told)))))

pub no_place : (ps : List ℕ) (i : ℕ) (r : Option ℕ) → r ≡ (if nat_lt i (length ps) then Some (get_or ps i 0) else None) → r ≡ None → i < length ps → ⊥
no_place ps i r is none lt = never (get_or ps i 0) (ap (λ (t : Bool). cond t (Some (get_or ps i 0)) None) (sym (lt-ltb i (length ps) lt)) ∙ sym is ∙ none)
  where
    never : (a : ℕ) → Some a ≡ None → ⊥
    never a e = cc

pub place_is : (ps : List ℕ) (i place : ℕ) (r : Option ℕ) → r ≡ (if nat_lt i (length ps) then Some (get_or ps i 0) else None) → r ≡ Some place → i < length ps → place ≡ get_or ps i 0
place_is ps i place r is some lt = one place (get_or ps i 0) (sym some ∙ is ∙ ap (λ (t : Bool). cond t (Some (get_or ps i 0)) None) (lt-ltb i (length ps) lt))
  where
    one : (a b : ℕ) → Some a ≡ Some b → a ≡ b
    one a b e = cc

pub few_more : (has : Bool) (count next i : ℕ) → next ≡ count + cond has 1 0 → count ≤ i → next ≤ i + 1
few_more true count next i e le = omega arith
few_more false count next i e le = omega arith
