-- The records of a file's history stand in its bytes, in the history's order.
use Rattle.std.proofs.Common.{◌≡◌, ℕ, ◌+◌, ◌<◌, ◌≤◌, Bool, true, false, cond, ◌&&◌, ◌||◌, eqb, List, [], ◌∷◌, ◌++◌, length, drop, map, flat_map, Option, Some, None, refl, sym, ap, subst, ◌∙◌, append_assoc, append-nil, arith}
use Rattle.std.specs.List.{list_any, list_all, AllByRecursion}
use Rattle.std.proofs.lemmas.List.{length-append, drop_at, drop-drop, drop-append-le, map-append}
use Rattle.std.proofs.lemmas.List.Folds.{list_any-append}
use Rattle.std.proofs.lemmas.Grind.{flat_map-append}
use Rattle.std.proofs.lemmas.Bool.{eqb-true, ne_eqb, eq-eqb, false≢true}
use Rattle.zbase.specs.Numbers.{be64}
use Rattle.zbase.specs.History.{Value, Transaction, History}
use Rattle.zbase.specs.Values.{Revision, revisions_of, revisions, later, newest, last}
use Rattle.zbase.specs.declared.ids.Row.{Row}
use Rattle.fs_record.specs.declared.body.Body.{Body}
use Rattle.fs_record.specs.declared.body.Body.TheVariants.{Full, Back}
use Rattle.fs_record.specs.declared.damage.Damage.{Damage}
use Rattle.fs_record.specs.declared.damage.Damage.TheVariants.{BadTid, BadPrev, BadBack}
use Rattle.fs_record.specs.Spelling.{txn_head, txn_head_of, Data, Inside, Records, Skipped, Block, data_spelling, block_spelling, texts_spelling, inside_spelling, long_of}
use Rattle.fs_record.specs.SpellingLaws.{long_data, length-texts, length-txn_head}
use Rattle.fs_record.specs.Fits.{FitsData, FitsInside}
use Rattle.fs_record.specs.File.{Earlier, Front, IsFile, AreRight, rows, is_row, is_own, has_body, is_right_body, value_at, value_of, values_of, last_place, fault_in, records_from, records_place, transaction_of, longer, after_in, front_of, bytes_of}
use Rattle.fs_record.specs.FileLaws.{file_place}
use Rattle.fs_record.specs.Standing.{IsBefore, StandsAt, IsPlace, IsRevision, LastStands}

-- ---- tests

pub both_true : (a b : Bool) → (a && b) ≡ true → (a ≡ true) × (b ≡ true)
both_true true b e = (refl, e)
both_true false b e = absurd (false≢true e)

or_true : (a b : Bool) → b ≡ true → (a || b) ≡ true
or_true true b e = refl
or_true false b e = e

or_more : (a b c : Bool) → (a || b) ≡ true → (a || (b || c)) ≡ true
or_more true b c e = refl
or_more false true c e = refl
or_more false false c e = absurd (false≢true e)

other_of : (a b : Bool) → a ≡ false → (a || b) ≡ true → b ≡ true
other_of a b p e = rw p at e

-- ---- records whose places rise, from n on and below an end

abbrev pub RiseWithin : ℕ → ℕ → List Earlier → Type 0
RiseWithin n end [] = n ≤ end
RiseWithin n end (e ∷ es) = (n ≤ e.at.place) × (e.at.place < end) × RiseWithin (e.at.place + 1) end es

lower : (n m end more : ℕ) (ys : List Earlier) → n ≤ m → end ≤ more → RiseWithin m end ys → RiseWithin n more ys
lower n m end more [] le short rise = omega (arith, rise)
lower n m end more (y ∷ ys) le short rise = (omega (arith, rise.0), omega (arith, rise.1), lower (y.at.place + 1) (y.at.place + 1) end more ys (omega arith) short rise.2)

rise_on : (n m k end : ℕ) (xs ys : List Earlier) → RiseWithin n m xs → RiseWithin k end ys → m ≤ k → m ≤ end → RiseWithin n end (xs ++ ys)
rise_on n m k end [] ys rise other le short = lower n k end end ys (omega (arith, rise)) (omega arith) other
rise_on n m k end (x ∷ xs) ys rise other le short = (rise.0, omega (arith, rise.1), rise_on (x.at.place + 1) m k end xs ys rise.2 other le short)

pub rise_end : (n end : ℕ) (es : List Earlier) → RiseWithin n end es → n ≤ end
rise_end n end [] rise = rise
rise_end n end (e ∷ es) rise = omega (arith, rise.0, rise.1)

below_if : (oid at n end : ℕ) (e : Earlier) (es : List Earlier) (here : Bool) → RiseWithin n end (e ∷ es) → is_row oid at e.at ≡ here → (here || list_any (is_row oid at) (rows es)) ≡ true → (list_any (is_row oid at) (rows es) ≡ true → at < end) → at < end
below_if oid at n end e es true rise is any deeper = omega (arith, rise.1, eqb-true e.at.place at (both_true _ _ is).1)
below_if oid at n end e es false rise is any deeper = deeper any

-- a record that is there stands before the end
below_end : (oid at n end : ℕ) (es : List Earlier) → RiseWithin n end es → list_any (is_row oid at) (rows es) ≡ true → at < end
below_end oid at n end [] rise any = absurd (false≢true any)
below_end oid at n end (e ∷ es) rise any = below_if oid at n end e es _ rise refl any (below_end oid at (e.at.place + 1) end es rise.2)

-- ---- what the record at a place has

abbrev HaveValues : List Earlier → List Earlier → Type 0
HaveValues all es = AllByRecursion (λ (e : Earlier). value_at e.at.place all ≡ e.value) es

past : (x : Earlier) (n end : ℕ) (all es : List Earlier) → x.at.place < n → RiseWithin n end es → HaveValues all es → HaveValues (x ∷ all) es
past x n end all [] lt rise each = tt
past x n end all (e ∷ es) lt rise each = (rw (ne_eqb x.at.place e.at.place (λ same. omega (arith, same, rise.0))) each.0, past x (e.at.place + 1) end all es (omega (arith, rise.0)) rise.2 each.1)

have_values : (n end : ℕ) (es : List Earlier) → RiseWithin n end es → HaveValues es es
have_values n end [] rise = tt
have_values n end (e ∷ es) rise = (rw (eq-eqb e.at.place e.at.place refl) refl, past e (e.at.place + 1) end es es (omega arith) rise.2 (have_values (e.at.place + 1) end es rise.2))

abbrev ArePlaces : List Earlier → List Earlier → Type 0
ArePlaces all es = AllByRecursion (λ (e : Earlier). IsPlace all e.at.oid e.at.place) es

places_on : (x : Earlier) (all es : List Earlier) → ArePlaces all es → ArePlaces (x ∷ all) es
places_on x all [] each = tt
places_on x all (e ∷ es) each = (or_true (is_row e.at.oid e.at.place x.at) _ each.0, places_on x all es each.1)

are_places : (es : List Earlier) → ArePlaces es es
are_places [] = tt
are_places (e ∷ es) = (rw (eq-eqb e.at.oid e.at.oid refl, eq-eqb e.at.place e.at.place refl) refl, places_on e es es (are_places es))

-- ---- more records behind

value_grows_if : (x : Earlier) (oid place : ℕ) (here : Bool) (xs ys : List Earlier) → eqb x.at.place place ≡ here → ((eqb x.at.oid oid && here) || list_any (is_row oid place) (rows xs)) ≡ true
    → (list_any (is_row oid place) (rows xs) ≡ true → value_at place (xs ++ ys) ≡ value_at place xs) → cond here x.value (value_at place (xs ++ ys)) ≡ cond here x.value (value_at place xs)
value_grows_if x oid place true xs ys is any deeper = refl
value_grows_if x oid place false xs ys is any deeper = deeper (other_of (eqb x.at.oid oid && false) _ (and_false (eqb x.at.oid oid)) any)
  where
    and_false : (b : Bool) → (b && false) ≡ false
    and_false true = refl
    and_false false = refl

pub value_grows : (oid place : ℕ) (xs ys : List Earlier) → IsPlace xs oid place → value_at place (xs ++ ys) ≡ value_at place xs
value_grows oid place [] ys any = absurd (false≢true any)
value_grows oid place (x ∷ xs) ys any = value_grows_if x oid place _ xs ys refl any (value_grows oid place xs ys)

pointed : (at : ℕ) (zero : Bool) (rest : Bool) (x y : Value) → (zero || rest) ≡ true → (rest ≡ true → x ≡ y) → cond zero None x ≡ cond zero None y
pointed at true rest x y any same = refl
pointed at false rest x y any same = same any

body_grows : (oid : ℕ) (body : Body) (xs ys : List Earlier) → is_right_body (rows xs) oid body ≡ true → value_of (xs ++ ys) body ≡ value_of xs body
body_grows oid (Full bytes) xs ys right = refl
body_grows oid (Back at) xs ys right = pointed at (eqb at 0) _ _ _ right (value_grows oid at xs ys)

right_grows : (oid : ℕ) (body : Body) (xs ys : List Earlier) → is_right_body (rows xs) oid body ≡ true → is_right_body (rows (xs ++ ys)) oid body ≡ true
right_grows oid (Full bytes) xs ys right = refl
right_grows oid (Back at) xs ys right =
    let more = or_more (eqb at 0) (list_any (is_row oid at) (rows xs)) (list_any (is_row oid at) (rows ys)) right in
    ap (λ (rs : List Row). eqb at 0 || list_any (is_row oid at) rs) (map-append (λ (e : Earlier). e.at) xs ys) ∙ ap (λ (b : Bool). eqb at 0 || b) (list_any-append (is_row oid at) (rows xs) (rows ys)) ∙ more

stands_on : (bytes more : List ℕ) (xs ys : List Earlier) (place : ℕ) (r : Revision) → place ≤ length bytes → StandsAt bytes xs place r → StandsAt (bytes ++ more) (xs ++ ys) place r
stands_on bytes more xs ys place r le s = record {
  written = s.written;
  behind = s.behind ++ more;
  fits = s.fits;
  spelled = drop-append-le place bytes more le ∙ ap (λ (x : List ℕ). x ++ more) s.spelled ∙ append_assoc (data_spelling s.written) s.behind more;
  oid = s.oid;
  tid = s.tid;
  value = s.value ∙ sym (body_grows r.oid s.written.body xs ys s.right);
  right = right_grows r.oid s.written.body xs ys s.right;
  before = s.before;
}

-- ---- records and revisions, one by one

record IsKept (bytes : List ℕ) (all : List Earlier) (r : Revision) (e : Earlier) : Type 0 where
  oid : e.at.oid ≡ r.oid
  value : e.value ≡ r.value
  stands : StandsAt bytes all e.at.place r

abbrev AreKept : List ℕ → List Earlier → List Revision → List Earlier → Type 0
AreKept bytes all [] [] = Unit {0}
AreKept bytes all [] (e ∷ es) = ⊥
AreKept bytes all (r ∷ rs) [] = ⊥
AreKept bytes all (r ∷ rs) (e ∷ es) = IsKept bytes all r e × AreKept bytes all rs es

kept_append : (bytes : List ℕ) (all : List Earlier) (rs : List Revision) (es : List Earlier) (ss : List Revision) (fs : List Earlier) → AreKept bytes all rs es → AreKept bytes all ss fs → AreKept bytes all (rs ++ ss) (es ++ fs)
kept_append bytes all [] [] ss fs first more = more
kept_append bytes all [] (e ∷ es) ss fs first more = absurd first
kept_append bytes all (r ∷ rs) [] ss fs first more = absurd first
kept_append bytes all (r ∷ rs) (e ∷ es) ss fs first more = (first.0, kept_append bytes all rs es ss fs first.1 more)

kept_on : (bytes more : List ℕ) (xs ys : List Earlier) (n end : ℕ) (rs : List Revision) (es : List Earlier) → RiseWithin n end es → end ≤ length bytes → AreKept bytes xs rs es → AreKept (bytes ++ more) (xs ++ ys) rs es
kept_on bytes more xs ys n end [] [] rise le kept = tt
kept_on bytes more xs ys n end [] (e ∷ es) rise le kept = kept
kept_on bytes more xs ys n end (r ∷ rs) [] rise le kept = kept
kept_on bytes more xs ys n end (r ∷ rs) (e ∷ es) rise le kept = (
  record { oid = kept.0.oid; value = kept.0.value; stands = stands_on bytes more xs ys e.at.place r (omega (arith, rise.1)) kept.0.stands },
  kept_on bytes more xs ys (e.at.place + 1) end rs es rise.2 le kept.1,
)

-- ---- the records of one transaction

abbrev pub revision : ℕ → ℕ × Value → Revision
revision tid r = record { tid = tid; oid = r.0; value = r.1 }

before_if : (at end place oid : ℕ) (zero : Bool) (all : List Earlier) → eqb at 0 ≡ zero → (zero || list_any (is_row oid at) (rows all)) ≡ true → RiseWithin 4 end all → end ≤ place → at < place
before_if at end place oid true all is any rise le = omega (arith, eqb-true at 0 is, rise_end 4 end all rise)
before_if at end place oid false all is any rise le = omega (arith, below_end oid at 4 end all rise any)

is_before : (oid end place : ℕ) (body : Body) (all : List Earlier) → is_right_body (rows all) oid body ≡ true → RiseWithin 4 end all → end ≤ place → IsBefore place body
is_before oid end place (Full bytes) all right rise le = tt
is_before oid end place (Back at) all right rise le = before_if at end place oid _ all refl right rise le

one_stands : (whole behind : List ℕ) (all more : List Earlier) (tid start end place : ℕ) (d : Data) → drop place whole ≡ data_spelling d ++ behind → FitsData d → is_own tid start d ≡ true → has_body (rows all) d ≡ true → RiseWithin 4 end all → end ≤ place
    → StandsAt whole (all ++ more) place (revision tid (d.oid, value_of all d.body))
one_stands whole behind all more tid start end place d e fits own right rise le = record {
  written = d;
  behind = behind;
  fits = fits;
  spelled = e;
  oid = refl;
  tid = eqb-true d.tid tid (both_true _ _ own).0;
  value = sym (body_grows d.oid d.body all more right);
  right = right_grows d.oid d.body all more right;
  before = is_before d.oid end place d.body all right rise le;
}

new_kept : (whole tail : List ℕ) (all more : List Earlier) (tid start end place : ℕ) (ds : List Data) → drop place whole ≡ flat_map data_spelling ds ++ tail → AllByRecursion FitsData ds → list_all (is_own tid start) ds ≡ true → list_all (has_body (rows all)) ds ≡ true → RiseWithin 4 end all → end ≤ place
    → AreKept whole (all ++ more) (map (revision tid) (values_of all ds)) (records_from all place ds)
new_kept whole tail all more tid start end place [] e fits own right rise le = tt
new_kept whole tail all more tid start end place (d ∷ ds) e fits own right rise le =
    let spelled : drop place whole ≡ data_spelling d ++ (flat_map data_spelling ds ++ tail) = e ∙ append_assoc (data_spelling d) (flat_map data_spelling ds) tail in
    let long = length (data_spelling d) in
    let next : drop (place + long) whole ≡ flat_map data_spelling ds ++ tail = sym (drop-drop long place whole) ∙ ap (drop long) spelled ∙ drop_at (data_spelling d) (flat_map data_spelling ds ++ tail) long refl in (
      record { oid = refl; value = refl; stands = one_stands whole (flat_map data_spelling ds ++ tail) all more tid start end place d spelled fits.0 (both_true _ _ own).0 (both_true _ _ right).0 rise le },
      new_kept whole tail all more tid start end (place + long) ds next fits.1 (both_true _ _ own).1 (both_true _ _ right).1 rise (omega arith),
    )

new_rise : (all : List Earlier) (n place end : ℕ) (ds : List Data) → AllByRecursion FitsData ds → n ≤ place → place + length (flat_map data_spelling ds) ≤ end → RiseWithin n end (records_from all place ds)
new_rise all n place end [] fits le within = omega arith
new_rise all n place end (d ∷ ds) fits le within =
    let long = long_data d fits.0.body in
    let sum = length-append (data_spelling d) (flat_map data_spelling ds) in
    (le, omega (arith, long, sum), new_rise all (place + 1) (place + length (data_spelling d)) end ds fits.1 (omega (arith, long)) (omega (arith, sum)))

-- ---- one block more

pub record Kept (bytes : List ℕ) (front : Front) : Type 0 where
  pub rise : RiseWithin 4 front.place front.records
  each : AreKept bytes front.records (revisions front.history) front.records

regroup : (bytes h t i l : List ℕ) → bytes ++ (((h ++ t) ++ i) ++ l) ≡ ((bytes ++ h) ++ t) ++ (i ++ l)
regroup bytes h t i l = simp append_assoc

pub records_stand : (bytes : List ℕ) (b : Block) (place : ℕ) → place ≡ length bytes → drop (records_place place b) (bytes ++ block_spelling b) ≡ inside_spelling b.inside ++ be64 b.tail
unfolding block_spelling
records_stand bytes b place at =
    let head = txn_head (txn_head_of b) in
    let texts = texts_spelling b.texts in
    let front : length ((bytes ++ head) ++ texts) ≡ records_place place b = omega (arith, at, length-append bytes head, length-append (bytes ++ head) texts, length-txn_head (txn_head_of b), length-texts b) in
    ap (drop (records_place place b)) (regroup bytes head texts (inside_spelling b.inside) (be64 b.tail)) ∙ drop_at ((bytes ++ head) ++ texts) (inside_spelling b.inside ++ be64 b.tail) (records_place place b) front

pub passed : (t : Bool) (o : Option Damage) (d : Damage) → cond t o (Some d) ≡ None → (t ≡ true) × (o ≡ None)
passed true o d e = (refl, e)
passed false o d e = absurd cc

-- each record is its transaction's, and has the right body
right_records : (place t : ℕ) (rs : List Row) (b : Block) (ds : List Data) → fault_in place t rs b (Records ds) ≡ None → (list_all (is_own b.tid place) ds ≡ true) × (list_all (has_body rs) ds ≡ true)
unfolding fault_in
right_records place t rs b ds e =
    let a = passed _ _ BadTid e in
    let p = passed _ _ BadPrev a.1 in
    let r = passed _ _ BadBack p.1 in
    ((both_true _ _ a.0).1, r.0)

pub revisions_longer : (h : History) (status : ℕ) (x : Transaction) → revisions (longer h status x) ≡ revisions h ++ revisions_of x
revisions_longer h status x = flat_map-append revisions_of h.transactions (x ∷ []) ∙ ap (λ (rs : List Revision). revisions h ++ rs) (append-nil (revisions_of x))

one_block : (bytes : List ℕ) (front : Front) (b : Block) (i : Inside) → b.inside ≡ i → front.place ≡ length bytes → FitsInside b.status i → fault_in front.place (last front.history) (rows front.records) b i ≡ None → Kept bytes front → Kept (bytes ++ block_spelling b) (after_in front b i)
unfolding after_in
one_block bytes front b (Skipped area) is at fits right kept = record {
  rise = lower 4 4 front.place (front.place + (long_of b + 8)) front.records (omega arith) (omega arith) kept.rise;
  each = subst (λ (all : List Earlier). AreKept (bytes ++ block_spelling b) all (revisions front.history) front.records) (append-nil front.records)
      (kept_on bytes (block_spelling b) front.records [] 4 front.place (revisions front.history) front.records kept.rise (omega (arith, at)) kept.each);
}
one_block bytes front b (Records ds) is at fits right kept =
    let place = records_place front.place b in
    let more = records_from front.records place ds in
    let x = transaction_of front.records b ds in
    let own = right_records front.place (last front.history) (rows front.records) b ds right in
    let within : place + length (flat_map data_spelling ds) ≤ front.place + (long_of b + 8) = omega (arith, length-texts b, ap (λ (j : Inside). length (inside_spelling j)) is) in
    let spelled : drop place (bytes ++ block_spelling b) ≡ flat_map data_spelling ds ++ be64 b.tail = records_stand bytes b front.place at ∙ ap (λ (j : Inside). inside_spelling j ++ be64 b.tail) is in
    let old = kept_on bytes (block_spelling b) front.records more 4 front.place (revisions front.history) front.records kept.rise (omega (arith, at)) kept.each in
    let new = new_kept (bytes ++ block_spelling b) (be64 b.tail) front.records more b.tid front.place front.place place ds spelled fits.1 own.0 own.1 kept.rise (omega arith) in
    record {
      rise = rise_on 4 front.place place (front.place + (long_of b + 8)) front.records more kept.rise (new_rise front.records place place (front.place + (long_of b + 8)) ds fits.1 (omega arith) within) (omega arith) (omega arith);
      each = subst (λ (rs : List Revision). AreKept (bytes ++ block_spelling b) (front.records ++ more) rs (front.records ++ more)) (sym (revisions_longer front.history b.status x))
          (kept_append (bytes ++ block_spelling b) (front.records ++ more) (revisions front.history) front.records (revisions_of x) more old new);
    }

all_kept : (bs : List Block) → AreRight bs → Kept (bytes_of bs) (front_of bs)
all_kept [] right = record { rise = omega arith; each = tt }
all_kept (b ∷ bs) right =
    one_block (bytes_of bs) (front_of bs) b b.inside refl (file_place (bytes_of bs) (front_of bs) (record { blocks = bs; right = right.1; spelled = refl; said = refl })) right.0.fits.inside right.0.right (all_kept bs right.1)

pub file_kept : (bytes : List ℕ) (front : Front) → IsFile bytes front → Kept bytes front
file_kept bytes front file = subst (λ (x : List ℕ). Kept x front) (sym file.spelled) (subst (λ (f : Front). Kept (bytes_of file.blocks) f) (sym file.said) (all_kept file.blocks file.right))

-- also where something stands behind the file
kept_behind : (bytes rest : List ℕ) (front : Front) → IsFile bytes front → Kept (bytes ++ rest) front
kept_behind bytes rest front file =
    let kept = file_kept bytes front file in
    record {
      rise = kept.rise;
      each = subst (λ (all : List Earlier). AreKept (bytes ++ rest) all (revisions front.history) front.records) (append-nil front.records)
          (kept_on bytes rest front.records [] 4 front.place (revisions front.history) front.records kept.rise (omega (arith, file_place bytes front file)) kept.each);
    }

-- ---- what a reader needs

found_if : (bytes : List ℕ) (all : List Earlier) (oid place : ℕ) (r : Revision) (e : Earlier) (es : List Earlier) (here : Bool) → IsKept bytes all r e → value_at e.at.place all ≡ e.value → is_row oid place e.at ≡ here → (here || list_any (is_row oid place) (rows es)) ≡ true
    → (list_any (is_row oid place) (rows es) ≡ true → (s : Revision) × IsRevision bytes all oid place s) → (s : Revision) × IsRevision bytes all oid place s
found_if bytes all oid place r e es true kept has is any deeper =
    let same = both_true _ _ is in
    (r, subst (λ (p : ℕ). IsRevision bytes all oid p r) (eqb-true e.at.place place same.1) (record { object = sym kept.oid ∙ eqb-true e.at.oid oid same.0; value = has ∙ kept.value; stands = kept.stands }))
found_if bytes all oid place r e es false kept has is any deeper = deeper any

found : (bytes : List ℕ) (all : List Earlier) (oid place : ℕ) (rs : List Revision) (es : List Earlier) → AreKept bytes all rs es → HaveValues all es → list_any (is_row oid place) (rows es) ≡ true → (r : Revision) × IsRevision bytes all oid place r
found bytes all oid place rs [] kept each any = absurd (false≢true any)
found bytes all oid place [] (e ∷ es) kept each any = absurd kept
found bytes all oid place (r ∷ rs) (e ∷ es) kept each any = found_if bytes all oid place r e es _ kept.0 each.0 refl any (found bytes all oid place rs es kept.1 each.1)

-- A record of an object at a place of a file is one of its revisions.
pub each_stands : (bytes rest : List ℕ) (front : Front) → IsFile bytes front → (oid place : ℕ) → IsPlace front.records oid place → (r : Revision) × IsRevision (bytes ++ rest) front.records oid place r
each_stands bytes rest front file oid place is =
    let kept = kept_behind bytes rest front file in
    found (bytes ++ rest) front.records oid place (revisions front.history) front.records kept.each (have_values 4 front.place front.records kept.rise) is

-- the last one, else a place that was found before
abbrev LastSays : List ℕ → List Earlier → ℕ → ℕ → ℕ → Option Revision → Type 0
LastSays bytes all oid before place None = place ≡ before
LastSays bytes all oid before place (Some r) = IsPlace all oid place × IsRevision bytes all oid place r

one_later : (bytes : List ℕ) (all : List Earlier) (oid before place : ℕ) (r : Revision) (e : Earlier) (o : Option Revision) (here : Bool) → IsKept bytes all r e → value_at e.at.place all ≡ e.value → IsPlace all e.at.oid e.at.place → eqb r.oid oid ≡ here
    → LastSays bytes all oid (cond here e.at.place before) place o → LastSays bytes all oid before place (later (cond here (Some r) None) o)
one_later bytes all oid before place r e (Some s) here kept has at is says = says
one_later bytes all oid before place r e None true kept has at is says =
    let same : e.at.oid ≡ oid = kept.oid ∙ eqb-true r.oid oid is in
    subst (λ (p : ℕ). IsPlace all oid p × IsRevision bytes all oid p r) (sym says) (subst (λ (o : ℕ). IsPlace all o e.at.place) same at, record { object = eqb-true r.oid oid is; value = has ∙ kept.value; stands = kept.stands })
one_later bytes all oid before place r e None false kept has at is says = says

last_says : (bytes : List ℕ) (all : List Earlier) (oid before : ℕ) (rs : List Revision) (es : List Earlier) → AreKept bytes all rs es → HaveValues all es → ArePlaces all es → LastSays bytes all oid before (last_place oid before (rows es)) (newest rs oid)
last_says bytes all oid before [] [] kept each places = refl
last_says bytes all oid before [] (e ∷ es) kept each places = absurd kept
last_says bytes all oid before (r ∷ rs) [] kept each places = absurd kept
last_says bytes all oid before (r ∷ rs) (e ∷ es) kept each places =
    let begin : cond (eqb e.at.oid oid) e.at.place before ≡ cond (eqb r.oid oid) e.at.place before = ap (λ (o : ℕ). cond (eqb o oid) e.at.place before) kept.0.oid in
    one_later bytes all oid before (last_place oid (cond (eqb e.at.oid oid) e.at.place before) (rows es)) r e (newest rs oid) _ kept.0 each.0 places.0 refl
    (subst (λ (n : ℕ). LastSays bytes all oid n (last_place oid (cond (eqb e.at.oid oid) e.at.place before) (rows es)) (newest rs oid)) begin (last_says bytes all oid (cond (eqb e.at.oid oid) e.at.place before) rs es kept.1 each.1 places.1))

no_other : (oid place : ℕ) (r : Revision) (e : Earlier) (o : Option Revision) (same here : Bool) (rest : Bool) → e.at.oid ≡ r.oid → eqb r.oid oid ≡ same → is_row oid place e.at ≡ here → later (cond same (Some r) None) o ≡ None → (here || rest) ≡ true → (o ≡ None → rest ≡ true → ⊥) → ⊥
no_other oid place r e (Some s) same here rest of is at none any deeper = cc
no_other oid place r e None true here rest of is at none any deeper = cc
no_other oid place r e None false true rest of is at none any deeper = false≢true (sym is ∙ eq-eqb r.oid oid (sym of ∙ eqb-true e.at.oid oid (both_true _ _ at).0))
no_other oid place r e None false false rest of is at none any deeper = deeper refl any

-- an object without a revision has no record
no_record : (bytes : List ℕ) (all : List Earlier) (oid place : ℕ) (rs : List Revision) (es : List Earlier) → AreKept bytes all rs es → newest rs oid ≡ None → list_any (is_row oid place) (rows es) ≡ true → ⊥
no_record bytes all oid place rs [] kept none any = false≢true any
no_record bytes all oid place [] (e ∷ es) kept none any = kept
no_record bytes all oid place (r ∷ rs) (e ∷ es) kept none any = no_other oid place r e (newest rs oid) _ _ _ kept.0.oid refl refl none any (no_record bytes all oid place rs es kept.1)

from_none : (bytes : List ℕ) (all : List Earlier) (oid place : ℕ) (o : Option Revision) → (o ≡ None → (other : ℕ) → IsPlace all oid other → ⊥) → LastSays bytes all oid 0 place o → LastStands bytes all oid place o
from_none bytes all oid place None lacks says = (says, lacks refl)
from_none bytes all oid place (Some r) lacks says = says

-- An object's last record is its newest revision.
pub last_stands : (bytes rest : List ℕ) (front : Front) → IsFile bytes front → (oid : ℕ) → LastStands (bytes ++ rest) front.records oid (last_place oid 0 (rows front.records)) (newest (revisions front.history) oid)
last_stands bytes rest front file oid =
    let kept = kept_behind bytes rest front file in
    from_none (bytes ++ rest) front.records oid _ (newest (revisions front.history) oid) (λ none other. no_record (bytes ++ rest) front.records oid other (revisions front.history) front.records kept.each none) (last_says (bytes ++ rest) front.records oid 0 (revisions front.history) front.records kept.each (have_values 4 front.place front.records kept.rise) (are_places front.records))
