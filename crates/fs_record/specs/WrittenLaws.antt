-- What can be written fits, and behind a file it makes a longer one.
use Rattle.std.proofs.Common.{◌≡◌, ℕ, ◌<◌, ◌≤◌, ◌^◌, true, false, ◌==◌, List, [], ◌∷◌, length, map, None, refl, ap, subst, arith, lt-ltb, eq-eqb}
use Rattle.std.specs.List.{All, AllByRecursion, list_all}
use Rattle.std.proofs.lemmas.Bool.Decides.{nat_tests}
use Rattle.std.proofs.lemmas.List.Elements.{All-head, All-tail}
use Rattle.std.proofs.lemmas.List.Sums.{sum_by-cons}
use Rattle.zbase.specs.History.{Value, Transaction}
use Rattle.zbase.specs.Values.{last}
use Rattle.zbase.specs.declared.ids.Row.{Row}
use Rattle.fs_record.specs.declared.body.Body.{Body}
use Rattle.fs_record.specs.declared.body.Body.TheVariants.{Full, Back}
use Rattle.fs_record.specs.declared.body.Item.{Item}
use Rattle.fs_record.specs.declared.body.TxnTexts.{TxnTexts}
use Rattle.fs_record.specs.Spelling.{Records, body_length, body_spelling, long_of}
use Rattle.fs_record.specs.Fits.{FitsData, FitsBlock}
use Rattle.fs_record.specs.File.{Earlier, Front, IsRight, rows, value_of, values_of, fault_in, is_own, has_prev, has_body, has_no_version, is_counted, last_place, is_right_body, after, longer, after_in}
use Rattle.fs_record.specs.Written.{data_of, records_of, transaction, FitsItem, IsWritable, GoesBehind, said_by}
use Rattle.fs_record.specs.Sizes.{record_size, records_size, long-transaction, length-transaction}

-- ---- fits

short_body : (body : Body) → body_length body ≤ length (body_spelling body)
short_body (Full bytes) = omega arith
short_body (Back place) = omega arith

fits_data : (tid start : ℕ) (item : Item) → tid < 2 ^ 64 → start < 2 ^ 64 → record_size item < 2 ^ 64 → FitsItem item → FitsData (data_of tid start item)
fits_data tid start item t s size fits = record {
  head = record { oid = fits.oid; tid = t; prev = fits.prev; start = s; version = omega arith; length = omega (arith, short_body item.body) };
  body = fits.body;
}

fits_records : (tid start : ℕ) (items : List Item) → tid < 2 ^ 64 → start < 2 ^ 64 → records_size items < 2 ^ 64 → All FitsItem items → AllByRecursion FitsData (records_of tid start items)
fits_records tid start [] t s size all = tt
fits_records tid start (item ∷ items) t s size all =
    let whole = sum_by-cons record_size item items in (
      fits_data tid start item t s (omega (arith, whole)) (All-head FitsItem item items all),
      fits_records tid start items t s (omega (arith, whole)) (All-tail FitsItem item items all),
    )

pub counted_not_undone : (status : ℕ) → is_counted status ≡ true → (status == 117) ≡ false
counted_not_undone status counted = grind (arith, nat_tests)

pub fits_transaction : (start tid status : ℕ) (texts : TxnTexts) (items : List Item) → IsWritable start tid status texts items → (status == 117) ≡ false → FitsBlock (transaction start tid status texts items)
fits_transaction start tid status texts items w not_undone =
    let size = length-transaction start tid status texts items in
    let long = long-transaction start tid status texts items in
    record {
      head = record { tid = w.id; length = omega (arith, size, long, w.end); user = w.user; description = w.description; extension = w.extension };
      tail = omega (arith, size, long, w.end);
      inside = (not_undone, fits_records tid start items w.id (omega (arith, w.end)) (omega (arith, size, w.end)) w.each);
    }

-- ---- right

all_own : (tid start : ℕ) (items : List Item) → list_all (is_own tid start) (records_of tid start items) ≡ true
all_own tid start [] = refl
all_own tid start (item ∷ items) = rw (eq-eqb tid tid refl, eq-eqb start start refl) (all_own tid start items)

no_version : (tid start : ℕ) (items : List Item) → list_all has_no_version (records_of tid start items) ≡ true
no_version tid start [] = refl
no_version tid start (item ∷ items) = no_version tid start items

all_prev : (rs : List Row) (tid start : ℕ) (items : List Item) → All (λ item. item.prev ≡ last_place item.oid 0 rs) items → list_all (has_prev rs) (records_of tid start items) ≡ true
all_prev rs tid start [] all = refl
all_prev rs tid start (item ∷ items) all =
    rw (eq-eqb item.prev (last_place item.oid 0 rs) (All-head (λ i. i.prev ≡ last_place i.oid 0 rs) item items all)) (all_prev rs tid start items (All-tail (λ i. i.prev ≡ last_place i.oid 0 rs) item items all))

all_body : (rs : List Row) (tid start : ℕ) (items : List Item) → All (λ item. is_right_body rs item.oid item.body ≡ true) items → list_all (has_body rs) (records_of tid start items) ≡ true
all_body rs tid start [] all = refl
all_body rs tid start (item ∷ items) all =
    rw (All-head (λ i. is_right_body rs i.oid i.body ≡ true) item items all) (all_body rs tid start items (All-tail (λ i. is_right_body rs i.oid i.body ≡ true) item items all))

right_in : (front : Front) (start tid status : ℕ) (texts : TxnTexts) (items : List Item) → GoesBehind front tid status items → fault_in start (last front.history) (rows front.records) (transaction start tid status texts items) (Records (records_of tid start items)) ≡ None
unfolding fault_in
right_in front start tid status texts items g =
    rw (
      lt-ltb (last front.history) tid g.later,
      all_own tid start items,
      all_prev (rows front.records) tid start items g.previous,
      all_body (rows front.records) tid start items g.back,
      g.counted,
      eq-eqb (long_of (transaction start tid status texts items)) (long_of (transaction start tid status texts items)) refl,
      no_version tid start items,
    ) refl

pub right_behind : (front : Front) (start tid status : ℕ) (texts : TxnTexts) (items : List Item) → start ≡ front.place → IsWritable start tid status texts items → GoesBehind front tid status items → IsRight front (transaction start tid status texts items)
right_behind front start tid status texts items at w g = record {
  fits = fits_transaction start tid status texts items w (counted_not_undone status g.counted);
  right = subst (λ (n : ℕ). fault_in n (last front.history) (rows front.records) (transaction start tid status texts items) (Records (records_of tid start items)) ≡ None) at (right_in front start tid status texts items g);
}

-- ---- the history

same_values : (earlier : List Earlier) (tid start : ℕ) (items : List Item) → values_of earlier (records_of tid start items) ≡ map (λ (item : Item). (item.oid, value_of earlier item.body)) items
same_values earlier tid start [] = refl
same_values earlier tid start (item ∷ items) = ap (λ (vs : List (ℕ × Value)). (item.oid, value_of earlier item.body) ∷ vs) (same_values earlier tid start items)

made_transaction : ℕ → TxnTexts → List (ℕ × Value) → Transaction
made_transaction tid texts values = record { tid = tid; user = texts.user; description = texts.description; extension = texts.extension; records = values }

pub history-transaction : (front : Front) (start tid status : ℕ) (texts : TxnTexts) (items : List Item) → (after front (transaction start tid status texts items)).history ≡ longer front.history status (said_by front.records tid texts items)
unfolding after_in made_transaction
history-transaction front start tid status texts items = ap (λ (values : List (ℕ × Value)). longer front.history status (made_transaction tid texts values)) (same_values front.records tid start items)
