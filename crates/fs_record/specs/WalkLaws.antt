-- An object's data records lead back through a file, each by the place of the one before it.
use Rattle.std.proofs.Common.{◌≡◌, ◌≢◌, ℕ, ◌+◌, ◌<◌, ◌≤◌, Bool, true, false, cond, eqb, List, [], ◌∷◌, ◌++◌, length, drop, map, filter, flat_map, nat_le, nat_lt, Option, Some, None, refl, sym, ap, subst, ◌∙◌, append_assoc, append-nil, arith, inl, inr}
use Rattle.std.specs.Prelude.{◌⊎◌}
use Rattle.std.specs.List.{list_all, list_any, AllByRecursion}
use Rattle.std.proofs.lemmas.List.Folds.{list_any-append}
use Rattle.std.proofs.lemmas.List.{drop_at, drop-drop, drop-append-le, length-append, map-append}
use Rattle.std.proofs.lemmas.List.Elements.{filter-append}
use Rattle.std.proofs.lemmas.Grind.{flat_map-append}
use Rattle.std.proofs.lemmas.Bool.{eqb-true, le-leb, lt-leb, lt-ltb}
use Rattle.zbase.specs.Numbers.{be64}
use Rattle.zbase.specs.History.{Value, Transaction, History}
use Rattle.zbase.specs.HistoryLaws.{last_after-append}
use Rattle.zbase.specs.Values.{Revision, revisions_of, revisions, later, newest, serial_of, serial, last, upto}
use Rattle.zbase.specs.declared.ids.Row.{Row}
use Rattle.fs_record.specs.declared.damage.Damage.TheVariants.{BadTid, BadPrev}
use Rattle.fs_record.specs.Spelling.{Data, Inside, Records, Skipped, Block, data_spelling, block_spelling, inside_spelling}
use Rattle.fs_record.specs.Fits.{FitsData, FitsInside}
use Rattle.fs_record.specs.File.{Earlier, Front, IsFile, IsRight, AreRight, rows, is_own, has_prev, value_at, value_of, values_of, last_place, is_row, fault_in, records_from, records_place, transaction_of, longer, after_in, after, front_of, bytes_of}
use Rattle.fs_record.specs.FileLaws.{file_place, rises}
use Rattle.fs_record.specs.Standing.{IsPlace, LastStands}
use Rattle.fs_record.specs.StandingLaws.{both_true, RiseWithin, value_grows, revision, records_stand, passed, revisions_longer, file_kept, rise_end, last_stands}
use Rattle.fs_record.specs.Walks.{Passed, newest_upto, is_later, later_than, LeadsBack}

-- ---- an object's records among those of one transaction

-- its last one: where it stands, and what it says
record LastIn (whole : List ℕ) (all : List Earlier) (place tid oid : ℕ) (ds : List Data) : Type 0 where
  stands : ℕ
  from : place ≤ stands
  place_is : (found : ℕ) → last_place oid found (rows (records_from all place ds)) ≡ stands
  written : Data
  behind : List ℕ
  fits : FitsData written
  spelled : drop stands whole ≡ data_spelling written ++ behind
  tid_is : written.tid ≡ tid
  previous : written.prev ≡ last_place oid 0 (rows all)
  value : Value
  newest_is : newest (map (revision tid) (values_of all ds)) oid ≡ Some (revision tid (oid, value))

-- none of them is the object's
record MissingIn (all : List Earlier) (place tid oid : ℕ) (ds : List Data) : Type 0 where
  place_is : (found : ℕ) → last_place oid found (rows (records_from all place ds)) ≡ found
  newest_is : newest (map (revision tid) (values_of all ds)) oid ≡ None

further : (whole : List ℕ) (all : List Earlier) (place tid oid : ℕ) (d : Data) (ds : List Data) → LastIn whole all (place + length (data_spelling d)) tid oid ds → LastIn whole all place tid oid (d ∷ ds)
further whole all place tid oid d ds deeper = record {
  stands = deeper.stands;
  from = omega (arith, deeper.from);
  place_is = λ found. deeper.place_is (cond (eqb d.oid oid) place found);
  written = deeper.written;
  behind = deeper.behind;
  fits = deeper.fits;
  spelled = deeper.spelled;
  tid_is = deeper.tid_is;
  previous = deeper.previous;
  value = deeper.value;
  newest_is = ap (later (cond (eqb d.oid oid) (Some (revision tid (d.oid, value_of all d.body))) None)) deeper.newest_is;
}

here_in : (whole behind : List ℕ) (all : List Earlier) (place tid start oid : ℕ) (d : Data) (ds : List Data) → drop place whole ≡ data_spelling d ++ behind → FitsData d → is_own tid start d ≡ true → has_prev (rows all) d ≡ true → eqb d.oid oid ≡ true
    → MissingIn all (place + length (data_spelling d)) tid oid ds → LastIn whole all place tid oid (d ∷ ds)
here_in whole behind all place tid start oid d ds e fits own prev is deeper =
    let same : d.oid ≡ oid = eqb-true d.oid oid is in
    record {
      stands = place;
      from = omega arith;
      place_is = λ found. deeper.place_is (cond (eqb d.oid oid) place found) ∙ rw is refl;
      written = d;
      behind = behind;
      fits = fits;
      spelled = e;
      tid_is = eqb-true d.tid tid (both_true _ _ own).0;
      previous = eqb-true d.prev (last_place d.oid 0 (rows all)) prev ∙ ap (λ (o : ℕ). last_place o 0 (rows all)) same;
      value = value_of all d.body;
      newest_is = ap (later (cond (eqb d.oid oid) (Some (revision tid (d.oid, value_of all d.body))) None)) deeper.newest_is ∙ rw is refl ∙ ap (λ (o : ℕ). Some (revision tid (o, value_of all d.body))) same;
    }

not_here : (all : List Earlier) (place tid oid : ℕ) (d : Data) (ds : List Data) → eqb d.oid oid ≡ false → MissingIn all (place + length (data_spelling d)) tid oid ds → MissingIn all place tid oid (d ∷ ds)
not_here all place tid oid d ds is deeper = record {
  place_is = λ found. deeper.place_is (cond (eqb d.oid oid) place found) ∙ rw is refl;
  newest_is = ap (later (cond (eqb d.oid oid) (Some (revision tid (d.oid, value_of all d.body))) None)) deeper.newest_is ∙ rw is refl;
}

one_in : (whole behind : List ℕ) (all : List Earlier) (place tid start oid : ℕ) (d : Data) (ds : List Data) (here : Bool) → drop place whole ≡ data_spelling d ++ behind → FitsData d → is_own tid start d ≡ true → has_prev (rows all) d ≡ true → eqb d.oid oid ≡ here
    → LastIn whole all (place + length (data_spelling d)) tid oid ds ⊎ MissingIn all (place + length (data_spelling d)) tid oid ds → LastIn whole all place tid oid (d ∷ ds) ⊎ MissingIn all place tid oid (d ∷ ds)
one_in whole behind all place tid start oid d ds here e fits own prev is (inl deeper) = inl (further whole all place tid oid d ds deeper)
one_in whole behind all place tid start oid d ds true e fits own prev is (inr deeper) = inl (here_in whole behind all place tid start oid d ds e fits own prev is deeper)
one_in whole behind all place tid start oid d ds false e fits own prev is (inr deeper) = inr (not_here all place tid oid d ds is deeper)

last_in : (whole tail : List ℕ) (all : List Earlier) (place tid start oid : ℕ) (ds : List Data) → drop place whole ≡ flat_map data_spelling ds ++ tail → AllByRecursion FitsData ds → list_all (is_own tid start) ds ≡ true → list_all (has_prev (rows all)) ds ≡ true
    → LastIn whole all place tid oid ds ⊎ MissingIn all place tid oid ds
last_in whole tail all place tid start oid [] e fits own prev = inr (record { place_is = λ found. refl; newest_is = refl })
last_in whole tail all place tid start oid (d ∷ ds) e fits own prev =
    let spelled : drop place whole ≡ data_spelling d ++ (flat_map data_spelling ds ++ tail) = e ∙ append_assoc (data_spelling d) (flat_map data_spelling ds) tail in
    let long = length (data_spelling d) in
    let next : drop (place + long) whole ≡ flat_map data_spelling ds ++ tail = sym (drop-drop long place whole) ∙ ap (drop long) spelled ∙ drop_at (data_spelling d) (flat_map data_spelling ds ++ tail) long refl in
    one_in whole (flat_map data_spelling ds ++ tail) all place tid start oid d ds _ spelled fits.0 (both_true _ _ own).0 (both_true _ _ prev).0 refl
    (last_in whole tail all (place + long) tid start oid ds next fits.1 (both_true _ _ own).1 (both_true _ _ prev).1)

-- ---- one transaction more

last_on : (oid found : ℕ) (xs ys : List Row) → last_place oid found (xs ++ ys) ≡ last_place oid (last_place oid found xs) ys
last_on oid found [] ys = refl
last_on oid found (x ∷ xs) ys = last_on oid (cond (eqb x.oid oid) x.place found) xs ys

last_on_records : (oid found : ℕ) (xs ys : List Earlier) → last_place oid found (rows (xs ++ ys)) ≡ last_place oid (last_place oid found (rows xs)) (rows ys)
last_on_records oid found xs ys = ap (last_place oid found) (map-append (λ (e : Earlier). e.at) xs ys) ∙ last_on oid found (rows xs) (rows ys)

newest_on : (oid : ℕ) (rs ss : List Revision) → newest (rs ++ ss) oid ≡ later (newest rs oid) (newest ss oid)
newest_on oid [] ss = only (newest ss oid)
  where
    only : (o : Option Revision) → o ≡ later None o
    only None = refl
    only (Some r) = refl
newest_on oid (r ∷ rs) ss = ap (later (cond (eqb r.oid oid) (Some r) None)) (newest_on oid rs ss) ∙ three (cond (eqb r.oid oid) (Some r) None) (newest rs oid) (newest ss oid)
  where
    three : (a b c : Option Revision) → later a (later b c) ≡ later (later a b) c
    three a b None = refl
    three a b (Some r) = refl

newest_longer : (h : History) (status : ℕ) (x : Transaction) (oid : ℕ) → newest (revisions (longer h status x)) oid ≡ later (newest (revisions h) oid) (newest (revisions_of x) oid)
newest_longer h status x oid = ap (λ (rs : List Revision). newest rs oid) (revisions_longer h status x) ∙ newest_on oid (revisions h) (revisions_of x)

-- a transaction that comes up to t counts, and a later one doesn't
upto_longer : (h : History) (status : ℕ) (x : Transaction) (t oid : ℕ) (counts : Bool) → nat_le x.tid t ≡ counts → newest_upto (longer h status x) t oid ≡ later (newest_upto h t oid) (cond counts (newest (revisions_of x) oid) None)
upto_longer h status x t oid counts is =
    let test : Transaction → Bool = (λ y. nat_le y.tid t) in
    ap (λ (xs : List Transaction). newest (flat_map revisions_of xs) oid) (filter-append test h.transactions (x ∷ []))
    ∙ ap (λ (rs : List Revision). newest rs oid) (flat_map-append revisions_of (filter test h.transactions) (filter test (x ∷ [])))
    ∙ newest_on oid (revisions (upto h t)) (flat_map revisions_of (filter test (x ∷ [])))
    ∙ ap (later (newest_upto h t oid)) (ap (λ (b : Bool). newest (flat_map revisions_of (cond b (x ∷ []) [])) oid) is ∙ one x counts)
  where
    one : (x : Transaction) (b : Bool) → newest (flat_map revisions_of (cond b (x ∷ []) [])) oid ≡ cond b (newest (revisions_of x) oid) None
    one x true = ap (λ (rs : List Revision). newest rs oid) (append-nil (revisions_of x))
    one x false = refl

-- ---- revisions that are later than a transaction

filter_grows : (p : Revision → Bool) (r : Revision) (rs : List Revision) → length (filter p rs) ≤ length (filter p (r ∷ rs))
filter_grows p r rs = go (p r) refl
  where
    go : (b : Bool) → p r ≡ b → length (filter p rs) ≤ length (filter p (r ∷ rs))
    go true e = rw e (omega arith)
    go false e = rw e (omega arith)

filter_has : (p : Revision → Bool) (r : Revision) (rs : List Revision) → p r ≡ true → 1 ≤ length (filter p (r ∷ rs))
filter_has p r rs e = rw e (omega arith)

-- the object's newest revision is one of them, where it is later
newest_later : (rs : List Revision) (t oid : ℕ) (r : Revision) → newest rs oid ≡ Some r → t < r.tid → 1 ≤ length (filter (is_later t oid) rs)
newest_later [] t oid r e lt = absurd cc
newest_later (x ∷ xs) t oid r e lt = go (λ n. newest_later xs t oid r n lt) (newest xs oid) refl (eqb x.oid oid) refl e
  where
    go : (newest xs oid ≡ Some r → 1 ≤ length (filter (is_later t oid) xs)) → (o : Option Revision) → newest xs oid ≡ o → (here : Bool) → eqb x.oid oid ≡ here → later (cond here (Some x) None) o ≡ Some r → 1 ≤ length (filter (is_later t oid) (x ∷ xs))
    go deeper (Some s) n here is e = omega (arith, deeper (n ∙ e), filter_grows (is_later t oid) x xs)
    go deeper None n true is e =
        let same : x ≡ r = cc in
        let late : nat_lt t x.tid ≡ true = lt-ltb t x.tid (omega (arith, lt, ap (λ (y : Revision). y.tid) same)) in
        filter_has (is_later t oid) x xs (rw (is, late) refl)
    go deeper None n false is e = absurd cc

later_longer : (h : History) (status : ℕ) (x : Transaction) (t oid : ℕ) → later_than (longer h status x) t oid ≡ later_than h t oid + length (filter (is_later t oid) (revisions_of x))
later_longer h status x t oid =
    ap (λ (rs : List Revision). length (filter (is_later t oid) rs)) (revisions_longer h status x)
    ∙ ap length (filter-append (is_later t oid) (revisions h) (revisions_of x))
    ∙ length-append (filter (is_later t oid) (revisions h)) (filter (is_later t oid) (revisions_of x))

nothing_more : (o p : Option Revision) (counts : Bool) → p ≡ None → later o (cond counts p None) ≡ o
nothing_more o p true none = ap (later o) none
nothing_more o p false none = refl

-- ---- one block more

-- an object of which nothing is said between two fronts
record Stays (front now : Front) (oid : ℕ) : Type 0 where
  place_is : last_place oid 0 (rows now.records) ≡ last_place oid 0 (rows front.records)
  newest_is : newest (revisions now.history) oid ≡ newest (revisions front.history) oid
  upto_is : (t : ℕ) → newest_upto now.history t oid ≡ newest_upto front.history t oid
  later_is : (t : ℕ) → later_than front.history t oid ≤ later_than now.history t oid
  last_is : last front.history ≤ last now.history

-- the object's last record stands behind the front, and leads back to it
record Leads (bytes : List ℕ) (front now : Front) (oid : ℕ) : Type 0 where
  from : front.place ≤ last_place oid 0 (rows now.records)
  written : Data
  behind : List ℕ
  fits : FitsData written
  spelled : drop (last_place oid 0 (rows now.records)) bytes ≡ data_spelling written ++ behind
  previous : written.prev ≡ last_place oid 0 (rows front.records)
  value : Value
  newest_is : newest (revisions now.history) oid ≡ Some (revision written.tid (oid, value))
  upto_is : (t : ℕ) → written.tid ≤ t → newest_upto now.history t oid ≡ newest (revisions now.history) oid
  before_is : (t : ℕ) → t < written.tid → newest_upto now.history t oid ≡ newest_upto front.history t oid
  fewer : (t : ℕ) → t < written.tid → later_than front.history t oid < later_than now.history t oid

-- the last transaction is a later one, with the object's last record
abbrev Writes : List ℕ → Front → Front → ℕ → Type 0
Writes bytes front now oid = Leads bytes front now oid × (last front.history < last now.history) × (serial now.history oid ≡ last now.history)

last_longer : (h : History) (status : ℕ) (x : Transaction) → last (longer h status x) ≡ x.tid
last_longer h status x = last_after-append 0 h.transactions (x ∷ [])

block_writes : (whole : List ℕ) (front : Front) (b : Block) (oid : ℕ) (ds : List Data) → last front.history < b.tid → LastIn whole front.records (records_place front.place b) b.tid oid ds → Writes whole front (after_in front b (Records ds)) oid
unfolding after_in
block_writes whole front b oid ds rise found =
    let x = transaction_of front.records b ds in
    let place : last_place oid 0 (rows (after_in front b (Records ds)).records) ≡ found.stands = last_on_records oid 0 front.records (records_from front.records (records_place front.place b) ds) ∙ found.place_is (last_place oid 0 (rows front.records)) in
    let said : newest (revisions (longer front.history b.status x)) oid ≡ Some (revision b.tid (oid, found.value)) = newest_longer front.history b.status x oid ∙ ap (later (newest (revisions front.history) oid)) found.newest_is in
    let end = last_longer front.history b.status x in (
      record {
        from = omega (arith, place, found.from);
        written = found.written;
        behind = found.behind;
        fits = found.fits;
        spelled = ap (λ (n : ℕ). drop n whole) place ∙ found.spelled;
        previous = found.previous;
        value = found.value;
        newest_is = said ∙ ap (λ (t : ℕ). Some (revision t (oid, found.value))) (sym found.tid_is);
        upto_is = λ t le. upto_longer front.history b.status x t oid true (le-leb b.tid t (omega (arith, found.tid_is, le))) ∙ ap (later (newest_upto front.history t oid)) found.newest_is ∙ sym said;
        before_is = λ t lt. upto_longer front.history b.status x t oid false (lt-leb b.tid t (omega (arith, found.tid_is, lt)));
        fewer = λ t lt. omega (arith, later_longer front.history b.status x t oid, newest_later (revisions_of x) t oid (revision b.tid (oid, found.value)) found.newest_is (omega (arith, found.tid_is, lt)));
      },
      omega (arith, end, rise),
      ap serial_of said ∙ sym end,
    )

block_stays : (front : Front) (b : Block) (oid : ℕ) (ds : List Data) → last front.history < b.tid → MissingIn front.records (records_place front.place b) b.tid oid ds → Stays front (after_in front b (Records ds)) oid
unfolding after_in
block_stays front b oid ds rise missing =
    let x = transaction_of front.records b ds in
    record {
      place_is = last_on_records oid 0 front.records (records_from front.records (records_place front.place b) ds) ∙ missing.place_is (last_place oid 0 (rows front.records));
      newest_is = newest_longer front.history b.status x oid ∙ ap (later (newest (revisions front.history) oid)) missing.newest_is;
      upto_is = λ t. upto_longer front.history b.status x t oid _ refl ∙ nothing_more (newest_upto front.history t oid) (newest (revisions_of x) oid) (nat_le b.tid t) missing.newest_is;
      later_is = λ t. omega (arith, later_longer front.history b.status x t oid);
      last_is = omega (arith, last_longer front.history b.status x, rise);
    }

-- each record has the place of the object's record before its transaction
previous_records : (place t : ℕ) (rs : List Row) (b : Block) (ds : List Data) → fault_in place t rs b (Records ds) ≡ None → (list_all (is_own b.tid place) ds ≡ true) × (list_all (has_prev rs) ds ≡ true)
unfolding fault_in
previous_records place t rs b ds e =
    let a = passed _ _ BadTid e in
    ((both_true _ _ a.0).1, (passed _ _ BadPrev a.1).0)

block_tells : (bytes : List ℕ) (front : Front) (b : Block) (oid : ℕ) (i : Inside) → b.inside ≡ i → front.place ≡ length bytes → FitsInside b.status i → fault_in front.place (last front.history) (rows front.records) b i ≡ None
    → Writes (bytes ++ block_spelling b) front (after_in front b i) oid ⊎ Stays front (after_in front b i) oid
unfolding after_in
block_tells bytes front b oid (Skipped area) is at fits right = inr (record { place_is = refl; newest_is = refl; upto_is = λ t. refl; later_is = λ t. omega arith; last_is = omega arith })
block_tells bytes front b oid (Records ds) is at fits right =
    let own = previous_records front.place (last front.history) (rows front.records) b ds right in
    let rise = rises front.place (last front.history) (rows front.records) b ds right in
    let spelled : drop (records_place front.place b) (bytes ++ block_spelling b) ≡ flat_map data_spelling ds ++ be64 b.tail = records_stand bytes b front.place at ∙ ap (λ (j : Inside). inside_spelling j ++ be64 b.tail) is in
    elim (last_in (bytes ++ block_spelling b) (be64 b.tail) front.records (records_place front.place b) b.tid front.place oid ds spelled fits.1 own.0 own.1) [
      | inl found ↦ inl (block_writes (bytes ++ block_spelling b) front b oid ds rise found)
      | inr missing ↦ inr (block_stays front b oid ds rise missing)
    ]

-- ---- blocks

file_is : (bs : List Block) → AreRight bs → IsFile (bytes_of bs) (front_of bs)
file_is bs right = record { blocks = bs; right = right; spelled = refl; said = refl }

one_more : (b : Block) (bs : List Block) (oid : ℕ) → AreRight (b ∷ bs) → Writes (bytes_of (b ∷ bs)) (front_of bs) (front_of (b ∷ bs)) oid ⊎ Stays (front_of bs) (front_of (b ∷ bs)) oid
one_more b bs oid right = block_tells (bytes_of bs) (front_of bs) b oid b.inside refl (file_place (bytes_of bs) (front_of bs) (file_is bs right.1)) right.0.fits.inside right.0.right

blocks_rise : (bs : List Block) → AreRight bs → RiseWithin 4 (front_of bs).place (front_of bs).records
blocks_rise bs right = (file_kept (bytes_of bs) (front_of bs) (file_is bs right)).rise

last_below : (oid found n end : ℕ) (es : List Earlier) → found < end → RiseWithin n end es → last_place oid found (rows es) < end
last_below oid found n end [] lt rise = lt
last_below oid found n end (e ∷ es) lt rise = last_below oid (cond (eqb e.at.oid oid) e.at.place found) (e.at.place + 1) end es (either (eqb e.at.oid oid)) rise.2
  where
    either : (b : Bool) → cond b e.at.place found < end
    either true = rise.1
    either false = lt

above_magic : (bs : List Block) → AreRight bs → 4 ≤ (front_of bs).place
above_magic bs right = rise_end 4 (front_of bs).place (front_of bs).records (blocks_rise bs right)

-- an object's last record stands before the end
place_below : (bs : List Block) (oid : ℕ) → AreRight bs → last_place oid 0 (rows (front_of bs).records) < (front_of bs).place
place_below bs oid right = last_below oid 0 4 (front_of bs).place (front_of bs).records (omega (arith, above_magic bs right)) (blocks_rise bs right)

serial_below : (bs : List Block) (oid : ℕ) → AreRight bs → serial (front_of bs).history oid ≤ last (front_of bs).history
serial_below [] oid right = omega arith
serial_below (b ∷ bs) oid right =
    elim (one_more b bs oid right) [
      | inl writes ↦ omega (arith, writes.2)
      | inr stays ↦ omega (arith, ap serial_of stays.newest_is, stays.last_is, serial_below bs oid right.1)
    ]

-- ---- what the blocks tell of an object

-- its last record leads back to what the older blocks say
record Found (bs : List Block) (oid : ℕ) : Type 0 where
  newer : List Block
  older : List Block
  split : newer ++ older ≡ bs
  leads : Leads (bytes_of bs) (front_of older) (front_of bs) oid

-- it has no record
record Lacks (front : Front) (oid : ℕ) : Type 0 where
  place_is : last_place oid 0 (rows front.records) ≡ 0
  newest_is : newest (revisions front.history) oid ≡ None
  upto_is : (t : ℕ) → newest_upto front.history t oid ≡ None

leads_longer : (bytes more : List ℕ) (front mid now : Front) (oid : ℕ) → last_place oid 0 (rows mid.records) ≤ length bytes → Leads bytes front mid oid → Stays mid now oid → Leads (bytes ++ more) front now oid
leads_longer bytes more front mid now oid le l s = record {
  from = omega (arith, l.from, s.place_is);
  written = l.written;
  behind = l.behind ++ more;
  fits = l.fits;
  spelled = ap (λ (n : ℕ). drop n (bytes ++ more)) s.place_is ∙ drop-append-le (last_place oid 0 (rows mid.records)) bytes more le ∙ ap (λ (x : List ℕ). x ++ more) l.spelled ∙ append_assoc (data_spelling l.written) l.behind more;
  previous = l.previous;
  value = l.value;
  newest_is = s.newest_is ∙ l.newest_is;
  upto_is = λ t late. s.upto_is t ∙ l.upto_is t late ∙ sym s.newest_is;
  before_is = λ t early. s.upto_is t ∙ l.before_is t early;
  fewer = λ t early. omega (arith, l.fewer t early, s.later_is t);
}

still_found : (b : Block) (bs : List Block) (oid : ℕ) → AreRight (b ∷ bs) → Stays (front_of bs) (front_of (b ∷ bs)) oid → Found bs oid → Found (b ∷ bs) oid
still_found b bs oid right stays found = record {
  newer = b ∷ found.newer;
  older = found.older;
  split = ap (λ (xs : List Block). b ∷ xs) found.split;
  leads = leads_longer (bytes_of bs) (block_spelling b) (front_of found.older) (front_of bs) (front_of (b ∷ bs)) oid (omega (arith, place_below bs oid right.1, file_place (bytes_of bs) (front_of bs) (file_is bs right.1))) found.leads stays;
}

still_lacks : (front now : Front) (oid : ℕ) → Stays front now oid → Lacks front oid → Lacks now oid
still_lacks front now oid stays lacks = record { place_is = stays.place_is ∙ lacks.place_is; newest_is = stays.newest_is ∙ lacks.newest_is; upto_is = λ t. stays.upto_is t ∙ lacks.upto_is t }

tell : (bs : List Block) (oid : ℕ) → AreRight bs → Found bs oid ⊎ Lacks (front_of bs) oid
tell [] oid right = inr (record { place_is = refl; newest_is = refl; upto_is = λ t. refl })
tell (b ∷ bs) oid right =
    elim (one_more b bs oid right) [
      | inl writes ↦ inl (record { newer = b ∷ []; older = bs; split = refl; leads = writes.0 })
      | inr stays ↦ elim (tell bs oid right.1) [
        | inl found ↦ inl (still_found b bs oid right stays found)
        | inr lacks ↦ inr (still_lacks (front_of bs) (front_of (b ∷ bs)) oid stays lacks)
      ]
    ]

-- ---- what a file tells, and what it told before its newer blocks

-- the bytes and the records of the older blocks stand at the front
bytes_behind : (newer older : List Block) → (more : List ℕ) × (bytes_of (newer ++ older) ≡ bytes_of older ++ more)
bytes_behind [] older = ([], sym (append-nil (bytes_of older)))
bytes_behind (b ∷ newer) older =
    let deeper = bytes_behind newer older in
    (deeper.0 ++ block_spelling b, ap (λ (x : List ℕ). x ++ block_spelling b) deeper.1 ∙ append_assoc (bytes_of older) deeper.0 (block_spelling b))

records_after : (front : Front) (b : Block) (i : Inside) → (more : List Earlier) × ((after_in front b i).records ≡ front.records ++ more)
unfolding after_in
records_after front b (Skipped area) = ([], sym (append-nil front.records))
records_after front b (Records ds) = (records_from front.records (records_place front.place b) ds, refl)

records_behind : (newer older : List Block) → (more : List Earlier) × ((front_of (newer ++ older)).records ≡ (front_of older).records ++ more)
records_behind [] older = ([], sym (append-nil (front_of older).records))
records_behind (b ∷ newer) older =
    let deeper = records_behind newer older in
    let last = records_after (front_of (newer ++ older)) b b.inside in
    (deeper.0 ++ last.0, last.1 ∙ ap (λ (es : List Earlier). es ++ last.0) deeper.1 ∙ append_assoc (front_of older).records deeper.0 last.0)

older_right : (newer older : List Block) → AreRight (newer ++ older) → AreRight older
older_right [] older right = right
older_right (b ∷ newer) older right = older_right newer older right.1

place_grows : (oid place : ℕ) (xs ys : List Earlier) → IsPlace xs oid place → IsPlace (xs ++ ys) oid place
place_grows oid place xs ys is = ap (list_any (is_row oid place)) (map-append (λ (e : Earlier). e.at) xs ys) ∙ list_any-append (is_row oid place) (rows xs) (rows ys) ∙ rw is refl

-- the object's last record is that of its newest revision
newest_stands : (bs : List Block) (oid : ℕ) (r : Revision) → AreRight bs → newest (revisions (front_of bs).history) oid ≡ Some r → IsPlace (front_of bs).records oid (last_place oid 0 (rows (front_of bs).records)) × (value_at (last_place oid 0 (rows (front_of bs).records)) (front_of bs).records ≡ r.value)
newest_stands bs oid r right e =
    let front = front_of bs in
    let stands = subst (λ (o : Option Revision). LastStands (bytes_of bs ++ []) front.records oid (last_place oid 0 (rows front.records)) o) e (last_stands (bytes_of bs) [] front (file_is bs right) oid) in
    (stands.0, stands.1.value)

before_place : (bs : List Block) (oid place : ℕ) (written : Data) → AreRight bs → written.prev ≡ last_place oid 0 (rows (front_of bs).records) → (front_of bs).place ≤ place → written.prev < place
before_place bs oid place written right e le = omega (arith, e, le, place_below bs oid right)

blocks_lead : (newer older : List Block) (rest : List ℕ) (oid : ℕ) → AreRight (newer ++ older) → Found older oid → LeadsBack (bytes_of (newer ++ older) ++ rest) (bytes_of (newer ++ older)) (front_of (newer ++ older)) (front_of older) oid (last_place oid 0 (rows (front_of older).records))
blocks_lead newer older rest oid right found =
    let at = front_of older in
    let front = front_of (newer ++ older) in
    let place = last_place oid 0 (rows at.records) in
    let l = found.leads in
    let right_at = older_right newer older right in
    let right_before : AreRight found.older = older_right found.newer found.older (subst AreRight (sym found.split) right_at) in
    let bytes = bytes_behind newer older in
    let records = records_behind newer older in
    let below : place ≤ length (bytes_of older) = omega (arith, place_below older oid right_at, file_place (bytes_of older) at (file_is older right_at)) in
    let last = newest_stands older oid (revision l.written.tid (oid, l.value)) right_at l.newest_is in
    let value : value_at place front.records ≡ l.value = ap (value_at place) records.1 ∙ value_grows oid place at.records records.0 last.0 ∙ last.1 in
    let split : (newer ++ found.newer) ++ found.older ≡ newer ++ older = append_assoc newer found.newer found.older ∙ ap (λ (bs : List Block). newer ++ bs) found.split in
    record {
      written = l.written;
      behind = l.behind ++ (bytes.0 ++ rest);
      fits = l.fits;
      spelled = ap (drop place) (ap (λ (x : List ℕ). x ++ rest) bytes.1 ∙ append_assoc (bytes_of older) bytes.0 rest) ∙ drop-append-le place (bytes_of older) (bytes.0 ++ rest) below ∙ ap (λ (x : List ℕ). x ++ (bytes.0 ++ rest)) l.spelled ∙ append_assoc (data_spelling l.written) l.behind (bytes.0 ++ rest);
      is_place = subst (λ (es : List Earlier). IsPlace es oid place) (sym records.1) (place_grows oid place at.records records.0 last.0);
      serial_is = ap serial_of l.newest_is;
      here = λ t late. l.upto_is t late ∙ l.newest_is ∙ ap (λ (v : Value). Some (revision l.written.tid (oid, v))) (sym value);
      earlier = front_of found.older;
      passed = record {
        newer = newer ++ found.newer;
        older = found.older;
        right = subst AreRight (sym split) right;
        spelled = ap bytes_of (sym split);
        said = ap front_of (sym split);
        then = refl;
      };
      there = l.before_is;
      fewer = l.fewer;
      previous = l.previous;
      before = before_place found.older oid place l.written right_before l.previous l.from;
    }

-- An object's last record, where it has one, leads back.
pub leads : (file rest : List ℕ) (front at : Front) (oid : ℕ) → Passed file front at → 0 < last_place oid 0 (rows at.records) → LeadsBack (file ++ rest) file front at oid (last_place oid 0 (rows at.records))
leads file rest front at oid p some =
    subst (λ (x : List ℕ). LeadsBack (x ++ rest) x front at oid (last_place oid 0 (rows at.records))) (sym p.spelled)
    (subst (λ (f : Front). LeadsBack (bytes_of (p.newer ++ p.older) ++ rest) (bytes_of (p.newer ++ p.older)) f at oid (last_place oid 0 (rows at.records))) (sym p.said)
    (subst (λ (f : Front). LeadsBack (bytes_of (p.newer ++ p.older) ++ rest) (bytes_of (p.newer ++ p.older)) (front_of (p.newer ++ p.older)) f oid (last_place oid 0 (rows f.records))) (sym p.then) at_older))
  where
    at_older : LeadsBack (bytes_of (p.newer ++ p.older) ++ rest) (bytes_of (p.newer ++ p.older)) (front_of (p.newer ++ p.older)) (front_of p.older) oid (last_place oid 0 (rows (front_of p.older).records))
    at_older =
        elim (tell p.older oid (older_right p.newer p.older p.right)) [
          | inl found ↦ blocks_lead p.newer p.older rest oid p.right found
          | inr lacks ↦ absurd (omega (arith, some, ap (λ (f : Front). last_place oid 0 (rows f.records)) p.then, lacks.place_is))
        ]

lacks_at : (file : List ℕ) (front at : Front) (oid : ℕ) → Passed file front at → last_place oid 0 (rows at.records) ≡ 0 → Lacks at oid
lacks_at file front at oid p none =
    subst (λ (f : Front). Lacks f oid) (sym p.then)
    (elim (tell p.older oid (older_right p.newer p.older p.right)) [
      | inl found ↦ absurd (omega (arith, none, ap (λ (f : Front). last_place oid 0 (rows f.records)) p.then, found.leads.from, above_magic found.older (older_right found.newer found.older (subst AreRight (sym found.split) (older_right p.newer p.older p.right)))))
      | inr lacks ↦ lacks
    ])

-- An object without a record has no revision.
pub none : (file : List ℕ) (front at : Front) (oid : ℕ) → Passed file front at → last_place oid 0 (rows at.records) ≡ 0 → (t : ℕ) → newest_upto at.history t oid ≡ None
none file front at oid p e = (lacks_at file front at oid p e).upto_is

pub none_at_all : (file : List ℕ) (front at : Front) (oid : ℕ) → Passed file front at → last_place oid 0 (rows at.records) ≡ 0 → newest (revisions at.history) oid ≡ None
none_at_all file front at oid p e = (lacks_at file front at oid p e).newest_is

-- ---- the file as it is, and one block longer

pub whole : (file : List ℕ) (front : Front) → IsFile file front → Passed file front front
whole file front is = record { newer = []; older = is.blocks; right = is.right; spelled = is.spelled; said = is.said; then = is.said }

pub is_file : (file : List ℕ) (front at : Front) → Passed file front at → IsFile file front
is_file file front at p = record { blocks = p.newer ++ p.older; right = p.right; spelled = p.spelled; said = p.said }

pub grows : (file : List ℕ) (front at : Front) (b : Block) → Passed file front at → IsRight front b → Passed (file ++ block_spelling b) (after front b) at
grows file front at b p right = record {
  newer = b ∷ p.newer;
  older = p.older;
  right = (subst (λ (f : Front). IsRight f b) p.said right, p.right);
  spelled = ap (λ (x : List ℕ). x ++ block_spelling b) p.spelled;
  said = ap (λ (f : Front). after f b) p.said;
  then = p.then;
}

-- ---- an object's last record and its serial, at two times

-- both are as they were, or both are greater
abbrev Moved : Front → Front → ℕ → Type 0
Moved at front oid =
    ((last_place oid 0 (rows at.records) ≡ last_place oid 0 (rows front.records)) × (serial at.history oid ≡ serial front.history oid))
    ⊎ ((last_place oid 0 (rows at.records) < last_place oid 0 (rows front.records)) × (serial at.history oid < serial front.history oid))

moved_on : (at front now : Front) (oid : ℕ) → Stays front now oid → Moved at front oid → Moved at now oid
moved_on at front now oid stays (inl same) = inl (same.0 ∙ sym stays.place_is, same.1 ∙ ap serial_of (sym stays.newest_is))
moved_on at front now oid stays (inr greater) = inr (omega (arith, greater.0, stays.place_is), omega (arith, greater.1, ap serial_of stays.newest_is))

not_less : (at front : Front) (oid : ℕ) → Moved at front oid → (last_place oid 0 (rows at.records) ≤ last_place oid 0 (rows front.records)) × (serial at.history oid ≤ serial front.history oid)
not_less at front oid (inl same) = (omega (arith, same.0), omega (arith, same.1))
not_less at front oid (inr greater) = (omega (arith, greater.0), omega (arith, greater.1))

moved : (newer older : List Block) (oid : ℕ) → AreRight (newer ++ older) → Moved (front_of older) (front_of (newer ++ older)) oid
moved [] older oid right = inl (refl, refl)
moved (b ∷ newer) older oid right =
    let bs = newer ++ older in
    let deeper = moved newer older oid right.1 in
    let low = not_less (front_of older) (front_of bs) oid deeper in
    elim (one_more b bs oid right) [
      | inl writes ↦ inr (omega (arith, low.0, place_below bs oid right.1, writes.0.from), omega (arith, low.1, serial_below bs oid right.1, writes.1, writes.2))
      | inr stays ↦ moved_on (front_of older) (front_of bs) (front_of (b ∷ bs)) oid stays deeper
    ]

has_moved : (file : List ℕ) (front at : Front) (oid : ℕ) → Passed file front at → Moved at front oid
has_moved file front at oid p =
    subst (λ (f : Front). Moved f front oid) (sym p.then) (subst (λ (f : Front). Moved (front_of p.older) f oid) (sym p.said) (moved p.newer p.older oid p.right))

-- An object whose last record stands where it stood has the serial that it had.
pub same : (file : List ℕ) (front at : Front) (oid : ℕ) → Passed file front at → last_place oid 0 (rows at.records) ≡ last_place oid 0 (rows front.records) → serial at.history oid ≡ serial front.history oid
same file front at oid p e =
    elim (has_moved file front at oid p) [
      | inl both ↦ both.1
      | inr greater ↦ absurd (omega (arith, e, greater.0))
    ]

-- Any other has a later one.
pub other : (file : List ℕ) (front at : Front) (oid : ℕ) → Passed file front at → last_place oid 0 (rows at.records) ≢ last_place oid 0 (rows front.records) → serial at.history oid < serial front.history oid
other file front at oid p differs =
    elim (has_moved file front at oid p) [
      | inl both ↦ absurd (differs both.0)
      | inr greater ↦ greater.1
    ]
