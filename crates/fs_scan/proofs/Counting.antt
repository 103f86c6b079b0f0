-- The objects that have a value, counted by each object's last record.
use Rattle.std.proofs.Common.{◌≡◌, ℕ, ◌+◌, ◌-◌, ◌<◌, ◌≤◌, IfSome, Bool, true, false, cond, eqb, ◌&&◌, ◌||◌, List, [], ◌∷◌, ◌++◌, length, map, filter, Option, Some, None, refl, sym, ap, subst, ◌∙◌, arith, inl, inr}
use Rattle.std.specs.Prelude.{◌⊎◌, ◌==◌, find, option_map, if◌then◌else◌}
use Rattle.std.specs.Option.{is_some}
use Rattle.std.specs.List.{list_any, AllByRecursion}
use Rattle.std.proofs.lemmas.List.{length-append, length-map}
use Rattle.std.proofs.lemmas.Bool.{eqb-true, eq-eqb, ne_eqb, false≢true}
use Rattle.zdisk.specs.Disk.{Told, content}
use Rattle.zbase.specs.Values.{Revision, revisions, newest, value_of, value}
use Rattle.zbase.specs.declared.ids.Row.{Row}
use Rattle.fs_record.specs.File.{Earlier, Front, rows, is_row}
use Rattle.fs_record.specs.Opening.{Cut}
use Rattle.fs_record.specs.Standing.{IsRevision, LastStands}
use Rattle.fs_record.specs.StandingLaws.{each_stands, last_stands}
use Rattle.fs_scan.specs.declared.opening.Tally.{Tally}
use Rattle.fs_scan.specs.declared.checking.Checked.{Checked}
use Rattle.fs_index.specs.Listed.{OidsRiseFrom, place_for}
use Rattle.fs_index.specs.Places.{place_of}
use Rattle.fs_scan.specs.Keeping.{Keeping, PlacesRise, rows_on, starts}
use Rattle.fs_scan.specs.Newest.{IsNewest, last_row, place_in}
use Rattle.fs_scan.specs.Present.{AllStand, ArePlaces, is_present, means_value, IdsRiseFrom, HaveValues}
use Rattle.fs_scan.specs.Scanned.{Reaches}
use Rattle.fs_scan.specs.Checked.{Checks}
use Rattle.fs_scan.proofs.KeptPlaces.{row_place}
use Rattle.fs_scan.proofs.LastRows.{last_count, last_rise, last_rows, places_there, turned}

all_stand : (bytes : List ℕ) (front : Front) (n : ℕ) → Cut bytes front n → AllStand bytes front.records
all_stand bytes front n cut = λ oid place is. subst (λ (b : List ℕ). (r : Revision) × IsRevision b front.records oid place r) (sym cut.1.joined) (each_stands cut.1.file cut.0 front cut.1.is_file oid place is)

-- ---- each object's last record

or_true : (a b : Bool) → b ≡ true → (a || b) ≡ true
or_true true b e = refl
or_true false b e = e

same_row : (oid p : ℕ) (row : Row) → eqb row.oid oid ≡ true → row.place ≡ p → is_row oid p row ≡ true
same_row oid p row is at = rw (is, eq-eqb row.place p at) refl

there_if : (oid p : ℕ) (found : Option ℕ) (row : Row) (rest : Bool) (here : Bool) → eqb row.oid oid ≡ here → (cond here (Some row.place) found ≡ Some p) ⊎ (rest ≡ true) → (found ≡ Some p) ⊎ ((is_row oid p row || rest) ≡ true)
there_if oid p found row rest here is (inr any) = inr (or_true (is_row oid p row) rest any)
there_if oid p found row rest false is (inl e) = inl e
there_if oid p found row rest true is (inl e) = inr (rw (same_row oid p row is (let same : Some row.place ≡ Some p = e in cc)) refl)

-- the last record was found before, or is there
last_there : (oid p : ℕ) (found : Option ℕ) (all : List Row) → last_row oid found all ≡ Some p → (found ≡ Some p) ⊎ (list_any (is_row oid p) all ≡ true)
last_there oid p found [] e = inl e
last_there oid p found (row ∷ all) e = there_if oid p found row (list_any (is_row oid p) all) _ refl (last_there oid p (if row.oid == oid then Some row.place else found) all e)

is_there : (oid p : ℕ) (all : List Row) → last_row oid None all ≡ Some p → list_any (is_row oid p) all ≡ true
is_there oid p all e = pick (last_there oid p None all e)
  where
    pick : (None ≡ Some p) ⊎ (list_any (is_row oid p) all ≡ true) → list_any (is_row oid p) all ≡ true
    pick (inl none) = cc
    pick (inr any) = any

still_if : (oid p q : ℕ) (all : List Row) (here : Bool) → ((r : ℕ) → last_row oid (Some r) all ≡ None → ⊥) → last_row oid (cond here (Some q) (Some p)) all ≡ None → ⊥
still_if oid p q all true deeper e = deeper q e
still_if oid p q all false deeper e = deeper p e

-- what was found stays found
still : (oid p : ℕ) (all : List Row) → last_row oid (Some p) all ≡ None → ⊥
still oid p [] e = cc
still oid p (row ∷ all) e = still_if oid p row.place all (eqb row.oid oid) (λ r. still oid r all) e

none_there_if : (oid p : ℕ) (row : Row) (all : List Row) (here : Bool) → eqb row.oid oid ≡ here → last_row oid (cond here (Some row.place) None) all ≡ None → ((here && eqb row.place p) || list_any (is_row oid p) all) ≡ true → (last_row oid None all ≡ None → list_any (is_row oid p) all ≡ true → ⊥) → ⊥
none_there_if oid p row all true is e any deeper = still oid row.place all e
none_there_if oid p row all false is e any deeper = deeper e any

-- an object without a last record has none
none_there : (oid p : ℕ) (all : List Row) → last_row oid None all ≡ None → list_any (is_row oid p) all ≡ true → ⊥
none_there oid p [] e any = false≢true any
none_there oid p (row ∷ all) e any = none_there_if oid p row all _ refl e any (none_there oid p all)

-- ---- rows by rising object ids

abbrev HavePlaces : List Row → List Row → Type 0
HavePlaces all = AllByRecursion (λ row. place_for row.oid all ≡ Some row.place)

past : (x : Row) (n : ℕ) (all rs : List Row) → x.oid < n → OidsRiseFrom n rs → HavePlaces all rs → HavePlaces (x ∷ all) rs
past x n all [] lt rise each = tt
past x n all (r ∷ rs) lt rise each = (rw (ne_eqb r.oid x.oid (λ same. omega (arith, same, rise.0))) each.0, past x (r.oid + 1) all rs (omega (arith, rise.0)) rise.1 each.1)

have_places : (n : ℕ) (rs : List Row) → OidsRiseFrom n rs → HavePlaces rs rs
have_places n [] rise = tt
have_places n (r ∷ rs) rise = (rw (eq-eqb r.oid r.oid refl) refl, past r (r.oid + 1) rs rs (omega arith) rise.1 (have_places (r.oid + 1) rs rise.1))

absent : (o n : ℕ) (rs : List Row) → OidsRiseFrom n rs → o < n → place_for o rs ≡ None
absent o n [] rise lt = refl
absent o n (r ∷ rs) rise lt = rw (ne_eqb o r.oid (λ same. omega (arith, same, rise.0))) (absent o (r.oid + 1) rs rise.1 (omega (arith, rise.0)))

places_in : (records : List Earlier) (newest rs : List Row) → ((oid : ℕ) → place_for oid newest ≡ last_row oid None (rows records)) → HavePlaces newest rs → ArePlaces records rs
places_in records newest [] each have = tt
places_in records newest (r ∷ rs) each have = (is_there r.oid r.place (rows records) (sym (each r.oid) ∙ have.0), places_in records newest rs each have.1)

-- each object's last data record, by rising ids
record AreNewest (all newest : List Row) : Type 0 where
  rise : OidsRiseFrom 0 newest
  each : (oid : ℕ) → place_for oid newest ≡ last_row oid None all

-- each row of the last records is a record's
are_places : (records : List Earlier) (newest : List Row) → AreNewest (rows records) newest → ArePlaces records newest
are_places records newest are = places_in records newest newest are.each (have_places 0 newest are.rise)

-- ---- which objects have a value

-- what is told of an object's last record
abbrev told : (ℕ → Bool) → Option ℕ → Bool
told means None = false
told means (Some place) = means place

abbrev oids_of : (ℕ → Bool) → List Row → List ℕ
oids_of means rs = map (λ (row : Row). row.oid) (filter (λ (row : Row). means row.place) rs)

any_if : (o : ℕ) (row : Row) (means : ℕ → Bool) (fs : List Row) (found : Option Row) (here has : Bool) → eqb row.oid o ≡ here → means row.place ≡ has → (here ≡ true → option_map (λ (row : Row). row.place) found ≡ None)
    → list_any (λ x. x == o) (map (λ (row : Row). row.oid) fs) ≡ told means (option_map (λ (row : Row). row.place) found)
    → list_any (λ x. x == o) (map (λ (row : Row). row.oid) (cond has (row ∷ fs) fs)) ≡ told means (option_map (λ (row : Row). row.place) (cond here (Some row) found))
any_if o row means fs found true true is has none same = rw is (sym has)
any_if o row means fs found false true is has none same = rw is same
any_if o row means fs found true false is has none same = same ∙ ap (told means) (none refl) ∙ sym has
any_if o row means fs found false false is has none same = same

-- an object is among those whose last record means a value, exactly where its own does
any_oid : (o n : ℕ) (means : ℕ → Bool) (rs : List Row) → OidsRiseFrom n rs → list_any (λ x. x == o) (oids_of means rs) ≡ told means (place_for o rs)
any_oid o n means [] rise = refl
any_oid o n means (row ∷ rs) rise =
    any_if o row means (filter (λ (row : Row). means row.place) rs) (find (λ (row : Row). o == row.oid) rs) (eqb o row.oid) (means row.place) (turned row.oid o) refl
    (λ here. absent o (row.oid + 1) rs rise.1 (omega (arith, eqb-true o row.oid here)))
    (any_oid o (row.oid + 1) means rs rise.1)

ids_rise_if : (n : ℕ) (row : Row) (fs : List Row) (has : Bool) → n ≤ row.oid → ((m : ℕ) → m ≤ row.oid + 1 → IdsRiseFrom m (map (λ (row : Row). row.oid) fs)) → IdsRiseFrom n (map (λ (row : Row). row.oid) (cond has (row ∷ fs) fs))
ids_rise_if n row fs true le rest = (le, rest (row.oid + 1) (omega arith))
ids_rise_if n row fs false le rest = rest n (omega arith)

ids_rise : (n m : ℕ) (means : ℕ → Bool) (rs : List Row) → OidsRiseFrom n rs → m ≤ n → IdsRiseFrom m (oids_of means rs)
ids_rise n m means [] rise le = tt
ids_rise n m means (row ∷ rs) rise le = ids_rise_if m row (filter (λ (row : Row). means row.place) rs) (means row.place) (omega (arith, rise.0)) (λ k below. ids_rise (row.oid + 1) k means rs rise.1 below)

value_by : (bytes : List ℕ) (records : List Earlier) (o : ℕ) (found : Option ℕ) (last : Option Revision) → last_row o None (rows records) ≡ found → LastStands bytes records o (place_in found) last → is_some (value_of last) ≡ told (means_value records) found
value_by bytes records o None None e says = refl
value_by bytes records o None (Some r) e says = absurd (none_there o 0 (rows records) e says.0)
value_by bytes records o (Some p) None e says = absurd (says.1 p (is_there o p (rows records) e))
value_by bytes records o (Some p) (Some r) e says = ap is_some (sym says.1.value)

-- an object's value is that of its last record
value_told : (bytes : List ℕ) (front : Front) (n o : ℕ) → Cut bytes front n → is_some (value front.history o) ≡ told (means_value front.records) (last_row o None (rows front.records))
value_told bytes front n o cut =
    value_by (cut.1.file ++ cut.0) front.records o _ (newest (revisions front.history) o) refl
    (subst (λ (p : ℕ). LastStands (cut.1.file ++ cut.0) front.records o p (newest (revisions front.history) o)) (sym (row_place o None (rows front.records))) (last_stands cut.1.file cut.0 front cut.1.is_file o))

have_values : (bytes : List ℕ) (front : Front) (n : ℕ) (rs : List Row) → Cut bytes front n → AreNewest (rows front.records) rs → HaveValues front.history (length (filter (λ (row : Row). means_value front.records row.place) rs))
have_values bytes front n rs cut are = record {
  oids = oids_of (means_value front.records) rs;
  rise = ids_rise 0 0 (means_value front.records) rs are.rise (omega arith);
  each = λ o. value_told bytes front n o cut ∙ ap (told (means_value front.records)) (sym (are.each o)) ∙ sym (any_oid o 0 (means_value front.records) rs are.rise);
  count = sym (length-map (filter (λ (row : Row). means_value front.records row.place) rs) (λ (row : Row). row.oid));
}

starts_on : (bytes ps : List ℕ) → starts (rows_on bytes ps) ≡ ps
starts_on bytes [] = refl
starts_on bytes (p ∷ ps) = ap (λ (rest : List ℕ). p ∷ rest) (starts_on bytes ps)

-- what a scan came to, with the number of records that are their objects' last ones and mean a value
checks_told : (bytes : List ℕ) (t : Tally) (kept : Keeping) (c : Checked) → Reaches bytes t kept → PlacesRise 0 kept.places → ((records : List Earlier) → AllStand bytes records → rows records ≡ rows_on bytes kept.places → c.objects ≡ length (filter (is_present records kept.newest) (rows records)))
    → c.end ≡ t.at → c.torn ≡ length bytes - t.at → c.last ≡ t.last → c.transactions ≡ t.count → Checks bytes c
checks_told bytes t kept c r rise counted end torn last count =
    let all = all_stand bytes r.front t.at r.cut in
    let records = r.front.records in
    let newest : IsNewest (rows records) kept.newest = subst (λ (rs : List Row). IsNewest rs kept.newest) (sym r.records) r.keeps.newest_of in
    let are : AreNewest (rows records) (last_rows (rows records)) = record { rise = last_rise (rows records); each = λ o. places_there o (rows records) } in
    let places : PlacesRise 0 (starts (rows records)) = subst (λ (rs : List Row). PlacesRise 0 (starts rs)) (sym r.records) (subst (PlacesRise 0) (sym (starts_on bytes kept.places)) rise) in
    let same : length (filter (λ (row : Row). means_value records row.place) (last_rows (rows records))) ≡ length (filter (is_present records kept.newest) (rows records)) =
    last_count (means_value records) (place_of kept.newest) (λ o. None) 0 (rows records) places newest in
    record {
      front = r.front;
      cut = subst (Cut bytes r.front) (sym end) r.cut;
      torn = omega (arith, end, torn, r.cut.1.at, ap length r.cut.1.joined, length-append r.cut.1.file r.cut.0);
      last = last ∙ r.last;
      transactions = count ∙ r.count;
      objects = subst (HaveValues r.front.history) (same ∙ sym (counted records all r.records)) (have_values bytes r.front t.at (last_rows (rows records)) r.cut are);
    }

-- the same, where the disk tells
pub checks : (disk given again : Option Told) (len : ℕ) (t : Tally) (kept : Keeping) (c : Checked) → given ≡ disk → again ≡ disk → IfSome disk (λ told. len ≡ length (content told)) → IfSome given (λ told. Reaches (content told) t kept) → PlacesRise 0 kept.places
    → IfSome again (λ told. (records : List Earlier) → AllStand (content told) records → rows records ≡ rows_on (content told) kept.places → c.objects ≡ length (filter (is_present records kept.newest) (rows records)))
    → c.end ≡ t.at → c.torn ≡ len - t.at → c.last ≡ t.last → c.transactions ≡ t.count → IfSome disk (λ told. Checks (content told) c)
checks None given again len t kept c same still long reached rise counted end torn last count = tt
checks (Some told) given again len t kept c same still long reached rise counted end torn last count =
    checks_told (content told) t kept c (subst (λ (g : Option Told). IfSome g (λ x. Reaches (content x) t kept)) same reached) rise
    (subst (λ (g : Option Told). IfSome g (λ x. (records : List Earlier) → AllStand (content x) records → rows records ≡ rows_on (content x) kept.places → c.objects ≡ length (filter (is_present records kept.newest) (rows records)))) still counted)
    end (torn ∙ ap (λ (n : ℕ). n - t.at) long) last count
