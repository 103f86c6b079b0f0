-- Steps of loops over a slice.
use Rattle.std.proofs.Common.{◌≡◌, ℕ, suc, ◌+◌, ◌<◌, ◌≤◌, ◌==◌, Bool, List, [], ◌∷◌, length, drop, get_or, Option, None, Some, sym, ap, ap₂, ◌∙◌, add-one, drop-cons, refl, arith, ne_eqb, if◌then◌else◌}
use Rattle.std.proofs.lemmas.List.{drop_all, length-map}
use Rattle.zbase.specs.History.{Value}
use Rattle.fs_index.specs.Places.{known}
use Rattle.fs_record.specs.Sizes.{record_size}
use Rattle.fs_record.specs.declared.body.Item.{Item}
use Rattle.fs_record.specs.declared.layout.TheConstants.{DATA_HEAD_LEN}
use Rattle.fs_scan.specs.Wholes.{records_in}
use Rattle.fs_scan.specs.declared.wholes.OidValue.{OidValue}
use Rattle.packing.specs.Reachable.{Linking, links_in, spells_none}
use Rattle.packing.specs.Sizes.{value_size}
use Rattle.fs_pack.specs.Marked.{added, all_added, broken_by}
use Rattle.fs_pack.specs.Measured.{fitting, plus, plus_records}
use Rattle.fs_pack.specs.MeasuredLaws.{plus_fits}
use Rattle.fs_pack.specs.Numbered.{last_number, oids_of}
use Rattle.fs_pack.specs.Output.{noted}
use Rattle.fs_pack.specs.Surveyed.{failing, seeded}

-- the item at the front of the rest
pub here : {X : Type 0} (xs : List X) (i : ℕ) (x : X) → x ≡ get_or xs i x → i < length xs → drop i xs ≡ x ∷ drop (i + 1) xs
here xs i x is lt = rw add-one (drop-cons xs i x lt ∙ ap (λ y. y ∷ drop (suc i) xs) (sym is))

-- ---- numbers

is_known : (n : ℕ) → known (n + 1) ≡ Some (n + 1)
is_known n = ap (λ (b : Bool). if b then None else Some (n + 1)) (ne_eqb (n + 1) 0 (λ e. omega (arith, e)))

pub number_step : (o n i : ℕ) (values : List OidValue) (v : OidValue) (old kept new all : Option ℕ) → v ≡ get_or values i v → i < length values → kept ≡ old → new ≡ (if v.oid == o then known (n + 1) else kept)
    → last_number o old n (oids_of (records_in (drop i values))) ≡ all → last_number o new (n + 1) (oids_of (records_in (drop (i + 1) values))) ≡ all
number_step o n i values v old kept new all is lt same put so_far =
    ap (λ (f : Option ℕ). last_number o f (n + 1) (oids_of (records_in (drop (i + 1) values)))) (put ∙ ap₂ (λ (k g : Option ℕ). if v.oid == o then k else g) (is_known n) same)
    ∙ sym (ap (λ (vs : List OidValue). last_number o old n (oids_of (records_in vs))) (here values i v is lt)) ∙ so_far

-- none is left
pub none_left : (i : ℕ) (values : List OidValue) → length values ≤ i → drop i values ≡ []
none_left i values le = drop_all i values le

pub all_numbered : (values : List OidValue) → length (oids_of (records_in values)) ≡ length values
all_numbered values = length-map (records_in values) (λ (r : ℕ × Value). r.0) ∙ length-map values (λ (v : OidValue). (v.oid, v.value))

-- ---- seeds

pub seed_step : (links : Linking) (i : ℕ) (values : List OidValue) (v : OidValue) (old kept new all : List ℕ) → v ≡ get_or values i v → i < length values → kept ≡ added v.oid old → new ≡ all_added (links_in links v.value) kept
    → seeded links (records_in (drop i values)) old ≡ all → seeded links (records_in (drop (i + 1) values)) new ≡ all
seed_step links i values v old kept new all is lt one more so_far =
    ap (seeded links (records_in (drop (i + 1) values))) (more ∙ ap (all_added (links_in links v.value)) one)
    ∙ sym (ap (λ (vs : List OidValue). seeded links (records_in vs) old) (here values i v is lt)) ∙ so_far

pub fail_step : (links : Linking) (i : ℕ) (values : List OidValue) (v : OidValue) (none : Bool) (old new all : Option ℕ) → v ≡ get_or values i v → i < length values → none ≡ spells_none links v.value → new ≡ broken_by none v.oid old
    → failing links (records_in (drop i values)) old ≡ all → failing links (records_in (drop (i + 1) values)) new ≡ all
fail_step links i values v none old new all is lt none_is by so_far =
    ap (failing links (records_in (drop (i + 1) values))) (by ∙ ap (λ (b : Bool). broken_by b v.oid old) none_is)
    ∙ sym (ap (λ (vs : List OidValue). failing links (records_in vs) old) (here values i v is lt)) ∙ so_far

-- ---- sizes

plus_twice : (s : Option ℕ) (m n : ℕ) → plus (plus s m) n ≡ plus s (m + n)
plus_twice None m n = refl
plus_twice (Some k) m n =
    let same : k + m + n ≡ k + (m + n) = omega arith in
    plus_fits (k + m) n ∙ ap fitting same

pub size_step : (i : ℕ) (values : List OidValue) (v : OidValue) (old one new all : Option ℕ) (size : ℕ) → v ≡ get_or values i v → i < length values → one ≡ plus old DATA_HEAD_LEN → size ≡ value_size v.value → new ≡ plus one size
    → plus_records old (records_in (drop i values)) ≡ all → plus_records new (records_in (drop (i + 1) values)) ≡ all
size_step i values v old one new all size is lt first long both so_far =
    ap (λ (s : Option ℕ). plus_records s (records_in (drop (i + 1) values))) (both ∙ ap₂ plus first long ∙ plus_twice old DATA_HEAD_LEN (value_size v.value))
    ∙ sym (ap (λ (vs : List OidValue). plus_records old (records_in vs)) (here values i v is lt)) ∙ so_far

-- ---- places

pub noted_step : (o place next i : ℕ) (items : List Item) (item : Item) (old kept new all : Option ℕ) → item ≡ get_or items i item → i < length items → kept ≡ old → new ≡ (if item.oid == o then known place else kept) → next ≡ place + record_size item
    → noted o old place (drop i items) ≡ all → noted o new next (drop (i + 1) items) ≡ all
noted_step o place next i items item old kept new all is lt same put behind so_far =
    ap₂ (λ (f : Option ℕ) (n : ℕ). noted o f n (drop (i + 1) items)) (put ∙ ap (λ (k : Option ℕ). if item.oid == o then known place else k) same) behind
    ∙ sym (ap (noted o old place) (here items i item is lt)) ∙ so_far

pub no_item : (i : ℕ) (items : List Item) → length items ≤ i → drop i items ≡ []
no_item i items le = drop_all i items le
