-- The values of a transaction's data records, read with their back pointers followed.
use Rattle.std.proofs.Common.{◌≡◌, ℕ, ◌+◌, ◌<◌, ◌≤◌, Bool, true, false, ◌&&◌, List, [], ◌∷◌, ◌++◌, length, drop, Option, Some, None, IfSome, refl, sym, ap, subst, ◌∙◌, arith}
use Rattle.std.specs.List.{list_all}
use Rattle.std.proofs.lemmas.List.{map-append}
use Rattle.std.proofs.lemmas.List.Folds.{list_all-append}
use Rattle.std.proofs.lemmas.Bool.{false≢true}
use Rattle.zdisk.specs.Disk.{Told, content}
use Rattle.zbase.specs.History.{Value}
use Rattle.fs_record.specs.Spelling.{Data}
use Rattle.fs_record.specs.File.{Earlier, has_body, rows, value_of, values_of}
use Rattle.fs_record.specs.declared.body.Body.{Body}
use Rattle.fs_record.specs.declared.body.Body.TheVariants.{Back, Full}
use Rattle.fs_scan.specs.declared.data.Found.{Found}
use Rattle.fs_scan.specs.Backs.{CostsBodies, CostsBody}
use Rattle.fs_scan.specs.declared.wholes.OidValue.{OidValue}
use Rattle.fs_scan.specs.Found.{DataStands, NoData, data_in}
use Rattle.fs_scan.specs.Followed.{MeansValues}
use Rattle.fs_scan.specs.Marked.{AreRecords}
use Rattle.fs_scan.specs.Present.{AllStand}
use Rattle.fs_scan.specs.Wholes.{records_in}
use Rattle.fs_scan.proofs.Walking.{same_ds}
use Rattle.fs_scan.proofs.OneByOne.{StandTo, none_yet, stands_more, all_stand, none_stand}

-- ---- one record

-- what a value has to be, where the disk tells: what the record means by the records that stand
abbrev pub Means : Option Told → Found → List ℕ → Value → Type 0
Means disk f rest v = IfSome disk (λ told. (records : List Earlier) → AllStand (content told) records → has_body (rows records) (data_in f rest) ≡ true → v ≡ value_of records (data_in f rest).body)

-- and what it may have cost
abbrev pub Costs : Option Told → Found → List ℕ → ℕ → ℕ → Type 0
Costs disk f rest calls more = IfSome disk (λ told. (records : List Earlier) → AllStand (content told) records → has_body (rows records) (data_in f rest) ≡ true → CostsBody (content told) (data_in f rest).body calls more)

-- ---- costs

-- nothing was called
pub free : (bytes : List ℕ) (ds : List Data) (calls more : ℕ) → more ≤ calls → CostsBodies bytes ds calls more
free bytes [] calls more le = le
free bytes (d ∷ ds) calls more le = (calls, here d.body, free bytes ds calls more le)
  where
    here : (body : Body) → CostsBody bytes body calls calls
    here (Full value) = omega arith
    here (Back place) = (0, place, refl, omega arith)

one_dearer : (bytes : List ℕ) (body : Body) (calls now more : ℕ) → now ≤ calls → CostsBody bytes body now more → CostsBody bytes body calls more
one_dearer bytes (Full value) calls now more le costs = omega (arith, le, costs)
one_dearer bytes (Back place) calls now more le costs = (costs.0, costs.1, costs.2, omega (arith, le, costs.3))

-- from an earlier count on
pub dearer : (bytes : List ℕ) (ds : List Data) (calls now more : ℕ) → now ≤ calls → CostsBodies bytes ds now more → CostsBodies bytes ds calls more
dearer bytes [] calls now more le costs = omega (arith, le, costs)
dearer bytes (d ∷ ds) calls now more le costs = (costs.0, one_dearer bytes d.body calls now costs.0 le costs.1, costs.2)

one_more_cost : (bytes : List ℕ) (ds : List Data) (d : Data) (calls now more : ℕ) → CostsBodies bytes ds calls now → CostsBody bytes d.body now more → CostsBodies bytes (ds ++ d ∷ []) calls more
one_more_cost bytes [] d calls now more le costs = (more, one_dearer bytes d.body calls now more le costs, omega arith)
one_more_cost bytes (e ∷ ds) d calls now more had costs = (had.0, had.1, one_more_cost bytes ds d had.0 now more had.2 costs)

-- ---- one record after another

pair_of : ℕ → Value → ℕ × Value
pair_of o v = (o, v)

same_pair : (o o' : ℕ) (v v' : Value) → o ≡ o' → v ≡ v' → pair_of o v ≡ pair_of o' v'
same_pair o o' v v' a b = cc

one_more : (values : List OidValue) (v : OidValue) (ds : List Data) (d : Data) (earlier : List Earlier) → records_in values ≡ values_of earlier ds → v.oid ≡ d.oid → v.value ≡ value_of earlier d.body → records_in (values ++ v ∷ []) ≡ values_of earlier (ds ++ d ∷ [])
unfolding pair_of
one_more values v ds d earlier e o x =
    map-append (λ (w : OidValue). (w.oid, w.value)) values (v ∷ [])
    ∙ ap (λ (z : List (ℕ × Value)). z ++ (v.oid, v.value) ∷ []) e
    ∙ ap (λ (p : ℕ × Value). values_of earlier ds ++ p ∷ []) (same_pair v.oid d.oid v.value (value_of earlier d.body) o x)
    ∙ sym (map-append (λ (g : Data). (g.oid, value_of earlier g.body)) ds (d ∷ []))

-- the values of the records up to at, and what they have cost
pub record ValuesTo (disk : Option Told) (area : List ℕ) (at : ℕ) (values : List OidValue) (calls now : ℕ) : Type 0 where
  pub ds : List Data
  pub stand : StandTo area at ds
  pub said : IfSome disk (λ told. (records : List Earlier) → AllStand (content told) records → list_all (has_body (rows records)) ds ≡ true → records_in values ≡ values_of records ds)
  pub costs : IfSome disk (λ told. (records : List Earlier) → AllStand (content told) records → list_all (has_body (rows records)) ds ≡ true → CostsBodies (content told) ds calls now)

pub no_value : (disk : Option Told) (area : List ℕ) (values : List OidValue) (calls : ℕ) → values ≡ [] → ValuesTo disk area 0 values calls calls
no_value disk area values calls e = record { ds = []; stand = none_yet area; said = nothing disk; costs = uncalled disk }
  where
    uncalled : (d : Option Told) → IfSome d (λ told. (records : List Earlier) → AllStand (content told) records → list_all (has_body (rows records)) [] ≡ true → CostsBodies (content told) [] calls calls)
    uncalled None = tt
    uncalled (Some told) = λ records stand right. omega arith

    nothing : (d : Option Told) → IfSome d (λ told. (records : List Earlier) → AllStand (content told) records → list_all (has_body (rows records)) [] ≡ true → records_in values ≡ values_of records [])
    nothing None = tt
    nothing (Some told) = λ records stand right. ap records_in e

both_true : (a b : Bool) → (a && b) ≡ true → (a ≡ true) × (b ≡ true)
both_true true b e = (refl, e)
both_true false b e = absurd (false≢true e)

first_true : (a : Bool) → (a && true) ≡ true → a ≡ true
first_true true e = refl
first_true false e = absurd (false≢true e)

pub one_more_value : (disk : Option Told) (area rest : List ℕ) (at : ℕ) (values after : List OidValue) (f : Found) (v : OidValue) (calls now more : ℕ) → ValuesTo disk area at values calls now → rest ≡ drop at area → DataStands (data_in f rest) rest (drop f.size rest)
    → f.size ≤ length rest → v.oid ≡ f.head.oid → Means disk f rest v.value → Costs disk f rest now more → after ≡ values ++ v ∷ [] → ValuesTo disk area (at + f.size) after calls more
one_more_value disk area rest at values after f v calls now more r e s fits oid means cost added = record {
  ds = r.ds ++ data_in f rest ∷ [];
  stand = stands_more area at f.size r.ds (data_in f rest) r.stand (subst (λ (x : List ℕ). DataStands (data_in f rest) x (drop f.size x)) e s) (subst (λ (x : List ℕ). f.size ≤ length x) e fits);
  said = by_disk disk r.said means;
  costs = costs_more disk r.costs cost;
}
  where
    costs_more : (d : Option Told) → IfSome d (λ told. (records : List Earlier) → AllStand (content told) records → list_all (has_body (rows records)) r.ds ≡ true → CostsBodies (content told) r.ds calls now) → Costs d f rest now more
        → IfSome d (λ told. (records : List Earlier) → AllStand (content told) records → list_all (has_body (rows records)) (r.ds ++ data_in f rest ∷ []) ≡ true → CostsBodies (content told) (r.ds ++ data_in f rest ∷ []) calls more)
    costs_more None had one = tt
    costs_more (Some told) had one = λ records stand right.
        let parts = both_true (list_all (has_body (rows records)) r.ds) (list_all (has_body (rows records)) (data_in f rest ∷ [])) (sym (list_all-append (has_body (rows records)) r.ds (data_in f rest ∷ [])) ∙ right) in
        one_more_cost (content told) r.ds (data_in f rest) calls now more (had records stand parts.0) (one records stand (first_true (has_body (rows records) (data_in f rest)) parts.1))

    by_disk : (d : Option Told) → IfSome d (λ told. (records : List Earlier) → AllStand (content told) records → list_all (has_body (rows records)) r.ds ≡ true → records_in values ≡ values_of records r.ds) → Means d f rest v.value
        → IfSome d (λ told. (records : List Earlier) → AllStand (content told) records → list_all (has_body (rows records)) (r.ds ++ data_in f rest ∷ []) ≡ true → records_in after ≡ values_of records (r.ds ++ data_in f rest ∷ []))
    by_disk None said m = tt
    by_disk (Some told) said m = λ records stand right.
        let parts = both_true (list_all (has_body (rows records)) r.ds) (list_all (has_body (rows records)) (data_in f rest ∷ [])) (sym (list_all-append (has_body (rows records)) r.ds (data_in f rest ∷ [])) ∙ right) in
        ap records_in added ∙ one_more values v r.ds (data_in f rest) records (said records stand parts.0) oid (m records stand (first_true (has_body (rows records) (data_in f rest)) parts.1))

pub all_valued : (disk : Option Told) (area : List ℕ) (at : ℕ) (values : List OidValue) (calls now : ℕ) → ValuesTo disk area at values calls now → length area ≤ at → MeansValues disk area values
all_valued disk area at values calls now r le = record { ds = r.ds; are = all_stand area at r.ds r.stand le; said = r.said }

-- what they cost, said of the area's records
abbrev pub CostAll : Option Told → List ℕ → ℕ → ℕ → Type 0
CostAll disk area calls now = IfSome disk (λ told. (ds : List Data) (records : List Earlier) → AreRecords area ds → AllStand (content told) records → list_all (has_body (rows records)) ds ≡ true → CostsBodies (content told) ds calls now)

pub all_cost : (disk : Option Told) (area : List ℕ) (at : ℕ) (values : List OidValue) (calls now : ℕ) → ValuesTo disk area at values calls now → length area ≤ at → CostAll disk area calls now
all_cost disk area at values calls now r le = by_disk disk r.costs
  where
    by_disk : (d : Option Told) → IfSome d (λ told. (records : List Earlier) → AllStand (content told) records → list_all (has_body (rows records)) r.ds ≡ true → CostsBodies (content told) r.ds calls now) → CostAll d area calls now
    by_disk None had = tt
    by_disk (Some told) had = λ ds records are stand right.
        let same : r.ds ≡ ds = same_ds area ds r.ds are (all_stand area at r.ds r.stand le) in
        subst (λ (xs : List Data). CostsBodies (content told) xs calls now) same (had records stand (subst (λ (xs : List Data). list_all (has_body (rows records)) xs ≡ true) (sym same) right))

pub none_cost : (disk : Option Told) (area : List ℕ) (calls now : ℕ) → ((ds : List Data) → AreRecords area ds → ⊥) → CostAll disk area calls now
none_cost None area calls now none = tt
none_cost (Some told) area calls now none = λ ds records are stand right. absurd (none ds are)

pub record_stands : (disk : Option Told) (area : List ℕ) (at : ℕ) (values : List OidValue) (calls now : ℕ) → (ds : List Data) × AreRecords area ds → ValuesTo disk area at values calls now → at < length area → NoData (drop at area) → ⊥
record_stands disk area at values calls now given r lt lacks = none_stand area at r.ds r.stand lt lacks given.0 given.1
