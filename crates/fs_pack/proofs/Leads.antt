-- What the steps of marking say.
use Rattle.std.proofs.Common.{◌≡◌, ℕ, suc, ◌+◌, ◌<◌, ◌≤◌, Bool, List, ◌∷◌, ◌++◌, length, drop, get_or, Option, Some, None, IfSome, Result, Ok, Err, IfOk, sym, ap, subst, ◌∙◌, add-one, drop-cons}
use Rattle.zbase.specs.History.{Value}
use Rattle.zdisk.specs.Disk.{Told, content}
use Rattle.fs_index.specs.Places.{Slots, place_of}
use Rattle.fs_record.specs.declared.heads.DataHead.{DataHead}
use Rattle.fs_record.specs.Fits.{FitsData}
use Rattle.fs_record.specs.Spelling.{Data, data_spelling, head_of}
use Rattle.fs_record.specs.File.{Earlier, value_at}
use Rattle.fs_record.specs.Standing.{IsPlace}
use Rattle.fs_scan.specs.Present.{AllStand}
use Rattle.packing.specs.Reachable.{Linking, links_in, spells_none}
use Rattle.fs_pack.specs.Marked.{Leading, LedTo, added, all_added, broken_by, meant}
use Rattle.fs_pack.specs.Numbered.{AreLast, placed_by}
use Rattle.fs_pack.specs.MarkedLaws.{led_all, led_none, led_one}
use Rattle.fs_pack.proofs.LastValues.{last_of}

pub add_step : (oids : List ℕ) (i x : ℕ) (now new first : List ℕ) → x ≡ get_or oids i x → i < length oids → new ≡ added x now → all_added (drop i oids) now ≡ all_added oids first → all_added (drop (i + 1) oids) new ≡ all_added oids first
add_step oids i x now new first here lt is so_far =
    rw add-one (ap (all_added (drop (suc i) oids)) is ∙ sym (ap (λ os. all_added os now) (drop-cons oids i x lt ∙ ap (λ y. y ∷ drop (suc i) oids) (sym here))) ∙ so_far)

-- ---- an object's last value

abbrev pub Means : Option Told → List ℕ → Slots → ℕ → Value → Type 0
Means o places newest oid v = IfSome o (λ told. (records : List Earlier) → AllStand (content told) records → AreLast places newest records → v ≡ meant records oid)

missing : (head : Option DataHead) (d : DataHead) → head ≡ None → head ≡ Some d → ⊥
missing head d none some = cc

pub none_there : (o : Option Told) (oid place : ℕ) (places : List ℕ) (newest : Slots) (found : Option ℕ) (head : Option DataHead) → found ≡ placed_by places (place_of newest oid) → found ≡ Some place → head ≡ None
    → IfSome o (λ told. (d : Data) (more : List ℕ) → FitsData d → drop place (content told) ≡ data_spelling d ++ more → head ≡ Some (head_of d)) → Means o places newest oid None
none_there None oid place places newest found head e is none reads = tt
none_there (Some told) oid place places newest found head e is none reads = λ records stand last.
    let l = last_of records oid place found (e ∙ last oid) is in
    let s = (stand oid place l.is_place).1.stands in
    absurd (missing head (head_of s.written) none (reads s.written s.behind s.fits s.spelled))

pub value_there : {E : Type 0} (o p : Option Told) (oid place : ℕ) (places : List ℕ) (newest : Slots) (found : Option ℕ) (r : Result Value E) → p ≡ o → found ≡ placed_by places (place_of newest oid) → found ≡ Some place
    → IfOk r (λ v. IfSome p (λ told. (records : List Earlier) (q : ℕ) → AllStand (content told) records → IsPlace records q place → v ≡ value_at place records)) → IfOk r (Means o places newest oid)
value_there o p oid place places newest found (Err e) same is some follows = tt
value_there None p oid place places newest found (Ok v) same is some follows = tt
value_there (Some told) p oid place places newest found (Ok v) same is some follows = λ records stand last.
    let l = last_of records oid place found (is ∙ last oid) some in
    subst (λ (d : Option Told). IfSome d (λ told. (records : List Earlier) (q : ℕ) → AllStand (content told) records → IsPlace records q place → v ≡ value_at place records)) same follows records oid stand l.is_place ∙ sym l.means

-- ---- one object more

abbrev pub Led : Linking → Option Told → List ℕ → Slots → List ℕ → ℕ → List ℕ → Option ℕ → Type 0
Led links o places newest old n now broken = IfSome o (λ told. (records : List Earlier) → AllStand (content told) records → AreLast places newest records → LedTo links (meant records) old n now broken)

pub lead_first : (links : Linking) (o : Option Told) (places : List ℕ) (newest : Slots) (old : List ℕ) → Led links o places newest old 0 old None
lead_first links None places newest old = tt
lead_first links (Some told) places newest old = λ records stand last. led_none links (meant records) old

pub lead_step : (links : Linking) (o p : Option Told) (places : List ℕ) (newest : Slots) (old now new : List ℕ) (n oid : ℕ) (v : Value) (none : Bool) (broken : Option ℕ) → p ≡ o → Led links o places newest old n now broken → n < length now → oid ≡ get_or now n 0
    → Means p places newest oid v → new ≡ all_added (links_in links v) now → none ≡ spells_none links v → Led links o places newest old (n + 1) new (broken_by none oid broken)
lead_step links None p places newest old now new n oid v none broken same led lt here means is lacks = tt
lead_step links (Some told) p places newest old now new n oid v none broken same led lt here means is lacks = λ records stand last.
    let value : v ≡ meant records oid = subst (λ (d : Option Told). Means d places newest oid v) same means records stand last in
    let one = led_one links (meant records) old now n broken (led records stand last) lt in
    let two = subst (λ x. LedTo links (meant records) old (n + 1) (all_added (links_in links (meant records x)) now) (broken_by (spells_none links (meant records x)) x broken)) (sym here) one in
    let three = subst (λ (w : Value). LedTo links (meant records) old (n + 1) (all_added (links_in links w) now) (broken_by (spells_none links w) oid broken)) (sym value) two in
    subst (λ (b : Bool). LedTo links (meant records) old (n + 1) new (broken_by b oid broken)) (sym lacks) (subst (λ xs. LedTo links (meant records) old (n + 1) xs (broken_by (spells_none links v) oid broken)) (sym is) three)

pub lead_last : (links : Linking) (o : Option Told) (places : List ℕ) (newest : Slots) (old now : List ℕ) (n : ℕ) (broken : Option ℕ) → Led links o places newest old n now broken → length now ≤ n
    → IfSome o (λ told. (records : List Earlier) → AllStand (content told) records → AreLast places newest records → Leading links (meant records) old now broken)
lead_last links None places newest old now n broken led le = tt
lead_last links (Some told) places newest old now n broken led le = λ records stand last. led_all links (meant records) old now n broken (led records stand last) le
