-- The objects that have a value, and where their records stand.
use Rattle.std.specs.Prelude.{◌≡◌, ℕ, ◌+◌, ◌≤◌, ◌==◌, ◌&&◌, Bool, List, [], ◌∷◌, length, Option, Some, None}
use Rattle.std.specs.Option.{is_some}
use Rattle.std.specs.List.{list_any, AllByRecursion}
use Rattle.zbase.specs.History.{History}
use Rattle.zbase.specs.Values.{Revision, value}
use Rattle.zbase.specs.declared.ids.Row.{Row}
use Rattle.fs_index.specs.Places.{Slots, place_of}
use Rattle.fs_scan.specs.Newest.{place_in}
use Rattle.fs_record.specs.declared.body.Body.{Body}
use Rattle.fs_record.specs.declared.body.Body.TheVariants.{Full, Back}
use Rattle.fs_record.specs.File.{Earlier, value_at}
use Rattle.fs_record.specs.Standing.{IsPlace, IsRevision}

-- every data record stands in the bytes
abbrev pub AllStand : List ℕ → List Earlier → Type 0
AllStand bytes records = (oid place : ℕ) → IsPlace records oid place → (r : Revision) × IsRevision bytes records oid place r

-- each of these rows is a data record's
abbrev pub ArePlaces : List Earlier → List Row → Type 0
ArePlaces records = AllByRecursion (λ row. IsPlace records row.oid row.place)

-- whether the record at the place means a value
abbrev pub means_value : List Earlier → ℕ → Bool
means_value records place = is_some (value_at place records)

-- whether a row is its object's last one by the index, and its record means a value
abbrev pub is_present : List Earlier → Slots → Row → Bool
is_present records newest row = (place_in (place_of newest row.oid) == row.place) && means_value records row.place

-- where a record points back to; none where it has data
abbrev pub back_in : Body → Option ℕ
back_in (Full bytes) = None
back_in (Back place) = Some place

-- ids rise, from n on
abbrev pub IdsRiseFrom : ℕ → List ℕ → Type 0
IdsRiseFrom n [] = Unit {0}
IdsRiseFrom n (o ∷ os) = (n ≤ o) × IdsRiseFrom (o + 1) os

-- so many objects have a value
pub record HaveValues (h : History) (n : ℕ) : Type 0 where
  pub oids : List ℕ
  pub rise : IdsRiseFrom 0 oids
  pub each : (o : ℕ) → is_some (value h o) ≡ list_any (λ x. x == o) oids
  pub count : n ≡ length oids
