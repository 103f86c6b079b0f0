-- Back pointers that lead from one data record to another, and what it costs to follow them.
--
-- FileStorage format notes: a data record has data, or it points back to an earlier record of the object; 0 means no
-- value.
use Rattle.std.specs.Prelude.{◌≡◌, ◌⊎◌, ◌+◌, ◌*◌, ◌<◌, ◌≤◌, ◌++◌, ℕ, zero, suc, List, [], ◌∷◌, drop, None}
use Rattle.fs_record.specs.declared.body.Body.{Body}
use Rattle.fs_record.specs.declared.body.Body.TheVariants.{Back, Full}
use Rattle.fs_record.specs.File.{Earlier, value_at}
use Rattle.fs_record.specs.Fits.{FitsData}
use Rattle.fs_record.specs.Spelling.{Data, data_spelling}
use Rattle.fs_record.specs.Standing.{IsPlace}

-- a data record stands at the place, and points back to the other
pub record PointsTo (bytes : List ℕ) (place back : ℕ) : Type 0 where
  pub written : Data
  pub behind : List ℕ
  pub fits : FitsData written
  pub spelled : drop place bytes ≡ data_spelling written ++ behind
  pub body : written.body ≡ Back back
  pub some : 0 < back

-- so many back pointers lead from a place to another, one after another
abbrev pub LeadsTo : List ℕ → ℕ → ℕ → ℕ → Type 0
LeadsTo bytes zero place at = at ≡ place
LeadsTo bytes (suc n) place at = (mid : ℕ) × LeadsTo bytes n place mid × PointsTo bytes mid at

-- one call more than two for each back pointer that was followed, at most
pub record CostsBacks (bytes : List ℕ) (place calls more : ℕ) : Type 0 where
  pub backs : ℕ
  pub at : ℕ
  pub leads : LeadsTo bytes backs place at
  pub within : more ≤ calls + 1 + 2 * backs

-- What it may cost to know the value of a record that was read: nothing where it has data; two calls for the record to
-- which it points back, and two for each back pointer that leads on from there.
abbrev pub CostsBody : List ℕ → Body → ℕ → ℕ → Type 0
CostsBody bytes (Full value) calls more = more ≤ calls
CostsBody bytes (Back place) calls more = (backs : ℕ) × (at : ℕ) × LeadsTo bytes backs place at × (more ≤ calls + 2 + 2 * backs)

-- and to know those of records that were read, one after another
abbrev pub CostsBodies : List ℕ → List Data → ℕ → ℕ → Type 0
CostsBodies bytes [] calls more = more ≤ calls
CostsBodies bytes (d ∷ ds) calls more = (mid : ℕ) × CostsBody bytes d.body calls mid × CostsBodies bytes ds mid more

-- a data record that has data stands at the place
pub record HasData (bytes : List ℕ) (place : ℕ) : Type 0 where
  pub written : Data
  pub behind : List ℕ
  pub fits : FitsData written
  pub spelled : drop place bytes ≡ data_spelling written ++ behind
  pub value : List ℕ
  pub body : written.body ≡ Full value

-- The object's record at the place has the data that the one at the other place means; the place is 0 where that one means
-- none.
abbrev pub HasDataOf : List ℕ → List Earlier → ℕ → ℕ → ℕ → Type 0
HasDataOf bytes records oid place at =
    ((at ≡ 0) × (value_at place records ≡ None))
    ⊎ ((0 < at) × HasData bytes at × IsPlace records oid at × (value_at at records ≡ value_at place records))
