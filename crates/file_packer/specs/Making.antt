-- What is made of the bytes that a disk reads, and why it isn't.
use Rattle.std.specs.Prelude.{◌≡◌, ◌<◌, ℕ, List, [], ◌∷◌, ◌++◌, length, IfSome, Option, None, Some}
use Rattle.std.specs.Option.{option_map}
use Rattle.zdisk.specs.Disk.{Told, content}
use Rattle.zio.specs.Shelves.{Entry, file_at}
use Rattle.fs_record.specs.declared.layout.TheConstants.{MAX_LENGTH}
use Rattle.fs_record.specs.Opening.{Damaged}
use Rattle.packing.specs.Reachable.{Linking}
use Rattle.fs_pack.specs.Plans.{LacksObject, PassesLimit}
use Rattle.fs_pack.specs.declared.packed.Packed.{Packed}
use Rattle.file_packer.specs.Packing.{Fits, HasPlan, PacksTo}
use Rattle.file_packer.specs.declared.refusal.FilePackRefusal.{FilePackRefusal}
use Rattle.file_packer.specs.declared.refusal.FilePackRefusal.TheVariants as refusals

-- the disk reads these bytes
abbrev pub Reads : Option Told → List ℕ → Type 0
Reads disk bytes = option_map content disk ≡ Some bytes

-- there is one file more, under that name, with what the pack leaves of the bytes
abbrev pub MakesOf : Linking → List ℕ → ℕ → List ℕ → Packed → List Entry → List Entry → Type 0
MakesOf links bytes t name done all now =
    (file_at all name ≡ None) × (left : List ℕ) × PacksTo links bytes t left done × (now ≡ all ++ (name, left) ∷ [])

-- why there is no plan for what a disk reads, where it tells
abbrev pub PlanCause : Linking → ℕ → Option Told → FilePackRefusal → Type 0
PlanCause links t disk refusals.Missing = ⊥
PlanCause links t disk (refusals.TooLong n) = (MAX_LENGTH < n) × IfSome disk (λ told. n ≡ length (content told))
PlanCause links t disk (refusals.Damaged kind place) = IfSome disk (λ told. Fits (content told) × Damaged (content told) place kind)
PlanCause links t disk (refusals.Unreadable o) = IfSome disk (λ told. Fits (content told) × LacksObject links (content told) t o)
PlanCause links t disk (refusals.Full need limit) =
    (limit ≡ MAX_LENGTH) × IfSome disk (λ told. Fits (content told) × PassesLimit links (content told) t need limit)
PlanCause links t disk refusals.Exists = ⊥
PlanCause links t disk refusals.Disk = Unit {0}
PlanCause links t disk refusals.Memory = Unit {0}

-- why the packed file isn't made under that name, where the shelf told these files
abbrev pub MakingCause : Linking → ℕ → Option Told → List ℕ → Option (List Entry) → FilePackRefusal → Type 0
MakingCause links t disk name files refusals.Exists =
    IfSome disk (λ told. Fits (content told) × HasPlan links t (content told)) × IfSome files (λ all. file_at all name ≡ None → ⊥)
MakingCause links t disk name files refusal = PlanCause links t disk refusal
