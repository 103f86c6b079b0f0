-- A dump that was refused before it wrote anything.
use Rattle.std.proofs.Common.{◌≡◌, ℕ, List, Option, None, Some, IfSome, ap, ◌∙◌}
use Rattle.std.specs.Io.KnownBytes.{append_known}
use Rattle.zdisk.specs.Disk.{Told, content}
use Rattle.fs_record.specs.declared.damage.Damage.{Damage as Kind}
use Rattle.fs_record.specs.Opening.{Damaged}

-- where nothing was written and nothing is on its way that wasn't before, the same is due
pub same_due : (told : Option Told) (place : ℕ) (kind : Kind) (old new : Option (List ℕ)) (before held : List ℕ) → IfSome told (λ t. Damaged (content t) place kind × ((new ≡ old) × (held ≡ before))) → IfSome told (λ t. Damaged (content t) place kind × (append_known new held ≡ append_known old before))
same_due None place kind old new before held d = tt
same_due (Some t) place kind old new before held d = (d.0, ap (λ (o : Option (List ℕ)). append_known o held) d.1.0 ∙ ap (append_known old) d.1.1)
