-- Why there is no plan, from why there is none of a disk's file.
use Rattle.std.proofs.Common.{◌≡◌, ◌≤◌, ℕ, List, length, Option, None, Some, IfSome, refl, sym, subst}
use Rattle.zdisk.specs.Disk.{Told, content}
use Rattle.fs_record.specs.declared.damage.Damage.{Damage as Kind}
use Rattle.fs_record.specs.declared.layout.TheConstants.{MAX_LENGTH}
use Rattle.fs_record.specs.Opening.{Damaged}
use Rattle.packing.specs.Reachable.{Linking}
use Rattle.fs_pack.specs.Plans.{LacksObject, PassesLimit}
use Rattle.fs_pack.specs.declared.refusal.PackRefusal.{PackRefusal}
use Rattle.fs_pack.specs.declared.refusal.PackRefusal.TheVariants as packs
use Rattle.file_packer.specs.Making.{PlanCause}
use Rattle.file_packer.specs.Packing.{Fits}
use Rattle.file_packer.specs.Refusals.{of_pack}

-- a file that is no longer than a file may be, of which this is so
fitting : (was disk : Option Told) (n : ℕ) (P : List ℕ → Type 0) → disk ≡ was → IfSome was (λ told. n ≡ length (content told)) → n ≤ MAX_LENGTH → IfSome disk (λ told. P (content told)) → IfSome was (λ told. Fits (content told) × P (content told))
fitting None disk n P same long le so = tt
fitting (Some w) disk n P same long le so =
    (subst (λ (k : ℕ). k ≤ MAX_LENGTH) long le, subst (λ (o : Option Told). IfSome o (λ told. P (content told))) same so)

pub plan_cause : (links : Linking) (t n : ℕ) (was disk : Option Told) (e : PackRefusal) → disk ≡ was → IfSome was (λ told. n ≡ length (content told)) → n ≤ MAX_LENGTH
    → ((kind : Kind) (place : ℕ) → e ≡ packs.Damaged kind place → IfSome disk (λ told. Damaged (content told) place kind))
    → ((o : ℕ) → e ≡ packs.Unreadable o → IfSome disk (λ told. LacksObject links (content told) t o))
    → ((need most : ℕ) → e ≡ packs.Full need most → (most ≡ MAX_LENGTH) × IfSome disk (λ told. PassesLimit links (content told) t need MAX_LENGTH))
    → PlanCause links t was (of_pack e)
plan_cause links t n was disk (packs.Damaged kind place) same long le damaged unreadable full = fitting was disk n (λ bytes. Damaged bytes place kind) same long le (damaged kind place refl)
plan_cause links t n was disk packs.From same long le damaged unreadable full = tt
plan_cause links t n was disk packs.To same long le damaged unreadable full = tt
plan_cause links t n was disk (packs.Unreadable o) same long le damaged unreadable full = fitting was disk n (λ bytes. LacksObject links bytes t o) same long le (unreadable o refl)
plan_cause links t n was disk (packs.Full need most) same long le damaged unreadable full =
    let it = full need most refl in
    (it.0, subst (λ (m : ℕ). IfSome was (λ told. Fits (content told) × PassesLimit links (content told) t need m)) (sym it.0) (fitting was disk n (λ bytes. PassesLimit links bytes t need MAX_LENGTH) same long le it.1))
plan_cause links t n was disk packs.Memory same long le damaged unreadable full = tt
