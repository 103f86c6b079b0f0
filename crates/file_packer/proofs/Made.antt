-- What is made of the bytes that a disk reads, and why it isn't.
use Rattle.std.proofs.Common.{◌≡◌, ◌++◌, ◌∙◌, ◌⊎◌, ◌≤◌, ℕ, List, [], ◌∷◌, false, Option, None, Some, IfSome, inl, inr, refl, sym, ap, subst}
use Rattle.std.specs.Prelude.{is_some}
use Rattle.zdisk.specs.Crashes.{IsSynced}
use Rattle.zdisk.specs.Disk.{Told, content, synced}
use Rattle.zio.specs.Shelves.{Entry, TakesBack, file_at}
use Rattle.fs_record.specs.declared.damage.Damage.{Damage as Kind}
use Rattle.fs_record.specs.declared.layout.TheConstants.{MAX_LENGTH}
use Rattle.packing.specs.Reachable.{Linking}
use Rattle.fs_pack.specs.Chosen.{Planned}
use Rattle.fs_pack.specs.Plans.{IsPacked, StandsFor}
use Rattle.fs_pack.specs.declared.packed.Packed.{Packed}
use Rattle.fs_pack.specs.declared.refusal.PackRefusal.{PackRefusal}
use Rattle.fs_pack.specs.declared.refusal.PackRefusal.TheVariants as packs
use Rattle.file_packer.specs.declared.refusal.FilePackRefusal.{FilePackRefusal}
use Rattle.file_packer.specs.declared.refusal.FilePackRefusal.TheVariants as refusals
use Rattle.file_packer.specs.Making.{MakesOf, MakingCause, PlanCause, Reads}
use Rattle.file_packer.specs.Packing.{Fits, HasPlan, IsBefore, PacksTo, Turns}
use Rattle.file_packer.specs.Refusals.{of_pack}
use Rattle.file_packer.proofs.Shelving.{AddsEmpty, added}

-- what a plan stands for, where it was written
packs_to : (links : Linking) (bytes left : List ℕ) (t : ℕ) (plan : Planned) (done : Packed) → Fits bytes → (s : StandsFor links bytes plan) → plan.before ≡ t → plan.size ≤ MAX_LENGTH → IsPacked s.packs left done → PacksTo links bytes t left done
packs_to links bytes left t plan done fits s at short is =
    subst (λ (k : ℕ). PacksTo links bytes k left done) at (record { fits = fits; packs = s.packs; readable = s.readable; short = subst (λ (n : ℕ). n ≤ MAX_LENGTH) s.size short; is = is })

some_as : (a b : List ℕ) → Some a ≡ Some b → a ≡ b
some_as a b e = cc

-- the new file holds what the pack leaves of what the other disk reads
pub made_into : (links : Linking) (t : ℕ) (name : List ℕ) (files mid now : Option (List Entry)) (disk read was told : Option Told) (plan : Planned) (done : Packed)
    → IfSome disk (λ d. Fits (content d) × StandsFor links (content d) plan) → (plan.before ≡ t) × (plan.size ≤ MAX_LENGTH)
    → IfSome read (λ from. (l : Linking) (s : StandsFor l (content from) plan) → IfSome told (λ o. IsSynced o × IsPacked s.packs (content o) done)) → read ≡ disk
    → IfSome files (λ all. file_at all name ≡ None) → AddsEmpty files name mid → IfSome files (λ _. was ≡ Some (synced [])) → is_some told ≡ is_some was → TakesBack mid name told now
    → Turns files now (λ all n. (bytes : List ℕ) → Reads disk bytes → MakesOf links bytes t name done all n)
made_into links t name None mid now disk read was told plan done planned at wrote same none adds empty tells back = subst (λ (fs : Option (List Entry)). TakesBack fs name told now) adds back
made_into links t name (Some all) mid now disk read was None plan done planned at wrote same none adds empty tells back = absurd (let is : is_some (Some (synced [])) ≡ false = sym (ap is_some empty) ∙ sym tells in cc)
made_into links t name (Some all) mid now None read was (Some o) plan done planned at wrote same none adds empty tells back =
    (all ++ (name, content o) ∷ [], added all mid now name o none adds back, λ bytes reads. absurd cc)
made_into links t name (Some all) mid now (Some d) read was (Some o) plan done planned at wrote same none adds empty tells back =
    (all ++ (name, content o) ∷ [], added all mid now name o none adds back, λ bytes reads. (none, content o, subst (λ (b : List ℕ). PacksTo links b t (content o) done) (some_as (content d) bytes reads) it, refl))
  where
    from : (l : Linking) (s : StandsFor l (content d) plan) → IfSome (Some o) (λ x. IsSynced x × IsPacked s.packs (content x) done)
    from = subst (λ (r : Option Told). IfSome r (λ f. (l : Linking) (s : StandsFor l (content f) plan) → IfSome (Some o) (λ x. IsSynced x × IsPacked s.packs (content x) done))) same wrote

    it : PacksTo links (content d) t (content o) done
    it = packs_to links (content d) (content o) t plan done planned.0 planned.1 at.0 at.1 (from links planned.1).1

-- ---- why it isn't

-- there is no plan
pub plan_making : (links : Linking) (t : ℕ) (disk : Option Told) (name : List ℕ) (files : Option (List Entry)) (e : FilePackRefusal) → PlanCause links t disk e → MakingCause links t disk name files e
plan_making links t disk name files refusals.Missing cause = cause
plan_making links t disk name files (refusals.TooLong n) cause = cause
plan_making links t disk name files (refusals.Damaged kind place) cause = cause
plan_making links t disk name files (refusals.Unreadable o) cause = cause
plan_making links t disk name files (refusals.Full need limit) cause = cause
plan_making links t disk name files refusals.Exists cause = absurd cause
plan_making links t disk name files refusals.Disk cause = cause
plan_making links t disk name files refusals.Memory cause = cause

-- there is a plan, and a file of that name
pub exists_making : (links : Linking) (t : ℕ) (disk : Option Told) (plan : Planned) → IfSome disk (λ d. Fits (content d) × StandsFor links (content d) plan) → (plan.before ≡ t) × (plan.size ≤ MAX_LENGTH) → IfSome disk (λ told. Fits (content told) × HasPlan links t (content told))
exists_making links t None plan planned at = tt
exists_making links t (Some d) plan planned at =
    (planned.0, subst (λ (k : ℕ). HasPlan links k (content d)) at.0 (planned.1.packs, planned.1.readable, subst (λ (n : ℕ). n ≤ MAX_LENGTH) planned.1.size at.1))

-- once there is a plan, only a disk that fails, and want of memory, are told
pub wrote_cause : (links : Linking) (t : ℕ) (disk : Option Told) (name : List ℕ) (files : Option (List Entry)) (e : PackRefusal) → ((kind : Kind) (place : ℕ) → e ≡ packs.Damaged kind place → ⊥) → ((o : ℕ) → e ≡ packs.Unreadable o → ⊥) → ((need limit : ℕ) → e ≡ packs.Full need limit → ⊥)
    → MakingCause links t disk name files (of_pack e) × (IsBefore (of_pack e) → ⊥)
wrote_cause links t disk name files (packs.Damaged kind place) damaged unreadable full = absurd (damaged kind place refl)
wrote_cause links t disk name files packs.From damaged unreadable full = (tt, λ before. before)
wrote_cause links t disk name files packs.To damaged unreadable full = (tt, λ before. before)
wrote_cause links t disk name files (packs.Unreadable o) damaged unreadable full = absurd (unreadable o refl)
wrote_cause links t disk name files (packs.Full need limit) damaged unreadable full = absurd (full need limit refl)
wrote_cause links t disk name files packs.Memory damaged unreadable full = (tt, λ before. before)

-- a fault is one of either disk
pub of_disks : (e : PackRefusal) → of_pack e ≡ refusals.Disk → (e ≡ packs.From) ⊎ (e ≡ packs.To)
of_disks packs.From is = inl refl
of_disks packs.To is = inr refl
of_disks (packs.Damaged kind place) is = absurd cc
of_disks (packs.Unreadable o) is = absurd cc
of_disks (packs.Full need limit) is = absurd cc
of_disks packs.Memory is = absurd cc
