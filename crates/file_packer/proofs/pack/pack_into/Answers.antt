use Rattle.std.proofs.Common.{◌≡◌, ◌⊎◌, ◌≤◌, ◌∙◌, Err, [], Option, IfSome, ap, arith, inl, inr, refl, subst, sym}
use Rattle.std.proofs.lemmas.Result.{err_from_is_err_and}
use Rattle.zbase.specs.Faults.{Counter, IsFaultless}
use Rattle.zdisk.specs.Disk.{Told, content, synced}
use Rattle.fs_pack.specs.Plans.{StandsFor}
use Rattle.fs_pack.specs.declared.refusal.PackRefusal.{PackRefusal}
use Rattle.fs_pack.specs.declared.refusal.PackRefusal.TheVariants as packs
use Rattle.file_packer.specs.declared.refusal.FilePackRefusal.{FilePackRefusal}
use Rattle.file_packer.specs.declared.refusal.FilePackRefusal.TheVariants as refusals
use Rattle.file_packer.specs.Making.{MakingCause}
use Rattle.file_packer.specs.Packing.{Fits, IsBefore}
use Rattle.file_packer.specs.Refusals.{of_pack}
use Rattle.file_packer.proofs.Made.{exists_making, made_into, of_disks, plan_making, wrote_cause}
use Rattle.file_packer.proofs.Shelving.{left_new, left_same, no_fault, on_refusal}
use Rattle.file_packer.proofs.pack.pack_into.Goals as goal

-- ---- there is no plan

pub returns-in_err-plan-clause-left : goal.returns-in_err-plan-clause-left
returns-in_err-plan-clause-left g c = left_same (g.F.Shelf.files c.args.files.now) _ c.args.name.now refl

pub returns-in_err-plan-clause-cause : goal.returns-in_err-plan-clause-cause
returns-in_err-plan-clause-cause g c =
    let p = err_from_is_err_and c.from_residual.result c.from_residual.ensures.1 in
    let e = c.in_err-plan.field-0.0 in
    on_refusal c.from_residual.result e (MakingCause g.L.Links.linked c.args.before (g.F.D.Disk.told c.args.disk.now) c.args.name.now (g.F.Shelf.files c.args.files.now)) (p.1 ∙ ap (λ k. Err k) p.2)
    (plan_making g.L.Links.linked c.args.before (g.F.D.Disk.told c.args.disk.now) c.args.name.now (g.F.Shelf.files c.args.files.now) e c.in_err-plan.ensures.cause)

pub returns-in_err-plan-clause-unmade : goal.returns-in_err-plan-clause-unmade
returns-in_err-plan-clause-unmade g c =
    let p = err_from_is_err_and c.from_residual.result c.from_residual.ensures.1 in
    on_refusal c.from_residual.result c.in_err-plan.field-0.0 (λ r. IsBefore r → g.F.Shelf.files c.args.files.now ≡ g.F.Shelf.files c.args.files.now) (p.1 ∙ ap (λ k. Err k) p.2) (λ b. refl)

pub returns-in_err-plan-clause-lasting : goal.returns-in_err-plan-clause-lasting
returns-in_err-plan-clause-lasting g c = λ other not was. was

pub returns-in_err-plan-clause-calls : goal.returns-in_err-plan-clause-calls
returns-in_err-plan-clause-calls g c =
    let p = err_from_is_err_and c.from_residual.result c.from_residual.ensures.1 in
    record {
      later = omega arith;
      sound = λ s. s.0;
      cause = λ f. inr (λ s. (let same : c.in_err-plan.field-0.0 ≡ refusals.Disk = cc in no_fault s.1 c.in_err-plan.ensures.counts (ap (λ (r : FilePackRefusal). Err r) same)));
    }

-- ---- what is asked before it is written

pub write-written-requires-clause-planned : goal.write-written-requires-clause-planned
write-written-requires-clause-planned g c = λ x is. (
  g.L.Links.linked,
  (subst (λ (o : Option Told). IfSome o (λ told. Fits (content told) × StandsFor g.L.Links.linked (content told) c.in_ok-plan.plan)) (sym c.plan_of.ensures.same ∙ is) c.in_ok-plan.ensures.planned).1,
)

pub write-written-requires-clause-empty : goal.write-written-requires-clause-empty
write-written-requires-clause-empty g c = λ x is.
    (let e : x ≡ synced [] = c.in-Ok.ensures.empty x is in
    (ap (λ (t : Told). t.now.before) e, ap content e))

-- ---- it isn't written

pub returns-in_err-done-in-Ok-clause-left : goal.returns-in_err-done-in-Ok-clause-left
returns-in_err-done-in-Ok-clause-left g c =
    left_new _ _ _ c.args.name.now _ _ c.close-closed.result c.in-Ok.ensures.new c.in-Ok.ensures.made c.in-Ok.ensures.told c.write-written.ensures.tells c.close-closed.ensures.closed c.close-closed.ensures.kept

pub returns-in_err-done-in-Ok-clause-cause : goal.returns-in_err-done-in-Ok-clause-cause
returns-in_err-done-in-Ok-clause-cause g c =
    let r = c.from_residual-in_err-done-in-Ok.result in
    let p = err_from_is_err_and r c.from_residual-in_err-done-in-Ok.ensures.1 in
    let e = c.in_err-done-in-Ok.field-0.0 in
    let why = c.in_err-done-in-Ok.ensures in
    let told = g.F.D.Disk.told c.args.disk.now in
    let files = g.F.Shelf.files c.args.files.now in
    on_refusal r (of_pack e) (MakingCause g.L.Links.linked c.args.before told c.args.name.now files) (p.1 ∙ ap (λ k. Err k) p.2)
    (wrote_cause g.L.Links.linked c.args.before told c.args.name.now files e (λ kind place is. why.undamaged kind place (ap (λ (k : PackRefusal). Err k) is)) (λ o is. why.readable o (ap (λ (k : PackRefusal). Err k) is)) (λ need limit is. why.fits need limit (ap (λ (k : PackRefusal). Err k) is))).0

pub returns-in_err-done-in-Ok-clause-unmade : goal.returns-in_err-done-in-Ok-clause-unmade
returns-in_err-done-in-Ok-clause-unmade g c =
    let r = c.from_residual-in_err-done-in-Ok.result in
    let p = err_from_is_err_and r c.from_residual-in_err-done-in-Ok.ensures.1 in
    let e = c.in_err-done-in-Ok.field-0.0 in
    let why = c.in_err-done-in-Ok.ensures in
    let told = g.F.D.Disk.told c.args.disk.now in
    let files = g.F.Shelf.files c.args.files.now in
    on_refusal r (of_pack e) (λ x. IsBefore x → g.F.Shelf.files c.close-closed.new.self ≡ files) (p.1 ∙ ap (λ k. Err k) p.2)
    (λ before. absurd ((wrote_cause g.L.Links.linked c.args.before told c.args.name.now files e (λ kind place is. why.undamaged kind place (ap (λ (k : PackRefusal). Err k) is)) (λ o is. why.readable o (ap (λ (k : PackRefusal). Err k) is)) (λ need limit is. why.fits need limit (ap (λ (k : PackRefusal). Err k) is))).1 before))

pub returns-in_err-done-in-Ok-clause-lasting : goal.returns-in_err-done-in-Ok-clause-lasting
returns-in_err-done-in-Ok-clause-lasting g c = λ other not was. c.close-closed.ensures.others other not (c.in-Ok.ensures.lasting other was)

pub returns-in_err-done-in-Ok-clause-calls : goal.returns-in_err-done-in-Ok-clause-calls
returns-in_err-done-in-Ok-clause-calls g c =
    let p = err_from_is_err_and c.from_residual-in_err-done-in-Ok.result c.from_residual-in_err-done-in-Ok.ensures.1 in
    record {
      later = subst (λ (d : Counter). (g.F.Shelf.counter c.args.files.now).count ≤ d.count) (sym c.close-closed.ensures.uncounted) c.in-Ok.ensures.counts.later;
      sound = λ s. c.close-closed.ensures.stays_sound (c.in-Ok.ensures.stays_sound s.0);
      cause = λ f. inr (λ s. (let same : of_pack c.in_err-done-in-Ok.field-0.0 ≡ refusals.Disk = cc in none (of_disks c.in_err-done-in-Ok.field-0.0 same) s.0 s.1));
    }
  where
    none : (c.in_err-done-in-Ok.field-0.0 ≡ packs.From) ⊎ (c.in_err-done-in-Ok.field-0.0 ≡ packs.To) → g.F.Shelf.sound_disks c.args.files.now → IsFaultless (g.F.D.Disk.counter c.args.disk.now) → ⊥
    none (inl e) s calm = no_fault (c.plan_of.ensures.counts.calm calm).0 c.in_err-done-in-Ok.ensures.only_reads.counts (ap (λ (k : PackRefusal). Err k) e)
    none (inr e) s calm = no_fault (c.in-Ok.ensures.sound s) c.in_err-done-in-Ok.ensures.counts (ap (λ (k : PackRefusal). Err k) e)

-- ---- it isn't given back

pub returns-in_err-closed-in-Ok-clause-left : goal.returns-in_err-closed-in-Ok-clause-left
returns-in_err-closed-in-Ok-clause-left g c =
    left_new _ _ _ c.args.name.now _ _ c.close-closed.result c.in-Ok.ensures.new c.in-Ok.ensures.made c.in-Ok.ensures.told c.write-written.ensures.tells c.close-closed.ensures.closed c.close-closed.ensures.kept

pub returns-in_err-closed-in-Ok-clause-cause : goal.returns-in_err-closed-in-Ok-clause-cause
returns-in_err-closed-in-Ok-clause-cause g c =
    let r = c.from_residual-in_err-closed-in-Ok.result in
    let p = err_from_is_err_and r c.from_residual-in_err-closed-in-Ok.ensures.1 in
    on_refusal r refusals.Memory (MakingCause g.L.Links.linked c.args.before (g.F.D.Disk.told c.args.disk.now) c.args.name.now (g.F.Shelf.files c.args.files.now)) (p.1 ∙ ap (λ k. Err k) p.2) tt

pub returns-in_err-closed-in-Ok-clause-unmade : goal.returns-in_err-closed-in-Ok-clause-unmade
returns-in_err-closed-in-Ok-clause-unmade g c =
    let r = c.from_residual-in_err-closed-in-Ok.result in
    let p = err_from_is_err_and r c.from_residual-in_err-closed-in-Ok.ensures.1 in
    on_refusal r refusals.Memory (λ x. IsBefore x → g.F.Shelf.files c.close-closed.new.self ≡ g.F.Shelf.files c.args.files.now) (p.1 ∙ ap (λ k. Err k) p.2) (λ before. absurd before)

pub returns-in_err-closed-in-Ok-clause-lasting : goal.returns-in_err-closed-in-Ok-clause-lasting
returns-in_err-closed-in-Ok-clause-lasting g c = λ other not was. c.close-closed.ensures.others other not (c.in-Ok.ensures.lasting other was)

pub returns-in_err-closed-in-Ok-clause-calls : goal.returns-in_err-closed-in-Ok-clause-calls
returns-in_err-closed-in-Ok-clause-calls g c =
    let p = err_from_is_err_and c.from_residual-in_err-closed-in-Ok.result c.from_residual-in_err-closed-in-Ok.ensures.1 in
    record {
      later = subst (λ (d : Counter). (g.F.Shelf.counter c.args.files.now).count ≤ d.count) (sym c.close-closed.ensures.uncounted) c.in-Ok.ensures.counts.later;
      sound = λ s. c.close-closed.ensures.stays_sound (c.in-Ok.ensures.stays_sound s.0);
      cause = λ f. absurd (let same : refusals.Memory ≡ refusals.Disk = cc in cc);
    }

-- ---- it is

pub returns-in-Ok-clause-made : goal.returns-in-Ok-clause-made
returns-in-Ok-clause-made g c =
    made_into g.L.Links.linked c.args.before c.args.name.now _ _ _ (g.F.D.Disk.told c.args.disk.now) _ _ _ c.in_ok-plan.plan _ c.in_ok-plan.ensures.planned c.in_ok-plan.ensures.at c.in_ok-done-in-Ok.ensures.packed c.plan_of.ensures.same
    c.in-Ok.ensures.new c.in-Ok.ensures.made c.in-Ok.ensures.told c.write-written.ensures.tells c.in_ok-closed-in-Ok.ensures.closed

pub returns-in-Ok-clause-left : goal.returns-in-Ok-clause-left
returns-in-Ok-clause-left g c =
    left_new _ _ _ c.args.name.now _ _ c.close-closed.result c.in-Ok.ensures.new c.in-Ok.ensures.made c.in-Ok.ensures.told c.write-written.ensures.tells c.close-closed.ensures.closed c.close-closed.ensures.kept

pub returns-in-Ok-clause-lasts : goal.returns-in-Ok-clause-lasts
returns-in-Ok-clause-lasts g c =
    let it = c.in_ok-closed-in-Ok.ensures.lasting c.in_ok-done-in-Ok.ensures.synced in
    (it.0, λ other was. it.1 other (c.in-Ok.ensures.lasting other was))

pub returns-in-Ok-clause-lasting : goal.returns-in-Ok-clause-lasting
returns-in-Ok-clause-lasting g c = λ other not was. c.close-closed.ensures.others other not (c.in-Ok.ensures.lasting other was)

pub returns-in-Ok-clause-calls : goal.returns-in-Ok-clause-calls
returns-in-Ok-clause-calls g c = record {
  later = subst (λ (d : Counter). (g.F.Shelf.counter c.args.files.now).count ≤ d.count) (sym c.close-closed.ensures.uncounted) c.in-Ok.ensures.counts.later;
  sound = λ s. c.close-closed.ensures.stays_sound (c.in-Ok.ensures.stays_sound s.0);
  cause = λ f. absurd cc;
}

-- ---- there is no new file

pub returns-in-Err-Exists-clause-left : goal.returns-in-Err-Exists-clause-left
returns-in-Err-Exists-clause-left g c = left_same (g.F.Shelf.files c.args.files.now) _ c.args.name.now c.in-Err-Exists.ensures.kept

pub returns-in-Err-Exists-clause-cause : goal.returns-in-Err-Exists-clause-cause
returns-in-Err-Exists-clause-cause g c =
    (exists_making g.L.Links.linked c.args.before (g.F.D.Disk.told c.args.disk.now) c.in_ok-plan.plan c.in_ok-plan.ensures.planned c.in_ok-plan.ensures.at, c.in-Err-Exists.ensures.exists (rw c.in-Err-Exists.field-0-is refl))

pub returns-in-Err-Exists-clause-unmade : goal.returns-in-Err-Exists-clause-unmade
returns-in-Err-Exists-clause-unmade g c = λ before. c.in-Err-Exists.ensures.kept

pub returns-in-Err-Exists-clause-lasting : goal.returns-in-Err-Exists-clause-lasting
returns-in-Err-Exists-clause-lasting g c = λ other not was. c.in-Err-Exists.ensures.lasting other was

pub returns-in-Err-Exists-clause-calls : goal.returns-in-Err-Exists-clause-calls
returns-in-Err-Exists-clause-calls g c = record { later = c.in-Err-Exists.ensures.counts.later; sound = λ s. c.in-Err-Exists.ensures.stays_sound s.0; cause = λ f. absurd cc }

pub returns-in-Err-Failed-clause-left : goal.returns-in-Err-Failed-clause-left
returns-in-Err-Failed-clause-left g c = left_same (g.F.Shelf.files c.args.files.now) _ c.args.name.now c.in-Err-Failed.ensures.kept

pub returns-in-Err-Failed-clause-lasting : goal.returns-in-Err-Failed-clause-lasting
returns-in-Err-Failed-clause-lasting g c = λ other not was. c.in-Err-Failed.ensures.lasting other was

pub returns-in-Err-Failed-clause-calls : goal.returns-in-Err-Failed-clause-calls
returns-in-Err-Failed-clause-calls g c =
    record { later = c.in-Err-Failed.ensures.counts.later; sound = λ s. c.in-Err-Failed.ensures.stays_sound s.0; cause = λ f. inl (c.in-Err-Failed.ensures.counts.cause (rw c.in-Err-Failed.field-0-is refl)) }

pub returns-in-Err-Memory-clause-left : goal.returns-in-Err-Memory-clause-left
returns-in-Err-Memory-clause-left g c = left_same (g.F.Shelf.files c.args.files.now) _ c.args.name.now c.in-Err-Memory.ensures.kept

pub returns-in-Err-Memory-clause-lasting : goal.returns-in-Err-Memory-clause-lasting
returns-in-Err-Memory-clause-lasting g c = λ other not was. c.in-Err-Memory.ensures.lasting other was

pub returns-in-Err-Memory-clause-calls : goal.returns-in-Err-Memory-clause-calls
returns-in-Err-Memory-clause-calls g c = record { later = c.in-Err-Memory.ensures.counts.later; sound = λ s. c.in-Err-Memory.ensures.stays_sound s.0; cause = λ f. absurd cc }
