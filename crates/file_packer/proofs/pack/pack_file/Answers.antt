use Rattle.std.proofs.Common.{◌≡◌, ◌∙◌, ◌⊎◌, Err, Option, List, ap, inr, refl, rules, subst, sym}
use Rattle.std.proofs.lemmas.Result.{err_from_is_err_and}
use Rattle.zbase.specs.Faults.{Rose}
use Rattle.zio.specs.Shelves.{Entry}
use Rattle.file_packer.specs.declared.refusal.FilePackRefusal.TheVariants as refusals
use Rattle.file_packer.specs.Calls.{calls_then}
use Rattle.file_packer.specs.Packing.{FilePackCause, IsBefore, LeavesOne, MadeBeside, Turns, pack_name}
use Rattle.file_packer.proofs.Beside.{put_in_place}
use Rattle.file_packer.proofs.Shelving.{calls_one, left_same, on_any, on_either, on_refusal}
use Rattle.file_packer.proofs.pack.pack_file.Goals as goal

-- ---- there is no name

pub returns-in_err-name-clause-left : goal.returns-in_err-name-clause-left
returns-in_err-name-clause-left g c = on_any c.from_residual.result _ (left_same (g.F.Shelf.files c.args.files.now) _ (pack_name c.args.file.now) refl)

pub returns-in_err-name-clause-cause : goal.returns-in_err-name-clause-cause
returns-in_err-name-clause-cause g c =
    let p = err_from_is_err_and c.from_residual.result c.from_residual.ensures.1 in
    on_refusal c.from_residual.result refusals.Memory (FilePackCause g.L.Links.linked c.args.file.now c.args.before (g.F.Shelf.files c.args.files.now) (Rose (g.F.Shelf.counter c.args.files.now) (g.F.Shelf.counter c.args.files.now) ⊎ (g.F.Shelf.sound_disks c.args.files.now → ⊥)))
    (p.1 ∙ ap (λ k. Err k) p.2) tt

pub returns-in_err-name-clause-unmade : goal.returns-in_err-name-clause-unmade
returns-in_err-name-clause-unmade g c =
    let p = err_from_is_err_and c.from_residual.result c.from_residual.ensures.1 in
    on_refusal c.from_residual.result refusals.Memory (λ x. IsBefore x → g.F.Shelf.files c.args.files.now ≡ g.F.Shelf.files c.args.files.now) (p.1 ∙ ap (λ k. Err k) p.2) (λ before. refl)

pub returns-in_err-name-clause-lasting : goal.returns-in_err-name-clause-lasting
returns-in_err-name-clause-lasting g c = on_either c.from_residual.result _ _ (λ other not was. was)

-- ---- the packed file isn't made

pub returns-in_err-done-clause-left : goal.returns-in_err-done-clause-left
returns-in_err-done-clause-left g c = on_any c.from_residual-in_err-done.result _ c.pack_beside.ensures.left

pub returns-in_err-done-clause-cause : goal.returns-in_err-done-clause-cause
returns-in_err-done-clause-cause g c =
    let r = c.from_residual-in_err-done.result in
    let p = err_from_is_err_and r c.from_residual-in_err-done.ensures.1 in
    on_refusal r c.in_err-done.field-0.0
    (FilePackCause g.L.Links.linked c.args.file.now c.args.before (g.F.Shelf.files c.args.files.now) (Rose (g.F.Shelf.counter c.args.files.now) (g.F.Shelf.counter c.pack_beside.new.files) ⊎ (g.F.Shelf.sound_disks c.args.files.now → ⊥)))
    (p.1 ∙ ap (λ k. Err k) p.2) c.in_err-done.ensures.cause

pub returns-in_err-done-clause-unmade : goal.returns-in_err-done-clause-unmade
returns-in_err-done-clause-unmade g c =
    let r = c.from_residual-in_err-done.result in
    let p = err_from_is_err_and r c.from_residual-in_err-done.ensures.1 in
    on_refusal r c.in_err-done.field-0.0 (λ x. IsBefore x → g.F.Shelf.files c.pack_beside.new.files ≡ g.F.Shelf.files c.args.files.now) (p.1 ∙ ap (λ k. Err k) p.2) c.in_err-done.ensures.unmade

pub returns-in_err-done-clause-lasting : goal.returns-in_err-done-clause-lasting
returns-in_err-done-clause-lasting g c = on_either c.from_residual-in_err-done.result _ _ c.pack_beside.ensures.lasting

-- ---- it is put in the other's place

pub returns-in-Ok-clause-packed : goal.returns-in-Ok-clause-packed
returns-in-Ok-clause-packed g c =
    let named : c.as_str-new.result.now ≡ pack_name c.args.file.now = search rules in
    put_in_place g.L.Links.linked (g.F.Shelf.files c.args.files.now) _ _ c.args.file.now c.as_str-new.result.now c.args.before _ named c.in_ok-done.ensures.made c.in-Ok.ensures.replaced

pub returns-in-Ok-clause-lasts : goal.returns-in-Ok-clause-lasts
returns-in-Ok-clause-lasts g c =
    let it = c.in-Ok.ensures.lasting c.in_ok-done.ensures.lasts.0 in
    (it.0, λ other was. it.1 other (c.in_ok-done.ensures.lasts.1 other was))

-- ---- it isn't

pub returns-in-Err-Failed-clause-cause : goal.returns-in-Err-Failed-clause-cause
returns-in-Err-Failed-clause-cause g c =
    (calls_then c.pack_beside.ensures.calls c.pack_beside.ensures.calls.sound (calls_one c.in-Err-Failed.ensures.counts c.in-Err-Failed.ensures.stays_sound (λ f. f)) (λ f. inr f)).cause (rw c.in-Err-Failed.field-0-is refl)

pub returns-in-Err-Failed-clause-left : goal.returns-in-Err-Failed-clause-left
returns-in-Err-Failed-clause-left g c =
    subst (λ (o : Option (List Entry)). Turns (g.F.Shelf.files c.args.files.now) o (LeavesOne (pack_name c.args.file.now))) (sym c.in-Err-Failed.ensures.kept) c.pack_beside.ensures.left

pub returns-in-Err-Failed-clause-unmade : goal.returns-in-Err-Failed-clause-unmade
returns-in-Err-Failed-clause-unmade g c = λ before. absurd before

pub returns-in-Err-Failed-clause-lasting : goal.returns-in-Err-Failed-clause-lasting
returns-in-Err-Failed-clause-lasting g c =
    inr (
      (λ before. before),
      c.in_ok-done.done,
      subst (λ (o : Option (List Entry)). Turns (g.F.Shelf.files c.args.files.now) o (λ all now. MadeBeside g.L.Links.linked all now c.args.file.now c.args.before c.in_ok-done.done)) (sym c.in-Err-Failed.ensures.kept) c.in_ok-done.ensures.made,
    )

pub returns-in-Err-Missing-clause-left : goal.returns-in-Err-Missing-clause-left
returns-in-Err-Missing-clause-left g c =
    subst (λ (o : Option (List Entry)). Turns (g.F.Shelf.files c.args.files.now) o (LeavesOne (pack_name c.args.file.now))) (sym c.in-Err-Missing.ensures.kept) c.pack_beside.ensures.left

pub returns-in-Err-Missing-clause-unmade : goal.returns-in-Err-Missing-clause-unmade
returns-in-Err-Missing-clause-unmade g c = λ before. absurd before

pub returns-in-Err-Missing-clause-lasting : goal.returns-in-Err-Missing-clause-lasting
returns-in-Err-Missing-clause-lasting g c =
    inr (
      (λ before. before),
      c.in_ok-done.done,
      subst (λ (o : Option (List Entry)). Turns (g.F.Shelf.files c.args.files.now) o (λ all now. MadeBeside g.L.Links.linked all now c.args.file.now c.args.before c.in_ok-done.done)) (sym c.in-Err-Missing.ensures.kept) c.in_ok-done.ensures.made,
    )

pub returns-in-Err-Memory-clause-left : goal.returns-in-Err-Memory-clause-left
returns-in-Err-Memory-clause-left g c =
    subst (λ (o : Option (List Entry)). Turns (g.F.Shelf.files c.args.files.now) o (LeavesOne (pack_name c.args.file.now))) (sym c.in-Err-Memory.ensures.kept) c.pack_beside.ensures.left

pub returns-in-Err-Memory-clause-unmade : goal.returns-in-Err-Memory-clause-unmade
returns-in-Err-Memory-clause-unmade g c = λ before. absurd before

pub returns-in-Err-Memory-clause-lasting : goal.returns-in-Err-Memory-clause-lasting
returns-in-Err-Memory-clause-lasting g c =
    inr (
      (λ before. before),
      c.in_ok-done.done,
      subst (λ (o : Option (List Entry)). Turns (g.F.Shelf.files c.args.files.now) o (λ all now. MadeBeside g.L.Links.linked all now c.args.file.now c.args.before c.in_ok-done.done)) (sym c.in-Err-Memory.ensures.kept) c.in_ok-done.ensures.made,
    )
