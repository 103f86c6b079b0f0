use Rattle.std.proofs.Common.{◌≡◌, ◌∙◌, ◌⊎◌, Err, ap, inl, inr, refl}
use Rattle.std.proofs.lemmas.Result.{err_from_is_err_and}
use Rattle.zbase.specs.Faults.{Rose}
use Rattle.file_packer.specs.declared.refusal.FilePackRefusal.{FilePackRefusal}
use Rattle.file_packer.specs.declared.refusal.FilePackRefusal.TheVariants as refusals
use Rattle.file_packer.specs.Calls.{calls_as, calls_then}
use Rattle.file_packer.specs.Packing.{FilePackCause, IsBefore, pack_name}
use Rattle.file_packer.proofs.Beside.{file_cause, held_beside, left_beside, made_beside}
use Rattle.file_packer.proofs.Shelving.{calls_back, calls_one, left_same, on_refusal, opened, unchanged}
use Rattle.file_packer.proofs.pack.pack_beside.Goals as goal

-- ---- the packed file isn't made

pub returns-in_err-done-in-Ok-clause-left : goal.returns-in_err-done-in-Ok-clause-left
returns-in_err-done-in-Ok-clause-left g c =
    left_beside (g.F.Shelf.files c.args.files.now) _ _ _ c.args.file.now c.args.name.now _ _ c.close-closed.result c.requires.named (opened (g.F.Shelf.files c.args.files.now) c.args.file.now _ c.in-Ok.ensures.found c.in-Ok.ensures.there) c.in-Ok.ensures.same c.pack_into-done.ensures.same
    c.pack_into-done.ensures.left c.close-closed.ensures.closed c.close-closed.ensures.kept

pub returns-in_err-done-in-Ok-clause-cause : goal.returns-in_err-done-in-Ok-clause-cause
returns-in_err-done-in-Ok-clause-cause g c =
    let r = c.from_residual.result in
    let p = err_from_is_err_and r c.from_residual.ensures.1 in
    let e = c.in_err-done-in-Ok.field-0.0 in
    let files = g.F.Shelf.files in
    let failed = Rose (g.F.Shelf.counter c.args.files.now) (g.F.Shelf.counter c.close-closed.new.self) ⊎ (g.F.Shelf.sound_disks c.args.files.now → ⊥) in
    let calls = calls_back (calls_then (calls_one c.in-Ok.ensures.counts c.in-Ok.ensures.stays_sound (λ f. f)) (λ s. (c.in-Ok.ensures.stays_sound s, c.in-Ok.ensures.sound s)) c.in_err-done-in-Ok.ensures.calls (λ f. inr f)) c.close-closed.ensures.stays_sound c.close-closed.ensures.uncounted in
    on_refusal r e (FilePackCause g.L.Links.linked c.args.file.now c.args.before (files c.args.files.now) failed) (p.1 ∙ ap (λ k. Err k) p.2)
    (file_cause g.L.Links.linked c.args.before (files c.args.files.now) _ c.args.file.now c.args.name.now _ failed e c.requires.named (opened (files c.args.files.now) c.args.file.now _ c.in-Ok.ensures.found c.in-Ok.ensures.there) c.in-Ok.ensures.same c.in_err-done-in-Ok.ensures.cause
    (λ is. calls.cause (ap (λ (k : FilePackRefusal). Err k) is)))

pub returns-in_err-done-in-Ok-clause-unmade : goal.returns-in_err-done-in-Ok-clause-unmade
returns-in_err-done-in-Ok-clause-unmade g c =
    let r = c.from_residual.result in
    let p = err_from_is_err_and r c.from_residual.ensures.1 in
    let files = g.F.Shelf.files in
    on_refusal r c.in_err-done-in-Ok.field-0.0 (λ x. IsBefore x → files c.close-closed.new.self ≡ files c.args.files.now) (p.1 ∙ ap (λ k. Err k) p.2)
    (λ before. unchanged (files c.args.files.now) _ _ c.args.file.now _ _ c.close-closed.result (opened (files c.args.files.now) c.args.file.now _ c.in-Ok.ensures.found c.in-Ok.ensures.there) (c.in_err-done-in-Ok.ensures.unmade before ∙ c.in-Ok.ensures.same) c.pack_into-done.ensures.same
    c.close-closed.ensures.closed c.close-closed.ensures.kept)

pub returns-in_err-done-in-Ok-clause-lasting : goal.returns-in_err-done-in-Ok-clause-lasting
returns-in_err-done-in-Ok-clause-lasting g c = λ other not was.
    c.close-closed.ensures.unwritten
    (held_beside (g.F.Shelf.files c.args.files.now) _ _ c.args.file.now c.args.name.now _ _ (opened (g.F.Shelf.files c.args.files.now) c.args.file.now _ c.in-Ok.ensures.found c.in-Ok.ensures.there) c.in-Ok.ensures.same c.pack_into-done.ensures.same c.pack_into-done.ensures.left)
    other (c.pack_into-done.ensures.lasting other (λ is. not (is ∙ c.requires.named)) (c.in-Ok.ensures.lasting other was))

pub returns-in_err-done-in-Ok-clause-calls : goal.returns-in_err-done-in-Ok-clause-calls
returns-in_err-done-in-Ok-clause-calls g c =
    let p = err_from_is_err_and c.from_residual.result c.from_residual.ensures.1 in
    let calls = calls_back (calls_then (calls_one c.in-Ok.ensures.counts c.in-Ok.ensures.stays_sound (λ f. f)) (λ s. (c.in-Ok.ensures.stays_sound s, c.in-Ok.ensures.sound s)) c.in_err-done-in-Ok.ensures.calls (λ f. inr f)) c.close-closed.ensures.stays_sound c.close-closed.ensures.uncounted in
    calls_as calls (λ f. (let same : c.in_err-done-in-Ok.field-0.0 ≡ refusals.Disk = cc in ap (λ (k : FilePackRefusal). Err k) same))

-- ---- the file isn't given back

pub returns-in_err-closed-in-Ok-clause-left : goal.returns-in_err-closed-in-Ok-clause-left
returns-in_err-closed-in-Ok-clause-left g c =
    left_beside (g.F.Shelf.files c.args.files.now) _ _ _ c.args.file.now c.args.name.now _ _ c.close-closed.result c.requires.named (opened (g.F.Shelf.files c.args.files.now) c.args.file.now _ c.in-Ok.ensures.found c.in-Ok.ensures.there) c.in-Ok.ensures.same c.pack_into-done.ensures.same
    c.pack_into-done.ensures.left c.close-closed.ensures.closed c.close-closed.ensures.kept

pub returns-in_err-closed-in-Ok-clause-cause : goal.returns-in_err-closed-in-Ok-clause-cause
returns-in_err-closed-in-Ok-clause-cause g c =
    let r = c.from_residual-in_err-closed-in-Ok.result in
    let p = err_from_is_err_and r c.from_residual-in_err-closed-in-Ok.ensures.1 in
    on_refusal r refusals.Memory (FilePackCause g.L.Links.linked c.args.file.now c.args.before (g.F.Shelf.files c.args.files.now) (Rose (g.F.Shelf.counter c.args.files.now) (g.F.Shelf.counter c.close-closed.new.self) ⊎ (g.F.Shelf.sound_disks c.args.files.now → ⊥)))
    (p.1 ∙ ap (λ k. Err k) p.2) tt

pub returns-in_err-closed-in-Ok-clause-unmade : goal.returns-in_err-closed-in-Ok-clause-unmade
returns-in_err-closed-in-Ok-clause-unmade g c =
    let r = c.from_residual-in_err-closed-in-Ok.result in
    let p = err_from_is_err_and r c.from_residual-in_err-closed-in-Ok.ensures.1 in
    on_refusal r refusals.Memory (λ x. IsBefore x → g.F.Shelf.files c.close-closed.new.self ≡ g.F.Shelf.files c.args.files.now) (p.1 ∙ ap (λ k. Err k) p.2) (λ before. absurd before)

pub returns-in_err-closed-in-Ok-clause-lasting : goal.returns-in_err-closed-in-Ok-clause-lasting
returns-in_err-closed-in-Ok-clause-lasting g c = λ other not was.
    c.close-closed.ensures.unwritten
    (held_beside (g.F.Shelf.files c.args.files.now) _ _ c.args.file.now c.args.name.now _ _ (opened (g.F.Shelf.files c.args.files.now) c.args.file.now _ c.in-Ok.ensures.found c.in-Ok.ensures.there) c.in-Ok.ensures.same c.pack_into-done.ensures.same c.pack_into-done.ensures.left)
    other (c.pack_into-done.ensures.lasting other (λ is. not (is ∙ c.requires.named)) (c.in-Ok.ensures.lasting other was))

pub returns-in_err-closed-in-Ok-clause-calls : goal.returns-in_err-closed-in-Ok-clause-calls
returns-in_err-closed-in-Ok-clause-calls g c =
    let p = err_from_is_err_and c.from_residual-in_err-closed-in-Ok.result c.from_residual-in_err-closed-in-Ok.ensures.1 in
    let calls = calls_back (calls_then (calls_one c.in-Ok.ensures.counts c.in-Ok.ensures.stays_sound (λ f. f)) (λ s. (c.in-Ok.ensures.stays_sound s, c.in-Ok.ensures.sound s)) c.pack_into-done.ensures.calls (λ f. inr f)) c.close-closed.ensures.stays_sound c.close-closed.ensures.uncounted in
    calls_as calls (λ f. absurd (let same : refusals.Memory ≡ refusals.Disk = cc in cc))

-- ---- it is made

pub returns-in_ok-closed-in-Ok-clause-made : goal.returns-in_ok-closed-in-Ok-clause-made
returns-in_ok-closed-in-Ok-clause-made g c =
    made_beside g.L.Links.linked (g.F.Shelf.files c.args.files.now) _ _ _ c.args.file.now c.args.name.now c.args.before _ _ _ c.close-closed.result c.requires.named (opened (g.F.Shelf.files c.args.files.now) c.args.file.now _ c.in-Ok.ensures.found c.in-Ok.ensures.there) c.in-Ok.ensures.same
    c.pack_into-done.ensures.same c.in_ok-done-in-Ok.ensures.made c.close-closed.ensures.closed c.close-closed.ensures.kept

pub returns-in_ok-closed-in-Ok-clause-left : goal.returns-in_ok-closed-in-Ok-clause-left
returns-in_ok-closed-in-Ok-clause-left g c =
    left_beside (g.F.Shelf.files c.args.files.now) _ _ _ c.args.file.now c.args.name.now _ _ c.close-closed.result c.requires.named (opened (g.F.Shelf.files c.args.files.now) c.args.file.now _ c.in-Ok.ensures.found c.in-Ok.ensures.there) c.in-Ok.ensures.same c.pack_into-done.ensures.same
    c.pack_into-done.ensures.left c.close-closed.ensures.closed c.close-closed.ensures.kept

pub returns-in_ok-closed-in-Ok-clause-lasts : goal.returns-in_ok-closed-in-Ok-clause-lasts
returns-in_ok-closed-in-Ok-clause-lasts g c =
    let keeps = c.close-closed.ensures.unwritten
    (held_beside (g.F.Shelf.files c.args.files.now) _ _ c.args.file.now c.args.name.now _ _ (opened (g.F.Shelf.files c.args.files.now) c.args.file.now _ c.in-Ok.ensures.found c.in-Ok.ensures.there) c.in-Ok.ensures.same c.pack_into-done.ensures.same c.pack_into-done.ensures.left) in
    (keeps c.args.name.now c.in_ok-done-in-Ok.ensures.lasts.0, λ other was. keeps other (c.in_ok-done-in-Ok.ensures.lasts.1 other (c.in-Ok.ensures.lasting other was)))

pub returns-in_ok-closed-in-Ok-clause-lasting : goal.returns-in_ok-closed-in-Ok-clause-lasting
returns-in_ok-closed-in-Ok-clause-lasting g c = λ other not was.
    c.close-closed.ensures.unwritten
    (held_beside (g.F.Shelf.files c.args.files.now) _ _ c.args.file.now c.args.name.now _ _ (opened (g.F.Shelf.files c.args.files.now) c.args.file.now _ c.in-Ok.ensures.found c.in-Ok.ensures.there) c.in-Ok.ensures.same c.pack_into-done.ensures.same c.pack_into-done.ensures.left)
    other (c.pack_into-done.ensures.lasting other (λ is. not (is ∙ c.requires.named)) (c.in-Ok.ensures.lasting other was))

pub returns-in_ok-closed-in-Ok-clause-calls : goal.returns-in_ok-closed-in-Ok-clause-calls
returns-in_ok-closed-in-Ok-clause-calls g c =
    let calls = calls_back (calls_then (calls_one c.in-Ok.ensures.counts c.in-Ok.ensures.stays_sound (λ f. f)) (λ s. (c.in-Ok.ensures.stays_sound s, c.in-Ok.ensures.sound s)) c.pack_into-done.ensures.calls (λ f. inr f)) c.close-closed.ensures.stays_sound c.close-closed.ensures.uncounted in
    calls_as calls (λ f. absurd cc)

-- ---- it isn't opened

pub returns-in-Err-Missing-clause-left : goal.returns-in-Err-Missing-clause-left
returns-in-Err-Missing-clause-left g c = left_same (g.F.Shelf.files c.args.files.now) _ (pack_name c.args.file.now) c.in-Err-Missing.ensures.same

pub returns-in-Err-Missing-clause-cause : goal.returns-in-Err-Missing-clause-cause
returns-in-Err-Missing-clause-cause g c = c.in-Err-Missing.ensures.missing (rw c.in-Err-Missing.field-0-is refl)

pub returns-in-Err-Missing-clause-unmade : goal.returns-in-Err-Missing-clause-unmade
returns-in-Err-Missing-clause-unmade g c = λ before. c.in-Err-Missing.ensures.same

pub returns-in-Err-Missing-clause-lasting : goal.returns-in-Err-Missing-clause-lasting
returns-in-Err-Missing-clause-lasting g c = λ other not was. c.in-Err-Missing.ensures.lasting other was

pub returns-in-Err-Missing-clause-calls : goal.returns-in-Err-Missing-clause-calls
returns-in-Err-Missing-clause-calls g c = record { later = c.in-Err-Missing.ensures.counts.later; sound = c.in-Err-Missing.ensures.stays_sound; cause = λ f. absurd cc }

pub returns-in-Err-Failed-clause-left : goal.returns-in-Err-Failed-clause-left
returns-in-Err-Failed-clause-left g c = left_same (g.F.Shelf.files c.args.files.now) _ (pack_name c.args.file.now) c.in-Err-Failed.ensures.same

pub returns-in-Err-Failed-clause-cause : goal.returns-in-Err-Failed-clause-cause
returns-in-Err-Failed-clause-cause g c = inl (c.in-Err-Failed.ensures.counts.cause (rw c.in-Err-Failed.field-0-is refl))

pub returns-in-Err-Failed-clause-lasting : goal.returns-in-Err-Failed-clause-lasting
returns-in-Err-Failed-clause-lasting g c = λ other not was. c.in-Err-Failed.ensures.lasting other was

pub returns-in-Err-Failed-clause-calls : goal.returns-in-Err-Failed-clause-calls
returns-in-Err-Failed-clause-calls g c =
    record { later = c.in-Err-Failed.ensures.counts.later; sound = c.in-Err-Failed.ensures.stays_sound; cause = λ f. inl (c.in-Err-Failed.ensures.counts.cause (rw c.in-Err-Failed.field-0-is refl)) }

pub returns-in-Err-Memory-clause-left : goal.returns-in-Err-Memory-clause-left
returns-in-Err-Memory-clause-left g c = left_same (g.F.Shelf.files c.args.files.now) _ (pack_name c.args.file.now) c.in-Err-Memory.ensures.same

pub returns-in-Err-Memory-clause-lasting : goal.returns-in-Err-Memory-clause-lasting
returns-in-Err-Memory-clause-lasting g c = λ other not was. c.in-Err-Memory.ensures.lasting other was

pub returns-in-Err-Memory-clause-calls : goal.returns-in-Err-Memory-clause-calls
returns-in-Err-Memory-clause-calls g c = record { later = c.in-Err-Memory.ensures.counts.later; sound = c.in-Err-Memory.ensures.stays_sound; cause = λ f. absurd cc }
