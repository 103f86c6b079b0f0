use Rattle.std.proofs.Common.{◌≡◌, ap, ◌∙◌}
use Rattle.zbase.specs.History.{Value}
use Rattle.zbase.specs.Values.{before}
use Rattle.evaluator.specs.declared.fact.Part.{Part}
use Rattle.evaluator.specs.Facts.{part_of}
use Rattle.fs_store.specs.Fronts.{history_at}
use Rattle.fs_store.proofs.PartSteps.{part_is}
use Rattle.fs_store.proofs.Tellings.{on_told}
use Rattle.fs_store.proofs.file.OpenFile.part_of.Goals as goal

pub returns-clause-part : goal.returns-clause-part
returns-clause-part g c =
    let w = c.args.written.now in
    let l = c.in_ok-value.field-0 in
    on_told (g.D.Disk.told c.args.disk.now) _ (λ told. (let p : Part = record { oid = w.oid; after = c.in_ok-after.after; before = l.value; before_serial = l.serial } in p) ≡ part_of (before (history_at told c.args.self.now.end) c.args.tid) (w.oid, w.value))
    (λ told loaded. part_is (history_at told c.args.self.now.end) c.args.tid w.oid c.in_ok-after.after l.value l.serial c.requires.positive loaded.value_is loaded.serial_is
    ∙ ap (λ (v : Value). part_of (before (history_at told c.args.self.now.end) c.args.tid) (w.oid, v)) c.in_ok-after.ensures) c.in_ok-value.ensures.loaded
