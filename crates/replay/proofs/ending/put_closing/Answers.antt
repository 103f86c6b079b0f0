use Rattle.std.proofs.Common.{◌≡◌, ◌∷◌, [], Err, ap, append_assoc, sym, subst}
use Rattle.zio.specs.Sinks.{due}
use Rattle.zbase.specs.Faults.{IsFaultless}
use Rattle.schedule.specs.declared.line.Line.{Line}
use Rattle.schedule.specs.Explained.{history_lines}
use Rattle.replay.specs.Dumped.{dump_lines}
use Rattle.replay.specs.Losing.{lost_marks}
use Rattle.replay.specs.Printed.{Prints}
use Rattle.replay.proofs.Closing.{no_damage, no_fault, prints_its_history}
use Rattle.replay.proofs.PrintSteps.{prints_then}
use Rattle.replay.proofs.ending.put_closing.Goals as goal

pub returns-in-Ok-clause-ok : goal.returns-in-Ok-clause-ok
returns-in-Ok-clause-ok g c =
    let store = c.args.store in
    let disk = c.into_disk-disk.ensures in
    let lost = subst (λ marks. Prints (due (g.K.Sink.written c.args.out.now) c.args.held.now) (due (g.K.Sink.written c.put_lost.new.out) c.put_lost.new.held) (lost_marks marks)) c.as_slice.ensures c.in_ok-put_lost.ensures.ok in
    subst (λ ls. Prints (due (g.K.Sink.written c.args.out.now) c.args.held.now) (due (g.K.Sink.written c.dump.new.out) c.dump.new.held) ls) (sym (append_assoc (lost_marks c.args.taken.now) (history_lines store.history) (Line.End ∷ [])))
    (prints_then _ _ _ (lost_marks c.args.taken.now) (dump_lines store.history) lost
    (prints_its_history (g.D.Disk.told c.into_disk-disk.result) store _ _ disk.told c.requires.steady.told (disk.whole c.requires.steady.fresh) c.in-Ok.ensures.ok))

pub unreachable-requires : goal.unreachable-requires
unreachable-requires g c =
    no_fault _ _ _ (subst IsFaultless (sym c.into_disk-disk.ensures.counter) c.requires.steady.faultless) c.in-Err-Disk.ensures.disk (ap (λ k. Err k) c.in-Err-Disk.field-0-is)

pub unreachable-requires-in-Err-Damaged : goal.unreachable-requires-in-Err-Damaged
unreachable-requires-in-Err-Damaged g c =
    let disk = c.into_disk-disk.ensures in
    no_damage (g.D.Disk.told c.into_disk-disk.result) c.args.store _ _ ((g.K.Sink.written c.dump.new.out ≡ g.K.Sink.written c.put_lost.new.out) × (c.dump.new.held ≡ c.put_lost.new.held)) disk.told c.requires.steady.told (disk.whole c.requires.steady.fresh) (c.in-Err-Damaged.ensures.damaged c.in-Err-Damaged.field-0-0 c.in-Err-Damaged.field-0-1 (ap (λ k. Err k) c.in-Err-Damaged.field-0-is))
