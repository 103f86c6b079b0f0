use Rattle.std.proofs.Common.{◌∷◌, Err, [], ap}
use Rattle.schedule.specs.declared.line.Line.{Line}
use Rattle.schedule.specs.Explained.{history_lines}
use Rattle.zbase.specs.Faults.{counts_as, counts_then}
use Rattle.replay.proofs.Closing.{no_fault}
use Rattle.replay.proofs.PackMaking.{no_damage_met, puts_history}
use Rattle.replay.proofs.PrintSteps.{prints_then_ok}
use Rattle.replay.proofs.pack.put_packed.Goals as goal

pub returns-in-Ok-clause-ok : goal.returns-in-Ok-clause-ok
returns-in-Ok-clause-ok g c = λ h file. prints_then_ok c.put_line.result _ _ _ (history_lines h) (Line.Packed c.args.floor c.args.count ∷ []) (puts_history _ h _ _ file c.in-Ok.ensures.ok) c.put_line.ensures.ok

pub returns-in-Ok-clause-counts : goal.returns-in-Ok-clause-counts
returns-in-Ok-clause-counts g c = counts_then (counts_as c.in-Ok.ensures.sink (λ e. cc) (λ none. absurd none)) (λ none. none) c.put_line.ensures.counts

pub unreachable-requires : goal.unreachable-requires
unreachable-requires g c = no_fault _ _ _ c.requires.calm c.in-Err-Disk.ensures.disk (ap (λ k. Err k) c.in-Err-Disk.field-0-is)

pub unreachable-requires-in-Err-Damaged : goal.unreachable-requires-in-Err-Damaged
unreachable-requires-in-Err-Damaged g c =
    no_damage_met _ c.requires.file.0 _ _ _ c.requires.file.1 (c.in-Err-Damaged.ensures.damaged c.in-Err-Damaged.field-0-0 c.in-Err-Damaged.field-0-1 (ap (λ k. Err k) c.in-Err-Damaged.field-0-is))
