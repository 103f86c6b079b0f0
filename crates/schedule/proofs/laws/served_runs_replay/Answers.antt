use Rattle.std.proofs.Common.{sym}
use Rattle.schedule.specs.Armed.{IsArmed}
use Rattle.schedule.specs.Counted.{AreCounted, printed}
use Rattle.schedule.proofs.Replaying.{same_report}
use Rattle.schedule.proofs.laws.served_runs_replay.Goals as goal

pub returns : goal.returns
returns g c = record {
  same = λ terms h0 s r q old new served replayed calm quiet. sym (same_report terms (λ places. AreCounted old (printed places) new) IsArmed h0 s r q served replayed calm quiet);
}
