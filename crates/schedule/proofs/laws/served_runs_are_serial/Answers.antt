use Rattle.schedule.specs.Counted.{AreCounted, printed}
use Rattle.schedule.proofs.Counting.{replays}
use Rattle.schedule.proofs.Running.{explained_by}
use Rattle.schedule.proofs.laws.served_runs_are_serial.Goals as goal

pub returns-clause-serial : goal.returns-clause-serial
returns-clause-serial g c = λ terms h0 old new trace end lawful is course counted. explained_by terms (λ places. AreCounted old (printed places) new) h0 trace end lawful is course counted

pub returns-clause-replays : goal.returns-clause-replays
returns-clause-replays g c = λ terms h0 s r n below none e. replays terms n h0 s r below none e
