-- What a server is refused for.
use Rattle.zio.specs.declared.refusal.OutsideRefusal.{OutsideRefusal}
use Rattle.zserve.specs.declared.refusal.ServeRefusal.{ServeRefusal}

-- where its hub refuses a call
abbrev pub of_hub : OutsideRefusal → ServeRefusal
of_hub OutsideRefusal.Failed = ServeRefusal.Hub
of_hub OutsideRefusal.Memory = ServeRefusal.Memory

-- where its tape does
abbrev pub of_tape : OutsideRefusal → ServeRefusal
of_tape OutsideRefusal.Failed = ServeRefusal.Tape
of_tape OutsideRefusal.Memory = ServeRefusal.Memory
