-- Refusals of a run's parts.
use Rattle.zio.specs.declared.refusal.OutsideRefusal.{OutsideRefusal}
use Rattle.replay.specs.declared.refusal.RunRefusal.{RunRefusal}

-- a refusal of the sink, as one of the run
abbrev pub of_outside : OutsideRefusal → RunRefusal
of_outside OutsideRefusal.Failed = RunRefusal.Output
of_outside OutsideRefusal.Memory = RunRefusal.Memory

-- what a part may be refused for that looks neither at bytes nor at a line: the sink, and want of memory
abbrev pub IsOfPrinting : RunRefusal → Type 0
IsOfPrinting RunRefusal.Output = Unit {0}
IsOfPrinting RunRefusal.Memory = Unit {0}
IsOfPrinting _ = ⊥

-- what the items of a schedule may be refused for
abbrev pub IsOfItems : RunRefusal → Type 0
IsOfItems (RunRefusal.Damaged kind place) = ⊥
IsOfItems _ = Unit {0}

-- what the bytes may be refused for
abbrev pub IsOfOpening : RunRefusal → Type 0
IsOfOpening (RunRefusal.Damaged kind place) = Unit {0}
IsOfOpening RunRefusal.Memory = Unit {0}
IsOfOpening _ = ⊥
