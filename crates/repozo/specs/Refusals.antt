-- A refusal of a scan, as one of a backup.
use Rattle.fs_scan.specs.declared.opening.ScanRefusal.{ScanRefusal}
use Rattle.repozo.specs.declared.refusal.RepoRefusal.{RepoRefusal}
use Rattle.repozo.specs.declared.refusal.RepoRefusal.TheVariants as refusals

abbrev pub of_scan : ScanRefusal → RepoRefusal
of_scan (ScanRefusal.Damaged kind place) = refusals.Damaged kind place
of_scan ScanRefusal.Disk = refusals.File
of_scan ScanRefusal.Memory = refusals.Memory

-- what a check of pieces may be refused for
abbrev pub IsOfCheck : RepoRefusal → Type 0
IsOfCheck refusals.Piece = Unit {0}
IsOfCheck (refusals.BadPiece name) = Unit {0}
IsOfCheck refusals.Memory = Unit {0}
IsOfCheck _ = ⊥

-- what a plan may be refused for
abbrev pub IsOfPlan : RepoRefusal → Type 0
IsOfPlan (refusals.Damaged kind place) = Unit {0}
IsOfPlan refusals.File = Unit {0}
IsOfPlan refusals.Piece = Unit {0}
IsOfPlan refusals.Memory = Unit {0}
IsOfPlan _ = ⊥

-- what a copy, or a comparison, may be refused for
abbrev pub IsOfCopy : RepoRefusal → Type 0
IsOfCopy refusals.File = Unit {0}
IsOfCopy refusals.Piece = Unit {0}
IsOfCopy refusals.Memory = Unit {0}
IsOfCopy _ = ⊥

-- what joining may be refused for
abbrev pub IsOfJoin : RepoRefusal → Type 0
IsOfJoin refusals.Piece = Unit {0}
IsOfJoin refusals.Out = Unit {0}
IsOfJoin (refusals.BadPiece name) = Unit {0}
IsOfJoin refusals.Memory = Unit {0}
IsOfJoin _ = ⊥

-- what the writing alone may be refused for
abbrev pub IsOfPut : RepoRefusal → Type 0
IsOfPut refusals.Piece = Unit {0}
IsOfPut refusals.Out = Unit {0}
IsOfPut refusals.Memory = Unit {0}
IsOfPut _ = ⊥

-- and once there is memory for it
abbrev pub IsOfAppend : RepoRefusal → Type 0
IsOfAppend refusals.Piece = Unit {0}
IsOfAppend refusals.Out = Unit {0}
IsOfAppend _ = ⊥
