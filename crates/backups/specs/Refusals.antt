-- A refusal of a part, as one of the whole.
use Rattle.std.specs.Prelude.{◌≡◌}
use Rattle.repozo.specs.declared.index.IndexRefusal.{IndexRefusal}
use Rattle.repozo.specs.declared.refusal.RepoRefusal.{RepoRefusal}
use Rattle.repozo.specs.declared.refusal.RepoRefusal.TheVariants as repo
use Rattle.backups.specs.declared.indexes.Unread.{Unread}
use Rattle.backups.specs.declared.indexes.Unread.TheVariants as unread
use Rattle.backups.specs.declared.refusal.RestoreRefusal.{RestoreRefusal}
use Rattle.backups.specs.declared.refusal.RestoreRefusal.TheVariants as restore

abbrev pub of_index : IndexRefusal → Unread
of_index (IndexRefusal.BadIndex n) = unread.Bad n
of_index IndexRefusal.Memory = unread.Memory

abbrev pub of_unread : Unread → RestoreRefusal
of_unread unread.Missing = restore.Missing
of_unread (unread.Bad n) = restore.BadIndex n
of_unread unread.Failed = restore.Disk
of_unread unread.Memory = restore.Memory

-- how a refusal of a check of pieces, or of their joining, is told
abbrev pub IsToldOf : RepoRefusal → RestoreRefusal → Type 0
IsToldOf repo.Piece told = told ≡ restore.Disk
IsToldOf repo.Out told = told ≡ restore.Disk
IsToldOf (repo.BadPiece name) told = told ≡ restore.BadPiece name
IsToldOf repo.Memory told = told ≡ restore.Memory
IsToldOf _ told = ⊥
