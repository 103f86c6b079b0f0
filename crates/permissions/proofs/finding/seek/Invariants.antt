use Rattle.std.proofs.Common.{◌≡◌, drop}
use Rattle.zbase.specs.Query.{run}
use Rattle.zknown.specs.Seen.{shapes}
use Rattle.permissions.specs.Users as spec
use Rattle.permissions.proofs.finding.seek.Given as goal

-- those of the folders that are left decide
abbrev pub invariant-loop-folder : goal.invariant-loop-folder
invariant-loop-folder l = run (shapes l.known) (spec.sought l.credentials l.permission l.path (drop l.folder-index l.folders)) ≡ run (shapes l.fn.known) (spec.sought l.fn.credentials l.fn.permission l.fn.path l.fn.folders)
