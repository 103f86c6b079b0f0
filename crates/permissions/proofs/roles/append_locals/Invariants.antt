use Rattle.std.proofs.Common.{◌≡◌, drop}
use Rattle.std.specs.List.{AllByRecursion}
use Rattle.zbase.specs.Query.{run}
use Rattle.zknown.specs.Seen.{shapes}
use Rattle.acquisition.specs.Expressions.{IsHere}
use Rattle.permissions.specs.Roles as spec
use Rattle.permissions.proofs.roles.append_locals.Given as goal

-- what is left of the path comes behind the roles so far
abbrev pub invariant-loop-oid : goal.invariant-loop-oid
invariant-loop-oid l = AllByRecursion (IsHere (shapes l.known)) (drop l.oid-index l.path)
    × (spec.behind l.roles (run (shapes l.known) (spec.locals_on l.name (drop l.oid-index l.path))) ≡ spec.behind l.fn.roles (run (shapes l.fn.known) (spec.locals_on l.fn.name l.fn.path)))
