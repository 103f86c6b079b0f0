use Rattle.std.proofs.Common.{◌≡◌, take}
use Rattle.namespace.proofs.acting.copy_roles.Given as goal

abbrev pub invariant-loop-role : goal.invariant-loop-role
invariant-loop-role l = l.copies ≡ take l.role-index l.roles
