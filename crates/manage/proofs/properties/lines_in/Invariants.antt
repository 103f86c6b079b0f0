use Rattle.std.proofs.Common.{◌≡◌, ◌++◌, drop, map}
use Rattle.manage.specs.Becoming.{without_cr}
use Rattle.manage.proofs.properties.lines_in.Given as goal

abbrev pub invariant-loop-at : goal.invariant-loop-at
invariant-loop-at l = l.lines ++ without_cr (map (λ part. part.now) (drop l.at l.parts)) ≡ without_cr (map (λ part. part.now) l.parts)
