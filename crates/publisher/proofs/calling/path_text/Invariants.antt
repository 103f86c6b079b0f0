use Rattle.std.proofs.Common.{◌≡◌, ◌++◌, drop}
use Rattle.http_in.specs.Paths as paths
use Rattle.publisher.proofs.calling.path_text.Given as goal

-- the text so far becomes that of the path with the segments that are left
abbrev pub invariant-loop-segment : goal.invariant-loop-segment
invariant-loop-segment l = l.text ++ paths.path_text (drop l.segment-index l.path) ≡ paths.path_text l.path
