use Rattle.std.proofs.Common.{◌≡◌, ◌++◌, map, take}
use Rattle.namespace.specs.Requests as spec
use Rattle.namespace.proofs.request.push_fields.Given as goal

abbrev pub invariant-loop-field : goal.invariant-loop-field
invariant-loop-field l = l.names ≡ l.fn.names ++ map spec.named_field (take l.field-index l.field-items)
