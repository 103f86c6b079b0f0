use Rattle.std.proofs.Common.{◌∙◌, refl}
use Rattle.manage.proofs.call.call_named.Goals as goal

pub returns : goal.returns
returns c = c.find_call.ensures ∙ rw (c.as_slice.ensures, c.as_bytes.ensures.value) refl
