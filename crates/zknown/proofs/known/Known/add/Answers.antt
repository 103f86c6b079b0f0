use Rattle.std.proofs.Common.{refl}
use Rattle.std.proofs.lemmas.Result.{on_ok_weaker}
use Rattle.zknown.specs.declared.kept.Kept.TheVariants as kept
use Rattle.zknown.proofs.known.Known.add.Goals as goal

pub returns-in-Some-Ok-clause-added : goal.returns-in-Some-Ok-clause-added
returns-in-Some-Ok-clause-added c = rw (c.in-Some-Ok.is, c.in-Some-Ok.field-0-is) (on_ok_weaker c.put-in-Some-Ok.result (λ added. (kept.Here c.in-Some-Ok.object, refl, added)) c.put-in-Some-Ok.ensures.added)
