use Rattle.std.proofs.Common.{◌∙◌, ◌&&◌, ap, not}
use Rattle.std.specs.Str.{bytes_eq}
use Rattle.manage.specs.Naming.{Seeking, has}
use Rattle.manage.proofs.Marks.{still_within, taken_out}
use Rattle.manage.proofs.seeking.Sought.meet.Goals as goal

pub invariant_of-self : goal.invariant_of-self
invariant_of-self c = (
  c.self.invariant.0,
  c.self.invariant.1,
  still_within c.self.inside.texts c.self.inside.unmet c.remove.new.self c.args.name.now c.self.invariant.2 (taken_out c.self.inside.unmet c.remove.new.self c.args.name.now c.remove.ensures.keys c.remove.ensures.updates.1),
)

pub returns-clause-met : goal.returns-clause-met
returns-clause-met c = λ q. taken_out c.self.inside.unmet c.remove.new.self c.args.name.now c.remove.ensures.keys c.remove.ensures.updates.1 q ∙ ap (λ (s : Seeking). has s.unmet q && not (bytes_eq q c.args.name.now)) c.self.view_is
