-- What a refusal tells, and what stands after a call.
use Rattle.std.specs.Prelude.{ℕ, ◌≡◌, ◌≤◌, Option, None, Some}
use Rattle.zbase.specs.Query.{Halt, Need, Cause}
use Rattle.namespace.specs.declared.refusal.NameRefusal.{NameRefusal}
use Rattle.namespace.specs.declared.refusal.NameRefusal.TheVariants as lower
use Rattle.namespace.specs.Looks as looks
use Rattle.namespace.specs.Looks.{Fault, Of}
use Rattle.namespace.specs.Names.{Space}
use Rattle.namespace.specs.Told.{Begins}
use Rattle.dtml_values.specs.declared.budget.Budget.{Budget}
use Rattle.dtml_values.specs.declared.refusal.Limit.{Limit}
use Rattle.dtml_values.specs.declared.refusal.Limit.TheVariants as limits
use Rattle.dtml_values.specs.declared.refusal.RenderRefusal.{RenderRefusal}
use Rattle.dtml_values.specs.declared.refusal.RenderRefusal.TheVariants as refusal
use Rattle.dtml_values.specs.Values.{Left}

abbrev pub limit_of : Limit → looks.Limit
limit_of limits.Tags = looks.Tags
limit_of limits.Renders = looks.Renders
limit_of limits.Output = looks.Output

-- nothing where memory ran out
abbrev pub told : RenderRefusal → Option (Halt ℕ Fault)
told refusal.Memory = None
told (refusal.Need o) = Some (Need o)
told (refusal.Broken o) = Some (Cause (looks.Broken o))
told (refusal.Unauthorized o permission) = Some (Cause (looks.Unauthorized o permission))
told refusal.TooDeep = Some (Cause looks.TooDeep)
told (refusal.NoName name) = Some (Cause (Of (looks.NoName name)))
told (refusal.BadValue at) = Some (Cause (Of (looks.BadValue at)))
told (refusal.Runaway limit) = Some (Cause (Of (looks.Runaway (limit_of limit))))
told (refusal.BadSource o r) = Some (Cause (Of (looks.BadSource o r)))

abbrev pub of_name : NameRefusal → RenderRefusal
of_name lower.Memory = refusal.Memory
of_name (lower.Need o) = refusal.Need o
of_name (lower.Broken o) = refusal.Broken o
of_name (lower.Unauthorized o permission) = refusal.Unauthorized o permission
of_name lower.TooDeep = refusal.TooDeep

abbrev pub left_of : Budget → Left
left_of budget = record { tags = budget.tags; output = budget.output }

-- what stands after a call, also after a refusal: what is known, the scope and the number of renderings, the objects that were shown
-- before, and no more tags and bytes than there were left
pub record Keeps (old new : Space) (before after : Budget) : Type 0 where
  pub known : new.known ≡ old.known
  pub scope : new.scope ≡ old.scope
  pub shown : Begins old.shown new.shown
  pub renders : after.renders ≡ before.renders
  pub tags : after.tags ≤ before.tags
  pub output : after.output ≤ before.output
