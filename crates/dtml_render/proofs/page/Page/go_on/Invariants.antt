use Rattle.std.proofs.Common.{◌≡◌, ◌≤◌}
use Rattle.zknown.specs.Seen.{objects}
use Rattle.namespace.specs.Names.{Scope}
use Rattle.namespace.specs.Told.{Begins}
use Rattle.dtml_render.specs.Frames.{IsStanding, Leads, Stands, place_of}
use Rattle.dtml_render.proofs.page.Page.go_on.Given as goal

-- the page comes from where it began
abbrev pub invariant-steps : goal.invariant-steps
invariant-steps l = record {
  known : l.stack.known ≡ l.fn.stack.known;
  leads : Leads (objects l.fn.stack.known) (place_of l.fn.self l.fn.stack) (place_of l.self l.stack);
  standing : IsStanding (place_of l.self l.stack);
  shown : Begins l.fn.stack.shown l.stack.shown;
  stands : (base : Scope) → Stands base (place_of l.fn.self l.fn.stack) → Stands base (place_of l.self l.stack);
  tags : l.self.budget.tags ≤ l.fn.self.budget.tags;
  output : l.self.budget.output ≤ l.fn.self.budget.output;
}
