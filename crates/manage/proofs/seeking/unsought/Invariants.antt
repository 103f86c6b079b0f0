use Rattle.std.proofs.Common.{◌≡◌, ◌++◌, ◌&&◌, ℕ, List, drop, map, not}
use Rattle.std.specs.List.{filter}
use Rattle.manage.specs.Becoming.{is_among}
use Rattle.manage.specs.Naming.{has}
use Rattle.manage.proofs.seeking.unsought.Given as goal

-- of the texts that weren't met, those of no name to come are those of no name at all
abbrev pub invariant-loop-item : goal.invariant-loop-item
invariant-loop-item g l = record {
  left : l.left ++ filter (λ x. not (has l.fn.sought.texts (g.T.Named.name_of x))) (drop l.item-index l.items) ≡ filter (λ x. not (has l.fn.sought.texts (g.T.Named.name_of x))) l.items;
  same : l.sought.texts ≡ l.fn.sought.texts;
  unmet : (q : List ℕ) → (has l.sought.unmet q && not (is_among (map g.T.Named.name_of (drop l.item-index l.items)) q)) ≡ (has l.fn.sought.unmet q && not (is_among (map g.T.Named.name_of l.items) q));
}
