use Rattle.std.proofs.Common.{ℕ, ◌≡◌, length, take, [], nat_eq}
use Rattle.std.specs.BTreeSet.{contains}
use Rattle.std.specs.List.{list_any}
use Rattle.std.specs.Ordering.{nat_cmp}
use Rattle.evaluator.specs.declared.reply.Shown.{Shown}
use Rattle.namespace.specs.Once.{AreOnce}
use Rattle.namespace.proofs.showing.cut_back.Given as goal

-- the first ones are still there
abbrev pub invariant-list : goal.invariant-list
invariant-list l = record {
  taken : take l.count l.list.items ≡ take l.count l.fn.list.items;
  are : (o : ℕ) → contains nat_cmp l.oids o ≡ list_any (λ (x : Shown). nat_eq x.oid o) l.list.items;
  once : AreOnce [] l.list.items;
}

abbrev pub decreases-list : goal.decreases-list
decreases-list l = length l.list.items
