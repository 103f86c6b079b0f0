use Rattle.std.proofs.Common.{◌≡◌, ◌≤◌, ◌^◌, drop}
use Rattle.fs_store.specs.Placed.{next_with}
use Rattle.fs_store.proofs.finishing.next_with.Given as goal

-- with the items that are left it is that of all
abbrev pub invariant-loop-item : goal.invariant-loop-item
invariant-loop-item l = record {
  left : next_with l.next (drop l.item-index l.items) ≡ next_with l.fn.next l.items;
  bound : l.next ≤ 2 ^ 64;
}
