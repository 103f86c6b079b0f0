use Rattle.std.proofs.Common.{◌≡◌, ◌++◌, List, IfSome}
use Rattle.std.specs.Prelude.{All}
use Rattle.std.specs.List.{AllByRecursion}
use Rattle.std.specs.Vec.Iter.{into_iter_items}
use Rattle.evaluator.specs.declared.draft.Entry.{Entry}
use Rattle.fs_record.specs.Sizes.{records_size}
use Rattle.fs_record.specs.Written.{HasBody}
use Rattle.fs_store.specs.Drafts.{FitsEntry, NeedsNoLook, sizes_of}
use Rattle.zdisk.specs.Disk.{content}
use Rattle.fs_store.specs.Pointing.{IsDirect}
use Rattle.fs_store.specs.Settled.{AreOf}
use Rattle.fs_scan.specs.OnlyReads.{OnlyReads}
use Rattle.fs_store.proofs.file.OpenFile.items_of.Given as goal

-- the items of the entries so far, and the entries that are left fit
abbrev pub invariant-loop-entry : goal.invariant-loop-entry
invariant-loop-entry g l = record {
  front : List Entry;
  joined : front ++ into_iter_items l.entry-iterator ≡ l.fn.entries;
  are : IfSome (g.D.Disk.told l.fn.disk) (λ told. AreOf told l.self.end front l.items.items);
  direct : IfSome (g.D.Disk.told l.fn.disk) (λ told. All (λ item. IsDirect (content told) item.body) l.items.items);
  bodies : All HasBody l.items.items;
  size : records_size l.items.items ≡ sizes_of front;
  fits : AllByRecursion (FitsEntry l.self.next) (into_iter_items l.entry-iterator);
  calls : AllByRecursion NeedsNoLook front → (g.D.Disk.counter l.disk).calls ≡ (g.D.Disk.counter l.fn.disk).calls;
  only : OnlyReads g.D.Disk l.fn.disk l.disk ⊥;
}
