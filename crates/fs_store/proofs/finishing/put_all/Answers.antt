use Rattle.std.proofs.Common.{sym, subst}
use Rattle.fs_record.specs.declared.body.Item.{Item}
use Rattle.fs_index.specs.Places.{HasRoom}
use Rattle.fs_store.proofs.finishing.put_all.Goals as goal

pub put-requires-clause-room : goal.put-requires-clause-room
put-requires-clause-room c = c.loop-item.invariant.room c.item-item.result.oid (subst (λ (i : Item). HasRoom c.args.index.now i.oid) (sym c.item-item.is) (c.requires.room c.loop-item.item-index c.item-item.result c.loop-item-test.true))
