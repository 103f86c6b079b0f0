use Rattle.std.proofs.Common.{append_assoc}
use Rattle.fs_record.specs.Spelling.{txn_head}
use Rattle.fs_record.proofs.writing.put_txn_head.Goals as goal

pub returns-clause-items : goal.returns-clause-items
unfolding txn_head
returns-clause-items c = rw (← c.h.view_is, c.put_u16-3.ensures.items, c.put_u16-2.ensures.items, c.put_u16.ensures.items, c.put.ensures.items, c.put_u64-2.ensures.items, c.put_u64.ensures.items) (simp append_assoc)

pub returns-clause-fits : goal.returns-clause-fits
returns-clause-fits c = rw (← c.h.view_is) (record { tid = c.put_u64.ensures.fits; length = c.put_u64-2.ensures.fits; user = c.put_u16.ensures.fits; description = c.put_u16-2.ensures.fits; extension = c.put_u16-3.ensures.fits })
