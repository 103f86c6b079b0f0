use Rattle.std.proofs.Common.{append_assoc}
use Rattle.fs_record.specs.Spelling.{data_head}
use Rattle.fs_record.proofs.writing.put_data_head.Goals as goal

pub returns-clause-items : goal.returns-clause-items
unfolding data_head
returns-clause-items c = rw (← c.h.view_is, c.put_u64-5.ensures.items, c.put_u16.ensures.items, c.put_u64-4.ensures.items, c.put_u64-3.ensures.items, c.put_u64-2.ensures.items, c.put_u64.ensures.items) (simp append_assoc)

pub returns-clause-fits : goal.returns-clause-fits
returns-clause-fits c = rw (← c.h.view_is) (record { oid = c.put_u64.ensures.fits; tid = c.put_u64-2.ensures.fits; prev = c.put_u64-3.ensures.fits; start = c.put_u64-4.ensures.fits; version = c.put_u16.ensures.fits; length = c.put_u64-5.ensures.fits })
