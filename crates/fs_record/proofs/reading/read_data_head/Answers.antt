use Rattle.fs_record.specs.HeadLaws.{data_head_is}
use Rattle.fs_record.proofs.reading.read_data_head.Goals as goal

pub returns-clause-head : goal.returns-clause-head
returns-clause-head c = data_head_is c.args.bytes.now _ c.u64_at.ensures c.u64_at-2.ensures c.u64_at-3.ensures c.u64_at-4.ensures c.u16_at.ensures c.u64_at-5.ensures
