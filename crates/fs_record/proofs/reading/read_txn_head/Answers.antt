use Rattle.std.proofs.Common.{refl, arith}
use Rattle.fs_record.specs.HeadLaws.{txn_head_is}
use Rattle.fs_record.proofs.reading.read_txn_head.Goals as goal

pub returns-clause-head : goal.returns-clause-head
returns-clause-head c = txn_head_is c.args.bytes.now _ (omega arith) c.u64_at.ensures c.u64_at-2.ensures refl c.u16_at.ensures c.u16_at-2.ensures c.u16_at-3.ensures
