use Rattle.std.proofs.Common.{arith}
use Rattle.fs_record.specs.Sizes.{length-transaction}
use Rattle.fs_record.proofs.writing.append_txn.Goals as goal

pub txn_size-size-requires : goal.txn_size-size-requires
txn_size-size-requires c = omega (arith, c.requires.fits, length-transaction c.args.start c.args.tid c.args.status c.args.texts.now c.args.items.now)
