use Rattle.std.proofs.Common.{arith}
use Rattle.fs_record.specs.Sizes.{length-transaction}
use Rattle.file_tests.proofs.writing.write.Goals as goal

pub write_txn-requires-clause-fits : goal.write_txn-requires-clause-fits
write_txn-requires-clause-fits c =
    rw c.as_slice-items.ensures.value (omega (
      arith,
      length-transaction c.args.start 230072808112128001 c.args.case.now.status c.in_ok-texts.texts c.in_ok-items.items.items,
      c.in_ok-texts.ensures.user,
      c.in_ok-texts.ensures.description,
      c.in_ok-texts.ensures.extension,
      c.in_ok-items.ensures.size,
    ))
