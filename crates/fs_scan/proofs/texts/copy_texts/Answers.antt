use Rattle.std.proofs.Common.{arith}
use Rattle.fs_scan.proofs.CopiedTexts.{texts_are}
use Rattle.fs_scan.proofs.texts.copy_texts.Goals as goal

pub returns : goal.returns
returns c = texts_are c.args.rest.now c.args.head.now _ _ _ _ _ _ _ _ (omega arith) (omega arith) (omega arith) (omega arith) (omega arith) c.in_ok-from_slice.ensures c.in_ok-from_slice-2.ensures c.in_ok-from_slice-3.ensures
