use Rattle.std.proofs.Common.{◌<◌, arith}
use Rattle.std.proofs.lemmas.Str.{IsCharBoundary-start}
use Rattle.std.proofs.lemmas.Bool.Decides.{nat_tests}
use Rattle.dtml_format.proofs.Runs.{may_be_cut_behind}
use Rattle.dtml_format.proofs.shaping.capitalize.Goals as goal
use Rattle.dtml_format.proofs.shaping.capitalize.Goals.{in-Some, in_default-2, in_default}

pub split_at-requires : goal.split_at-requires
split_at-requires c = elim c.match-first.branch [
  | in-Some w ↦
      let item = w.in-Some.ensures.item in
      let low : w.in-Some.byte.now < 128 = grind (arith, nat_tests, w.is_ascii.ensures, w.if-is_ascii.true) in
      rw w.first-is (may_be_cut_behind c.args.text.now c.as_bytes.result.now w.in-Some.byte.now c.as_bytes.ensures.value c.as_bytes.ensures.utf8 item.3.0 item.1 low)
  | in_default-2 w ↦ rw w.first-is (IsCharBoundary-start c.args.text.now c.utf8.text)
  | in_default w ↦ rw w.first-is (IsCharBoundary-start c.args.text.now c.utf8.text)
]
