use Rattle.std.proofs.Common.{List, length, reverse, sym, ap, arith}
use Rattle.std.proofs.lemmas.List.{take_all}
use Rattle.zdisk.specs.Undoing.{lowest_since}
use Rattle.zdisk.specs.declared.record.Entry.{Entry}
use Rattle.zdisk.proofs.undoing.lowest.Goals as goal

pub loop-count-init : goal.loop-count-init
loop-count-init c = record {
  counted = omega arith;
  same = ap (λ (es : List Entry). lowest_since c.args.len (reverse es)) (sym (take_all (length c.args.entries.now) c.args.entries.now (omega arith)));
}
