use Rattle.std.proofs.Common.{sym, ap, ◌∙◌, arith}
use lib.Count.{count_trailing_zeros}
use Rattle.dtml_format.specs.Replaced.{changes}
use Rattle.dtml_format.proofs.Looks.{run_through, run_stops}
use Rattle.dtml_format.proofs.replacing.staying_len.Goals as goal

pub returns-then-changed-ne0 : goal.returns-then-changed-ne0
returns-then-changed-ne0 c =
    let changed = c.changed_among-changed in
    let run = run_stops (changes c.args.mark) c.args.bytes.now c.loop-at.at 32 (omega arith) (omega arith) (omega (arith, changed.ensures)) ∙ ap (count_trailing_zeros 64) (sym changed.ensures) in
    omega (arith, run, c.loop-at.invariant.rest)

pub loop-at-preserved : goal.loop-at-preserved
loop-at-preserved c =
    let run = run_through (changes c.args.mark) c.args.bytes.now c.loop-at.at 32 (omega arith) (omega (arith, c.changed_among-changed.ensures)) in
    record { within = omega arith; rest = omega (arith, run, c.loop-at.invariant.rest) }
