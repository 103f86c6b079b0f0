use Rattle.std.proofs.Common.{◌≡◌, ◌*◌}
use Rattle.drawn_runs.specs.Drawing.{reached}
use Rattle.drawn_runs.specs.Rounds.{drawings_of_a_round, in_order, round_from}
use Rattle.drawn_runs.proofs.rounds.drawn_run.Given as goal

-- the rounds so far, and the number that their drawings reached
abbrev pub invariant-loop-round : goal.invariant-loop-round
invariant-loop-round l = record {
  items : l.items ≡ in_order l.round (λ round. round_from (reached l.number (drawings_of_a_round * round)) round);
  after : l.drawing ≡ reached l.number (drawings_of_a_round * l.round);
}
