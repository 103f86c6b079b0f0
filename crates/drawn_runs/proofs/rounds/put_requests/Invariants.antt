use Rattle.std.proofs.Common.{◌≡◌, ◌++◌, [], ◌∷◌}
use Rattle.drawn_runs.specs.Drawing.{reached}
use Rattle.drawn_runs.specs.Rounds.{in_order, request}
use Rattle.drawn_runs.proofs.rounds.put_requests.Given as goal

-- the requests so far, and the number that their drawings reached
abbrev pub invariant-loop-worker : goal.invariant-loop-worker
invariant-loop-worker l = record {
  items : l.items ≡ l.fn.items ++ in_order l.worker (λ worker. request l.fn.drawing l.round worker ∷ []);
  after : l.drawing ≡ reached l.fn.drawing l.worker;
}
