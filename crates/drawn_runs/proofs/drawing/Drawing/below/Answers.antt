use Rattle.std.proofs.Common.{◌≡◌, ◌+◌, ◌*◌, ◌/◌, ◌%◌, ◌^◌, ℕ, sym, ap, ◌∙◌}
use Rattle.drawn_runs.specs.Drawing.{after, reached}
use Rattle.drawn_runs.proofs.Steps.{after_is, reached_once}
use Rattle.drawn_runs.proofs.drawing.Drawing.below.Goals as goal

-- the number that is kept
kept_more : (n m : ℕ) → n ≡ m → (m * 6364136223846793005 % 18446744073709551616 + 1442695040888963407) % 18446744073709551616 ≡ reached n 1
kept_more n m e = after_is m ∙ ap after (sym e) ∙ sym (reached_once n)

pub returns-clause-drawn : goal.returns-clause-drawn
returns-clause-drawn c = ap (λ (m : ℕ). m / 2 ^ 33 % c.args.bound) (kept_more c.args.self.now c.self.inside.number (sym c.self.view_is))

pub returns-clause-after : goal.returns-clause-after
returns-clause-after c = kept_more c.args.self.now c.self.inside.number (sym c.self.view_is)
