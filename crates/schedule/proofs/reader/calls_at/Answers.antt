use Rattle.std.proofs.Common.{rules, ◌≡◌, ◌++◌, ◌∷◌, ◌∙◌, sym, arith}
use Rattle.std.specs.Prelude.{decimal}
use Rattle.schedule.proofs.OneSchedule.{number_ends}
use Rattle.schedule.proofs.reader.calls_at.Goals as goal

pub returns-then-calls-eq0-clause-bad : goal.returns-then-calls-eq0-clause-bad
returns-then-calls-eq0-clause-bad c = λ _ n seed rest some small seed_small e.
    (let read : c.args.fields.now ≡ decimal c.in_ok-calls.calls ++ 32 ∷ c.in_ok-calls.rest.now = search rules in
    let same = number_ends c.in_ok-calls.calls n 32 c.in_ok-calls.rest.now (decimal seed ++ 10 ∷ rest) (search rules) small (omega arith) (sym read ∙ e) in
    omega (arith, same.0, some, c.if-calls-eq0.true))

pub returns-in_err-seed-clause-bad : goal.returns-in_err-seed-clause-bad
returns-in_err-seed-clause-bad c = λ bad n seed rest some small seed_small e.
    (let read : c.args.fields.now ≡ decimal c.in_ok-calls.calls ++ 32 ∷ c.in_ok-calls.rest.now = search rules in
    let same = number_ends c.in_ok-calls.calls n 32 c.in_ok-calls.rest.now (decimal seed ++ 10 ∷ rest) (search rules) small (omega arith) (sym read ∙ e) in
    c.number_at-2.ensures.bad (search rules) seed rest seed_small same.1)
