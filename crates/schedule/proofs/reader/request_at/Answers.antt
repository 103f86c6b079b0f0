use Rattle.std.proofs.Common.{rules, ◌≡◌, ◌++◌, ◌∷◌, ◌<◌, length, drop, arith}
use Rattle.std.specs.Prelude.{decimal}
use Rattle.schedule.specs.Items.{workers}
use Rattle.schedule.proofs.BadItems.{behind_worker, behind_length}
use Rattle.schedule.proofs.reader.request_at.Goals as goal

pub returns-in_err-len-clause-bad : goal.returns-in_err-len-clause-bad
returns-in_err-len-clause-bad c = λ bad begins.
    (let worker : c.args.fields.now ≡ decimal c.in_ok-worker.worker ++ 32 ∷ c.in_ok-worker.rest.now = search rules in
    let below : c.in_ok-worker.worker < workers = search rules in
    let parts = behind_worker c.args.fields.now c.in_ok-worker.rest.now c.in_ok-worker.worker below worker begins in
    let none = c.number_at.ensures.bad (search rules) (length parts.0) (parts.0 ++ 10 ∷ parts.1) parts.2 in
    none parts.3)

pub returns-then-rest-len-clause-bad : goal.returns-then-rest-len-clause-bad
returns-then-rest-len-clause-bad c = λ _ begins.
    (let worker : c.args.fields.now ≡ decimal c.in_ok-worker.worker ++ 32 ∷ c.in_ok-worker.rest.now = search rules in
    let below : c.in_ok-worker.worker < workers = search rules in
    let len : c.in_ok-worker.rest.now ≡ decimal c.in_ok-len.len ++ 10 ∷ c.in_ok-len.rest.now = search rules in
    let parts = behind_length c.args.fields.now c.in_ok-worker.rest.now c.in_ok-worker.worker c.in_ok-len.len c.in_ok-len.rest.now below worker (search rules) len begins in
    let long = parts.1 in
    omega (arith, long, c.if-rest-len.true))

pub returns-in_err-rest-clause-bad : goal.returns-in_err-rest-clause-bad
returns-in_err-rest-clause-bad c = λ _ begins.
    (let worker : c.args.fields.now ≡ decimal c.in_ok-worker.worker ++ 32 ∷ c.in_ok-worker.rest.now = search rules in
    let below : c.in_ok-worker.worker < workers = search rules in
    let len : c.in_ok-worker.rest.now ≡ decimal c.in_ok-len.len ++ 10 ∷ c.in_ok-len.rest.now = search rules in
    let parts = behind_length c.args.fields.now c.in_ok-worker.rest.now c.in_ok-worker.worker c.in_ok-len.len c.in_ok-len.rest.now below worker (search rules) len begins in
    let behind : drop c.in_ok-len.len c.in_ok-len.rest.now ≡ 10 ∷ parts.0 = parts.2 in
    search rules)
