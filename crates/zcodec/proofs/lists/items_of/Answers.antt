use Rattle.std.proofs.Common.{◌≡◌, ◌∙◌, ap, subst, refl, Ok, None, option_map}
use Rattle.std.proofs.lemmas.Result.{err_from_is_err_and}
use Rattle.zcodec.specs.Reading.{Fails, last_one}
use Rattle.zcodec.proofs.Loop.{starts, goes_on, ends, is_done, last_of, last_pushed}
use Rattle.zcodec.proofs.lists.items_of.Goals as goal

pub loop-init : goal.loop-init
loop-init g c = rw c.in_ok-items.ensures (starts (g.R.Row.next c.args.row.now) last_one _ c.args.count None c.args.bytes.now refl)

pub returns-in_err-item : goal.returns-in_err-item
returns-in_err-item g c =
    let next = g.R.Row.next c.args.row.now in
    let last : option_map (λ x. x.now) c.last.result ≡ last_of c.loop.items = c.last.ensures.value ∙ ap last_of c.as_slice.ensures in
    let p = err_from_is_err_and c.from_residual-in_err-item.result c.from_residual-in_err-item.ensures.1 in
    rw (p.1, p.2) (ends next last_one c.in_err-item.field-0.0 c.loop.items c.args.count c.loop.counter (last_of c.loop.items) c.loop.rest.now _ c.loop-test.true (subst (λ o. Fails c.in_err-item.field-0.0 (next o c.loop.rest.now)) last c.in_err-item.ensures) c.loop.invariant)

pub loop-preserved : goal.loop-preserved
loop-preserved g c =
    let next = g.R.Row.next c.args.row.now in
    let last : option_map (λ x. x.now) c.last.result ≡ last_of c.loop.items = c.last.ensures.value ∙ ap last_of c.as_slice.ensures in
    let read = subst (λ o. next o c.loop.rest.now ≡ Ok (c.in_ok-item.item, c.in_ok-item.after.now)) last c.in_ok-item.ensures in
    rw c.in_ok-push.ensures.ok (rw (last_pushed c.loop.items c.in_ok-item.item) (goes_on next last_one c.loop.items c.args.count c.loop.counter (last_of c.loop.items) c.loop.rest.now c.in_ok-item.item c.in_ok-item.after.now _ c.loop-test.true read c.loop.invariant))

pub returns : goal.returns
returns g c = is_done (g.R.Row.next c.args.row.now) last_one c.loop.items c.args.count c.loop.counter (last_of c.loop.items) c.loop.rest.now _ c.loop-test.false c.loop.invariant
