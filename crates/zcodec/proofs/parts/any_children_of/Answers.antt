use Rattle.std.proofs.Common.{◌≡◌, ◌∙◌, ◌&&◌, ap, subst, sym, refl, None, option_map, true}
use Rattle.std.proofs.lemmas.Result.{err_from_is_err_and}
use denote.Ref.{Bor}
use Rattle.zobject.specs.Rules.{comes_before}
use Rattle.zobject.specs.declared.object.Child.{Child}
use Rattle.zcodec.specs.Reading.{last_one, rises}
use Rattle.zcodec.specs.Given.{any_child_at}
use Rattle.zcodec.proofs.Loop.{starts, goes_on, ends, is_done, last_of, last_pushed}
use Rattle.zcodec.proofs.Told.{any_alike, fails_alike, named_alike, none_risen, risen, risen_more, then_first, then_second}
use Rattle.zcodec.proofs.parts.any_children_of.Goals as goal

pub loop-init : goal.loop-init
loop-init c = (rw c.in_ok-children.ensures (starts any_child_at last_one _ c.args.count None c.args.bytes.now refl), λ _. none_risen c.in_ok-children.children c.in_ok-children.ensures)

pub returns-in_err-child-clause-gives : goal.returns-in_err-child-clause-gives
returns-in_err-child-clause-gives c =
    let last = last_of c.loop.children in
    let p = err_from_is_err_and c.from_residual-in_err-child.result c.from_residual-in_err-child.ensures.1 in
    rw (p.1, p.2) (ends any_child_at last_one c.in_err-child.field-0.0 c.loop.children c.args.count c.loop.counter last c.loop.rest.now _ c.loop-test.true (fails_alike c.in_err-child.field-0.0 last c.loop.rest.now c.in_err-child.ensures) c.loop.invariant.0)

pub loop-preserved : goal.loop-preserved
loop-preserved c =
    let cs = c.loop.children in
    let child = c.in_ok-child.child in
    let last : option_map (λ x. x.now) c.last.result ≡ last_of cs = c.last.ensures.value ∙ ap last_of c.as_slice.ensures in
    let read = any_alike (last_of cs) c.loop.rest.now ∙ c.in_ok-child.ensures in
    rw c.in_ok-push.ensures.ok (
      rw (last_pushed cs child) (goes_on any_child_at last_one cs c.args.count c.loop.counter (last_of cs) c.loop.rest.now child c.in_ok-child.after.now _ c.loop-test.true read c.loop.invariant.0),
      λ e.
          let rising = rises comes_before (option_map (λ (d : Bor Child). d.now.name) c.last.result) child.name in
          let both : (c.loop.rising && rising) ≡ true = sym c.goes_on_rising-rising.ensures ∙ e in
          let behind = subst (λ o. rises comes_before o child.name ≡ true) (named_alike c.last.result ∙ ap (option_map (λ (d : Child). d.name)) last) (then_second c.loop.rising rising both) in
          risen_more cs child (c.loop.invariant.1 (then_first c.loop.rising rising both)) behind,
    )

pub returns-clause-gives : goal.returns-clause-gives
returns-clause-gives c = is_done any_child_at last_one c.loop.children c.args.count c.loop.counter (last_of c.loop.children) c.loop.rest.now _ c.loop-test.false c.loop.invariant.0

pub returns-clause-apart : goal.returns-clause-apart
returns-clause-apart c = λ e. risen c.loop.children (c.loop.invariant.1 e)
