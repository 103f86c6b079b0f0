use Rattle.std.proofs.Common.{ℕ, ◌≡◌, ◌++◌, List, length, subst}
use Rattle.std.proofs.lemmas.Result.{err_from_is_err_and}
use Rattle.std.specs.Prelude.{OnOk}
use Rattle.dtml_parse.specs.Views.{arg_view, marks_view}
use Rattle.namespace.specs.Looks.{looked}
use Rattle.namespace.specs.Told.{Shows}
use Rattle.dtml_values.specs.Values.{spend_output}
use Rattle.dtml_values.specs.StepLaws.{goes_so, stops}
use Rattle.dtml_values.specs.Told.{told, left_of}
use Rattle.dtml_render.specs.Rendering.{State, state, put_at, shaped}
use Rattle.dtml_render.proofs.Steps.{put_so}
use Rattle.dtml_render.proofs.showing.put_value.Goals as goal

pub returns-in_err-text-clause-is : goal.returns-in_err-text-clause-is
returns-in_err-text-clause-is c = λ k shown.
    let p = err_from_is_err_and c.from_residual.result c.from_residual.ensures.1 in
    rw (p.1, p.2) (stops k shown (shaped c.args.at (arg_view c.args.tag.now.arg) (marks_view c.args.tag.now) c.args.found) (put_at (state c.args.out.now (left_of c.args.budget.now))) (told c.in_err-text.field-0.0) (c.in_err-text.ensures k shown))

pub returns-clause-is : goal.returns-clause-is
returns-clause-is c = λ k shown.
    goes_so {B = State} told (λ u. state c.put.new.out (left_of c.put.new.budget)) shown c.put.result k shown (shaped c.args.at (arg_view c.args.tag.now.arg) (marks_view c.args.tag.now) c.args.found) (put_at (state c.args.out.now (left_of c.args.budget.now))) c.in_ok-text.text shown (c.in_ok-text.ensures k shown)
    (put_so c.put.result k shown c.in_ok-text.text c.args.out.now c.put.new.out (left_of c.args.budget.now) (left_of c.put.new.budget)
    (subst (λ (s : List ℕ). Shows told (λ u. left_of c.put.new.budget) shown c.put.result (looked k shown (spend_output (length s) (left_of c.args.budget.now)))) c.as_str.ensures (c.put.ensures.is k shown))
    (subst (λ (s : List ℕ). OnOk c.put.result (c.put.new.out ≡ c.args.out.now ++ s)) c.as_str.ensures c.put.ensures.text))
