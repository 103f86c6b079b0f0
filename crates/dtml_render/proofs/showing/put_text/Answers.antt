use Rattle.std.proofs.Common.{ℕ, ◌≡◌, ◌++◌, List, length, Ok, Some, ap, subst, sym}
use Rattle.std.specs.Prelude.{OnOk}
use Rattle.dtml_parse.specs.Views.{arg_view, marks_view}
use Rattle.namespace.specs.Looks.{looked}
use Rattle.namespace.specs.Names.{text}
use Rattle.namespace.specs.Told.{Shows}
use Rattle.dtml_values.specs.Values.{spend_output}
use Rattle.dtml_values.specs.StepLaws.{goes_so}
use Rattle.dtml_values.specs.Told.{told, left_of}
use Rattle.dtml_render.specs.Rendering.{State, state, put_at, shaped}
use Rattle.dtml_render.proofs.PlainLaws.{plain_stays}
use Rattle.dtml_render.proofs.Steps.{put_so}
use Rattle.dtml_render.proofs.showing.put_text.Goals as goal

pub returns-then-is_plain-clause-is : goal.returns-then-is_plain-clause-is
returns-then-is_plain-clause-is c = λ k shown.
    goes_so {B = State} told (λ u. state c.put.new.out (left_of c.put.new.budget)) shown c.put.result k shown (shaped c.args.at (arg_view c.args.tag.now.arg) (marks_view c.args.tag.now) (Some (text c.args.text.now))) (put_at (state c.args.out.now (left_of c.args.budget.now))) c.args.text.now shown
    (ap (λ (t : List ℕ). Ok (t, shown)) (plain_stays (marks_view c.args.tag.now) c.args.text.now (sym c.if-is_plain.ensures)))
    (put_so c.put.result k shown c.args.text.now c.args.out.now c.put.new.out (left_of c.args.budget.now) (left_of c.put.new.budget)
    (subst (λ (s : List ℕ). Shows told (λ u. left_of c.put.new.budget) shown c.put.result (looked k shown (spend_output (length s) (left_of c.args.budget.now)))) c.as_str.ensures (c.put.ensures.is k shown))
    (subst (λ (s : List ℕ). OnOk c.put.result (c.put.new.out ≡ c.args.out.now ++ s)) c.as_str.ensures c.put.ensures.text))
