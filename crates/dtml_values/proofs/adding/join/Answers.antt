use Rattle.std.proofs.Common.{◌≡◌, ◌∙◌, ◌++◌, ℕ, ap, subst, length, refl}
use Rattle.std.proofs.lemmas.Result.{err_from_is_err_and}
use Rattle.zbase.specs.Query.{Told}
use Rattle.namespace.specs.Looks.{looked, Done}
use Rattle.namespace.specs.Names.{text}
use Rattle.dtml_values.specs.Values.{Left, spend_output}
use Rattle.dtml_values.specs.StepLaws.{goes, stops}
use Rattle.dtml_values.specs.Told.{told, left_of}
use Rattle.dtml_values.proofs.adding.join.Goals as goal

pub returns-in_err-spend_output-clause-is : goal.returns-in_err-spend_output-clause-is
returns-in_err-spend_output-clause-is c = λ k shown.
    let p = err_from_is_err_and c.from_residual-in_err-spend_output.result c.from_residual-in_err-spend_output.ensures.1 in
    let size : c.len.result ≡ length (c.args.left ++ c.args.right.now) = c.len.ensures ∙ ap length c.in_ok-push_str.ensures.ok in
    rw (p.1, p.2) (stops k shown (spend_output (length (c.args.left ++ c.args.right.now)) (left_of c.args.budget.now)) (λ (left : Left). Done (text (c.args.left ++ c.args.right.now), left)) _
    (subst (λ (n : ℕ). Told (told c.in_err-spend_output.field-0.0) (looked k shown (spend_output n (left_of c.args.budget.now)))) size (c.in_err-spend_output.ensures.is k shown)))

pub returns-clause-is : goal.returns-clause-is
returns-clause-is c = λ k shown.
    let size : c.len.result ≡ length (c.args.left ++ c.args.right.now) = c.len.ensures ∙ ap length c.in_ok-push_str.ensures.ok in
    rw c.in_ok-push_str.ensures.ok (goes k shown (spend_output (length (c.args.left ++ c.args.right.now)) (left_of c.args.budget.now)) (λ (left : Left). Done (text (c.args.left ++ c.args.right.now), left)) (left_of c.spend_output.new.budget) shown _
    (rw (← size) (c.in_ok-spend_output.ensures.is k shown)) refl)
