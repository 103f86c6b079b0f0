use Rattle.std.proofs.Common.{ℕ, ◌≡◌, subst, List, Ok}
use Rattle.std.proofs.lemmas.Result.{err_from_is_err_and}
use Rattle.zbase.specs.Query.{Told}
use Rattle.dtml_parse.specs.TreeReading.{template}
use Rattle.dtml_parse.specs.Views.{view}
use Rattle.namespace.specs.Looks.{looked}
use Rattle.dtml_values.specs.Told.{told}
use Rattle.dtml_render.specs.Rendering.{source_of, source_text}
use Rattle.dtml_render.proofs.Steps.{none_begins}
use Rattle.dtml_render.proofs.sources.begun.Goals as goal

pub returns-in_err-tree-clause-told : goal.returns-in_err-tree-clause-told
returns-in_err-tree-clause-told c =
    let p = err_from_is_err_and c.from_residual.result c.from_residual.ensures.1 in
    rw (p.1, p.2) (λ k shown scope left. subst (λ (source : List ℕ). Told (told c.in_err-tree.field-0.0) (looked k shown (source_text c.args.budget.now.renders scope c.args.oid source left))) c.source_of.ensures (c.in_err-tree.ensures.refused k shown c.args.budget.now.renders scope left))

pub returns-then-budget-eq0-clause-told : goal.returns-then-budget-eq0-clause-told
returns-then-budget-eq0-clause-told c = λ k shown scope left.
    none_begins k shown c.args.budget.now.renders scope c.args.oid (source_of c.args.whole.now.part) left (view c.in_ok-tree.tree.value)
    (subst (λ (source : List ℕ). template source ≡ Ok (view c.in_ok-tree.tree.value)) c.source_of.ensures c.in_ok-tree.ensures.read) c.if-budget-eq0.true
