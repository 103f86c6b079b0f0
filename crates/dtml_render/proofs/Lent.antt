-- A text that is lent is the value of its argument, with which nothing else is shown and nothing is spent.
use Rattle.std.proofs.Common.{ℕ, ◌≡◌, refl, List, Option, None, Some, Ok}
use Rattle.std.specs.Prelude.{IfSome}
use Rattle.evaluator.specs.declared.reply.Shown.{Shown}
use Rattle.zobject.specs.declared.object.Object.{Object}
use Rattle.zknown.specs.Seen.{Seen}
use Rattle.dtml_parse.specs.Trees as trees
use Rattle.namespace.specs.Looks.{looked}
use Rattle.namespace.specs.Names.{Scope, named, text}
use Rattle.dtml_values.specs.Values.{Left}
use Rattle.dtml_values.specs.StepLaws.{goes}
use Rattle.dtml_render.specs.Rendering.{Inside, argument, rendered_if}

pub if_some : {A : Type 0} (r : Option A) (P Q : A → Type 0) → ((x : A) → P x → Q x) → IfSome r P → IfSome r Q
if_some None P Q so is = tt
if_some (Some x) P Q so is = so x is

-- a name that means a text is an argument that has it
pub argument_so : (k : ℕ → Option (Seen Object)) (shown : List Shown) (scope : Scope) (name t : List ℕ) → looked k shown (named scope name) ≡ Ok (Some (text t), shown) →
    (inside : Inside) (at : ℕ) (left : Left) → looked k shown (argument inside scope at (trees.Name name) left) ≡ Ok ((Some (text t), left), shown)
unfolding argument rendered_if
argument_so k shown scope name t is inside at left = goes k shown (named scope name) (λ found. rendered_if inside scope found left) (Some (text t)) shown _ is refl
