-- What an argument comes to, as contracts see it.
use Rattle.std.specs.Prelude.{ℕ, ◌≡◌, true, List, Option, Some, Ok}
use Rattle.evaluator.specs.declared.reply.Shown.{Shown}
use Rattle.zobject.specs.declared.object.Child.{Child}
use Rattle.zobject.specs.declared.object.Object.{Object}
use Rattle.zknown.specs.Seen.{Seen}
use Rattle.acquisition.specs.Acquiring.{first}
use Rattle.dtml_parse.specs.Trees as trees
use Rattle.dtml_parse.specs.Trees.{Arg}
use Rattle.namespace.specs.Looks.{looked}
use Rattle.namespace.specs.Locating.{Children, located}
use Rattle.namespace.specs.Names.{Scope, named, viewing, whose}
use Rattle.dtml_values.specs.Values.{Left}
use Rattle.dtml_render.specs.declared.worths.Worth.{Worth}
use Rattle.dtml_render.specs.declared.worths.Worth.TheVariants as worth
use Rattle.dtml_render.specs.Rendering.{Inside, argument, object_value, sourced}
use Rattle.dtml_render.specs.Resuming.{name_in}

module _ (known : ℕ → Option (Seen Object)) (former present : List Shown) (scope : Scope) (at : ℕ) (arg : Arg) (before after : Left) where
  -- the name leads to the children of a folder
  abbrev pub LeadsTo : List ℕ → List Child → Type 0
  LeadsTo whole children = (name : List ℕ) × (name_in arg ≡ Some name) × (looked known former (located scope name) ≡ Ok (Some (Children whole children), present))

  -- the name means an object with a source, which the user is granted to view
  abbrev pub IsSource : List ℕ → Object → Type 0
  IsSource w object = (name : List ℕ) × (one : List Shown) × (two : List Shown) × (arg ≡ trees.Name name)
      × (looked known former (named scope name) ≡ Ok (Some (object_value w), one))
      × (looked known one (sourced w) ≡ Ok (true, two))
      × (looked known two (viewing (whose scope) (first w)) ≡ Ok (object, present))

  abbrev pub IsWorth : Worth → Type 0
  IsWorth (worth.Found x) = (inside : Inside) → looked known former (argument inside scope at arg before) ≡ Ok ((x, after), present)
  IsWorth (worth.Children whole children) = LeadsTo whole children.now × (after ≡ before)
  IsWorth (worth.Source w object) = IsSource w object.now × (after ≡ before)
