-- What an argument comes to.
use Rattle.std.proofs.Common.{ℕ, ◌≡◌, ◌∙◌, sym, ap, subst, true, false, List, Option, Some, None, Result, Ok, Err}
use Rattle.std.specs.Prelude.{IfErr, IfOk}
use Rattle.zbase.specs.Query.{Cause, Halt, Told}
use Rattle.evaluator.specs.declared.reply.Shown.{Shown}
use Rattle.zobject.specs.declared.object.Object.{Object}
use Rattle.zknown.specs.Seen.{Seen, objects}
use Rattle.acquisition.specs.Acquiring.{first}
use Rattle.dtml_expr.specs.Trees as exprs
use Rattle.dtml_parse.specs.Trees as trees
use Rattle.namespace.specs.declared.val.Val.{Val}
use Rattle.namespace.specs.Joining.{then_then}
use Rattle.namespace.specs.Looks.{Done, Fault, Looks, NoName, Of, looked, ◌>>=◌}
use Rattle.namespace.specs.LookLaws.{looked_goes, looked_passes}
use Rattle.namespace.specs.Locating.{Found, Hit, all_of, located, located_is}
use Rattle.namespace.specs.Names.{Scope, Space, named, viewing, whose}
use Rattle.dtml_values.specs.Values.{Left, defined}
use Rattle.dtml_values.specs.Expressions.{evaluated, value_of_name}
use Rattle.dtml_values.specs.Told.{told}
use Rattle.dtml_values.specs.declared.refusal.RenderRefusal.{RenderRefusal}
use Rattle.dtml_render.specs.declared.worths.Worth.{Worth}
use Rattle.dtml_render.specs.Worths.{IsWorth}
use Rattle.dtml_render.specs.Rendering.{Inside, argument, given, object_rendered, object_value, rendered, rendered_if, rendered_or, source_value, sourced}

module _ (k : ℕ → Option (Seen Object)) (shown : List Shown) (scope : Scope) (name : List ℕ) where
  -- what a name leads to has the name's value
  pub named_so : (hit : Option Hit) (mid : List Shown) → looked k shown (located scope name) ≡ Ok (hit, mid) → looked k shown (named scope name) ≡ looked k mid (all_of hit)
  named_so hit mid e = ap (looked k shown) (sym (located_is scope name)) ∙ looked_goes k shown (located scope name) all_of (hit, mid) e

  pub named_stops : (halt : Option (Halt ℕ Fault)) → Told halt (looked k shown (located scope name)) → Told halt (looked k shown (named scope name))
  named_stops halt told = subst (λ (q : Looks (Option Val)). Told halt (looked k shown q)) (located_is scope name) (looked_passes k shown (located scope name) all_of halt told)

  -- and so has an argument that is a name
  pub name_goes : (inside : Inside) (at : ℕ) (left : Left) (found : Option Val) (mid : List Shown) → looked k shown (named scope name) ≡ Ok (found, mid) →
      looked k shown (argument inside scope at (trees.Name name) left) ≡ looked k mid (rendered_if inside scope found left)
  unfolding argument
  name_goes inside at left found mid e = looked_goes k shown (named scope name) (λ found. rendered_if inside scope found left) (found, mid) e

  pub name_stops : (inside : Inside) (at : ℕ) (left : Left) (halt : Option (Halt ℕ Fault)) → Told halt (looked k shown (located scope name)) → Told halt (looked k shown (argument inside scope at (trees.Name name) left))
  unfolding argument
  name_stops inside at left halt told = looked_passes k shown (named scope name) (λ found. rendered_if inside scope found left) halt (named_stops halt told)

  pub name_halts : (inside : Inside) (at : ℕ) (left : Left) (v : Val) (mid : List Shown) (halt : Option (Halt ℕ Fault)) → looked k shown (located scope name) ≡ Ok (Some (Found v), mid) → Told halt (looked k mid (rendered_if inside scope (Some v) left)) →
      Told halt (looked k shown (argument inside scope at (trees.Name name) left))
  name_halts inside at left v mid halt e told = subst (Told halt) (sym (name_goes inside at left (Some v) mid (named_so (Some (Found v)) mid e))) told

  pub name_none : (inside : Inside) (at : ℕ) (left : Left) (mid : List Shown) → looked k shown (located scope name) ≡ Ok (None, mid) → looked k shown (argument inside scope at (trees.Name name) left) ≡ Ok ((None, left), mid)
  unfolding rendered_if
  name_none inside at left mid e = name_goes inside at left None mid (named_so None mid e)

  -- a text, a number or a sequence is itself
  pub name_found : (inside : Inside) (at : ℕ) (left : Left) (v : Val) (mid : List Shown) → looked k shown (named scope name) ≡ Ok (Some v, mid) → rendered_if inside scope (Some v) left ≡ Done (Some v, left) →
      looked k shown (argument inside scope at (trees.Name name) left) ≡ Ok ((Some v, left), mid)
  name_found inside at left v mid e is = name_goes inside at left (Some v) mid e ∙ ap (looked k mid) is

  -- ---- in quotes

  abbrev val_left : Left → Val → Looks (Val × Left)
  val_left left v = Done (v, left)

  abbrev some_left : Left → Val → Looks (Option Val × Left)
  some_left left v = Done (Some v, left)

  quoted_is : (inside : Inside) (at : ℕ) (left : Left) → argument inside scope at (trees.Expression (exprs.Name name)) left ≡ (named scope name >>= λ found. (defined name found >>= some_left left))
  unfolding argument evaluated
  quoted_is inside at left = then_then (value_of_name scope name) (val_left left) given ∙ then_then (named scope name) (defined name) (some_left left)

  quoted_goes : (inside : Inside) (at : ℕ) (left : Left) (found : Option Val) (mid : List Shown) → looked k shown (named scope name) ≡ Ok (found, mid) →
      looked k shown (argument inside scope at (trees.Expression (exprs.Name name)) left) ≡ looked k mid (defined name found >>= some_left left)
  quoted_goes inside at left found mid e = ap (looked k shown) (quoted_is inside at left) ∙ looked_goes k shown (named scope name) (λ found. (defined name found >>= some_left left)) (found, mid) e

  pub quoted_found : (inside : Inside) (at : ℕ) (left : Left) (v : Val) (mid : List Shown) → looked k shown (located scope name) ≡ Ok (Some (Found v), mid) →
      looked k shown (argument inside scope at (trees.Expression (exprs.Name name)) left) ≡ Ok ((Some v, left), mid)
  quoted_found inside at left v mid e = quoted_goes inside at left (Some v) mid (named_so (Some (Found v)) mid e)

  pub quoted_none : (inside : Inside) (at : ℕ) (left : Left) (mid : List Shown) → looked k shown (located scope name) ≡ Ok (None, mid) →
      looked k shown (argument inside scope at (trees.Expression (exprs.Name name)) left) ≡ Err (Cause (Of (NoName name)))
  quoted_none inside at left mid e = quoted_goes inside at left None mid (named_so None mid e)

  pub quoted_stops : (inside : Inside) (at : ℕ) (left : Left) (halt : Option (Halt ℕ Fault)) → Told halt (looked k shown (located scope name)) → Told halt (looked k shown (argument inside scope at (trees.Expression (exprs.Name name)) left))
  quoted_stops inside at left halt told =
      subst (λ (q : Looks (Option Val × Left)). Told halt (looked k shown q)) (sym (quoted_is inside at left)) (looked_passes k shown (named scope name) (λ found. (defined name found >>= some_left left)) halt (named_stops halt told))

-- ---- an object

module _ (k : ℕ → Option (Seen Object)) (shown mid : List Shown) (inside : Inside) (scope : Scope) (w : List ℕ) (left : Left) where
  -- one without a source is itself
  pub object_found : looked k shown (sourced w) ≡ Ok (false, mid) → looked k shown (rendered_if inside scope (Some (object_value w)) left) ≡ Ok ((Some (object_value w), left), mid)
  unfolding rendered_if object_rendered
  object_found e = looked_goes k shown (sourced w) (rendered_or inside scope w left) (false, mid) e

  pub object_stops : (halt : Option (Halt ℕ Fault)) → Told halt (looked k shown (sourced w)) → Told halt (looked k shown (rendered_if inside scope (Some (object_value w)) left))
  unfolding rendered_if object_rendered
  object_stops halt told = looked_passes k shown (sourced w) (rendered_or inside scope w left) halt told

  pub object_halts : (halt : Option (Halt ℕ Fault)) → looked k shown (sourced w) ≡ Ok (true, mid) → Told halt (looked k mid (viewing (whose scope) (first w))) → Told halt (looked k shown (rendered_if inside scope (Some (object_value w)) left))
  unfolding rendered_if object_rendered rendered
  object_halts halt has told =
      subst (Told halt) (sym (looked_goes k shown (sourced w) (rendered_or inside scope w left) (true, mid) has)) (looked_passes k mid (viewing (whose scope) (first w)) (source_value inside scope w left) halt told)

-- ---- an expression

module _ (k : ℕ → Option (Seen Object)) (shown mid : List Shown) (inside : Inside) (scope : Scope) (at : ℕ) (e : exprs.Tree) (left later : Left) where
  pub expression_found : (v : Val) → looked k shown (evaluated scope at e left) ≡ Ok ((v, later), mid) → looked k shown (argument inside scope at (trees.Expression e) left) ≡ Ok ((Some v, later), mid)
  unfolding argument
  expression_found v is = looked_goes k shown (evaluated scope at e left) given ((v, later), mid) is

  pub expression_stops : (halt : Option (Halt ℕ Fault)) → Told halt (looked k shown (evaluated scope at e left)) → Told halt (looked k shown (argument inside scope at (trees.Expression e) left))
  unfolding argument
  expression_stops halt told = looked_passes k shown (evaluated scope at e left) given halt told

-- ---- what a value that was found comes to

module _ (space mid : Space) (present : List Shown) (name : List ℕ) (value : Val) (known : mid.known ≡ space.known) (scoped : mid.scope ≡ space.scope) (found : looked (objects space.known) space.shown (located space.scope name) ≡ Ok (Some (Found value), mid.shown)) where
  pub found_worth : (result : Result Worth RenderRefusal) →
      IfOk result (λ worth. (name : List ℕ) (before : List Shown) (at : ℕ) (left : Left) → looked (objects mid.known) before (named mid.scope name) ≡ Ok (Some value, mid.shown) → IsWorth (objects mid.known) before present mid.scope at (trees.Name name) left left worth) →
      IfOk result (λ worth. (at : ℕ) (left : Left) → IsWorth (objects space.known) space.shown present space.scope at (trees.Name name) left left worth)
  found_worth (Ok worth) is = λ at left.
      let here : looked (objects space.known) space.shown (named space.scope name) ≡ Ok (Some value, mid.shown) = named_so (objects space.known) space.shown space.scope name (Some (Found value)) mid.shown found in
      let there : looked (objects mid.known) space.shown (named mid.scope name) ≡ Ok (Some value, mid.shown) =
      subst (λ rows. looked (objects rows) space.shown (named mid.scope name) ≡ Ok (Some value, mid.shown)) (sym known) (subst (λ (c : Scope). looked (objects space.known) space.shown (named c name) ≡ Ok (Some value, mid.shown)) (sym scoped) here) in
      subst (λ rows. IsWorth (objects rows) space.shown present space.scope at (trees.Name name) left left worth) known (subst (λ (c : Scope). IsWorth (objects mid.known) space.shown present c at (trees.Name name) left left worth) scoped (is name space.shown at left there))
  found_worth (Err e) is = tt

  pub found_told : (result : Result Worth RenderRefusal) → IfErr result (λ e. (inside : Inside) (left : Left) → Told (told e) (looked (objects mid.known) mid.shown (rendered_if inside mid.scope (Some value) left))) →
      IfErr result (λ e. (inside : Inside) (at : ℕ) (left : Left) → Told (told e) (looked (objects space.known) space.shown (argument inside space.scope at (trees.Name name) left)))
  found_told (Ok worth) is = tt
  found_told (Err e) is = λ inside at left.
      name_halts (objects space.known) space.shown space.scope name inside at left value mid.shown (told e) found
      (subst (λ rows. Told (told e) (looked (objects rows) mid.shown (rendered_if inside space.scope (Some value) left))) known (subst (λ (c : Scope). Told (told e) (looked (objects mid.known) mid.shown (rendered_if inside c (Some value) left))) scoped (is inside left)))

pub worth_at : (result : Result Worth RenderRefusal) (k : ℕ → Option (Seen Object)) (former present : List Shown) (scope : Scope) (at : ℕ) (arg same : trees.Arg) (left : Left) → same ≡ arg → IfOk result (λ worth. (at : ℕ) (left : Left) → IsWorth k former present scope at arg left left worth) →
    IfOk result (λ worth. IsWorth k former present scope at same left left worth)
worth_at (Ok worth) k former present scope at arg same left e is = subst (λ (a : trees.Arg). IsWorth k former present scope at a left left worth) (sym e) (is at left)
worth_at (Err e) k former present scope at arg same left is_same is = tt
