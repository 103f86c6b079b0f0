-- What a name means in a stack is for the user of its verdicts alone, and passes nothing over.
use Rattle.std.proofs.Common.{ℕ, List, [], ◌∷◌, ◌++◌, reverse, Option, Some, None, Bool, true, false, if◌then◌else◌}
use Rattle.std.specs.Prelude.{codes}
use Rattle.zobject.specs.Texts.{begins_with}
use Rattle.zobject.specs.declared.object.Object.{Object}
use Rattle.zobject.specs.declared.object.Child.{Child}
use Rattle.zobject.specs.Shapes.{Shape, Form}
use Rattle.zobject.specs.Shapes as forms
use Rattle.zknown.specs.Seen.{Seen}
use Rattle.permissions.specs.declared.who.Who.{Who}
use Rattle.namespace.specs.declared.val.Single.{Single}
use Rattle.namespace.specs.declared.val.Single.TheVariants as single
use Rattle.namespace.specs.declared.val.Val.{Val}
use Rattle.namespace.specs.declared.val.Layer.{Layer}
use Rattle.namespace.specs.declared.val.Layer.TheVariants as layer
use Rattle.namespace.specs.declared.word.Word.{Word}
use Rattle.namespace.specs.declared.word.Word.TheVariants as word
use Rattle.namespace.specs.Looks.{Looks, Done, Stops, See, Reach, Enter, View, Offer, ◌>>=◌}
use Rattle.namespace.specs.LookLaws.{IsFor}
use Rattle.namespace.specs.Names.{Scope, whose, reach_each, seq_of, ids_in, values_in, child_at, property_in, property_or_child, has_property, title_in, title_or_id_in, by_word, word_of, in_one, or_further, searched, in_object, in_layer, in_layers, in_request, in_base, named_for, named}

-- a page and then another are for users of a sort, where both are
pub for_then : {A B : Type 0} (Sort : Who → Type 0) (k : ℕ → Option (Seen Object)) (q : Looks A) (next : A → Looks B) → IsFor Sort k q → ((x : A) → IsFor Sort k (next x)) → IsFor Sort k (q >>= next)
for_then Sort k (Done x) next is each = each x
for_then Sort k (Stops cause) next is each = tt
for_then Sort k (See at go) next is each = λ shape here. for_then Sort k (go shape) next (is shape here) each
for_then Sort k (Reach w at go) next is each = λ found there. for_then Sort k (go found) next (is found there) each
for_then Sort k (Enter who at go) next is each = (is.0, for_then Sort k go next is.1 each)
for_then Sort k (View who at go) next is each = (is.0, λ object here. for_then Sort k (go object) next (is.1 object here) each)
for_then Sort k (Offer who at go) next is each = absurd is

module _ (Sort : Who → Type 0) (k : ℕ → Option (Seen Object)) (who : Who) (of : Sort who) where
  for_each : (whole : List ℕ) (so_far : List Single) (children : List Child) → IsFor Sort k (reach_each whole so_far children)
  unfolding reach_each
  for_each whole so_far [] = tt
  for_each whole so_far (child ∷ rest) = λ found there. for_each whole (so_far ++ single.Obj found ∷ []) rest

  for_ids : (o : ℕ) (form : Form) → IsFor Sort k (ids_in who o form)
  unfolding ids_in
  for_ids o (forms.Folder children) = (of, tt)
  for_ids o (forms.Method proxy) = tt
  for_ids o (forms.Document proxy) = tt
  for_ids o (forms.UserFolder users) = tt

  for_values : (whole : List ℕ) (o : ℕ) (form : Form) → IsFor Sort k (values_in who whole o form)
  unfolding values_in
  for_values whole o (forms.Folder children) = (of, for_then Sort k (reach_each whole [] children) seq_of (for_each whole [] children) (λ all. tt))
  for_values whole o (forms.Method proxy) = tt
  for_values whole o (forms.Document proxy) = tt
  for_values whole o (forms.UserFolder users) = tt

  for_child : (whole : List ℕ) (child : Option ℕ) → IsFor Sort k (child_at whole child)
  unfolding child_at
  for_child whole None = tt
  for_child whole (Some o) = λ found there. tt

  for_property : (name : List ℕ) (o : ℕ) → IsFor Sort k (property_in who name o)
  unfolding property_in
  for_property name o = (of, λ object here. tt)

  for_other : (name whole : List ℕ) (o : ℕ) (shape : Shape) → IsFor Sort k (property_or_child who name whole o shape)
  unfolding property_or_child
  for_other name whole o shape = at (has_property name shape)
    where
      at : (has : Bool) → IsFor Sort k (if has then property_in who name o else child_at whole (forms.child_in name shape.form))
      at true = for_property name o
      at false = for_child whole (forms.child_in name shape.form)

  for_title : (o : ℕ) → IsFor Sort k (title_in who o)
  unfolding title_in
  for_title o = (of, λ object here. tt)

  for_title_or_id : (o : ℕ) → IsFor Sort k (title_or_id_in who o)
  unfolding title_or_id_in
  for_title_or_id o = (of, λ object here. tt)

  for_word : (w : Word) (name whole : List ℕ) (o : ℕ) (shape : Shape) → IsFor Sort k (by_word who w name whole o shape)
  unfolding by_word
  for_word word.Id name whole o shape = tt
  for_word word.Title name whole o shape = for_title o
  for_word word.TitleOrId name whole o shape = for_title_or_id o
  for_word word.ObjectIds name whole o shape = for_ids o shape.form
  for_word word.ObjectValues name whole o shape = for_values whole o shape.form
  for_word word.Other name whole o shape = for_other name whole o shape

  for_one : (name whole : List ℕ) (o : ℕ) → IsFor Sort k (in_one who name whole o)
  unfolding in_one
  for_one name whole o = λ shape here. for_word (word_of name) name whole o shape

  for_further : (hit : Option Val) (further : Looks (Option Val)) → IsFor Sort k further → IsFor Sort k (or_further hit further)
  for_further None further is = is
  for_further (Some hit) further is = tt

  for_searched : (name whole os : List ℕ) → IsFor Sort k (searched who name whole os)
  unfolding searched
  for_searched name whole [] = tt
  for_searched name whole (o ∷ os) = for_then Sort k (in_one who name whole o) _ (for_one name whole o) (λ hit. for_further hit (searched who name whole os) (for_searched name whole os))

  -- a name in an object
  pub for_object : (whole name : List ℕ) → IsFor Sort k (in_object who whole name)
  unfolding in_object
  for_object whole name = at (begins_with (codes "_") name)
    where
      at : (hidden : Bool) → IsFor Sort k (if hidden then Done None else searched who name whole whole)
      at true = tt
      at false = for_searched name whole whole

  for_layer : (name : List ℕ) (l : Layer) → IsFor Sort k (in_layer who name l)
  unfolding in_layer
  for_layer name (layer.Names names) = tt
  for_layer name (layer.Object whole) = for_object whole name

  for_layers : (name : List ℕ) (ls : List Layer) → IsFor Sort k (in_layers who name ls)
  unfolding in_layers
  for_layers name [] = tt
  for_layers name (l ∷ ls) = for_then Sort k (in_layer who name l) _ (for_layer name l) (λ hit. for_further hit (in_layers who name ls) (for_layers name ls))

-- a name in the stack
pub for_named : (Sort : Who → Type 0) (k : ℕ → Option (Seen Object)) (scope : Scope) (name : List ℕ) → Sort (whose scope) → IsFor Sort k (named scope name)
unfolding named_for in_base
for_named Sort k scope name of =
    for_then Sort k (in_layers (whose scope) name (reverse scope.layers)) _ (for_layers Sort k (whose scope) of name (reverse scope.layers))
    (λ hit. for_further Sort k (whose scope) of hit (in_base (whose scope) name scope.client scope.request)
    (for_then Sort k (in_object (whose scope) scope.client name) _ (for_object Sort k (whose scope) of scope.client name)
    (λ hit. for_further Sort k (whose scope) of hit (in_request name scope.request) tt)))
