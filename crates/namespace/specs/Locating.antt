-- What a name leads to, before the children of a folder are reached.
--
-- Zope Book, appendix "DTML Reference", `in`: `objectValues`.
use Rattle.std.proofs.Common.{ℕ, ◌≡◌, ◌∙◌, refl, sym, ap, Bool, true, false, List, [], ◌∷◌, reverse, codes, Option, Some, None, if◌then◌else◌}
use Rattle.zobject.specs.Texts.{begins_with}
use Rattle.zobject.specs.declared.object.Child.{Child}
use Rattle.zobject.specs.Shapes.{Form, Shape}
use Rattle.zobject.specs.Shapes as forms
use Rattle.permissions.specs.declared.who.Who.{Who}
use Rattle.namespace.specs.declared.val.Val.{Val}
use Rattle.namespace.specs.declared.val.Named.{Named}
use Rattle.namespace.specs.declared.val.Layer.{Layer}
use Rattle.namespace.specs.declared.val.Layer.TheVariants as layer
use Rattle.namespace.specs.declared.word.Word.{Word}
use Rattle.namespace.specs.declared.word.Word.TheVariants as word
use Rattle.namespace.specs.Looks.{Looks, Done, ◌>>=◌}
use Rattle.namespace.specs.Names.{Scope, all_reached, by_word, entering, in_base, in_layer, in_layers, in_object, in_one, in_request, named, named_for, or_further, reach_each, searched, seeing, seq_of, value_in, values_in, whose, word_of}
use Rattle.namespace.specs.Joining.{then_then, then_done}

-- a value, or the children of a folder, to be reached through the wrapper in which the name was searched
pub data Hit : Type 0 where
  Found : Val → Hit
  Children : List ℕ → List Child → Hit

abbrev pub found_of : Option Val → Option Hit
found_of None = None
found_of (Some v) = Some (Found v)

abbrev pub given_of : Option Val → Looks (Option Hit)
given_of v = Done (found_of v)

abbrev pub leading : Looks (Option Val) → Looks (Option Hit)
leading q = q >>= given_of

-- the value of what was found
abbrev pub all_of : Option Hit → Looks (Option Val)
all_of None = Done None
all_of (Some (Found v)) = Done (Some v)
all_of (Some (Children whole children)) = all_reached whole children

abbrev pub or_on : Option Hit → Looks (Option Hit) → Looks (Option Hit)
or_on None further = further
or_on (Some hit) further = Done (Some hit)

unfoldable pub children_in : Who → List ℕ → ℕ → Form → Looks (Option Hit)
children_in who whole o (forms.Folder children) = entering who o >>= λ may. Done (Some (Children whole children))
children_in who whole o (forms.Method proxy) = Done None
children_in who whole o (forms.Document proxy) = Done None
children_in who whole o (forms.UserFolder users) = Done None

unfoldable pub located_by_word : Who → Word → List ℕ → List ℕ → ℕ → Shape → Looks (Option Hit)
located_by_word who word.ObjectValues name whole o shape = children_in who whole o shape.form
located_by_word who w name whole o shape = by_word who w name whole o shape >>= given_of

unfoldable pub located_in_one : Who → List ℕ → List ℕ → ℕ → Looks (Option Hit)
located_in_one who name whole o = seeing o >>= λ shape. located_by_word who (word_of name) name whole o shape

unfoldable pub located_among : Who → List ℕ → List ℕ → List ℕ → Looks (Option Hit)
located_among who name whole [] = Done None
located_among who name whole (o ∷ os) = located_in_one who name whole o >>= λ hit. or_on hit (located_among who name whole os)

unfoldable pub located_in : Who → List ℕ → List ℕ → Looks (Option Hit)
located_in who whole name = if begins_with (codes "_") name then Done None else located_among who name whole whole

unfoldable pub located_in_layer : Who → List ℕ → Layer → Looks (Option Hit)
located_in_layer who name (layer.Names names) = Done (found_of (value_in name names))
located_in_layer who name (layer.Object whole) = located_in who whole name

unfoldable pub located_in_layers : Who → List ℕ → List Layer → Looks (Option Hit)
located_in_layers who name [] = Done None
located_in_layers who name (l ∷ ls) = located_in_layer who name l >>= λ hit. or_on hit (located_in_layers who name ls)

unfoldable pub located_in_base : Who → List ℕ → List ℕ → List Named → Looks (Option Hit)
located_in_base who name client request = located_in who client name >>= λ hit. or_on hit (Done (found_of (value_in name request)))

-- what a name leads to: in the layers from the newest, then in the client, then among the request's values
unfoldable pub located_for : Who → List ℕ → List Layer → List ℕ → List Named → Looks (Option Hit)
located_for who name layers client request = located_in_layers who name (reverse layers) >>= λ hit. or_on hit (located_in_base who name client request)

abbrev pub located : Scope → List ℕ → Looks (Option Hit)
located scope name = located_for (whose scope) name scope.layers scope.client scope.request

-- ---- the value of a name is the value of what it leads to

found_is : (v : Option Val) → all_of (found_of v) ≡ Done v
found_is None = refl
found_is (Some v) = refl

given_is : (q : Looks (Option Val)) → ((q >>= given_of) >>= all_of) ≡ q
given_is q = then_then q given_of all_of ∙ (λ i. q >>= λ v. found_is v i) ∙ then_done q

or_is : (hit : Option Hit) (further : Looks (Option Val)) (on : Looks (Option Hit)) → (on >>= all_of) ≡ further → (or_on hit on >>= all_of) ≡ (all_of hit >>= λ h. or_further h further)
or_is None further on is = is
or_is (Some (Found v)) further on is = refl
or_is (Some (Children whole children)) further on is = sym (then_then (reach_each whole [] children) seq_of (λ h. or_further h further))

first_is : (first : Looks (Option Hit)) (value : Looks (Option Val)) (on : Looks (Option Hit)) (further : Looks (Option Val)) → (first >>= all_of) ≡ value → (on >>= all_of) ≡ further →
    ((first >>= λ hit. or_on hit on) >>= all_of) ≡ (value >>= λ h. or_further h further)
first_is first value on further is rest =
    then_then first (λ hit. or_on hit on) all_of
    ∙ (λ i. first >>= λ hit. or_is hit further on rest i)
    ∙ sym (then_then first all_of (λ h. or_further h further))
    ∙ ap (λ (q : Looks (Option Val)). q >>= λ h. or_further h further) is

children_is : (who : Who) (whole : List ℕ) (o : ℕ) (form : Form) → (children_in who whole o form >>= all_of) ≡ values_in who whole o form
unfolding children_in values_in
children_is who whole o (forms.Folder children) = refl
children_is who whole o (forms.Method proxy) = refl
children_is who whole o (forms.Document proxy) = refl
children_is who whole o (forms.UserFolder users) = refl

word_is : (who : Who) (w : Word) (name whole : List ℕ) (o : ℕ) (shape : Shape) → (located_by_word who w name whole o shape >>= all_of) ≡ by_word who w name whole o shape
unfolding located_by_word by_word
word_is who word.ObjectValues name whole o shape = children_is who whole o shape.form
word_is who word.Id name whole o shape = given_is (by_word who word.Id name whole o shape)
word_is who word.Title name whole o shape = given_is (by_word who word.Title name whole o shape)
word_is who word.TitleOrId name whole o shape = given_is (by_word who word.TitleOrId name whole o shape)
word_is who word.ObjectIds name whole o shape = given_is (by_word who word.ObjectIds name whole o shape)
word_is who word.Other name whole o shape = given_is (by_word who word.Other name whole o shape)

one_is : (who : Who) (name whole : List ℕ) (o : ℕ) → (located_in_one who name whole o >>= all_of) ≡ in_one who name whole o
unfolding located_in_one in_one
one_is who name whole o =
    then_then (seeing o) (λ shape. located_by_word who (word_of name) name whole o shape) all_of
    ∙ (λ i. seeing o >>= λ shape. word_is who (word_of name) name whole o shape i)

among_is : (who : Who) (name whole os : List ℕ) → (located_among who name whole os >>= all_of) ≡ searched who name whole os
unfolding located_among searched
among_is who name whole [] = refl
among_is who name whole (o ∷ os) = first_is (located_in_one who name whole o) (in_one who name whole o) (located_among who name whole os) (searched who name whole os) (one_is who name whole o) (among_is who name whole os)

-- so in an object
pub in_is : (who : Who) (whole name : List ℕ) → (located_in who whole name >>= all_of) ≡ in_object who whole name
unfolding located_in in_object
in_is who whole name = at (begins_with (codes "_") name)
  where
    at : (hidden : Bool) → ((if hidden then Done None else located_among who name whole whole) >>= all_of) ≡ (if hidden then Done None else searched who name whole whole)
    at true = refl
    at false = among_is who name whole whole

layer_is : (who : Who) (name : List ℕ) (l : Layer) → (located_in_layer who name l >>= all_of) ≡ in_layer who name l
unfolding located_in_layer in_layer
layer_is who name (layer.Names names) = found_is (value_in name names)
layer_is who name (layer.Object whole) = in_is who whole name

layers_is : (who : Who) (name : List ℕ) (ls : List Layer) → (located_in_layers who name ls >>= all_of) ≡ in_layers who name ls
unfolding located_in_layers in_layers
layers_is who name [] = refl
layers_is who name (l ∷ ls) = first_is (located_in_layer who name l) (in_layer who name l) (located_in_layers who name ls) (in_layers who name ls) (layer_is who name l) (layers_is who name ls)

base_is : (who : Who) (name client : List ℕ) (request : List Named) → (located_in_base who name client request >>= all_of) ≡ in_base who name client request
unfolding located_in_base in_base
base_is who name client request = first_is (located_in who client name) (in_object who client name) (Done (found_of (value_in name request))) (in_request name request) (in_is who client name) (found_is (value_in name request))

-- the value of a name is that of what it leads to
pub located_is : (scope : Scope) (name : List ℕ) → (located scope name >>= all_of) ≡ named scope name
unfolding located_for named_for
located_is scope name = first_is (located_in_layers (whose scope) name (reverse scope.layers)) (in_layers (whose scope) name (reverse scope.layers)) (located_in_base (whose scope) name scope.client scope.request) (in_base (whose scope) name scope.client scope.request) (layers_is (whose scope) name (reverse scope.layers)) (base_is (whose scope) name scope.client scope.request)
