-- What a name means in a page: in an object, and in the stack of names.
--
-- Zope Book, "Variables and Advanced DTML": the DTML namespace; Zope Developer's Guide, "Acquisition".
use Rattle.std.specs.Prelude.{ℕ, ◌==◌, Bool, List, [], ◌∷◌, ◌++◌, length, take, ◌-◌, map, reverse, codes, Option, Some, None, option_map, if◌then◌else◌}
use Rattle.std.specs.List.{find, list_any}
use Rattle.std.specs.Str.{bytes_eq}
use Rattle.evaluator.specs.declared.reply.Shown.{Shown}
use Rattle.zobject.specs.Texts.{begins_with}
use Rattle.zobject.specs.Shapes.{Shape, Form, child_in}
use Rattle.zobject.specs.Shapes as forms
use Rattle.zobject.specs.declared.object.Object.{Object}
use Rattle.zobject.specs.declared.object.Child.{Child}
use Rattle.zobject.specs.declared.object.Property.{Property}
use Rattle.zobject.specs.declared.object.PropValue.{PropValue}
use Rattle.zobject.specs.declared.object.PropValue.TheVariants as values
use Rattle.zknown.specs.declared.kept.Kept.{Kept}
use Rattle.permissions.specs.Verdicts.{or_user}
use Rattle.permissions.specs.declared.who.Who.{Who}
use Rattle.namespace.specs.declared.val.Single.{Single}
use Rattle.namespace.specs.declared.val.Single.TheVariants as single
use Rattle.namespace.specs.declared.val.Val.{Val}
use Rattle.namespace.specs.declared.val.Val.TheVariants as val
use Rattle.namespace.specs.declared.val.Named.{Named}
use Rattle.namespace.specs.declared.val.Layer.{Layer}
use Rattle.namespace.specs.declared.val.Layer.TheVariants as layer
use Rattle.namespace.specs.declared.word.Word.{Word}
use Rattle.namespace.specs.declared.word.Word.TheVariants as word
use Rattle.namespace.specs.Looks.{Looks, Done, See, Reach, Enter, View, Offer, ◌>>=◌}

abbrev pub text : List ℕ → Val
text t = val.Single (single.Text t)

-- ---- single looks

abbrev pub seeing : ℕ → Looks Shape
seeing o = See o (λ shape. Done shape)

abbrev pub reaching : List ℕ → ℕ → Looks (List ℕ)
reaching whole o = Reach whole o (λ found. Done found)

-- the list of the folder's children, which the user must be granted
abbrev pub entering : Who → ℕ → Looks (Unit {0})
entering who o = Enter who o (Done tt)

-- the object, which the user must be granted to view
abbrev pub viewing : Who → ℕ → Looks Object
viewing who o = View who o (λ object. Done object)

-- that the user is granted to view the object
abbrev pub allowing : Who → ℕ → Looks (Unit {0})
allowing who o = viewing who o >>= λ object. Done tt

-- whether the user is granted to view the object
abbrev pub offering : Who → ℕ → Looks Bool
offering who o = Offer who o (λ granted. Done granted)

-- ---- names in an object

-- which names mean the same in every object
abbrev pub word_of : List ℕ → Word
word_of name =
    if bytes_eq name (codes "id") then word.Id
    else if bytes_eq name (codes "title") then word.Title
    else if bytes_eq name (codes "title_or_id") then word.TitleOrId
    else if bytes_eq name (codes "objectIds") then word.ObjectIds
    else if bytes_eq name (codes "objectValues") then word.ObjectValues
    else word.Other

abbrev pub title_or_id : Object → List ℕ
title_or_id object = if length object.title == 0 then object.id else object.title

-- the names under which a folder lists its children
abbrev pub ids_of : List Child → List Single
ids_of children = map (λ (c : Child). single.Text c.name) children

abbrev pub texts : List (List ℕ) → List Single
texts ts = map (λ (t : List ℕ). single.Text t) ts

abbrev pub value_of : PropValue → Val
value_of (values.Line t) = text t
value_of (values.Int n) = val.Single (single.Int n)
value_of (values.Lines ts) = val.Seq (texts ts)

abbrev pub property_value : List ℕ → List Property → Option Val
property_value name properties = option_map (λ (p : Property). value_of p.value) (find (λ (p : Property). bytes_eq p.name name) properties)

abbrev pub has_property : List ℕ → Shape → Bool
has_property name shape = list_any (λ n. bytes_eq n name) shape.names

-- each child, reached through the wrapper in which the name was searched, behind those so far
unfoldable pub reach_each : List ℕ → List Single → List Child → Looks (List Single)
reach_each whole so_far [] = Done so_far
reach_each whole so_far (child ∷ rest) = reaching whole child.oid >>= λ found. reach_each whole (so_far ++ single.Obj found ∷ []) rest

-- only a folder has these two names
unfoldable pub ids_in : Who → ℕ → Form → Looks (Option Val)
ids_in who o (forms.Folder children) = entering who o >>= λ may. Done (Some (val.Seq (ids_of children)))
ids_in who o (forms.Method proxy) = Done None
ids_in who o (forms.Document proxy) = Done None
ids_in who o (forms.UserFolder users) = Done None

abbrev pub seq_of : List Single → Looks (Option Val)
seq_of all = Done (Some (val.Seq all))

abbrev pub all_reached : List ℕ → List Child → Looks (Option Val)
all_reached whole children = reach_each whole [] children >>= seq_of

unfoldable pub values_in : Who → List ℕ → ℕ → Form → Looks (Option Val)
values_in who whole o (forms.Folder children) = entering who o >>= λ may. all_reached whole children
values_in who whole o (forms.Method proxy) = Done None
values_in who whole o (forms.Document proxy) = Done None
values_in who whole o (forms.UserFolder users) = Done None

abbrev pub object_value : List ℕ → Looks (Option Val)
object_value found = Done (Some (val.Single (single.Obj found)))

-- a child, reached through the wrapper in which the name was searched
unfoldable pub child_at : List ℕ → Option ℕ → Looks (Option Val)
child_at whole None = Done None
child_at whole (Some child) = reaching whole child >>= object_value

-- a property's value, which needs a view
unfoldable pub property_in : Who → List ℕ → ℕ → Looks (Option Val)
property_in who name o = viewing who o >>= λ object. Done (property_value name object.properties)

-- a property comes before a child
unfoldable pub property_or_child : Who → List ℕ → List ℕ → ℕ → Shape → Looks (Option Val)
property_or_child who name whole o shape = if has_property name shape then property_in who name o else child_at whole (child_in name shape.form)

-- a text of an object, which needs a view
abbrev pub viewed_text : (Object → List ℕ) → Who → ℕ → Looks (Option Val)
viewed_text of who o = viewing who o >>= λ object. Done (Some (text (of object)))

unfoldable pub title_in : Who → ℕ → Looks (Option Val)
title_in who o = viewed_text (λ object. object.title) who o

unfoldable pub title_or_id_in : Who → ℕ → Looks (Option Val)
title_or_id_in who o = viewed_text title_or_id who o

unfoldable pub by_word : Who → Word → List ℕ → List ℕ → ℕ → Shape → Looks (Option Val)
by_word who word.Id name whole o shape = Done (Some (text shape.id))
by_word who word.Title name whole o shape = title_in who o
by_word who word.TitleOrId name whole o shape = title_or_id_in who o
by_word who word.ObjectIds name whole o shape = ids_in who o shape.form
by_word who word.ObjectValues name whole o shape = values_in who whole o shape.form
by_word who word.Other name whole o shape = property_or_child who name whole o shape

-- what the object itself has under the name
unfoldable pub in_one : Who → List ℕ → List ℕ → ℕ → Looks (Option Val)
in_one who name whole o = seeing o >>= λ shape. by_word who (word_of name) name whole o shape

abbrev pub or_further : Option Val → Looks (Option Val) → Looks (Option Val)
or_further None further = further
or_further (Some hit) further = Done (Some hit)

-- in the first of these objects that has the name
unfoldable pub searched : Who → List ℕ → List ℕ → List ℕ → Looks (Option Val)
searched who name whole [] = Done None
searched who name whole (o ∷ os) = in_one who name whole o >>= λ hit. or_further hit (searched who name whole os)

-- in an object that was reached through others; no object has a name that begins with `_`
unfoldable pub in_object : Who → List ℕ → List ℕ → Looks (Option Val)
in_object who whole name = if begins_with (codes "_") name then Done None else searched who name whole whole

-- ---- names in the stack

-- Where names mean something: the user of the request, and in whose place verdicts are taken for someone else, the
-- layers that were pushed, the oldest first, the client, and the request's values.
pub record Scope : Type 0 where
  pub user : Who
  pub acting : Option Who
  pub layers : List Layer
  pub client : List ℕ
  pub request : List Named

-- the user of the verdicts
abbrev pub whose : Scope → Who
whose scope = or_user scope.user scope.acting

-- what is known of the objects, a scope, and the objects that were shown
pub record Space : Type 0 where
  pub known : List (ℕ × Kept)
  pub scope : Scope
  pub shown : List Shown

-- the same without what is known
pub record Rested : Type 0 where
  pub scope : Scope
  pub shown : List Shown

abbrev pub value_in : List ℕ → List Named → Option Val
value_in name names = option_map (λ (n : Named). n.val) (find (λ (n : Named). bytes_eq n.name name) names)

unfoldable pub in_layer : Who → List ℕ → Layer → Looks (Option Val)
in_layer who name (layer.Names names) = Done (value_in name names)
in_layer who name (layer.Object whole) = in_object who whole name

-- in the first of these layers that has the name
unfoldable pub in_layers : Who → List ℕ → List Layer → Looks (Option Val)
in_layers who name [] = Done None
in_layers who name (l ∷ ls) = in_layer who name l >>= λ hit. or_further hit (in_layers who name ls)

abbrev pub in_request : List ℕ → List Named → Looks (Option Val)
in_request name request = Done (value_in name request)

-- in the client, then among the request's values
unfoldable pub in_base : Who → List ℕ → List ℕ → List Named → Looks (Option Val)
in_base who name client request = in_object who client name >>= λ hit. or_further hit (in_request name request)

-- in the layers from the newest, then in the client, then among the request's values
unfoldable pub named_for : Who → List ℕ → List Layer → List ℕ → List Named → Looks (Option Val)
named_for who name layers client request = in_layers who name (reverse layers) >>= λ hit. or_further hit (in_base who name client request)

abbrev pub named : Scope → List ℕ → Looks (Option Val)
named scope name = named_for (whose scope) name scope.layers scope.client scope.request

-- ---- what the calls of a stack change

abbrev pub push : Layer → Scope → Scope
push l scope = record scope { layers = scope.layers ++ l ∷ [] }

abbrev pub act : Option Who → Scope → Scope
act acting scope = record scope { acting = acting }

abbrev pub popped : Scope → Scope
popped scope = record scope { layers = take (length scope.layers - 1) scope.layers }
