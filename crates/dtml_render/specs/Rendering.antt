-- The text of a page.
--
-- Zope Book, "Basic DTML", "Advanced DTML" and the appendix "DTML Reference"; its limits are this project's own.
use Rattle.std.specs.Prelude.{ℕ, zero, suc, ◌+◌, ◌%◌, pos, Bool, true, false, ◌==◌, List, [], ◌∷◌, ◌++◌, length, reverse, codes, Option, Some, None, Result, Ok, Err, if◌then◌else◌}
use Rattle.std.specs.Fmt.{signed_decimal}
use Rattle.dtml_lex.specs.declared.refusal.DtmlRefusal.{DtmlRefusal}
use Rattle.dtml_parse.specs.Trees as trees
use Rattle.dtml_parse.specs.Trees.{Item, Items, Arms, Otherwise, Arg, Bound, Marks}
use Rattle.dtml_parse.specs.TreeReading.{template}
use Rattle.dtml_format.specs.declared.marks.Marks as shaping
use Rattle.dtml_format.specs.Shaping.{shape}
use Rattle.zobject.specs.declared.object.Object.{Object}
use Rattle.zobject.specs.declared.object.Part2.{Part2}
use Rattle.zobject.specs.declared.object.Part2.TheVariants as parts
use Rattle.zobject.specs.Shapes.{Form, Shape, shape_of}
use Rattle.zobject.specs.Shapes as forms
use Rattle.acquisition.specs.Acquiring.{first}
use Rattle.permissions.specs.Verdicts.{proxy_user}
use Rattle.namespace.specs.declared.val.Single.{Single}
use Rattle.namespace.specs.declared.val.Single.TheVariants as single
use Rattle.namespace.specs.declared.val.Val.{Val}
use Rattle.namespace.specs.declared.val.Val.TheVariants as val
use Rattle.namespace.specs.declared.val.Named.{Named}
use Rattle.namespace.specs.declared.val.Layer.TheVariants as layer
use Rattle.namespace.specs.Looks.{Looks, Done, Stops, ◌>>=◌, NoName, BadValue, Runaway, BadSource, Renders}
use Rattle.namespace.specs.Names.{Scope, whose, named, seeing, viewing, allowing, offering, push, act, text}
use Rattle.dtml_values.specs.Values.{Left, spend_tag, spend_output, number, is_met, defined, sequence, object_in}
use Rattle.dtml_values.specs.Expressions.{evaluated}

-- the text so far, and what is left
pub record State : Type 0 where
  pub out : List ℕ
  pub left : Left

abbrev pub state : List ℕ → Left → State
state out left = record { out = out; left = left }

-- how the source of an object is rendered inside another rendering: in a scope, with what is left
abbrev pub Inside : Type 0
Inside = Scope → ℕ → List ℕ → Left → Looks (List ℕ × Left)

-- what is rendered in a scope, behind the text so far
abbrev pub Block : Type 0
Block = Scope → State → Looks State

-- a text that is made
abbrev pub put : List ℕ → State → Looks State
put t s = spend_output (length t) s.left >>= λ left. Done (state (s.out ++ t) left)

-- ---- the argument of a tag

abbrev pub source_of : Part2 → List ℕ
source_of (parts.Method source proxy) = source
source_of (parts.Document source proxy) = source
source_of (parts.Folder children) = []
source_of (parts.UserFolder users) = []

-- a document is rendered with itself pushed, a method with the stack as it is
abbrev pub pushed_if : List ℕ → Part2 → Scope → Scope
pushed_if w (parts.Document source proxy) scope = push (layer.Object w) scope
pushed_if w (parts.Method source proxy) scope = scope
pushed_if w (parts.Folder children) scope = scope
pushed_if w (parts.UserFolder users) scope = scope

-- the scope in which the source of an object is rendered: its verdicts are those of someone with the object's proxy
-- roles, where it has any, and else of the request's user
abbrev pub scope_in : List ℕ → Object → Scope → Scope
scope_in w object scope = pushed_if w object.part (act (proxy_user (shape_of object)) scope)

abbrev pub as_text : List ℕ × Left → Looks (Option Val × Left)
as_text x = Done (Some (text x.0), x.1)

-- the source of an object that was viewed, as a text
abbrev pub source_value : Inside → Scope → List ℕ → Left → Object → Looks (Option Val × Left)
source_value inside scope w left object = inside (scope_in w object scope) (first w) (source_of object.part) left >>= as_text

-- an object that has a source, which the user must be granted to view, is rendered
unfoldable pub rendered : Inside → Scope → List ℕ → Left → Looks (Option Val × Left)
rendered inside scope w left = viewing (whose scope) (first w) >>= source_value inside scope w left

abbrev pub object_value : List ℕ → Val
object_value w = val.Single (single.Obj w)

-- whether an object of this kind has a source, as methods and documents do
abbrev pub has_source : Form → Bool
has_source (forms.Method proxy) = true
has_source (forms.Document proxy) = true
has_source (forms.Folder children) = false
has_source (forms.UserFolder users) = false

abbrev pub source_in : Shape → Looks Bool
source_in shape = Done (has_source shape.form)

unfoldable pub sourced : List ℕ → Looks Bool
sourced w = seeing (first w) >>= source_in

-- a folder stays an object
abbrev pub rendered_or : Inside → Scope → List ℕ → Left → Bool → Looks (Option Val × Left)
rendered_or inside scope w left has = if has then rendered inside scope w left else Done (Some (object_value w), left)

unfoldable pub object_rendered : Inside → Scope → List ℕ → Left → Looks (Option Val × Left)
object_rendered inside scope w left = sourced w >>= rendered_or inside scope w left

unfoldable pub rendered_if : Inside → Scope → Option Val → Left → Looks (Option Val × Left)
rendered_if inside scope (Some (val.Single (single.Obj w))) left = object_rendered inside scope w left
rendered_if inside scope found left = Done (found, left)

abbrev pub given : Val × Left → Looks (Option Val × Left)
given x = Done (Some x.0, x.1)

-- The value of an argument, none for a name that has none. A name renders the object that it means, an expression
-- nothing.
unfoldable pub argument : Inside → Scope → ℕ → Arg → Left → Looks (Option Val × Left)
argument inside scope at (trees.Name name) left = named scope name >>= λ found. rendered_if inside scope found left
argument inside scope at (trees.Expression e) left = evaluated scope at e left >>= given

abbrev pub name_of : Arg → List ℕ
name_of (trees.Name name) = name
name_of (trees.Expression e) = []

abbrev pub must_be : Arg → Option Val × Left → Looks (Val × Left)
must_be arg found = defined (name_of arg) found.0 >>= λ v. Done (v, found.1)

-- the value of an argument that must have one
unfoldable pub needed : Inside → Scope → ℕ → Arg → Left → Looks (Val × Left)
needed inside scope at arg left = argument inside scope at arg left >>= must_be arg

-- ---- var

abbrev pub or_missing : Arg → Option (List ℕ) → Looks (List ℕ)
or_missing arg None = Stops (NoName (name_of arg))
or_missing arg (Some t) = Done t

-- a text is itself, a number its decimal form; a name without a value may have a text in its place
abbrev pub text_of : ℕ → Arg → Option (List ℕ) → Option Val → Looks (List ℕ)
text_of at arg missing None = or_missing arg missing
text_of at arg missing (Some (val.Single (single.Text t))) = Done t
text_of at arg missing (Some (val.Single (single.Int n))) = Done (signed_decimal n)
text_of at arg missing (Some (val.Single (single.Obj w))) = Stops (BadValue at)
text_of at arg missing (Some (val.Seq xs)) = Stops (BadValue at)

abbrev pub marks_of : Marks → shaping.Marks
marks_of m = record {
  html_quote = m.html_quote;
  url_quote = m.url_quote;
  newline_to_br = m.newline_to_br;
  lower = m.lower;
  upper = m.upper;
  capitalize = m.capitalize;
  size = m.size;
  etc = m.etc;
}

abbrev pub shaped_by : Marks → List ℕ → Looks (List ℕ)
shaped_by marks t = Done (shape t (marks_of marks))

-- the text of a value with its marks applied
abbrev pub shaped : ℕ → Arg → Marks → Option Val → Looks (List ℕ)
shaped at arg marks found = text_of at arg marks.missing found >>= shaped_by marks

abbrev pub put_at : State → List ℕ → Looks State
put_at s t = put t s

abbrev pub put_value : ℕ → Arg → Marks → List ℕ → Option Val × Left → Looks State
put_value at arg marks out found = shaped at arg marks found.0 >>= put_at (state out found.1)

unfoldable pub var_text : Inside → Scope → ℕ → Arg → Marks → State → Looks State
var_text inside scope at arg marks s = argument inside scope at arg s.left >>= put_value at arg marks s.out

-- ---- call

abbrev pub without_text : List ℕ → Val × Left → Looks State
without_text out x = Done (state out x.1)

unfoldable pub call_text : Inside → Scope → ℕ → Arg → State → Looks State
call_text inside scope at arg s = needed inside scope at arg s.left >>= without_text s.out

-- ---- unless

abbrev pub unless_met : (State → Looks State) → List ℕ → Option Val × Left → Looks State
unless_met block out found = if is_met found.0 then Done (state out found.1) else block (state out found.1)

unfoldable pub unless_text : Inside → Scope → ℕ → Arg → (State → Looks State) → State → Looks State
unless_text inside scope at arg block s = argument inside scope at arg s.left >>= unless_met block s.out

-- ---- in

abbrev pub counted : List ℕ → ℕ → Named
counted name n = record { name = name; val = number (pos n) }

abbrev pub bit : Bool → ℕ
bit b = if b then 1 else 0

-- the names of the item at a place, counted from 0, of so many
abbrev pub item_names : ℕ → ℕ → Single → List Named
item_names many i item =
    record { name = codes "sequence-item"; val = val.Single item }
    ∷ counted (codes "sequence-index") i
    ∷ counted (codes "sequence-number") (i + 1)
    ∷ counted (codes "sequence-start") (bit (i == 0))
    ∷ counted (codes "sequence-end") (bit (i + 1 == many))
    ∷ counted (codes "sequence-even") (bit (i % 2 == 0))
    ∷ counted (codes "sequence-odd") (bit (i % 2 == 1))
    ∷ []

-- an item that is an object is pushed above its names
abbrev pub item_pushed : Single → Scope → Scope
item_pushed (single.Obj w) scope = push (layer.Object w) scope
item_pushed (single.Text t) scope = scope
item_pushed (single.Int n) scope = scope

abbrev pub item_scope : ℕ → ℕ → Single → Scope → Scope
item_scope many i item scope = item_pushed item (push (layer.Names (item_names many i item)) scope)

abbrev pub always : {A : Type 0} → A → Looks Bool
always x = Done true

-- Whether an item has its turn. An object needs a view; one that the user isn't granted is passed over where that is
-- asked for.
unfoldable pub object_turn : Scope → Bool → List ℕ → Looks Bool
object_turn scope true w = offering (whose scope) (first w)
object_turn scope false w = allowing (whose scope) (first w) >>= always

abbrev pub has_turn : Scope → Bool → Single → Looks Bool
has_turn scope skip (single.Obj w) = object_turn scope skip w
has_turn scope skip (single.Text t) = Done true
has_turn scope skip (single.Int n) = Done true

abbrev pub turn_text : Block → Scope → ℕ → ℕ → Single → State → Bool → Looks State
turn_text block scope many i item s may = if may then block (item_scope many i item scope) s else Done s

unfoldable pub turn : Block → Scope → Bool → ℕ → ℕ → Single → State → Looks State
turn block scope skip many i item s = has_turn scope skip item >>= turn_text block scope many i item s

-- an item's turn, which counts as a tag
abbrev pub counted_turn : Block → Scope → Bool → ℕ → ℕ → Single → State → Looks State
counted_turn block scope skip many i item s = spend_tag s.left >>= λ left. turn block scope skip many i item (state s.out left)

-- a block for each item, from a place on
unfoldable pub each : Block → Scope → Bool → ℕ → ℕ → List Single → State → Looks State
each block scope skip many i [] s = Done s
each block scope skip many i (item ∷ rest) s = counted_turn block scope skip many i item s >>= λ s. each block scope skip many (i + 1) rest s

abbrev pub turned : Bool → List Single → List Single
turned does xs = if does then reverse xs else xs

-- a sequence without items renders something else
unfoldable pub over_items : Scope → Bool → Bool → Block → (State → Looks State) → List Single → State → Looks State
over_items scope reversed skip block otherwise xs s = if length xs == 0 then otherwise s else each block scope skip (length xs) 0 (turned reversed xs) s

abbrev pub over : Scope → Bool → Bool → Block → (State → Looks State) → State → List Single → Looks State
over scope reversed skip block otherwise s xs = over_items scope reversed skip block otherwise xs s

abbrev pub over_value : Scope → ℕ → Bool → Bool → Block → (State → Looks State) → List ℕ → Val × Left → Looks State
over_value scope at reversed skip block otherwise out x = sequence at x.0 >>= over scope reversed skip block otherwise (state out x.1)

unfoldable pub loop_text : Inside → Scope → ℕ → Arg → Bool → Bool → Block → (State → Looks State) → State → Looks State
loop_text inside scope at arg reversed skip block otherwise s = needed inside scope at arg s.left >>= over_value scope at reversed skip block otherwise s.out

-- ---- with

abbrev pub inside_object : Block → Scope → State → List ℕ → Looks State
inside_object block scope s w = block (push (layer.Object w) scope) s

abbrev pub with_value : Block → Scope → ℕ → List ℕ → Val × Left → Looks State
with_value block scope at out x = object_in at x.0 >>= inside_object block scope (state out x.1)

unfoldable pub with_text : Inside → Scope → ℕ → Arg → Block → State → Looks State
with_text inside scope at arg block s = needed inside scope at arg s.left >>= with_value block scope at s.out

-- ---- let

abbrev pub bind : List ℕ → Val → Scope → Scope
bind name v scope = push (layer.Names (record { name = name; val = v } ∷ [])) scope

-- each binding sees those before it
unfoldable pub bound : Inside → ℕ → List Bound → Scope → Left → Looks (Scope × Left)
bound inside at [] scope left = Done (scope, left)
bound inside at (b ∷ rest) scope left = needed inside scope at b.arg left >>= λ x. bound inside at rest (bind b.name x.0 scope) x.1

abbrev pub in_bound : Block → List ℕ → Scope × Left → Looks State
in_bound block out x = block x.0 (state out x.1)

unfoldable pub let_text : Inside → Scope → ℕ → List Bound → Block → State → Looks State
let_text inside scope at bounds block s = bound inside at bounds scope s.left >>= in_bound block s.out

-- ---- templates

-- a tag counts before anything else of it
abbrev pub counting : State → (State → Looks State) → Looks State
counting s tag = spend_tag s.left >>= λ left. tag (state s.out left)

unfoldable mutual
  pub item_text : Inside → Scope → Item → State → Looks State
  item_text inside scope (trees.Plain t) s = put t s
  item_text inside scope (trees.Var at arg marks) s = counting s (λ s. var_text inside scope at arg marks s)
  item_text inside scope (trees.Call at arg) s = counting s (λ s. call_text inside scope at arg s)
  item_text inside scope (trees.If arms otherwise) s = counting s (λ s. arms_text inside scope arms (λ s. else_text inside scope otherwise s) s)
  item_text inside scope (trees.Unless at arg block) s = counting s (λ s. unless_text inside scope at arg (λ s. items_text inside scope block s) s)
  item_text inside scope (trees.Loop at arg reversed skip block otherwise) s =
      counting s (λ s. loop_text inside scope at arg reversed skip (λ scope s. items_text inside scope block s) (λ s. else_text inside scope otherwise s) s)
  item_text inside scope (trees.With at arg block) s = counting s (λ s. with_text inside scope at arg (λ scope s. items_text inside scope block s) s)
  item_text inside scope (trees.Let at bounds block) s = counting s (λ s. let_text inside scope at bounds (λ scope s. items_text inside scope block s) s)
  item_text inside scope (trees.Comment at block) s = counting s (λ s. Done s)

  -- one after another
  pub items_text : Inside → Scope → Items → State → Looks State
  items_text inside scope trees.none s = Done s
  items_text inside scope (trees.more item rest) s = item_text inside scope item s >>= λ s. items_text inside scope rest s

  -- the first arm whose condition is met, else something else
  pub arms_text : Inside → Scope → Arms → (State → Looks State) → State → Looks State
  arms_text inside scope trees.last otherwise s = otherwise s
  arms_text inside scope (trees.arm at arg block rest) otherwise s = argument inside scope at arg s.left >>= λ found.
      if is_met found.0 then items_text inside scope block (state s.out found.1) else arms_text inside scope rest otherwise (state s.out found.1)

  -- the block of an `else`
  pub else_text : Inside → Scope → Otherwise → State → Looks State
  else_text inside scope trees.absent s = Done s
  else_text inside scope (trees.present block) s = items_text inside scope block s

-- ---- sources

abbrev pub or_bad : {A : Type 0} → ℕ → (Items → Looks A) → Result Items DtmlRefusal → Looks A
or_bad o go (Ok tree) = go tree
or_bad o go (Err refusal) = Stops (BadSource o refusal)

abbrev pub text_and_left : State → Looks (List ℕ × Left)
text_and_left s = Done (s.out, s.left)

abbrev pub whole_text : Inside → Scope → Items → Left → Looks (List ℕ × Left)
whole_text inside scope tree left = items_text inside scope tree (state [] left) >>= text_and_left

-- The source of an object, rendered where so many renderings may still stand inside one another, this one included. A
-- source that can't be read is a bad one, however deep it stands.
unfoldable pub source_text : ℕ → Inside
source_text zero scope o source left = or_bad o (λ tree. Stops (Runaway Renders)) (template source)
source_text (suc renders) scope o source left = or_bad o (λ tree. whole_text (source_text renders) scope tree left) (template source)

-- a template, where one rendering more begins
abbrev pub one_more : ℕ → Scope → Items → Left → Looks (List ℕ × Left)
one_more zero scope tree left = Stops (Runaway Renders)
one_more (suc renders) scope tree left = whole_text (source_text renders) scope tree left

-- a template, rendered where so many renderings may still stand inside it
unfoldable pub tree_text : ℕ → Scope → Items → Left → Looks (List ℕ × Left)
tree_text renders scope tree left = whole_text (source_text renders) scope tree left
