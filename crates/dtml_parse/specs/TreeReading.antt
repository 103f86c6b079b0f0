-- Reading a whole source as a function of it: the template that it is, or its first refusal. A reader gives what stands
-- from a place on, and the place behind that.
use Rattle.std.specs.Prelude.{◌≡◌, ◌↔◌, ◌≤◌, ℕ, zero, suc, ◌-◌, nat_lt, true, false, if◌then◌else◌, List, length, drop, Option, Some, None, Result, Ok, Err}
use Rattle.std.specs.Str.{IsUtf8}
use Rattle.zbase.specs.declared.limits.TheConstants.{MOST_SOURCE}
use Rattle.dtml_lex.specs.declared.part.TagName.{TagName}
use Rattle.dtml_lex.specs.declared.part.TagName.TheVariants as tags
use Rattle.dtml_lex.specs.declared.part.PartKind.{PartKind}
use Rattle.dtml_lex.specs.declared.part.SourcePart.{SourcePart}
use Rattle.dtml_lex.specs.declared.refusal.DtmlRefusal.{DtmlRefusal}
use Rattle.dtml_lex.specs.declared.refusal.DtmlRefusal.TheVariants.{Memory, BadTag, Unclosed, Stray, BadAttribute, BadExpression, TooLarge, TooDeep}
use Rattle.dtml_lex.specs.Reading.{part_at}
use Rattle.dtml_parse.specs.Trees.{Arg, Item, Items, Arms, Otherwise, Plain, Var, Call, If, Unless, Loop, With, Let, Comment, none, more, last, arm, absent, present}
use Rattle.dtml_parse.specs.Pieces as pieces
use Rattle.dtml_parse.specs.Pieces.{Piece, is_lawful}
use Rattle.dtml_parse.specs.PieceReading.{piece_at}
use Rattle.dtml_parse.specs.Grammar.{Reads}
use Rattle.dtml_parse.specs.Refusals.{Open, strays, Refuses}
use Rattle.dtml_parse.specs.Parsing.{ends_block}

abbrev pub Answer : Type 0 → Type 0
Answer X = Result X DtmlRefusal

abbrev pub Read : Type 0 → Type 0
Read X = Answer (X × ℕ)

-- the nodes from a place on
abbrev pub Nodes : Type 0
Nodes = ℕ → Read Items

infixl 10 ◌>>=◌
abbrev pub ◌>>=◌ : {A B : Type 0} → Answer A → (A → Answer B) → Answer B
(Ok x) >>= f = f x
(Err refusal) >>= f = Err refusal

-- ---- parts

abbrev pub part_from : List ℕ → ℕ → Option (PartKind × List ℕ) → Answer (Option SourcePart)
part_from source at (Some x) = Ok (Some (record { start = at; end = length source - length x.1; kind = x.0 }))
part_from source at None = Err (BadTag at)

-- the part that stands at a place; none at the end of the source
abbrev pub next_part : List ℕ → ℕ → Answer (Option SourcePart)
next_part source at = if nat_lt at (length source) then part_from source at (part_at (drop at source)) else Ok None

abbrev pub or_refused : DtmlRefusal → Option Piece → Answer Piece
or_refused refusal (Some piece) = Ok piece
or_refused refusal None = Err refusal

-- what the part at a place says
abbrev pub said : ℕ → PartKind → Answer Piece
said at kind = if is_lawful kind then or_refused (BadExpression at) (piece_at kind) else Err (BadAttribute at)

-- the tag at a place, inside its last block
abbrev pub closing : ℕ → TagName → Open
closing at name = record { at = at; name = name; goes_on = false }

-- and inside a block of an `if` or `in` that an `else` may follow
abbrev pub going_on : ℕ → TagName → Open
going_on at name = record { at = at; name = name; goes_on = true }

-- what a part says that must belong to the open tag
abbrev pub turn_from : Open → ℕ → Option SourcePart → Read Piece
turn_from outer at None = Err (Unclosed outer.at)
turn_from outer at (Some part) = if strays (Some outer) part.kind then Err (Stray at) else said at part.kind >>= λ piece. Ok (piece, part.end)

-- one level deeper than the tag at a place
abbrev pub deeper : (ℕ → Nodes) → ℕ → ℕ → Answer Nodes
deeper nodes at zero = Err (TooDeep at)
deeper nodes at (suc levels) = Ok (nodes levels)

module _ (source : List ℕ) where
  -- what stands behind a block of the open tag
  abbrev pub turn_at : Open → ℕ → Read Piece
  turn_at outer at = next_part source at >>= turn_from outer at

  -- ---- the blocks of the tag at a place, where `nodes` reads what stands in them

  module _ (nodes : Nodes) where
    -- its last block, and the closing tag
    abbrev pub last_block : ℕ → TagName → ℕ → Read Items
    last_block at name start = do
      block ← nodes start
      turn ← turn_at (closing at name) block.1
      Ok (block.0, turn.1)

    -- what follows an `else`: its block. A closing tag has none.
    abbrev pub else_at : ℕ → TagName → Piece → ℕ → Read Otherwise
    else_at at name pieces.Else start = last_block at name start >>= λ block. Ok (present block.0, block.1)
    else_at at name piece start = Ok (absent, start)

    -- the block of an `in`, and its `else`
    abbrev pub loop_at : ℕ → ℕ → Read (Items × Otherwise)
    loop_at at start = do
      block ← nodes start
      turn ← turn_at (going_on at tags.In) block.1
      otherwise ← else_at at tags.In turn.0 turn.1
      Ok ((block.0, otherwise.0), otherwise.1)

    -- what follows the block of an arm: further arms from an `elif` on, or what ends them
    abbrev pub rest_at : ℕ → (Arg → ℕ → Read (Arms × Otherwise)) → Piece → ℕ → Read (Arms × Otherwise)
    rest_at at arms (pieces.Elif arg) start = arms arg start
    rest_at at arms piece start = else_at at tags.If piece start >>= λ otherwise. Ok ((last, otherwise.0), otherwise.1)

    -- The arms of an `if` and its `else`, from the arm on whose tag stands at `place`, with its argument. `fuel` is any
    -- number from the number of bytes on that follow; where none follows, the `if` isn't closed.
    unfoldable pub arms_at : ℕ → ℕ → ℕ → Arg → ℕ → Read (Arms × Otherwise)
    arms_at at zero place arg start = Err (Unclosed at)
    arms_at at (suc fuel) place arg start = do
      block ← nodes start
      turn ← turn_at (going_on at tags.If) block.1
      rest ← rest_at at (arms_at at fuel block.1) turn.0 turn.1
      Ok ((arm place arg block.0 rest.0.0, rest.0.1), rest.1)

  -- ---- nodes, where `nodes` reads what stands in blocks with so many levels left

  module _ (nodes : ℕ → Nodes) where
    -- a tag with one block
    abbrev pub single_at : ℕ → ℕ → TagName → (Items → Item) → ℕ → Read Item
    single_at levels at name make start = do
      inner ← deeper nodes at levels
      block ← last_block inner at name start
      Ok (make block.0, block.1)

    -- the node at a place that begins with such a piece; `start` is the place behind the piece
    abbrev pub node_from : ℕ → ℕ → ℕ → Piece → ℕ → Read Item
    node_from fuel levels at (pieces.Plain text) start = Ok (Plain text, start)
    node_from fuel levels at (pieces.Var arg marks) start = Ok (Var at arg marks, start)
    node_from fuel levels at (pieces.Call arg) start = Ok (Call at arg, start)
    node_from fuel levels at (pieces.If arg) start = do
      inner ← deeper nodes at levels
      arms ← arms_at inner at fuel at arg start
      Ok (If arms.0.0 arms.0.1, arms.1)
    node_from fuel levels at (pieces.Unless arg) start = single_at levels at tags.Unless (Unless at arg) start
    node_from fuel levels at (pieces.In arg reverse skip) start = do
      inner ← deeper nodes at levels
      blocks ← loop_at inner at start
      Ok (Loop at arg reverse skip blocks.0.0 blocks.0.1, blocks.1)
    node_from fuel levels at (pieces.With arg) start = single_at levels at tags.With (With at arg) start
    node_from fuel levels at (pieces.Let bounds) start = single_at levels at tags.Let (Let at bounds) start
    node_from fuel levels at pieces.Comment start = single_at levels at tags.Comment (Comment at) start
    node_from fuel levels at piece start = Err (Stray at)

    -- the nodes from a part on
    abbrev pub nodes_from : ℕ → ℕ → ℕ → Option SourcePart → Read Items
    nodes_from fuel levels at None = Ok (none, at)
    nodes_from fuel levels at (Some part) = if ends_block part.kind then Ok (none, at) else do
      piece ← said at part.kind
      node ← node_from fuel levels at piece part.end
      rest ← nodes levels node.1
      Ok (more node.0 rest.0, rest.1)

  -- The nodes from a place on, up to a part that ends a block or to the end of the source, where so many blocks may stand
  -- inside one another. `fuel` is any number from the number of bytes on that follow.
  unfoldable pub nodes_at : ℕ → ℕ → Nodes
  nodes_at zero levels at = Ok (none, at)
  nodes_at (suc fuel) levels at = next_part source at >>= nodes_from (nodes_at fuel) fuel levels at

  -- ---- the whole source

  -- nodes that reach to the end of the source
  abbrev pub whole : Items × ℕ → Answer Items
  whole nodes = if nat_lt nodes.1 (length source) then Err (Stray nodes.1) else Ok nodes.0

-- the template that all of a source is, or its first refusal; `fuel` is any number from the source's length on
unfoldable pub template_at : ℕ → List ℕ → Answer Items
template_at fuel source = if nat_lt MOST_SOURCE (length source) then Err (TooLarge MOST_SOURCE) else nodes_at source fuel 64 0 >>= whole source

abbrev pub template : List ℕ → Answer Items
template source = template_at (length source) source

-- The tree that this reads from a text is the one that the grammar says, and it reads each that the grammar says.
abbrev pub ReadsTrees : Type 0
ReadsTrees = (source : List ℕ) (fuel : ℕ) (tree : Items) → IsUtf8 source → length source ≤ fuel → (template_at fuel source ≡ Ok tree) ↔ Reads source tree

-- And so the first refusal, which is never want of memory.
abbrev pub ReadsRefusals : Type 0
ReadsRefusals = (source : List ℕ) (fuel : ℕ) (refusal : DtmlRefusal) → IsUtf8 source → length source ≤ fuel
    → (template_at fuel source ≡ Err refusal) ↔ (Refuses source refusal × (refusal ≡ Memory → ⊥))
