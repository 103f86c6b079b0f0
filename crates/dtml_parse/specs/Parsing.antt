-- What the parts of the reader promise one another.
use Rattle.std.specs.Prelude.{◌≡◌, ◌⊎◌, ℕ, Bool, true, false, List, length, Option, Some, None}
use Rattle.dtml_lex.specs.declared.part.TagName.{TagName}
use Rattle.dtml_lex.specs.declared.part.TagName.TheVariants as tags
use Rattle.dtml_lex.specs.declared.part.PartKind.{PartKind}
use Rattle.dtml_lex.specs.declared.part.PartKind.TheVariants as kinds
use Rattle.dtml_lex.specs.declared.part.SourcePart.{SourcePart}
use Rattle.dtml_lex.specs.declared.refusal.DtmlRefusal.{DtmlRefusal}
use Rattle.dtml_lex.specs.declared.refusal.DtmlRefusal.TheVariants as refusals
use Rattle.dtml_lex.specs.Source.{IsPartAt}
use Rattle.dtml_parse.specs.Pieces as pieces
use Rattle.dtml_parse.specs.Pieces.{Piece, is_lawful, MeansNothing}
use Rattle.dtml_parse.specs.Grammar.{Stands}
use Rattle.dtml_parse.specs.Refusals.{Open, Enters, Behind, IsFirst}

-- `BadExpression` at that place, and only where this holds; or memory ran out
abbrev pub IsBadExpression : ℕ → Type 0 → DtmlRefusal → Type 0
IsBadExpression at Holds refusals.Memory = Unit {0}
IsBadExpression at Holds (refusals.BadExpression place) = (place ≡ at) × Holds
IsBadExpression at Holds _ = ⊥

-- a part that says nothing; or memory ran out
abbrev pub IsNoPiece : ℕ → PartKind → DtmlRefusal → Type 0
IsNoPiece at kind refusals.Memory = Unit {0}
IsNoPiece at kind (refusals.BadAttribute place) = (place ≡ at) × (is_lawful kind ≡ false)
IsNoPiece at kind (refusals.BadExpression place) = (place ≡ at) × (is_lawful kind ≡ true) × MeansNothing kind
IsNoPiece at kind _ = ⊥

-- a part that can't stand in a block, but only behind one
abbrev pub ends_block : PartKind → Bool
ends_block (kinds.Opening tags.Elif attributes) = true
ends_block (kinds.Opening tags.Else attributes) = true
ends_block (kinds.Closing name attributes) = true
ends_block _ = false

abbrev pub is_ending : Piece → Bool
is_ending (pieces.Elif arg) = true
is_ending pieces.Else = true
is_ending (pieces.Close name) = true
is_ending _ = false

-- where a block ends, by the part that stands there
abbrev pub stop_at : List ℕ → Option SourcePart → ℕ
stop_at source None = length source
stop_at source (Some part) = part.start

abbrev pub Stops : List ℕ → Option SourcePart → Type 0
Stops source None = Unit {0}
Stops source (Some part) = IsPartAt source part.start part × (ends_block part.kind ≡ true)

-- what may follow a block of `if` or `in`
abbrev pub Turns : TagName → Piece → Type 0
Turns name (pieces.Close own) = own ≡ name
Turns name (pieces.Elif arg) = name ≡ tags.If
Turns name pieces.Else = Unit {0}
Turns name _ = ⊥

-- the refusal is of a block of the tag at a place, with so many levels inside
abbrev pub IsInside : List ℕ → ℕ → ℕ → DtmlRefusal → Type 0
IsInside source levels at refusal = (inner : Open) × (start : ℕ) × Enters source levels at inner start × IsFirst source levels (Some inner) start refusal

-- the refusal is of the block of the `in` at a place, which begins at another, or of that of its `else`
abbrev pub IsOfLoop : List ℕ → ℕ → ℕ → ℕ → DtmlRefusal → Type 0
IsOfLoop source levels at start refusal = IsFirst source levels (Some (record { at = at; name = tags.In; goes_on = true })) start refusal
    ⊎ Behind source levels start (λ behind. (to : ℕ) × Stands source behind pieces.Else to × IsFirst source levels (Some (record { at = at; name = tags.In; goes_on = false })) to refusal)
