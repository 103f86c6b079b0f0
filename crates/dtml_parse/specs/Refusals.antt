-- Which refusal comes first in a source.
use Rattle.std.specs.Prelude.{◌≡◌, ◌⊎◌, ℕ, zero, suc, ◌<◌, ◌≤◌, Bool, true, false, not, ◌&&◌, List, length, drop, Option, Some, None}
use Rattle.zbase.specs.declared.limits.TheConstants.{MOST_SOURCE}
use Rattle.dtml_lex.specs.declared.part.TagName.{TagName}
use Rattle.dtml_lex.specs.declared.part.TagName.TheVariants as tags
use Rattle.dtml_lex.specs.declared.part.PartKind.{PartKind}
use Rattle.dtml_lex.specs.declared.part.PartKind.TheVariants as kinds
use Rattle.dtml_lex.specs.declared.part.SourcePart.{SourcePart}
use Rattle.dtml_lex.specs.declared.refusal.DtmlRefusal.{DtmlRefusal}
use Rattle.dtml_lex.specs.declared.refusal.DtmlRefusal.TheVariants as refusals
use Rattle.dtml_lex.specs.Source.{IsPartAt}
use Rattle.dtml_lex.specs.Reading.{part_at}
use Rattle.dtml_parse.specs.Trees.{Arg, Items, Arms, last}
use Rattle.dtml_parse.specs.Pieces as pieces
use Rattle.dtml_parse.specs.Pieces.{Piece, is_lawful, MeansNothing}
use Rattle.dtml_parse.specs.Grammar.{Stands, HasArm, IsBlock, AreArms}

-- Inside which tag a block stands: the tag's place and name, and whether an `else` may follow the block.
pub record Open : Type 0 where
  pub at : ℕ
  pub name : TagName
  pub goes_on : Bool

abbrev pub is_tag : TagName → TagName → Bool
is_tag tags.Var tags.Var = true
is_tag tags.Call tags.Call = true
is_tag tags.If tags.If = true
is_tag tags.Elif tags.Elif = true
is_tag tags.Else tags.Else = true
is_tag tags.Unless tags.Unless = true
is_tag tags.In tags.In = true
is_tag tags.With tags.With = true
is_tag tags.Let tags.Let = true
is_tag tags.Comment tags.Comment = true
is_tag _ _ = false

-- A closing tag, `elif` or `else` that doesn't belong to the innermost open tag.
abbrev pub strays : Option Open → PartKind → Bool
strays None (kinds.Closing name attributes) = true
strays None (kinds.Opening tags.Elif attributes) = true
strays None (kinds.Opening tags.Else attributes) = true
strays (Some outer) (kinds.Closing name attributes) = not (is_tag name outer.name)
strays (Some outer) (kinds.Opening tags.Elif attributes) = not (outer.goes_on && is_tag outer.name tags.If)
strays (Some outer) (kinds.Opening tags.Else attributes) = not outer.goes_on
strays outer kind = false

-- whether a tag has a block
abbrev pub has_block : Piece → Bool
has_block (pieces.If arg) = true
has_block (pieces.Unless arg) = true
has_block (pieces.In arg reverse skip) = true
has_block (pieces.With arg) = true
has_block (pieces.Let bounds) = true
has_block pieces.Comment = true
has_block _ = false

-- the name of a tag that has one block alone
abbrev pub single_tag : Piece → Option TagName
single_tag (pieces.Unless arg) = Some tags.Unless
single_tag (pieces.With arg) = Some tags.With
single_tag (pieces.Let bounds) = Some tags.Let
single_tag pieces.Comment = Some tags.Comment
single_tag _ = None

-- the tag of an arm behind such arms
abbrev pub arm_tag : Arms → Arg → Piece
arm_tag last = pieces.If
arm_tag _ = pieces.Elif

-- where the innermost open tag stands
abbrev pub IsOpenAt : Option Open → ℕ → Type 0
IsOpenAt None place = ⊥
IsOpenAt (Some outer) place = place ≡ outer.at

-- The part at a place of a source is refused, inside such a tag and where so many blocks may still stand inside one
-- another. For one part the refusal that stands first here is given.
abbrev pub IsRefused : List ℕ → ℕ → Option Open → ℕ → DtmlRefusal → Type 0
IsRefused source levels outer at refusals.Memory = Unit {0}
IsRefused source levels outer at (refusals.BadTag place) = (place ≡ at) × (at < length source) × (part_at (drop at source) ≡ None)
IsRefused source levels outer at (refusals.Unclosed place) = IsOpenAt outer place × (at ≡ length source)
IsRefused source levels outer at (refusals.Stray place) = (place ≡ at) × (part : SourcePart) × IsPartAt source at part × (strays outer part.kind ≡ true)
IsRefused source levels outer at (refusals.BadAttribute place) = (place ≡ at) × (part : SourcePart) × IsPartAt source at part × (strays outer part.kind ≡ false)
    × (is_lawful part.kind ≡ false)
IsRefused source levels outer at (refusals.BadExpression place) = (place ≡ at) × (part : SourcePart) × IsPartAt source at part × (strays outer part.kind ≡ false)
    × (is_lawful part.kind ≡ true) × MeansNothing part.kind
IsRefused source levels outer at (refusals.TooDeep place) = (place ≡ at) × (levels ≡ 0) × (piece : Piece) × (to : ℕ) × Stands source at piece to × (has_block piece ≡ true)
IsRefused source levels outer at (refusals.TooLarge most) = ⊥

-- Behind the opening tag at a place, and perhaps finished blocks of it, a further block of it begins at another.
pub data Enters (source : List ℕ) (levels at : ℕ) : Open → ℕ → Type 0 where
  only_block : {to : ℕ} (piece : Piece) (name : TagName) → single_tag piece ≡ Some name → Stands source at piece to
      → Enters source levels at (record { at = at; name = name; goes_on = false }) to
  loop_block : {to : ℕ} (arg : Arg) (reverse skip : Bool) → Stands source at (pieces.In arg reverse skip) to
      → Enters source levels at (record { at = at; name = tags.In; goes_on = true }) to
  loop_else : {to : ℕ} (arg : Arg) (reverse skip : Bool) (block : Items) (start behind : ℕ) → Stands source at (pieces.In arg reverse skip) start → IsBlock source block levels start behind
      → Stands source behind pieces.Else to → Enters source levels at (record { at = at; name = tags.In; goes_on = false }) to
  arm_block : {to : ℕ} (arms : Arms) (arg : Arg) (behind : ℕ) → AreArms source arms levels pieces.If at behind → Stands source behind (arm_tag arms arg) to
      → Enters source levels at (record { at = at; name = tags.If; goes_on = true }) to
  if_else : {to : ℕ} (arms : Arms) (behind : ℕ) → HasArm arms → AreArms source arms levels pieces.If at behind → Stands source behind pieces.Else to
      → Enters source levels at (record { at = at; name = tags.If; goes_on = false }) to

-- nodes from one place up to another, and something there
abbrev pub Behind : List ℕ → ℕ → ℕ → (ℕ → Type 0) → Type 0
Behind source levels at Rest = (block : Items) × (to : ℕ) × IsBlock source block levels at to × Rest to

-- What stands behind the nodes of a block is refused itself, or it opens a tag in a block of which the refusal is.
abbrev pub IsNext : ℕ → List ℕ → Option Open → DtmlRefusal → ℕ → Type 0
IsNext zero source outer refusal at = IsRefused source zero outer at refusal
IsNext (suc levels) source outer refusal at = IsRefused source (suc levels) outer at refusal
    ⊎ ((inner : Open) × (start : ℕ) × Enters source levels at inner start × Behind source levels start (IsNext levels source (Some inner) refusal))

-- The first refusal of a block that begins at a place, inside such a tag.
abbrev pub IsFirst : List ℕ → ℕ → Option Open → ℕ → DtmlRefusal → Type 0
IsFirst source levels outer at refusal = Behind source levels at (IsNext levels source outer refusal)

-- The first refusal of a source, from the left; want of memory may come in place of any answer.
abbrev pub Refuses : List ℕ → DtmlRefusal → Type 0
Refuses source refusals.Memory = Unit {0}
Refuses source (refusals.TooLarge most) = (most ≡ MOST_SOURCE) × (MOST_SOURCE < length source)
Refuses source refusal = (length source ≤ MOST_SOURCE) × IsFirst source 64 None 0 refusal
