-- Which tree a source is. A node, a block or the like stands from one place of the source up to another; so many
-- blocks may still stand inside one another there.
--
--   template   a block, from the start to the end
--   block      any number of nodes
--   node       plain text, an entity, `var`, `call`, or one of
--              <dtml-if ARG> block (<dtml-elif ARG> block)* (<dtml-else> block)? </dtml-if>
--              <dtml-in ARG ..> block (<dtml-else> block)? </dtml-in>
--              <dtml-unless ARG> block </dtml-unless>, and so `with`, `let` and `comment`
--
-- Zope Book, appendix "DTML Reference".
use Rattle.std.specs.Prelude.{◌≡◌, ℕ, suc, ◌≤◌, List, length}
use Rattle.zbase.specs.declared.limits.TheConstants.{MOST_SOURCE}
use Rattle.dtml_lex.specs.declared.part.TagName.{TagName}
use Rattle.dtml_lex.specs.declared.part.TagName.TheVariants as tags
use Rattle.dtml_lex.specs.declared.part.SourcePart.{SourcePart}
use Rattle.dtml_lex.specs.Source.{IsPartAt}
use Rattle.dtml_parse.specs.Trees.{Arg, Item, Items, Arms, Otherwise, Plain, Var, Call, If, Unless, Loop, With, Let, Comment, none, more, last, arm, absent, present}
use Rattle.dtml_parse.specs.Pieces as pieces
use Rattle.dtml_parse.specs.Pieces.{Piece, IsPiece}

-- the part from one place up to another says that
abbrev pub Stands : List ℕ → ℕ → Piece → ℕ → Type 0
Stands source at piece to = (part : SourcePart) × IsPartAt source at part × IsPiece part.kind piece × (to ≡ part.end)

-- an opening tag, something, and its closing tag
abbrev pub Encloses : List ℕ → Piece → TagName → (ℕ → ℕ → Type 0) → ℕ → ℕ → Type 0
Encloses source opening name Inner at to = (first : ℕ) × (behind : ℕ) × Stands source at opening first × Inner first behind × Stands source behind (pieces.Close name) to

-- something that has one level less
abbrev pub Within : ℕ → (ℕ → Type 0) → Type 0
Within levels Inner = (inner : ℕ) × (levels ≡ suc inner) × Inner inner

-- an `if` has an arm
abbrev pub HasArm : Arms → Type 0
HasArm last = ⊥
HasArm (arm place arg block rest) = Unit {0}

abbrev mutual
  pub IsItem : List ℕ → Item → ℕ → ℕ → ℕ → Type 0
  IsItem source (Plain text) levels at to = Stands source at (pieces.Plain text) to
  IsItem source (Var place arg marks) levels at to = (place ≡ at) × Stands source at (pieces.Var arg marks) to
  IsItem source (Call place arg) levels at to = (place ≡ at) × Stands source at (pieces.Call arg) to
  IsItem source (If arms otherwise) levels at to = HasArm arms × Within levels (λ inner.
      (middle : ℕ) × (behind : ℕ) × AreArms source arms inner pieces.If at middle × IsElse source otherwise inner middle behind × Stands source behind (pieces.Close tags.If) to)
  IsItem source (Unless place arg block) levels at to = (place ≡ at) × Within levels (λ inner. Encloses source (pieces.Unless arg) tags.Unless (IsBlock source block inner) at to)
  IsItem source (Loop place arg reverse skip block otherwise) levels at to = (place ≡ at) × Within levels (λ inner.
      Encloses source (pieces.In arg reverse skip) tags.In (λ first behind. (middle : ℕ) × IsBlock source block inner first middle × IsElse source otherwise inner middle behind) at to)
  IsItem source (With place arg block) levels at to = (place ≡ at) × Within levels (λ inner. Encloses source (pieces.With arg) tags.With (IsBlock source block inner) at to)
  IsItem source (Let place bounds block) levels at to = (place ≡ at) × Within levels (λ inner. Encloses source (pieces.Let bounds) tags.Let (IsBlock source block inner) at to)
  IsItem source (Comment place block) levels at to = (place ≡ at) × Within levels (λ inner. Encloses source pieces.Comment tags.Comment (IsBlock source block inner) at to)

  pub IsBlock : List ℕ → Items → ℕ → ℕ → ℕ → Type 0
  IsBlock source none levels at to = at ≡ to
  IsBlock source (more item rest) levels at to = (middle : ℕ) × IsItem source item levels at middle × IsBlock source rest levels middle to

  -- arms, the first of which begins with such a tag, and each other with an `elif`
  pub AreArms : List ℕ → Arms → ℕ → (Arg → Piece) → ℕ → ℕ → Type 0
  AreArms source last levels head at to = at ≡ to
  AreArms source (arm place arg block rest) levels head at to = (place ≡ at) × (first : ℕ) × (behind : ℕ)
      × Stands source at (head arg) first × IsBlock source block levels first behind × AreArms source rest levels pieces.Elif behind to

  pub IsElse : List ℕ → Otherwise → ℕ → ℕ → ℕ → Type 0
  IsElse source absent levels at to = at ≡ to
  IsElse source (present block) levels at to = (first : ℕ) × Stands source at pieces.Else first × IsBlock source block levels first to

-- the template that all of a source is
abbrev pub Reads : List ℕ → Items → Type 0
Reads source tree = (length source ≤ MOST_SOURCE) × IsBlock source tree 64 0 (length source)
