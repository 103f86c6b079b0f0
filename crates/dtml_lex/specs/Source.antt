-- The parts of a whole source.
use Rattle.std.specs.Prelude.{◌≡◌, ℕ, ◌-◌, ◌<◌, List, [], ◌∷◌, length, take, drop, Some, None}
use Rattle.std.specs.Str.{IsCharBoundary}
use Rattle.dtml_lex.specs.declared.part.SourcePart.{SourcePart}
use Rattle.dtml_lex.specs.declared.refusal.DtmlRefusal.{DtmlRefusal}
use Rattle.dtml_lex.specs.declared.refusal.DtmlRefusal.TheVariants.{Memory, BadTag}
use Rattle.dtml_lex.specs.Spelling.{IsPart}
use Rattle.dtml_lex.specs.Reading.{part_at}

-- the text of a part
abbrev pub part_text : List ℕ → SourcePart → List ℕ
part_text source part = take (part.end - part.start) (drop part.start source)

-- its text is spelled as its kind says
abbrev pub IsSpelled : List ℕ → SourcePart → Type 0
IsSpelled source part = IsPart part.kind (part_text source part) (drop part.end source)

-- the part that stands at a place of a source
pub record IsPartAt (source : List ℕ) (at : ℕ) (part : SourcePart) : Type 0 where
  pub start : part.start ≡ at
  pub forward : at < part.end
  pub boundary : IsCharBoundary source part.end
  pub kind : part_at (drop at source) ≡ Some (part.kind, drop part.end source)

-- a tag that doesn't fit its form stands at a place, or memory ran out
abbrev pub Refuses : List ℕ → ℕ → DtmlRefusal → Type 0
Refuses source at Memory = Unit {0}
Refuses source at (BadTag place) = (place ≡ at) × (at < length source) × (part_at (drop at source) ≡ None)
Refuses source at _ = ⊥

-- parts that stand one behind another, from a place up to the end of the source
abbrev pub AreParts : List ℕ → ℕ → List SourcePart → Type 0
AreParts source at [] = at ≡ length source
AreParts source at (part ∷ more) = IsPartAt source at part × AreParts source part.end more
