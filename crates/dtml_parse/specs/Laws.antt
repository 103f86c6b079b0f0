-- What holds of every source.
use Rattle.std.specs.Prelude.{◌≡◌, List, ℕ}
use Rattle.dtml_lex.specs.declared.refusal.DtmlRefusal.{DtmlRefusal}
use Rattle.dtml_lex.specs.declared.refusal.DtmlRefusal.TheVariants.{Memory}
use Rattle.dtml_parse.specs.Trees.{Items}
use Rattle.dtml_parse.specs.Grammar.{Reads}
use Rattle.dtml_parse.specs.Refusals.{Refuses}

-- a source is at most one template
abbrev pub OneTree : Type 0
OneTree = (source : List ℕ) (tree other : Items) → Reads source tree → Reads source other → tree ≡ other

-- a source that has a refusal is no template
abbrev pub RefusedIsNoTree : Type 0
RefusedIsNoTree = (source : List ℕ) (tree : Items) (refusal : DtmlRefusal) → (refusal ≡ Memory → ⊥) → Refuses source refusal → Reads source tree → ⊥

-- a source has at most one refusal
abbrev pub OneRefusal : Type 0
OneRefusal = (source : List ℕ) (refusal other : DtmlRefusal) → (refusal ≡ Memory → ⊥) → (other ≡ Memory → ⊥) → Refuses source refusal → Refuses source other → refusal ≡ other
