-- What words ask for, by what clap makes of them.
use Rattle.std.proofs.Common.{ℕ, arith, ◌≡◌, ◌∙◌, ap, refl, sym, Bool, true, false, ◌==◌, List, [], ◌∷◌, length, Option, None, inl, inr}
use Rattle.std.specs.Prelude.{if◌then◌else◌}
use Rattle.std.proofs.lemmas.Bool.Decides.{nat_tests}
use Rattle.clap.proofs.OnLiterals.{clap_on_literals}
use Rattle.clap.specs.Words.{App, Text, HasMatchesOf, fault_of, kind_of, is_simple, is_simple_and_free, subcommand_of, subcommand_rows_of}
use Rattle.clap.specs.Kinds.{HasKind, IsAmong, Kinds}
use Rattle.clap.specs.declared.error.Error.{Error}
use Rattle.clap.specs.declared.error.kind.ErrorKind.{ErrorKind}
use Rattle.clap.specs.declared.error.kind.ErrorKind.TheVariants as kind
use Rattle.clap.specs.declared.parser.matches.ArgMatches.{ArgMatches}
use Rattle.words.specs.CommandLine.{zope}
use Rattle.words.specs.Asking.{Asked, asked_of, by_subcommand}

free : is_simple_and_free zope ≡ true
unfolding clap_on_literals
free = refl

simple : is_simple zope ≡ true
unfolding clap_on_literals
simple = refl

without_fault : (f : Kinds) (asked : Option Asked) → f ≡ [] → (if length f == 0 then asked else None) ≡ asked
without_fault f asked none = rw none refl

-- words that clap takes ask for what the subcommand asks for
pub parsed : (a : App) (words : List Text) (m : ArgMatches) → a ≡ zope → (is_simple_and_free a ≡ true → fault_of a words ≡ []) → HasMatchesOf a words m → asked_of words ≡ by_subcommand (subcommand_rows_of m)
parsed a words m is kinds has =
    let none : fault_of zope words ≡ [] = ap (λ (b : App). fault_of b words) (sym is) ∙ kinds (ap is_simple_and_free is ∙ free) in
    let rows : subcommand_of zope words ≡ subcommand_rows_of m = ap (λ (b : App). subcommand_of b words) (sym is) ∙ sym (has (ap is_simple is ∙ simple)).1 in
    without_fault (fault_of zope words) (by_subcommand (subcommand_of zope words)) none ∙ ap by_subcommand rows

with_fault : (k : ErrorKind) (f : Kinds) (asked : Option Asked) → IsAmong k f → (if length f == 0 then asked else None) ≡ None
with_fault k [] asked among = absurd among
with_fault k (x ∷ xs) asked among = go (length (x ∷ xs) == 0) refl
  where
    some : (n : ℕ) → (n == 0) ≡ true → n ≡ 0
    some n e = grind (arith, nat_tests)

    go : (b : Bool) → (length (x ∷ xs) == 0) ≡ b → (if b then asked else None) ≡ None
    go false e = refl
    go true e = let none = some (length (x ∷ xs)) e in absurd (omega (arith, none))

-- and words that it refuses ask for nothing
pub refused : (a : App) (words : List Text) (e : Error) → a ≡ zope → (is_simple_and_free a ≡ true → HasKind (fault_of a words) e) → (kind_of e ≡ kind.OutOfMemory → ⊥) → asked_of words ≡ None
refused a words e is kinds other =
    elim (kinds (ap is_simple_and_free is ∙ free)) [
      | inl memory ↦ absurd (other memory)
      | inr among ↦ ap (λ (b : App). if length (fault_of b words) == 0 then by_subcommand (subcommand_of zope words) else None) (sym is) ∙ with_fault (kind_of e) (fault_of a words) (by_subcommand (subcommand_of zope words)) among
    ]
