-- What a command did is what its words ask for.
use Rattle.std.proofs.Common.{◌≡◌, ◌∙◌, ◌⊎◌, List, ℕ, [], Option, Some, None, Result, Ok, Err, inl, inr, refl, sym}
use Rattle.std.specs.Prelude.{IfErr, OnOk}
use Rattle.zope.specs.declared.refusal.Refusal.{Refusal}
use Rattle.zope.specs.Causes.{Cause, CauseOf, Did, DidAs}
use Rattle.zope.specs.Outside.{OutsideView}
use Rattle.zope.specs.Words.{IsCommand, IsNamed, named_in}
use Rattle.words.specs.Asking.{Asked, asked_of}

pub did_as : {T E : Type 0} (words : List (List ℕ)) (asked : Asked) (old new : OutsideView) (r : Result T E) → asked_of words ≡ Some asked → OnOk r (DidAs asked old new) → OnOk r (Did words old new)
did_as words asked old new (Ok x) is did = (asked, is, did)
did_as words asked old new (Err e) is did = tt

pub caused_as : {T : Type 0} (words : List (List ℕ)) (asked : Asked) (old new : OutsideView) (r : Result T Refusal) → asked_of words ≡ Some asked → IfErr r (CauseOf asked old new) → IfErr r (Cause words old new)
caused_as words asked old new (Ok x) is cause = tt
caused_as words asked old new (Err e) is cause = inr (asked, is, cause)

-- words that ask for nothing are no command
pub no_command : (words : List (List ℕ)) → asked_of words ≡ None → IsCommand words → ⊥
no_command words none (asked, is) = (let both = sym none ∙ is in cc)

-- each list of words has a name for a refusal, or is no command
pub some_name : (words : List (List ℕ)) (e : Refusal) → (name : List ℕ) × (IsNamed words e name ⊎ (IsCommand words → ⊥))
some_name words e = go (asked_of words) refl
  where
    go : (asked : Option Asked) → asked_of words ≡ asked → (name : List ℕ) × (IsNamed words e name ⊎ (IsCommand words → ⊥))
    go None none = ([], inr (no_command words none))
    go (Some a) asks = (named_in a e, inl (a, asks, refl))
