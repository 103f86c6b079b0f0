-- What follows of how a run ends, for every run.
use Rattle.std.proofs.Common.{◌≡◌, ◌⊎◌, ◌≤◌, ℕ, List, inl, inr, refl, arith, ◌∙◌, ap}
use Rattle.zope.specs.declared.refusal.Refusal.{Refusal}
use Rattle.zope.specs.Causes.{Cause, Did, WordsCause}
use Rattle.zope.specs.Ends.{Ends, IsStatus, status_of}
use Rattle.zope.specs.Outside.{OutsideView, told}
use Rattle.zope.specs.Words.{IsCommand}

is_command : (words : List (List ℕ)) (old new : OutsideView) → Did words old new → IsCommand words
is_command words old new did = (did.0, did.1)

of_words : (words : List (List ℕ)) (e : Refusal) → WordsCause words e → (e ≡ Refusal.Usage) ⊎ (e ≡ Refusal.Memory)
of_words words Refusal.Usage cause = inl refl
of_words words Refusal.Memory cause = inr refl
of_words words Refusal.NotLegible cause = absurd cause
of_words words (Refusal.Damaged kind place) cause = absurd cause
of_words words (Refusal.BadLine n) cause = absurd cause
of_words words Refusal.Disk cause = absurd cause
of_words words Refusal.Input cause = absurd cause
of_words words Refusal.Output cause = absurd cause
of_words words Refusal.Missing cause = absurd cause
of_words words Refusal.Exists cause = absurd cause
of_words words Refusal.InputTooLarge cause = absurd cause
of_words words (Refusal.FileTooLarge n) cause = absurd cause
of_words words (Refusal.TooLong n) cause = absurd cause
of_words words (Refusal.Unreadable oid) cause = absurd cause
of_words words Refusal.PackExists cause = absurd cause
of_words words (Refusal.Full need limit) cause = absurd cause
of_words words Refusal.MissingIndex cause = absurd cause
of_words words (Refusal.BadIndex n) cause = absurd cause
of_words words (Refusal.BadPiece piece) cause = absurd cause
of_words words Refusal.NamesSpent cause = absurd cause

-- words that name no command are refused for that alone, but for want of memory
only_usage : (words : List (List ℕ)) (old new : OutsideView) (e : Refusal) → Cause words old new e → (IsCommand words → ⊥) → (e ≡ Refusal.Usage) ⊎ (e ≡ Refusal.Memory)
only_usage words old new e (inl usage) other = of_words words e usage.0
only_usage words old new e (inr c) other = absurd (other (c.0, c.1))

-- where the words are none of the program's, the status says so, but for a fault of the sink and want of memory
pub used : (words : List (List ℕ)) (old new : OutsideView) (status : ℕ) → Ends words old new status → (IsCommand words → ⊥) → (status ≡ 2) ⊎ (status ≡ 6) ⊎ (status ≡ 7)
used words old new status (inl did) other = absurd (other (is_command words old new did.1))
used words old new status (inr (inl (e, is, comes))) other =
    elim (only_usage words old (told new comes.0 comes.1) e comes.3 other) [
      | inl usage ↦ inl (is ∙ ap status_of usage)
      | inr memory ↦ inr (inr (is ∙ ap status_of memory))
    ]
used words old new status (inr (inr (inl six))) other = inr (inl six.0)
used words old new status (inr (inr (inr seven))) other = inr (inr seven)

between : (status n : ℕ) → status ≡ n → 2 ≤ n → n ≤ 17 → IsStatus status
between status n is least most = inr (omega (arith, is, least), omega (arith, is, most))

of_refusal : (status : ℕ) (e : Refusal) → status ≡ status_of e → IsStatus status
of_refusal status Refusal.Usage is = between status 2 is (omega arith) (omega arith)
of_refusal status Refusal.NotLegible is = between status 10 is (omega arith) (omega arith)
of_refusal status (Refusal.Damaged kind place) is = between status 3 is (omega arith) (omega arith)
of_refusal status (Refusal.BadLine n) is = between status 4 is (omega arith) (omega arith)
of_refusal status Refusal.Disk is = between status 5 is (omega arith) (omega arith)
of_refusal status Refusal.Input is = between status 6 is (omega arith) (omega arith)
of_refusal status Refusal.Output is = between status 6 is (omega arith) (omega arith)
of_refusal status Refusal.Memory is = between status 7 is (omega arith) (omega arith)
of_refusal status Refusal.Missing is = between status 8 is (omega arith) (omega arith)
of_refusal status Refusal.Exists is = between status 11 is (omega arith) (omega arith)
of_refusal status Refusal.InputTooLarge is = between status 9 is (omega arith) (omega arith)
of_refusal status (Refusal.FileTooLarge n) is = between status 9 is (omega arith) (omega arith)
of_refusal status (Refusal.TooLong n) is = between status 12 is (omega arith) (omega arith)
of_refusal status (Refusal.Unreadable oid) is = between status 13 is (omega arith) (omega arith)
of_refusal status Refusal.PackExists is = between status 11 is (omega arith) (omega arith)
of_refusal status (Refusal.Full need limit) is = between status 14 is (omega arith) (omega arith)
of_refusal status Refusal.MissingIndex is = between status 8 is (omega arith) (omega arith)
of_refusal status (Refusal.BadIndex n) is = between status 15 is (omega arith) (omega arith)
of_refusal status (Refusal.BadPiece piece) is = between status 16 is (omega arith) (omega arith)
of_refusal status Refusal.NamesSpent is = between status 17 is (omega arith) (omega arith)

-- there is no other status
pub known : (words : List (List ℕ)) (old new : OutsideView) (status : ℕ) → Ends words old new status → IsStatus status
known words old new status (inl did) = inl did.0
known words old new status (inr (inl (e, is, comes))) = of_refusal status e is
known words old new status (inr (inr (inl six))) = between status 6 six.0 (omega arith) (omega arith)
known words old new status (inr (inr (inr seven))) = between status 7 seven (omega arith) (omega arith)
