-- What an undo makes of a history.
--
-- ZODB Programming Guide: undo.
use Rattle.std.specs.Prelude.{ℕ, ◌≡◌, ◌<◌, ◌==◌, Bool, true, List, Option, Some, Ok, Err, if◌then◌else◌}
use Rattle.std.specs.List.{AllByRecursion, list_any}
use Rattle.zbase.specs.History.{Transaction, History, added}
use Rattle.zbase.specs.Query.{Cause, run}
use Rattle.zbase.specs.Values.{before, transaction, value}
use Rattle.evaluator.specs.declared.ask.Ask.{Ask}
use Rattle.evaluator.specs.declared.draft.Draft.{Draft}
use Rattle.evaluator.specs.declared.fact.Fact.{Fact}
use Rattle.evaluator.specs.declared.fact.Part.{Part}
use Rattle.evaluator.specs.Facts.{fact, parts_of}
use Rattle.evaluator.specs.Settle.{settle}
use Rattle.fs_undo.specs.Undo.{Changed, undo}

-- what is known of a whole history
abbrev pub in_history : History → Ask → Option Fact
in_history h ask = Some (fact h ask)

-- the transaction has a part of the object
abbrev pub has_part : ℕ → List Part → Bool
has_part o parts = list_any (λ p. p.oid == o) parts

-- What stands once the change that undoes t stands as the transaction s: each object of t has the value that it had before t,
-- and every other one what it had.
abbrev pub IsPutBack : History → ℕ → ℕ → Draft → List Part → Type 0
IsPutBack h t s d parts = (o : ℕ) → value (added h (settle h d s)) o ≡ (if has_part o parts then value (before h t) o else value h o)

-- each object still has the value that the transaction gave it
abbrev pub AreUnchanged : History → List Part → Type 0
AreUnchanged h parts = AllByRecursion (λ p. value h p.oid ≡ p.after) parts

pub record Undone (h : History) (t s : ℕ) (d : Draft) : Type 0 where
  pub x : Transaction
  pub is : transaction h t ≡ Some x
  pub above : h.floor < t
  pub unchanged : AreUnchanged h (parts_of h x)
  pub back : IsPutBack h t s d (parts_of h x)

abbrev pub UndoneIsPutBack : Type 0
UndoneIsPutBack = (h : History) (t s : ℕ) (d : Draft) → run (in_history h) (undo t) ≡ Ok d.entries → Undone h t s d

-- the object is one of the transaction's, and has another value than that one gave it
pub record HasChanged (h : History) (t o : ℕ) : Type 0 where
  pub x : Transaction
  pub is : transaction h t ≡ Some x
  pub has : has_part o (parts_of h x) ≡ true
  pub changed : AreUnchanged h (parts_of h x) → ⊥

abbrev pub ChangedIsRefused : Type 0
ChangedIsRefused = (h : History) (t o : ℕ) → run (in_history h) (undo t) ≡ Err (Cause (Changed o)) → HasChanged h t o
