-- What is kept of a message between its evaluations: what each object's fact came to, the bytes of all facts, and how far
-- its evaluation came.
use Rattle.std.specs.Prelude.{ℕ, ◌≡◌, ◌==◌, ◌^◌, ◌-◌, min, List, ◌++◌, length, sum_by, Some, None, option_map, Result, Ok, Err, if◌then◌else◌}
use Rattle.zbase.specs.History.{Value}
use Rattle.zobject.specs.declared.object.Object.{Object}
use Rattle.zknown.specs.declared.kept.Kept.{Kept}
use Rattle.zknown.specs.declared.kept.Kept.TheVariants as kept
use Rattle.zknown.specs.Seen.{last_added, objects}
use Rattle.zcodec.specs.Reading.{read}
use Rattle.evaluator.specs.declared.ask.Ask.{Ask}
use Rattle.evaluator.specs.declared.fact.Fact.{Fact}
use Rattle.evaluator.specs.Facts.{look}
use Rattle.evaluator.specs.Questions.{size_of_fact}
use Rattle.http_in.specs.declared.message.Message.{Message}
use Rattle.manage.specs.Changing.{KeepRules}
use Rattle.publisher.specs.declared.learned.Learned.{Learned}
use Rattle.publisher.specs.declared.state.SiteState.{SiteState}
use Rattle.publisher.specs.Underway.{IsProgressOf}

abbrev pub kept_as : Result Object ℕ → Kept
kept_as (Ok object) = kept.Here object
kept_as (Err at) = kept.Unreadable

-- what the value of an object comes to
unfoldable pub kept_value : Value → Kept
kept_value None = kept.Absent
kept_value (Some bytes) = kept_as (read bytes)

-- what an object's fact comes to
abbrev pub kept_fact : Fact → Kept
kept_fact (Fact.Object o value serial) = kept_value value
kept_fact (Fact.Transaction t parts) = kept.Absent
kept_fact (Fact.Log rows) = kept.Absent

-- of each object its first fact is kept, and nothing of others
abbrev pub Knows : List (ℕ × Kept) → List Fact → Type 0
Knows rows facts = (o : ℕ) → last_added rows o ≡ option_map kept_fact (look facts (Ask.Object o))

-- the rows say of the object what its value comes to, and of others what they said
abbrev pub IsAdded : ℕ → Value → List (ℕ × Kept) → List (ℕ × Kept) → Type 0
IsAdded oid value old new = (o : ℕ) → last_added new o ≡ (if oid == o then Some (kept_value value) else last_added old o)

-- they say what they said
abbrev pub IsSame : List (ℕ × Kept) → List (ℕ × Kept) → Type 0
IsSame old new = (o : ℕ) → last_added new o ≡ last_added old o

-- a number that stays at the greatest one of 64 bits
abbrev pub saturated : ℕ → ℕ
saturated n = min n (2 ^ 64 - 1)

-- all of these facts were taken over
pub record Holds (learned : Learned) (facts : List Fact) : Type 0 where
  pub knows : Knows learned.known facts
  -- each object that was read keeps the rules
  pub rules : KeepRules (objects learned.known)
  pub taken : learned.taken ≡ length facts
  pub bytes : learned.bytes ≡ saturated (sum_by size_of_fact facts)

-- the first of these facts were
pub record HoldsFirst (learned : Learned) (facts : List Fact) : Type 0 where
  pub front : List Fact
  pub rest : List Fact
  pub parts : facts ≡ front ++ rest
  pub holds : Holds learned front

-- what is kept was found out of these facts, or of the first of them, and of this message
pub record Fits (state : SiteState) (facts : List Fact) (message : Message) : Type 0 where
  pub learned : HoldsFirst state.learned facts
  pub progress : IsProgressOf (objects state.learned.known) (look facts) state.progress message
