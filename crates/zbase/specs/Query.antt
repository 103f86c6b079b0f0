-- A question that is put together from asks.
--
-- It is done with a value, it stops with a cause, or it asks and goes on with what was answered. What it comes to
-- is a function of what is known of each ask, so that a part of an application that is defined by a question has
-- the laws of every question.
use Rattle.std.specs.Prelude.{ℕ, zero, suc, ◌≡◌, Option, Some, None, Result, Ok, Err}

-- over asks P with answers R, with causes E and values A
pub data Query (P R E A : Type 0) : Type 0 where
  Done : A → Query P R E A
  Stops : E → Query P R E A
  Asks : P → (R → Query P R E A) → Query P R E A

-- why there is no value: an ask that isn't known, or a cause
pub data Halt (P E : Type 0) : Type 0 where
  Need : P → Halt P E
  Cause : E → Halt P E

-- one question, and then another one over its value
infixl 10 ◌>>=◌
abbrev pub ◌>>=◌ : {P R E A B : Type 0} → Query P R E A → (A → Query P R E B) → Query P R E B
(Done x) >>= next = next x
(Stops cause) >>= next = Stops cause
(Asks ask go) >>= next = Asks ask (λ answer. go answer >>= next)

-- one ask, whose answer is the value
abbrev pub asked : {P R E : Type 0} → P → Query P R E R
asked ask = Asks ask (λ answer. Done answer)

-- the same question with its causes in other words
abbrev pub or_else : {P R E F A : Type 0} → (E → F) → Query P R E A → Query P R F A
or_else reword (Done x) = Done x
or_else reword (Stops cause) = Stops (reword cause)
or_else reword (Asks ask go) = Asks ask (λ answer. or_else reword (go answer))

abbrev pub go_on : {P R E A : Type 0} → P → (R → Result A (Halt P E)) → Option R → Result A (Halt P E)
go_on ask go None = Err (Need ask)
go_on ask go (Some answer) = go answer

-- what comes of it over what is known: the value or the cause, or the first ask that isn't known
abbrev pub run : {P R E A : Type 0} → (P → Option R) → Query P R E A → Result A (Halt P E)
run known (Done x) = Ok x
run known (Stops cause) = Err (Cause cause)
run known (Asks ask go) = go_on ask (λ answer. run known (go answer)) (known ask)

abbrev pub and_then : {A B F : Type 0} → Result A F → (A → Result B F) → Result B F
and_then (Ok x) next = next x
and_then (Err e) next = Err e

-- what is known first is known later too, with the same answer
abbrev pub Grows : {P R : Type 0} → (P → Option R) → (P → Option R) → Type 0
Grows {P} {R} first later = (ask : P) (answer : R) → first ask ≡ Some answer → later ask ≡ Some answer

-- a value or a cause
abbrev pub IsDecided : {P E A : Type 0} → Result A (Halt P E) → Type 0
IsDecided (Ok x) = Unit {0}
IsDecided (Err (Cause cause)) = Unit {0}
IsDecided (Err (Need ask)) = ⊥

-- at most n asks on each way through it
abbrev pub IsWithin : {P R E A : Type 0} → ℕ → Query P R E A → Type 0
IsWithin n (Done x) = Unit {0}
IsWithin n (Stops cause) = Unit {0}
IsWithin zero (Asks ask go) = ⊥
IsWithin {R = R} (suc n) (Asks ask go) = (answer : R) → IsWithin n (go answer)

-- What a refused call tells: why there is no value; nothing where it ran out of memory.
abbrev pub Told : {P E A : Type 0} → Option (Halt P E) → Result A (Halt P E) → Type 0
Told None r = Unit {0}
Told (Some halt) r = r ≡ Err halt

-- What a call answers is the run of its question: its result as a value, its refusal as what that one tells.
abbrev pub Answers : {P E X A F : Type 0} → (F → Option (Halt P E)) → (X → A) → Result X F → Result A (Halt P E) → Type 0
Answers told view (Ok x) r = r ≡ Ok (view x)
Answers told view (Err e) r = Told (told e) r
