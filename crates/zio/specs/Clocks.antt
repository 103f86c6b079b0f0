-- What a clock tells: the moments that it is going to answer.
use Rattle.std.specs.Prelude.{◌≡◌, ℕ, ℤ, pos, Bool, nat_lt, List, [], ◌∷◌, drop, Option, IfOk, IfSome, Some, Result}

-- whole seconds since 1970-01-01 in UTC, and nanoseconds
abbrev pub Tick : Type 0
Tick = ℤ × ℕ

-- its nanoseconds are less than a second
abbrev pub is_tick : Tick → Bool
is_tick tick = nat_lt tick.1 1000000000

-- a clock that has told all of its moments tells the first of 1970
abbrev pub next_tick : List Tick → Tick
next_tick [] = (pos 0, 0)
next_tick (tick ∷ ticks) = tick

-- at Ok the next moment, where the clock tells, which is used up
abbrev pub GivesTick : {E : Type 0} → Option (List Tick) → Option (List Tick) → Result Tick E → Type 0
GivesTick old new result = IfSome old (λ ticks. IfOk result (λ tick. (tick ≡ next_tick ticks) × (new ≡ Some (drop 1 ticks))))
