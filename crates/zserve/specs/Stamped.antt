-- The stamps of a run, by what its clock answered.
use Rattle.std.specs.Prelude.{◌≡◌, ◌⊎◌, ℕ, List, [], ◌∷◌, drop, Option, Some, IfSome}
use Rattle.zbase.specs.Faults.{Counter, Rose}
use Rattle.zio.specs.Clocks.{Tick, next_tick}
use Rattle.stamp.specs.Stamps.{IsOutOfRange, IsStamp}

-- the stamp of a moment, 0 where it has none
abbrev pub IsStampAt : Tick → ℕ → Type 0
IsStampAt tick t = IsStamp tick.0 tick.1 t ⊎ (IsOutOfRange tick.0 tick.1 × (t ≡ 0))

-- the clock answered this moment, where it tells its moments, or failed, and then the stamp is 0
abbrev pub Stamps : Option (List Tick) → Counter → ℕ → Option (List Tick) → Counter → Type 0
Stamps ticks counter t left now =
    ((tick : Tick) × IsStampAt tick t × IfSome ticks (λ all. (tick ≡ next_tick all) × (left ≡ Some (drop 1 all))))
    ⊎ ((t ≡ 0) × Rose counter now × (left ≡ ticks))

-- one after another
abbrev pub AreStamps : Option (List Tick) → Counter → List ℕ → Option (List Tick) → Counter → Type 0
AreStamps ticks counter [] left now = (left ≡ ticks) × (now ≡ counter)
AreStamps ticks counter (t ∷ ts) left now = (ticks' : Option (List Tick)) × (counter' : Counter) × Stamps ticks counter t ticks' counter' × AreStamps ticks' counter' ts left now
