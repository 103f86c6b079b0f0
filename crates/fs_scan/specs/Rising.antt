-- Records whose places rise.
use Rattle.std.specs.Prelude.{ℕ, ◌+◌, ◌≤◌, List, [], ◌∷◌}
use Rattle.zbase.specs.declared.ids.Row.{Row}

-- places rise, from n on and below end
abbrev pub RiseWithin : ℕ → ℕ → List Row → Type 0
RiseWithin n end [] = n ≤ end
RiseWithin n end (row ∷ rs) = (n ≤ row.place) × RiseWithin (row.place + 1) end rs
