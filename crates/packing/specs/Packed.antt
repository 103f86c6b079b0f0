-- What a pack leaves of a history.
use Rattle.std.specs.Prelude.{ℕ, ◌==◌, Bool, true, false, ◌&&◌, not, max, List, [], ◌∷◌, ◌++◌, flat_map, if◌then◌else◌}
use Rattle.std.specs.List.{list_any}
use Rattle.zbase.specs.History.{Value, Transaction, History}
use Rattle.zbase.specs.Values.{last, upto}
use Rattle.packing.specs.Reachable.{behind}

abbrev pub has_record : ℕ → List (ℕ × Value) → Bool
has_record o rs = list_any (λ (r : ℕ × Value). r.0 == o) rs

abbrev pub records_in : List Transaction → List (ℕ × Value)
records_in xs = flat_map (λ (x : Transaction). x.records) xs

-- of these records, those of kept objects that no record behind is of the same object
abbrev pub standing : (ℕ → Bool) → List (ℕ × Value) → List (ℕ × Value) → List (ℕ × Value)
standing keep [] later = []
standing keep (r ∷ rs) later = if keep r.0 && not (has_record r.0 (rs ++ later)) then r ∷ standing keep rs later else standing keep rs later

abbrev pub is_empty : {X : Type 0} → List X → Bool
is_empty [] = true
is_empty (x ∷ xs) = false

abbrev pub with_records : Transaction → List (ℕ × Value) → Transaction
with_records x rs = record { tid = x.tid; user = x.user; description = x.description; extension = x.extension; records = rs }

-- without records a transaction is left out, but for the last one
abbrev pub put_before : Transaction → List (ℕ × Value) → Bool → List Transaction → List Transaction
put_before x rs is_last xs = if is_empty rs && not is_last then xs else with_records x rs ∷ xs

-- of the transactions up to the pack stand the last record of each object that is kept
abbrev pub thinned : (ℕ → Bool) → List Transaction → List Transaction
thinned keep [] = []
thinned keep (x ∷ xs) = put_before x (standing keep x.records (records_in xs)) (is_empty xs) (thinned keep xs)

-- the history, packed at t: later transactions stand whole
abbrev pub packed : (ℕ → Bool) → History → ℕ → History
packed keep h t = record { floor = max h.floor (last (upto h t)); transactions = thinned keep (upto h t).transactions ++ behind h t }
