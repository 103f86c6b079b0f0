-- The text of a schedule.
use Rattle.std.specs.Prelude.{◌≡◌, ℕ, ◌<◌, ◌^◌, List, [], ◌∷◌, ◌++◌, length, flat_map, codes, decimal}
use Rattle.std.specs.List.{AllByRecursion}
use Rattle.zbase.specs.Hex.{hex16_text}
use Rattle.schedule.specs.declared.item.Item2.{Item2}
use Rattle.schedule.specs.Rows.{row, block}

abbrev pub item_text : Item2 → List ℕ
item_text (Item2.Request w bytes) = block (row (codes "request") (decimal w ∷ decimal (length bytes) ∷ [])) bytes
item_text (Item2.Step w) = row (codes "step") (decimal w ∷ [])
item_text (Item2.Clock t) = row (codes "clock") (hex16_text t ∷ [])
item_text (Item2.Stop n seed) = row (codes "stop") (decimal n ∷ decimal seed ∷ [])
item_text (Item2.Fail n seed) = row (codes "fail") (decimal n ∷ decimal seed ∷ [])
item_text (Item2.Pack t) = row (codes "pack") (hex16_text t ∷ [])
item_text Item2.End = row (codes "end") []

abbrev pub first_line : List ℕ
first_line = row (codes "zope") (codes "schedule" ∷ codes "1" ∷ [])

-- there are sixteen workers
abbrev pub workers : ℕ
workers = 16

-- Which items have a line: workers are below 16, counts of device calls begin at 1, and numbers fit 64 bits.
-- The `end` is no item of a schedule.
abbrev pub HasLine : Item2 → Type 0
HasLine (Item2.Request w bytes) = (w < workers) × (length bytes < 2 ^ 64)
HasLine (Item2.Step w) = w < workers
HasLine (Item2.Clock t) = t < 2 ^ 64
HasLine (Item2.Stop n seed) = (0 < n) × (n < 2 ^ 64) × (seed < 2 ^ 64)
HasLine (Item2.Fail n seed) = (0 < n) × (n < 2 ^ 64) × (seed < 2 ^ 64)
HasLine (Item2.Pack t) = t < 2 ^ 64
HasLine Item2.End = ⊥

-- the bytes are this schedule, from its first line to its end
pub record IsSchedule (bytes : List ℕ) (items : List Item2) : Type 0 where
  pub lines : AllByRecursion HasLine items
  pub text : bytes ≡ first_line ++ flat_map item_text items ++ item_text Item2.End
