-- Which line of a text that is no schedule is the bad one.
--
-- A bad line is named by its number. The first line is 1, and a `request` line with its bytes is one line. Input
-- that ends early is bad at the line in which it ends, or at the next number where a whole line came last. Bytes
-- behind `end` are bad at the next number.
use Rattle.std.specs.Prelude.{◌≡◌, ◌≢◌, ◌⊎◌, ℕ, ◌+◌, List, [], ◌++◌, length, flat_map}
use Rattle.std.specs.List.{AllByRecursion}
use Rattle.schedule.specs.declared.item.Item2.{Item2}
use Rattle.schedule.specs.Items.{item_text, first_line, HasLine}

-- an item begins here, with its line
abbrev pub BeginsItem : List ℕ → Type 0
BeginsItem bytes = (item : Item2) × (rest : List ℕ) × HasLine item × (bytes ≡ item_text item ++ rest)

-- neither an item nor the end begins here
pub record IsBadLine (bytes : List ℕ) : Type 0 where
  pub no_item : BeginsItem bytes → ⊥
  pub no_end : (rest : List ℕ) → bytes ≢ item_text Item2.End ++ rest

-- bytes stand behind the end
pub record GoesOn (bytes : List ℕ) : Type 0 where
  pub more : List ℕ
  pub text : bytes ≡ item_text Item2.End ++ more
  pub some : more ≢ []

-- good lines, and what stands behind them
pub record GoodLines (text : List ℕ) (items : List Item2) (rest : List ℕ) : Type 0 where
  pub lines : AllByRecursion HasLine items
  pub text_is : text ≡ first_line ++ flat_map item_text items ++ rest

-- the first line isn't the one of schedules
abbrev pub HasOtherFirstLine : List ℕ → Type 0
HasOtherFirstLine text = (rest : List ℕ) → text ≢ first_line ++ rest

-- the line of that number is the first bad one
abbrev pub IsBadAt : List ℕ → ℕ → Type 0
IsBadAt text n = ((n ≡ 1) × HasOtherFirstLine text)
    ⊎ ((items : List Item2) × (rest : List ℕ) × GoodLines text items rest × (((n ≡ length items + 2) × IsBadLine rest) ⊎ ((n ≡ length items + 3) × GoesOn rest)))
