-- A history: the transactions of a file, from the oldest to the newest.
--
-- FileStorage format notes; ZODB Programming Guide, "Transactions and concurrency".
use Rattle.std.specs.Prelude.{ℕ, ◌≡◌, ◌<◌, List, [], ◌∷◌, ◌++◌, Option}

-- the bytes of an object, or none
abbrev pub Value : Type 0
Value = Option (List ℕ)

-- a transaction's id, its texts, and what it wrote: an object's id and its value, in the file's order
pub record Transaction : Type 0 where
  pub tid : ℕ
  pub user : List ℕ
  pub description : List ℕ
  pub extension : List ℕ
  pub records : List (ℕ × Value)

-- the greatest id of a packed transaction (0 for none), and the transactions
pub record History : Type 0 where
  pub floor : ℕ
  pub transactions : List Transaction

abbrev pub empty_history : History
empty_history = record { floor = 0; transactions = [] }

-- ids rise, from above t
abbrev pub RisesFrom : ℕ → List Transaction → Type 0
RisesFrom t [] = Unit {0}
RisesFrom t (x ∷ xs) = (t < x.tid) × RisesFrom x.tid xs

-- ids are above 0 and rise
abbrev pub IsHistory : History → Type 0
IsHistory h = RisesFrom 0 h.transactions

-- one transaction longer
abbrev pub added : History → Transaction → History
added h x = record { floor = h.floor; transactions = h.transactions ++ x ∷ [] }

-- g goes on where h ends
pub record IsPrefixOf (h g : History) : Type 0 where
  pub floor : h.floor ≡ g.floor
  pub rest : List Transaction
  pub transactions : h.transactions ++ rest ≡ g.transactions
