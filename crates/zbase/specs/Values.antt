-- What a history says of each object, and its parts up to a transaction and before it.
--
-- ZODB Programming Guide: an object's serial is the id of the transaction that wrote it last.
use Rattle.std.specs.Prelude.{ℕ, ◌+◌, ◌==◌, List, [], ◌∷◌, map, filter, find, flat_map, max, Option, Some, None, nat_lt, nat_le, if◌then◌else◌}
use Rattle.zbase.specs.History.{Value, Transaction, History}

-- one record of an object, with the id of its transaction
pub record Revision : Type 0 where
  pub tid : ℕ
  pub oid : ℕ
  pub value : Value

abbrev pub revisions_of : Transaction → List Revision
revisions_of x = map (λ r. record { tid = x.tid; oid = r.0; value = r.1 }) x.records

abbrev pub revisions : History → List Revision
revisions h = flat_map revisions_of h.transactions

-- the second, or the first where there is no second
abbrev pub later : Option Revision → Option Revision → Option Revision
later first None = first
later first (Some r) = Some r

-- the last revision of the object
abbrev pub newest : List Revision → ℕ → Option Revision
newest [] o = None
newest (r ∷ rs) o = later (if r.oid == o then Some r else None) (newest rs o)

abbrev pub value_of : Option Revision → Value
value_of None = None
value_of (Some r) = r.value

abbrev pub serial_of : Option Revision → ℕ
serial_of None = 0
serial_of (Some r) = r.tid

-- the object's value, none where it has no record
abbrev pub value : History → ℕ → Value
value h o = value_of (newest (revisions h) o)

-- the id of the transaction with its last record, 0 where it has none
abbrev pub serial : History → ℕ → ℕ
serial h o = serial_of (newest (revisions h) o)

abbrev pub last_after : ℕ → List Transaction → ℕ
last_after t [] = t
last_after t (x ∷ xs) = last_after x.tid xs

-- the id of the last transaction, 0 where there is none
abbrev pub last : History → ℕ
last h = last_after 0 h.transactions

abbrev pub next_after : List Revision → ℕ
next_after [] = 0
next_after (r ∷ rs) = max (r.oid + 1) (next_after rs)

-- one more than the greatest oid in any record, 0 where there is none
abbrev pub next : History → ℕ
next h = next_after (revisions h)

-- the part with ids up to t
abbrev pub upto : History → ℕ → History
upto h t = record { floor = h.floor; transactions = filter (λ x. nat_le x.tid t) h.transactions }

-- the part with ids below t
abbrev pub before : History → ℕ → History
before h t = record { floor = h.floor; transactions = filter (λ x. nat_lt x.tid t) h.transactions }

-- the transaction with the id t
abbrev pub transaction : History → ℕ → Option Transaction
transaction h t = find (λ x. x.tid == t) h.transactions
