-- Settling: the transaction that a draft becomes, and the size of its record in the file.
use Rattle.std.specs.Prelude.{ℕ, ◌+◌, List, [], ◌∷◌, ◌++◌, map, length, take, drop, sum_by, Some, nat_lt, if◌then◌else◌}
use Rattle.std.specs.Int.{to_be_bytes, w64}
use Rattle.zbase.specs.History.{Value, Transaction, History}
use Rattle.zbase.specs.Values.{value, next, upto}
use Rattle.evaluator.specs.declared.draft.Draft.{Draft}
use Rattle.evaluator.specs.declared.draft.Entry.{Entry}
use Rattle.evaluator.specs.declared.draft.Hole.{Hole}
use Rattle.evaluator.specs.declared.draft.Name.{Name}

-- the bytes, with the id of its new object in each hole, big-endian; the first new object has the id first
abbrev pub filled : ℕ → List ℕ → List Hole → List ℕ
filled first bytes [] = bytes
filled first bytes (hole ∷ holes) = filled first (take hole.at bytes ++ to_be_bytes w64 (first + hole.new) ++ drop (hole.at + 8) bytes) holes

abbrev pub oid_of : History → Name → ℕ
oid_of h (Name.Old o) = o
oid_of h (Name.New k) = next h + k

abbrev pub record_of : History → Entry → ℕ × Value
record_of h (Entry.Write name bytes holes) = (oid_of h name, Some (filled (next h) bytes holes))
record_of h (Entry.Restore o t) = (o, value (upto h t) o)

-- put before the first with a greater oid
abbrev pub placed : ℕ × Value → List (ℕ × Value) → List (ℕ × Value)
placed r [] = r ∷ []
placed r (s ∷ ss) = if nat_lt r.0 s.0 then r ∷ s ∷ ss else s ∷ placed r ss

abbrev pub by_oid : List (ℕ × Value) → List (ℕ × Value)
by_oid [] = []
by_oid (r ∷ rs) = placed r (by_oid rs)

-- the transaction t of the draft behind the history: its entries by rising oid, an empty extension
abbrev pub settle : History → Draft → ℕ → Transaction
settle h d t = record { tid = t; user = d.user; description = d.description; extension = []; records = by_oid (map (record_of h) d.entries) }

-- a data record's head has 42 bytes, and a back pointer 8
abbrev pub size_of_entry : Entry → ℕ
size_of_entry (Entry.Write name bytes holes) = 42 + length bytes
size_of_entry (Entry.Restore o t) = 50

-- a transaction record has 31 bytes beside its texts and data records
abbrev pub size : Draft → ℕ
size d = 31 + length d.user + length d.description + sum_by size_of_entry d.entries
