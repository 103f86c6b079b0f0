-- Facts: what a history answers to an ask, and what a list of facts knows.
use Rattle.std.specs.Prelude.{ℕ, ◌≡◌, ◌≢◌, ◌==◌, AllPairs, Bool, true, false, List, [], ◌∷◌, map, filter, find, Option, None, option_map, nat_lt, if◌then◌else◌}
use Rattle.std.specs.List.{list_any, AllByRecursion}
use Rattle.zbase.specs.History.{Value, Transaction, History}
use Rattle.zbase.specs.Values.{value, serial, before, transaction}
use Rattle.evaluator.specs.declared.ask.Ask.{Ask}
use Rattle.evaluator.specs.declared.fact.Fact.{Fact}
use Rattle.evaluator.specs.declared.fact.Part.{Part}
use Rattle.evaluator.specs.declared.fact.LogRow.{LogRow}

-- the records that no later record of the same object follows: where a transaction has two of an object, the
-- last counts
abbrev pub last_records : List (ℕ × Value) → List (ℕ × Value)
last_records [] = []
last_records (r ∷ rs) = if list_any (λ s. s.0 == r.0) rs then last_records rs else r ∷ last_records rs

-- what a record did to its object, over the past before its transaction
abbrev pub part_of : History → ℕ × Value → Part
part_of past r = record { oid = r.0; after = r.1; before = value past r.0; before_serial = serial past r.0 }

abbrev pub parts_of : History → Transaction → List Part
parts_of h x = map (part_of (before h x.tid)) (last_records x.records)

abbrev pub log_row : Transaction → LogRow
log_row x = record { tid = x.tid; user = x.user; description = x.description }

-- What can be undone: the transactions above the floor. Those up to it were packed, so that what they changed is no
-- longer known.
abbrev pub unpacked : History → List Transaction
unpacked h = filter (λ x. nat_lt h.floor x.tid) h.transactions

abbrev pub unpacked_at : History → ℕ → Option Transaction
unpacked_at h t = if nat_lt h.floor t then transaction h t else None

-- what the history answers
abbrev pub fact : History → Ask → Fact
fact h (Ask.Object o) = Fact.Object o (value h o) (serial h o)
fact h (Ask.Transaction t) = Fact.Transaction t (option_map (parts_of h) (unpacked_at h t))
fact h Ask.Log = Fact.Log (map log_row (unpacked h))

-- the ask that a fact answers
abbrev pub ask_of : Fact → Ask
ask_of (Fact.Object o v s) = Ask.Object o
ask_of (Fact.Transaction t ps) = Ask.Transaction t
ask_of (Fact.Log rows) = Ask.Log

abbrev pub same_ask : Ask → Ask → Bool
same_ask (Ask.Object o) (Ask.Object p) = o == p
same_ask (Ask.Transaction t) (Ask.Transaction u) = t == u
same_ask Ask.Log Ask.Log = true
same_ask _ _ = false

-- the fact for that ask, or unknown
abbrev pub look : List Fact → Ask → Option Fact
look facts ask = find (λ f. same_ask (ask_of f) ask) facts

-- each fact is the one that the history gives
abbrev pub TrueOf : List Fact → History → Type 0
TrueOf facts h = AllByRecursion (λ f. f ≡ fact h (ask_of f)) facts

-- no two of them answer the same ask
abbrev pub EachOnce : List Fact → Type 0
EachOnce facts = AllPairs (λ f g. ask_of f ≢ ask_of g) facts
