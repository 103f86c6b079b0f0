-- The history that transactions with their values say.
use Rattle.std.specs.Prelude.{ℕ, List, map}
use Rattle.zbase.specs.History.{Value, Transaction, History}
use Rattle.fs_scan.specs.declared.wholes.OidValue.{OidValue}
use Rattle.fs_scan.specs.declared.wholes.Whole.{Whole}

-- what each record says, in the file's order
abbrev pub records_in : List OidValue → List (ℕ × Value)
records_in values = map (λ (v : OidValue). (v.oid, v.value)) values

abbrev pub transaction_in : Whole → Transaction
transaction_in w = record { tid = w.tid; user = w.texts.user; description = w.texts.description; extension = w.texts.extension; records = records_in w.values }

-- the greatest id of a packed one is the floor, 0 for none
abbrev pub history_in : ℕ → List Whole → History
history_in floor ws = record { floor = floor; transactions = map transaction_in ws }
