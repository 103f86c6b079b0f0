-- How long a file is in which every value is written in full.
--
-- FileStorage format notes: a transaction is a head of 23 bytes with three texts, its records, and 8 bytes; a record is a
-- head of 42 bytes with the value, or with 8 bytes of a back pointer where there is none. The file begins with 4 bytes.
use Rattle.std.specs.Prelude.{ℕ, ◌+◌, length, sum, map, Some, None}
use Rattle.zbase.specs.History.{Value, Transaction, History}

abbrev pub value_size : Value → ℕ
value_size None = 8
value_size (Some bytes) = length bytes

abbrev pub record_size : ℕ × Value → ℕ
record_size r = 42 + value_size r.1

abbrev pub transaction_size : Transaction → ℕ
transaction_size x = 31 + length x.user + length x.description + length x.extension + sum (map record_size x.records)

abbrev pub full_size : History → ℕ
full_size h = 4 + sum (map transaction_size h.transactions)
