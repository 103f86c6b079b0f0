-- What a row is told by: the text before a byte and behind it.
use Rattle.std.specs.Prelude.{ℕ, ◌==◌, List, [], ◌∷◌, Option, Some, None, codes, if◌then◌else◌}
use Rattle.std.specs.Str.{bytes_eq}
use Rattle.report_tally.specs.declared.kind.Kind.{Kind}
use Rattle.report_tally.specs.declared.kind.Kind.TheVariants as kinds

-- all of it, where there is no such byte
abbrev pub before : ℕ → List ℕ → List ℕ
before byte [] = []
before byte (b ∷ bytes) = if b == byte then [] else b ∷ before byte bytes

-- nothing, where there is no such byte
abbrev pub after : ℕ → List ℕ → List ℕ
after byte [] = []
after byte (b ∷ bytes) = if b == byte then bytes else after byte bytes

-- the mark of a reply is its second field
abbrev pub mark_in : List ℕ → List ℕ
mark_in fields = before 32 (after 32 fields)

abbrev pub by_mark : List ℕ → Kind
by_mark mark = if bytes_eq mark (codes "read") then kinds.Read else (if bytes_eq mark (codes "commit") then kinds.Commit else kinds.Other)

abbrev pub reply_kind : List ℕ → Kind
reply_kind fields = by_mark (mark_in fields)

abbrev pub kind_by : (word fields : List ℕ) → Kind
kind_by word fields =
    if bytes_eq word (codes "conflict") then kinds.Conflict
    else (if bytes_eq word (codes "givenup") then kinds.GivenUp
    else (if bytes_eq word (codes "reply") then reply_kind fields else kinds.Other))

abbrev pub kind_in : List ℕ → Kind
kind_in row = kind_by (before 32 row) (after 32 row)

-- the number of a reply's bytes is its last field: behind `none` the third, and behind another mark the fourth
abbrev pub length_field : List ℕ → List ℕ
length_field fields = if bytes_eq (mark_in fields) (codes "none") then after 32 (after 32 fields) else after 32 (after 32 (after 32 fields))

abbrev pub length_by : (word fields : List ℕ) → Option (List ℕ)
length_by word fields = if bytes_eq word (codes "reply") then Some (length_field fields) else None

abbrev pub length_in : List ℕ → Option (List ℕ)
length_in row = length_by (before 32 row) (after 32 row)

-- the first field of a transaction's row
abbrev pub tid_by : (word fields : List ℕ) → Option (List ℕ)
tid_by word fields = if bytes_eq word (codes "transaction") then Some (before 32 fields) else None

abbrev pub tid_in : List ℕ → Option (List ℕ)
tid_in row = tid_by (before 32 row) (after 32 row)
