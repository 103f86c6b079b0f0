-- The transactions of a file with their statuses, and what a pack leaves of them.
use Rattle.std.specs.Prelude.{ℕ, Bool, List, [], ◌∷◌, ◌++◌, map, filter, nat_le, nat_lt, Option, None, Some}
use Rattle.zbase.specs.History.{Transaction}
use Rattle.fs_record.specs.Spelling.{Inside, Records, Skipped, Block}
use Rattle.fs_record.specs.File.{Front, front_of, transaction_of}
use Rattle.fs_scan.specs.Wholes.{transaction_in}
use Rattle.fs_scan.specs.declared.wholes.Whole.{Whole}
use Rattle.packing.specs.Packed.{thinned}

-- a transaction that counts, with its status
pub record Entry : Type 0 where
  pub status : ℕ
  pub said : Transaction

-- what a block says behind a front; one undone in the old manner says nothing
abbrev pub entry_in : Front → Block → Inside → List Entry
entry_in front b (Skipped bytes) = []
entry_in front b (Records ds) = record { status = b.status; said = transaction_of front.records b ds } ∷ []

-- what blocks say that stand newest first, from the oldest
abbrev pub entries : List Block → List Entry
entries [] = []
entries (b ∷ bs) = entries bs ++ entry_in (front_of bs) b b.inside

-- a transaction as a walk answers it
abbrev pub entry_of : Whole → Entry
entry_of whole = record { status = whole.status; said = transaction_in whole }

abbrev pub found_entries : Option Whole → List Entry
found_entries None = []
found_entries (Some whole) = entry_of whole ∷ []

-- the transactions, without their statuses
abbrev pub said : List Entry → List Transaction
said es = map (λ (e : Entry). e.said) es

abbrev pub as_packed : Transaction → Entry
as_packed x = record { status = 112; said = x }

-- transactions up to the pack have the status `p`, later ones keep theirs
abbrev pub packed_entries : (ℕ → Bool) → ℕ → List Entry → List Entry
packed_entries keep t es =
    map as_packed (thinned keep (said (filter (λ (e : Entry). nat_le e.said.tid t) es)))
    ++ filter (λ (e : Entry). nat_lt t e.said.tid) es
