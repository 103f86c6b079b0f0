-- How a transaction is found from the file's end, and what that may cost.
--
-- FileStorage format notes: a transaction's length stands once more, in eight bytes, at its end; so a file can be gone
-- back as well as forward. Ids rise, so nothing before an older transaction is looked at.
use Rattle.std.specs.Prelude.{◌≡◌, ◌+◌, ◌*◌, ◌-◌, ◌≤◌, ◌++◌, ℕ, true, List, [], ◌∷◌, drop, length, map, Option, Some, None}
use Rattle.std.specs.List.{AllByRecursion, list_all}
use Rattle.zbase.specs.Values.{transaction}
use Rattle.zdisk.specs.Disk.{Told, content}
use Rattle.evaluator.specs.declared.fact.Part.{Part}
use Rattle.fs_record.specs.File.{AreRight, Earlier, bytes_of, has_body, rows, transaction_of}
use Rattle.fs_record.specs.Fits.{FitsBlock}
use Rattle.fs_record.specs.Opening.{Stands}
use Rattle.fs_record.specs.Spelling.{Block, Data, Records, block_spelling, long_of, txn_head_of}
use Rattle.fs_scan.specs.Backs.{CostsBodies}
use Rattle.fs_scan.specs.Present.{AllStand}
use Rattle.fs_scan.specs.declared.wholes.OidValue.{OidValue}
use Rattle.fs_store.specs.declared.seeking.TxnRecord.{TxnRecord}
use Rattle.fs_store.specs.Finding.{CostsLoad}
use Rattle.fs_store.specs.Fronts.{file_at, history_at}
use Rattle.fs_store.specs.Parts.{is_passed}

-- a transaction record stands from the place to the end, and has its length once more there
pub record EndsAt (bytes : List ℕ) (place end : ℕ) (b : Block) : Type 0 where
  pub front : List ℕ
  pub more : List ℕ
  pub fits : FitsBlock b
  pub joined : bytes ≡ front ++ (block_spelling b ++ more)
  pub at : place ≡ length front
  pub ends : end ≡ place + (long_of b + 8)
  pub tail : b.tail ≡ long_of b

-- the record is that of the transaction with the id: its data records stand there, and what they mean is known
pub record IsSought (told : Told) (end tid : ℕ) (found : TxnRecord) : Type 0 where
  pub written : Block
  pub ds : List Data
  pub more : List ℕ
  pub records : List Earlier
  pub stands : Stands written (drop found.place (content told)) more
  pub inside : written.inside ≡ Records ds
  pub head : found.head ≡ txn_head_of written
  pub all : AllStand (content told) records
  pub bodies : list_all (has_body (rows records)) ds ≡ true
  pub is : transaction (history_at told end) tid ≡ Some (transaction_of records written ds)

abbrev pub SoughtIn : Told → ℕ → ℕ → Option TxnRecord → Type 0
SoughtIn told end tid None = transaction (history_at told end) tid ≡ None
SoughtIn told end tid (Some found) = IsSought told end tid found

-- it doesn't count, or is later than the id
abbrev pub IsPassed : ℕ → Block → Type 0
IsPassed tid b = is_passed tid (txn_head_of b) ≡ true

-- What it may cost to look for the transaction: two calls for each one that stands behind it, which is later or doesn't
-- count, and two for the one where the walk ends. Blocks stand newest first.
pub record CostsWalk (told : Told) (end tid calls more : ℕ) : Type 0 where
  pub newer : List Block
  pub older : List Block
  pub right : AreRight (newer ++ older)
  pub spelled : file_at told end ≡ bytes_of (newer ++ older)
  pub passed : AllByRecursion (IsPassed tid) newer
  pub within : more ≤ calls + 2 + 2 * length newer

-- and to read its values where it was found: one call for its records, and what their back pointers cost
pub record CostsRead (told : Told) (end tid calls more : ℕ) : Type 0 where
  pub walked : ℕ
  pub walk : CostsWalk told end tid calls walked
  pub found : TxnRecord
  pub sought : IsSought told end tid found
  pub values : CostsBodies (content told) sought.ds (walked + 1) more

abbrev pub CostsValues : Told → ℕ → ℕ → Option (List OidValue) → ℕ → ℕ → Type 0
CostsValues told end tid None calls more = CostsWalk told end tid calls more
CostsValues told end tid (Some values) calls more = CostsRead told end tid calls more

-- to load each of these objects up to a transaction
abbrev pub CostsLoads : Told → ℕ → ℕ → List ℕ → ℕ → ℕ → Type 0
CostsLoads told end t [] calls more = more ≤ calls
CostsLoads told end t (o ∷ os) calls more = (mid : ℕ) × CostsLoads told end t os calls mid × CostsLoad told end o t mid more

abbrev pub objects_of : List Part → List ℕ
objects_of parts = map (λ (p : Part). p.oid) parts

-- What it may cost to say what a transaction did: to find it and to read its values, and a load for each part, of the
-- value before. Where there is none, to look for it.
abbrev pub CostsParts : Told → ℕ → ℕ → Option (List Part) → ℕ → ℕ → Type 0
CostsParts told end tid None calls more = CostsWalk told end tid calls more
CostsParts told end tid (Some parts) calls more = (read : ℕ) × CostsRead told end tid calls read × CostsLoads told end (tid - 1) (objects_of parts) read more
