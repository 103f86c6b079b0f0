-- A second walk over the transactions of a file, behind a scan that judged them.
use Rattle.std.specs.Prelude.{◌≡◌, ℕ, List, [], ◌∷◌, ◌++◌, length, Option, Some, None}
use Rattle.zbase.specs.History.{Transaction}
use Rattle.fs_record.specs.Spelling.{Block, Inside, Records, Skipped}
use Rattle.fs_record.specs.File.{AreRight, bytes_of, front_of, transaction_of}
use Rattle.fs_scan.specs.Ahead.{Shown, StandIn}
use Rattle.fs_scan.specs.Wholes.{transaction_in}
use Rattle.fs_scan.specs.declared.wholes.Whole.{Whole}

-- where it goes on, where the transactions end, how long the file is, and the bytes that were read ahead
pub record Second : Type 0 where
  pub place : ℕ
  pub end : ℕ
  pub long : ℕ
  pub ahead : Shown

-- the same walk at this place, with these bytes read ahead
abbrev pub moved : ℕ → Shown → Second → Second
moved place ahead s = record { place = place; end = s.end; long = s.long; ahead = ahead }

-- blocks that stand newest first, and behind them others, oldest first
abbrev pub onto : List Block → List Block → List Block
onto gone [] = gone
onto gone (b ∷ bs) = onto (b ∷ gone) bs

-- the transaction that a block behind others says, and more; one that was undone in the old manner says none
abbrev pub said_in : List Block → Block → Inside → List Transaction → List Transaction
said_in gone b (Records ds) more = transaction_of (front_of gone).records b ds ∷ more
said_in gone b (Skipped bytes) more = more

-- the transactions that blocks behind others say
abbrev pub said_by : List Block → List Block → List Transaction
said_by gone [] = []
said_by gone (b ∷ bs) = said_in gone b b.inside (said_by (b ∷ gone) bs)

-- The bytes are a file up to the end. The walk went over its blocks up to a place, and those behind it say these transactions.
pub record Left (bytes : List ℕ) (s : Second) (xs : List Transaction) : Type 0 where
  pub gone : List Block
  pub left : List Block
  pub rest : List ℕ
  pub right : AreRight (onto gone left)
  pub joined : bytes ≡ bytes_of (onto gone left) ++ rest
  pub here : s.place ≡ length (bytes_of gone)
  pub end : s.end ≡ length (bytes_of (onto gone left))
  pub said : xs ≡ said_by gone left
  pub long : s.long ≡ length bytes
  pub ahead : StandIn bytes s.ahead

-- what a step answers where these transactions are left: the first of them, so that the others are left, or that none is
abbrev pub Nexts : List ℕ → Second → List Transaction → Option Whole → Type 0
Nexts bytes new xs None = xs ≡ []
Nexts bytes new xs (Some whole) = (ys : List Transaction) × (xs ≡ transaction_in whole ∷ ys) × Left bytes new ys
