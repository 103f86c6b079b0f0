-- Where a file ends: at its end, before a torn rest, or before damage.
use Rattle.std.specs.Prelude.{◌≡◌, ◌⊎◌, ℕ, ◌+◌, Bool, true, false, ◌||◌, ◌==◌, nat_lt, List, ◌++◌, length, take, drop, Some, slice_index}
use Rattle.std.specs.Int.{w64, from_be_bytes}
use Rattle.fs_record.specs.Spelling.{Block, block_spelling}
use Rattle.fs_record.specs.File.{Front, IsFile, fault_of, magic}
use Rattle.fs_record.specs.Fits.{FitsBlock}
use Rattle.fs_record.specs.declared.damage.Damage.{Damage}
use Rattle.fs_record.specs.declared.damage.Damage.TheVariants.{BadMagic, BadLength}

-- the status and the length that a head gives
abbrev pub status_in : List ℕ → ℕ
status_in rest = slice_index rest 16

unfoldable pub length_in : List ℕ → ℕ
length_in rest = from_be_bytes w64 (take 8 (drop 8 rest))

-- nothing, or a torn rest: no whole head, a status c or 0, or a length that passes the end
unfoldable pub is_end : List ℕ → Bool
is_end rest = nat_lt (length rest) 23 || (status_in rest == 99) || (status_in rest == 0) || nat_lt (length rest) (length_in rest + 8)

-- no block stands here, whatever its fields say
abbrev pub NoBlock : List ℕ → Type 0
NoBlock rest = (b : Block) (more : List ℕ) → FitsBlock b → rest ≡ block_spelling b ++ more → ⊥

-- a block stands here
pub record Stands (b : Block) (rest more : List ℕ) : Type 0 where
  pub fits : FitsBlock b
  pub spelled : rest ≡ block_spelling b ++ more

-- the damage behind a front
abbrev pub IsDamage : Front → List ℕ → Damage → Type 0
IsDamage front rest kind = ((kind ≡ BadLength) × NoBlock rest) ⊎ ((b : Block) × (more : List ℕ) × Stands b rest more × (fault_of front b ≡ Some kind))

-- a file of n bytes, and behind it this
pub record SplitsAt (bytes : List ℕ) (n : ℕ) (front : Front) (rest : List ℕ) : Type 0 where
  pub file : List ℕ
  pub is_file : IsFile file front
  pub joined : bytes ≡ file ++ rest
  pub at : n ≡ length file

-- the bytes open to front, cut at n
abbrev pub Cut : List ℕ → Front → ℕ → Type 0
Cut bytes front n = (rest : List ℕ) × SplitsAt bytes n front rest × (is_end rest ≡ true)

abbrev pub DamagedBehind : List ℕ → ℕ → Damage → Type 0
DamagedBehind bytes n kind = (front : Front) × (rest : List ℕ) × SplitsAt bytes n front rest × (is_end rest ≡ false) × IsDamage front rest kind

-- the bytes don't open: what is wrong, and where
abbrev pub Damaged : List ℕ → ℕ → Damage → Type 0
Damaged bytes n kind = ((kind ≡ BadMagic) × (n ≡ 0) × ((more : List ℕ) → bytes ≡ magic ++ more → ⊥)) ⊎ DamagedBehind bytes n kind
