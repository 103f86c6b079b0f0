-- What the pieces of a backup hold, and what is due.
use Rattle.std.specs.Prelude.{◌≡◌, ℕ, ◌-◌, ◌==◌, Bool, ◌&&◌, ◌||◌, not, nat_lt, List, [], ◌∷◌, length, take, drop, map, Option, None, Some, if◌then◌else◌}
use Rattle.std.specs.List.{concat}
use Rattle.std.specs.Str.{bytes_eq}
use Rattle.md5.specs.Md5.{md5}
use Rattle.fs_record.specs.File.{Front}
use Rattle.fs_record.specs.Opening.{Cut}
use Rattle.repozo.specs.declared.index.PieceRow.{PieceRow}
use Rattle.repozo.specs.declared.index.TheConstants.{MAX_PIECES}
use Rattle.repozo.specs.declared.planning.BackupPlan.{BackupPlan}
use Rattle.repozo.specs.declared.planning.BackupPlan.TheVariants as plans
use Rattle.repozo.specs.Index.{end_of}

-- how many bytes a piece has
abbrev pub size_of : PieceRow → ℕ
size_of r = r.end - r.start

-- so many bytes of a file from a place on
abbrev pub part : ℕ → ℕ → List ℕ → List ℕ
part start size bytes = take size (drop start bytes)

-- ---- pieces by their rows

-- the piece has the length of its row, and the file its bytes there
abbrev pub is_part : PieceRow → List ℕ → List ℕ → Bool
is_part r file piece = (length piece == size_of r) && bytes_eq piece (part r.start (size_of r) file)

-- the piece has the length and the digest of its row
abbrev pub is_right : PieceRow → List ℕ → Bool
is_right r piece = (length piece == size_of r) && bytes_eq (md5 piece) r.md5

-- the name of the first row whose piece isn't right, among as many rows as there are pieces
abbrev pub first_bad : List PieceRow → List (List ℕ) → Option (List ℕ)
first_bad rows [] = None
first_bad [] (p ∷ ps) = None
first_bad (r ∷ rs) (p ∷ ps) = if is_right r p then first_bad rs ps else Some r.name

-- ---- what is due

-- Each piece has the length that its row gives, and the pieces joined are the file's first bytes, up to the end of the last one
abbrev pub are_current : List PieceRow → List (List ℕ) → List ℕ → Bool
are_current rows pieces file = bytes_eq (map length pieces) (map size_of rows) && bytes_eq (concat pieces) (take (end_of rows) file)

-- What is due where the file ends at n: nothing, where the pieces are current and hold all of it; the rest, where they are current and
-- there may be one more; and else all of it.
abbrev pub due : Bool → List PieceRow → ℕ → BackupPlan
due current rows n =
    if current && (end_of rows == n) then plans.Nothing
    else if current && (nat_lt (end_of rows) n && nat_lt (length rows) MAX_PIECES) then plans.More (end_of rows) n
    else plans.Full n

abbrev pub plan_of : Bool → List PieceRow → List (List ℕ) → List ℕ → ℕ → BackupPlan
plan_of full rows pieces file n = due (not (full || (length rows == 0)) && are_current rows pieces file) rows n

-- what is due for a file that ends where its opening says
pub record IsDue (full : Bool) (rows : List PieceRow) (pieces : List (List ℕ)) (file : List ℕ) (plan : BackupPlan) : Type 0 where
  pub front : Front
  pub end : ℕ
  pub opens : Cut file front end
  pub is : plan ≡ plan_of full rows pieces file end
