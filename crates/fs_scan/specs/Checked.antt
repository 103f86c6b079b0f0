-- What a check tells of a file.
use Rattle.std.specs.Prelude.{◌≡◌, ℕ, ◌+◌, List, length}
use Rattle.zbase.specs.Values.{last}
use Rattle.fs_record.specs.File.{Front}
use Rattle.fs_record.specs.Opening.{Cut}
use Rattle.fs_scan.specs.Present.{HaveValues}
use Rattle.fs_scan.specs.declared.checking.Checked.{Checked}

-- what is told of bytes that open
pub record Checks (bytes : List ℕ) (c : Checked) : Type 0 where
  pub front : Front
  pub cut : Cut bytes front c.end
  pub torn : c.end + c.torn ≡ length bytes
  pub last : c.last ≡ last front.history
  pub transactions : c.transactions ≡ length front.history.transactions
  pub objects : HaveValues front.history c.objects
