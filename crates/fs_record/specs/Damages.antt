-- The number by which a line names a kind of damage.
use Rattle.std.specs.Prelude.{ℕ}
use Rattle.fs_record.specs.declared.damage.Damage.{Damage}

abbrev pub kind_number : Damage → ℕ
kind_number Damage.BadLength = 2
kind_number Damage.BadTid = 3
kind_number Damage.BadPrev = 4
kind_number Damage.BadBack = 5
kind_number Damage.BadStatus = 6
kind_number Damage.BadTail = 7
kind_number Damage.BadVersion = 8
kind_number Damage.BadMagic = 9
