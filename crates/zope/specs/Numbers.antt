-- What a check of a file printed.
use Rattle.std.specs.Prelude.{◌≡◌, ℕ, List, [], ◌∷◌, ◌++◌, Option, codes, decimal}
use Rattle.std.specs.Io.KnownBytes.{append_known}
use Rattle.zbase.specs.Hex.{hex16_text}
use Rattle.zio.specs.Shelves.{Entry}
use Rattle.fs_scan.specs.Checked.{Checks}
use Rattle.fs_scan.specs.declared.checking.Checked.{Checked}
use Rattle.zope.specs.Given.{IfKept}

-- the five lines
abbrev pub check_lines : Checked → List ℕ
check_lines c =
    codes "transactions " ++ (decimal c.transactions ++ (10 ∷ codes "objects " ++ (decimal c.objects ++ (10 ∷ codes "last " ++ (hex16_text c.last ++ (10 ∷ codes "end " ++ (decimal c.end ++ (10 ∷ codes "torn " ++ (decimal c.torn ++ 10 ∷ [])))))))))

pub record NumbersPrinted (name : List ℕ) (files : Option (List Entry)) (old new : Option (List ℕ)) : Type 0 where
  -- where the shelf tells, that file opens with these numbers
  pub numbers : Checked
  pub checks : IfKept files name (λ bytes. Checks bytes numbers)
  -- the sink grew by the five lines
  pub printed : new ≡ append_known old (check_lines numbers)
