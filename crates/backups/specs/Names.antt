-- The names of a repository's files.
use Rattle.std.specs.Prelude.{ℕ, ◌/◌, ◌%◌, List, ◌++◌, ◌∷◌, codes, decimal}

abbrev pub index_name : List ℕ → List ℕ
index_name repo = repo ++ codes ".dat"

abbrev pub four_digits : ℕ → List ℕ
four_digits n = decimal (n / 1000) ++ (decimal ((n / 100) % 10) ++ (decimal ((n / 10) % 10) ++ decimal (n % 10)))

-- a name with a number, from 0 to 9999
abbrev pub numbered : List ℕ → ℕ → List ℕ
numbered base n = base ++ 46 ∷ four_digits n
