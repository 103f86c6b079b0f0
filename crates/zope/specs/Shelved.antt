-- A file of a shelf.
use Rattle.std.specs.Prelude.{◌≡◌, ℕ, List, length, IfSome, Option, None, Some}
use Rattle.std.specs.Option.{option_map}
use Rattle.zio.specs.Shelves.{Entry, file_at}

-- where the shelf tells, it has the file of that name, with these bytes
abbrev pub HasFile : Option (List Entry) → List ℕ → List ℕ → Type 0
HasFile files name bytes = IfSome files (λ all. file_at all name ≡ Some bytes)

-- where the shelf tells, its file of that name has so many bytes
abbrev pub IsLength : Option (List Entry) → List ℕ → ℕ → Type 0
IsLength files name n = IfSome files (λ all. option_map length (file_at all name) ≡ Some n)

-- where the shelf tells, it has a file of that name
abbrev pub IsPresent : Option (List Entry) → List ℕ → Type 0
IsPresent files name = IfSome files (λ all. file_at all name ≡ None → ⊥)

-- where the shelf tells, it has no file of that name
abbrev pub IsMissing : Option (List Entry) → List ℕ → Type 0
IsMissing files name = IfSome files (λ all. file_at all name ≡ None)
