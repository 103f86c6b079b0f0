-- The role that everyone has.
use Rattle.std.specs.Prelude.{ℕ, List, Option, Some, None, codes}

abbrev pub everyones : List ℕ
everyones = codes "Anonymous"

-- a role, where it is told, or everyone's
abbrev pub or_everyones : Option (List ℕ) → List ℕ
or_everyones None = everyones
or_everyones (Some role) = role
