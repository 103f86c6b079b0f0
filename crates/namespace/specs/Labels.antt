-- The text of a label.
use Rattle.std.specs.Prelude.{ℕ, List, Option, Some, None}

-- a text of its own, where there is one, or else a word
abbrev pub own_or : List ℕ → Option (List ℕ) → List ℕ
own_or word None = word
own_or word (Some text) = text
