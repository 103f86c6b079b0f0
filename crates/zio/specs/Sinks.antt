-- What a sink holds after a write that failed, and what is on its way to a sink.
use Rattle.std.specs.Prelude.{◌≡◌, ℕ, List, ◌++◌, ⊤, None, Some}
use Rattle.std.specs.Io.KnownBytes.{append_known}
use Rattle.std.specs.declared.option.Option.{Option}

-- known bytes grow by a front of the piece
abbrev pub AppendsFront : Option (List ℕ) → Option (List ℕ) → List ℕ → Type 0
AppendsFront None new piece = ⊤
AppendsFront (Some xs) None piece = ⊥
AppendsFront (Some xs) (Some ys) piece = (front : List ℕ) × (rest : List ℕ) × (piece ≡ front ++ rest) × (ys ≡ xs ++ front)

-- what a sink tells once these bytes, which are on their way, are written to it
abbrev pub due : Option (List ℕ) → List ℕ → Option (List ℕ)
due written pending = append_known written pending

-- the most bytes that are held on their way
abbrev pub most_held : ℕ
most_held = 65536
