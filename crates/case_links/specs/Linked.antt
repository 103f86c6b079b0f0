-- To which objects the values of cases lead.
use Rattle.std.specs.Prelude.{ℕ, ◌==◌, List, Option, None, Some, if◌then◌else◌}
use Rattle.std.specs.List.{list_any}

-- each byte is an object's id; an `x` is none
abbrev pub linked_by : List ℕ → Option (List ℕ)
linked_by bytes = if list_any (λ byte. byte == 120) bytes then None else Some bytes
