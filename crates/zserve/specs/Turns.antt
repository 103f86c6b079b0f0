-- Steps in turns: in each turn every worker that has no reply yet takes one step.
use Rattle.std.specs.Prelude.{◌≡◌, ℕ, ◌==◌, Bool, true, false, not, List, [], ◌∷◌, map, filter, flat_map, Option, Some, None, if◌then◌else◌}
use Rattle.std.specs.List.{list_any}
use Rattle.schedule.specs.declared.item.Item2.{Item2}
use Rattle.schedule.specs.declared.line.Line.{Line}
use Rattle.schedule.specs.Courses.{worker_of}
use Rattle.zserve.specs.Happened.{Happening, items}

-- ---- replies in a report

abbrev pub is_reply : Line → Bool
is_reply (Line.ReplyRead w t bytes) = true
is_reply (Line.ReplyCommit w t bytes) = true
is_reply (Line.ReplyNone w bytes) = true
is_reply _ = false

-- the lines have a reply
abbrev pub has_reply : List Line → Bool
has_reply lines = list_any is_reply lines

-- the bytes of a reply to this worker
abbrev pub reply_in : ℕ → Line → Option (List ℕ)
reply_in w (Line.ReplyRead v t bytes) = if v == w then Some bytes else None
reply_in w (Line.ReplyCommit v t bytes) = if v == w then Some bytes else None
reply_in w (Line.ReplyNone v bytes) = if v == w then Some bytes else None
reply_in w _ = None

abbrev pub sooner : Option (List ℕ) → Option (List ℕ) → Option (List ℕ)
sooner (Some bytes) later = Some bytes
sooner None later = later

-- the first reply to the worker
abbrev pub reply_among : ℕ → List Line → Option (List ℕ)
reply_among w [] = None
reply_among w (line ∷ lines) = sooner (reply_in w line) (reply_among w lines)

-- ---- turns

-- the workers whose steps printed no reply
abbrev pub waiting : List Happening → List ℕ
waiting turn = map (λ h. worker_of h.0) (filter (λ h. not (has_reply h.1)) turn)

-- In each turn those who have no reply yet take a step, in order; there is no turn once all have one.
abbrev pub AreTurns : List ℕ → List (List Happening) → Type 0
AreTurns [] [] = Unit {0}
AreTurns [] (turn ∷ turns) = ⊥
AreTurns (w ∷ ws) [] = ⊥
AreTurns (w ∷ ws) (turn ∷ turns) = (items turn ≡ map Item2.Step (w ∷ ws)) × AreTurns (waiting turn) turns

-- all lines of some turns
abbrev pub lines_in : List Happening → List Line
lines_in all = flat_map (λ h. h.1) all

-- what happened in all turns
abbrev pub all_in : List (List Happening) → List Happening
all_in turns = flat_map (λ turn. turn) turns

-- the worker has a reply among what happened
abbrev pub GotReply : ℕ → List Happening → Type 0
GotReply w all = (reply : List ℕ) × (reply_among w (lines_in all) ≡ Some reply)
