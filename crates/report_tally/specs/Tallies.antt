-- What is counted of a report: its reading replies, its commits, its conflicts, and its requests that were given up.
use Rattle.std.specs.Prelude.{ℕ, ◌+◌, min, Bool, true, false, List, [], ◌∷◌, if◌then◌else◌}
use Rattle.zbase.specs.Limits.{greatest_number}
use Rattle.schedule.specs.declared.line.Line.{Line}
use Rattle.report_tally.specs.declared.kind.Kind.{Kind}
use Rattle.report_tally.specs.declared.kind.Kind.TheVariants as kinds
use Rattle.report_tally.specs.declared.kind.Tally.{Tally}

abbrev pub kind_of : Line → Kind
kind_of (Line.ReplyRead w t bytes) = kinds.Read
kind_of (Line.ReplyCommit w t bytes) = kinds.Commit
kind_of (Line.Conflict w clash) = kinds.Conflict
kind_of (Line.GivenUp w clashes) = kinds.GivenUp
kind_of _ = kinds.Other

abbrev pub is_read : Kind → Bool
is_read kinds.Read = true
is_read _ = false

abbrev pub is_commit : Kind → Bool
is_commit kinds.Commit = true
is_commit _ = false

abbrev pub is_conflict : Kind → Bool
is_conflict kinds.Conflict = true
is_conflict _ = false

abbrev pub is_given_up : Kind → Bool
is_given_up kinds.GivenUp = true
is_given_up _ = false

-- how many of the lines are of such a kind
abbrev pub how_many : (Kind → Bool) → List Line → ℕ
how_many is [] = 0
how_many is (line ∷ lines) = (if is (kind_of line) then 1 else 0) + how_many is lines

-- a count stays at the greatest number
abbrev pub capped : ℕ → ℕ
capped n = min n greatest_number

abbrev pub tally_with : (reads commits conflicts given_up : ℕ) → Tally
tally_with reads commits conflicts given_up = record { reads = reads; commits = commits; conflicts = conflicts; given_up = given_up }

abbrev pub tally_of : List Line → Tally
tally_of lines = tally_with (capped (how_many is_read lines)) (capped (how_many is_commit lines)) (capped (how_many is_conflict lines)) (capped (how_many is_given_up lines))

-- one more line of that kind
abbrev pub counted : Tally → Kind → Tally
counted t kinds.Read = tally_with (capped (t.reads + 1)) t.commits t.conflicts t.given_up
counted t kinds.Commit = tally_with t.reads (capped (t.commits + 1)) t.conflicts t.given_up
counted t kinds.Conflict = tally_with t.reads t.commits (capped (t.conflicts + 1)) t.given_up
counted t kinds.GivenUp = tally_with t.reads t.commits t.conflicts (capped (t.given_up + 1))
counted t kinds.Other = t
