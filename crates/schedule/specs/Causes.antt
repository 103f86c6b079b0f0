-- The replies that the core gives by itself, each marked as none, and the lines that follow a reply.
use Rattle.std.specs.Prelude.{ℕ, List, [], ◌∷◌, ◌++◌, map, Option, Some, None, nat_lt, if◌then◌else◌, codes, decimal}
use Rattle.zbase.specs.Hex.{hex16_text}
use Rattle.evaluator.specs.Replies.{one_line}
use Rattle.evaluator.specs.declared.reply.Reply.{Reply}
use Rattle.evaluator.specs.declared.reply.Denial.{Denial}
use Rattle.evaluator.specs.declared.reply.Shown.{Shown}
use Rattle.schedule.specs.declared.line.Line.{Line}

unfoldable pub conflict_reply : ℕ → Reply
conflict_reply o = one_line 503 (codes "conflict: " ++ hex16_text o)

unfoldable pub tids_reply : Reply
tids_reply = one_line 503 (codes "transaction ids spent")

unfoldable pub oids_reply : Reply
oids_reply = one_line 503 (codes "object ids spent")

unfoldable pub full_reply : ℕ → ℕ → Reply
full_reply need limit = one_line 503 (codes "full: " ++ decimal need ++ codes " of " ++ decimal limit)

unfoldable pub fault_reply : Reply
fault_reply = one_line 503 (codes "disk fault")

unfoldable pub memory_reply : Reply
memory_reply = one_line 503 (codes "out of memory")

unfoldable pub unknown_reply : ℕ → Reply
unknown_reply t = one_line 500 (codes "unknown outcome: " ++ hex16_text t)

-- put before the first with a greater id
abbrev pub placed : Shown → List Shown → List Shown
placed s [] = s ∷ []
placed s (t ∷ ts) = if nat_lt s.oid t.oid then s ∷ t ∷ ts else t ∷ placed s ts

abbrev pub by_oid : List Shown → List Shown
by_oid [] = []
by_oid (s ∷ ss) = placed s (by_oid ss)

-- a line for each object that the reply shows, by rising id
abbrev pub shown_lines : ℕ → Reply → List Line
shown_lines w x = map (λ s. Line.Shown w s.oid s.role) (by_oid x.shown)

-- what a 401 names
abbrev pub denied_line : ℕ → Option Denial → List Line
denied_line w None = []
denied_line w (Some d) = Line.Denied w d.oid d.permission ∷ []
