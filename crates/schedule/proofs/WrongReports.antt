-- Reports that explain nothing, whatever follows: each is refuted by reading it against the table.
use Rattle.std.proofs.Common.{◌≡◌, ℕ, ◌+◌, true, false, List, [], ◌∷◌, ◌++◌, refl, sym, ◌∙◌, map, append_assoc, arith, length}
use Rattle.zbase.specs.History.{History}
use Rattle.zbase.specs.Values.{last}
use Rattle.zbase.specs.declared.ids.Clash.{Clash}
use Rattle.evaluator.specs.declared.cells.CellRequest.{CellRequest}
use Rattle.schedule.specs.declared.item.Item2.{Item2}
use Rattle.schedule.specs.declared.line.Line.{Line}
use Rattle.schedule.specs.Courses.{Place, lines_of}
use Rattle.schedule.specs.Explained.{history_lines, report, Explained}
use Rattle.schedule.specs.Moments.{Terms, Moment, Waiting, start, turned, lost_lines}
use Rattle.schedule.specs.Stepping.{told, Opening, Stops, Faults, opening_line}
use Rattle.schedule.specs.Worked.{cells, first_tid, two_cells, one_cell, done_at, early_commit_schedule, early_commit, second_vote_schedule, second_vote, stale_vote_schedule, stale_vote, lossy_restart_schedule, lossy_restart}
use Rattle.schedule.proofs.Plain.{WasStopped, At, at_told, at_wrong, at_given, at_armed, at_stopped}

-- what a report prints behind its items
abbrev closing : {R : Type 0} → Moment R → List Line
closing end = lost_lines end ++ (history_lines end.standing ++ Line.End ∷ [])

behind : {R : Type 0} (h0 : History) (ps : List (Place R)) (end : Moment R) (a b : Line) (r : List Line) → a ∷ b ∷ r ≡ report h0 ps end → lines_of ps ++ closing end ≡ r
behind h0 ps end a b r e =
    let same : r ≡ lines_of ps ++ lost_lines end ++ history_lines end.standing ++ Line.End ∷ [] = cc in
    sym (same ∙ append_assoc (lines_of ps ++ lost_lines end) (history_lines end.standing) (Line.End ∷ []) ∙ append_assoc (lines_of ps) (lost_lines end) (history_lines end.standing ++ Line.End ∷ []))

-- a report's beginning
at_start : {R : Type 0} (terms : Terms R) (h0 : History) (s : List Item2) (r : List Line) → (x : Explained terms h0 s (Line.Head ∷ Line.Opened (last h0) (length h0.transactions) ∷ r)) → At terms (start terms h0) x.end s (closing x.end) r
at_start terms h0 s r x = record { places = x.trace; course = x.course; left = x.items; lines = behind h0 x.trace x.end _ _ r x.lines }

vote_no_reply : (w v t u : ℕ) (bytes : List ℕ) → Line.Vote w t ≡ Line.ReplyCommit v u bytes → ⊥
vote_no_reply w v t u bytes e = cc

busy_no_vote : (w v u t : ℕ) → Line.Busy w v ≡ Line.Vote u t → ⊥
busy_no_vote w v u t e = cc

conflict_no_vote : (w v u : ℕ) (c : Clash) → Line.Conflict w c ≡ Line.Vote v u → ⊥
conflict_no_vote w v u c e = cc

abbrev m1 : Moment CellRequest
m1 = turned (start cells one_cell) 0 (Waiting (CellRequest.Copy 1 1) [])

abbrev m2 : Moment CellRequest
m2 = (told cells m1 0).1

abbrev m3 : Moment CellRequest
m3 = (told cells m2 0).1

abbrev m4 : Moment CellRequest
m4 = (told cells m3 0).1

-- The commit reply stands where the vote should: a reply before its transaction stands.
pub too_early : (more : List Line) → Explained cells one_cell early_commit_schedule (early_commit ++ more) → ⊥
too_early more x =
    let at = at_start cells one_cell _ _ x in
    let a0 = at_given (CellRequest.Copy 1 1) refl at in
    let a1 = at_told m2 refl refl a0 in
    let a2 = at_told m3 refl refl a1 in
    let a3 = at_told m4 refl refl a2 in
    vote_no_reply 0 0 (first_tid + 1) (first_tid + 1) (done_at (first_tid + 1)) (at_wrong (Line.Vote 0 (first_tid + 1)) [] (told cells m4 0).1 refl refl a3)

-- Worker 1 votes while worker 0 stands between vote and finish; then, a conflict is missed.
abbrev n1 : Moment CellRequest
n1 = turned (turned (start cells two_cells) 0 (Waiting (CellRequest.Copy 1 2) [])) 1 (Waiting (CellRequest.Copy 2 1) [])

abbrev n2 : Moment CellRequest
n2 = (told cells n1 1).1

abbrev n3 : Moment CellRequest
n3 = (told cells n2 1).1

abbrev n4 : Moment CellRequest
n4 = (told cells n3 1).1

abbrev n5 : Moment CellRequest
n5 = (told cells n4 0).1

abbrev n6 : Moment CellRequest
n6 = (told cells n5 0).1

abbrev n7 : Moment CellRequest
n7 = (told cells n6 0).1

abbrev n8 : Moment CellRequest
n8 = (told cells n7 0).1

pub vote_while_busy : (more : List Line) → Explained cells two_cells second_vote_schedule (second_vote ++ more) → ⊥
vote_while_busy more x =
    let at = at_start cells two_cells _ _ x in
    let a0 = at_given (CellRequest.Copy 1 2) refl at in
    let a1 = at_given (CellRequest.Copy 2 1) refl a0 in
    let a2 = at_told n2 refl refl a1 in
    let a3 = at_told n3 refl refl a2 in
    let a4 = at_told n4 refl refl a3 in
    let a5 = at_told n5 refl refl a4 in
    let a6 = at_told n6 refl refl a5 in
    let a7 = at_told n7 refl refl a6 in
    let a8 = at_told n8 refl refl a7 in
    busy_no_vote 1 0 1 (first_tid + 2) (at_wrong (Line.Busy 1 0) [] n8 refl refl a8)

-- A restart loses an acknowledged transaction.
restart_of : (w t n u k : ℕ) (openings : List Opening) (rest more : List Line)
    → (Line.Stop ∷ ((Line.Lost w ∷ []) ++ map opening_line openings ++ Line.Restart t n ∷ [])) ++ rest ≡ Line.Stop ∷ Line.Lost w ∷ Line.Restart u k ∷ more → n ≡ k
restart_of w t n u k [] rest more e = cc
restart_of w t n u k (Stops ∷ os) rest more e = cc
restart_of w t n u k (Faults ∷ os) rest more e = cc

two_not_one : (a b : ℕ) → a ≡ 2 → b ≡ 1 → a ≡ b → ⊥
two_not_one a b x y e = omega arith

abbrev n9 : Moment CellRequest
n9 = (told cells n8 0).1

pub vote_over_conflict : (more : List Line) → Explained cells two_cells stale_vote_schedule (stale_vote ++ more) → ⊥
vote_over_conflict more x =
    let at = at_start cells two_cells _ _ x in
    let a0 = at_given (CellRequest.Copy 1 2) refl at in
    let a1 = at_given (CellRequest.Copy 2 1) refl a0 in
    let a2 = at_told n2 refl refl a1 in
    let a3 = at_told n3 refl refl a2 in
    let a4 = at_told n4 refl refl a3 in
    let a5 = at_told n5 refl refl a4 in
    let a6 = at_told n6 refl refl a5 in
    let a7 = at_told n7 refl refl a6 in
    let a8 = at_told n8 refl refl a7 in
    let a9 = at_told n9 refl refl a8 in
    conflict_no_vote 1 1 (first_tid + 2) (record { oid = 2; seen = first_tid; found = first_tid + 1 }) (at_wrong (Line.Conflict 1 (record { oid = 2; seen = first_tid; found = first_tid + 1 })) [] (told cells n9 1).1 refl refl a9)

abbrev m5 : Moment CellRequest
m5 = (told cells m4 0).1

abbrev m6 : Moment CellRequest
m6 = (told cells m5 0).1

abbrev m7 : Moment CellRequest
m7 = turned m6 0 (Waiting (CellRequest.Read 1) [])

pub acknowledged_lost : (more : List Line) → Explained cells one_cell lossy_restart_schedule (lossy_restart ++ more) → ⊥
acknowledged_lost more x =
    let at = at_start cells one_cell _ _ x in
    let a0 = at_given (CellRequest.Copy 1 1) refl at in
    let a1 = at_told m2 refl refl a0 in
    let a2 = at_told m3 refl refl a1 in
    let a3 = at_told m4 refl refl a2 in
    let a4 = at_told m5 refl refl a3 in
    let a5 = at_told m6 refl refl a4 in
    let a6 = at_armed a5 in
    let a7 = at_given (CellRequest.Read 1) refl a6 in
    stopped (at_stopped refl a7)
  where
    stopped : WasStopped m7 0 (Line.Lost 0 ∷ Line.Restart first_tid 1 ∷ more) → ⊥
    stopped (true, openings, rest, e) = two_not_one 2 1 refl refl (restart_of 0 (first_tid + 1) 2 first_tid 1 openings rest more e)
    stopped (false, openings, rest, e) = two_not_one 2 1 refl refl (restart_of 0 (first_tid + 1) 2 first_tid 1 openings rest more e)
