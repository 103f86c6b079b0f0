-- What the lines of a step say of faults, stops and replies.
use Rattle.std.proofs.Common.{◌≡◌, ◌≢◌, ℕ, ◌==◌, Bool, true, false, List, [], ◌∷◌, ◌++◌, map, append-nil, if◌then◌else◌, Option, Some, None, refl, sym, ap, ◌∙◌, arith, eq-eqb, eqb-true}
use Rattle.std.specs.List.{list_any}
use Rattle.evaluator.specs.declared.reply.Denial.{Denial}
use Rattle.evaluator.specs.declared.reply.Reply.{Reply}
use Rattle.evaluator.specs.declared.reply.Shown.{Shown}
use Rattle.schedule.specs.declared.line.Line.{Line}
use Rattle.schedule.specs.Causes.{by_oid, denied_line, shown_lines}
use Rattle.schedule.specs.Counted.{is_stop}
use Rattle.schedule.specs.Entries.{faults}
use Rattle.fs_store.specs.declared.refusal.Spent.{Spent}
use Rattle.http_out.specs.Replies.{answer}
use Rattle.txn_core.specs.declared.step_line.StepLine.{StepLine}
use Rattle.txn_core.specs.StepLines.{IsFaultLine, step_lines}
use Rattle.txn_core.specs.Replying.{final}
use Rattle.zserve.specs.Turns.{has_reply, reply_among, sooner}

-- ---- lines of shown and denied objects

shown_any : (b : Line → Bool) (w : ℕ) → ((o : ℕ) (role : List ℕ) → b (Line.Shown w o role) ≡ false) → (ss : List Shown) (rest : List Line) → list_any b (map (λ s. Line.Shown w s.oid s.role) ss ++ rest) ≡ list_any b rest
shown_any b w none [] rest = refl
shown_any b w none (s ∷ ss) rest = rw (none s.oid s.role) (shown_any b w none ss rest)

shown_faults : (w : ℕ) (ss : List Shown) (rest : List Line) → faults (map (λ s. Line.Shown w s.oid s.role) ss ++ rest) ≡ faults rest
shown_faults w [] rest = refl
shown_faults w (s ∷ ss) rest = (let more = shown_faults w ss rest in omega (arith, more))

shown_replies : (v w : ℕ) (ss : List Shown) (rest : List Line) → reply_among v (map (λ s. Line.Shown w s.oid s.role) ss ++ rest) ≡ reply_among v rest
shown_replies v w [] rest = refl
shown_replies v w (s ∷ ss) rest = shown_replies v w ss rest

denied_any : (b : Line → Bool) (w : ℕ) → ((o p : ℕ) → b (Line.Denied w o p) ≡ false) → (d : Option Denial) → list_any b (denied_line w d) ≡ false
denied_any b w none None = refl
denied_any b w none (Some d) = rw (none d.oid d.permission) refl

denied_faults : (w : ℕ) (d : Option Denial) → faults (denied_line w d) ≡ 0
denied_faults w None = refl
denied_faults w (Some d) = refl

denied_replies : (v w : ℕ) (d : Option Denial) → reply_among v (denied_line w d) ≡ None
denied_replies v w None = refl
denied_replies v w (Some d) = refl

behind_faults : (w : ℕ) (x : Reply) → faults (shown_lines w x ++ denied_line w x.denied) ≡ 0
behind_faults w x = shown_faults w (by_oid x.shown) (denied_line w x.denied) ∙ denied_faults w x.denied

alone_faults : (w : ℕ) (x : Reply) → faults (shown_lines w x) ≡ 0
alone_faults w x = ap faults (sym (append-nil (shown_lines w x))) ∙ shown_faults w (by_oid x.shown) []

-- ---- faults

pub fault_counts : (w : ℕ) (line : StepLine) → IsFaultLine line → faults (step_lines answer w line) ≡ 1
fault_counts w StepLine.DiskFault f = refl
fault_counts w (StepLine.Unknown t) f = refl
fault_counts w _ f = absurd f

pub calm_counts : (w : ℕ) (line : StepLine) → (IsFaultLine line → ⊥) → faults (step_lines answer w line) ≡ 0
calm_counts w StepLine.DiskFault f = absurd (f tt)
calm_counts w (StepLine.Unknown t) f = absurd (f tt)
calm_counts w StepLine.Idle f = refl
calm_counts w (StepLine.Begun t) f = refl
calm_counts w (StepLine.Fetched ask) f = refl
calm_counts w StepLine.Computed f = refl
calm_counts w (StepLine.Busy v) f = refl
calm_counts w (StepLine.Voted t) f = refl
calm_counts w (StepLine.Conflict c) f = refl
calm_counts w (StepLine.GivenUp cs) f = refl
calm_counts w (StepLine.Spent Spent.Tids) f = refl
calm_counts w (StepLine.Spent (Spent.Oids o n)) f = refl
calm_counts w (StepLine.Spent (Spent.Full n l)) f = refl
calm_counts w StepLine.Memory f = refl
calm_counts w (StepLine.Read x t) f = (let e = behind_faults w x in omega (arith, e))
calm_counts w (StepLine.Commit x t) f = (let e = alone_faults w x in omega (arith, e))

pub fault_or_not : (line : StepLine) → (T : Type 0) → (IsFaultLine line → T) → ((IsFaultLine line → ⊥) → T) → T
fault_or_not StepLine.DiskFault T yes_ no_ = yes_ tt
fault_or_not (StepLine.Unknown t) T yes_ no_ = yes_ tt
fault_or_not StepLine.Idle T yes_ no_ = no_ (λ f. f)
fault_or_not (StepLine.Begun t) T yes_ no_ = no_ (λ f. f)
fault_or_not (StepLine.Fetched ask) T yes_ no_ = no_ (λ f. f)
fault_or_not StepLine.Computed T yes_ no_ = no_ (λ f. f)
fault_or_not (StepLine.Busy v) T yes_ no_ = no_ (λ f. f)
fault_or_not (StepLine.Voted t) T yes_ no_ = no_ (λ f. f)
fault_or_not (StepLine.Conflict c) T yes_ no_ = no_ (λ f. f)
fault_or_not (StepLine.GivenUp cs) T yes_ no_ = no_ (λ f. f)
fault_or_not (StepLine.Spent s) T yes_ no_ = no_ (λ f. f)
fault_or_not StepLine.Memory T yes_ no_ = no_ (λ f. f)
fault_or_not (StepLine.Read x t) T yes_ no_ = no_ (λ f. f)
fault_or_not (StepLine.Commit x t) T yes_ no_ = no_ (λ f. f)

-- ---- no step prints a stop

pub never_stops : (w : ℕ) (line : StepLine) → list_any is_stop (step_lines answer w line) ≡ false
never_stops w StepLine.Idle = refl
never_stops w (StepLine.Begun t) = refl
never_stops w (StepLine.Fetched ask) = refl
never_stops w StepLine.Computed = refl
never_stops w (StepLine.Busy v) = refl
never_stops w (StepLine.Voted t) = refl
never_stops w (StepLine.Conflict c) = refl
never_stops w (StepLine.GivenUp cs) = refl
never_stops w (StepLine.Spent Spent.Tids) = refl
never_stops w (StepLine.Spent (Spent.Oids o n)) = refl
never_stops w (StepLine.Spent (Spent.Full n l)) = refl
never_stops w StepLine.Memory = refl
never_stops w StepLine.DiskFault = refl
never_stops w (StepLine.Unknown t) = refl
never_stops w (StepLine.Read x t) = shown_any is_stop w (λ o role. refl) (by_oid x.shown) (denied_line w x.denied) ∙ denied_any is_stop w (λ o p. refl) x.denied
never_stops w (StepLine.Commit x t) = ap (list_any is_stop) (sym (append-nil (shown_lines w x))) ∙ shown_any is_stop w (λ o role. refl) (by_oid x.shown) []

-- ---- replies

abbrev pub is_there : Option (List ℕ) → Bool
is_there None = false
is_there (Some bytes) = true

pub has_final : (w : ℕ) (line : StepLine) → has_reply (step_lines answer w line) ≡ is_there (final line)
has_final w StepLine.Idle = refl
has_final w (StepLine.Begun t) = refl
has_final w (StepLine.Fetched ask) = refl
has_final w StepLine.Computed = refl
has_final w (StepLine.Busy v) = refl
has_final w (StepLine.Voted t) = refl
has_final w (StepLine.Conflict c) = refl
has_final w (StepLine.GivenUp cs) = refl
has_final w (StepLine.Spent Spent.Tids) = refl
has_final w (StepLine.Spent (Spent.Oids o n)) = refl
has_final w (StepLine.Spent (Spent.Full n l)) = refl
has_final w StepLine.Memory = refl
has_final w StepLine.DiskFault = refl
has_final w (StepLine.Unknown t) = refl
has_final w (StepLine.Read x t) = refl
has_final w (StepLine.Commit x t) = refl

here : (w : ℕ) (bytes : List ℕ) (r : Option (List ℕ)) → sooner (if w == w then Some bytes else None) r ≡ Some bytes
here w bytes r = rw (eq-eqb w w refl) refl

pub final_here : (w : ℕ) (line : StepLine) → reply_among w (step_lines answer w line) ≡ final line
final_here w StepLine.Idle = refl
final_here w (StepLine.Begun t) = refl
final_here w (StepLine.Fetched ask) = refl
final_here w StepLine.Computed = refl
final_here w (StepLine.Busy v) = refl
final_here w (StepLine.Voted t) = refl
final_here w (StepLine.Conflict c) = refl
final_here w (StepLine.GivenUp cs) = here w _ None
final_here w (StepLine.Spent Spent.Tids) = here w _ None
final_here w (StepLine.Spent (Spent.Oids o n)) = here w _ None
final_here w (StepLine.Spent (Spent.Full n l)) = here w _ None
final_here w StepLine.Memory = here w _ None
final_here w StepLine.DiskFault = here w _ None
final_here w (StepLine.Unknown t) = here w _ None
final_here w (StepLine.Read x t) = here w _ (reply_among w (shown_lines w x ++ denied_line w x.denied))
final_here w (StepLine.Commit x t) = here w _ (reply_among w (shown_lines w x))

apart : (w v : ℕ) → v ≢ w → (w == v) ≡ false
apart w v differs = go (w == v) refl
  where
    go : (b : Bool) → (w == v) ≡ b → (w == v) ≡ false
    go false e = e
    go true e = absurd (differs (sym (eqb-true w v e)))

elsewhere : (w v : ℕ) (bytes : List ℕ) (r : Option (List ℕ)) → v ≢ w → sooner (if w == v then Some bytes else None) r ≡ r
elsewhere w v bytes r differs = rw (apart w v differs) refl

pub final_elsewhere : (w v : ℕ) (line : StepLine) → v ≢ w → reply_among v (step_lines answer w line) ≡ None
final_elsewhere w v StepLine.Idle d = refl
final_elsewhere w v (StepLine.Begun t) d = refl
final_elsewhere w v (StepLine.Fetched ask) d = refl
final_elsewhere w v StepLine.Computed d = refl
final_elsewhere w v (StepLine.Busy u) d = refl
final_elsewhere w v (StepLine.Voted t) d = refl
final_elsewhere w v (StepLine.Conflict c) d = refl
final_elsewhere w v (StepLine.GivenUp cs) d = elsewhere w v _ None d
final_elsewhere w v (StepLine.Spent Spent.Tids) d = elsewhere w v _ None d
final_elsewhere w v (StepLine.Spent (Spent.Oids o n)) d = elsewhere w v _ None d
final_elsewhere w v (StepLine.Spent (Spent.Full n l)) d = elsewhere w v _ None d
final_elsewhere w v StepLine.Memory d = elsewhere w v _ None d
final_elsewhere w v StepLine.DiskFault d = elsewhere w v _ None d
final_elsewhere w v (StepLine.Unknown t) d = elsewhere w v _ None d
final_elsewhere w v (StepLine.Read x t) d = elsewhere w v _ (reply_among v (shown_lines w x ++ denied_line w x.denied)) d ∙ shown_replies v w (by_oid x.shown) (denied_line w x.denied) ∙ denied_replies v w x.denied
final_elsewhere w v (StepLine.Commit x t) d = elsewhere w v _ (reply_among v (shown_lines w x)) d ∙ ap (reply_among v) (sym (append-nil (shown_lines w x))) ∙ shown_replies v w (by_oid x.shown) []
