-- The openings that follow a stop, and what the lines of a restart make of the queue.
use Rattle.std.proofs.Common.{◌≡◌, ℕ, ◌+◌, true, false, List, [], ◌∷◌, ◌++◌, map, Some, refl, sym, ap, ◌∙◌, subst}
use Rattle.std.specs.List.{enumerate_from, filter_map}
use Rattle.schedule.specs.declared.line.Line.{Line}
use Rattle.schedule.specs.Armed.{Queue, after_lines}
use Rattle.schedule.specs.Armed.{hit as licence_hit}
use Rattle.schedule.specs.Moments.{Doing, Free, Waiting, Asking, Computed, Moment, lost_line, lost_lines}
use Rattle.schedule.specs.Stepping.{Opening, Stops, Faults, opening_line}
use Rattle.zbase.specs.Faults.{Arms, Spends, calls_of_first, hit}
use Rattle.schedule.specs.Queues.{IsQueueOf, hit_begins, queue_hit, queue_resumed, queue_spends, resumed}

-- The openings that followed a stop: each but the last hit the first entry, a stop or a failure; the last succeeded.
abbrev pub OpeningsOf : Arms → List Opening → Arms → Type 0
OpeningsOf a [] b = Spends a b
OpeningsOf a (Stops ∷ os) b = (mid : Arms) × (a.queue ≡ [] → ⊥) × (mid ≡ hit a) × (mid.stopped ≡ true) × OpeningsOf (resumed mid) os b
OpeningsOf a (Faults ∷ os) b = (mid : Arms) × (a.queue ≡ [] → ⊥) × (mid ≡ hit a) × (mid.stopped ≡ false) × OpeningsOf mid os b

-- the queue behind these lines
abbrev pub Leaves : Queue → List Line → Arms → Type 0
Leaves k lines b = (next : Queue) × (after_lines (Some k) lines ≡ Some next) × IsQueueOf next b

begins : (mid a : Arms) → mid ≡ hit a → mid.left ≡ calls_of_first mid.queue
begins mid a e = subst (λ (m : Arms). m.left ≡ calls_of_first m.queue) (sym e) (hit_begins a)

pub openings_queued : (k : Queue) (a b : Arms) (os : List Opening) (t n : ℕ) → IsQueueOf k a → a.stopped ≡ false → OpeningsOf a os b → Leaves k (map opening_line os ++ Line.Restart t n ∷ []) b
openings_queued k a b [] t n is runs o = (k, refl, queue_spends k a b is o)
openings_queued k a b (Stops ∷ os) t n is runs o =
    let h = queue_hit k a o.0 is runs o.1 o.2 in
    let here : licence_hit true k.arms ≡ Some h.0 = subst (λ s. licence_hit s k.arms ≡ Some h.0) o.3 h.1 in
    let rest = openings_queued h.0 (resumed o.0) b os t n (queue_resumed h.0 o.0 h.2 (begins o.0 a o.2)) refl o.4 in
    (rest.0, ap (λ q. after_lines q (map opening_line os ++ Line.Restart t n ∷ [])) here ∙ rest.1, rest.2)
openings_queued k a b (Faults ∷ os) t n is runs o =
    let h = queue_hit k a o.0 is runs o.1 o.2 in
    let here : licence_hit false k.arms ≡ Some h.0 = subst (λ s. licence_hit s k.arms ≡ Some h.0) o.3 h.1 in
    let rest = openings_queued h.0 o.0 b os t n h.2 o.3 o.4 in
    (rest.0, ap (λ q. after_lines q (map opening_line os ++ Line.Restart t n ∷ [])) here ∙ rest.1, rest.2)

lost_first : {R : Type 0} (k : Queue) (i : ℕ) (d : Doing R) (ds : List (Doing R)) (rest : List Line) → ((j : ℕ) → after_lines (Some k) (filter_map lost_line (enumerate_from j ds) ++ rest) ≡ after_lines (Some k) rest) → after_lines (Some k) (filter_map lost_line (enumerate_from i (d ∷ ds)) ++ rest) ≡ after_lines (Some k) rest
lost_first k i Free ds rest more = more (i + 1)
lost_first k i (Waiting q cs) ds rest more = more (i + 1)
lost_first k i (Asking a) ds rest more = more (i + 1)
lost_first k i (Computed a x d) ds rest more = more (i + 1)

lost_quiet : {R : Type 0} (k : Queue) (i : ℕ) (ds : List (Doing R)) (rest : List Line) → after_lines (Some k) (filter_map lost_line (enumerate_from i ds) ++ rest) ≡ after_lines (Some k) rest
lost_quiet k i [] rest = refl
lost_quiet k i (d ∷ ds) rest = lost_first k i d ds rest (λ j. lost_quiet k j ds rest)

-- A stop, the requests that it cut off, the openings and the restart: what the disk has armed is what the rule leaves.
pub restart_queued : {R : Type 0} (k : Queue) (old new b : Arms) (m : Moment R) (os : List Opening) (t n : ℕ) → IsQueueOf k old → old.stopped ≡ false → (old.queue ≡ [] → ⊥) → new ≡ hit old → new.stopped ≡ true → OpeningsOf (resumed new) os b
    → Leaves k (Line.Stop ∷ (lost_lines m ++ (map opening_line os ++ Line.Restart t n ∷ []))) b
restart_queued k old new b m os t n is runs some e stops o =
    let h = queue_hit k old new is runs some e in
    let here : licence_hit true k.arms ≡ Some h.0 = subst (λ s. licence_hit s k.arms ≡ Some h.0) stops h.1 in
    let rest = openings_queued h.0 (resumed new) b os t n (queue_resumed h.0 new h.2 (begins new old e)) refl o in
    let behind = map opening_line os ++ Line.Restart t n ∷ [] in
    (rest.0, ap (λ q. after_lines q (lost_lines m ++ behind)) here ∙ lost_quiet h.0 0 m.workers behind ∙ rest.1, rest.2)

-- A stop in a pack, the openings and the restart: no request is lost.
pub pack_restart_queued : (k : Queue) (old new b : Arms) (os : List Opening) (t n : ℕ) → IsQueueOf k old → old.stopped ≡ false → (old.queue ≡ [] → ⊥) → new ≡ hit old → new.stopped ≡ true → OpeningsOf (resumed new) os b
    → Leaves k (Line.Stop ∷ (map opening_line os ++ Line.Restart t n ∷ [])) b
pack_restart_queued k old new b os t n is runs some e stops o =
    let h = queue_hit k old new is runs some e in
    let here : licence_hit true k.arms ≡ Some h.0 = subst (λ s. licence_hit s k.arms ≡ Some h.0) stops h.1 in
    let rest = openings_queued h.0 (resumed new) b os t n (queue_resumed h.0 new h.2 (begins new old e)) refl o in
    (rest.0, ap (λ q. after_lines q (map opening_line os ++ Line.Restart t n ∷ [])) here ∙ rest.1, rest.2)

-- a failure in a pack
pub pack_fault_queued : (k : Queue) (old new : Arms) → IsQueueOf k old → old.stopped ≡ false → (old.queue ≡ [] → ⊥) → new ≡ hit old → new.stopped ≡ false → Leaves k (Line.PackFault ∷ []) new
pack_fault_queued k old new is runs some e goes =
    let h = queue_hit k old new is runs some e in
    let here : licence_hit false k.arms ≡ Some h.0 = subst (λ s. licence_hit s k.arms ≡ Some h.0) goes h.1 in
    (h.0, ap (λ q. after_lines q []) here, h.2)
