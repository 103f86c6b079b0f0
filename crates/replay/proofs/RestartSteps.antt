-- A step that a stop cut off, with the restart behind it, is one of the table's, whatever may have stood before it.
use Rattle.std.proofs.Common.{◌≡◌, ℕ, false, List, map, replicate, Option, None, refl, sym, ap, ◌∙◌, subst, inl, inr}
use Rattle.zbase.specs.History.{History}
use Rattle.evaluator.specs.Exec.{Eval}
use Rattle.schedule.specs.declared.item.Item2.{Item2}
use Rattle.schedule.specs.declared.line.Line.{Line}
use Rattle.schedule.specs.Follows.{Follows}
use Rattle.schedule.specs.Moments.{Terms, Doing, Free, Moment, Vote, clocked, emptied, lost_lines}
use Rattle.schedule.specs.Stepping.{Opening, Steps, restarted}
use Rattle.schedule.specs.StoppedSteps.{is_plain, stopped_step}
use Rattle.fs_store.specs.Stores.{Out, StoreView}
use Rattle.txn_core.specs.Cores.{CoreView, IsAtRest, MayBe}
use Rattle.txn_core.specs.Slots.{Possible, doing_of, moment_of, vote_of}
use Rattle.replay.specs.Restarts.{Reopens, restart_lines}

-- where nothing is undecided, no other store may stand behind this one
pub only : (s may : StoreView) → s.undecided ≡ None → Possible s may → may ≡ s
only s may none (inl e) = e
only s may none (inr (o, u, e)) = absurd cc

-- a core at rest is at one moment: that of its store, with no request
rest_moment : {E R S : Type 0} (eval : Eval R) (core : CoreView E R S) (may : StoreView) (m : Moment R) (now : ℕ) → IsAtRest eval core → core.store.undecided ≡ None → core.store.history ≡ may.history → core.store.end ≡ may.end → MayBe eval core m
    → clocked m now ≡ record { standing = may.history; end = may.end; clock = now; vote = None; workers = replicate 16 Free }
rest_moment {E} {R} {S} eval core may m now rest decided history end may_be =
    let st : may_be.0 ≡ core.store = only core.store may_be.0 decided may_be.1 in
    let at : m ≡ moment_of eval core.store core.slots = may_be.2 ∙ ap (λ s. moment_of eval s core.slots) st in
    let made : History → ℕ → Option Vote → List (Doing R) → Moment R = (λ h e v k. record { standing = h; end = e; clock = now; vote = v; workers = k }) in
    ap (λ k. clocked k now) at
    ∙ ap (λ (out : Option Out). made core.store.history core.store.end (vote_of core.slots out) (map (doing_of eval) core.slots)) rest.0
    ∙ ap (λ h. made h core.store.end None (map (doing_of eval) core.slots)) history
    ∙ ap (λ e. made may.history e None (map (doing_of eval) core.slots)) end
    ∙ ap (made may.history may.end None) rest.1

-- which requests are lost doesn't depend on which store stands behind the core
same_lost : {E R S : Type 0} (eval : Eval R) (core : CoreView E R S) (m : Moment R) (now : ℕ) → MayBe eval core m → lost_lines (clocked m now) ≡ lost_lines (moment_of eval core.store core.slots)
same_lost eval core m now may_be = ap (λ k. lost_lines (clocked k now)) may_be.2

-- The headline's step: from each moment at which the core might have been before the step, by the lines of a stop, to
-- that of the core that was made anew.
pub restart_follows : {E R S : Type 0} (eval : Eval R) (terms : Terms R) (w now : ℕ) (old mid new : CoreView E R S) (lines lost : List Line) (openings : List Opening)
    → Follows terms (MayBe eval old) now (MayBe eval mid) now (Item2.Step w) lines → is_plain lines ≡ false → Reopens mid.store new.store → IsAtRest eval new → new.store.undecided ≡ None → lost ≡ lost_lines (moment_of eval old.store old.slots)
    → Follows terms (MayBe eval old) now (MayBe eval new) now (Item2.Step w) (restart_lines lost openings new.store.history)
restart_follows {E} {R} {S} eval terms w now old mid new lines lost openings follows fault reopens rest decided lost_are = λ m may_be.
    let at : Moment R = moment_of eval reopens.may mid.slots in
    let f = follows at (reopens.may, reopens.possible, refl) in
    let from : Moment R = clocked f.0 now in
    let to : Moment R = clocked at now in
    let step : Steps terms from w (restarted (lost_lines from) openings to).0 (emptied to) = stopped_step terms from to w lines openings f.2 fault in
    let after : emptied to ≡ clocked m now = sym (rest_moment eval new reopens.may m now rest decided reopens.history reopens.end may_be) in
    let are : (restarted (lost_lines from) openings to).0 ≡ restart_lines lost openings new.store.history =
    ap (λ ls. restart_lines ls openings reopens.may.history) (same_lost eval old f.0 now f.1 ∙ sym lost_are) ∙ ap (restart_lines lost openings) (sym reopens.history) in
    (f.0, f.1, subst (λ k. Steps terms from w k (clocked m now)) are (subst (λ k. Steps terms from w (restarted (lost_lines from) openings to).0 k) after step))
