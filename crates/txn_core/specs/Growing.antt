-- What a step of a core makes of the history that is known.
use Rattle.std.proofs.Common.{◌≡◌, ℕ, List, inl, inr, refl, sym, ap, subst}
use Rattle.zbase.specs.History.{IsPrefixOf}
use Rattle.zbase.specs.HistoryLaws.{prefix_added, prefix_refl, prefix_trans}
use Rattle.evaluator.specs.Exec.{Eval}
use Rattle.schedule.specs.declared.item.Item2.{Item2}
use Rattle.schedule.specs.declared.line.Line.{Line}
use Rattle.schedule.specs.Follows.{Follows}
use Rattle.schedule.specs.Moments.{Moment, Terms, clocked}
use Rattle.schedule.specs.StepLaws.{TellsLast, steps_grow, steps_tell_last}
use Rattle.fs_store.specs.Stores.{StoreView}
use Rattle.txn_core.specs.Cores.{CoreView, MayBe}
use Rattle.txn_core.specs.Slots.{Possible, moment_of}

-- what is known is a prefix of what may stand
pub possible_grows : (s may : StoreView) → Possible s may → IsPrefixOf s.history may.history
possible_grows s may (inl e) = subst (λ (k : StoreView). IsPrefixOf s.history k.history) (sym e) (prefix_refl s.history)
possible_grows s may (inr (o, u, e)) = subst (λ (k : StoreView). IsPrefixOf s.history k.history) (sym e) (prefix_added s.history o.transaction)

-- the known history stays or gets longer, and a commit reply has the id of its last transaction
abbrev pub StepGrows : {E R S : Type 0} → CoreView E R S → CoreView E R S → List Line → Type 0
StepGrows old new lines = IsPrefixOf old.store.history new.store.history × TellsLast lines new.store.history

-- each step does so
pub step_grows : {E R S : Type 0} (eval : Eval R) (terms : Terms R) (w now : ℕ) (old new : CoreView E R S) (lines : List Line) → Follows terms (MayBe eval old) now (MayBe eval new) now (Item2.Step w) lines → StepGrows old new lines
step_grows {E} {R} {S} eval terms w now old new lines follows =
    let m : Moment R = moment_of eval new.store new.slots in
    let f = follows m (new.store, inl refl, refl) in
    let was = f.1 in
    let stood : f.0.standing ≡ was.0.history = ap (λ (k : Moment R). k.standing) was.2 in
    let from_was : IsPrefixOf was.0.history new.store.history = subst (λ h. IsPrefixOf h new.store.history) stood (steps_grow terms (clocked f.0 now) (clocked m now) w lines f.2) in
    (prefix_trans (possible_grows old.store was.0 was.1) from_was, steps_tell_last terms (clocked f.0 now) (clocked m now) w lines f.2)
