-- What of the slots keeps standing while the store is called, and what may stand behind a store.
use Rattle.std.proofs.Common.{◌≡◌, ℕ, ◌+◌, ◌<◌, ◌≤◌, inl, inr, List, Option, None, Some, Bool, true, false, refl, sym, ap, ◌∙◌, subst, arith}
use Rattle.std.specs.Prelude.{IsSome}
use Rattle.zbase.specs.Faults.{no_arms}
use Rattle.zbase.specs.History.{History, IsHistory, added}
use Rattle.zbase.specs.HistoryLaws.{added_history, last_grows, prefix_added, upto_stays}
use Rattle.zbase.specs.Values.{last, upto}
use Rattle.evaluator.specs.Exec.{Eval}
use Rattle.evaluator.specs.Facts.{TrueOf}
use Rattle.schedule.specs.Moments.{Attempt, Moment}
use Rattle.fs_store.specs.declared.reads.Seen.{Seen}
use Rattle.fs_store.specs.Seeing.{IsSeen, SeenOn}
use Rattle.fs_store.specs.Stores.{IsTold, Loses, Out, Settles, Stands, StoreView, finished, on_disk, settled}
use Rattle.schedule.specs.Asks.{asks_at}
use Rattle.connection.specs.States.{AreSeen}
use Rattle.txn_core.specs.declared.slot.Slot.{Slot}
use Rattle.txn_core.specs.Slots.{AsksStand, CoreStands, FactsStand, Possible, SlotStands, moment_of}

-- what the one history said up to a transaction, the other says too
abbrev pub Grows : History → History → Type 0
Grows h k = (t : ℕ) → t ≤ last h → (t ≤ last k) × (upto k t ≡ upto h t)

-- all that was true of the old store, whatever a slot knows of it, is true of the new one
pub record Carries (old new : StoreView) : Type 0 where
  pub tells : IsTold old → IsTold new
  pub told : IsTold new → IsTold old
  pub seen : (seen : Seen) → IsSeen old seen → IsSeen new seen
  pub grows : IsTold old → Grows old.history new.history

pub grows_same : (h k : History) → k ≡ h → Grows h k
grows_same h k same = λ t below. rw same (below, refl)

pub carries_self : (s : StoreView) → Carries s s
carries_self s = record { tells = λ t. t; told = λ t. t; seen = λ seen h. h; grows = λ told. grows_same s.history s.history refl }

pub grows_added : (h : History) (o : Out) → IsHistory h → last h < o.transaction.tid → Grows h (added h o.transaction)
grows_added h o good later =
    let longer : IsHistory (added h o.transaction) = added_history h o.transaction good later in
    λ t below. (let end = last_grows (prefix_added h o.transaction) longer in omega (arith, below, end), upto_stays t (prefix_added h o.transaction) longer below)

-- they say the same, their disks aside, and whether they are stale
pub record Alike (a b : StoreView) : Type 0 where
  pub history : a.history ≡ b.history
  pub end : a.end ≡ b.end
  pub limit : a.limit ≡ b.limit
  pub out : a.out ≡ b.out

-- the same store, its disk aside, and whether it is stale
pub record Rests (old new : StoreView) : Type 0 where
  pub alike : Alike old new
  pub undecided : old.undecided ≡ new.undecided

pub alike_self : (s : StoreView) → Alike s s
alike_self s = record { history = refl; end = refl; limit = refl; out = refl }

pub alike_same : (a b : StoreView) → a ≡ b → Alike a b
alike_same a b e = subst (Alike a) e (alike_self a)

pub alike_then : {a b c : StoreView} → Alike a b → Alike b c → Alike a c
alike_then x y = record { history = x.history ∙ y.history; end = x.end ∙ y.end; limit = x.limit ∙ y.limit; out = x.out ∙ y.out }

pub rests_here : (st : StoreView) → Rests st st
rests_here st = record { alike = alike_self st; undecided = refl }

-- a call that changes nothing but the disk leaves the same store
pub rests_over : (old new : StoreView) → new ≡ on_disk old new.disk → Rests old new
rests_over old new same = record {
  alike = alike_then (alike_same old old refl) (record {
    history = sym (ap (λ (s : StoreView). s.history) same);
    end = sym (ap (λ (s : StoreView). s.end) same);
    limit = sym (ap (λ (s : StoreView). s.limit) same);
    out = sym (ap (λ (s : StoreView). s.out) same);
  });
  undecided = sym (ap (λ (s : StoreView). s.undecided) same);
}

pub reads_keep : (old new : StoreView) (reads : List Seen) → Carries old new → AreSeen old reads → AreSeen new reads
reads_keep old new reads carries all = λ i d within. carries.seen _ (all i d within)

-- the moment of these parts
abbrev made_of : {E R S : Type 0} → Eval R → List (Slot E R S) → History → ℕ → Option Out → Moment R
made_of eval sl h end out = moment_of eval (record { history = h; end = end; limit = 0; out = out; undecided = None; stale = false; disk = record { told = None; counter = record { count = 0; sound = false; calls = 0; arms = no_arms }; spare_calls = 0; spare_bytes = 0 } }) sl

pub moment_alike : {E R S : Type 0} (eval : Eval R) (a b : StoreView) (sl : List (Slot E R S)) → Alike a b → moment_of eval a sl ≡ moment_of eval b sl
moment_alike eval a b sl same =
    ap (λ h. made_of eval sl h a.end a.out) same.history ∙ ap (λ e. made_of eval sl b.history e a.out) same.end ∙ ap (made_of eval sl b.history b.end) same.out

-- what may stand behind a store has its vote and its limit
pub possible_same : (st may : StoreView) → Possible st may → (may.out ≡ st.out) × (may.limit ≡ st.limit)
possible_same st may (inl e) = (ap (λ (s : StoreView). s.out) e, ap (λ (s : StoreView). s.limit) e)
possible_same st may (inr (o, u, e)) = (ap (λ (s : StoreView). s.out) e, ap (λ (s : StoreView). s.limit) e)

-- where nothing is undecided, nothing else may stand behind it
pub only : (st may : StoreView) → st.undecided ≡ None → Possible st may → may ≡ st
only st may none (inl e) = e
only st may none (inr (o, u, e)) = absurd (let bad : Some o ≡ None = sym u ∙ none in cc)

-- what may stand behind the new store says what one says that might have stood behind the old
abbrev pub Was : StoreView → StoreView → Type 0
Was old may = (was : StoreView) × Possible old was × Alike was may

pub possible_rests : (old new may : StoreView) → Rests old new → Possible new may → Was old may
possible_rests old new may rests (inl e) = (old, inl refl, alike_then rests.alike (alike_same new may (sym e)))
possible_rests old new may rests (inr (o, u, e)) =
    let a = rests.alike in (
      settled old (Some o) old.disk,
      inr (o, rests.undecided ∙ u, refl),
      alike_then (record { history = ap (λ h. added h o.transaction) a.history; end = ap (λ n. n + o.size) a.end; limit = a.limit; out = a.out }) (alike_same (settled new (Some o) new.disk) may (sym e)),
    )

pub settles_none : (old mid : StoreView) → Settles old mid → mid.undecided ≡ None
settles_none old mid (inl e) = ap (λ (s : StoreView). s.undecided) e
settles_none old mid (inr (o, u, e)) = ap (λ (s : StoreView). s.undecided) e

pub settles_out : (old mid : StoreView) → Settles old mid → mid.out ≡ old.out
settles_out old mid (inl e) = ap (λ (s : StoreView). s.out) e
settles_out old mid (inr (o, u, e)) = ap (λ (s : StoreView). s.out) e

pub settles_limit : (old mid : StoreView) → Settles old mid → mid.limit ≡ old.limit
settles_limit old mid (inl e) = ap (λ (s : StoreView). s.limit) e
settles_limit old mid (inr (o, u, e)) = ap (λ (s : StoreView). s.limit) e

pub settles_fresh : (old mid : StoreView) → Settles old mid → mid.stale ≡ false
settles_fresh old mid (inl e) = ap (λ (s : StoreView). s.stale) e
settles_fresh old mid (inr (o, u, e)) = ap (λ (s : StoreView). s.stale) e

pub possible_settles : (old mid may : StoreView) → Settles old mid → Possible mid may → Was old may
possible_settles old mid may (inl e) p =
    let same : may ≡ mid = only mid may (ap (λ (s : StoreView). s.undecided) e) p in
    (old, inl refl, alike_then (record { history = refl; end = refl; limit = refl; out = refl }) (alike_same (settled old None mid.disk) may (sym e ∙ sym same)))
possible_settles old mid may (inr (o, u, e)) p =
    let same : may ≡ mid = only mid may (ap (λ (s : StoreView). s.undecided) e) p in
    (settled old (Some o) old.disk, inr (o, u, refl), alike_then (record { history = refl; end = refl; limit = refl; out = refl }) (alike_same (settled old (Some o) mid.disk) may (sym e ∙ sym same)))

-- an undecided transaction is behind the last one
abbrev pub IsLater : StoreView → Type 0
IsLater s = (o : Out) → s.undecided ≡ Some o → last s.history < o.transaction.tid

-- a history only grows: where the store is opened again, whatever a call leaves, and where its vote stands
pub grows_settles : (old mid : StoreView) → Settles old mid → IsHistory old.history → IsLater old → Grows old.history mid.history
grows_settles old mid (inl e) good later = grows_same old.history mid.history (ap (λ (s : StoreView). s.history) e)
grows_settles old mid (inr (o, u, e)) good later = subst (Grows old.history) (sym (ap (λ (s : StoreView). s.history) e)) (grows_added old.history o good (later o u))

pub grows_stands : (old new : StoreView) → Stands old new → IsHistory old.history → IsLater old → Grows old.history new.history
grows_stands old new (inl e) good later = grows_same old.history new.history (ap (λ (s : StoreView). s.history) e)
grows_stands old new (inr settles) good later = grows_settles old new settles good later

pub grows_loses : (old new : StoreView) → Loses old new → IsHistory old.history → IsLater old → Grows old.history new.history
grows_loses old new (inl e) good later = grows_same old.history new.history (ap (λ (s : StoreView). s.history) e)
grows_loses old new (inr (mid, settles, e)) good later = subst (Grows old.history) (sym (ap (λ (s : StoreView). s.history) e)) (grows_settles old mid settles good later)

pub grows_finished : (old new : StoreView) (o : Out) → old.out ≡ Some o → new ≡ finished old old.out new.disk → IsHistory old.history → last old.history < o.transaction.tid → Grows old.history new.history
grows_finished old new o is done good later =
    let stands : new.history ≡ added old.history o.transaction = ap (λ (s : StoreView). s.history) (done ∙ ap (λ out. finished old out new.disk) is) in
    subst (Grows old.history) (sym stands) (grows_added old.history o good later)

-- ---- slots

pub facts_carried : {R : Type 0} (old new : StoreView) (a : Attempt R) → Carries old new → (IsTold old → FactsStand old a) → IsTold new → FactsStand new a
facts_carried old new a carries stands told =
    let was : IsTold old = carries.told told in
    let s : FactsStand old a = stands was in
    let g = carries.grows was a.snapshot s.below in
    record { below = g.0; facts = subst (TrueOf a.facts) (sym g.1) s.facts }

pub asks_carried : {R : Type 0} (eval : Eval R) (old new : StoreView) (a : Attempt R) → Carries old new → (IsTold old → AsksStand eval old a) → IsTold new → AsksStand eval new a
asks_carried eval old new a carries stands told =
    let was : IsTold old = carries.told told in
    let s : AsksStand eval old a = stands was in
    let g = carries.grows was a.snapshot s.below in
    record { below = g.0; asks = s.asks ∙ ap (λ h. asks_at eval h a.request) (sym g.1) }

abbrev pub IsPending : {E R S : Type 0} → Option (Slot E R S) → Type 0
IsPending (Some (Slot.Pending p)) = Unit {0}
IsPending _ = ⊥

-- a slot that holds no vote stands over every store that knows as much
pub slot_free : {E R S : Type 0} (eval : Eval R) (old new : StoreView) (w : ℕ) (s : Slot E R S) → Carries old new → (IsPending (Some s) → ⊥) → SlotStands eval old w s → SlotStands eval new w s
slot_free eval old new w Slot.Idle carries n h = tt
slot_free eval old new w (Slot.Fresh f) carries n h = tt
slot_free eval old new w (Slot.Active a) carries n h = (h.0, reads_keep old new a.reads carries h.1, facts_carried old new a.attempt carries h.2)
slot_free eval old new w (Slot.Computed a) carries n h = (h.0, h.1, h.2, h.3, reads_keep old new a.reads carries h.4, asks_carried eval old new a.attempt carries h.5)
slot_free eval old new w (Slot.Pending p) carries n h = absurd (n tt)

-- so does one that holds the vote, where the store has it still
pub slot_over : {E R S : Type 0} (eval : Eval R) (old new : StoreView) (w : ℕ) (s : Slot E R S) → Carries old new → new.out ≡ old.out → SlotStands eval old w s → SlotStands eval new w s
slot_over eval old new w Slot.Idle carries out h = tt
slot_over eval old new w (Slot.Fresh f) carries out h = tt
slot_over {E} {R} {S} eval old new w (Slot.Active a) carries out h = slot_free {E = E} {R = R} {S = S} eval old new w (Slot.Active a) carries (λ k. k) h
slot_over {E} {R} {S} eval old new w (Slot.Computed a) carries out h = slot_free {E = E} {R = R} {S = S} eval old new w (Slot.Computed a) carries (λ k. k) h
slot_over eval old new w (Slot.Pending p) carries out h = ((h.0.0, out ∙ h.0.1, h.0.2, h.0.3), (h.1.0, h.1.1, asks_carried eval old new p.attempt carries h.1.2))

-- the settled store over another disk that shows the same
pub settles_over : (old mid new : StoreView) → Settles old mid → Settles old (on_disk mid new.disk)
settles_over old mid new (inl e) = inl (ap (λ (s : StoreView). on_disk s new.disk) e)
settles_over old mid new (inr (o, u, e)) = inr (o, u, ap (λ (s : StoreView). on_disk s new.disk) e)

-- the same store
pub rests_same : (old new : StoreView) → new ≡ old → Rests old new
rests_same old new same = record { alike = alike_same old new (sym same); undecided = sym (ap (λ (s : StoreView). s.undecided) same) }

-- a store with a vote out isn't stale, so nothing is undecided
pub voter_decided : (st : StoreView) (o : Out) → st.out ≡ Some o → (st.stale ≡ true → st.out ≡ None) → (st.stale ≡ false → st.undecided ≡ None) → st.undecided ≡ None
voter_decided st o is idle decided = go st.stale refl
  where
    go : (b : Bool) → st.stale ≡ b → st.undecided ≡ None
    go true e = absurd (let bad : Some o ≡ None = sym is ∙ idle e in cc)
    go false e = decided e

-- the same store over another disk that tells the same
pub carries_on_disk : (old new : StoreView) → new ≡ on_disk old new.disk → new.disk.told ≡ old.disk.told → Carries old new
carries_on_disk old new same told =
    let end : new.end ≡ old.end = ap (λ (s : StoreView). s.end) same in
    record {
      tells = λ t. subst IsSome (sym told) t;
      told = λ t. subst IsSome told t;
      seen = λ seen h. subst (λ d. SeenOn d new.end seen) (sym told) (subst (λ e. SeenOn old.disk.told e seen) (sym end) h);
      grows = λ t. grows_same old.history new.history (ap (λ (s : StoreView). s.history) same);
    }

pub stands_on_disk : {E R S : Type 0} (eval : Eval R) (old new : StoreView) (sl : List (Slot E R S)) → new ≡ on_disk old new.disk → new.disk.told ≡ old.disk.told → CoreStands eval old sl → CoreStands eval new sl
stands_on_disk {E} {R} {S} eval old new sl same told all =
    let out : new.out ≡ old.out = ap (λ (s : StoreView). s.out) same in
    record {
      count = all.count;
      each = λ v s e. slot_over {E = E} {R = R} {S = S} eval old new v s (carries_on_disk old new same told) out (all.each v s e);
      voter = λ o e. all.voter o (sym out ∙ e);
    }

-- ---- a store that isn't stale

pub stands_fresh : (old new : StoreView) → Stands old new → old.stale ≡ false → new.stale ≡ false
stands_fresh old new (inl same) fresh = ap (λ (s : StoreView). s.stale) same ∙ fresh
stands_fresh old new (inr settles) fresh = settles_fresh old new settles
