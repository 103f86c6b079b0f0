-- A loop over a schedule keeps what it has to over a pack, whatever the pack came to.
use Rattle.std.proofs.Common.{◌≡◌, ℕ, ◌+◌, false, true, List, [], ◌∷◌, ◌++◌, map, length, refl, sym, ap, ◌∙◌, subst, arith}
use Rattle.zbase.specs.Faults.{Arms, Counter, Counts, Spends, hit}
use Rattle.zbase.specs.History.{History, IsHistory, IsPrefixOf}
use Rattle.zbase.specs.Values.{last}
use Rattle.zdisk.specs.Arming.{taking}
use Rattle.evaluator.specs.Exec.{Eval}
use Rattle.schedule.specs.declared.item.Item2.{Item2}
use Rattle.schedule.specs.declared.line.Line.{Line}
use Rattle.schedule.specs.Armed.{Queue}
use Rattle.schedule.specs.ArmedRuns.{Licenses}
use Rattle.schedule.specs.Entries.{HitsMore, faults}
use Rattle.schedule.specs.EntryLaws.{entered_more, hits_none, hits_one, hits_openings, hits_then}
use Rattle.schedule.specs.Explained.{history_lines}
use Rattle.schedule.specs.Follows.{Follows}
use Rattle.schedule.specs.Moments.{Terms}
use Rattle.schedule.specs.Openings.{Leaves, OpeningsOf, pack_fault_queued, pack_restart_queued}
use Rattle.schedule.specs.PackLaws.{packed_faultless, packed_licensed}
use Rattle.schedule.specs.Queues.{IsQueueOf, queue_spends, resumed}
use Rattle.schedule.specs.Stepping.{Faults, Opening, Stops, opening_line}
use Rattle.fs_store.specs.Stores.{IsTold}
use Rattle.connection.specs.Telling.{TellsOn, tells_forth}
use Rattle.txn_core.specs.Cores.{CoreView, MayBe}
use Rattle.replay.specs.Kept.{Kept}
use Rattle.replay.specs.Restarts.{BeginsAnew, restart_lines}
use Rattle.replay.proofs.Handing.{IsQuiet, keeps_packed, keeps_restart}
use Rattle.replay.proofs.Keeping.{acknowledges_on, kept_next, tells_piles}

-- ---- done

-- The disk is another one, which took over what waited and what was hit.
pub kept_packed : {E R S : Type 0} (eval : Eval R) (terms : Terms R) (given : List ℕ) (h0 : History) (items : List Item2) (lines : List Line) (t floor n : ℕ) (h : History) (old new : CoreView E R S) (read own : Counter) (now : ℕ) (kept : Kept eval terms given h0 items lines old now)
    → Counts old.store.disk.counter read (⊥) → new.store.disk.counter ≡ taking own read → IsTold new.store
    → Follows terms (MayBe eval old) now (MayBe eval new) now (Item2.Pack t) (history_lines h ++ Line.Packed floor n ∷ [])
    → Kept eval terms given h0 (items ++ Item2.Pack t ∷ []) (lines ++ (history_lines h ++ Line.Packed floor n ∷ [])) new now
kept_packed eval terms given h0 items lines t floor n h old new read own now kept counts taken told follows =
    let spends : Spends old.store.disk.counter.arms read.arms = counts.arms.spends (λ none. none) in
    let same : new.store.disk.counter.arms ≡ read.arms = ap (λ (c : Counter). c.arms) taken in
    let more = history_lines h ++ Line.Packed floor n ∷ [] in
    kept_next eval terms given h0 items lines more (Item2.Pack t) old new now now kept kept.queue told (ap (λ (a : Arms). a.stopped) same ∙ spends.stopped ∙ kept.running) (packed_licensed kept.queue t floor n h)
    (subst (IsQueueOf kept.queue) (sym same) (queue_spends kept.queue old.store.disk.counter.arms read.arms kept.armed spends))
    (entered_more items lines more (Item2.Pack t) old.store.disk.counter.arms new.store.disk.counter.arms 0 kept.entered (subst (HitsMore 0 old.store.disk.counter.arms) (sym same) (hits_none old.store.disk.counter.arms read.arms spends)) (packed_faultless floor n h) refl)
    (λ disk at. keeps_packed given disk new.store.history lines (history_lines h) floor n)
    follows

-- ---- refused

-- a line that tells of no fault, over the same disk
pub record IsCalmLine (line : Line) : Type 0 where
  pub licensed : (k : Queue) (t : ℕ) → Licenses k (Item2.Pack t) (line ∷ []) k
  pub faultless : faults (line ∷ []) ≡ 0
  pub quiet : IsQuiet (line ∷ [])

pub kept_refused : {E R S : Type 0} (eval : Eval R) (terms : Terms R) (given : List ℕ) (h0 : History) (items : List Item2) (lines : List Line) (t : ℕ) (line : Line) (old new : CoreView E R S) (now : ℕ) (kept : Kept eval terms given h0 items lines old now)
    → IsCalmLine line → Counts old.store.disk.counter new.store.disk.counter ⊥ → TellsOn old.store.disk.told new.store.disk.told → IsPrefixOf old.store.history new.store.history → IsHistory new.store.history
    → Follows terms (MayBe eval old) now (MayBe eval new) now (Item2.Pack t) (line ∷ []) → Kept eval terms given h0 (items ++ Item2.Pack t ∷ []) (lines ++ line ∷ []) new now
kept_refused eval terms given h0 items lines t line old new now kept calm counts tells grows is follows =
    let spends : Spends old.store.disk.counter.arms new.store.disk.counter.arms = counts.arms.spends (λ none. none) in
    kept_next eval terms given h0 items lines (line ∷ []) (Item2.Pack t) old new now now kept kept.queue (tells_forth old.store.disk.told new.store.disk.told tells kept.told) (spends.stopped ∙ kept.running) (calm.licensed kept.queue t)
    (queue_spends kept.queue old.store.disk.counter.arms new.store.disk.counter.arms kept.armed spends)
    (entered_more items lines (line ∷ []) (Item2.Pack t) old.store.disk.counter.arms new.store.disk.counter.arms 0 kept.entered (hits_none old.store.disk.counter.arms new.store.disk.counter.arms spends) calm.faultless refl)
    (acknowledges_on old.store.disk.told new.store.disk.told given old.store.history new.store.history lines (line ∷ []) kept.acknowledges (tells_piles old.store.disk.told new.store.disk.told tells) grows is calm.quiet)
    follows

pub calm_busy : IsCalmLine Line.PackBusy
calm_busy = record { licensed = λ k t. refl; faultless = refl; quiet = ((λ ts. refl), (λ r. refl)) }

pub calm_unreadable : (o : ℕ) → IsCalmLine (Line.PackUnreadable o)
calm_unreadable o = record { licensed = λ k t. refl; faultless = refl; quiet = ((λ ts. refl), (λ r. refl)) }

pub calm_full : (need limit : ℕ) → IsCalmLine (Line.PackFull need limit)
calm_full need limit = record { licensed = λ k t. refl; faultless = refl; quiet = ((λ ts. refl), (λ r. refl)) }

pub calm_memory : IsCalmLine Line.PackMemory
calm_memory = record { licensed = λ k t. refl; faultless = refl; quiet = ((λ ts. refl), (λ r. refl)) }

-- ---- a failure

pub kept_failed : {E R S : Type 0} (eval : Eval R) (terms : Terms R) (given : List ℕ) (h0 : History) (items : List Item2) (lines : List Line) (t : ℕ) (old new : CoreView E R S) (now : ℕ) (kept : Kept eval terms given h0 items lines old now)
    → (old.store.disk.counter.arms.queue ≡ [] → ⊥) → new.store.disk.counter.arms ≡ hit old.store.disk.counter.arms → new.store.disk.counter.arms.stopped ≡ false → TellsOn old.store.disk.told new.store.disk.told → IsPrefixOf old.store.history new.store.history → IsHistory new.store.history
    → Follows terms (MayBe eval old) now (MayBe eval new) now (Item2.Pack t) (Line.PackFault ∷ []) → Kept eval terms given h0 (items ++ Item2.Pack t ∷ []) (lines ++ Line.PackFault ∷ []) new now
kept_failed eval terms given h0 items lines t old new now kept some first goes tells grows is follows =
    let leaves : Leaves kept.queue (Line.PackFault ∷ []) new.store.disk.counter.arms = pack_fault_queued kept.queue old.store.disk.counter.arms new.store.disk.counter.arms kept.armed kept.running some first goes in
    kept_next eval terms given h0 items lines (Line.PackFault ∷ []) (Item2.Pack t) old new now now kept leaves.0 (tells_forth old.store.disk.told new.store.disk.told tells kept.told) goes leaves.1 leaves.2
    (entered_more items lines (Line.PackFault ∷ []) (Item2.Pack t) old.store.disk.counter.arms new.store.disk.counter.arms 1 kept.entered (hits_one old.store.disk.counter.arms new.store.disk.counter.arms kept.running some first) refl refl)
    (acknowledges_on old.store.disk.told new.store.disk.told given old.store.history new.store.history lines (Line.PackFault ∷ []) kept.acknowledges (tells_piles old.store.disk.told new.store.disk.told tells) grows is ((λ ts. refl), (λ r. refl)))
    follows

-- ---- a stop, and the restart

opening_faults : (os : List Opening) (t n : ℕ) → faults (map opening_line os ++ Line.Restart t n ∷ []) ≡ length os
opening_faults [] t n = refl
opening_faults (Stops ∷ os) t n = (let more = opening_faults os t n in omega (arith, more))
opening_faults (Faults ∷ os) t n = (let more = opening_faults os t n in omega (arith, more))

cut_off_faults : (os : List Opening) (h : History) → faults (restart_lines [] os h) ≡ 1 + length os
cut_off_faults os h = (let each = opening_faults os (last h) (length h.transactions) in omega (arith, each))

pub kept_cut_off : {E R S : Type 0} (eval : Eval R) (terms : Terms R) (given : List ℕ) (h0 : History) (items : List Item2) (lines : List Line) (t : ℕ) (old new : CoreView E R S) (mid : Arms) (now : ℕ) (openings : List Opening) (kept : Kept eval terms given h0 items lines old now)
    → (old.store.disk.counter.arms.queue ≡ [] → ⊥) → mid ≡ hit old.store.disk.counter.arms → mid.stopped ≡ true → OpeningsOf (resumed mid) openings new.store.disk.counter.arms
    → IsTold new.store → new.store.disk.counter.arms.stopped ≡ false → IsHistory new.store.history → BeginsAnew new.store.disk.told new.store.history
    → Follows terms (MayBe eval old) now (MayBe eval new) now (Item2.Pack t) (restart_lines [] openings new.store.history) → Kept eval terms given h0 (items ++ Item2.Pack t ∷ []) (lines ++ restart_lines [] openings new.store.history) new now
kept_cut_off eval terms given h0 items lines t old new mid now openings kept some first stops opened told running is anew follows =
    let h = new.store.history in
    let more = restart_lines [] openings h in
    let leaves : Leaves kept.queue more new.store.disk.counter.arms = pack_restart_queued kept.queue old.store.disk.counter.arms mid new.store.disk.counter.arms openings (last h) (length h.transactions) kept.armed kept.running some first stops opened in
    let behind = hits_openings (resumed mid) new.store.disk.counter.arms openings refl opened in
    let since : HitsMore (length openings) mid new.store.disk.counter.arms = record { same = behind.same; count = behind.count } in
    kept_next eval terms given h0 items lines more (Item2.Pack t) old new now now kept leaves.0 told running leaves.1 leaves.2
    (entered_more items lines more (Item2.Pack t) old.store.disk.counter.arms new.store.disk.counter.arms (1 + length openings) kept.entered (hits_then 1 (length openings) old.store.disk.counter.arms mid new.store.disk.counter.arms (hits_one old.store.disk.counter.arms mid kept.running some first) since) (cut_off_faults openings h) refl)
    (λ disk at. keeps_restart anew.0 given disk h lines (Line.Stop ∷ map opening_line openings) (length h.transactions) is anew.1 (anew.2 disk at))
    follows
