-- A pack that is run: what was kept before it is kept behind it, with the lines that it printed.
use Rattle.std.proofs.Common.{◌≡◌, ℕ, ◌+◌, ◌||◌, Bool, true, false, List, [], ◌∷◌, ◌++◌, map, Option, None, refl, sym, ap, subst, ◌∙◌, inl, inr}
use Rattle.std.specs.Prelude.{IsSome}
use Rattle.std.specs.List.{enumerate_from, filter_map, list_any}
use Rattle.zbase.specs.Faults.{Counter, Counts, IsFaultless}
use Rattle.zbase.specs.History.{IsHistory, IsPrefixOf}
use Rattle.zbase.specs.HistoryLaws.{prefix_added, prefix_refl}
use Rattle.evaluator.specs.Exec.{Eval}
use Rattle.packing.specs.Packed.{packed}
use Rattle.packing.specs.Reachable.{Linking}
use Rattle.schedule.specs.declared.item.Item2.{Item2}
use Rattle.schedule.specs.declared.line.Line.{Line}
use Rattle.schedule.specs.Explained.{history_lines}
use Rattle.schedule.specs.Follows.{Follows}
use Rattle.schedule.specs.Packing.{Lacks_memory, Pack_fails, any_request}
use Rattle.schedule.specs.Stepping.{Opening}
use Rattle.fs_store.specs.Stores.{IsTold, Settles, Stands, StoreView}
use Rattle.connection.specs.Telling.{TellsOn}
use Rattle.txn_core.specs.declared.slot.Slot.{Slot}
use Rattle.txn_core.specs.Cores.{CoreView, IsAtRest, MayBe, is_taken}
use Rattle.txn_core.specs.Slots.{doing_of}
use Rattle.replay.specs.Kept.{GoesNeeded, IsUnarmed}
use Rattle.replay.specs.Losing.{lost_mark, lost_marks, with_worker}
use Rattle.replay.specs.Packs.{IsDone, IsRefused, IsUnmade, PackedFrom, unmade_line}
use Rattle.replay.specs.declared.pack.Unmade.{Unmade}
use Rattle.replay.specs.PackSteps.{busy_follows, cut_off_follows, full_follows, packed_follows, troubled_follows, unreadable_follows}
use Rattle.replay.specs.Printed.{Prints, terms_of}
use Rattle.replay.specs.Restarts.{Restarts, restart_lines}
use Rattle.replay.proofs.PackKeeping.{calm_busy, calm_full, calm_memory, calm_unreadable, kept_cut_off, kept_failed, kept_packed, kept_refused}
use Rattle.replay.proofs.StepQueues.{fault_hits}
use Rattle.replay.proofs.NoIdle.{packed_no_idle, restart_no_idle}
use Rattle.zbase.specs.Faults.{counts_none}
use Rattle.connection.specs.Telling.{tells_self}

-- ---- the history only grows

settles_grow : (old new : StoreView) → Settles old new → IsPrefixOf old.history new.history
settles_grow old new (inl e) = subst (IsPrefixOf old.history) (sym (ap (λ (s : StoreView). s.history) e)) (prefix_refl old.history)
settles_grow old new (inr (o, u, e)) = subst (IsPrefixOf old.history) (sym (ap (λ (s : StoreView). s.history) e)) (prefix_added old.history o.transaction)

stands_grow : (old new : StoreView) → Stands old new → IsPrefixOf old.history new.history
stands_grow old new (inl e) = subst (IsPrefixOf old.history) (sym (ap (λ (s : StoreView). s.history) e)) (prefix_refl old.history)
stands_grow old new (inr settles) = settles_grow old new settles

pub rests_still : {E R S : Type 0} (eval : Eval R) (old mid : CoreView E R S) → IsAtRest eval old → mid.store.out ≡ old.store.out → mid.slots ≡ old.slots → IsAtRest eval mid
rests_still eval old mid rest out slots = (out ∙ rest.0, ap (map (doing_of eval)) slots ∙ rest.1)

-- ---- busy

pub busy_goes_on : {E R S : Type 0} (takes : List ℕ → Option R) (eval : Eval R) (links : Linking) (limit t now : ℕ) (core : CoreView E R S) (before behind : Option (List ℕ)) → any_request (map (doing_of eval) core.slots) ≡ true → (IsTold core.store → IsHistory core.store.history)
    → Prints before behind (Line.PackBusy ∷ []) → GoesNeeded takes eval links limit core now (Item2.Pack t ∷ []) core now before behind
busy_goes_on takes eval links limit t now core before behind busy history printed = λ end given h0 done lines kept.
    (let terms = terms_of takes eval links limit end in
    (Line.PackBusy ∷ [], kept_refused eval terms given h0 done lines t Line.PackBusy core core now kept calm_busy (counts_none core.store.disk.counter ⊥ (λ none. none)) (tells_self core.store.disk.told) (prefix_refl core.store.history) (history kept.told) (busy_follows eval terms t now core busy), printed, (tt, tt)))

-- ---- done

pub done_goes_on : {E R S : Type 0} (takes : List ℕ → Option R) (eval : Eval R) (links : Linking) (limit t now : ℕ) (old mid new : CoreView E R S) (before behind : Option (List ℕ)) → IsAtRest eval old → (IsTold old.store → Settles old.store mid.store)
    → Counts old.store.disk.counter mid.store.disk.counter ⊥ → mid.slots ≡ old.slots → IsDone links limit t mid new before behind → GoesNeeded takes eval links limit old now (Item2.Pack t ∷ []) new now before behind
done_goes_on {E} {R} {S} takes eval links limit t now old mid new before behind rest settles counts slots d = λ end given h0 done lines kept.
    (let terms = terms_of takes eval links limit end in
    let p = d.packed in
    let h = mid.store.history in
    let g = packed p.keep h t in
    let new_rest : IsAtRest eval new = (ap (λ (s : StoreView). s.out) d.goes_on ∙ p.stands.idle, ap (map (doing_of eval)) (d.slots ∙ slots) ∙ rest.1) in
    let follows = packed_follows eval terms t now old new mid.store p.keep rest (settles kept.told) p.kept p.readable p.fits new_rest (ap (λ (s : StoreView). s.undecided) d.goes_on ∙ p.stands.decided) (ap (λ (s : StoreView). s.history) d.goes_on ∙ p.stands.history) (ap (λ (s : StoreView). s.end) d.goes_on ∙ p.stands.ends) in
    let so : Follows terms (MayBe eval old) now (MayBe eval new) now (Item2.Pack t) (history_lines h ++ Line.Packed d.floor d.count ∷ []) =
    subst (λ f. Follows terms (MayBe eval old) now (MayBe eval new) now (Item2.Pack t) (history_lines h ++ Line.Packed f d.count ∷ [])) (sym p.floor_is)
    (subst (λ n. Follows terms (MayBe eval old) now (MayBe eval new) now (Item2.Pack t) (history_lines h ++ Line.Packed g.floor n ∷ [])) (sym p.count_is) follows) in
    (history_lines h ++ Line.Packed d.floor d.count ∷ [], kept_packed eval terms given h0 done lines t d.floor d.count h old new mid.store.disk.counter d.store.disk.counter now kept counts d.taken (subst IsSome (sym d.told) p.stands.told) so, d.printed, packed_no_idle h d.floor d.count))

-- ---- refused, once the file was read

pub refused_goes_on : {E R S : Type 0} (takes : List ℕ → Option R) (eval : Eval R) (links : Linking) (limit t now : ℕ) (old mid new : CoreView E R S) (before behind : Option (List ℕ)) → IsAtRest eval old → (IsTold old.store → Settles old.store mid.store)
    → Counts old.store.disk.counter mid.store.disk.counter ⊥ → TellsOn old.store.disk.told mid.store.disk.told → (IsTold old.store → IsHistory mid.store.history) → mid.store.undecided ≡ None → mid.store.out ≡ old.store.out → mid.slots ≡ old.slots → IsRefused links limit t mid new before behind
    → GoesNeeded takes eval links limit old now (Item2.Pack t ∷ []) new now before behind
refused_goes_on {E} {R} {S} takes eval links limit t now old mid new before behind rest settles counts tells history decided out slots r = subst (λ (k : CoreView E R S). GoesNeeded takes eval links limit old now (Item2.Pack t ∷ []) k now before behind) (sym r.same) (go r.why r.is r.printed)
  where
    still : IsAtRest eval mid
    still = rests_still eval old mid rest out slots

    go : (why : Unmade) → IsUnmade links limit t mid.store.history why → Prints before behind (unmade_line limit why ∷ []) → GoesNeeded takes eval links limit old now (Item2.Pack t ∷ []) mid now before behind
    go Unmade.Memory is printed = λ end given h0 done lines kept.
        (let terms = terms_of takes eval links limit end in
        let s = settles kept.told in
        (Line.PackMemory ∷ [], kept_refused eval terms given h0 done lines t Line.PackMemory old mid now kept calm_memory counts tells (settles_grow old.store mid.store s) (history kept.told) (troubled_follows eval terms t now Lacks_memory Line.PackMemory old mid refl rest (inr s) slots), printed, (tt, tt)))
    go (Unmade.Unreadable o) bad printed = λ end given h0 done lines kept.
        (let terms = terms_of takes eval links limit end in
        let s = settles kept.told in
        (Line.PackUnreadable o ∷ [], kept_refused eval terms given h0 done lines t (Line.PackUnreadable o) old mid now kept (calm_unreadable o) counts tells (settles_grow old.store mid.store s) (history kept.told) (unreadable_follows eval terms t now o old mid bad.keep rest s decided still bad.kept bad.bad), printed, (tt, tt)))
    go (Unmade.Full need) full printed = λ end given h0 done lines kept.
        (let terms = terms_of takes eval links limit end in
        let s = settles kept.told in
        let follows = full_follows eval terms t now old mid full.keep rest s decided still full.kept full.readable full.large in
        (Line.PackFull need limit ∷ [], kept_refused eval terms given h0 done lines t (Line.PackFull need limit) old mid now kept (calm_full need limit) counts tells (settles_grow old.store mid.store s) (history kept.told) (subst (λ n. Follows terms (MayBe eval old) now (MayBe eval mid) now (Item2.Pack t) (Line.PackFull n limit ∷ [])) (sym full.need_is) follows), printed, (tt, tt)))

-- ---- the file isn't read

pub unread_goes_on : {E R S : Type 0} (takes : List ℕ → Option R) (eval : Eval R) (links : Linking) (limit t now : ℕ) (old mid : CoreView E R S) (before behind : Option (List ℕ)) → IsAtRest eval old → (IsTold old.store → Stands old.store mid.store)
    → Counts old.store.disk.counter mid.store.disk.counter ⊥ → TellsOn old.store.disk.told mid.store.disk.told → (IsTold old.store → IsHistory mid.store.history) → mid.slots ≡ old.slots → Prints before behind (Line.PackMemory ∷ [])
    → GoesNeeded takes eval links limit old now (Item2.Pack t ∷ []) mid now before behind
unread_goes_on takes eval links limit t now old mid before behind rest stands counts tells history slots printed = λ end given h0 done lines kept.
    (let terms = terms_of takes eval links limit end in
    let s = stands kept.told in
    (Line.PackMemory ∷ [], kept_refused eval terms given h0 done lines t Line.PackMemory old mid now kept calm_memory counts tells (stands_grow old.store mid.store s) (history kept.told) (troubled_follows eval terms t now Lacks_memory Line.PackMemory old mid refl rest s slots), printed, (tt, tt)))

pub failed_goes_on : {E R S : Type 0} (takes : List ℕ → Option R) (eval : Eval R) (links : Linking) (limit t now : ℕ) (old mid : CoreView E R S) (F : Type 0) (before behind : Option (List ℕ)) → IsAtRest eval old → (IsTold old.store → Stands old.store mid.store)
    → Counts old.store.disk.counter mid.store.disk.counter F → F → (old.store.disk.counter.arms.queue ≡ [] → old.store.disk.counter.arms.stopped ≡ false → IsFaultless old.store.disk.counter) → mid.store.disk.counter.arms.stopped ≡ false
    → TellsOn old.store.disk.told mid.store.disk.told → (IsTold old.store → IsHistory mid.store.history) → mid.slots ≡ old.slots → Prints before behind (Line.PackFault ∷ []) → GoesNeeded takes eval links limit old now (Item2.Pack t ∷ []) mid now before behind
failed_goes_on takes eval links limit t now old mid F before behind rest stands counts fault calm goes tells history slots printed = λ end given h0 done lines kept.
    (let terms = terms_of takes eval links limit end in
    let s = stands kept.told in
    let some = fault_hits old.store.disk.counter mid.store.disk.counter F counts (λ none. calm none kept.running) fault in
    (Line.PackFault ∷ [], kept_failed eval terms given h0 done lines t old mid now kept some (counts.arms.first fault) goes tells (stands_grow old.store mid.store s) (history kept.told) (troubled_follows eval terms t now Pack_fails Line.PackFault old mid refl rest s slots), printed, (tt, tt)))

parts : (a b : Bool) → (a || b) ≡ false → (a ≡ false) × (b ≡ false)
parts false b e = (refl, e)
parts true b e = absurd cc

-- no request is lost where no worker has one
pub none_lost : {E R S : Type 0} (i : ℕ) (slots : List (Slot E R S)) → list_any is_taken slots ≡ false → filter_map lost_mark (enumerate_from i (map is_taken slots)) ≡ []
none_lost i [] none = refl
none_lost {E} {R} {S} i (s ∷ slots) none = go (is_taken s) refl (none_lost (i + 1) slots (parts (is_taken s) (list_any is_taken slots) none).1)
  where
    go : (b : Bool) → is_taken s ≡ b → filter_map lost_mark (enumerate_from (i + 1) (map is_taken slots)) ≡ [] → filter_map lost_mark (enumerate_from i (is_taken s ∷ map is_taken slots)) ≡ []
    go false e rest = rw e rest
    go true e rest = absurd (let bad : true ≡ false = sym e ∙ (parts (is_taken s) (list_any is_taken slots) none).0 in cc)

pub cut_off_goes_on : {E R S : Type 0} (takes : List ℕ → Option R) (eval : Eval R) (links : Linking) (limit t now : ℕ) (old mid new : CoreView E R S) (F : Type 0) (openings : List Opening) (before behind : Option (List ℕ)) → IsAtRest eval old → list_any is_taken old.slots ≡ false → (IsTold old.store → Stands old.store mid.store)
    → Counts old.store.disk.counter mid.store.disk.counter F → F → (old.store.disk.counter.arms.queue ≡ [] → old.store.disk.counter.arms.stopped ≡ false → IsFaultless old.store.disk.counter) → mid.store.disk.counter.arms.stopped ≡ true → mid.slots ≡ old.slots
    → Restarts eval mid new openings → Prints before behind (restart_lines (lost_marks (with_worker (map is_taken mid.slots) None)) openings new.store.history) → GoesNeeded takes eval links limit old now (Item2.Pack t ∷ []) new now before behind
cut_off_goes_on {E} {R} {S} takes eval links limit t now old mid new F openings before behind rest idle stands counts fault calm stops slots r printed = λ end given h0 done lines kept.
    (let terms = terms_of takes eval links limit end in
    let some = fault_hits old.store.disk.counter mid.store.disk.counter F counts (λ none. calm none kept.running) fault in
    let lost : lost_marks (map is_taken mid.slots) ≡ [] = ap (λ (k : List (Slot E R S)). lost_marks (map is_taken k)) slots ∙ none_lost 0 old.slots idle in
    (restart_lines [] openings new.store.history, kept_cut_off eval terms given h0 done lines t old new mid.store.disk.counter.arms now openings kept some (counts.arms.first fault) stops r.opened r.told r.running r.history r.anew (cut_off_follows eval terms t now old new mid.store openings rest (stands kept.told) r.reopens r.rest r.decided), subst (λ ls. Prints before behind (restart_lines ls openings new.store.history)) lost printed, restart_no_idle openings new.store.history))

-- a pack leaves the limit as it was
pub packed_limit : {E R S : Type 0} (links : Linking) (limit t : ℕ) (old new : CoreView E R S) (before behind : Option (List ℕ)) → limit ≡ old.store.limit → PackedFrom links limit t old new before behind → new.store.limit ≡ old.store.limit
packed_limit links limit t old new before behind is (inl d) = ap (λ (s : StoreView). s.limit) d.goes_on ∙ d.packed.stands.limit_is ∙ is
packed_limit links limit t old new before behind is (inr r) = ap (λ (k : CoreView _ _ _). k.store.limit) r.same

-- ---- what else a pack leaves

pub packed_told : {E R S : Type 0} (links : Linking) (limit t : ℕ) (old new : CoreView E R S) (before behind : Option (List ℕ)) → IsTold old.store → PackedFrom links limit t old new before behind → IsTold new.store
packed_told links limit t old new before behind told (inl d) = subst IsSome (sym d.told) d.packed.stands.told
packed_told links limit t old new before behind told (inr r) = subst (λ (k : CoreView _ _ _). IsTold k.store) (sym r.same) told

pub packed_rest : {E R S : Type 0} (eval : Eval R) (links : Linking) (limit t : ℕ) (old new : CoreView E R S) (before behind : Option (List ℕ)) → IsAtRest eval old → PackedFrom links limit t old new before behind → IsAtRest eval new
packed_rest eval links limit t old new before behind rest (inl d) = (ap (λ (s : StoreView). s.out) d.goes_on ∙ d.packed.stands.idle, ap (map (doing_of eval)) d.slots ∙ rest.1)
packed_rest {E} {R} {S} eval links limit t old new before behind rest (inr r) = subst (λ (k : CoreView E R S). IsAtRest eval k) (sym r.same) rest

pub packed_unarmed : {E R S : Type 0} (links : Linking) (limit t : ℕ) (old new : CoreView E R S) (before behind : Option (List ℕ)) → IsUnarmed old.store → PackedFrom links limit t old new before behind → IsUnarmed new.store
packed_unarmed links limit t old new before behind unarmed (inl d) = (ap (λ (c : Counter). c.arms.queue) d.taken ∙ unarmed.0, ap (λ (c : Counter). c.arms.stopped) d.taken ∙ unarmed.1)
packed_unarmed {E} {R} {S} links limit t old new before behind unarmed (inr r) = subst (λ (k : CoreView E R S). IsUnarmed k.store) (sym r.same) unarmed
