-- What a pack makes of a core, whichever moment it may have been at.
use Rattle.std.proofs.Common.{◌≡◌, ◌≤◌, ℕ, Bool, true, false, List, [], ◌∷◌, ◌++◌, length, map, min, replicate, Option, None, Some, refl, sym, ap, ◌∙◌, subst, inl, inr, arith, nat_lt}
use Rattle.std.proofs.lemmas.Bool.Decides.{nat_tests}
use Rattle.zbase.specs.History.{History}
use Rattle.zbase.specs.Limits.{greatest_number}
use Rattle.evaluator.specs.Exec.{Eval}
use Rattle.packing.specs.Packed.{packed}
use Rattle.packing.specs.Reachable.{AreReadable, IsKeep, IsUnreadable}
use Rattle.packing.specs.Sizes.{full_size}
use Rattle.schedule.specs.declared.item.Item2.{Item2}
use Rattle.schedule.specs.declared.line.Line.{Line}
use Rattle.schedule.specs.Explained.{history_lines}
use Rattle.schedule.specs.Follows.{Follows}
use Rattle.schedule.specs.Moments.{Terms, Doing, Free, Moment, Vote, clocked}
use Rattle.schedule.specs.Packing.{PackTrouble, Is_cut_off, Lacks_memory, Pack_fails, PacksAt, any_request, pack_fails, packs_to}
use Rattle.schedule.specs.Stepping.{Opening, Told}
use Rattle.fs_store.specs.Stores.{Out, Settles, Stands, StoreView, on_disk, settled}
use Rattle.txn_core.specs.Cores.{CoreView, IsAtRest, MayBe}
use Rattle.txn_core.specs.Slots.{Possible, doing_of, moment_of, vote_of}
use Rattle.replay.specs.Restarts.{Reopens, restart_lines}

-- the moment at which this history stands, its file ends there, no vote is out and no worker has a request
abbrev pub resting : {R : Type 0} → History → ℕ → ℕ → Moment R
resting h end now = record { standing = h; end = end; clock = now; vote = None; workers = replicate 16 Free }

-- where nothing is undecided, no other store may stand behind this one
only : (s may : StoreView) → s.undecided ≡ None → Possible s may → may ≡ s
only s may none (inl e) = e
only s may none (inr (o, u, e)) = absurd cc

parts : {R : Type 0} → ℕ → History → ℕ → Option Vote → List (Doing R) → Moment R
parts now h e v ws = record { standing = h; end = e; clock = now; vote = v; workers = ws }

rests_so : {E R S : Type 0} (eval : Eval R) (core : CoreView E R S) (may : StoreView) (h : History) (end now : ℕ) → may.out ≡ None → map (doing_of eval) core.slots ≡ replicate 16 Free → may.history ≡ h → may.end ≡ end → clocked (moment_of eval may core.slots) now ≡ resting h end now
rests_so {E} {R} {S} eval core may h end now out free history ends =
    let made : History → ℕ → Option Vote → List (Doing R) → Moment R = (λ g e v ws. record { standing = g; end = e; clock = now; vote = v; workers = ws }) in
    ap (λ (o : Option Out). made may.history may.end (vote_of core.slots o) (map (doing_of eval) core.slots)) out
    ∙ ap (made may.history may.end None) free
    ∙ ap (λ g. made g may.end None (replicate 16 Free)) history
    ∙ ap (λ e. made h e None (replicate 16 Free)) ends

-- a core at rest over a store in which nothing is undecided is at one moment
pub rests_at : {E R S : Type 0} (eval : Eval R) (core : CoreView E R S) (m : Moment R) (now : ℕ) → IsAtRest eval core → core.store.undecided ≡ None → MayBe eval core m → clocked m now ≡ resting core.store.history core.store.end now
rests_at {E} {R} {S} eval core m now rest decided may =
    let same : may.0 ≡ core.store = only core.store may.0 decided may.1 in
    ap (λ (k : Moment R). clocked k now) may.2
    ∙ rests_so eval core may.0 core.store.history core.store.end now (ap (λ (s : StoreView). s.out) same ∙ rest.0) rest.1 (ap (λ (s : StoreView). s.history) same) (ap (λ (s : StoreView). s.end) same)

-- A core at rest whose store was opened again: it might have been at the moment that the opening found.
pub rested : {E R S : Type 0} (eval : Eval R) (core : CoreView E R S) (mid : StoreView) (now : ℕ) → IsAtRest eval core → Settles core.store mid → (m : Moment R) × MayBe eval core m × (clocked m now ≡ resting mid.history mid.end now)
rested eval core mid now rest (inl e) =
    (moment_of eval core.store core.slots, (core.store, inl refl, refl), rests_so eval core core.store mid.history mid.end now rest.0 rest.1 (sym (ap (λ (s : StoreView). s.history) e)) (sym (ap (λ (s : StoreView). s.end) e)))
rested eval core mid now rest (inr (o, u, e)) =
    let may : StoreView = settled core.store (Some o) core.store.disk in
    (moment_of eval may core.slots, (may, inr (o, u, refl), refl), rests_so eval core may mid.history mid.end now rest.0 rest.1 (sym (ap (λ (s : StoreView). s.history) e)) (sym (ap (λ (s : StoreView). s.end) e)))

-- a pack from one moment to another, seen at the moments of a core
between : {R : Type 0} (terms : Terms R) (t : ℕ) (lines : List Line) (a b x y : Moment R) → x ≡ a → y ≡ b → PacksAt terms a t lines b → PacksAt terms x t lines y
between terms t lines a b x y e f packs = subst (λ k. PacksAt terms k t lines y) (sym e) (subst (λ k. PacksAt terms a t lines k) (sym f) packs)

-- ---- done

fits : {R : Type 0} (terms : Terms R) (m : Moment R) (g : History) → full_size g ≤ terms.limit → packs_to terms m g ≡ (history_lines m.standing ++ Line.Packed g.floor (length g.transactions) ∷ [], record { standing = g; end = full_size g; clock = m.clock; vote = m.vote; workers = m.workers })
fits terms m g le = (let small : nat_lt terms.limit (full_size g) ≡ false = grind (arith, nat_tests, le) in rw small refl)

pub packed_follows : {E R S : Type 0} (eval : Eval R) (terms : Terms R) (t now : ℕ) (old new : CoreView E R S) (mid : StoreView) (keep : ℕ → Bool)
    → IsAtRest eval old → Settles old.store mid → IsKeep terms.links mid.history t keep → AreReadable terms.links mid.history t keep → full_size (packed keep mid.history t) ≤ terms.limit
    → IsAtRest eval new → new.store.undecided ≡ None → new.store.history ≡ packed keep mid.history t → new.store.end ≡ full_size (packed keep mid.history t)
    → Follows terms (MayBe eval old) now (MayBe eval new) now (Item2.Pack t) (history_lines mid.history ++ Line.Packed (packed keep mid.history t).floor (length (packed keep mid.history t).transactions) ∷ [])
packed_follows {E} {R} {S} eval terms t now old new mid keep rest settles kept readable le new_rest decided history ends = λ m may.
    (let was = rested eval old mid now rest settles in
    let g : History = packed keep mid.history t in
    let before : Moment R = resting mid.history mid.end now in
    let behind : clocked m now ≡ resting g (full_size g) now = rests_at eval new m now new_rest decided may ∙ ap (λ h. resting h new.store.end now) history ∙ ap (λ e. resting g e now) ends in
    (was.0, was.1, between terms t _ before (resting g (full_size g) now) (clocked was.0 now) (clocked m now) was.2 behind (inr (refl, inl (record { keep = keep; kept = kept; told = inr (readable, fits terms before g le) })))))

-- ---- refused by what the history is

pub unreadable_follows : {E R S : Type 0} (eval : Eval R) (terms : Terms R) (t now o : ℕ) (old new : CoreView E R S) (keep : ℕ → Bool)
    → IsAtRest eval old → Settles old.store new.store → new.store.undecided ≡ None → IsAtRest eval new → IsKeep terms.links new.store.history t keep → IsUnreadable terms.links new.store.history t keep o
    → Follows terms (MayBe eval old) now (MayBe eval new) now (Item2.Pack t) (Line.PackUnreadable o ∷ [])
unreadable_follows {E} {R} {S} eval terms t now o old new keep rest settles decided new_rest kept bad = λ m may.
    (let was = rested eval old new.store now rest settles in
    let there : Moment R = resting new.store.history new.store.end now in
    (was.0, was.1, between terms t _ there there (clocked was.0 now) (clocked m now) was.2 (rests_at eval new m now new_rest decided may) (inr (refl, inl (record { keep = keep; kept = kept; told = inl (o, bad, refl) })))))

passes : {R : Type 0} (terms : Terms R) (m : Moment R) (g : History) → nat_lt terms.limit (full_size g) ≡ true → packs_to terms m g ≡ (Line.PackFull (min (full_size g) greatest_number) terms.limit ∷ [], m)
passes terms m g large = rw large refl

pub full_follows : {E R S : Type 0} (eval : Eval R) (terms : Terms R) (t now : ℕ) (old new : CoreView E R S) (keep : ℕ → Bool)
    → IsAtRest eval old → Settles old.store new.store → new.store.undecided ≡ None → IsAtRest eval new → IsKeep terms.links new.store.history t keep → AreReadable terms.links new.store.history t keep → nat_lt terms.limit (full_size (packed keep new.store.history t)) ≡ true
    → Follows terms (MayBe eval old) now (MayBe eval new) now (Item2.Pack t) (Line.PackFull (min (full_size (packed keep new.store.history t)) greatest_number) terms.limit ∷ [])
full_follows {E} {R} {S} eval terms t now old new keep rest settles decided new_rest kept readable large = λ m may.
    (let was = rested eval old new.store now rest settles in
    let there : Moment R = resting new.store.history new.store.end now in
    (was.0, was.1, between terms t _ there there (clocked was.0 now) (clocked m now) was.2 (rests_at eval new m now new_rest decided may) (inr (refl, inl (record { keep = keep; kept = kept; told = inr (readable, passes terms there (packed keep new.store.history t) large) })))))

-- ---- refused by what went wrong

-- whatever may stand behind the store now, a store that says the same might have stood behind the old one
stood : (old new may : StoreView) → Stands old new → Possible new may → (was : StoreView) × Possible old was × (was.history ≡ may.history) × (was.end ≡ may.end) × (was.out ≡ may.out)
stood old new may (inl e) (inl m) = (old, inl refl, sym (ap (λ (s : StoreView). s.history) (m ∙ e)), sym (ap (λ (s : StoreView). s.end) (m ∙ e)), sym (ap (λ (s : StoreView). s.out) (m ∙ e)))
stood old new may (inl e) (inr (o, u, m)) =
    let then_is : may ≡ settled (on_disk old new.disk) (Some o) new.disk = m ∙ ap (λ (s : StoreView). settled s (Some o) new.disk) e in
    (settled old (Some o) old.disk, inr (o, sym (ap (λ (s : StoreView). s.undecided) e) ∙ u, refl), sym (ap (λ (s : StoreView). s.history) then_is), sym (ap (λ (s : StoreView). s.end) then_is), sym (ap (λ (s : StoreView). s.out) then_is))
stood old new may (inr (inl e)) (inl m) = (old, inl refl, sym (ap (λ (s : StoreView). s.history) (m ∙ e)), sym (ap (λ (s : StoreView). s.end) (m ∙ e)), sym (ap (λ (s : StoreView). s.out) (m ∙ e)))
stood old new may (inr (inl e)) (inr (o, u, m)) = absurd (let bad : Some o ≡ None = sym u ∙ ap (λ (s : StoreView). s.undecided) e in cc)
stood old new may (inr (inr (o, u, e))) (inl m) = (settled old (Some o) old.disk, inr (o, u, refl), sym (ap (λ (s : StoreView). s.history) (m ∙ e)), sym (ap (λ (s : StoreView). s.end) (m ∙ e)), sym (ap (λ (s : StoreView). s.out) (m ∙ e)))
stood old new may (inr (inr (o, u, e))) (inr (p, v, m)) = absurd (let bad : Some p ≡ None = sym v ∙ ap (λ (s : StoreView). s.undecided) e in cc)

-- want of memory and a failure: the core is as it was, or its store was opened again
abbrev pub IsPlain : PackTrouble → Line → Type 0
IsPlain Lacks_memory line = line ≡ Line.PackMemory
IsPlain Pack_fails line = line ≡ Line.PackFault
IsPlain (Is_cut_off openings) line = ⊥

plainly : {R : Type 0} (m : Moment R) (trouble : PackTrouble) (line : Line) → IsPlain trouble line → pack_fails m trouble ≡ (line ∷ [], m)
plainly {R} m Lacks_memory line e = ap (λ (l : Line). (let r : Told R = (l ∷ [], m) in r)) (sym e)
plainly {R} m Pack_fails line e = ap (λ (l : Line). (let r : Told R = (l ∷ [], m) in r)) (sym e)
plainly m (Is_cut_off openings) line e = absurd e

pub troubled_follows : {E R S : Type 0} (eval : Eval R) (terms : Terms R) (t now : ℕ) (trouble : PackTrouble) (line : Line) (old new : CoreView E R S)
    → IsPlain trouble line → IsAtRest eval old → Stands old.store new.store → new.slots ≡ old.slots → Follows terms (MayBe eval old) now (MayBe eval new) now (Item2.Pack t) (line ∷ [])
troubled_follows {E} {R} {S} eval terms t now trouble line old new plain rest stands slots = λ m may.
    (let was = stood old.store new.store may.0 stands may.1 in
    let free : map (doing_of eval) new.slots ≡ replicate 16 Free = ap (map (doing_of eval)) slots ∙ rest.1 in
    let out : was.0.out ≡ None = was_out old.store was.0 was.1 ∙ rest.0 in
    let there : Moment R = resting may.0.history may.0.end now in
    let before : clocked (moment_of eval was.0 old.slots) now ≡ there = rests_so eval old was.0 may.0.history may.0.end now out rest.1 was.2 was.3 in
    let behind : clocked m now ≡ there = ap (λ (k : Moment R). clocked k now) may.2 ∙ rests_so eval new may.0 may.0.history may.0.end now (sym was.4 ∙ out) free refl refl in
    (moment_of eval was.0 old.slots, (was.0, was.1, refl), between terms t _ there there _ _ before behind (inr (refl, inr (trouble, plainly there trouble line plain)))))
  where
    was_out : (s may : StoreView) → Possible s may → may.out ≡ s.out
    was_out s may (inl e) = ap (λ (k : StoreView). k.out) e
    was_out s may (inr (o, u, e)) = ap (λ (k : StoreView). k.out) e

-- a stop: what it left was opened, behind these openings that failed
pub cut_off_follows : {E R S : Type 0} (eval : Eval R) (terms : Terms R) (t now : ℕ) (old new : CoreView E R S) (mid : StoreView) (openings : List Opening)
    → IsAtRest eval old → Stands old.store mid → Reopens mid new.store → IsAtRest eval new → new.store.undecided ≡ None → Follows terms (MayBe eval old) now (MayBe eval new) now (Item2.Pack t) (restart_lines [] openings new.store.history)
cut_off_follows {E} {R} {S} eval terms t now old new mid openings rest stands reopens new_rest decided = λ m may.
    (let was = stood old.store mid reopens.may stands reopens.possible in
    let out : was.0.out ≡ None = was_out old.store was.0 was.1 ∙ rest.0 in
    let there : Moment R = resting new.store.history new.store.end now in
    let before : clocked (moment_of eval was.0 old.slots) now ≡ there = rests_so eval old was.0 new.store.history new.store.end now out rest.1 (was.2 ∙ sym reopens.history) (was.3 ∙ sym reopens.end) in
    (moment_of eval was.0 old.slots, (was.0, was.1, refl), between terms t _ there there _ _ before (rests_at eval new m now new_rest decided may) (inr (refl, inr (Is_cut_off openings, refl)))))
  where
    was_out : (s may : StoreView) → Possible s may → may.out ≡ s.out
    was_out s may (inl e) = ap (λ (k : StoreView). k.out) e
    was_out s may (inr (o, u, e)) = ap (λ (k : StoreView). k.out) e

-- ---- busy

pub busy_follows : {E R S : Type 0} (eval : Eval R) (terms : Terms R) (t now : ℕ) (core : CoreView E R S) → any_request (map (doing_of eval) core.slots) ≡ true → Follows terms (MayBe eval core) now (MayBe eval core) now (Item2.Pack t) (Line.PackBusy ∷ [])
busy_follows {E} {R} {S} eval terms t now core busy = λ m may. (m, may, inl (subst (λ (k : Moment R). any_request k.workers ≡ true) (sym may.2) busy, refl))
