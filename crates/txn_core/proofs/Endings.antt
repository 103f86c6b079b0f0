-- Slots that are ended one by one, from the last.
use Rattle.zbase.specs.Faults.{Counts, counts_as, counts_then}
use Rattle.std.proofs.Common.{Bool, true, false, ◌≡◌, ℕ, zero, suc, ◌<◌, ◌⊎◌, List, [], ◌∷◌, ◌++◌, Option, Some, None, refl, sym, ap, subst, ◌∙◌, inl, inr, slice_get, length, arith, All, map, replicate}
use Rattle.std.proofs.lemmas.Option.{slice_get_within, get_or_from_slice_get}
use Rattle.std.specs.Prelude.{IfSome, if◌then◌else◌}
use Rattle.zdisk.specs.Disk.{Told}
use Rattle.zdisk.specs.Images.{IsImage}
use Rattle.fs_store.specs.Moments.{OpensAsKnown}
use Rattle.evaluator.specs.Exec.{Eval}
use Rattle.schedule.specs.Moments.{Free}
use Rattle.fs_store.specs.Stores.{StoreView, Out, staled, voting}
use Rattle.connection.specs.States.{PendingView}
use Rattle.txn_core.specs.declared.slot.Slot.{Slot}
use Rattle.txn_core.specs.Slots.{doing_of, CoreStands, CanEnd, Closes, Closing, Ended}

get_last : {A : Type 0} (xs : List A) (x : A) → slice_get (xs ++ x ∷ []) (length xs) ≡ Some x
get_last [] x = refl
get_last (y ∷ xs) x = get_last xs x

get_front : {A : Type 0} (xs : List A) (x : A) (v : ℕ) (y : A) → slice_get xs v ≡ Some y → slice_get (xs ++ x ∷ []) v ≡ Some y
get_front [] x v y e = absurd cc
get_front (z ∷ xs) x zero y e = e
get_front (z ∷ xs) x (suc v) y e = get_front xs x v y e

get_either : {A : Type 0} (xs : List A) (x : A) (v : ℕ) (y : A) → slice_get (xs ++ x ∷ []) v ≡ Some y → (x ≡ y) ⊎ (slice_get xs v ≡ Some y)
get_either [] x zero y e = inl cc
get_either [] x (suc v) y e = absurd cc
get_either (z ∷ xs) x zero y e = inr e
get_either (z ∷ xs) x (suc v) y e = get_either xs x v y e

kept : {E R S : Type 0} (st new : StoreView) (rest : List (Slot E R S)) (slot : Slot E R S) → ((p : PendingView R) → slot ≡ Slot.Pending p → ⊥) → new ≡ st → Closing st (rest ++ slot ∷ []) → Closing new rest
kept {E} {R} {S} st new rest slot not same all =
    let out : st.out ≡ new.out = sym (ap (λ (s : StoreView). s.out) same) in
    record {
      each = λ v p e. let a = all.each v p (get_front rest slot v (Slot.Pending p) e) in (a.0, sym out ∙ a.1, a.2, a.3);
      voter = λ o e. let w = all.voter o (out ∙ e) in (w.0, elim (get_either rest slot o.holder (Slot.Pending w.0) w.1) [ inl q ↦ absurd (not w.0 q) | inr r ↦ r ]);
    }

-- once the vote that is out is ended, no slot that is left holds one
last_vote : {E R S : Type 0} (st new : StoreView) (rest : List (Slot E R S)) (p : PendingView R) → new.out ≡ None → Closing st (rest ++ Slot.Pending p ∷ []) → Closing new rest
last_vote {E} {R} {S} st new rest p none all = record {
  each = λ v q e. absurd (
      let a = all.each v q (get_front rest (Slot.Pending p) v (Slot.Pending q) e) in
      let b = all.each (length rest) p (get_last rest (Slot.Pending p)) in
      let both : Some a.0 ≡ Some b.0 = sym a.1 ∙ b.1 in
      let same : a.0 ≡ b.0 = cc in
      let at : v ≡ length rest = sym a.2 ∙ ap (λ (o : Out). o.holder) same ∙ b.2 in
      let within : v < length rest = slice_get_within rest v (Slot.Pending q) e in
      omega (arith, at, within));
  voter = λ o e. absurd (let bad : Some o ≡ None = sym e ∙ none in cc);
}

pub closing_popped : {E R S : Type 0} (st new : StoreView) (rest : List (Slot E R S)) (slot : Slot E R S) (fault : Bool) → Ended st slot fault new → Closing st (rest ++ slot ∷ []) → Closing new rest
closing_popped st new rest Slot.Idle fault e all = kept st new rest Slot.Idle (λ p e. cc) e.1 all
closing_popped st new rest (Slot.Fresh f) fault e all = kept st new rest (Slot.Fresh f) (λ p e. cc) e.1 all
closing_popped st new rest (Slot.Active a) fault e all = kept st new rest (Slot.Active a) (λ p e. cc) e.1 all
closing_popped st new rest (Slot.Computed a) fault e all = kept st new rest (Slot.Computed a) (λ p e. cc) e.1 all
closing_popped st new rest (Slot.Pending p) true gone all = last_vote st new rest p (ap (λ (s : StoreView). s.out) gone) all
closing_popped st new rest (Slot.Pending p) false gone all = last_vote st new rest p (ap (λ (s : StoreView). s.out) gone) all

pub can_end : {E R S : Type 0} (st : StoreView) (rest : List (Slot E R S)) (slot : Slot E R S) → Closing st (rest ++ slot ∷ []) → CanEnd st slot
can_end st rest Slot.Idle all = tt
can_end st rest (Slot.Fresh f) all = tt
can_end st rest (Slot.Active a) all = tt
can_end st rest (Slot.Computed a) all = tt
can_end st rest (Slot.Pending p) all = let s = all.each (length rest) p (get_last rest (Slot.Pending p)) in (s.0, s.1, s.3)

-- what a vote that is out can't be: gone already
vote_left : {E R S : Type 0} (first st : StoreView) (rest : List (Slot E R S)) (p : PendingView R) → Closing st (rest ++ Slot.Pending p ∷ []) → st.out ≡ None → ⊥
vote_left first st rest p all none = let a = all.each (length rest) p (get_last rest (Slot.Pending p)) in let bad : Some a.0 ≡ None = sym a.1 ∙ none in cc

not_both : (f : Bool) (first st new : StoreView) → f ≡ false → new ≡ st → (g : Bool) → Closes first g st → Closes first (if f then true else g) new
not_both true first st new e same g so = absurd cc
not_both false first st new e same g so = subst (Closes first g) (sym same) so

unchanged : {E R S : Type 0} (st new : StoreView) (rest : List (Slot E R S)) (slot : Slot E R S) (f : Bool) → Closing st (rest ++ slot ∷ []) → st.out ≡ None → Ended st slot f new → (f ≡ false) × (new ≡ st)
unchanged st new rest Slot.Idle f all none e = e
unchanged st new rest (Slot.Fresh q) f all none e = e
unchanged st new rest (Slot.Active a) f all none e = e
unchanged st new rest (Slot.Computed a) f all none e = e
unchanged st new rest (Slot.Pending p) f all none e = absurd (vote_left st st rest p all none)

-- What ending slot by slot makes of the store.
pub closes_on : {E R S : Type 0} (first st new : StoreView) (rest : List (Slot E R S)) (slot : Slot E R S) (f g : Bool) → Closing st (rest ++ slot ∷ []) → Closes first g st → Ended st slot f new → Closes first (if f then true else g) new
closes_on first st new rest Slot.Idle f g all so e = not_both f first st new e.0 e.1 g so
closes_on first st new rest (Slot.Fresh q) f g all so e = not_both f first st new e.0 e.1 g so
closes_on first st new rest (Slot.Active a) f g all so e = not_both f first st new e.0 e.1 g so
closes_on first st new rest (Slot.Computed a) f g all so e = not_both f first st new e.0 e.1 g so
closes_on first st new rest (Slot.Pending p) true false all (inl same) gone = gone ∙ ap (λ k. staled k new.disk) same
closes_on first st new rest (Slot.Pending p) false false all (inl same) gone = inr (gone ∙ ap (λ k. voting k None new.disk) same)
closes_on first st new rest (Slot.Pending p) f false all (inr so) gone = absurd (vote_left first st rest p all (ap (λ (s : StoreView). s.out) so))
closes_on first st new rest (Slot.Pending p) f true all so gone = absurd (vote_left first st rest p all (ap (λ (s : StoreView). s.out) so))

-- so the count rises in at most one of them
pub counts_on : {E R S : Type 0} (first st new : StoreView) (rest : List (Slot E R S)) (slot : Slot E R S) (f g : Bool) → Closing st (rest ++ slot ∷ []) → Closes first g st → Ended st slot f new
    → Counts first.disk.counter st.disk.counter (g ≡ true) → Counts st.disk.counter new.disk.counter (f ≡ true) → Counts first.disk.counter new.disk.counter ((if f then true else g) ≡ true)
counts_on {E} {R} {S} first st new rest slot f true all so e was now =
    let none : st.out ≡ None = ap (λ (s : StoreView). s.out) so in
    let same = unchanged st new rest slot f all none e in
    rw (same.0, same.1) was
counts_on first st new rest slot true false all so e was now = counts_as (counts_then was (λ k. cc) now) (λ k. refl) (λ k. refl)
counts_on first st new rest slot false false all so e was now = counts_then was (λ k. cc) now

pub closing_all : {E R S : Type 0} (eval : Eval R) (st : StoreView) (sl : List (Slot E R S)) → CoreStands eval st sl → Closing st sl
closing_all eval st sl all = record { each = λ v p e. (all.each v (Slot.Pending p) e).0; voter = all.voter }

-- a core of idle workers
pub core_idle : {E R S : Type 0} (eval : Eval R) (store : StoreView) (slots : List (Slot E R S)) → length slots ≡ 16 → All (λ s. s ≡ Slot.Idle) slots → store.out ≡ None → CoreStands eval store slots
core_idle {E} {R} {S} eval store slots len all none = record {
  count = len;
  each = λ v s e. let i : s ≡ Slot.Idle = sym (get_or_from_slice_get slots v s s e) ∙ all v s (slice_get_within slots v s e) in rw i tt;
  voter = λ o e. absurd (let bad : Some o ≡ None = sym e ∙ none in cc);
}

pub all_idle : {E R S : Type 0} (eval : Eval R) (n : ℕ) (slots : List (Slot E R S)) → length slots ≡ n → All (λ s. s ≡ Slot.Idle) slots → map (doing_of eval) slots ≡ replicate n Free
all_idle eval zero [] len all = refl
all_idle eval (suc n) [] len all = absurd cc
all_idle eval zero (s ∷ slots) len all = absurd cc
all_idle {E} {R} {S} eval (suc n) (s ∷ slots) len all =
    let first : s ≡ Slot.Idle = all 0 s (omega (arith)) in
    let rest : map (doing_of eval) slots ≡ replicate n Free = all_idle eval n slots (omega (arith, len)) (λ v d within. all (suc v) d (omega (arith, within))) in
    ap (λ (k : Slot E R S). doing_of eval k ∷ map (doing_of eval) slots) first ∙ ap (λ ds. Free ∷ ds) rest

-- a disk whose slots are ended opens to what was known before
pub closes_opens : (old new : StoreView) (fault : Bool) (image : List ℕ) → Closes old fault new → OpensAsKnown new image → OpensAsKnown old image
closes_opens old new true image e opens = elim (subst (λ (s : StoreView). OpensAsKnown s image) e opens) [ inl known ↦ inl known | inr (o, bad, with) ↦ absurd (let no : None ≡ Some o = bad in cc) ]
closes_opens old new false image (inl e) opens = subst (λ (s : StoreView). OpensAsKnown s image) e opens
closes_opens old new false image (inr e) opens = subst (λ (s : StoreView). OpensAsKnown s image) e opens

pub images_open : (old new : StoreView) (fault : Bool) (left : Option Told) → Closes old fault new → IfSome left (λ told. (image : List ℕ) → IsImage told.now image → OpensAsKnown new image) → IfSome left (λ told. (image : List ℕ) → IsImage told.now image → OpensAsKnown old image)
images_open old new fault None closes images = tt
images_open old new fault (Some told) closes images = λ image is. closes_opens old new fault image closes (images image is)

-- no vote is out once no slot is left
pub closing_done : {E R S : Type 0} (st : StoreView) (slots : List (Slot E R S)) → Closing st slots → slots ≡ [] → st.out ≡ None
closing_done {E} {R} {S} st slots closing none = go st.out refl
  where
    go : (out : Option Out) → st.out ≡ out → st.out ≡ None
    go None is = is
    go (Some o) is = absurd (let w = closing.voter o is in let at : slice_get slots o.holder ≡ Some (Slot.Pending w.0) = w.1 in let bad : slice_get (let empty : List (Slot E R S) = [] in empty) o.holder ≡ Some (Slot.Pending w.0) = subst (λ (k : List (Slot E R S)). slice_get k o.holder ≡ Some (Slot.Pending w.0)) none at in cc)
