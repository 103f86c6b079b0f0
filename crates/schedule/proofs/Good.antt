-- What holds at every moment of a run, and stays true as requests, votes and stops come.
use Rattle.std.proofs.Common.{◌≡◌, ◌≢◌, ℕ, zero, suc, ◌<◌, ◌≤◌, List, [], ◌∷◌, Option, Some, None, refl, sym, ap, ◌∙◌, subst, replicate, slice_get, slice_set, le_trans}
use Rattle.evaluator.specs.declared.outcome.Outcome.{Outcome}
use Rattle.evaluator.specs.declared.draft.Draft.{Draft}
use Rattle.zbase.specs.History.{History, IsHistory, added, IsPrefixOf}
use Rattle.zbase.specs.Values.{last, upto}
use Rattle.evaluator.specs.Facts.{look, TrueOf}
use Rattle.evaluator.specs.Exec.{exec}
use Rattle.evaluator.specs.Settle.{settle}
use Rattle.schedule.specs.Moments.{Terms, Attempt, Doing, Free, Waiting, Asking, Computed, Vote, Moment, start, doing, turned, dropped, stood, emptied, clocked}
use Rattle.zbase.specs.HistoryLaws.{prefix_added, added_history, upto_stays, last_grows}

-- an attempt rests on a part of the history, and its facts are true there
pub record Rooted {R : Type 0} (h : History) (a : Attempt R) : Type 0 where
  pub below : a.snapshot ≤ last h
  pub facts : TrueOf a.facts (upto h a.snapshot)

abbrev pub Sound : {R : Type 0} → Terms R → History → Option (Doing R) → Type 0
Sound terms h None = Unit {0}
Sound terms h (Some Free) = Unit {0}
Sound terms h (Some (Waiting q cs)) = Unit {0}
Sound terms h (Some (Asking a)) = Rooted h a
Sound terms h (Some (Computed a x d)) = Rooted h a × (terms.eval (look a.facts) a.request ≡ Outcome.Change x d)

-- the vote that is out is committed rightly, were it to stand next
pub record VoteIsRight {R : Type 0} (terms : Terms R) (h : History) (workers : List (Doing R)) (v : Vote) : Type 0 where
  pub attempt : Attempt R
  pub draft : Draft
  pub holder : slice_get workers v.holder ≡ Some (Computed attempt v.reply draft)
  pub change : exec terms.eval h attempt.request ≡ Outcome.Change v.reply draft
  pub settles : v.transaction ≡ settle h draft v.transaction.tid
  pub above : last h < v.transaction.tid

abbrev pub SoundVote : {R : Type 0} → Terms R → History → List (Doing R) → Option Vote → Type 0
SoundVote terms h workers None = Unit {0}
SoundVote terms h workers (Some v) = VoteIsRight terms h workers v

pub record Good {R : Type 0} (terms : Terms R) (m : Moment R) : Type 0 where
  pub history : IsHistory m.standing
  pub workers : (w : ℕ) → Sound terms m.standing (doing m w)
  pub vote : SoundVote terms m.standing m.workers m.vote

-- lists of workers
pub set_all : {X : Type 0} (P : Option X → Type 0) (d : X) → P (Some d) → (xs : List X) (w : ℕ) → ((v : ℕ) → P (slice_get xs v)) → (v : ℕ) → P (slice_get (slice_set xs w d) v)
set_all P d here [] w each v = each v
set_all P d here (x ∷ xs) zero each zero = here
set_all P d here (x ∷ xs) zero each (suc v) = each (suc v)
set_all P d here (x ∷ xs) (suc w) each zero = each zero
set_all P d here (x ∷ xs) (suc w) each (suc v) = set_all P d here xs w (λ k. each (suc k)) v

pub set_other : {X : Type 0} (d : X) (xs : List X) (w v : ℕ) → v ≢ w → slice_get (slice_set xs w d) v ≡ slice_get xs v
set_other d [] w v differs = refl
set_other d (x ∷ xs) zero zero differs = absurd (differs refl)
set_other d (x ∷ xs) zero (suc v) differs = refl
set_other d (x ∷ xs) (suc w) zero differs = refl
set_other d (x ∷ xs) (suc w) (suc v) differs = set_other d xs w v (λ e. differs (ap suc e))

pub all_free : {R : Type 0} (P : Option (Doing R) → Type 0) → P None → P (Some Free) → (n w : ℕ) → P (slice_get (replicate n Free) w)
all_free P none free zero w = none
all_free P none free (suc n) zero = free
all_free P none free (suc n) (suc w) = all_free P none free n w

pub rooted_longer : {R : Type 0} (h g : History) (a : Attempt R) → IsPrefixOf h g → IsHistory g → Rooted h a → Rooted g a
rooted_longer h g a is good root = record { below = le_trans root.below (last_grows is good); facts = subst (TrueOf a.facts) (sym (upto_stays a.snapshot is good root.below)) root.facts }

pub sound_longer : {R : Type 0} (terms : Terms R) (h g : History) → IsPrefixOf h g → IsHistory g → (o : Option (Doing R)) → Sound terms h o → Sound terms g o
sound_longer terms h g is good None s = tt
sound_longer terms h g is good (Some Free) s = tt
sound_longer terms h g is good (Some (Waiting q cs)) s = tt
sound_longer terms h g is good (Some (Asking a)) s = rooted_longer h g a is good s
sound_longer terms h g is good (Some (Computed a x d)) s = (rooted_longer h g a is good s.0, s.1)

abbrev pub NotHolder : {R : Type 0} → Moment R → ℕ → Type 0
NotHolder m w = (v : Vote) → m.vote ≡ Some v → v.holder ≢ w

pub no_vote : {R : Type 0} (m : Moment R) (w : ℕ) → m.vote ≡ None → NotHolder m w
no_vote m w e v e' = absurd (let bad : Some v ≡ None = sym e' ∙ e in cc)

pub the_vote : {R : Type 0} (terms : Terms R) (m : Moment R) (v : Vote) → Good terms m → m.vote ≡ Some v → VoteIsRight terms m.standing m.workers v
the_vote terms m v good e = subst (SoundVote terms m.standing m.workers) e good.vote

-- only a worker that has computed holds the vote
abbrev pub IsComputed : {R : Type 0} → Option (Doing R) → Type 0
IsComputed None = ⊥
IsComputed (Some Free) = ⊥
IsComputed (Some (Waiting q cs)) = ⊥
IsComputed (Some (Asking a)) = ⊥
IsComputed (Some (Computed a x d)) = Unit {0}

pub not_holder : {R : Type 0} (terms : Terms R) (m : Moment R) (w : ℕ) (o : Option (Doing R)) → Good terms m → doing m w ≡ o → (IsComputed o → ⊥) → NotHolder m w
not_holder terms m w o good e not v e' same =
    let right = the_vote terms m v good e' in
    not (subst IsComputed (sym right.holder ∙ ap (λ k. slice_get m.workers k) same ∙ e) tt)

pub good_turned : {R : Type 0} (terms : Terms R) (m : Moment R) (w : ℕ) (d : Doing R) → Good terms m → Sound terms m.standing (Some d) → NotHolder m w → Good terms (turned m w d)
good_turned terms m w d good sound not = record {
  history = good.history;
  workers = set_all (Sound terms m.standing) d sound m.workers w good.workers;
  vote = go m.vote refl;
}
  where
    go : (o : Option Vote) → m.vote ≡ o → SoundVote terms m.standing (slice_set m.workers w d) o
    go None e = tt
    go (Some v) e =
        let right = the_vote terms m v good e in
        record { attempt = right.attempt; draft = right.draft; holder = set_other d m.workers w v.holder (not v e) ∙ right.holder; change = right.change; settles = right.settles; above = right.above }

pub good_dropped : {R : Type 0} (terms : Terms R) (m : Moment R) → Good terms m → Good terms (dropped m)
good_dropped terms m good = record { history = good.history; workers = good.workers; vote = tt }

pub good_stood : {R : Type 0} (terms : Terms R) (m : Moment R) (v : Vote) → Good terms m → m.vote ≡ Some v → Good terms (stood m v)
good_stood terms m v good e =
    let right = the_vote terms m v good e in
    let longer = added_history m.standing v.transaction good.history right.above in
    record {
      history = longer;
      workers = λ w. sound_longer terms m.standing (added m.standing v.transaction) (prefix_added m.standing v.transaction) longer (doing m w) (good.workers w);
      vote = tt;
    }

pub good_emptied : {R : Type 0} (terms : Terms R) (m : Moment R) → Good terms m → Good terms (emptied m)
good_emptied terms m good = record { history = good.history; workers = all_free (Sound terms m.standing) tt tt 16; vote = tt }

pub good_clocked : {R : Type 0} (terms : Terms R) (m : Moment R) (t : ℕ) → Good terms m → Good terms (clocked m t)
good_clocked terms m t good = record { history = good.history; workers = good.workers; vote = good.vote }

pub good_start : {R : Type 0} (terms : Terms R) (h : History) → IsHistory h → Good terms (start terms h)
good_start terms h is = record { history = is; workers = all_free (Sound terms h) tt tt 16; vote = tt }
