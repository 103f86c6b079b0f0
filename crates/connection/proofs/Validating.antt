-- The store's verdict on the reads of an attempt is the ruling on its facts.
use Rattle.std.proofs.Common.{◌≡◌, ℕ, List, [], ◌∷◌, map, Option, Some, None, refl, ap, sym, ◌∙◌, subst, ◌⊎◌, inl, inr}
use Rattle.std.specs.Prelude.{if◌then◌else◌, nat_lt}
use Rattle.zbase.specs.History.{History}
use Rattle.zbase.specs.Values.{serial}
use Rattle.zbase.specs.declared.ids.Clash.{Clash}
use Rattle.evaluator.specs.declared.draft.Draft.{Draft}
use Rattle.evaluator.specs.declared.fact.Fact.{Fact}
use Rattle.evaluator.specs.declared.reply.Reply.{Reply}
use Rattle.schedule.specs.Moments.{Attempt}
use Rattle.schedule.specs.Stepping.{clash_of, sooner, first_clash}
use Rattle.fs_store.specs.declared.reads.Seen.{Seen}
use Rattle.fs_store.specs.declared.refusal.VoteRefusal.{VoteRefusal}
use Rattle.fs_store.specs.Stores.{IsTold, Loses, Out, Settles, Stands, StoreView}
use Rattle.fs_store.specs.Verdicts.{clash_among, clash_at, first_of, validation, verdict, verdict_of}
use Rattle.connection.specs.States.{ActiveView, AreReads, reads_of, serial_seen}
use Rattle.connection.specs.Votes.{ComesBack, IsHeldBy, IsLeftOf, IsRuled, WasRefused, ruling_of, ruling}

same_first : (a b : Option Clash) → first_of a b ≡ sooner a b
same_first None b = refl
same_first (Some c) b = refl

-- the clash of an object with this serial
abbrev pub clash_with : History → ℕ × ℕ → Option Clash
clash_with h (o, s) = if nat_lt s (serial h o) then Some (record { oid = o; seen = s; found = serial h o }) else None

-- the clash of the first such object
abbrev pub clash_in : History → List (ℕ × ℕ) → Option Clash
clash_in h [] = None
clash_in h (p ∷ ps) = first_of (clash_with h p) (clash_in h ps)

-- a clash says nothing of places
clash_without : (h : History) (reads : List Seen) → clash_among h reads ≡ clash_in h (map serial_seen reads)
clash_without h [] = refl
clash_without h (s ∷ reads) = ap (first_of (clash_at h s)) (clash_without h reads)

pub same_clash : (h : History) (facts : List Fact) → clash_in h (reads_of facts) ≡ first_clash h facts
same_clash h [] = refl
same_clash h (Fact.Object o v s ∷ facts) = same_first (clash_of h (Fact.Object o v s)) (clash_in h (reads_of facts)) ∙ ap (sooner (clash_of h (Fact.Object o v s))) (same_clash h facts)
same_clash h (Fact.Transaction t parts ∷ facts) = same_clash h facts
same_clash h (Fact.Log rows ∷ facts) = same_clash h facts

clash_read : (h : History) (reads : List Seen) (facts : List Fact) → AreReads reads facts → clash_among h reads ≡ first_clash h facts
clash_read h reads facts e = clash_without h reads ∙ ap (clash_in h) e ∙ same_clash h facts

pub verdict_is_ruling : {R : Type 0} (s : StoreView) (a : Attempt R) (d : Draft) (reads : List Seen) → AreReads reads a.facts → verdict s reads d ≡ ruling s a d
verdict_is_ruling s a d reads e = go s.out
  where
    go : (o : Option Out) → verdict_of o s reads d ≡ ruling_of o s (first_clash s.history a.facts) d
    go (Some o) = refl
    go None = ap (validation s d) (clash_read s.history reads a.facts e)

pub ruled : {R : Type 0} (s : StoreView) (a : Attempt R) (d : Draft) (reads : List Seen) (r : Option VoteRefusal) → AreReads reads a.facts → verdict s reads d ≡ r → ruling s a d ≡ r
ruled s a d reads r e v = sym (verdict_is_ruling s a d reads e) ∙ v

-- what the store says of its refusal
pub was_refused : {R : Type 0} (old new : StoreView) (a : Attempt R) (d : Draft) (reads : List Seen) (e : VoteRefusal) → AreReads reads a.facts
    → ((e ≡ VoteRefusal.Memory) ⊎ (e ≡ VoteRefusal.Disk) → old.out ≡ None) → ((w : ℕ) → e ≡ VoteRefusal.Busy w → IsHeldBy old w)
    → ((e ≡ VoteRefusal.Disk → ⊥) → IsTold old → Stands old new) → (e ≡ VoteRefusal.Disk → IsTold old → Loses old new)
    → (IsTold old → (e ≡ VoteRefusal.Memory) ⊎ ((e ≡ VoteRefusal.Disk) ⊎ (Settles old new × (verdict new reads d ≡ Some e)))) → WasRefused old new a d e
was_refused old new a d reads e same none holder stands loses cause = record {
  none = none;
  holder = holder;
  stands = λ m. stands (λ k. let bad : VoteRefusal.Memory ≡ VoteRefusal.Disk = sym m ∙ k in cc);
  loses = loses;
  ruled = λ memory disk told. elim (cause told) [ inl m ↦ absurd (memory m) | inr r ↦ elim r [ inl k ↦ absurd (disk k) | inr v ↦ (v.0, ruled new a d reads (Some e) same v.1) ] ];
}

-- a refusal that is a ruling
pub ruled_as : {R : Type 0} (old new : StoreView) (a : Attempt R) (d : Draft) (e f : VoteRefusal) → e ≡ f → (f ≡ VoteRefusal.Memory → ⊥) → (f ≡ VoteRefusal.Disk → ⊥) → WasRefused old new a d e → IsRuled old new a d f
ruled_as old new a d e f is memory disk was = subst (IsRuled old new a d) is (was.ruled (λ m. memory (sym is ∙ m)) (λ k. disk (sym is ∙ k)))

-- an attempt comes back whole, but behind want of memory or a failing disk
pub came_whole : {R : Type 0} (a back : ActiveView R) (e f : VoteRefusal) → e ≡ f → (f ≡ VoteRefusal.Memory → ⊥) → (f ≡ VoteRefusal.Disk → ⊥) → ComesBack a e back → back ≡ a
came_whole a back e f is memory disk (inl same) = same
came_whole a back e f is memory disk (inr (left, inl m)) = absurd (memory (sym is ∙ m))
came_whole a back e f is memory disk (inr (left, inr k)) = absurd (disk (sym is ∙ k))

pub came_left : {R : Type 0} (a back : ActiveView R) (e : VoteRefusal) → ComesBack a e back → IsLeftOf a back
came_left a back e (inl same) = inl same
came_left a back e (inr (left, why)) = inr left

-- the attempt whose draft the store gave back, and the one whose draft it didn't
pub comes_whole : {R : Type 0} (a : ActiveView R) (x : Reply) (d k : Draft) (e : VoteRefusal) (back : Option Draft) → a.ready ≡ Some (x, d) → back ≡ Some k → (back ≡ Some d) ⊎ ((back ≡ None) × ((e ≡ VoteRefusal.Memory) ⊎ (e ≡ VoteRefusal.Disk)))
    → ComesBack a e (record { attempt = a.attempt; reads = a.reads; ready = Some (x, k) })
comes_whole a x d k e back ready is (inl same) = (let drafts : k ≡ d = cc in inl (ap (λ r. record { attempt = a.attempt; reads = a.reads; ready = r }) (ap (λ b. Some (x, b)) drafts ∙ sym ready)))
comes_whole a x d k e back ready is (inr (none, why)) = absurd cc

pub comes_unready : {R : Type 0} (a : ActiveView R) (d : Draft) (e : VoteRefusal) (back : Option Draft) (ready : Option (Reply × Draft)) → ready ≡ None → back ≡ None → (back ≡ Some d) ⊎ ((back ≡ None) × ((e ≡ VoteRefusal.Memory) ⊎ (e ≡ VoteRefusal.Disk)))
    → ComesBack a e (record { attempt = a.attempt; reads = a.reads; ready = ready })
comes_unready a d e back ready left is (inl some) = absurd cc
comes_unready a d e back ready left is (inr (none, why)) = inr (ap (λ r. record { attempt = a.attempt; reads = a.reads; ready = r }) left, why)
