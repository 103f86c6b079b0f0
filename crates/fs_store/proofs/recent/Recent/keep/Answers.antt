use Rattle.std.proofs.Common.{◌≡◌, ℕ, List, Contains, sym, subst, inl, inr}
use Rattle.lru.specs.LruCache.{LruCache}
use Rattle.lru.proofs.Splits.{Contains-nil}
use Rattle.fs_store.specs.declared.reads.Loaded.{Loaded}
use Rattle.fs_store.specs.Recent.{kept_in}
use Rattle.fs_store.proofs.recent.Recent.keep.Goals.{in-Some-2, in-None-2}
use Rattle.fs_store.proofs.recent.Recent.keep.Goals as goal

pub returns-in-Some : goal.returns-in-Some
returns-in-Some c = λ e there.
    elim (c.put_in-self-inside.ensures.with e there) [
      | inl was ↦ inl (subst (λ (l : List (ℕ × Loaded)). Contains l e) c.self.view_is (subst (λ r. Contains (kept_in r) e) (sym c.in-Some.is) was))
      | inr own ↦ inr (subst (λ (l : Loaded). e ≡ (c.args.oid, l)) c.in_ok-copy.ensures own)
    ]

pub returns-in_ok-records-in-None : goal.returns-in_ok-records-in-None
returns-in_ok-records-in-None c = λ e there.
    let now : Contains c.put_in-self-inside-in-None.new.records.entries e = elim c.match-self-2.branch [
      | in-Some-2 w ↦ subst (λ (l : List (ℕ × Loaded)). Contains l e) w.self-is there
      | in-None-2 w ↦ subst (λ (l : List (ℕ × Loaded)). Contains l e) w.self-is there
    ] in
    elim (c.put_in-self-inside-in-None.ensures.with e now) [
      | inl was ↦ absurd (Contains-nil e (subst (λ (x : LruCache ℕ Loaded). Contains x.entries e) c.in_ok-records-in-None.ensures was))
      | inr own ↦ inr (subst (λ (l : Loaded). e ≡ (c.args.oid, l)) c.in_ok-copy.ensures own)
    ]
