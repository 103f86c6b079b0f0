use Rattle.std.proofs.Common.{ℕ, List, Contains, sym, subst, ◌∙◌}
use Rattle.fs_store.specs.declared.reads.Loaded.{Loaded}
use Rattle.fs_store.specs.Recent.{Fits, HasCap, kept_in, most_records}
use Rattle.fs_store.proofs.Recents.{fits_fewer}
use Rattle.fs_store.proofs.recent.Recent.get.Goals.{in-Some, in-None}
use Rattle.fs_store.proofs.recent.Recent.get.Goals as goal

pub invariant_of-self : goal.invariant_of-self
invariant_of-self c = elim c.match-self.branch [
  | in-Some w ↦ subst (λ i. Fits (kept_in i.records) i.bytes × HasCap most_records i.records) (sym w.self-inside-is) (
    fits_fewer w.in-Some.records.entries w.found.new.records.entries c.self.inside.bytes w.found.ensures.stays w.found.ensures.total (subst (λ r. Fits (kept_in r) c.self.inside.bytes) w.in-Some.is c.self.invariant.0),
    w.found.ensures.cap ∙ subst (HasCap most_records) w.in-Some.is c.self.invariant.1,
  )
  | in-None w ↦ subst (λ i. Fits (kept_in i.records) i.bytes × HasCap most_records i.records) (sym w.self-inside-is) c.self.invariant
]

pub returns-clause-stays : goal.returns-clause-stays
returns-clause-stays c = elim c.match-self.branch [
  | in-Some w ↦ λ e there. subst (λ (l : List (ℕ × Loaded)). Contains l e) c.self.view_is
      (subst (λ r. Contains (kept_in r) e) (sym w.in-Some.is) (w.found.ensures.stays e (subst (λ i. Contains (kept_in i.records) e) w.self-inside-is there)))
  | in-None w ↦ λ e there. subst (λ (l : List (ℕ × Loaded)). Contains l e) c.self.view_is (subst (λ i. Contains (kept_in i.records) e) w.self-inside-is there)
]
