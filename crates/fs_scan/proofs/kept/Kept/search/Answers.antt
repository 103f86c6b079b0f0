use Rattle.std.proofs.Common.{rules}
use Rattle.std.proofs.lemmas.List.Sorted.{answers_always}
use Rattle.fs_scan.proofs.Searching.{searched}
use Rattle.fs_scan.proofs.kept.Kept.search.Goals as goal

-- the closure gives a place's number, and the slice is the list's places
pub returns : goal.returns
returns c =
    let facts = c.binary_search_by_key.ensures in
    let by_key = facts.position (λ p. p) (answers_always _ _ _ (λ f a r g called. search rules)) in
    rw (← c.self.view_is, ← c.deref.ensures.value) (searched _ (rw c.deref.ensures.value c.self.invariant) c.args.place _ facts.bound by_key)
