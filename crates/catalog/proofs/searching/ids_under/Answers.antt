use Rattle.std.proofs.Common.{◌≡◌, subst, List, ℕ}
use Rattle.std.specs.Prelude.{IfOk}
use Rattle.catalog.specs.Merging.{once}
use Rattle.catalog.proofs.Finding.{gathered}
use Rattle.catalog.proofs.searching.ids_under.Goals as goal

pub returns : goal.returns
returns c =
    let each = subst (λ (xs : List ℕ). IfOk c.distinct.result (λ all. all ≡ once xs)) c.as_slice.ensures.value c.distinct.ensures in
    gathered c.args.keys.now c.args.postings.now c.in_ok-ids.ids.items c.sort_unstable.new.self.items c.distinct.result c.in_ok-ids.ensures c.sort_unstable.ensures.permutation c.sort_unstable.ensures.sorted each
