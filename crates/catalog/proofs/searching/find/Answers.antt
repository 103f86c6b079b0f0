use Rattle.std.proofs.Common.{◌≡◌, subst, List}
use Rattle.std.specs.Prelude.{IfOk}
use Rattle.catalog.specs.declared.document.Index.{Index}
use Rattle.catalog.specs.Hits.{found_by_all}
use Rattle.catalog.proofs.Finding.{finds_hits}
use Rattle.catalog.proofs.searching.find.Goals as goal

pub returns-clause-hits : goal.returns-clause-hits
returns-clause-hits c =
    let found = subst (λ (xs : List Index). IfOk c.found_by_all.result (λ oids. oids ≡ found_by_all xs c.args.first.now c.args.further.now)) c.as_slice.ensures c.found_by_all.ensures in
    λ agrees few known. finds_hits c.args.contents.now c.args.first.now c.args.further.now c.found_by_all.result found agrees few known
