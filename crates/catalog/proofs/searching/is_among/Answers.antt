use Rattle.std.proofs.Common.{rules, ◌≡◌, ◌∙◌, is_ok}
use Rattle.std.specs.Ordering.{nat_cmp}
use Rattle.std.proofs.lemmas.Fn.{always_returns_same}
use Rattle.catalog.proofs.Searched.{among_is}
use Rattle.catalog.proofs.searching.is_among.Goals as goal

pub returns : goal.returns
returns c =
    let answered : c.is_ok.result ≡ is_ok c.binary_search_by.result = search rules in
    answered ∙ among_is c.args.oid c.args.oids.now c.binary_search_by.result c.requires (c.binary_search_by.ensures.position (λ y. nat_cmp y c.args.oid) (always_returns_same _ _ _ (λ a r q k. search rules)))
