use Rattle.std.proofs.Common.{rules, ◌≡◌, ◌∙◌, is_ok}
use Rattle.std.specs.Ordering.{nat_cmp}
use Rattle.std.specs.Cmp.Lexicographic.{slice_cmp}
use Rattle.std.proofs.lemmas.Fn.{always_returns_same}
use Rattle.catalog.proofs.Differing.{text_is}
use Rattle.catalog.proofs.agreeing.has_text.Goals as goal

pub returns : goal.returns
returns c =
    let answered : c.is_ok.result ≡ is_ok c.binary_search_by.result = search rules in
    answered ∙ text_is c.args.text.now c.args.texts.now c.binary_search_by.result c.requires c.binary_search_by.ensures.bound (c.binary_search_by.ensures.position (λ y. slice_cmp nat_cmp y c.args.text.now) (always_returns_same _ _ _ (λ a r q k. search rules)))
