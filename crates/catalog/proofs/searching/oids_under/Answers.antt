use Rattle.std.proofs.Common.{rules, ◌<◌, ◌≡◌, ap, get_or, length, sym}
use Rattle.std.specs.Ordering.{nat_cmp}
use Rattle.std.specs.Cmp.Lexicographic.{slice_cmp}
use Rattle.std.proofs.lemmas.Fn.{always_returns_same}
use Rattle.catalog.specs.declared.document.Posting.{Posting}
use Rattle.catalog.specs.Postings.{oids_under}
use Rattle.catalog.proofs.Searched.{under_absent, under_found}
use Rattle.catalog.proofs.searching.oids_under.Goals as goal

pub returns-in-Ok : goal.returns-in-Ok
returns-in-Ok c =
    let few : c.in-Ok.at < length c.args.postings.now = search rules in
    let is = c.in-Ok.ensures.position (λ (p : Posting). slice_cmp nat_cmp p.key c.args.key.now) (always_returns_same _ _ _ (λ a r q k. search rules)) in
    let found : oids_under c.args.key.now c.args.postings.now ≡ (get_or c.args.postings.now c.in-Ok.at c.index-postings-at.result).oids = under_found c.args.key.now c.args.postings.now c.in-Ok.at c.index-postings-at.result c.requires few is in
    let field : c.index-postings-at.result.oids ≡ (get_or c.args.postings.now c.in-Ok.at c.index-postings-at.result).oids = ap (λ (p : Posting). p.oids) c.index-postings-at.is in
    cc (c.as_slice.ensures, field, found)

pub returns-in-Err : goal.returns-in-Err
returns-in-Err c =
    let is = c.in-Err.ensures.position (λ (p : Posting). slice_cmp nat_cmp p.key c.args.key.now) (always_returns_same _ _ _ (λ a r q k. search rules)) in
    sym (under_absent c.args.key.now c.args.postings.now c.in-Err.field-0 c.requires is)
