use Rattle.std.proofs.Common.{rules, ◌<◌, ◌∙◌, ap, length, sym}
use Rattle.std.specs.Ordering.{nat_cmp}
use Rattle.std.proofs.lemmas.Fn.{always_returns_same}
use Rattle.catalog.specs.declared.document.Entry.{Entry}
use Rattle.catalog.specs.Placing.{has_text}
use Rattle.catalog.specs.Postings.{values_for}
use Rattle.catalog.proofs.Differing.{valued_absent, valued_found}
use Rattle.catalog.proofs.agreeing.is_valued.Goals as goal

pub returns-in-Ok : goal.returns-in-Ok
returns-in-Ok c =
    let few : c.in-Ok.found < length c.args.entries.now = search rules in
    let is = c.in-Ok.ensures.position (λ (e : Entry). nat_cmp e.oid c.args.oid) (always_returns_same _ _ _ (λ a r q k. search rules)) in
    let found = valued_found c.args.at c.args.key.now c.args.oid c.args.entries.now c.in-Ok.found c.index-entries-found.result c.requires.rise few is in
    c.has_text.ensures ∙ ap (has_text c.args.key.now) (c.values_for.ensures ∙ ap (values_for c.args.at) c.index-entries-found.is) ∙ sym found

pub returns-in-Err : goal.returns-in-Err
returns-in-Err c =
    let is = c.in-Err.ensures.position (λ (e : Entry). nat_cmp e.oid c.args.oid) (always_returns_same _ _ _ (λ a r q k. search rules)) in
    sym (valued_absent c.args.at c.args.key.now c.args.oid c.args.entries.now c.in-Err.field-0 c.requires.rise is)
