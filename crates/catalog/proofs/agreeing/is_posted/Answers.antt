use Rattle.std.proofs.Common.{◌∙◌, ap, nat_lt, subst, sym}
use Rattle.zobject.specs.Rules.{Rise}
use Rattle.catalog.specs.Placing.{is_among}
use Rattle.catalog.proofs.Inverse.{under_is}
use Rattle.catalog.proofs.Searched.{under_rise}
use Rattle.catalog.proofs.agreeing.is_posted.Goals as goal

pub is_among-requires : goal.is_among-requires
is_among-requires c = subst (Rise nat_lt) (sym c.oids_under.ensures) (under_rise c.args.key.now c.args.postings.now c.requires.each c.requires.rise)

pub returns : goal.returns
returns c = c.is_among.ensures ∙ ap (is_among c.args.oid) c.oids_under.ensures ∙ under_is c.args.key.now c.args.oid c.args.postings.now
