use Rattle.txn_core.specs.Replying.{terms_of}
use Rattle.zserve.proofs.giving.give.Goals as goal

pub returns-clause-given : goal.returns-clause-given
returns-clause-given g c = record {
  store = c.in-Ok.ensures.store;
  others = c.in-Ok.ensures.others;
  follows = λ now links end. c.in-Ok.ensures.given (terms_of g.E.Evaluator.takes g.E.Evaluator.meaning links c.args.core.now.store.limit end) now c.args.bytes c.requires.takes;
}

pub give-requires-clause-taken : goal.give-requires-clause-taken
give-requires-clause-taken g c = (c.args.bytes, c.requires.takes)
