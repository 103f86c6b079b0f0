use Rattle.std.proofs.lemmas.Result.{err_from_is_err_and}
use Rattle.zobject.specs.Shapes.{shape_of}
use Rattle.zknown.specs.Seen.{objects}
use Rattle.namespace.specs.Hits.{hits}
use Rattle.namespace.specs.Locating.{located_by_word, located_in_one}
use Rattle.namespace.specs.Names.{seeing, word_of}
use Rattle.namespace.specs.Told.{told}
use Rattle.namespace.proofs.Steps.{goes_so, stops}
use Rattle.namespace.proofs.naming.in_one.Goals as goal

pub returns-in_err-object-clause-is : goal.returns-in_err-object-clause-is
unfolding located_in_one
returns-in_err-object-clause-is c =
    let p = err_from_is_err_and c.from_residual.result c.from_residual.ensures.1 in
    rw (p.1, p.2) (stops (objects c.args.viewer.now.known.now) c.args.shown.now (seeing c.args.oid) (λ shape. located_by_word c.args.viewer.now.who.now (word_of c.args.name.now) c.args.name.now c.args.whole.now c.args.oid shape) _ (c.in_err-object.ensures.shape c.args.shown.now))

pub returns-clause-is : goal.returns-clause-is
unfolding located_in_one
returns-clause-is c = goes_so told hits c.by_word.new.shown c.by_word.result (objects c.args.viewer.now.known.now) c.args.shown.now (seeing c.args.oid)
    (λ shape. located_by_word c.args.viewer.now.who.now (word_of c.args.name.now) c.args.name.now c.args.whole.now c.args.oid shape) (shape_of c.in_ok-object.object.now) c.args.shown.now (c.in_ok-object.ensures.shape c.args.shown.now) c.by_word.ensures.is
