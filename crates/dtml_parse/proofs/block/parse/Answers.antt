use Rattle.std.proofs.Common.{◌≤◌, length, None, arith}
use Rattle.std.proofs.lemmas.Str.{IsCharBoundary-start}
use Rattle.std.proofs.lemmas.Bool.Decides.{nat_tests}
use Rattle.std.proofs.lemmas.Result.{err_from_is_err_and}
use Rattle.zbase.specs.declared.limits.TheConstants.{MOST_SOURCE}
use Rattle.dtml_parse.proofs.Steps.{refuses}
use Rattle.dtml_parse.proofs.block.parse.Goals as goal

pub block_of-requires-clause-boundary : goal.block_of-requires-clause-boundary
block_of-requires-clause-boundary c = IsCharBoundary-start c.args.source.now c.utf8.source

pub returns-in_err-tree-clause-refused : goal.returns-in_err-tree-clause-refused
returns-in_err-tree-clause-refused c =
    let small : length c.args.source.now ≤ MOST_SOURCE = grind (arith, nat_tests) in
    let p = err_from_is_err_and c.from_residual.result c.from_residual.ensures.1 in
    rw (p.1, p.2) (refuses c.args.source.now c.in_err-tree.field-0.0 small (c.in_err-tree.ensures.refused None))
