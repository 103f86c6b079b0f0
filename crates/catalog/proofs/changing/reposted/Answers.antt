use Rattle.std.proofs.Common.{arith}
use Rattle.catalog.specs.Forms.{IsOid}
use Rattle.catalog.proofs.Merged.{reposted_is}
use Rattle.catalog.proofs.changing.reposted.Goals as goal

pub returns : goal.returns
returns c =
    let small : IsOid c.args.oid = omega arith in
    reposted_is c.args.oid c.args.keys.now c.args.postings c.in_ok-others.others c.merge.result c.in_ok-others.ensures c.merge.ensures small c.requires.keys c.requires.postings
