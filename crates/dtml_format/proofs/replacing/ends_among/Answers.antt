use Rattle.std.proofs.Common.{arith}
use Rattle.std.proofs.lemmas.Simd.{zip2_splat}
use Rattle.dtml_format.specs.Replaced.{changes}
use Rattle.dtml_format.specs.declared.replacing.Mark.TheVariants.{Lines}
use Rattle.dtml_format.proofs.Looks.{hit, either, masked}
use Rattle.dtml_format.proofs.replacing.ends_among.Goals as goal

pub returns : goal.returns
returns c =
    let v = c.args.bytes in
    let long = c.fits-bytes.0 in
    masked (changes Lines) v _ (omega arith) (either _ _ v (zip2_splat hit v 32 13 long) (zip2_splat hit v 32 10 long))
