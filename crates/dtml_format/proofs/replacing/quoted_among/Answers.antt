use Rattle.std.proofs.Common.{arith}
use Rattle.std.proofs.lemmas.Simd.{zip2_splat}
use Rattle.dtml_format.specs.Replaced.{changes}
use Rattle.dtml_format.specs.declared.replacing.Mark.TheVariants.{Html}
use Rattle.dtml_format.proofs.Looks.{hit, either, masked}
use Rattle.dtml_format.proofs.replacing.quoted_among.Goals as goal

pub returns : goal.returns
returns c =
    let v = c.args.bytes in
    let long = c.fits-bytes.0 in
    masked (changes Html) v _ (omega arith) (either _ _ v (either _ _ v (either _ _ v (zip2_splat hit v 32 38 long) (zip2_splat hit v 32 60 long)) (zip2_splat hit v 32 62 long)) (zip2_splat hit v 32 34 long))
