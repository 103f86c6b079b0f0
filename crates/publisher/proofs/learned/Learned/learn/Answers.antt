use Rattle.std.proofs.Common.{◌≡◌, ◌<◌, ap, arith, get_or, length, subst, take}
use Rattle.publisher.proofs.Learning.{fits_so, grows_further, next_holds}
use Rattle.publisher.proofs.learned.Learned.learn.Goals as goal

pub returns-in_err-learn_one-clause-fits : goal.returns-in_err-learn_one-clause-fits
returns-in_err-learn_one-clause-fits c = λ more. fits_so _ c.args.facts.now c.loop-at.at (c.in_err-learn_one.ensures.stays (take c.loop-at.at c.args.facts.now) c.loop-at.invariant.holds) more

pub returns-in_err-learn_one-clause-grows : goal.returns-in_err-learn_one-clause-grows
returns-in_err-learn_one-clause-grows c = grows_further c.args.self.now.known c.loop-at.self.known _ c.loop-at.invariant.grows c.in_err-learn_one.ensures.grows

pub loop-at-preserved : goal.loop-at-preserved
loop-at-preserved c =
    let same : length c.as_slice-all.result.now ≡ length c.args.facts.now = ap length c.as_slice-all.ensures in
    let below : c.loop-at.at < length c.args.facts.now = omega (arith, c.loop-at-test.true, same) in
    record {
      within = omega (arith, below);
      holds = next_holds _ c.args.facts.now c.loop-at.at _ below (subst (λ xs. c.index-all-at.result ≡ get_or xs c.loop-at.at c.index-all-at.result) c.as_slice-all.ensures c.index-all-at.is) (c.in_ok-learn_one.ensures.added (take c.loop-at.at c.args.facts.now) c.loop-at.invariant.holds);
      grows = grows_further c.args.self.now.known c.loop-at.self.known _ c.loop-at.invariant.grows c.in_ok-learn_one.ensures.grows;
    }
