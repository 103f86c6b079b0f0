use Rattle.publisher.proofs.Limiting.{site_once, site_whole}
use Rattle.publisher.proofs.site.evaluated.Goals as goal

pub limited-requires : goal.limited-requires
limited-requires c = record { holds = c.requires.holds; once = site_once c.args.message.now c.args.facts.now c.requires.trail; progress = rw c.in-Whole.is at c.requires.progress }

pub returns-in_ok-outcome-in-Whole-clause-value : goal.returns-in_ok-outcome-in-Whole-clause-value
returns-in_ok-outcome-in-Whole-clause-value c =
    rw c.in-Whole.is (site_whole c.in-Whole.request c.args.learned.now c.args.facts.now c.in_ok-outcome-in-Whole.outcome c.in_ok-outcome-in-Whole.ensures.value c.requires.holds (rw c.in-Whole.is at c.requires.trail))
