use Rattle.zknown.specs.Seen.{objects}
use Rattle.publisher.proofs.Undoing.{progress_grows}
use Rattle.publisher.proofs.site.SiteEvaluator.eval.Goals as goal

pub evaluated-requires : goal.evaluated-requires
evaluated-requires c = record {
  holds = c.in_ok-learn.ensures.all;
  trail = c.requires.trail;
  progress = progress_grows (objects c.args.state.now.learned.known) (objects c.learn.new.self.known) c.args.known.now c.args.state.now.progress c.args.request.now c.in_ok-learn.ensures.grows c.requires.fits.progress;
}
