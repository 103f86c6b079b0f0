use Rattle.publisher.proofs.site.SiteEvaluator.fresh.Goals as goal

pub returns : goal.returns
returns c = λ known message. c.new.ensures known message
