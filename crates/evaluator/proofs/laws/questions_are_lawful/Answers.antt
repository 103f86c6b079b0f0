use Rattle.std.proofs.Common.{[]}
use Rattle.evaluator.specs.QuestionLaws.{lawful, trail_short}
use Rattle.evaluator.proofs.laws.questions_are_lawful.Goals as goal

pub returns : goal.returns
returns g c = record { lawful = lawful; few_asks = λ evaluation q n facts within trail. trail_short n (evaluation q) within [] facts trail }
