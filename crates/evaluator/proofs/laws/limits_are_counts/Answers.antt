use Rattle.std.proofs.Common.{[]}
use Rattle.evaluator.specs.Counting.{limits_count}
use Rattle.evaluator.specs.Exec.{most_asks}
use Rattle.evaluator.specs.LimitLaws.{careful_limited, limited_within}
use Rattle.evaluator.specs.Questions.{most_bytes}
use Rattle.evaluator.proofs.laws.limits_are_counts.Goals as goal

pub returns : goal.returns
returns c = record {
  within = λ runaway q. limited_within runaway most_bytes [] most_asks 0 q;
  careful = λ runaway q is. careful_limited runaway most_bytes [] most_asks 0 q is;
  counted = limits_count;
}
