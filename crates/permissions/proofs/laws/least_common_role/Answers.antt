use Rattle.permissions.proofs.VerdictLaws.{common_given, common_least, common_none}
use Rattle.permissions.proofs.laws.least_common_role.Goals as goal

pub returns : goal.returns
returns c = record {
  given = λ mine given role e. (common_given mine given role e).0;
  had = λ mine given role e. (common_given mine given role e).1;
  least = common_least;
  none = common_none;
}
