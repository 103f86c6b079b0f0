use Rattle.catalog.proofs.Found.{searches_find}
use Rattle.catalog.proofs.laws.searches_find_hits.Goals as goal

pub returns : goal.returns
returns c = searches_find
