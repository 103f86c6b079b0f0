use Rattle.catalog.proofs.Told.{texts_read}
use Rattle.catalog.proofs.laws.texts_are_read.Goals as goal

pub returns : goal.returns
returns c = texts_read
