use Rattle.zobject.proofs.Changed.{document_source, method_source}
use Rattle.zobject.proofs.laws.sources_may_change.Goals as goal

pub returns : goal.returns
returns c = record { method = method_source; document = document_source }
