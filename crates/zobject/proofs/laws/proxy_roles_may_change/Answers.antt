use Rattle.zobject.proofs.Changed.{document_proxy, method_proxy}
use Rattle.zobject.proofs.laws.proxy_roles_may_change.Goals as goal

pub returns : goal.returns
returns c = record { method = method_proxy; document = document_proxy }
