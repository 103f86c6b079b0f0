use Rattle.zope.proofs.Showing.{all_grow, all_rightly}
use Rattle.zope.proofs.laws.servers_keep_access.Goals as goal

pub returns-clause-shown : goal.returns-clause-shown
returns-clause-shown c = λ links limit end old new h items report it. all_rightly c.pages_show_rightly.ensures.shown c.pages_show_rightly.ensures.named c.pages_show_rightly.ensures.denied links limit end it.trace it.end it.right

pub returns-clause-changed : goal.returns-clause-changed
returns-clause-changed c = λ links limit end old new h items report it. all_grow c.changes_are_granted.ensures links limit end it.trace it.end it.right
