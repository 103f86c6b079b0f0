use Rattle.std.proofs.Common.{◌≡◌, ◌++◌, drop, map}
use Rattle.zobject.specs.declared.object.Child.{Child}
use Rattle.site_links.specs.Linked.{links_of}
use Rattle.site_links.proofs.links.links_of.Given as goal

-- the links so far, and those to the children that are left
abbrev pub invariant-loop-child : goal.invariant-loop-child
invariant-loop-child l = l.oids.items ++ map (λ (c : Child). c.oid) (drop l.child-index l.children) ≡ links_of l.object
