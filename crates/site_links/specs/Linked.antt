-- To which objects the record of a site's object leads.
--
-- ZODB Programming Guide, "Packing and garbage collection": an object keeps those that it refers to.
use Rattle.std.specs.Prelude.{ℕ, List, [], ◌∷◌, map, Option, Some, None, Result, Ok, Err}
use Rattle.zobject.specs.declared.object.Child.{Child}
use Rattle.zobject.specs.declared.object.Object.{Object}
use Rattle.zobject.specs.declared.object.Part2.{Part2}
use Rattle.zobject.specs.declared.object.Part2.TheVariants as part
use Rattle.zcodec.specs.Reading.{read}

-- in the folder's order
abbrev pub children_in : Part2 → List Child
children_in (part.Folder children) = children
children_in (part.Method source proxy) = []
children_in (part.Document source proxy) = []
children_in (part.UserFolder users) = []

-- the folder that holds the object, and what it holds itself
abbrev pub links_of : Object → List ℕ
links_of o = o.parent ∷ map (λ (c : Child). c.oid) (children_in o.part)

abbrev pub links_read : Result Object ℕ → Option (List ℕ)
links_read (Ok o) = Some (links_of o)
links_read (Err at) = None

-- where bytes lead to; None where they spell no object
unfoldable pub linked : List ℕ → Option (List ℕ)
linked bytes = links_read (read bytes)
