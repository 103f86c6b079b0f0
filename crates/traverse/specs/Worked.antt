-- Worked rows: what paths lead to in a site of two folders and two documents of one name.
use Rattle.std.proofs.Common.{◌≡◌, ℕ, List, [], ◌∷◌, Option, Some, None, Ok, Err, refl, codes, nat_eq, if◌then◌else◌}
use Rattle.zbase.specs.Query.{run, Need, Cause}
use Rattle.zobject.specs.declared.object.Child.{Child}
use Rattle.zobject.specs.Shapes.{Shape, Form, Folder, Method, Document}
use Rattle.zknown.specs.Seen.{Seen, Here, Absent}
use Rattle.acquisition.specs.Acquiring.{found, reached, containers, searched, upwards}
use Rattle.traverse.specs.declared.target.Target.TheVariants.{Page, Call}
use Rattle.traverse.specs.Publishing.{NotFound, Broken, published, walked, stepped, child, page, index}

held : ℕ → Form → Seen Shape
held parent form = Here (record { id = []; parent = parent; settings = []; locals = []; names = []; form = form })

lists : List ℕ → ℕ → Child
lists name oid = record { name = name; oid = oid }

-- the root has folders A and B, the document x and the method m, and lists an object that has no value and one that isn't
-- known; A has a document x
site : ℕ → Option (Seen Shape)
site o =
    if nat_eq o 0 then Some (held 0 (Folder (lists (codes "A") 1 ∷ lists (codes "B") 2 ∷ lists (codes "x") 3 ∷ lists (codes "m") 5 ∷ lists (codes "gone") 6 ∷ lists (codes "far") 7 ∷ [])))
    else if nat_eq o 1 then Some (held 0 (Folder (lists (codes "x") 4 ∷ [])))
    else if nat_eq o 2 then Some (held 0 (Folder []))
    else if nat_eq o 3 then Some (held 0 (Document []))
    else if nat_eq o 4 then Some (held 1 (Document []))
    else if nat_eq o 5 then Some (held 0 (Method []))
    else if nat_eq o 6 then Some Absent
    else None

containment_before_context : run site (published (codes "A" ∷ codes "B" ∷ codes "x" ∷ [])) ≡ Ok (Page (3 ∷ 0 ∷ 2 ∷ 1 ∷ []) (3 ∷ 0 ∷ 2 ∷ 1 ∷ []))
unfolding site held lists published walked stepped child page found reached containers searched upwards
containment_before_context = refl

own_before_containers : run site (published (codes "A" ∷ codes "x" ∷ [])) ≡ Ok (Page (4 ∷ 1 ∷ 0 ∷ []) (4 ∷ 1 ∷ 0 ∷ []))
unfolding site held lists published walked stepped child page found reached containers searched upwards
own_before_containers = refl

in_neither : run site (published (codes "B" ∷ codes "y" ∷ [])) ≡ Err (Cause (NotFound (codes "y")))
unfolding site held lists published walked stepped child page found reached containers searched upwards
in_neither = refl

method_over_its_way : run site (published (codes "A" ∷ codes "B" ∷ codes "m" ∷ [])) ≡ Ok (Page (5 ∷ 0 ∷ 2 ∷ 1 ∷ []) (2 ∷ 0 ∷ 1 ∷ []))
unfolding site held lists published walked stepped child page found reached containers searched upwards
method_over_its_way = refl

no_index : run site (published (codes "A" ∷ [])) ≡ Err (Cause (NotFound (codes "index_html")))
unfolding site held lists published walked stepped child page index found reached containers searched upwards
no_index = refl

call_on_a_folder : run site (published (codes "A" ∷ codes "manage_edit" ∷ [])) ≡ Ok (Call (codes "manage_edit") (1 ∷ 0 ∷ []))
unfolding site held lists published walked stepped child page found reached containers searched upwards
call_on_a_folder = refl

without_a_value : run site (published (codes "gone" ∷ [])) ≡ Err (Cause (Broken 6))
unfolding site held lists published walked stepped child page found reached containers searched upwards
without_a_value = refl

not_known : run site (published (codes "A" ∷ codes "far" ∷ [])) ≡ Err (Need 7)
unfolding site held lists published walked stepped child page found reached containers searched upwards
not_known = refl
