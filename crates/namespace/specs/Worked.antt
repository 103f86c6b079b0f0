-- Worked rows: what names mean in a small site, and to whom. They compute.
use Rattle.std.proofs.Common.{◌≡◌, ℕ, false, List, [], ◌∷◌, Option, Some, None, Ok, Err, refl, codes, nat_eq, if◌then◌else◌}
use Rattle.zbase.specs.Query.{Need, Cause}
use Rattle.evaluator.specs.declared.permission.TheConstants.{VIEW}
use Rattle.evaluator.specs.declared.reply.Shown.{Shown}
use Rattle.zobject.specs.declared.object.Object.{Object}
use Rattle.zobject.specs.declared.object.Setting.{Setting}
use Rattle.zobject.specs.declared.object.Child.{Child}
use Rattle.zobject.specs.declared.object.Property.{Property}
use Rattle.zobject.specs.declared.object.PropValue.TheVariants as values
use Rattle.zobject.specs.declared.object.Part2.{Part2}
use Rattle.zobject.specs.declared.object.Part2.TheVariants as parts
use Rattle.zobject.specs.Shapes.{shape_of}
use Rattle.zknown.specs.Seen.{Seen, Here, Unreadable}
use Rattle.acquisition.specs.Acquiring.{containers, upwards, reached}
use Rattle.permissions.specs.declared.who.Who.{Who}
use Rattle.permissions.specs.declared.who.Who.TheVariants as who
use Rattle.permissions.specs.Roles.{roles, has, locals_on, local_roles}
use Rattle.permissions.specs.Verdicts.{verdict_on, judged}
use Rattle.namespace.specs.declared.val.Single.TheVariants as single
use Rattle.namespace.specs.declared.val.Val.TheVariants as val
use Rattle.namespace.specs.declared.val.Layer.{Layer}
use Rattle.namespace.specs.declared.val.Layer.TheVariants as layer
use Rattle.namespace.specs.Looks.{looked, looked_by, Broken, Unauthorized}
use Rattle.namespace.specs.Names.{Scope, text, act, in_object, in_one, searched, by_word, title_in, title_or_id_in, ids_in, values_in, reach_each, property_or_child, property_in, child_at, named, named_for, in_layers, in_layer, in_base}

abbrev lists : List ℕ → ℕ → Child
lists name oid = record { name = name; oid = oid }

abbrev holds : List ℕ → List ℕ → Property
holds name value = record { name = name; value = values.Line value }

abbrev plain : List ℕ → ℕ → List ℕ → List Setting → List Property → Part2 → Seen Object
plain id parent title settings properties part = Here (record { id = id; parent = parent; title = title; settings = settings; locals = []; properties = properties; part = part })

abbrev managers : List Setting
managers = record { permission = VIEW; acquire = false; roles = codes "Manager" ∷ [] } ∷ []

-- the root has a document `s` that managers alone view, and the folders `A` with a document `x`, and `B`, whose `colour`
-- is a property and a child
site : ℕ → Option (Seen Object)
site o =
    if nat_eq o 0 then Some (plain [] 0 (codes "Home") [] (holds (codes "sky") (codes "blue") ∷ []) (parts.Folder (lists (codes "s") 1 ∷ lists (codes "A") 2 ∷ lists (codes "B") 3 ∷ lists (codes "torn") 9 ∷ lists (codes "far") 8 ∷ [])))
    else if nat_eq o 1 then Some (plain (codes "s") 0 (codes "Secret") managers [] (parts.Document [] []))
    else if nat_eq o 2 then Some (plain (codes "A") 0 [] [] [] (parts.Folder (lists (codes "x") 4 ∷ [])))
    else if nat_eq o 3 then Some (plain (codes "B") 0 [] [] (holds (codes "colour") (codes "red") ∷ holds (codes "sky") (codes "grey") ∷ []) (parts.Folder (lists (codes "colour") 1 ∷ [])))
    else if nat_eq o 4 then Some (plain (codes "x") 2 (codes "An x") [] [] (parts.Document [] []))
    else if nat_eq o 9 then Some Unreadable
    else None

abbrev boss : Who
boss = who.Known (codes "boss") (codes "Manager" ∷ []) 0

abbrev by : ℕ → List ℕ → Shown
by o role = record { oid = o; role = role }

-- ---- in an object

denied : looked site [] (in_object who.Anonymous (1 ∷ 0 ∷ []) (codes "title")) ≡ Err (Cause (Unauthorized 1 VIEW))
unfolding site in_object searched in_one by_word title_in shape_of verdict_on containers upwards judged roles has locals_on local_roles
denied = refl

granted : looked site [] (in_object boss (1 ∷ 0 ∷ []) (codes "title")) ≡ Ok (Some (text (codes "Secret")), by 1 (codes "Manager") ∷ [])
unfolding site in_object searched in_one by_word title_in shape_of verdict_on containers upwards judged roles has locals_on local_roles
granted = refl

id_of_all : looked site [] (in_object who.Anonymous (1 ∷ 0 ∷ []) (codes "id")) ≡ Ok (Some (text (codes "s")), [])
unfolding site in_object searched in_one by_word shape_of
id_of_all = refl

id_for_no_title : looked site [] (in_object who.Anonymous (2 ∷ 0 ∷ []) (codes "title_or_id")) ≡ Ok (Some (text (codes "A")), by 2 (codes "Anonymous") ∷ [])
unfolding site in_object searched in_one by_word title_or_id_in shape_of verdict_on containers upwards judged roles has
id_for_no_title = refl

property_first : looked site [] (in_object who.Anonymous (3 ∷ 0 ∷ []) (codes "colour")) ≡ Ok (Some (text (codes "red")), by 3 (codes "Anonymous") ∷ [])
unfolding site in_object searched in_one by_word property_or_child property_in shape_of verdict_on containers upwards judged roles has
property_first = refl

-- the root, a container, before B, the context
container_first : looked site [] (in_object who.Anonymous (4 ∷ 2 ∷ 0 ∷ 3 ∷ []) (codes "sky")) ≡ Ok (Some (text (codes "blue")), by 0 (codes "Anonymous") ∷ [])
unfolding site in_object searched in_one by_word property_or_child property_in child_at shape_of verdict_on containers upwards judged roles has
container_first = refl

child_through_all : looked site [] (in_object who.Anonymous (4 ∷ 2 ∷ 0 ∷ 3 ∷ []) (codes "s")) ≡ Ok (Some (val.Single (single.Obj (1 ∷ 0 ∷ 4 ∷ 2 ∷ 3 ∷ []))), [])
unfolding site in_object searched in_one by_word property_or_child child_at shape_of reached containers upwards
child_through_all = refl

ids : looked site [] (in_object who.Anonymous (2 ∷ 0 ∷ []) (codes "objectIds")) ≡ Ok (Some (val.Seq (single.Text (codes "x") ∷ [])), [])
unfolding site in_object searched in_one by_word ids_in shape_of verdict_on containers upwards judged roles has
ids = refl

each : looked site [] (in_object who.Anonymous (2 ∷ 0 ∷ []) (codes "objectValues")) ≡ Ok (Some (val.Seq (single.Obj (4 ∷ 2 ∷ 0 ∷ []) ∷ [])), [])
unfolding site in_object searched in_one by_word values_in reach_each shape_of reached verdict_on containers upwards judged roles has
each = refl

hidden : looked site [] (in_object who.Anonymous (0 ∷ []) (codes "_s")) ≡ Ok (None, [])
unfolding in_object
hidden = refl

torn : looked site [] (in_object who.Anonymous (0 ∷ []) (codes "torn")) ≡ Err (Cause (Broken 9))
unfolding site in_object searched in_one by_word property_or_child child_at shape_of reached containers upwards
torn = refl

far : looked site [] (in_object who.Anonymous (0 ∷ []) (codes "far")) ≡ Err (Need 8)
unfolding site in_object searched in_one by_word property_or_child child_at shape_of reached containers upwards
far = refl

-- ---- in a stack

-- over `s`, with `sky` pushed, and a request's value
abbrev scope : List Layer → Scope
scope layers = record { user = who.Anonymous; acting = None; layers = layers; client = 1 ∷ 0 ∷ []; request = record { name = codes "q"; val = text (codes "asked") } ∷ [] }

abbrev sky : List ℕ → Layer
sky colour = layer.Names (record { name = codes "sky"; val = text colour } ∷ [])

newest_first : looked site [] (named (scope (sky (codes "old") ∷ sky (codes "new") ∷ [])) (codes "sky")) ≡ Ok (Some (text (codes "new")), [])
unfolding named_for in_layers in_layer
newest_first = refl

object_over_names : looked site [] (named (scope (sky (codes "old") ∷ layer.Object (3 ∷ 0 ∷ []) ∷ [])) (codes "sky")) ≡ Ok (Some (text (codes "grey")), by 3 (codes "Anonymous") ∷ [])
unfolding site named_for in_layers in_layer in_object searched in_one by_word property_or_child property_in shape_of verdict_on containers upwards judged roles has
object_over_names = refl

client_then_request : looked site [] (named (scope []) (codes "q")) ≡ Ok (Some (text (codes "asked")), [])
unfolding site named_for in_layers in_base in_object searched in_one by_word property_or_child child_at shape_of
client_then_request = refl

-- a method with the proxy role Manager has the title that nobody has, for which it is shown
in_their_place : looked site [] (named (act (Some (who.Known [] (codes "Manager" ∷ []) 0)) (scope [])) (codes "title")) ≡ Ok (Some (text (codes "Secret")), by 1 (codes "Manager") ∷ [])
unfolding site named_for in_layers in_base in_object searched in_one by_word title_in shape_of verdict_on containers upwards judged roles has locals_on local_roles
in_their_place = refl

-- and the user of that use is named
their_use : looked_by site [] (named (act (Some (who.Known [] (codes "Manager" ∷ []) 0)) (scope [])) (codes "title")) ≡ Ok (Some (text (codes "Secret")), record { user = who.Known [] (codes "Manager" ∷ []) 0; shown = by 1 (codes "Manager") } ∷ [])
unfolding site named_for in_layers in_base in_object searched in_one by_word title_in shape_of verdict_on containers upwards judged roles has locals_on local_roles
their_use = refl

nobodys_place : looked site [] (named (act None (scope [])) (codes "title")) ≡ Err (Cause (Unauthorized 1 VIEW))
unfolding site named_for in_layers in_base in_object searched in_one by_word title_in shape_of verdict_on containers upwards judged roles has locals_on local_roles
nobodys_place = refl
