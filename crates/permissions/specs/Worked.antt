-- Worked rows: who views a document two folders deep, and which user a request comes from.
use Rattle.std.proofs.Common.{◌≡◌, ℕ, Bool, true, false, List, [], ◌∷◌, Option, Some, None, Ok, Err, refl, codes, map, nat_eq, if◌then◌else◌}
use Rattle.base64.specs.Rfc4648.{encode_symbols}
use Rattle.sha1.specs.Sha1.{sha1, digest_bytes, hash_after, compress, rounds, schedule, first_words}
use Rattle.zbase.specs.Query.{run, Cause}
use Rattle.zobject.specs.declared.object.Child.{Child}
use Rattle.zobject.specs.declared.object.Local.{Local}
use Rattle.zobject.specs.declared.object.Setting.{Setting}
use Rattle.zobject.specs.declared.object.User.{User}
use Rattle.zobject.specs.Shapes.{Shape, Form, Folder, Method, Document, UserFolder}
use Rattle.zknown.specs.Seen.{Seen, Here, Unreadable}
use Rattle.evaluator.specs.declared.permission.TheConstants.{ACCESS_CONTENTS_INFORMATION, CHANGE_PERMISSIONS, CHANGE_PROXY_ROLES, VIEW}
use Rattle.acquisition.specs.Acquiring.{Broken, containers, upwards}
use Rattle.permissions.specs.declared.who.Who.TheVariants.{Anonymous, Known}
use Rattle.permissions.specs.declared.who.Verdict.TheVariants.{Granted, Denied}
use Rattle.permissions.specs.Roles.{roles, local_roles, locals_on, has}
use Rattle.permissions.specs.Verdicts.{judged, verdict_on, least_common, acting}
use Rattle.permissions.specs.Users.{who, known_user, sought, taken_at, user_at}

held : ℕ → List Setting → List Local → Form → Seen Shape
held parent settings locals form = Here (record { id = []; parent = parent; settings = settings; locals = locals; names = []; form = form })

lists : List ℕ → ℕ → Child
lists name oid = record { name = name; oid = oid }

sets : ℕ → Bool → List (List ℕ) → Setting
sets permission acquire roles = record { permission = permission; acquire = acquire; roles = roles }

-- a user whose password is `secret`
named : List ℕ → List (List ℕ) → User
named name roles = record { name = name; password = codes "{SHA}5en6G6MezRroT3XKqkdPOmY/BfQ="; roles = roles }

-- `/F/G/d`: F gives the local role Editor to `ann`, a user of the root's user folder without roles; d has View for Editor
-- alone. H has a user folder with the Manager `eve`, and one document; U has one that is no record.
site : ℕ → Option (Seen Shape)
site o =
    if nat_eq o 0 then Some (held 0 [] [] (Folder (lists (codes "F") 1 ∷ lists (codes "acl_users") 4 ∷ lists (codes "H") 5 ∷ lists (codes "U") 8 ∷ [])))
    else if nat_eq o 1 then Some (held 0 [] (record { user = codes "ann"; roles = codes "Editor" ∷ [] } ∷ []) (Folder (lists (codes "G") 2 ∷ [])))
    else if nat_eq o 2 then Some (held 1 (sets VIEW true (codes "Author" ∷ []) ∷ []) [] (Folder (lists (codes "d") 3 ∷ [])))
    else if nat_eq o 3 then Some (held 2 (sets VIEW false (codes "Editor" ∷ []) ∷ []) [] (Document []))
    else if nat_eq o 4 then Some (held 0 [] [] (UserFolder (named (codes "ann") [] ∷ [])))
    else if nat_eq o 5 then Some (held 0 [] [] (Folder (lists (codes "acl_users") 6 ∷ lists (codes "e") 7 ∷ [])))
    else if nat_eq o 6 then Some (held 5 [] [] (UserFolder (named (codes "eve") (codes "Manager" ∷ []) ∷ [])))
    else if nat_eq o 7 then Some (held 5 [] [] (Method (codes "Editor" ∷ [])))
    else if nat_eq o 8 then Some (held 0 [] [] (Folder (lists (codes "acl_users") 9 ∷ [])))
    else if nat_eq o 9 then Some Unreadable
    else None

-- ---- roles

given : map (λ (p : ℕ). run site (roles p (3 ∷ 2 ∷ 1 ∷ 0 ∷ []))) (VIEW ∷ ACCESS_CONTENTS_INFORMATION ∷ CHANGE_PROXY_ROLES ∷ []) ≡ Ok (codes "Editor" ∷ []) ∷ Ok (codes "Anonymous" ∷ codes "Manager" ∷ []) ∷ Ok (codes "Manager" ∷ []) ∷ []
unfolding site held lists sets roles
given = refl

acquired : run site (roles VIEW (2 ∷ 1 ∷ 0 ∷ [])) ≡ Ok (codes "Author" ∷ codes "Anonymous" ∷ codes "Manager" ∷ [])
unfolding site held lists sets roles
acquired = refl

anns : run site (has (Known (codes "ann") [] 0) (3 ∷ 2 ∷ 1 ∷ 0 ∷ [])) ≡ Ok (codes "Anonymous" ∷ codes "Authenticated" ∷ codes "Editor" ∷ [])
unfolding site held lists sets has locals_on local_roles
anns = refl

least_by_bytes : least_common (codes "Owner" ∷ codes "Editor" ∷ codes "Author" ∷ []) (codes "Manager" ∷ codes "Owner" ∷ codes "Editor" ∷ codes "Owner" ∷ []) ≡ Some (codes "Editor")
least_by_bytes = refl

-- ---- verdicts

ann_views : run site (verdict_on (Known (codes "ann") [] 0) 3 VIEW) ≡ Ok (Granted (codes "Editor"))
unfolding site held lists sets verdict_on containers upwards judged roles has locals_on local_roles
ann_views = refl

no_one_views : run site (verdict_on Anonymous 3 VIEW) ≡ Ok (Denied VIEW)
unfolding site held lists sets verdict_on containers upwards judged roles has locals_on local_roles
no_one_views = refl

-- a Manager of the user folder inside `/H`
strangers_dont_view : run site (verdict_on (Known (codes "eve") (codes "Manager" ∷ []) 5) 3 VIEW) ≡ Ok (Denied VIEW)
unfolding site held lists sets verdict_on containers upwards judged roles has locals_on local_roles
strangers_dont_view = refl

-- the source of `/H/e` acts as someone who has Editor everywhere, and no local role
proxy_views : run site (verdict_on (acting Anonymous (record { id = []; parent = 5; settings = []; locals = []; names = []; form = Method (codes "Editor" ∷ []) })) 3 VIEW) ≡ Ok (Granted (codes "Editor"))
unfolding site held lists sets verdict_on containers upwards judged roles has locals_on local_roles
proxy_views = refl

-- ---- the user of a request

ann_is_found : run site (who (Some (codes "ann", codes "secret")) 3 VIEW) ≡ Ok (Known (codes "ann") [] 0)
unfolding site held lists sets named known_user sought taken_at user_at containers upwards judged roles has locals_on local_roles encode_symbols sha1 digest_bytes hash_after compress rounds schedule first_words
ann_is_found = refl

-- a permission that isn't granted, another password, a user of another branch, and no credentials
others_are_not : map (λ (c : Option (List ℕ × List ℕ)). run site (who c 3 VIEW)) (Some (codes "ann", codes "Secret") ∷ Some (codes "eve", codes "secret") ∷ None ∷ []) ≡ Ok Anonymous ∷ Ok Anonymous ∷ Ok Anonymous ∷ []
unfolding site held lists sets named known_user sought taken_at user_at containers upwards judged roles has locals_on local_roles encode_symbols sha1 digest_bytes hash_after compress rounds schedule first_words
others_are_not = refl

not_for_managing : run site (who (Some (codes "ann", codes "secret")) 3 CHANGE_PERMISSIONS) ≡ Ok Anonymous
unfolding site held lists sets named known_user sought taken_at user_at containers upwards judged roles has locals_on local_roles encode_symbols sha1 digest_bytes hash_after compress rounds schedule first_words
not_for_managing = refl

-- a call on a folder begins at the folder itself
eve_at_home : run site (who (Some (codes "eve", codes "secret")) 5 CHANGE_PERMISSIONS) ≡ Ok (Known (codes "eve") (codes "Manager" ∷ []) 5)
unfolding site held lists sets named known_user sought taken_at user_at containers upwards judged roles has locals_on local_roles encode_symbols sha1 digest_bytes hash_after compress rounds schedule first_words
eve_at_home = refl

-- a user folder on the way that is no record
no_record_on_the_way : run site (who (Some (codes "ann", codes "secret")) 8 VIEW) ≡ Err (Cause (Broken 9))
unfolding site held lists sets named known_user sought taken_at user_at containers upwards judged roles has locals_on local_roles
no_record_on_the_way = refl
