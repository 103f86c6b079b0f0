-- Worked rows: which texts keep their rules, what a folder lists, lists with an item put in or left out, and sorted roles.
use Rattle.std.proofs.Common.{◌≡◌, ℕ, Bool, true, false, List, [], ◌∷◌, map, Some, None, refl, codes}
use Rattle.std.specs.List.{repeat}
use Rattle.zobject.specs.declared.object.Setting.{Setting}
use Rattle.zobject.specs.declared.object.Child.{Child}
use Rattle.zobject.specs.declared.version.Kind.TheVariants.{Folder, Method, Document, UserFolder}
use Rattle.zobject.specs.declared.version.Rule.TheVariants.{StoredId, ChildName, PropertyName, Role, UserName}
use Rattle.zobject.specs.Texts.{fits, is_id}
use Rattle.zobject.specs.Likely.{is_like_id, is_likely}
use Rattle.zobject.specs.Sorting.{sorted, sorted_with}
use Rattle.zobject.specs.Folders.{child_of}
use Rattle.zobject.specs.Changes.{put_setting, without_children}

-- ---- texts

-- an id may have any of its signs, and none that is reserved or hidden
ids : map is_id (codes "a" ∷ codes "index_html" ∷ codes "a.b-c,d~e_1" ∷ codes "..." ∷ codes "aq" ∷ codes "Id" ∷ []) ≡ true ∷ true ∷ true ∷ true ∷ true ∷ true ∷ []
unfolding is_id
ids = refl

no_ids : map is_id ([] ∷ codes "_a" ∷ codes "aq_b" ∷ codes "manage_x" ∷ codes ".." ∷ codes "id" ∷ codes "acl_users" ∷ codes "a b" ∷ codes "a/b" ∷ []) ≡ false ∷ false ∷ false ∷ false ∷ false ∷ false ∷ false ∷ false ∷ false ∷ []
unfolding is_id
no_ids = refl

-- `acl_users` is a user folder's own id, and any child's name; none is a folder's
acl_users : map (λ kind. fits (StoredId kind) (codes "acl_users")) (Folder ∷ Method ∷ Document ∷ UserFolder ∷ []) ≡ false ∷ false ∷ false ∷ true ∷ []
unfolding is_id
acl_users = refl

a_child_may_be_acl_users : fits ChildName (codes "acl_users") ≡ true
unfolding is_id
a_child_may_be_acl_users = refl

no_id : map (λ kind. fits (StoredId kind) []) (Folder ∷ Method ∷ Document ∷ UserFolder ∷ []) ≡ true ∷ false ∷ false ∷ false ∷ []
unfolding is_id
no_id = refl

-- a property's name begins with a letter; what is hidden of ids is none of its rules
property_names : map (fits PropertyName) (codes "manage_x" ∷ codes "aq_1" ∷ codes "_a" ∷ codes "1a" ∷ codes "a-b" ∷ codes "title" ∷ []) ≡ true ∷ true ∷ false ∷ false ∷ false ∷ false ∷ []
property_names = refl

roles : map (fits Role) (codes "Manager" ∷ codes " ~" ∷ codes "a,b" ∷ [] ∷ (31 ∷ []) ∷ (127 ∷ []) ∷ []) ≡ true ∷ true ∷ false ∷ false ∷ false ∷ false ∷ []
roles = refl

-- é in UTF-8 is one of them
user_names : map (fits UserName) (codes "a,b" ∷ (195 ∷ 169 ∷ []) ∷ codes "a:b" ∷ [] ∷ (10 ∷ []) ∷ []) ≡ true ∷ true ∷ false ∷ false ∷ false ∷ []
user_names = refl

-- ---- lists

abbrev a : Child
a = record { name = codes "a"; oid = 1 }

abbrev b : Child
b = record { name = codes "b"; oid = 2 }

abbrev c : Child
c = record { name = codes "c"; oid = 3 }

listed : map (λ name. child_of name (a ∷ b ∷ c ∷ [])) (codes "b" ∷ codes "B" ∷ codes "c" ∷ []) ≡ Some 2 ∷ None ∷ Some 3 ∷ []
listed = refl

left_out : without_children (codes "c" ∷ codes "d" ∷ codes "a" ∷ []) (a ∷ b ∷ c ∷ []) ≡ b ∷ []
left_out = refl

abbrev of : ℕ → Bool → Setting
of n acquire = record { permission = n; acquire = acquire; roles = codes "Manager" ∷ [] }

-- between those below and above it, in place of the one of its number, and last
put_between : put_setting (of 5 true) (of 1 false ∷ of 4 false ∷ of 9 false ∷ []) ≡ of 1 false ∷ of 4 false ∷ of 5 true ∷ of 9 false ∷ []
put_between = refl

put_in_place : put_setting (of 4 true) (of 1 false ∷ of 4 false ∷ of 9 false ∷ []) ≡ of 1 false ∷ of 4 true ∷ of 9 false ∷ []
put_in_place = refl

put_last : put_setting (of 13 true) (of 1 false ∷ []) ≡ of 1 false ∷ of 13 true ∷ []
put_last = refl

-- ---- likely texts, and sorted roles

-- an id of 101 letters breaks its rule by its length alone; others by more
long_id : List ℕ
long_id = repeat 101 (codes "a")

by_length : fits (StoredId Document) long_id ≡ false
unfolding is_id long_id
by_length = refl

likely : map (is_likely (StoredId Document)) (long_id ∷ codes "a" ∷ codes "_a" ∷ codes "title" ∷ [] ∷ []) ≡ true ∷ true ∷ false ∷ false ∷ false ∷ []
unfolding is_like_id long_id
likely = refl

-- by bytes, and each once
roles_sorted : sorted (codes "b" ∷ codes "a" ∷ codes "B" ∷ codes "a" ∷ codes "ab" ∷ []) ≡ codes "B" ∷ codes "a" ∷ codes "ab" ∷ codes "b" ∷ []
unfolding sorted_with
roles_sorted = refl
