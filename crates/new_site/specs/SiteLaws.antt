-- The objects of a new site keep the rules, and its file opens to its one transaction.
use Rattle.std.proofs.Common.{◌≡◌, ℕ, Bool, true, false, ◌+◌, ◌<◌, ◌≤◌, ◌^◌, List, [], ◌∷◌, ◌++◌, All, length, get_or, take, drop, refl, ap, sym, subst, ◌∙◌, append-nil, arith, codes, inl, inr}
use Rattle.std.specs.Prelude.{◌⊎◌, slice_set}
use Rattle.std.proofs.lemmas.Bool.{false≢true}
use Rattle.std.proofs.lemmas.Slice.Eq.{bytes_eq-Decides}
use Rattle.std.proofs.lemmas.Bool.Decides.{nat_tests}
use Rattle.std.proofs.lemmas.List.Elements.{All-cons, All-nil}
use Rattle.std.proofs.lemmas.List.{length-append, take-append-drop, get_or-drop}
use Rattle.zbase.specs.NumberLaws.{length-be16, length-be32, length-be64}
use Rattle.zdisk.specs.Crashes.{IsTorn}
use Rattle.fs_record.specs.File.{Front, IsFile, after, front_of, is_right_body, last_place, magic}
use Rattle.fs_record.specs.FileReading.{status_at, status_set}
use Rattle.fs_record.specs.Opening.{Cut, is_end}
use Rattle.fs_record.specs.OpeningLaws.{torn_is_end}
use Rattle.fs_record.specs.Sizes.{length-transaction}
use Rattle.fs_record.specs.Spelling.{Block, block_spelling}
use Rattle.fs_record.specs.Written.{FitsItem, GoesBehind, HasBody, IsWritable, transaction}
use Rattle.fs_record.specs.WrittenLaws.{history-transaction, right_behind}
use Rattle.fs_record.specs.declared.body.Item.{Item}
use Rattle.zbase.specs.Numbers.{be16, be64}
use Rattle.zcodec.specs.Record.{list_of, record_text, roles, source_text, text, user}
use Rattle.user_folder.specs.Users.{kept}
use Rattle.zobject.specs.declared.object.Object.{Object}
use Rattle.std.specs.Char.{encode_utf8}
use Rattle.std.specs.Str.{bytes_eq, chars, is_utf8}
use Rattle.std.specs.List.{AllByRecursion}
use Rattle.zobject.specs.Rules.{AreRoles, IsChild, IsObject, IsPart, IsUser, Keeps}
use Rattle.zobject.specs.declared.object.Part2.{Part2}
use Rattle.zobject.specs.declared.version.Kind.TheVariants as kind
use Rattle.zobject.specs.declared.version.Rule.TheVariants.{ChildName, Role, Source, StoredId, Title, UserName}
use Rattle.zobject.specs.declared.version.Version.TheVariants.{Second}
use Rattle.zobject.specs.Texts.{is_id}
use Rattle.user_folder.specs.KeptLaws.{kept_is_lawful, kept_length}
use Rattle.new_site.specs.Begun.{IsNoFile, OpensEmpty}
use Rattle.new_site.specs.NewSite.{child, file_with, first_item, items, made, manager, root, site_file, site_history, start_page, texts, user_folder}

-- ---- the objects

root_id : Keeps (StoredId kind.Folder) []
unfolding is_utf8 chars encode_utf8
root_id = refl

users_id : Keeps (StoredId kind.UserFolder) (codes "acl_users")
unfolding is_id is_utf8 chars encode_utf8
users_id = refl

page_id : Keeps (StoredId kind.Method) (codes "index_html")
unfolding is_id is_utf8 chars encode_utf8
page_id = refl

no_title : Keeps Title []
unfolding is_utf8 chars encode_utf8
no_title = refl

root_title : Keeps Title (codes "Zope")
unfolding is_utf8 chars encode_utf8
root_title = refl

page_source : Keeps Source (codes "<html><body><h1><dtml-var title html_quote></h1></body></html>")
unfolding is_utf8 chars encode_utf8
page_source = refl

users_name : Keeps ChildName (codes "acl_users")
unfolding is_id is_utf8 chars encode_utf8
users_name = refl

page_name : Keeps ChildName (codes "index_html")
unfolding is_id is_utf8 chars encode_utf8
page_name = refl

manager_role : Keeps Role (codes "Manager")
unfolding is_utf8 chars encode_utf8
manager_role = refl

is_child : (name : List ℕ) (oid : ℕ) → Keeps ChildName name → oid < 2 ^ 64 → IsChild (child name oid)
is_child name oid keeps fits = record { name = keeps; oid = fits }

pub root_is : IsObject root
root_is = record {
  id = root_id;
  parent = omega arith;
  title = root_title;
  settings = record { enough = omega arith; few = omega arith; each = tt };
  settings_rise = tt;
  locals = record { enough = omega arith; few = omega arith; each = tt };
  locals_rise = tt;
  properties = record { enough = omega arith; few = omega arith; each = tt };
  properties_rise = tt;
  part = (record { enough = omega arith; few = omega arith; each = (is_child (codes "acl_users") 1 users_name (omega arith), (is_child (codes "index_html") 2 page_name (omega arith), tt)) }, (refl, (refl, tt)));
}

are_roles : AreRoles 0 (codes "Manager" ∷ [])
are_roles = record { many = record { enough = omega arith; few = omega arith; each = (manager_role, tt) }; rise = tt }

is_manager : (name password : List ℕ) → Keeps UserName name → IsUser (manager name password)
is_manager name password keeps = record { name = keeps; password = kept_is_lawful password; roles = are_roles }

pub users_is : (name password : List ℕ) → Keeps UserName name → IsObject (user_folder name password)
users_is name password keeps = record {
  id = users_id;
  parent = omega arith;
  title = no_title;
  settings = record { enough = omega arith; few = omega arith; each = tt };
  settings_rise = tt;
  locals = record { enough = omega arith; few = omega arith; each = tt };
  locals_rise = tt;
  properties = record { enough = omega arith; few = omega arith; each = tt };
  properties_rise = tt;
  part = (record { enough = omega arith; few = omega arith; each = (is_manager name password keeps, tt) }, tt);
}

no_roles : AreRoles 0 []
no_roles = record { many = record { enough = omega arith; few = omega arith; each = tt }; rise = tt }

pub page_is : IsObject start_page
page_is = record {
  id = page_id;
  parent = omega arith;
  title = no_title;
  settings = record { enough = omega arith; few = omega arith; each = tt };
  settings_rise = tt;
  locals = record { enough = omega arith; few = omega arith; each = tt };
  locals_rise = tt;
  properties = record { enough = omega arith; few = omega arith; each = tt };
  properties_rise = tt;
  part = (page_source, no_roles);
}

-- ---- the sizes of the records

pub root_size : length (record_text Second root) ≡ 66
unfolding record_text text list_of
root_size = simp (length-append, length-be16, length-be64)

text_size : (t : List ℕ) → length (text t) ≡ 2 + length t
unfolding text
text_size t = omega (arith, length-append (be16 (length t)) t, length-be16 (length t))

role_size : length (roles (codes "Manager" ∷ [])) ≡ 11
unfolding list_of text
role_size = simp (length-append, length-be16)

manager_size : (name password : List ℕ) → length (user (manager name password)) ≡ 48 + length name
manager_size name password =
    let is : user (manager name password) ≡ (text name ++ text (kept password)) ++ roles (codes "Manager" ∷ []) = refl in
    omega (arith, ap length is, length-append (text name ++ text (kept password)) (roles (codes "Manager" ∷ [])), length-append (text name) (text (kept password)), text_size name, text_size (kept password), kept_length password, role_size)

-- what stands before the user in the record of the user folder
abbrev users_head : List ℕ
users_head = take 32 (record_text Second (user_folder [] []))

users_head_size : length users_head ≡ 32
unfolding record_text text list_of be16 be64
users_head_size = refl

users_record : (name password : List ℕ) → record_text Second (user_folder name password) ≡ users_head ++ (user (manager name password) ++ [])
unfolding record_text text list_of be16 be64
users_record name password = refl

pub users_size : (name password : List ℕ) → length (record_text Second (user_folder name password)) ≡ 80 + length name
users_size name password = omega (arith, ap length (users_record name password), length-append users_head (user (manager name password) ++ []), users_head_size, length-append (user (manager name password)) [], manager_size name password)

pub page_size : length (record_text Second start_page) ≡ 99
unfolding record_text text list_of source_text
page_size = simp (length-append, length-be16, length-be32, length-be64)

name_is_short : (name : List ℕ) → Keeps UserName name → length name ≤ 100
name_is_short name keeps = grind (arith, nat_tests)

-- the file has fewer than 600 bytes
pub site_fits : (stamp status : ℕ) (name password : List ℕ) → Keeps UserName name → 4 + length (block_spelling (transaction 4 stamp status texts (items name password))) < 600
site_fits stamp status name password keeps =
    omega (arith, length-transaction 4 stamp status texts (items name password), root_size, users_size name password, page_size, name_is_short name keeps)

-- and more than its transaction's status needs
pub site_long : (stamp status : ℕ) (name password : List ℕ) → 20 < length (file_with status stamp name password)
unfolding file_with
site_long stamp status name password = omega (arith, length-transaction 4 stamp status texts (items name password))

has_some : (o : Object) → 0 < length (record_text Second o)
unfolding record_text
has_some o = omega arith

pub site_bodies : (name password : List ℕ) → All HasBody (items name password)
site_bodies name password =
    All-cons HasBody (first_item 0 root) (first_item 1 (user_folder name password) ∷ first_item 2 start_page ∷ []) (has_some root)
    (All-cons HasBody (first_item 1 (user_folder name password)) (first_item 2 start_page ∷ []) (has_some (user_folder name password))
    (All-cons HasBody (first_item 2 start_page) [] (has_some start_page) (All-nil HasBody)))

-- ---- what stands there while the file is made

magic_is_file : IsFile magic (front_of [])
magic_is_file = record { blocks = []; right = tt; spelled = refl; said = refl }

-- the status of the transaction, from the file's start
waiting_at : (stamp status : ℕ) (name password : List ℕ) → get_or (file_with status stamp name password) 20 0 ≡ status
unfolding file_with
waiting_at stamp status name password = status_at 4 stamp status texts (items name password)

-- another status in its place
pub status_put : (stamp : ℕ) (name password : List ℕ) → slice_set (file_with 99 stamp name password) 20 32 ≡ site_file stamp name password
unfolding file_with
status_put stamp name password = ap (λ (bytes : List ℕ). magic ++ bytes) (status_set 4 stamp 99 32 texts (items name password))

torn_status : (piece image : List ℕ) → get_or piece 20 0 ≡ 99 → (get_or image 20 0 ≡ get_or piece 20 0) ⊎ (get_or image 20 0 ≡ 0) → (get_or image 20 0 ≡ 99) ⊎ (get_or image 20 0 ≡ 0)
torn_status piece image waits (inl e) = inl (e ∙ waits)
torn_status piece image waits (inr e) = inr e

opens_empty : (image : List ℕ) → take 4 image ≡ magic → (get_or image 20 0 ≡ 99) ⊎ (get_or image 20 0 ≡ 0) → OpensEmpty image
opens_empty image front status = (
  4,
  (
    drop 4 image,
    record {
      file = magic;
      is_file = magic_is_file;
      joined = sym (take-append-drop 4 image) ∙ ap (λ (bytes : List ℕ). bytes ++ drop 4 image) front;
      at = refl;
    },
    torn_is_end (drop 4 image) (subst (λ (byte : ℕ). (byte ≡ 99) ⊎ (byte ≡ 0)) (sym (get_or-drop 4 image 16 0)) status),
  ),
)

no_magic : (image more : List ℕ) → (take 4 image ≡ magic → ⊥) → image ≡ magic ++ more → ⊥
no_magic image more other is = other (ap (take 4) is)

begins_or_not : (image : List ℕ) → (take 4 image ≡ magic) ⊎ (take 4 image ≡ magic → ⊥)
begins_or_not image = (elim (bytes_eq (take 4 image) magic) as (λ (b : Bool). bytes_eq (take 4 image) magic ≡ b → (take 4 image ≡ magic) ⊎ (take 4 image ≡ magic → ⊥)) [
  | true ↦ λ e. inl ((bytes_eq-Decides (take 4 image) magic).0 e)
  | false ↦ λ e. inr (λ same. false≢true (sym e ∙ (bytes_eq-Decides (take 4 image) magic).1 same))
]) refl

-- nothing, or a torn piece: no file, or one without transactions
pub torn_begun : (stamp : ℕ) (name password image : List ℕ) → IsTorn [] (file_with 99 stamp name password) image → IsNoFile image ⊎ OpensEmpty image
torn_begun stamp name password image torn =
    let status : (get_or image 20 0 ≡ 99) ⊎ (get_or image 20 0 ≡ 0) =
    torn_status (file_with 99 stamp name password) image (waiting_at stamp 99 name password) (subst (λ (rest : List ℕ). (get_or rest 20 0 ≡ get_or (file_with 99 stamp name password) 20 0) ⊎ (get_or rest 20 0 ≡ 0)) (sym torn.behind) (torn.each 20)) in
    elim (begins_or_not image) [
      | inl front ↦ inr (opens_empty image front status)
      | inr other ↦ inl (inl (refl, refl, λ more is. no_magic image more other is))
    ]

-- the file whose transaction waits opens to the history without transactions
pub waiting_begun : (stamp : ℕ) (name password : List ℕ) → OpensEmpty (file_with 99 stamp name password)
unfolding file_with
waiting_begun stamp name password = opens_empty (file_with 99 stamp name password) refl (inl (waiting_at stamp 99 name password))

-- ---- the file opens

site_writable : (stamp : ℕ) (name password : List ℕ) → stamp < 2 ^ 64 → Keeps UserName name → IsWritable 4 stamp 32 texts (items name password)
site_writable stamp name password fits keeps = record {
  id = fits;
  user = omega arith;
  description = omega arith;
  extension = omega arith;
  each = All-cons FitsItem (first_item 0 root) (first_item 1 (user_folder name password) ∷ first_item 2 start_page ∷ []) (fits_item 0 root (omega arith))
      (All-cons FitsItem (first_item 1 (user_folder name password)) (first_item 2 start_page ∷ []) (fits_item 1 (user_folder name password) (omega arith))
      (All-cons FitsItem (first_item 2 start_page) [] (fits_item 2 start_page (omega arith)) (All-nil FitsItem)));
  end = omega (arith, site_fits stamp 32 name password keeps);
}
  where
    fits_item : (oid : ℕ) (o : Object) → oid < 2 ^ 64 → FitsItem (first_item oid o)
    fits_item oid o small = record { oid = small; prev = omega arith; body = has_some o }

site_goes : (stamp : ℕ) (name password : List ℕ) → 0 < stamp → GoesBehind (front_of []) stamp 32 (items name password)
site_goes stamp name password later = record {
  later = later;
  counted = refl;
  previous = All-cons IsFirst (first_item 0 root) (first_item 1 (user_folder name password) ∷ first_item 2 start_page ∷ []) refl
      (All-cons IsFirst (first_item 1 (user_folder name password)) (first_item 2 start_page ∷ []) refl
      (All-cons IsFirst (first_item 2 start_page) [] refl (All-nil IsFirst)));
  back = All-cons IsFull (first_item 0 root) (first_item 1 (user_folder name password) ∷ first_item 2 start_page ∷ []) refl
      (All-cons IsFull (first_item 1 (user_folder name password)) (first_item 2 start_page ∷ []) refl
      (All-cons IsFull (first_item 2 start_page) [] refl (All-nil IsFull)));
}
  where
    IsFirst : Item → Type 0
    IsFirst item = item.prev ≡ last_place item.oid 0 []

    IsFull : Item → Type 0
    IsFull item = is_right_body [] item.oid item.body ≡ true

nothing_ends : is_end [] ≡ true
unfolding is_end
nothing_ends = refl

pub site_opens : (stamp : ℕ) (name password : List ℕ) → 0 < stamp → stamp < 2 ^ 64 → Keeps UserName name
    → (front : Front) × Cut (site_file stamp name password) front (length (site_file stamp name password)) × (front.history ≡ site_history stamp name password)
unfolding file_with
site_opens stamp name password some fits keeps =
    let block : Block = transaction 4 stamp 32 texts (items name password) in
    let file : IsFile (magic ++ block_spelling block) (after (front_of []) block) =
    record { blocks = block ∷ []; right = (right_behind (front_of []) 4 stamp 32 texts (items name password) refl (site_writable stamp name password fits keeps) (site_goes stamp name password some), tt); spelled = refl; said = refl } in (
      after (front_of []) block,
      ([], record { file = magic ++ block_spelling block; is_file = file; joined = sym (append-nil (magic ++ block_spelling block)); at = refl }, nothing_ends),
      history-transaction (front_of []) 4 stamp 32 texts (items name password),
    )
