-- What each row of the table writes keeps the rules of objects, where the row refuses nothing.
use Rattle.std.proofs.Common.{◌≡◌, ℕ, ◌≤◌, ◌<◌, ◌^◌, ◌&&◌, ◌==◌, Bool, true, false, not, List, [], ◌∷◌, ◌++◌, length, map, Some, None, option_map, Ok, refl, sym, subst, arith, nat_lt, nat_le, codes, if◌then◌else◌}
use Rattle.std.specs.List.{filter, find, list_any, AllByRecursion}
use Rattle.std.specs.Str.{bytes_eq, is_utf8}
use Rattle.std.proofs.lemmas.Bool.Decides.{nat_tests}
use Rattle.std.proofs.lemmas.Str.{IsUtf8-from_is_utf8}
use Rattle.user_folder.specs.Users.{kept}
use Rattle.zobject.specs.declared.limits.TheConstants.{MOST_CHILDREN, MOST_COUNTED, MOST_LOCALS, MOST_PROPERTIES, MOST_USERS, MOST_VALUE}
use Rattle.zobject.specs.declared.object.Child.{Child}
use Rattle.zobject.specs.declared.object.Local.{Local}
use Rattle.zobject.specs.declared.object.Object.{Object}
use Rattle.zobject.specs.declared.object.Part2.{Part2}
use Rattle.zobject.specs.declared.object.Part2.TheVariants as parts
use Rattle.zobject.specs.declared.object.Property.{Property}
use Rattle.zobject.specs.declared.object.Setting.{Setting}
use Rattle.zobject.specs.declared.object.User.{User}
use Rattle.zobject.specs.declared.version.Kind.TheVariants as kind
use Rattle.zobject.specs.declared.version.Rule.TheVariants.{ChildName, Password, Role, Source, StoredId, Title, Value}
use Rattle.zobject.specs.declared.version.Version.TheVariants.{Second}
use Rattle.zobject.specs.Changes.{new_object, put_local, put_property, put_setting, put_user, with_id, with_locals, with_part, with_properties, with_settings, with_title, without_children}
use Rattle.zobject.specs.Folders.{child_of}
use Rattle.zobject.specs.Rules.{AreRoles, IsChild, IsLocal, IsObject, IsPart, IsProperty, IsSetting, IsUser, Keeps, comes_before, kind_of, least_roles}
use Rattle.zobject.specs.Sorting.{sorted}
use Rattle.manage.specs.declared.call.Call.{Call}
use Rattle.manage.specs.declared.call.Call.TheVariants as call
use Rattle.manage.specs.declared.refusal.FieldName.TheVariants as field
use Rattle.manage.specs.declared.rule.FieldRule.TheVariants as rule
use Rattle.manage.specs.Becoming.{Situation, children, children_in, is_among, lines_of, new_local, new_setting, new_user, new_value, other_settings, settings_with, text, texts, title_or, users_in, with_proxy, with_source}
use Rattle.manage.specs.Changing.{judged}
use Rattle.manage.specs.Fields.{fields_kept, list, maybe, maybe_list, one}
use Rattle.manage.specs.Laws.{IsRightRow}
use Rattle.manage.specs.Refusing.{acl_users, are_known, child_names, has_room, has_room_for_local, has_room_for_property, has_room_for_user, is_free, is_short, property_names, user_names}
use Rattle.manage.specs.Table.{add_document, add_folder, add_method, add_property, add_user, add_user_folder, delete_local_roles, delete_objects, delete_properties, edit_document, edit_folder, edit_method, is_document, is_folder, is_method, is_page, is_user_folder, rename_object, set_local_roles, set_permission, set_proxy_roles, table, value_rule}
use Rattle.manage.specs.Written.{with_child}
use Rattle.manage.proofs.Kept.{fields_are, not_refused, passed, text_is, text_or}
use Rattle.manage.proofs.Lines.{lines_keep}
use Rattle.manage.proofs.Property.{value_is}
use Rattle.manage.proofs.Right.{Like, acl_listed, acl_stored, at_most, both, empty_title, fewer_than, id_keeps, listed, name_keeps, never_both, no_source, no_title, none_of, not_more, one_at_least, permission_is, put_few, roles_are, roles_are_some, source_keeps, stored, title_keeps, title_or_keeps, user_keeps, value_keeps}

-- ---- kinds

folder_is : (p : Part2) → is_folder (kind_of p) ≡ true → p ≡ parts.Folder (children_in p)
folder_is (parts.Folder cs) e = refl
folder_is (parts.Method source proxy) e = absurd (let bad = e in cc)
folder_is (parts.Document source proxy) e = absurd (let bad = e in cc)
folder_is (parts.UserFolder users) e = absurd (let bad = e in cc)

users_are : (p : Part2) → is_user_folder (kind_of p) ≡ true → p ≡ parts.UserFolder (users_in p)
users_are (parts.UserFolder users) e = refl
users_are (parts.Folder cs) e = absurd (let bad = e in cc)
users_are (parts.Method source proxy) e = absurd (let bad = e in cc)
users_are (parts.Document source proxy) e = absurd (let bad = e in cc)

-- ---- a folder with a child more

room_is : (few shallow : Bool) → not (few && shallow) ≡ false → few ≡ true
room_is true shallow e = refl
room_is false shallow e = absurd (let bad = e in cc)

abbrev More : Type 0
More = (o : Object) (cs : List Child) (c : Child) → IsObject o → o.part ≡ parts.Folder cs → IsChild c → child_of c.name cs ≡ None → length cs < MOST_CHILDREN → IsObject (with_part (parts.Folder (cs ++ c ∷ [])) o)

abbrev New : Type 0
New = (id : List ℕ) (parent : ℕ) (title : List ℕ) (part : Part2) → Keeps (StoredId (kind_of part)) id → parent < 2 ^ 64 → Keeps Title title → IsPart Second part → IsObject (new_object id parent title part)

no_roles : AreRoles 0 []
no_roles = record { many = record { enough = omega arith; few = omega arith; each = tt }; rise = tt }

module _ (like : Like) (more : More) (new : New) where
  grown_right : (folder : Object) (cs : List Child) (name : List ℕ) (oid : ℕ) → IsObject folder → folder.part ≡ parts.Folder cs → Keeps ChildName name → oid < 2 ^ 64
      → is_among (map (λ (c : Child). c.name) cs) name ≡ false → length cs < MOST_CHILDREN → IsObject (with_child folder cs name oid)
  grown_right folder cs name oid is was keeps few none room = more folder cs (record { name = name; oid = oid }) is was (record { name = keeps; oid = few }) (none_of name cs none) room

  -- what the adding rows have in common, once their fields and tests passed
  adds : (s : Situation) (o : ℕ) (id title : List ℕ) (part : Part2) → IsObject s.object → is_folder (kind_of s.object.part) ≡ true → o < 2 ^ 64 → Keeps ChildName id → Keeps (StoredId (kind_of part)) id → Keeps Title title → IsPart Second part
      → is_free child_names (λ s. id) s ≡ Ok (tt {0}) → has_room s ≡ Ok (tt {0})
      → ((first : ℕ) → first < 2 ^ 64 → IsObject (with_child s.object (children s) id first)) × IsObject (new_object id o title part)
  adds s o id title part is folder few name stored shown right free room =
      let left = room_is (nat_lt (length (children s)) MOST_CHILDREN) _ (not_refused _ _ room) in
      (λ first fits. grown_right s.object (children s) id first is (folder_is s.object.part folder) name fits (not_refused _ _ free) (fewer_than (length (children s)) MOST_CHILDREN left), new id o title part stored few shown right)

  pub add_folder_right : IsRightRow add_folder
  unfolding judged
  add_folder_right s o is folder few e =
      let rows = passed (fields_kept (one field.Id rule.Id ∷ maybe field.Title rule.Title ∷ []) s.form) _ tt e in
      let free = passed (is_free child_names (text field.Id) s) _ tt rows.1 in
      let room = passed (has_room s) _ tt free.1 in
      let each = fields_are (one field.Id rule.Id ∷ maybe field.Title rule.Title ∷ []) s.form rows.0 in
      let id = id_keeps like (text field.Id s) (text_is (one field.Id rule.Id) s.form each.0 refl) in
      let title = title_keeps like (text field.Title s) (text_or (maybe field.Title rule.Title) s.form each.1.0 no_title) in
      adds s o (text field.Id s) (text field.Title s) (parts.Folder []) is folder few (listed (text field.Id s) id) (stored kind.Folder (text field.Id s) id) title
      (record { enough = omega arith; few = omega arith; each = tt }, tt) free.0 room.0

  pub add_method_right : IsRightRow add_method
  unfolding judged
  add_method_right s o is folder few e =
      let rows = passed (fields_kept (one field.Id rule.Id ∷ maybe field.Title rule.Title ∷ maybe field.File rule.Source ∷ []) s.form) _ tt e in
      let free = passed (is_free child_names (text field.Id) s) _ tt rows.1 in
      let room = passed (has_room s) _ tt free.1 in
      let each = fields_are (one field.Id rule.Id ∷ maybe field.Title rule.Title ∷ maybe field.File rule.Source ∷ []) s.form rows.0 in
      let id = id_keeps like (text field.Id s) (text_is (one field.Id rule.Id) s.form each.0 refl) in
      let title = title_keeps like (text field.Title s) (text_or (maybe field.Title rule.Title) s.form each.1.0 no_title) in
      let source = source_keeps like (text field.File s) (text_or (maybe field.File rule.Source) s.form each.1.1.0 no_source) in
      adds s o (text field.Id s) (text field.Title s) (parts.Method (text field.File s) []) is folder few (listed (text field.Id s) id) (stored kind.Method (text field.Id s) id) title (source, no_roles) free.0 room.0

  pub add_document_right : IsRightRow add_document
  unfolding judged
  add_document_right s o is folder few e =
      let rows = passed (fields_kept (one field.Id rule.Id ∷ maybe field.Title rule.Title ∷ maybe field.File rule.Source ∷ []) s.form) _ tt e in
      let free = passed (is_free child_names (text field.Id) s) _ tt rows.1 in
      let room = passed (has_room s) _ tt free.1 in
      let each = fields_are (one field.Id rule.Id ∷ maybe field.Title rule.Title ∷ maybe field.File rule.Source ∷ []) s.form rows.0 in
      let id = id_keeps like (text field.Id s) (text_is (one field.Id rule.Id) s.form each.0 refl) in
      let title = title_keeps like (text field.Title s) (text_or (maybe field.Title rule.Title) s.form each.1.0 no_title) in
      let source = source_keeps like (text field.File s) (text_or (maybe field.File rule.Source) s.form each.1.1.0 no_source) in
      adds s o (text field.Id s) (text field.Title s) (parts.Document (text field.File s) []) is folder few (listed (text field.Id s) id) (stored kind.Document (text field.Id s) id) title (source, no_roles) free.0 room.0

  pub add_user_folder_right : IsRightRow add_user_folder
  unfolding judged
  add_user_folder_right s o is folder few e =
      let rows = passed (fields_kept [] s.form) _ tt e in
      let free = passed (is_free child_names acl_users s) _ tt rows.1 in
      let room = passed (has_room s) _ tt free.1 in
      adds s o (codes "acl_users") [] (parts.UserFolder []) is folder few acl_listed acl_stored empty_title (record { enough = omega arith; few = omega arith; each = tt }, tt) free.0 room.0

-- ---- a source, and titles

abbrev Titles : Type 0
Titles = (o : Object) (title : List ℕ) → IsObject o → Keeps Title title → IsObject (with_title title o)

abbrev Methods : Type 0
Methods = (o : Object) (source new : List ℕ) (proxy : List (List ℕ)) → IsObject o → o.part ≡ parts.Method source proxy → Keeps Source new → IsObject (with_part (parts.Method new proxy) o)

abbrev Documents : Type 0
Documents = (o : Object) (source new : List ℕ) (proxy : List (List ℕ)) → IsObject o → o.part ≡ parts.Document source proxy → Keeps Source new → IsObject (with_part (parts.Document new proxy) o)

module _ (like : Like) (titles : Titles) (methods : Methods) (documents : Documents) where
  method_source : (o : Object) (p : Part2) (new : List ℕ) → IsObject o → o.part ≡ p → is_method (kind_of p) ≡ true → Keeps Source new → IsObject (with_part (with_source new p) o)
  method_source o (parts.Method source proxy) new is e method keeps = methods o source new proxy is e keeps
  method_source o (parts.Folder cs) new is e method keeps = absurd (let bad = method in cc)
  method_source o (parts.Document source proxy) new is e method keeps = absurd (let bad = method in cc)
  method_source o (parts.UserFolder users) new is e method keeps = absurd (let bad = method in cc)

  document_source : (o : Object) (p : Part2) (new : List ℕ) → IsObject o → o.part ≡ p → is_document (kind_of p) ≡ true → Keeps Source new → IsObject (with_part (with_source new p) o)
  document_source o (parts.Document source proxy) new is e document keeps = documents o source new proxy is e keeps
  document_source o (parts.Folder cs) new is e document keeps = absurd (let bad = document in cc)
  document_source o (parts.Method source proxy) new is e document keeps = absurd (let bad = document in cc)
  document_source o (parts.UserFolder users) new is e document keeps = absurd (let bad = document in cc)

  pub edit_method_right : IsRightRow edit_method
  unfolding judged
  edit_method_right s o is method few e =
      let rows = passed (fields_kept (one field.Data rule.Source ∷ maybe field.Title rule.Title ∷ []) s.form) _ tt e in
      let each = fields_are (one field.Data rule.Source ∷ maybe field.Title rule.Title ∷ []) s.form rows.0 in
      let source = source_keeps like (text field.Data s) (text_is (one field.Data rule.Source) s.form each.0 refl) in
      titles (with_part (with_source (text field.Data s) s.object.part) s.object) (title_or s.object.title (texts field.Title s)) (method_source s.object s.object.part (text field.Data s) is refl method source)
      (title_or_keeps like s.object.title (texts field.Title s) is.title each.1.0.each)

  pub edit_document_right : IsRightRow edit_document
  unfolding judged
  edit_document_right s o is document few e =
      let rows = passed (fields_kept (one field.Data rule.Source ∷ maybe field.Title rule.Title ∷ []) s.form) _ tt e in
      let each = fields_are (one field.Data rule.Source ∷ maybe field.Title rule.Title ∷ []) s.form rows.0 in
      let source = source_keeps like (text field.Data s) (text_is (one field.Data rule.Source) s.form each.0 refl) in
      titles (with_part (with_source (text field.Data s) s.object.part) s.object) (title_or s.object.title (texts field.Title s)) (document_source s.object s.object.part (text field.Data s) is refl document source)
      (title_or_keeps like s.object.title (texts field.Title s) is.title each.1.0.each)

  pub edit_folder_right : IsRightRow edit_folder
  unfolding judged
  edit_folder_right s o is folder few e =
      let rows = passed (fields_kept (one field.Title rule.Title ∷ []) s.form) _ tt e in
      let each = fields_are (one field.Title rule.Title ∷ []) s.form rows.0 in
      titles s.object (text field.Title s) is (title_keeps like (text field.Title s) (text_is (one field.Title rule.Title) s.form each.0 refl))

-- ---- fewer

module _ (fewer : (o : Object) (cs : List Child) (keep : Child → Bool) → IsObject o → o.part ≡ parts.Folder cs → IsObject (with_part (parts.Folder (filter keep cs)) o)) where
  pub delete_objects_right : IsRightRow delete_objects
  delete_objects_right s o is folder few e = fewer s.object (children s) (λ (c : Child). not (list_any (bytes_eq c.name) (texts field.Ids s))) is (folder_is s.object.part folder)

module _ (fewer : (o : Object) (keep : Local → Bool) → IsObject o → IsObject (with_locals (filter keep o.locals) o)) where
  pub delete_local_roles_right : IsRightRow delete_local_roles
  delete_local_roles_right s o is any few e = fewer s.object (λ (l : Local). not (is_among (texts field.UserIds s) l.user)) is

module _ (fewer : (o : Object) (keep : Property → Bool) → IsObject o → IsObject (with_properties (filter keep o.properties) o)) where
  pub delete_properties_right : IsRightRow delete_properties
  delete_properties_right s o is holder few e = fewer s.object (λ (p : Property). not (is_among (texts field.Ids s) p.name)) is

-- ---- a child under another name

oid_fits : (name : List ℕ) (cs : List Child) (oid : ℕ) → AllByRecursion IsChild cs → child_of name cs ≡ Some oid → oid < 2 ^ 64
oid_fits name [] oid all e = absurd (let bad = e in cc)
oid_fits name (c ∷ cs) oid all e = at (bytes_eq c.name name) e (oid_fits name cs oid all.1)
  where
    at : (b : Bool) → option_map (λ (c : Child). c.oid) (if b then Some c else find (λ (c : Child). bytes_eq c.name name) cs) ≡ Some oid → (child_of name cs ≡ Some oid → oid < 2 ^ 64) → oid < 2 ^ 64
    at true e' deeper = (let same : c.oid ≡ oid = cc in subst (λ n. n < 2 ^ 64) same all.0.oid)
    at false e' deeper = deeper e'

children_are : (o : Object) → IsObject o → is_folder (kind_of o.part) ≡ true → AllByRecursion IsChild (children_in o.part)
children_are o is folder = (subst (IsPart Second) (folder_is o.part folder) is.part).0.each

module _ (like : Like)
    (renamed : (o : Object) (cs : List Child) (old : List ℕ) (oid : ℕ) (c : Child) → IsObject o → o.part ≡ parts.Folder cs → child_of old cs ≡ Some oid → IsChild c → child_of c.name cs ≡ None → IsObject (with_part (parts.Folder (without_children (old ∷ []) cs ++ c ∷ [])) o))
    (ids : (o : Object) (id : List ℕ) → IsObject o → Keeps (StoredId (kind_of o.part)) id → IsObject (with_id id o)) where
  pub rename_object_right : IsRightRow rename_object
  unfolding judged
  rename_object_right s o is folder few e =
      let rows = passed (fields_kept (one field.Id rule.ChildName ∷ one field.NewId rule.Id ∷ []) s.form) _ tt e in
      let known = passed (are_known child_names (λ s. text field.Id s ∷ []) s) _ tt rows.1 in
      let free = passed (is_free child_names (text field.NewId) s) _ tt known.1 in
      let each = fields_are (one field.Id rule.ChildName ∷ one field.NewId rule.Id ∷ []) s.form rows.0 in
      let id = id_keeps like (text field.NewId s) (text_is (one field.NewId rule.Id) s.form each.1.0 refl) in (
        λ child found. renamed s.object (children s) (text field.Id s) child (record { name = text field.NewId s; oid = child }) is (folder_is s.object.part folder) found
            (record { name = listed (text field.NewId s) id; oid = oid_fits (text field.Id s) (children s) child (children_are s.object is folder) found })
            (none_of (text field.NewId s) (children s) (not_refused _ _ free.0)),
        λ object right. ids object (text field.NewId s) right (stored (kind_of object.part) (text field.NewId s) id),
      )

-- ---- roles

abbrev Any : Type 0
Any = (texts : List (List ℕ)) → AllByRecursion (Keeps Role) texts → length (sorted texts) ≤ MOST_COUNTED → AreRoles 0 (sorted texts)

abbrev AtLeastOne : Type 0
AtLeastOne = (text : List ℕ) (texts : List (List ℕ)) → AllByRecursion (Keeps Role) (text ∷ texts) → length (sorted (text ∷ texts)) ≤ MOST_COUNTED → AreRoles 1 (sorted (text ∷ texts))

module _ (put : (o : Object) (t : Setting) → IsObject o → IsSetting Second t → IsObject (with_settings (put_setting t o.settings) o))
    (fewer : (o : Object) (keep : Setting → Bool) → IsObject o → IsObject (with_settings (filter keep o.settings) o)) where
  setting_right : (o : Object) (t : Setting) → IsObject o → (1 ≤ t.permission) × (t.permission ≤ 13) → AreRoles 0 t.roles → IsObject (with_settings (settings_with t o.settings) o)
  setting_right o t is number roles = at t.acquire refl (length t.roles == 0) refl
    where
      some : (n : ℕ) → (n == 0) ≡ false → 1 ≤ n
      some n e = grind (arith, nat_tests)

      least : (acquire : Bool) → t.acquire ≡ acquire → (length t.roles == 0) ≡ false → AreRoles (least_roles acquire) t.roles
      least true e has = one_at_least t.roles roles (some (length t.roles) has)
      least false e has = roles

      at : (acquire : Bool) → t.acquire ≡ acquire → (none : Bool) → (length t.roles == 0) ≡ none → IsObject (with_settings (if acquire && none then other_settings t.permission o.settings else put_setting t o.settings) o)
      at true e true n = fewer o (λ (u : Setting). not (u.permission == t.permission)) is
      at true e false n = put o t is (record { permission = number; roles = subst (λ a. AreRoles (least_roles a) t.roles) (sym e) (least true e n) })
      at false e none n = put o t is (record { permission = number; roles = subst (λ a. AreRoles (least_roles a) t.roles) (sym e) roles })

  module _ (like : Like) (any : Any) where
    pub set_permission_right : IsRightRow set_permission
    unfolding judged
    set_permission_right s o is any_kind few e =
        let rows = passed (fields_kept (one field.Permission rule.Permission ∷ maybe_list field.Roles rule.Role ∷ maybe field.Acquire rule.Any ∷ []) s.form) _ tt e in
        let each = fields_are (one field.Permission rule.Permission ∷ maybe_list field.Roles rule.Role ∷ maybe field.Acquire rule.Any ∷ []) s.form rows.0 in
        let named = text_is (one field.Permission rule.Permission) s.form each.0 refl in
        setting_right s.object (new_setting s.form) is (permission_is (text field.Permission s) named.0) (roles_are like any (maybe_list field.Roles rule.Role) (texts field.Roles s) refl each.1.0)

module _ (like : Like) (some : AtLeastOne) (put : (o : Object) (l : Local) → IsObject o → IsLocal l → length (put_local l o.locals) ≤ MOST_LOCALS → IsObject (with_locals (put_local l o.locals) o)) where
  pub set_local_roles_right : IsRightRow set_local_roles
  unfolding judged
  set_local_roles_right s o is any_kind few e =
      let rows = passed (fields_kept (one field.UserId rule.UserName ∷ list field.Roles rule.Role ∷ []) s.form) _ tt e in
      let room = passed (has_room_for_local s) _ tt rows.1 in
      let each = fields_are (one field.UserId rule.UserName ∷ list field.Roles rule.Role ∷ []) s.form rows.0 in
      let user = user_keeps like (text field.UserId s) (text_is (one field.UserId rule.UserName) s.form each.0 refl) in
      put s.object (new_local s.form) is (record { user = user; roles = roles_are_some like some (list field.Roles rule.Role) (texts field.Roles s) refl refl each.1.0 })
      (not_more MOST_LOCALS _ (not_refused _ _ room.0))

module _ (like : Like) (any : Any)
    (methods : (o : Object) (source : List ℕ) (proxy new : List (List ℕ)) → IsObject o → o.part ≡ parts.Method source proxy → AreRoles 0 new → IsObject (with_part (parts.Method source new) o))
    (documents : (o : Object) (source : List ℕ) (proxy new : List (List ℕ)) → IsObject o → o.part ≡ parts.Document source proxy → AreRoles 0 new → IsObject (with_part (parts.Document source new) o)) where
  proxied : (o : Object) (p : Part2) (new : List (List ℕ)) → IsObject o → o.part ≡ p → is_page (kind_of p) ≡ true → AreRoles 0 new → IsObject (with_part (with_proxy new p) o)
  proxied o (parts.Method source proxy) new is e page roles = methods o source proxy new is e roles
  proxied o (parts.Document source proxy) new is e page roles = documents o source proxy new is e roles
  proxied o (parts.Folder cs) new is e page roles = absurd (let bad = page in cc)
  proxied o (parts.UserFolder users) new is e page roles = absurd (let bad = page in cc)

  pub set_proxy_roles_right : IsRightRow set_proxy_roles
  unfolding judged
  set_proxy_roles_right s o is page few e =
      let rows = passed (fields_kept (maybe_list field.Roles rule.Role ∷ []) s.form) _ tt e in
      let each = fields_are (maybe_list field.Roles rule.Role ∷ []) s.form rows.0 in
      proxied s.object s.object.part (sorted (texts field.Roles s)) is refl page (roles_are like any (maybe_list field.Roles rule.Role) (texts field.Roles s) refl each.0)

-- ---- a property more

room_both : (few short : Bool) → not (few && short) ≡ false → (few ≡ true) × (short ≡ true)
room_both true true e = (refl, refl)
room_both true false e = absurd (let bad = e in cc)
room_both false short e = absurd (let bad = e in cc)

value_lines : (text : List ℕ) → Keeps Value text → AllByRecursion (Keeps Value) (lines_of text)
value_lines text is =
    let p = both (nat_le (length text) MOST_VALUE) (is_utf8 text) is in
    lines_keep text (IsUtf8-from_is_utf8 text p.1) (at_most MOST_VALUE (length text) p.0)

module _ (like : Like) (put : (o : Object) (p : Property) → IsObject o → IsProperty Second p → length (put_property p o.properties) ≤ MOST_PROPERTIES → IsObject (with_properties (put_property p o.properties) o)) where
  pub add_property_right : IsRightRow add_property
  unfolding judged
  add_property_right s o is holder few e =
      let rows = passed (fields_kept (one field.Id rule.PropertyName ∷ one field.Value (value_rule s.form) ∷ maybe field.ValueType rule.PropertyType ∷ []) s.form) _ tt e in
      let free = passed (is_free property_names (text field.Id) s) _ tt rows.1 in
      let room = passed (has_room_for_property s) _ tt free.1 in
      let each = fields_are (one field.Id rule.PropertyName ∷ one field.Value (value_rule s.form) ∷ maybe field.ValueType rule.PropertyType ∷ []) s.form rows.0 in
      let name = name_keeps like (text field.Id s) (text_is (one field.Id rule.PropertyName) s.form each.0 refl) in
      let kept = text_is (one field.Value (value_rule s.form)) s.form each.1.0 refl in
      let space = room_both (nat_lt (length s.object.properties) MOST_PROPERTIES) (is_short (new_value s.form)) (not_refused _ _ room.0) in
      let value = value_is (bytes_eq (text field.ValueType s) (codes "int")) (bytes_eq (text field.ValueType s) (codes "lines")) (text field.Value s) kept space.1 (value_lines (text field.Value s)) (value_keeps like (text field.Value s)) in
      let p : Property = record { name = text field.Id s; value = new_value s.form } in
      let more = put_few (λ (p q : Property). comes_before p.name q.name) (λ (p q : Property). never_both p.name q.name) p s.object.properties in
      let less = fewer_than (length s.object.properties) MOST_PROPERTIES space.0 in
      put s.object p is (record { name = name; value = value }) (omega (arith, more, less))

-- ---- a user more

module _ (like : Like) (any : Any) (passwords : (password : List ℕ) → Keeps Password (kept password))
    (put : (o : Object) (users : List User) (u : User) → IsObject o → o.part ≡ parts.UserFolder users → IsUser u → length (put_user u users) ≤ MOST_USERS → IsObject (with_part (parts.UserFolder (put_user u users)) o)) where
  roomy : (few : Bool) → not few ≡ false → few ≡ true
  roomy true e = refl
  roomy false e = absurd (let bad = e in cc)

  pub add_user_right : IsRightRow add_user
  unfolding judged
  add_user_right s o is folder few e =
      let rows = passed (fields_kept (one field.Name rule.UserName ∷ one field.Password rule.Password ∷ maybe_list field.Roles rule.Role ∷ []) s.form) _ tt e in
      let free = passed (is_free user_names (text field.Name) s) _ tt rows.1 in
      let room = passed (has_room_for_user s) _ tt free.1 in
      let each = fields_are (one field.Name rule.UserName ∷ one field.Password rule.Password ∷ maybe_list field.Roles rule.Role ∷ []) s.form rows.0 in
      let name = user_keeps like (text field.Name s) (text_is (one field.Name rule.UserName) s.form each.0 refl) in
      let roles = roles_are like any (maybe_list field.Roles rule.Role) (texts field.Roles s) refl each.1.1.0 in
      let more = put_few (λ (u v : User). comes_before u.name v.name) (λ (u v : User). never_both u.name v.name) (new_user s.form) (users_in s.object.part) in
      let less = fewer_than (length (users_in s.object.part)) MOST_USERS (roomy _ (not_refused _ _ room.0)) in
      put s.object (users_in s.object.part) (new_user s.form) is (users_are s.object.part folder) (record { name = name; password = passwords (text field.Password s); roles = roles }) (omega (arith, more, less))

-- ---- the table

module _ (an_add_folder : IsRightRow add_folder) (an_add_method : IsRightRow add_method) (an_add_document : IsRightRow add_document) (an_add_user_folder : IsRightRow add_user_folder)
    (an_edit_method : IsRightRow edit_method) (an_edit_document : IsRightRow edit_document) (an_edit_folder : IsRightRow edit_folder)
    (a_delete_objects : IsRightRow delete_objects) (a_rename_object : IsRightRow rename_object) (a_set_permission : IsRightRow set_permission)
    (a_set_local_roles : IsRightRow set_local_roles) (a_delete_local_roles : IsRightRow delete_local_roles) (an_add_property : IsRightRow add_property)
    (a_delete_properties : IsRightRow delete_properties) (a_set_proxy_roles : IsRightRow set_proxy_roles) (an_add_user : IsRightRow add_user) where
  pub every_row : (c : Call) → AllByRecursion IsRightRow (table c)
  every_row call.AddFolder = (an_add_folder, tt)
  every_row call.AddMethod = (an_add_method, tt)
  every_row call.AddDocument = (an_add_document, tt)
  every_row call.AddUserFolder = (an_add_user_folder, tt)
  every_row call.Edit = (an_edit_method, (an_edit_document, (an_edit_folder, tt)))
  every_row call.DeleteObjects = (a_delete_objects, tt)
  every_row call.RenameObject = (a_rename_object, tt)
  every_row call.SetPermission = (a_set_permission, tt)
  every_row call.SetLocalRoles = (a_set_local_roles, tt)
  every_row call.DeleteLocalRoles = (a_delete_local_roles, tt)
  every_row call.AddProperty = (an_add_property, tt)
  every_row call.DeleteProperties = (a_delete_properties, tt)
  every_row call.SetProxyRoles = (a_set_proxy_roles, tt)
  every_row call.AddUser = (an_add_user, tt)
  every_row call.UndoTransactions = tt
  every_row call.ListTransactions = tt
