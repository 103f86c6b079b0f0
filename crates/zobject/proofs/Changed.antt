-- An object of which one part is another keeps the rules where the new part does.
use Rattle.std.proofs.Common.{◌≡◌, ℕ, ◌+◌, ◌<◌, ◌≤◌, ◌^◌, Bool, true, not, List, [], ◌∷◌, ◌++◌, length, Some, None, refl, sym, subst, ltb, arith, Ordering, Less, Equal, Greater}
use Rattle.std.specs.List.{filter, list_any, AllByRecursion}
use Rattle.std.specs.Str.{bytes_eq}
use Rattle.std.specs.Ordering.{nat_cmp, is_lt}
use Rattle.std.specs.Cmp.Lexicographic.{slice_cmp}
use Rattle.std.proofs.lemmas.Bool.{ltb-true, lt-ltb}
use Rattle.std.proofs.lemmas.Cmp.{nat_list_cmp_total}
use Rattle.std.proofs.lemmas.List.{length-append}
use Rattle.zobject.specs.declared.limits.TheConstants.{MOST_CHILDREN, MOST_COUNTED, MOST_LOCALS, MOST_PROPERTIES, MOST_USERS}
use Rattle.zobject.specs.declared.object.Setting.{Setting}
use Rattle.zobject.specs.declared.object.Local.{Local}
use Rattle.zobject.specs.declared.object.Property.{Property}
use Rattle.zobject.specs.declared.object.Child.{Child}
use Rattle.zobject.specs.declared.object.User.{User}
use Rattle.zobject.specs.declared.object.Part2.{Part2}
use Rattle.zobject.specs.declared.object.Part2.TheVariants as part
use Rattle.zobject.specs.declared.object.Object.{Object}
use Rattle.zobject.specs.declared.version.Kind.{Kind}
use Rattle.zobject.specs.declared.version.Rule.TheVariants.{StoredId, Title, Source, Role}
use Rattle.zobject.specs.declared.version.Version.TheVariants.{Second}
use Rattle.zobject.specs.Folders.{child_of}
use Rattle.zobject.specs.Rules.{AreDistinct, AreMany, AreRoles, IsChild, IsLocal, IsObject, IsPart, IsProperty, IsSetting, IsUser, Keeps, Rise, comes_before, kind_of}
use Rattle.zobject.specs.Changes.{new_object, put, put_local, put_property, put_setting, put_user, with_id, with_locals, with_part, with_properties, with_settings, with_title, without_children}
use Rattle.zobject.proofs.Rising.{append_all, filter_many, filter_rise, from_none, put_all, put_many, put_rise}
use Rattle.zobject.proofs.Listed.{names, filter_distinct, filter_none, fewer_left, pushed_distinct}

-- ---- orders

less : (o : Ordering) → is_lt o ≡ true → o ≡ Less
less Less e = refl
less Equal e = absurd (let bad = e in cc)
less Greater e = absurd (let bad = e in cc)

is_less : (o : Ordering) → o ≡ Less → is_lt o ≡ true
is_less o e = subst (λ (p : Ordering). is_lt p ≡ true) (sym e) refl

pub text_trans : (a b c : List ℕ) → comes_before a b ≡ true → comes_before b c ≡ true → comes_before a c ≡ true
text_trans a b c e f = is_less (slice_cmp nat_cmp a c) (nat_list_cmp_total.trans a b c (less _ e) (less _ f))

number_trans : (a b c : ℕ) → ltb a b ≡ true → ltb b c ≡ true → ltb a c ≡ true
number_trans a b c e f = let one = ltb-true a b e in let other = ltb-true b c f in lt-ltb a c (omega (arith, one, other))

abbrev by_permission : Setting → Setting → Bool
by_permission s t = ltb s.permission t.permission

abbrev by_local : Local → Local → Bool
by_local l k = comes_before l.user k.user

abbrev by_property : Property → Property → Bool
by_property p q = comes_before p.name q.name

abbrev by_user : User → User → Bool
by_user u v = comes_before u.name v.name

-- ---- parts

pub new_is : (id : List ℕ) (parent : ℕ) (title : List ℕ) (p : Part2) → Keeps (StoredId (kind_of p)) id → parent < 2 ^ 64 → Keeps Title title → IsPart Second p → IsObject (new_object id parent title p)
new_is id parent title p name below shown is = record {
  id = name;
  parent = below;
  title = shown;
  settings = record { enough = omega arith; few = omega arith; each = tt };
  settings_rise = tt;
  locals = record { enough = omega arith; few = omega arith; each = tt };
  locals_rise = tt;
  properties = record { enough = omega arith; few = omega arith; each = tt };
  properties_rise = tt;
  part = is;
}

pub id_is : (o : Object) (id : List ℕ) → IsObject o → Keeps (StoredId (kind_of o.part)) id → IsObject (with_id id o)
id_is o id is new = record { id = new; parent = is.parent; title = is.title; settings = is.settings; settings_rise = is.settings_rise; locals = is.locals; locals_rise = is.locals_rise; properties = is.properties; properties_rise = is.properties_rise; part = is.part }

pub title_is : (o : Object) (title : List ℕ) → IsObject o → Keeps Title title → IsObject (with_title title o)
title_is o title is new = record { id = is.id; parent = is.parent; title = new; settings = is.settings; settings_rise = is.settings_rise; locals = is.locals; locals_rise = is.locals_rise; properties = is.properties; properties_rise = is.properties_rise; part = is.part }

settings_are : (o : Object) (ss : List Setting) → IsObject o → AreMany 0 MOST_COUNTED (IsSetting Second) ss → Rise by_permission ss → IsObject (with_settings ss o)
settings_are o ss is are rise = record { id = is.id; parent = is.parent; title = is.title; settings = are; settings_rise = rise; locals = is.locals; locals_rise = is.locals_rise; properties = is.properties; properties_rise = is.properties_rise; part = is.part }

locals_are : (o : Object) (ls : List Local) → IsObject o → AreMany 0 MOST_LOCALS IsLocal ls → Rise by_local ls → IsObject (with_locals ls o)
locals_are o ls is are rise = record { id = is.id; parent = is.parent; title = is.title; settings = is.settings; settings_rise = is.settings_rise; locals = are; locals_rise = rise; properties = is.properties; properties_rise = is.properties_rise; part = is.part }

properties_are : (o : Object) (ps : List Property) → IsObject o → AreMany 0 MOST_PROPERTIES (IsProperty Second) ps → Rise by_property ps → IsObject (with_properties ps o)
properties_are o ps is are rise = record { id = is.id; parent = is.parent; title = is.title; settings = is.settings; settings_rise = is.settings_rise; locals = is.locals; locals_rise = is.locals_rise; properties = are; properties_rise = rise; part = is.part }

part_is : (o : Object) (old new : Part2) → IsObject o → o.part ≡ old → kind_of new ≡ kind_of old → IsPart Second new → IsObject (with_part new o)
part_is o old new is was same right = record { id = subst (λ (k : Kind). Keeps (StoredId k) o.id) (sym same) (subst (λ (p : Part2). Keeps (StoredId (kind_of p)) o.id) was is.id); parent = is.parent; title = is.title; settings = is.settings; settings_rise = is.settings_rise; locals = is.locals; locals_rise = is.locals_rise; properties = is.properties; properties_rise = is.properties_rise; part = right }

old_part : (o : Object) (old : Part2) → IsObject o → o.part ≡ old → IsPart Second old
old_part o old is was = subst (IsPart Second) was is.part

-- ---- settings

-- numbers from 1 to 13 that rise are no more than 13
few_behind : (s : Setting) (ss : List Setting) → Rise by_permission (s ∷ ss) → AllByRecursion (IsSetting Second) (s ∷ ss) → s.permission + length (s ∷ ss) ≤ 14
few_behind s [] rise all = let top : s.permission ≤ 13 = all.0.permission.1 in omega (arith, top)
few_behind s (t ∷ ss) rise all =
    let more = few_behind t ss rise.1 all.1 in
    let lt = ltb-true s.permission t.permission rise.0 in
    omega (arith, more, lt)

few_settings : (ss : List Setting) → Rise by_permission ss → AllByRecursion (IsSetting Second) ss → length ss ≤ MOST_COUNTED
few_settings [] rise all = omega arith
few_settings (s ∷ ss) rise all = let few = few_behind s ss rise all in omega (arith, few)

pub setting_put : (o : Object) (s : Setting) → IsObject o → IsSetting Second s → IsObject (with_settings (put_setting s o.settings) o)
setting_put o s is right =
    let rise = put_rise by_permission (λ a b c e f. number_trans a.permission b.permission c.permission e f) s o.settings is.settings_rise in
    let each = put_all (IsSetting Second) by_permission s o.settings right is.settings.each in
    settings_are o (put_setting s o.settings) is (record { enough = omega arith; few = few_settings (put_setting s o.settings) rise each; each = each }) rise

pub settings_fewer : (o : Object) (keep : Setting → Bool) → IsObject o → IsObject (with_settings (filter keep o.settings) o)
settings_fewer o keep is =
    settings_are o (filter keep o.settings) is (filter_many MOST_COUNTED (IsSetting Second) keep o.settings is.settings)
    (filter_rise by_permission (λ a b c e f. number_trans a.permission b.permission c.permission e f) keep o.settings is.settings_rise)

-- ---- local roles and properties

pub local_put : (o : Object) (l : Local) → IsObject o → IsLocal l → length (put_local l o.locals) ≤ MOST_LOCALS → IsObject (with_locals (put_local l o.locals) o)
local_put o l is right few =
    locals_are o (put_local l o.locals) is (from_none 1 MOST_LOCALS IsLocal (put_local l o.locals) (put_many 0 MOST_LOCALS IsLocal by_local l o.locals right is.locals few))
    (put_rise by_local (λ a b c e f. text_trans a.user b.user c.user e f) l o.locals is.locals_rise)

pub locals_fewer : (o : Object) (keep : Local → Bool) → IsObject o → IsObject (with_locals (filter keep o.locals) o)
locals_fewer o keep is =
    locals_are o (filter keep o.locals) is (filter_many MOST_LOCALS IsLocal keep o.locals is.locals)
    (filter_rise by_local (λ a b c e f. text_trans a.user b.user c.user e f) keep o.locals is.locals_rise)

pub property_put : (o : Object) (p : Property) → IsObject o → IsProperty Second p → length (put_property p o.properties) ≤ MOST_PROPERTIES → IsObject (with_properties (put_property p o.properties) o)
property_put o p is right few =
    properties_are o (put_property p o.properties) is
    (from_none 1 MOST_PROPERTIES (IsProperty Second) (put_property p o.properties) (put_many 0 MOST_PROPERTIES (IsProperty Second) by_property p o.properties right is.properties few))
    (put_rise by_property (λ a b c e f. text_trans a.name b.name c.name e f) p o.properties is.properties_rise)

pub properties_fewer : (o : Object) (keep : Property → Bool) → IsObject o → IsObject (with_properties (filter keep o.properties) o)
properties_fewer o keep is =
    properties_are o (filter keep o.properties) is (filter_many MOST_PROPERTIES (IsProperty Second) keep o.properties is.properties)
    (filter_rise by_property (λ a b c e f. text_trans a.name b.name c.name e f) keep o.properties is.properties_rise)

-- ---- users and roles

pub user_put : (o : Object) (us : List User) (u : User) → IsObject o → o.part ≡ part.UserFolder us → IsUser u → length (put_user u us) ≤ MOST_USERS → IsObject (with_part (part.UserFolder (put_user u us)) o)
user_put o us u is was right few =
    let old = old_part o (part.UserFolder us) is was in
    part_is o (part.UserFolder us) (part.UserFolder (put_user u us)) is was refl
    (from_none 1 MOST_USERS IsUser (put_user u us) (put_many 0 MOST_USERS IsUser by_user u us right old.0 few), put_rise by_user (λ a b c e f. text_trans a.name b.name c.name e f) u us old.1)

pub role_put : (least : ℕ) (roles : List (List ℕ)) (role : List ℕ) → AreRoles least roles → Keeps Role role → length (put comes_before role roles) ≤ MOST_COUNTED → AreRoles 1 (put comes_before role roles)
role_put least roles role are right few = record { many = put_many least MOST_COUNTED (Keeps Role) comes_before role roles right are.many few; rise = put_rise comes_before text_trans role roles are.rise }

-- ---- children

child_more : (cs : List Child) (c : Child) → AreMany 0 MOST_CHILDREN IsChild cs → AreDistinct (names cs) → IsChild c → child_of c.name cs ≡ None → length cs < MOST_CHILDREN → IsPart Second (part.Folder (cs ++ c ∷ []))
child_more cs c are distinct right none few =
    let all = length-append cs (c ∷ []) in
    (record { enough = omega arith; few = omega (arith, all, few); each = append_all IsChild cs (c ∷ []) are.each (right, tt) }, pushed_distinct cs c distinct none)

pub child_added : (o : Object) (cs : List Child) (c : Child) → IsObject o → o.part ≡ part.Folder cs → IsChild c → child_of c.name cs ≡ None → length cs < MOST_CHILDREN → IsObject (with_part (part.Folder (cs ++ c ∷ [])) o)
child_added o cs c is was right none few =
    let old = old_part o (part.Folder cs) is was in
    part_is o (part.Folder cs) (part.Folder (cs ++ c ∷ [])) is was refl (child_more cs c old.0 old.1 right none few)

children_left : (keep : Child → Bool) (cs : List Child) → IsPart Second (part.Folder cs) → IsPart Second (part.Folder (filter keep cs))
children_left keep cs old = (filter_many MOST_CHILDREN IsChild keep cs old.0, filter_distinct keep cs old.1)

pub children_fewer : (o : Object) (cs : List Child) (keep : Child → Bool) → IsObject o → o.part ≡ part.Folder cs → IsObject (with_part (part.Folder (filter keep cs)) o)
children_fewer o cs keep is was =
    part_is o (part.Folder cs) (part.Folder (filter keep cs)) is was refl (children_left keep cs (old_part o (part.Folder cs) is was))

pub child_renamed : (o : Object) (cs : List Child) (old : List ℕ) (oid : ℕ) (c : Child) → IsObject o → o.part ≡ part.Folder cs → child_of old cs ≡ Some oid → IsChild c → child_of c.name cs ≡ None → IsObject (with_part (part.Folder (without_children (old ∷ []) cs ++ c ∷ [])) o)
child_renamed o cs old oid c is was there right none =
    let before = old_part o (part.Folder cs) is was in
    let keep = λ (d : Child). not (list_any (bytes_eq d.name) (old ∷ [])) in
    let left = children_left keep cs before in
    let fewer = fewer_left old oid cs there in
    let few = before.0.few in
    part_is o (part.Folder cs) (part.Folder (without_children (old ∷ []) cs ++ c ∷ [])) is was refl
    (child_more (filter keep cs) c left.0 left.1 right (filter_none c.name keep cs none) (omega (arith, fewer, few)))

-- ---- sources and proxy roles

pub method_source : (o : Object) (source new : List ℕ) (proxy : List (List ℕ)) → IsObject o → o.part ≡ part.Method source proxy → Keeps Source new → IsObject (with_part (part.Method new proxy) o)
method_source o source new proxy is was right = part_is o (part.Method source proxy) (part.Method new proxy) is was refl (right, (old_part o (part.Method source proxy) is was).1)

pub document_source : (o : Object) (source new : List ℕ) (proxy : List (List ℕ)) → IsObject o → o.part ≡ part.Document source proxy → Keeps Source new → IsObject (with_part (part.Document new proxy) o)
document_source o source new proxy is was right = part_is o (part.Document source proxy) (part.Document new proxy) is was refl (right, (old_part o (part.Document source proxy) is was).1)

pub method_proxy : (o : Object) (source : List ℕ) (proxy new : List (List ℕ)) → IsObject o → o.part ≡ part.Method source proxy → AreRoles 0 new → IsObject (with_part (part.Method source new) o)
method_proxy o source proxy new is was right = part_is o (part.Method source proxy) (part.Method source new) is was refl ((old_part o (part.Method source proxy) is was).0, right)

pub document_proxy : (o : Object) (source : List ℕ) (proxy new : List (List ℕ)) → IsObject o → o.part ≡ part.Document source proxy → AreRoles 0 new → IsObject (with_part (part.Document source new) o)
document_proxy o source proxy new is was right = part_is o (part.Document source proxy) (part.Document source new) is was refl ((old_part o (part.Document source proxy) is was).0, right)
