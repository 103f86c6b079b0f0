-- An object that keeps the rules of the first version keeps those of the second; which objects keep those of the first.
use Rattle.std.proofs.Common.{◌≡◌, ◌≤◌, ℕ, List, [], ◌∷◌, refl, sym, subst, arith}
use Rattle.std.specs.List.{AllByRecursion}
use Rattle.zobject.specs.declared.object.Setting.{Setting}
use Rattle.zobject.specs.declared.object.Property.{Property}
use Rattle.zobject.specs.declared.object.PropValue.{PropValue}
use Rattle.zobject.specs.declared.object.PropValue.TheVariants.{Line, Int, Lines}
use Rattle.zobject.specs.declared.object.Part2.{Part2}
use Rattle.zobject.specs.declared.object.Part2.TheVariants as part
use Rattle.zobject.specs.declared.object.Object.{Object}
use Rattle.zobject.specs.declared.version.Version.{Version}
use Rattle.zobject.specs.declared.version.Version.TheVariants.{First, Second}
use Rattle.zobject.specs.Rules.{AreMany, AreRoles, IsLine, IsObject, IsOf, IsOlder, IsPart, IsProperty, IsProxy, IsSetting, IsValue, most_permission, proxy_of}
use Rattle.zcodec.specs.Record.{Spells}

each : {X : Type 0} (P Q : X → Type 0) → ((x : X) → P x → Q x) → (xs : List X) → AllByRecursion P xs → AllByRecursion Q xs
each P Q on [] all = tt
each P Q on (x ∷ xs) all = (on x all.0, each P Q on xs all.1)

many : {X : Type 0} (least most : ℕ) (P Q : X → Type 0) → ((x : X) → P x → Q x) → (xs : List X) → AreMany least most P xs → AreMany least most Q xs
many least most P Q on xs are = record { enough = are.enough; few = are.few; each = each P Q on xs are.each }

setting_too : (s : Setting) → IsSetting First s → IsSetting Second s
setting_too s is = record { permission = (is.permission.0, (let le = is.permission.1 in omega (arith, le))); roles = is.roles }

value_too : (v : PropValue) → IsValue First v → IsValue Second v
value_too (Line t) is = is
value_too (Int n) is = absurd is
value_too (Lines ts) is = absurd is

property_too : (p : Property) → IsProperty First p → IsProperty Second p
property_too p is = record { name = is.name; value = value_too p.value is.value }

proxy_too : (proxy : List (List ℕ)) → IsProxy First proxy → IsProxy Second proxy
proxy_too proxy is = subst (AreRoles 0) (sym is) (record { many = record { enough = omega arith; few = omega arith; each = tt }; rise = tt })

part_too : (p : Part2) → IsPart First p → IsPart Second p
part_too (part.Folder children) is = is
part_too (part.Method source proxy) is = (is.0, proxy_too proxy is.1)
part_too (part.Document source proxy) is = (is.0, proxy_too proxy is.1)
part_too (part.UserFolder users) is = is

pub lawful_too : (o : Object) → IsOf First o → IsObject o
lawful_too o is = record {
  id = is.id;
  parent = is.parent;
  title = is.title;
  settings = many 0 _ (IsSetting First) (IsSetting Second) setting_too o.settings is.settings;
  settings_rise = is.settings_rise;
  locals = is.locals;
  locals_rise = is.locals_rise;
  properties = many 0 _ (IsProperty First) (IsProperty Second) property_too o.properties is.properties;
  properties_rise = is.properties_rise;
  part = part_too o.part is.part;
}

-- what has a record keeps the rules
pub spelled_is_lawful : (bytes : List ℕ) (o : Object) → Spells o bytes → IsObject o
spelled_is_lawful bytes o spells = at spells.0 spells.1.lawful
  where
    at : (v : Version) → IsOf v o → IsObject o
    at First is = lawful_too o is
    at Second is = is

-- ---- what has a record of the first version

both : {X : Type 0} (P Q R : X → Type 0) → ((x : X) → P x → Q x → R x) → (xs : List X) → AllByRecursion P xs → AllByRecursion Q xs → AllByRecursion R xs
both P Q R on [] all other = tt
both P Q R on (x ∷ xs) all other = (on x all.0 other.0, both P Q R on xs all.1 other.1)

many_both : {X : Type 0} (least most : ℕ) (P Q R : X → Type 0) → ((x : X) → P x → Q x → R x) → (xs : List X) → AreMany least most P xs → AllByRecursion Q xs → AreMany least most R xs
many_both least most P Q R on xs are other = record { enough = are.enough; few = are.few; each = both P Q R on xs are.each other }

setting_older : (s : Setting) → IsSetting Second s → s.permission ≤ most_permission First → IsSetting First s
setting_older s is le = record { permission = (is.permission.0, le); roles = is.roles }

value_older : (v : PropValue) → IsValue Second v → IsLine v → IsValue First v
value_older (Line t) is line = is
value_older (Int n) is line = line
value_older (Lines ts) is line = line

property_older : (p : Property) → IsProperty Second p → IsLine p.value → IsProperty First p
property_older p is line = record { name = is.name; value = value_older p.value is.value line }

part_older : (p : Part2) → IsPart Second p → proxy_of p ≡ [] → IsPart First p
part_older (part.Folder children) is none = is
part_older (part.Method source proxy) is none = (is.0, none)
part_older (part.Document source proxy) is none = (is.0, none)
part_older (part.UserFolder users) is none = is

-- an object with nothing that came with the second version keeps the rules of the first
pub lawful_older : (o : Object) → IsObject o → IsOlder o → IsOf First o
lawful_older o is older = record {
  id = is.id;
  parent = is.parent;
  title = is.title;
  settings = many_both 0 _ (IsSetting Second) (λ (s : Setting). s.permission ≤ most_permission First) (IsSetting First) setting_older o.settings is.settings older.permissions;
  settings_rise = is.settings_rise;
  locals = is.locals;
  locals_rise = is.locals_rise;
  properties = many_both 0 _ (IsProperty Second) (λ (p : Property). IsLine p.value) (IsProperty First) property_older o.properties is.properties older.lines;
  properties_rise = is.properties_rise;
  part = part_older o.part is.part older.proxy;
}

is_line : (v : PropValue) → IsValue First v → IsLine v
is_line (Line t) is = tt
is_line (Int n) is = is
is_line (Lines ts) is = is

no_proxy : (p : Part2) → IsPart First p → proxy_of p ≡ []
no_proxy (part.Folder children) is = refl
no_proxy (part.Method source proxy) is = is.1
no_proxy (part.Document source proxy) is = is.1
no_proxy (part.UserFolder users) is = refl

-- and so does no other
pub is_older : (o : Object) → IsOf First o → IsOlder o
is_older o is = record {
  permissions = each (IsSetting First) (λ (s : Setting). s.permission ≤ most_permission First) (λ s right. right.permission.1) o.settings is.settings.each;
  lines = each (IsProperty First) (λ (p : Property). IsLine p.value) (λ p right. is_line p.value right.value) o.properties is.properties.each;
  proxy = no_proxy o.part is.part;
}
