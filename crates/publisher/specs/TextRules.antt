-- What is read of bytes has roles and names of users that keep the rules of texts, whatever the bytes are.
use Rattle.std.proofs.Common.{ℕ, zero, suc, ◌≡◌, refl, subst, Bool, true, false, List, [], ◌∷◌, Option, None, Result, Ok, Err, option_map}
use Rattle.std.specs.Int.{Width, w16, w32}
use Rattle.std.specs.List.{AllByRecursion}
use Rattle.zobject.specs.declared.limits.TheConstants.{MOST_COUNTED, MOST_LOCALS, MOST_PROPERTIES, MOST_USERS}
use Rattle.zobject.specs.declared.object.Object.{Object}
use Rattle.zobject.specs.declared.object.Part2.{Part2}
use Rattle.zobject.specs.declared.object.Part2.TheVariants as parts
use Rattle.zobject.specs.declared.object.Setting.{Setting}
use Rattle.zobject.specs.declared.object.User.{User}
use Rattle.zobject.specs.declared.version.Kind.{Kind}
use Rattle.zobject.specs.declared.version.Kind.TheVariants as kinds
use Rattle.zobject.specs.declared.version.Rule.{Rule}
use Rattle.zobject.specs.declared.version.Rule.TheVariants.{Role, Source, UserName}
use Rattle.zobject.specs.declared.version.Version.{Version}
use Rattle.zobject.specs.Rules.{comes_before, least_roles}
use Rattle.zobject.specs.Texts.{keeps}
use Rattle.zcodec.specs.Reading.{Reads, ◌>>=◌, where_kept, number_at, front_at, text_at, count_at, items_at, last_one, list_at, rises, role_at, roles_at, permission_at, flag_at, setting_at, name_at, local_at, property_at, user_at, children_at, proxy_at, folder_at, method_at, document_at, user_folder_at, part_at, head_at, lists_at, object_at, whole_at, placed, read}

-- ---- one reading after another

two : {A B : Type 0} (r : Result A ℕ) (next : A → Result B ℕ) (y : B) → (r >>= next) ≡ Ok y → (x : A) × (r ≡ Ok x) × (next x ≡ Ok y)
two (Ok x) next y e = (x, refl, e)
two (Err left) next y e = absurd (let bad = e in cc)

kept : {X : Type 0} (test : Bool) (left : ℕ) (x y : X) → where_kept test left x ≡ Ok y → (test ≡ true) × (x ≡ y)
kept {X = X} true left x y e = (refl, let same : ◌≡◌ {A = Result X ℕ} (Ok x) (Ok y) = e in cc)
kept false left x y e = absurd (let bad = e in cc)

ok_is : {X : Type 0} (x y : X) → ◌≡◌ {A = Result X ℕ} (Ok x) (Ok y) → x ≡ y
ok_is x y e = cc

abbrev pub IsText : Rule → List ℕ → Type 0
IsText rule text = keeps rule text ≡ true

text_keeps : (w : Width) (rule : Rule) (bytes : List ℕ) (y : List ℕ × List ℕ) → text_at w rule bytes ≡ Ok y → IsText rule y.0
unfolding text_at
text_keeps w rule bytes y e =
    let n = two (number_at w bytes) _ y e in
    let t = two (front_at _ n.0.0 n.0.1) _ y n.2 in
    let k = kept (keeps rule t.0.0) _ t.0 y t.2 in
    subst (λ (z : List ℕ × List ℕ). IsText rule z.0) k.1 k.0

-- ---- lists

items_each : {S X : Type 0} (next : S → List ℕ → Reads X) (keep : S → X → S) (V : X → Type 0) → ((s : S) (bytes : List ℕ) (y : X × List ℕ) → next s bytes ≡ Ok y → V y.0) →
    (n : ℕ) (earlier : S) (bytes : List ℕ) (y : List X × List ℕ) → items_at next keep n earlier bytes ≡ Ok y → AllByRecursion V y.0
unfolding items_at
items_each {X = X} next keep V each zero earlier bytes y e = subst (λ (z : List X × List ℕ). AllByRecursion V z.0) (ok_is ([], bytes) y e) tt
items_each {X = X} next keep V each (suc n) earlier bytes y e =
    let first = two (next earlier bytes) _ y e in
    let others = two (items_at next keep n (keep earlier first.0.0) first.0.1) _ y first.2 in
    subst (λ (z : List X × List ℕ). AllByRecursion V z.0) (ok_is (first.0.0 ∷ others.0.0, others.0.1) y others.2)
    (each earlier bytes first.0 first.1, items_each next keep V each n (keep earlier first.0.0) first.0.1 others.0 others.1)

list_each : {X : Type 0} (least most : ℕ) (next : Option X → List ℕ → Reads X) (V : X → Type 0) → ((s : Option X) (bytes : List ℕ) (y : X × List ℕ) → next s bytes ≡ Ok y → V y.0) →
    (bytes : List ℕ) (y : List X × List ℕ) → list_at least most next bytes ≡ Ok y → AllByRecursion V y.0
unfolding list_at
list_each least most next V each bytes y e =
    let n = two (count_at least most bytes) _ y e in
    items_each next last_one V each n.0.0 None n.0.1 y n.2

abbrev pub AreRoleTexts : List (List ℕ) → Type 0
AreRoleTexts roles = AllByRecursion (IsText Role) roles

role_keeps : (last : Option (List ℕ)) (bytes : List ℕ) (y : List ℕ × List ℕ) → role_at last bytes ≡ Ok y → IsText Role y.0
unfolding role_at
role_keeps last bytes y e =
    let t = two (text_at w16 Role bytes) _ y e in
    let k = kept (rises comes_before last t.0.0) _ t.0 y t.2 in
    subst (λ (z : List ℕ × List ℕ). IsText Role z.0) k.1 (text_keeps w16 Role bytes t.0 t.1)

roles_keep : (least : ℕ) (bytes : List ℕ) (y : List (List ℕ) × List ℕ) → roles_at least bytes ≡ Ok y → AreRoleTexts y.0
roles_keep least bytes y e = list_each least MOST_COUNTED role_at (IsText Role) role_keeps bytes y e

-- ---- settings and users

abbrev pub SettingRule : Setting → Type 0
SettingRule s = AreRoleTexts s.roles

setting_keeps : (version : Version) (last : Option Setting) (bytes : List ℕ) (y : Setting × List ℕ) → setting_at version last bytes ≡ Ok y → SettingRule y.0
unfolding setting_at
setting_keeps version last bytes y e =
    let p = two (permission_at version last bytes) _ y e in
    let a = two (flag_at p.0.1) _ y p.2 in
    let r = two (roles_at (least_roles a.0.0) a.0.1) _ y a.2 in
    subst (λ (z : Setting × List ℕ). SettingRule z.0) (ok_is _ y r.2) (roles_keep (least_roles a.0.0) a.0.1 r.0 r.1)

name_keeps : (rule : Rule) (last : Option (List ℕ)) (bytes : List ℕ) (y : List ℕ × List ℕ) → name_at rule last bytes ≡ Ok y → IsText rule y.0
unfolding name_at
name_keeps rule last bytes y e =
    let t = two (text_at w16 rule bytes) _ y e in
    let k = kept (rises comes_before last t.0.0) _ t.0 y t.2 in
    subst (λ (z : List ℕ × List ℕ). IsText rule z.0) k.1 (text_keeps w16 rule bytes t.0 t.1)

abbrev pub UserRule : User → Type 0
UserRule u = IsText UserName u.name

user_keeps : (last : Option User) (bytes : List ℕ) (y : User × List ℕ) → user_at last bytes ≡ Ok y → UserRule y.0
unfolding user_at
user_keeps last bytes y e =
    let n = two (name_at UserName (option_map (λ (u : User). u.name) last) bytes) _ y e in
    let p = two (text_at w16 Rule.Password n.0.1) _ y n.2 in
    let r = two (roles_at 0 p.0.1) _ y p.2 in
    subst (λ (z : User × List ℕ). UserRule z.0) (ok_is _ y r.2) (name_keeps UserName _ bytes n.0 n.1)

abbrev pub PartRule : Part2 → Type 0
PartRule (parts.Folder children) = Unit {0}
PartRule (parts.Method source proxy) = Unit {0}
PartRule (parts.Document source proxy) = Unit {0}
PartRule (parts.UserFolder users) = AllByRecursion UserRule users

part_keeps : (version : Version) (kind : Kind) (bytes : List ℕ) (y : Part2 × List ℕ) → part_at version kind bytes ≡ Ok y → PartRule y.0
unfolding folder_at method_at document_at user_folder_at
part_keeps version kinds.Folder bytes y e = let x = two (children_at bytes) _ y e in subst (λ (z : Part2 × List ℕ). PartRule z.0) (ok_is _ y x.2) tt
part_keeps version kinds.Method bytes y e =
    let x = two (text_at w32 Source bytes) _ y e in
    let p = two (proxy_at version x.0.1) _ y x.2 in
    subst (λ (z : Part2 × List ℕ). PartRule z.0) (ok_is _ y p.2) tt
part_keeps version kinds.Document bytes y e =
    let x = two (text_at w32 Source bytes) _ y e in
    let p = two (proxy_at version x.0.1) _ y x.2 in
    subst (λ (z : Part2 × List ℕ). PartRule z.0) (ok_is _ y p.2) tt
part_keeps version kinds.UserFolder bytes y e =
    let x = two (list_at 0 MOST_USERS user_at bytes) _ y e in
    subst (λ (z : Part2 × List ℕ). PartRule z.0) (ok_is _ y x.2) (list_each 0 MOST_USERS user_at UserRule user_keeps bytes x.0 x.1)

-- ---- the object

-- the roles of its settings and the names of its users keep their rules
pub record HasRightTexts (o : Object) : Type 0 where
  pub settings : AllByRecursion SettingRule o.settings
  pub part : PartRule o.part

object_keeps : (bytes : List ℕ) (y : (Version × Object) × List ℕ) → object_at bytes ≡ Ok y → HasRightTexts y.0.1
unfolding object_at lists_at
object_keeps bytes y e =
    let head = two (head_at bytes) _ y e in
    let lists = two (lists_at head.0.0.start.version head.0.1) _ y head.2 in
    let settings = two (list_at 0 MOST_COUNTED (setting_at head.0.0.start.version) head.0.1) _ lists.0 lists.1 in
    let locals = two (list_at 0 MOST_LOCALS local_at settings.0.1) _ lists.0 settings.2 in
    let properties = two (list_at 0 MOST_PROPERTIES (property_at head.0.0.start.version) locals.0.1) _ lists.0 locals.2 in
    let part = two (part_at head.0.0.start.version head.0.0.start.kind lists.0.1) _ y lists.2 in
    let rule : AllByRecursion SettingRule lists.0.0.settings =
    subst (λ z. AllByRecursion SettingRule z.0.settings) (ok_is _ lists.0 properties.2) (list_each 0 MOST_COUNTED (setting_at head.0.0.start.version) SettingRule (setting_keeps head.0.0.start.version) head.0.1 settings.0 settings.1) in
    subst (λ (z : (Version × Object) × List ℕ). HasRightTexts z.0.1) (ok_is _ y part.2)
    (record { settings = rule; part = part_keeps head.0.0.start.version head.0.0.start.kind lists.0.1 part.0 part.1 })

whole_keeps : (bytes : List ℕ) (o : Object) → whole_at bytes ≡ Ok o → HasRightTexts o
unfolding whole_at
whole_keeps bytes o e =
    let x = two (object_at bytes) _ o e in
    let k = kept _ _ x.0.0.1 o x.2 in
    subst HasRightTexts k.1 (object_keeps bytes x.0 x.1)

placed_ok : (total : ℕ) (r : Result Object ℕ) (o : Object) → placed total r ≡ Ok o → r ≡ Ok o
placed_ok total (Ok x) o e = e
placed_ok total (Err left) o e = absurd (let bad = e in cc)

pub read_keeps : (bytes : List ℕ) (o : Object) → read bytes ≡ Ok o → HasRightTexts o
unfolding read
read_keeps bytes o e = whole_keeps bytes o (placed_ok _ (whole_at bytes) o e)
