-- The parts of an object, each read as it was written.
use Rattle.std.proofs.Common.{◌≡◌, ◌⊎◌, inl, inr, ℕ, zero, suc, ◌^◌, ◌<◌, ◌≤◌, Bool, true, false, ◌&&◌, ◌||◌, ltb, leb, eqb, List, [], ◌∷◌, ◌++◌, length, Option, Some, None, option_map, Ok, refl, sym, ap, subst, ◌∙◌, append_assoc, arith, codes}
use Rattle.std.specs.Str.{is_utf8}
use Rattle.std.specs.Int.{Width, w16, w32, to_be_bytes}
use Rattle.std.proofs.lemmas.Bool.{leb-true, le-leb, eqb-true}
use Rattle.std.proofs.lemmas.Slice.Eq.{bytes_eq-Decides}
use Rattle.zbase.specs.Numbers.{be16, be32}
use Rattle.zbase.specs.declared.limits.TheConstants.{MOST_SOURCE}
use Rattle.zobject.specs.declared.limits.TheConstants.{MOST_COUNTED, MOST_LOCALS, MOST_NAME, MOST_PASSWORD, MOST_ROLE, MOST_TITLE, MOST_USERS, MOST_VALUE}
use Rattle.zobject.specs.declared.object.Setting.{Setting}
use Rattle.zobject.specs.declared.object.Local.{Local}
use Rattle.zobject.specs.declared.object.User.{User}
use Rattle.zobject.specs.declared.version.Kind.{Kind}
use Rattle.zobject.specs.declared.version.Kind.TheVariants as kind
use Rattle.zobject.specs.declared.version.Rule.{Rule}
use Rattle.zobject.specs.declared.version.Rule.TheVariants.{StoredId, ChildName, PropertyName, Value, Role, UserName, Password, Title, Source}
use Rattle.zobject.specs.declared.version.Version.{Version}
use Rattle.zobject.specs.declared.version.Version.TheVariants.{First, Second}
use Rattle.zobject.specs.Texts.{fits, is_acl_users, is_id, is_of_length, is_stored_id, keeps}
use Rattle.zobject.specs.Rules.{AreRoles, IsLocal, IsSetting, IsUser, Keeps, comes_before, least_roles, most_permission}
use Rattle.zcodec.specs.Record.{flag, list_of, local_roles, roles, setting, source_text, text, user}
use Rattle.zcodec.specs.Reading.{◌>>=◌, byte_at, flag_at, front_at, list_at, local_at, name_at, number_at, permission_at, rises, role_at, roles_at, setting_at, text_at, user_at, where_kept}
use Rattle.zcodec.proofs.Exact.{AreRising, Behind, IsBytes, IsExact, IsWide, Takes, both_true, byte_exact, front_exact, got, gives, kept_exact, kept_ok, number_exact, ok_is, rising_exact, wide16, wide32}
use Rattle.zcodec.proofs.Several.{as_exact, two_exact, three_exact}

-- ---- texts

pub either : (a b : Bool) → (a || b) ≡ true → (a ≡ true) ⊎ (b ≡ true)
either true b e = inl refl
either false b e = inr e

long_at_most : (most : ℕ) (t : List ℕ) → is_of_length most t ≡ true → length t ≤ most
long_at_most most t e = leb-true _ _ (both_true _ _ e).1

id_short : (t : List ℕ) → is_id t ≡ true → length t ≤ MOST_NAME
unfolding is_id
id_short t e = long_at_most MOST_NAME t (both_true _ _ (both_true _ _ (both_true _ _ e).0).0).0

acl_users_short : (t : List ℕ) → is_acl_users t ≡ true → length t ≤ MOST_NAME
acl_users_short t e = let len : 9 ≡ length t = ap length ((bytes_eq-Decides (codes "acl_users") t).0 e) in omega (arith, len)

stored_short : (k : Kind) (t : List ℕ) → is_stored_id k t ≡ true → length t ≤ MOST_NAME
stored_short kind.Folder t e = elim (either (eqb (length t) 0) (is_id t) e) [
  | inl empty ↦ let len : length t ≡ 0 = eqb-true (length t) 0 empty in omega (arith, len)
  | inr id ↦ id_short t id
]
stored_short kind.UserFolder t e = elim (either (is_acl_users t) (is_id t) e) [
  | inl acl ↦ acl_users_short t acl
  | inr id ↦ id_short t id
]
stored_short kind.Method t e = id_short t e
stored_short kind.Document t e = id_short t e

-- the most bytes of a text by its rule
abbrev pub most_bytes : Rule → ℕ
most_bytes (StoredId k) = MOST_NAME
most_bytes ChildName = MOST_NAME
most_bytes PropertyName = MOST_NAME
most_bytes Value = MOST_VALUE
most_bytes Role = MOST_ROLE
most_bytes UserName = MOST_NAME
most_bytes Password = MOST_PASSWORD
most_bytes Title = MOST_TITLE
most_bytes Source = MOST_SOURCE

pub short : (rule : Rule) (t : List ℕ) → fits rule t ≡ true → length t ≤ most_bytes rule
short (StoredId k) t e = stored_short k t e
short ChildName t e = elim (either (is_id t) (is_acl_users t) e) [
  | inl id ↦ id_short t id
  | inr acl ↦ acl_users_short t acl
]
short PropertyName t e = long_at_most MOST_NAME t (both_true _ _ (both_true _ _ (both_true _ _ e).0).0).0
short Value t e = leb-true _ _ e
short Role t e = long_at_most MOST_ROLE t (both_true _ _ e).0
short UserName t e = long_at_most MOST_NAME t (both_true _ _ e).0
short Password t e = leb-true _ _ e
short Title t e = leb-true _ _ e
short Source t e = leb-true _ _ e

module _ (w : Width) (limit : ℕ) (wide : IsWide w limit) (rule : Rule) (few : most_bytes rule < limit) where
  counted : List ℕ → List ℕ
  counted t = to_be_bytes w (length t) ++ t

  text_exact : IsExact (Keeps rule) (λ t. to_be_bytes w (length t) ++ t) (text_at w rule)
  unfolding text_at
  text_exact = record {
    takes = λ bytes t rest fits e.
        let a = got (λ n. n < limit) (to_be_bytes w) (number_at w) (λ n. front_at (length bytes) n.0 n.1 >>= λ text. where_kept (keeps rule text.0) (length bytes) text) bytes (t, rest) (number_exact w limit wide) fits e in
        let b = got (λ u. length u ≡ a.value) (λ u. u) (front_at (length bytes) a.value) (λ text. where_kept (keeps rule text.0) (length bytes) text) a.rest (t, rest) (front_exact (length bytes) a.value) a.took.fits a.goes in
        let k = kept_ok (keeps rule b.value) (length bytes) (b.value, b.rest) (t, rest) b.goes in
        subst (λ (p : List ℕ × List ℕ). Takes (Keeps rule) (λ u. to_be_bytes w (length u) ++ u) bytes p.0 p.1) k.1 (record {
          parts = a.took.parts ∙ ap (λ r. to_be_bytes w a.value ++ r) b.took.parts ∙ sym (append_assoc (to_be_bytes w a.value) b.value b.rest) ∙ ap (λ n. (to_be_bytes w n ++ b.value) ++ b.rest) (sym b.took.right);
          right = k.0;
          fits = b.took.fits;
        });
    again = λ t rest right.
        let len = short rule t (both_true (fits rule t) (is_utf8 t) right).0 in
        let all : List ℕ = (to_be_bytes w (length t) ++ t) ++ rest in
        let left = length all in
        ap (λ r. number_at w r >>= λ n. front_at left n.0 n.1 >>= λ text. where_kept (keeps rule text.0) left text) (append_assoc (to_be_bytes w (length t)) t rest)
        ∙ gives (λ n. n < limit) (to_be_bytes w) (number_at w) (λ n. front_at left n.0 n.1 >>= λ text. where_kept (keeps rule text.0) left text) (length t) (t ++ rest) (number_exact w limit wide) (omega (arith, len, few))
        ∙ gives (λ u. length u ≡ length t) (λ u. u) (front_at left (length t)) (λ text. where_kept (keeps rule text.0) left text) t rest (front_exact left (length t)) refl
        ∙ ap (λ b. where_kept b left (t, rest)) right;
  }

pub text16_exact : (rule : Rule) → most_bytes rule < 2 ^ 16 → IsExact (Keeps rule) text (text_at w16 rule)
unfolding text be16
text16_exact rule few = text_exact w16 (2 ^ 16) wide16 rule few

pub source_exact : IsExact (Keeps Source) source_text (text_at w32 Source)
unfolding source_text be32
source_exact = text_exact w32 (2 ^ 32) wide32 Source (omega arith)

-- ---- roles

role_exact : (last : Option (List ℕ)) → IsExact (Behind (Keeps Role) comes_before last) text (role_at last)
unfolding role_at
role_exact last = kept_exact (Keeps Role) text (rises comes_before last) (text_at w16 Role) (text16_exact Role (omega arith))

pub roles_exact : (least : ℕ) → IsExact (AreRoles least) roles (roles_at least)
roles_exact least = as_exact (AreRising (Keeps Role) comes_before least MOST_COUNTED) (AreRoles least) roles (roles_at least)
    (λ x r. record { many = r.0; rise = r.1 }) (λ x r. (r.many, r.rise))
    (rising_exact (Keeps Role) comes_before text role_at role_exact least MOST_COUNTED (omega arith))

-- ---- settings

IsPermission : Version → Option Setting → ℕ → Type 0
IsPermission version last n = (n < 256) × ((leb 1 n && leb n (most_permission version) && rises ltb (option_map (λ (s : Setting). s.permission) last) n) ≡ true)

permission_exact : (version : Version) (last : Option Setting) → IsExact (IsPermission version last) (λ n. n ∷ []) (permission_at version last)
unfolding permission_at IsPermission
permission_exact version last = kept_exact (λ n. n < 256) (λ n. n ∷ []) (λ n. leb 1 n && leb n (most_permission version) && rises ltb (option_map (λ (s : Setting). s.permission) last) n) byte_at byte_exact

pub flag_exact : IsExact (λ b. Unit {0}) (λ b. flag b ∷ []) flag_at
unfolding flag_at
flag_exact = record {
  takes = λ bytes b rest fits e. flag_takes bytes b rest fits e;
  again = λ b rest right. flag_again b rest;
}
  where
    flag_again : (b : Bool) (rest : List ℕ) → flag_at ((flag b ∷ []) ++ rest) ≡ Ok (b, rest)
    flag_again true rest = refl
    flag_again false rest = refl

    flag_takes : (bytes : List ℕ) (b : Bool) (rest : List ℕ) → IsBytes bytes → flag_at bytes ≡ Ok (b, rest) → Takes (λ b. Unit {0}) (λ b. flag b ∷ []) bytes b rest
    flag_takes [] b rest fits e = absurd (let bad = e in cc)
    flag_takes (zero ∷ bytes) b rest fits e = subst (λ (p : Bool × List ℕ). Takes (λ b. Unit {0}) (λ b. flag b ∷ []) (zero ∷ bytes) p.0 p.1) (ok_is (false, bytes) (b, rest) e) (record { parts = refl; right = tt; fits = λ i. fits (suc i) })
    flag_takes (suc zero ∷ bytes) b rest fits e = subst (λ (p : Bool × List ℕ). Takes (λ b. Unit {0}) (λ b. flag b ∷ []) (suc zero ∷ bytes) p.0 p.1) (ok_is (true, bytes) (b, rest) e) (record { parts = refl; right = tt; fits = λ i. fits (suc i) })
    flag_takes (suc (suc n) ∷ bytes) b rest fits e = absurd (let bad = e in cc)

by_permission : Setting → Setting → Bool
by_permission s t = ltb s.permission t.permission

pub rises_by : {X Y : Type 0} (before : Y → Y → Bool) (key : X → Y) (last : Option X) (x : X) → rises (λ (a b : X). before (key a) (key b)) last x ≡ rises before (option_map key last) (key x)
rises_by before key None x = refl
rises_by before key (Some y) x = refl

true_both : (a b : Bool) → a ≡ true → b ≡ true → (a && b) ≡ true
true_both true b e f = f
true_both false b e f = absurd (let bad = e in cc)

setting_exact : (version : Version) (last : Option Setting) → IsExact (Behind (IsSetting version) (λ (s t : Setting). ltb s.permission t.permission) last) setting (setting_at version last)
unfolding setting_at IsPermission
setting_exact version last = three_exact
    (IsPermission version last) (λ n b. Unit {0}) (λ n b. AreRoles (least_roles b)) (λ n. n ∷ []) (λ n b. flag b ∷ []) (λ n b. roles)
    (permission_at version last) (λ n. flag_at) (λ n b. roles_at (least_roles b))
    (Behind (IsSetting version) (λ (s t : Setting). ltb s.permission t.permission) last) setting
    (λ n b rs. record { permission = n; acquire = b; roles = rs }) (λ s. s.permission) (λ s. s.acquire) (λ s. s.roles)
    (permission_exact version last) (λ n p. flag_exact) (λ n b p q. roles_exact (least_roles b))
    (λ n b rs p q r.
    let m = both_true (leb 1 n && leb n (most_permission version)) (rises ltb (option_map (λ (s : Setting). s.permission) last) n) p.1 in
    let k = both_true (leb 1 n) (leb n (most_permission version)) m.0 in
    let s : Setting = record { permission = n; acquire = b; roles = rs } in
    ((record { permission = (leb-true _ _ k.0, leb-true _ _ k.1); roles = r }, rises_by ltb (λ (s : Setting). s.permission) last s ∙ m.1), refl))
    (λ s r.
    let p = r.0.permission in
    let small = most_small version in
    let byte : s.permission < 256 = (let le = p.1 in omega (arith, le, small)) in
    ((byte, true_both _ _ (true_both _ _ (le-leb _ _ p.0) (le-leb _ _ p.1)) (sym (rises_by ltb (λ (s : Setting). s.permission) last s) ∙ r.1)), tt, r.0.roles, refl))
  where
    most_small : (version : Version) → most_permission version < 256
    most_small First = omega arith
    most_small Second = omega arith

pub settings_exact : (version : Version) → IsExact (AreRising (IsSetting version) (λ (s t : Setting). ltb s.permission t.permission) 0 MOST_COUNTED) (list_of setting) (list_at 0 MOST_COUNTED (setting_at version))
settings_exact version = rising_exact (IsSetting version) (λ (s t : Setting). ltb s.permission t.permission) setting (setting_at version) (setting_exact version) 0 MOST_COUNTED (omega arith)

-- ---- names that rise

pub name_exact : (rule : Rule) (last : Option (List ℕ)) → most_bytes rule < 2 ^ 16 → IsExact (λ n. Keeps rule n × (rises comes_before last n ≡ true)) text (name_at rule last)
unfolding name_at
name_exact rule last few = kept_exact (Keeps rule) text (rises comes_before last) (text_at w16 rule) (text16_exact rule few)

local_exact : (last : Option Local) → IsExact (Behind IsLocal (λ (l k : Local). comes_before l.user k.user) last) local_roles (local_at last)
unfolding local_at
local_exact last =
    let user = option_map (λ (l : Local). l.user) last in
    two_exact (λ n. Keeps UserName n × (rises comes_before user n ≡ true)) (λ n. AreRoles 1) text (λ n. roles) (name_at UserName user) (λ n. roles_at 1)
    (Behind IsLocal (λ (l k : Local). comes_before l.user k.user) last) local_roles (λ n rs. record { user = n; roles = rs }) (λ l. l.user) (λ l. l.roles)
    (name_exact UserName user (omega arith)) (λ n p. roles_exact 1)
    (λ n rs p q. let l : Local = record { user = n; roles = rs } in ((record { user = p.0; roles = q }, rises_by comes_before (λ (l : Local). l.user) last l ∙ p.1), refl))
    (λ l r. ((r.0.user, sym (rises_by comes_before (λ (l : Local). l.user) last l) ∙ r.1), r.0.roles, refl))

pub locals_exact : IsExact (AreRising IsLocal (λ (l k : Local). comes_before l.user k.user) 0 MOST_LOCALS) (list_of local_roles) (list_at 0 MOST_LOCALS local_at)
locals_exact = rising_exact IsLocal (λ (l k : Local). comes_before l.user k.user) local_roles local_at local_exact 0 MOST_LOCALS (omega arith)

user_exact : (last : Option User) → IsExact (Behind IsUser (λ (u v : User). comes_before u.name v.name) last) user (user_at last)
unfolding user_at
user_exact last =
    let name = option_map (λ (u : User). u.name) last in
    three_exact (λ n. Keeps UserName n × (rises comes_before name n ≡ true)) (λ n. Keeps Password) (λ n p. AreRoles 0) text (λ n. text) (λ n p. roles) (name_at UserName name) (λ n. text_at w16 Password) (λ n p. roles_at 0)
    (Behind IsUser (λ (u v : User). comes_before u.name v.name) last) user (λ n p rs. record { name = n; password = p; roles = rs }) (λ u. u.name) (λ u. u.password) (λ u. u.roles)
    (name_exact UserName name (omega arith)) (λ n p. text16_exact Password (omega arith)) (λ n p q r. roles_exact 0)
    (λ n p rs q r o. let u : User = record { name = n; password = p; roles = rs } in ((record { name = q.0; password = r; roles = o }, rises_by comes_before (λ (u : User). u.name) last u ∙ q.1), append_assoc (text n) (text p) (roles rs)))
    (λ u r. ((r.0.name, sym (rises_by comes_before (λ (u : User). u.name) last u) ∙ r.1), r.0.password, r.0.roles, refl))

pub users_exact : IsExact (AreRising IsUser (λ (u v : User). comes_before u.name v.name) 0 MOST_USERS) (list_of user) (list_at 0 MOST_USERS user_at)
users_exact = rising_exact IsUser (λ (u v : User). comes_before u.name v.name) user user_at user_exact 0 MOST_USERS (omega arith)
