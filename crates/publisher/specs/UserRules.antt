-- What a verdict is granted by is a role, and the user of a request has a short name, where the texts of objects keep
-- their rules.
use Rattle.std.proofs.Common.{ℕ, ◌≤◌, ◌≡◌, ◌&&◌, ◌||◌, ◌==◌, refl, arith, Bool, true, false, List, [], ◌∷◌, ◌++◌, length, Option, Some, None, option_map, codes, nat_eq, if◌then◌else◌}
use Rattle.std.specs.Prelude.{find, filter}
use Rattle.std.specs.List.{AllByRecursion}
use Rattle.std.specs.Str.{is_utf8, chars}
use Rattle.std.proofs.lemmas.Bool.Decides.{nat_tests}
use lib.Utf8.{encode}
use Rattle.zbase.specs.Query.{Done, ◌>>=◌}
use Rattle.zbase.specs.Roles.{IsRole}
use Rattle.zobject.specs.declared.object.Object.{Object}
use Rattle.zobject.specs.declared.object.Part2.{Part2}
use Rattle.zobject.specs.declared.object.Part2.TheVariants as parts
use Rattle.zobject.specs.declared.object.Setting.{Setting}
use Rattle.zobject.specs.declared.object.User.{User}
use Rattle.zobject.specs.declared.version.Rule.TheVariants.{UserName}
use Rattle.zobject.specs.Rules.{comes_before}
use Rattle.zobject.specs.Shapes.{Form, Shape, form_of, shape_of, child_in}
use Rattle.zobject.specs.Shapes as forms
use Rattle.zobject.specs.Texts.{is_between, is_user_name}
use Rattle.zobject.specs.TextLaws.{role_is_role}
use Rattle.zknown.specs.Seen.{Seen, Here, Absent, Unreadable, Shapes, shape_seen}
use Rattle.acquisition.specs.Acquiring.{Fault, here, present, containers}
use Rattle.user_folder.specs.Users.{is_user, kept}
use Rattle.permissions.specs.declared.who.Verdict.{Verdict}
use Rattle.permissions.specs.declared.who.Verdict.TheVariants as verdicts
use Rattle.permissions.specs.declared.who.Who.{Who}
use Rattle.permissions.specs.declared.who.Who.TheVariants as users
use Rattle.permissions.specs.Roles.{by_setting, default_roles, has, roles, setting_of}
use Rattle.permissions.specs.Users.{Credentials, folders_of, granted_user, if_granted, known_at, known_user, or_further, sought, taken_at, user_at, user_in, user_under, who}
use Rattle.permissions.specs.Verdicts.{is_among, judged, least, least_common, lesser, verdict_of, verdict_on}
use Rattle.evaluator.specs.Change.{longest_text}
use Rattle.publisher.specs.Site.{user_name}
use Rattle.publisher.specs.TextRules.{AreRoleTexts, HasRightTexts, IsText, PartRule, SettingRule, UserRule}
use Rattle.publisher.specs.Ways.{Any, Keeps, keeps_then, keeps_any}

-- ---- right answers

abbrev pub IsRight : Seen Object → Type 0
IsRight (Here object) = HasRightTexts object
IsRight Absent = Unit {0}
IsRight Unreadable = Unit {0}

abbrev pub FormRule : Form → Type 0
FormRule (forms.Folder children) = Unit {0}
FormRule (forms.Method proxy) = Unit {0}
FormRule (forms.Document proxy) = Unit {0}
FormRule (forms.UserFolder all) = AllByRecursion UserRule all

pub record IsRightShape (shape : Shape) : Type 0 where
  pub settings : AllByRecursion SettingRule shape.settings
  pub form : FormRule shape.form

abbrev pub IsRightShown : Seen Shape → Type 0
IsRightShown (Here shape) = IsRightShape shape
IsRightShown Absent = Unit {0}
IsRightShown Unreadable = Unit {0}

form_right : (part : Part2) → PartRule part → FormRule (form_of part)
form_right (parts.Folder children) r = tt
form_right (parts.Method source proxy) r = tt
form_right (parts.Document source proxy) r = tt
form_right (parts.UserFolder all) r = r

pub shape_right : (seen : Seen Object) → IsRight seen → IsRightShown (shape_seen seen)
unfolding shape_of
shape_right (Here object) r = record { settings = r.settings; form = form_right object.part r.part }
shape_right Absent r = tt
shape_right Unreadable r = tt

pub here_right : (o : ℕ) → Keeps IsRightShown (λ (cause : Fault). Any cause) IsRightShape (here o)
here_right o = at
  where
    at : (seen : Seen Shape) → IsRightShown seen → Keeps IsRightShown (λ (cause : Fault). Any cause) IsRightShape (present o seen)
    at (Here shape) is = is
    at Absent is = tt
    at Unreadable is = tt

abbrev Asked : {A : Type 0} → (A → Type 0) → Shapes Fault A → Type 0
Asked V q = Keeps IsRightShown (λ (cause : Fault). Any cause) V q

then_keeps : {A B : Type 0} (V : A → Type 0) (W : B → Type 0) (q : Shapes Fault A) (next : A → Shapes Fault B) → Asked V q → ((x : A) → V x → Asked W (next x)) → Asked W (q >>= next)
then_keeps V W q next k each = keeps_then IsRightShown (λ (cause : Fault). Any cause) V W q next k each

any_asked : {A : Type 0} (q : Shapes Fault A) → Asked (λ x. Any x) q
any_asked q = keeps_any IsRightShown q

-- ---- the roles to which a permission is given

abbrev AreRoles : List (List ℕ) → Type 0
AreRoles given = AllByRecursion IsRole given

anonymous : IsRole (codes "Anonymous")
unfolding is_utf8 chars encode
anonymous = role_is_role (codes "Anonymous") refl

manager : IsRole (codes "Manager")
unfolding is_utf8 chars encode
manager = role_is_role (codes "Manager") refl

defaults : (permission : ℕ) → AreRoles (default_roles permission)
defaults permission = at ((permission == 1) || (permission == 2))
  where
    at : (all : Bool) → AreRoles (if all then codes "Anonymous" ∷ codes "Manager" ∷ [] else codes "Manager" ∷ [])
    at true = (anonymous, (manager, tt))
    at false = (manager, tt)

are_roles : (given : List (List ℕ)) → AreRoleTexts given → AreRoles given
are_roles [] r = tt
are_roles (role ∷ rest) r = (role_is_role role r.0, are_roles rest r.1)

all_behind : {X : Type 0} (V : X → Type 0) (xs ys : List X) → AllByRecursion V xs → AllByRecursion V ys → AllByRecursion V (xs ++ ys)
all_behind V [] ys p q = q
all_behind V (x ∷ xs) ys p q = (p.0, all_behind V xs ys p.1 q)

-- what is found in a list keeps the rule of all
abbrev IfFound : {X : Type 0} → (X → Type 0) → Option X → Type 0
IfFound V None = Unit {0}
IfFound V (Some x) = V x

found : {X : Type 0} (V : X → Type 0) (test : X → Bool) (xs : List X) → AllByRecursion V xs → IfFound V (find test xs)
found V test [] all = tt
found {X = X} V test (x ∷ xs) all = at (test x) (found V test xs all.1)
  where
    at : (is : Bool) → IfFound V (find test xs) → IfFound V (if is then Some x else find test xs)
    at true rest = all.0
    at false rest = rest

by_setting_keeps : (s : Option Setting) (above : Shapes Fault (List (List ℕ))) → IfFound SettingRule s → Asked AreRoles above → Asked AreRoles (by_setting s above)
by_setting_keeps None above rule k = k
by_setting_keeps (Some s) above rule k = at s.acquire
  where
    at : (acquires : Bool) → Asked AreRoles (if acquires then (above >>= λ roles. Done (s.roles ++ roles)) else Done s.roles)
    at true = then_keeps AreRoles AreRoles above _ k (λ given are. all_behind IsRole s.roles given (are_roles s.roles rule) are)
    at false = are_roles s.roles rule

given_keep : (permission : ℕ) (path : List ℕ) → Asked AreRoles (roles permission path)
unfolding roles
given_keep permission [] = defaults permission
given_keep permission (o ∷ os) =
    then_keeps IsRightShape AreRoles (here o) _ (here_right o) (λ shape is.
    by_setting_keeps (setting_of permission shape.settings) (roles permission os) (found SettingRule (λ s. nat_eq s.permission permission) shape.settings is.settings) (given_keep permission os))

-- ---- verdicts

filtered : {X : Type 0} (V : X → Type 0) (test : X → Bool) (xs : List X) → AllByRecursion V xs → AllByRecursion V (filter test xs)
filtered V test [] all = tt
filtered {X = X} V test (x ∷ xs) all = at (test x) (filtered V test xs all.1)
  where
    at : (is : Bool) → AllByRecursion V (filter test xs) → AllByRecursion V (if is then x ∷ filter test xs else filter test xs)
    at true rest = (all.0, rest)
    at false rest = rest

lesser_keeps : (role : List ℕ) (other : Option (List ℕ)) → IsRole role → IfFound IsRole other → IsRole (lesser role other)
lesser_keeps role None is rest = is
lesser_keeps role (Some other) is rest = at (comes_before other role)
  where
    at : (before : Bool) → IsRole (if before then other else role)
    at true = rest
    at false = is

least_keeps : (given : List (List ℕ)) → AreRoles given → IfFound IsRole (least given)
least_keeps [] all = tt
least_keeps (role ∷ rest) all = lesser_keeps role (least rest) all.0 (least_keeps rest all.1)

-- what is granted is granted by a role
abbrev pub VerdictRule : Verdict → Type 0
VerdictRule (verdicts.Granted role) = IsRole role
VerdictRule (verdicts.Denied permission) = Unit {0}

verdict_of_keeps : (permission : ℕ) (role : Option (List ℕ)) → IfFound IsRole role → VerdictRule (verdict_of permission role)
verdict_of_keeps permission None is = tt
verdict_of_keeps permission (Some role) is = is

judged_keeps : (user : Who) (permission : ℕ) (path : List ℕ) → Asked VerdictRule (judged user permission path)
unfolding judged
judged_keeps user permission path =
    then_keeps AreRoles VerdictRule (roles permission path) _ (given_keep permission path) (λ given are.
    then_keeps (λ x. Any x) VerdictRule (has user path) _ (any_asked (has user path)) (λ mine any.
    verdict_of_keeps permission (least_common mine given) (least_keeps (filter (is_among mine) given) (filtered IsRole (is_among mine) given are))))

pub verdict_keeps : (user : Who) (o permission : ℕ) → Keeps IsRightShown (λ (cause : Fault). Any cause) VerdictRule (verdict_on user o permission)
unfolding verdict_on
verdict_keeps user o permission = then_keeps (λ x. Any x) VerdictRule (containers o) _ (any_asked (containers o)) (λ path any. judged_keeps user permission path)

-- ---- the user of a request

-- the user's name is short enough for a transaction
abbrev pub NameRule : Who → Type 0
NameRule user = length (user_name user) ≤ longest_text

both : (a b : Bool) → (a && b) ≡ true → (a ≡ true) × (b ≡ true)
both true b e = (refl, e)
both false b e = absurd (let bad = e in cc)

short : (n : ℕ) → is_between 1 100 n ≡ true → n ≤ longest_text
short n e = grind (arith, nat_tests)

name_short : (name : List ℕ) → IsText UserName name → length name ≤ longest_text
name_short name is = short (length name) (both _ _ (both (is_user_name name) (is_utf8 name) is).0).0

abbrev HasName : Option Who → Type 0
HasName found = IfFound NameRule found

known_keeps : (home : ℕ) (user : Option User) → IfFound UserRule user → HasName (option_map (known_at home) user)
known_keeps home None is = tt
known_keeps home (Some user) is = name_short user.name is

in_keeps : (credentials : Credentials) (form : Form) → FormRule form → IfFound UserRule (user_in credentials form)
in_keeps credentials (forms.Folder children) rule = tt
in_keeps credentials (forms.Method proxy) rule = tt
in_keeps credentials (forms.Document proxy) rule = tt
in_keeps credentials (forms.UserFolder all) rule = found UserRule (is_user credentials.0 (kept credentials.1)) all rule

under_keeps : (credentials : Credentials) (home : ℕ) (child : Option ℕ) → Asked HasName (user_under credentials home child)
under_keeps credentials home None = tt
under_keeps credentials home (Some o) =
    then_keeps IsRightShape HasName (here o) _ (here_right o) (λ shape is. known_keeps home (user_in credentials shape.form) (in_keeps credentials shape.form is.form))

at_keeps : (credentials : Credentials) (folder : ℕ) → Asked HasName (user_at credentials folder)
unfolding user_at
at_keeps credentials folder =
    then_keeps IsRightShape HasName (here folder) _ (here_right folder) (λ shape is. under_keeps credentials folder (child_in (codes "acl_users") shape.form))

if_granted_keeps : (user : Who) (verdict : Verdict) → NameRule user → HasName (if_granted user verdict)
if_granted_keeps user (verdicts.Granted role) is = is
if_granted_keeps user (verdicts.Denied permission) is = tt

granted_keeps : (permission : ℕ) (path : List ℕ) (user : Option Who) → HasName user → Asked HasName (granted_user permission path user)
granted_keeps permission path None is = tt
granted_keeps permission path (Some user) is = then_keeps (λ x. Any x) HasName (judged user permission path) _ (any_asked (judged user permission path)) (λ verdict any. if_granted_keeps user verdict is)

taken_keeps : (credentials : Credentials) (permission : ℕ) (path : List ℕ) (folder : ℕ) → Asked HasName (taken_at credentials permission path folder)
unfolding taken_at
taken_keeps credentials permission path folder = then_keeps HasName HasName (user_at credentials folder) _ (at_keeps credentials folder) (granted_keeps permission path)

further_keeps : (user : Option Who) (further : Shapes Fault Who) → HasName user → Asked NameRule further → Asked NameRule (or_further user further)
further_keeps None further is k = k
further_keeps (Some user) further is k = is

no_name : NameRule users.Anonymous
no_name = omega arith

sought_keeps : (credentials : Credentials) (permission : ℕ) (path folders : List ℕ) → Asked NameRule (sought credentials permission path folders)
unfolding sought
sought_keeps credentials permission path [] = no_name
sought_keeps credentials permission path (folder ∷ folders) =
    then_keeps HasName NameRule (taken_at credentials permission path folder) _ (taken_keeps credentials permission path folder)
    (λ user is. further_keeps user (sought credentials permission path folders) is (sought_keeps credentials permission path folders))

known_user_keeps : (credentials : Credentials) (o permission : ℕ) → Asked NameRule (known_user credentials o permission)
unfolding known_user
known_user_keeps credentials o permission =
    then_keeps (λ x. Any x) NameRule (containers o) _ (any_asked (containers o)) (λ path any.
    then_keeps IsRightShape NameRule (here o) _ (here_right o) (λ shape is. sought_keeps credentials permission path (folders_of shape.form path)))

pub who_keeps : (credentials : Option Credentials) (o permission : ℕ) → Keeps IsRightShown (λ (cause : Fault). Any cause) NameRule (who credentials o permission)
who_keeps None o permission = no_name
who_keeps (Some credentials) o permission = known_user_keeps credentials o permission
