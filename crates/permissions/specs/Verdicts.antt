-- Whether a user has a permission on an object, and in whose place the source of an object acts.
--
-- Zope Book, "Users and Security"; Zope Developer's Guide, "Security": a user has a permission where one of his roles does;
-- proxy roles.
use Rattle.std.specs.Prelude.{ℕ, Bool, List, [], ◌∷◌, Option, Some, None, slice_get, if◌then◌else◌}
use Rattle.std.specs.List.{list_any, filter}
use Rattle.std.specs.Str.{bytes_eq}
use Rattle.zbase.specs.Query.{Done, ◌>>=◌}
use Rattle.zobject.specs.Rules.{comes_before}
use Rattle.zobject.specs.Shapes.{Shape, Form}
use Rattle.zobject.specs.Shapes as form
use Rattle.zknown.specs.Seen.{Shapes}
use Rattle.acquisition.specs.Acquiring.{Fault, containers}
use Rattle.permissions.specs.declared.who.Who.{Who}
use Rattle.permissions.specs.declared.who.Who.TheVariants.{Known}
use Rattle.permissions.specs.declared.who.Verdict.{Verdict}
use Rattle.permissions.specs.declared.who.Verdict.TheVariants.{Granted, Denied}
use Rattle.permissions.specs.Roles.{Role, roles, has}

-- ---- verdicts

abbrev pub is_among : List Role → Role → Bool
is_among mine role = list_any (bytes_eq role) mine

-- the one of two that is less by bytes
abbrev pub lesser : Role → Option Role → Role
lesser role None = role
lesser role (Some other) = if comes_before other role then other else role

-- the least by bytes of some roles, if there is one
abbrev pub least : List Role → Option Role
least [] = None
least (role ∷ rest) = Some (lesser role (least rest))

-- the least by bytes of the roles to which a permission is given and that a user has
abbrev pub least_common : List Role → List Role → Option Role
least_common mine given = least (filter (is_among mine) given)

abbrev pub verdict_of : ℕ → Option Role → Verdict
verdict_of permission None = Denied permission
verdict_of permission (Some role) = Granted role

-- the verdict on the object with this path
unfoldable pub judged : Who → ℕ → List ℕ → Shapes Fault Verdict
judged user permission path = do
  given ← roles permission path
  mine ← has user path
  Done (verdict_of permission (least_common mine given))

-- the verdict on an object
unfoldable pub verdict_on : Who → ℕ → ℕ → Shapes Fault Verdict
verdict_on user o permission = containers o >>= λ path. judged user permission path

-- ---- proxy roles

abbrev pub proxy_roles : Form → List Role
proxy_roles (form.Folder children) = []
proxy_roles (form.Method proxy) = proxy
proxy_roles (form.Document proxy) = proxy
proxy_roles (form.UserFolder users) = []

-- someone without a name who has these roles everywhere; no one where there are none
abbrev pub with_roles : List Role → Option Who
with_roles [] = None
with_roles (role ∷ rest) = Some (Known [] (role ∷ rest) 0)

-- who takes the user's place in the source of an object
abbrev pub proxy_user : Shape → Option Who
proxy_user object = with_roles (proxy_roles object.form)

abbrev pub or_user : Who → Option Who → Who
or_user user None = user
or_user user (Some other) = other

-- the user of the verdicts in the source of an object
abbrev pub acting : Who → Shape → Who
acting user object = or_user user (proxy_user object)

-- ---- places

-- the least of a role, where the user has it, and of those behind it
abbrev pub better_of : List Role → Role → Option Role → Option Role
better_of mine role best = if is_among mine role then Some (lesser role best) else best

-- the role at a place, where there is one
abbrev pub at_place : List Role → Option ℕ → Option Role
at_place given None = None
at_place given (Some place) = slice_get given place
