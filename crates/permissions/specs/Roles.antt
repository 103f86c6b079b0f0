-- The roles to which a permission is given on an object, and the roles that a user has there, as questions over the shapes
-- of the objects on its path: the object and its containers, up to the root.
--
-- Zope Book, "Users and Security": roles, permissions that acquire, local roles; Zope Developer's Guide, "Security".
use Rattle.std.specs.Prelude.{ℕ, ◌==◌, ◌||◌, List, [], ◌∷◌, ◌++◌, length, Option, Some, None, Result, Ok, Err, find, nat_eq, codes, if◌then◌else◌}
use Rattle.std.specs.Str.{bytes_eq}
use Rattle.zbase.specs.Query.{Done, ◌>>=◌}
use Rattle.zobject.specs.declared.object.Setting.{Setting}
use Rattle.zobject.specs.declared.object.Local.{Local}
use Rattle.zknown.specs.Seen.{Shapes}
use Rattle.acquisition.specs.Acquiring.{Fault, here}
use Rattle.acquisition.specs.Acquiring as acquiring
use Rattle.evaluator.specs.declared.permission.TheConstants.{ACCESS_CONTENTS_INFORMATION, VIEW}
use Rattle.permissions.specs.declared.who.Who.{Who}
use Rattle.permissions.specs.declared.who.Who.TheVariants.{Anonymous, Known}

abbrev pub Role : Type 0
Role = List ℕ

-- ---- the roles to which a permission is given

-- `View` and `Access contents information` are everyone's, all others the managers'
abbrev pub default_roles : ℕ → List Role
default_roles permission = if (permission == VIEW) || (permission == ACCESS_CONTENTS_INFORMATION) then codes "Anonymous" ∷ codes "Manager" ∷ [] else codes "Manager" ∷ []

-- what an object says of a permission, if anything
abbrev pub setting_of : ℕ → List Setting → Option Setting
setting_of permission settings = find (λ s. nat_eq s.permission permission) settings

-- an object that says nothing leaves it to those above; its setting decides alone, or with them where it acquires
abbrev pub by_setting : Option Setting → Shapes Fault (List Role) → Shapes Fault (List Role)
by_setting None above = above
by_setting (Some s) above = if s.acquire then (above >>= λ roles. Done (s.roles ++ roles)) else Done s.roles

-- the nearest setting on the path decides; above the root stands the default
unfoldable pub roles : ℕ → List ℕ → Shapes Fault (List Role)
roles permission [] = Done (default_roles permission)
roles permission (o ∷ os) = do
  object ← here o
  by_setting (setting_of permission object.settings) (roles permission os)

-- ---- the roles of a user

abbrev pub roles_in : Option Local → List Role
roles_in None = []
roles_in (Some l) = l.roles

-- the local roles of a name
unfoldable pub local_roles : List ℕ → List Local → List Role
local_roles name locals = roles_in (find (λ l. bytes_eq l.user name) locals)

-- the local roles of a name on each object of a path
unfoldable pub locals_on : List ℕ → List ℕ → Shapes Fault (List Role)
locals_on name [] = Done []
locals_on name (o ∷ os) = do
  object ← here o
  above ← locals_on name os
  Done (local_roles name object.locals ++ above)

-- everyone's, and those of every known user who has a name
abbrev pub common_roles : List ℕ → List Role
common_roles name = if length name == 0 then codes "Anonymous" ∷ [] else codes "Anonymous" ∷ codes "Authenticated" ∷ []

-- The roles of a user on an object with this path. A known user's own roles and local roles count where his home, the
-- folder that holds his user folder, is on the path.
unfoldable pub has : Who → List ℕ → Shapes Fault (List Role)
has Anonymous path = Done (codes "Anonymous" ∷ [])
has (Known name own home) path =
    if acquiring.has path home
    then (locals_on name path >>= λ local. Done (common_roles name ++ own ++ local))
    else Done (common_roles name)

-- ---- one list behind another

-- the roles that a question comes to, behind others
abbrev pub behind : {E : Type 0} → List Role → Result (List Role) E → Result (List Role) E
behind first (Ok roles) = Ok (first ++ roles)
behind first (Err e) = Err e
