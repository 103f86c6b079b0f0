-- The user that a request comes from: the first on the way upwards who has the name and the password that it carries, and
-- to whom the permission is granted that it needs.
--
-- Zope Book, "Users and Security": a user is looked for in the user folders from the object upwards.
use Rattle.std.specs.Prelude.{ℕ, List, [], ◌∷◌, Option, Some, None, option_map, drop, codes}
use Rattle.zbase.specs.Query.{Done, ◌>>=◌}
use Rattle.zobject.specs.declared.object.User.{User}
use Rattle.zobject.specs.Shapes.{Form, child_in}
use Rattle.zobject.specs.Shapes as form
use Rattle.zknown.specs.Seen.{Shapes}
use Rattle.acquisition.specs.Acquiring.{Fault, here, containers}
use Rattle.user_folder.specs.Users.{user_of}
use Rattle.permissions.specs.declared.who.Who.{Who}
use Rattle.permissions.specs.declared.who.Who.TheVariants.{Anonymous, Known}
use Rattle.permissions.specs.declared.who.Verdict.{Verdict}
use Rattle.permissions.specs.declared.who.Verdict.TheVariants.{Granted, Denied}
use Rattle.permissions.specs.Verdicts.{judged}

-- a name and a password
abbrev pub Credentials : Type 0
Credentials = List ℕ × List ℕ

-- the user of that name and password, where it is a user folder that has one
abbrev pub user_in : Credentials → Form → Option User
user_in credentials (form.Folder children) = None
user_in credentials (form.Method proxy) = None
user_in credentials (form.Document proxy) = None
user_in credentials (form.UserFolder users) = user_of credentials.0 credentials.1 users

abbrev pub known_at : ℕ → User → Who
known_at home user = Known user.name user.roles home

-- the user of that name and password in a folder's child, if it has that child
abbrev pub user_under : Credentials → ℕ → Option ℕ → Shapes Fault (Option Who)
user_under credentials home None = Done None
user_under credentials home (Some o) = here o >>= λ object. Done (option_map (known_at home) (user_in credentials object.form))

-- the user of that name and password in a folder's user folder
unfoldable pub user_at : Credentials → ℕ → Shapes Fault (Option Who)
user_at credentials folder = here folder >>= λ object. user_under credentials folder (child_in (codes "acl_users") object.form)

abbrev pub if_granted : Who → Verdict → Option Who
if_granted user (Granted role) = Some user
if_granted user (Denied permission) = None

-- a user to whom the permission is granted on the object with this path
abbrev pub granted_user : ℕ → List ℕ → Option Who → Shapes Fault (Option Who)
granted_user permission path None = Done None
granted_user permission path (Some user) = judged user permission path >>= λ verdict. Done (if_granted user verdict)

-- the user of that name and password in a folder's user folder, where he is granted it
unfoldable pub taken_at : Credentials → ℕ → List ℕ → ℕ → Shapes Fault (Option Who)
taken_at credentials permission path folder = user_at credentials folder >>= granted_user permission path

abbrev pub or_further : Option Who → Shapes Fault Who → Shapes Fault Who
or_further None further = further
or_further (Some user) further = Done user

-- the first of these folders decides that has a user who is granted it
unfoldable pub sought : Credentials → ℕ → List ℕ → List ℕ → Shapes Fault Who
sought credentials permission path [] = Done Anonymous
sought credentials permission path (folder ∷ folders) = do
  user ← taken_at credentials permission path folder
  or_further user (sought credentials permission path folders)

-- the folders from an object upwards: those of its path, it among them where it is one
abbrev pub folders_of : Form → List ℕ → List ℕ
folders_of (form.Folder children) path = path
folders_of (form.Method proxy) path = drop 1 path
folders_of (form.Document proxy) path = drop 1 path
folders_of (form.UserFolder users) path = drop 1 path

-- the user of that name and password who needs this permission on this object
unfoldable pub known_user : Credentials → ℕ → ℕ → Shapes Fault Who
known_user credentials o permission = do
  path ← containers o
  object ← here o
  sought credentials permission path (folders_of object.form path)

-- The user of a request that carries these credentials, if any, and needs this permission on this object: the page that is
-- published, or what is called on.
abbrev pub who : Option Credentials → ℕ → ℕ → Shapes Fault Who
who None o permission = Done Anonymous
who (Some credentials) o permission = known_user credentials o permission
