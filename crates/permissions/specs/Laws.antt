-- What the laws of roles and verdicts speak of.
use Rattle.std.specs.Prelude.{ℕ, ◌≡◌, Bool, false, List, Option, Some, None}
use Rattle.zobject.specs.declared.object.Setting.{Setting}
use Rattle.zobject.specs.declared.object.Object.{Object}
use Rattle.zobject.specs.Rules.{IsObject}
use Rattle.zobject.specs.Shapes.{Shape, shape_of}
use Rattle.zknown.specs.Seen.{Seen, Here, Absent, Unreadable}
use Rattle.permissions.specs.Roles.{Role, setting_of, local_roles}
use Rattle.permissions.specs.Verdicts.{is_among}

-- the object is here, and this is its setting of the permission, or it has none
abbrev pub Sets : (ℕ → Option (Seen Shape)) → ℕ → Option Setting → ℕ → Type 0
Sets known permission setting o = (shape : Shape) × (known o ≡ Some (Here shape)) × (setting_of permission shape.settings ≡ setting)

abbrev pub is_local_in : List ℕ → Role → Option (Seen Shape) → Bool
is_local_in name role (Some (Here shape)) = is_among (local_roles name shape.locals) role
is_local_in name role (Some Absent) = false
is_local_in name role (Some Unreadable) = false
is_local_in name role None = false

-- the role is a local role of that name on the object
abbrev pub is_local : (ℕ → Option (Seen Shape)) → List ℕ → Role → ℕ → Bool
is_local known name role o = is_local_in name role (known o)

-- the object is here, and keeps the rules of objects
abbrev pub KeepsRules : (ℕ → Option (Seen Shape)) → ℕ → Type 0
KeepsRules known o = (object : Object) × IsObject object × (known o ≡ Some (Here (shape_of object)))
