-- Which permission a name is.
use Rattle.std.specs.Prelude.{ℕ, List, [], ◌∷◌, Option}
use Rattle.std.specs.List.{find}
use Rattle.std.specs.Str.{bytes_eq}
use Rattle.evaluator.specs.declared.permission.TheConstants.{ACCESS_CONTENTS_INFORMATION, ADD_DOCUMENTS_IMAGES_AND_FILES, ADD_FOLDERS, ADD_USER_FOLDERS, CHANGE_DTML_DOCUMENTS, CHANGE_DTML_METHODS, CHANGE_PERMISSIONS, CHANGE_PROXY_ROLES, DELETE_OBJECTS, MANAGE_PROPERTIES, MANAGE_USERS, UNDO_CHANGES, VIEW}
use Rattle.evaluator.specs.Permissions.{permission_text}

abbrev pub permissions : List ℕ
permissions =
    VIEW ∷ ACCESS_CONTENTS_INFORMATION ∷ ADD_FOLDERS ∷ ADD_DOCUMENTS_IMAGES_AND_FILES ∷ CHANGE_DTML_METHODS ∷ CHANGE_DTML_DOCUMENTS
    ∷ DELETE_OBJECTS ∷ MANAGE_PROPERTIES ∷ CHANGE_PERMISSIONS ∷ MANAGE_USERS ∷ ADD_USER_FOLDERS ∷ UNDO_CHANGES ∷ CHANGE_PROXY_ROLES ∷ []

-- the number of the permission of that name, if it is one's
unfoldable pub permission_named : List ℕ → Option ℕ
permission_named name = find (λ n. bytes_eq (permission_text n) name) permissions
