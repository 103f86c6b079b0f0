-- The permissions, numbered from 1 on.
--
-- Zope Developer's Guide, "Security": the standard permission names.
use Rattle.std.specs.Prelude.{ℕ, List, [], ◌∷◌, Option, Some, None, codes, slice_get}

abbrev pub permission_names : List (List ℕ)
permission_names =
    codes "View" ∷ codes "Access contents information" ∷ codes "Add Folders" ∷ codes "Add Documents, Images, and Files"
    ∷ codes "Change DTML Methods" ∷ codes "Change DTML Documents" ∷ codes "Delete objects" ∷ codes "Manage properties"
    ∷ codes "Change permissions" ∷ codes "Manage users" ∷ codes "Add User Folders" ∷ codes "Undo changes"
    ∷ codes "Change proxy roles" ∷ []

-- nothing where there is none
abbrev pub text_or_none : Option (List ℕ) → List ℕ
text_or_none None = []
text_or_none (Some text) = text

-- the name of a permission, empty for a number that is none's
unfoldable pub permission_text : ℕ → List ℕ
permission_text n = text_or_none (slice_get ([] ∷ permission_names) n)
