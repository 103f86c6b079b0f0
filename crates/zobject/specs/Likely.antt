-- Texts that keep their rule but for too many bytes, as a form may give them.
use Rattle.std.specs.Prelude.{ℕ, Bool, true, not, ◌&&◌, ◌||◌, ◌==◌, nat_le, List, length, take}
use Rattle.std.specs.List.{list_all, list_any}
use Rattle.std.specs.Str.{is_utf8}
use Rattle.zbase.specs.declared.limits.TheConstants.{MOST_SOURCE}
use Rattle.zobject.specs.declared.limits.TheConstants.{MOST_NAME, MOST_PASSWORD, MOST_ROLE, MOST_TITLE, MOST_VALUE}
use Rattle.zobject.specs.declared.version.Kind.{Kind}
use Rattle.zobject.specs.declared.version.Kind.TheVariants.{Folder, Method, Document, UserFolder}
use Rattle.zobject.specs.declared.version.Rule.{Rule}
use Rattle.zobject.specs.declared.version.Rule.TheVariants.{StoredId, ChildName, PropertyName, Value, Role, UserName, Password, Title, Source}
use Rattle.zobject.specs.Texts.{is_acl_users, is_between, is_digit, is_hidden, is_id_byte, is_letter, is_reserved}

-- the most bytes that a text may have
abbrev pub most_bytes : Rule → ℕ
most_bytes (StoredId kind) = MOST_NAME
most_bytes ChildName = MOST_NAME
most_bytes PropertyName = MOST_NAME
most_bytes Value = MOST_VALUE
most_bytes Role = MOST_ROLE
most_bytes UserName = MOST_NAME
most_bytes Password = MOST_PASSWORD
most_bytes Title = MOST_TITLE
most_bytes Source = MOST_SOURCE

abbrev pub is_some : List ℕ → Bool
is_some text = nat_le 1 (length text)

-- an id of any length
unfoldable pub is_like_id : List ℕ → Bool
is_like_id text = is_some text && list_all is_id_byte text && not (is_hidden text) && not (is_reserved text)

abbrev pub is_like_stored : Kind → List ℕ → Bool
is_like_stored Folder id = (length id == 0) || is_like_id id
is_like_stored UserFolder id = is_acl_users id || is_like_id id
is_like_stored Method id = is_like_id id
is_like_stored Document id = is_like_id id

abbrev pub is_like_property_name : List ℕ → Bool
is_like_property_name text = is_some text && list_all (λ b. is_letter b || is_digit b || (b == 95)) text && list_any is_letter (take 1 text) && not (is_reserved text)

abbrev pub is_like_user_name : List ℕ → Bool
is_like_user_name text = is_some text && list_all (λ b. nat_le 32 b && not (b == 58)) text

abbrev pub is_like_role : List ℕ → Bool
is_like_role text = is_some text && list_all (λ b. is_between 32 126 b && not (b == 44)) text

abbrev pub is_likely : Rule → List ℕ → Bool
is_likely (StoredId kind) text = is_like_stored kind text
is_likely ChildName text = is_like_id text || is_acl_users text
is_likely PropertyName text = is_like_property_name text
is_likely Value text = true
is_likely Role text = is_like_role text
is_likely UserName text = is_like_user_name text
is_likely Password text = true
is_likely Title text = true
is_likely Source text = true

-- the text keeps its rule but for too many bytes
abbrev pub is_like : Rule → List ℕ → Bool
is_like rule text = is_likely rule text && is_utf8 text
