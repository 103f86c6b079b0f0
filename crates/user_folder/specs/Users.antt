-- What is kept of a password, and the user of a name and a password.
--
-- Zope Book, "Users and Security": user folders; RFC 2307, "userPassword": `{SHA}`; RFC 3174, the digest; RFC 4648, base64.
use Rattle.std.specs.Prelude.{ℕ, ◌&&◌, Bool, List, ◌++◌, Option, find, codes}
use Rattle.std.specs.Str.{bytes_eq}
use Rattle.base64.specs.Engines.{standard}
use Rattle.base64.specs.GeneralPurpose.{encode_of}
use Rattle.sha1.specs.Sha1.{sha1}
use Rattle.zobject.specs.declared.object.User.{User}

-- `{SHA}` and the base64 of the SHA-1 digest
abbrev pub kept : List ℕ → List ℕ
kept password = codes "{SHA}" ++ encode_of standard (sha1 password)

-- the name, and what is kept of the password, are this user's
abbrev pub is_user : List ℕ → List ℕ → User → Bool
is_user name password u = bytes_eq u.name name && bytes_eq u.password password

-- the user of that name whose kept password is that of the given one
abbrev pub user_of : List ℕ → List ℕ → List User → Option User
user_of name password users = find (is_user name (kept password)) users
