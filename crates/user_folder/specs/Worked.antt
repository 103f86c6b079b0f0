-- Worked credentials and kept passwords.
use lib.Utf8.{encode}
use Rattle.std.specs.Prelude.{◌≡◌, refl, [], ◌∷◌, Some, None, Ok, Err, codes, map}
use Rattle.std.specs.Str.{is_utf8, chars}
use Rattle.base64.specs.Decode.{groups_bytes, groups_error, scan_steps}
use Rattle.base64.specs.Rfc4648.{encode_symbols}
use Rattle.sha1.specs.Sha1.{sha1, digest_bytes, hash_after, compress, rounds, schedule, first_words}
use Rattle.zobject.specs.declared.object.User.{User}
use Rattle.user_folder.specs.declared.basic.HeaderRefusal.{HeaderRefusal}
use Rattle.user_folder.specs.Credentials.{credentials_of, spelled_by}
use Rattle.user_folder.specs.Users.{kept, user_of}

-- RFC 7617: the name `Aladdin` and the password `open sesame`; RFC 4648: the base64 of `foobar` has no colon
aladdin : credentials_of (Some (codes "bAsIc QWxhZGRpbjpvcGVuIHNlc2FtZQ==")) ≡ Ok (Some (codes "Aladdin", codes "open sesame"))
unfolding spelled_by groups_bytes groups_error scan_steps is_utf8 chars encode
aladdin = refl

others : map credentials_of (None ∷ Some (codes "Bearer x") ∷ Some [] ∷ []) ≡ Ok None ∷ Ok None ∷ Ok None ∷ []
others = refl

no_colon : credentials_of (Some (codes "Basic Zm9vYmFy")) ≡ Err HeaderRefusal.BadHeader
unfolding spelled_by groups_bytes groups_error scan_steps is_utf8 chars encode
no_colon = refl

bad : map credentials_of (Some (codes "Basic") ∷ Some (codes "Basic  YTpi") ∷ Some (codes "Basic YTpi=") ∷ Some (codes "Basic YTo") ∷ Some (codes "Basic YTr/") ∷ [])
    ≡ Err HeaderRefusal.BadHeader ∷ Err HeaderRefusal.BadHeader ∷ Err HeaderRefusal.BadHeader ∷ Err HeaderRefusal.BadHeader ∷ Err HeaderRefusal.BadHeader ∷ []
unfolding spelled_by groups_bytes groups_error scan_steps is_utf8 chars encode
bad = refl

-- the second colon is the password's
two_colons : credentials_of (Some (codes "Basic YTpiOmM=")) ≡ Ok (Some (codes "a", codes "b:c"))
unfolding spelled_by groups_bytes groups_error scan_steps is_utf8 chars encode
two_colons = refl

secret : kept (codes "secret") ≡ codes "{SHA}5en6G6MezRroT3XKqkdPOmY/BfQ="
unfolding encode_symbols sha1 digest_bytes hash_after compress rounds schedule first_words
secret = refl

abbrev ann : User
ann = record { name = codes "ann"; password = codes "{SHA}5en6G6MezRroT3XKqkdPOmY/BfQ="; roles = [] }

found : map (λ name. user_of name (codes "secret") (ann ∷ [])) (codes "ann" ∷ codes "Ann" ∷ []) ≡ Some ann ∷ None ∷ []
unfolding encode_symbols sha1 digest_bytes hash_after compress rounds schedule first_words
found = refl
