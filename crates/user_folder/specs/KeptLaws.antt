-- What is kept of a password is 33 bytes of ASCII, and so a text that a user may have.
use Rattle.std.proofs.Common.{◌≡◌, ℕ, Bool, true, false, ◌+◌, ◌*◌, ◌/◌, List, [], ◌++◌, length, nat_le, refl, ap, ◌∙◌, arith, codes}
use Rattle.std.specs.Prelude.{◌&&◌, replicate}
use Rattle.std.specs.Int.{to_be_bytes, w32}
use Rattle.std.proofs.lemmas.List.{length-append, length-replicate}
use Rattle.std.specs.Str.{IsAscii, is_utf8}
use Rattle.std.proofs.lemmas.Str.{IsAscii-append, IsUtf8-from_ascii, is_utf8-from_IsUtf8}
use Rattle.std.proofs.lemmas.Str.Ascii.{IsAscii-cons, IsAscii-nil}
use Rattle.base64.proofs.EngineFacts.{IsAscii-encode_of}
use Rattle.base64.proofs.RoundTrip.{length-encode_symbols}
use Rattle.base64.specs.Engines.{standard}
use Rattle.base64.specs.GeneralPurpose.{encode_of}
use Rattle.base64.specs.Rfc4648.{encode_symbols, padding_len}
use Rattle.sha1.specs.Sha1.{digest_bytes, sha1}
use Rattle.zobject.specs.declared.limits.TheConstants.{MOST_PASSWORD}
use Rattle.zobject.specs.Rules.{Keeps}
use Rattle.zobject.specs.declared.version.Rule.TheVariants.{Password}
use Rattle.user_folder.specs.Users.{kept}

digest_length : (message : List ℕ) → length (sha1 message) ≡ 20
unfolding sha1 digest_bytes
digest_length message = simp (length-append)

pub kept_length : (password : List ℕ) → length (kept password) ≡ 33
kept_length password =
    let d : List ℕ = sha1 password in
    let digest : length d ≡ 20 = digest_length password in
    let symbols : length (encode_symbols standard.encode_table d) ≡ 27 = length-encode_symbols standard.encode_table d ∙ ap (λ (n : ℕ). (4 * n + 2) / 3) digest in
    let padding : length (replicate (padding_len (length d)) standard.padding.value) ≡ 1 = length-replicate (padding_len (length d)) standard.padding.value ∙ ap padding_len digest in
    omega (arith, symbols, padding, length-append (codes "{SHA}") (encode_of standard d), length-append (encode_symbols standard.encode_table d) (replicate (padding_len (length d)) standard.padding.value))

scheme_ascii : IsAscii (codes "{SHA}")
scheme_ascii = IsAscii-cons 123 (codes "SHA}") (omega arith) (IsAscii-cons 83 (codes "HA}") (omega arith) (IsAscii-cons 72 (codes "A}") (omega arith) (IsAscii-cons 65 (codes "}") (omega arith) (IsAscii-cons 125 [] (omega arith) IsAscii-nil))))

kept_utf8 : (password : List ℕ) → is_utf8 (kept password) ≡ true
kept_utf8 password = is_utf8-from_IsUtf8 _ (IsUtf8-from_ascii _ (IsAscii-append (codes "{SHA}") (encode_of standard (sha1 password)) scheme_ascii (IsAscii-encode_of standard (sha1 password))))

both : (a b : Bool) → a ≡ true → b ≡ true → (a && b) ≡ true
both true true p q = refl
both true false p q = q
both false b p q = p

pub kept_is_lawful : (password : List ℕ) → Keeps Password (kept password)
kept_is_lawful password = both (nat_le (length (kept password)) MOST_PASSWORD) (is_utf8 (kept password)) (ap (λ (n : ℕ). nat_le n MOST_PASSWORD) (kept_length password)) (kept_utf8 password)
