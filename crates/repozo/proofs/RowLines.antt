-- What the parts of a line say of the row whose line it is.
use Rattle.std.proofs.Common.{◌≡◌, ℕ, ◌<◌, ◌^◌, List, [], ◌∷◌, ◌++◌, Ok, Err, Result, length, length-append, append_assoc, append-nil, flat_map, refl, sym, ap, subst, ◌∙◌, arith}
use Rattle.std.specs.Prelude.{MatchResult, decimal}
use Rattle.std.proofs.lemmas.Grind.{flat_map-append}
use Rattle.std.proofs.lemmas.Fmt.{decimal_injective}
use Rattle.hex.proofs.HexLemmas.{decode_of-ok, decode_sized-encode_lower, decode_sized-ok, decode_sized-twice}
use Rattle.hex.specs.Hex.{IsBytes, decode_sized, encode_lower}
use Rattle.hex.specs.declared.error.FromHexError.{FromHexError}
use Rattle.repozo.specs.declared.index.PieceRow.{PieceRow}
use Rattle.repozo.specs.Index.{HasLine, IsDigest, Lacks, row_text}
use Rattle.repozo.proofs.Lines.{decimal_lacks, digest_lacks, has_byte, line_is, line_of, line_text, one_back, start_small}

-- the digits of a digest decode to it
pub decoded : (text digest : List ℕ) (result : Result Unit FromHexError) (out : List ℕ) → IsDigest digest → text ≡ encode_lower digest
    → MatchResult (decode_sized text 16) (λ bytes. (result ≡ Ok tt) × (out ≡ bytes)) (λ e. result ≡ Err e) → (result ≡ Ok tt) × (out ≡ digest)
decoded text digest result out is e value =
    let answer : decode_sized text 16 ≡ Ok digest = subst (λ t. decode_sized t 16 ≡ Ok digest) (sym e) (decode_sized-encode_lower digest 16 is.size is.bytes) in
    subst (λ d. MatchResult d (λ bytes. (result ≡ Ok tt) × (out ≡ bytes)) (λ e. result ≡ Err e)) answer value

-- what digits decode to is a digest
pub digest_of : (text : List ℕ) (result : Result Unit FromHexError) (out : List ℕ) → MatchResult (decode_sized text 16) (λ bytes. (result ≡ Ok tt) × (out ≡ bytes)) (λ e. result ≡ Err e)
    → result ≡ Ok tt → IsDigest out
digest_of text result out value ok = go (decode_sized text 16) refl value
  where
    go : (d : Result (List ℕ) FromHexError) → decode_sized text 16 ≡ d → MatchResult d (λ bytes. (result ≡ Ok tt) × (out ≡ bytes)) (λ e. result ≡ Err e) → IsDigest out
    go (Ok bytes) is given =
        let facts = decode_sized-ok text 16 bytes is in
        let twice = decode_of-ok text bytes (sym (decode_sized-twice text 16 facts) ∙ is) in
        record { size = (let same : out ≡ bytes = given.1 in let long = ap length same in omega (arith, long, twice.2, facts)); bytes = subst IsBytes (sym given.1) twice.3 }
    go (Err e) is given = absurd (cc (sym given ∙ ok))

pub lacks_front : (byte : ℕ) (xs ys : List ℕ) → Lacks byte (xs ++ ys) → Lacks byte xs
lacks_front byte [] ys lacks = tt
lacks_front byte (x ∷ xs) ys lacks = (lacks.0, lacks_front byte xs ys lacks.1)

-- ---- from its end: the digest, the end, the start, the name

pub no_last : (line : List ℕ) (r : PieceRow) → line ++ 10 ∷ [] ≡ row_text r → Lacks 32 line → ⊥
no_last line r e lacks =
    has_byte 32 ((r.name ++ 32 ∷ decimal r.start) ++ 32 ∷ decimal r.end) (encode_lower r.md5) (subst (Lacks 32) (line_is line r e) lacks)

pub last_part : (line front digits : List ℕ) (r : PieceRow) → HasLine r → line ++ 10 ∷ [] ≡ row_text r → line ≡ front ++ 32 ∷ digits → Lacks 32 digits
    → (front ≡ (r.name ++ 32 ∷ decimal r.start) ++ 32 ∷ decimal r.end) × (digits ≡ encode_lower r.md5)
last_part line front digits r is e parts lacks =
    one_back 32 front ((r.name ++ 32 ∷ decimal r.start) ++ 32 ∷ decimal r.end) digits (encode_lower r.md5) lacks (digest_lacks 32 r.md5 refl is.digest) (sym parts ∙ line_is line r e)

pub no_end : (front : List ℕ) (r : PieceRow) → front ≡ (r.name ++ 32 ∷ decimal r.start) ++ 32 ∷ decimal r.end → Lacks 32 front → ⊥
no_end front r e lacks = has_byte 32 (r.name ++ 32 ∷ decimal r.start) (decimal r.end) (subst (Lacks 32) e lacks)

pub end_part : (front left ends : List ℕ) (r : PieceRow) → HasLine r → front ≡ (r.name ++ 32 ∷ decimal r.start) ++ 32 ∷ decimal r.end → front ≡ left ++ 32 ∷ ends
    → Lacks 32 ends → (left ≡ r.name ++ 32 ∷ decimal r.start) × (ends ≡ decimal r.end)
end_part front left ends r is e parts lacks =
    one_back 32 left (r.name ++ 32 ∷ decimal r.start) ends (decimal r.end) lacks (decimal_lacks 32 r.end (omega arith) is.small) (sym parts ∙ e)

pub no_start : (left : List ℕ) (r : PieceRow) → left ≡ r.name ++ 32 ∷ decimal r.start → Lacks 32 left → ⊥
no_start left r e lacks = has_byte 32 r.name (decimal r.start) (subst (Lacks 32) e lacks)

pub start_part : (left named starts : List ℕ) (r : PieceRow) → HasLine r → left ≡ r.name ++ 32 ∷ decimal r.start → left ≡ named ++ 32 ∷ starts
    → Lacks 32 starts → (named ≡ r.name) × (starts ≡ decimal r.start)
start_part left named starts r is e parts lacks =
    one_back 32 named r.name starts (decimal r.start) lacks (decimal_lacks 32 r.start (omega arith) (start_small r is)) (sym parts ∙ e)

-- all four at once
pub record Parts (line front digits left ends named starts : List ℕ) : Type 0 where
  pub last : line ≡ front ++ 32 ∷ digits
  pub last_lacks : Lacks 32 digits
  pub end : front ≡ left ++ 32 ∷ ends
  pub end_lacks : Lacks 32 ends
  pub start : left ≡ named ++ 32 ∷ starts
  pub start_lacks : Lacks 32 starts

pub all_parts : (line front digits left ends named starts : List ℕ) (r : PieceRow) → Parts line front digits left ends named starts → HasLine r → line ++ 10 ∷ [] ≡ row_text r
    → (named ≡ r.name) × (starts ≡ decimal r.start) × (ends ≡ decimal r.end) × (digits ≡ encode_lower r.md5)
all_parts line front digits left ends named starts r p is e =
    let one = last_part line front digits r is e p.last p.last_lacks in
    let two = end_part front left ends r is one.0 p.end p.end_lacks in
    let three = start_part left named starts r is two.0 p.start p.start_lacks in
    (three.0, three.1, two.1, one.1)

-- the name has no LF where the line has none
pub named_lacks : (line front digits left ends named starts : List ℕ) → Parts line front digits left ends named starts → Lacks 10 line → Lacks 10 named
named_lacks line front digits left ends named starts p lacks =
    let of_front = lacks_front 10 front (32 ∷ digits) (subst (Lacks 10) p.last lacks) in
    let of_left = lacks_front 10 left (32 ∷ ends) (subst (Lacks 10) p.end of_front) in
    lacks_front 10 named (32 ∷ starts) (subst (Lacks 10) p.start of_left)

-- the row's numbers are in order
pub in_order : (starts ends : List ℕ) (start end : ℕ) (r : PieceRow) → start < 2 ^ 64 → end < 2 ^ 64 → HasLine r → starts ≡ decimal start → ends ≡ decimal end
    → starts ≡ decimal r.start → ends ≡ decimal r.end → start < end
in_order starts ends start end r small_start small_end is a b e f =
    let start_is = decimal_injective start r.start small_start (start_small r is) (sym a ∙ e) in
    let end_is = decimal_injective end r.end small_end is.small (sym b ∙ f) in
    omega (arith, start_is, end_is, is.some)

-- ---- rows one behind another

pub texts_more : (bytes rest others : List ℕ) (rows : List PieceRow) (row : PieceRow) → bytes ≡ flat_map row_text rows ++ rest → rest ≡ row_text row ++ others
    → bytes ≡ flat_map row_text (rows ++ row ∷ []) ++ others
texts_more bytes rest others rows row is next =
    is ∙ ap (λ xs. flat_map row_text rows ++ xs) next ∙ sym (append_assoc (flat_map row_text rows) (row_text row) others)
    ∙ ap (λ xs. xs ++ others) (ap (λ xs. flat_map row_text rows ++ xs) (sym (append-nil (row_text row))) ∙ sym (flat_map-append row_text rows (row ∷ [])))

-- a line is no empty one
pub line_long : (row : PieceRow) (rest others : List ℕ) → rest ≡ row_text row ++ others → length others < length rest
line_long row rest others e =
    let whole = ap length e ∙ length-append (row_text row) others in
    let text = ap length (line_text row) ∙ length-append (line_of row) (10 ∷ []) in
    omega (arith, whole, text)
