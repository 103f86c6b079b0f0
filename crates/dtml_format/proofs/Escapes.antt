-- The set of bytes that `url_quote` escapes, and that escaping by it is the definition's.
use Rattle.std.proofs.Common.{◌≡◌, ◌≢◌, ℕ, ◌<◌, ◌==◌, ◌||◌, Bool, true, false, not, List, [], ◌∷◌, ◌++◌, refl, ap, ◌∙◌, arith, nat_eq, nat_lt, if◌then◌else◌}
use Rattle.std.specs.List.{flat_map}
use Rattle.std.specs.Char.{is_ascii, is_ascii_alphanumeric}
use Rattle.std.proofs.lemmas.Bool.{agree_below_at}
use Rattle.std.proofs.lemmas.Bool.Decides.{nat_tests}
use Rattle.percent_encoding.specs.AsciiSet.{contains, should_percent_encode}
use Rattle.percent_encoding.specs.Percent.{percent_encode, encode_byte, percent_encode_byte}
use Rattle.percent_encoding.specs.declared.ascii_set.AsciiSet.{AsciiSet}
use Rattle.percent_encoding.specs.declared.ascii_set.TheConstants.{NON_ALPHANUMERIC}
use Rattle.dtml_format.specs.Shaping.{is_kept, url_byte, url_quote}

-- the bytes of ASCII that are no letter and no digit
pub others_at_first : (b : ℕ) → b < 128 → contains NON_ALPHANUMERIC b ≡ not (is_ascii_alphanumeric b)
others_at_first b lt = agree_below_at (contains NON_ALPHANUMERIC) (λ b. not (is_ascii_alphanumeric b)) 128 b refl lt

-- one byte more is taken out
pub one_more : (old new test : ℕ → Bool) (x : ℕ) → new x ≡ false → ((b : ℕ) → b < 128 → b ≢ x → new b ≡ old b) → ((b : ℕ) → b < 128 → old b ≡ not (test b)) → (b : ℕ) → b < 128 → new b ≡ not (test b || b == x)
one_more old new test x gone others was b lt = (elim (nat_eq b x) as (λ t. nat_eq b x ≡ t → new b ≡ not (test b || t)) [
  | true ↦ λ e.
      let same : b ≡ x = grind (arith, nat_tests) in
      let now : new b ≡ false = ap new same ∙ gone in
      elim (test b) as (λ t. new b ≡ not (t || true)) [ true ↦ now | false ↦ now ]
  | false ↦ λ e.
      let apart : b ≢ x = grind (arith, nat_tests) in
      let now : new b ≡ not (test b) = others b lt apart ∙ was b lt in
      (elim (test b) as (λ t. test b ≡ t → new b ≡ not (t || false)) [ true ↦ λ h. now ∙ ap not h | false ↦ λ h. now ∙ ap not h ]) refl
]) refl

-- from 128 on every byte is escaped
is_escaped : (set : AsciiSet) → ((b : ℕ) → b < 128 → contains set b ≡ not (is_kept b)) → (b : ℕ) → should_percent_encode set b ≡ not (is_kept b)
unfolding should_percent_encode
is_escaped set agrees b = (elim (nat_lt b 128) as (λ t. nat_lt b 128 ≡ t → (not (is_ascii b) || contains set b) ≡ not (is_kept b)) [
  | true ↦ λ e.
      let low : b < 128 = grind (arith, nat_tests) in
      ap (λ t. not t || contains set b) e ∙ agrees b low
  | false ↦ λ e. grind (arith, nat_tests)
]) refl

one_byte : (set : AsciiSet) (b : ℕ) → should_percent_encode set b ≡ not (is_kept b) → encode_byte set b ≡ url_byte b
one_byte set b h = ap (λ t. if t then percent_encode_byte b else b ∷ []) h ∙ (elim (is_kept b) as (λ t. (if not t then percent_encode_byte b else b ∷ []) ≡ (if t then b ∷ [] else percent_encode_byte b)) [ true ↦ refl | false ↦ refl ])

all_bytes : (set : AsciiSet) → ((b : ℕ) → b < 128 → contains set b ≡ not (is_kept b)) → (text : List ℕ) → flat_map (encode_byte set) text ≡ flat_map url_byte text
all_bytes set agrees [] = refl
all_bytes set agrees (b ∷ rest) = ap (λ x. x ++ flat_map (encode_byte set) rest) (one_byte set b (is_escaped set agrees b)) ∙ ap (λ x. url_byte b ++ x) (all_bytes set agrees rest)

pub is_quoted : (set : AsciiSet) → ((b : ℕ) → b < 128 → contains set b ≡ not (is_kept b)) → (text : List ℕ) → percent_encode set text ≡ url_quote text
unfolding percent_encode url_quote
is_quoted set agrees text = all_bytes set agrees text
