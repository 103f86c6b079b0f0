-- Runs of bytes, and that a text may be cut where one ends.
use Rattle.std.proofs.Common.{◌≡◌, ℕ, zero, suc, ◌<◌, ◌≤◌, Bool, true, false, List, length, get_or, refl, arith, add-one, nat_lt}
use Rattle.std.specs.List.{prefix_len, take_while}
use Rattle.std.specs.Str.{IsUtf8, IsCharBoundary}
use Rattle.std.proofs.lemmas.List.Folds.{length-prefix_len}
use Rattle.std.proofs.lemmas.List.Sums.{prefix_len_passes, prefix_len_stops, prefix_len-le-length}
use Rattle.std.proofs.lemmas.Str.{IsCharBoundary-start, IsCharBoundary-end, IsCharBoundary-before_ascii, IsCharBoundary-after_ascii}
use Rattle.std.proofs.lemmas.Bool.Decides.{nat_tests}
use Rattle.dtml_lex.specs.Spelling.{is_blank, is_word_byte, is_lower, is_letter, is_name_byte, is_unquoted}
use Rattle.dtml_lex.specs.Classes.{has}
use Rattle.dtml_lex.specs.declared.bytes.Class.{Class}
use Rattle.dtml_lex.specs.declared.bytes.Class.TheVariants.{Blank, Word, Lower, Letter, Name, Unquoted}

pub take_while_len : (p : ℕ → Bool) (bs : List ℕ) → length (take_while p bs) ≡ prefix_len p bs
take_while_len p bs = length-prefix_len p bs

-- a run of ASCII bytes ends behind one
behind_ascii : (p : ℕ → Bool) (bs : List ℕ) (n : ℕ) → ((b : ℕ) → p b ≡ true → b < 128) → IsUtf8 bs → n ≡ prefix_len p bs → IsCharBoundary bs n
behind_ascii p bs zero ascii text e = IsCharBoundary-start bs text
behind_ascii p bs (suc n) ascii text e =
    let le = prefix_len-le-length p bs in
    let last : p (get_or bs n 0) ≡ true = prefix_len_passes p bs n 0 (omega arith) in
    let boundary = IsCharBoundary-after_ascii bs n text (omega arith) (ascii (get_or bs n 0) last) in
    rw add-one at boundary

-- a run that only an ASCII byte ends
before_ascii : (p : ℕ → Bool) (bs : List ℕ) → ((b : ℕ) → p b ≡ false → b < 128) → IsUtf8 bs → IsCharBoundary bs (prefix_len p bs)
before_ascii p bs ascii text = (elim (nat_lt (prefix_len p bs) (length bs)) as (λ t. nat_lt (prefix_len p bs) (length bs) ≡ t → IsCharBoundary bs (prefix_len p bs)) [
  | true ↦ λ e.
      let inside : prefix_len p bs < length bs = grind (arith, nat_tests) in
      IsCharBoundary-before_ascii bs (prefix_len p bs) inside (ascii (get_or bs (prefix_len p bs) 0) (prefix_len_stops p bs 0 inside))
  | false ↦ λ e.
      let le = prefix_len-le-length p bs in
      let outside : length bs ≤ prefix_len p bs = grind (arith, nat_tests) in
      let end : length bs ≡ prefix_len p bs = omega arith in
      rw (← end) (IsCharBoundary-end bs)
]) refl

not_blank : (b : ℕ) → is_blank b ≡ true → b < 128
not_blank b h = grind (arith, nat_tests)

not_lower : (b : ℕ) → is_lower b ≡ true → b < 128
not_lower b h = grind (arith, nat_tests)

not_letter : (b : ℕ) → is_letter b ≡ true → b < 128
not_letter b h = grind (arith, nat_tests)

not_name : (b : ℕ) → is_name_byte b ≡ true → b < 128
not_name b h = grind (arith, nat_tests)

not_word : (b : ℕ) → is_word_byte b ≡ false → b < 128
not_word b h = grind (arith, nat_tests)

not_unquoted : (b : ℕ) → is_unquoted b ≡ false → b < 128
not_unquoted b h = grind (arith, nat_tests)

-- a text may be cut behind a run
pub run_is_cut : (class : Class) (bs : List ℕ) → IsUtf8 bs → IsCharBoundary bs (prefix_len (has class) bs)
run_is_cut Blank bs text = behind_ascii is_blank bs (prefix_len is_blank bs) not_blank text refl
run_is_cut Word bs text = before_ascii is_word_byte bs not_word text
run_is_cut Lower bs text = behind_ascii is_lower bs (prefix_len is_lower bs) not_lower text refl
run_is_cut Letter bs text = behind_ascii is_letter bs (prefix_len is_letter bs) not_letter text refl
run_is_cut Name bs text = behind_ascii is_name_byte bs (prefix_len is_name_byte bs) not_name text refl
run_is_cut Unquoted bs text = before_ascii is_unquoted bs not_unquoted text
