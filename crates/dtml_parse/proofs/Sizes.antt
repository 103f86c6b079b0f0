-- A size is a number that is read.
use Rattle.std.proofs.Common.{◌≡◌, ℕ, ◌<◌, ◌≤◌, ◌^◌, ◌&&◌, not, Bool, true, false, List, [], ◌∷◌, length, nat_eq, nat_le, Err, refl, sym, ap, ◌∙◌, arith}
use Rattle.std.specs.List.{list_all}
use Rattle.std.specs.Char.{is_ascii_digit}
use Rattle.std.specs.Str.{all_ascii_digits}
use Rattle.std.specs.Str.Parse.{ParsesUnsigned, digits_value}
use Rattle.std.proofs.lemmas.Str.Parse.{IsNumeralModel, numerals_by_value, tells_all_ascii_digits, parse_gives, digits_value_short}
use Rattle.std.proofs.lemmas.Bool.Decides.{nat_tests}
use Rattle.dtml_parse.specs.Table.{is_size}

own : IsNumeralModel (λ ds. all_ascii_digits ds ≡ true) (digits_value 10)
own = numerals_by_value _ tells_all_ascii_digits

digits : (bs : List ℕ) → list_all is_ascii_digit bs ≡ all_ascii_digits bs
digits [] = refl
digits (b ∷ bs) = ap (λ (t : Bool). is_ascii_digit b && t) (digits bs)

both : (a b : Bool) → (a && b) ≡ true → (a ≡ true) × (b ≡ true)
both true b e = (refl, e)
both false b e = absurd cc

pub size_is_read : {E : Type 0} (text : List ℕ) (e : E) → is_size text ≡ true → ParsesUnsigned 32 10 text (Err e) → ⊥
size_is_read {E} text e size parses =
    let p = both (not (nat_eq (length text) 0) && nat_le (length text) 6) (list_all is_ascii_digit text) size in
    let q = both (not (nat_eq (length text) 0)) (nat_le (length text) 6) p.0 in
    let some = q.0 in
    let few = q.1 in
    let long : 0 < length text = grind (arith, nat_tests) in
    let short : length text ≤ 6 = grind (arith, nat_tests) in
    let all : all_ascii_digits text ≡ true = sym (digits text) ∙ p.1 in
    let small : digits_value 10 text < 10 ^ 6 = digits_value_short own text 6 all short in
    let fits : digits_value 10 text < 2 ^ 32 = omega arith in
    let read = parse_gives own 32 text (Err e) parses all long fits in
    cc
