-- Where plain text ends.
use Rattle.std.proofs.Common.{◌≡◌, ◌≢◌, ℕ, zero, suc, ◌+◌, ◌<◌, ◌≤◌, true, false, List, [], ◌∷◌, length, drop, get_or, refl, arith, nat_eq}
use Rattle.std.proofs.lemmas.Bool.Decides.{nat_tests}
use Rattle.dtml_lex.specs.Reading.{entity_at, begins_part, plain_len}

-- where no tag and no entity begins, one more byte is plain
pub plain_more : (bs : List ℕ) (i : ℕ) → i < length bs → begins_part (drop i bs) ≡ false → plain_len (drop i bs) ≡ plain_len (drop (i + 1) bs) + 1
unfolding plain_len
plain_more [] i lt h = absurd (omega arith)
plain_more (b ∷ bs) zero lt h = rw h (omega arith)
plain_more (b ∷ bs) (suc i) lt h = let e : suc i + 1 ≡ suc (i + 1) = omega arith in rw e (plain_more bs i (omega arith) h)

pub plain_stops : (bs : List ℕ) (i : ℕ) → i < length bs → begins_part (drop i bs) ≡ true → plain_len (drop i bs) ≡ 0
unfolding plain_len
plain_stops [] i lt h = absurd (omega arith)
plain_stops (b ∷ bs) zero lt h = rw h refl
plain_stops (b ∷ bs) (suc i) lt h = plain_stops bs i (omega arith) h

pub plain_ends : (bs : List ℕ) (i : ℕ) → length bs ≤ i → plain_len (drop i bs) ≡ 0
unfolding plain_len
plain_ends [] zero le = refl
plain_ends [] (suc i) le = refl
plain_ends (b ∷ bs) zero le = absurd (omega arith)
plain_ends (b ∷ bs) (suc i) le = plain_ends bs i (omega arith)

not_first : (b : ℕ) (bs : List ℕ) → nat_eq 60 b ≡ false → nat_eq 38 b ≡ false → begins_part (b ∷ bs) ≡ false
unfolding begins_part entity_at
not_first b bs less ampersand = rw (less, ampersand) refl

-- a tag begins with `<`, an entity with `&`
pub other_byte : (bs : List ℕ) (i : ℕ) → i < length bs → get_or bs i 0 ≢ 60 → get_or bs i 0 ≢ 38 → begins_part (drop i bs) ≡ false
other_byte [] i lt less ampersand = absurd (omega arith)
other_byte (b ∷ bs) zero lt less ampersand = not_first b bs (grind (arith, nat_tests)) (grind (arith, nat_tests))
other_byte (b ∷ bs) (suc i) lt less ampersand = other_byte bs i (omega arith) less ampersand
