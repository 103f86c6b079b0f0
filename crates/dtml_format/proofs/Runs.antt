-- Runs of bytes that stay as they are.
use Rattle.std.proofs.Common.{◌≡◌, ℕ, suc, ◌+◌, ◌-◌, append_assoc, ◌<◌, ◌≤◌, true, false, List, [], ◌∷◌, ◌++◌, length, get_or, take, drop, refl, ap, sym, ◌∙◌, arith, nat_lt, cond}
use Rattle.std.specs.List.{flat_map, prefix_len}
use Rattle.std.specs.Str.{IsUtf8, IsCharBoundary}
use Rattle.std.proofs.lemmas.Bool.Decides.{nat_tests}
use Rattle.std.proofs.lemmas.List.Sums.{prefix_len_stops, prefix_len-le-length}
use Rattle.std.proofs.lemmas.List.{append-nil, length-drop, get_or-drop}
use Rattle.std.proofs.lemmas.Str.{IsCharBoundary-end, IsCharBoundary-before_ascii, IsCharBoundary-after_ascii}
use Rattle.dtml_format.specs.declared.replacing.Mark.{Mark}
use Rattle.dtml_format.specs.declared.replacing.Mark.TheVariants.{Html, Lines}
use Rattle.dtml_format.specs.Replaced.{byte_of, stays}

pub stays_so : (mark : Mark) (b : ℕ) → stays mark b ≡ true → byte_of mark b ≡ b ∷ []
stays_so Html b h = grind (arith, nat_tests)
stays_so Lines b h = grind (arith, nat_tests)

pub is_low : (mark : Mark) (b : ℕ) → stays mark b ≡ false → b < 128
is_low Html b h = grind (arith, nat_tests)
is_low Lines b h = grind (arith, nat_tests)

-- what stays at the front, and what is made of the rest
pub front_stays : (mark : Mark) (xs : List ℕ) → flat_map (byte_of mark) xs ≡ take (prefix_len (stays mark) xs) xs ++ flat_map (byte_of mark) (drop (prefix_len (stays mark) xs) xs)
front_stays mark [] = refl
front_stays mark (b ∷ xs) = (elim (stays mark b) as (λ t. stays mark b ≡ t → flat_map (byte_of mark) (b ∷ xs) ≡ take (cond t (1 + prefix_len (stays mark) xs) 0) (b ∷ xs) ++ flat_map (byte_of mark) (drop (cond t (1 + prefix_len (stays mark) xs) 0) (b ∷ xs))) [
  | true ↦ λ e.
      let next : 1 + prefix_len (stays mark) xs ≡ suc (prefix_len (stays mark) xs) = omega arith in
      rw next (ap (λ x. x ++ flat_map (byte_of mark) xs) (stays_so mark b e) ∙ ap (λ x. b ∷ x) (front_stays mark xs))
  | false ↦ λ e. refl
]) refl

-- the byte behind it doesn't stay, so that the text may be cut before it
pub may_be_cut : (mark : Mark) (xs : List ℕ) → IsCharBoundary xs (prefix_len (stays mark) xs)
may_be_cut mark xs = (elim (nat_lt (prefix_len (stays mark) xs) (length xs)) as (λ t. nat_lt (prefix_len (stays mark) xs) (length xs) ≡ t → IsCharBoundary xs (prefix_len (stays mark) xs)) [
  | true ↦ λ e.
      let inside : prefix_len (stays mark) xs < length xs = grind (arith, nat_tests) in
      IsCharBoundary-before_ascii xs (prefix_len (stays mark) xs) inside (is_low mark (get_or xs (prefix_len (stays mark) xs) 0) (prefix_len_stops (stays mark) xs 0 inside))
  | false ↦ λ e.
      let le = prefix_len-le-length (stays mark) xs in
      let outside : length xs ≤ prefix_len (stays mark) xs = grind (arith, nat_tests) in
      let end : length xs ≡ prefix_len (stays mark) xs = omega arith in
      rw (← end) (IsCharBoundary-end xs)
]) refl

-- a run was taken over, and stands before the rest
pub run_is_taken : (mark : Mark) (xs made front back all : List ℕ) → front ≡ take (prefix_len (stays mark) xs) xs → back ≡ drop (prefix_len (stays mark) xs) xs
    → made ++ flat_map (byte_of mark) xs ≡ all → (made ++ front) ++ flat_map (byte_of mark) back ≡ all
run_is_taken mark xs made front back all f b is =
    append_assoc made front (flat_map (byte_of mark) back)
    ∙ ap (λ r. made ++ (r ++ flat_map (byte_of mark) back)) f
    ∙ ap (λ r. made ++ (take (prefix_len (stays mark) xs) xs ++ flat_map (byte_of mark) r)) b
    ∙ ap (λ r. made ++ r) (sym (front_stays mark xs)) ∙ is

pub nothing_left : (mark : Mark) (made back all : List ℕ) → length back ≤ 0 → made ++ flat_map (byte_of mark) back ≡ all → made ≡ all
nothing_left mark made [] all le is = sym (append-nil made) ∙ is
nothing_left mark made (b ∷ back) all le is = grind arith

pub byte_is_made : (mark : Mark) (made back all : List ℕ) (b : ℕ) → back ≡ b ∷ drop 1 back → made ++ flat_map (byte_of mark) back ≡ all
    → (made ++ byte_of mark b) ++ flat_map (byte_of mark) (drop 1 back) ≡ all
byte_is_made mark made back all b e is =
    append_assoc made (byte_of mark b) (flat_map (byte_of mark) (drop 1 back)) ∙ ap (λ r. made ++ flat_map (byte_of mark) r) (sym e) ∙ is

pub first_is : (back : List ℕ) (b : ℕ) → 0 < length back → b ≡ get_or back 0 b → back ≡ b ∷ drop 1 back
first_is [] b lt e = grind arith
first_is (x ∷ back) b lt e = ap (λ y. y ∷ back) (sym e)

got : (i : ℕ) (xs : List ℕ) → get_or (drop i xs) 0 0 ≡ get_or xs i 0
got i xs = grind (arith, get_or-drop)

pub ends_at : (mark : Mark) (xs back : List ℕ) (b : ℕ) → back ≡ drop (prefix_len (stays mark) xs) xs → back ≡ b ∷ drop 1 back → stays mark b ≡ false
ends_at mark xs back b e f =
    let all : drop (prefix_len (stays mark) xs) xs ≡ b ∷ drop 1 back = sym e ∙ f in
    let longer : length (drop (prefix_len (stays mark) xs) xs) ≡ suc (length (drop 1 back)) = ap length all in
    let left : length (drop (prefix_len (stays mark) xs) xs) ≡ length xs - prefix_len (stays mark) xs = length-drop (prefix_len (stays mark) xs) xs in
    let inside : prefix_len (stays mark) xs < length xs = omega arith in
    let first : get_or (drop (prefix_len (stays mark) xs) xs) 0 0 ≡ b = ap (λ l. get_or l 0 0) all in
    ap (stays mark) (sym first ∙ got (prefix_len (stays mark) xs) xs) ∙ prefix_len_stops (stays mark) xs 0 inside

-- behind a byte of ASCII a text may be cut
pub may_be_cut_behind : (text bytes : List ℕ) (b : ℕ) → bytes ≡ text → IsUtf8 bytes → 0 < length bytes → b ≡ get_or bytes 0 b → b < 128 → IsCharBoundary text 1
may_be_cut_behind text bytes b e utf8 lt is low =
    rw (← e) (IsCharBoundary-after_ascii bytes 0 utf8 lt (rw (ap (λ l. get_or l 0 0) (first_is bytes b lt is)) low))
