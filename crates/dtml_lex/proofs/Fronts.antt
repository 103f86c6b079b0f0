-- Fronts of texts: what is stripped, and runs of bytes.
use Rattle.std.proofs.Common.{◌≡◌, ℕ, ◌&&◌, Bool, true, false, cond, List, [], ◌∷◌, ◌++◌, length, take, drop, nat_eq, Option, Some, None, refl, sym, ap, ap₂, subst, ◌∙◌, arith}
use Rattle.std.specs.List.{starts_with, take_while, prefix_len, list_all}
use Rattle.std.specs.Str.{bytes_eq}
use Rattle.std.proofs.lemmas.List.{take-append-drop}
use Rattle.std.proofs.lemmas.List.Sums.{take_while-cons}
use Rattle.std.proofs.lemmas.Option.{cond_some}
use Rattle.std.proofs.lemmas.Bool.Decides.{nat_tests}
use Rattle.std.proofs.Math.Seq.{take-append_seam, drop-append_seam}
use Rattle.dtml_lex.specs.Spelling.{is_some_of}
use Rattle.dtml_lex.specs.Reading.{◌>>=◌, strip, begins}

-- ---- values that are there

pub bind_some : {A B : Type 0} (r : Option A) (f : A → Option B) (y : B) → (r >>= f) ≡ Some y → (x : A) × (r ≡ Some x) × (f x ≡ Some y)
bind_some (Some x) f y e = (x, refl, e)
bind_some None f y e = absurd cc

abbrev pub there : {A : Type 0} → A → Option A
there x = Some x

pub some_is : {A : Type 0} (x y : A) → there x ≡ there y → x ≡ y
some_is x y e = cc

abbrev pub two : {A B : Type 0} → A → B → Option (A × B)
two a b = Some (a, b)

pub pair_is : {A B : Type 0} (a c : A) (b d : B) → two a b ≡ two c d → (a ≡ c) × (b ≡ d)
pair_is {A} {B} a c b d e = let h = some_is {A = A × B} (a, b) (c, d) e in (ap (λ (p : A × B). p.0) h, ap (λ (p : A × B). p.1) h)

-- ---- fronts

pub both : (a b : Bool) → (a && b) ≡ true → (a ≡ true) × (b ≡ true)
both true b e = (refl, e)
both false b e = absurd cc

pub same_bytes : (xs ys : List ℕ) → bytes_eq xs ys ≡ true → xs ≡ ys
same_bytes [] [] e = refl
same_bytes [] (y ∷ ys) e = absurd cc
same_bytes (x ∷ xs) [] e = absurd cc
same_bytes (x ∷ xs) (y ∷ ys) e =
    let b = both (nat_eq x y) (bytes_eq xs ys) e in
    let h : x ≡ y = grind (arith, nat_tests) in
    ap₂ (λ (z : ℕ) (zs : List ℕ). z ∷ zs) h (same_bytes xs ys b.1)

pub bytes_same : (xs : List ℕ) → bytes_eq xs xs ≡ true
bytes_same [] = refl
bytes_same (x ∷ xs) =
    let h : nat_eq x x ≡ true = grind (arith, nat_tests) in
    rw (h, bytes_same xs) refl

pub stripped : (bs front rest : List ℕ) → strip bs front ≡ Some rest → bs ≡ front ++ rest
stripped bs front rest e =
    let h = cond_some (starts_with nat_eq bs front) (drop (length front) bs) rest e in
    let same : front ≡ take (length front) bs = same_bytes front (take (length front) bs) h.0 in
    sym (take-append-drop (length front) bs) ∙ ap₂ (λ (a b : List ℕ). a ++ b) (sym same) h.1

pub strips : (front rest : List ℕ) → strip (front ++ rest) front ≡ Some rest
strips front rest =
    let yes : starts_with nat_eq (front ++ rest) front ≡ true = rw (take-append_seam front rest) (bytes_same front) in
    rw (yes, drop-append_seam front rest) refl

-- ---- runs

pub run_all : (p : ℕ → Bool) (bs : List ℕ) → list_all p (take_while p bs) ≡ true
run_all p [] = refl
run_all p (b ∷ bs) = subst (λ (xs : List ℕ). list_all p xs ≡ true) (sym (take_while-cons p b bs)) ((elim (p b) as (λ t. p b ≡ t → list_all p (cond t (b ∷ take_while p bs) []) ≡ true) [
  | true ↦ λ e. rw (e, run_all p bs) refl
  | false ↦ λ e. refl
]) refl)

pub run_is : (p : ℕ → Bool) (bs front rest : List ℕ) → two (take_while p bs) (drop (prefix_len p bs) bs) ≡ two front rest → (bs ≡ front ++ rest) × (list_all p front ≡ true)
run_is p bs front rest e =
    let h = pair_is (take_while p bs) front (drop (prefix_len p bs) bs) rest e in
    (sym (take-append-drop (prefix_len p bs) bs) ∙ ap₂ (λ (a b : List ℕ). a ++ b) h.0 h.1, subst (λ (xs : List ℕ). list_all p xs ≡ true) h.0 (run_all p bs))

-- a run where there is some is not empty
pub begins_some : (p : ℕ → Bool) (bs : List ℕ) → begins p bs ≡ true → is_some_of p (take_while p bs) ≡ true
begins_some p [] e = absurd cc
begins_some p (b ∷ bs) e =
    let whole : take_while p (b ∷ bs) ≡ b ∷ take_while p bs = take_while-cons p b bs ∙ rw e refl in
    subst (λ (xs : List ℕ). is_some_of p xs ≡ true) (sym whole) (rw (e, run_all p bs) refl)

-- such bytes, and then another or the end, are the longest run and what follows it
pub run_ends : (p : ℕ → Bool) (front rest : List ℕ) → list_all p front ≡ true → begins p rest ≡ false → (prefix_len p (front ++ rest) ≡ length front)
run_ends p [] [] all other = refl
run_ends p [] (b ∷ bs) all other = rw other refl
run_ends p (b ∷ front) rest all other =
    let h = both (p b) (list_all p front) all in
    let more = run_ends p front rest h.1 other in
    rw h.0 (omega arith)

pub run_front : (p : ℕ → Bool) (front rest : List ℕ) → list_all p front ≡ true → begins p rest ≡ false → take_while p (front ++ rest) ≡ front
run_front p front rest all other = rw (run_ends p front rest all other) (take-append_seam front rest)

pub run_behind : (p : ℕ → Bool) (front rest : List ℕ) → list_all p front ≡ true → begins p rest ≡ false → drop (prefix_len p (front ++ rest)) (front ++ rest) ≡ rest
run_behind p front rest all other = rw (run_ends p front rest all other) (drop-append_seam front rest)
