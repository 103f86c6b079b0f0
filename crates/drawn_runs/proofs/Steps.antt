-- One drawing more, and one list more.
use Rattle.std.proofs.Common.{◌≡◌, ℕ, zero, suc, ◌+◌, ◌*◌, ◌/◌, ◌%◌, ◌^◌, List, [], ◌++◌, refl, sym, ap, ◌∙◌, add-one, append-nil, append_assoc, arith}
use Rattle.std.proofs.Math.Nat.{mod-add-div, add-mul-mod_self_left}
use Rattle.drawn_runs.specs.Drawing.{after, draw, reached}
use Rattle.drawn_runs.specs.Rounds.{in_order}

-- the rest of a sum is that of a rest and the other
rest_first : (a b m : ℕ) → (a % m + b) % m ≡ (a + b) % m
rest_first a b m =
    let whole : a + b ≡ (a % m + b) + m * (a / m) = omega (arith, mod-add-div a m) in
    rw whole (sym (add-mul-mod_self_left (a % m + b) m (a / m)))

pub after_is : (n : ℕ) → (n * 6364136223846793005 % 18446744073709551616 + 1442695040888963407) % 18446744073709551616 ≡ after n
after_is n = rest_first (n * 6364136223846793005) 1442695040888963407 18446744073709551616

pub reached_none : (n : ℕ) → reached n 0 ≡ n
unfolding reached
reached_none n = refl

pub reached_once : (n : ℕ) → reached n 1 ≡ after n
unfolding reached
reached_once n = refl

pub reached_more : (n k : ℕ) → reached (reached n k) 1 ≡ reached n (k + 1)
unfolding reached
reached_more n k = rw add-one refl

pub draw_from : (n k : ℕ) → draw (reached n k) 0 ≡ draw n k
draw_from n k = ap (λ m. m / 2 ^ 33) (reached_more n k)

pub reached_together : (n j k : ℕ) → reached (reached n j) k ≡ reached n (j + k)
unfolding reached
reached_together n j zero = ap (λ (m : ℕ). reached n m) (let e : j ≡ j + 0 = omega arith in e)
reached_together n j (suc k) = ap after (reached_together n j k) ∙ ap (λ (m : ℕ). reached n m) (let e : suc (j + k) ≡ j + suc k = omega arith in e)

pub in_order_none : {A : Type 0} (list : ℕ → List A) → in_order 0 list ≡ []
unfolding in_order
in_order_none list = refl

pub in_order_more : {A : Type 0} (n : ℕ) (list : ℕ → List A) → in_order (n + 1) list ≡ in_order n list ++ list n
unfolding in_order
in_order_more n list = rw add-one refl

pub nothing_yet : {A : Type 0} (xs : List A) (list : ℕ → List A) → xs ≡ xs ++ in_order 0 list
unfolding in_order
nothing_yet xs list = sym (append-nil xs)

pub one_list_more : {A : Type 0} (n : ℕ) (xs ys zs : List A) (list : ℕ → List A) → ys ≡ xs ++ in_order n list → zs ≡ ys ++ list n → zs ≡ xs ++ in_order (n + 1) list
one_list_more n xs ys zs list p q = rw (in_order_more n list) (q ∙ ap (λ front. front ++ list n) p ∙ append_assoc xs (in_order n list) (list n))
