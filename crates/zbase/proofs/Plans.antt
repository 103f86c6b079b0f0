-- One call more of a plan of faults.
use Rattle.std.proofs.Common.{◌≡◌, ℕ, ◌+◌, ◌<◌, ◌==◌, ◌&&◌, ◌||◌, Bool, true, false, List, [], ◌∷◌, min, refl, arith, nat_le}
use Rattle.std.specs.List.{list_all, list_any}
use Rattle.std.proofs.lemmas.Bool.Decides.{nat_tests}
use Rattle.zbase.specs.Faults.{Counter, Counts, no_arms, hits_none, spends_none}
use Rattle.zbase.specs.Limits.{greatest_number}

-- the count that contracts see
abbrev pub planned : List ℕ → ℕ → ℕ → Counter
planned failing calls count = record { count = count; sound = list_all (λ n. nat_le n calls) failing; calls = calls; arms = no_arms }

-- where all numbers are behind, the next isn't among them
none_left : (failing : List ℕ) (calls number : ℕ) → number ≡ calls + 1 → list_all (λ n. nat_le n calls) failing ≡ true → list_any (λ n. n == number) failing ≡ true → ⊥
none_left [] calls number is all any = cc
none_left (n ∷ ns) calls number is all any = go (nat_le n calls) refl (n == number) refl all any (none_left ns calls number is)
  where
    go : (a : Bool) → nat_le n calls ≡ a → (b : Bool) → (n == number) ≡ b → (a && list_all (λ k. nat_le k calls) ns) ≡ true → (b || list_any (λ k. k == number) ns) ≡ true
        → (list_all (λ k. nat_le k calls) ns ≡ true → list_any (λ k. k == number) ns ≡ true → ⊥) → ⊥
    go true below true same all any deeper = grind (arith, nat_tests, below, same, is)
    go true below false other all any deeper = deeper all any
    go false above b same all any deeper = cc

still_behind : (failing : List ℕ) (calls number : ℕ) → number ≡ calls + 1 → list_all (λ n. nat_le n calls) failing ≡ true → list_all (λ n. nat_le n number) failing ≡ true
still_behind [] calls number is all = refl
still_behind (n ∷ ns) calls number is all = go (nat_le n calls) refl (nat_le n number) refl all (still_behind ns calls number is)
  where
    go : (a : Bool) → nat_le n calls ≡ a → (b : Bool) → nat_le n number ≡ b → (a && list_all (λ k. nat_le k calls) ns) ≡ true
        → (list_all (λ k. nat_le k calls) ns ≡ true → list_all (λ k. nat_le k number) ns ≡ true) → (b && list_all (λ k. nat_le k number) ns) ≡ true
    go true below true again all deeper = deeper all
    go true below false past all deeper = absurd (grind (arith, nat_tests, below, past, is))
    go false above b now all deeper = cc

pub call_fails : (failing : List ℕ) (calls number count raised : ℕ) → count < 18446744073709551616 → number ≡ calls + 1 → list_any (λ n. n == number) failing ≡ true → raised ≡ min (count + 1) greatest_number → Counts (planned failing calls count) (planned failing number raised) (true ≡ true)
call_fails failing calls number count raised small is any up = record {
  later = omega (arith, up, small);
  told = λ _. refl;
  cause = λ _. omega (arith, up);
  calm = λ calm. absurd (none_left failing calls number is calm.sound any);
  calls = omega (arith, is);
  arms = record { spends = λ no. spends_none no_arms; first = λ f. refl };
}

pub call_passes : (failing : List ℕ) (calls number count : ℕ) → number ≡ calls + 1 → Counts (planned failing calls count) (planned failing number count) (false ≡ true)
call_passes failing calls number count is = record {
  later = omega arith;
  told = λ h. absurd (omega arith);
  cause = λ e. absurd cc;
  calm = λ calm. (record { sound = still_behind failing calls number is calm.sound; below = calm.below }, refl);
  calls = omega (arith, is);
  arms = hits_none no_arms (false ≡ true) (λ e. absurd cc);
}
