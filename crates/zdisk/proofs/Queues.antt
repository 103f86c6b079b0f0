-- The list of a queue, of which the first entries were hit.
use Rattle.std.proofs.Common.{◌≡◌, ℕ, zero, suc, ◌+◌, ◌<◌, ◌≤◌, List, [], ◌∷◌, length, drop, take, refl, ap, ◌∙◌, arith}
use Rattle.zdisk.specs.Arming.{last_seed}
use Rattle.std.specs.Prelude.{slice_index_or}
use Rattle.zbase.specs.declared.faults.Arm.{Arm}
use Rattle.zbase.specs.Faults.{calls_of_first}

-- an entry that waits is hit by the first call or a later one
pub first_some : (n : ℕ) (arms : List Arm) → ((k : ℕ) → (d : Arm) → k < length arms → 1 ≤ (slice_index_or arms k d).calls) → n < length arms → 1 ≤ calls_of_first (drop n arms)
first_some n [] all lt = absurd (omega (arith, lt))
first_some zero (x ∷ xs) all lt = all 0 x (omega arith)
first_some (suc n) (x ∷ xs) all lt = first_some n xs (λ k d l. all (suc k) d (omega (arith, l))) (omega (arith, lt))

-- the seed of the last that was hit
pub last_hit : (n : ℕ) (arms : List Arm) (d : Arm) → n < length arms → last_seed (take (suc n) arms) ≡ (slice_index_or arms n d).seed
last_hit n [] d lt = absurd (omega (arith, lt))
last_hit zero (x ∷ xs) d lt = refl
last_hit (suc n) (x ∷ []) d lt = absurd (omega (arith, lt))
last_hit (suc n) (x ∷ y ∷ xs) d lt = last_hit n (y ∷ xs) d (omega (arith, lt))

pub last_of_hits : (hits last : ℕ) (arms : List Arm) (d : Arm) → hits ≡ last + 1 → hits ≤ length arms → last_seed (take hits arms) ≡ (slice_index_or arms last d).seed
last_of_hits hits last arms d e le =
    let one : hits ≡ suc last = omega (arith, e) in
    ap (λ (k : ℕ). last_seed (take k arms)) one ∙ last_hit last arms d (omega (arith, e, le))

pub none_hit : (hits : ℕ) (arms : List Arm) → hits ≡ 0 → last_seed (take hits arms) ≡ 0
none_hit hits arms e = ap (λ (k : ℕ). last_seed (take k arms)) e ∙ none arms
  where
    none : (arms : List Arm) → last_seed (take 0 arms) ≡ 0
    none [] = refl
    none (x ∷ xs) = refl
