-- One place more that is filled, and the choice of a seed.
use Rattle.std.proofs.Common.{◌≡◌, ◌≢◌, ◌==◌, ℕ, ◌+◌, ◌-◌, ◌<◌, ◌≤◌, not, Bool, true, false, List, length, get_or, set, refl, sym, ap, ◌∙◌, arith, inl, inr, eq-eqb, ne_eqb}
use Rattle.std.proofs.lemmas.List.{length-set, get_or-set_same, get_or-set_other}
use Rattle.std.proofs.lemmas.Bool.{cases_eq}
use Rattle.zdisk.specs.Filling.{IsFilled}
use Rattle.zdisk.specs.Seeds.{takes_new, top_bit}

pub takes_one : (seed place : ℕ) → seed ≡ 1 → true ≡ takes_new seed place
unfolding takes_new
takes_one seed place e = rw (eq-eqb seed 1 e) refl

pub takes_none : (seed place : ℕ) → seed ≢ 1 → seed ≡ 0 → false ≡ takes_new seed place
unfolding takes_new
takes_none seed place ne e = rw (ne_eqb seed 1 ne, eq-eqb seed 0 e) refl

pub takes_some : (seed place : ℕ) → seed ≢ 1 → seed ≢ 0 → (top_bit seed place == 1) ≡ takes_new seed place
unfolding takes_new
takes_some seed place ne nz = rw (ne_eqb seed 1 ne, ne_eqb seed 0 nz) refl

pub eqb_one : (seed : ℕ) → seed ≡ 1 → (seed == 1) ≡ true
eqb_one seed e = eq-eqb seed 1 e

pub not_zero : (seed : ℕ) → seed ≡ 0 → not (seed == 0) ≡ false
not_zero seed e = rw (eq-eqb seed 0 e) refl

pub filled_none : (seed : ℕ) (new : Bool) (from : ℕ) (piece bytes : List ℕ) → IsFilled seed new from from piece bytes bytes
filled_none seed new from piece bytes = record { long = refl; other = λ i no. refl; below = λ i lt. refl; past = λ i le. refl; filled = λ i takes ge lt. absurd (omega arith) }

pub filled_here : (seed : ℕ) (new : Bool) (from place byte : ℕ) (piece before now : List ℕ) → from ≤ place → place < length now → takes_new seed place ≡ new → byte ≡ get_or piece (place - from) 0 → IsFilled seed new from place piece before now → IsFilled seed new from (place + 1) piece before (set now place byte)
filled_here seed new from place byte piece before now ge lt takes is f = record {
  long = length-set now place byte ∙ f.long;
  other = λ i no. get_or-set_other now place i byte 0 (λ e. no (ap (takes_new seed) e ∙ takes)) ∙ f.other i no;
  below = λ i l. get_or-set_other now place i byte 0 (λ e. omega (arith, e, l, ge)) ∙ f.below i l;
  past = λ i l. get_or-set_other now place i byte 0 (λ e. omega (arith, e, l)) ∙ f.past i (omega arith);
  filled = λ i t l r. elim (cases_eq i place) [
    | inl same ↦ ap (λ (k : ℕ). get_or (set now place byte) k 0) same ∙ get_or-set_same now place byte 0 lt ∙ is ∙ ap (λ (k : ℕ). get_or piece (k - from) 0) (sym same)
    | inr ne ↦ get_or-set_other now place i byte 0 ne ∙ f.filled i t l (omega (arith, r, ne))
  ];
}

pub filled_past : (seed : ℕ) (new : Bool) (from place : ℕ) (piece before now : List ℕ) → (takes_new seed place ≡ new → ⊥) → IsFilled seed new from place piece before now → IsFilled seed new from (place + 1) piece before now
filled_past seed new from place piece before now takes f = record {
  long = f.long;
  other = f.other;
  below = f.below;
  past = λ i l. f.past i (omega arith);
  filled = λ i t l r. elim (cases_eq i place) [
    | inl same ↦ absurd (takes (ap (takes_new seed) (sym same) ∙ t))
    | inr ne ↦ f.filled i t l (omega (arith, r, ne))
  ];
}
