-- What holds of the length and of each byte of every content holds of every image, also after a call that failed.
use Rattle.std.proofs.Common.{ℕ, ◌≤◌, List, [], ◌∷◌, length, get_or, sym, subst, arith, inl, inr}
use Rattle.std.specs.List.{AllByRecursion}
use Rattle.std.proofs.lemmas.List.{get_or_past}
use Rattle.std.proofs.lemmas.Bool.{cases_lt}
use Rattle.zdisk.specs.Disk.{Held}
use Rattle.zdisk.specs.Images.{contents, HasLength, HasByte, IsImage}
use Rattle.zdisk.specs.Calls.{Mixed, AnyImage}

-- a property of lengths and one of bytes by their places; past the end a byte counts as 0
pub record Shape (Long : ℕ → Type 0) (Each : ℕ → ℕ → Type 0) (c : List ℕ) : Type 0 where
  pub long : Long (length c)
  pub each : (i : ℕ) → Each i (get_or c i 0)

long_of_one : (Long : ℕ → Type 0) (Each : ℕ → ℕ → Type 0) (cs : List (List ℕ)) (n : ℕ) → AllByRecursion (Shape Long Each) cs → HasLength cs n → Long n × ((i : ℕ) → n ≤ i → Each i 0)
long_of_one Long Each [] n all has = absurd has
long_of_one Long Each (c ∷ cs) n all (inl e) =
    (subst Long (sym e) all.0.long, λ i le. subst (Each i) (get_or_past c i 0 (omega (arith, e, le))) (all.0.each i))
long_of_one Long Each (c ∷ cs) n all (inr has) = long_of_one Long Each cs n all.1 has

byte_of_one : (Long : ℕ → Type 0) (Each : ℕ → ℕ → Type 0) (cs : List (List ℕ)) (i byte : ℕ) → AllByRecursion (Shape Long Each) cs → HasByte cs i byte → Each i byte
byte_of_one Long Each [] i byte all has = absurd has
byte_of_one Long Each (c ∷ cs) i byte all (inl e) = subst (Each i) (sym e) (all.0.each i)
byte_of_one Long Each (c ∷ cs) i byte all (inr has) = byte_of_one Long Each cs i byte all.1 has

pub shape_of_image : (Long : ℕ → Type 0) (Each : ℕ → ℕ → Type 0) (held : Held) (c : List ℕ) → AllByRecursion (Shape Long Each) (contents held) → IsImage held c → Shape Long Each c
shape_of_image Long Each held c all image =
    let l = long_of_one Long Each (contents held) (length c) all image.long in
    record {
      long = l.0;
      each = λ i. elim (cases_lt i (length c)) [
        | inl lt ↦ byte_of_one Long Each (contents held) i (get_or c i 0) all (image.each i lt)
        | inr le ↦ subst (Each i) (sym (get_or_past c i 0 le)) (l.1 i le)
      ];
    }

-- after a write or a cut that failed every content still has it
pub shape_of_mixed : (Long : ℕ → Type 0) (Each : ℕ → ℕ → Type 0) (held next : Held) (new : List ℕ) → AllByRecursion (Shape Long Each) (contents held) → Shape Long Each new → Mixed held new next → AllByRecursion (Shape Long Each) (contents next)
shape_of_mixed Long Each held next new all one m =
    subst (λ (h : Held). AllByRecursion (Shape Long Each) (contents h)) (sym m.is)
    (shape_of_image Long Each (record { now = new; before = held.now ∷ [] }) m.bytes (one, (all.0, tt)) m.mixture, all)

-- after a sync that failed too
pub shape_of_any : (Long : ℕ → Type 0) (Each : ℕ → ℕ → Type 0) (held next : Held) → AllByRecursion (Shape Long Each) (contents held) → AnyImage held next → AllByRecursion (Shape Long Each) (contents next)
shape_of_any Long Each held next all a =
    subst (λ (h : Held). AllByRecursion (Shape Long Each) (contents h)) (sym a.is) (shape_of_image Long Each held a.bytes all a.image, all)
