-- Reading attributes one behind another, as a loop does.
use Rattle.std.proofs.Common.{◌≡◌, ℕ, zero, suc, ◌-◌, ◌≤◌, ◌<◌, List, [], ◌∷◌, ◌++◌, length, Some, None, refl, sym, ap, ◌∙◌, append_assoc, arith}
use Rattle.dtml_lex.specs.declared.part.Attribute.{Attribute}
use Rattle.dtml_lex.specs.Reading.{◌>>=◌, Reads, with_first, attributes_from, next_attribute, tag_end, attributes_at}

abbrev pub with_front : List Attribute → Reads (List Attribute) → Reads (List Attribute)
with_front front read = read >>= λ x. Some (front ++ x.0, x.1)

front_none : (read : Reads (List Attribute)) → with_front [] read ≡ read
front_none None = refl
front_none (Some x) = refl

regroup : (front : List Attribute) (a : Attribute) (read : Reads (List Attribute)) → with_front front (with_first a read) ≡ with_front (front ++ a ∷ []) read
regroup front a None = refl
regroup front a (Some x) = ap (λ (t : List Attribute). Some (t, x.1)) (sym (append_assoc front (a ∷ []) x.0))

append_nil : (xs : List Attribute) → xs ++ [] ≡ xs
append_nil [] = refl
append_nil (x ∷ xs) = ap (λ (t : List Attribute). x ∷ t) (append_nil xs)

-- front and then what is read of the rest is what is read of all
abbrev pub Reading : List ℕ → List Attribute → List ℕ → Type 0
Reading bytes front rest = (fuel : ℕ) → length bytes ≤ fuel → (k : ℕ) × (length rest ≤ k) × (with_front front (attributes_at k rest) ≡ attributes_at fuel bytes)

pub starts : (bytes : List ℕ) → Reading bytes [] bytes
starts bytes fuel le = (fuel, le, front_none (attributes_at fuel bytes))

step : (k : ℕ) (rest : List ℕ) → 0 < k → attributes_at k rest ≡ attributes_from (attributes_at (k - 1)) rest (tag_end rest)
unfolding attributes_at
step zero rest some = absurd (omega arith)
step (suc k) rest some = let e : suc k - 1 ≡ k = omega arith in rw e refl

no_fuel : (rest : List ℕ) → attributes_at 0 rest ≡ None
unfolding attributes_at
no_fuel rest = refl

module _ (bytes : List ℕ) (front : List Attribute) (rest : List ℕ) (so_far : Reading bytes front rest) where
  pub ends : (after : List ℕ) (fuel : ℕ) → length bytes ≤ fuel → length after < length rest → tag_end rest ≡ Some after → attributes_at fuel bytes ≡ Some (front, after)
  ends after fuel le shorter end =
      let r = so_far fuel le in
      let now : attributes_at r.0 rest ≡ Some ([], after) = step r.0 rest (omega arith) ∙ rw end refl in
      sym r.2 ∙ (ap (with_front front) now ∙ ap (λ (t : List Attribute). Some (t, after)) (append_nil front))

  pub fails : (fuel : ℕ) → length bytes ≤ fuel → tag_end rest ≡ None → next_attribute rest ≡ None → attributes_at fuel bytes ≡ None
  fails fuel le end next =
      let r = so_far fuel le in
      let now : attributes_at r.0 rest ≡ None = fails_with r.0 end next in
      sym r.2 ∙ ap (with_front front) now
    where
      fails_with : (k : ℕ) → tag_end rest ≡ None → next_attribute rest ≡ None → attributes_at k rest ≡ None
      fails_with zero end next = no_fuel rest
      fails_with (suc k) end next = step (suc k) rest (omega arith) ∙ rw (end, next) refl

  pub goes_on : (a : Attribute) (next : List ℕ) → length next < length rest → tag_end rest ≡ None → next_attribute rest ≡ Some (a, next) → Reading bytes (front ++ a ∷ []) next
  goes_on a next shorter end is fuel le =
      let r = so_far fuel le in
      let now : attributes_at r.0 rest ≡ with_first a (attributes_at (r.0 - 1) next) = step r.0 rest (omega arith) ∙ rw (end, is) refl in
      (r.0 - 1, omega arith, sym (regroup front a (attributes_at (r.0 - 1) next)) ∙ (ap (with_front front) (sym now) ∙ r.2))
