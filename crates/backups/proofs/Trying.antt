-- Names that are tried one after the other.
use Rattle.std.proofs.Common.{◌≡◌, ◌<◌, ◌≤◌, ◌+◌, ℕ, Bool, true, false, List, Option, None, Some, IfSome, nat_lt, refl, subst, arith}
use Rattle.std.proofs.lemmas.Bool.{ltb-true, ltb-false}
use Rattle.zio.specs.Shelves.{Entry, file_at}
use Rattle.backups.specs.Names.{numbered}

-- each of the names with so many numbers has a file
abbrev pub Taken : List Entry → List ℕ → ℕ → Type 0
Taken all base n = (m : ℕ) → m < n → file_at all (numbered base m) ≡ None → ⊥

-- and so has one more
pub taken_more : (was now : Option (List Entry)) (base name : List ℕ) (n : ℕ) → now ≡ was → name ≡ numbered base n → IfSome was (λ all. Taken all base n) → IfSome now (λ all. file_at all name ≡ None → ⊥)
    → IfSome was (λ all. Taken all base (n + 1))
taken_more None now base name n same named before here = tt
taken_more (Some all) now base name n same named before here = λ m lt none. go m lt none (nat_lt m n) refl
  where
    last : file_at all (numbered base n) ≡ None → ⊥
    last = subst (λ (x : List ℕ). file_at all x ≡ None → ⊥) named (subst (λ (o : Option (List Entry)). IfSome o (λ xs. file_at xs name ≡ None → ⊥)) same here)

    go : (m : ℕ) → m < n + 1 → file_at all (numbered base m) ≡ None → (b : Bool) → nat_lt m n ≡ b → ⊥
    go m lt none true e = before m (ltb-true m n e) none
    go m lt none false e =
        let le : n ≤ m = ltb-false m n e in
        let is : m ≡ n = omega (arith, lt, le) in
        last (subst (λ (k : ℕ). file_at all (numbered base k) ≡ None) is none)
