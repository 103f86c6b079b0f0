-- A name that ends with a suffix, or doesn't.
use Rattle.std.proofs.Common.{ℕ, ◌≡◌, ◌-◌, Bool, true, false, List, ◌++◌, length, drop, refl, sym, ap, ◌∙◌}
use Rattle.std.specs.Str.{bytes_eq}
use Rattle.std.proofs.Math.Seq.{drop-append_seam}
use Rattle.std.proofs.Math.Nat.{add-sub_cancel}
use Rattle.std.proofs.lemmas.List.{append_cancel_right, length-append}
use Rattle.std.proofs.lemmas.Slice.Eq.{bytes_eq-Decides}

same_truth : (a b : Bool) → (a ≡ true → b ≡ true) → (b ≡ true → a ≡ true) → a ≡ b
same_truth true b to from = sym (to refl)
same_truth false true to from = from refl
same_truth false false to from = refl

-- a name with the suffix is told by what stands before it
pub with_suffix : (before suffix repo file : List ℕ) → before ++ suffix ≡ file → bytes_eq before repo ≡ bytes_eq file (repo ++ suffix)
with_suffix before suffix repo file is = same_truth (bytes_eq before repo) (bytes_eq file (repo ++ suffix))
    (λ same. (bytes_eq-Decides file (repo ++ suffix)).1 (sym is ∙ ap (λ (b : List ℕ). b ++ suffix) ((bytes_eq-Decides before repo).0 same)))
    (λ same. (bytes_eq-Decides before repo).1 (append_cancel_right before repo suffix (is ∙ (bytes_eq-Decides file (repo ++ suffix)).0 same)))

at_end : (suffix repo : List ℕ) → drop (length (repo ++ suffix) - length suffix) (repo ++ suffix) ≡ suffix
at_end suffix repo =
    let place : length (repo ++ suffix) - length suffix ≡ length repo = ap (λ (n : ℕ). n - length suffix) (length-append repo suffix) ∙ add-sub_cancel (length repo) (length suffix) in
    ap (λ (n : ℕ). drop n (repo ++ suffix)) place ∙ drop-append_seam repo suffix

-- and a name without it is none of them
pub without_suffix : (suffix repo file : List ℕ) → bytes_eq (drop (length file - length suffix) file) suffix ≡ false → false ≡ bytes_eq file (repo ++ suffix)
without_suffix suffix repo file none = go (bytes_eq file (repo ++ suffix)) refl
  where
    go : (b : Bool) → bytes_eq file (repo ++ suffix) ≡ b → false ≡ b
    go false e = refl
    go true e =
        let is = (bytes_eq-Decides file (repo ++ suffix)).0 e in
        let ends : drop (length file - length suffix) file ≡ suffix = ap (λ (f : List ℕ). drop (length f - length suffix) f) is ∙ at_end suffix repo in
        sym none ∙ (bytes_eq-Decides (drop (length file - length suffix) file) suffix).1 ends
