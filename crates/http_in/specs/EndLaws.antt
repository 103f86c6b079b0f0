-- Laws of the ends of heads.
use Rattle.std.proofs.Common.{eq-eqb, zero, suc, slice_index, ◌<◌, if◌then◌else◌, ◌≡◌, ℕ, ◌+◌, ◌-◌, ◌≤◌, ◌≢◌, ◌==◌, Bool, true, false, List, [], ◌∷◌, ◌++◌, length, length-append, length-take-le, take, drop, take-append-drop, Option, Some, None, refl, ap, sym, ◌∙◌, subst, eqb-true, append_assoc, arith}
use Rattle.std.proofs.Math.Seq.{take-add}
use Rattle.std.proofs.lemmas.Bool.{ne_eqb, eqb-false}
use Rattle.http_in.specs.Ends.{head_end, empty_line, lf_behind, from, or_later}
use Rattle.http_in.specs.Inside.{IsPassed, IsStep, IsSearched, Came, Said, Passes}

pub from_from : (m n : ℕ) (o : Option ℕ) → from m (from n o) ≡ from (m + n) o
from_from m n None = refl
from_from m n (Some k) = ap (λ (x : ℕ). Some x) (omega arith)

pub from_zero : (o : Option ℕ) → from 0 o ≡ o
from_zero None = refl
from_zero (Some n) = ap (λ (x : ℕ). Some x) (omega arith)

-- nothing is passed
pub passes_none : IsPassed []
passes_none more = sym (from_zero (head_end more))

-- what is passed, and more that is passed
pub passes_both : (a b : List ℕ) → IsPassed a → IsPassed b → IsPassed (a ++ b)
passes_both a b first second more =
    ap head_end (append_assoc a b more) ∙ first (b ++ more) ∙ ap (from (length a)) (second more)
    ∙ from_from (length a) (length b) (head_end more) ∙ ap (λ n. from n (head_end more)) (sym (length-append a b))

-- ---- what the front of some bytes says

pub passes_other : (b : ℕ) (bytes : List ℕ) → b ≢ 10 → IsStep (b ∷ bytes) (Passes 1)
passes_other b bytes other = (omega arith, omega arith, λ more. rw (ne_eqb b 10 other) refl)

pub passes_line : (b : ℕ) (bytes : List ℕ) → b ≢ 10 → b ≢ 13 → IsStep (10 ∷ b ∷ bytes) (Passes 2)
passes_line b bytes other none = (omega arith, omega arith, λ more. rw (ne_eqb b 10 other, ne_eqb b 13 none) (from_from 1 1 (head_end more)))

pub passes_return : (b : ℕ) (bytes : List ℕ) → b ≢ 10 → IsStep (10 ∷ 13 ∷ b ∷ bytes) (Passes 3)
passes_return b bytes other = (omega arith, omega arith, λ more. rw (ne_eqb b 10 other) (ap (from 1) (from_from 1 1 (head_end more)) ∙ from_from 1 2 (head_end more)))

-- bytes without an LF are passed
pub passes_text : (bytes : List ℕ) (n : ℕ) → ((k : ℕ) → k < n → slice_index bytes k ≢ 10) → n ≤ length bytes → IsPassed (take n bytes)
passes_text bytes zero none within = passes_none
passes_text [] (suc n) none within = absurd (omega (arith, within))
passes_text (b ∷ bytes) (suc n) none within =
    passes_both (b ∷ []) (take n bytes) (passes_other b [] (none 0 (omega arith))).2
    (passes_text bytes n (λ k less. none (suc k) (omega (arith, less))) (omega (arith, within)))

-- ---- a search, step by step

pub searched_ends : (bytes : List ℕ) (at end : ℕ) → at ≤ length bytes → IsPassed (take at bytes) → IsStep (drop at bytes) (Said.Ends end) → IsSearched bytes (Came.Ends (at + end))
searched_ends bytes at end within passed found =
    ap head_end (sym (take-append-drop at bytes)) ∙ passed (drop at bytes) ∙ ap (λ n. from n (head_end (drop at bytes))) (length-take-le at bytes within) ∙ ap (from at) found.0

pub searched_goes : (bytes : List ℕ) (at : ℕ) → at ≤ length bytes → IsPassed (take at bytes) → head_end (drop at bytes) ≡ None → IsSearched bytes (Came.Goes at)
searched_goes bytes at within passed none = (
  ap head_end (sym (take-append-drop at bytes)) ∙ passed (drop at bytes) ∙ ap (from (length (take at bytes))) none,
  within,
  passed,
)

pub passed_on : (bytes : List ℕ) (at n : ℕ) → IsPassed (take at bytes) → IsPassed (take n (drop at bytes)) → IsPassed (take (at + n) bytes)
passed_on bytes at n first second = subst IsPassed (sym (take-add at n bytes)) (passes_both (take at bytes) (take n (drop at bytes)) first second)

-- what is passed of the bytes behind
pub line_passed : (bytes rest : List ℕ) (at n : ℕ) → rest ≡ drop at bytes → IsPassed (take at bytes) → IsPassed (take n rest) → IsPassed (take (at + n) bytes)
line_passed bytes rest at n is first second = passed_on bytes at n first (subst (λ (r : List ℕ). IsPassed (take n r)) is second)

-- what is said of some bytes is said of the same bytes
pub said_again : (s : Said) {bytes front : List ℕ} → bytes ≡ front → IsStep front s → IsStep bytes s
said_again s e said = subst (λ (b : List ℕ). IsStep b s) (sym e) said

-- ---- an end stands, whatever follows it

pub record IsEnd (bytes : List ℕ) (end : ℕ) : Type 0 where
  pub least : 2 ≤ end
  pub within : end ≤ length bytes
  pub again : (more : List ℕ) → head_end (take end bytes ++ more) ≡ Some end

from_some : (n e : ℕ) (o : Option ℕ) → from n o ≡ Some e → (k : ℕ) × (o ≡ Some k) × (e ≡ n + k)
from_some n e None none = cc
from_some n e (Some k) is = (k, refl, cc)

same_line : (bytes more : List ℕ) (k : ℕ) → suc (suc k) ≤ length bytes → empty_line (take (suc (suc k)) bytes ++ more) ≡ empty_line bytes
same_line [] more k within = absurd (omega arith)
same_line (b ∷ []) more k within = absurd (omega arith)
same_line (b ∷ c ∷ bytes) more k within = refl

end_later : (b : ℕ) (bytes : List ℕ) (k : ℕ) → IsEnd bytes k → (b ≡ 10 → empty_line bytes ≡ None) → IsEnd (b ∷ bytes) (suc k)
end_later b bytes k found line = record {
  least = omega (arith, found.least);
  within = omega (arith, found.within);
  again = λ more. go (b == 10) refl more;
}
  where
    rest_again : (more : List ℕ) → from 1 (head_end (take k bytes ++ more)) ≡ Some (suc k)
    rest_again more = ap (from 1) (found.again more) ∙ ap (λ (x : ℕ). Some x) (omega arith)

    same : (more : List ℕ) → empty_line (take k bytes ++ more) ≡ empty_line bytes
    same more =
        let two : suc (suc (k - 2)) ≡ k = omega (arith, found.least) in
        let far : suc (suc (k - 2)) ≤ length bytes = omega (arith, found.least, found.within) in
        subst (λ n. empty_line (take n bytes ++ more) ≡ empty_line bytes) two (same_line bytes more (k - 2) far)

    go : (t : Bool) → (b == 10) ≡ t → (more : List ℕ) → head_end (b ∷ (take k bytes ++ more)) ≡ Some (suc k)
    go true is more = rw (is, same more, line (eqb-true b 10 is)) (rest_again more)
    go false is more = rw is (rest_again more)

-- an empty line stands, whatever follows it
pub record IsLine (bytes : List ℕ) (empty : ℕ) : Type 0 where
  pub least : 1 ≤ empty
  pub within : empty ≤ length bytes
  pub again : (more : List ℕ) → empty_line (take empty bytes ++ more) ≡ Some empty

at_one : (b : ℕ) (bytes : List ℕ) → b ≡ 10 → IsLine (b ∷ bytes) 1
at_one b bytes is = record { least = omega arith; within = omega arith; again = λ more. rw (eq-eqb b 10 is) refl }

at_two : (b c : ℕ) (bytes : List ℕ) → (b == 10) ≡ false → (b == 13) ≡ true → c ≡ 10 → IsLine (b ∷ c ∷ bytes) 2
at_two b c bytes other cr is = record { least = omega arith; within = omega arith; again = λ more. rw (other, cr, eq-eqb c 10 is) refl }

behind_cr : (b : ℕ) (bytes : List ℕ) (empty : ℕ) → (b == 10) ≡ false → (b == 13) ≡ true → lf_behind bytes ≡ Some empty → IsLine (b ∷ bytes) empty
behind_cr b [] empty other cr is = cc
behind_cr b (c ∷ bytes) empty other cr is = go (c == 10) refl is
  where
    go : (t : Bool) → (c == 10) ≡ t → (if t then Some 2 else None) ≡ Some empty → IsLine (b ∷ c ∷ bytes) empty
    go true t e = let two : 2 ≡ empty = cc in subst (IsLine (b ∷ c ∷ bytes)) two (at_two b c bytes other cr (eqb-true c 10 t))
    go false t e = cc

line_stands : (bytes : List ℕ) (empty : ℕ) → empty_line bytes ≡ Some empty → IsLine bytes empty
line_stands [] empty is = cc
line_stands (b ∷ bytes) empty is = go (b == 10) refl is
  where
    second : (t : Bool) → (b == 10) ≡ false → (b == 13) ≡ t → (if t then lf_behind bytes else None) ≡ Some empty → IsLine (b ∷ bytes) empty
    second true other t e = behind_cr b bytes empty other t e
    second false other t e = cc

    go : (t : Bool) → (b == 10) ≡ t → (if t then Some 1 else if b == 13 then lf_behind bytes else None) ≡ Some empty → IsLine (b ∷ bytes) empty
    go true t e = let one : 1 ≡ empty = cc in subst (IsLine (b ∷ bytes)) one (at_one b bytes (eqb-true b 10 t))
    go false t e = second (b == 13) t refl e

end_here : (b : ℕ) (bytes : List ℕ) (empty : ℕ) → b ≡ 10 → IsLine bytes empty → IsEnd (b ∷ bytes) (suc empty)
end_here b bytes empty lf line = record {
  least = omega (arith, line.least);
  within = omega (arith, line.within);
  again = λ more. rw (eq-eqb b 10 lf, line.again more) (ap (λ (x : ℕ). Some x) (omega arith));
}

at_either : (b : ℕ) (bytes : List ℕ) (end : ℕ) → ((k : ℕ) → head_end bytes ≡ Some k → IsEnd bytes k) → head_end (b ∷ bytes) ≡ Some end → IsEnd (b ∷ bytes) end
at_either b bytes end deeper is = go (b == 10) refl is
  where
    later : from 1 (head_end bytes) ≡ Some end → (b ≡ 10 → empty_line bytes ≡ None) → IsEnd (b ∷ bytes) end
    later e line =
        let x = from_some 1 end (head_end bytes) e in
        let one : suc x.0 ≡ end = omega (arith, x.2) in
        subst (IsEnd (b ∷ bytes)) one (end_later b bytes x.0 (deeper x.0 x.1) line)

    at_line : (o : Option ℕ) → b ≡ 10 → empty_line bytes ≡ o → or_later o (from 1 (head_end bytes)) ≡ Some end → IsEnd (b ∷ bytes) end
    at_line None lf line e = later e (λ _. line)
    at_line (Some empty) lf line e =
        let same : 1 + empty ≡ end = cc in
        let one : suc empty ≡ end = omega (arith, same) in
        subst (IsEnd (b ∷ bytes)) one (end_here b bytes empty lf (line_stands bytes empty line))

    go : (t : Bool) → (b == 10) ≡ t → (if t then or_later (empty_line bytes) (from 1 (head_end bytes)) else from 1 (head_end bytes)) ≡ Some end → IsEnd (b ∷ bytes) end
    go true t e = at_line (empty_line bytes) (eqb-true b 10 t) refl e
    go false t e = later e (λ lf. absurd (eqb-false b 10 t lf))

pub end_stands : (bytes : List ℕ) (end : ℕ) → head_end bytes ≡ Some end → IsEnd bytes end
end_stands [] end is = cc
end_stands (b ∷ bytes) end is = at_either b bytes end (λ k e. end_stands bytes k e) is

pub end_goes_on : (bytes more : List ℕ) (end : ℕ) → head_end bytes ≡ Some end → head_end (bytes ++ more) ≡ Some end
end_goes_on bytes more end is =
    let e = end_stands bytes end is in
    ap head_end (ap (λ f. f ++ more) (sym (take-append-drop end bytes)) ∙ append_assoc (take end bytes) (drop end bytes) more) ∙ e.again (drop end bytes ++ more)

pub end_in_front : (bytes : List ℕ) (end k : ℕ) → head_end bytes ≡ Some end → end ≤ k → head_end (take k bytes) ≡ Some end
end_in_front bytes end k is within =
    let e = end_stands bytes end is in
    let sum : end + (k - end) ≡ k = omega (arith, within) in
    ap head_end (ap (λ n. take n bytes) (sym sum) ∙ take-add end (k - end) bytes) ∙ e.again (take (k - end) (drop end bytes))
