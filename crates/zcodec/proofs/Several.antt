-- Fields of several parts.
use Rattle.std.proofs.Common.{◌≡◌, ℕ, List, ◌++◌, Ok, sym, ap, subst, ◌∙◌, append_assoc}
use Rattle.zcodec.specs.Reading.{◌>>=◌, Reads}
use Rattle.zcodec.proofs.Exact.{IsExact, Takes, got, gives, ok_is}

-- the same rule and spelling in other words
pub as_exact : {X : Type 0} (P Q : X → Type 0) (s : X → List ℕ) (reads : List ℕ → Reads X) → ((x : X) → P x → Q x) → ((x : X) → Q x → P x) → IsExact P s reads → IsExact Q s reads
as_exact P Q s reads on from exact = record {
  takes = λ bytes x rest fits e. let t = exact.takes bytes x rest fits e in record { parts = t.parts; right = on x t.right; fits = t.fits };
  again = λ x rest right. exact.again x rest (from x right);
}

module _ {X Z : Type 0} (P : X → Type 0) (s : X → List ℕ) (first : List ℕ → Reads X) (R : Z → Type 0) (u : Z → List ℕ) (make : X → Z) (one : Z → X)
    (exact : IsExact P s first)
    (on : (x : X) → P x → R (make x) × (u (make x) ≡ s x))
    (from : (z : Z) → R z → P (one z) × (make (one z) ≡ z)) where
  pub one_exact : IsExact R u (λ bytes. first bytes >>= λ x. Ok (make x.0, x.1))
  one_exact = record {
    takes = λ bytes z rest fits e.
        let a = got P s first (λ x. Ok (make x.0, x.1)) bytes (z, rest) exact fits e in
        let right = on a.value a.took.right in
        subst (λ (w : Z × List ℕ). Takes R u bytes w.0 w.1) (ok_is (make a.value, a.rest) (z, rest) a.goes) (record {
          parts = a.took.parts ∙ ap (λ r. r ++ a.rest) (sym right.1);
          right = right.0;
          fits = a.took.fits;
        });
    again = λ z rest right.
        let b = from z right in
        let x = one z in
        let spelling : u z ≡ s x = ap u (sym b.1) ∙ (on x b.0).1 in
        ap (λ r. first (r ++ rest) >>= λ x. Ok (make x.0, x.1)) spelling
        ∙ gives P s first (λ x. Ok (make x.0, x.1)) x rest exact b.0
        ∙ ap (λ w. Ok (w, rest)) b.1;
  }

module _ {X Y Z : Type 0} (P : X → Type 0) (Q : X → Y → Type 0) (s : X → List ℕ) (t : X → Y → List ℕ) (first : List ℕ → Reads X) (second : X → List ℕ → Reads Y)
    (R : Z → Type 0) (u : Z → List ℕ) (make : X → Y → Z) (one : Z → X) (other : Z → Y)
    (exact : IsExact P s first) (exact2 : (x : X) → P x → IsExact (Q x) (t x) (second x))
    (on : (x : X) (y : Y) → P x → Q x y → R (make x y) × (u (make x y) ≡ s x ++ t x y))
    (from : (z : Z) → R z → P (one z) × Q (one z) (other z) × (make (one z) (other z) ≡ z)) where
  pub two_exact : IsExact R u (λ bytes. first bytes >>= λ x. second x.0 x.1 >>= λ y. Ok (make x.0 y.0, y.1))
  two_exact = record {
    takes = λ bytes z rest fits e.
        let a = got P s first (λ x. second x.0 x.1 >>= λ y. Ok (make x.0 y.0, y.1)) bytes (z, rest) exact fits e in
        let b = got (Q a.value) (t a.value) (second a.value) (λ y. Ok (make a.value y.0, y.1)) a.rest (z, rest) (exact2 a.value a.took.right) a.took.fits a.goes in
        let right = on a.value b.value a.took.right b.took.right in
        subst (λ (w : Z × List ℕ). Takes R u bytes w.0 w.1) (ok_is (make a.value b.value, b.rest) (z, rest) b.goes) (record {
          parts = a.took.parts ∙ ap (λ r. s a.value ++ r) b.took.parts ∙ sym (append_assoc (s a.value) (t a.value b.value) b.rest) ∙ ap (λ r. r ++ b.rest) (sym right.1);
          right = right.0;
          fits = b.took.fits;
        });
    again = λ z rest right.
        let b = from z right in
        let x = one z in
        let y = other z in
        let spelling : u z ++ rest ≡ s x ++ (t x y ++ rest) = ap (λ w. u w ++ rest) (sym b.2) ∙ ap (λ r. r ++ rest) (on x y b.0 b.1).1 ∙ append_assoc (s x) (t x y) rest in
        ap (λ r. first r >>= λ x. second x.0 x.1 >>= λ y. Ok (make x.0 y.0, y.1)) spelling
        ∙ gives P s first (λ x. second x.0 x.1 >>= λ y. Ok (make x.0 y.0, y.1)) x (t x y ++ rest) exact b.0
        ∙ gives (Q x) (t x) (second x) (λ y. Ok (make x y.0, y.1)) y rest (exact2 x b.0) b.1
        ∙ ap (λ w. Ok (w, rest)) b.2;
  }

module _ {X Y V Z : Type 0} (P : X → Type 0) (Q : X → Y → Type 0) (O : X → Y → V → Type 0) (s : X → List ℕ) (t : X → Y → List ℕ) (v : X → Y → V → List ℕ)
    (first : List ℕ → Reads X) (second : X → List ℕ → Reads Y) (third : X → Y → List ℕ → Reads V)
    (R : Z → Type 0) (u : Z → List ℕ) (make : X → Y → V → Z) (one : Z → X) (two : Z → Y) (three : Z → V)
    (exact : IsExact P s first) (exact2 : (x : X) → P x → IsExact (Q x) (t x) (second x)) (exact3 : (x : X) (y : Y) → P x → Q x y → IsExact (O x y) (v x y) (third x y))
    (on : (x : X) (y : Y) (w : V) → P x → Q x y → O x y w → R (make x y w) × (u (make x y w) ≡ s x ++ (t x y ++ v x y w)))
    (from : (z : Z) → R z → P (one z) × Q (one z) (two z) × O (one z) (two z) (three z) × (make (one z) (two z) (three z) ≡ z)) where
  pub three_exact : IsExact R u (λ bytes. first bytes >>= λ x. second x.0 x.1 >>= λ y. third x.0 y.0 y.1 >>= λ w. Ok (make x.0 y.0 w.0, w.1))
  three_exact = record {
    takes = λ bytes z rest fits e.
        let a = got P s first (λ x. second x.0 x.1 >>= λ y. third x.0 y.0 y.1 >>= λ w. Ok (make x.0 y.0 w.0, w.1)) bytes (z, rest) exact fits e in
        let b = got (Q a.value) (t a.value) (second a.value) (λ y. third a.value y.0 y.1 >>= λ w. Ok (make a.value y.0 w.0, w.1)) a.rest (z, rest) (exact2 a.value a.took.right) a.took.fits a.goes in
        let c = got (O a.value b.value) (v a.value b.value) (third a.value b.value) (λ w. Ok (make a.value b.value w.0, w.1)) b.rest (z, rest) (exact3 a.value b.value a.took.right b.took.right) b.took.fits b.goes in
        let right = on a.value b.value c.value a.took.right b.took.right c.took.right in
        let behind : a.rest ≡ (t a.value b.value ++ v a.value b.value c.value) ++ c.rest = b.took.parts ∙ ap (λ r. t a.value b.value ++ r) c.took.parts ∙ sym (append_assoc (t a.value b.value) (v a.value b.value c.value) c.rest) in
        subst (λ (w : Z × List ℕ). Takes R u bytes w.0 w.1) (ok_is (make a.value b.value c.value, c.rest) (z, rest) c.goes) (record {
          parts = a.took.parts ∙ ap (λ r. s a.value ++ r) behind ∙ sym (append_assoc (s a.value) (t a.value b.value ++ v a.value b.value c.value) c.rest) ∙ ap (λ r. r ++ c.rest) (sym right.1);
          right = right.0;
          fits = c.took.fits;
        });
    again = λ z rest right.
        let b = from z right in
        let x = one z in
        let y = two z in
        let w = three z in
        let spelling : u z ++ rest ≡ s x ++ (t x y ++ (v x y w ++ rest)) = ap (λ n. u n ++ rest) (sym b.3) ∙ ap (λ r. r ++ rest) (on x y w b.0 b.1 b.2).1 ∙ append_assoc (s x) (t x y ++ v x y w) rest ∙ ap (λ r. s x ++ r) (append_assoc (t x y) (v x y w) rest) in
        ap (λ r. first r >>= λ x. second x.0 x.1 >>= λ y. third x.0 y.0 y.1 >>= λ w. Ok (make x.0 y.0 w.0, w.1)) spelling
        ∙ gives P s first (λ x. second x.0 x.1 >>= λ y. third x.0 y.0 y.1 >>= λ w. Ok (make x.0 y.0 w.0, w.1)) x (t x y ++ (v x y w ++ rest)) exact b.0
        ∙ gives (Q x) (t x) (second x) (λ y. third x y.0 y.1 >>= λ w. Ok (make x y.0 w.0, w.1)) y (v x y w ++ rest) (exact2 x b.0) b.1
        ∙ gives (O x y) (v x y) (third x y) (λ w. Ok (make x y w.0, w.1)) w rest (exact3 x y b.0 b.1) b.2
        ∙ ap (λ n. Ok (n, rest)) b.3;
  }
