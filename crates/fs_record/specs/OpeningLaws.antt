-- Bytes open in one way.
use Rattle.std.proofs.Common.{◌≡◌, ℕ, suc, zero, ◌+◌, ◌-◌, ◌||◌, Bool, true, false, get_or, List, [], ◌∷◌, ◌++◌, length, Option, Some, None, refl, sym, ap, subst, ◌∙◌, append_assoc, arith, inl, inr}
use Rattle.fs_record.specs.Spelling.{Block, block_spelling}
use Rattle.fs_record.specs.SpellingLaws.{same_block}
use Rattle.std.proofs.lemmas.Bool.{false≢true, cases_order, eq-eqb}
use Rattle.std.specs.Prelude.{◌⊎◌, ◌==◌, nat_lt}
use Rattle.fs_record.specs.declared.damage.Damage.{Damage}
use Rattle.fs_record.specs.UniqueLaws.{not_end, same_count}
use Rattle.fs_record.specs.Opening.{is_end, length_in, status_in, IsDamage, SplitsAt, Cut, Damaged}
use Rattle.fs_record.specs.File.{Front, IsRight, AreRight, front_of, bytes_of, fault_of, magic}

-- behind fewer blocks a right one stands
pub GoesOn : Front → List ℕ → Type 0
GoesOn front rest = (b : Block) × (more : List ℕ) × IsRight front b × (rest ≡ block_spelling b ++ more)

pub fewer : (k : ℕ) (bs cs : List Block) (x y : List ℕ) → AreRight bs → AreRight cs → length bs + suc k ≡ length cs → bytes_of bs ++ x ≡ bytes_of cs ++ y → GoesOn (front_of bs) x
unfolding GoesOn
fewer k bs [] x y p q l e = absurd (omega arith)
fewer zero bs (c ∷ cs) x y p q l e =
    let m : length bs ≡ length cs = omega arith in
    let r = same_count bs cs x (block_spelling c ++ y) p q.1 m (e ∙ append_assoc (bytes_of cs) (block_spelling c) y) in
    (c, y, subst (λ (t : List Block). IsRight (front_of t) c) (sym r.0) q.0, r.1)
fewer (suc k) bs (c ∷ cs) x y p q l e = fewer k bs cs x (block_spelling c ++ y) p q.1 (omega arith) (e ∙ append_assoc (bytes_of cs) (block_spelling c) y)

-- two readings of the same bytes: the same, or one of them goes on
abbrev Meet : List Block → List ℕ → List Block → List ℕ → Type 0
Meet bs x cs y = ((bs ≡ cs) × (x ≡ y)) ⊎ (GoesOn (front_of bs) x ⊎ GoesOn (front_of cs) y)

meet : (bs cs : List Block) (x y : List ℕ) → AreRight bs → AreRight cs → bytes_of bs ++ x ≡ bytes_of cs ++ y → Meet bs x cs y
meet bs cs x y p q e =
    elim (cases_order (length bs) (length cs)) [
      | inr (inl lt) ↦ inr (inl (fewer (length cs - length bs - 1) bs cs x y p q (omega arith) e))
      | inl same ↦ inl (same_count bs cs x y p q same e)
      | inr (inr gt) ↦ inr (inr (fewer (length bs - length cs - 1) cs bs y x q p (omega arith) (sym e)))
    ]

ends_no_more : (front : Front) (x : List ℕ) → GoesOn front x → is_end x ≡ true → ⊥
unfolding GoesOn
ends_no_more front x g e = false≢true (sym (not_end front g.0 g.1 g.2) ∙ ap is_end (sym g.3) ∙ e)

none_some : (d : Damage) (o : Option Damage) → o ≡ None → o ≡ Some d → ⊥
none_some d o p q = cc

from_some : (o : Option Damage) (k j : Damage) → o ≡ Some k → o ≡ Some j → k ≡ j
from_some o k j p q = cc

damage_no_more : (front : Front) (x : List ℕ) (kind : Damage) → GoesOn front x → IsDamage front x kind → ⊥
unfolding GoesOn
damage_no_more front x kind g (inl bad) = bad.1 g.0 g.1 g.2.fits g.3
damage_no_more front x kind g (inr bad) =
    let s = same_block g.0 bad.0 g.1 bad.1 g.2.fits bad.2.fits (sym g.3 ∙ bad.2.spelled) in
    none_some kind (fault_of front bad.0) (ap (fault_of front) (sym s.0) ∙ g.2.right) bad.3

same_damage : (front : Front) (x : List ℕ) (k j : Damage) → IsDamage front x k → IsDamage front x j → k ≡ j
same_damage front x k j (inl p) (inl q) = p.0 ∙ sym q.0
same_damage front x k j (inl p) (inr q) = absurd (p.1 q.0 q.1 q.2.fits q.2.spelled)
same_damage front x k j (inr p) (inl q) = absurd (q.1 p.0 p.1 p.2.fits p.2.spelled)
same_damage front x k j (inr p) (inr q) =
    let s = same_block p.0 q.0 p.1 q.1 p.2.fits q.2.fits (sym p.2.spelled ∙ q.2.spelled) in
    from_some (fault_of front q.0) k j (ap (fault_of front) (sym s.0) ∙ p.3) q.3

-- what two ways to split the bytes have to do with each other
abbrev Split : List ℕ → Type 0
Split bytes = (n : ℕ) × (front : Front) × (rest : List ℕ) × SplitsAt bytes n front rest

abbrev SplitsMeet : (m n : ℕ) (f g : Front) (x y : List ℕ) → Type 0
SplitsMeet m n f g x y = ((m ≡ n) × (f ≡ g) × (x ≡ y)) ⊎ (GoesOn f x ⊎ GoesOn g y)

splits : (bytes : List ℕ) (m n : ℕ) (f g : Front) (x y : List ℕ) → SplitsAt bytes m f x → SplitsAt bytes n g y → SplitsMeet m n f g x y
splits bytes m n f g x y s t =
    let e : bytes_of s.is_file.blocks ++ x ≡ bytes_of t.is_file.blocks ++ y = ap (λ (z : List ℕ). z ++ x) (sym s.is_file.spelled) ∙ sym s.joined ∙ t.joined ∙ ap (λ (z : List ℕ). z ++ y) t.is_file.spelled in
    elim (meet s.is_file.blocks t.is_file.blocks x y s.is_file.right t.is_file.right e) [
      | inl same ↦ inl (
        s.at ∙ ap length (s.is_file.spelled ∙ ap bytes_of same.0 ∙ sym t.is_file.spelled) ∙ sym t.at,
        s.is_file.said ∙ ap front_of same.0 ∙ sym t.is_file.said,
        same.1,
      )
      | inr (inl g1) ↦ inr (inl (subst (λ (h : Front). GoesOn h x) (sym s.is_file.said) g1))
      | inr (inr g2) ↦ inr (inr (subst (λ (h : Front). GoesOn h y) (sym t.is_file.said) g2))
    ]

pub one_cut : (bytes : List ℕ) (f g : Front) (m n : ℕ) → Cut bytes f m → Cut bytes g n → (f ≡ g) × (m ≡ n)
one_cut bytes f g m n c d =
    elim (splits bytes m n f g c.0 d.0 c.1 d.1) [
      | inl same ↦ (same.1, same.0)
      | inr (inl more) ↦ absurd (ends_no_more f c.0 more c.2)
      | inr (inr more) ↦ absurd (ends_no_more g d.0 more d.2)
    ]

-- a file begins with its magic
begins : (bs : List Block) → (more : List ℕ) × (bytes_of bs ≡ magic ++ more)
begins [] = ([], refl)
begins (b ∷ bs) = let r = begins bs in (r.0 ++ block_spelling b, ap (λ (z : List ℕ). z ++ block_spelling b) r.1)

has_magic : (bytes : List ℕ) (n : ℕ) (front : Front) (rest : List ℕ) → SplitsAt bytes n front rest → ((more : List ℕ) → bytes ≡ magic ++ more → ⊥) → ⊥
has_magic bytes n front rest s lacks =
    let r = begins s.is_file.blocks in
    lacks (r.0 ++ rest) (s.joined ∙ ap (λ (z : List ℕ). z ++ rest) (s.is_file.spelled ∙ r.1))

pub not_both : (bytes : List ℕ) (f : Front) (m n : ℕ) (kind : Damage) → Cut bytes f m → Damaged bytes n kind → ⊥
not_both bytes f m n kind c (inl bad) = has_magic bytes m f c.0 c.1 bad.2
not_both bytes f m n kind c (inr d) =
    elim (splits bytes m n f d.0 c.0 d.1 c.1 d.2) [
      | inl same ↦ false≢true (sym d.3 ∙ ap is_end (sym same.2) ∙ c.2)
      | inr (inl more) ↦ ends_no_more f c.0 more c.2
      | inr (inr more) ↦ damage_no_more d.0 d.1 kind more d.4
    ]

pub one_damage : (bytes : List ℕ) (m n : ℕ) (k j : Damage) → Damaged bytes m k → Damaged bytes n j → (m ≡ n) × (k ≡ j)
one_damage bytes m n k j (inl p) (inl q) = (p.1 ∙ sym q.1, p.0 ∙ sym q.0)
one_damage bytes m n k j (inl p) (inr q) = absurd (has_magic bytes n q.0 q.1 q.2 p.2)
one_damage bytes m n k j (inr p) (inl q) = absurd (has_magic bytes m p.0 p.1 p.2 q.2)
one_damage bytes m n k j (inr c) (inr d) =
    elim (splits bytes m n c.0 d.0 c.1 d.1 c.2 d.2) [
      | inl same ↦ (same.0, same_damage d.0 d.1 k j (subst (λ (z : List ℕ). IsDamage d.0 z k) same.2 (subst (λ (h : Front). IsDamage h c.1 k) same.1 c.4)) d.4)
      | inr (inl more) ↦ absurd (damage_no_more c.0 c.1 k more c.4)
      | inr (inr more) ↦ absurd (damage_no_more d.0 d.1 j more d.4)
    ]

-- ---- a torn rest

one_of_four : (a b c d : Bool) → (b ≡ true) ⊎ (c ≡ true) → (a || b || c || d) ≡ true
one_of_four true b c d e = refl
one_of_four false true c d e = refl
one_of_four false false true d e = refl
one_of_four false false false d (inl e) = absurd cc
one_of_four false false false d (inr e) = absurd cc

torn_by : (status : ℕ) → (status ≡ 99) ⊎ (status ≡ 0) → ((status == 99) ≡ true) ⊎ ((status == 0) ≡ true)
torn_by status (inl e) = inl (eq-eqb status 99 e)
torn_by status (inr e) = inr (eq-eqb status 0 e)

-- a rest of status c or 0 is torn
pub torn_is_end : (rest : List ℕ) → (get_or rest 16 0 ≡ 99) ⊎ (get_or rest 16 0 ≡ 0) → is_end rest ≡ true
unfolding is_end
torn_is_end rest e = one_of_four (nat_lt (length rest) 23) (status_in rest == 99) (status_in rest == 0) (nat_lt (length rest) (length_in rest + 8)) (torn_by (get_or rest 16 0) e)
