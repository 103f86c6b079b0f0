-- Suffixes of names: what `strip_suffix` finds, and that taking them off ends.
use Rattle.std.proofs.Common.{◌≡◌, ◌∙◌, ℕ, ◌-◌, ◌+◌, ◌<◌, ◌≤◌, suc, zero, Bool, true, false, List, [], ◌++◌, length, take, drop, refl, ap, sym, subst, arith, Option, Some, None, option_map, unwrap_or, MatchOption, codes, Bor, if◌then◌else◌}
use Rattle.std.specs.Bool.{nat_eq}
use Rattle.std.specs.List.{ends_with}
use Rattle.std.specs.Cmp.Lexicographic.{bytes_decides}
use Rattle.std.specs.Str.Pattern.{FindsTextSuffix, StripsSuffix}
use Rattle.std.proofs.lemmas.List.{drop_at, length-drop, length-take-le, take-append-drop}
use Rattle.form_fields.proofs.Positions.{some≢none}
use Rattle.form_fields.specs.Names.{Named, without, or_else, said, shorter, goes_on, stripped}

-- a text that ends in n is cut before it
pub strip_is : (n s : List ℕ) (r : Option (Bor (List ℕ))) → MatchOption r (FindsTextSuffix n s None) (λ x. StripsSuffix (FindsTextSuffix n) s x.now) → option_map (λ x. x.now) r ≡ without n s
strip_is n s None lacks = go (ends_with nat_eq s n) refl
  where
    go : (b : Bool) → ends_with nat_eq s n ≡ b → None ≡ without n s
    go true is = absurd (lacks (take (length s - length n) s) (sym (take-append-drop (length s - length n) s) ∙ ap (λ t. take (length s - length n) s ++ t) (sym ((bytes_decides n (drop (length s - length n) s)).0 is))))
    go false is = rw is refl
strip_is n s (Some x) (k, finds, now, fits) = rw ends (ap Some (rw finds.0 at now))
  where
    k_is : k ≡ length n
    k_is = finds.0

    tail : drop (length s - length n) s ≡ n
    tail = rw (sym k_is) (ap (drop (length s - k)) finds.1 ∙ drop_at (take (length s - k) s) n (length s - k) (length-take-le (length s - k) s (omega arith)))

    ends : ends_with nat_eq s n ≡ true
    ends = (bytes_decides n (drop (length s - length n) s)).1 (sym tail)

-- what is left is shorter
without_less : (n s rest : List ℕ) → 0 < length n → without n s ≡ Some rest → length rest < length s
without_less n s rest some is = go (ends_with nat_eq s n) refl is
  where
    go : (b : Bool) → ends_with nat_eq s n ≡ b → (if b then Some (take (length s - length n) s) else None) ≡ Some rest → length rest < length s
    go true ends e =
        let same = ap length ((bytes_decides n (drop (length s - length n) s)).0 ends) ∙ length-drop (length s - length n) s in
        subst (λ t. length t < length s) (ap (λ o. unwrap_or o []) e) (rw (length-take-le (length s - length n) s (omega arith)) (omega (arith, same, some)))
    go false ends e = absurd (some≢none (sym e))

abbrev name_in : Option Named → List ℕ
name_in None = []
name_in (Some x) = x.name

said_less : (is_int is_list : Bool) (x : List ℕ) (o : Option (List ℕ)) (y : Named) → ((rest : List ℕ) → o ≡ Some rest → length rest < length x) → said is_int is_list o ≡ Some y → length y.name < length x
said_less is_int is_list x None y less e = absurd (some≢none (sym e))
said_less is_int is_list x (Some rest) y less e = subst (λ t. length t < length x) (ap name_in e) (less rest refl)

either_less : (x : List ℕ) (o p : Option Named) (y : Named) → (o ≡ Some y → length y.name < length x) → (p ≡ Some y → length y.name < length x) → or_else o p ≡ Some y → length y.name < length x
either_less x None p y first second is = second is
either_less x (Some z) p y first second is = first is

pub shorter_less : (x y : Named) → shorter x ≡ Some y → length y.name < length x.name
shorter_less x y is =
    either_less x.name (said true x.is_list (without (codes ":int") x.name)) _ y (said_less true x.is_list x.name _ y (λ rest. without_less (codes ":int") x.name rest (omega arith)))
    (either_less x.name (said x.is_int true (without (codes ":list") x.name)) _ y (said_less x.is_int true x.name _ y (λ rest. without_less (codes ":list") x.name rest (omega arith)))
    (said_less x.is_int x.is_list x.name _ y (λ rest. without_less (codes ":string") x.name rest (omega arith)))) is

-- more turns than a name has bytes change nothing
pub enough : (n k : ℕ) (x : Named) → length x.name ≤ n → length x.name ≤ k → stripped n x ≡ stripped k x
enough zero zero x m l = refl
enough zero (suc k) x m l = go (shorter x) refl
  where
    go : (o : Option Named) → shorter x ≡ o → x ≡ goes_on (stripped k) x o
    go None is = refl
    go (Some y) is = absurd (omega (arith, shorter_less x y is, m))
enough (suc n) zero x m l = go (shorter x) refl
  where
    go : (o : Option Named) → shorter x ≡ o → goes_on (stripped n) x o ≡ x
    go None is = refl
    go (Some y) is = absurd (omega (arith, shorter_less x y is, l))
enough (suc n) (suc k) x m l = go (enough n k) (shorter x) refl
  where
    go : ((y : Named) → length y.name ≤ n → length y.name ≤ k → stripped n y ≡ stripped k y) → (o : Option Named) → shorter x ≡ o → goes_on (stripped n) x o ≡ goes_on (stripped k) x o
    go deeper None is = refl
    go deeper (Some y) is = deeper y (omega (arith, shorter_less x y is, m)) (omega (arith, shorter_less x y is, l))

-- one suffix less is the same name
pub one_less : (n : ℕ) (x y : Named) → shorter x ≡ Some y → length y.name ≤ n → stripped (suc (n + length x.name)) x ≡ stripped n y
one_less n x y is fits = rw is (enough (n + length x.name) n y (omega (arith, fits)) fits)

-- a name without a suffix stays
pub none_less : (x : Named) → shorter x ≡ None → stripped (suc (length x.name)) x ≡ x
none_less x is = rw is refl
