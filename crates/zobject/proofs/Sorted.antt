-- Sorted texts rise, and are those that were sorted.
use Rattle.std.proofs.Common.{◌≡◌, ◌∙◌, ℕ, suc, ◌≤◌, true, List, [], ◌∷◌, length, refl, sym, subst, ap, arith, Ordering, Less, Equal, Greater}
use Rattle.std.specs.List.{AllByRecursion}
use Rattle.std.specs.Ordering.{nat_cmp, is_lt, match_ordering, ordering_reverse}
use Rattle.std.specs.Cmp.Lexicographic.{slice_cmp}
use Rattle.std.specs.BTreeSet.{insert_key}
use Rattle.std.proofs.lemmas.Cmp.{nat_list_cmp_total}
use Rattle.zobject.specs.declared.limits.TheConstants.{MOST_COUNTED}
use Rattle.zobject.specs.declared.version.Rule.TheVariants.{Role}
use Rattle.zobject.specs.Sorting.{sorted, sorted_with}
use Rattle.zobject.specs.Rules.{AreRoles, Keeps, Rise, comes_before}
use Rattle.zobject.proofs.Changed.{text_trans}
use Rattle.zobject.proofs.Rising.{above_rise, rise_above, rise_behind}

-- ---- one text more

insert_all : (P : List ℕ → Type 0) (ts : List (List ℕ)) (t : List ℕ) → AllByRecursion P ts → P t → AllByRecursion P (insert_key (slice_cmp nat_cmp) ts t)
insert_all P [] t all is = (is, tt)
insert_all P (u ∷ us) t all is = at (slice_cmp nat_cmp t u) (insert_all P us t all.1 is)
  where
    at : (o : Ordering) → AllByRecursion P (insert_key (slice_cmp nat_cmp) us t) → AllByRecursion P (match_ordering o (t ∷ u ∷ us) (u ∷ us) (u ∷ insert_key (slice_cmp nat_cmp) us t))
    at Less rest = (is, all)
    at Equal rest = all
    at Greater rest = (all.0, rest)

insert_some : (ts : List (List ℕ)) (t : List ℕ) → 1 ≤ length (insert_key (slice_cmp nat_cmp) ts t)
insert_some [] t = omega arith
insert_some (u ∷ us) t = at (slice_cmp nat_cmp t u)
  where
    at : (o : Ordering) → 1 ≤ length (match_ordering o (t ∷ u ∷ us) (u ∷ us) (u ∷ insert_key (slice_cmp nat_cmp) us t))
    at Less = omega arith
    at Equal = omega arith
    at Greater = omega arith

insert_more : (ts : List (List ℕ)) (t : List ℕ) → (length ts ≤ length (insert_key (slice_cmp nat_cmp) ts t)) × (length (insert_key (slice_cmp nat_cmp) ts t) ≤ suc (length ts))
insert_more [] t = (omega arith, omega arith)
insert_more (u ∷ us) t = at (slice_cmp nat_cmp t u) (insert_more us t)
  where
    at : (o : Ordering) → (length us ≤ length (insert_key (slice_cmp nat_cmp) us t)) × (length (insert_key (slice_cmp nat_cmp) us t) ≤ suc (length us)) →
        (suc (length us) ≤ length (match_ordering o (t ∷ u ∷ us) (u ∷ us) (u ∷ insert_key (slice_cmp nat_cmp) us t))) × (length (match_ordering o (t ∷ u ∷ us) (u ∷ us) (u ∷ insert_key (slice_cmp nat_cmp) us t)) ≤ suc (suc (length us)))
    at Less more = (omega arith, omega arith)
    at Equal more = (omega arith, omega arith)
    at Greater more = let one = more.0 in let other = more.1 in (omega (arith, one), omega (arith, other))

is_less : (o : Ordering) → o ≡ Less → is_lt o ≡ true
is_less o e = subst (λ (p : Ordering). is_lt p ≡ true) (sym e) refl

insert_rise : (ts : List (List ℕ)) (t : List ℕ) → Rise comes_before ts → Rise comes_before (insert_key (slice_cmp nat_cmp) ts t)
insert_rise [] t rise = tt
insert_rise (u ∷ us) t rise = at (slice_cmp nat_cmp t u) refl (insert_rise us t (rise_behind comes_before text_trans u us rise)) (rise_above comes_before text_trans u us rise)
  where
    at : (o : Ordering) → slice_cmp nat_cmp t u ≡ o → Rise comes_before (insert_key (slice_cmp nat_cmp) us t) → AllByRecursion (λ v. comes_before u v ≡ true) us → Rise comes_before (match_ordering o (t ∷ u ∷ us) (u ∷ us) (u ∷ insert_key (slice_cmp nat_cmp) us t))
    at Less e rest above = (is_less (slice_cmp nat_cmp t u) e, rise)
    at Equal e rest above = rise
    at Greater e rest above =
        above_rise comes_before text_trans u (insert_key (slice_cmp nat_cmp) us t) (insert_all (λ v. comes_before u v ≡ true) us t above (is_less (slice_cmp nat_cmp u t) (nat_list_cmp_total.antisymm u t ∙ ap ordering_reverse e)))
        rest

-- ---- all of them

sorted_all : (P : List ℕ → Type 0) (before ts : List (List ℕ)) → AllByRecursion P before → AllByRecursion P ts → AllByRecursion P (sorted_with before ts)
unfolding sorted_with
sorted_all P before [] was all = was
sorted_all P before (t ∷ ts) was all = sorted_all P (insert_key (slice_cmp nat_cmp) before t) ts (insert_all P before t was all.0) all.1

sorted_rise : (before ts : List (List ℕ)) → Rise comes_before before → Rise comes_before (sorted_with before ts)
unfolding sorted_with
sorted_rise before [] rise = rise
sorted_rise before (t ∷ ts) rise = sorted_rise (insert_key (slice_cmp nat_cmp) before t) ts (insert_rise before t rise)

sorted_more : (before ts : List (List ℕ)) → length before ≤ length (sorted_with before ts)
unfolding sorted_with
sorted_more before [] = omega arith
sorted_more before (t ∷ ts) = let one = (insert_more before t).0 in let rest = sorted_more (insert_key (slice_cmp nat_cmp) before t) ts in omega (arith, one, rest)

pub sorted_any : (ts : List (List ℕ)) → AllByRecursion (Keeps Role) ts → length (sorted ts) ≤ MOST_COUNTED → AreRoles 0 (sorted ts)
sorted_any ts all few = record { many = record { enough = omega arith; few = few; each = sorted_all (Keeps Role) [] ts tt all }; rise = sorted_rise [] ts tt }

enough : (t : List ℕ) (ts : List (List ℕ)) → 1 ≤ length (sorted (t ∷ ts))
unfolding sorted_with
enough t ts = let one = insert_some [] t in let rest = sorted_more (insert_key (slice_cmp nat_cmp) [] t) ts in omega (arith, one, rest)

pub sorted_some : (t : List ℕ) (ts : List (List ℕ)) → AllByRecursion (Keeps Role) (t ∷ ts) → length (sorted (t ∷ ts)) ≤ MOST_COUNTED → AreRoles 1 (sorted (t ∷ ts))
sorted_some t ts all few = record { many = record { enough = enough t ts; few = few; each = sorted_all (Keeps Role) [] (t ∷ ts) tt all }; rise = sorted_rise [] (t ∷ ts) tt }
