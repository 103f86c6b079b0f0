-- An index as a list: its rows, and what the tree has before, between and behind them.
use Rattle.std.proofs.Common.{◌≡◌, ℕ, zero, suc, ◌+◌, ◌-◌, ◌*◌, ◌/◌, ◌%◌, ◌<◌, ◌≤◌, ◌^◌, Bool, true, false, ◌&&◌, Option, Some, None, List, [], ◌∷◌, ◌++◌, length, get_or, take, min, refl, sym, ap, subst, ◌∙◌, append_assoc, cond, max, append-nil, ◌⊎◌, arith, inl, inr}
use Rattle.std.specs.Prelude.{◌==◌}
use Rattle.std.proofs.Math.Numerals.{add-one}
use Rattle.std.specs.List.{filter, AllByRecursion}
use Rattle.std.specs.List.Sorted.{IsStrictlySortedBy}
use Rattle.std.specs.Map.{keys_of, lookup}
use Rattle.std.specs.BTreeMap.{is_at}
use Rattle.std.specs.BTreeMap.Range.{entries_between, range_contains}
use Rattle.std.specs.declared.cmp.Ordering.{Ordering}
use Rattle.std.specs.declared.cmp.Ordering.TheVariants.{Less, Equal, Greater}
use Rattle.std.specs.declared.ops.Bound.TheVariants.{Included, Excluded}
use Rattle.std.specs.Ordering.{is_gt, is_le, is_lt, nat_cmp, MatchOrdering}
use Rattle.std.proofs.lemmas.Bool.{cases_lt, lt-ltb, le-ltb, eqb-true, ne_eqb, eq-eqb, false≢true}
use Rattle.std.proofs.lemmas.Cmp.{ranked}
use Rattle.std.proofs.lemmas.List.{length-take, get_or-take}
use Rattle.std.proofs.lemmas.Map.Entries.{lookup-filter-keys}
use Rattle.zbase.specs.declared.ids.Row.{Row}
use Rattle.fs_index.specs.Listed.{Lists, OidsRiseFrom, known_rows, numbered, place_for, row_if}
use Rattle.fs_index.specs.Places.{Slots, known, known_in, place_of, slot_in}
use Rattle.fs_index.proofs.Rows.{at_same, slot_is}

-- ---- comparisons

le_yes : (a b : ℕ) → a ≤ b → is_le (nat_cmp a b) ≡ true
le_yes a b le = go (nat_cmp a b) (ranked a b (nat_cmp a b) refl)
  where
    go : (r : Ordering) → MatchOrdering r (a < b) (a ≡ b) (b < a) → is_le r ≡ true
    go Less m = refl
    go Equal m = refl
    go Greater m = absurd (omega (arith, m, le))

le_no : (a b : ℕ) → b < a → is_le (nat_cmp a b) ≡ false
le_no a b lt = go (nat_cmp a b) (ranked a b (nat_cmp a b) refl)
  where
    go : (r : Ordering) → MatchOrdering r (a < b) (a ≡ b) (b < a) → is_le r ≡ false
    go Less m = absurd (omega (arith, m, lt))
    go Equal m = absurd (omega (arith, m, lt))
    go Greater m = refl

less_yes : (a b : ℕ) → a < b → is_lt (nat_cmp a b) ≡ true
less_yes a b lt = go (nat_cmp a b) (ranked a b (nat_cmp a b) refl)
  where
    go : (r : Ordering) → MatchOrdering r (a < b) (a ≡ b) (b < a) → is_lt r ≡ true
    go Less m = refl
    go Equal m = absurd (omega (arith, m, lt))
    go Greater m = absurd (omega (arith, m, lt))

less_no : (a b : ℕ) → b ≤ a → is_lt (nat_cmp a b) ≡ false
less_no a b le = go (nat_cmp a b) (ranked a b (nat_cmp a b) refl)
  where
    go : (r : Ordering) → MatchOrdering r (a < b) (a ≡ b) (b < a) → is_lt r ≡ false
    go Less m = absurd (omega (arith, m, le))
    go Equal m = refl
    go Greater m = refl

and_no : (x : Bool) → (x && false) ≡ false
and_no true = refl
and_no false = refl

-- the ids from lo on and before hi
abbrev within : ℕ → ℕ → ℕ → Bool
within lo hi q = range_contains nat_cmp (Included lo) (Excluded hi) q

within_yes : (lo hi q : ℕ) → lo ≤ q → q < hi → within lo hi q ≡ true
within_yes lo hi q from to = rw (le_yes lo q from, le_no hi q to) refl

within_below : (lo hi q : ℕ) → q < lo → within lo hi q ≡ false
within_below lo hi q lt = rw (le_no lo q lt) refl

within_behind : (lo hi q : ℕ) → hi ≤ q → within lo hi q ≡ false
within_behind lo hi q le = rw (le_yes hi q le) (and_no (is_le (nat_cmp lo q)))

-- the ids from lo on
abbrev from_on : ℕ → ℕ → Bool
from_on lo q = range_contains nat_cmp (Included lo) (Included (2 ^ 64 - 1)) q

from_yes : (lo q : ℕ) → lo ≤ q → q < 2 ^ 64 → from_on lo q ≡ true
from_yes lo q le lt = rw (le_yes lo q le, less_no (2 ^ 64 - 1) q (omega (arith, lt))) refl

from_no : (lo q : ℕ) → q < lo → from_on lo q ≡ false
from_no lo q lt = rw (le_no lo q lt) refl

from_none : (lo q : ℕ) → 2 ^ 64 ≤ q → from_on lo q ≡ false
from_none lo q le = rw (less_yes (2 ^ 64 - 1) q (omega (arith, le))) (and_no (is_le (nat_cmp lo q)))

-- ---- a look-up

at_is : (o k : ℕ) → is_at (nat_cmp o) k ≡ true → o ≡ k
at_is o k is = eqb-true o k (sym (at_same o k) ∙ is)

-- of the entries whose ids pass a test
found_in : {X : Type 0} (o : ℕ) (p : ℕ → Bool) (b : Bool) (es : List (ℕ × X)) → p o ≡ b → lookup (is_at (nat_cmp o)) (filter (λ e. p e.0) es) ≡ cond b (lookup (is_at (nat_cmp o)) es) None
found_in o p b es is = lookup-filter-keys (is_at (nat_cmp o)) p b (λ k at. ap p (sym (at_is o k at)) ∙ is) es

abbrev or_else : Option ℕ → Option ℕ → Option ℕ
or_else None other = other
or_else (Some x) other = Some x

lookup-append : (test : ℕ → Bool) (xs ys : List (ℕ × ℕ)) → lookup test (xs ++ ys) ≡ or_else (lookup test xs) (lookup test ys)
lookup-append test [] ys = refl
lookup-append test (x ∷ xs) ys = ap (λ (r : Option ℕ). cond (test x.0) (Some x.1) r) (lookup-append test xs ys) ∙ turned (test x.0)
  where
    turned : (t : Bool) → cond t (Some x.1) (or_else (lookup test xs) (lookup test ys)) ≡ or_else (cond t (Some x.1) (lookup test xs)) (lookup test ys)
    turned true = refl
    turned false = refl

not_numbered : (o n : ℕ) (places : List ℕ) → (o < n) ⊎ (n + length places ≤ o) → lookup (is_at (nat_cmp o)) (numbered n places) ≡ None
not_numbered o n [] apart = refl
not_numbered o n (p ∷ places) (inl lt) = rw (at_same o n ∙ ne_eqb o n (λ e. omega (arith, lt, e))) (not_numbered o (n + 1) places (inl (omega (arith, lt))))
not_numbered o n (p ∷ places) (inr le) = rw (at_same o n ∙ ne_eqb o n (λ e. omega (arith, le, e))) (not_numbered o (n + 1) places (inr (omega (arith, le))))

is_numbered : (o n i : ℕ) (places : List ℕ) → n + i ≡ o → i < length places → lookup (is_at (nat_cmp o)) (numbered n places) ≡ Some (get_or places i 0)
is_numbered o n i [] at lt = absurd (omega arith)
is_numbered o n zero (p ∷ places) at lt = rw (at_same o n ∙ eq-eqb o n (omega (arith, at))) refl
is_numbered o n (suc i) (p ∷ places) at lt = rw (at_same o n ∙ ne_eqb o n (λ e. omega (arith, at, e))) (is_numbered o (n + 1) i places (omega (arith, at)) (omega (arith, lt)))

-- ---- rows in order, and the entries of an index from an id on

abbrev pub RowsRiseFrom : ℕ → List (ℕ × List ℕ) → Type 0
RowsRiseFrom from [] = Unit {0}
RowsRiseFrom from (e ∷ es) = (from ≤ e.0 * 65536) × (e.0 < 2 ^ 48) × RowsRiseFrom ((e.0 + 1) * 65536) es

abbrev pub merged : ℕ → List (ℕ × List ℕ) → List (ℕ × ℕ) → List (ℕ × ℕ)
merged from [] few = entries_between nat_cmp (Included from) (Included (2 ^ 64 - 1)) few
merged from (e ∷ es) few =
    entries_between nat_cmp (Included from) (Excluded (e.0 * 65536)) few
    ++ (numbered (e.0 * 65536) (take 65536 e.1) ++ merged (e.0 * 65536 + length (take 65536 e.1)) es few)

weaker_rows : (m n : ℕ) (es : List (ℕ × List ℕ)) → m ≤ n → RowsRiseFrom n es → RowsRiseFrom m es
weaker_rows m n [] le rise = tt
weaker_rows m n (e ∷ es) le rise = (omega (arith, le, rise.0), rise.1, rise.2)

reached_most : (ps : List ℕ) → length (take 65536 ps) ≤ 65536
reached_most ps = omega (arith, length-take 65536 ps)

pub behind_row : (n : ℕ) (ps : List ℕ) (es : List (ℕ × List ℕ)) → RowsRiseFrom ((n + 1) * 65536) es → RowsRiseFrom (n * 65536 + length (take 65536 ps)) es
behind_row n ps es rise = weaker_rows _ ((n + 1) * 65536) es (omega (arith, reached_most ps)) rise

-- no row of an id before them
no_row : (o from : ℕ) (es : List (ℕ × List ℕ)) → RowsRiseFrom from es → o < from → lookup (is_at (nat_cmp (o / 65536))) es ≡ None
no_row o from [] rise lt = refl
no_row o from (e ∷ es) rise lt =
    rw (at_same (o / 65536) e.0 ∙ ne_eqb (o / 65536) e.0 (λ is. omega (arith, is, lt, rise.0)))
    (no_row o ((e.0 + 1) * 65536) es rise.2 (omega (arith, lt, rise.0)))

none_merged : (o from : ℕ) (es : List (ℕ × List ℕ)) (few : List (ℕ × ℕ)) → RowsRiseFrom from es → o < from → lookup (is_at (nat_cmp o)) (merged from es few) ≡ None
none_merged o from [] few rise lt = found_in o (from_on from) false few (from_no from o lt)
none_merged o from (e ∷ es) few rise lt =
    lookup-append (is_at (nat_cmp o)) (entries_between nat_cmp (Included from) (Excluded (e.0 * 65536)) few) _
    ∙ ap (λ (f : Option ℕ). or_else f (lookup (is_at (nat_cmp o)) (numbered (e.0 * 65536) (take 65536 e.1) ++ merged (e.0 * 65536 + length (take 65536 e.1)) es few))) (found_in o (within from (e.0 * 65536)) false few (within_below from (e.0 * 65536) o lt))
    ∙ lookup-append (is_at (nat_cmp o)) (numbered (e.0 * 65536) (take 65536 e.1)) _
    ∙ ap (λ (f : Option ℕ). or_else f (lookup (is_at (nat_cmp o)) (merged (e.0 * 65536 + length (take 65536 e.1)) es few))) (not_numbered o (e.0 * 65536) (take 65536 e.1) (inl (omega (arith, lt, rise.0))))
    ∙ none_merged o (e.0 * 65536 + length (take 65536 e.1)) es few (behind_row e.0 e.1 es rise.2) (omega (arith, lt, rise.0))

-- what an index with these rows keeps of an id
abbrev kept : List (ℕ × List ℕ) → List (ℕ × ℕ) → ℕ → Option ℕ
kept rows few o = slot_in (lookup (is_at (nat_cmp (o / 65536))) rows) (o % 65536) (lookup (is_at (nat_cmp o)) few)

else_none : (f : Option ℕ) → or_else f None ≡ f
else_none None = refl
else_none (Some x) = refl

-- the three parts of what is merged, before what is behind the first row
parts : (o from : ℕ) (e : ℕ × List ℕ) (es : List (ℕ × List ℕ)) (few : List (ℕ × ℕ)) (a b : Option ℕ) → lookup (is_at (nat_cmp o)) (entries_between nat_cmp (Included from) (Excluded (e.0 * 65536)) few) ≡ a → lookup (is_at (nat_cmp o)) (numbered (e.0 * 65536) (take 65536 e.1)) ≡ b → lookup (is_at (nat_cmp o)) (merged from (e ∷ es) few) ≡ or_else a (or_else b (lookup (is_at (nat_cmp o)) (merged (e.0 * 65536 + length (take 65536 e.1)) es few)))
parts o from e es few a b first second =
    lookup-append (is_at (nat_cmp o)) (entries_between nat_cmp (Included from) (Excluded (e.0 * 65536)) few) _
    ∙ ap (λ (f : Option ℕ). or_else f (lookup (is_at (nat_cmp o)) (numbered (e.0 * 65536) (take 65536 e.1) ++ merged (e.0 * 65536 + length (take 65536 e.1)) es few))) first
    ∙ ap (or_else a) (lookup-append (is_at (nat_cmp o)) (numbered (e.0 * 65536) (take 65536 e.1)) _ ∙ ap (λ (f : Option ℕ). or_else f (lookup (is_at (nat_cmp o)) (merged (e.0 * 65536 + length (take 65536 e.1)) es few))) second)

-- an id that the row reaches
in_reach : (o : ℕ) (ps : List ℕ) (other : Option ℕ) → o % 65536 < length ps → slot_in (Some ps) (o % 65536) other ≡ Some (get_or ps (o % 65536) 0)
in_reach o ps other lt = rw (lt-ltb (o % 65536) (length ps) lt) refl

out_of_reach : (o : ℕ) (ps : List ℕ) (other : Option ℕ) → length ps ≤ o % 65536 → slot_in (Some ps) (o % 65536) other ≡ other
out_of_reach o ps other le = rw (le-ltb (o % 65536) (length ps) le) refl

behind_it : (t : Bool) (o : ℕ) (e : ℕ × List ℕ) (es : List (ℕ × List ℕ)) (few : List (ℕ × ℕ)) → (o / 65536 == e.0) ≡ t → RowsRiseFrom ((e.0 + 1) * 65536) es → e.0 * 65536 + length (take 65536 e.1) ≤ o → kept es few o ≡ slot_in (cond t (Some e.1) (lookup (is_at (nat_cmp (o / 65536))) es)) (o % 65536) (lookup (is_at (nat_cmp o)) few)
behind_it false o e es few is rise le = refl
behind_it true o e es few is rise le =
    let same : o / 65536 ≡ e.0 = eqb-true (o / 65536) e.0 is in
    ap (λ (f : Option (List ℕ)). slot_in f (o % 65536) (lookup (is_at (nat_cmp o)) few)) (no_row o ((e.0 + 1) * 65536) es rise (omega (arith, same)))
    ∙ sym (out_of_reach o e.1 (lookup (is_at (nat_cmp o)) few) (omega (arith, length-take 65536 e.1, same, le)))

-- from an id on, what is merged has of each id what the index keeps
all_merged : (o from : ℕ) (rows : List (ℕ × List ℕ)) (few : List (ℕ × ℕ)) → RowsRiseFrom from rows → from ≤ o → o < 2 ^ 64 → lookup (is_at (nat_cmp o)) (merged from rows few) ≡ kept rows few o
all_merged o from [] few rise le lt = found_in o (from_on from) true few (from_yes from o le lt)
all_merged o from (e ∷ es) few rise le lt = elim (cases_lt o (e.0 * 65536)) [
  | inl before ↦
      parts o from e es few (lookup (is_at (nat_cmp o)) few) None (found_in o (within from (e.0 * 65536)) true few (within_yes from (e.0 * 65536) o le before)) (not_numbered o (e.0 * 65536) (take 65536 e.1) (inl before))
      ∙ ap (λ (f : Option ℕ). or_else (lookup (is_at (nat_cmp o)) few) f) (none_merged o _ es few (behind_row e.0 e.1 es rise.2) (omega (arith, before)))
      ∙ else_none (lookup (is_at (nat_cmp o)) few)
      ∙ sym (ap (λ (f : Option (List ℕ)). slot_in f (o % 65536) (lookup (is_at (nat_cmp o)) few)) (no_row o (e.0 * 65536) (e ∷ es) (omega arith, rise.1, rise.2) before))
  | inr at ↦ elim (cases_lt o (e.0 * 65536 + length (take 65536 e.1))) [
    | inl here ↦
        let same : o / 65536 ≡ e.0 = omega (arith, at, here, reached_most e.1) in
        let reached : o % 65536 < length (take 65536 e.1) = omega (arith, at, here, same) in
        parts o from e es few None (Some (get_or (take 65536 e.1) (o % 65536) 0)) (found_in o (within from (e.0 * 65536)) false few (within_behind from (e.0 * 65536) o at)) (is_numbered o (e.0 * 65536) (o % 65536) (take 65536 e.1) (omega (arith, same)) reached)
        ∙ ap Some (get_or-take 65536 e.1 (o % 65536) 0 (omega arith))
        ∙ sym (in_reach o e.1 (lookup (is_at (nat_cmp o)) few) (omega (arith, reached, length-take 65536 e.1)))
        ∙ ap (λ (t : Bool). slot_in (cond t (Some e.1) (lookup (is_at (nat_cmp (o / 65536))) es)) (o % 65536) (lookup (is_at (nat_cmp o)) few)) (sym (at_same (o / 65536) e.0 ∙ eq-eqb (o / 65536) e.0 same))
    | inr after ↦
        parts o from e es few None None (found_in o (within from (e.0 * 65536)) false few (within_behind from (e.0 * 65536) o at)) (not_numbered o (e.0 * 65536) (take 65536 e.1) (inr after))
        ∙ all_merged o (e.0 * 65536 + length (take 65536 e.1)) es few (behind_row e.0 e.1 es rise.2) after lt
        ∙ behind_it (o / 65536 == e.0) o e es few refl rise.2 after
        ∙ ap (λ (t : Bool). slot_in (cond t (Some e.1) (lookup (is_at (nat_cmp (o / 65536))) es)) (o % 65536) (lookup (is_at (nat_cmp o)) few)) (sym (at_same (o / 65536) e.0))
  ]
]

-- an id of more than eight bytes isn't there
none_beyond : (o from : ℕ) (rows : List (ℕ × List ℕ)) (few : List (ℕ × ℕ)) → RowsRiseFrom from rows → 2 ^ 64 ≤ o → lookup (is_at (nat_cmp o)) (merged from rows few) ≡ None
none_beyond o from [] few rise le = found_in o (from_on from) false few (from_none from o le)
none_beyond o from (e ∷ es) few rise le =
    parts o from e es few None None (found_in o (within from (e.0 * 65536)) false few (within_behind from (e.0 * 65536) o (omega (arith, le, rise.1)))) (not_numbered o (e.0 * 65536) (take 65536 e.1) (inr (omega (arith, le, rise.1, reached_most e.1))))
    ∙ none_beyond o (e.0 * 65536 + length (take 65536 e.1)) es few (behind_row e.0 e.1 es rise.2) le

-- ---- ids rise

abbrev pub KeysRiseFrom : {X : Type 0} → ℕ → List (ℕ × X) → Type 0
KeysRiseFrom n [] = Unit {0}
KeysRiseFrom n (e ∷ es) = (n ≤ e.0) × KeysRiseFrom (e.0 + 1) es

weaker_keys : (m n : ℕ) (es : List (ℕ × ℕ)) → m ≤ n → KeysRiseFrom n es → KeysRiseFrom m es
weaker_keys m n [] le rise = tt
weaker_keys m n (e ∷ es) le rise = (omega (arith, le, rise.0), rise.1)

in_part : (lo hi q : ℕ) → within lo hi q ≡ true → (lo ≤ q) × (q < hi)
in_part lo hi q is = elim (cases_lt q lo) [
  | inl lt ↦ absurd (false≢true (sym (within_below lo hi q lt) ∙ is))
  | inr le ↦ elim (cases_lt q hi) [
    | inl lt ↦ (le, lt)
    | inr behind ↦ absurd (false≢true (sym (within_behind lo hi q behind) ∙ is))
  ]
]

in_rest : (lo q : ℕ) → from_on lo q ≡ true → lo ≤ q
in_rest lo q is = elim (cases_lt q lo) [
  | inl lt ↦ absurd (false≢true (sym (from_no lo q lt) ∙ is))
  | inr le ↦ le
]

-- those of a part, before others that rise from its end on
part_rises : (n k lo hi : ℕ) (es more : List (ℕ × ℕ)) → KeysRiseFrom k es → n ≤ max k lo → n ≤ hi → KeysRiseFrom hi more → KeysRiseFrom n (entries_between nat_cmp (Included lo) (Excluded hi) es ++ more)
part_rises n k lo hi [] more rise le to later = weaker_keys n hi more to later
part_rises n k lo hi (e ∷ es) more rise le to later = each (within lo hi e.0) refl (λ m below most. part_rises m (e.0 + 1) lo hi es more rise.1 below most later)
  where
    others : List (ℕ × ℕ)
    others = entries_between nat_cmp (Included lo) (Excluded hi) es

    each : (t : Bool) → within lo hi e.0 ≡ t → ((m : ℕ) → m ≤ max (e.0 + 1) lo → m ≤ hi → KeysRiseFrom m (others ++ more)) → KeysRiseFrom n (cond t (e ∷ others) others ++ more)
    each true is rest =
        let within_it = in_part lo hi e.0 is in
        (omega (arith, le, rise.0, within_it.0), rest (e.0 + 1) (omega arith) (omega (arith, within_it.1)))
    each false is rest = rest n (omega (arith, le, rise.0)) to

rest_rises : (n k lo : ℕ) (es : List (ℕ × ℕ)) → KeysRiseFrom k es → n ≤ max k lo → KeysRiseFrom n (entries_between nat_cmp (Included lo) (Included (2 ^ 64 - 1)) es)
rest_rises n k lo [] rise le = tt
rest_rises n k lo (e ∷ es) rise le = each (from_on lo e.0) refl (λ m below. rest_rises m (e.0 + 1) lo es rise.1 below)
  where
    others : List (ℕ × ℕ)
    others = entries_between nat_cmp (Included lo) (Included (2 ^ 64 - 1)) es

    each : (t : Bool) → from_on lo e.0 ≡ t → ((m : ℕ) → m ≤ max (e.0 + 1) lo → KeysRiseFrom m others) → KeysRiseFrom n (cond t (e ∷ others) others)
    each true is rest = (omega (arith, le, rise.0, in_rest lo e.0 is), rest (e.0 + 1) (omega arith))
    each false is rest = rest n (omega (arith, le, rise.0))

numbers_rise : (n : ℕ) (places : List ℕ) (more : List (ℕ × ℕ)) → KeysRiseFrom (n + length places) more → KeysRiseFrom n (numbered n places ++ more)
numbers_rise n [] more later = weaker_keys n (n + 0) more (omega arith) later
numbers_rise n (p ∷ places) more later = (omega arith, numbers_rise (n + 1) places more (weaker_keys (n + 1 + length places) (n + length (p ∷ places)) more (omega arith) later))

merged_rises : (from : ℕ) (rows : List (ℕ × List ℕ)) (few : List (ℕ × ℕ)) → RowsRiseFrom from rows → KeysRiseFrom 0 few → KeysRiseFrom from (merged from rows few)
merged_rises from [] few rise keys = rest_rises from 0 from few keys (omega arith)
merged_rises from (e ∷ es) few rise keys =
    part_rises from 0 from (e.0 * 65536) few _ keys (omega arith) rise.0
    (numbers_rise (e.0 * 65536) (take 65536 e.1) _ (merged_rises (e.0 * 65536 + length (take 65536 e.1)) es few (behind_row e.0 e.1 es rise.2) keys))

-- ---- what a tree's order says

next_rises : {X : Type 0} (k : ℕ) (es : List (ℕ × X)) → AllByRecursion (λ y. nat_cmp k y ≡ Less) (keys_of es) → IsStrictlySortedBy nat_cmp (keys_of es) → KeysRiseFrom (k + 1) es
unfolding IsStrictlySortedBy
next_rises k [] less sorted = tt
next_rises k (e ∷ es) less sorted = (omega (arith, ranked k e.0 Less (sym less.0)), next_rises e.0 es sorted.0 sorted.1)

keys_rise : {X : Type 0} (es : List (ℕ × X)) → IsStrictlySortedBy nat_cmp (keys_of es) → KeysRiseFrom 0 es
unfolding IsStrictlySortedBy
keys_rise [] sorted = tt
keys_rise (e ∷ es) sorted = (omega arith, next_rises e.0 es sorted.0 sorted.1)

rows_from : (n : ℕ) (es : List (ℕ × List ℕ)) → KeysRiseFrom n es → RowsRiseFrom (n * 65536) (entries_between nat_cmp (Included 0) (Excluded (2 ^ 48)) es)
rows_from n [] rise = tt
rows_from n (e ∷ es) rise = each (within 0 (2 ^ 48) e.0) refl (rows_from (e.0 + 1) es rise.1)
  where
    others : List (ℕ × List ℕ)
    others = entries_between nat_cmp (Included 0) (Excluded (2 ^ 48)) es

    each : (t : Bool) → within 0 (2 ^ 48) e.0 ≡ t → RowsRiseFrom ((e.0 + 1) * 65536) others → RowsRiseFrom (n * 65536) (cond t (e ∷ others) others)
    each true is rest = (omega (arith, rise.0), (in_part 0 (2 ^ 48) e.0 is).1, rest)
    each false is rest = weaker_rows (n * 65536) ((e.0 + 1) * 65536) others (omega (arith, rise.0)) rest

-- the rows of an index, in their order
abbrev pub ordered_rows : List (ℕ × List ℕ) → List (ℕ × List ℕ)
ordered_rows rows = entries_between nat_cmp (Included 0) (Excluded (2 ^ 48)) rows

pub rows_rise : (rows : List (ℕ × List ℕ)) → IsStrictlySortedBy nat_cmp (keys_of rows) → RowsRiseFrom 0 (ordered_rows rows)
rows_rise rows sorted = rows_from 0 rows (keys_rise rows sorted)

-- ---- the list of those that have a place

no_place : (o n : ℕ) (rs : List Row) → OidsRiseFrom n rs → o < n → place_for o rs ≡ None
no_place o n [] rise lt = refl
no_place o n (row ∷ rs) rise lt = rw (ne_eqb o row.oid (λ e. omega (arith, e, lt, rise.0))) (no_place o (row.oid + 1) rs rise.1 (omega (arith, lt, rise.0)))

weaker_oids : (m n : ℕ) (rs : List Row) → m ≤ n → OidsRiseFrom n rs → OidsRiseFrom m rs
weaker_oids m n [] le rise = tt
weaker_oids m n (row ∷ rs) le rise = (omega (arith, le, rise.0), rise.1)

known_rises : (n : ℕ) (es : List (ℕ × ℕ)) → KeysRiseFrom n es → OidsRiseFrom n (known_rows es)
known_rises n [] rise = tt
known_rises n (e ∷ es) rise = each (known e.1) (known_rises (e.0 + 1) es rise.1)
  where
    each : (f : Option ℕ) → OidsRiseFrom (e.0 + 1) (known_rows es) → OidsRiseFrom n (row_if e.0 f ++ known_rows es)
    each None rest = weaker_oids n (e.0 + 1) (known_rows es) (omega (arith, rise.0)) rest
    each (Some place) rest = (rise.0, rest)

first_known : (t : Bool) (o id place : ℕ) (f other : Option ℕ) (rs : List Row) → (o == id) ≡ t → OidsRiseFrom (id + 1) rs → known place ≡ f → place_for o rs ≡ known_in other → place_for o (row_if id f ++ rs) ≡ known_in (cond t (Some place) other)
first_known true o id place None other rs is rise kn rest = no_place o (id + 1) rs rise (omega (arith, eqb-true o id is)) ∙ sym kn
first_known true o id place (Some p) other rs is rise kn rest = rw is (sym kn)
first_known false o id place None other rs is rise kn rest = rest
first_known false o id place (Some p) other rs is rise kn rest = rw is rest

place_known : (o n : ℕ) (es : List (ℕ × ℕ)) → KeysRiseFrom n es → place_for o (known_rows es) ≡ known_in (lookup (is_at (nat_cmp o)) es)
place_known o n [] rise = refl
place_known o n (e ∷ es) rise =
    first_known (o == e.0) o e.0 e.1 (known e.1) (lookup (is_at (nat_cmp o)) es) (known_rows es) refl (known_rises (e.0 + 1) es rise.1) refl (place_known o (e.0 + 1) es rise.1)
    ∙ ap (λ (t : Bool). known_in (cond t (Some e.1) (lookup (is_at (nat_cmp o)) es))) (sym (at_same o e.0))

-- ---- the whole list, and one that ends with the last id

first_there : (k place : ℕ) (others : Option ℕ) → cond (is_at (nat_cmp k) k) (Some place) others ≡ Some place
first_there k place others = rw (at_same k k ∙ eq-eqb k k refl) refl

none_known : (end : ℕ) (es : List (ℕ × ℕ)) → 2 ^ 64 ≤ end → KeysRiseFrom end es → ((o : ℕ) → 2 ^ 64 ≤ o → lookup (is_at (nat_cmp o)) es ≡ None) → known_rows es ≡ []
none_known end [] past rise none = refl
none_known end (e ∷ es) past rise none = absurd (let some : Some e.1 ≡ None = sym (first_there e.0 e.1 (lookup (is_at (nat_cmp e.0)) es)) ∙ none e.0 (omega (arith, past, rise.0)) in cc)

whole_place : (s : Slots) (o : ℕ) → o < 2 ^ 64 → IsStrictlySortedBy nat_cmp (keys_of s.rows) → IsStrictlySortedBy nat_cmp (keys_of s.few) → place_for o (known_rows (merged 0 (ordered_rows s.rows) s.few)) ≡ place_of s o
whole_place s o lt rows few =
    place_known o 0 (merged 0 (ordered_rows s.rows) s.few) (merged_rises 0 (ordered_rows s.rows) s.few (rows_rise s.rows rows) (keys_rise s.few few))
    ∙ ap known_in
    (all_merged o 0 (ordered_rows s.rows) s.few (rows_rise s.rows rows) (omega arith) lt
    ∙ ap (λ (f : Option (List ℕ)). slot_in f (o % 65536) (lookup (is_at (nat_cmp o)) s.few)) (found_in (o / 65536) (within 0 (2 ^ 48)) true s.rows (within_yes 0 (2 ^ 48) (o / 65536) (omega arith) (omega (arith, lt))))
    ∙ sym (slot_is s o))

pub lists_all : (s : Slots) (list : List Row) → IsStrictlySortedBy nat_cmp (keys_of s.rows) → IsStrictlySortedBy nat_cmp (keys_of s.few) → list ≡ known_rows (merged 0 (ordered_rows s.rows) s.few) → Lists s list
lists_all s list rows few is = record {
  rise = subst (OidsRiseFrom 0) (sym is) (known_rises 0 (merged 0 (ordered_rows s.rows) s.few) (merged_rises 0 (ordered_rows s.rows) s.few (rows_rise s.rows rows) (keys_rise s.few few)));
  each = λ o lt. ap (place_for o) is ∙ whole_place s o lt rows few;
  ids = λ o le.
      ap (place_for o) is
      ∙ place_known o 0 (merged 0 (ordered_rows s.rows) s.few) (merged_rises 0 (ordered_rows s.rows) s.few (rows_rise s.rows rows) (keys_rise s.few few))
      ∙ ap known_in (none_beyond o 0 (ordered_rows s.rows) s.few (rows_rise s.rows rows) le);
}

-- where the last row ends with the last id, nothing is behind it
pub lists_front : (s : Slots) (list : List Row) (end : ℕ) (others : List (ℕ × List ℕ)) → IsStrictlySortedBy nat_cmp (keys_of s.rows) → IsStrictlySortedBy nat_cmp (keys_of s.few) → 2 ^ 64 ≤ end → RowsRiseFrom end others → list ++ known_rows (merged end others s.few) ≡ known_rows (merged 0 (ordered_rows s.rows) s.few) → Lists s list
lists_front s list end others rows few past rise is =
    subst (Lists s) (ap (λ (r : List Row). list ++ r) (none_known end (merged end others s.few) past (merged_rises end others s.few rise (keys_rise s.few few)) (λ o le. none_beyond o end others s.few rise le)) ∙ append-nil list)
    (lists_all s (list ++ known_rows (merged end others s.few)) rows few is)

-- ---- the loops

known-append : (xs ys : List (ℕ × ℕ)) → known_rows (xs ++ ys) ≡ known_rows xs ++ known_rows ys
known-append [] ys = refl
known-append (x ∷ xs) ys = ap (λ (r : List Row). row_if x.0 (known x.1) ++ r) (known-append xs ys) ∙ sym (append_assoc (row_if x.0 (known x.1)) (known_rows xs) (known_rows ys))

-- a row went into the list, with what the tree has before it
pub row_listed : (from : ℕ) (e : ℕ × List ℕ) (es : List (ℕ × List ℕ)) (few : List (ℕ × ℕ)) (rows after listed : List Row) → after ≡ rows ++ known_rows (entries_between nat_cmp (Included from) (Excluded (e.0 * 65536)) few) → listed ≡ after ++ known_rows (numbered (e.0 * 65536) (take 65536 e.1)) → listed ++ known_rows (merged (e.0 * 65536 + length (take 65536 e.1)) es few) ≡ rows ++ known_rows (merged from (e ∷ es) few)
row_listed from e es few rows after listed first second =
    let gap = entries_between nat_cmp (Included from) (Excluded (e.0 * 65536)) few in
    let row = numbered (e.0 * 65536) (take 65536 e.1) in
    let more = merged (e.0 * 65536 + length (take 65536 e.1)) es few in
    ap (λ (r : List Row). r ++ known_rows more) (second ∙ ap (λ (r : List Row). r ++ known_rows row) first ∙ append_assoc rows (known_rows gap) (known_rows row))
    ∙ append_assoc rows (known_rows gap ++ known_rows row) (known_rows more)
    ∙ ap (λ (r : List Row). rows ++ r) (append_assoc (known_rows gap) (known_rows row) (known_rows more) ∙ ap (λ (r : List Row). known_rows gap ++ r) (sym (known-append row more)) ∙ sym (known-append gap (row ++ more)))

numbered-more : (n i : ℕ) (places : List ℕ) → i < length places → known_rows (numbered n (take (suc i) places)) ≡ known_rows (numbered n (take i places)) ++ row_if (n + i) (known (get_or places i 0))
numbered-more n i [] lt = absurd (omega arith)
numbered-more n zero (p ∷ places) lt = append-nil (row_if n (known p)) ∙ ap (λ (o : ℕ). row_if o (known p)) (omega arith)
numbered-more n (suc i) (p ∷ places) lt =
    ap (λ (r : List Row). row_if n (known p) ++ r) (numbered-more (n + 1) i places (omega (arith, lt)) ∙ ap (λ (o : ℕ). known_rows (numbered (n + 1) (take i places)) ++ row_if o (known (get_or places i 0))) (omega arith))
    ∙ sym (append_assoc (row_if n (known p)) (known_rows (numbered (n + 1) (take i places))) (row_if (n + suc i) (known (get_or places i 0))))

-- a place of a row went into the list
pub place_listed : (n i place : ℕ) (places : List ℕ) (old rows after : List Row) → i < length (take 65536 places) → place ≡ get_or places i 0 → rows ≡ old ++ known_rows (numbered n (take i (take 65536 places))) → after ≡ rows ++ row_if (n + i) (known place) → after ≡ old ++ known_rows (numbered n (take (i + 1) (take 65536 places)))
place_listed n i place places old rows after lt is so added =
    let most = length-take 65536 places in
    added
    ∙ ap (λ (r : List Row). r ++ row_if (n + i) (known place)) so
    ∙ append_assoc old (known_rows (numbered n (take i (take 65536 places)))) (row_if (n + i) (known place))
    ∙ ap (λ (p : ℕ). old ++ (known_rows (numbered n (take i (take 65536 places))) ++ row_if (n + i) (known p))) (is ∙ sym (get_or-take 65536 places i 0 (omega (arith, lt, most))))
    ∙ ap (λ (r : List Row). old ++ r) (sym (numbered-more n i (take 65536 places) lt))
    ∙ ap (λ (k : ℕ). old ++ known_rows (numbered n (take k (take 65536 places)))) (sym (add-one i))

pub reach_is : (places : List ℕ) (r : ℕ) → r ≡ min (length places) 65536 → r ≡ length (take 65536 places)
reach_is places r is = omega (arith, is, length-take 65536 places)

-- the order that the rows left have, behind one
pub others_rise : (from behind : ℕ) (rows others : List (ℕ × List ℕ)) (e : ℕ × List ℕ) → rows ≡ e ∷ others → behind ≡ e.0 * 65536 + length (take 65536 e.1) → RowsRiseFrom from rows → RowsRiseFrom behind others
others_rise from behind rows others e is at rise = subst (λ (n : ℕ). RowsRiseFrom n others) (sym at) (behind_row e.0 e.1 others (subst (RowsRiseFrom from) is rise).2)

-- a row went into the list, of those that are left
pub goes_on : (from behind : ℕ) (rows others : List (ℕ × List ℕ)) (e : ℕ × List ℕ) (few : List (ℕ × ℕ)) (before after listed all : List Row) → rows ≡ e ∷ others → behind ≡ e.0 * 65536 + length (take 65536 e.1) → before ++ known_rows (merged from rows few) ≡ all → after ≡ before ++ known_rows (entries_between nat_cmp (Included from) (Excluded (e.0 * 65536)) few) → listed ≡ after ++ known_rows (numbered (e.0 * 65536) (take 65536 e.1)) → listed ++ known_rows (merged behind others few) ≡ all
goes_on from behind rows others e few before after listed all is at same first second =
    ap (λ (n : ℕ). listed ++ known_rows (merged n others few)) at
    ∙ row_listed from e others few before after listed first second
    ∙ ap (λ (es : List (ℕ × List ℕ)). before ++ known_rows (merged from es few)) (sym is)
    ∙ same

pub not_greater : (a b : ℕ) → a ≤ b → is_gt (nat_cmp a b) ≡ false
not_greater a b le = go (nat_cmp a b) (ranked a b (nat_cmp a b) refl)
  where
    go : (r : Ordering) → MatchOrdering r (a < b) (a ≡ b) (b < a) → is_gt r ≡ false
    go Less m = refl
    go Equal m = refl
    go Greater m = absurd (omega (arith, m, le))

-- the rows that are left lie behind what was passed
pub ahead : (from : ℕ) (rows others : List (ℕ × List ℕ)) (e : ℕ × List ℕ) → rows ≡ e ∷ others → RowsRiseFrom from rows → is_gt (nat_cmp from (e.0 * 65536)) ≡ false
ahead from rows others e is rise = not_greater from (e.0 * 65536) (subst (RowsRiseFrom from) is rise).0
