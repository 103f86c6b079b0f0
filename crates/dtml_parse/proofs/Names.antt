-- A set of names, as a loop fills it.
use Rattle.std.proofs.Common.{◌≡◌, ℕ, suc, ◌+◌, ◌<◌, length, map, drop, get_or, add-one, drop-cons, not, ◌||◌, ◌&&◌, List, [], ◌∷◌, Bool, true, false, refl, sym, ap, ap₂, ◌∙◌, nat_cmp, Ordering, Less, Equal, Greater}
use Rattle.std.specs.List.{list_any, list_all}
use Rattle.std.specs.Ordering.{is_eq}
use Rattle.std.specs.Cmp.Lexicographic.{slice_cmp}
use Rattle.std.specs.Str.{bytes_eq}
use Rattle.std.specs.BTreeMap.{is_at}
use Rattle.std.specs.BTreeSet.{BTreeSet, insert_key, contains_by}
use denote.Ref.{Bor}
use Rattle.std.proofs.lemmas.Map.Text.{is_eq-slice_cmp}
use Rattle.std.proofs.lemmas.Slice.Eq.{bytes_eq-Decides}
use Rattle.dtml_lex.specs.declared.part.Attribute.{Attribute}
use Rattle.dtml_parse.specs.Table.{attribute_name, are_distinct}

-- the set has these names and no other
abbrev pub Knows : BTreeSet (Bor (List ℕ)) → List (List ℕ) → Type 0
Knows names list = (q : List ℕ) → contains_by (λ k. slice_cmp nat_cmp q k.now) names ≡ list_any (bytes_eq q) list

abbrev order : Bor (List ℕ) → Bor (List ℕ) → Ordering
order x y = slice_cmp nat_cmp x.now y.now

-- whether a key is that name
abbrev names : List ℕ → Bor (List ℕ) → Bool
names q = is_at (λ (k : Bor (List ℕ)). slice_cmp nat_cmp q k.now)

pub knows_none : (set : BTreeSet (Bor (List ℕ))) → set.keys ≡ [] → Knows set []
knows_none set e q = ap (list_any (λ (x : Bor (List ℕ)). is_eq (slice_cmp nat_cmp q x.now))) e

twice : (a b : Bool) → (a || b) ≡ (a || (a || b))
twice true b = refl
twice false b = refl

swap : (a b c : Bool) → (a || (b || c)) ≡ (b || (a || c))
swap true true c = refl
swap true false c = refl
swap false b c = refl

same : (k x : List ℕ) → slice_cmp nat_cmp k x ≡ Equal → k ≡ x
same k x e = (bytes_eq-Decides k x).0 (sym (is_eq-slice_cmp k x) ∙ ap is_eq e)

inserted : (q : List ℕ) (k : Bor (List ℕ)) (ks : List (Bor (List ℕ))) → list_any (names q) (insert_key order ks k) ≡ (bytes_eq q k.now || list_any (names q) ks)
inserted q k [] = ap (λ b. b || false) (is_eq-slice_cmp q k.now)
inserted q k (x ∷ xs) = (elim (slice_cmp nat_cmp k.now x.now) as (λ o. slice_cmp nat_cmp k.now x.now ≡ o → list_any (names q) (insert_key order (x ∷ xs) k) ≡ (bytes_eq q k.now || list_any (names q) (x ∷ xs))) [
  | Less ↦ λ e. rw e (ap (λ b. b || list_any (names q) (x ∷ xs)) (is_eq-slice_cmp q k.now))
  | Equal ↦ λ e. rw e (twice (names q x) (list_any (names q) xs) ∙ ap (λ b. b || list_any (names q) (x ∷ xs)) (ap (λ n. is_eq (slice_cmp nat_cmp q n)) (sym (same k.now x.now e)) ∙ is_eq-slice_cmp q k.now))
  | Greater ↦ λ e. rw e (ap (λ b. names q x || b) (inserted q k xs) ∙ swap (names q x) (bytes_eq q k.now) (list_any (names q) xs))
]) refl

pub knows_more : (old new : BTreeSet (Bor (List ℕ))) (k : Bor (List ℕ)) (list : List (List ℕ)) → new.keys ≡ insert_key order old.keys k → Knows old list → Knows new (k.now ∷ list)
knows_more old new k list e h q = ap (list_any (names q)) e ∙ inserted q k old.keys ∙ ap (λ b. bytes_eq q k.now || b) (h q)

-- ---- names that are new, one after the other

abbrev pub all_new : List (List ℕ) → List (List ℕ) → Bool
all_new seen [] = true
all_new seen (n ∷ ns) = not (list_any (bytes_eq n) seen) && all_new (n ∷ seen) ns

abbrev none_of : List (List ℕ) → List (List ℕ) → Bool
none_of seen ns = list_all (λ n. not (list_any (bytes_eq n) seen)) ns

same_test : (a b : Bool) → (a ≡ true → b ≡ true) → (b ≡ true → a ≡ true) → a ≡ b
same_test true true f g = refl
same_test true false f g = sym (f refl)
same_test false true f g = g refl
same_test false false f g = refl

bytes_eq-swap : (a b : List ℕ) → bytes_eq a b ≡ bytes_eq b a
bytes_eq-swap a b = same_test (bytes_eq a b) (bytes_eq b a) (λ e. (bytes_eq-Decides b a).1 (sym ((bytes_eq-Decides a b).0 e))) (λ e. (bytes_eq-Decides a b).1 (sym ((bytes_eq-Decides b a).0 e)))

spread : (x y a b : Bool) → (not (x || y) && (not a && b)) ≡ (not (x || a) && (not y && b))
spread true y a b = refl
spread false true true b = refl
spread false true false b = refl
spread false false true b = refl
spread false false false b = refl

none_more : (n : List ℕ) (seen ns : List (List ℕ)) → none_of (n ∷ seen) ns ≡ (not (list_any (bytes_eq n) ns) && none_of seen ns)
none_more n seen [] = refl
none_more n seen (m ∷ ns) =
    ap₂ (λ (x t : Bool). not (x || list_any (bytes_eq m) seen) && t) (bytes_eq-swap m n) (none_more n seen ns)
    ∙ spread (bytes_eq n m) (list_any (bytes_eq m) seen) (list_any (bytes_eq n) ns) (none_of seen ns)

regroup : (a b c d : Bool) → (not a && ((not b && c) && d)) ≡ ((not a && c) && (not b && d))
regroup true b c d = refl
regroup false true true d = refl
regroup false true false d = refl
regroup false false true d = refl
regroup false false false d = refl

new_is : (seen ns : List (List ℕ)) → all_new seen ns ≡ (none_of seen ns && are_distinct ns)
new_is seen [] = refl
new_is seen (n ∷ ns) =
    ap (λ (t : Bool). not (list_any (bytes_eq n) seen) && t) (new_is (n ∷ seen) ns ∙ ap (λ (t : Bool). t && are_distinct ns) (none_more n seen ns))
    ∙ regroup (list_any (bytes_eq n) seen) (list_any (bytes_eq n) ns) (none_of seen ns) (are_distinct ns)

all_none : (ns : List (List ℕ)) → none_of [] ns ≡ true
all_none [] = refl
all_none (n ∷ ns) = all_none ns

pub all_new_is : (ns : List (List ℕ)) → all_new [] ns ≡ are_distinct ns
all_new_is ns = new_is [] ns ∙ ap (λ (t : Bool). t && are_distinct ns) (all_none ns)

pub untrue : (found known : Bool) (added : Bool) → added ≡ not found → added ≡ true → found ≡ known → known ≡ false
untrue true known added a t e = absurd cc
untrue false known added a t e = sym e

-- a name that is new is seen from then on
pub new_one : (attributes : List Attribute) (i : ℕ) (item : Attribute) (seen : List (List ℕ)) (n : List ℕ) (total : Bool) → i < length attributes → item ≡ get_or attributes i item → n ≡ attribute_name item
    → list_any (bytes_eq n) seen ≡ false → all_new seen (map attribute_name (drop i attributes)) ≡ total → all_new (n ∷ seen) (map attribute_name (drop (i + 1) attributes)) ≡ total
new_one attributes i item seen n total lt is named fresh h =
    let d : drop i attributes ≡ item ∷ drop (i + 1) attributes = rw (add-one, drop-cons attributes i item lt) (ap (λ (x : Attribute). x ∷ drop (suc i) attributes) (sym is)) in
    let e : all_new seen (map attribute_name (drop i attributes)) ≡ (not (list_any (bytes_eq n) seen) && all_new (n ∷ seen) (map attribute_name (drop (i + 1) attributes))) = rw (d, named) refl in
    let f : (not (list_any (bytes_eq n) seen) && all_new (n ∷ seen) (map attribute_name (drop (i + 1) attributes))) ≡ all_new (n ∷ seen) (map attribute_name (drop (i + 1) attributes)) = rw fresh refl in
    sym f ∙ (sym e ∙ h)
