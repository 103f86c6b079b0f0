-- Texts that are sought among names: their marks, and those of them that weren't met.
use Rattle.std.proofs.Common.{◌≡◌, ◌∙◌, ℕ, zero, suc, ◌+◌, ◌<◌, length, drop, get_or, map-id, set, ◌++◌, append_assoc, ◌||◌, ◌&&◌, not, cond, Bool, true, false, List, [], ◌∷◌, map, Some, if◌then◌else◌, refl, sym, ap, subst, arith}
use Rattle.std.specs.List.{AllZip, filter, find, list_any}
use Rattle.std.specs.Str.{bytes_eq}
use Rattle.std.specs.BTreeMap.{is_at}
use Rattle.std.specs.BTreeSet.{BTreeSet}
use Rattle.std.specs.Cmp.Lexicographic.{slice_cmp}
use Rattle.std.specs.Ordering.{nat_cmp}
use Rattle.std.specs.Set.{remove_key}
use Rattle.std.proofs.lemmas.List.{append-nil, get_or-set_same}
use Rattle.std.proofs.lemmas.Map.Text.{is_eq-slice_cmp}
use Rattle.std.proofs.lemmas.Nat.{mod_below}
use Rattle.std.proofs.lemmas.Slice.Eq.{bytes_eq-Decides}
use Rattle.std.proofs.lemmas.Slice.Zip.{AllZip-map}
use denote.Ref.{Bor}
use Rattle.manage.specs.declared.seeking.TheConstants.{MARKS}
use Rattle.manage.specs.Becoming.{is_among}
use Rattle.manage.specs.Naming.{IsMarked, IsUnnamed, Knows, has, is_marked, mark_of}
use Rattle.manage.specs.Refusing.{first_unknown}
use Rattle.manage.proofs.Names.{front_of}

no_more : (a : Bool) → (a && false) ≡ false
no_more true = refl
no_more false = refl

and_true : (a : Bool) → (a && true) ≡ a
and_true true = refl
and_true false = refl

or_true : (a : Bool) → (a || true) ≡ true
or_true true = refl
or_true false = refl

-- ---- marks

pub mark_below : (t : List ℕ) → mark_of t < MARKS
unfolding mark_of
mark_below t = mod_below _ MARKS (omega arith)

-- a mark that is set stays so
stays_set : (marks : List Bool) (i j : ℕ) → get_or marks j false ≡ true → get_or (set marks i true) j false ≡ true
stays_set [] i j e = e
stays_set (m ∷ ms) zero zero e = refl
stays_set (m ∷ ms) zero (suc j) e = e
stays_set (m ∷ ms) (suc i) zero e = e
stays_set (m ∷ ms) (suc i) (suc j) e = stays_set ms i j e

-- the marks of the texts are set but those that are still to come
abbrev pub AreMarkedBut : List (List ℕ) → List (List ℕ) → List Bool → Type 0
AreMarkedBut rest texts marks = (q : List ℕ) → is_among texts q ≡ true → (is_marked marks q || is_among rest q) ≡ true

marked_or : (old new : List Bool) (t : List ℕ) (rest : List (List ℕ)) (q : List ℕ) → length old ≡ MARKS → new ≡ set old (mark_of t) true → (is_marked old q || (bytes_eq q t || is_among rest q)) ≡ true → (is_marked new q || is_among rest q) ≡ true
marked_or old new t rest q long is e = at (bytes_eq q t) refl (is_marked old q) refl e
  where
    is_set : is_marked new t ≡ true
    is_set = ap (λ (ms : List Bool). is_marked ms t) is ∙ get_or-set_same old (mark_of t) true false (subst (λ (n : ℕ). mark_of t < n) (sym long) (mark_below t))

    at : (b : Bool) → bytes_eq q t ≡ b → (m : Bool) → is_marked old q ≡ m → (m || (b || is_among rest q)) ≡ true → (is_marked new q || is_among rest q) ≡ true
    at true same m old_is h = ap (λ (u : List ℕ). is_marked new u || is_among rest q) ((bytes_eq-Decides q t).0 same) ∙ ap (λ b. b || is_among rest q) is_set
    at false apart true old_is h = ap (λ b. b || is_among rest q) (ap (λ (ms : List Bool). is_marked ms q) is ∙ stays_set old (mark_of t) (mark_of q) old_is)
    at false apart false old_is h = ap (λ b. is_marked new q || b) h ∙ or_true (is_marked new q)

-- so after each text
pub marked_more : (xs : List (List ℕ)) (i : ℕ) (item t : List ℕ) (old new : List Bool) → i < length xs → item ≡ get_or xs i item → t ≡ item → length old ≡ MARKS → new ≡ set old (mark_of t) true
    → AreMarkedBut (drop i xs) xs old → AreMarkedBut (drop (i + 1) xs) xs new
marked_more xs i item t old new lt is same long set_so h q among =
    marked_or old new t (drop (i + 1) xs) q long set_so
    (subst (λ (ys : List (List ℕ)). (is_marked old q || is_among ys q) ≡ true) (front_of xs i item lt is ∙ ap (λ (u : List ℕ). u ∷ drop (i + 1) xs) (sym same)) (h q among))

-- ---- sets

names : List ℕ → Bor (List ℕ) → Bool
names q = is_at (λ (k : Bor (List ℕ)). slice_cmp nat_cmp q k.now)

-- a copy has the same texts
pub same_keys : (xs ys : List (Bor (List ℕ))) → AllZip (λ x y. y ≡ x) xs ys → ys ≡ xs
same_keys xs ys all = AllZip-map (λ x. x) xs ys all ∙ map-id xs

pub copy_knows : (set copy : BTreeSet (Bor (List ℕ))) (texts : List (List ℕ)) → copy.keys ≡ set.keys → Knows set texts → Knows copy texts
unfolding names
copy_knows set copy texts same knows q = ap (list_any (names q)) same ∙ knows q

kept : (q t : List ℕ) (ks : List (Bor (List ℕ))) → bytes_eq q t ≡ false → list_any (names q) (remove_key (names t) ks) ≡ list_any (names q) ks
unfolding names
kept q t [] n = refl
kept q t (x ∷ xs) n = at (names t x) refl (kept q t xs n)
  where
    at : (b : Bool) → names t x ≡ b → list_any (names q) (remove_key (names t) xs) ≡ list_any (names q) xs
        → list_any (names q) (cond b xs (x ∷ remove_key (names t) xs)) ≡ (names q x || list_any (names q) xs)
    at true e h = (
        let is = (bytes_eq-Decides t x.now).0 (sym (is_eq-slice_cmp t x.now) ∙ e) in
        ap (λ b. b || list_any (names q) xs) (sym (is_eq-slice_cmp q x.now ∙ ap (bytes_eq q) (sym is) ∙ n))
        )
    at false e h = ap (λ b. names q x || b) h

-- of the texts that weren't met, those that aren't this one
abbrev pub Leaves : BTreeSet (Bor (List ℕ)) → BTreeSet (Bor (List ℕ)) → List ℕ → Type 0
Leaves old new t = (q : List ℕ) → has new q ≡ (has old q && not (bytes_eq q t))

pub taken_out : (old new : BTreeSet (Bor (List ℕ))) (t : List ℕ) → new.keys ≡ remove_key (is_at (λ (k : Bor (List ℕ)). slice_cmp nat_cmp t k.now)) old.keys → has new t ≡ false → Leaves old new t
unfolding names
taken_out old new t e gone q = at (bytes_eq q t) refl
  where
    at : (b : Bool) → bytes_eq q t ≡ b → has new q ≡ (has old q && not b)
    at true is = ap (has new) ((bytes_eq-Decides q t).0 is) ∙ gone ∙ sym (no_more (has old q))
    at false n = ap (list_any (names q)) e ∙ kept q t old.keys n ∙ sym (and_true (has old q))

-- a name whose mark isn't set is none of the texts
pub unmarked : (texts unmet : BTreeSet (Bor (List ℕ))) (marks : List Bool) (t : List ℕ) → IsMarked texts unmet marks → is_marked marks t ≡ false → has texts t ≡ false
unmarked texts unmet marks t marked not_set = at (has texts t) refl
  where
    at : (b : Bool) → has texts t ≡ b → b ≡ false
    at true is = absurd (let bad = sym not_set ∙ marked.1 t is in cc)
    at false is = refl

-- and to meet it changes nothing
pub none_met : (texts unmet : BTreeSet (Bor (List ℕ))) (t : List ℕ) → ((q : List ℕ) → has unmet q ≡ true → has texts q ≡ true) → has texts t ≡ false → Leaves unmet unmet t
none_met texts unmet t within none q = at (bytes_eq q t) refl (has unmet q) refl
  where
    at : (b : Bool) → bytes_eq q t ≡ b → (m : Bool) → has unmet q ≡ m → m ≡ (m && not b)
    at false apart m is = sym (and_true m)
    at true same false is = refl
    at true same true is = absurd (let bad = sym none ∙ ap (has texts) (sym ((bytes_eq-Decides q t).0 same)) ∙ within q is in cc)

-- what is left of the texts is among them
pub still_within : (texts old new : BTreeSet (Bor (List ℕ))) (t : List ℕ) → ((q : List ℕ) → has old q ≡ true → has texts q ≡ true) → Leaves old new t → (q : List ℕ) → has new q ≡ true → has texts q ≡ true
still_within texts old new t within leaves q is = at (has old q) refl (sym (leaves q) ∙ is)
  where
    at : (b : Bool) → has old q ≡ b → (b && not (bytes_eq q t)) ≡ true → has texts q ≡ true
    at true old_is h = within q old_is
    at false old_is h = absurd (let bad = h in cc)

-- ---- over items

and_not : (a b c : Bool) → ((a && not b) && not c) ≡ (a && not (b || c))
and_not true true c = refl
and_not true false c = refl
and_not false b c = refl

-- so after each name of an item
pub one_less : {A : Type 0} (name : A → List ℕ) (xs : List A) (i : ℕ) (item : A) (first old new : BTreeSet (Bor (List ℕ))) → i < length xs → item ≡ get_or xs i item → Leaves old new (name item) → (q : List ℕ)
    → (has old q && not (is_among (map name (drop i xs)) q)) ≡ (has first q && not (is_among (map name xs) q))
    → (has new q && not (is_among (map name (drop (i + 1) xs)) q)) ≡ (has first q && not (is_among (map name xs) q))
one_less {A = A} name xs i item first old new lt is leaves q h =
    ap (λ b. b && not (is_among (map name (drop (i + 1) xs)) q)) (leaves q)
    ∙ and_not (has old q) (bytes_eq q (name item)) (is_among (map name (drop (i + 1) xs)) q)
    ∙ ap (λ (ys : List A). has old q && not (is_among (map name ys) q)) (sym (front_of xs i item lt is)) ∙ h

with_item : {A : Type 0} (old ys : List A) (item : A) (b : Bool) → (old ++ (if b then [] else item ∷ [])) ++ ys ≡ old ++ cond (not b) (item ∷ ys) ys
with_item old ys item true = ap (λ zs. zs ++ ys) (append-nil old)
with_item old ys item false = append_assoc old (item ∷ []) ys

-- and the item stays that isn't named by a text
pub one_left : {A : Type 0} (name : A → List ℕ) (xs : List A) (i : ℕ) (item : A) (first now : BTreeSet (Bor (List ℕ))) (old new : List A) → i < length xs → item ≡ get_or xs i item → now ≡ first
    → new ≡ old ++ (if has now (name item) then [] else item ∷ []) → old ++ filter (λ x. not (has first (name x))) (drop i xs) ≡ filter (λ x. not (has first (name x))) xs
    → new ++ filter (λ x. not (has first (name x))) (drop (i + 1) xs) ≡ filter (λ x. not (has first (name x))) xs
one_left {A = A} name xs i item first now old new lt is same more h =
    ap (λ ys. ys ++ filter (λ x. not (has first (name x))) (drop (i + 1) xs)) (more ∙ ap (λ (t : BTreeSet (Bor (List ℕ))). old ++ (if has t (name item) then [] else item ∷ [])) same)
    ∙ with_item old (filter (λ x. not (has first (name x))) (drop (i + 1) xs)) item (has first (name item))
    ∙ ap (λ (ys : List A). old ++ filter (λ x. not (has first (name x))) ys) (sym (front_of xs i item lt is)) ∙ h

-- at the end nothing is to come
pub none_to_come : (set first : BTreeSet (Bor (List ℕ))) (all : List (List ℕ)) → ((q : List ℕ) → (has set q && not (is_among [] q)) ≡ (has first q && not (is_among all q))) → IsUnnamed first set all
none_to_come set first all h q = sym (and_true (has set q)) ∙ h q

found_alike : (p q : List ℕ → Bool) (xs : List (List ℕ)) → ((x : List ℕ) → is_among xs x ≡ true → p x ≡ q x) → find p xs ≡ find q xs
found_alike p q [] same = refl
found_alike p q (x ∷ xs) same = rw (same x (ap (λ b. b || is_among xs x) ((bytes_eq-Decides x x).1 refl))) (ap (λ rest. cond (q x) (Some x) rest) (found_alike p q xs (λ y is. same y (ap (λ b. bytes_eq y x || b) is ∙ or_true (bytes_eq y x)))))

-- of the texts that a set was made of, the first that stays in it is the first that isn't among the names
pub unknown_same : (old new : BTreeSet (Bor (List ℕ))) (list ids : List (List ℕ)) → Knows old ids → IsUnnamed old new list → find (has new) ids ≡ first_unknown list ids
unknown_same old new list ids knows left = found_alike (has new) (λ id. not (is_among list id)) ids (λ id is. left id ∙ ap (λ b. b && not (is_among list id)) (knows id ∙ is))

-- items whose names aren't in the set are those whose names aren't among the texts
pub left_same : {X : Type 0} (name : X → List ℕ) (set : BTreeSet (Bor (List ℕ))) (ids : List (List ℕ)) (xs : List X) → Knows set ids → filter (λ x. not (has set (name x))) xs ≡ filter (λ x. not (is_among ids (name x))) xs
left_same name set ids [] k = refl
left_same name set ids (x ∷ xs) k = rw (k (name x)) (ap (λ rest. cond (not (is_among ids (name x))) (x ∷ rest) rest) (left_same name set ids xs k))
