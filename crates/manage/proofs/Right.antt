-- What a row writes keeps the rules of objects: texts, roles and names that a form gives.
use lib.Utf8.{encode}
use Rattle.std.proofs.Common.{◌≡◌, ◌∙◌, ℕ, suc, ◌+◌, ◌≤◌, ◌<◌, ◌&&◌, ◌||◌, Bool, true, false, List, [], ◌∷◌, length, map, Some, None, option_map, Ordering, Less, Equal, Greater, refl, sym, subst, arith, nat_lt, nat_le, codes, if◌then◌else◌, lit≤}
use Rattle.std.specs.List.{filter, find, AllByRecursion}
use Rattle.std.specs.Str.{bytes_eq, chars, is_utf8}
use Rattle.std.specs.Cmp.Lexicographic.{slice_cmp}
use Rattle.std.specs.Ordering.{nat_cmp, is_lt, ordering_reverse}
use Rattle.std.proofs.lemmas.Bool.Decides.{nat_tests}
use Rattle.std.proofs.lemmas.Cmp.{nat_list_cmp_total}
use Rattle.std.proofs.lemmas.List.{length-append}
use Rattle.std.proofs.lemmas.Slice.Eq.{bytes_eq-Decides}
use Rattle.evaluator.specs.Named.{permission_named, permissions}
use Rattle.evaluator.specs.Permissions.{permission_text}
use Rattle.zbase.specs.declared.limits.TheConstants.{MOST_SOURCE}
use Rattle.zobject.specs.declared.limits.TheConstants.{MOST_COUNTED, MOST_NAME, MOST_ROLE, MOST_TITLE, MOST_VALUE}
use Rattle.zobject.specs.declared.object.Child.{Child}
use Rattle.zobject.specs.declared.version.Kind.{Kind}
use Rattle.zobject.specs.declared.version.Kind.TheVariants as kind
use Rattle.zobject.specs.declared.version.Rule.{Rule}
use Rattle.zobject.specs.declared.version.Rule.TheVariants.{ChildName, PropertyName, Role, Source, StoredId, Title, UserName, Value}
use Rattle.zobject.specs.Changes.{put}
use Rattle.zobject.specs.Folders.{child_of}
use Rattle.zobject.specs.Likely as likely
use Rattle.zobject.specs.Rules.{AreRoles, Keeps, comes_before}
use Rattle.zobject.specs.Sorting.{sorted}
use Rattle.zobject.specs.Texts.{is_acl_users, is_id}
use Rattle.manage.specs.declared.rule.FieldRow.{FieldRow}
use Rattle.manage.specs.declared.rule.FieldRule.TheVariants as rule
use Rattle.manage.specs.Becoming.{is_among, number_or_none, title_or}
use Rattle.manage.specs.Fields.{is_crowd, is_there}
use Rattle.manage.proofs.Kept.{FieldIs, IsKept}

-- ---- tests

pub both : (a b : Bool) → (a && b) ≡ true → (a ≡ true) × (b ≡ true)
both true b e = (refl, e)
both false b e = absurd (let bad = e in cc)

and_so : (a b : Bool) → a ≡ true → b ≡ true → (a && b) ≡ true
and_so true b e f = f
and_so false b e f = e

pub not_more : (most n : ℕ) → nat_lt most n ≡ false → n ≤ most
not_more most n e = grind (arith, nat_tests)

pub fewer_than : (n m : ℕ) → nat_lt n m ≡ true → n < m
fewer_than n m e = grind (arith, nat_tests)

pub at_most : (most n : ℕ) → nat_le n most ≡ true → n ≤ most
at_most most n e = grind (arith, nat_tests)

-- ---- texts

-- a text that keeps its rule but for too many bytes, and hasn't too many, keeps it
abbrev pub Like : Type 0
Like = (r : Rule) (text : List ℕ) → likely.is_like r text ≡ true → length text ≤ likely.most_bytes r → Keeps r text

module _ (like : Like) where
  pub id_keeps : (text : List ℕ) → IsKept rule.Id text → Keeps (StoredId kind.Document) text
  id_keeps text k = like (StoredId kind.Document) text k.0 (not_more MOST_NAME (length text) k.1)

  pub title_keeps : (text : List ℕ) → IsKept rule.Title text → Keeps Title text
  title_keeps text k = like Title text k.0 (not_more MOST_TITLE (length text) k.1)

  pub source_keeps : (text : List ℕ) → IsKept rule.Source text → Keeps Source text
  source_keeps text k = like Source text k.0 (not_more MOST_SOURCE (length text) k.1)

  pub name_keeps : (text : List ℕ) → IsKept rule.PropertyName text → Keeps PropertyName text
  name_keeps text k = like PropertyName text k.0 (not_more MOST_NAME (length text) k.1)

  pub value_keeps : (text : List ℕ) → IsKept rule.Value text → Keeps Value text
  value_keeps text k = like Value text k.0 (not_more MOST_VALUE (length text) k.1)

  pub user_keeps : (text : List ℕ) → IsKept rule.UserName text → Keeps UserName text
  user_keeps text k = like UserName text k.0 (not_more MOST_NAME (length text) k.1)

  each_role : (texts : List (List ℕ)) → AllByRecursion (IsKept rule.Role) texts → AllByRecursion (Keeps Role) texts
  each_role [] all = tt
  each_role (t ∷ ts) all = (like Role t all.0.0 (not_more MOST_ROLE (length t) all.0.1), each_role ts all.1)

  -- the new title, or the old one
  pub title_or_keeps : (old : List ℕ) (texts : List (List ℕ)) → Keeps Title old → AllByRecursion (IsKept rule.Title) texts → Keeps Title (title_or old texts)
  title_or_keeps old [] was all = was
  title_or_keeps old (t ∷ ts) was all = title_keeps t all.0

  module _ (any : (texts : List (List ℕ)) → AllByRecursion (Keeps Role) texts → length (sorted texts) ≤ MOST_COUNTED → AreRoles 0 (sorted texts)) where
    pub roles_are : (row : FieldRow) (texts : List (List ℕ)) → row.rule ≡ rule.Role → FieldIs row texts → AreRoles 0 (sorted texts)
    roles_are row texts role is =
        any texts (each_role texts (subst (λ r. AllByRecursion (IsKept r) texts) role is.each)) (not_more MOST_COUNTED (length (sorted texts)) (subst (λ r. is_crowd r texts ≡ false) role is.few))

  module _ (some : (text : List ℕ) (texts : List (List ℕ)) → AllByRecursion (Keeps Role) (text ∷ texts) → length (sorted (text ∷ texts)) ≤ MOST_COUNTED → AreRoles 1 (sorted (text ∷ texts))) where
    some_roles : (texts : List (List ℕ)) → AllByRecursion (IsKept rule.Role) texts → length (sorted texts) ≤ MOST_COUNTED → 1 ≤ length texts → AreRoles 1 (sorted texts)
    some_roles [] all few there = absurd (omega (arith, there))
    some_roles (t ∷ ts) all few there = some t ts (each_role (t ∷ ts) all) few

    pub roles_are_some : (row : FieldRow) (texts : List (List ℕ)) → row.rule ≡ rule.Role → row.needed ≡ true → FieldIs row texts → AreRoles 1 (sorted texts)
    roles_are_some row texts role needed is =
        some_roles texts (subst (λ r. AllByRecursion (IsKept r) texts) role is.each) (not_more MOST_COUNTED (length (sorted texts)) (subst (λ r. is_crowd r texts ≡ false) role is.few)) (is.there needed)

-- one role at least, where there are some
pub one_at_least : (roles : List (List ℕ)) → AreRoles 0 roles → 1 ≤ length roles → AreRoles 1 roles
one_at_least roles are there = record { many = record { enough = there; few = are.many.few; each = are.many.each }; rise = are.rise }

-- ---- permissions

found_in : (P : ℕ → Type 0) (p : ℕ → Bool) (ns : List ℕ) → AllByRecursion P ns → is_there (find p ns) ≡ true → P (number_or_none (find p ns))
found_in P p [] all there = absurd (let bad = there in cc)
found_in P p (n ∷ ns) all there = at (p n) there (found_in P p ns all.1)
  where
    at : (b : Bool) → is_there (if b then Some n else find p ns) ≡ true → (is_there (find p ns) ≡ true → P (number_or_none (find p ns))) → P (number_or_none (if b then Some n else find p ns))
    at true there' rest = all.0
    at false there' rest = rest there'

IsNumber : ℕ → Type 0
IsNumber n = (1 ≤ n) × (n ≤ 13)

each_number : AllByRecursion IsNumber permissions
unfolding IsNumber
each_number = (
  (lit≤ tt, lit≤ tt),
  (
    (lit≤ tt, lit≤ tt),
    (
      (lit≤ tt, lit≤ tt),
      (
        (lit≤ tt, lit≤ tt),
        (
          (lit≤ tt, lit≤ tt),
          (
            (lit≤ tt, lit≤ tt),
            (
              (lit≤ tt, lit≤ tt),
              ((lit≤ tt, lit≤ tt), ((lit≤ tt, lit≤ tt), ((lit≤ tt, lit≤ tt), ((lit≤ tt, lit≤ tt), ((lit≤ tt, lit≤ tt), ((lit≤ tt, lit≤ tt), tt)))))),
            ),
          ),
        ),
      ),
    ),
  ),
)

-- the name of a permission names one of thirteen
pub permission_is : (text : List ℕ) → is_there (permission_named text) ≡ true → (1 ≤ number_or_none (permission_named text)) × (number_or_none (permission_named text) ≤ 13)
unfolding permission_named IsNumber
permission_is text there = found_in IsNumber (λ n. bytes_eq (permission_text n) text) permissions each_number there

-- ---- ids

-- an id may be that of an object of each kind, and a child's name
or_so : (a b : Bool) → b ≡ true → (a || b) ≡ true
or_so true b e = refl
or_so false b e = e

or_first : (a b : Bool) → a ≡ true → (a || b) ≡ true
or_first true b e = refl
or_first false b e = absurd (let bad = e in cc)

pub stored : (k : Kind) (text : List ℕ) → Keeps (StoredId kind.Document) text → Keeps (StoredId k) text
stored kind.Folder text is = let p = both (is_id text) (is_utf8 text) is in and_so _ (is_utf8 text) (or_so _ (is_id text) p.0) p.1
stored kind.UserFolder text is = let p = both (is_id text) (is_utf8 text) is in and_so _ (is_utf8 text) (or_so (is_acl_users text) (is_id text) p.0) p.1
stored kind.Method text is = is
stored kind.Document text is = is

pub listed : (text : List ℕ) → Keeps (StoredId kind.Document) text → Keeps ChildName text
listed text is = let p = both (is_id text) (is_utf8 text) is in and_so _ (is_utf8 text) (or_first (is_id text) (is_acl_users text) p.0) p.1

pub acl_listed : Keeps ChildName (codes "acl_users")
unfolding is_utf8 chars encode is_id
acl_listed = refl

pub acl_stored : Keeps (StoredId kind.UserFolder) (codes "acl_users")
unfolding is_utf8 chars encode is_id
acl_stored = refl

pub empty_title : Keeps Title []
unfolding is_utf8 chars encode
empty_title = refl

pub no_title : IsKept rule.Title []
unfolding is_utf8 chars encode
no_title = (refl, refl)

pub no_source : IsKept rule.Source []
unfolding is_utf8 chars encode
no_source = (refl, refl)

-- ---- names among names

same_way : (a b : List ℕ) → bytes_eq a b ≡ bytes_eq b a
same_way a b = at (bytes_eq a b) (bytes_eq b a) refl refl
  where
    at : (x y : Bool) → bytes_eq a b ≡ x → bytes_eq b a ≡ y → x ≡ y
    at true true e f = refl
    at false false e f = refl
    at true false e f = sym ((bytes_eq-Decides b a).1 (sym ((bytes_eq-Decides a b).0 e))) ∙ f
    at false true e f = sym e ∙ (bytes_eq-Decides a b).1 (sym ((bytes_eq-Decides b a).0 f))

-- no child has a name that isn't among those of the children
pub none_of : (name : List ℕ) (cs : List Child) → is_among (map (λ (c : Child). c.name) cs) name ≡ false → child_of name cs ≡ None
none_of name [] e = refl
none_of name (c ∷ cs) e = at (bytes_eq name c.name) (bytes_eq c.name name) (same_way name c.name) e (none_of name cs)
  where
    at : (x y : Bool) → x ≡ y → (x || is_among (map (λ (c : Child). c.name) cs) name) ≡ false → (is_among (map (λ (c : Child). c.name) cs) name ≡ false → child_of name cs ≡ None)
        → option_map (λ (c : Child). c.oid) (if y then Some c else find (λ (c : Child). bytes_eq c.name name) cs) ≡ None
    at true true s e' deeper = absurd (let bad = e' in cc)
    at false false s e' deeper = deeper e'
    at true false s e' deeper = absurd (let bad = e' in cc)
    at false true s e' deeper = absurd (let bad = s in cc)

-- ---- one more in a list that rises

module _ {X : Type 0} (before : X → X → Bool) (not_both : (x y : X) → before x y ≡ true → before y x ≡ true → ⊥) where
  few_apart : (x : X) (xs : List X) → length (filter (λ y. before y x) xs) + length (filter (λ y. before x y) xs) ≤ length xs
  few_apart x [] = omega arith
  few_apart x (y ∷ ys) = at (before y x) (before x y) (not_both y x) (few_apart x ys)
    where
      at : (a b : Bool) → (a ≡ true → b ≡ true → ⊥) → length (filter (λ y. before y x) ys) + length (filter (λ y. before x y) ys) ≤ length ys
          → length (if a then y ∷ filter (λ y. before y x) ys else filter (λ y. before y x) ys) + length (if b then y ∷ filter (λ y. before x y) ys else filter (λ y. before x y) ys) ≤ suc (length ys)
      at true true never h = absurd (never refl refl)
      at true false never h = omega (arith, h)
      at false true never h = omega (arith, h)
      at false false never h = omega (arith, h)

  pub put_few : (x : X) (xs : List X) → length (put before x xs) ≤ suc (length xs)
  put_few x xs =
      let both = few_apart x xs in
      let all = length-append (filter (λ y. before y x) xs) (x ∷ filter (λ y. before x y) xs) in
      omega (arith, both, all)

-- two texts don't come before one another
pub never_both : (a b : List ℕ) → comes_before a b ≡ true → comes_before b a ≡ true → ⊥
never_both a b e f = at (slice_cmp nat_cmp b a) (slice_cmp nat_cmp a b) (nat_list_cmp_total.antisymm a b) e f
  where
    at : (o other : Ordering) → other ≡ ordering_reverse o → is_lt other ≡ true → is_lt o ≡ true → ⊥
    at Less other r e' f' = (let bad : is_lt Greater ≡ true = subst (λ x. is_lt x ≡ true) r e' in cc)
    at Equal other r e' f' = cc
    at Greater other r e' f' = cc
