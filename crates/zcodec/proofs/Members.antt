-- Properties, children and the part of a kind, each read as it was written.
use Rattle.std.proofs.Common.{◌≡◌, ℕ, ◌^◌, ◌<◌, Bool, true, false, ◌||◌, cond, eqb, List, [], ◌∷◌, ◌++◌, length, map, Option, Some, None, option_map, Ok, Err, refl, sym, ap, subst, ◌∙◌, arith}
use Rattle.std.specs.List.{list_any, AllByRecursion}
use Rattle.std.specs.Str.{bytes_eq}
use Rattle.std.specs.Int.{w16, w32, w64, to_be_bytes, cast_signed, cast_unsigned}
use Rattle.std.specs.Prelude.{FitsSigned}
use Rattle.std.proofs.lemmas.Bool.{eqb-true}
use Rattle.std.proofs.lemmas.Int.{to_z-of_z, of_z-to_z}
use Rattle.std.proofs.Math.Facts.{Fits-lt-pow, Fits-of_lt, Fits-of_z, sfits_to_z}
use Rattle.std.proofs.lemmas.Slice.Eq.{bytes_eq-Decides}
use Rattle.zbase.specs.Numbers.{be64}
use Rattle.zobject.specs.declared.limits.TheConstants.{MOST_CHILDREN, MOST_LINES, MOST_PROPERTIES, MOST_USERS}
use Rattle.zobject.specs.declared.object.Property.{Property}
use Rattle.zobject.specs.declared.object.PropValue.{PropValue}
use Rattle.zobject.specs.declared.object.PropValue.TheVariants.{Line, Int, Lines}
use Rattle.zobject.specs.declared.object.Child.{Child}
use Rattle.zobject.specs.declared.object.User.{User}
use Rattle.zobject.specs.declared.object.Part2.{Part2}
use Rattle.zobject.specs.declared.object.Part2.TheVariants as part
use Rattle.zobject.specs.declared.version.Kind.{Kind}
use Rattle.zobject.specs.declared.version.Kind.TheVariants as kind
use Rattle.zobject.specs.declared.version.Rule.TheVariants.{ChildName, PropertyName, Value, Source}
use Rattle.zobject.specs.declared.version.Version.{Version}
use Rattle.zobject.specs.declared.version.Version.TheVariants.{First, Second}
use Rattle.zobject.specs.Rules.{AreDistinct, AreMany, IsChild, IsPart, IsProperty, IsProxy, IsUser, IsValue, Keeps, Rise, comes_before, kind_of}
use Rattle.zcodec.specs.Record.{child, list_of, part_text, property, proxy_text, source_text, text, user, value}
use Rattle.zcodec.specs.Reading.{and_name, byte_at, child_at, children_at, document_at, folder_at, int_at, line_at, lines_at, list_at, method_at, name_at, new_name_at, number_at, one_line_at, part_at, property_at, proxy_at, rises, text_at, typed_at, user_at, user_folder_at, value_at}
use Rattle.zcodec.proofs.Exact.{AreRising, Behind, Follow, IsBytes, IsExact, IsListed, Takes, byte_exact, counted_exact, got, gives, number_exact, ok_is, rising_exact, wide64}
use Rattle.zcodec.proofs.Several.{as_exact, one_exact, two_exact}
use Rattle.zcodec.proofs.Pieces.{name_exact, rises_by, roles_exact, source_exact, text16_exact, users_exact}

-- ---- values of properties

IsLine : PropValue → Type 0
IsLine (Line t) = Keeps Value t
IsLine (Int n) = ⊥
IsLine (Lines ts) = ⊥

line_text : PropValue → List ℕ
line_text (Line t) = t
line_text (Int n) = []
line_text (Lines ts) = []

one_line_exact : IsExact IsLine (value First) one_line_at
unfolding one_line_at IsLine line_text
one_line_exact = one_exact (Keeps Value) text (text_at w16 Value) IsLine (value First) (λ t. Line t) line_text (text16_exact Value (omega arith))
    (λ t p. (p, refl)) (λ v r. back v r)
  where
    back : (v : PropValue) → IsLine v → Keeps Value (line_text v) × (Line (line_text v) ≡ v)
    back (Line t) r = (r, refl)
    back (Int n) r = absurd r
    back (Lines ts) r = absurd r

line_exact : (last : Option (List ℕ)) → IsExact (Behind (Keeps Value) (λ (a b : List ℕ). true) last) text (line_at last)
unfolding line_at
line_exact last = as_exact (Keeps Value) (Behind (Keeps Value) (λ (a b : List ℕ). true) last) text (text_at w16 Value) (λ t p. (p, any last t)) (λ t p. p.0) (text16_exact Value (omega arith))
  where
    any : (last : Option (List ℕ)) (t : List ℕ) → rises (λ (a b : List ℕ). true) last t ≡ true
    any None t = refl
    any (Some l) t = refl

in_any_order : (ts : List (List ℕ)) → Rise (λ (a b : List ℕ). true) ts
in_any_order [] = tt
in_any_order (t ∷ []) = tt
in_any_order (t ∷ u ∷ ts) = (refl, in_any_order (u ∷ ts))

line_list_exact : IsExact (AreMany 0 MOST_LINES (Keeps Value)) (list_of text) (list_at 0 MOST_LINES line_at)
line_list_exact = as_exact (AreRising (Keeps Value) (λ (a b : List ℕ). true) 0 MOST_LINES) (AreMany 0 MOST_LINES (Keeps Value)) (list_of text) (list_at 0 MOST_LINES line_at) (λ ts r. r.0) (λ ts r. (r, in_any_order ts))
    (rising_exact (Keeps Value) (λ (a b : List ℕ). true) text line_at line_exact 0 MOST_LINES (omega arith))

-- a value of each type, without its type
AreLines : PropValue → Type 0
AreLines (Line t) = ⊥
AreLines (Int n) = ⊥
AreLines (Lines ts) = AreMany 0 MOST_LINES (Keeps Value) ts

lines_text : PropValue → List ℕ
lines_text (Line t) = []
lines_text (Int n) = []
lines_text (Lines ts) = list_of text ts

the_lines : PropValue → List (List ℕ)
the_lines (Line t) = []
the_lines (Int n) = []
the_lines (Lines ts) = ts

lines_exact : IsExact AreLines lines_text lines_at
unfolding lines_at AreLines lines_text the_lines
lines_exact = one_exact (AreMany 0 MOST_LINES (Keeps Value)) (list_of text) (list_at 0 MOST_LINES line_at) AreLines lines_text (λ ts. Lines ts) the_lines line_list_exact (λ ts p. (p, refl)) back
  where
    back : (v : PropValue) → AreLines v → AreMany 0 MOST_LINES (Keeps Value) (the_lines v) × (Lines (the_lines v) ≡ v)
    back (Line t) r = absurd r
    back (Int n) r = absurd r
    back (Lines ts) r = (r, refl)

IsInt : PropValue → Type 0
IsInt (Line t) = ⊥
IsInt (Int n) = FitsSigned w64 n
IsInt (Lines ts) = ⊥

int_text : PropValue → List ℕ
int_text (Line t) = []
int_text (Int n) = be64 (cast_unsigned w64 n)
int_text (Lines ts) = []

the_bits : PropValue → ℕ
the_bits (Line t) = 0
the_bits (Int n) = cast_unsigned w64 n
the_bits (Lines ts) = 0

int_exact : IsExact IsInt int_text int_at
unfolding int_at IsInt int_text be64 the_bits
int_exact = one_exact (λ n. n < 2 ^ 64) (to_be_bytes w64) (number_at w64) IsInt int_text (λ n. Int (cast_signed w64 n)) the_bits (number_exact w64 (2 ^ 64) wide64)
    (λ n p. (sfits_to_z {w = w64} {n = n} (Fits-of_lt {w = w64} {n = n} p), ap (to_be_bytes w64) (of_z-to_z w64 n p))) back
  where
    back : (v : PropValue) → IsInt v → (the_bits v < 2 ^ 64) × (Int (cast_signed w64 (the_bits v)) ≡ v)
    back (Line t) r = absurd r
    back (Int n) r = (Fits-lt-pow {w = w64} {n = cast_unsigned w64 n} (Fits-of_z {w = w64} {z = n} r), ap (λ z. Int z) (to_z-of_z w64 n r))
    back (Lines ts) r = absurd r

-- ---- a value behind its type

module _ (type : ℕ) (bytes : List ℕ) (v : PropValue) (rest : List ℕ) where
  typed_line : (w : PropValue) → type ≡ 115 → Takes IsLine (value First) bytes w rest → (type ∷ bytes ≡ value Second w ++ rest) × IsValue Second w × IsBytes rest
  unfolding IsLine
  typed_line (Line t) e took = (ap (λ n. n ∷ bytes) e ∙ ap (λ r. 115 ∷ r) took.parts, took.right, took.fits)
  typed_line (Int n) e took = absurd took.right
  typed_line (Lines ts) e took = absurd took.right

  typed_int : (w : PropValue) → type ≡ 105 → Takes IsInt int_text bytes w rest → (type ∷ bytes ≡ value Second w ++ rest) × IsValue Second w × IsBytes rest
  unfolding IsInt int_text
  typed_int (Line t) e took = absurd took.right
  typed_int (Int n) e took = (ap (λ n. n ∷ bytes) e ∙ ap (λ r. 105 ∷ r) took.parts, took.right, took.fits)
  typed_int (Lines ts) e took = absurd took.right

  typed_lines : (w : PropValue) → type ≡ 108 → Takes AreLines lines_text bytes w rest → (type ∷ bytes ≡ value Second w ++ rest) × IsValue Second w × IsBytes rest
  unfolding AreLines lines_text
  typed_lines (Line t) e took = absurd took.right
  typed_lines (Int n) e took = absurd took.right
  typed_lines (Lines ts) e took = (ap (λ n. n ∷ bytes) e ∙ ap (λ r. 108 ∷ r) took.parts, took.right, took.fits)

  typed_takes : (left : ℕ) → IsBytes bytes → typed_at left type bytes ≡ Ok (v, rest) → (type ∷ bytes ≡ value Second v ++ rest) × IsValue Second v × IsBytes rest
  typed_takes left fits e = by_line (eqb type 115) refl e
    where
      by_lines : (b : Bool) → eqb type 108 ≡ b → cond b (lines_at bytes) (Err left) ≡ Ok (v, rest) → (type ∷ bytes ≡ value Second v ++ rest) × IsValue Second v × IsBytes rest
      by_lines true t e' = typed_lines v (eqb-true type 108 t) (lines_exact.takes bytes v rest fits e')
      by_lines false t e' = absurd (let bad = e' in cc)

      by_int : (b : Bool) → eqb type 105 ≡ b → cond b (int_at bytes) (cond (eqb type 108) (lines_at bytes) (Err left)) ≡ Ok (v, rest) → (type ∷ bytes ≡ value Second v ++ rest) × IsValue Second v × IsBytes rest
      by_int true t e' = typed_int v (eqb-true type 105 t) (int_exact.takes bytes v rest fits e')
      by_int false t e' = by_lines (eqb type 108) refl e'

      by_line : (b : Bool) → eqb type 115 ≡ b → cond b (one_line_at bytes) (cond (eqb type 105) (int_at bytes) (cond (eqb type 108) (lines_at bytes) (Err left))) ≡ Ok (v, rest) → (type ∷ bytes ≡ value Second v ++ rest) × IsValue Second v × IsBytes rest
      by_line true t e' = typed_line v (eqb-true type 115 t) (one_line_exact.takes bytes v rest fits e')
      by_line false t e' = by_int (eqb type 105) refl e'

pub value_exact : (version : Version) → IsExact (IsValue version) (value version) (value_at version)
unfolding value_at byte_at IsLine IsInt AreLines int_text lines_text
value_exact First = as_exact IsLine (IsValue First) (value First) one_line_at on from one_line_exact
  where
    on : (v : PropValue) → IsLine v → IsValue First v
    on (Line t) r = r
    on (Int n) r = absurd r
    on (Lines ts) r = absurd r

    from : (v : PropValue) → IsValue First v → IsLine v
    from (Line t) r = r
    from (Int n) r = absurd r
    from (Lines ts) r = absurd r
value_exact Second = record {
  takes = λ bytes v rest fits e.
      let a = got (λ b. b < 256) (λ b. b ∷ []) byte_at (λ type. typed_at (length bytes) type.0 type.1) bytes (v, rest) byte_exact fits e in
      let t = typed_takes a.value a.rest v rest (length bytes) a.took.fits a.goes in
      record { parts = a.took.parts ∙ t.0; right = t.1; fits = t.2 };
  again = again;
}
  where
    again : (v : PropValue) (rest : List ℕ) → IsValue Second v → value_at Second (value Second v ++ rest) ≡ Ok (v, rest)
    again (Line t) rest r = one_line_exact.again (Line t) rest r
    again (Int n) rest r = int_exact.again (Int n) rest r
    again (Lines ts) rest r = lines_exact.again (Lines ts) rest r

property_exact : (version : Version) (last : Option Property) → IsExact (Behind (IsProperty version) (λ (p q : Property). comes_before p.name q.name) last) (property version) (property_at version last)
unfolding property_at
property_exact version last =
    let name = option_map (λ (p : Property). p.name) last in
    two_exact (λ n. Keeps PropertyName n × (rises comes_before name n ≡ true)) (λ n. IsValue version) text (λ n. value version) (name_at PropertyName name) (λ n. value_at version)
    (Behind (IsProperty version) (λ (p q : Property). comes_before p.name q.name) last) (property version) (λ n v. record { name = n; value = v }) (λ p. p.name) (λ p. p.value)
    (name_exact PropertyName name (omega arith)) (λ n p. value_exact version)
    (λ n v p q. let one : Property = record { name = n; value = v } in ((record { name = p.0; value = q }, rises_by comes_before (λ (p : Property). p.name) last one ∙ p.1), refl))
    (λ p r. ((r.0.name, sym (rises_by comes_before (λ (p : Property). p.name) last p) ∙ r.1), r.0.value, refl))

pub properties_exact : (version : Version) → IsExact (AreRising (IsProperty version) (λ (p q : Property). comes_before p.name q.name) 0 MOST_PROPERTIES) (list_of (property version)) (list_at 0 MOST_PROPERTIES (property_at version))
properties_exact version = rising_exact (IsProperty version) (λ (p q : Property). comes_before p.name q.name) (property version) (property_at version) (property_exact version) 0 MOST_PROPERTIES (omega arith)

-- ---- children

abbrev names : List Child → List (List ℕ)
names cs = map (λ (c : Child). c.name) cs

differ : (m n : List ℕ) → bytes_eq m n ≡ false → bytes_eq n m ≡ false
differ m n e = at (bytes_eq n m) refl
  where
    at : (b : Bool) → bytes_eq n m ≡ b → b ≡ false
    at false t = refl
    at true t =
        let same : n ≡ m = (bytes_eq-Decides n m).0 t in
        let yes : bytes_eq m n ≡ true = (bytes_eq-Decides m n).1 (sym same) in
        absurd (let both = sym yes ∙ e in cc)

neither : (a b : Bool) → (a || b) ≡ false → (a ≡ false) × (b ≡ false)
neither true b e = absurd (let bad = e in cc)
neither false b e = (refl, e)

no_one : (a b : Bool) → a ≡ false → b ≡ false → (a || b) ≡ false
no_one true b e f = absurd (let bad = e in cc)
no_one false b e f = f

abbrev IsNewChild : List (List ℕ) → Child → Type 0
IsNewChild earlier c = IsChild c × (list_any (bytes_eq c.name) earlier ≡ false)

AreNew : List (List ℕ) → List (List ℕ) → Type 0
AreNew earlier [] = Unit {0}
AreNew earlier (n ∷ ns) = (list_any (bytes_eq n) earlier ≡ false) × AreNew earlier ns

first_apart : (n : List ℕ) (earlier ns : List (List ℕ)) → AreNew (n ∷ earlier) ns → (list_any (bytes_eq n) ns ≡ false) × AreNew earlier ns
unfolding AreNew
first_apart n earlier [] h = (refl, tt)
first_apart n earlier (m ∷ ns) h =
    let one = neither (bytes_eq m n) (list_any (bytes_eq m) earlier) h.0 in
    let rest = first_apart n earlier ns h.1 in
    (no_one (bytes_eq n m) (list_any (bytes_eq n) ns) (differ m n one.0) rest.0, (one.1, rest.1))

apart_first : (n : List ℕ) (earlier ns : List (List ℕ)) → list_any (bytes_eq n) ns ≡ false → AreNew earlier ns → AreNew (n ∷ earlier) ns
unfolding AreNew
apart_first n earlier [] e h = tt
apart_first n earlier (m ∷ ns) e h =
    let one = neither (bytes_eq n m) (list_any (bytes_eq n) ns) e in
    (no_one (bytes_eq m n) (list_any (bytes_eq m) earlier) (differ n m one.0) h.0, apart_first n earlier ns one.1 h.1)

all_new : (ns : List (List ℕ)) → AreNew [] ns
unfolding AreNew
all_new [] = tt
all_new (n ∷ ns) = (refl, all_new ns)

followed : (earlier : List (List ℕ)) (cs : List Child) → Follow IsNewChild and_name earlier cs → AllByRecursion IsChild cs × AreNew earlier (names cs) × AreDistinct (names cs)
unfolding AreNew
followed earlier [] follow = (tt, tt, tt)
followed earlier (c ∷ cs) follow =
    let rest = followed (c.name ∷ earlier) cs follow.1 in
    let apart = first_apart c.name earlier (names cs) rest.1 in
    ((follow.0.0, rest.0), (follow.0.1, apart.1), (apart.0, rest.2))

follows : (earlier : List (List ℕ)) (cs : List Child) → AllByRecursion IsChild cs → AreNew earlier (names cs) → AreDistinct (names cs) → Follow IsNewChild and_name earlier cs
unfolding AreNew
follows earlier [] each new distinct = tt
follows earlier (c ∷ cs) each new distinct = ((each.0, new.0), follows (c.name ∷ earlier) cs each.1 (apart_first c.name earlier (names cs) distinct.0 new.1) distinct.1)

if_ok : {X : Type 0} (b : Bool) (left : ℕ) (x y : X) → cond b (Err left) (Ok x) ≡ Ok y → (b ≡ false) × (x ≡ y)
if_ok true left x y e = absurd (let bad = e in cc)
if_ok false left x y e = (refl, ok_is x y e)

new_name_exact : (earlier : List (List ℕ)) → IsExact (λ n. Keeps ChildName n × (list_any (bytes_eq n) earlier ≡ false)) text (new_name_at earlier)
unfolding new_name_at
new_name_exact earlier = record {
  takes = λ bytes n rest fits e.
      let a = got (Keeps ChildName) text (text_at w16 ChildName) (λ name. cond (list_any (bytes_eq name.0) earlier) (Err (length bytes)) (Ok name)) bytes (n, rest) (text16_exact ChildName (omega arith)) fits e in
      let k = if_ok (list_any (bytes_eq a.value) earlier) (length bytes) (a.value, a.rest) (n, rest) a.goes in
      subst (λ (p : List ℕ × List ℕ). Takes (λ n. Keeps ChildName n × (list_any (bytes_eq n) earlier ≡ false)) text bytes p.0 p.1) k.1 (record { parts = a.took.parts; right = (a.took.right, k.0); fits = a.took.fits });
  again = λ n rest right.
      gives (Keeps ChildName) text (text_at w16 ChildName) (λ name. cond (list_any (bytes_eq name.0) earlier) (Err (length (text n ++ rest))) (Ok name)) n rest (text16_exact ChildName (omega arith)) right.0
      ∙ ap (λ b. cond b (Err (length (text n ++ rest))) (Ok (n, rest))) right.1;
}

child_exact : (earlier : List (List ℕ)) → IsExact (IsNewChild earlier) child (child_at earlier)
unfolding child_at be64
child_exact earlier = two_exact (λ n. Keeps ChildName n × (list_any (bytes_eq n) earlier ≡ false)) (λ n o. o < 2 ^ 64) text (λ n. to_be_bytes w64) (new_name_at earlier) (λ n. number_at w64)
    (IsNewChild earlier) child (λ n o. record { name = n; oid = o }) (λ c. c.name) (λ c. c.oid)
    (new_name_exact earlier) (λ n p. number_exact w64 (2 ^ 64) wide64)
    (λ n o p q. ((record { name = p.0; oid = q }, p.1), refl))
    (λ c r. ((r.0.name, r.1), r.0.oid, refl))

abbrev AreChildren : List Child → Type 0
AreChildren cs = AreMany 0 MOST_CHILDREN IsChild cs × AreDistinct (names cs)

children_exact : IsExact AreChildren (list_of child) children_at
unfolding children_at
children_exact = as_exact (IsListed IsNewChild child child_at and_name child_exact 0 MOST_CHILDREN []) AreChildren (list_of child) children_at
    (λ cs r. let f = followed [] cs r.follow in (record { enough = r.enough; few = r.few; each = f.0 }, f.2))
    (λ cs r. record { enough = r.0.enough; few = r.0.few; follow = follows [] cs r.0.each (all_new (names cs)) r.1 })
    (counted_exact IsNewChild child child_at and_name child_exact 0 MOST_CHILDREN [] (omega arith))

-- ---- the part of a kind

proxy_exact : (version : Version) → IsExact (IsProxy version) (proxy_text version) (proxy_at version)
unfolding proxy_at
proxy_exact First = record {
  takes = λ bytes proxy rest fits e. subst (λ (p : List (List ℕ) × List ℕ). Takes (IsProxy First) (proxy_text First) bytes p.0 p.1) (ok_is ([], bytes) (proxy, rest) e) (record { parts = refl; right = refl; fits = fits });
  again = λ proxy rest right. ap (λ p. Ok (p, rest)) (sym right);
}
proxy_exact Second = roles_exact 0

unfoldable pub IsPartOf : Version → Kind → Part2 → Type 0
IsPartOf version k p = (kind_of p ≡ k) × IsPart version p

abbrev children_of : Part2 → List Child
children_of (part.Folder children) = children
children_of (part.Method source proxy) = []
children_of (part.Document source proxy) = []
children_of (part.UserFolder users) = []

abbrev source_in : Part2 → List ℕ
source_in (part.Folder children) = []
source_in (part.Method source proxy) = source
source_in (part.Document source proxy) = source
source_in (part.UserFolder users) = []

abbrev proxy_in : Part2 → List (List ℕ)
proxy_in (part.Folder children) = []
proxy_in (part.Method source proxy) = proxy
proxy_in (part.Document source proxy) = proxy
proxy_in (part.UserFolder users) = []

abbrev users_in : Part2 → List User
users_in (part.Folder children) = []
users_in (part.Method source proxy) = []
users_in (part.Document source proxy) = []
users_in (part.UserFolder users) = users

folder_exact : (version : Version) → IsExact (IsPartOf version kind.Folder) (part_text version) folder_at
unfolding folder_at IsPartOf
folder_exact version = one_exact AreChildren (list_of child) children_at (IsPartOf version kind.Folder) (part_text version) (λ cs. part.Folder cs) children_of children_exact
    (λ cs p. ((refl, p), refl)) back
  where
    back : (p : Part2) → IsPartOf version kind.Folder p → AreChildren (children_of p) × (part.Folder (children_of p) ≡ p)
    back (part.Folder cs) r = (r.1, refl)
    back (part.Method source proxy) r = absurd (let bad = r.0 in cc)
    back (part.Document source proxy) r = absurd (let bad = r.0 in cc)
    back (part.UserFolder users) r = absurd (let bad = r.0 in cc)

user_folder_exact : (version : Version) → IsExact (IsPartOf version kind.UserFolder) (part_text version) user_folder_at
unfolding user_folder_at IsPartOf
user_folder_exact version = one_exact (AreRising IsUser (λ (u v : User). comes_before u.name v.name) 0 MOST_USERS) (list_of user) (list_at 0 MOST_USERS user_at) (IsPartOf version kind.UserFolder) (part_text version) (λ us. part.UserFolder us) users_in users_exact
    (λ us p. ((refl, p), refl)) back
  where
    back : (p : Part2) → IsPartOf version kind.UserFolder p → AreRising IsUser (λ (u v : User). comes_before u.name v.name) 0 MOST_USERS (users_in p) × (part.UserFolder (users_in p) ≡ p)
    back (part.UserFolder us) r = (r.1, refl)
    back (part.Folder cs) r = absurd (let bad = r.0 in cc)
    back (part.Method source proxy) r = absurd (let bad = r.0 in cc)
    back (part.Document source proxy) r = absurd (let bad = r.0 in cc)

method_exact : (version : Version) → IsExact (IsPartOf version kind.Method) (part_text version) (method_at version)
unfolding method_at IsPartOf
method_exact version = two_exact (Keeps Source) (λ s. IsProxy version) source_text (λ s. proxy_text version) (text_at w32 Source) (λ s. proxy_at version)
    (IsPartOf version kind.Method) (part_text version) (λ s p. part.Method s p) source_in proxy_in source_exact (λ s p. proxy_exact version)
    (λ s p q r. ((refl, (q, r)), refl)) back
  where
    back : (p : Part2) → IsPartOf version kind.Method p → Keeps Source (source_in p) × IsProxy version (proxy_in p) × (part.Method (source_in p) (proxy_in p) ≡ p)
    back (part.Method source proxy) r = (r.1.0, r.1.1, refl)
    back (part.Folder cs) r = absurd (let bad = r.0 in cc)
    back (part.Document source proxy) r = absurd (let bad = r.0 in cc)
    back (part.UserFolder users) r = absurd (let bad = r.0 in cc)

document_exact : (version : Version) → IsExact (IsPartOf version kind.Document) (part_text version) (document_at version)
unfolding document_at IsPartOf
document_exact version = two_exact (Keeps Source) (λ s. IsProxy version) source_text (λ s. proxy_text version) (text_at w32 Source) (λ s. proxy_at version)
    (IsPartOf version kind.Document) (part_text version) (λ s p. part.Document s p) source_in proxy_in source_exact (λ s p. proxy_exact version)
    (λ s p q r. ((refl, (q, r)), refl)) back
  where
    back : (p : Part2) → IsPartOf version kind.Document p → Keeps Source (source_in p) × IsProxy version (proxy_in p) × (part.Document (source_in p) (proxy_in p) ≡ p)
    back (part.Document source proxy) r = (r.1.0, r.1.1, refl)
    back (part.Folder cs) r = absurd (let bad = r.0 in cc)
    back (part.Method source proxy) r = absurd (let bad = r.0 in cc)
    back (part.UserFolder users) r = absurd (let bad = r.0 in cc)

pub part_exact : (version : Version) (k : Kind) → IsExact (IsPartOf version k) (part_text version) (part_at version k)
part_exact version kind.Folder = folder_exact version
part_exact version kind.Method = method_exact version
part_exact version kind.Document = document_exact version
part_exact version kind.UserFolder = user_folder_exact version
