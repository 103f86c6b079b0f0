-- What is read is the one object that the bytes spell.
use Rattle.std.proofs.Common.{◌≡◌, ℕ, suc, ◌+◌, ◌^◌, ◌<◌, Bool, true, false, cond, eqb, List, [], ◌∷◌, ◌++◌, length, take, drop, Option, Some, None, Result, Ok, Err, refl, sym, ap, subst, ◌∙◌, append_assoc, arith, nat_lt}
use Rattle.std.specs.Prelude.{IfOk}
use Rattle.std.specs.Int.{w16, w64, to_be_bytes}
use Rattle.std.specs.Str.{bytes_eq}
use Rattle.std.proofs.lemmas.Bool.{eqb-true}
use Rattle.std.proofs.lemmas.List.{append-nil, nil_from_length, take-append-drop, get_or-drop}
use Rattle.std.proofs.lemmas.Slice.Eq.{bytes_eq-Decides}
use Rattle.zbase.specs.Numbers.{be64}
use Rattle.zobject.specs.declared.object.Setting.{Setting}
use Rattle.zobject.specs.declared.object.Local.{Local}
use Rattle.zobject.specs.declared.object.Property.{Property}
use Rattle.zobject.specs.declared.object.Part2.{Part2}
use Rattle.zobject.specs.declared.object.Object.{Object}
use Rattle.zobject.specs.declared.limits.TheConstants.{MOST_COUNTED, MOST_LOCALS, MOST_PROPERTIES}
use Rattle.zobject.specs.declared.refusal.CodecRefusal.{CodecRefusal}
use Rattle.zobject.specs.declared.version.Kind.{Kind}
use Rattle.zobject.specs.declared.version.Kind.TheVariants as kind
use Rattle.zobject.specs.declared.version.Rule.TheVariants.{StoredId, Title}
use Rattle.zobject.specs.declared.version.Version.{Version}
use Rattle.zobject.specs.declared.version.Version.TheVariants.{First, Second}
use Rattle.zobject.specs.Texts.{letter}
use Rattle.zobject.specs.Rules.{IsLocal, IsOf, IsProperty, IsSetting, Keeps, comes_before, kind_of}
use Rattle.zcodec.specs.Record.{Spells, list_of, local_roles, magic, part_text, property, record_text, setting, text}
use Rattle.zcodec.specs.Reading.{◌>>=◌, Decodes, Head, Lists, Names, Reads, Start, byte_at, head_at, kind_at, kind_by, kind_or, lists_at, list_at, local_at, magic_at, names_at, number_at, object_at, object_of, part_at, placed, property_at, read, setting_at, start_at, text_at, where_kept, whole_at}
use Rattle.zcodec.proofs.Exact.{AreRising, IsBytes, IsExact, Takes, byte_exact, got, gives, kept_ok, number_exact, ok_is, wide64}
use Rattle.zcodec.proofs.Several.{two_exact, three_exact}
use Rattle.zcodec.proofs.Pieces.{locals_exact, settings_exact, text16_exact}
use Rattle.zcodec.proofs.Members.{IsPartOf, part_exact, properties_exact}

-- ---- the version and the kind

IsBytes-behind : (b c : ℕ) (bytes rest : List ℕ) → bytes ≡ b ∷ c ∷ rest → IsBytes bytes → IsBytes rest
IsBytes-behind b c bytes rest e fits i = subst (λ (t : List ℕ). IsBytes t) e fits (suc (suc i))

magic_exact : IsExact (λ v. Unit {0}) magic magic_at
unfolding magic_at
magic_exact = record {
  takes = λ bytes v rest fits e. first bytes v rest fits (bytes_eq (90 ∷ 49 ∷ []) (take 2 bytes)) refl e;
  again = λ v rest right. again v rest;
}
  where
    again : (v : Version) (rest : List ℕ) → magic_at (magic v ++ rest) ≡ Ok (v, rest)
    again First rest = refl
    again Second rest = refl

    parts : (v : Version) (bytes rest : List ℕ) → IsBytes bytes → bytes_eq (magic v) (take 2 bytes) ≡ true → drop 2 bytes ≡ rest → Takes (λ v. Unit {0}) magic bytes v rest
    parts v bytes rest fits t e =
        let front : magic v ≡ take 2 bytes = (bytes_eq-Decides (magic v) (take 2 bytes)).0 t in
        record { parts = sym (take-append-drop 2 bytes) ∙ ap (λ (r : List ℕ). r ++ drop 2 bytes) (sym front) ∙ ap (λ (r : List ℕ). magic v ++ r) e; right = tt; fits = subst (λ (r : List ℕ). IsBytes r) e (λ i. rw get_or-drop (fits (2 + i))) }

    second : (bytes : List ℕ) (v : Version) (rest : List ℕ) → IsBytes bytes → (b : Bool) → bytes_eq (90 ∷ 50 ∷ []) (take 2 bytes) ≡ b → cond {A = Reads Version} b (Ok (Second, drop 2 bytes)) (Err (length bytes)) ≡ Ok (v, rest) → Takes (λ v. Unit {0}) magic bytes v rest
    second bytes v rest fits true t e = subst (λ (p : Version × List ℕ). Takes (λ v. Unit {0}) magic bytes p.0 p.1) (ok_is (Second, drop 2 bytes) (v, rest) e) (parts Second bytes (drop 2 bytes) fits t refl)
    second bytes v rest fits false t e = absurd (let bad = e in cc)

    first : (bytes : List ℕ) (v : Version) (rest : List ℕ) → IsBytes bytes → (b : Bool) → bytes_eq (90 ∷ 49 ∷ []) (take 2 bytes) ≡ b → cond {A = Reads Version} b (Ok (First, drop 2 bytes)) (cond {A = Reads Version} (bytes_eq (90 ∷ 50 ∷ []) (take 2 bytes)) (Ok (Second, drop 2 bytes)) (Err (length bytes))) ≡ Ok (v, rest) → Takes (λ v. Unit {0}) magic bytes v rest
    first bytes v rest fits true t e = subst (λ (p : Version × List ℕ). Takes (λ v. Unit {0}) magic bytes p.0 p.1) (ok_is (First, drop 2 bytes) (v, rest) e) (parts First bytes (drop 2 bytes) fits t refl)
    first bytes v rest fits false t e = second bytes v rest fits (bytes_eq (90 ∷ 50 ∷ []) (take 2 bytes)) refl e

-- the letter of a kind names it
letter_by : (n : ℕ) (k : Kind) → kind_by n ≡ Some k → letter k ≡ n
letter_by n k e = f (eqb n 70) refl e
  where
    Some_is : (a b : Kind) → ◌≡◌ {A = Option Kind} (Some a) (Some b) → a ≡ b
    Some_is a b e = cc

    u : (b : Bool) → eqb n 85 ≡ b → cond b (Some kind.UserFolder) None ≡ Some k → letter k ≡ n
    u true t e' = ap letter (sym (Some_is kind.UserFolder k e')) ∙ sym (eqb-true n 85 t)
    u false t e' = absurd (let bad = e' in cc)

    d : (b : Bool) → eqb n 68 ≡ b → cond b (Some kind.Document) (cond (eqb n 85) (Some kind.UserFolder) None) ≡ Some k → letter k ≡ n
    d true t e' = ap letter (sym (Some_is kind.Document k e')) ∙ sym (eqb-true n 68 t)
    d false t e' = u (eqb n 85) refl e'

    m : (b : Bool) → eqb n 77 ≡ b → cond b (Some kind.Method) (cond (eqb n 68) (Some kind.Document) (cond (eqb n 85) (Some kind.UserFolder) None)) ≡ Some k → letter k ≡ n
    m true t e' = ap letter (sym (Some_is kind.Method k e')) ∙ sym (eqb-true n 77 t)
    m false t e' = d (eqb n 68) refl e'

    f : (b : Bool) → eqb n 70 ≡ b → cond b (Some kind.Folder) (cond (eqb n 77) (Some kind.Method) (cond (eqb n 68) (Some kind.Document) (cond (eqb n 85) (Some kind.UserFolder) None))) ≡ Some k → letter k ≡ n
    f true t e' = ap letter (sym (Some_is kind.Folder k e')) ∙ sym (eqb-true n 70 t)
    f false t e' = m (eqb n 77) refl e'

kind_exact : IsExact (λ k. Unit {0}) (λ k. letter k ∷ []) kind_at
unfolding kind_at byte_at
kind_exact = record {
  takes = λ bytes k rest fits e.
      let a = got (λ b. b < 256) (λ b. b ∷ []) byte_at (λ letter. kind_or (length bytes) (kind_by letter.0) letter.1) bytes (k, rest) byte_exact fits e in
      let o = at (length bytes) (kind_by a.value) a.rest refl a.goes in
      record { parts = a.took.parts ∙ ap (λ (r : List ℕ). a.value ∷ r) o.1 ∙ ap (λ (n : ℕ). n ∷ rest) (sym (letter_by a.value k o.0)); right = tt; fits = subst (λ (r : List ℕ). IsBytes r) o.1 a.took.fits };
  again = λ k rest right. again k rest;
}
  where
    at : {k : Kind} {rest : List ℕ} (left : ℕ) (o : Option Kind) (r : List ℕ) → o ≡ o → kind_or left o r ≡ Ok (k, rest) → (o ≡ Some k) × (r ≡ rest)
    at {k} {rest} left None r same e = absurd (let bad = e in cc)
    at {k} {rest} left (Some j) r same e =
        let p : ◌≡◌ {A = Kind × List ℕ} (j, r) (k, rest) = ok_is (j, r) (k, rest) e in
        (ap (λ (q : Kind × List ℕ). Some q.0) p, ap (λ (q : Kind × List ℕ). q.1) p)

    again : (k : Kind) (rest : List ℕ) → kind_at ((letter k ∷ []) ++ rest) ≡ Ok (k, rest)
    again kind.Folder rest = refl
    again kind.Method rest = refl
    again kind.Document rest = refl
    again kind.UserFolder rest = refl

abbrev start_text : Start → List ℕ
start_text s = magic s.version ++ (letter s.kind ∷ [])

start_exact : IsExact (λ s. Unit {0}) start_text start_at
unfolding start_at
start_exact = two_exact (λ v. Unit {0}) (λ v k. Unit {0}) magic (λ v k. letter k ∷ []) magic_at (λ v. kind_at) (λ s. Unit {0}) start_text
    (λ v k. record { version = v; kind = k }) (λ s. s.version) (λ s. s.kind) magic_exact (λ v p. kind_exact) (λ v k p q. (tt, refl)) (λ s r. (tt, tt, refl))

-- ---- the head, the lists and the part

record AreNames (k : Kind) (n : Names) : Type 0 where
  id : Keeps (StoredId k) n.id
  parent : n.parent < 2 ^ 64
  title : Keeps Title n.title

abbrev names_text : Names → List ℕ
names_text n = text n.id ++ (be64 n.parent ++ text n.title)

names_exact : (k : Kind) → IsExact (AreNames k) names_text (names_at k)
unfolding names_at be64
names_exact k = three_exact (Keeps (StoredId k)) (λ i p. p < 2 ^ 64) (λ i p. Keeps Title) text (λ i. to_be_bytes w64) (λ i p. text) (text_at w16 (StoredId k)) (λ i. number_at w64) (λ i p. text_at w16 Title)
    (AreNames k) names_text (λ i p t. record { id = i; parent = p; title = t }) (λ n. n.id) (λ n. n.parent) (λ n. n.title)
    (text16_exact (StoredId k) (omega arith)) (λ i q. number_exact w64 (2 ^ 64) wide64) (λ i p q r. text16_exact Title (omega arith))
    (λ i p t q r o. (record { id = q; parent = r; title = o }, refl)) (λ n r. (r.id, r.parent, r.title, refl))

abbrev head_text : Head → List ℕ
head_text h = start_text h.start ++ names_text h.names

abbrev IsHead : Head → Type 0
IsHead h = AreNames h.start.kind h.names

head_exact : IsExact IsHead head_text head_at
unfolding head_at
head_exact = two_exact (λ s. Unit {0}) (λ s. AreNames s.kind) start_text (λ s. names_text) start_at (λ s. names_at s.kind) IsHead head_text
    (λ s n. record { start = s; names = n }) (λ h. h.start) (λ h. h.names) start_exact (λ s p. names_exact s.kind) (λ s n p q. (q, refl)) (λ h r. (tt, r, refl))

AreSettings : Version → List Setting → Type 0
AreSettings version = AreRising (IsSetting version) (λ (s t : Setting). nat_lt s.permission t.permission) 0 MOST_COUNTED

AreLocals : List Local → Type 0
AreLocals = AreRising IsLocal (λ (l k : Local). comes_before l.user k.user) 0 MOST_LOCALS

AreProperties : Version → List Property → Type 0
AreProperties version = AreRising (IsProperty version) (λ (p q : Property). comes_before p.name q.name) 0 MOST_PROPERTIES

record AreLists (version : Version) (l : Lists) : Type 0 where
  settings : AreSettings version l.settings
  locals : AreLocals l.locals
  properties : AreProperties version l.properties

abbrev lists_text : Version → Lists → List ℕ
lists_text version l = list_of setting l.settings ++ (list_of local_roles l.locals ++ list_of (property version) l.properties)

lists_exact : (version : Version) → IsExact (AreLists version) (lists_text version) (lists_at version)
unfolding lists_at AreSettings AreLocals AreProperties
lists_exact version = three_exact (AreSettings version) (λ s. AreLocals) (λ s l. AreProperties version) (list_of setting) (λ s. list_of local_roles) (λ s l. list_of (property version))
    (list_at 0 MOST_COUNTED (setting_at version)) (λ s. list_at 0 MOST_LOCALS local_at) (λ s l. list_at 0 MOST_PROPERTIES (property_at version))
    (AreLists version) (lists_text version) (λ s l p. record { settings = s; locals = l; properties = p }) (λ l. l.settings) (λ l. l.locals) (λ l. l.properties)
    (settings_exact version) (λ s q. locals_exact) (λ s l q r. properties_exact version)
    (λ s l p q r o. (record { settings = q; locals = r; properties = o }, refl)) (λ l r. (r.settings, r.locals, r.properties, refl))

-- ---- the object

regroup : (a b c d e f g h i : List ℕ) → a ++ b ++ c ++ d ++ e ++ f ++ g ++ h ++ i ≡ ((a ++ b) ++ (c ++ (d ++ e))) ++ ((f ++ (g ++ h)) ++ i)
regroup a b c d e f g h i = simp append_assoc

abbrev head_of : Version × Object → Head
head_of o = record { start = record { version = o.0; kind = kind_of o.1.part }; names = record { id = o.1.id; parent = o.1.parent; title = o.1.title } }

abbrev lists_of : Object → Lists
lists_of o = record { settings = o.settings; locals = o.locals; properties = o.properties }

abbrev versioned_text : Version × Object → List ℕ
versioned_text o = record_text o.0 o.1

abbrev IsVersioned : Version × Object → Type 0
IsVersioned o = IsOf o.0 o.1

spelled : (h : Head) (l : Lists) (p : Part2) → kind_of p ≡ h.start.kind → record_text h.start.version (object_of h l p) ≡ head_text h ++ (lists_text h.start.version l ++ part_text h.start.version p)
unfolding record_text
spelled h l p e = ap (λ k. magic h.start.version ++ (letter k ∷ []) ++ text h.names.id ++ be64 h.names.parent ++ text h.names.title ++ list_of setting l.settings ++ list_of local_roles l.locals ++ list_of (property h.start.version) l.properties ++ part_text h.start.version p) e
    ∙ regroup (magic h.start.version) (letter h.start.kind ∷ []) (text h.names.id) (be64 h.names.parent) (text h.names.title) (list_of setting l.settings) (list_of local_roles l.locals) (list_of (property h.start.version) l.properties) (part_text h.start.version p)

lawful : (h : Head) (l : Lists) (p : Part2) → IsHead h → AreLists h.start.version l → IsPartOf h.start.version h.start.kind p → IsOf h.start.version (object_of h l p)
unfolding AreSettings AreLocals AreProperties IsPartOf
lawful h l p head lists part = record {
  id = subst (λ (k : Kind). Keeps (StoredId k) h.names.id) (sym part.0) head.id;
  parent = head.parent;
  title = head.title;
  settings = lists.settings.0;
  settings_rise = lists.settings.1;
  locals = lists.locals.0;
  locals_rise = lists.locals.1;
  properties = lists.properties.0;
  properties_rise = lists.properties.1;
  part = part.1;
}

object_exact : IsExact IsVersioned versioned_text object_at
unfolding object_at IsPartOf AreSettings AreLocals AreProperties
object_exact = three_exact IsHead (λ h. AreLists h.start.version) (λ h l. IsPartOf h.start.version h.start.kind) head_text (λ h. lists_text h.start.version) (λ h l. part_text h.start.version)
    head_at (λ h. lists_at h.start.version) (λ h l. part_at h.start.version h.start.kind)
    IsVersioned versioned_text (λ h l p. (h.start.version, object_of h l p)) head_of (λ o. lists_of o.1) (λ o. o.1.part)
    head_exact (λ h q. lists_exact h.start.version) (λ h l q r. part_exact h.start.version h.start.kind)
    (λ h l p q r o. (lawful h l p q r o, spelled h l p o.0))
    (λ o r. (record { id = r.id; parent = r.parent; title = r.title }, record { settings = (r.settings, r.settings_rise); locals = (r.locals, r.locals_rise); properties = (r.properties, r.properties_rise) }, (refl, r.part), refl))

-- ---- all of the bytes

pub whole_spells : (bytes : List ℕ) (o : Object) → IsBytes bytes → whole_at bytes ≡ Ok o → Spells o bytes
unfolding whole_at
whole_spells bytes o fits e =
    let a = got IsVersioned versioned_text object_at (λ o. where_kept (eqb (length o.1) 0) (length o.1) o.0.1) bytes o object_exact fits e in
    let k = kept_ok (eqb (length a.rest) 0) (length a.rest) a.value.1 o a.goes in
    let nothing : a.rest ≡ [] = nil_from_length a.rest (eqb-true _ _ k.0) in
    let spelled : bytes ≡ record_text a.value.0 a.value.1 = a.took.parts ∙ ap (λ (r : List ℕ). record_text a.value.0 a.value.1 ++ r) nothing ∙ append-nil (record_text a.value.0 a.value.1) in
    subst (λ (x : Object). Spells x bytes) k.1 (a.value.0, record { lawful = a.took.right; spelled = spelled })

pub spells_whole : (bytes : List ℕ) (o : Object) → Spells o bytes → whole_at bytes ≡ Ok o
unfolding whole_at
spells_whole bytes o spells =
    let text = record_text spells.0 o in
    ap (λ (r : List ℕ). object_at r >>= λ o. where_kept (eqb (length o.1) 0) (length o.1) o.0.1) (spells.1.spelled ∙ sym (append-nil text))
    ∙ gives IsVersioned versioned_text object_at (λ o. where_kept (eqb (length o.1) 0) (length o.1) o.0.1) (spells.0, o) [] object_exact spells.1.lawful

placed_ok : (total : ℕ) (r : Result Object ℕ) (o : Object) → placed total r ≡ Ok o → r ≡ Ok o
placed_ok total (Ok x) o e = e
placed_ok total (Err left) o e = absurd (let bad = e in cc)

-- what is read is an object that the bytes spell
pub read_spells : (bytes : List ℕ) (o : Object) → IsBytes bytes → read bytes ≡ Ok o → Spells o bytes
unfolding read
read_spells bytes o fits e = whole_spells bytes o fits (placed_ok (length bytes) (whole_at bytes) o e)

-- and each object that they spell is what is read
pub spells_read : (bytes : List ℕ) (o : Object) → Spells o bytes → read bytes ≡ Ok o
unfolding read
spells_read bytes o spells = ap (placed (length bytes)) (spells_whole bytes o spells)

pub decoded_spells : (bytes : List ℕ) (r : Result Object CodecRefusal) → IsBytes bytes → Decodes r (read bytes) → IfOk r (λ o. Spells o bytes)
decoded_spells bytes (Ok o) fits d = read_spells bytes o fits d
decoded_spells bytes (Err e) fits d = tt

pub decoded_only : (bytes : List ℕ) (r : Result Object CodecRefusal) → Decodes r (read bytes) → (o : Object) → Spells o bytes → Decodes r (Ok o)
decoded_only bytes r d o spells = subst (Decodes r) (spells_read bytes o spells) d

-- bytes spell one object
pub one_object : (bytes : List ℕ) (o p : Object) → Spells o bytes → Spells p bytes → o ≡ p
one_object bytes o p first second = ok_object o p (sym (spells_read bytes o first) ∙ spells_read bytes p second)
  where
    ok_object : (a b : Object) → ◌≡◌ {A = Result Object ℕ} (Ok a) (Ok b) → a ≡ b
    ok_object a b e = cc
