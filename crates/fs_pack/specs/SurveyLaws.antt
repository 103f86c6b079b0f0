-- A survey of one transaction more, and what the objects that it keeps begin.
use Rattle.std.proofs.Common.{◌≡◌, ℕ, ◌+◌, ◌<◌, ◌≤◌, ◌==◌, ◌&&◌, ◌||◌, Bool, true, false, cond, List, [], ◌∷◌, ◌++◌, map, filter, flat_map, length, nat_le, nat_lt, Option, None, Some, refl, sym, ap, ap₂, subst, ◌∙◌, arith, append_assoc, append-nil, eq-eqb, eqb-true, if◌then◌else◌}
use Rattle.std.specs.List.{list_any, AllByRecursion}
use Rattle.std.proofs.lemmas.List.{length-append, map-append}
use Rattle.std.proofs.lemmas.List.Elements.{filter-append}
use Rattle.std.proofs.lemmas.Grind.{flat_map-append}
use Rattle.std.proofs.lemmas.Bool.Decides.{nat_tests}
use Rattle.zbase.specs.History.{Value, Transaction, History}
use Rattle.zbase.specs.Values.{Revision, last_after, revisions_of}
use Rattle.zbase.specs.HistoryLaws.{last_after-append}
use Rattle.fs_record.specs.StandingLaws.{revision}
use Rattle.packing.specs.Packed.{records_in}
use Rattle.packing.specs.Reachable.{IsClosed, Linking, behind, links_in, spells_none, written_behind}
use Rattle.fs_pack.specs.Entries.{Entry, said}
use Rattle.fs_pack.specs.KeepLaws.{Begins, LeastLater}
use Rattle.fs_pack.specs.Marked.{AreIn, added, all_added, broken_by, is_in}
use Rattle.fs_pack.specs.MarkedLaws.{all_in, all_more, still_all, still_in}
use Rattle.fs_pack.specs.Numbered.{AreNumbered, last_number, oids_of}
use Rattle.fs_pack.specs.NumberedLaws.{number-append}
use Rattle.fs_pack.specs.Surveyed.{SurveyOf, Takes, entries_behind, entries_to, failing, seeded}
use Rattle.fs_pack.specs.declared.surveying.Survey.{Survey}

-- ---- one transaction more

said-append : (es fs : List Entry) → said (es ++ fs) ≡ said es ++ said fs
said-append es fs = map-append (λ (e : Entry). e.said) es fs

records-append : (xs ys : List Transaction) → records_in (xs ++ ys) ≡ records_in xs ++ records_in ys
records-append xs ys = flat_map-append (λ (x : Transaction). x.records) xs ys

oids-append : (xs ys : List (ℕ × Value)) → oids_of (xs ++ ys) ≡ oids_of xs ++ oids_of ys
oids-append xs ys = map-append (λ (r : ℕ × Value). r.0) xs ys

records_one : (e : Entry) → records_in (said (e ∷ [])) ≡ e.said.records
records_one e = append-nil e.said.records

seeded-append : (links : Linking) (rs ss : List (ℕ × Value)) (os : List ℕ) → seeded links (rs ++ ss) os ≡ seeded links ss (seeded links rs os)
seeded-append links [] ss os = refl
seeded-append links (r ∷ rs) ss os = seeded-append links rs ss (all_added (links_in links r.1) (added r.0 os))

failing-append : (links : Linking) (rs ss : List (ℕ × Value)) (b : Option ℕ) → failing links (rs ++ ss) b ≡ failing links ss (failing links rs b)
failing-append links [] ss b = refl
failing-append links (r ∷ rs) ss b = failing-append links rs ss (broken_by (spells_none links r.1) r.0 b)

to_more : (t : ℕ) (es : List Entry) (e : Entry) (b : Bool) → nat_le e.said.tid t ≡ b → entries_to t (es ++ e ∷ []) ≡ entries_to t es ++ cond b (e ∷ []) []
to_more t es e b is = filter-append (λ (f : Entry). nat_le f.said.tid t) es (e ∷ []) ∙ ap (λ (c : Bool). entries_to t es ++ cond c (e ∷ []) []) is

behind_more : (t : ℕ) (es : List Entry) (e : Entry) (b : Bool) → nat_lt t e.said.tid ≡ b → entries_behind t (es ++ e ∷ []) ≡ entries_behind t es ++ cond b (e ∷ []) []
behind_more t es e b is = filter-append (λ (f : Entry). nat_lt t f.said.tid) es (e ∷ []) ∙ ap (λ (c : Bool). entries_behind t es ++ cond c (e ∷ []) []) is

records_more : (es : List Entry) (e : Entry) → records_in (said (es ++ e ∷ [])) ≡ records_in (said es) ++ e.said.records
records_more es e = ap records_in (said-append es (e ∷ [])) ∙ records-append (said es) (said (e ∷ [])) ∙ ap (λ (rs : List (ℕ × Value)). records_in (said es) ++ rs) (records_one e)

pub survey_one : (links : Linking) (t : ℕ) (es : List Entry) (e : Entry) (old new : Survey) → SurveyOf links t es old → Takes links t e old new → SurveyOf links t (es ++ e ∷ []) new
survey_one links t es e old new s takes = go (nat_le e.said.tid t) (nat_lt t e.said.tid) refl refl
  where
    go : (a b : Bool) → nat_le e.said.tid t ≡ a → nat_lt t e.said.tid ≡ b → SurveyOf links t (es ++ e ∷ []) new
    go true false p q =
        let u = takes.up_to p in
        let front : entries_to t (es ++ e ∷ []) ≡ entries_to t es ++ e ∷ [] = to_more t es e true p in
        let same : entries_behind t (es ++ e ∷ []) ≡ entries_behind t es = behind_more t es e false q ∙ append-nil (entries_behind t es) in
        let rs = records_in (said (entries_to t es)) in
        let more : oids_of (records_in (said (entries_to t (es ++ e ∷ [])))) ≡ oids_of rs ++ oids_of e.said.records = ap (λ (fs : List Entry). oids_of (records_in (said fs))) front ∙ ap oids_of (records_more (entries_to t es) e) ∙ oids-append rs e.said.records in
        record {
          newest = λ o. u.newest o ∙ ap₂ (λ (f : Option ℕ) (n : ℕ). last_number o f n (oids_of e.said.records)) (s.newest o) s.records ∙ sym (ap (last_number o None 0) more ∙ number-append o 0 (length (oids_of rs)) None (oids_of rs) (oids_of e.said.records) (omega arith));
          records = u.records ∙ ap (λ (n : ℕ). n + length (oids_of e.said.records)) s.records ∙ sym (ap length more ∙ length-append (oids_of rs) (oids_of e.said.records));
          until = u.until ∙ sym (ap (λ (fs : List Entry). last_after 0 (said fs)) front ∙ ap (last_after 0) (said-append (entries_to t es) (e ∷ [])) ∙ last_after-append 0 (said (entries_to t es)) (e.said ∷ []));
          kept = u.kept ∙ s.kept ∙ sym (ap (λ (fs : List Entry). seeded links (records_in (said fs)) (0 ∷ [])) same);
          broken = u.broken ∙ s.broken ∙ sym (ap (λ (fs : List Entry). failing links (records_in (said fs)) None) same);
        }
    go false true p q =
        let u = takes.behind q in
        let same : entries_to t (es ++ e ∷ []) ≡ entries_to t es = to_more t es e false p ∙ append-nil (entries_to t es) in
        let back : entries_behind t (es ++ e ∷ []) ≡ entries_behind t es ++ e ∷ [] = behind_more t es e true q in
        let rs = records_in (said (entries_behind t es)) in
        let more : records_in (said (entries_behind t (es ++ e ∷ []))) ≡ rs ++ e.said.records = ap (λ (fs : List Entry). records_in (said fs)) back ∙ records_more (entries_behind t es) e in
        record {
          newest = subst (λ (fs : List Entry). AreNumbered new.newest (oids_of (records_in (said fs)))) (sym same) (subst (λ x. AreNumbered x (oids_of (records_in (said (entries_to t es))))) (sym u.newest) s.newest);
          records = u.records ∙ s.records ∙ sym (ap (λ (fs : List Entry). length (oids_of (records_in (said fs)))) same);
          until = u.until ∙ s.until ∙ sym (ap (λ (fs : List Entry). last_after 0 (said fs)) same);
          kept = u.kept ∙ ap (seeded links e.said.records) s.kept ∙ sym (ap (λ (qs : List (ℕ × Value)). seeded links qs (0 ∷ [])) more ∙ seeded-append links rs e.said.records (0 ∷ []));
          broken = u.broken ∙ ap (failing links e.said.records) s.broken ∙ sym (ap (λ (qs : List (ℕ × Value)). failing links qs None) more ∙ failing-append links rs e.said.records None);
        }
    go true true p q = absurd (grind (arith, nat_tests))
    go false false p q = absurd (grind (arith, nat_tests))

-- ---- revisions, as records

abbrev pairs : List Revision → List (ℕ × Value)
pairs rs = map (λ (r : Revision). (r.oid, r.value)) rs

pairs_one : (t : ℕ) (rs : List (ℕ × Value)) → pairs (map (revision t) rs) ≡ rs
pairs_one t [] = refl
pairs_one t ((o, v) ∷ rs) = ap (λ (ss : List (ℕ × Value)). (o, v) ∷ ss) (pairs_one t rs)

pairs_all : (xs : List Transaction) → pairs (flat_map revisions_of xs) ≡ records_in xs
pairs_all [] = refl
pairs_all (x ∷ xs) =
    map-append (λ (r : Revision). (r.oid, r.value)) (revisions_of x) (flat_map revisions_of xs)
    ∙ ap₂ (λ (rs ss : List (ℕ × Value)). rs ++ ss) (pairs_one x.tid x.records) (pairs_all xs)

from_pairs : (P : ℕ × Value → Type 0) (rs : List Revision) → AllByRecursion P (pairs rs) → AllByRecursion (λ (r : Revision). P (r.oid, r.value)) rs
from_pairs P [] all = tt
from_pairs P (r ∷ rs) all = (all.0, from_pairs P rs all.1)

to_pairs : (P : ℕ × Value → Type 0) (rs : List Revision) → AllByRecursion (λ (r : Revision). P (r.oid, r.value)) rs → AllByRecursion P (pairs rs)
to_pairs P [] all = tt
to_pairs P (r ∷ rs) all = (all.0, to_pairs P rs all.1)

-- ---- what is kept of later transactions begins the search

abbrev Has : (ℕ → Bool) → List ℕ → Type 0
Has other = AllByRecursion (λ p. other p ≡ true)

seeded_more : (links : Linking) (rs : List (ℕ × Value)) (os : List ℕ) → (more : List ℕ) × (seeded links rs os ≡ os ++ more)
seeded_more links [] os = ([], sym (append-nil os))
seeded_more links (r ∷ rs) os =
    let one = all_more (r.0 ∷ links_in links r.1) os in
    let rest = seeded_more links rs (all_added (links_in links r.1) (added r.0 os)) in
    (one.0 ++ rest.0, rest.1 ∙ ap (λ xs. xs ++ rest.0) one.1 ∙ append_assoc os one.0 rest.0)

-- each record's object and what its value leads to are there
abbrev IsSeed : Linking → List ℕ → ℕ × Value → Type 0
IsSeed links os r = AreIn os (r.0 ∷ links_in links r.1)

seeded_in : (links : Linking) (rs : List (ℕ × Value)) (os : List ℕ) → AllByRecursion (IsSeed links (seeded links rs os)) rs
seeded_in links [] os = tt
seeded_in links (r ∷ rs) os =
    let now = all_added (links_in links r.1) (added r.0 os) in
    let more = seeded_more links rs now in
    (subst (λ xs. AreIn xs (r.0 ∷ links_in links r.1)) (sym more.1) (still_all now more.0 (r.0 ∷ links_in links r.1) (all_in (r.0 ∷ links_in links r.1) os)), seeded_in links rs now)

abbrev AllowsSeed : Linking → (ℕ → Bool) → ℕ × Value → Type 0
AllowsSeed links other r = Has other (r.0 ∷ links_in links r.1)

all_append : {X : Type 0} (P : X → Type 0) (xs ys : List X) → AllByRecursion P xs → AllByRecursion P ys → AllByRecursion P (xs ++ ys)
all_append P [] ys a b = b
all_append P (x ∷ xs) ys a b = (a.0, all_append P xs ys a.1 b)

has_all : (other : ℕ → Bool) (ps os : List ℕ) → Has other ps → Has other os → Has other (all_added ps os)
has_all other [] os a b = b
has_all other (p ∷ ps) os a b = has_all other ps (added p os) a.1 (go (is_in os p))
  where
    go : (c : Bool) → Has other (cond c os (os ++ p ∷ []))
    go true = b
    go false = all_append (λ q. other q ≡ true) os (p ∷ []) b (a.0, tt)

seeded_least : (links : Linking) (other : ℕ → Bool) (rs : List (ℕ × Value)) (os : List ℕ) → AllByRecursion (AllowsSeed links other) rs → Has other os → Has other (seeded links rs os)
seeded_least links other [] os all has = has
seeded_least links other (r ∷ rs) os all has = seeded_least links other rs (all_added (links_in links r.1) (added r.0 os)) all.1 (has_all other (r.0 ∷ links_in links r.1) os all.0 has)

-- what holds of the later values of each object holds of each record
each_value : (other : ℕ → Bool) (Q : Value → Type 0) (rs : List Revision) → AllByRecursion (λ (r : Revision). other r.oid ≡ true) rs
    → ((o : ℕ) → other o ≡ true → AllByRecursion Q (map (λ (r : Revision). r.value) (filter (λ (r : Revision). r.oid == o) rs))) → AllByRecursion (λ (r : Revision). Q r.value) rs
each_value other Q [] here all = tt
each_value other Q (r ∷ rs) here all = (
  first (subst (λ (b : Bool). AllByRecursion Q (map (λ (q : Revision). q.value) (cond b (r ∷ mine r.oid) (mine r.oid)))) (eq-eqb r.oid r.oid refl) (all r.oid here.0)),
  each_value other Q rs here.1 (λ o is. rest o (r.oid == o) (all o is)),
)
  where
    mine : ℕ → List Revision
    mine o = filter (λ (q : Revision). q.oid == o) rs

    first : AllByRecursion Q (map (λ (q : Revision). q.value) (r ∷ mine r.oid)) → Q r.value
    first a = a.0

    rest : (o : ℕ) (b : Bool) → AllByRecursion Q (map (λ (q : Revision). q.value) (cond b (r ∷ mine o) (mine o))) → AllByRecursion Q (map (λ (q : Revision). q.value) (mine o))
    rest o true a = a.1
    rest o false a = a

both_all : {X : Type 0} (P Q : X → Type 0) (xs : List X) → AllByRecursion P xs → AllByRecursion Q xs → AllByRecursion (λ x. P x × Q x) xs
both_all P Q [] a b = tt
both_all P Q (x ∷ xs) a b = ((a.0, b.0), both_all P Q xs a.1 b.1)

first_all : {X : Type 0} (P Q : X → Type 0) (xs : List X) → AllByRecursion (λ x. P x × Q x) xs → AllByRecursion P xs
first_all P Q [] a = tt
first_all P Q (x ∷ xs) a = (a.0.0, first_all P Q xs a.1)

second_all : {X : Type 0} (P Q : X → Type 0) (xs : List X) → AllByRecursion (λ x. P x × Q x) xs → AllByRecursion Q xs
second_all P Q [] a = tt
second_all P Q (x ∷ xs) a = (a.0.1, second_all P Q xs a.1)

pub begins_so : (links : Linking) (h : History) (t : ℕ) → Begins links h t (seeded links (records_in (behind h t)) (0 ∷ []))
begins_so links h t = record {
  root = subst (λ xs. is_in xs 0 ≡ true) (sym (seeded_more links rs (0 ∷ [])).1) (still_in (0 ∷ []) (seeded_more links rs (0 ∷ [])).0 0 refl);
  written = first_all (λ (r : Revision). is_in seeds r.oid ≡ true) (λ (r : Revision). AreIn seeds (links_in links r.value)) (written_behind h t) there;
  linked = second_all (λ (r : Revision). is_in seeds r.oid ≡ true) (λ (r : Revision). AreIn seeds (links_in links r.value)) (written_behind h t) there;
  least = λ other closed. seeded_least links other rs (0 ∷ []) (subst (AllByRecursion (AllowsSeed links other)) (pairs_all (behind h t)) (to_pairs (AllowsSeed links other) (written_behind h t) (allowed other closed))) (closed.root, tt);
}
  where
    rs : List (ℕ × Value)
    rs = records_in (behind h t)

    seeds : List ℕ
    seeds = seeded links rs (0 ∷ [])

    there : AllByRecursion (λ (r : Revision). (is_in seeds r.oid ≡ true) × AreIn seeds (links_in links r.value)) (written_behind h t)
    there = from_pairs (IsSeed links seeds) (written_behind h t) (subst (AllByRecursion (IsSeed links seeds)) (sym (pairs_all (behind h t))) (seeded_in links rs (0 ∷ [])))

    allowed : (other : ℕ → Bool) → IsClosed links h t other → AllByRecursion (λ (r : Revision). (other r.oid ≡ true) × Has other (links_in links r.value)) (written_behind h t)
    allowed other closed = both_all (λ (r : Revision). other r.oid ≡ true) (λ (r : Revision). Has other (links_in links r.value)) (written_behind h t) closed.written
        (each_value other (λ (v : Value). Has other (links_in links v)) (written_behind h t) closed.written (λ o is. (closed.linked o is).1))

-- ---- the least of which a later value can't be read

-- whether one of the object's values among these records can't be read
abbrev lacks : Linking → List (ℕ × Value) → ℕ → Bool
lacks links [] o = false
lacks links (r ∷ rs) o = ((r.0 == o) && spells_none links r.1) || lacks links rs o

abbrev pub later_fails : Linking → History → ℕ → ℕ → Bool
later_fails links h t o = list_any (spells_none links) (map (λ (r : Revision). r.value) (filter (λ (r : Revision). r.oid == o) (written_behind h t)))

lacks_so : (links : Linking) (rs : List Revision) (o : ℕ) → lacks links (pairs rs) o ≡ list_any (spells_none links) (map (λ (r : Revision). r.value) (filter (λ (r : Revision). r.oid == o) rs))
lacks_so links [] o = refl
lacks_so links (r ∷ rs) o = go (r.oid == o) (lacks_so links rs o)
  where
    mine : List Revision
    mine = filter (λ (q : Revision). q.oid == o) rs

    go : (b : Bool) → lacks links (pairs rs) o ≡ list_any (spells_none links) (map (λ (q : Revision). q.value) mine)
        → ((b && spells_none links r.value) || lacks links (pairs rs) o) ≡ list_any (spells_none links) (map (λ (q : Revision). q.value) (cond b (r ∷ mine) mine))
    go true deeper = ap (λ (c : Bool). spells_none links r.value || c) deeper
    go false deeper = deeper

least_same : (f g : ℕ → Bool) (b : Option ℕ) → ((o : ℕ) → f o ≡ g o) → LeastLater f b → LeastLater g b
least_same f g None same none = λ o. sym (same o) ∙ none o
least_same f g (Some b) same one = (sym (same b) ∙ one.0, λ o lt. sym (same o) ∙ one.1 o lt)

or_and : (a b : Bool) → a ≡ false → b ≡ false → (a || b) ≡ false
or_and a b p q = rw (p, q) refl

not_same : (q o : ℕ) → o < q → (q == o) ≡ false
not_same q o lt = go (q == o) refl
  where
    go : (b : Bool) → (q == o) ≡ b → b ≡ false
    go true e = absurd (omega (arith, lt, eqb-true q o e))
    go false e = refl

least_put : (f : ℕ → Bool) (q : ℕ) (x : Bool) (b : Option ℕ) → LeastLater f b → LeastLater (λ o. f o || ((q == o) && x)) (broken_by x q b)
least_put f q false None none = λ o. or_and (f o) ((q == o) && false) (none o) (and_false (q == o))
  where
    and_false : (c : Bool) → (c && false) ≡ false
    and_false true = refl
    and_false false = refl
least_put f q false (Some p) one = (ap (λ (c : Bool). c || ((q == p) && false)) one.0, λ o lt. or_and (f o) ((q == o) && false) (one.1 o lt) (and_false (q == o)))
  where
    and_false : (c : Bool) → (c && false) ≡ false
    and_false true = refl
    and_false false = refl
least_put f q true None none = (last_true (f q), λ o lt. or_and (f o) ((q == o) && true) (none o) (ap (λ (c : Bool). c && true) (not_same q o lt)))
  where
    last_true : (c : Bool) → (c || ((q == q) && true)) ≡ true
    last_true true = refl
    last_true false = ap (λ (d : Bool). d && true) (eq-eqb q q refl)
least_put f q true (Some p) one = go (nat_lt p q) refl
  where
    last_true : (c : Bool) → (c || ((q == q) && true)) ≡ true
    last_true true = refl
    last_true false = ap (λ (d : Bool). d && true) (eq-eqb q q refl)

    go : (c : Bool) → nat_lt p q ≡ c → LeastLater (λ o. f o || ((q == o) && true)) (Some (if c then p else q))
    go true is =
        let lower : p < q = grind (arith, nat_tests) in
        (ap (λ (d : Bool). d || ((q == p) && true)) one.0, λ o lt. or_and (f o) ((q == o) && true) (one.1 o lt) (ap (λ (d : Bool). d && true) (not_same q o (omega (arith, lt, lower)))))
    go false is =
        let lower : q ≤ p = grind (arith, nat_tests) in
        (last_true (f q), λ o lt. or_and (f o) ((q == o) && true) (one.1 o (omega (arith, lt, lower))) (ap (λ (d : Bool). d && true) (not_same q o lt)))

or_assoc : (a b c : Bool) → ((a || b) || c) ≡ (a || (b || c))
or_assoc true b c = refl
or_assoc false b c = refl

failing_least : (links : Linking) (f : ℕ → Bool) (rs : List (ℕ × Value)) (b : Option ℕ) → LeastLater f b → LeastLater (λ o. f o || lacks links rs o) (failing links rs b)
failing_least links f [] b least = least_same f (λ o. f o || false) b (λ o. or_false (f o)) least
  where
    or_false : (c : Bool) → c ≡ (c || false)
    or_false true = refl
    or_false false = refl
failing_least links f (r ∷ rs) b least =
    least_same (λ o. (f o || ((r.0 == o) && spells_none links r.1)) || lacks links rs o) (λ o. f o || lacks links (r ∷ rs) o) (failing links (r ∷ rs) b)
    (λ o. or_assoc (f o) ((r.0 == o) && spells_none links r.1) (lacks links rs o))
    (failing_least links (λ o. f o || ((r.0 == o) && spells_none links r.1)) rs (broken_by (spells_none links r.1) r.0 b) (least_put f r.0 (spells_none links r.1) b least))

pub fails_so : (links : Linking) (h : History) (t : ℕ) → LeastLater (later_fails links h t) (failing links (records_in (behind h t)) None)
fails_so links h t =
    least_same (λ o. false || lacks links (records_in (behind h t)) o) (later_fails links h t) (failing links (records_in (behind h t)) None)
    (λ o. ap (λ (rs : List (ℕ × Value)). lacks links rs o) (sym (pairs_all (behind h t))) ∙ lacks_so links (written_behind h t) o)
    (failing_least links (λ o. false) (records_in (behind h t)) None (λ o. refl))

-- an object of which a later value can't be read was written later
pub fails_kept : (links : Linking) (keep : ℕ → Bool) (rs : List Revision) (o : ℕ) → AllByRecursion (λ (r : Revision). keep r.oid ≡ true) rs
    → list_any (spells_none links) (map (λ (r : Revision). r.value) (filter (λ (r : Revision). r.oid == o) rs)) ≡ true → keep o ≡ true
fails_kept links keep [] o all some = absurd cc
fails_kept links keep (r ∷ rs) o all some = go (r.oid == o) refl some (fails_kept links keep rs o all.1)
  where
    mine : List Revision
    mine = filter (λ (q : Revision). q.oid == o) rs

    go : (b : Bool) → (r.oid == o) ≡ b → list_any (spells_none links) (map (λ (q : Revision). q.value) (cond b (r ∷ mine) mine)) ≡ true → (list_any (spells_none links) (map (λ (q : Revision). q.value) mine) ≡ true → keep o ≡ true) → keep o ≡ true
    go true is e deeper = subst (λ p. keep p ≡ true) (eqb-true r.oid o is) all.0
    go false is e deeper = deeper e
