-- What was undone is put back.
use Rattle.std.proofs.Common.{ℕ, ◌≡◌, ◌∙◌, ◌<◌, ◌==◌, ◌++◌, ◌∷◌, [], refl, sym, ap, subst, arith, Bool, true, false, cond, List, map, Option, Some, None, nat_lt, find, append-nil, eqb-true}
use Rattle.std.specs.Option.{option_map}
use Rattle.std.specs.List.{AllByRecursion}
use Rattle.std.proofs.lemmas.Bool.{ltb-true}
use Rattle.std.proofs.lemmas.Grind.{flat_map-append}
use Rattle.zbase.specs.History.{Value, Transaction, History, added}
use Rattle.zbase.specs.Values.{Revision, before, later, newest, revisions, revisions_of, transaction, value, value_of}
use Rattle.evaluator.specs.declared.ask.Ask.{Ask}
use Rattle.evaluator.specs.declared.draft.Draft.{Draft}
use Rattle.evaluator.specs.declared.fact.Fact.{Fact}
use Rattle.evaluator.specs.declared.fact.Part.{Part}
use Rattle.evaluator.specs.FactLaws.{fact_asked}
use Rattle.evaluator.specs.Facts.{ask_of, fact, last_records, part_of, parts_of}
use Rattle.evaluator.specs.Settle.{by_oid, record_of, settle}
use Rattle.fs_undo.specs.Undo.{entries_of, restore_of}
use Rattle.fs_undo.specs.UndoLaws.{undone_from, written_is}
use Rattle.fs_undo.specs.Undone.{AreUnchanged, IsPutBack, UndoneIsPutBack, has_part, in_history}
use Rattle.fs_undo.proofs.PresentValues.{planned_run, unchanged_is}
use Rattle.fs_undo.proofs.Serials.{newest_append, revision, value_at_serial}
use Rattle.fs_undo.proofs.Sorted.{GoesBack, first_restored, newest_of, restored_apart, sorted_newest}

some_is : (f g : Fact) → ◌≡◌ {A = Option Fact} (Some f) (Some g) → f ≡ g
some_is f g e = cc

pub tells : (h : History) (ask : Ask) (f : Fact) → in_history h ask ≡ Some f → ask_of f ≡ ask
tells h ask f e = subst (λ g. ask_of g ≡ ask) (some_is (fact h ask) f e) (fact_asked h ask)

-- what is told of a transaction is what it did, above the floor
pub told_parts : (h : History) (t : ℕ) (ps : List Part) → fact h (Ask.Transaction t) ≡ Fact.Transaction t (Some ps) → (x : Transaction) × (transaction h t ≡ Some x) × (h.floor < t) × (ps ≡ parts_of h x)
told_parts h t ps e = at (nat_lt h.floor t) refl (transaction h t) refl e
  where
    at : (b : Bool) → nat_lt h.floor t ≡ b → (o : Option Transaction) → transaction h t ≡ o → Fact.Transaction t (option_map (parts_of h) (cond b (transaction h t) None)) ≡ Fact.Transaction t (Some ps) → (x : Transaction) × (transaction h t ≡ Some x) × (h.floor < t) × (ps ≡ parts_of h x)
    at false is o found e' = absurd (let bad = e' in cc)
    at true is None found e' = absurd (let bad : Fact.Transaction t None ≡ Fact.Transaction t (Some ps) = sym (ap (λ (f : Option Transaction). Fact.Transaction t (option_map (parts_of h) f)) found) ∙ e' in cc)
    at true is (Some x) found e' =
        let same : Fact.Transaction t (Some (parts_of h x)) ≡ Fact.Transaction t (Some ps) = sym (ap (λ (f : Option Transaction). Fact.Transaction t (option_map (parts_of h) f)) found) ∙ e' in
        (x, found, ltb-true h.floor t is, (let parts : parts_of h x ≡ ps = cc in sym parts))

-- each part goes back to what its object was before the transaction
goes_back : (h : History) (t s : ℕ) (rs : List (ℕ × Value)) → 0 < t → AllByRecursion (GoesBack h s (λ o. value (before h t) o)) (map (part_of (before h t)) rs)
goes_back h t s [] positive = tt
goes_back h t s (r ∷ rs) positive = (value_at_serial h r.0 t positive, goes_back h t s rs positive)

newest_settled : (h : History) (s o : ℕ) (d : Draft) → newest (revisions (added h (settle h d s))) o ≡ later (newest (revisions h) o) (newest_of s (by_oid (map (record_of h) d.entries)) o)
newest_settled h s o d =
    let x = settle h d s in
    ap (λ rs. newest rs o) (flat_map-append revisions_of h.transactions (x ∷ []) ∙ ap (λ rs. revisions h ++ rs) (append-nil (revisions_of x)))
    ∙ newest_append (revisions h) (revisions_of x) o

value_later : (n : Option Revision) (b : Bool) (s o : ℕ) (v : Value) → value_of (later n (cond b (Some (revision s (o, v))) None)) ≡ cond b v (value_of n)
value_later n true s o v = refl
value_later n false s o v = refl

put_back : (h : History) (t s : ℕ) (d : Draft) (x : Transaction) → 0 < t → x.tid ≡ t → d.entries ≡ entries_of (map restore_of (parts_of h x)) → IsPutBack h t s d (parts_of h x)
put_back h t s d x positive own entries = λ o.
    let ps = parts_of h x in
    let all : AllByRecursion (GoesBack h s (λ n. value (before h t) n)) ps = subst (λ n. AllByRecursion (GoesBack h s (λ m. value (before h t) m)) (map (part_of (before h n)) (last_records x.records))) (sym own) (goes_back h t s (last_records x.records) positive) in
    let records = map (record_of h) (entries_of (map restore_of ps)) in
    let found : newest_of s (by_oid records) o ≡ cond (has_part o ps) (Some (revision s (o, value (before h t) o))) None =
    sorted_newest s records o (restored_apart h s (λ n. value (before h t) n) [] ps all) ∙ first_restored h s (λ n. value (before h t) n) [] ps o all in
    ap value_of (newest_settled h s o d ∙ ap (λ es. later (newest (revisions h) o) (newest_of s (by_oid (map (record_of h) es)) o)) entries ∙ ap (later (newest (revisions h) o)) found)
    ∙ value_later (newest (revisions h) o) (has_part o ps) s o (value (before h t) o)

found_own : (t : ℕ) (xs : List Transaction) (x : Transaction) → find (λ y. y.tid == t) xs ≡ Some x → x.tid ≡ t
found_own t [] x e = absurd (let bad = e in cc)
found_own t (y ∷ ys) x e = at (y.tid == t) refl e (found_own t ys x)
  where
    at : (b : Bool) → (y.tid == t) ≡ b → cond b (Some y) (find (λ z. z.tid == t) ys) ≡ Some x → (find (λ z. z.tid == t) ys ≡ Some x → x.tid ≡ t) → x.tid ≡ t
    at true is e' deeper = (let same : y ≡ x = cc in ap (λ (z : Transaction). z.tid) (sym same) ∙ eqb-true y.tid t is)
    at false is e' deeper = deeper e'

pub is_put_back : UndoneIsPutBack
is_put_back h t s d e =
    let from = undone_from (in_history h) (tells h) t d.entries e in
    let told = told_parts h t from.0 (some_is (fact h (Ask.Transaction t)) (Fact.Transaction t (Some from.0)) from.1) in
    let entries = written_is (in_history h) t from.0 d.entries from.2 in
    record {
      x = told.0;
      is = told.1;
      above = told.2;
      unchanged = subst (AreUnchanged h) told.3 (unchanged_is h from.0 d.entries (sym (planned_run h t from.0) ∙ from.2));
      back = put_back h t s d told.0 (omega (arith, told.2)) (found_own t h.transactions told.0 told.1) (entries ∙ ap (λ ps. entries_of (map restore_of ps)) told.3);
    }
