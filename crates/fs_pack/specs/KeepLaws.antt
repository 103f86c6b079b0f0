-- What is reached from the root and from what was written later, object by object, is what a pack keeps.
use Rattle.std.proofs.Common.{if◌then◌else◌, ◌≡◌, ℕ, ◌<◌, ◌==◌, ◌&&◌, ◌||◌, ◌+◌, arith, Bool, true, false, cond, List, [], ◌∷◌, ◌++◌, nat_lt, map, filter, Option, Some, None, refl, sym, ap, subst, ◌∙◌, eqb-true}
use Rattle.std.specs.List.{list_any, AllByRecursion}
use Rattle.zbase.specs.History.{Value, History}
use Rattle.zbase.specs.Values.{Revision, value_of, value, upto, revisions, newest}
use Rattle.fs_record.specs.File.{Earlier, Front, IsFile, is_row, last_place, rows, value_at}
use Rattle.fs_record.specs.Standing.{LastStands}
use Rattle.fs_record.specs.StandingLaws.{RiseWithin, file_kept, last_stands}
use Rattle.packing.specs.Reachable.{IsClosed, IsKeep, Linking, links_in, written_behind}
use Rattle.std.proofs.lemmas.Bool.Decides.{nat_tests}
use Rattle.fs_pack.specs.Marked.{AreIn, IsLeast, Leading, is_in, meant, or_lesser}
use Rattle.fs_pack.specs.MarkedLaws.{of_all, still_all, still_in}

-- what a search begins with: the root, what was written later than t, and what the later values lead to, and nothing that a
-- closed set lacks
pub record Begins (links : Linking) (h : History) (t : ℕ) (seeds : List ℕ) : Type 0 where
  pub root : is_in seeds 0 ≡ true
  pub written : AllByRecursion (λ (r : Revision). is_in seeds r.oid ≡ true) (written_behind h t)
  pub linked : AllByRecursion (λ (r : Revision). AreIn seeds (links_in links r.value)) (written_behind h t)
  pub least : (other : ℕ → Bool) → IsClosed links h t other → AllByRecursion (λ o. other o ≡ true) seeds

abbrev HasAll : List ℕ → Linking → Value → Type 0
HasAll now links v = AllByRecursion (λ p. is_in now p ≡ true) (links_in links v)

still_written : (seeds more : List ℕ) (rs : List Revision) → AllByRecursion (λ (r : Revision). is_in seeds r.oid ≡ true) rs → AllByRecursion (λ (r : Revision). is_in (seeds ++ more) r.oid ≡ true) rs
still_written seeds more [] all = tt
still_written seeds more (r ∷ rs) all = (still_in seeds more r.oid all.0, still_written seeds more rs all.1)

later_linked : (links : Linking) (seeds more : List ℕ) (o : ℕ) (rs : List Revision) → AllByRecursion (λ (r : Revision). AreIn seeds (links_in links r.value)) rs
    → AllByRecursion (HasAll (seeds ++ more) links) (map (λ (r : Revision). r.value) (filter (λ (r : Revision). r.oid == o) rs))
later_linked links seeds more o [] all = tt
later_linked links seeds more o (r ∷ rs) all = go (r.oid == o) (later_linked links seeds more o rs all.1)
  where
    go : (b : Bool) → AllByRecursion (HasAll (seeds ++ more) links) (map (λ (q : Revision). q.value) (filter (λ (q : Revision). q.oid == o) rs))
        → AllByRecursion (HasAll (seeds ++ more) links) (map (λ (q : Revision). q.value) (cond b (r ∷ filter (λ (q : Revision). q.oid == o) rs) (filter (λ (q : Revision). q.oid == o) rs)))
    go true deeper = (still_all seeds more (links_in links r.value) all.0, deeper)
    go false deeper = deeper

pub is_keep : (links : Linking) (h : History) (t : ℕ) (at_t : ℕ → Value) (seeds now : List ℕ) (fails : Option ℕ) → ((o : ℕ) → value (upto h t) o ≡ at_t o) → Begins links h t seeds → Leading links at_t seeds now fails → IsKeep links h t (is_in now)
is_keep links h t at_t seeds now fails same b led = record {
  closed = record {
    root = subst (λ os. is_in os 0 ≡ true) (sym led.grows) (still_in seeds led.more 0 b.root);
    written = subst (λ os. AllByRecursion (λ (r : Revision). is_in os r.oid ≡ true) (written_behind h t)) (sym led.grows) (still_written seeds led.more (written_behind h t) b.written);
    linked = λ o kept. (
      subst (HasAll now links) (sym (same o)) (of_all (λ p. AreIn now (links_in links (at_t p))) now o led.closed kept),
      subst (λ os. AllByRecursion (HasAll os links) (map (λ (r : Revision). r.value) (filter (λ (r : Revision). r.oid == o) (written_behind h t)))) (sym led.grows) (later_linked links seeds led.more o (written_behind h t) b.linked),
    );
  };
  least = λ other closed o kept.
      of_all (λ p. other p ≡ true) now o (led.least other (λ p has. subst (λ (v : Value). AllByRecursion (λ q. other q ≡ true) (links_in links v)) (same p) (closed.linked p has).0) (b.least other closed)) kept;
}

-- ---- the value of a file's last record of an object is that of its history

none_low : (oid n end : ℕ) (es : List Earlier) → 0 < n → RiseWithin n end es → list_any (is_row oid 0) (rows es) ≡ true → ⊥
none_low oid n end [] pos rise is = absurd cc
none_low oid n end (e ∷ es) pos rise is = go (e.at.oid == oid) (e.at.place == 0) refl is (none_low oid (e.at.place + 1) end es (omega arith) rise.2)
  where
    go : (a b : Bool) → (e.at.place == 0) ≡ b → ((a && b) || list_any (is_row oid 0) (rows es)) ≡ true → (list_any (is_row oid 0) (rows es) ≡ true → ⊥) → ⊥
    go a true q is' deeper = absurd (omega (arith, rise.0, pos, eqb-true e.at.place 0 q))
    go true false q is' deeper = deeper is'
    go false false q is' deeper = deeper is'

pub meant_value : (bytes : List ℕ) (front : Front) → IsFile bytes front → (o : ℕ) → value front.history o ≡ meant front.records o
meant_value bytes front file o = go (newest (revisions front.history) o) refl (last_stands bytes [] front file o)
  where
    place : ℕ
    place = last_place o 0 (rows front.records)

    go : (n : Option Revision) → newest (revisions front.history) o ≡ n → LastStands (bytes ++ []) front.records o place n → value front.history o ≡ meant front.records o
    go None e stands = ap value_of e ∙ sym (ap (λ (k : ℕ). let v : Value = (if k == 0 then None else value_at k front.records) in v) stands.0)
    go (Some r) e stands = placed (place == 0) refl
      where
        placed : (b : Bool) → (place == 0) ≡ b → value front.history o ≡ meant front.records o
        placed true low = absurd (none_low o 4 front.place front.records (omega arith) (file_kept bytes front file).rise (subst (λ (k : ℕ). list_any (is_row o k) (rows front.records) ≡ true) (eqb-true place 0 low) stands.0))
        placed false some = ap value_of e ∙ sym stands.1.value ∙ sym (ap (λ (b : Bool). let v : Value = cond b None (value_at place front.records) in v) some)

-- ---- the least object that can't be read, by its value at the pack or a later one

-- the least of all objects of which a later value can't be read, if there is one
abbrev pub LeastLater : (ℕ → Bool) → Option ℕ → Type 0
LeastLater later None = (o : ℕ) → later o ≡ false
LeastLater later (Some b) = (later b ≡ true) × ((o : ℕ) → o < b → later o ≡ false)

abbrev pub least_of : Option ℕ → Option ℕ → Option ℕ
least_of None b = b
least_of (Some o) b = Some (or_lesser o b)

-- the least of the kept ones
abbrev pub LeastKept : (ℕ → Bool) → List ℕ → Option ℕ → Type 0
LeastKept fails now None = (o : ℕ) → is_in now o ≡ true → fails o ≡ false
LeastKept fails now (Some b) = (is_in now b ≡ true) × (fails b ≡ true) × ((o : ℕ) → o < b → is_in now o ≡ true → fails o ≡ false)

neither : (a b : Bool) → a ≡ false → b ≡ false → (a || b) ≡ false
neither a b p q = rw (p, q) refl

first_or : (a b : Bool) → a ≡ true → (a || b) ≡ true
first_or a b p = rw p refl

second_or : (a b : Bool) → b ≡ true → (a || b) ≡ true
second_or true b p = refl
second_or false b p = p

pub least_kept : (now_fails later : ℕ → Bool) (now : List ℕ) (a b : Option ℕ) → IsLeast now_fails now a → LeastLater later b → ((o : ℕ) → later o ≡ true → is_in now o ≡ true) → LeastKept (λ o. now_fails o || later o) now (least_of a b)
least_kept f g now None None all none kept = λ o has. neither (f o) (g o) (of_all (λ p. f p ≡ false) now o all has) (none o)
least_kept f g now None (Some y) all one kept = (kept y one.0, second_or (f y) (g y) one.0, λ o lt has. neither (f o) (g o) (of_all (λ p. f p ≡ false) now o all has) (one.1 o lt))
least_kept f g now (Some x) None all none kept = (all.0, first_or (f x) (g x) all.1, λ o lt has. neither (f o) (g o) (of_all (λ p. p < x → f p ≡ false) now o all.2 has lt) (none o))
least_kept f g now (Some x) (Some y) all one kept = go (nat_lt y x) refl
  where
    go : (b : Bool) → nat_lt y x ≡ b → LeastKept (λ o. f o || g o) now (Some (if b then y else x))
    go true is = (kept y one.0, second_or (f y) (g y) one.0, λ o lt has. neither (f o) (g o) (of_all (λ p. p < x → f p ≡ false) now o all.2 has (before o lt is)) (one.1 o lt))
      where
        before : (o : ℕ) → o < y → nat_lt y x ≡ true → o < x
        before o lt e = grind (arith, nat_tests)
    go false is = (all.0, first_or (f x) (g x) all.1, λ o lt has. neither (f o) (g o) (of_all (λ p. p < x → f p ≡ false) now o all.2 has lt) (one.1 o (before o lt is)))
      where
        before : (o : ℕ) → o < x → nat_lt y x ≡ false → o < y
        before o lt e = grind (arith, nat_tests)
