-- Shown objects are put in order by a map, and printed from it.
use Rattle.std.proofs.Common.{◌≡◌, ◌≢◌, ℕ, suc, ◌<◌, Bool, true, false, List, [], ◌∷◌, ◌++◌, refl, sym, ap, ◌∙◌, subst, arith, length, get_or, map, AllPairs, append_assoc, append-nil, ltb, ne_eqb}
use Rattle.std.specs.Prelude.{nat_lt, if◌then◌else◌}
use Rattle.std.specs.List.{AllByRecursion}
use Rattle.std.specs.BTreeMap.{insert_entry}
use Rattle.std.specs.Ordering.{nat_cmp}
use Rattle.evaluator.specs.declared.reply.Shown.{Shown}
use Rattle.schedule.specs.declared.line.Line.{Line}
use Rattle.schedule.specs.Causes.{by_oid, placed}
use Rattle.replay.specs.ShownInOrder.{entry_of, shown_line}

abbrev Differs : Shown → Shown → Type 0
Differs s t = s.oid ≢ t.oid

-- ---- the map's place for an object is its place by id

place_by : (w : ℕ) (s t : Shown) (ts : List Shown) → insert_entry nat_cmp (map (entry_of w) ts) s.oid (shown_line w s) ≡ map (entry_of w) (placed s ts) → s.oid ≢ t.oid → insert_entry nat_cmp (map (entry_of w) (t ∷ ts)) s.oid (shown_line w s) ≡ map (entry_of w) (placed s (t ∷ ts))
place_by w s t ts deeper other = go (ltb s.oid t.oid) refl
  where
    go : (b : Bool) → ltb s.oid t.oid ≡ b → insert_entry nat_cmp (map (entry_of w) (t ∷ ts)) s.oid (shown_line w s) ≡ map (entry_of w) (placed s (t ∷ ts))
    go true e = rw e refl
    go false e = rw (e, ne_eqb s.oid t.oid other) (ap (λ es. entry_of w t ∷ es) deeper)

pub inserted : (w : ℕ) (s : Shown) (ts : List Shown) → AllByRecursion (Differs s) ts → insert_entry nat_cmp (map (entry_of w) ts) s.oid (shown_line w s) ≡ map (entry_of w) (placed s ts)
inserted w s [] all = refl
inserted w s (t ∷ ts) all = place_by w s t ts (inserted w s ts all.1) all.0

-- ---- what holds of all objects holds of them in order

all_placed : (P : Shown → Type 0) (s : Shown) (ts : List Shown) → P s → AllByRecursion P ts → AllByRecursion P (placed s ts)
all_placed P s [] one all = (one, tt)
all_placed P s (t ∷ ts) one all = go (nat_lt s.oid t.oid) (all_placed P s ts one all.1)
  where
    go : (b : Bool) → AllByRecursion P (placed s ts) → AllByRecursion P (if b then s ∷ t ∷ ts else t ∷ placed s ts)
    go true deeper = (one, all)
    go false deeper = (all.0, deeper)

all_by_oid : (P : Shown → Type 0) (ss : List Shown) → AllByRecursion P ss → AllByRecursion P (by_oid ss)
all_by_oid P [] all = tt
all_by_oid P (s ∷ ss) all = all_placed P s (by_oid ss) all.0 (all_by_oid P ss all.1)

-- ---- each object differs from those behind it

all_from : (P : Shown → Type 0) (ss : List Shown) → ((j : ℕ) (d : Shown) → j < length ss → P (get_or ss j d)) → AllByRecursion P ss
all_from P [] each = tt
all_from P (s ∷ ss) each = (each 0 s (omega arith), all_from P ss (λ j d lt. each (suc j) d (omega (arith, lt))))

differ_behind : (front : List Shown) (s : Shown) (done : List Shown) → AllPairs (λ a b. a.oid ≢ b.oid) (front ++ s ∷ done) → AllByRecursion (Differs s) done
differ_behind [] s done pairs = all_from (Differs s) done (λ j d below. pairs 0 (suc j) d (omega arith) (omega (arith, below)))
differ_behind (t ∷ front) s done pairs = differ_behind front s done (λ a b d below within. pairs (suc a) (suc b) d (omega (arith, below)) (omega (arith, within)))

-- one object more, from the last on
pub one_placed : (w : ℕ) (all front done : List Shown) (s : Shown) (before after : List (ℕ × Line)) → all ≡ front ++ s ∷ done → AllPairs (λ a b. a.oid ≢ b.oid) all
    → before ≡ map (entry_of w) (by_oid done) → after ≡ insert_entry nat_cmp before s.oid (shown_line w s) → after ≡ map (entry_of w) (by_oid (s ∷ done))
one_placed w all front done s before after is pairs so put =
    put ∙ ap (λ es. insert_entry nat_cmp es s.oid (shown_line w s)) so
    ∙ inserted w s (by_oid done) (all_by_oid (Differs s) done (differ_behind front s done (subst (λ (ss : List Shown). AllPairs (λ a b. a.oid ≢ b.oid) ss) is pairs)))

-- ---- the lines of the map's entries

abbrev pub line_in : ℕ × Line → Line
line_in e = e.1

pub lines_in_order : (w : ℕ) (ss : List Shown) → map line_in (map (entry_of w) ss) ≡ map (shown_line w) ss
lines_in_order w [] = refl
lines_in_order w (s ∷ ss) = ap (λ ls. shown_line w s ∷ ls) (lines_in_order w ss)

pub one_line_more : (done : List Line) (es rest all : List (ℕ × Line)) (e : ℕ × Line) → done ++ map line_in es ≡ map line_in all → es ≡ e ∷ rest → (done ++ line_in e ∷ []) ++ map line_in rest ≡ map line_in all
one_line_more done es rest all e so next = append_assoc done (line_in e ∷ []) (map line_in rest) ∙ ap (λ xs. done ++ map line_in xs) (sym next) ∙ so

pub all_lines : (done : List Line) (es all : List (ℕ × Line)) → done ++ map line_in es ≡ map line_in all → es ≡ [] → done ≡ map line_in all
all_lines done es all so none = sym (append-nil done) ∙ ap (λ xs. done ++ map line_in xs) (sym none) ∙ so
