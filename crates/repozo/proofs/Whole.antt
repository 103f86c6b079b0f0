-- A backup is the file.
use Rattle.std.proofs.Common.{◌≡◌, ◌≢◌, ℕ, ◌+◌, ◌-◌, ◌<◌, ◌≤◌, Bool, true, false, ◌&&◌, ◌||◌, not, ◌==◌, nat_lt, cond, List, [], ◌∷◌, ◌++◌, length, take, drop, map, None, Some, refl, sym, ap, ap₂, ◌∙◌, arith, true≢false, eqb-true, ltb-true, eq-eqb, take-add, append-nil, length-append, length-take-le, length-drop}
use Rattle.std.specs.List.{AllByRecursion, concat}
use Rattle.std.proofs.lemmas.Bool.Decides.{Decides-and}
use Rattle.std.proofs.lemmas.List.Folds.{concat-append}
use Rattle.std.proofs.lemmas.Slice.Eq.{bytes_eq-Decides}
use Rattle.md5.specs.Md5.{md5}
use Rattle.repozo.specs.declared.index.PieceRow.{PieceRow}
use Rattle.repozo.specs.declared.index.TheConstants.{MAX_PIECES}
use Rattle.repozo.specs.declared.planning.BackupPlan.{BackupPlan}
use Rattle.repozo.specs.declared.planning.BackupPlan.TheVariants as plans
use Rattle.repozo.specs.Index.{AreRows, Chained, HasLine, end_from, end_of}
use Rattle.repozo.specs.Pieces.{are_current, first_bad, is_right, part, plan_of, size_of}
use Rattle.repozo.specs.Whole.{AreDigests, IsBackup}

both_true : (x y : Bool) → (x && y) ≡ true → (x ≡ true) × (y ≡ true)
both_true true y e = (refl, e)
both_true false y e = absurd (true≢false (sym e))

-- ---- which plan it is, by the tests

abbrev by_tests : (c e l f : Bool) (s n : ℕ) → BackupPlan
by_tests c e l f s n = cond (c && e) plans.Nothing (cond (c && (l && f)) (plans.More s n) (plans.Full n))

is_nothing : (c e l f : Bool) (s n : ℕ) → by_tests c e l f s n ≡ plans.Nothing → (c ≡ true) × (e ≡ true)
is_nothing true true l f s n is = (refl, refl)
is_nothing true false true true s n is = absurd cc
is_nothing true false true false s n is = absurd cc
is_nothing true false false f s n is = absurd cc
is_nothing false e l f s n is = absurd cc

is_more : (c e l f : Bool) (s n m k : ℕ) → by_tests c e l f s n ≡ plans.More m k → (c ≡ true) × (l ≡ true) × (f ≡ true) × (s ≡ m) × (n ≡ k)
is_more true true l f s n m k is = absurd cc
is_more true false true true s n m k is = (refl, refl, refl, cc, cc)
is_more true false true false s n m k is = absurd cc
is_more true false false f s n m k is = absurd cc
is_more false e l f s n m k is = absurd cc

is_full : (c e l f : Bool) (s n k : ℕ) → by_tests c e l f s n ≡ plans.Full k → n ≡ k
is_full true true l f s n k is = absurd cc
is_full true false true true s n k is = absurd cc
is_full true false true false s n k is = cc
is_full true false false f s n k is = cc
is_full false e l f s n k is = cc

-- ---- current pieces

pub record Held (rows : List PieceRow) (held : List (List ℕ)) (file : List ℕ) : Type 0 where
  pub sizes : map length held ≡ map size_of rows
  pub joined : concat held ≡ take (end_of rows) file

held_of : (rows : List PieceRow) (held : List (List ℕ)) (file : List ℕ) → are_current rows held file ≡ true → Held rows held file
held_of rows held file e =
    let both = (Decides-and _ _ (bytes_eq-Decides (map length held) (map size_of rows)) (bytes_eq-Decides (concat held) (take (end_of rows) file))).0 e in
    record { sizes = both.0; joined = both.1 }

right_one : (r : PieceRow) (p : List ℕ) → length p ≡ size_of r → r.md5 ≡ md5 p → is_right r p ≡ true
right_one r p size digest = ap₂ (λ (x y : Bool). x && y) (eq-eqb (length p) (size_of r) size) ((bytes_eq-Decides (md5 p) r.md5).1 (sym digest))

cons_same : (a b : ℕ) (xs ys : List ℕ) → a ∷ xs ≡ b ∷ ys → (a ≡ b) × (xs ≡ ys)
cons_same a b xs ys e = (cc, cc)

right_all : (rows : List PieceRow) (held : List (List ℕ)) → map length held ≡ map size_of rows → AreDigests rows held → first_bad rows held ≡ None
right_all [] [] sizes digests = refl
right_all [] (p ∷ ps) sizes digests = absurd digests
right_all (r ∷ rs) [] sizes digests = absurd digests
right_all (r ∷ rs) (p ∷ ps) sizes digests =
    let same = cons_same (length p) (size_of r) (map length ps) (map size_of rs) sizes in
    ap (λ (b : Bool). cond b (first_bad rs ps) (Some r.name)) (right_one r p same.0 digests.0) ∙ right_all rs ps same.1 digests.1

pair_long : (rows : List PieceRow) (held : List (List ℕ)) → AreDigests rows held → length held ≡ length rows
pair_long [] [] digests = refl
pair_long [] (p ∷ ps) digests = absurd digests
pair_long (r ∷ rs) [] digests = absurd digests
pair_long (r ∷ rs) (p ∷ ps) digests = let rest = pair_long rs ps digests.1 in omega (arith, rest)

-- ---- one row more

lines_more : (rows : List PieceRow) (row : PieceRow) → AllByRecursion HasLine rows → HasLine row → AllByRecursion HasLine (rows ++ row ∷ [])
lines_more [] row lines line = (line, tt)
lines_more (r ∷ rs) row lines line = (lines.0, lines_more rs row lines.1 line)

pub chained_more : (at : ℕ) (rows : List PieceRow) (row : PieceRow) → Chained at rows → row.start ≡ end_from at rows → Chained at (rows ++ row ∷ [])
chained_more at [] row chained start = (start, tt)
chained_more at (r ∷ rs) row chained start = (chained.0, chained_more r.end rs row chained.1 start)

pub end_more : (at : ℕ) (rows : List PieceRow) (row : PieceRow) → end_from at (rows ++ row ∷ []) ≡ row.end
end_more at [] row = refl
end_more at (r ∷ rs) row = end_more r.end rs row

pub rows_more : (rows : List PieceRow) (row : PieceRow) → AreRows rows → HasLine row → row.start ≡ end_of rows → length rows < MAX_PIECES → AreRows (rows ++ row ∷ [])
rows_more rows row rules line start few = record {
  few = omega (arith, few, length-append rows (row ∷ []));
  lines = lines_more rows row rules.lines line;
  chained = chained_more 0 rows row rules.chained start;
}

sizes_more : (rows : List PieceRow) (held : List (List ℕ)) (row : PieceRow) (p : List ℕ) → map length held ≡ map size_of rows → length p ≡ size_of row → map length (held ++ p ∷ []) ≡ map size_of (rows ++ row ∷ [])
sizes_more [] [] row p sizes one = ap (λ (n : ℕ). n ∷ []) one
sizes_more [] (h ∷ hs) row p sizes one = absurd cc
sizes_more (r ∷ rs) [] row p sizes one = absurd cc
sizes_more (r ∷ rs) (h ∷ hs) row p sizes one =
    let same = cons_same (length h) (size_of r) (map length hs) (map size_of rs) sizes in
    ap₂ (λ (n : ℕ) (ns : List ℕ). n ∷ ns) same.0 (sizes_more rs hs row p same.1 one)

digests_more : (rows : List PieceRow) (held : List (List ℕ)) (row : PieceRow) (p : List ℕ) → AreDigests rows held → row.md5 ≡ md5 p → AreDigests (rows ++ row ∷ []) (held ++ p ∷ [])
digests_more [] [] row p digests one = (one, tt)
digests_more [] (h ∷ hs) row p digests one = absurd digests
digests_more (r ∷ rs) [] row p digests one = absurd digests
digests_more (r ∷ rs) (h ∷ hs) row p digests one = (digests.0, digests_more rs hs row p digests.1 one)

not_nil : (rows : List PieceRow) (row : PieceRow) → rows ++ row ∷ [] ≡ [] → ⊥
not_nil [] row e = cc
not_nil (r ∷ rs) row e = cc

length_part : (s k : ℕ) (file : List ℕ) → s + k ≤ length file → length (part s k file) ≡ k
length_part s k file le = length-take-le k (drop s file) (omega (arith, le, length-drop s file))

-- ---- the law

not_none : (rows : List PieceRow) → not ((length rows) == 0) ≡ true → rows ≢ []
not_none rows some e = true≢false (sym some ∙ ap (λ (rs : List PieceRow). not (length rs == 0)) e)

not_either : (x y : Bool) → not (x || y) ≡ true → not y ≡ true
not_either true y e = absurd (true≢false (sym e))
not_either false y e = e

pub nothing : (full : Bool) (rows : List PieceRow) (held : List (List ℕ)) (file : List ℕ) (n : ℕ) → AreRows rows → AreDigests rows held → plan_of full rows held file n ≡ plans.Nothing → IsBackup rows held file n
nothing full rows held file n rules digests plan =
    let tests = is_nothing (not (full || (length rows == 0)) && are_current rows held file) (end_of rows == n) (nat_lt (end_of rows) n) (nat_lt (length rows) MAX_PIECES) (end_of rows) n plan in
    let both = both_true (not (full || (length rows == 0))) (are_current rows held file) tests.0 in
    let is = held_of rows held file both.1 in
    let end : end_of rows ≡ n = eqb-true (end_of rows) n tests.1 in
    record {
      rules = rules;
      some = not_none rows (not_either full (length rows == 0) both.0);
      paired = pair_long rows held digests;
      right = right_all rows held is.sizes digests;
      end = end;
      whole = is.joined ∙ ap (λ (k : ℕ). take k file) end;
    }

pub more : (full : Bool) (rows : List PieceRow) (held : List (List ℕ)) (file : List ℕ) (n s e : ℕ) (row : PieceRow) → AreRows rows → AreDigests rows held → plan_of full rows held file n ≡ plans.More s e → n ≤ length file
    → HasLine row → row.start ≡ s → row.end ≡ e → row.md5 ≡ md5 (part s (e - s) file) → IsBackup (rows ++ row ∷ []) (held ++ part s (e - s) file ∷ []) file n
more full rows held file n s e row rules digests plan long line start end digest =
    let tests = is_more (not (full || (length rows == 0)) && are_current rows held file) (end_of rows == n) (nat_lt (end_of rows) n) (nat_lt (length rows) MAX_PIECES) (end_of rows) n s e plan in
    let both = both_true (not (full || (length rows == 0))) (are_current rows held file) tests.0 in
    let is = held_of rows held file both.1 in
    let lt : end_of rows < n = ltb-true (end_of rows) n tests.1 in
    let few : length rows < MAX_PIECES = ltb-true (length rows) MAX_PIECES tests.2 in
    let from : end_of rows ≡ s = tests.3 in
    let to : n ≡ e = tests.4 in
    let size : length (part s (e - s) file) ≡ e - s = length_part s (e - s) file (omega (arith, lt, from, to, long)) in
    let span : length (part s (e - s) file) ≡ size_of row = size ∙ ap₂ (λ (a b : ℕ). b - a) (sym start) (sym end) in
    let sum : end_of rows + (e - s) ≡ n = omega (arith, lt, from, to) in
    record {
      rules = rows_more rows row rules line (start ∙ sym from) few;
      some = not_nil rows row;
      paired = pair_long _ _ (digests_more rows held row (part s (e - s) file) digests digest);
      right = right_all _ _ (sizes_more rows held row (part s (e - s) file) is.sizes span) (digests_more rows held row (part s (e - s) file) digests digest);
      end = end_more 0 rows row ∙ end ∙ sym to;
      whole = concat-append held (part s (e - s) file ∷ []) ∙ ap₂ (λ (xs ys : List ℕ). xs ++ ys) is.joined (append-nil (part s (e - s) file) ∙ ap (λ (k : ℕ). part k (e - s) file) (sym from)) ∙ sym (take-add (end_of rows) (e - s) file) ∙ ap (λ (k : ℕ). take k file) sum;
    }

pub anew : (full : Bool) (rows : List PieceRow) (held : List (List ℕ)) (file : List ℕ) (n e : ℕ) (row : PieceRow) → plan_of full rows held file n ≡ plans.Full e → n ≤ length file
    → HasLine row → row.start ≡ 0 → row.end ≡ e → row.md5 ≡ md5 (part 0 e file) → IsBackup (row ∷ []) (part 0 e file ∷ []) file n
anew full rows held file n e row plan long line start end digest =
    let to : n ≡ e = is_full (not (full || (length rows == 0)) && are_current rows held file) (end_of rows == n) (nat_lt (end_of rows) n) (nat_lt (length rows) MAX_PIECES) (end_of rows) n e plan in
    let size : length (part 0 e file) ≡ e = length_part 0 e file (omega (arith, to, long)) in
    record {
      rules = record { few = omega arith; lines = (line, tt); chained = (start, tt) };
      some = not_nil [] row;
      paired = refl;
      right = ap (λ (b : Bool). cond b None (Some row.name)) (right_one row (part 0 e file) (omega (arith, size, start, end)) digest);
      end = end ∙ sym to;
      whole = append-nil (part 0 e file) ∙ ap (λ (k : ℕ). take k file) (sym to);
    }
