-- Pieces that are put behind one another.
use Rattle.std.proofs.Common.{◌≡◌, ℕ, ◌+◌, ◌<◌, ◌≤◌, true, List, [], ◌∷◌, ◌++◌, length, take, drop, map, get_or, set, zero, suc, Option, refl, sym, ap, subst, ◌∙◌, arith, append-nil, drop-set-lt, take_all}
use Rattle.std.specs.Prelude.{IfSome}
use Rattle.std.specs.List.{AllByRecursion, concat}
use Rattle.std.proofs.lemmas.Bool.Decides.{Decides-and, Decides-eqb}
use Rattle.std.proofs.lemmas.List.{drop_more, take_more}
use Rattle.std.proofs.lemmas.List.Folds.{concat-append}
use Rattle.std.proofs.lemmas.Slice.Eq.{bytes_eq-Decides}
use Rattle.md5.specs.Md5.{md5}
use Rattle.zdisk.specs.Disk.{Told, bytes_at, content}
use Rattle.repozo.specs.declared.index.PieceRow.{PieceRow}
use Rattle.repozo.specs.Disks.{AllRight, Grows, Reads}
use Rattle.repozo.specs.Index.{Chained, HasLine, end_from, end_of}
use Rattle.repozo.specs.Pieces.{is_right, size_of}
use Rattle.repozo.proofs.Checked.{read_is}
use Rattle.repozo.proofs.Current.{ends_later}
use Rattle.repozo.proofs.Windows.{grows_then}

drop_lines : (rows : List PieceRow) (i : ℕ) → AllByRecursion HasLine rows → AllByRecursion HasLine (drop i rows)
drop_lines [] zero lines = tt
drop_lines [] (suc i) lines = tt
drop_lines (r ∷ rs) zero lines = lines
drop_lines (r ∷ rs) (suc i) lines = drop_lines rs i lines.1

-- one row further
pub record Step (at i : ℕ) (rows : List PieceRow) (r : PieceRow) : Type 0 where
  pub start : r.start ≡ at
  pub chained : Chained r.end (drop (i + 1) rows)
  pub end : end_from r.end (drop (i + 1) rows) ≡ end_of rows
  pub some : at < r.end
  pub within : r.end ≤ end_of rows

step_of : (at i : ℕ) (rows rest : List PieceRow) (r : PieceRow) → rest ≡ drop (i + 1) rows → AllByRecursion HasLine (r ∷ rest) → Chained at (r ∷ rest) → end_from at (r ∷ rest) ≡ end_of rows → Step at i rows r
step_of at i rows rest r e lines chained end =
    let later = ends_later r.end rest lines.1 chained.1 in
    record {
      start = chained.0;
      chained = subst (Chained r.end) e chained.1;
      end = ap (end_from r.end) (sym e) ∙ end;
      some = omega (arith, chained.0, lines.0.some);
      within = omega (arith, later, end);
    }

pub step_at : (at i : ℕ) (rows : List PieceRow) (e : PieceRow) → AllByRecursion HasLine rows → i < length rows → Chained at (drop i rows) → end_from at (drop i rows) ≡ end_of rows → Step at i rows (get_or rows i e)
step_at at i rows e lines lt chained end =
    let is = drop_more rows i e lt in
    step_of at i rows (drop (i + 1) rows) (get_or rows i e) refl (subst (AllByRecursion HasLine) is (drop_lines rows i lines)) (subst (Chained at) is chained) (ap (end_from at) (sym is) ∙ end)

module _ {S : Type 0} (told : S → Option Told) where
  pub right_rest : (xs : List S) (rows : List PieceRow) (i : ℕ) (x d : S) (e : PieceRow) → i < length xs → i < length rows → AllRight (map told (drop i xs)) (drop i rows)
      → (IfSome (told (get_or xs i d)) (λ t. is_right (get_or rows i e) (content t) ≡ true)) × AllRight (map told (drop (i + 1) (set xs i x))) (drop (i + 1) rows)
  right_rest xs rows i x d e lt le right =
      let both = subst (λ (rs : List PieceRow). AllRight (map told (get_or xs i d ∷ drop (i + 1) xs)) rs) (drop_more rows i e le) (subst (λ (ys : List S). AllRight (map told ys) (drop i rows)) (drop_more xs i d lt) right) in
      (both.0, subst (λ (ys : List S). AllRight (map told ys) (drop (i + 1) rows)) (sym (drop-set-lt (i + 1) xs i x (omega arith))) both.1)

-- what was copied of a right piece is the piece
pub whole_piece : (o : Option Told) (h bytes : List ℕ) (r : PieceRow) (size : ℕ) → Reads o h → IfSome o (λ t. is_right r (content t) ≡ true) → IfSome o (λ t. bytes ≡ bytes_at t 0 size) → size ≡ size_of r → bytes ≡ h
whole_piece o h bytes r size reads right read is =
    let tested : is_right r h ≡ true = read_is o h (λ c. is_right r c ≡ true) reads right in
    let long : length h ≡ size_of r = ((Decides-and _ _ (Decides-eqb (length h) (size_of r)) (bytes_eq-Decides (md5 h) r.md5)).0 tested).0 in
    read_is o h (λ c. bytes ≡ take size c) reads read ∙ take_all size h (omega (arith, long, is))

pub joined_more : (a b c : Option Told) (held : List (List ℕ)) (i : ℕ) (bytes : List ℕ) → i < length held → bytes ≡ get_or held i [] → Grows a b (concat (take i held)) → Grows b c bytes → Grows a c (concat (take (i + 1) held))
joined_more a b c held i bytes lt is first next =
    let more : concat (take (i + 1) held) ≡ concat (take i held) ++ bytes = ap concat (take_more held i [] lt) ∙ concat-append (take i held) (get_or held i [] ∷ []) ∙ ap (λ (xs : List ℕ). concat (take i held) ++ xs) (append-nil (get_or held i []) ∙ sym is) in
    subst (Grows a c) (sym more) (grows_then a b c (concat (take i held)) bytes first next)

pub joined_all : (a b : Option Told) (held : List (List ℕ)) (i : ℕ) → length held ≤ i → Grows a b (concat (take i held)) → Grows a b (concat held)
joined_all a b held i le grows = subst (λ (xs : List (List ℕ)). Grows a b (concat xs)) (take_all i held le) grows
