-- A text is one index, and has one first bad line where it is none.
use Rattle.std.proofs.Common.{◌≡◌, ◌≢◌, ℕ, ◌+◌, ◌≤◌, ◌⊎◌, inl, inr, List, [], ◌∷◌, ◌++◌, length, length-append, Ok, refl, sym, ap₂, subst, ◌∙◌, append_assoc, append-nil, arith}
use Rattle.std.specs.Prelude.{codes, decimal, flat_map}
use Rattle.std.specs.List.{AllByRecursion}
use Rattle.std.proofs.lemmas.Fmt.{decimal_injective}
use Rattle.std.proofs.lemmas.List.{append_cancel_left}
use Rattle.hex.proofs.HexLemmas.{decode_of-encode_lower, decode_of-same}
use Rattle.hex.specs.Hex.{decode_of, encode_lower}
use Rattle.repozo.specs.declared.index.PieceRow.{PieceRow}
use Rattle.repozo.specs.declared.index.TheConstants.{MAX_PIECES}
use Rattle.repozo.specs.BadLines.{IsBadAt, IsBadLine, RunsOver}
use Rattle.repozo.specs.Index.{AreRows, Chained, HasLine, IsDigest, IsIndex, Lacks, end_line, end_of, row_text}
use Rattle.repozo.proofs.Whole.{end_more}
use Rattle.repozo.proofs.Lines.{decimal_lacks, digest_lacks, has_byte, line_lacks, line_of, one_front, parts_of, regroup, start_small}

-- ---- one row a line

same_row : {a b : PieceRow} → a.name ≡ b.name → a.start ≡ b.start → a.end ≡ b.end → a.md5 ≡ b.md5 → a ≡ b
same_row {a} {b} names starts ends digests =
    let fronts : (a.name, a.start) ≡ (b.name, b.start) = cc in
    let backs : (a.end, a.md5) ≡ (b.end, b.md5) = cc in
    ap₂ (λ (x : List ℕ × ℕ) (y : ℕ × List ℕ). let r : PieceRow = record { name = x.0; start = x.1; end = y.0; md5 = y.1 } in r) fronts backs

same_digest : (a b : List ℕ) → IsDigest a → IsDigest b → encode_lower a ≡ encode_lower b → a ≡ b
same_digest a b p q e =
    decode_of-same (encode_lower b) a b (subst (λ text. decode_of text ≡ Ok a) e (decode_of-encode_lower a p.bytes)) (decode_of-encode_lower b q.bytes)

pub one_row : (a b : PieceRow) (r s : List ℕ) → HasLine a → HasLine b → row_text a ++ r ≡ row_text b ++ s → (a ≡ b) × (r ≡ s)
one_row a b r s p q e =
    let lines = one_front 10 (line_of a) (line_of b) r s (line_lacks a p) (line_lacks b q) (sym (regroup a r) ∙ e ∙ regroup b s) in
    let parts = parts_of a.name (decimal a.start) (decimal a.end) (encode_lower a.md5) b
    (decimal_lacks 32 a.start (omega arith) (start_small a p)) (decimal_lacks 32 a.end (omega arith) p.small) (digest_lacks 32 a.md5 refl p.digest) q lines.0 in
    let start = decimal_injective a.start b.start (start_small a p) (start_small b q) parts.1 in
    let end = decimal_injective a.end b.end p.small q.small parts.2 in
    (same_row parts.0 start end (same_digest a.md5 b.md5 p.digest q.digest parts.3), lines.1)

-- the end has no space
end_lacks : Lacks 32 (codes "end")
end_lacks = ((λ e. omega (arith, e)), ((λ e. omega (arith, e)), ((λ e. omega (arith, e)), tt)))

end_lacks_lf : Lacks 10 (codes "end")
end_lacks_lf = ((λ e. omega (arith, e)), ((λ e. omega (arith, e)), ((λ e. omega (arith, e)), tt)))

-- a row's line is no end
pub not_end : (a : PieceRow) (r s : List ℕ) → HasLine a → row_text a ++ r ≡ end_line ++ s → ⊥
not_end a r s p e =
    let lines = one_front 10 (line_of a) (codes "end") r s (line_lacks a p) end_lacks_lf (sym (regroup a r) ∙ e ∙ append_assoc (codes "end") (10 ∷ []) s) in
    has_byte 32 ((a.name ++ 32 ∷ decimal a.start) ++ 32 ∷ decimal a.end) (encode_lower a.md5) (subst (Lacks 32) (sym lines.0) end_lacks)

-- ---- one index a text

same_rows : (a b : List PieceRow) → AllByRecursion HasLine a → AllByRecursion HasLine b → flat_map row_text a ++ end_line ≡ flat_map row_text b ++ end_line → a ≡ b
same_rows [] [] p q e = refl
same_rows [] (y ∷ ys) p q e =
    absurd (not_end y (flat_map row_text ys ++ end_line) [] q.0 (sym (append_assoc (row_text y) (flat_map row_text ys) end_line) ∙ sym e))
same_rows (x ∷ xs) [] p q e =
    absurd (not_end x (flat_map row_text xs ++ end_line) [] p.0 (sym (append_assoc (row_text x) (flat_map row_text xs) end_line) ∙ e))
same_rows (x ∷ xs) (y ∷ ys) p q e =
    let both = one_row x y (flat_map row_text xs ++ end_line) (flat_map row_text ys ++ end_line) p.0 q.0
    (sym (append_assoc (row_text x) (flat_map row_text xs) end_line) ∙ e ∙ append_assoc (row_text y) (flat_map row_text ys) end_line) in
    let rest = same_rows xs ys p.1 q.1 both.1 in
    let first : x ≡ y = both.0 in
    cc

pub one_text : (text : List ℕ) (a b : List PieceRow) → IsIndex text a → IsIndex text b → a ≡ b
one_text text a b p q = same_rows a b p.rules.lines q.rules.lines (sym p.text ∙ q.text)

-- ---- one bad line a text

-- what stands behind good lines: a bad line, or what runs over behind the end; and how many lines it is further on
abbrev Behind : List PieceRow → List ℕ → ℕ → Type 0
Behind rows rest k = ((k ≡ 1) × IsBadLine rows rest) ⊎ ((k ≡ 2) × RunsOver rows rest)

-- a row goes on there, so there is no bad line, and no end
row_is_no_stop : (rows : List PieceRow) (x : PieceRow) (others rest : List ℕ) (k : ℕ) → length rows + 1 ≤ MAX_PIECES → HasLine x → x.start ≡ end_of rows → rest ≡ row_text x ++ others → Behind rows rest k → ⊥
row_is_no_stop rows x others rest k few line start e (inl bad) =
    bad.1.no_row (record { room = omega (arith, few); row = x; line = line; start = start; rest = others; text = e })
row_is_no_stop rows x others rest k few line start e (inr over) = not_end x others over.1.more line (sym e ∙ over.1.text)

-- behind some rows the end is no bad line
end_is_no_bad_line : (rows : List PieceRow) (rest : List ℕ) → IsBadLine rows rest → RunsOver rows rest → ⊥
end_is_no_bad_line rows rest bad over = go bad.no_end
  where
    go : (rows ≡ []) ⊎ ((more : List ℕ) → rest ≢ end_line ++ more) → ⊥
    go (inl none) = over.some none
    go (inr other) = other over.more over.text

same_stop : (rows : List PieceRow) (rest : List ℕ) (j k : ℕ) → Behind rows rest j → Behind rows rest k → j ≡ k
same_stop rows rest j k (inl a) (inl b) = a.0 ∙ sym b.0
same_stop rows rest j k (inl a) (inr b) = absurd (end_is_no_bad_line rows rest a.1 b.1)
same_stop rows rest j k (inr a) (inl b) = absurd (end_is_no_bad_line rows rest b.1 a.1)
same_stop rows rest j k (inr a) (inr b) = a.0 ∙ sym b.0

-- one row further
chained_on : (done : List PieceRow) (x : PieceRow) (xs : List PieceRow) → Chained x.end xs → Chained (end_of (done ++ x ∷ [])) xs
chained_on done x xs chained = subst (λ at. Chained at xs) (sym (end_more 0 done x)) chained

behind_on : (done : List PieceRow) (x : PieceRow) (xs : List PieceRow) (r : List ℕ) (k : ℕ) → Behind (done ++ x ∷ xs) r k → Behind ((done ++ x ∷ []) ++ xs) r k
behind_on done x xs r k stop = subst (λ rows. Behind rows r k) (sym (append_assoc done (x ∷ []) xs)) stop

-- rows that may stand behind others
record GoOn (done rows : List PieceRow) : Type 0 where
  lines : AllByRecursion HasLine rows
  chained : Chained (end_of done) rows
  few : length done + length rows ≤ MAX_PIECES

go_on : (done : List PieceRow) (x : PieceRow) (xs : List PieceRow) → GoOn done (x ∷ xs) → GoOn (done ++ x ∷ []) xs
go_on done x xs g = record {
  lines = g.lines.1;
  chained = chained_on done x xs g.chained.1;
  few = (let long = length-append done (x ∷ []) in omega (arith, long, g.few));
}

same_count : (done a b : List PieceRow) (r s : List ℕ) (j k : ℕ) → GoOn done a → GoOn done b → flat_map row_text a ++ r ≡ flat_map row_text b ++ s → Behind (done ++ a) r j → Behind (done ++ b) s k → length a + j ≡ length b + k
same_count done [] [] r s j k p q e f g =
    let same = same_stop (done ++ []) r j k f (subst (λ rest. Behind (done ++ []) rest k) (sym e) g) in omega (arith, same)
same_count done [] (y ∷ ys) r s j k p q e f g =
    absurd (row_is_no_stop done y (flat_map row_text ys ++ s) r j (omega (arith, q.few)) q.lines.0 q.chained.0
    (e ∙ append_assoc (row_text y) (flat_map row_text ys) s) (subst (λ rows. Behind rows r j) (append-nil done) f))
same_count done (x ∷ xs) [] r s j k p q e f g =
    absurd (row_is_no_stop done x (flat_map row_text xs ++ r) s k (omega (arith, p.few)) p.lines.0 p.chained.0
    (sym e ∙ append_assoc (row_text x) (flat_map row_text xs) r) (subst (λ rows. Behind rows s k) (append-nil done) g))
same_count done (x ∷ xs) (y ∷ ys) r s j k p q e f g =
    let both = one_row x y (flat_map row_text xs ++ r) (flat_map row_text ys ++ s) p.lines.0 q.lines.0
    (sym (append_assoc (row_text x) (flat_map row_text xs) r) ∙ e ∙ append_assoc (row_text y) (flat_map row_text ys) s) in
    let other : GoOn (done ++ x ∷ []) ys = subst (λ z. GoOn (done ++ z ∷ []) ys) (sym both.0) (go_on done y ys q) in
    let stop : Behind ((done ++ x ∷ []) ++ ys) s k = subst (λ z. Behind ((done ++ z ∷ []) ++ ys) s k) (sym both.0) (behind_on done y ys s k g) in
    let rest = same_count (done ++ x ∷ []) xs ys r s j k (go_on done x xs p) other both.1 (behind_on done x xs r j f) stop in
    omega (arith, rest)

from_none : (rows : List PieceRow) → AreRows rows → GoOn [] rows
from_none rows are = record { lines = are.lines; chained = are.chained; few = omega (arith, are.few) }

-- how far on the bad line is
behind : (n : ℕ) (rows : List PieceRow) (rest : List ℕ) → ((n ≡ length rows + 1) × IsBadLine rows rest) ⊎ ((n ≡ length rows + 2) × RunsOver rows rest) → (k : ℕ) × (n ≡ length rows + k) × Behind rows rest k
behind n rows rest (inl bad) = (1, bad.0, inl (refl, bad.1))
behind n rows rest (inr over) = (2, over.0, inr (refl, over.1))

pub one_number : (text : List ℕ) (m n : ℕ) → IsBadAt text m → IsBadAt text n → m ≡ n
one_number text m n p q =
    let f = behind m p.rows p.rest p.bad in
    let g = behind n q.rows q.rest q.bad in
    f.1 ∙ same_count [] p.rows q.rows p.rest q.rest f.0 g.0 (from_none p.rows p.rules) (from_none q.rows q.rules) (sym p.good ∙ q.good) f.2 g.2 ∙ sym g.1

-- a whole index has no bad line
no_stop : (done a b : List PieceRow) (s : List ℕ) (k : ℕ) → (done ++ a ≢ []) → GoOn done a → GoOn done b → flat_map row_text a ++ end_line ≡ flat_map row_text b ++ s → Behind (done ++ b) s k → ⊥
no_stop done [] [] s k some p q e (inl bad) = ends bad.1.no_end
  where
    ends : (done ++ [] ≡ []) ⊎ ((more : List ℕ) → s ≢ end_line ++ more) → ⊥
    ends (inl none) = some none
    ends (inr other) = other [] (sym e ∙ sym (append-nil end_line))
no_stop done [] [] s k some p q e (inr over) =
    over.1.over (sym (append_cancel_left end_line [] over.1.more (append-nil end_line ∙ e ∙ over.1.text)))
no_stop done [] (y ∷ ys) s k some p q e g =
    not_end y (flat_map row_text ys ++ s) [] q.lines.0 (sym (append_assoc (row_text y) (flat_map row_text ys) s) ∙ sym e ∙ sym (append-nil end_line))
no_stop done (x ∷ xs) [] s k some p q e g =
    row_is_no_stop done x (flat_map row_text xs ++ end_line) s k (omega (arith, p.few)) p.lines.0 p.chained.0
    (sym e ∙ append_assoc (row_text x) (flat_map row_text xs) end_line) (subst (λ rows. Behind rows s k) (append-nil done) g)
no_stop done (x ∷ xs) (y ∷ ys) s k some p q e g =
    let both = one_row x y (flat_map row_text xs ++ end_line) (flat_map row_text ys ++ s) p.lines.0 q.lines.0
    (sym (append_assoc (row_text x) (flat_map row_text xs) end_line) ∙ e ∙ append_assoc (row_text y) (flat_map row_text ys) s) in
    let other : GoOn (done ++ x ∷ []) ys = subst (λ z. GoOn (done ++ z ∷ []) ys) (sym both.0) (go_on done y ys q) in
    let stop : Behind ((done ++ x ∷ []) ++ ys) s k = subst (λ z. Behind ((done ++ z ∷ []) ++ ys) s k) (sym both.0) (behind_on done y ys s k g) in
    no_stop (done ++ x ∷ []) xs ys s k (λ none. some (sym (append_assoc done (x ∷ []) xs) ∙ none)) (go_on done x xs p) other both.1 stop

pub index_or_bad : (text : List ℕ) (rows : List PieceRow) (n : ℕ) → IsIndex text rows → IsBadAt text n → ⊥
index_or_bad text rows n is bad =
    let g = behind n bad.rows bad.rest bad.bad in
    no_stop [] rows bad.rows bad.rest g.0 is.some (from_none rows is.rules) (from_none bad.rows bad.rules) (sym is.text ∙ bad.good) g.2
