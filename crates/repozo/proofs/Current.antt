-- Pieces that are the file's front, piece by piece and joined.
use Rattle.std.proofs.Common.{◌≡◌, ℕ, ◌+◌, ◌-◌, ◌<◌, ◌≤◌, Bool, true, false, ◌&&◌, List, [], ◌∷◌, ◌++◌, length, take, drop, map, get_or, zero, suc, slice_get, Option, Some, Decides, refl, sym, ap, ap₂, subst, ◌∙◌, arith, true≢false, take-add, take-take, take_at, drop_at, drop-drop, length-take, length-drop, take_all}
use Rattle.std.specs.List.{AllByRecursion, concat}
use Rattle.std.specs.Str.{bytes_eq}
use Rattle.std.proofs.lemmas.Bool.Decides.{Decides-and, Decides-eqb, same_from_decides}
use Rattle.std.proofs.lemmas.List.{drop-take, drop_all, drop_more}
use Rattle.std.proofs.lemmas.Slice.Eq.{bytes_eq-Decides}
use Rattle.zdisk.specs.Disk.{Told}
use Rattle.repozo.specs.declared.index.PieceRow.{PieceRow}
use Rattle.repozo.specs.Disks.{AllRead, Reads}
use Rattle.repozo.specs.Index.{Chained, HasLine, end_from, end_of}
use Rattle.repozo.specs.Pieces.{are_current, is_part, part, size_of}

-- ---- lists of disks and of what they hold

pub all_at : {X : Type 0} (P : X → Type 0) (xs : List X) (i : ℕ) (d : X) → AllByRecursion P xs → i < length xs → P (get_or xs i d)
all_at P [] i d all lt = absurd (omega (arith, lt))
all_at P (x ∷ xs) zero d all lt = all.0
all_at P (x ∷ xs) (suc i) d all lt = all_at P xs i d all.1 (omega (arith, lt))

module _ {S : Type 0} (told : S → Option Told) where
  pub read_at : (xs : List S) (held : List (List ℕ)) (i : ℕ) (d : S) (e : List ℕ) → AllRead (map told xs) held → i < length xs → Reads (told (get_or xs i d)) (get_or held i e)
  read_at [] held i d e all lt = absurd (omega (arith, lt))
  read_at (x ∷ xs) [] i d e all lt = absurd all
  read_at (x ∷ xs) (h ∷ hs) zero d e all lt = all.0
  read_at (x ∷ xs) (h ∷ hs) (suc i) d e all lt = read_at xs hs i d e all.1 (omega (arith, lt))

  pub read_long : (xs : List S) (held : List (List ℕ)) → AllRead (map told xs) held → length held ≡ length xs
  read_long [] [] all = refl
  read_long [] (h ∷ hs) all = absurd all
  read_long (x ∷ xs) [] all = absurd all
  read_long (x ∷ xs) (h ∷ hs) all = let rest = read_long xs hs all.1 in omega (arith, rest)

-- ---- rows

-- the last of the rows ends no earlier than the first starts
pub ends_later : (at : ℕ) (rows : List PieceRow) → AllByRecursion HasLine rows → Chained at rows → at ≤ end_from at rows
ends_later at [] lines chained = omega arith
ends_later at (r ∷ rs) lines chained = let rest = ends_later r.end rs lines.1 chained.1 in omega (arith, rest, lines.0.some, chained.0)

-- ---- piece by piece

abbrev pub matches : List PieceRow → List (List ℕ) → List ℕ → Bool
matches [] held bytes = true
matches (r ∷ rs) [] bytes = true
matches (r ∷ rs) (h ∷ hs) bytes = is_part r bytes h && matches rs hs bytes

both_true : (x y : Bool) → (x && y) ≡ true → (x ≡ true) × (y ≡ true)
both_true true y e = (refl, e)
both_true false y e = absurd (true≢false (sym e))

abbrev IsPart : PieceRow → List ℕ → List ℕ → Type 0
IsPart r bytes h = (length h ≡ size_of r) × (h ≡ part r.start (size_of r) bytes)

part_decides : (r : PieceRow) (bytes h : List ℕ) → Decides (is_part r bytes h) (IsPart r bytes h)
part_decides r bytes h = Decides-and _ _ (Decides-eqb (length h) (size_of r)) (bytes_eq-Decides h (part r.start (size_of r) bytes))

-- joined, from a place on, over so many bytes
abbrev Joined : ℕ → ℕ → List PieceRow → List (List ℕ) → List ℕ → Type 0
Joined at k rows held bytes = (map length held ≡ map size_of rows) × (concat held ≡ take k (drop at bytes))

cons_same : (a b : ℕ) (xs ys : List ℕ) → a ∷ xs ≡ b ∷ ys → (a ≡ b) × (xs ≡ ys)
cons_same a b xs ys e = (cc, cc)

two_parts : (at size k : ℕ) (bytes : List ℕ) → take (size + k) (drop at bytes) ≡ take size (drop at bytes) ++ take k (drop (at + size) bytes)
two_parts at size k bytes = take-add size k (drop at bytes) ∙ ap (λ (xs : List ℕ). take size (drop at bytes) ++ take k xs) (drop-drop size at bytes)

join : (at k : ℕ) (rows : List PieceRow) (held : List (List ℕ)) (bytes : List ℕ) → AllByRecursion HasLine rows → Chained at rows → length held ≡ length rows → at + k ≡ end_from at rows → matches rows held bytes ≡ true → Joined at k rows held bytes
join at k [] [] bytes lines chained long end m = let none : k ≡ 0 = omega (arith, end) in (refl, ap (λ (n : ℕ). take n (drop at bytes)) (sym none))
join at k [] (h ∷ hs) bytes lines chained long end m = absurd (omega (arith, long))
join at k (r ∷ rs) [] bytes lines chained long end m = absurd (omega (arith, long))
join at k (r ∷ rs) (h ∷ hs) bytes lines chained long end m =
    let both = both_true (is_part r bytes h) (matches rs hs bytes) m in
    let is = (part_decides r bytes h).0 both.0 in
    let later = ends_later r.end rs lines.1 chained.1 in
    let size : at + size_of r ≡ r.end = omega (arith, chained.0, lines.0.some) in
    let j : ℕ = end_from r.end rs - r.end in
    let sum : k ≡ size_of r + j = omega (arith, end, later, size) in
    let rest = join r.end j rs hs bytes lines.1 chained.1 (omega (arith, long)) (omega (arith, later)) both.1 in
    let first : h ≡ take (size_of r) (drop at bytes) = is.1 ∙ ap (λ (n : ℕ). take (size_of r) (drop n bytes)) chained.0 in
    let second : concat hs ≡ take j (drop (at + size_of r) bytes) = rest.1 ∙ ap (λ (n : ℕ). take j (drop n bytes)) (sym size) in
    (ap₂ (λ (n : ℕ) (ns : List ℕ). n ∷ ns) is.0 rest.0, ap₂ (λ (xs ys : List ℕ). xs ++ ys) first second ∙ sym (two_parts at (size_of r) j bytes) ∙ ap (λ (n : ℕ). take n (drop at bytes)) (sym sum))

split : (at k : ℕ) (rows : List PieceRow) (held : List (List ℕ)) (bytes : List ℕ) → AllByRecursion HasLine rows → Chained at rows → at + k ≡ end_from at rows → Joined at k rows held bytes → matches rows held bytes ≡ true
split at k [] held bytes lines chained end joined = refl
split at k (r ∷ rs) [] bytes lines chained end joined = refl
split at k (r ∷ rs) (h ∷ hs) bytes lines chained end joined =
    let sizes = cons_same (length h) (size_of r) (map length hs) (map size_of rs) joined.0 in
    let later = ends_later r.end rs lines.1 chained.1 in
    let size : at + size_of r ≡ r.end = omega (arith, chained.0, lines.0.some) in
    let j : ℕ = end_from r.end rs - r.end in
    let sum : k ≡ size_of r + j = omega (arith, end, later, size) in
    let whole : h ++ concat hs ≡ take (size_of r + j) (drop at bytes) = joined.1 ∙ ap (λ (n : ℕ). take n (drop at bytes)) sum in
    let first : h ≡ part r.start (size_of r) bytes =
    sym (take_at h (concat hs) (size_of r) sizes.0) ∙ ap (take (size_of r)) whole ∙ take-take (size_of r) (size_of r + j) (drop at bytes) (omega arith) ∙ ap (λ (n : ℕ). take (size_of r) (drop n bytes)) (sym chained.0) in
    let second : concat hs ≡ take j (drop r.end bytes) =
    sym (drop_at h (concat hs) (size_of r) sizes.0) ∙ ap (drop (size_of r)) whole ∙ drop-take (size_of r) j (drop at bytes) ∙ ap (take j) (drop-drop (size_of r) at bytes) ∙ ap (λ (n : ℕ). take j (drop n bytes)) size in
    let is : is_part r bytes h ≡ true = (part_decides r bytes h).1 (sizes.0, first) in
    let rest : matches rs hs bytes ≡ true = split r.end j rs hs bytes lines.1 chained.1 (omega (arith, later)) (sizes.1, second) in
    ap₂ (λ (x y : Bool). x && y) is rest

pub matches_is : (rows : List PieceRow) (held : List (List ℕ)) (bytes : List ℕ) → AllByRecursion HasLine rows → Chained 0 rows → length held ≡ length rows → matches rows held bytes ≡ are_current rows held bytes
matches_is rows held bytes lines chained long =
    let end : 0 + end_of rows ≡ end_from 0 rows = omega arith in
    same_from_decides {P = Joined 0 (end_of rows) rows held bytes} (matches rows held bytes) (are_current rows held bytes)
    (join 0 (end_of rows) rows held bytes lines chained long end, split 0 (end_of rows) rows held bytes lines chained end)
    (Decides-and _ _ (bytes_eq-Decides (map length held) (map size_of rows)) (bytes_eq-Decides (concat held) (take (end_of rows) bytes)))

-- one piece further
pub matches_more : (rows : List PieceRow) (held : List (List ℕ)) (bytes : List ℕ) (i : ℕ) (d : PieceRow) → i < length rows → i < length held → matches (drop i rows) (drop i held) bytes ≡ (is_part (get_or rows i d) bytes (get_or held i []) && matches (drop (i + 1) rows) (drop (i + 1) held) bytes)
matches_more rows held bytes i d lt le = ap₂ (λ (rs : List PieceRow) (hs : List (List ℕ)). matches rs hs bytes) (drop_more rows i d lt) (drop_more held i [] le)

-- ---- where the last row ends

last_at : (at k : ℕ) (rows : List PieceRow) (r : PieceRow) → length rows ≡ k + 1 → slice_get rows k ≡ Some r → end_from at rows ≡ r.end
last_at at k [] r long is = absurd (omega (arith, long))
last_at at zero (x ∷ []) r long is = let same : x ≡ r = cc in ap (λ (y : PieceRow). y.end) same
last_at at zero (x ∷ y ∷ ys) r long is = absurd (omega (arith, long))
last_at at (suc k) (x ∷ []) r long is = absurd (omega (arith, long))
last_at at (suc k) (x ∷ y ∷ ys) r long is = last_at x.end k (y ∷ ys) r (omega (arith, long)) is

pub last_end : (rows : List PieceRow) (r : PieceRow) → slice_get rows (length rows - 1) ≡ Some r → end_of rows ≡ r.end
last_end [] r is = absurd cc
last_end (x ∷ xs) r is = last_at 0 (length (x ∷ xs) - 1) (x ∷ xs) r (omega arith) is

-- ---- one piece by windows

pub alike_more : (start done count : ℕ) (bytes held : List ℕ) → part start done bytes ≡ part 0 done held → part (start + done) count bytes ≡ part done count held → part start (done + count) bytes ≡ part 0 (done + count) held
alike_more start done count bytes held first next =
    two_parts start done count bytes ∙ ap₂ (λ (xs ys : List ℕ). xs ++ ys) first next ∙ sym (two_parts 0 done count held ∙ ap (λ (n : ℕ). take done held ++ take count (drop n held)) (omega arith))

-- what differs in a window differs
pub unlike : (start done count size : ℕ) (bytes held : List ℕ) → done + count ≤ size → part start size bytes ≡ part 0 size held → part (start + done) count bytes ≡ part done count held
unlike start done count size bytes held le same =
    let window : (at : ℕ) (c : List ℕ) → take count (drop done (take size (drop at c))) ≡ take count (drop (at + done) c) =
    (λ at c. let sum : size ≡ done + (size - done) = omega (arith, le) in
    ap (λ (n : ℕ). take count (drop done (take n (drop at c)))) sum ∙ ap (take count) (drop-take done (size - done) (drop at c)) ∙ take-take count (size - done) (drop done (drop at c)) (omega (arith, le)) ∙ ap (take count) (drop-drop done at c)) in
    sym (window start bytes) ∙ ap (λ (xs : List ℕ). take count (drop done xs)) same ∙ window 0 held ∙ ap (λ (n : ℕ). take count (drop n held)) (omega arith)

-- a piece whose row passes the file's end isn't part of it
pub past_end : (r : PieceRow) (bytes held : List ℕ) → length bytes < r.end → r.start < r.end → is_part r bytes held ≡ false
past_end r bytes held short some = go (is_part r bytes held) refl
  where
    go : (b : Bool) → is_part r bytes held ≡ b → is_part r bytes held ≡ false
    go false e = e
    go true e =
        let is = (part_decides r bytes held).0 e in
        let long : length held ≤ length (drop r.start bytes) = omega (arith, ap length is.1, length-take (size_of r) (drop r.start bytes)) in
        absurd (omega (arith, long, is.0, length-drop r.start bytes, short, some))

pub not_sized : (r : PieceRow) (bytes held : List ℕ) → (length held ≡ size_of r → ⊥) → is_part r bytes held ≡ false
not_sized r bytes held other = go (is_part r bytes held) refl
  where
    go : (b : Bool) → is_part r bytes held ≡ b → is_part r bytes held ≡ false
    go false e = e
    go true e = absurd (other ((part_decides r bytes held).0 e).0)

pub window_differs : (start size done count n : ℕ) (bytes held : List ℕ) (b : Bool) → done + count ≤ size → n ≡ count → b ≡ bytes_eq (part (start + done) n bytes) (part done n held) → b ≡ false → false ≡ bytes_eq (part start size bytes) (part 0 size held)
window_differs start size done count n bytes held b le long is off = go (bytes_eq (part start size bytes) (part 0 size held)) refl
  where
    go : (x : Bool) → bytes_eq (part start size bytes) (part 0 size held) ≡ x → false ≡ bytes_eq (part start size bytes) (part 0 size held)
    go false e = sym e
    go true e =
        let same = unlike start done n size bytes held (omega (arith, le, long)) ((bytes_eq-Decides (part start size bytes) (part 0 size held)).0 e) in
        absurd (true≢false (sym ((bytes_eq-Decides (part (start + done) n bytes) (part done n held)).1 same) ∙ sym is ∙ off))

pub window_alike : (start done count n : ℕ) (bytes held : List ℕ) (b : Bool) → n ≡ count → b ≡ bytes_eq (part (start + done) n bytes) (part done n held) → b ≡ true → part start done bytes ≡ part 0 done held → part start (done + count) bytes ≡ part 0 (done + count) held
window_alike start done count n bytes held b long is on first =
    subst (λ (k : ℕ). part start (done + k) bytes ≡ part 0 (done + k) held) long
    (alike_more start done n bytes held first ((bytes_eq-Decides (part (start + done) n bytes) (part done n held)).0 (sym is ∙ on)))

pub is_part_when : (r : PieceRow) (bytes held : List ℕ) (n : ℕ) (b : Bool) → n ≡ length held → n ≡ size_of r → b ≡ bytes_eq (part r.start (size_of r) bytes) (part 0 (size_of r) held) → b ≡ is_part r bytes held
is_part_when r bytes held n b long size is =
    let whole : part 0 (size_of r) held ≡ held = take_all (size_of r) held (omega (arith, long, size)) in
    same_from_decides {P = IsPart r bytes held} b (is_part r bytes held) (
      (λ e. (sym long ∙ size, sym whole ∙ sym ((bytes_eq-Decides (part r.start (size_of r) bytes) (part 0 (size_of r) held)).0 (sym is ∙ e)))),
      (λ p. is ∙ (bytes_eq-Decides (part r.start (size_of r) bytes) (part 0 (size_of r) held)).1 (sym p.1 ∙ sym whole)),
    )
    (part_decides r bytes held)

-- ---- at one piece of a loop

module _ {S : Type 0} (told : S → Option Told) where
  pub matches_there : (os xs : List S) (rows : List PieceRow) (held : List (List ℕ)) (bytes : List ℕ) (i : ℕ) (d : S) (e r : PieceRow) (b c : Bool) → r ≡ get_or rows i e → map told xs ≡ map told os → AllRead (map told os) held → i < length xs → i < length rows
      → ((h : List ℕ) → Reads (told (get_or xs i d)) h → b ≡ is_part r bytes h) → b ≡ c → matches (drop i rows) (drop i held) bytes ≡ matches rows held bytes → matches rows held bytes ≡ (c && matches (drop (i + 1) rows) (drop (i + 1) held) bytes)
  matches_there os xs rows held bytes i d e r b c at same all lt le is test left =
      let read : AllRead (map told xs) held = subst (λ (ds : List (Option Told)). AllRead ds held) (sym same) all in
      let tested : is_part (get_or rows i e) bytes (get_or held i []) ≡ c = ap (λ (x : PieceRow). is_part x bytes (get_or held i [])) (sym at) ∙ sym (is (get_or held i []) (read_at told xs held i d [] read lt)) ∙ test in
      sym left ∙ matches_more rows held bytes i e le (omega (arith, lt, read_long told xs held read)) ∙ ap (λ (x : Bool). x && matches (drop (i + 1) rows) (drop (i + 1) held) bytes) tested

pub matches_end : (rows : List PieceRow) (held : List (List ℕ)) (bytes : List ℕ) (i : ℕ) → length rows ≤ i → matches (drop i rows) (drop i held) bytes ≡ matches rows held bytes → matches rows held bytes ≡ true
matches_end rows held bytes i le left = sym left ∙ ap (λ (rs : List PieceRow). matches rs (drop i held) bytes) (drop_all i rows le)
