-- Pieces against their rows, one after the other.
use Rattle.std.proofs.Common.{◌≡◌, ℕ, ◌+◌, ◌<◌, ◌≤◌, Bool, true, false, ◌&&◌, cond, List, [], ◌∷◌, length, take, drop, map, get_or, set, Option, None, Some, refl, sym, ap, ap₂, subst, ◌∙◌, arith, drop-set-lt, take_all, ◌==◌, bytes_eq, Decides, eqb-true, eq-eqb}
use Rattle.std.proofs.lemmas.Bool.Decides.{same_from_decides}
use Rattle.std.proofs.lemmas.Slice.Eq.{bytes_eq-Decides}
use Rattle.std.specs.Prelude.{IfSome}
use Rattle.std.proofs.lemmas.List.{drop_more, drop_all}
use Rattle.md5.specs.Md5.{md5}
use Rattle.zdisk.specs.Disk.{Told, bytes_at, content}
use Rattle.repozo.specs.declared.index.PieceRow.{PieceRow}
use Rattle.repozo.specs.Disks.{AllRead, AllRight, Reads}
use Rattle.repozo.specs.Pieces.{first_bad, is_right, size_of}
use Rattle.repozo.proofs.Current.{read_at, read_long}

pub read_is : (o : Option Told) (bytes : List ℕ) (P : List ℕ → Type 0) → Reads o bytes → IfSome o (λ t. P (content t)) → P bytes
read_is None bytes P reads holds = absurd cc
read_is (Some t) bytes P reads holds = let same : content t ≡ bytes = cc in subst P same holds

pub told_right : (o : Option Told) (r : PieceRow) (b : Bool) → ((bytes : List ℕ) → Reads o bytes → b ≡ is_right r bytes) → b ≡ true → IfSome o (λ t. is_right r (content t) ≡ true)
told_right None r b is e = tt
told_right (Some t) r b is e = sym (is (content t) refl) ∙ e

pub told_right_at : (o : Option Told) (r x : PieceRow) (b : Bool) → r ≡ x → ((bytes : List ℕ) → Reads o bytes → b ≡ is_right r bytes) → b ≡ true → IfSome o (λ t. is_right x (content t) ≡ true)
told_right_at o r x b at is e = subst (λ (y : PieceRow). IfSome o (λ t. is_right y (content t) ≡ true)) at (told_right o r b is e)

module _ {S : Type 0} (told : S → Option Told) where
  -- one more is right
  pub right_more : (xs : List S) (rows : List PieceRow) (i : ℕ) (x d : S) (e : PieceRow) → i < length xs → i < length rows → IfSome (told (get_or xs i d)) (λ t. is_right (get_or rows i e) (content t) ≡ true)
      → AllRight (map told (drop (i + 1) (set xs i x))) (drop (i + 1) rows) → AllRight (map told (drop i xs)) (drop i rows)
  right_more xs rows i x d e lt le one rest =
      subst (λ (ys : List S). AllRight (map told ys) (drop i rows)) (sym (drop_more xs i d lt))
      (subst (λ (rs : List PieceRow). AllRight (map told (get_or xs i d ∷ drop (i + 1) xs)) rs) (sym (drop_more rows i e le))
      (one, subst (λ (ys : List S). AllRight (map told ys) (drop (i + 1) rows)) (drop-set-lt (i + 1) xs i x (omega arith)) rest))

  pub right_end : (xs : List S) (rows : List PieceRow) (i : ℕ) → length xs ≤ i → AllRight (map told (drop i xs)) rows
  right_end xs rows i le = subst (λ (ys : List S). AllRight (map told ys) rows) (sym (drop_all i xs le)) tt

pub bad_more : (rows : List PieceRow) (held : List (List ℕ)) (i : ℕ) (e : PieceRow) → i < length rows → i < length held → first_bad (drop i rows) (drop i held) ≡ cond (is_right (get_or rows i e) (get_or held i [])) (first_bad (drop (i + 1) rows) (drop (i + 1) held)) (Some (get_or rows i e).name)
bad_more rows held i e lt le = ap₂ first_bad (drop_more rows i e lt) (drop_more held i [] le)

-- ---- one piece

pub not_long : (o : Option Told) (bytes : List ℕ) (n : ℕ) (r : PieceRow) → Reads o bytes → IfSome o (λ t. n ≡ length (content t)) → (n ≡ size_of r → ⊥) → false ≡ is_right r bytes
not_long o bytes n r reads long other = go (length bytes == size_of r) refl
  where
    go : (b : Bool) → (length bytes == size_of r) ≡ b → false ≡ is_right r bytes
    go true e = absurd (other (read_is o bytes (λ c. n ≡ length c) reads long ∙ eqb-true (length bytes) (size_of r) e))
    go false e = sym (ap (λ (b : Bool). b && bytes_eq (md5 bytes) r.md5) e)

pub right_when : (o : Option Told) (bytes : List ℕ) (n : ℕ) (r : PieceRow) (digest : List ℕ) (b : Bool) → Reads o bytes → IfSome o (λ t. n ≡ length (content t)) → n ≡ size_of r → IfSome o (λ t. digest ≡ md5 (bytes_at t 0 n)) → Decides b (digest ≡ r.md5) → b ≡ is_right r bytes
right_when o bytes n r digest b reads long size is decides =
    let whole : n ≡ length bytes = read_is o bytes (λ c. n ≡ length c) reads long in
    let all : digest ≡ md5 bytes = read_is o bytes (λ c. digest ≡ md5 (take n c)) reads is ∙ ap md5 (take_all n bytes (omega (arith, whole))) in
    let same : b ≡ bytes_eq (md5 bytes) r.md5 = same_from_decides {P = digest ≡ r.md5} b (bytes_eq (md5 bytes) r.md5) decides
    ((λ e. all ∙ (bytes_eq-Decides (md5 bytes) r.md5).0 e), (λ e. (bytes_eq-Decides (md5 bytes) r.md5).1 (sym all ∙ e))) in
    same ∙ sym (ap (λ (x : Bool). x && bytes_eq (md5 bytes) r.md5) (eq-eqb (length bytes) (size_of r) (sym whole ∙ size)))

-- ---- at one piece of a loop

module _ {S : Type 0} (told : S → Option Told) where
  -- what is read there
  pub read_there : (os xs : List S) (held : List (List ℕ)) (i : ℕ) (d : S) → map told xs ≡ map told os → AllRead (map told os) held → i < length xs → Reads (told (get_or xs i d)) (get_or held i [])
  read_there os xs held i d same all lt = read_at told xs held i d [] (subst (λ (ds : List (Option Told)). AllRead ds held) (sym same) all) lt

  pub long_there : (os xs : List S) (held : List (List ℕ)) → map told xs ≡ map told os → AllRead (map told os) held → length held ≡ length xs
  long_there os xs held same all = read_long told xs held (subst (λ (ds : List (Option Told)). AllRead ds held) (sym same) all)

  -- what is left behind a piece, by whether it is right
  pub bad_there : (os xs : List S) (rows : List PieceRow) (held : List (List ℕ)) (i : ℕ) (d : S) (e r : PieceRow) (b c : Bool) → r ≡ get_or rows i e → map told xs ≡ map told os → AllRead (map told os) held → i < length xs → i < length rows
      → ((bytes : List ℕ) → Reads (told (get_or xs i d)) bytes → b ≡ is_right r bytes) → b ≡ c → first_bad (drop i rows) (drop i held) ≡ first_bad rows held
      → first_bad rows held ≡ cond c (first_bad (drop (i + 1) rows) (drop (i + 1) held)) (Some (get_or rows i e).name)
  bad_there os xs rows held i d e r b c at same all lt le right is left =
      let tested : is_right (get_or rows i e) (get_or held i []) ≡ c = ap (λ (x : PieceRow). is_right x (get_or held i [])) (sym at) ∙ sym (right (get_or held i []) (read_there os xs held i d same all lt)) ∙ is in
      sym left ∙ bad_more rows held i e le (omega (arith, lt, long_there os xs held same all)) ∙ ap (λ (x : Bool). cond x (first_bad (drop (i + 1) rows) (drop (i + 1) held)) (Some (get_or rows i e).name)) tested
