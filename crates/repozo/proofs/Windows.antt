-- Bytes that are copied and digested a window at a time.
use Rattle.std.proofs.Common.{◌≡◌, ℕ, ◌+◌, ◌≤◌, List, [], ◌++◌, length, take, drop, Option, None, Some, Ok, refl, sym, ap, subst, ◌∙◌, append_assoc, append-nil, length-append, take-add, drop-drop, arith}
use Rattle.std.specs.Prelude.{IfSome, is_some}
use Rattle.std.specs.Option.{ForSome}
use Rattle.md5.specs.declared.Md5.{Md5}
use Rattle.md5.specs.Md5.{md5, Holds}
use Rattle.zdisk.specs.Calls.{Follows, Syncs, Writes}
use Rattle.zdisk.specs.Crashes.{Becomes}
use Rattle.zdisk.specs.Disk.{HasRange, Held, Told, bytes_at, content}
use Rattle.zdisk.specs.OneChange.{put_end}
use Rattle.repozo.specs.Disks.{Appended, Copied, Grows}

-- a call that may change the file lets a disk go on telling, or not telling
pub follows_tells : (R : Held → Held → Type 0) (old new : Option Told) → Follows old new R → is_some new ≡ is_some old
follows_tells R None None f = refl
follows_tells R None (Some n) f = absurd f
follows_tells R (Some o) None f = absurd f
follows_tells R (Some o) (Some n) f = refl

pub grows_none : (o : Option Told) → Grows o o []
grows_none None = tt
grows_none (Some t) = sym (append-nil (content t))

pub grows_then : (a b c : Option Told) (xs ys : List ℕ) → Grows a b xs → Grows b c ys → Grows a c (xs ++ ys)
grows_then None None None xs ys p q = tt
grows_then None None (Some w) xs ys p q = absurd q
grows_then None (Some u) c xs ys p q = absurd p
grows_then (Some t) None c xs ys p q = absurd p
grows_then (Some t) (Some u) None xs ys p q = absurd q
grows_then (Some t) (Some u) (Some w) xs ys p q = q ∙ ap (λ (bytes : List ℕ). bytes ++ ys) p ∙ append_assoc (content t) xs ys

some_same : (a b : Told) → Some a ≡ Some b → a ≡ b
some_same a b e = cc

-- the end moves on by what was put behind it
pub grows_end : (o n : Option Told) (bytes : List ℕ) (at : ℕ) → ForSome o (λ t. length (content t) ≡ at) → Grows o n bytes → ForSome n (λ t. length (content t) ≡ at + length bytes)
grows_end None None bytes at end grows t is = absurd cc
grows_end None (Some n) bytes at end grows t is = absurd grows
grows_end (Some o) None bytes at end grows t is = absurd grows
grows_end (Some o) (Some n) bytes at end grows t is =
    subst (λ (u : Told). length (content u) ≡ at + length bytes) (some_same n t is) (ap length grows ∙ length-append (content o) bytes ∙ ap (λ (k : ℕ). k + length bytes) (end o refl))

pub written : (T E : Type 0) (r : T) (o n : Option Told) (at : ℕ) (piece : List ℕ) → ForSome o (λ t. length (content t) ≡ at) → Follows o n (Writes {T = T} {E = E} at piece (Ok r)) → Grows o n piece
written T E r None None at piece end f = tt
written T E r None (Some n) at piece end f = absurd f
written T E r (Some o) None at piece end f = absurd f
written T E r (Some o) (Some n) at piece end f = ap (λ (h : Held). h.now) f.0 ∙ put_end (content o) piece at (sym (end o refl))

-- ---- windows

pub appended_none : (from : Option Told) (start : ℕ) (to : Option Told) (h : Md5) → Appended from start 0 to to h h
appended_none from start to h = record { bytes = []; long = refl; read = none from; grown = grows_none to; hashed = λ m holds. subst (Holds h) (sym (append-nil m)) holds }
  where
    none : (o : Option Told) → IfSome o (λ told. [] ≡ bytes_at told start 0)
    none None = tt
    none (Some t) = refl

two_parts : (start done count : ℕ) (c : List ℕ) → take done (drop start c) ++ take count (drop (start + done) c) ≡ take (done + count) (drop start c)
two_parts start done count c = ap (λ (xs : List ℕ). take done (drop start c) ++ take count xs) (sym (drop-drop done start c)) ∙ sym (take-add done count (drop start c))

read_more : (o p : Option Told) (start done count : ℕ) (bytes window : List ℕ) → p ≡ o → IfSome o (λ t. bytes ≡ bytes_at t start done) → IfSome p (λ t. window ≡ bytes_at t (start + done) count) → IfSome o (λ t. bytes ++ window ≡ bytes_at t start (done + count))
read_more None p start done count bytes window e first next = tt
read_more (Some t) p start done count bytes window e first next =
    let now : window ≡ bytes_at t (start + done) count = subst (λ (o : Option Told). IfSome o (λ u. window ≡ bytes_at u (start + done) count)) e next in
    ap (λ (xs : List ℕ). xs ++ window) first ∙ ap (λ (xs : List ℕ). bytes_at t start done ++ xs) now ∙ two_parts start done count (content t)

pub appended_more : (from mid : Option Told) (start done count : ℕ) (a b c : Option Told) (h i j : Md5) (window : List ℕ) → mid ≡ from → length window ≡ count → Appended from start done a b h i
    → IfSome mid (λ t. window ≡ bytes_at t (start + done) count) → Grows b c window → ((m : List ℕ) → Holds i m → Holds j (m ++ window)) → Appended from start (done + count) a c h j
appended_more from mid start done count a b c h i j window same long sofar read grows hashed = record {
  bytes = sofar.bytes ++ window;
  long = length-append sofar.bytes window ∙ ap (λ (k : ℕ). k + length window) sofar.long ∙ ap (λ (k : ℕ). done + k) long;
  read = read_more from mid start done count sofar.bytes window same sofar.read read;
  grown = grows_then a b c sofar.bytes window sofar.grown grows;
  hashed = λ m holds. subst (Holds j) (append_assoc m sofar.bytes window) (hashed (m ++ sofar.bytes) (sofar.hashed m holds));
}

-- ---- a digest alone

pub hashed_more : (o p : Option Told) (done count : ℕ) (window : List ℕ) (h i : Md5) → p ≡ o → IfSome o (λ t. Holds h (bytes_at t 0 done)) → IfSome p (λ t. window ≡ bytes_at t done count) → ((m : List ℕ) → Holds h m → Holds i (m ++ window)) → IfSome o (λ t. Holds i (bytes_at t 0 (done + count)))
hashed_more None p done count window h i e first next hashed = tt
hashed_more (Some t) p done count window h i e first next hashed =
    let now : window ≡ bytes_at t done count = subst (λ (o : Option Told). IfSome o (λ u. window ≡ bytes_at u done count)) e next in
    subst (Holds i) (ap (λ (xs : List ℕ). bytes_at t 0 done ++ xs) now ∙ sym (take-add done count (content t))) (hashed (bytes_at t 0 done) first)

pub hashed_none : (o : Option Told) (h : Md5) → Holds h [] → IfSome o (λ t. Holds h (bytes_at t 0 0))
hashed_none None h holds = tt
hashed_none (Some t) h holds = holds

pub hashed_all : (o : Option Told) (size : ℕ) (h : Md5) (digest : List ℕ) → IfSome o (λ t. Holds h (bytes_at t 0 size)) → ((m : List ℕ) → Holds h m → digest ≡ md5 m) → IfSome o (λ t. digest ≡ md5 (bytes_at t 0 size))
hashed_all None size h digest holds is = tt
hashed_all (Some t) size h digest holds is = is (bytes_at t 0 size) holds

-- ---- an empty disk is filled and synced

pub filled : (T E : Type 0) (r : T) (old mid new next : Option Told) (bytes : List ℕ) → mid ≡ old → ForSome old (λ t. content t ≡ []) → Grows mid new bytes → Follows new next (Syncs {T = T} {E = E} (Ok r)) → Becomes old next (λ _. bytes)
filled T E r None None None None bytes e empty grows f = tt
filled T E r None None None (Some x) bytes e empty grows f = absurd f
filled T E r None None (Some n) x bytes e empty grows f = absurd grows
filled T E r None (Some m) n x bytes e empty grows f = absurd cc
filled T E r (Some o) None n x bytes e empty grows f = absurd cc
filled T E r (Some o) (Some m) None x bytes e empty grows f = absurd grows
filled T E r (Some o) (Some m) (Some n) None bytes e empty grows f = absurd f
filled T E r (Some o) (Some m) (Some n) (Some x) bytes e empty grows f =
    let same : content m ≡ content o = ap content (some_same m o e) in
    (ap (λ (h : Held). h.before) f.0, ap (λ (h : Held). h.now) f.0 ∙ grows ∙ ap (λ (xs : List ℕ). xs ++ bytes) (same ∙ empty o refl))

pub empty_end : (old mid : Option Told) → mid ≡ old → ForSome old (λ t. content t ≡ []) → ForSome mid (λ t. length (content t) ≡ 0)
empty_end old mid e empty t is = ap length (empty t (sym e ∙ is))

-- ---- what each window needs

-- a window lies in the range that is copied
pub range_at : (o p : Option Told) (start size done count : ℕ) → p ≡ o → HasRange o start size → done + count ≤ size → HasRange p (start + done) count
range_at o p start size done count e within le told is = let whole = within told (sym e ∙ is) in omega (arith, whole, le)

-- the end has moved on by what was copied
pub end_at : (from : Option Told) (start size : ℕ) (old new : Option Told) (h i : Md5) (at : ℕ) → ForSome old (λ t. length (content t) ≡ at) → Appended from start size old new h i → ForSome new (λ t. length (content t) ≡ at + size)
end_at from start size old new h i at end a told is = grows_end old new a.bytes at end a.grown told is ∙ ap (λ (k : ℕ). at + k) a.long

pub appended_all : (from : Option Told) (start size done : ℕ) (old new : Option Told) (h i : Md5) → done ≡ size → Appended from start done old new h i → Appended from start size old new h i
appended_all from start size done old new h i e a = subst (λ (k : ℕ). Appended from start k old new h i) e a

pub hashed_end : (o : Option Told) (size done : ℕ) (h : Md5) → done ≡ size → IfSome o (λ t. Holds h (bytes_at t 0 done)) → IfSome o (λ t. Holds h (bytes_at t 0 size))
hashed_end o size done h e holds = subst (λ (k : ℕ). IfSome o (λ t. Holds h (bytes_at t 0 k))) e holds

-- the whole of a copy into an empty disk, by an empty digest
pub copied : (T E : Type 0) (r : T) (file : Option Told) (start size : ℕ) (old mid new next : Option Told) (h i : Md5) (digest : List ℕ) → mid ≡ old → ForSome old (λ t. content t ≡ []) → Holds h [] → Appended file start size mid new h i
    → Follows new next (Syncs {T = T} {E = E} (Ok r)) → ((m : List ℕ) → Holds i m → digest ≡ md5 m) → Copied file start size old next digest
copied T E r file start size old mid new next h i digest e empty holds a f is = record {
  bytes = a.bytes;
  long = a.long;
  read = a.read;
  kept = filled T E r old mid new next a.bytes e empty a.grown f;
  is = is a.bytes (a.hashed [] holds);
}
