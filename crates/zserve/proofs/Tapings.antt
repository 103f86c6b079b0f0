-- What stands of a tape where a server is refused.
use Rattle.std.proofs.Common.{◌≡◌, ℕ, List, [], ◌++◌, append-nil, flat_map, length, Option, Some, None, Result, Ok, Err, refl, sym, ap, ◌∙◌, subst, inl, inr}
use Rattle.std.specs.List.{AllByRecursion}
use Rattle.std.specs.Option.{ForSome}
use Rattle.std.specs.Prelude.{◌⊎◌, IfErr, IfSome, IsErrAnd}
use Rattle.zdisk.specs.Calls.{AnyImage, Follows, Mixed, put}
use Rattle.zdisk.specs.Crashes.{IsTorn}
use Rattle.zdisk.specs.Disk.{Held, Told, content}
use Rattle.zdisk.specs.Images.{IsMixture}
use Rattle.zdisk.specs.OneChange.{put_end, torn}
use Rattle.schedule.specs.Items.{HasLine, first_line, item_text}
use Rattle.schedule.specs.declared.item.Item2.{Item2}
use Rattle.zserve.specs.Happened.{Happening, items}
use Rattle.zserve.specs.Taping.{Grows, IsLong, Leaves, Stands, Taped, text_of}

-- ---- answers

pub if_err_any : {T E : Type 0} (r : Result T E) (P : E → Type 0) → ((e : E) → P e) → IfErr r P
if_err_any (Ok x) P p = tt
if_err_any (Err e) P p = p e

-- what the exit of a `?` returns
pub if_err_from : {T E : Type 0} (r : Result T E) (e : E) (P : E → Type 0) → IsErrAnd r (λ y. y ≡ e) → P e → IfErr r P
if_err_from (Ok x) e P is p = tt
if_err_from (Err y) e P is p = subst P (sym is) p

-- ---- a piece behind a tape

stands_as : {A B : Type 0} → (A → B) → (done piece : List ℕ) (told : Told) → Stands A done piece told → Stands B done piece told
stands_as turn done piece told s = elim s [ inl same ↦ inl same | inr rest ↦ elim rest [ inl grown ↦ inr (inl grown) | inr lost ↦ inr (inr (turn lost.0, lost.1)) ] ]

pub leaves_as : {A B : Type 0} → (A → B) → (o : Option Told) (done piece : List ℕ) (n : Option Told) → Leaves A o done piece n → Leaves B o done piece n
leaves_as turn None done piece n l = l
leaves_as turn (Some t) done piece n l = (l.0, l.1, stands_as turn (content t ++ done) piece l.0 l.2)

pub leaves_same : (A : Type 0) (o : Option Told) (piece : List ℕ) (n : Option Told) → n ≡ o → Leaves A o [] piece n
leaves_same A None piece n e = e
leaves_same A (Some t) piece n e = (t, e, inl (sym (append-nil (content t))))

pub leaves_grown : (A : Type 0) (o : Option Told) (piece : List ℕ) (n : Option Told) → Grows o piece n → Leaves A o [] piece n
leaves_grown A None piece n g = g
leaves_grown A (Some t) piece n g = (g.0, g.1, inr (inl (g.2 ∙ ap (λ (xs : List ℕ). xs ++ piece) (sym (append-nil (content t))))))

-- a write at its end that failed
pub leaves_torn : (A : Type 0) → A → (o u : Option Told) (at : ℕ) (piece : List ℕ) → IsLong o at → Follows o u (λ held next. Mixed held (put at piece held.now) next) → Leaves A o [] piece u
leaves_torn A a None None at piece long f = refl
leaves_torn A a None (Some u) at piece long f = absurd f
leaves_torn A a (Some o) None at piece long f = absurd f
leaves_torn A a (Some o) (Some u) at piece long f =
    let m = f.0 in
    let is : content u ≡ m.bytes = ap (λ (h : Held). h.now) m.is in
    let end : at ≡ length (content o) = sym (long o refl) in
    let t : IsTorn (content o) piece m.bytes = torn (content o) piece m.bytes (subst (λ (new : List ℕ). IsMixture (content o) new m.bytes) (put_end (content o) piece at end) m.mixture) in
    (u, refl, inr (inr (a, inl (subst (λ (d : List ℕ). IsTorn d piece (content u)) (sym (append-nil (content o))) (subst (λ (b : List ℕ). IsTorn (content o) piece b) (sym is) t)))))

follows_none : (n : Option Told) (Change : Held → Held → Type 0) → Follows None n Change → n ≡ None
follows_none None Change f = refl
follows_none (Some u) Change f = absurd f

follows_some : (m : Told) (n : Option Told) (Change : Held → Held → Type 0) → Follows (Some m) n Change → (u : Told) × (n ≡ Some u) × Change m.now u.now
follows_some m None Change f = absurd f
follows_some m (Some u) Change f = (u, refl, f.0)

-- it was put, and not brought to the device
pub leaves_unsynced : (A : Type 0) (o m n : Option Told) (piece : List ℕ) → Grows o piece m → (n ≡ m) ⊎ (A × Follows m n AnyImage) → Leaves A o [] piece n
leaves_unsynced A None m n piece g ends = elim ends [
  | inl same ↦ same ∙ g
  | inr lost ↦ follows_none n AnyImage (subst (λ (k : Option Told). Follows k n AnyImage) g lost.1)
]
leaves_unsynced A (Some t) m n piece g ends = elim ends [
  | inl same ↦ leaves_grown A (Some t) piece n (g.0, same ∙ g.1, g.2)
  | inr lost ↦ (let f = follows_some g.0 n AnyImage (subst (λ (k : Option Told). Follows k n AnyImage) g.1 lost.1) in
      (f.0, f.1, inr (inr (lost.0, inr (g.0.now, g.2 ∙ ap (λ (xs : List ℕ). xs ++ piece) (sym (append-nil (content t))), f.2)))))
]

-- behind what it grew by
pub leaves_behind : (A : Type 0) (a b c : Option Told) (done piece : List ℕ) → Grows a done b → Leaves A b [] piece c → Leaves A a done piece c
leaves_behind A None b c done piece g l = subst (λ (o : Option Told). Leaves A o [] piece c) g l
leaves_behind A (Some a) b c done piece g l =
    let x : Leaves A (Some g.0) [] piece c = subst (λ (o : Option Told). Leaves A o [] piece c) g.1 l in
    (x.0, x.1, subst (λ (d : List ℕ). Stands A d piece x.0) (append-nil (content g.0) ∙ g.2) x.2)

-- ---- the tape of a run

-- refused before any round
pub taped_first : (A : Type 0) (o n : Option Told) → ForSome o (λ told. content told ≡ []) → Leaves A o [] first_line n → IfSome n (Taped A [] [])
taped_first A None n empty l = subst (λ (k : Option Told). IfSome k (Taped A [] [])) (sym l) tt
taped_first A (Some t) n empty l =
    let none : content t ++ [] ≡ [] = append-nil (content t) ∙ empty t refl in
    subst (λ (k : Option Told). IfSome k (Taped A [] [])) (sym l.1)
    (record { done = []; piece = first_line; put = inl (refl, refl, refl); lines = tt; stands = subst (λ (d : List ℕ). Stands A d first_line l.0) none l.2 })

-- refused behind whole rounds
pub taped_behind : (A : Type 0) (o m n : Option Told) (all more : List Happening) (piece : List ℕ) → ForSome o (λ told. content told ≡ []) → Grows o first_line m → AllByRecursion HasLine (items all)
    → (piece ≡ flat_map item_text (items more)) ⊎ ((more ≡ []) × (piece ≡ item_text Item2.End)) → Leaves A m (flat_map item_text (items all)) piece n → IfSome n (Taped A all more)
taped_behind A None m n all more piece empty first lines is l =
    let none : n ≡ None = subst (λ (k : Option Told). Leaves A k (flat_map item_text (items all)) piece n) first l in
    subst (λ (k : Option Told). IfSome k (Taped A all more)) (sym none) tt
taped_behind A (Some t) m n all more piece empty first lines is l =
    let x : Leaves A (Some first.0) (flat_map item_text (items all)) piece n = subst (λ (k : Option Told). Leaves A k (flat_map item_text (items all)) piece n) first.1 l in
    let begun : content first.0 ≡ first_line = first.2 ∙ ap (λ (xs : List ℕ). xs ++ first_line) (empty t refl) in
    let done : content first.0 ++ flat_map item_text (items all) ≡ text_of all = ap (λ (xs : List ℕ). xs ++ flat_map item_text (items all)) begun in
    subst (λ (k : Option Told). IfSome k (Taped A all more)) (sym x.1)
    (record { done = text_of all; piece = piece; put = inr (refl, is); lines = lines; stands = subst (λ (d : List ℕ). Stands A d piece x.0) done x.2 })
