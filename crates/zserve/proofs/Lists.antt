-- Lists of workers, of slots and of replies.
use Rattle.std.proofs.Common.{◌≡◌, ◌≢◌, ℕ, zero, suc, ◌<◌, List, [], ◌∷◌, ◌++◌, slice_get, append_assoc, append-nil, Option, Some, None, refl, sym, ap, ap₂, ◌∙◌, subst, arith, inl, inr}
use Rattle.std.specs.Prelude.{◌⊎◌}
use Rattle.schedule.specs.declared.line.Line.{Line}
use Rattle.txn_core.specs.declared.slot.Slot.{Slot}
use Rattle.txn_core.specs.Counting.{left, left_of}
use Rattle.zserve.specs.Happened.{Happening}
use Rattle.zserve.specs.Turns.{GotReply, lines_in, reply_among, reply_in, sooner}
use Rattle.std.proofs.lemmas.Grind.{flat_map-append}
use Rattle.http_clients.specs.Numbers.{Among, Distinct}
use Rattle.zserve.specs.Waiting.{total}

-- ---- among

pub among_left : (w : ℕ) (xs ys : List ℕ) → Among w xs → Among w (xs ++ ys)
among_left w [] ys a = absurd a
among_left w (x ∷ xs) ys (inl e) = inl e
among_left w (x ∷ xs) ys (inr a) = inr (among_left w xs ys a)

pub among_right : (w : ℕ) (xs ys : List ℕ) → Among w ys → Among w (xs ++ ys)
among_right w [] ys a = a
among_right w (x ∷ xs) ys a = inr (among_right w xs ys a)

pub among_either : (w : ℕ) (xs ys : List ℕ) → Among w (xs ++ ys) → Among w xs ⊎ Among w ys
among_either w [] ys a = inr a
among_either w (x ∷ xs) ys (inl e) = inl (inl e)
among_either w (x ∷ xs) ys (inr a) = elim (among_either w xs ys a) [ inl b ↦ inl (inr b) | inr b ↦ inr b ]

-- in front of or behind w, or w itself
pub among_without : (v w : ℕ) (xs ys : List ℕ) → v ≢ w → Among v (xs ++ w ∷ ys) → Among v (xs ++ ys)
among_without v w xs ys differs a = elim (among_either v xs (w ∷ ys) a) [
  | inl b ↦ among_left v xs ys b
  | inr b ↦ among_right v xs ys (elim b [ inl e ↦ absurd (differs e) | inr c ↦ c ])
]

pub among_with : (v w : ℕ) (xs ys : List ℕ) → Among v (xs ++ ys) → Among v (xs ++ w ∷ ys)
among_with v w xs ys a = elim (among_either v xs ys a) [
  | inl b ↦ among_left v xs (w ∷ ys) b
  | inr b ↦ among_right v xs (w ∷ ys) (inr b)
]

pub among_here : (w : ℕ) (xs ys : List ℕ) → Among w (xs ++ w ∷ ys)
among_here w xs ys = among_right w xs (w ∷ ys) (inl refl)

pub distinct_without : (w : ℕ) (xs ys : List ℕ) → Distinct (xs ++ w ∷ ys) → Distinct (xs ++ ys) × (Among w (xs ++ ys) → ⊥)
distinct_without w [] ys d = (d.1, d.0)
distinct_without w (x ∷ xs) ys d =
    let rest = distinct_without w xs ys d.1 in (
      (λ a. d.0 (among_with x w xs ys a), rest.0),
      λ a. elim a [ inl e ↦ d.0 (subst (λ k. Among k (xs ++ w ∷ ys)) e (among_here w xs ys)) | inr b ↦ rest.1 b ],
    )

-- ---- slots

pub same_list : {A : Type 0} (xs ys : List A) → ((v : ℕ) → slice_get ys v ≡ slice_get xs v) → ys ≡ xs
same_list [] [] same = refl
same_list [] (y ∷ ys) same = absurd (let e = same 0 in cc)
same_list (x ∷ xs) [] same = absurd (let e = same 0 in cc)
same_list (x ∷ xs) (y ∷ ys) same =
    let e : y ≡ x = (let s = same 0 in cc) in
    ap₂ (λ z zs. z ∷ zs) e (same_list xs ys (λ v. same (suc v)))

pub total_falls : {E R S : Type 0} (xs ys : List (Slot E R S)) (w : ℕ) → ((v : ℕ) → v ≢ w → slice_get ys v ≡ slice_get xs v) → left ys w < left xs w → total ys < total xs
total_falls [] [] w same less = absurd (omega (arith, less))
total_falls [] (y ∷ ys) zero same less = absurd (omega (arith, less))
total_falls [] (y ∷ ys) (suc w) same less = absurd (let e = same 0 (λ z. omega (arith, z)) in cc)
total_falls (x ∷ xs) [] zero same less = omega (arith, less)
total_falls (x ∷ xs) [] (suc w) same less = absurd (let e = same 0 (λ z. omega (arith, z)) in cc)
total_falls {E} {R} {S} (x ∷ xs) (y ∷ ys) zero same less =
    let e : ys ≡ xs = same_list xs ys (λ v. same (suc v) (λ z. omega (arith, z))) in
    let t : total ys ≡ total xs = ap (λ (zs : List (Slot E R S)). total zs) e in
    omega (arith, less, t)
total_falls {E} {R} {S} (x ∷ xs) (y ∷ ys) (suc w) same less =
    let e : y ≡ x = (let s = same 0 (λ z. omega (arith, z)) in cc) in
    let t : left_of y ≡ left_of x = ap (λ (z : Slot E R S). left_of z) e in
    let rest = total_falls xs ys w (λ v differs. same (suc v) (λ z. differs (omega (arith, z)))) less in
    omega (arith, rest, t)

-- ---- replies

sooner_none : (x : Option (List ℕ)) → sooner x None ≡ x
sooner_none None = refl
sooner_none (Some b) = refl

sooner_assoc : (x y z : Option (List ℕ)) → sooner (sooner x y) z ≡ sooner x (sooner y z)
sooner_assoc None y z = refl
sooner_assoc (Some b) y z = refl

pub among_lines : (w : ℕ) (xs ys : List Line) → reply_among w (xs ++ ys) ≡ sooner (reply_among w xs) (reply_among w ys)
among_lines w [] ys = refl
among_lines w (x ∷ xs) ys = ap (sooner (reply_in w x)) (among_lines w xs ys) ∙ sym (sooner_assoc (reply_in w x) (reply_among w xs) (reply_among w ys))

lines_more : (done : List Happening) (h : Happening) → lines_in (done ++ h ∷ []) ≡ lines_in done ++ h.1
lines_more [] h = append-nil h.1
lines_more (d ∷ done) h = ap (λ ls. d.1 ++ ls) (lines_more done h) ∙ sym (append_assoc d.1 (lines_in done) h.1)

-- one thing more
pub reply_more : (w : ℕ) (done : List Happening) (h : Happening) → reply_among w (lines_in (done ++ h ∷ [])) ≡ sooner (reply_among w (lines_in done)) (reply_among w h.1)
reply_more w done h = ap (reply_among w) (lines_more done h) ∙ among_lines w (lines_in done) h.1

pub reply_kept : (w : ℕ) (done : List Happening) (h : Happening) → reply_among w h.1 ≡ None → reply_among w (lines_in (done ++ h ∷ [])) ≡ reply_among w (lines_in done)
reply_kept w done h none = reply_more w done h ∙ ap (sooner (reply_among w (lines_in done))) none ∙ sooner_none (reply_among w (lines_in done))

pub reply_comes : (w : ℕ) (done : List Happening) (h : Happening) → reply_among w (lines_in done) ≡ None → reply_among w (lines_in (done ++ h ∷ [])) ≡ reply_among w h.1
reply_comes w done h none = reply_more w done h ∙ ap (λ x. sooner x (reply_among w h.1)) none

lines_joined : (xs ys : List Happening) → lines_in (xs ++ ys) ≡ lines_in xs ++ lines_in ys
lines_joined xs ys = flat_map-append (λ (h : Happening). h.1) xs ys

pub got_before : (w : ℕ) (xs ys : List Happening) → GotReply w xs → GotReply w (xs ++ ys)
got_before w xs ys got = (got.0, ap (reply_among w) (lines_joined xs ys) ∙ among_lines w (lines_in xs) (lines_in ys) ∙ ap (λ x. sooner x (reply_among w (lines_in ys))) got.1)

pub got_behind : (w : ℕ) (xs ys : List Happening) → GotReply w ys → GotReply w (xs ++ ys)
got_behind w xs ys got = first (reply_among w (lines_in xs)) (ap (reply_among w) (lines_joined xs ys) ∙ among_lines w (lines_in xs) (lines_in ys) ∙ ap (sooner (reply_among w (lines_in xs))) got.1)
  where
    first : (x : Option (List ℕ)) → reply_among w (lines_in (xs ++ ys)) ≡ sooner x (Some got.0) → GotReply w (xs ++ ys)
    first None e = (got.0, e)
    first (Some bytes) e = (bytes, e)
