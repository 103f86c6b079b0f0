-- The data record at the front of an area, or none.
use Rattle.std.proofs.Common.{◌≡◌, ℕ, zero, suc, ◌+◌, ◌-◌, ◌^◌, ◌<◌, ◌≤◌, List, ◌++◌, length, take, drop, refl, sym, ap, subst, ◌∙◌, append_assoc, arith, inl, inr}
use Rattle.std.specs.Prelude.{◌⊎◌, min}
use Rattle.std.proofs.lemmas.Bool.{cases_lt}
use Rattle.std.proofs.lemmas.List.{append-nil, drop_all, drop-append-le, length-append, length-drop, length-take, take-append-drop, take_all, drop-drop}
use Rattle.zbase.specs.NumberLaws.{length-be64}
use Rattle.zbase.specs.Numbers.{be64}
use Rattle.fs_record.specs.declared.heads.DataHead.{DataHead}
use Rattle.fs_record.specs.declared.body.Body.{Body}
use Rattle.fs_record.specs.declared.body.Body.TheVariants.{Full, Back}
use Rattle.fs_record.specs.Spelling.{Data, data_head, head_of, data_spelling, body_length, body_spelling}
use Rattle.fs_record.specs.Fits.{FitsDataHead, FitsBody}
use Rattle.fs_record.specs.SpellingLaws.{same_data_head, long_data, data_head_from}
use Rattle.fs_scan.specs.declared.data.Found.{Found}
use Rattle.fs_scan.specs.Found.{body_in, data_in, DataStands, IsFront, NoData}

pub too_short : (area : List ℕ) → length area < 42 → NoData area
too_short area short d rest s = absurd (omega (arith, long_data d s.fits.body, ap length s.spelled, length-append (data_spelling d) rest))

head_says : (area : List ℕ) (h : DataHead) → area ≡ data_head h ++ drop 42 area → FitsDataHead h → (d : Data) (rest : List ℕ) → DataStands d area rest → (h ≡ head_of d) × (drop 42 area ≡ body_spelling d.body ++ rest)
unfolding data_spelling
head_says area h e fits d rest s =
    same_data_head h (head_of d) (drop 42 area) (body_spelling d.body ++ rest) fits s.fits.head (sym e ∙ s.spelled ∙ append_assoc (data_head (head_of d)) (body_spelling d.body) rest)

no_room : (n : ℕ) (body : Body) (behind rest : List ℕ) → FitsBody body → n ≡ body_length body → behind ≡ body_spelling body ++ rest → ((n ≡ 0) × (length behind < 8)) ⊎ (length behind < n) → ⊥
no_room n (Full bytes) behind rest fits l e (inl z) = absurd (omega arith)
no_room n (Full bytes) behind rest fits l e (inr short) = absurd (omega (arith, ap length e, length-append bytes rest))
no_room n (Back place) behind rest fits l e (inl z) = absurd (omega (arith, z.1, ap length e, length-append (be64 place) rest, length-be64 place))
no_room n (Back place) behind rest fits l e (inr short) = absurd (omega arith)

pub none_here : (area : List ℕ) (h : DataHead) → area ≡ data_head h ++ drop 42 area → FitsDataHead h → ((h.length ≡ 0) × (length area - 42 < 8)) ⊎ (length area - 42 < h.length) → NoData area
none_here area h e fits short d rest s =
    let r = head_says area h e fits d rest s in
    no_room h.length d.body (drop 42 area) rest s.fits.body (ap (λ (g : DataHead). g.length) r.0) r.1 (rw length-drop short)

-- the body that a length and the bytes behind a head make
pub record BodyStands (n back : ℕ) (behind rest : List ℕ) : Type 0 where
  pub fits : FitsBody (body_in n back behind)
  pub len : body_length (body_in n back behind) ≡ n
  pub spelled : behind ≡ body_spelling (body_in n back behind) ++ rest

body_zero : (n back : ℕ) (behind rest : List ℕ) → n ≡ 0 → behind ≡ be64 back ++ rest → back < 2 ^ 64 → BodyStands n back behind rest
body_zero zero back behind rest z e lt = record { fits = lt; len = refl; spelled = e }
body_zero (suc n) back behind rest z e lt = absurd (omega arith)

body_full : (n back : ℕ) (behind : List ℕ) → 0 < n → n ≤ length behind → BodyStands n back behind (drop n behind)
body_full zero back behind p q = absurd (omega arith)
body_full (suc n) back behind p q =
    let l : length (take (suc n) behind) ≡ suc n = omega (arith, length-take (suc n) behind) in
    record { fits = omega arith; len = l; spelled = sym (take-append-drop (suc n) behind) }

stands : (area : List ℕ) (f : Found) (rest : List ℕ) → area ≡ data_head f.head ++ drop 42 area → FitsDataHead f.head → BodyStands f.head.length f.back (drop 42 area) rest → DataStands (data_in f area) area rest
unfolding data_spelling
stands area f rest e fits b =
    let d = data_in f area in
    let same : f.head ≡ head_of d = data_head_from f.head (head_of d) refl refl refl refl refl (sym b.len) in
    record {
      fits = record { head = subst FitsDataHead same fits; body = b.fits };
      spelled = e ∙ ap (λ (h : DataHead). data_head h ++ drop 42 area) same ∙ ap (λ (x : List ℕ). data_head (head_of d) ++ x) b.spelled ∙ sym (append_assoc (data_head (head_of d)) (body_spelling d.body) rest);
    }

pub back_stands : (area : List ℕ) (f : Found) → area ≡ data_head f.head ++ drop 42 area → FitsDataHead f.head → f.head.length ≡ 0 → drop 42 area ≡ be64 f.back ++ drop 50 area → f.back < 2 ^ 64 → DataStands (data_in f area) area (drop 50 area)
back_stands area f e fits z b lt = stands area f (drop 50 area) e fits (body_zero f.head.length f.back (drop 42 area) (drop 50 area) z b lt)

pub full_stands : (area : List ℕ) (f : Found) → area ≡ data_head f.head ++ drop 42 area → FitsDataHead f.head → 0 < f.head.length → f.head.length ≤ length area - 42 → DataStands (data_in f area) area (drop (42 + f.head.length) area)
full_stands area f e fits p q =
    let b = body_full f.head.length f.back (drop 42 area) p (omega (arith, length-drop 42 area)) in
    subst (DataStands (data_in f area) area) (drop-drop f.head.length 42 area) (stands area f (drop f.head.length (drop 42 area)) e fits b)

-- ---- by the first bytes of an area

-- what was read of the head there stands in the area
headed : (left : ℕ) (front area : List ℕ) (h : DataHead) → IsFront 50 left front area → front ≡ data_head h ++ drop 42 front → 42 ≤ length front → area ≡ data_head h ++ drop 42 area
headed left front area h f read long =
    let whole : area ≡ front ++ drop 50 area = sym (take-append-drop 50 area) ∙ ap (λ (x : List ℕ). x ++ drop 50 area) (sym f.taken) in
    let behind : drop 42 front ++ drop 50 area ≡ drop 42 area = sym (drop-append-le 42 front (drop 50 area) long) ∙ ap (drop 42) (sym whole) in
    whole ∙ ap (λ (x : List ℕ). x ++ drop 50 area) read ∙ append_assoc (data_head h) (drop 42 front) (drop 50 area) ∙ ap (λ (x : List ℕ). data_head h ++ x) behind

pub too_few : (left : ℕ) (front area : List ℕ) → IsFront 50 left front area → length front < 42 → NoData area
too_few left front area f short = too_short area (omega (arith, ap length f.taken, length-take 50 area))

pub none_at : (left : ℕ) (front area : List ℕ) (h : DataHead) → IsFront 50 left front area → front ≡ data_head h ++ drop 42 front → 42 ≤ length front → FitsDataHead h → ((h.length ≡ 0) × (left - 42 < 8)) ⊎ (left - 42 < h.length) → NoData area
none_at left front area h f read long fits short =
    none_here area h (headed left front area h f read long) fits (subst (λ (n : ℕ). ((h.length ≡ 0) × (n - 42 < 8)) ⊎ (n - 42 < h.length)) (sym f.long) short)

pub back_at : (left : ℕ) (front area : List ℕ) (f : Found) → IsFront 50 left front area → front ≡ data_head f.head ++ drop 42 front → 42 ≤ length front → FitsDataHead f.head → f.head.length ≡ 0 → length front ≡ 50 → drop 42 front ≡ be64 f.back ++ drop 50 front → f.back < 2 ^ 64 → DataStands (data_in f area) area (drop 50 area)
back_at left front area f is read long fits none size back lt =
    let whole : area ≡ front ++ drop 50 area = sym (take-append-drop 50 area) ∙ ap (λ (x : List ℕ). x ++ drop 50 area) (sym is.taken) in
    let behind : drop 42 area ≡ be64 f.back ++ drop 50 area =
    ap (drop 42) whole ∙ drop-append-le 42 front (drop 50 area) long ∙ ap (λ (x : List ℕ). x ++ drop 50 area) (back ∙ ap (λ (x : List ℕ). be64 f.back ++ x) (drop_all 50 front (omega (arith, size))) ∙ append-nil (be64 f.back)) in
    back_stands area f (headed left front area f.head is read long) fits none behind lt

pub full_at : (left : ℕ) (front area : List ℕ) (f : Found) → IsFront 50 left front area → front ≡ data_head f.head ++ drop 42 front → 42 ≤ length front → FitsDataHead f.head → 0 < f.head.length → f.head.length ≤ left - 42 → DataStands (data_in f area) area (drop (42 + f.head.length) area)
full_at left front area f is read long fits some le = full_stands area f (headed left front area f.head is read long) fits some (omega (arith, is.long, le))

-- the front of an area that is there whole
pub slice_front : (rest : List ℕ) (size : ℕ) → size ≡ min 50 (length rest) → IsFront 50 (length rest) (take size rest) rest
slice_front rest size cut = record {
  long = refl;
  taken = elim (cases_lt (length rest) 50) [
    | inl lt ↦ take_all size rest (omega (arith, cut, lt)) ∙ sym (take_all 50 rest (omega (arith, lt)))
    | inr le ↦
        let most : size ≡ 50 = omega (arith, cut, le) in
        ap (λ (n : ℕ). take n rest) most
  ];
}
