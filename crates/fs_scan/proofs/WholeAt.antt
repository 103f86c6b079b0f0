-- What a transaction's head says of what stands behind it.
use Rattle.std.proofs.Common.{◌≡◌, ℕ, ◌+◌, ◌-◌, ◌^◌, ◌<◌, ◌≤◌, Bool, true, false, ◌||◌, eqb, ltb, List, [], ◌∷◌, ◌++◌, length, get_or, take, drop, refl, sym, ap, subst, ◌∙◌, append_assoc, append-nil, arith, inl, inr}
use Rattle.std.specs.Prelude.{◌⊎◌}
use Rattle.std.specs.Int.{w64, from_be_bytes}
use Rattle.std.proofs.lemmas.List.{get_or_at, take_at, drop_at, drop_all, length-append, length-drop, length-take, take-append-drop, drop-drop}
use Rattle.std.proofs.lemmas.Nat.{from_be_bytes-to_be_bytes_8}
use Rattle.std.proofs.lemmas.Bool.{le-ltb, lt-ltb, ne_eqb}
use Rattle.zbase.specs.NumberLaws.{length-be64}
use Rattle.zbase.specs.Numbers.{be64, be16}
use Rattle.fs_record.specs.declared.heads.TxnHead.{TxnHead}
use Rattle.fs_record.specs.Spelling.{Skipped, txn_head, txn_head_of, block_spelling, long_of, texts_spelling, inside_spelling}
use Rattle.fs_record.specs.Fits.{FitsTxnHead}
use Rattle.fs_record.specs.SpellingLaws.{same_txn_head, txn_head_from}
use Rattle.fs_record.specs.Opening.{is_end, length_in, NoBlock}
use Rattle.fs_scan.specs.declared.extent.Extent.{Extent}
use Rattle.fs_scan.specs.declared.extent.Frame.{Frame}
use Rattle.fs_scan.specs.Extent.{area_in, block_in, extent_of, FrameFits, IsFrame, IsWhole}
use Rattle.fs_scan.specs.Found.{IsFront}

-- the id and the length, the status, and the rest
regroup_parts : (t l s u d e x : List ℕ) → (((((t ++ l) ++ s) ++ u) ++ d) ++ e) ++ x ≡ (t ++ l) ++ (s ++ ((u ++ d) ++ e ++ x))
regroup_parts t l s u d e x = simp append_assoc

front_of_head : (h : TxnHead) (x : List ℕ) → (r : List ℕ) × (txn_head h ++ x ≡ (be64 h.tid ++ be64 h.length) ++ h.status ∷ r)
unfolding txn_head
front_of_head h x = ((be16 h.user ++ be16 h.description) ++ be16 h.extension ++ x, regroup_parts (be64 h.tid) (be64 h.length) (h.status ∷ []) (be16 h.user) (be16 h.description) (be16 h.extension) x)

head_status : (h : TxnHead) (x : List ℕ) → get_or (txn_head h ++ x) 16 0 ≡ h.status
head_status h x =
    let f = front_of_head h x in
    ap (λ (s : List ℕ). get_or s 16 0) f.1 ∙ get_or_at (be64 h.tid ++ be64 h.length) h.status f.0 0 16 (simp (length-append, length-be64))

head_length : (h : TxnHead) (x : List ℕ) → h.length < 2 ^ 64 → from_be_bytes w64 (take 8 (drop 8 (txn_head h ++ x))) ≡ h.length
unfolding be64
head_length h x lt =
    let f = front_of_head h x in
    let rest : drop 8 (txn_head h ++ x) ≡ be64 h.length ++ h.status ∷ f.0 = ap (λ (s : List ℕ). drop 8 s) (f.1 ∙ append_assoc (be64 h.tid) (be64 h.length) (h.status ∷ f.0)) ∙ drop_at (be64 h.tid) (be64 h.length ++ h.status ∷ f.0) 8 (length-be64 h.tid) in
    let bytes : take 8 (drop 8 (txn_head h ++ x)) ≡ be64 h.length = ap (λ (s : List ℕ). take 8 s) rest ∙ take_at (be64 h.length) (h.status ∷ f.0) 8 (length-be64 h.length) in
    ap (from_be_bytes w64) bytes ∙ from_be_bytes-to_be_bytes_8 h.length lt

pub short_ends : (rest : List ℕ) → length rest < 23 → is_end rest ≡ true
unfolding is_end
short_ends rest lt = rw (lt-ltb (length rest) 23 lt) refl

alike : (a b c b' c' d d' : Bool) → a ≡ false → b ≡ b' → c ≡ c' → d ≡ d' → (((a || b) || c) || d) ≡ ((b' || c') || d')
alike a b c b' c' d d' p q r s = rw (p, q, r, s) refl

-- the tests of an end by the head
pub end_by : (rest : List ℕ) (h : TxnHead) → rest ≡ txn_head h ++ drop 23 rest → FitsTxnHead h → 23 ≤ length rest → is_end rest ≡ ((eqb h.status 99 || eqb h.status 0) || ltb (length rest) (h.length + 8))
unfolding is_end length_in
end_by rest h e fits long =
    let s : get_or rest 16 0 ≡ h.status = ap (λ (x : List ℕ). get_or x 16 0) e ∙ head_status h (drop 23 rest) in
    let l : from_be_bytes w64 (take 8 (drop 8 rest)) ≡ h.length = ap (λ (x : List ℕ). from_be_bytes w64 (take 8 (drop 8 x))) e ∙ head_length h (drop 23 rest) fits.length in
    alike (ltb (length rest) 23) _ _ (eqb h.status 99) (eqb h.status 0) _ (ltb (length rest) (h.length + 8)) (le-ltb _ _ long) (ap (λ (x : ℕ). eqb x 99) s) (ap (λ (x : ℕ). eqb x 0) s) (ap (λ (x : ℕ). ltb (length rest) (x + 8)) l)

regroup : (h t i l x : List ℕ) → (((h ++ t) ++ i) ++ l) ++ x ≡ h ++ (t ++ (i ++ (l ++ x)))
regroup h t i l x = simp append_assoc

pub no_block : (rest : List ℕ) (h : TxnHead) → rest ≡ txn_head h ++ drop 23 rest → FitsTxnHead h → h.length < 23 + h.user + h.description + h.extension → NoBlock rest
unfolding block_spelling
no_block rest h e fits lt b more fb s =
    let r = same_txn_head h (txn_head_of b) (drop 23 rest) (texts_spelling b.texts ++ (inside_spelling b.inside ++ (be64 b.tail ++ more))) fits fb.head (sym e ∙ s ∙ regroup (txn_head (txn_head_of b)) (texts_spelling b.texts) (inside_spelling b.inside) (be64 b.tail) more) in
    let ll : h.length ≡ long_of b = ap (λ (g : TxnHead). g.length) r.0 in
    let lu : h.user ≡ length b.texts.user = ap (λ (g : TxnHead). g.user) r.0 in
    let ld : h.description ≡ length b.texts.description = ap (λ (g : TxnHead). g.description) r.0 in
    let le : h.extension ≡ length b.texts.extension = ap (λ (g : TxnHead). g.extension) r.0 in
    omega (arith, length-append b.texts.user b.texts.description, length-append (b.texts.user ++ b.texts.description) b.texts.extension)

-- a list is its parts
cut4 : (u d e i : ℕ) (s : List ℕ) → s ≡ ((take u s ++ take d (drop u s)) ++ take e (drop (u + d) s)) ++ (take i (drop (u + d + e) s) ++ drop (u + d + e + i) s)
cut4 u d e i s =
    let a = sym (take-append-drop u s) in
    let b = sym (take-append-drop d (drop u s)) ∙ ap (λ (x : List ℕ). take d (drop u s) ++ x) (drop-drop d u s) in
    let c = sym (take-append-drop e (drop (u + d) s)) ∙ ap (λ (x : List ℕ). take e (drop (u + d) s) ++ x) (drop-drop e (u + d) s) in
    let f = sym (take-append-drop i (drop (u + d + e) s)) ∙ ap (λ (x : List ℕ). take i (drop (u + d + e) s) ++ x) (drop-drop i (u + d + e) s) in
    simp append_assoc (a ∙ ap (λ (x : List ℕ). take u s ++ x) (b ∙ ap (λ (x : List ℕ). take d (drop u s) ++ x) (c ∙ ap (λ (x : List ℕ). take e (drop (u + d) s) ++ x) f)))

put_together : (hd t i l x behind rest : List ℕ) → rest ≡ hd ++ behind → behind ≡ t ++ (i ++ (l ++ x)) → rest ≡ (((hd ++ t) ++ i) ++ l) ++ x
put_together hd t i l x behind rest a b = a ∙ ap (λ (z : List ℕ). hd ++ z) b ∙ sym (regroup hd t i l x)

the_from : (u d x from : ℕ) → from ≡ 23 + u + d + x → 23 + (u + d + x) ≡ from
the_from u d x from e = omega arith

the_end : (u d x i from long : ℕ) → from ≡ 23 + u + d + x → from ≤ long → i ≡ long - from → 23 + (u + d + x + i) ≡ long
the_end u d x i from long e le f = omega arith

all_true : (a b c : Bool) → c ≡ true → ((a || b) || c) ≡ true
all_true true b c e = refl
all_true false true c e = refl
all_true false false c e = e

all_false : (a b c : Bool) → a ≡ false → b ≡ false → c ≡ false → ((a || b) || c) ≡ false
all_false a b c p q r = rw (p, q, r) refl

pub whole_is : (rest : List ℕ) (w : Extent) → rest ≡ txn_head w.head ++ drop 23 rest → FitsTxnHead w.head → 23 ≤ length rest → w.from ≡ 23 + w.head.user + w.head.description + w.head.extension → w.from ≤ w.long → w.long ≡ w.head.length → w.long + 8 ≤ length rest
    → drop w.long rest ≡ be64 w.tail ++ drop (w.long + 8) rest → w.tail < 2 ^ 64 → IsWhole rest w
unfolding block_spelling
whole_is rest w e fits long f within l room t lt =
    let u = w.head.user in
    let d = w.head.description in
    let x = w.head.extension in
    let behind = drop 23 rest in
    let i = w.long - w.from in
    let b = block_in w rest (Skipped (area_in w rest)) in
    let lb : length behind ≡ length rest - 23 = length-drop 23 rest in
    let area : take i (drop (u + d + x) behind) ≡ area_in w rest = ap (λ (s : List ℕ). take i s) (drop-drop (u + d + x) 23 rest ∙ ap (λ (n : ℕ). drop n rest) (the_from u d x w.from f)) in
    let last : drop (u + d + x + i) behind ≡ be64 w.tail ++ drop (w.long + 8) rest = drop-drop (u + d + x + i) 23 rest ∙ ap (λ (n : ℕ). drop n rest) (the_end u d x i w.from w.long f within refl) ∙ t in
    let lu : length (take u behind) ≡ u = omega (arith, length-take u behind, lb) in
    let ld : length (take d (drop u behind)) ≡ d = omega (arith, length-take d (drop u behind), length-drop u behind, lb) in
    let lx : length (take x (drop (u + d) behind)) ≡ x = omega (arith, length-take x (drop (u + d) behind), length-drop (u + d) behind, lb) in
    let la : length (area_in w rest) ≡ i = omega (arith, length-take i (drop w.from rest), length-drop w.from rest) in
    let size : long_of b ≡ w.long = omega (arith, length-append (take u behind) (take d (drop u behind)), length-append (take u behind ++ take d (drop u behind)) (take x (drop (u + d) behind)), lu, ld, lx, la) in
    let h : w.head ≡ txn_head_of b = txn_head_from w.head (txn_head_of b) refl (sym (size ∙ l)) refl (sym lu) (sym ld) (sym lx) in
    let cut : behind ≡ texts_spelling b.texts ++ (area_in w rest ++ (be64 w.tail ++ drop (w.long + 8) rest)) = cut4 u d x i behind ∙ ap (λ (s : List ℕ). texts_spelling b.texts ++ (s ++ drop (u + d + x + i) behind)) area ∙ ap (λ (s : List ℕ). texts_spelling b.texts ++ (area_in w rest ++ s)) last in
    record {
      head = fits;
      tail = lt;
      from = f;
      within = within;
      long = l;
      room = room;
      size = size;
      user = lu;
      description = ld;
      extension = lx;
      spelled = put_together (txn_head (txn_head_of b)) (texts_spelling b.texts) (area_in w rest) (be64 w.tail) (drop (w.long + 8) rest) behind rest (e ∙ ap (λ (g : TxnHead). txn_head g ++ behind) h) cut;
    }

abbrev Tests : Bool → Bool → Bool → Bool
Tests a b c = (a || b) || c

pub ends : (rest : List ℕ) (h : TxnHead) → rest ≡ txn_head h ++ drop 23 rest → FitsTxnHead h → 23 ≤ length rest → (h.status ≡ 99) ⊎ ((h.status ≡ 0) ⊎ (length rest - 8 < h.length)) → is_end rest ≡ true
ends rest h e fits long (inl c) = end_by rest h e fits long ∙ rw c refl
ends rest h e fits long (inr (inl c)) = end_by rest h e fits long ∙ rw c refl
ends rest h e fits long (inr (inr c)) = end_by rest h e fits long ∙ all_true (eqb h.status 99) (eqb h.status 0) (ltb (length rest) (h.length + 8)) (lt-ltb _ _ (omega arith))

pub goes_on : (rest : List ℕ) (h : TxnHead) → rest ≡ txn_head h ++ drop 23 rest → FitsTxnHead h → 23 ≤ length rest → (h.status ≡ 99 → ⊥) → (h.status ≡ 0 → ⊥) → h.length ≤ length rest - 8 → is_end rest ≡ false
goes_on rest h e fits long a b c = end_by rest h e fits long ∙ all_false _ _ _ (ne_eqb h.status 99 a) (ne_eqb h.status 0 b) (le-ltb _ _ (omega arith))

-- ---- by the first bytes of what stands there

-- what was read of the head there stands in the whole
headed : (left : ℕ) (front rest : List ℕ) (h : TxnHead) → IsFront 23 left front rest → front ≡ txn_head h ++ drop 23 front → 23 ≤ length front → rest ≡ txn_head h ++ drop 23 rest
headed left front rest h f read long =
    let size : length front ≤ 23 = omega (arith, ap length f.taken, length-take 23 rest) in
    sym (take-append-drop 23 rest) ∙ ap (λ (x : List ℕ). x ++ drop 23 rest) (sym f.taken ∙ read ∙ ap (λ (x : List ℕ). txn_head h ++ x) (drop_all 23 front size) ∙ append-nil (txn_head h))

pub few_end : (left : ℕ) (front rest : List ℕ) → IsFront 23 left front rest → length front < 23 → is_end rest ≡ true
few_end left front rest f short = short_ends rest (omega (arith, ap length f.taken, length-take 23 rest))

pub ends_at : (left : ℕ) (front rest : List ℕ) (h : TxnHead) → IsFront 23 left front rest → front ≡ txn_head h ++ drop 23 front → 23 ≤ length front → FitsTxnHead h → (h.status ≡ 99) ⊎ ((h.status ≡ 0) ⊎ (left - 8 < h.length)) → is_end rest ≡ true
ends_at left front rest h f read long fits why =
    ends rest h (headed left front rest h f read long) fits (omega (arith, ap length f.taken, length-take 23 rest)) (subst (λ (n : ℕ). (h.status ≡ 99) ⊎ ((h.status ≡ 0) ⊎ (n - 8 < h.length))) (sym f.long) why)

goes_at : (left : ℕ) (front rest : List ℕ) (h : TxnHead) → IsFront 23 left front rest → front ≡ txn_head h ++ drop 23 front → 23 ≤ length front → FitsTxnHead h → (h.status ≡ 99 → ⊥) → (h.status ≡ 0 → ⊥) → h.length ≤ left - 8 → is_end rest ≡ false
goes_at left front rest h f read long fits a b le =
    goes_on rest h (headed left front rest h f read long) fits (omega (arith, ap length f.taken, length-take 23 rest)) a b (omega (arith, f.long, le))

pub bad_at : (left : ℕ) (front rest : List ℕ) (h : TxnHead) → IsFront 23 left front rest → front ≡ txn_head h ++ drop 23 front → 23 ≤ length front → FitsTxnHead h → (h.status ≡ 99 → ⊥) → (h.status ≡ 0 → ⊥) → h.length ≤ left - 8 → h.length < 23 + h.user + h.description + h.extension → (is_end rest ≡ false) × NoBlock rest
bad_at left front rest h f read long fits a b le lt = (goes_at left front rest h f read long fits a b le, no_block rest h (headed left front rest h f read long) fits lt)

pub frame_is : (left : ℕ) (front rest : List ℕ) (f : Frame) → IsFront 23 left front rest → front ≡ txn_head f.head ++ drop 23 front → 23 ≤ length front → FitsTxnHead f.head → (f.head.status ≡ 99 → ⊥) → (f.head.status ≡ 0 → ⊥) → f.head.length ≤ left - 8 → (is_end rest ≡ false) × IsFrame rest f
frame_is left front rest f is read long fits a b le = (goes_at left front rest f.head is read long fits a b le, record { head = fits; spelled = headed left front rest f.head is read long })

-- with its second length
pub with_tail : (rest : List ℕ) (place tail : ℕ) (f : Frame) → FrameFits place (length rest) f → IsFrame rest f → drop f.long rest ≡ be64 tail ++ drop (f.long + 8) rest → tail < 2 ^ 64 → IsWhole rest (extent_of f tail)
with_tail rest place tail f fits is there lt = whole_is rest (extent_of f tail) is.spelled is.head (omega (arith, fits.room, fits.within, fits.from)) fits.from fits.within fits.long fits.room there lt
