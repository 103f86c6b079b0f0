-- Which workers had a request when a stop cut off a step: those that have one after it, and the one whose step it was.
use Rattle.std.proofs.Common.{◌≡◌, ◌≢◌, ℕ, zero, suc, ◌<◌, Bool, true, List, [], ◌∷◌, length, map, Some, refl, sym, ap, ◌∙◌, slice_get, slice_set, arith}
use Rattle.txn_core.specs.declared.slot.Slot.{Slot}
use Rattle.txn_core.specs.Cores.{is_taken}
use Rattle.txn_core.specs.Counting.{left, left_of}

-- a slot with steps left has a request
taken_left : {E R S : Type 0} (s : Slot E R S) → 0 < left_of s → is_taken s ≡ true
taken_left Slot.Idle h = absurd (omega (arith, h))
taken_left (Slot.Fresh f) h = refl
taken_left (Slot.Active a) h = refl
taken_left (Slot.Computed a) h = refl
taken_left (Slot.Pending p) h = refl

-- slots that differ in one place at most, where the first had a request
pub marks_before : {E R S : Type 0} (old new : List (Slot E R S)) (w : ℕ) → length new ≡ length old → 0 < left old w → ((v : ℕ) → v ≢ w → slice_get new v ≡ slice_get old v) → slice_set (map is_taken new) w true ≡ map is_taken old
marks_before [] new w long some others = absurd (omega (arith, some))
marks_before (s ∷ ss) [] w long some others = absurd cc
marks_before {E} {R} {S} (s ∷ ss) (t ∷ ts) zero long some others =
    let rest : ts ≡ ss = same_slots ts ss (let k : length ts ≡ length ss = cc in k) (λ v. others (suc v) (λ e. cc)) in
    let here : is_taken s ≡ true = taken_left s some in
    ap (λ (ms : List Bool). true ∷ ms) (ap (map is_taken) rest) ∙ ap (λ (b : Bool). b ∷ map is_taken ss) (sym here)
  where
    same_slots : (as' bs : List (Slot E R S)) → length as' ≡ length bs → ((v : ℕ) → slice_get as' v ≡ slice_get bs v) → as' ≡ bs
    same_slots [] [] long each = refl
    same_slots [] (b ∷ bs) long each = absurd cc
    same_slots (a ∷ as') [] long each = absurd cc
    same_slots (a ∷ as') (b ∷ bs) long each =
        let first : a ≡ b = (let e : Some a ≡ Some b = each zero in cc) in
        let more : as' ≡ bs = same_slots as' bs (let k : length as' ≡ length bs = cc in k) (λ v. each (suc v)) in
        cc
marks_before (s ∷ ss) (t ∷ ts) (suc w) long some others =
    let first : t ≡ s = (let e : Some t ≡ Some s = others zero (λ n. cc) in cc) in
    let more = marks_before ss ts w (let k : length ts ≡ length ss = cc in k) some (λ v n. others (suc v) (λ e. n (let k : v ≡ w = cc in k))) in
    ap (λ (b : Bool). b ∷ slice_set (map is_taken ts) w true) (ap is_taken first) ∙ ap (λ (ms : List Bool). is_taken s ∷ ms) more
