-- The image that a seed names is one that the disk may leave.
use Rattle.std.proofs.Common.{◌≡◌, ℕ, zero, suc, ◌+◌, ◌<◌, Bool, true, false, List, [], ◌∷◌, length, get_or, refl, sym, ap, subst, ◌∙◌, arith, inl, inr}
use Rattle.std.proofs.lemmas.List.{ext_get_or}
use Rattle.zbase.specs.Limits.{greatest_number}
use Rattle.zdisk.specs.Disk.{Held}
use Rattle.zdisk.specs.Images.{HasByte, HasLength, IsImage, IsMixture, contents}
use Rattle.zdisk.specs.Seeds.{byte_chosen, bytes_chosen, chosen, image_of, last_synced, length_chosen, synced_of, takes_new}

pub length-chosen : (n seed place : ℕ) (old new : List ℕ) → length (bytes_chosen n seed place old new) ≡ n
length-chosen zero seed place old new = refl
length-chosen (suc n) seed place old new = ap suc (length-chosen n seed (place + 1) old new)

pub get_or-chosen : (n seed place i : ℕ) (old new : List ℕ) → i < n → get_or (bytes_chosen n seed place old new) i 0 ≡ byte_chosen seed (place + i) old new
get_or-chosen zero seed place i old new lt = absurd (omega (arith, lt))
get_or-chosen (suc n) seed place zero old new lt = ap (λ (k : ℕ). byte_chosen seed k old new) (omega arith)
get_or-chosen (suc n) seed place (suc i) old new lt = get_or-chosen n seed (place + 1) i old new (omega (arith, lt)) ∙ ap (λ (k : ℕ). byte_chosen seed k old new) (omega arith)

pub length-image : (seed : ℕ) (old new : List ℕ) → length (image_of seed old new) ≡ length_chosen seed old new
length-image seed old new = length-chosen (length_chosen seed old new) seed 0 old new

pub get_or-image : (seed i : ℕ) (old new : List ℕ) → i < length (image_of seed old new) → get_or (image_of seed old new) i 0 ≡ byte_chosen seed i old new
get_or-image seed i old new lt = get_or-chosen (length_chosen seed old new) seed 0 i old new (omega (arith, lt, length-image seed old new)) ∙ ap (λ (k : ℕ). byte_chosen seed k old new) (omega arith)

-- ---- 0 names what was before, 1 what would be after

takes_zero : (place : ℕ) → takes_new 0 place ≡ false
unfolding takes_new
takes_zero place = refl

takes_one : (place : ℕ) → takes_new 1 place ≡ true
unfolding takes_new
takes_one place = refl

pub image_before : (old new : List ℕ) → image_of 0 old new ≡ old
image_before old new =
    let long : length (image_of 0 old new) ≡ length old = length-image 0 old new ∙ ap (λ (b : Bool). length (chosen b old new)) (takes_zero greatest_number) in
    ext_get_or 0 (image_of 0 old new) old long (λ i lt. get_or-image 0 i old new lt ∙ ap (λ (b : Bool). get_or (chosen b old new) i 0) (takes_zero i))

pub image_after : (old new : List ℕ) → image_of 1 old new ≡ new
image_after old new =
    let long : length (image_of 1 old new) ≡ length new = length-image 1 old new ∙ ap (λ (b : Bool). length (chosen b old new)) (takes_one greatest_number) in
    ext_get_or 0 (image_of 1 old new) new long (λ i lt. get_or-image 1 i old new lt ∙ ap (λ (b : Bool). get_or (chosen b old new) i 0) (takes_one i))

-- ---- it may be left

oldest_long : (now : List ℕ) (before : List (List ℕ)) → HasLength (now ∷ before) (length (synced_of now before))
oldest_long now [] = inl refl
oldest_long now (c ∷ cs) = inr (oldest_long c cs)

oldest_byte : (now : List ℕ) (before : List (List ℕ)) (i : ℕ) → HasByte (now ∷ before) i (get_or (synced_of now before) i 0)
oldest_byte now [] i = inl refl
oldest_byte now (c ∷ cs) i = inr (oldest_byte c cs i)

either_long : (held : Held) (b : Bool) → HasLength (contents held) (length (chosen b (last_synced held) held.now))
either_long held true = inl refl
either_long held false = oldest_long held.now held.before

either_byte : (held : Held) (b : Bool) (i : ℕ) → HasByte (contents held) i (get_or (chosen b (last_synced held) held.now) i 0)
either_byte held true i = inl refl
either_byte held false i = oldest_byte held.now held.before i

-- the image that a stop leaves, and reads after a sync that failed
pub image_named : (seed : ℕ) (held : Held) → IsImage held (image_of seed (last_synced held) held.now)
image_named seed held =
    let image = image_of seed (last_synced held) held.now in
    record {
      long = subst (HasLength (contents held)) (sym (length-image seed (last_synced held) held.now)) (either_long held (takes_new seed greatest_number));
      each = λ i lt. subst (HasByte (contents held) i) (sym (get_or-image seed i (last_synced held) held.now lt)) (either_byte held (takes_new seed i) i);
    }

-- what a write or a cut leaves that failed
pub mixture_named : (seed : ℕ) (old new : List ℕ) → IsMixture old new (image_of seed old new)
mixture_named seed old new = image_named seed (record { now = new; before = old ∷ [] })
