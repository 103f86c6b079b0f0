-- The image that a seed names, byte by byte.
use Rattle.std.proofs.Common.{◌≡◌, ℕ, ◌+◌, ◌-◌, ◌<◌, ◌≤◌, Bool, true, false, List, [], ◌++◌, length, get_or, take, drop, max, min, reverse, refl, sym, ap, subst, ◌∙◌, arith, inl, inr, if◌then◌else◌}
use Rattle.std.proofs.lemmas.List.{ext_get_or, get_or-take, get_or-drop, get_or_past, get_or-append-add, get_or_append_left, length-append, length-take, length-take-le, length-drop}
use Rattle.std.proofs.lemmas.Bool.{cases_lt}
use Rattle.zbase.specs.Limits.{greatest_number}
use Rattle.zdisk.specs.Calls.{put}
use Rattle.zdisk.specs.Filling.{IsFilled}
use Rattle.zdisk.specs.Effects.{image_left}
use Rattle.zdisk.specs.Recorded.{Buffer, file_of, told_back, told_by}
use Rattle.zdisk.specs.declared.record.Entry.{Entry}
use Rattle.zdisk.specs.SeedLaws.{get_or-image, length-image}
use Rattle.zdisk.specs.Seeds.{chosen, image_of, last_synced, takes_new}
use Rattle.zdisk.specs.Undoing.{Blends, back, synced_back}
use Rattle.zdisk.proofs.Buffers.{written_file}
use Rattle.zdisk.proofs.Covering.{told_alike}
use Rattle.zdisk.proofs.Telling.{now_told}

clash : {x : Bool} → x ≡ true → x ≡ false → ⊥
clash t e = cc

long_chosen : (b : Bool) (old new : List ℕ) → (if b then length new else length old) ≡ length (chosen b old new)
long_chosen true old new = refl
long_chosen false old new = refl

-- bytes that are the new content's where the seed takes it, and the old one's elsewhere
pub image_by : (seed : ℕ) (old new bytes : List ℕ) → length bytes ≡ (if takes_new seed greatest_number then length new else length old)
    → ((i : ℕ) → i < length bytes → takes_new seed i ≡ true → get_or bytes i 0 ≡ get_or new i 0)
    → ((i : ℕ) → i < length bytes → takes_new seed i ≡ false → get_or bytes i 0 ≡ get_or old i 0)
    → bytes ≡ image_of seed old new
image_by seed old new bytes long from_new from_old =
    let same : length bytes ≡ length (image_of seed old new) = long ∙ long_chosen (takes_new seed greatest_number) old new ∙ sym (length-image seed old new) in
    ext_get_or 0 bytes (image_of seed old new) same (λ i lt. each i lt (takes_new seed i) refl ∙ sym (get_or-image seed i old new (omega (arith, lt, same))))
  where
    each : (i : ℕ) → i < length bytes → (b : Bool) → takes_new seed i ≡ b → get_or bytes i 0 ≡ get_or (chosen b old new) i 0
    each i lt true e = from_new i lt e
    each i lt false e = from_old i lt e

-- either of two lengths
pub either_length : (b : Bool) (m n k l : ℕ) → m ≡ k → n ≡ l → (if b then m else n) ≡ (if b then k else l)
either_length true m n k l e f = e
either_length false m n k l e f = f

pub either_within : (b : Bool) (m n k : ℕ) → m ≤ k → n ≤ k → (if b then m else n) ≤ k
either_within true m n k le lf = le
either_within false m n k le lf = lf

get_front : (n : ℕ) (xs : List ℕ) (i : ℕ) → i < length (take n xs) → get_or (take n xs) i 0 ≡ get_or xs i 0
get_front n xs i lt = get_or-take n xs i 0 (omega (arith, lt, length-take n xs))

-- ---- what is mixed of the file at the last sync, and the file

pub mixed_image : (seed len was end result : ℕ) (newest blended once twice : List ℕ) (b : Buffer) → Blends seed newest blended b → IsFilled seed true len end [] blended once → IsFilled seed false was end [] once twice
    → end ≡ length newest → len ≤ length newest → was ≡ b.len → b.len ≤ length b.bytes → result ≡ (if takes_new seed greatest_number then len else was)
    → take result twice ≡ image_of seed (file_of b) (take len newest)
mixed_image seed len was end result newest blended once twice b bl f g last within is short chosen_by =
    image_by seed (file_of b) (take len newest) (take result twice) long from_new from_old
  where
    whole : length twice ≡ length newest
    whole = g.long ∙ f.long ∙ bl.long

    kept : length (take result twice) ≡ result
    kept = length-take-le result twice (subst (λ (k : ℕ). k ≤ length twice) (sym chosen_by) (either_within (takes_new seed greatest_number) len was (length twice) (omega (arith, within, whole)) (omega (arith, is, short, bl.short, bl.long, whole))))

    long : length (take result twice) ≡ (if takes_new seed greatest_number then length (take len newest) else length (file_of b))
    long = kept ∙ chosen_by ∙ either_length (takes_new seed greatest_number) len was _ _ (sym (length-take-le len newest within)) (is ∙ sym (length-take-le b.len b.bytes short))

    from_new : (i : ℕ) → i < length (take result twice) → takes_new seed i ≡ true → get_or (take result twice) i 0 ≡ get_or (take len newest) i 0
    from_new i lt t = get_front result twice i lt ∙ g.other i (clash t) ∙ elim (cases_lt i len) [
      | inl l ↦ f.below i l ∙ bl.new i t ∙ sym (get_or-take len newest i 0 l)
      | inr ge ↦ f.filled i t (omega (arith, ge)) (omega (arith, lt, length-take result twice, whole, last)) ∙ sym (get_or_past (take len newest) i 0 (omega (arith, ge, length-take len newest)))
    ]

    from_old : (i : ℕ) → i < length (take result twice) → takes_new seed i ≡ false → get_or (take result twice) i 0 ≡ get_or (file_of b) i 0
    from_old i lt t = get_front result twice i lt ∙ elim (cases_lt i was) [
      | inl l ↦ g.below i l ∙ f.other i (λ e. clash e t) ∙ bl.old i t (omega (arith, l, is, short)) ∙ sym (get_or-take b.len b.bytes i 0 (omega (arith, l, is)))
      | inr ge ↦ g.filled i t (omega (arith, ge)) (omega (arith, lt, length-take result twice, whole, last)) ∙ sym (get_or_past (file_of b) i 0 (omega (arith, ge, is, length-take b.len b.bytes)))
    ]

-- ---- a write that fails

-- of the bytes that a write covered, those of the file
pub covered_old : (at len count : ℕ) (piece bytes : List ℕ) → at ≤ len → count ≡ length (take (length piece) (drop at bytes)) → (i : ℕ) → at ≤ i → i < at + length piece → get_or (take (min count (len - at)) (take (length piece) (drop at bytes))) (i - at) 0 ≡ get_or (take len bytes) i 0
covered_old at len count piece bytes before c i ge lt = elim (cases_lt i len) [
  | inl l ↦ elim (cases_lt i (length bytes)) [
    | inl m ↦
        get_or-take (min count (len - at)) (take (length piece) (drop at bytes)) (i - at) 0 (omega (arith, c, length-take (length piece) (drop at bytes), length-drop at bytes, ge, lt, l, m))
        ∙ get_or-take (length piece) (drop at bytes) (i - at) 0 (omega (arith, ge, lt))
        ∙ get_or-drop at bytes (i - at) 0
        ∙ ap (λ (k : ℕ). get_or bytes k 0) (omega (arith, ge))
        ∙ sym (get_or-take len bytes i 0 l)
    | inr past ↦
        get_or_past (take (min count (len - at)) (take (length piece) (drop at bytes))) (i - at) 0
        (omega (arith, length-take (min count (len - at)) (take (length piece) (drop at bytes)), length-take (length piece) (drop at bytes), length-drop at bytes, ge, past))
        ∙ sym (get_or_past (take len bytes) i 0 (omega (arith, length-take len bytes, past)))
  ]
  | inr past ↦
      get_or_past (take (min count (len - at)) (take (length piece) (drop at bytes))) (i - at) 0 (omega (arith, length-take (min count (len - at)) (take (length piece) (drop at bytes)), ge, past, before))
      ∙ sym (get_or_past (take len bytes) i 0 (omega (arith, length-take len bytes, past)))
]

-- a write changes its place alone
pub put_front : (at : ℕ) (piece bytes : List ℕ) (i : ℕ) → at ≤ length bytes → i < at → get_or (put at piece bytes) i 0 ≡ get_or bytes i 0
put_front at piece bytes i within lt =
    get_or_append_left (take at bytes ++ piece) (drop (at + length piece) bytes) 0 i (omega (arith, lt, length-append (take at bytes) piece, length-take-le at bytes within))
    ∙ get_or_append_left (take at bytes) piece 0 i (omega (arith, lt, length-take-le at bytes within))
    ∙ get_or-take at bytes i 0 lt

pub put_rest : (at : ℕ) (piece bytes : List ℕ) (i : ℕ) → at ≤ length bytes → at + length piece ≤ i → get_or (put at piece bytes) i 0 ≡ get_or bytes i 0
put_rest at piece bytes i within ge =
    let front = take at bytes ++ piece in
    let n : length front ≡ at + length piece = length-append (take at bytes) piece ∙ ap (λ (k : ℕ). k + length piece) (length-take-le at bytes within) in
    ap (λ (k : ℕ). get_or (front ++ drop (at + length piece) bytes) k 0) (omega (arith, n, ge))
    ∙ get_or-append-add front (drop (at + length piece) bytes) (i - (at + length piece)) 0
    ∙ get_or-drop (at + length piece) bytes (i - (at + length piece)) 0
    ∙ ap (λ (k : ℕ). get_or bytes k 0) (omega (arith, ge))

pub written_image : (seed at len long count : ℕ) (piece bytes written mixed old : List ℕ) → at ≤ len → len ≤ length bytes → written ≡ put at piece bytes → count ≡ length (take (length piece) (drop at bytes)) → old ≡ take (min count (len - at)) (take (length piece) (drop at bytes))
    → IsFilled seed false at (at + length piece) old written mixed → long ≡ (if takes_new seed greatest_number then max len (at + length piece) else len) → long ≤ length mixed
    → take long mixed ≡ image_of seed (take len bytes) (put at piece (take len bytes))
written_image seed at len long count piece bytes written mixed old before within w c o f chosen_by fits =
    image_by seed (take len bytes) (put at piece (take len bytes)) (take long mixed) longs from_new from_old
  where
    file : take (max len (at + length piece)) written ≡ put at piece (take len bytes)
    file = ap (take (max len (at + length piece))) w ∙ written_file at len piece bytes before within

    size : length (put at piece (take len bytes)) ≡ max len (at + length piece)
    size = length-append (take at (take len bytes) ++ piece) (drop (at + length piece) (take len bytes))
        ∙ omega (arith, length-append (take at (take len bytes)) piece, length-take at (take len bytes), length-take-le len bytes within, length-drop (at + length piece) (take len bytes), before)

    longs : length (take long mixed) ≡ (if takes_new seed greatest_number then length (put at piece (take len bytes)) else length (take len bytes))
    longs = length-take-le long mixed fits ∙ chosen_by ∙ either_length (takes_new seed greatest_number) (max len (at + length piece)) len _ _ (sym size) (sym (length-take-le len bytes within))

    below : long ≤ max len (at + length piece)
    below = subst (λ (k : ℕ). k ≤ max len (at + length piece)) (sym chosen_by) (either_within (takes_new seed greatest_number) (max len (at + length piece)) len (max len (at + length piece)) (omega arith) (omega arith))

    from_new : (i : ℕ) → i < length (take long mixed) → takes_new seed i ≡ true → get_or (take long mixed) i 0 ≡ get_or (put at piece (take len bytes)) i 0
    from_new i lt t =
        get_front long mixed i lt ∙ f.other i (λ e. clash t e)
        ∙ sym (get_or-take (max len (at + length piece)) written i 0 (omega (arith, lt, length-take long mixed, below)))
        ∙ ap (λ (xs : List ℕ). get_or xs i 0) file

    from_old : (i : ℕ) → i < length (take long mixed) → takes_new seed i ≡ false → get_or (take long mixed) i 0 ≡ get_or (take len bytes) i 0
    from_old i lt t = get_front long mixed i lt ∙ elim (cases_lt i at) [
      | inl l ↦ f.below i l ∙ ap (λ (xs : List ℕ). get_or xs i 0) w ∙ put_front at piece bytes i (omega (arith, before, within)) l ∙ sym (get_or-take len bytes i 0 (omega (arith, l, before)))
      | inr ge ↦ elim (cases_lt i (at + length piece)) [
        | inl l ↦ f.filled i t (omega (arith, ge)) l ∙ ap (λ (xs : List ℕ). get_or xs (i - at) 0) o ∙ covered_old at len count piece bytes before c i (omega (arith, ge)) l
        | inr past ↦
            f.past i (omega (arith, past)) ∙ ap (λ (xs : List ℕ). get_or xs i 0) w ∙ put_rest at piece bytes i (omega (arith, before, within)) (omega (arith, past))
            ∙ sym (get_or-take len bytes i 0 (omega (arith, past, lt, length-take long mixed, below)))
      ]
    ]

-- ---- a cut that fails

pub cut_image : (seed to len long : ℕ) (bytes mixed : List ℕ) → to ≤ len → len ≤ length bytes → IsFilled seed true to len [] bytes mixed → long ≡ (if takes_new seed greatest_number then to else len)
    → take long mixed ≡ image_of seed (take len bytes) (take to (take len bytes))
cut_image seed to len long bytes mixed before within f chosen_by =
    image_by seed (take len bytes) (take to (take len bytes)) (take long mixed) longs from_new from_old
  where
    below : long ≤ len
    below = subst (λ (k : ℕ). k ≤ len) (sym chosen_by) (either_within (takes_new seed greatest_number) to len len before (omega arith))

    longs : length (take long mixed) ≡ (if takes_new seed greatest_number then length (take to (take len bytes)) else length (take len bytes))
    longs = length-take-le long mixed (omega (arith, below, within, f.long)) ∙ chosen_by
        ∙ either_length (takes_new seed greatest_number) to len _ _ (sym (length-take-le to (take len bytes) (omega (arith, before, length-take-le len bytes within)))) (sym (length-take-le len bytes within))

    from_new : (i : ℕ) → i < length (take long mixed) → takes_new seed i ≡ true → get_or (take long mixed) i 0 ≡ get_or (take to (take len bytes)) i 0
    from_new i lt t = get_front long mixed i lt ∙ elim (cases_lt i to) [
      | inl l ↦ f.below i l ∙ sym (get_or-take len bytes i 0 (omega (arith, l, before))) ∙ sym (get_or-take to (take len bytes) i 0 l)
      | inr ge ↦ f.filled i t (omega (arith, ge)) (omega (arith, lt, length-take long mixed, below)) ∙ sym (get_or_past (take to (take len bytes)) i 0 (omega (arith, ge, length-take to (take len bytes))))
    ]

    from_old : (i : ℕ) → i < length (take long mixed) → takes_new seed i ≡ false → get_or (take long mixed) i 0 ≡ get_or (take len bytes) i 0
    from_old i lt t = get_front long mixed i lt ∙ f.other i (λ e. clash e t) ∙ sym (get_or-take len bytes i 0 (omega (arith, lt, length-take long mixed, below)))

-- ---- what a stop or a failed sync leaves

pub left_image : (seed : ℕ) (b : Buffer) (es : List Entry) → image_of seed (file_of (back b (reverse es))) (take b.len b.bytes) ≡ image_left seed (told_by b es)
unfolding told_by
left_image seed b es =
    ap (λ (old : List ℕ). image_of seed old (take b.len b.bytes)) (sym (synced_back b (reverse es)))
    ∙ ap (λ (new : List ℕ). image_of seed (last_synced (told_back b (reverse es)).now) new) (sym (now_told b es))

pub left_alike : (seed len : ℕ) (bytes bytes2 covered covered2 : List ℕ) (es fs : List Entry) → bytes2 ≡ bytes → covered2 ≡ covered → fs ≡ es
    → image_of seed (file_of (back (record { bytes = bytes2; len = len; covered = covered2 }) (reverse fs))) (take len bytes2) ≡ image_left seed (told_by (record { bytes = bytes; len = len; covered = covered }) es)
left_alike seed len bytes bytes2 covered covered2 es fs e f g = left_image seed (record { bytes = bytes2; len = len; covered = covered2 }) fs ∙ ap (image_left seed) (told_alike bytes bytes2 covered covered2 len es fs e f g)
