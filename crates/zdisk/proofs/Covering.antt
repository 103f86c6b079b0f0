-- A call more in the record of a file, which covered a piece of the buffer or nothing.
use Rattle.std.proofs.Common.{◌≡◌, ℕ, ◌+◌, ◌-◌, ◌<◌, ◌≤◌, Bool, false, List, [], ◌∷◌, ◌++◌, length, min, ◌*◌, take, drop, reverse, refl, sym, ap, subst, ◌∙◌, append_assoc, arith}
use Rattle.std.proofs.lemmas.List.{ext_get_or, get_or-take, get_or-drop, length-append, length-take, length-take-le, length-drop, take_at, drop_at, reverse-append}
use Rattle.std.proofs.Math.Nat.{mul-le-mul_left, add-mul}
use Rattle.zdisk.specs.Calls.{put}
use Rattle.zdisk.specs.Disk.{content}
use Rattle.zdisk.specs.Effects.{more}
use Rattle.zdisk.specs.Filling.{IsFilled}
use Rattle.zdisk.specs.Recorded.{Buffer, file_of, last_of, next, told_by, undone}
use Rattle.zdisk.specs.Room.{room_for}
use Rattle.zdisk.specs.Undoing.{FitsBack, FitsWrite, back}
use Rattle.zdisk.specs.declared.record.Entry.{Entry}
use Rattle.zdisk.specs.declared.record.Entry.TheVariants as entries
use Rattle.zdisk.proofs.Buffers.{buffers_alike, last_joined, length_front, rest_joined, three_parts, undone_write}
use Rattle.zdisk.proofs.Telling.{now_told, told_more}

-- ---- what is told

pub told_write : (b c : Buffer) (es fs : List Entry) (at written covered len : ℕ) (bytes : List ℕ) → undone (entries.Write at written covered len) c ≡ b → fs ≡ es ++ entries.Write at written covered len ∷ [] → file_of c ≡ bytes → told_by c fs ≡ more bytes (told_by b es)
told_write b c es fs at written covered len bytes u n file = told_more b c es fs (entries.Write at written covered len) u n ∙ ap (λ (x : List ℕ). more x (told_by b es)) file

pub told_cut : (b c : Buffer) (es fs : List Entry) (len : ℕ) (bytes : List ℕ) → undone (entries.Cut len) c ≡ b → fs ≡ es ++ entries.Cut len ∷ [] → file_of c ≡ bytes → told_by c fs ≡ more bytes (told_by b es)
told_cut b c es fs len bytes u n file = told_more b c es fs (entries.Cut len) u n ∙ ap (λ (x : List ℕ). more x (told_by b es)) file

pub told_kept : (b : Buffer) (es fs : List Entry) → fs ≡ es ++ entries.Failed ∷ [] → told_by b fs ≡ more (content (told_by b es)) (told_by b es)
told_kept b es fs n = told_more b b es fs entries.Failed refl n ∙ ap (λ (x : List ℕ). more x (told_by b es)) (sym (now_told b es))

pub told_sync : (b : Buffer) (es fs : List Entry) → fs ≡ es ++ entries.Sync ∷ [] → told_by b fs ≡ next (told_by b es) (record { now = content (told_by b es); before = [] })
told_sync b es fs n = told_more b b es fs entries.Sync refl n ∙ ap (λ (x : List ℕ). next (told_by b es) (record { now = x; before = [] })) (sym (now_told b es))

-- ---- the file lies within the buffer, now and before each call

more_back : (es fs : List Entry) (e : Entry) → fs ≡ es ++ e ∷ [] → reverse fs ≡ e ∷ reverse es
more_back es fs e n = ap reverse n ∙ reverse-append es (e ∷ [])

pub fits_write : (b c : Buffer) (es fs : List Entry) (at written covered len : ℕ) → undone (entries.Write at written covered len) c ≡ b → fs ≡ es ++ entries.Write at written covered len ∷ [] → c.len ≤ length c.bytes → FitsWrite c at written covered → FitsBack b (reverse es) → FitsBack c (reverse fs)
fits_write b c es fs at written covered len u n within f fits =
    let all : FitsBack c (entries.Write at written covered len ∷ reverse es) = (within, (f, subst (λ (x : Buffer). FitsBack x (reverse es)) (sym u) fits)) in
    subst (FitsBack c) (sym (more_back es fs (entries.Write at written covered len) n)) all

pub fits_cut : (b c : Buffer) (es fs : List Entry) (len : ℕ) → undone (entries.Cut len) c ≡ b → fs ≡ es ++ entries.Cut len ∷ [] → c.len ≤ length c.bytes → FitsBack b (reverse es) → FitsBack c (reverse fs)
fits_cut b c es fs len u n within fits =
    let all : FitsBack c (entries.Cut len ∷ reverse es) = (within, subst (λ (x : Buffer). FitsBack x (reverse es)) (sym u) fits) in
    subst (FitsBack c) (sym (more_back es fs (entries.Cut len) n)) all

pub fits_kept : (b : Buffer) (es fs : List Entry) → fs ≡ es ++ entries.Failed ∷ [] → b.len ≤ length b.bytes → FitsBack b (reverse es) → FitsBack b (reverse fs)
fits_kept b es fs n within fits =
    let all : FitsBack b (entries.Failed ∷ reverse es) = (within, fits) in
    subst (FitsBack b) (sym (more_back es fs entries.Failed n)) all

pub fits_sync : (b : Buffer) (es fs : List Entry) → fs ≡ es ++ entries.Sync ∷ [] → b.len ≤ length b.bytes → FitsBack b (reverse es) → FitsBack b (reverse fs)
fits_sync b es fs n within fits =
    let all : FitsBack b (entries.Sync ∷ reverse es) = (within, fits) in
    subst (FitsBack b) (sym (more_back es fs entries.Sync n)) all

-- the buffer at the last sync too
pub back_within : (b : Buffer) (es : List Entry) → FitsBack b es → (back b es).len ≤ length (back b es).bytes
back_within b [] f = f
back_within b (entries.Sync ∷ es) f = f.0
back_within b (entries.Write at written covered len ∷ es) f = back_within (undone (entries.Write at written covered len) b) es f.1.1
back_within b (entries.Cut len ∷ es) f = back_within (undone (entries.Cut len) b) es f.1
back_within b (entries.Failed ∷ es) f = back_within b es f.1

-- ---- what takes a covering call back

pub undone_covering : (at written count len len2 : ℕ) (bytes now covered over : List ℕ) → length over ≡ count → take at now ++ over ++ drop (at + written) now ≡ bytes → undone (entries.Write at written count len) (record { bytes = now; len = len2; covered = covered ++ over }) ≡ record { bytes = bytes; len = len; covered = covered }
undone_covering at written count len len2 bytes now covered over c whole =
    let last : last_of count (covered ++ over) ≡ over = ap (λ (k : ℕ). last_of k (covered ++ over)) (sym c) ∙ last_joined covered over in
    let rest : take (length (covered ++ over) - count) (covered ++ over) ≡ covered = ap (λ (k : ℕ). take (length (covered ++ over) - k) (covered ++ over)) (sym c) ∙ rest_joined covered over in
    buffers_alike _ _ len _ _ (ap (λ (x : List ℕ). take at now ++ x ++ drop (at + written) now) last ∙ whole) rest

pub front_same : (seed : ℕ) (new : Bool) (from to : ℕ) (piece before after : List ℕ) → IsFilled seed new from to piece before after → take from after ≡ take from before
front_same seed new from to piece before after f =
    ext_get_or 0 (take from after) (take from before) (omega (arith, length-take from after, length-take from before, f.long))
    (λ i lt. let l : i < from = omega (arith, lt, length-take from after) in get_or-take from after i 0 l ∙ f.below i l ∙ sym (get_or-take from before i 0 l))

pub rest_same : (seed : ℕ) (new : Bool) (from to : ℕ) (piece before after : List ℕ) → IsFilled seed new from to piece before after → drop to after ≡ drop to before
rest_same seed new from to piece before after f =
    ext_get_or 0 (drop to after) (drop to before) (omega (arith, length-drop to after, length-drop to before, f.long))
    (λ i lt. get_or-drop to after i 0 ∙ f.past (to + i) (omega arith) ∙ sym (get_or-drop to before i 0))

-- a write within whose place bytes changed then
pub whole_write : (seed at : ℕ) (piece old bytes written mixed : List ℕ) → at ≤ length bytes → written ≡ put at piece bytes → IsFilled seed false at (at + length piece) old written mixed
    → take at mixed ++ take (length piece) (drop at bytes) ++ drop (at + length piece) mixed ≡ bytes
whole_write seed at piece old bytes written mixed within w f =
    let over = take (length piece) (drop at bytes) in
    let front : take at mixed ≡ take at bytes =
    front_same seed false at (at + length piece) old written mixed f ∙ ap (take at) (w ∙ append_assoc (take at bytes) piece (drop (at + length piece) bytes)) ∙ take_at (take at bytes) (piece ++ drop (at + length piece) bytes) at (length-take-le at bytes within) in
    let behind : drop (at + length piece) mixed ≡ drop (at + length piece) bytes =
    rest_same seed false at (at + length piece) old written mixed f ∙ ap (drop (at + length piece)) w ∙ drop_at (take at bytes ++ piece) (drop (at + length piece) bytes) (at + length piece) (length_front at piece bytes within) in
    ap (λ (x : List ℕ). x ++ over ++ drop (at + length piece) mixed) front ∙ ap (λ (x : List ℕ). take at bytes ++ over ++ x) behind ∙ three_parts at (length piece) bytes

-- a piece of the buffer within which bytes changed
pub whole_cover : (seed : ℕ) (new : Bool) (at count end : ℕ) (piece bytes mixed : List ℕ) → end ≡ at + count → IsFilled seed new at end piece bytes mixed → take at mixed ++ take count (drop at bytes) ++ drop (at + count) mixed ≡ bytes
whole_cover seed new at count end piece bytes mixed e f =
    ap (λ (x : List ℕ). x ++ take count (drop at bytes) ++ drop (at + count) mixed) (front_same seed new at end piece bytes mixed f)
    ∙ ap (λ (x : List ℕ). take at bytes ++ take count (drop at bytes) ++ x) (ap (λ (k : ℕ). drop k mixed) (sym e) ∙ rest_same seed new at end piece bytes mixed f ∙ ap (λ (k : ℕ). drop k bytes) e)
    ∙ three_parts at count bytes

-- ---- the room that is left

pub room_none : (n : ℕ) → room_for 0 n ≡ 0
unfolding room_for
room_none n = omega arith

pub room_is : (f n : ℕ) → room_for f n ≡ f * n
unfolding room_for
room_is f n = refl

pub room_less : (f m n : ℕ) → n ≤ m → room_for f n ≤ room_for f m
unfolding room_for
room_less f m n le = mul-le-mul_left f le

one_more_row : (g n : ℕ) → (g + 1) * n ≡ g * n + n
one_more_row g n = add-mul g 1 n ∙ omega arith

-- one call that fails may cover a buffer
pub room_one : (f g m n : ℕ) → g + 1 ≡ f → n ≤ m → room_for g n + m ≤ room_for f m
unfolding room_for
room_one f g m n e le =
    let all : g * m + m ≡ f * m = sym (one_more_row g m) ∙ ap (λ (k : ℕ). k * m) e in
    let less : g * n ≤ g * m = mul-le-mul_left g le in
    omega (arith, all, less)

-- ---- a write, with what the writer says of the buffer's parts

pub length_put : (at : ℕ) (piece bytes : List ℕ) → at ≤ length bytes → length (put at piece bytes) ≡ at + length piece + (length bytes - (at + length piece))
length_put at piece bytes within =
    length-append (take at bytes ++ piece) (drop (at + length piece) bytes)
    ∙ omega (arith, length_front at piece bytes within, length-drop (at + length piece) bytes)

pub undone_wrote : (at over len len2 : ℕ) (piece bytes bytes2 covered covered2 : List ℕ) → at ≤ length bytes → bytes2 ≡ put at piece bytes → covered2 ≡ covered ++ take (length piece) (drop at bytes) → over ≡ length (take (length piece) (drop at bytes))
    → undone (entries.Write at (length piece) over len) (record { bytes = bytes2; len = len2; covered = covered2 }) ≡ record { bytes = bytes; len = len; covered = covered }
undone_wrote at over len len2 piece bytes bytes2 covered covered2 within e f o =
    ap (λ (k : ℕ). undone (entries.Write at (length piece) k len) (record { bytes = bytes2; len = len2; covered = covered2 })) o
    ∙ ap (undone (entries.Write at (length piece) (length (take (length piece) (drop at bytes))) len)) (buffers_alike _ _ len2 _ _ e f)
    ∙ undone_write at len len2 piece bytes covered within

pub undone_mixed : (seed at over len len2 : ℕ) (piece old bytes written mixed covered covered2 : List ℕ) → at ≤ length bytes → written ≡ put at piece bytes → covered2 ≡ covered ++ take (length piece) (drop at bytes) → over ≡ length (take (length piece) (drop at bytes))
    → IsFilled seed false at (at + length piece) old written mixed
    → undone (entries.Write at (length piece) over len) (record { bytes = mixed; len = len2; covered = covered2 }) ≡ record { bytes = bytes; len = len; covered = covered }
undone_mixed seed at over len len2 piece old bytes written mixed covered covered2 within w f o fill =
    ap (λ (x : List ℕ). undone (entries.Write at (length piece) over len) (record { bytes = mixed; len = len2; covered = x })) f
    ∙ undone_covering at (length piece) over len len2 bytes mixed covered (take (length piece) (drop at bytes)) (sym o) (whole_write seed at piece old bytes written mixed within w fill)

pub fits_piece : (at over len2 : ℕ) (piece bytes bytes2 covered covered2 : List ℕ) → at ≤ length bytes → length bytes2 ≡ length (put at piece bytes) → covered2 ≡ covered ++ take (length piece) (drop at bytes) → over ≡ length (take (length piece) (drop at bytes))
    → FitsWrite (record { bytes = bytes2; len = len2; covered = covered2 }) at (length piece) over
fits_piece at over len2 piece bytes bytes2 covered covered2 within long f o =
    let size : length bytes2 ≡ at + length piece + (length bytes - (at + length piece)) = long ∙ length_put at piece bytes within in
    let few : over ≡ min (length piece) (length bytes - at) = o ∙ length-take (length piece) (drop at bytes) ∙ ap (min (length piece)) (length-drop at bytes) in (
      (omega (arith, size, few, within), omega (arith, ap length f, length-append covered (take (length piece) (drop at bytes)), o)),
      (omega (arith, few), λ lt. omega (arith, size, few, lt)),
    )

-- a piece of the buffer was covered, within which bytes changed then
pub undone_cover : (seed : ℕ) (new : Bool) (at count end len len2 : ℕ) (piece bytes mixed covered covered2 : List ℕ) → at + count ≤ length bytes → end ≡ at + count → covered2 ≡ covered ++ take count (drop at bytes) → IsFilled seed new at end piece bytes mixed
    → undone (entries.Write at count count len) (record { bytes = mixed; len = len2; covered = covered2 }) ≡ record { bytes = bytes; len = len; covered = covered }
undone_cover seed new at count end len len2 piece bytes mixed covered covered2 within e f fill =
    ap (λ (x : List ℕ). undone (entries.Write at count count len) (record { bytes = mixed; len = len2; covered = x })) f
    ∙ undone_covering at count count len len2 bytes mixed covered (take count (drop at bytes)) (omega (arith, length-take count (drop at bytes), length-drop at bytes, within)) (whole_cover seed new at count end piece bytes mixed e fill)

pub fits_cover : (at count len2 : ℕ) (bytes mixed covered covered2 : List ℕ) → at + count ≤ length bytes → length mixed ≡ length bytes → covered2 ≡ covered ++ take count (drop at bytes) → FitsWrite (record { bytes = mixed; len = len2; covered = covered2 }) at count count
fits_cover at count len2 bytes mixed covered covered2 within long f = (
  (omega (arith, long, within), omega (arith, ap length f, length-append covered (take count (drop at bytes)), length-take count (drop at bytes), length-drop at bytes, within)),
  (omega arith, λ lt. absurd (omega (arith, lt))),
)

-- ---- the same parts in other room

pub told_alike : (bytes bytes2 covered covered2 : List ℕ) (len : ℕ) (es fs : List Entry) → bytes2 ≡ bytes → covered2 ≡ covered → fs ≡ es → told_by (record { bytes = bytes2; len = len; covered = covered2 }) fs ≡ told_by (record { bytes = bytes; len = len; covered = covered }) es
told_alike bytes bytes2 covered covered2 len es fs e f g = ap (λ (b : Buffer). told_by b fs) (buffers_alike bytes2 bytes len covered2 covered e f) ∙ ap (told_by (record { bytes = bytes; len = len; covered = covered })) g

pub fits_alike : (bytes bytes2 covered covered2 : List ℕ) (len : ℕ) (es : List Entry) → bytes2 ≡ bytes → covered2 ≡ covered → FitsBack (record { bytes = bytes; len = len; covered = covered }) (reverse es) → FitsBack (record { bytes = bytes2; len = len; covered = covered2 }) (reverse es)
fits_alike bytes bytes2 covered covered2 len es e f fits = subst (λ (b : Buffer). FitsBack b (reverse es)) (sym (buffers_alike bytes2 bytes len covered2 covered e f)) fits

-- a file with no call in its record
pub fits_empty : (bytes covered : List ℕ) (len : ℕ) (es : List Entry) → es ≡ [] → len ≤ length bytes → FitsBack (record { bytes = bytes; len = len; covered = covered }) (reverse es)
fits_empty bytes covered len es e le = subst (λ (fs : List Entry). FitsBack (record { bytes = bytes; len = len; covered = covered }) (reverse fs)) (sym e) le

-- ---- pieces of what was covered

pub last_piece : (from m : ℕ) (now covered covered2 over : List ℕ) → now ≡ covered2 → covered2 ≡ covered ++ over → from ≡ length covered → take (from + m - from) (drop from now) ≡ take m over
last_piece from m now covered covered2 over n f l =
    let few : from + m - from ≡ m = omega arith in
    ap (λ (k : ℕ). take k (drop from now)) few ∙ ap (λ (xs : List ℕ). take m (drop from xs)) (n ∙ f) ∙ ap (take m) (drop_at covered over from (sym l))

pub first_piece : (kept : ℕ) (now covered covered2 over : List ℕ) → now ≡ covered2 → covered2 ≡ covered ++ over → kept ≡ length covered → take kept now ≡ covered
first_piece kept now covered covered2 over n f l = ap (take kept) (n ∙ f) ∙ take_at covered over kept (sym l)
