-- What a disk in memory tells after one call more.
use Rattle.std.proofs.Common.{◌≡◌, ℕ, suc, ◌+◌, ◌-◌, ◌≤◌, max, List, [], ◌∷◌, ◌++◌, length, take, drop, reverse, refl, sym, ap, ◌∙◌, arith}
use Rattle.std.proofs.lemmas.List.{reverse-append, take-take, drop-take, length-take-le, length-append, length-drop, length-reverse}
use Rattle.zdisk.specs.Disk.{bytes_at, content, synced}
use Rattle.zdisk.specs.Calls.{put}
use Rattle.zdisk.specs.Recorded.{Buffer, file_of, undone, held_after, next, told_back, told_by}
use Rattle.zdisk.specs.declared.record.Entry.{Entry}
use Rattle.zdisk.specs.declared.record.Entry.TheVariants as entries

now_back : (b : Buffer) (es : List Entry) → (told_back b es).now.now ≡ file_of b
now_back b [] = refl
now_back b (entries.Write at written covered len ∷ es) = refl
now_back b (entries.Cut len ∷ es) = refl
now_back b (entries.Sync ∷ es) = refl
now_back b (entries.Failed ∷ es) = refl

-- reads give the file
pub now_told : (b : Buffer) (es : List Entry) → (told_by b es).now.now ≡ file_of b
unfolding told_by
now_told b es = now_back b (reverse es)

-- a new disk
pub told_new : (bytes items covered : List ℕ) (len : ℕ) (es : List Entry) → take len items ≡ bytes → es ≡ [] → told_by (record { bytes = items; len = len; covered = covered }) es ≡ synced bytes
unfolding told_by
told_new bytes items covered len es e none = ap (told_by (record { bytes = items; len = len; covered = covered })) none ∙ ap synced e

one_more : (b c : Buffer) (es : List Entry) (e : Entry) → undone e c ≡ b → told_by c (es ++ e ∷ []) ≡ next (told_by b es) (held_after e (file_of c) (told_by b es).now)
unfolding told_by
one_more b c es e u =
    ap (told_back c) (reverse-append es (e ∷ []))
    ∙ ap (λ (x : Buffer). next (told_back x (reverse es)) (held_after e (file_of c) (told_back x (reverse es)).now)) u

-- one call more, which the entry takes back
pub told_more : (b c : Buffer) (es fs : List Entry) (e : Entry) → undone e c ≡ b → fs ≡ es ++ e ∷ [] → told_by c fs ≡ next (told_by b es) (held_after e (file_of c) (told_by b es).now)
told_more b c es fs e u n = ap (told_by c) n ∙ one_more b c es e u

-- how long the file is
pub length_told : (b : Buffer) (es : List Entry) → b.len ≤ length b.bytes → length (content (told_by b es)) ≡ b.len
length_told b es within = ap length (now_told b es) ∙ length-take-le b.len b.bytes within

-- a place within the file, as the disk tells it
pub place_within : (b : Buffer) (es : List Entry) (at : ℕ) → b.len ≤ length b.bytes → at ≤ length (content (told_by b es)) → at ≤ b.len
place_within b es at within le = omega (arith, le, length_told b es within)

-- the bytes at a place
read_told : (bytes covered : List ℕ) (len at n : ℕ) (es : List Entry) → at + n ≤ len → take n (drop at bytes) ≡ bytes_at (told_by (record { bytes = bytes; len = len; covered = covered }) es) at n
read_told bytes covered len at n es within =
    let b : Buffer = record { bytes = bytes; len = len; covered = covered } in
    let rest : at + (len - at) ≡ len = omega arith in
    sym (ap (λ (x : List ℕ). take n (drop at x)) (now_told b es)
    ∙ ap (λ (k : ℕ). take n (drop at (take k bytes))) (sym rest)
    ∙ ap (take n) (drop-take at (len - at) bytes)
    ∙ take-take n (len - at) (drop at bytes) (omega (arith, within)))

-- as a read copies them
pub read_gives : (bytes covered : List ℕ) (len at : ℕ) (es : List Entry) (buf copied view : List ℕ) → at + length buf ≤ len → view ≡ bytes → length copied ≡ length buf → copied ≡ take (at + length buf - at) (drop at view)
    → copied ≡ bytes_at (told_by (record { bytes = bytes; len = len; covered = covered }) es) at (length copied)
read_gives bytes covered len at es buf copied view within e l f =
    let n : at + length buf - at ≡ length buf = omega arith in
    f ∙ ap (λ (k : ℕ). take k (drop at view)) n ∙ ap (λ (x : List ℕ). take (length buf) (drop at x)) e
    ∙ read_told bytes covered len at (length buf) es within
    ∙ ap (bytes_at (told_by (record { bytes = bytes; len = len; covered = covered }) es) at) (sym l)

-- the file still lies within the buffer
pub written_within : (bytes bytes2 : List ℕ) (len len2 at : ℕ) (piece : List ℕ) → at ≤ len → len ≤ length bytes → bytes2 ≡ put at piece bytes → len2 ≡ max len (at + length piece) → len2 ≤ length bytes2
written_within bytes bytes2 len len2 at piece before within e l =
    let parts : length bytes2 ≡ at + length piece + (length bytes - (at + length piece)) =
    ap length e ∙ length-append (take at bytes ++ piece) (drop (at + length piece) bytes)
    ∙ omega (arith, length-append (take at bytes) piece, length-take-le at bytes (omega (arith, before, within)), length-drop (at + length piece) bytes) in
    omega (arith, parts, before, within, l)

-- ---- how many calls the record tells of

earlier_back : (b : Buffer) (es : List Entry) → length (told_back b es).earlier ≡ length es
earlier_back b [] = refl
earlier_back b (e ∷ es) = ap suc (earlier_back (undone e b) es)

-- there is one moment before each call
pub earlier_told : (b : Buffer) (es : List Entry) → length (told_by b es).earlier ≡ length es
unfolding told_by
earlier_told b es = earlier_back b (reverse es) ∙ length-reverse es
