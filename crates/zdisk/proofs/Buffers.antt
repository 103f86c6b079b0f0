-- The buffer of a disk in memory: what a write makes of it, and what takes the write back.
use Rattle.std.proofs.Common.{◌≡◌, ℕ, ◌+◌, ◌-◌, ◌≤◌, max, List, [], ◌++◌, length, take, drop, sym, ap, ◌∙◌, append_assoc, arith, inl, inr}
use Rattle.std.proofs.lemmas.List.{length-append, length-take, length-take-le, take-append-drop, take_at, drop_at, take-take, drop_all, drop-drop, drop-take, append-nil}
use Rattle.std.proofs.lemmas.Bool.{cases_lt}
use Rattle.std.proofs.Math.Seq.{take-append-add}
use Rattle.zdisk.specs.Calls.{put}
use Rattle.zdisk.specs.Recorded.{Buffer, last_of, undone}
use Rattle.zdisk.specs.declared.record.Entry.TheVariants as entries

-- the front of a written content: what stood before the piece, and the piece
pub length_front : (at : ℕ) (piece bytes : List ℕ) → at ≤ length bytes → length (take at bytes ++ piece) ≡ at + length piece
length_front at piece bytes within = length-append (take at bytes) piece ∙ ap (λ (n : ℕ). n + length piece) (length-take-le at bytes within)

-- the file reaches beyond the piece
longer_file : (at more : ℕ) (piece bytes : List ℕ) → at + length piece + more ≤ length bytes → take (at + length piece + more) (put at piece bytes) ≡ put at piece (take (at + length piece + more) bytes)
longer_file at more piece bytes within =
    let front = take at bytes ++ piece in
    let n : length front ≡ at + length piece = length_front at piece bytes (omega arith) in
    ap (λ (k : ℕ). take (k + more) (front ++ drop (at + length piece) bytes)) (sym n)
    ∙ take-append-add front (drop (at + length piece) bytes) more
    ∙ ap (λ (x : List ℕ). front ++ x) (sym (drop-take (at + length piece) more bytes))
    ∙ ap (λ (x : List ℕ). x ++ piece ++ drop (at + length piece) (take (at + length piece + more) bytes)) (sym (take-take at (at + length piece + more) bytes (omega arith)))

-- the piece reaches to the end of the file, or past it
shorter_file : (at len : ℕ) (piece bytes : List ℕ) → at ≤ len → len ≤ length bytes → len ≤ at + length piece → take (at + length piece) (put at piece bytes) ≡ put at piece (take len bytes)
shorter_file at len piece bytes before within past =
    let front = take at bytes ++ piece in
    let nothing : drop (at + length piece) (take len bytes) ≡ [] = drop_all (at + length piece) (take len bytes) (omega (arith, length-take len bytes)) in
    take_at front (drop (at + length piece) bytes) (at + length piece) (length_front at piece bytes (omega arith))
    ∙ ap (λ (x : List ℕ). x ++ piece) (sym (take-take at len bytes before))
    ∙ sym (append-nil (take at (take len bytes) ++ piece))
    ∙ ap (λ (x : List ℕ). take at (take len bytes) ++ piece ++ x) (sym nothing)

longest : (m n : ℕ) → m ≤ n → max m n ≡ n
longest m n le = omega arith

-- what a write makes of the file
pub written_file : (at len : ℕ) (piece bytes : List ℕ) → at ≤ len → len ≤ length bytes → take (max len (at + length piece)) (put at piece bytes) ≡ put at piece (take len bytes)
written_file at len piece bytes before within =
    elim (cases_lt len (at + length piece)) [
      | inl lt ↦ ap (λ (k : ℕ). take k (put at piece bytes)) (longest len (at + length piece) (omega arith)) ∙ shorter_file at len piece bytes before within (omega arith)
      | inr le ↦
          let more : at + length piece + (len - (at + length piece)) ≡ len = omega arith in
          let most : max len (at + length piece) ≡ at + length piece + (len - (at + length piece)) = omega arith in
          ap (λ (k : ℕ). take k (put at piece bytes)) most
          ∙ longer_file at (len - (at + length piece)) piece bytes (omega (arith, more))
          ∙ ap (λ (k : ℕ). put at piece (take k bytes)) more
    ]

pub last_joined : (xs ys : List ℕ) → last_of (length ys) (xs ++ ys) ≡ ys
last_joined xs ys = drop_at xs ys (length (xs ++ ys) - length ys) (omega (arith, length-append xs ys))

pub rest_joined : (xs ys : List ℕ) → take (length (xs ++ ys) - length ys) (xs ++ ys) ≡ xs
rest_joined xs ys = take_at xs ys (length (xs ++ ys) - length ys) (omega (arith, length-append xs ys))

pub three_parts : (at n : ℕ) (bytes : List ℕ) → take at bytes ++ take n (drop at bytes) ++ drop (at + n) bytes ≡ bytes
three_parts at n bytes =
    append_assoc (take at bytes) (take n (drop at bytes)) (drop (at + n) bytes)
    ∙ ap (λ (x : List ℕ). take at bytes ++ (take n (drop at bytes) ++ x)) (sym (drop-drop n at bytes))
    ∙ ap (λ (x : List ℕ). take at bytes ++ x) (take-append-drop n (drop at bytes))
    ∙ take-append-drop at bytes

pub buffers_alike : (b c : List ℕ) (len : ℕ) (x y : List ℕ) → b ≡ c → x ≡ y → ◌≡◌ {A = Buffer} (record { bytes = b; len = len; covered = x }) (record { bytes = c; len = len; covered = y })
buffers_alike b c len x y e f = cc

-- a write is taken back
pub undone_write : (at len len2 : ℕ) (piece bytes covered : List ℕ) → at ≤ length bytes
    → undone (entries.Write at (length piece) (length (take (length piece) (drop at bytes))) len) (record { bytes = put at piece bytes; len = len2; covered = covered ++ take (length piece) (drop at bytes) }) ≡ record { bytes = bytes; len = len; covered = covered }
undone_write at len len2 piece bytes covered within =
    let over = take (length piece) (drop at bytes) in
    let front : take at (put at piece bytes) ≡ take at bytes =
    ap (take at) (append_assoc (take at bytes) piece (drop (at + length piece) bytes)) ∙ take_at (take at bytes) (piece ++ drop (at + length piece) bytes) at (length-take-le at bytes within) in
    let behind : drop (at + length piece) (put at piece bytes) ≡ drop (at + length piece) bytes = drop_at (take at bytes ++ piece) (drop (at + length piece) bytes) (at + length piece) (length_front at piece bytes within) in
    let whole : take at (put at piece bytes) ++ last_of (length over) (covered ++ over) ++ drop (at + length piece) (put at piece bytes) ≡ bytes =
    ap (λ (x : List ℕ). x ++ last_of (length over) (covered ++ over) ++ drop (at + length piece) (put at piece bytes)) front
    ∙ ap (λ (x : List ℕ). take at bytes ++ x ++ drop (at + length piece) (put at piece bytes)) (last_joined covered over)
    ∙ ap (λ (x : List ℕ). take at bytes ++ over ++ x) behind
    ∙ three_parts at (length piece) bytes in
    let rest : take (length (covered ++ over) - length over) (covered ++ over) ≡ covered = rest_joined covered over in
    buffers_alike _ _ len _ _ whole rest
