-- What a reader keeps.
use Rattle.std.proofs.Common.{◌≡◌, ◌≢◌, ℕ, ◌+◌, ◌-◌, ◌<◌, ◌≤◌, None, Result, Ok, Err, List, [], ◌∷◌, ◌++◌, length, length-append, take, drop, take-append-drop, length-drop, length-take-le, append-nil, append_assoc, subst, sym, ap, ap₂, ◌∙◌, arith}
use Rattle.std.specs.Prelude.{OnOk, OnErr}
use Rattle.std.proofs.lemmas.List.{drop-append-le, drop-drop, take-append-le}
use Rattle.http_in.specs.EndLaws.{passes_none}
use Rattle.http_in.specs.Inside.{IsPassed, IsQuiet, IsShort, Keeps}
use Rattle.http_in.specs.Messages.{asked, most_message}
use Rattle.http_in.specs.SizeLaws.{long_enough}
use Rattle.http_in.proofs.Quiet.{quiet_less, quiet_none, quiet_byte}

pub taken_is : (bytes : List ℕ) (at n : ℕ) → n ≤ length (drop at bytes) → length (take n (drop (at + n - n) bytes)) ≡ n
taken_is bytes at n within =
    let same : at + n - n ≡ at = omega arith in
    ap (λ k. length (take n (drop k bytes))) same ∙ length-take-le n (drop at bytes) within

pub cut_is : (bytes : List ℕ) (at n : ℕ) → drop at bytes ≡ take n (drop (at + n - n) bytes) ++ drop (at + n) bytes
cut_is bytes at n =
    let same : at ≡ at + n - n = omega arith in
    sym (take-append-drop n (drop at bytes)) ∙ ap₂ (λ (a b : List ℕ). a ++ b) (ap (λ k. take n (drop k bytes)) same) (drop-drop' at n bytes)
  where
    drop-drop' : (a b : ℕ) (bytes : List ℕ) → drop b (drop a bytes) ≡ drop (a + b) bytes
    drop-drop' a b bytes = drop-drop b a bytes

-- ---- what a reader keeps

short_more : (rest more : List ℕ) (wanted : ℕ) → IsShort wanted rest → IsShort wanted (rest ++ more)
short_more rest more wanted short later less =
    let same = append_assoc rest more later in
    ap asked same ∙ short (more ++ later) (subst (λ (l : List ℕ). length l < wanted) same less)

pub rest_moved : (bytes piece : List ℕ) (last to : ℕ) → last ≤ to → to ≤ length bytes → drop last (drop (to - last) bytes ++ piece) ≡ drop to bytes ++ piece
rest_moved bytes piece last to ordered within =
    let front : to - last + last ≡ to = omega (arith, ordered) in
    drop-append-le last (drop (to - last) bytes) piece (omega (arith, within, ordered, length-drop (to - last) bytes))
    ∙ ap (λ (l : List ℕ). l ++ piece) (drop-drop last (to - last) bytes ∙ ap (λ n. drop n bytes) front)

pub keeps_next : (bytes : List ℕ) (last to clean wanted quiet room n : ℕ) → Keeps bytes last to clean wanted quiet room → n ≤ length (drop to bytes) → n ≤ most_message → Keeps bytes n (to + n) 0 0 0 room
keeps_next bytes last to clean wanted quiet room n kept within small = record {
  ordered = omega arith;
  within = omega (arith, within, length-drop to bytes, kept.within);
  small = small;
  seen = omega arith;
  most = omega arith;
  passed = passes_none;
  short = λ more less. absurd (omega (arith, less));
  still = quiet_less (drop (to + n) bytes) 0 (0 - (to + n)) (quiet_none (drop (to + n) bytes)) (omega arith);
  front = λ less. absurd (omega (arith, less));
  fits = omega arith;
  left = λ less. absurd (omega (arith, less));
}

pub keeps_none : (room : ℕ) → Keeps [] 0 0 0 0 0 room
keeps_none room = record {
  ordered = omega arith;
  within = omega arith;
  small = omega arith;
  seen = omega arith;
  most = omega arith;
  passed = passes_none;
  short = λ more less. absurd (omega (arith, less));
  still = quiet_none [];
  front = λ less. absurd (omega (arith, less));
  fits = omega arith;
  left = λ less. absurd (omega (arith, less));
}

-- with one byte more
pub keeps_byte : (bytes : List ℕ) (last to clean wanted quiet room b : ℕ) → Keeps bytes last to clean wanted quiet room → length bytes < quiet → b ≢ 10 → Keeps (bytes ++ b ∷ []) last to clean wanted quiet room
keeps_byte bytes last to clean wanted quiet room b kept room_left other =
    let rest : drop to (bytes ++ b ∷ []) ≡ drop to bytes ++ b ∷ [] = drop-append-le to bytes (b ∷ []) kept.within in
    let size = length-append bytes (b ∷ []) in record {
      ordered = kept.ordered;
      within = omega (arith, kept.within, size);
      small = kept.small;
      seen = omega (arith, kept.seen, ap length rest, length-append (drop to bytes) (b ∷ []));
      most = kept.most;
      passed = subst IsPassed (sym (ap (take clean) rest ∙ take-append-le clean (drop to bytes) (b ∷ []) kept.seen)) kept.passed;
      short = subst (IsShort wanted) (sym rest) (short_more (drop to bytes) (b ∷ []) wanted kept.short);
      still = subst (IsQuiet (quiet - to)) (sym rest) (quiet_byte (drop to bytes) (quiet - to) b kept.still other);
      front = kept.front;
      fits = kept.fits;
      left = λ some. omega (arith, room_left, size);
    }

-- without the bytes before the last message, and with a piece
pub keeps_piece : (bytes piece : List ℕ) (last to clean wanted quiet room now : ℕ) → Keeps bytes last to clean wanted quiet room → Keeps (drop (to - last) bytes ++ piece) last last clean wanted 0 now
keeps_piece bytes piece last to clean wanted quiet room now kept =
    let rest : drop last (drop (to - last) bytes ++ piece) ≡ drop to bytes ++ piece = rest_moved bytes piece last to kept.ordered kept.within in
    let size = length-append (drop (to - last) bytes) piece in record {
      ordered = omega arith;
      within = omega (arith, kept.within, kept.ordered, size, length-drop (to - last) bytes);
      small = kept.small;
      seen = omega (arith, kept.seen, ap length rest, length-append (drop to bytes) piece);
      most = kept.most;
      passed = subst IsPassed (sym (ap (take clean) rest ∙ take-append-le clean (drop to bytes) piece kept.seen)) kept.passed;
      short = subst (IsShort wanted) (sym rest) (short_more (drop to bytes) piece wanted kept.short);
      still = quiet_less (drop last (drop (to - last) bytes ++ piece)) 0 (0 - last) (quiet_none (drop last (drop (to - last) bytes ++ piece))) (omega arith);
      front = λ less. absurd (omega (arith, less));
      fits = omega arith;
      left = λ less. absurd (omega (arith, less));
    }

-- the same where no piece came
pub keeps_moved : (bytes : List ℕ) (last to clean wanted quiet room now : ℕ) → Keeps bytes last to clean wanted quiet room → Keeps (drop (to - last) bytes) last last clean wanted 0 now
keeps_moved bytes last to clean wanted quiet room now kept =
    subst (λ (b : List ℕ). Keeps b last last clean wanted 0 now) (append-nil (drop (to - last) bytes)) (keeps_piece bytes [] last to clean wanted quiet room now kept)

-- a piece is there, or memory ran out
pub keeps_either : {E : Type 0} (r : Result (Unit {0}) E) (bytes piece new : List ℕ) (last to clean wanted quiet room now : ℕ) → Keeps bytes last to clean wanted quiet room → OnOk r (new ≡ drop (to - last) bytes ++ piece) → OnErr r (new ≡ drop (to - last) bytes) → Keeps new last last clean wanted 0 now
keeps_either (Ok x) bytes piece new last to clean wanted quiet room now kept ok err =
    subst (λ (b : List ℕ). Keeps b last last clean wanted 0 now) (sym ok) (keeps_piece bytes piece last to clean wanted quiet room now kept)
keeps_either (Err e) bytes piece new last to clean wanted quiet room now kept ok err =
    subst (λ (b : List ℕ). Keeps b last last clean wanted 0 now) (sym err) (keeps_moved bytes last to clean wanted quiet room now kept)

pub rest_fed : {E : Type 0} (r : Result (Unit {0}) E) (bytes piece new : List ℕ) (last to : ℕ) → last ≤ to → to ≤ length bytes → OnOk r (new ≡ drop (to - last) bytes ++ piece) → OnOk r (drop last new ≡ drop to bytes ++ piece)
rest_fed (Ok x) bytes piece new last to ordered within ok = ap (drop last) ok ∙ rest_moved bytes piece last to ordered within
rest_fed (Err e) bytes piece new last to ordered within ok = tt

-- ---- how much is kept

pub most_byte : (bytes : List ℕ) (last to b size : ℕ) → to ≤ last → to ≤ length bytes → 0 < size → asked (drop to bytes) ≡ None → last ≤ to → length (bytes ++ b ∷ []) < length (take last (drop (to - last) (bytes ++ b ∷ []))) + most_message + size
most_byte bytes last to b size front within some none ordered =
    let new = bytes ++ b ∷ [] in
    let long = length-append bytes (b ∷ []) in
    let taken : length (take last (drop (to - last) new)) ≡ last = length-take-le last (drop (to - last) new) (omega (arith, front, ordered, within, long, length-drop (to - last) new)) in
    omega (arith, front, ordered, within, some, long, taken, long_enough (drop to bytes) none, length-drop to bytes)
