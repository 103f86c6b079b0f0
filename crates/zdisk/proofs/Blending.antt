-- One call more that is taken back, where the seed takes the old content.
use Rattle.std.proofs.Common.{◌≡◌, ℕ, zero, suc, ◌+◌, ◌-◌, ◌<◌, ◌≤◌, Bool, true, false, List, [], ◌∷◌, ◌++◌, length, get_or, take, drop, reverse, refl, sym, ap, subst, ◌∙◌, arith, inl, inr}
use Rattle.std.specs.Prelude.{slice_index_or}
use Rattle.std.proofs.lemmas.List.{length-append, length-take-le, length-drop, take-take, take_all, get_or-take, get_or-drop, get_or_append_left, get_or-append-add, reverse-append}
use Rattle.std.proofs.lemmas.Bool.{cases_lt}
use Rattle.zdisk.specs.Filling.{IsFilled}
use Rattle.zdisk.specs.Recorded.{Buffer, last_of, undone}
use Rattle.zdisk.specs.Undoing.{Blends, FitsBack, FitsEntry, FitsWrite, Going, IsTakenBack, back}
use Rattle.zdisk.specs.declared.record.Entry.{Entry}
use Rattle.zdisk.specs.declared.record.Entry.TheVariants as entries

-- ---- a write is taken back

module _ (seed at written covered len : ℕ) (newest now next : List ℕ) (b : Buffer) (bl : Blends seed newest now b) (f : FitsWrite b at written covered) (fill : IsFilled seed false at (at + covered) (last_of covered b.covered) now next) where
  abbrev front : List ℕ
  front = take at b.bytes ++ last_of covered b.covered

  long_front : length front ≡ at + covered
  long_front = length-append (take at b.bytes) (last_of covered b.covered) ∙ omega (arith, length-take-le at b.bytes (omega (arith, f.0.0)), length-drop (length b.covered - covered) b.covered, f.0.1)

  long_whole : length (front ++ drop (at + written) b.bytes) ≡ at + covered + (length b.bytes - (at + written))
  long_whole = length-append front (drop (at + written) b.bytes) ∙ omega (arith, long_front, length-drop (at + written) b.bytes)

  in_front : (i : ℕ) → i < at → get_or (front ++ drop (at + written) b.bytes) i 0 ≡ get_or b.bytes i 0
  in_front i lt =
      get_or_append_left front (drop (at + written) b.bytes) 0 i (omega (arith, long_front, lt))
      ∙ get_or_append_left (take at b.bytes) (last_of covered b.covered) 0 i (omega (arith, lt, length-take-le at b.bytes (omega (arith, f.0.0))))
      ∙ get_or-take at b.bytes i 0 lt

  in_piece : (i : ℕ) → at ≤ i → i < at + covered → get_or (front ++ drop (at + written) b.bytes) i 0 ≡ get_or (last_of covered b.covered) (i - at) 0
  in_piece i ge lt =
      let n : length (take at b.bytes) ≡ at = length-take-le at b.bytes (omega (arith, f.0.0)) in
      get_or_append_left front (drop (at + written) b.bytes) 0 i (omega (arith, long_front, lt))
      ∙ ap (λ (k : ℕ). get_or front k 0) (omega (arith, n, ge))
      ∙ get_or-append-add (take at b.bytes) (last_of covered b.covered) (i - at) 0

  behind : (i : ℕ) → at + covered ≤ i → i < length (front ++ drop (at + written) b.bytes) → get_or (front ++ drop (at + written) b.bytes) i 0 ≡ get_or b.bytes i 0
  behind i ge lt = elim (cases_lt covered written) [
    | inr le ↦
        let same : covered ≡ written = omega (arith, le, f.1.0) in
        ap (λ (k : ℕ). get_or (front ++ drop (at + written) b.bytes) k 0) (omega (arith, long_front, ge))
        ∙ get_or-append-add front (drop (at + written) b.bytes) (i - (at + covered)) 0
        ∙ get_or-drop (at + written) b.bytes (i - (at + covered)) 0
        ∙ ap (λ (k : ℕ). get_or b.bytes k 0) (omega (arith, same, ge))
    | inl few ↦ absurd (omega (arith, f.1.1 few, ge, lt, long_whole))
  ]

  pub blends_write : Blends seed newest next (undone (entries.Write at written covered len) b)
  blends_write = record {
    long = fill.long ∙ bl.long;
    short = omega (arith, long_whole, f.0.0, f.1.0, bl.short, fill.long);
    new = λ i t. fill.other i (λ e. absurd (clash t e)) ∙ bl.new i t;
    old = λ i t lt. elim (cases_lt i at) [
      | inl l ↦ fill.below i l ∙ bl.old i t (omega (arith, l, f.0.0)) ∙ sym (in_front i l)
      | inr ge ↦ elim (cases_lt i (at + covered)) [
        | inl l ↦ fill.filled i t (omega (arith, ge)) l ∙ sym (in_piece i (omega (arith, ge)) l)
        | inr past ↦ fill.past i (omega (arith, past)) ∙ bl.old i t (omega (arith, lt, long_whole, f.0.0, f.1.0)) ∙ sym (behind i (omega (arith, past)) lt)
      ]
    ];
  }
    where
      clash : {x : Bool} → x ≡ true → x ≡ false → ⊥
      clash t e = cc

-- ---- the last of so many calls

pub take_last : (n : ℕ) (es : List Entry) (d : Entry) → n < length es → take (suc n) es ≡ take n es ++ slice_index_or es n d ∷ []
take_last n [] d lt = absurd (omega (arith, lt))
take_last zero (e ∷ es) d lt = refl
take_last (suc n) (e ∷ es) d lt = ap (λ (xs : List Entry). e ∷ xs) (take_last n es d (omega (arith, lt)))

pub last_first : (n : ℕ) (es : List Entry) (d : Entry) → n < length es → reverse (take (suc n) es) ≡ slice_index_or es n d ∷ reverse (take n es)
last_first n es d lt = ap reverse (take_last n es d lt) ∙ reverse-append (take n es) (slice_index_or es n d ∷ [])

-- ---- one step of the way back

pub going_first : (seed : ℕ) (first : Buffer) (calls : List Entry) → FitsBack first (reverse calls) → Going seed first calls (length calls) (length first.covered) first.len first.bytes
going_first seed first calls fits =
    let all : take (length calls) calls ≡ calls = take_all (length calls) calls (omega arith) in
    record {
      buffer = first;
      within = omega arith;
      counted = omega arith;
      fits = subst (λ (es : List Entry). FitsBack first (reverse es)) (sym all) fits;
      same = ap (λ (es : List Entry). back first (reverse es)) (sym all);
      kept = sym (take_all (length first.covered) first.covered (omega arith));
      long = refl;
      blends = record { long = refl; short = omega arith; new = λ i t. refl; old = λ i t lt. refl };
    }

-- what is asked before a call is taken back
entry_fits : (e : Entry) (es : List Entry) (b : Buffer) → FitsBack b (e ∷ es) → FitsEntry e (length b.bytes) (length b.covered)
entry_fits (entries.Write at written covered len) es b f = (f.1.0.0.0, f.1.0.0.1)
entry_fits (entries.Cut len) es b f = tt
entry_fits entries.Sync es b f = tt
entry_fits entries.Failed es b f = tt

longer_fits : (e : Entry) (n m k : ℕ) → n ≤ m → FitsEntry e n k → FitsEntry e m k
longer_fits (entries.Write at written covered len) n m k le f = (omega (arith, le, f.0), f.1)
longer_fits (entries.Cut len) n m k le f = tt
longer_fits entries.Sync n m k le f = tt
longer_fits entries.Failed n m k le f = tt

pub going_fits : (seed : ℕ) (first : Buffer) (calls : List Entry) (n rest was : ℕ) (now : List ℕ) (e d : Entry) → Going seed first calls (suc n) rest was now → e ≡ slice_index_or calls n d → FitsEntry e (length now) (length (take rest first.covered))
going_fits seed first calls n rest was now e d g is =
    let fits : FitsBack g.buffer (e ∷ reverse (take n calls)) = subst (FitsBack g.buffer) (last_first n calls d (omega (arith, g.counted)) ∙ ap (λ (x : Entry). x ∷ reverse (take n calls)) (sym is)) g.fits in
    subst (λ (xs : List ℕ). FitsEntry e (length now) (length xs)) g.kept (longer_fits e (length g.buffer.bytes) (length now) (length g.buffer.covered) g.blends.short (entry_fits e (reverse (take n calls)) g.buffer fits))

stepped : (seed : ℕ) (first : Buffer) (calls : List Entry) (n rest was rest2 was2 : ℕ) (now next : List ℕ) (e : Entry) (b : Buffer) → rest ≤ length first.covered → n ≤ length calls → FitsBack b (e ∷ reverse (take n calls))
    → back first (reverse calls) ≡ back b (e ∷ reverse (take n calls)) → b.covered ≡ take rest first.covered → b.len ≡ was → Blends seed first.bytes now b → (e ≡ entries.Sync → ⊥)
    → IsTakenBack seed e (take rest first.covered) was now next rest2 was2 → Going seed first calls n rest2 was2 next
stepped seed first calls n rest was rest2 was2 now next (entries.Write at written covered len) b within counted fits same kept long blends not t =
    let l : length (take rest first.covered) ≡ rest = length-take-le rest first.covered within in
    let fill : IsFilled seed false at (at + covered) (last_of covered b.covered) now next = subst (λ (xs : List ℕ). IsFilled seed false at (at + covered) (last_of covered xs) now next) (sym kept) t.0 in
    let r : rest2 ≡ rest - covered = t.1 ∙ ap (λ (k : ℕ). k - covered) l in
    record {
      buffer = undone (entries.Write at written covered len) b;
      within = omega (arith, r, within);
      counted = counted;
      fits = fits.1.1;
      same = same;
      kept = ap (λ (xs : List ℕ). take (length xs - covered) xs) kept ∙ ap (λ (k : ℕ). take k (take rest first.covered)) (sym t.1) ∙ take-take rest2 rest first.covered (omega (arith, r));
      long = sym t.2;
      blends = blends_write seed at written covered len first.bytes now next b blends fits.1.0 fill;
    }
stepped seed first calls n rest was rest2 was2 now next (entries.Cut len) b within counted fits same kept long blends not t =
    let r : rest2 ≡ rest = t.1 ∙ length-take-le rest first.covered within in
    record {
      buffer = undone (entries.Cut len) b;
      within = omega (arith, r, within);
      counted = counted;
      fits = fits.1;
      same = same;
      kept = kept ∙ ap (λ (k : ℕ). take k first.covered) (sym r);
      long = sym t.2;
      blends = let s : Blends seed first.bytes next b = subst (λ (xs : List ℕ). Blends seed first.bytes xs b) (sym t.0) blends in record { long = s.long; short = s.short; new = s.new; old = s.old };
    }
stepped seed first calls n rest was rest2 was2 now next entries.Sync b within counted fits same kept long blends not t = absurd (not refl)
stepped seed first calls n rest was rest2 was2 now next entries.Failed b within counted fits same kept long blends not t =
    let r : rest2 ≡ rest = t.1 ∙ length-take-le rest first.covered within in
    record {
      buffer = b;
      within = omega (arith, r, within);
      counted = counted;
      fits = fits.1;
      same = same;
      kept = kept ∙ ap (λ (k : ℕ). take k first.covered) (sym r);
      long = long ∙ sym t.2;
      blends = subst (λ (xs : List ℕ). Blends seed first.bytes xs b) (sym t.0) blends;
    }

pub going_on : (seed : ℕ) (first : Buffer) (calls : List Entry) (n rest was rest2 was2 : ℕ) (now next : List ℕ) (e d : Entry) → Going seed first calls (suc n) rest was now → e ≡ slice_index_or calls n d → (e ≡ entries.Sync → ⊥)
    → IsTakenBack seed e (take rest first.covered) was now next rest2 was2 → Going seed first calls n rest2 was2 next
going_on seed first calls n rest was rest2 was2 now next e d g is not t =
    let split : reverse (take (suc n) calls) ≡ e ∷ reverse (take n calls) = last_first n calls d (omega (arith, g.counted)) ∙ ap (λ (x : Entry). x ∷ reverse (take n calls)) (sym is) in
    stepped seed first calls n rest was rest2 was2 now next e g.buffer g.within (omega (arith, g.counted)) (subst (FitsBack g.buffer) split g.fits) (g.same ∙ ap (back g.buffer) split) g.kept g.long g.blends not t

-- ---- the way ends at the first call, or at a sync

pub gone : (seed : ℕ) (first : Buffer) (calls : List Entry) (n rest was : ℕ) (now : List ℕ) → Going seed first calls n rest was now → n ≡ 0 → Blends seed first.bytes now (back first (reverse calls)) × (was ≡ (back first (reverse calls)).len)
gone seed first calls n rest was now g e =
    let ends : back first (reverse calls) ≡ g.buffer = g.same ∙ ap (λ (k : ℕ). back g.buffer (reverse (take k calls))) e in
    (subst (Blends seed first.bytes now) (sym ends) g.blends, sym g.long ∙ ap (λ (b : Buffer). b.len) (sym ends))

pub gone_to_sync : (seed : ℕ) (first : Buffer) (calls : List Entry) (n rest was : ℕ) (now : List ℕ) (e d : Entry) → Going seed first calls (suc n) rest was now → e ≡ slice_index_or calls n d → e ≡ entries.Sync → Blends seed first.bytes now (back first (reverse calls)) × (was ≡ (back first (reverse calls)).len)
gone_to_sync seed first calls n rest was now e d g is sync =
    let split : reverse (take (suc n) calls) ≡ entries.Sync ∷ reverse (take n calls) = last_first n calls d (omega (arith, g.counted)) ∙ ap (λ (x : Entry). x ∷ reverse (take n calls)) (sym is ∙ sync) in
    let ends : back first (reverse calls) ≡ g.buffer = g.same ∙ ap (back g.buffer) split in
    (subst (Blends seed first.bytes now) (sym ends) g.blends, sym g.long ∙ ap (λ (b : Buffer). b.len) (sym ends))
