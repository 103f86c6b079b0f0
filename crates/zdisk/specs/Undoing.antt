-- The contents since the last sync, taken back one call after another.
use Rattle.std.proofs.Common.{◌≡◌, ℕ, ◌+◌, ◌-◌, ◌<◌, ◌≤◌, min, true, false, List, [], ◌∷◌, length, get_or, take, drop, reverse, refl}
use Rattle.std.specs.Coded.{×_prop, →_prop, le_prop}
use Rattle.zdisk.specs.Filling.{IsFilled}
use Rattle.zdisk.specs.Recorded.{Buffer, file_of, told_back, undone}
use Rattle.zdisk.specs.Seeds.{last_synced, takes_new}
use Rattle.zdisk.specs.declared.record.Entry.{Entry}
use Rattle.zdisk.specs.declared.record.Entry.TheVariants as entries

-- the buffer at the last sync, by the calls from the newest to the oldest
abbrev pub back : Buffer → List Entry → Buffer
back b [] = b
back b (entries.Sync ∷ es) = b
back b (entries.Write at written covered len ∷ es) = back (undone (entries.Write at written covered len) b) es
back b (entries.Cut len ∷ es) = back (undone (entries.Cut len) b) es
back b (entries.Failed ∷ es) = back b es

-- What a write covered lies within the buffer and the bytes that are kept. It is less than what was written only where that
-- reached the end of the buffer.
abbrev pub FitsWrite : Buffer → ℕ → ℕ → ℕ → Type 0
FitsWrite b at written covered = ((at + covered ≤ length b.bytes) × (covered ≤ length b.covered)) × ((covered ≤ written) × (covered < written → length b.bytes ≤ at + written))

-- the file lies within the buffer, now and before each call
abbrev pub FitsBack : Buffer → List Entry → Type 0
FitsBack b [] = b.len ≤ length b.bytes
FitsBack b (entries.Write at written covered len ∷ es) = (b.len ≤ length b.bytes) × (FitsWrite b at written covered × FitsBack (undone (entries.Write at written covered len) b) es)
FitsBack b (entries.Cut len ∷ es) = (b.len ≤ length b.bytes) × FitsBack (undone (entries.Cut len) b) es
FitsBack b (entries.Sync ∷ es) = (b.len ≤ length b.bytes) × FitsBack b es
FitsBack b (entries.Failed ∷ es) = (b.len ≤ length b.bytes) × FitsBack b es

pub FitsWrite-prop : (b : Buffer) (at written covered : ℕ) → IsProp (FitsWrite b at written covered)
FitsWrite-prop b at written covered = ×_prop (×_prop le_prop le_prop) (×_prop le_prop (→_prop le_prop))

pub FitsBack-prop : (b : Buffer) (es : List Entry) → IsProp (FitsBack b es)
FitsBack-prop b [] = le_prop
FitsBack-prop b (entries.Write at written covered len ∷ es) = ×_prop le_prop (×_prop (FitsWrite-prop b at written covered) (FitsBack-prop (undone (entries.Write at written covered len) b) es))
FitsBack-prop b (entries.Cut len ∷ es) = ×_prop le_prop (FitsBack-prop (undone (entries.Cut len) b) es)
FitsBack-prop b (entries.Sync ∷ es) = ×_prop le_prop (FitsBack-prop b es)
FitsBack-prop b (entries.Failed ∷ es) = ×_prop le_prop (FitsBack-prop b es)

pub fits_len : (b : Buffer) (es : List Entry) → FitsBack b es → b.len ≤ length b.bytes
fits_len b [] f = f
fits_len b (entries.Write at written covered len ∷ es) f = f.0
fits_len b (entries.Cut len ∷ es) f = f.0
fits_len b (entries.Sync ∷ es) f = f.0
fits_len b (entries.Failed ∷ es) f = f.0

-- what was last synced is the file of that buffer
pub synced_back : (b : Buffer) (es : List Entry) → last_synced (told_back b es).now ≡ file_of (back b es)
synced_back b [] = refl
synced_back b (entries.Sync ∷ es) = refl
synced_back b (entries.Write at written covered len ∷ es) = synced_back (undone (entries.Write at written covered len) b) es
synced_back b (entries.Cut len ∷ es) = synced_back (undone (entries.Cut len) b) es
synced_back b (entries.Failed ∷ es) = synced_back b es

-- The least place at which a call since the last sync wrote, and the least length that the file had since then, from its length
-- now on and by the calls from the newest to the oldest.
abbrev pub lowest_since : ℕ → List Entry → ℕ
lowest_since n [] = n
lowest_since n (entries.Sync ∷ es) = n
lowest_since n (entries.Write at written covered len ∷ es) = lowest_since (min n (min at len)) es
lowest_since n (entries.Cut len ∷ es) = lowest_since (min n len) es
lowest_since n (entries.Failed ∷ es) = lowest_since n es

abbrev pub lower : ℕ → Entry → ℕ
lower n (entries.Write at written covered len) = min n (min at len)
lower n (entries.Cut len) = min n len
lower n entries.Sync = n
lower n entries.Failed = n

-- A buffer that holds the newest bytes at the places where the seed takes them, and those of an older buffer at the
-- others, as far as it reaches.
pub record Blends (seed : ℕ) (newest now : List ℕ) (b : Buffer) : Type 0 where
  pub long : length now ≡ length newest
  pub short : length b.bytes ≤ length now
  pub new : (i : ℕ) → takes_new seed i ≡ true → get_or now i 0 ≡ get_or newest i 0
  pub old : (i : ℕ) → takes_new seed i ≡ false → i < length b.bytes → get_or now i 0 ≡ get_or b.bytes i 0

-- one call can be taken back
abbrev pub FitsEntry : Entry → ℕ → ℕ → Type 0
FitsEntry (entries.Write at written covered len) bytes kept = (at + covered ≤ bytes) × (covered ≤ kept)
FitsEntry (entries.Cut len) bytes kept = Unit {0}
FitsEntry entries.Sync bytes kept = Unit {0}
FitsEntry entries.Failed bytes kept = Unit {0}

-- One call is taken back where the seed takes the old content: the buffer before and after, with how many of the kept bytes are
-- left, and how long the file was.
abbrev pub IsTakenBack : ℕ → Entry → List ℕ → ℕ → List ℕ → List ℕ → ℕ → ℕ → Type 0
IsTakenBack seed (entries.Write at written covered was) kept len before after rest long = IsFilled seed false at (at + covered) (drop (length kept - covered) kept) before after × (rest ≡ length kept - covered) × (long ≡ was)
IsTakenBack seed (entries.Cut was) kept len before after rest long = (after ≡ before) × (rest ≡ length kept) × (long ≡ was)
IsTakenBack seed entries.Sync kept len before after rest long = (after ≡ before) × (rest ≡ length kept) × (long ≡ len)
IsTakenBack seed entries.Failed kept len before after rest long = (after ≡ before) × (rest ≡ length kept) × (long ≡ len)

-- As many of the calls are left to take back: the buffer before the others, how many of the kept bytes are left, and how long the
-- file was then.
pub record Going (seed : ℕ) (first : Buffer) (calls : List Entry) (count rest was : ℕ) (now : List ℕ) : Type 0 where
  pub buffer : Buffer
  pub within : rest ≤ length first.covered
  pub counted : count ≤ length calls
  pub fits : FitsBack buffer (reverse (take count calls))
  pub same : back first (reverse calls) ≡ back buffer (reverse (take count calls))
  pub kept : buffer.covered ≡ take rest first.covered
  pub long : buffer.len ≡ was
  pub blends : Blends seed first.bytes now buffer
