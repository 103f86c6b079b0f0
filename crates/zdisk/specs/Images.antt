-- What a stop may leave of a file.
--
-- An image's length is one that the file had since the last sync that succeeded. Each byte of it is a value that
-- its place held since then, or 0 where the place lay past the end at some moment since then.
use Rattle.std.specs.Prelude.{◌≡◌, ◌⊎◌, ℕ, ◌<◌, ◌≤◌, List, [], ◌∷◌, length, get_or}
use Rattle.zdisk.specs.Disk.{Held, Told}

-- all contents since the last sync that succeeded, newest first
abbrev pub contents : Held → List (List ℕ)
contents held = held.now ∷ held.before

-- one of the contents has this length
abbrev pub HasLength : List (List ℕ) → ℕ → Type 0
HasLength [] n = ⊥
HasLength (c ∷ cs) n = (n ≡ length c) ⊎ HasLength cs n

-- one of the contents has this byte at a place; past its end it counts as 0
abbrev pub HasByte : List (List ℕ) → ℕ → ℕ → Type 0
HasByte [] i byte = ⊥
HasByte (c ∷ cs) i byte = (byte ≡ get_or c i 0) ⊎ HasByte cs i byte

pub record IsImage (held : Held) (image : List ℕ) : Type 0 where
  pub long : HasLength (contents held) (length image)
  pub each : (i : ℕ) → i < length image → HasByte (contents held) i (get_or image i 0)

-- a mixture, byte by byte, of two contents: what a stop may leave of a file that had the one and then the other
abbrev pub IsMixture : List ℕ → List ℕ → List ℕ → Type 0
IsMixture old new bytes = IsImage (record { now = new; before = old ∷ [] }) bytes

-- ---- moments

-- how many moments there were before
abbrev pub moment : Told → ℕ
moment told = length told.earlier

-- this was held at some moment from t on; of two neighbours in the list the later stands first
abbrev pub HeldSince : List Held → ℕ → Held → Type 0
HeldSince [] t held = ⊥
HeldSince (h ∷ hs) t held = ((t ≤ length hs) × (held ≡ h)) ⊎ HeldSince hs t held

-- each image that a stop at a moment from t on might have left has P
abbrev pub LeavesSince : Told → ℕ → (List ℕ → Type 0) → Type 0
LeavesSince told t P = (held : Held) → HeldSince (told.now ∷ told.earlier) t held → (image : List ℕ) → IsImage held image → P image
