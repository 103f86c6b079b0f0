-- A tape that grows at its end.
use Rattle.std.specs.Prelude.{◌≡◌, ◌⊎◌, ℕ, List, [], ◌++◌, flat_map, length, MatchOption, None, Option, Some}
use Rattle.std.specs.List.{AllByRecursion}
use Rattle.std.specs.Option.{ForSome}
use Rattle.schedule.specs.Items.{HasLine, first_line, item_text}
use Rattle.schedule.specs.declared.item.Item2.{Item2}
use Rattle.zdisk.specs.Calls.{AnyImage}
use Rattle.zdisk.specs.Crashes.{IsTorn}
use Rattle.zdisk.specs.Disk.{Held, Told, content}
use Rattle.zserve.specs.Happened.{Happening, items}

-- it has so many bytes, where it tells
abbrev pub IsLong : Option Told → ℕ → Type 0
IsLong tape n = ForSome tape (λ told. length (content told) ≡ n)

-- it has these bytes more at its end, where it tells
abbrev pub Grows : Option Told → List ℕ → Option Told → Type 0
Grows old more new = MatchOption old (new ≡ None) (λ told. (next : Told) × (new ≡ Some next) × (content next ≡ content told ++ more))

-- a text has these items more at its end, each of which has a line
abbrev pub Spelt : List ℕ → List Item2 → List ℕ → Type 0
Spelt old all new = (new ≡ old ++ flat_map item_text all) × AllByRecursion HasLine all

-- the tape has these items more at its end, each of which has a line
abbrev pub Continues : Option Told → List Item2 → Option Told → Type 0
Continues old all new = Grows old (flat_map item_text all) new × AllByRecursion HasLine all

-- ---- refused

-- What a tape has that had these bytes before a piece was to be put behind them: them alone, or the piece too. Only where the tape itself
-- failed it may be a torn piece; or, where it failed while the piece was brought to the device, any image.
abbrev pub Stands : (failed : Type 0) → (done piece : List ℕ) → Told → Type 0
Stands failed done piece told = (content told ≡ done) ⊎ ((content told ≡ done ++ piece)
    ⊎ (failed × (IsTorn done piece (content told) ⊎ ((held : Held) × (held.now ≡ done ++ piece) × AnyImage held told.now))))

-- what is left of a tape behind which these bytes stand already and a piece was to be put, where it tells
abbrev pub Leaves : (failed : Type 0) → Option Told → (done piece : List ℕ) → Option Told → Type 0
Leaves failed old done piece new = MatchOption old (new ≡ None) (λ told. (next : Told) × (new ≡ Some next) × Stands failed (content told ++ done) piece next)

-- the text of the first line and of what happened
abbrev pub text_of : List Happening → List ℕ
text_of all = first_line ++ flat_map item_text (items all)

-- a piece that a server puts on its tape: the first line, before anything happened; or, behind all that happened in whole rounds, what
-- happens in the next one, or the last line where there is none
abbrev pub IsPut : (all more : List Happening) → (done piece : List ℕ) → Type 0
IsPut all more done piece = ((all ≡ []) × (done ≡ []) × (piece ≡ first_line))
    ⊎ ((done ≡ text_of all) × ((piece ≡ flat_map item_text (items more)) ⊎ ((more ≡ []) × (piece ≡ item_text Item2.End))))

-- What the tape has where a server is refused: the items of the whole rounds, each of which has a line; and what stands of the piece
-- that came next.
pub record Taped (failed : Type 0) (all more : List Happening) (told : Told) : Type 0 where
  pub done : List ℕ
  pub piece : List ℕ
  pub put : IsPut all more done piece
  pub lines : AllByRecursion HasLine (items all)
  pub stands : Stands failed done piece told
