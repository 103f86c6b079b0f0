-- Where the head of a message ends: after the first LF that has another LF or a CR LF directly behind it.
--
-- RFC 9112, "Message Format": a head is lines, and an empty line ends it; "Message Parsing": a line may end in LF
-- alone.
use Rattle.std.specs.Prelude.{ℕ, ◌+◌, ◌-◌, ◌==◌, ◌&&◌, not, nat_lt, Bool, List, [], ◌∷◌, length, slice_index, Option, Some, None, if◌then◌else◌}
use Rattle.std.specs.List.{count_by}

-- how long the empty line at the front is, none where none stands there
abbrev pub lf_behind : List ℕ → Option ℕ
lf_behind [] = None
lf_behind (b ∷ bytes) = if b == 10 then Some 2 else None

abbrev pub empty_line : List ℕ → Option ℕ
empty_line [] = None
empty_line (b ∷ bytes) = if b == 10 then Some 1 else if b == 13 then lf_behind bytes else None

-- the place of an end, seen from so many bytes earlier
abbrev pub from : ℕ → Option ℕ → Option ℕ
from n None = None
from n (Some end) = Some (n + end)

abbrev pub or_later : Option ℕ → Option ℕ → Option ℕ
or_later (Some empty) later = Some (1 + empty)
or_later None later = later

-- the length of the head that the bytes begin with, none where they hold no end of a head
abbrev pub head_end : List ℕ → Option ℕ
head_end [] = None
head_end (b ∷ bytes) =
    if b == 10 then or_later (empty_line bytes) (from 1 (head_end bytes)) else from 1 (head_end bytes)

-- the lines of a head but for the first and the empty one
abbrev pub header_lines : List ℕ → ℕ
header_lines head = count_by (λ b. b == 10) head - 2

-- no empty line stands at the front
abbrev pub begins_with_text : List ℕ → Bool
begins_with_text head = nat_lt 0 (length head) && (not (slice_index head 0 == 10) && not (slice_index head 0 == 13))
