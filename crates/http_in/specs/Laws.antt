-- What holds of messages and of the streams that they come in.
use Rattle.std.specs.Prelude.{◌≡◌, ℕ, ◌<◌, ◌≤◌, List, [], ◌∷◌, ◌++◌, length, take, drop, Some, None}
use Rattle.std.specs.List.{All, concat}
use Rattle.http_in.specs.declared.message.Message.{Message}
use Rattle.http_in.specs.declared.message.Request.{Request}
use Rattle.http_in.specs.Messages.{asked, most_message, most_target, one_message}
use Rattle.http_in.specs.Paths.{path_text}

-- A message that bytes begin with stands, whatever follows them, and so does its length.
abbrev pub MessagesStand : Type 0
MessagesStand = (bytes more : List ℕ) (x : Message × ℕ) → asked bytes ≡ Some x → asked (bytes ++ more) ≡ Some x

-- It lies within the bytes and is that one message, with nothing behind it.
abbrev pub MessagesAreOne : Type 0
MessagesAreOne = (bytes : List ℕ) (x : Message × ℕ) → asked bytes ≡ Some x → (0 < x.1) × (x.1 ≤ length bytes) × (one_message (take x.1 bytes) ≡ Some x.0)

-- No message begins another.
abbrev pub NoneBeginsAnother : Type 0
NoneBeginsAnother = (first more : List ℕ) (m k : Message) → one_message first ≡ Some m → one_message (first ++ more) ≡ Some k → more ≡ []

-- Bytes that hold no message yet are fewer than the longest message has.
abbrev pub LongEnough : Type 0
LongEnough = (bytes : List ℕ) → asked bytes ≡ None → length bytes < most_message

-- No message has more bytes than the longest head and the longest body.
abbrev pub LongestMessage : Type 0
LongestMessage = (bytes : List ℕ) (x : Message × ℕ) → asked bytes ≡ Some x → x.1 ≤ most_message

-- The path of a whole message, as a text, has no more bytes than a target may have.
abbrev pub PathsAreShort : Type 0
PathsAreShort = (bytes : List ℕ) (q : Request) → one_message bytes ≡ Some (Message.Whole q) → length (path_text q.path) ≤ most_target

-- The front of a message is none yet.
abbrev pub FrontIsNone : Type 0
FrontIsNone = (front more : List ℕ) (m : Message) → one_message (front ++ more) ≡ Some m → 0 < length more → asked front ≡ None

-- With some bytes behind them they are a message.
abbrev pub IsFront : List ℕ → Type 0
IsFront bytes = (more : List ℕ) × (0 < length more) × (m : Message) × (one_message (bytes ++ more) ≡ Some m)

-- Bytes that hold no message yet are the front of one.
abbrev pub NoneIsFront : Type 0
NoneIsFront = (bytes : List ℕ) → asked bytes ≡ None → IsFront bytes

-- The stream begins with these messages, one behind another, and goes on with the rest.
abbrev pub Reads : List ℕ → List Message → List ℕ → Type 0
Reads stream [] rest = stream ≡ rest
Reads stream (m ∷ ms) rest = (n : ℕ) × (asked stream ≡ Some (m, n)) × Reads (drop n stream) ms rest

-- A piece that comes goes to the rest.
abbrev pub PiecesGoOn : Type 0
PiecesGoOn = (stream piece rest : List ℕ) (ms : List Message) → Reads stream ms rest → Reads (stream ++ piece) ms (rest ++ piece)

-- A message that the rest begins with is the next one of the stream.
abbrev pub NextIsRead : Type 0
NextIsRead = (stream taken rest : List ℕ) (ms : List Message) (m : Message) → Reads stream ms (taken ++ rest) → asked (taken ++ rest) ≡ Some (m, length taken) → Reads stream (ms ++ m ∷ []) rest

-- A stream has one list of messages, behind which no message has come yet.
abbrev pub OneReading : Type 0
OneReading = (stream rest other : List ℕ) (ms ks : List Message) → Reads stream ms rest → asked rest ≡ None → Reads stream ks other → asked other ≡ None → (ms ≡ ks) × (rest ≡ other)

-- Pieces of a connection, each of at least one byte, that hold no message yet are fewer than the longest message has
-- bytes. So reading ends, with a message or with the connection.
abbrev pub FewReads : Type 0
FewReads = (pieces : List (List ℕ)) → All (λ piece. 0 < length piece) pieces → asked (concat pieces) ≡ None → length pieces < most_message

-- The message that what was read of a connection begins with is the one that all its bytes begin with, read or not, and
-- so are the message's bytes.
abbrev pub UnreadIsNothing : Type 0
UnreadIsNothing = (read unread : List ℕ) (x : Message × ℕ) → asked read ≡ Some x → (asked (read ++ unread) ≡ Some x) × (take x.1 (read ++ unread) ≡ take x.1 read)

-- A connection whose bytes hold no message held none at any time before.
abbrev pub NoneBefore : Type 0
NoneBefore = (read more : List ℕ) → asked (read ++ more) ≡ None → asked read ≡ None
