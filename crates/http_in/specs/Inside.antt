-- Words of the crate's own functions: what a search, a look and a reader know of the bytes so far. No clause of a public
-- function needs them.
use Rattle.std.specs.Prelude.{◌≡◌, ◌≢◌, ℕ, ◌<◌, ◌≤◌, ◌-◌, List, ◌++◌, length, take, drop, Some, None, Result, Ok, Err}
use Rattle.std.specs.List.{All}
use Rattle.httparse.specs.declared.spans.HeaderSpan.{HeaderSpan}
use Rattle.httparse.specs.declared.spans.RequestSpans.{RequestSpans}
use Rattle.httparse.specs.Grammar.{RequestHead}
use Rattle.httparse.specs.Spans.{IsRequestAt}
use Rattle.http_in.specs.declared.ends.Sought.{Sought}
use Rattle.http_in.specs.declared.ends.Sought.TheVariants as sought
use Rattle.http_in.specs.declared.ends.Step.{Step}
use Rattle.http_in.specs.declared.ends.Step.TheVariants as steps
use Rattle.http_in.specs.declared.look.Looked.{Looked}
use Rattle.http_in.specs.declared.look.Looked.TheVariants as looks
use Rattle.http_in.specs.declared.message.HttpRefusal.{HttpRefusal}
use Rattle.http_in.specs.declared.message.Message.{Message}
use Rattle.http_in.specs.declared.refusal.HeadError.{HeadError}
use Rattle.http_in.specs.declared.refusal.HeadError.TheVariants as errors
use Rattle.http_in.specs.Ends.{from, head_end}
use Rattle.http_in.specs.HeadText.{head_of}
use Rattle.http_in.specs.Messages.{asked, most_head, most_message}

-- ---- the end of a head

-- No end begins among these bytes, whatever follows them.
abbrev pub IsPassed : List ℕ → Type 0
IsPassed front = (more : List ℕ) → head_end (front ++ more) ≡ from (length front) (head_end more)

-- What a search came to: an end, or how many bytes are passed.
pub data Came : Type 0 where
  Ends : ℕ → Came
  Goes : ℕ → Came

-- the bytes hold that end, or none, and are passed so far
abbrev pub IsSearched : List ℕ → Came → Type 0
IsSearched bytes (Ends end) = head_end bytes ≡ Some end
IsSearched bytes (Goes at) = (head_end bytes ≡ None) × (at ≤ length bytes) × IsPassed (take at bytes)

-- What the front of some bytes says: an end, that what follows decides, or how many bytes are passed.
pub data Said : Type 0 where
  Ends : ℕ → Said
  Waits : Said
  Passes : ℕ → Said

abbrev pub IsStep : List ℕ → Said → Type 0
IsStep bytes (Ends end) = (head_end bytes ≡ Some end) × (end ≤ length bytes)
IsStep bytes Waits = head_end bytes ≡ None
IsStep bytes (Passes n) = (0 < n) × (n ≤ length bytes) × IsPassed (take n bytes)

-- ---- a head

-- memory ran out, or this is why
abbrev pub Fails : {A : Type 0} → HeadError → Result A HttpRefusal → Type 0
Fails errors.Memory read = Unit {0}
Fails (errors.Refused cause) read = read ≡ Err cause

-- what a call answers is what there is to read, unless memory ran out
abbrev pub Gives : {A : Type 0} → Result A HeadError → Result A HttpRefusal → Type 0
Gives (Ok x) read = read ≡ Ok x
Gives (Err e) read = Fails e read

-- the spans are those of the head that the bytes are
abbrev pub HasParts : List ℕ → List HeaderSpan → RequestSpans → Type 0
HasParts bytes spans found = (h : RequestHead) × (head_of bytes ≡ Some h) × IsRequestAt bytes spans found h

-- ---- a reader

-- No message before so many bytes are there.
abbrev pub IsShort : ℕ → List ℕ → Type 0
IsShort wanted rest = (more : List ℕ) → length (rest ++ more) < wanted → asked (rest ++ more) ≡ None

-- No message while the bytes are at most so many, whatever comes that has no LF.
abbrev pub IsQuiet : ℕ → List ℕ → Type 0
IsQuiet most rest = (more : List ℕ) → All (λ b. b ≢ 10) more → length (rest ++ more) ≤ most → asked (rest ++ more) ≡ None

-- what a look at the bytes came to: the message that they begin with, or none, with how many bytes no end of a head
-- begins among, which comes by an LF, or how many bytes there will be
pub data Look : Type 0 where
  Found : Message → ℕ → Look
  Head : ℕ → Look
  Body : ℕ → Look

abbrev pub IsLook : List ℕ → Look → Type 0
IsLook bytes (Look.Found m n) = asked bytes ≡ Some (m, n)
IsLook bytes (Look.Head passed) = (asked bytes ≡ None) × (passed ≤ length bytes) × (passed ≤ most_head) × IsPassed (take passed bytes) × IsQuiet 16383 bytes
IsLook bytes (Look.Body wanted) = (asked bytes ≡ None) × (length bytes < wanted) × IsShort wanted bytes

-- how a reader keeps a stream whose last answered message has a length and ends at a place, in memory that has room for
-- so many bytes
pub record Keeps (bytes : List ℕ) (last to clean wanted quiet room : ℕ) : Type 0 where
  pub ordered : last ≤ to
  pub within : to ≤ length bytes
  pub small : last ≤ most_message
  pub seen : clean ≤ length (drop to bytes)
  pub most : clean ≤ most_head
  pub passed : IsPassed (take clean (drop to bytes))
  pub short : IsShort wanted (drop to bytes)
  pub still : IsQuiet (quiet - to) (drop to bytes)
  pub front : 0 < quiet → to ≤ last
  pub fits : quiet ≤ room
  pub left : 0 < quiet → length bytes ≤ quiet

-- ---- the answers of the code, as these words have them

abbrev pub searched_by : Sought → Came
searched_by (sought.Ends end) = Came.Ends end
searched_by (sought.Goes at) = Came.Goes at

abbrev pub stepped_by : Step → Said
stepped_by (steps.Ends end) = Said.Ends end
stepped_by steps.Waits = Said.Waits
stepped_by (steps.Passes n) = Said.Passes n

abbrev pub looked_by : Looked → Look
looked_by (looks.Found m n) = Look.Found m n
looked_by (looks.Head n) = Look.Head n
looked_by (looks.Body n) = Look.Body n
