-- The message that bytes begin with: a request, or what is refused of one, with the first cause in a fixed order.
--
-- RFC 9112, "Message Format"; the limits are this server's.
use Rattle.std.specs.Prelude.{ℕ, ◌+◌, ◌==◌, ◌&&◌, ◌||◌, nat_lt, Bool, true, false, List, [], length, take, drop, map, slice_index, Option, Some, None, Result, Ok, Err, if◌then◌else◌, codes}
use Rattle.std.specs.Str.{bytes_eq}
use Rattle.httparse.specs.Grammar.{RequestHead}
use Rattle.http_in.specs.declared.limits.TheConstants.{MOST_BODY, MOST_HEAD, MOST_LINES, MOST_SEGMENTS, MOST_TARGET}
use Rattle.http_in.specs.declared.message.HttpRefusal.{HttpRefusal}
use Rattle.http_in.specs.declared.message.Message.{Message}
use Rattle.http_in.specs.declared.message.Request.{Request}
use Rattle.http_in.specs.declared.message.Verb.{Verb}
use Rattle.http_in.specs.Ends.{head_end, header_lines}
use Rattle.http_in.specs.HeadText.{head_of}
use Rattle.http_in.specs.Headers.{Header, body_length, header_of, is_chunked, is_multipart, lossy}
use Rattle.http_in.specs.Paths.{count_segments, path_of, query_of, raw_of}

-- ---- limits, in bytes, lines and segments

abbrev pub most_head : ℕ
most_head = MOST_HEAD

abbrev pub most_lines : ℕ
most_lines = MOST_LINES

abbrev pub most_target : ℕ
most_target = MOST_TARGET

abbrev pub most_segments : ℕ
most_segments = MOST_SEGMENTS

abbrev pub most_body : ℕ
most_body = MOST_BODY

-- the longest head and the longest body
abbrev pub most_message : ℕ
most_message = MOST_HEAD + MOST_BODY

-- ---- the request of a head

infixl 10 ◌>>=◌
abbrev pub ◌>>=◌ : {A B : Type 0} → Result A HttpRefusal → (A → Result B HttpRefusal) → Result B HttpRefusal
(Ok x) >>= f = f x
(Err cause) >>= f = Err cause

-- what is there, or this cause
abbrev pub or_refused : {A : Type 0} → HttpRefusal → Option A → Result A HttpRefusal
or_refused cause (Some x) = Ok x
or_refused cause None = Err cause

-- this cause, where the test says so
abbrev pub refused_if : HttpRefusal → Bool → Result (Unit {0}) HttpRefusal
refused_if cause test = if test then Err cause else Ok tt

abbrev pub verb_of : List ℕ → Option Verb
verb_of method =
    if bytes_eq method (codes "GET") then Some Verb.Get
    else if bytes_eq method (codes "HEAD") then Some Verb.Head
    else if bytes_eq method (codes "POST") then Some Verb.Post
    else None

abbrev pub begins_with_slash : List ℕ → Bool
begins_with_slash target = nat_lt 0 (length target) && slice_index target 0 == 47

-- the path of a target that begins with a slash
abbrev pub path_in : List ℕ → Option (List (List ℕ))
path_in target = if begins_with_slash target then path_of (raw_of target) else None

abbrev pub is_long : List ℕ → Bool
is_long target = nat_lt most_target (length target) || nat_lt most_segments (count_segments (raw_of target))

abbrev pub is_post : Verb → Bool
is_post Verb.Get = false
is_post Verb.Head = false
is_post Verb.Post = true

-- the request without its body, and how long that is
unfoldable pub request_of : List ℕ → List ℕ → List Header → Result (Request × ℕ) HttpRefusal
request_of method target headers = do
  path ← or_refused HttpRefusal.BadHead (path_in target)
  size ← or_refused HttpRefusal.BadHead (body_length headers)
  verb ← or_refused HttpRefusal.Method (verb_of method)
  short ← refused_if HttpRefusal.PathTooLong (is_long target)
  whole ← refused_if HttpRefusal.Chunked (is_chunked headers)
  fits ← refused_if HttpRefusal.BodyTooLarge (nat_lt most_body size)
  single ← refused_if HttpRefusal.Multipart (is_post verb && is_multipart headers)
  Ok (record { method = verb; path = path; raw = lossy (raw_of target); query = lossy (query_of target); headers = headers; body = [] }, size)

abbrev pub request_in_head : Option RequestHead → Result (Request × ℕ) HttpRefusal
request_in_head None = Err HttpRefusal.BadHead
request_in_head (Some h) = request_of h.method h.target (map header_of h.fields)

-- what a head says, all of its bytes
unfoldable pub judged : List ℕ → Result (Request × ℕ) HttpRefusal
judged head = refused_if HttpRefusal.HeadTooLarge (nat_lt most_lines (header_lines head)) >>= λ few. request_in_head (head_of head)

-- ---- messages

abbrev pub with_body : Request → List ℕ → Request
with_body q body = record { method = q.method; path = q.path; raw = q.raw; query = q.query; headers = q.headers; body = body }

-- the message whose head ends at this place
abbrev pub message_behind : ℕ → List ℕ → Result (Request × ℕ) HttpRefusal → Option (Message × ℕ)
message_behind end bytes (Err cause) = Some (Message.Refused cause, end)
message_behind end bytes (Ok x) =
    if nat_lt (length bytes) (end + x.1) then None
    else Some (Message.Whole (with_body x.0 (take x.1 (drop end bytes))), end + x.1)

abbrev pub asked_at : List ℕ → Option ℕ → Option (Message × ℕ)
asked_at bytes None = if nat_lt (length bytes) most_head then None else Some (Message.Refused HttpRefusal.HeadTooLarge, most_head)
asked_at bytes (Some end) = message_behind end bytes (judged (take end bytes))

-- the whole or refused message that the bytes begin with, and its length; none where they don't hold one yet
unfoldable pub asked : List ℕ → Option (Message × ℕ)
asked bytes = asked_at bytes (head_end (take most_head bytes))

abbrev pub only_all : List ℕ → Option (Message × ℕ) → Option Message
only_all bytes None = None
only_all bytes (Some x) = if x.1 == length bytes then Some x.0 else None

-- the one message that the bytes are, with nothing behind it
unfoldable pub one_message : List ℕ → Option Message
one_message bytes = only_all bytes (asked bytes)
