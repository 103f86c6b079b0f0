-- How long the text of a path can be.
use Rattle.std.proofs.Common.{◌≡◌, ◌∙◌, ℕ, ◌+◌, ◌-◌, ◌≤◌, ◌==◌, ◌&&◌, ◌||◌, Bool, true, false, List, [], ◌∷◌, ◌++◌, length, length-append, take, drop, map, not, sum_by, Option, Some, None, Result, Ok, Err, refl, sym, ap, subst, arith, if◌then◌else◌}
use Rattle.std.specs.Prelude.{nat_lt}
use Rattle.std.specs.List.{onto_first, position_or_len}
use Rattle.std.specs.Str.{bytes_eq, is_utf8}
use Rattle.std.proofs.lemmas.Bool.Decides.{nat_tests}
use Rattle.std.proofs.lemmas.Grind.{flat_map-append}
use Rattle.std.proofs.lemmas.List.{length-take, take-append-drop}
use Rattle.std.proofs.lemmas.List.Sums.{sum_by-cons, take_while-cons}
use Rattle.std.proofs.lemmas.List.Splits.{slice_split-cons_no, slice_split-cons_yes}
use Rattle.std.proofs.lemmas.Slice.Eq.{bytes_eq-Decides}
use Rattle.httparse.specs.Grammar.{RequestHead}
use Rattle.percent_encoding.specs.Percent.{percent_decode}
use Rattle.percent_encoding.proofs.PercentLemmas.{length-percent_decode}
use Rattle.http_in.specs.declared.message.HttpRefusal.{HttpRefusal}
use Rattle.http_in.specs.declared.message.Message.{Message}
use Rattle.http_in.specs.declared.message.Request.{Request}
use Rattle.http_in.specs.declared.message.Verb.{Verb}
use Rattle.http_in.specs.Ends.{head_end, header_lines}
use Rattle.http_in.specs.HeadText.{head_of}
use Rattle.http_in.specs.Headers.{Header, body_length, header_of, is_chunked, is_multipart}
use Rattle.http_in.specs.Laws.{PathsAreShort}
use Rattle.http_in.specs.Messages.{◌>>=◌, asked, asked_at, is_long, is_post, judged, message_behind, most_body, most_head, most_lines, most_segments, most_target, one_message, only_all, or_refused, path_in, refused_if, request_in_head, request_of, verb_of, with_body}
use Rattle.http_in.specs.Paths.{above, count_segments, decoded, dot, dots, ends_with_dots, or_none, path_of, path_text, pieces, raw_of, stepped, walked}
use Rattle.http_in.specs.SizeLaws.{made}

abbrev size : List (List ℕ) → ℕ
size path = length (path_text path)

joined : (front back : List (List ℕ)) → size (front ++ back) ≡ size front + size back
joined front back = ap length (flat_map-append (λ (segment : List ℕ). 47 ∷ segment) front back) ∙ length-append (path_text front) (path_text back)

one_more : (path : List (List ℕ)) (segment : List ℕ) → size (path ++ segment ∷ []) ≡ size path + (1 + length segment)
one_more path segment =
    let last : size (segment ∷ []) ≡ length (47 ∷ segment) + 0 = length-append (47 ∷ segment) [] in
    omega (arith, joined path (segment ∷ []), last)

fewer : (n : ℕ) (path : List (List ℕ)) → size (take n path) ≤ size path
fewer n path =
    let parts : size (take n path) + size (drop n path) ≡ size path = sym (joined (take n path) (drop n path)) ∙ ap size (take-append-drop n path) in
    omega (arith, parts)

-- `..` makes a path by three bytes longer at most
above_size : (path : List (List ℕ)) → size (above path) ≤ size path + 3
above_size path = at (ends_with_dots path)
  where
    at : (ends : Bool) → size (if ends then path ++ dots ∷ [] else take (length path - 1) path) ≤ size path + 3
    at true = omega (arith, one_more path dots)
    at false = omega (arith, fewer (length path - 1) path)

stepped_size : (path : List (List ℕ)) (segment : List ℕ) → size (stepped path segment) ≤ size path + (1 + length segment)
unfolding stepped
stepped_size path segment = at (length segment == 0 || bytes_eq segment dot) (bytes_eq segment dots) refl
  where
    at : (none up : Bool) → bytes_eq segment dots ≡ up → size (if none then path else if up then above path else path ++ segment ∷ []) ≤ size path + (1 + length segment)
    at true up is = omega arith
    at false true is = omega (arith, above_size path, ap length ((bytes_eq-Decides segment dots).0 is))
    at false false is = omega (arith, one_more path segment)

text_size : (t : Bool) (bytes text : List ℕ) → (if t then Some bytes else None) ≡ Some text → length text ≤ length bytes
text_size true bytes text e = (let same : bytes ≡ text = cc in omega (arith, ap length same))
text_size false bytes text e = absurd (let bad = e in cc)

-- a segment has no more bytes than what stood for it
decoded_size : (piece segment : List ℕ) → decoded piece ≡ Some segment → length segment ≤ length piece
unfolding decoded
decoded_size piece segment e = omega (arith, text_size (is_utf8 (percent_decode piece)) (percent_decode piece) segment e, (length-percent_decode piece).0)

-- the pieces, each with the slash before it
abbrev spread : List (List ℕ) → ℕ
spread ps = sum_by (λ (piece : List ℕ). 1 + length piece) ps

spread_more : (piece : List ℕ) (others : List (List ℕ)) → spread (piece ∷ others) ≡ 1 + length piece + spread others
spread_more piece others = sum_by-cons (λ (p : List ℕ). 1 + length p) piece others

walked_size : (path ps whole : List (List ℕ)) → walked path ps ≡ Some whole → size whole ≤ size path + spread ps
walked_size path [] whole e = (let same : path ≡ whole = cc in omega (arith, ap size same))
walked_size path (piece ∷ others) whole e = at (decoded piece) refl e (λ p. walked_size p others whole)
  where
    at : (o : Option (List ℕ)) → decoded piece ≡ o → or_none (λ segment. walked (stepped path segment) others) o ≡ Some whole
        → ((p : List (List ℕ)) → walked p others ≡ Some whole → size whole ≤ size p + spread others) → size whole ≤ size path + spread (piece ∷ others)
    at None is e' deeper = absurd (let bad = e' in cc)
    at (Some segment) is e' deeper = omega (arith, deeper (stepped path segment) e', stepped_size path segment, decoded_size piece segment is, spread_more piece others)

onto_spread : (b : ℕ) (ps : List (List ℕ)) (n : ℕ) → spread ps ≡ 1 + n → spread (onto_first b ps) ≡ 2 + n
onto_spread b [] n e = absurd (omega (arith, e))
onto_spread b (piece ∷ others) n e = omega (arith, e, spread_more (b ∷ piece) others, spread_more piece others)

pieces_spread : (raw : List ℕ) → spread (pieces raw) ≡ 1 + length raw
pieces_spread [] = refl
pieces_spread (b ∷ raw) = omega (arith, at (b == 47) refl (pieces_spread raw))
  where
    at : (t : Bool) → (b == 47) ≡ t → spread (pieces raw) ≡ 1 + length raw → spread (pieces (b ∷ raw)) ≡ 2 + length raw
    at true is e = ap spread (slice_split-cons_yes (λ x. x == 47) b raw is) ∙ omega (arith, e, spread_more [] (pieces raw))
    at false is e = ap spread (slice_split-cons_no (λ x. x == 47) b raw is) ∙ onto_spread b (pieces raw) (length raw) e

-- nothing before the first slash makes no segment
first_size : (segment : List ℕ) → length segment ≤ 0 → size (stepped [] segment) ≤ 0
unfolding stepped
first_size [] few = omega arith
first_size (b ∷ segment) few = absurd (omega (arith, few))

-- a path that begins with a slash has a text no longer than it
path_size : (raw : List ℕ) (path : List (List ℕ)) → path_of (47 ∷ raw) ≡ Some path → size path ≤ 1 + length raw
path_size raw path e = at (decoded []) refl e
  where
    at : (o : Option (List ℕ)) → decoded [] ≡ o → or_none (λ segment. walked (stepped [] segment) (pieces raw)) o ≡ Some path → size path ≤ 1 + length raw
    at None is e' = absurd (let bad = e' in cc)
    at (Some segment) is e' = omega (arith, walked_size (stepped [] segment) (pieces raw) path e', first_size segment (decoded_size [] segment is), pieces_spread raw)

raw_size : (target : List ℕ) → length (raw_of target) ≤ length target
raw_size target = omega (arith, length-take (position_or_len (λ b. b == 63) target) target)

slash_stays : (target : List ℕ) → raw_of (47 ∷ target) ≡ 47 ∷ raw_of target
slash_stays target = take_while-cons (λ b. not (b == 63)) 47 target

target_size : (target : List ℕ) (path : List (List ℕ)) → path_in target ≡ Some path → size path ≤ length target
target_size [] path e = absurd (let bad = e in cc)
target_size (b ∷ target) path e = omega (arith, at (nat_lt 0 (length (b ∷ target))) (b == 47) refl e)
  where
    at : (some t : Bool) → (b == 47) ≡ t → (if some && t then path_of (raw_of (b ∷ target)) else None) ≡ Some path → size path ≤ 1 + length target
    at true true is e' =
        let slash : b ≡ 47 = grind (arith, nat_tests) in
        let found : path_of (47 ∷ raw_of target) ≡ Some path = ap path_of (sym (slash_stays target)) ∙ subst (λ (x : ℕ). path_of (raw_of (x ∷ target)) ≡ Some path) slash e' in
        omega (arith, path_size (raw_of target) path found, raw_size target)
    at true false is e' = absurd (let bad = e' in cc)
    at false t is e' = absurd (let bad = e' in cc)

-- ---- the path of a message

abbrev IsShort : Request → Type 0
IsShort q = size q.path ≤ most_target

abbrev AllShort : Result (Request × ℕ) HttpRefusal → Type 0
AllShort (Ok x) = IsShort x.0
AllShort (Err cause) = Unit {0}

few_of : (target : List ℕ) → is_long target ≡ false → length target ≤ most_target
few_of target e = at (nat_lt most_target (length target)) refl e
  where
    at : (t : Bool) → nat_lt most_target (length target) ≡ t → (t || nat_lt most_segments (count_segments (raw_of target))) ≡ false → length target ≤ most_target
    at true is e' = absurd (let bad = e' in cc)
    at false is e' = grind (arith, nat_tests)

-- what passes the tests behind the target's is the request
tests_pass : (c b m : Bool) (q : Request) (n : ℕ) → IsShort q
    → AllShort (refused_if HttpRefusal.Chunked c >>= λ whole. refused_if HttpRefusal.BodyTooLarge b >>= λ fits. refused_if HttpRefusal.Multipart m >>= λ single. Ok (q, n))
tests_pass true b m q n short = tt
tests_pass false true m q n short = tt
tests_pass false false true q n short = tt
tests_pass false false false q n short = short

request_short : (method target : List ℕ) (headers : List Header) → AllShort (request_of method target headers)
unfolding request_of
request_short method target headers = at (path_in target) refl (body_length headers) (verb_of method) (is_long target) refl
  where
    at : (p : Option (List (List ℕ))) → path_in target ≡ p → (s : Option ℕ) (v : Option Verb) (l : Bool) → is_long target ≡ l
        → AllShort (or_refused HttpRefusal.BadHead p >>= λ path. or_refused HttpRefusal.BadHead s >>= λ size. or_refused HttpRefusal.Method v >>= λ verb. refused_if HttpRefusal.PathTooLong l >>= λ short. refused_if HttpRefusal.Chunked (is_chunked headers) >>= λ whole. refused_if HttpRefusal.BodyTooLarge (nat_lt most_body size) >>= λ fits. refused_if HttpRefusal.Multipart (is_post verb && is_multipart headers) >>= λ single. Ok (made target headers path verb, size))
    at None found s v l is = tt
    at (Some path) found None v l is = tt
    at (Some path) found (Some n) None l is = tt
    at (Some path) found (Some n) (Some verb) true is = tt
    at (Some path) found (Some n) (Some verb) false is =
        tests_pass (is_chunked headers) (nat_lt most_body n) (is_post verb && is_multipart headers) (made target headers path verb) n (omega (arith, target_size target path found, few_of target is))

judged_short : (head : List ℕ) → AllShort (judged head)
unfolding judged
judged_short head = at (nat_lt most_lines (header_lines head)) (head_of head)
  where
    at : (t : Bool) (o : Option RequestHead) → AllShort (refused_if HttpRefusal.HeadTooLarge t >>= λ few. request_in_head o)
    at true o = tt
    at false None = tt
    at false (Some h) = request_short h.method h.target (map header_of h.fields)

abbrev WholeShort : Message → Type 0
WholeShort (Message.Whole q) = IsShort q
WholeShort (Message.Refused cause) = Unit {0}

abbrev FoundShort : Option (Message × ℕ) → Type 0
FoundShort None = Unit {0}
FoundShort (Some x) = WholeShort x.0

behind_short : (end : ℕ) (bytes : List ℕ) (r : Result (Request × ℕ) HttpRefusal) → AllShort r → FoundShort (message_behind end bytes r)
behind_short end bytes (Err cause) short = tt
behind_short end bytes (Ok x) short = at (nat_lt (length bytes) (end + x.1))
  where
    at : (t : Bool) → FoundShort (if t then None else Some (Message.Whole (with_body x.0 (take x.1 (drop end bytes))), end + x.1))
    at true = tt
    at false = short

asked_short : (bytes : List ℕ) → FoundShort (asked bytes)
unfolding asked
asked_short bytes = at (head_end (take most_head bytes))
  where
    far : (t : Bool) → FoundShort (if t then None else Some (Message.Refused HttpRefusal.HeadTooLarge, most_head))
    far true = tt
    far false = tt

    at : (o : Option ℕ) → FoundShort (asked_at bytes o)
    at None = far (nat_lt (length bytes) most_head)
    at (Some end) = behind_short end bytes (judged (take end bytes)) (judged_short (take end bytes))

pub paths_short : PathsAreShort
unfolding one_message
paths_short bytes q e = at (asked bytes) (asked_short bytes) e
  where
    all : (t : Bool) (m : Message) → WholeShort m → (if t then Some m else None) ≡ Some (Message.Whole q) → IsShort q
    all true m short e' = (let same : m ≡ Message.Whole q = cc in subst WholeShort same short)
    all false m short e' = absurd (let bad = e' in cc)

    at : (o : Option (Message × ℕ)) → FoundShort o → only_all bytes o ≡ Some (Message.Whole q) → IsShort q
    at None short e' = absurd (let bad = e' in cc)
    at (Some x) short e' = all (x.1 == length bytes) x.0 short e'
