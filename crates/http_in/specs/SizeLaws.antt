-- How long a message can be.
use Rattle.std.proofs.Common.{◌≡◌, ℕ, ◌+◌, ◌<◌, ◌≤◌, ◌&&◌, Bool, true, false, cond, List, [], ◌∷◌, length, length-append, take, drop, map, Option, Some, None, Result, Ok, Err, refl, ap, arith}
use Rattle.std.specs.Prelude.{nat_lt}
use Rattle.std.specs.List.{All, concat}
use Rattle.std.proofs.lemmas.Bool.Decides.{nat_tests}
use Rattle.std.proofs.lemmas.List.Elements.{All-head, All-tail}
use Rattle.httparse.specs.Grammar.{RequestHead}
use Rattle.http_in.specs.declared.message.HttpRefusal.{HttpRefusal}
use Rattle.http_in.specs.declared.message.Message.{Message}
use Rattle.http_in.specs.declared.message.Request.{Request}
use Rattle.http_in.specs.declared.message.Verb.{Verb}
use Rattle.http_in.specs.Ends.{head_end, header_lines}
use Rattle.http_in.specs.HeadText.{head_of}
use Rattle.http_in.specs.Headers.{Header, body_length, header_of, is_chunked, is_multipart, lossy}
use Rattle.http_in.specs.Paths.{query_of, raw_of}
use Rattle.http_in.specs.Laws.{FewReads, LongEnough, LongestMessage}
use Rattle.http_in.specs.MessageLaws.{head_fits}
use Rattle.http_in.specs.Messages.{◌>>=◌, asked, asked_at, is_long, is_post, judged, message_behind, most_body, most_head, most_lines, most_message, or_refused, path_in, refused_if, request_in_head, request_of, verb_of, with_body}

abbrev size_in : Result (Request × ℕ) HttpRefusal → ℕ
size_in (Ok x) = x.1
size_in (Err cause) = 0

behind_body : (t m : Bool) (size : ℕ) (q : Request) (x : Request × ℕ) → nat_lt most_body size ≡ t → (refused_if HttpRefusal.BodyTooLarge t >>= λ fits. refused_if HttpRefusal.Multipart m >>= λ single. Ok (q, size)) ≡ Ok x → x.1 ≤ most_body
behind_body true m size q x test is = cc
behind_body false true size q x test is = cc
behind_body false false size q x test is =
    let same : size ≡ x.1 = ap size_in is in
    let small : size ≤ most_body = grind (arith, nat_tests) in
    omega (arith, same, small)

behind_tests : (l c : Bool) (m : Bool) (size : ℕ) (q : Request) (x : Request × ℕ) → (refused_if HttpRefusal.PathTooLong l >>= λ short. refused_if HttpRefusal.Chunked c >>= λ whole. refused_if HttpRefusal.BodyTooLarge (nat_lt most_body size) >>= λ fits. refused_if HttpRefusal.Multipart m >>= λ single. Ok (q, size)) ≡ Ok x → x.1 ≤ most_body
behind_tests true c m size q x is = cc
behind_tests false true m size q x is = cc
behind_tests false false m size q x is = behind_body (nat_lt most_body size) m size q x refl is

abbrev pub made : List ℕ → List Header → List (List ℕ) → Verb → Request
made target headers path verb = record { method = verb; path = path; raw = lossy (raw_of target); query = lossy (query_of target); headers = headers; body = [] }

request_small : (method target : List ℕ) (headers : List Header) (x : Request × ℕ) → request_of method target headers ≡ Ok x → x.1 ≤ most_body
unfolding request_of
request_small method target headers x is = go (path_in target) (body_length headers) (verb_of method) is
  where
    go : (p : Option (List (List ℕ))) (s : Option ℕ) (v : Option Verb) → (or_refused HttpRefusal.BadHead p >>= λ path. or_refused HttpRefusal.BadHead s >>= λ size. or_refused HttpRefusal.Method v >>= λ verb. refused_if HttpRefusal.PathTooLong (is_long target) >>= λ short. refused_if HttpRefusal.Chunked (is_chunked headers) >>= λ whole. refused_if HttpRefusal.BodyTooLarge (nat_lt most_body size) >>= λ fits. refused_if HttpRefusal.Multipart (is_post verb && is_multipart headers) >>= λ single. Ok (made target headers path verb, size)) ≡ Ok x → x.1 ≤ most_body
    go None s v e = cc
    go (Some path) None v e = cc
    go (Some path) (Some size) None e = cc
    go (Some path) (Some size) (Some verb) e = behind_tests (is_long target) (is_chunked headers) (is_post verb && is_multipart headers) size (made target headers path verb) x e

judged_small : (head : List ℕ) (x : Request × ℕ) → judged head ≡ Ok x → x.1 ≤ most_body
unfolding judged
judged_small head x is = go (nat_lt most_lines (header_lines head)) (head_of head) is
  where
    go : (t : Bool) (o : Option RequestHead) → (refused_if HttpRefusal.HeadTooLarge t >>= λ few. request_in_head o) ≡ Ok x → x.1 ≤ most_body
    go true o e = cc
    go false None e = cc
    go false (Some h) e = request_small h.method h.target (map header_of h.fields) x e

pub long_enough : LongEnough
unfolding asked
long_enough bytes is = go (head_end (take most_head bytes)) refl is
  where
    far : (t : Bool) → nat_lt (length bytes) most_head ≡ t → cond {A = Option (Message × ℕ)} t None (Some (Message.Refused HttpRefusal.HeadTooLarge, most_head)) ≡ None → length bytes < most_message
    far true t e = let short : length bytes < most_head = grind (arith, nat_tests) in omega (arith, short)
    far false t e = cc

    size : (t : Bool) (end : ℕ) (y : Request × ℕ) → nat_lt (length bytes) (end + y.1) ≡ t → end ≤ most_head → y.1 ≤ most_body → cond {A = Option (Message × ℕ)} t None (Some (Message.Whole (with_body y.0 (take y.1 (drop end bytes))), end + y.1)) ≡ None → length bytes < most_message
    size true end y t within small e = let short : length bytes < end + y.1 = grind (arith, nat_tests) in omega (arith, short, within, small)
    size false end y t within small e = cc

    behind : (end : ℕ) (r : Result (Request × ℕ) HttpRefusal) → end ≤ most_head → judged (take end bytes) ≡ r → message_behind end bytes r ≡ None → length bytes < most_message
    behind end (Err cause) within j e = cc
    behind end (Ok y) within j e = size (nat_lt (length bytes) (end + y.1)) end y refl within (judged_small (take end bytes) y j) e

    go : (o : Option ℕ) → head_end (take most_head bytes) ≡ o → asked_at bytes o ≡ None → length bytes < most_message
    go None none e = far (nat_lt (length bytes) most_head) refl e
    go (Some end) found e = behind end (judged (take end bytes)) (head_fits bytes end found).1 refl e

abbrev size_of : Option (Message × ℕ) → ℕ
size_of None = 0
size_of (Some x) = x.1

behind_small : (end : ℕ) (bytes : List ℕ) (r : Result (Request × ℕ) HttpRefusal) (x : Message × ℕ) → end ≤ most_head → judged (take end bytes) ≡ r → message_behind end bytes r ≡ Some x → x.1 ≤ most_message
behind_small end bytes (Err cause) x within j is =
    let same : end ≡ x.1 = ap size_of is in
    omega (arith, same, within)
behind_small end bytes (Ok y) x within j is = go (nat_lt (length bytes) (end + y.1)) is
  where
    go : (t : Bool) → cond {A = Option (Message × ℕ)} t None (Some (Message.Whole (with_body y.0 (take y.1 (drop end bytes))), end + y.1)) ≡ Some x → x.1 ≤ most_message
    go true e = cc
    go false e =
        let same : end + y.1 ≡ x.1 = ap size_of e in
        omega (arith, same, within, judged_small (take end bytes) y j)

pub longest_message : LongestMessage
unfolding asked
longest_message bytes x is = go (head_end (take most_head bytes)) refl is
  where
    far : (t : Bool) → cond {A = Option (Message × ℕ)} t None (Some (Message.Refused HttpRefusal.HeadTooLarge, most_head)) ≡ Some x → x.1 ≤ most_message
    far true e = cc
    far false e =
        let same : most_head ≡ x.1 = ap size_of e in
        omega (arith, same)

    go : (o : Option ℕ) → head_end (take most_head bytes) ≡ o → asked_at bytes o ≡ Some x → x.1 ≤ most_message
    go None none e = far (nat_lt (length bytes) most_head) e
    go (Some end) found e = behind_small end bytes (judged (take end bytes)) x (head_fits bytes end found).1 refl e

long_pieces : (pieces : List (List ℕ)) → All (λ piece. 0 < length piece) pieces → length pieces ≤ length (concat pieces)
long_pieces [] all = omega arith
long_pieces (piece ∷ pieces) all =
    let here : 0 < length piece = All-head (λ piece. 0 < length piece) piece pieces all in
    let rest = long_pieces pieces (All-tail (λ piece. 0 < length piece) piece pieces all) in
    omega (arith, here, rest, length-append piece (concat pieces))

pub few_reads : FewReads
few_reads pieces all none = omega (arith, long_pieces pieces all, long_enough (concat pieces) none)
