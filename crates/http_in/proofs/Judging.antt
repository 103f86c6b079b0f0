-- A head, from its parts.
use Rattle.std.proofs.Common.{◌≡◌, ℕ, ◌≤◌, true, false, List, [], length, map, take, drop, Option, Some, None, Err, refl, sym, ap, ◌∙◌, subst, arith}
use Rattle.std.specs.Prelude.{nat_lt}
use Rattle.std.proofs.lemmas.Bool.Decides.{nat_tests}
use Rattle.std.proofs.lemmas.List.{append-nil, drop_all, length-map, length-take}
use Rattle.std.proofs.lemmas.Simd.{map-map}
use Rattle.httparse.specs.declared.spans.HeaderSpan.{HeaderSpan}
use Rattle.httparse.specs.declared.spans.RequestSpans.{RequestSpans}
use Rattle.httparse.specs.Grammar.{RequestHead, ReadsRequest, print_request}
use Rattle.httparse.specs.Spans.{IsRequestAt, IsRequestOf, header_bytes, name_and_value}
use Rattle.http_in.specs.declared.message.HttpRefusal.{HttpRefusal}
use Rattle.http_in.specs.Ends.{begins_with_text, header_lines}
use Rattle.http_in.specs.HeadLaws.{head_is_read, read_is_head, few_fields, plain_lines}
use Rattle.http_in.specs.HeadText.{head_of}
use Rattle.http_in.specs.Headers.{Header, header_by, header_of}
use Rattle.http_in.specs.Messages.{judged, most_lines, request_of}
use Rattle.http_in.specs.Inside.{HasParts}

pub none_unless : (bytes : List ℕ) → header_lines bytes ≤ most_lines → ((h : RequestHead) → ReadsRequest bytes h [] → length h.fields ≤ most_lines → ⊥) → head_of bytes ≡ None
none_unless bytes few never = go (head_of bytes) refl
  where
    go : (o : Option RequestHead) → head_of bytes ≡ o → o ≡ None
    go None e = refl
    go (Some h) e = let reads = head_is_read bytes h e in absurd (never h reads (few_fields bytes h reads few))

pub parts_are : (bytes : List ℕ) (spans : List HeaderSpan) (found : RequestSpans) → IsRequestOf bytes spans found → found.len ≡ length bytes → HasParts bytes spans found
parts_are bytes spans found is all =
    let h = is.0 in
    let none : drop found.len bytes ≡ [] = ap (λ n. drop n bytes) all ∙ drop_all (length bytes) bytes (omega arith) in
    let reads : ReadsRequest bytes h [] = subst (ReadsRequest bytes h) none is.1.reads in
    (h, read_is_head bytes h reads, is.1)

pub read_whole : (bytes : List ℕ) (spans : List HeaderSpan) (found : RequestSpans) (h : RequestHead) → ReadsRequest bytes h [] → IsRequestAt bytes spans found h → found.len ≡ length bytes
read_whole bytes spans found h reads is = is.len ∙ ap length (sym (append-nil (print_request h)) ∙ sym reads.1)

pub headers_are : (bytes : List ℕ) (spans : List HeaderSpan) (h : RequestHead) → map (header_bytes bytes) spans ≡ map name_and_value h.fields → map (λ span. header_by (header_bytes bytes span)) spans ≡ map header_of h.fields
headers_are bytes spans h is = sym (map-map header_by (header_bytes bytes) spans) ∙ ap (map header_by) is ∙ map-map header_by name_and_value h.fields

pub judged_is : (head : List ℕ) (h : RequestHead) (method target : List ℕ) (headers : List Header) → nat_lt most_lines (header_lines head) ≡ false → head_of head ≡ Some h → method ≡ h.method → target ≡ h.target → headers ≡ map header_of h.fields → judged head ≡ request_of method target headers
unfolding judged
judged_is head h method target headers short is m t hs = rw (short, is, m, t, hs) refl

pub judged_bad : (head : List ℕ) → nat_lt most_lines (header_lines head) ≡ false → (header_lines head ≤ most_lines → head_of head ≡ None) → judged head ≡ Err HttpRefusal.BadHead
unfolding judged
judged_bad head short none =
    let few : header_lines head ≤ most_lines = grind (arith, nat_tests, short) in
    rw (short, none few) refl

-- as many spans as fields, and so few lines where no empty line stands before
pub plain_few : (bytes : List ℕ) (spans : List HeaderSpan) (found : RequestSpans) → IsRequestOf bytes spans found → found.len ≡ length bytes → length spans ≡ most_lines → begins_with_text bytes ≡ true → header_lines bytes ≤ most_lines
plain_few bytes spans found is all room plain =
    let h = is.0 in
    let none : drop found.len bytes ≡ [] = ap (λ n. drop n bytes) all ∙ drop_all (length bytes) bytes (omega arith) in
    let reads : ReadsRequest bytes h [] = subst (ReadsRequest bytes h) none is.1.reads in
    let size : length (take found.headers spans) ≡ length h.fields =
    sym (length-map (take found.headers spans) (header_bytes bytes)) ∙ ap length is.1.fields ∙ length-map h.fields name_and_value in
    omega (arith, plain_lines bytes h reads plain, size, length-take found.headers spans, room)
