-- Texts that stand at places among bytes.
use Rattle.std.proofs.Common.{◌≡◌, ◌∙◌, ℕ, suc, ◌-◌, ◌<◌, List, [], ◌∷◌, ◌++◌, length, length-append, map, take, drop, get_or, refl, ap, ap₂, sym, subst, arith, String, Global, string_bytes}
use Rattle.std.specs.List.{All}
use Rattle.std.specs.Str.{IsAscii, IsUtf8}
use Rattle.std.specs.Str.Lossy.{utf8_lossy}
use Rattle.std.proofs.Math.Seq.{drop-append_seam, take-length}
use Rattle.std.proofs.lemmas.List.{drop-append-le, get_or-map, length-drop, length-map, map-append, take-append-le}
use Rattle.std.proofs.lemmas.List.Elements.{All-append, All-cons, All-nil}
use Rattle.std.proofs.lemmas.Str.{IsAscii-drop, IsAscii-take, IsUtf8-from_ascii, IsUtf8-string_bytes, utf8_lossy-IsUtf8}
use Rattle.httparse.specs.declared.spans.HeaderSpan.{HeaderSpan}
use Rattle.httparse.specs.declared.spans.Span.{Span}
use Rattle.httparse.specs.Spans.{IsHeaderWithin, IsWithin, header_bytes, span_bytes}
use Rattle.http_in.specs.Headers.{Header, header_by}
use Rattle.http_in.specs.Placed.{IsTextAt, IsTextPlace}

pub lossy_is_text : (s : String Global) (more : List ℕ) → string_bytes s ≡ utf8_lossy more → IsUtf8 (utf8_lossy more)
lossy_is_text s more is = subst IsUtf8 is (IsUtf8-string_bytes s)

-- ---- ASCII

ascii_place : (bytes : List ℕ) (span : Span) → IsAscii bytes → IsWithin (length bytes) span → IsTextPlace bytes span
ascii_place bytes span ascii within = (within, IsUtf8-from_ascii (span_bytes bytes span) (IsAscii-take (drop span.start bytes) (span.end - span.start) (IsAscii-drop bytes span.start ascii)))

pub ascii_places : (bytes : List ℕ) (spans : List HeaderSpan) → IsAscii bytes → All (IsHeaderWithin (length bytes)) spans → All (IsTextAt bytes) spans
ascii_places bytes spans ascii within = λ k d less. (
  ascii_place bytes (get_or spans k d).name ascii (within k d less).0,
  ascii_place bytes (get_or spans k d).value ascii (within k d less).1,
)

pub ascii_same : (bytes head : List ℕ) (spans given : List HeaderSpan) → bytes ≡ head → spans ≡ given → IsAscii head → All (IsHeaderWithin (length head)) given → All (IsTextAt bytes) spans
ascii_same bytes head spans given b s ascii within =
    subst (λ (x : List ℕ). All (IsTextAt x) spans) (sym b) (subst (λ (y : List HeaderSpan). All (IsTextAt head) y) (sym s) (ascii_places head given ascii within))

-- ---- one header more

-- a place among the first bytes holds the same whatever follows
span_stays : (bytes more : List ℕ) (span : Span) → IsWithin (length bytes) span → span_bytes (bytes ++ more) span ≡ span_bytes bytes span
span_stays bytes more span within =
    ap (take (span.end - span.start)) (drop-append-le span.start bytes more (omega (arith, within.0, within.1)))
    ∙ take-append-le (span.end - span.start) (drop span.start bytes) more (omega (arith, length-drop span.start bytes, within.0, within.1))

place_stays : (bytes more : List ℕ) (span : Span) → IsTextPlace bytes span → IsTextPlace (bytes ++ more) span
place_stays bytes more span is = (
  (is.0.0, omega (arith, length-append bytes more, is.0.1)),
  subst IsUtf8 (sym (span_stays bytes more span is.0)) is.1,
)

places_stay : (bytes more : List ℕ) (spans : List HeaderSpan) → All (IsTextAt bytes) spans → All (IsTextAt (bytes ++ more)) spans
places_stay bytes more spans all = λ k d less. (
  place_stays bytes more (get_or spans k d).name (all k d less).0,
  place_stays bytes more (get_or spans k d).value (all k d less).1,
)

-- the headers at these places
abbrev pub headers_in : List ℕ → List HeaderSpan → List Header
headers_in bytes spans = map (λ span. header_by (header_bytes bytes span)) spans

headers_stay : (bytes more : List ℕ) (spans : List HeaderSpan) → All (IsTextAt bytes) spans → headers_in (bytes ++ more) spans ≡ headers_in bytes spans
headers_stay bytes more [] all = refl
headers_stay bytes more (s ∷ spans) all =
    ap₂ (λ (h : Header) (hs : List Header). h ∷ hs)
    (ap₂ (λ (name value : List ℕ). header_by (name, value)) (span_stays bytes more s.name (all 0 s (omega arith)).0.0) (span_stays bytes more s.value (all 0 s (omega arith)).1.0))
    (headers_stay bytes more spans (λ k d less. all (suc k) d (omega (arith, less))))

-- a text that was added at the end stands there
span_at_end : (bytes text : List ℕ) (span : Span) → span.start ≡ length bytes → span.end ≡ length (bytes ++ text) → span_bytes (bytes ++ text) span ≡ text
span_at_end bytes text span start end =
    let size : span.end - span.start ≡ length text = omega (arith, start, end, length-append bytes text) in
    ap₂ (λ (n m : ℕ). take n (drop m (bytes ++ text))) size start ∙ ap (take (length text)) (drop-append_seam bytes text) ∙ take-length text

place_at_end : (bytes text : List ℕ) (span : Span) → span.start ≡ length bytes → span.end ≡ length (bytes ++ text) → IsUtf8 text → IsTextPlace (bytes ++ text) span
place_at_end bytes text span start end is = (
  (omega (arith, start, end, length-append bytes text), omega (arith, end)),
  subst IsUtf8 (sym (span_at_end bytes text span start end)) is,
)

module _ (bytes name value : List ℕ) (spans : List HeaderSpan) (x : HeaderSpan) (all : All (IsTextAt bytes) spans)
    (name_start : x.name.start ≡ length bytes) (name_end : x.name.end ≡ length (bytes ++ name)) (name_text : IsUtf8 name)
    (value_start : x.value.start ≡ length (bytes ++ name)) (value_end : x.value.end ≡ length ((bytes ++ name) ++ value)) (value_text : IsUtf8 value) where
  last : IsTextAt ((bytes ++ name) ++ value) x
  last = (place_stays (bytes ++ name) value x.name (place_at_end bytes name x.name name_start name_end name_text), place_at_end (bytes ++ name) value x.value value_start value_end value_text)

  pub one_more : All (IsTextAt ((bytes ++ name) ++ value)) (spans ++ x ∷ [])
  one_more =
      All-append (IsTextAt ((bytes ++ name) ++ value)) spans (x ∷ []) (places_stay (bytes ++ name) value spans (places_stay bytes name spans all))
      (All-cons (IsTextAt ((bytes ++ name) ++ value)) x [] last (All-nil (IsTextAt ((bytes ++ name) ++ value))))

  name_is : span_bytes ((bytes ++ name) ++ value) x.name ≡ name
  name_is = span_stays (bytes ++ name) value x.name (place_at_end bytes name x.name name_start name_end name_text).0 ∙ span_at_end bytes name x.name name_start name_end

  pub seen_more : headers_in ((bytes ++ name) ++ value) (spans ++ x ∷ []) ≡ headers_in bytes spans ++ header_by (name, value) ∷ []
  seen_more =
      map-append (λ span. header_by (header_bytes ((bytes ++ name) ++ value) span)) spans (x ∷ [])
      ∙ ap₂ (λ (hs : List Header) (h : Header). hs ++ h ∷ [])
      (headers_stay (bytes ++ name) value spans (places_stay bytes name spans all) ∙ headers_stay bytes name spans all)
      (ap₂ (λ (n v : List ℕ). header_by (n, v)) name_is (span_at_end (bytes ++ name) value x.value value_start value_end))

pub with_one : (bytes b1 b2 name value : List ℕ) (spans more : List HeaderSpan) (x : HeaderSpan) → b1 ≡ bytes ++ name → b2 ≡ b1 ++ value → more ≡ spans ++ x ∷ [] → All (IsTextAt bytes) spans
    → x.name.start ≡ length bytes → x.name.end ≡ length b1 → IsUtf8 name → x.value.start ≡ length b1 → x.value.end ≡ length b2 → IsUtf8 value
    → All (IsTextAt b2) more × (headers_in b2 more ≡ headers_in bytes spans ++ header_by (name, value) ∷ [])
with_one bytes b1 b2 name value spans more x first second pushed all name_start name_end name_text value_start value_end value_text =
    let whole : b2 ≡ (bytes ++ name) ++ value = second ∙ ap (λ (b : List ℕ). b ++ value) first in
    let n_end : x.name.end ≡ length (bytes ++ name) = name_end ∙ ap length first in
    let v_start : x.value.start ≡ length (bytes ++ name) = value_start ∙ ap length first in
    let v_end : x.value.end ≡ length ((bytes ++ name) ++ value) = value_end ∙ ap length whole in
    subst (λ (b : List ℕ). All (IsTextAt b) more × (headers_in b more ≡ headers_in bytes spans ++ header_by (name, value) ∷ [])) (sym whole)
    (subst (λ (s : List HeaderSpan). All (IsTextAt ((bytes ++ name) ++ value)) s × (headers_in ((bytes ++ name) ++ value) s ≡ headers_in bytes spans ++ header_by (name, value) ∷ [])) (sym pushed)
    (one_more bytes name value spans x all name_start n_end name_text v_start v_end value_text, seen_more bytes name value spans x all name_start n_end name_text v_start v_end value_text))

-- text is made text once
pub made_once : (name value : List ℕ) → IsUtf8 (utf8_lossy name) → IsUtf8 (utf8_lossy value) → header_by (utf8_lossy name, utf8_lossy value) ≡ header_by (name, value)
made_once name value n v = ap₂ make (utf8_lossy-IsUtf8 (utf8_lossy name) n) (utf8_lossy-IsUtf8 (utf8_lossy value) v)
  where
    make : List ℕ → List ℕ → Header
    make a b = record { name = a; value = b }

-- ---- a header at a place

pub placed_header : (bytes : List ℕ) (spans : List HeaderSpan) (at : ℕ) (d : Header) (e : HeaderSpan) → at < length spans → get_or (headers_in bytes spans) at d ≡ header_by (header_bytes bytes (get_or spans at e))
placed_header bytes spans at d e less = get_or-map (λ span. header_by (header_bytes bytes span)) spans at e d less

pub placed_name : (bytes : List ℕ) (spans : List HeaderSpan) (at : ℕ) (d : Header) (e : HeaderSpan) → All (IsTextAt bytes) spans → at < length spans → span_bytes bytes (get_or spans at e).name ≡ (get_or (headers_in bytes spans) at d).name
placed_name bytes spans at d e all less = sym (ap (λ (h : Header). h.name) (placed_header bytes spans at d e less) ∙ utf8_lossy-IsUtf8 (span_bytes bytes (get_or spans at e).name) (all at e less).0.1)

pub placed_value : (bytes : List ℕ) (spans : List HeaderSpan) (at : ℕ) (d : Header) (e : HeaderSpan) → All (IsTextAt bytes) spans → at < length spans → span_bytes bytes (get_or spans at e).value ≡ (get_or (headers_in bytes spans) at d).value
placed_value bytes spans at d e all less = sym (ap (λ (h : Header). h.value) (placed_header bytes spans at d e less) ∙ utf8_lossy-IsUtf8 (span_bytes bytes (get_or spans at e).value) (all at e less).1.1)

abbrev pub no_header : Header
no_header = record { name = []; value = [] }

pub name_seen : (bytes : List ℕ) (spans : List HeaderSpan) (all : List Header) (at : ℕ) (x : HeaderSpan) (text slice : List ℕ) → headers_in bytes spans ≡ all → All (IsTextAt bytes) spans → at < length all
    → x ≡ get_or spans at x → slice ≡ bytes → text ≡ span_bytes slice x.name → (d : Header) → text ≡ (get_or all at d).name
name_seen bytes spans all at x text slice view texts less here same is d =
    let size : length spans ≡ length all = sym (length-map spans (λ span. header_by (header_bytes bytes span))) ∙ ap length view in
    let within : at < length spans = omega (arith, size, less) in
    is ∙ ap₂ (λ (b : List ℕ) (h : HeaderSpan). span_bytes b h.name) same here ∙ placed_name bytes spans at d x texts within ∙ ap (λ (hs : List Header). (get_or hs at d).name) view

pub value_seen : (bytes : List ℕ) (spans : List HeaderSpan) (all : List Header) (at : ℕ) (x : HeaderSpan) (text slice : List ℕ) → headers_in bytes spans ≡ all → All (IsTextAt bytes) spans → at < length all
    → x ≡ get_or spans at x → slice ≡ bytes → text ≡ span_bytes slice x.value → (d : Header) → text ≡ (get_or all at d).value
value_seen bytes spans all at x text slice view texts less here same is d =
    let size : length spans ≡ length all = sym (length-map spans (λ span. header_by (header_bytes bytes span))) ∙ ap length view in
    let within : at < length spans = omega (arith, size, less) in
    is ∙ ap₂ (λ (b : List ℕ) (h : HeaderSpan). span_bytes b h.value) same here ∙ placed_value bytes spans at d x texts within ∙ ap (λ (hs : List Header). (get_or hs at d).value) view
