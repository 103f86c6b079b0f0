-- Laws of messages.
use Rattle.std.proofs.Common.{◌≡◌, ℕ, ◌+◌, ◌-◌, ◌<◌, ◌≤◌, ltb, Bool, true, false, if◌then◌else◌, List, [], ◌++◌, length, length-append, length-drop, append-nil, take, drop, take-append-drop, length-take-le, Option, Some, None, Result, Ok, Err, refl, sym, ap, ◌∙◌, arith}
use Rattle.std.specs.Prelude.{nat_lt}
use Rattle.std.proofs.Math.Seq.{take-append-add}
use Rattle.std.proofs.lemmas.Bool.Decides.{nat_tests}
use Rattle.std.proofs.lemmas.List.{take-append-le, drop-append-le, take_all, length-take, take-take, drop-take}
use Rattle.http_in.specs.declared.message.HttpRefusal.{HttpRefusal}
use Rattle.http_in.specs.declared.message.Message.{Message}
use Rattle.http_in.specs.declared.message.Request.{Request}
use Rattle.http_in.specs.Ends.{head_end, from}
use Rattle.http_in.specs.Inside.{IsPassed}
use Rattle.http_in.specs.EndLaws.{end_stands, end_goes_on, end_in_front}
use Rattle.http_in.specs.Messages.{asked, asked_at, judged, message_behind, most_head, with_body}

abbrev length_of : Option (Message × ℕ) → ℕ
length_of None = 0
length_of (Some x) = x.1

-- ---- a message stands, whatever follows it

-- the front of a longer list goes on
front_more : (n : ℕ) (bytes more : List ℕ) → (x : List ℕ) × (take n (bytes ++ more) ≡ take n bytes ++ x)
front_more n bytes more = go (ltb (length bytes) n) refl
  where
    go : (t : Bool) → ltb (length bytes) n ≡ t → (x : List ℕ) × (take n (bytes ++ more) ≡ take n bytes ++ x)
    go true is =
        let short : length bytes ≤ n = grind (arith, nat_tests) in
        let sum : length bytes + (n - length bytes) ≡ n = omega (arith, short) in
        (take (n - length bytes) more, ap (λ k. take k (bytes ++ more)) (sym sum) ∙ take-append-add bytes more (n - length bytes) ∙ ap (λ (f : List ℕ). f ++ take (n - length bytes) more) (sym (take_all n bytes short)))
    go false is =
        let long : n ≤ length bytes = grind (arith, nat_tests) in
        ([], take-append-le n bytes more long ∙ sym (append-nil (take n bytes)))

pub head_same : (bytes more : List ℕ) (end : ℕ) → head_end (take most_head bytes) ≡ Some end → head_end (take most_head (bytes ++ more)) ≡ Some end
head_same bytes more end is =
    let x = front_more most_head bytes more in
    ap head_end x.1 ∙ end_goes_on (take most_head bytes) x.0 end is

pub head_fits : (bytes : List ℕ) (end : ℕ) → head_end (take most_head bytes) ≡ Some end → (2 ≤ end) × (end ≤ most_head) × (end ≤ length bytes)
head_fits bytes end is =
    let e = end_stands (take most_head bytes) end is in
    let n = length-take most_head bytes in
    (e.least, omega (arith, e.within, n), omega (arith, e.within, n))

behind_stays : (end : ℕ) (bytes more : List ℕ) (r : Result (Request × ℕ) HttpRefusal) (x : Message × ℕ) → end ≤ length bytes → message_behind end bytes r ≡ Some x → message_behind end (bytes ++ more) r ≡ Some x
behind_stays end bytes more (Err cause) x within is = is
behind_stays end bytes more (Ok y) x within is = go (nat_lt (length bytes) (end + y.1)) refl is
  where
    go : (t : Bool) → nat_lt (length bytes) (end + y.1) ≡ t → (if t then None else Some (Message.Whole (with_body y.0 (take y.1 (drop end bytes))), end + y.1)) ≡ Some x → message_behind end (bytes ++ more) (Ok y) ≡ Some x
    go true t e = cc
    go false t e =
        let room : end + y.1 ≤ length bytes = grind (arith, nat_tests) in
        let long : nat_lt (length (bytes ++ more)) (end + y.1) ≡ false = rw (length-append bytes more) (grind (arith, nat_tests)) in
        let rest : y.1 ≤ length (drop end bytes) = omega (arith, length-drop end bytes) in
        let body : take y.1 (drop end (bytes ++ more)) ≡ take y.1 (drop end bytes) = rw (drop-append-le end bytes more within) (take-append-le y.1 (drop end bytes) more rest) in
        rw (long, body) e

pub asked_stays : (bytes more : List ℕ) (x : Message × ℕ) → asked bytes ≡ Some x → asked (bytes ++ more) ≡ Some x
unfolding asked
asked_stays bytes more x is = go (head_end (take most_head bytes)) refl is
  where
    far : (t : Bool) → nat_lt (length bytes) most_head ≡ t → head_end (take most_head bytes) ≡ None → (if t then None else Some (Message.Refused HttpRefusal.HeadTooLarge, most_head)) ≡ Some x → asked_at (bytes ++ more) (head_end (take most_head (bytes ++ more))) ≡ Some x
    far true t none e = cc
    far false t none e =
        let room : most_head ≤ length bytes = grind (arith, nat_tests) in
        let long : nat_lt (length (bytes ++ more)) most_head ≡ false = rw (length-append bytes more) (grind (arith, nat_tests)) in
        rw (take-append-le most_head bytes more room, none, long) e

    go : (o : Option ℕ) → head_end (take most_head bytes) ≡ o → asked_at bytes o ≡ Some x → asked_at (bytes ++ more) (head_end (take most_head (bytes ++ more))) ≡ Some x
    go None none e = far (nat_lt (length bytes) most_head) refl none e
    go (Some end) found e =
        let within = head_fits bytes end found in
        rw (head_same bytes more end found, take-append-le end bytes more within.2) (behind_stays end bytes more (judged (take end bytes)) x within.2 e)

-- ---- a message lies within the bytes

behind_within : (end : ℕ) (bytes : List ℕ) (r : Result (Request × ℕ) HttpRefusal) (x : Message × ℕ) → 2 ≤ end → end ≤ length bytes → message_behind end bytes r ≡ Some x → (0 < x.1) × (x.1 ≤ length bytes)
behind_within end bytes (Err cause) x least within is =
    let same : end ≡ x.1 = ap (λ (o : Option (Message × ℕ)). length_of o) is in
    (omega (arith, same, least), omega (arith, same, within))
behind_within end bytes (Ok y) x least within is = go (nat_lt (length bytes) (end + y.1)) refl is
  where
    go : (t : Bool) → nat_lt (length bytes) (end + y.1) ≡ t → (if t then None else Some (Message.Whole (with_body y.0 (take y.1 (drop end bytes))), end + y.1)) ≡ Some x → (0 < x.1) × (x.1 ≤ length bytes)
    go true t e = cc
    go false t e =
        let room : end + y.1 ≤ length bytes = grind (arith, nat_tests) in
        let same : end + y.1 ≡ x.1 = ap (λ (o : Option (Message × ℕ)). length_of o) e in
        (omega (arith, same, least), omega (arith, same, room))

pub asked_within : (bytes : List ℕ) (x : Message × ℕ) → asked bytes ≡ Some x → (0 < x.1) × (x.1 ≤ length bytes)
unfolding asked
asked_within bytes x is = go (head_end (take most_head bytes)) refl is
  where
    far : (t : Bool) → nat_lt (length bytes) most_head ≡ t → (if t then None else Some (Message.Refused HttpRefusal.HeadTooLarge, most_head)) ≡ Some x → (0 < x.1) × (x.1 ≤ length bytes)
    far true t e = cc
    far false t e =
        let room : most_head ≤ length bytes = grind (arith, nat_tests) in
        let same : most_head ≡ x.1 = ap (λ (o : Option (Message × ℕ)). length_of o) e in
        (omega (arith, same), omega (arith, same, room))

    go : (o : Option ℕ) → head_end (take most_head bytes) ≡ o → asked_at bytes o ≡ Some x → (0 < x.1) × (x.1 ≤ length bytes)
    go None none e = far (nat_lt (length bytes) most_head) refl e
    go (Some end) found e =
        let w = head_fits bytes end found in
        behind_within end bytes (judged (take end bytes)) x w.0 w.2 e

-- ---- what stands behind a head

pub refused_behind : (bytes : List ℕ) (end : ℕ) (cause : HttpRefusal) → head_end (take most_head bytes) ≡ Some end → judged (take end bytes) ≡ Err cause → asked bytes ≡ Some (Message.Refused cause, end)
unfolding asked
refused_behind bytes end cause found is = rw (found, is) refl

pub whole_behind : (bytes : List ℕ) (end size : ℕ) (q : Request) → head_end (take most_head bytes) ≡ Some end → judged (take end bytes) ≡ Ok (q, size) → end + size ≤ length bytes → asked bytes ≡ Some (Message.Whole (with_body q (take size (drop end bytes))), end + size)
unfolding asked
whole_behind bytes end size q found is room =
    let long : nat_lt (length bytes) (end + size) ≡ false = grind (arith, nat_tests) in
    rw (found, is, long) refl

pub waits_behind : (bytes : List ℕ) (end size : ℕ) (q : Request) → head_end (take most_head bytes) ≡ Some end → judged (take end bytes) ≡ Ok (q, size) → length bytes < end + size → asked bytes ≡ None
unfolding asked
waits_behind bytes end size q found is short =
    let long : nat_lt (length bytes) (end + size) ≡ true = grind (arith, nat_tests) in
    rw (found, is, long) refl

pub short_behind : (bytes : List ℕ) (end size : ℕ) (q : Request) → head_end (take most_head bytes) ≡ Some end → judged (take end bytes) ≡ Ok (q, size) → (more : List ℕ) → length (bytes ++ more) < end + size → asked (bytes ++ more) ≡ None
short_behind bytes end size q found is more short =
    let w = head_fits bytes end found in
    let same : judged (take end (bytes ++ more)) ≡ Ok (q, size) = ap judged (take-append-le end bytes more w.2) ∙ is in
    waits_behind (bytes ++ more) end size q (head_same bytes more end found) same short

-- ---- no end of a head

pub none_yet : (bytes : List ℕ) → head_end (take most_head bytes) ≡ None → length bytes < most_head → asked bytes ≡ None
unfolding asked
none_yet bytes none short =
    let few : nat_lt (length bytes) most_head ≡ true = grind (arith, nat_tests) in
    rw (none, few) refl

pub too_large : (bytes : List ℕ) → head_end (take most_head bytes) ≡ None → most_head ≤ length bytes → asked bytes ≡ Some (Message.Refused HttpRefusal.HeadTooLarge, most_head)
unfolding asked
too_large bytes none long =
    let many : nat_lt (length bytes) most_head ≡ false = grind (arith, nat_tests) in
    rw (none, many) refl

-- ---- a search that goes on behind bytes that are passed

abbrev window : List ℕ → List ℕ
window bytes = take most_head bytes

passed_front : (bytes : List ℕ) (clean : ℕ) → clean ≤ most_head → clean ≤ length bytes → IsPassed (take clean bytes) → head_end (window bytes) ≡ from clean (head_end (drop clean (window bytes)))
passed_front bytes clean most within passed =
    let front : take clean (window bytes) ≡ take clean bytes = take-take clean most_head bytes most in
    let split : window bytes ≡ take clean bytes ++ drop clean (window bytes) = sym (take-append-drop clean (window bytes)) ∙ ap (λ (f : List ℕ). f ++ drop clean (window bytes)) front in
    ap head_end split ∙ passed (drop clean (window bytes)) ∙ ap (λ n. from n (head_end (drop clean (window bytes)))) (length-take-le clean bytes within)

pub end_behind : (bytes : List ℕ) (clean end : ℕ) → clean ≤ most_head → clean ≤ length bytes → IsPassed (take clean bytes) → head_end (drop clean (take most_head bytes)) ≡ Some end → head_end (take most_head bytes) ≡ Some (clean + end)
end_behind bytes clean end most within passed found = passed_front bytes clean most within passed ∙ ap (from clean) found

pub none_behind : (bytes : List ℕ) (clean : ℕ) → clean ≤ most_head → clean ≤ length bytes → IsPassed (take clean bytes) → head_end (drop clean (take most_head bytes)) ≡ None → head_end (take most_head bytes) ≡ None
none_behind bytes clean most within passed found = passed_front bytes clean most within passed ∙ ap (from clean) found

-- ---- a message is that one, with nothing behind it

cut_window : (bytes : List ℕ) (end n : ℕ) → head_end (take most_head bytes) ≡ Some end → end ≤ n → head_end (take most_head (take n bytes)) ≡ Some end
cut_window bytes end n found within = go (ltb most_head n) refl
  where
    go : (t : Bool) → ltb most_head n ≡ t → head_end (take most_head (take n bytes)) ≡ Some end
    go true is =
        let more : most_head ≤ n = grind (arith, nat_tests) in
        ap head_end (take-take most_head n bytes more) ∙ found
    go false is =
        let few : n ≤ most_head = grind (arith, nat_tests) in
        let small : length (take n bytes) ≤ most_head = omega (arith, length-take n bytes, few) in
        ap head_end (take_all most_head (take n bytes) small ∙ sym (take-take n most_head bytes few)) ∙ end_in_front (take most_head bytes) end n found within

exact_behind : (bytes : List ℕ) (end : ℕ) (r : Result (Request × ℕ) HttpRefusal) (x : Message × ℕ) → head_end (take most_head bytes) ≡ Some end → end ≤ length bytes → judged (take end bytes) ≡ r → message_behind end bytes r ≡ Some x → asked (take x.1 bytes) ≡ Some x
exact_behind bytes end (Err cause) x found within is e =
    let same : end ≡ x.1 = ap (λ (o : Option (Message × ℕ)). length_of o) e in
    let again : asked (take end bytes) ≡ Some (Message.Refused cause, end) = refused_behind (take end bytes) end cause (cut_window bytes end end found (omega arith)) (ap judged (take-take end end bytes (omega arith)) ∙ is) in
    ap (λ n. asked (take n bytes)) (sym same) ∙ again ∙ e
exact_behind bytes end (Ok y) x found within is e = go (nat_lt (length bytes) (end + y.1)) refl e
  where
    go : (t : Bool) → nat_lt (length bytes) (end + y.1) ≡ t → (if t then None else Some (Message.Whole (with_body y.0 (take y.1 (drop end bytes))), end + y.1)) ≡ Some x → asked (take x.1 bytes) ≡ Some x
    go true t e = cc
    go false t e =
        let room : end + y.1 ≤ length bytes = grind (arith, nat_tests) in
        let same : end + y.1 ≡ x.1 = ap (λ (o : Option (Message × ℕ)). length_of o) e in
        let size : end + y.1 ≤ length (take (end + y.1) bytes) = omega (arith, length-take-le (end + y.1) bytes room) in
        let body : take y.1 (drop end (take (end + y.1) bytes)) ≡ take y.1 (drop end bytes) = ap (take y.1) (drop-take end y.1 bytes) ∙ take-take y.1 y.1 (drop end bytes) (omega arith) in
        let again = whole_behind (take (end + y.1) bytes) end y.1 y.0 (cut_window bytes end (end + y.1) found (omega arith)) (ap judged (take-take end (end + y.1) bytes (omega arith)) ∙ is) size in
        ap (λ n. asked (take n bytes)) (sym same) ∙ again ∙ ap (λ (b : List ℕ). Some (Message.Whole (with_body y.0 b), end + y.1)) body ∙ e

pub asked_exact : (bytes : List ℕ) (x : Message × ℕ) → asked bytes ≡ Some x → asked (take x.1 bytes) ≡ Some x
unfolding asked
asked_exact bytes x is = go (head_end (take most_head bytes)) refl is
  where
    far : (t : Bool) → nat_lt (length bytes) most_head ≡ t → head_end (take most_head bytes) ≡ None → (if t then None else Some (Message.Refused HttpRefusal.HeadTooLarge, most_head)) ≡ Some x → asked (take x.1 bytes) ≡ Some x
    far true t none e = cc
    far false t none e =
        let room : most_head ≤ length bytes = grind (arith, nat_tests) in
        let same : most_head ≡ x.1 = ap (λ (o : Option (Message × ℕ)). length_of o) e in
        let size : most_head ≤ length (take most_head bytes) = omega (arith, length-take-le most_head bytes room) in
        let again : asked (take most_head bytes) ≡ Some (Message.Refused HttpRefusal.HeadTooLarge, most_head) = too_large (take most_head bytes) (ap head_end (take-take most_head most_head bytes (omega arith)) ∙ none) size in
        ap (λ n. asked (take n bytes)) (sym same) ∙ again ∙ e

    go : (o : Option ℕ) → head_end (take most_head bytes) ≡ o → asked_at bytes o ≡ Some x → asked (take x.1 bytes) ≡ Some x
    go None none e = far (nat_lt (length bytes) most_head) refl none e
    go (Some end) found e = exact_behind bytes end (judged (take end bytes)) x found (head_fits bytes end found).2 refl e
