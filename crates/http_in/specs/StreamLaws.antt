-- Laws of streams.
use Rattle.std.proofs.Common.{◌≡◌, ℕ, ◌≢◌, ◌==◌, Bool, true, false, if◌then◌else◌, List, [], ◌∷◌, ◌++◌, length, length-append, length-take-le, take, drop, Option, Some, None, refl, sym, ap, ap₂, ◌∙◌, subst, eqb-true, eq-eqb, arith}
use Rattle.std.proofs.Math.Seq.{drop-append_seam}
use Rattle.std.proofs.lemmas.Bool.{ne_eqb}
use Rattle.std.proofs.lemmas.List.{drop-append-le, take-append-le}
use Rattle.http_in.specs.declared.message.Message.{Message}
use Rattle.http_in.specs.Laws.{FrontIsNone, MessagesAreOne, NextIsRead, NoneBefore, NoneBeginsAnother, OneReading, PiecesGoOn, Reads, UnreadIsNothing}
use Rattle.http_in.specs.Messages.{asked, one_message, only_all}
use Rattle.http_in.specs.MessageLaws.{asked_exact, asked_stays, asked_within}

all_of : (bytes : List ℕ) (o : Option (Message × ℕ)) (m : Message) → only_all bytes o ≡ Some m → o ≡ Some (m, length bytes)
all_of bytes None m is = cc
all_of bytes (Some x) m is = go (x.1 == length bytes) refl is
  where
    go : (t : Bool) → (x.1 == length bytes) ≡ t → (if t then Some x.0 else None) ≡ Some m → Some x ≡ Some (m, length bytes)
    go true t e =
        let same : x.0 ≡ m = cc in
        let size = eqb-true x.1 (length bytes) t in
        ap₂ (λ (k : Message) (n : ℕ). Some (k, n)) same size
    go false t e = cc

pub asked_whole : (bytes : List ℕ) (m : Message) → one_message bytes ≡ Some m → asked bytes ≡ Some (m, length bytes)
unfolding one_message
asked_whole bytes m is = all_of bytes (asked bytes) m is

pub whole_asked : (bytes : List ℕ) (m : Message) → asked bytes ≡ Some (m, length bytes) → one_message bytes ≡ Some m
unfolding one_message
whole_asked bytes m is = rw (is, eq-eqb (length bytes) (length bytes) refl) refl

pub messages_are_one : MessagesAreOne
messages_are_one bytes x is =
    let w = asked_within bytes x is in
    let size : length (take x.1 bytes) ≡ x.1 = length-take-le x.1 bytes w.1 in
    (w.0, w.1, whole_asked (take x.1 bytes) x.0 (asked_exact bytes x is ∙ ap (λ n. Some (x.0, n)) (sym size)))

abbrev size_of : Option (Message × ℕ) → ℕ
size_of None = 0
size_of (Some x) = x.1

abbrev first_of : Message → Option (Message × ℕ) → Message
first_of m None = m
first_of m (Some x) = x.0

no_more : (more : List ℕ) → length more ≡ 0 → more ≡ []
no_more [] is = refl
no_more (b ∷ more) is = absurd (omega (arith, is))

pub none_begins : NoneBeginsAnother
none_begins first more m k is other =
    let whole = asked_whole (first ++ more) k other in
    let front = asked_stays first more (m, length first) (asked_whole first m is) in
    let same : length first ≡ length (first ++ more) = ap size_of (sym front ∙ whole) in
    no_more more (omega (arith, same, length-append first more))

pub pieces_go_on : PiecesGoOn
pieces_go_on stream piece rest [] reads = ap (λ (s : List ℕ). s ++ piece) reads
pieces_go_on stream piece rest (m ∷ ms) reads =
    let w = asked_within stream (m, reads.0) reads.1 in (
      reads.0,
      asked_stays stream piece (m, reads.0) reads.1,
      subst (λ (s : List ℕ). Reads s ms (rest ++ piece)) (sym (drop-append-le reads.0 stream piece w.1)) (pieces_go_on (drop reads.0 stream) piece rest ms reads.2),
    )

pub next_is_read : NextIsRead
next_is_read stream taken rest [] m reads found = (length taken, ap asked reads ∙ found, ap (drop (length taken)) reads ∙ drop-append_seam taken rest)
next_is_read stream taken rest (k ∷ ms) m reads found = (reads.0, reads.1, next_is_read (drop reads.0 stream) taken rest ms m reads.2 found)

pub one_reading : OneReading
one_reading stream rest other [] [] reads none reads' none' = (refl, sym reads ∙ reads')
one_reading stream rest other [] (k ∷ ks) reads none reads' none' = let e : asked stream ≡ None = ap asked reads ∙ none in let f = reads'.1 in absurd (none_some (sym e ∙ f))
  where
    none_some : {x : Message × ℕ} → None ≡ Some x → ⊥
    none_some e = cc
one_reading stream rest other (m ∷ ms) [] reads none reads' none' = let e : asked stream ≡ None = ap asked reads' ∙ none' in let f = reads.1 in absurd (none_some (sym e ∙ f))
  where
    none_some : {x : Message × ℕ} → None ≡ Some x → ⊥
    none_some e = cc
one_reading stream rest other (m ∷ ms) (k ∷ ks) reads none reads' none' =
    let same : Some (m, reads.0) ≡ Some (k, reads'.0) = sym reads.1 ∙ reads'.1 in
    let message : m ≡ k = ap (first_of m) same in
    let size : reads.0 ≡ reads'.0 = ap size_of same in
    let deeper = one_reading (drop reads.0 stream) rest other ms ks reads.2 none (subst (λ n. Reads (drop n stream) ks other) (sym size) reads'.2) none' in
    (ap₂ (λ (x : Message) (xs : List Message). x ∷ xs) message deeper.0, deeper.1)

pub front_is_none : FrontIsNone
front_is_none front more m is some = go (asked front) refl
  where
    go : (o : Option (Message × ℕ)) → asked front ≡ o → asked front ≡ None
    go None e = e
    go (Some x) e =
        let whole : asked (front ++ more) ≡ Some (m, length (front ++ more)) = asked_whole (front ++ more) m is in
        let same : x.1 ≡ length (front ++ more) = ap size_of (sym (asked_stays front more x e) ∙ whole) in
        absurd (omega (arith, same, length-append front more, some, (asked_within front x e).1))

pub unread_is_nothing : UnreadIsNothing
unread_is_nothing read unread x is = (asked_stays read unread x is, take-append-le x.1 read unread (asked_within read x is).1)

pub none_before : NoneBefore
none_before read more none = go (asked read) refl
  where
    apart : {x : Message × ℕ} → None ≡ Some x → ⊥
    apart e = cc

    go : (o : Option (Message × ℕ)) → asked read ≡ o → asked read ≡ None
    go None e = e
    go (Some x) e = absurd (apart (sym none ∙ asked_stays read more x e))

-- ---- the one message that bytes are, by what they begin with

pub none_asked : (bytes : List ℕ) → asked bytes ≡ None → one_message bytes ≡ None
unfolding one_message
none_asked bytes is = rw is refl

pub part_asked : (bytes : List ℕ) (m : Message) (n : ℕ) → asked bytes ≡ Some (m, n) → n ≢ length bytes → one_message bytes ≡ None
unfolding one_message
part_asked bytes m n is other = rw (is, ne_eqb n (length bytes) other) refl
