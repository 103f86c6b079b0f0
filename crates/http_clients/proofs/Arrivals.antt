-- Connections arrive, one after another.
use Rattle.std.proofs.Common.{◌≡◌, ℕ, ◌+◌, ◌≤◌, Bool, true, false, List, [], ◌∷◌, ◌++◌, map, length, length-append, append_assoc, append-nil, if◌then◌else◌, nat_lt, Option, Some, None, refl, sym, ap, ◌∙◌, subst, arith, inl, inr}
use Rattle.std.proofs.Common.{Result, Ok}
use Rattle.std.specs.Prelude.{◌⊎◌, IsErrOf}
use Rattle.zbase.specs.Faults.{Counter, Counts, counts_as, counts_then}
use Rattle.zio.specs.declared.refusal.OutsideRefusal.{OutsideRefusal}
use Rattle.std.specs.List.{list_any}
use Rattle.std.proofs.lemmas.List.{map-append}
use Rattle.http_in.specs.Messages.{one_message}
use Rattle.zio.specs.Hubs.{Accepts, Connection, Peers, has_number, opened}
use Rattle.zio.specs.HubCalls.{Accepted}
use Rattle.http_clients.specs.declared.asked.Asked.{Asked}
use Rattle.http_clients.specs.Arriving.{Admits, AreMessages, Arrived, ArrivedBut, Enters, IsOpen, IsSilent, Leaves, LeavesUnheard, Stands, Tells, bytes_of}
use Rattle.http_clients.specs.Hearing.{AsksFor, Hearing, Passes, PassesUnheard, TellsStill, message_front}
use Rattle.http_clients.specs.Ending.{AreOpen, WereOpen}
use Rattle.http_clients.specs.Clients.{Client, held}
use Rattle.http_clients.specs.Numbers.{Among, Distinct}
use Rattle.http_clients.proofs.Hears.{named}

-- ---- numbers

pub among_either : (w : ℕ) (xs ys : List ℕ) → Among w (xs ++ ys) → Among w xs ⊎ Among w ys
among_either w [] ys a = inr a
among_either w (x ∷ xs) ys (inl e) = inl (inl e)
among_either w (x ∷ xs) ys (inr a) = elim (among_either w xs ys a) [ inl b ↦ inl (inr b) | inr b ↦ inr b ]

pub distinct_last : (xs : List ℕ) (w : ℕ) → Distinct xs → (Among w xs → ⊥) → Distinct (xs ++ w ∷ [])
distinct_last [] w d none = ((λ a. a), tt)
distinct_last (x ∷ xs) w d none = (
  λ among. elim (among_either x xs (w ∷ []) among) [ inl a ↦ d.0 a | inr b ↦ elim b [ inl e ↦ none (inl (sym e)) | inr n ↦ n ] ],
  distinct_last xs w d.1 (λ a. none (inr a)),
)

-- ---- connections of a number

pub none_left : (n : ℕ) (xs ys : List Connection) → list_any (has_number n) (xs ++ ys) ≡ false → list_any (has_number n) xs ≡ false
none_left n [] ys none = refl
none_left n (x ∷ xs) ys none = go (has_number n x) refl (none_left n xs ys)
  where
    go : (b : Bool) → has_number n x ≡ b → (list_any (has_number n) (xs ++ ys) ≡ false → list_any (has_number n) xs ≡ false) → list_any (has_number n) (x ∷ xs) ≡ false
    go false is rest = rw is (rest (rw is at none))
    go true is rest = absurd (let bad : true ≡ false = rw is at none in cc)

pub none_right : (n : ℕ) (xs ys : List Connection) → list_any (has_number n) (xs ++ ys) ≡ false → list_any (has_number n) ys ≡ false
none_right n [] ys none = none
none_right n (x ∷ xs) ys none = go (has_number n x) refl (none_right n xs ys)
  where
    go : (b : Bool) → has_number n x ≡ b → (list_any (has_number n) (xs ++ ys) ≡ false → list_any (has_number n) ys ≡ false) → list_any (has_number n) ys ≡ false
    go false is rest = rest (rw is at none)
    go true is rest = absurd (let bad : true ≡ false = rw is at none in cc)

pub none_both : (n : ℕ) (xs ys : List Connection) → list_any (has_number n) xs ≡ false → list_any (has_number n) ys ≡ false → list_any (has_number n) (xs ++ ys) ≡ false
none_both n [] ys none other = other
none_both n (x ∷ xs) ys none other = go (has_number n x) refl (λ here. none_both n xs ys here other)
  where
    go : (b : Bool) → has_number n x ≡ b → (list_any (has_number n) xs ≡ false → list_any (has_number n) (xs ++ ys) ≡ false) → list_any (has_number n) (x ∷ xs ++ ys) ≡ false
    go false is rest = rw is (rest (rw is at none))
    go true is rest = absurd (let bad : true ≡ false = rw is at none in cc)

any_tail : (n : ℕ) (x : Connection) (xs : List Connection) → list_any (has_number n) xs ≡ true → list_any (has_number n) (x ∷ xs) ≡ true
any_tail n x xs some = go (has_number n x) refl
  where
    go : (b : Bool) → has_number n x ≡ b → list_any (has_number n) (x ∷ xs) ≡ true
    go false is = rw is some
    go true is = rw is refl

any_right : (n : ℕ) (xs ys : List Connection) → list_any (has_number n) ys ≡ true → list_any (has_number n) (xs ++ ys) ≡ true
any_right n [] ys some = some
any_right n (x ∷ xs) ys some = any_tail n x (xs ++ ys) (any_right n xs ys some)

any_left : (n : ℕ) (xs ys : List Connection) → list_any (has_number n) xs ≡ true → list_any (has_number n) (xs ++ ys) ≡ true
any_left n [] ys some = absurd cc
any_left n (x ∷ xs) ys some = go (has_number n x) refl (any_left n xs ys)
  where
    go : (b : Bool) → has_number n x ≡ b → (list_any (has_number n) xs ≡ true → list_any (has_number n) (xs ++ ys) ≡ true) → list_any (has_number n) (x ∷ xs ++ ys) ≡ true
    go false is rest = rw is (rest (rw is at some))
    go true is rest = rw is refl

abbrev ends : List Client → List Connection
ends cs = map (λ c. c.end) cs

among_open : (ns : List ℕ) (ms : List (List ℕ)) (cs : List Client) (n : ℕ) → Stands ns ms cs → Among n ns → list_any (has_number n) (ends cs) ≡ true
among_open ns ms [] n (none, e) a = absurd (subst (Among n) none a)
among_open ns ms (c ∷ cs) n (inl (silent, rest)) a = any_tail n c.end (ends cs) (among_open ns ms cs n rest a)
among_open ns ms (c ∷ cs) n (inr (k, ks, m, more, is, e, o, rest)) a = elim (subst (Among n) is a) [
  | inl same ↦ (let name : has_number n c.end ≡ true = named n c.end (o.number ∙ sym same) o.open_still in rw name refl)
  | inr b ↦ any_tail n c.end (ends cs) (among_open ks more cs n rest b)
]

-- ---- one more

pub stands_silent : (ns : List ℕ) (ms : List (List ℕ)) (cs : List Client) (c : Client) → Stands ns ms cs → IsSilent c → Stands ns ms (cs ++ c ∷ [])
stands_silent ns ms [] c (e, f) s = inl (s, (e, f))
stands_silent ns ms (d ∷ cs) c (inl (t, rest)) s = inl (t, stands_silent ns ms cs c rest s)
stands_silent ns ms (d ∷ cs) c (inr (k, ks, m, more, is, e, o, rest)) s = inr (k, ks, m, more, is, e, o, stands_silent ks more cs c rest s)

pub stands_open : (ns : List ℕ) (ms : List (List ℕ)) (n : ℕ) (m : List ℕ) (cs : List Client) (c : Client) → Stands ns ms cs → IsOpen n m c → Stands (ns ++ n ∷ []) (ms ++ m ∷ []) (cs ++ c ∷ [])
stands_open ns ms n m [] c (e, f) o = inr (n, [], m, [], ap (λ xs. xs ++ n ∷ []) e, ap (λ xs. xs ++ m ∷ []) f, o, (refl, refl))
stands_open ns ms n m (d ∷ cs) c (inl (t, rest)) o = inl (t, stands_open ns ms n m cs c rest o)
stands_open ns ms n m (d ∷ cs) c (inr (k, ks, l, more, is, e, p, rest)) o = inr (k, ks ++ n ∷ [], l, more ++ m ∷ [], ap (λ xs. xs ++ n ∷ []) is, ap (λ xs. xs ++ m ∷ []) e, p, stands_open ks more n m cs c rest o)

came_on : (p q r : Peers) (cs : List Client) (c : Client) (bytes : List ℕ) → p.coming ≡ map held cs ++ q.coming → q.coming ≡ bytes ∷ r.coming → bytes ≡ held c → p.coming ≡ map held (cs ++ c ∷ []) ++ r.coming
came_on p q r cs c bytes before next is =
    before ∙ ap (λ (xs : List (List ℕ)). map held cs ++ xs) (next ∙ ap (λ (b : List ℕ). b ∷ r.coming) is)
    ∙ sym (append_assoc (map held cs) (held c ∷ []) r.coming) ∙ ap (λ (xs : List (List ℕ)). xs ++ r.coming) (sym (map-append held cs (c ∷ [])))

accepted_on : (p q r : Peers) (cs : List Client) (c : Client) → q.accepted ≡ p.accepted ++ ends cs → r.accepted ≡ q.accepted ++ c.end ∷ [] → r.accepted ≡ p.accepted ++ ends (cs ++ c ∷ [])
accepted_on p q r cs c before last =
    last ∙ ap (λ (xs : List Connection). xs ++ c.end ∷ []) before ∙ append_assoc p.accepted (ends cs) (c.end ∷ [])
    ∙ ap (λ (xs : List Connection). p.accepted ++ xs) (sym (map-append (λ (x : Client). x.end) cs (c ∷ [])))

one_longer : (cs : List Client) (c : Client) (count : ℕ) → length cs ≡ count → length (cs ++ c ∷ []) ≡ count + 1
one_longer cs c count many = length-append cs (c ∷ []) ∙ ap (λ k. k + 1) many

heard_calm : (given left : List ℕ) (k : ℕ) → k ≡ 0 → (if nat_lt 0 k then given else given ++ left) ≡ given ++ left
heard_calm given left k calm = rw calm refl

pub arrived_none : (p : Peers) → Arrived p p [] [] 0
arrived_none p = record { clients = []; port = refl; came = refl; accepted = sym (append-nil p.accepted); stands = (refl, refl); distinct = tt; apart = (λ n a. absurd a); many = refl }

arrived_open : (n count : ℕ) (m : List ℕ) (ns : List ℕ) (ms : List (List ℕ)) (p q r : Peers) → Arrived p q ns ms count → Enters n m q r → Arrived p r (ns ++ n ∷ []) (ms ++ m ∷ []) (count + 1)
arrived_open n count m ns ms p q r a (bytes, next, port, fresh, (given, h, front)) =
    let c : Client = record { given = given; end = h.connection } in
    let was = a.accepted in
    let none : list_any (has_number n) (p.accepted ++ ends a.clients) ≡ false = subst (λ (xs : List Connection). list_any (has_number n) xs ≡ false) was fresh in
    record {
      clients = a.clients ++ c ∷ [];
      port = port ∙ a.port;
      came = came_on p q r a.clients c bytes a.came next h.held;
      accepted = accepted_on p q r a.clients c was h.last;
      stands = stands_open ns ms n m a.clients c a.stands (record { asks = ap message_front (heard_calm given h.connection.left h.connection.read_faults h.calm.0 ∙ sym h.held) ∙ front; number = h.number; open_still = h.open_still; unwritten = h.unwritten; calm = h.calm.1 });
      distinct = distinct_last ns n a.distinct (λ among. taken (sym (none_right n p.accepted (ends a.clients) none) ∙ among_open ns ms a.clients n a.stands among));
      apart = λ k among. elim (among_either k ns (n ∷ []) among) [
        | inl b ↦ a.apart k b
        | inr b ↦ elim b [ inl same ↦ subst (λ j. list_any (has_number j) p.accepted ≡ false) (sym same) (none_left n p.accepted (ends a.clients) none) | inr bad ↦ absurd bad ]
      ];
      many = one_longer a.clients c count a.many;
    }
  where
    taken : false ≡ true → ⊥
    taken e = cc

arrived_silent : (count : ℕ) (ns : List ℕ) (ms : List (List ℕ)) (p q r : Peers) → Arrived p q ns ms count → LeavesUnheard q r → Arrived p r ns ms (count + 1)
arrived_silent count ns ms p q r a (bytes, next, port, (past, unheard)) = record {
  clients = a.clients ++ past.client ∷ [];
  port = port ∙ a.port;
  came = came_on p q r a.clients past.client bytes a.came next past.held_is;
  accepted = accepted_on p q r a.clients past.client a.accepted past.last;
  stands = stands_silent ns ms a.clients past.client a.stands (record { unheard = unheard; unwritten = past.silent; shut = past.shut });
  distinct = a.distinct;
  apart = a.apart;
  many = one_longer a.clients past.client count a.many;
}

-- ---- where the hub tells

pub tells_with : (R S T : Peers → Peers → Type 0) (old mid new : Option Peers) → ((p q r : Peers) → R p q → S q r → T p r) → Tells old mid R → Tells mid new S → Tells old new T
tells_with R S T None mid new turn e f = subst (λ (m : Option Peers). Tells m new S) e f
tells_with R S T (Some p) mid new turn e f =
    let g : Tells (Some e.0) new S = subst (λ (m : Option Peers). Tells m new S) e.1 f in
    (g.0, g.1, turn p e.0 g.0 e.2 g.2)

pub tells_none : (old : Option Peers) → Tells old old (λ p q. Arrived p q [] [] 0)
tells_none None = refl
tells_none (Some p) = (p, refl, arrived_none p)

bytes_more : (asked : List Asked) (a : Asked) → bytes_of (asked ++ a ∷ []) ≡ bytes_of asked ++ a.bytes ∷ []
bytes_more asked a = map-append (λ (x : Asked). x.bytes) asked (a ∷ [])

pub arrived_more : (ns ns' : List ℕ) (asked asked' : List Asked) (count : ℕ) (old mid new : Option Peers) → Tells old mid (λ p q. Arrived p q ns (bytes_of asked) count) → Admits ns ns' asked asked' mid new → Tells old new (λ p q. Arrived p q ns' (bytes_of asked') (count + 1))
arrived_more ns ns' asked asked' count old mid new e (inl (same, still, f)) =
    subst (λ (ks : List ℕ). Tells old new (λ p q. Arrived p q ks (bytes_of asked') (count + 1))) (sym same) (subst (λ (xs : List Asked). Tells old new (λ p q. Arrived p q ns (bytes_of xs) (count + 1))) (sym still)
    (tells_with (λ p q. Arrived p q ns (bytes_of asked) count) LeavesUnheard (λ p q. Arrived p q ns (bytes_of asked) (count + 1)) old mid new (λ p q r. arrived_silent count ns (bytes_of asked) p q r) e f))
arrived_more ns ns' asked asked' count old mid new e (inr (n, a, more, also, one, f)) =
    subst (λ (ks : List ℕ). Tells old new (λ p q. Arrived p q ks (bytes_of asked') (count + 1))) (sym more) (subst (λ (xs : List (List ℕ)). Tells old new (λ p q. Arrived p q (ns ++ n ∷ []) xs (count + 1))) (sym (ap bytes_of also ∙ bytes_more asked a))
    (tells_with (λ p q. Arrived p q ns (bytes_of asked) count) (Enters n a.bytes) (λ p q. Arrived p q (ns ++ n ∷ []) (bytes_of asked ++ a.bytes ∷ []) (count + 1)) old mid new (λ p q r. arrived_open n count a.bytes ns (bytes_of asked) p q r) e f))

pub arrived_but : (ns ns' : List ℕ) (asked asked' : List Asked) (count : ℕ) (old mid new : Option Peers) → ns' ≡ ns → asked' ≡ asked → Tells old mid (λ p q. Arrived p q ns (bytes_of asked) count) → Tells mid new Leaves → Tells old new (ArrivedBut ns' (bytes_of asked'))
arrived_but ns ns' asked asked' count old mid new same still e f =
    subst (λ (ks : List ℕ). Tells old new (ArrivedBut ks (bytes_of asked'))) (sym same) (subst (λ (xs : List Asked). Tells old new (ArrivedBut ns (bytes_of xs))) (sym still)
    (tells_with (λ p q. Arrived p q ns (bytes_of asked) count) Leaves (ArrivedBut ns (bytes_of asked)) old mid new (λ p q r a l. (count, q, a, l)) e f))

are_open : (ns : List ℕ) (ms : List (List ℕ)) (count : ℕ) (p q : Peers) → Arrived p q ns ms count → AreOpen ns q
are_open ns ms count p q a = record {
  distinct = a.distinct;
  open_each = λ n among. subst (λ (xs : List Connection). list_any (has_number n) xs ≡ true) (sym a.accepted) (any_right n p.accepted (ends a.clients) (among_open ns ms a.clients n a.stands among));
}

open_but : (ns : List ℕ) (q r : Peers) → AreOpen ns q → Leaves q r → AreOpen ns r
open_but ns q r are (inl same) = subst (AreOpen ns) (sym same) are
open_but ns q r are (inr (bytes, next, port, past)) = record {
  distinct = are.distinct;
  open_each = λ n among. subst (λ (xs : List Connection). list_any (has_number n) xs ≡ true) (sym past.last) (any_left n q.accepted (past.client.end ∷ []) (are.open_each n among));
}

were_as : (ns : List ℕ) (R : Peers → Peers → Type 0) (old new : Option Peers) → ((p q : Peers) → R p q → AreOpen ns q) → Tells old new R → WereOpen ns new
were_as ns R None new turn e = λ x is. absurd (let bad : None ≡ Some x = sym e ∙ is in cc)
were_as ns R (Some p) new turn e = λ x is. (let same : e.0 ≡ x = some (sym e.1 ∙ is) in subst (AreOpen ns) same (turn p e.0 e.2))
  where
    some : {a b : Peers} → Some a ≡ Some b → a ≡ b
    some e = cc

pub were_open : (ns : List ℕ) (ms : List (List ℕ)) (count : ℕ) (old new : Option Peers) → Tells old new (λ p q. Arrived p q ns ms count) → WereOpen ns new
were_open ns ms count old new e = were_as ns (λ p q. Arrived p q ns ms count) old new (λ p q. are_open ns ms count p q) e

pub were_open_but : (ns : List ℕ) (ms : List (List ℕ)) (old new : Option Peers) → Tells old new (ArrivedBut ns ms) → WereOpen ns new
were_open_but ns ms old new e = were_as ns (ArrivedBut ns ms) old new (λ p q a. open_but ns a.1 q (are_open ns ms a.0 p a.1 a.2) a.3) e

-- ---- one more is admitted

pub tells_moved : (R : Peers → Peers → Type 0) (old mid new : Option Peers) → new ≡ mid → Tells old mid R → Tells old new R
tells_moved R old mid new same e = subst (λ (n : Option Peers). Tells old n R) (sym same) e

pub arrived_still : (ns ns' : List ℕ) (asked asked' : List Asked) (count : ℕ) (old was mid new : Option Peers) → mid ≡ was → new ≡ mid → ns' ≡ ns → asked' ≡ asked → Tells old was (λ p q. Arrived p q ns (bytes_of asked) count) → Tells old new (λ p q. Arrived p q ns' (bytes_of asked') count)
arrived_still ns ns' asked asked' count old was mid new first second same still e =
    subst (λ (ks : List ℕ). Tells old new (λ p q. Arrived p q ks (bytes_of asked') count)) (sym same) (subst (λ (xs : List Asked). Tells old new (λ p q. Arrived p q ns (bytes_of xs) count)) (sym still)
    (tells_moved (λ p q. Arrived p q ns (bytes_of asked) count) old was new (second ∙ first) e))

pub counted_as : (ns : List ℕ) (ms : List (List ℕ)) (count most : ℕ) (old new : Option Peers) → count ≡ most → Tells old new (λ p q. Arrived p q ns ms count) → Tells old new (λ p q. Arrived p q ns ms most)
counted_as ns ms count most old new same e = subst (λ (k : ℕ). Tells old new (λ p q. Arrived p q ns ms k)) same e

each_last : (asked : List Asked) (a : Asked) → AreMessages asked → one_message a.bytes ≡ Some a.message → AreMessages (asked ++ a ∷ [])
each_last [] a all one = (one, tt)
each_last (x ∷ asked) a all one = (all.0, each_last asked a all.1 one)

pub messages_more : (ns ns' : List ℕ) (asked asked' : List Asked) (mid new : Option Peers) → AreMessages asked → Admits ns ns' asked asked' mid new → AreMessages asked'
messages_more ns ns' asked asked' mid new all (inl (same, still, f)) = subst AreMessages (sym still) all
messages_more ns ns' asked asked' mid new all (inr (n, a, more, also, one, f)) = subst AreMessages (sym also) (each_last asked a all one)

pub most_more : (ns ns' : List ℕ) (asked asked' : List Asked) (count : ℕ) (mid new : Option Peers) → length ns ≤ count → Admits ns ns' asked asked' mid new → length ns' ≤ count + 1
most_more ns ns' asked asked' count mid new most (inl (same, still, f)) = subst (λ (ks : List ℕ). length ks ≤ count + 1) (sym same) (omega (arith, most))
most_more ns ns' asked asked' count mid new most (inr (n, a, more, also, one, f)) =
    let long : length (ns ++ n ∷ []) ≡ length ns + 1 = length-append ns (n ∷ []) in
    subst (λ (ks : List ℕ). length ks ≤ count + 1) (sym more) (omega (arith, long, most))

pub as_many_more : (ns ns' : List ℕ) (asked asked' : List Asked) (mid new : Option Peers) → length ns ≡ length asked → Admits ns ns' asked asked' mid new → length ns' ≡ length asked'
as_many_more ns ns' asked asked' mid new as_many (inl (same, still, f)) = ap length same ∙ as_many ∙ sym (ap length still)
as_many_more ns ns' asked asked' mid new as_many (inr (n, a, more, also, one, f)) =
    ap length more ∙ length-append ns (n ∷ []) ∙ ap (λ k. k + 1) as_many ∙ sym (length-append asked (a ∷ [])) ∙ sym (ap length also)

pub counts_more : (a b c d : Counter) (admitted : Bool) → Counts a b ⊥ → c ≡ b → Counts c d (IsErrOf (let answer : Result Bool OutsideRefusal = Ok admitted in answer) OutsideRefusal.Failed) → Counts a d ⊥
counts_more a b c d admitted before same one = counts_then before (λ f. f) (counts_as (subst (λ (k : Counter). Counts k d (IsErrOf (let answer : Result Bool OutsideRefusal = Ok admitted in answer) OutsideRefusal.Failed)) same one) (no admitted) (λ f. absurd f))
  where
    no : (x : Bool) → IsErrOf (let answer : Result Bool OutsideRefusal = Ok x in answer) OutsideRefusal.Failed → ⊥
    no x e = cc

-- ---- the next connection

heard_from : (p q : Peers) (n : ℕ) → (a : Accepts p q (Some n)) → Hearing q p.accepted n a.0 []
heard_from p q n a = record { connection = opened n a.0; last = a.3; number = refl; open_still = refl; held = refl; unwritten = refl; calm = (refl, refl); alone = a.2 }

abbrev IsAccepted : ℕ → Peers → Peers → Type 0
IsAccepted n p q = Accepts p q (Some n)

-- what was done since leaves the port and the coming connections as they are
still_tells : (R : Peers → Peers → Type 0) (mid new : Option Peers) → TellsStill mid new R → Tells mid new (λ p q. (q.port ≡ p.port) × (q.coming ≡ p.coming) × R p q)
still_tells R None new e = e
still_tells R (Some p) new e = (e.0, e.1, (e.2, e.3, e.4))

some_accepted : (n : ℕ) (next : Option ℕ) (old mid : Option Peers) → next ≡ Some n → Accepted old mid next → Tells old mid (IsAccepted n)
some_accepted n next None mid is e = e
some_accepted n next (Some p) mid is e = (e.0, e.1, subst (λ (k : Option ℕ). Accepts p e.0 k) is e.2)

entering : (n : ℕ) (message : List ℕ) (p q r : Peers) → IsAccepted n p q → (r.port ≡ q.port) × (r.coming ≡ q.coming) × AsksFor n message q r → Enters n message p r
entering n message p q r a (port, coming, asks) = (a.0, a.1 ∙ ap (λ (xs : List (List ℕ)). a.0 ∷ xs) (sym coming), port ∙ a.4, a.2, asks p.accepted a.0 (heard_from p q n a))

pub enters : (n : ℕ) (message : List ℕ) (next : Option ℕ) (old mid new : Option Peers) → next ≡ Some n → Accepted old mid next → TellsStill mid new (AsksFor n message) → Tells old new (Enters n message)
enters n message next old mid new is e f = tells_with (IsAccepted n) (λ q r. (r.port ≡ q.port) × (r.coming ≡ q.coming) × AsksFor n message q r) (Enters n message) old mid new (entering n message) (some_accepted n next old mid is e) (still_tells (AsksFor n message) mid new f)

leaving : (n : ℕ) (p q r : Peers) → IsAccepted n p q → (r.port ≡ q.port) × (r.coming ≡ q.coming) × Passes n q r → Leaves p r
leaving n p q r a (port, coming, passes) = inr (a.0, a.1 ∙ ap (λ (xs : List (List ℕ)). a.0 ∷ xs) (sym coming), port ∙ a.4, passes p.accepted a.0 (heard_from p q n a))

pub leaves : (n : ℕ) (next : Option ℕ) (old mid new : Option Peers) → next ≡ Some n → Accepted old mid next → TellsStill mid new (Passes n) → Tells old new Leaves
leaves n next old mid new is e f = tells_with (IsAccepted n) (λ q r. (r.port ≡ q.port) × (r.coming ≡ q.coming) × Passes n q r) Leaves old mid new (leaving n) (some_accepted n next old mid is e) (still_tells (Passes n) mid new f)

leaving_unheard : (n : ℕ) (p q r : Peers) → IsAccepted n p q → (r.port ≡ q.port) × (r.coming ≡ q.coming) × PassesUnheard n q r → LeavesUnheard p r
leaving_unheard n p q r a (port, coming, passes) = (a.0, a.1 ∙ ap (λ (xs : List (List ℕ)). a.0 ∷ xs) (sym coming), port ∙ a.4, passes p.accepted a.0 (heard_from p q n a))

pub leaves_unheard : (n : ℕ) (next : Option ℕ) (old mid new : Option Peers) → next ≡ Some n → Accepted old mid next → TellsStill mid new (PassesUnheard n) → Tells old new LeavesUnheard
leaves_unheard n next old mid new is e f = tells_with (IsAccepted n) (λ q r. (r.port ≡ q.port) × (r.coming ≡ q.coming) × PassesUnheard n q r) LeavesUnheard old mid new (leaving_unheard n) (some_accepted n next old mid is e) (still_tells (PassesUnheard n) mid new f)
