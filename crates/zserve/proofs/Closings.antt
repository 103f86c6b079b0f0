-- Connections of a round that are ended, one after another, and so closed.
use Rattle.std.proofs.Common.{◌≡◌, ℕ, suc, ◌+◌, ◌==◌, Bool, true, false, List, [], ◌∷◌, ◌++◌, map, length, append_assoc, if◌then◌else◌, nat_lt, Option, Some, None, refl, sym, ap, ap₂, ◌∙◌, subst, eq-eqb, eqb-true, inl, inr}
use Rattle.std.specs.List.{AllByRecursion, list_any}
use Rattle.std.proofs.lemmas.List.{map-append}
use Rattle.zio.specs.Hubs.{Connection, Peers, has_number}
use Rattle.http_clients.specs.Arriving.{Stands}
use Rattle.http_clients.specs.Clients.{Client, heard, held}
use Rattle.http_clients.specs.Ending.{EndsEach, Shuts}
use Rattle.http_clients.specs.Hearing.{message_front}
use Rattle.http_clients.specs.Numbers.{Among, Distinct}
use Rattle.zserve.specs.Tapes.{assigned, messages}

-- ---- connections of a number

abbrev pub ends : List Client → List Connection
ends cs = map (λ c. c.end) cs

abbrev changed : ℕ → (Connection → Connection) → List Connection → List Connection
changed n f cs = map (λ c. if has_number n c then f c else c) cs

pub closed_none : (n : ℕ) (c : Connection) → c.open_ ≡ false → has_number n c ≡ false
closed_none n c e = rw e refl

pub none_more : (n : ℕ) (x : Connection) (xs : List Connection) → has_number n x ≡ false → list_any (has_number n) xs ≡ false → list_any (has_number n) (x ∷ xs) ≡ false
none_more n x xs is none = rw is none

none_both : (n : ℕ) (xs ys : List Connection) → list_any (has_number n) xs ≡ false → list_any (has_number n) ys ≡ false → list_any (has_number n) (xs ++ ys) ≡ false
none_both n [] ys none other = other
none_both n (x ∷ xs) ys none other = go (has_number n x) refl (λ here. none_both n xs ys here other)
  where
    go : (b : Bool) → has_number n x ≡ b → (list_any (has_number n) xs ≡ false → list_any (has_number n) (xs ++ ys) ≡ false) → list_any (has_number n) (x ∷ xs ++ ys) ≡ false
    go false is rest = rw is (rest (rw is at none))
    go true is rest = absurd (let bad : true ≡ false = rw is at none in cc)

-- under another number
apart : (n k : ℕ) (c : Connection) → c.number ≡ k → (n ≡ k → ⊥) → has_number n c ≡ false
apart n k c is differs = go c.open_ refl (c.number == n) refl
  where
    go : (o : Bool) → c.open_ ≡ o → (b : Bool) → (c.number == n) ≡ b → has_number n c ≡ false
    go false e b f = rw e refl
    go true e false f = rw (e, f) refl
    go true e true f = absurd (differs (sym (eqb-true c.number n f) ∙ is))

named : (n : ℕ) (c : Connection) → c.number ≡ n → c.open_ ≡ true → has_number n c ≡ true
named n c is opens = rw (opens, is, eq-eqb n n refl) refl

changed_none : (n : ℕ) (f : Connection → Connection) (cs : List Connection) → list_any (has_number n) cs ≡ false → changed n f cs ≡ cs
changed_none n f [] none = refl
changed_none n f (c ∷ cs) none = go (has_number n c) refl (changed_none n f cs)
  where
    go : (b : Bool) → has_number n c ≡ b → (list_any (has_number n) cs ≡ false → changed n f cs ≡ cs) → changed n f (c ∷ cs) ≡ c ∷ cs
    go false is rest = rw is (ap (λ xs. c ∷ xs) (rest (rw is at none)))
    go true is rest = absurd (let bad : true ≡ false = rw is at none in cc)

changed_here : (n : ℕ) (f : Connection → Connection) (before : List Connection) (c : Connection) (behind : List Connection) → list_any (has_number n) before ≡ false → has_number n c ≡ true → list_any (has_number n) behind ≡ false → changed n f (before ++ c ∷ behind) ≡ before ++ f c ∷ behind
changed_here n f before c behind none is other =
    map-append (λ x. if has_number n x then f x else x) before (c ∷ behind) ∙ ap₂ (λ (xs : List Connection) (ys : List Connection). xs ++ ys) (changed_none n f before none) (here ∙ ap (λ (ys : List Connection). f c ∷ ys) (changed_none n f behind other))
  where
    here : changed n f (c ∷ behind) ≡ f c ∷ changed n f behind
    here = rw is refl

-- a number that isn't among theirs is none of theirs
none_open : (ns : List ℕ) (ms : List (List ℕ)) (cs : List Client) (n : ℕ) → Stands ns ms cs → (Among n ns → ⊥) → list_any (has_number n) (ends cs) ≡ false
none_open ns ms [] n s none = refl
none_open ns ms (c ∷ cs) n (inl (silent, rest)) none = none_more n c.end (ends cs) (closed_none n c.end silent.shut) (none_open ns ms cs n rest none)
none_open ns ms (c ∷ cs) n (inr (k, ks, m, more, is, e, o, rest)) none =
    none_more n c.end (ends cs) (apart n k c.end o.number (λ same. none (subst (Among n) (sym is) (inl same)))) (none_open ks more cs n rest (λ a. none (subst (Among n) (sym is) (inr a))))

-- ---- messages and workers of connections

messages_none : (begins : List ℕ → Option (List ℕ)) (c : Client) (cs : List Client) → begins (heard c) ≡ None → messages begins (c ∷ cs) ≡ messages begins cs
messages_none begins c cs none = rw none refl

messages_some : (begins : List ℕ → Option (List ℕ)) (m : List ℕ) (c : Client) (cs : List Client) → begins (heard c) ≡ Some m → messages begins (c ∷ cs) ≡ m ∷ messages begins cs
messages_some begins m c cs some = rw some refl

assigned_none : (begins : List ℕ → Option (List ℕ)) (w : ℕ) (c : Client) (cs : List Client) → begins (heard c) ≡ None → assigned begins w (c ∷ cs) ≡ (c, None) ∷ assigned begins w cs
assigned_none begins w c cs none = rw none refl

assigned_some : (begins : List ℕ → Option (List ℕ)) (w : ℕ) (m : List ℕ) (c : Client) (cs : List Client) → begins (heard c) ≡ Some m → assigned begins w (c ∷ cs) ≡ (c, Some w) ∷ assigned begins (w + 1) cs
assigned_some begins w m c cs some = rw some refl

-- ---- connections that are closed

abbrev ended : (Connection → Connection) → Client → Client
ended end c = record { given = c.given; end = end c.end }

held_still : (given : List ℕ) (a b : Connection) → b.left ≡ a.left → held (record { given = given; end = b }) ≡ held (record { given = given; end = a })
held_still given a b left = ap (λ (xs : List ℕ). given ++ xs) left

heard_still : (given : List ℕ) (a b : Connection) → b.left ≡ a.left → b.read_faults ≡ a.read_faults → heard (record { given = given; end = b }) ≡ heard (record { given = given; end = a })
heard_still given a b left faults = ap₂ (λ (k : ℕ) (xs : List ℕ). if nat_lt 0 k then given else given ++ xs) faults left

-- the connections of a round once they are closed, beside what they were
pub record AreShut (A : Client × Option ℕ → Type 0) (w : ℕ) (ms : List (List ℕ)) (cs cs' : List Client) : Type 0 where
  pub held_still : map held cs' ≡ map held cs
  pub many : length cs' ≡ length cs
  pub asked : messages message_front cs' ≡ ms
  pub answered : AllByRecursion A (assigned message_front w cs')
  pub shut : AllByRecursion (λ c. c.end.open_ ≡ false) cs'

abbrev pub peers_with : Option ℕ → List (List ℕ) → List Connection → Peers
peers_with port coming accepted = record { port = port; accepted = accepted; coming = coming }

shut_silent : (A : Client × Option ℕ → Type 0) (w : ℕ) (ms : List (List ℕ)) (c : Client) (cs cs' : List Client) → message_front (heard c) ≡ None → A (c, None) → c.end.open_ ≡ false → AreShut A w ms cs cs' → AreShut A w ms (c ∷ cs) (c ∷ cs')
shut_silent A w ms c cs cs' none one shut rest = record {
  held_still = ap (λ xs. held c ∷ xs) rest.held_still;
  many = ap suc rest.many;
  asked = messages_none message_front c cs' none ∙ rest.asked;
  answered = subst (AllByRecursion A) (sym (assigned_none message_front w c cs' none)) (one, rest.answered);
  shut = (shut, rest.shut);
}

shut_open : (A : Client × Option ℕ → Type 0) (w : ℕ) (m : List ℕ) (ms : List (List ℕ)) (c : Client) (end : Connection → Connection) (cs cs' : List Client) → message_front (heard c) ≡ Some m → A (ended end c, Some w) → Shuts end → AreShut A (w + 1) ms cs cs' → AreShut A w (m ∷ ms) (c ∷ cs) (ended end c ∷ cs')
shut_open A w m ms c end cs cs' some one shuts rest =
    let front : message_front (heard (ended end c)) ≡ Some m = ap message_front (heard_still c.given c.end (end c.end) (shuts.left c.end) (shuts.read_faults c.end)) ∙ some in
    record {
      held_still = ap₂ (λ (x : List ℕ) (xs : List (List ℕ)). x ∷ xs) (held_still c.given c.end (end c.end) (shuts.left c.end)) rest.held_still;
      many = ap suc rest.many;
      asked = messages_some message_front m (ended end c) cs' front ∙ ap (λ (xs : List (List ℕ)). m ∷ xs) rest.asked;
      answered = subst (AllByRecursion A) (sym (assigned_some message_front w m (ended end c) cs' front)) (one, rest.answered);
      shut = (shuts.shut c.end, rest.shut);
    }

pub closings : (A : Client × Option ℕ → Type 0) (Q : ℕ → (Connection → Connection) → Type 0) → ((c : Client) → c.end.written ≡ [] → A (c, None))
    → ((v : ℕ) (c : Client) (end : Connection → Connection) → Q v end → c.end.written ≡ [] → c.end.write_faults ≡ 0 → A (record { given = c.given; end = end c.end }, Some v))
    → (w : ℕ) (port : Option ℕ) (coming : List (List ℕ)) (before behind : List Connection) (ns : List ℕ) (ms : List (List ℕ)) (cs : List Client) (r : Peers) → Stands ns ms cs → Distinct ns
    → ((n : ℕ) → Among n ns → list_any (has_number n) before ≡ false) → ((n : ℕ) → Among n ns → list_any (has_number n) behind ≡ false)
    → EndsEach Q w ns (peers_with port coming (before ++ (ends cs ++ behind))) r
    → (cs' : List Client) × (r ≡ peers_with port coming (before ++ (ends cs' ++ behind))) × AreShut A w ms cs cs'
closings A Q quiet answers w port coming before behind ns ms [] r s distinct none other each =
    let none_left : r ≡ peers_with port coming (before ++ behind) = subst (λ k. EndsEach Q w k (peers_with port coming (before ++ behind)) r) s.0 each in
    ([], none_left, record { held_still = refl; many = refl; asked = sym s.1; answered = tt; shut = tt })
closings A Q quiet answers w port coming before behind ns ms (c ∷ cs) r (inl (silent, rest)) distinct none other each =
    let on : EndsEach Q w ns (peers_with port coming ((before ++ c.end ∷ []) ++ (ends cs ++ behind))) r = subst (λ (xs : List Connection). EndsEach Q w ns (peers_with port coming xs) r) (sym (append_assoc before (c.end ∷ []) (ends cs ++ behind))) each in
    let more = closings A Q quiet answers w port coming (before ++ c.end ∷ []) behind ns ms cs r rest distinct (λ n a. none_both n before (c.end ∷ []) (none n a) (none_more n c.end [] (closed_none n c.end silent.shut) refl)) other on in (
      c ∷ more.0,
      more.1 ∙ ap (peers_with port coming) (append_assoc before (c.end ∷ []) (ends more.0 ++ behind)),
      shut_silent A w ms c cs more.0 silent.unheard (quiet c silent.unwritten) silent.shut more.2,
    )
closings A Q quiet answers w port coming before behind ns ms (c ∷ cs) r (inr (n, ks, m, rest_ms, is, e, o, rest)) distinct none other each =
    let one = subst (λ k. EndsEach Q w k (peers_with port coming (before ++ c.end ∷ (ends cs ++ behind))) r) is each in
    let end : Connection → Connection = one.0 in
    let apart_rest = subst Distinct is distinct in
    let here : Among n ns = subst (Among n) (sym is) (inl refl) in
    let there : (k : ℕ) → Among k ks → Among k ns = λ k a. subst (Among k) (sym is) (inr a) in
    let moved : changed n end (before ++ c.end ∷ (ends cs ++ behind)) ≡ before ++ end c.end ∷ (ends cs ++ behind) = changed_here n end before c.end (ends cs ++ behind) (none n here) (named n c.end o.number o.open_still) (none_both n (ends cs) behind (none_open ks rest_ms cs n rest apart_rest.0) (other n here)) in
    let on : EndsEach Q (w + 1) ks (peers_with port coming ((before ++ end c.end ∷ []) ++ (ends cs ++ behind))) r
    = subst (λ (xs : List Connection). EndsEach Q (w + 1) ks (peers_with port coming xs) r) (moved ∙ sym (append_assoc before (end c.end ∷ []) (ends cs ++ behind))) one.3 in
    let more = closings A Q quiet answers (w + 1) port coming (before ++ end c.end ∷ []) behind ks rest_ms cs r rest apart_rest.1 (λ k a. none_both k before (end c.end ∷ []) (none k (there k a)) (none_more k (end c.end) [] (closed_none k (end c.end) (one.1.shut c.end)) refl)) (λ k a. other k (there k a)) on in (
      ended end c ∷ more.0,
      more.1 ∙ ap (peers_with port coming) (append_assoc before (end c.end ∷ []) (ends more.0 ++ behind)),
      subst (λ (xs : List (List ℕ)). AreShut A w xs (c ∷ cs) (ended end c ∷ more.0)) (sym e) (shut_open A w m rest_ms c end cs more.0 o.asks (answers w c end one.2 o.unwritten o.calm) one.1 more.2),
    )
