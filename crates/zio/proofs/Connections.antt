-- Connections in memory by their places.
use Rattle.std.proofs.Common.{◌≡◌, ℕ, zero, suc, ◌+◌, ◌<◌, ◌≤◌, ◌&&◌, ◌||◌, Bool, true, false, List, [], ◌∷◌, ◌++◌, length, get_or, map, Option, None, Some, option_map, refl, sym, ap, arith, slice_get, if◌then◌else◌}
use Rattle.std.proofs.Math.ListN.{set}
use Rattle.std.specs.List.{list_any}
use Rattle.std.specs.Option.{option_copied}
use Rattle.std.specs.Slice.{IsItemAt}
use Rattle.std.proofs.lemmas.Option.{slice_get_read, slice_get_past}
use denote.Ref.{Bor}
use Rattle.std.proofs.lemmas.Bool.Decides.{nat_tests}
use Rattle.zio.specs.declared.memory_connection.MemoryConnection.{MemoryConnection}
use Rattle.zio.specs.Hubs.{Connection, Peers, Accepts, has_number, change_at, is_open, left_at, opened}
use Rattle.zio.specs.MemoryHubs.{connection, connections_from, peers_of}

and_false : (a b : Bool) → b ≡ false → (a && b) ≡ false
and_false true b none = none
and_false false b none = refl

-- a number that isn't that of the connection
other : (n k : ℕ) (c : MemoryConnection) → (n ≡ k → ⊥) → has_number n (connection k c) ≡ false
other n k c differ = and_false c.is_open _ (grind (arith, nat_tests, differ))

-- an open connection under its own number
own : (n k : ℕ) (c : MemoryConnection) → n ≡ k → c.is_open ≡ true → has_number n (connection k c) ≡ true
own n k c same open_ = rw open_ (grind (arith, nat_tests, same))

-- from the number k on none has a lower one
none_below : (n k : ℕ) (cs : List MemoryConnection) → n < k → list_any (has_number n) (connections_from k cs) ≡ false
none_below n k [] h = refl
none_below n k (c ∷ cs) h = rw (other n k c (λ e. omega (arith, e)), none_below n (k + 1) cs (omega arith)) refl

-- nor has one a number past the last
none_past : (n k : ℕ) (cs : List MemoryConnection) → k + length cs ≤ n → list_any (has_number n) (connections_from k cs) ≡ false
none_past n k [] h = refl
none_past n k (c ∷ cs) h = rw (other n k c (λ e. omega (arith, e)), none_past n (k + 1) cs (omega arith)) refl

first_holds : (a b c : Bool) → ((a && b) || c) ≡ true → c ≡ false → a ≡ true
first_holds true b c any none = refl
first_holds false b c any none = cc

second_holds : (a b : Bool) → (a || b) ≡ true → a ≡ false → b ≡ true
second_holds true b any none = cc
second_holds false b any none = any

-- the connection of an open number stands at its place, and is open
open_at : (n k i : ℕ) (cs : List MemoryConnection) → n ≡ k + i → list_any (has_number n) (connections_from k cs) ≡ true → (i < length cs) × ((d : MemoryConnection) → (get_or cs i d).is_open ≡ true)
open_at n k i [] at any = cc
open_at n k zero (c ∷ cs) at any = (omega arith, λ d. first_holds c.is_open _ _ any (none_below n (k + 1) cs (omega arith)))
open_at n k (suc i) (c ∷ cs) at any =
    let deeper = open_at n (k + 1) i cs (omega arith) (second_holds _ _ any (other n k c (λ e. omega (arith, e)))) in
    (omega (arith, deeper.0), deeper.1)

abbrev change_of : ℕ → (Connection → Connection) → Connection → Connection
change_of n change c = if has_number n c then change c else c

-- a change of a lower number changes none
unchanged : (n k : ℕ) (change : Connection → Connection) (cs : List MemoryConnection) → n < k → map (change_of n change) (connections_from k cs) ≡ connections_from k cs
unchanged n k change [] h = refl
unchanged n k change (c ∷ cs) h = rw (other n k c (λ e. omega (arith, e)), unchanged n (k + 1) change cs (omega arith)) refl

-- a change of an open number changes the connection at its place
changed : (n k i : ℕ) (change : Connection → Connection) (cs : List MemoryConnection) (d e : MemoryConnection) → n ≡ k + i → i < length cs → (get_or cs i d).is_open ≡ true → change (connection n (get_or cs i d)) ≡ connection n e
    → map (change_of n change) (connections_from k cs) ≡ connections_from k (set cs i e)
changed n k i change [] d e at within opens is = absurd (omega arith)
changed n k zero change (c ∷ cs) d e at within opens is =
    let same : n ≡ k = omega arith in
    rw (own n k c same opens, unchanged n (k + 1) change cs (omega arith), ← same, is) refl
changed n k (suc i) change (c ∷ cs) d e at within opens is =
    rw (other n k c (λ e. omega (arith, e)), changed n (k + 1) i change cs d e (omega arith) (omega arith) opens is) refl

left_here : (n k i : ℕ) (cs : List MemoryConnection) (d : MemoryConnection) → n ≡ k + i → i < length cs → (get_or cs i d).is_open ≡ true → left_at n (connections_from k cs) ≡ (get_or cs i d).left
left_here n k i [] d at within opens = absurd (omega arith)
left_here n k zero (c ∷ cs) d at within opens =
    let same : n ≡ k = omega arith in
    rw (own n k c same opens) refl
left_here n k (suc i) (c ∷ cs) d at within opens =
    rw (other n k c (λ e. omega (arith, e))) (left_here n (k + 1) i cs d (omega arith) (omega arith) opens)

-- one connection more
connections-push : (n k : ℕ) (cs : List MemoryConnection) (c : MemoryConnection) → n ≡ k + length cs → connections_from k (cs ++ c ∷ []) ≡ connections_from k cs ++ connection n c ∷ []
connections-push n k [] c at =
    let same : n ≡ k = omega arith in
    rw same refl
connections-push n k (b ∷ bs) c at = ap (λ cs. connection k b ∷ cs) (connections-push n (k + 1) bs c (omega arith))

connections-at : (n k i : ℕ) (cs : List MemoryConnection) → n ≡ k + i → slice_get (connections_from k cs) i ≡ option_map (connection n) (slice_get cs i)
connections-at n k i [] at = refl
connections-at n k zero (c ∷ cs) at =
    let same : n ≡ k = omega arith in
    rw same refl
connections-at n k (suc i) (c ∷ cs) at = connections-at n (k + 1) i cs (omega arith)

-- an open number is a place
pub open_within : (port : Option ℕ) (cs : List MemoryConnection) (coming : List (List ℕ)) (p : Peers) (n : ℕ) → peers_of port cs coming ≡ p → is_open n p ≡ true → n < length cs
open_within port cs coming p n seen opens = (open_at n 0 n cs (omega arith) (rw (← seen) at opens)).0

-- what a hub tells once the open connection x is e
pub peers_changed : (port : Option ℕ) (cs : List MemoryConnection) (coming : List (List ℕ)) (p : Peers) (n : ℕ) (change : Connection → Connection) (x e : MemoryConnection) → peers_of port cs coming ≡ p → is_open n p ≡ true → x ≡ get_or cs n x → change (connection n x) ≡ connection n e
    → peers_of port (set cs n e) coming ≡ change_at n change p
peers_changed port cs coming p n change x e seen opens at is =
    let there = open_at n 0 n cs (omega arith) (rw (← seen) at opens) in
    let here : change (connection n (get_or cs n x)) ≡ connection n e = rw (← at) is in
    let all = changed n 0 n change cs x e (omega arith) there.0 (there.1 x) here in
    rw (← seen, all) refl

-- what is left of the open connection x
pub peers_left : (port : Option ℕ) (cs : List MemoryConnection) (coming : List (List ℕ)) (p : Peers) (n : ℕ) (x : MemoryConnection) → peers_of port cs coming ≡ p → is_open n p ≡ true → x ≡ get_or cs n x → left_at n p.accepted ≡ x.left
peers_left port cs coming p n x seen opens at =
    let there = open_at n 0 n cs (omega arith) (rw (← seen) at opens) in
    let left = left_here n 0 n cs x (omega arith) there.0 (there.1 x) in
    rw (← seen, left, ← at) refl

-- the next connection, under the next number
pub peers_accepted : (port : Option ℕ) (cs more : List MemoryConnection) (coming after : List (List ℕ)) (p : Peers) (n : ℕ) (c : MemoryConnection) (bytes : List ℕ) → peers_of port cs coming ≡ p → coming ≡ bytes ∷ after → n ≡ length cs → more ≡ cs ++ c ∷ [] → connection n c ≡ opened n bytes
    → Accepts p (peers_of port more after) (Some n)
peers_accepted port cs more coming after p n c bytes seen first at pushed is =
    let none : list_any (has_number n) (connections_from 0 cs) ≡ false = none_past n 0 cs (omega arith) in
    let last : connections_from 0 (cs ++ c ∷ []) ≡ connections_from 0 cs ++ connection n c ∷ [] = connections-push n 0 cs c (omega arith) in
    (bytes, rw (← seen) first, rw (← seen) none, rw (← seen, pushed, ← is) last, rw (← seen) refl)

pub peers-at : (cs : List MemoryConnection) (n : ℕ) → slice_get (connections_from 0 cs) n ≡ option_map (connection n) (slice_get cs n)
peers-at cs n = connections-at n 0 n cs (omega arith)

-- what a look at a place answers is the element there
pub found_at : {X : Type 0} (xs : List X) (i : ℕ) (r : Option (Bor X)) → IsItemAt xs i r → option_copied r ≡ slice_get xs i
found_at xs i None is = sym (slice_get_past xs i is.3)
found_at xs i (Some x) is = sym (slice_get_read xs (length xs) i x.now refl is.3.0 is.1)
