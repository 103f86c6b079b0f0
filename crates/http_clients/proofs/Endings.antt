-- Connections of a hub that are ended, one after another.
use Rattle.std.proofs.Common.{◌≡◌, ◌≢◌, ℕ, zero, suc, ◌+◌, ◌<◌, ◌==◌, min, Bool, true, false, List, [], ◌∷◌, ◌++◌, map, length, append-nil, if◌then◌else◌, Option, Some, None, refl, sym, ap, ◌∙◌, subst, arith, eqb-true, inl, inr}
use Rattle.std.proofs.Common.{Result, Ok, Err, take, drop, get_or, ◌||◌, slice_get, slice_index_or}
use Rattle.std.proofs.lemmas.List.{drop_more, take_more}
use Rattle.std.specs.Prelude.{⊤, IsErrOf, OnOk, option_map}
use Rattle.zio.specs.declared.refusal.OutsideRefusal.{OutsideRefusal}
use Rattle.std.specs.List.{list_any}
use Rattle.zbase.specs.Limits.{greatest_number}
use Rattle.zio.specs.Hubs.{Connection, Peers, change_at, has_number, is_open}
use Rattle.zio.specs.HubCalls.{WasOpen, WriteFails, Writes, closed, with_more, with_write_fault, without_peer}
use Rattle.http_clients.specs.Ending.{AreOpen, Ends, EndsEach, EndsAll, Sends, SendsReply, Shuts, WereOpen}
use Rattle.http_clients.specs.Numbers.{Among}

-- ---- two changes of one connection

abbrev pub changed : ℕ → (Connection → Connection) → List Connection → List Connection
changed n f cs = map (λ c. if has_number n c then f c else c) cs

-- what is done to a connection leaves it under its number, and open as it was
abbrev pub StaysOpen : (Connection → Connection) → Type 0
StaysOpen f = (c : Connection) → ((f c).number ≡ c.number) × ((f c).open_ ≡ c.open_)

named_still : (n : ℕ) (f : Connection → Connection) (c : Connection) → StaysOpen f → has_number n (f c) ≡ has_number n c
named_still n f c stays = (let s = stays c in rw (s.0, s.1) refl)

twice : (n : ℕ) (f g : Connection → Connection) (cs : List Connection) → StaysOpen f → changed n g (changed n f cs) ≡ changed n (λ c. g (f c)) cs
twice n f g [] stays = refl
twice n f g (c ∷ cs) stays = go (has_number n c) refl (twice n f g cs stays)
  where
    go : (b : Bool) → has_number n c ≡ b → changed n g (changed n f cs) ≡ changed n (λ x. g (f x)) cs → changed n g (changed n f (c ∷ cs)) ≡ changed n (λ x. g (f x)) (c ∷ cs)
    go true is rest = rw (is, named_still n f c stays ∙ is) (ap (λ xs. g (f c) ∷ xs) rest)
    go false is rest = rw (is, is) (ap (λ xs. c ∷ xs) rest)

pub change_twice : (n : ℕ) (f g : Connection → Connection) (p : Peers) → StaysOpen f → change_at n g (change_at n f p) ≡ change_at n (λ c. g (f c)) p
change_twice n f g p stays = ap (λ (cs : List Connection). let q : Peers = record { port = p.port; accepted = cs; coming = p.coming } in q) (twice n f g p.accepted stays)

-- ---- one ending

more_stays : (bytes : List ℕ) → StaysOpen (with_more bytes)
more_stays bytes c = (refl, refl)

fault_stays : (front : List ℕ) → StaysOpen (λ c. with_write_fault (with_more front c))
fault_stays front c = (refl, refl)

pub shuts_close : Shuts without_peer
shuts_close = record { number = λ c. refl; left = λ c. refl; read_faults = λ c. refl; shut = λ c. refl }

shuts_whole : (reply : List ℕ) → Shuts (λ c. without_peer (with_more reply c))
shuts_whole reply = record { number = λ c. refl; left = λ c. refl; read_faults = λ c. refl; shut = λ c. refl }

shuts_short : (front : List ℕ) → Shuts (λ c. without_peer (with_write_fault (with_more front c)))
shuts_short front = record { number = λ c. refl; left = λ c. refl; read_faults = λ c. refl; shut = λ c. refl }

sends_whole : (reply : List ℕ) → Sends reply (λ c. without_peer (with_more reply c))
sends_whole reply = λ c none calm. ([], sym (append-nil (c.written ++ reply) ∙ ap (λ (xs : List ℕ). xs ++ reply) none), λ still. refl)

sends_short : (reply front rest : List ℕ) → reply ≡ front ++ rest → Sends reply (λ c. without_peer (with_write_fault (with_more front c)))
sends_short reply front rest is = λ c none calm.
    (let rose : min (c.write_faults + 1) greatest_number ≡ 1 = rw calm refl in
    (rest, is ∙ ap (λ (xs : List ℕ). (xs ++ front) ++ rest) (sym none), λ still. absurd (omega (arith, rose, still))))

-- ---- open connections

opens_still : (n : ℕ) (f : Connection → Connection) (cs : List Connection) → StaysOpen f → (m : ℕ) → list_any (has_number m) (changed n f cs) ≡ list_any (has_number m) cs
opens_still n f [] stays m = refl
opens_still n f (c ∷ cs) stays m = go (has_number n c) refl (opens_still n f cs stays m)
  where
    go : (b : Bool) → has_number n c ≡ b → list_any (has_number m) (changed n f cs) ≡ list_any (has_number m) cs → list_any (has_number m) (changed n f (c ∷ cs)) ≡ list_any (has_number m) (c ∷ cs)
    go true is rest = rw (is, named_still m f c stays, rest) refl
    go false is rest = rw (is, rest) refl

-- it is open still, once something was written on it
pub open_still : (n : ℕ) (f : Connection → Connection) (p : Peers) → StaysOpen f → (m : ℕ) → is_open m (change_at n f p) ≡ is_open m p
open_still n f p stays m = opens_still n f p.accepted stays m

apart : (n m : ℕ) (c : Connection) → m ≢ n → has_number n c ≡ true → has_number m c ≡ false
apart n m c differs is = go c.open_ refl (c.number == m) refl (c.number == n) refl is
  where
    go : (o : Bool) → c.open_ ≡ o → (b : Bool) → (c.number == m) ≡ b → (d : Bool) → (c.number == n) ≡ d → has_number n c ≡ true → has_number m c ≡ false
    go false e b f d h is = rw e refl
    go true e false f d h is = rw (e, f) refl
    go true e true f true h is = absurd (differs (sym (eqb-true c.number m f) ∙ eqb-true c.number n h))
    go true e true f false h is = absurd (let bad : false ≡ true = rw (e, h) at is in cc)

pub closed_none : (m : ℕ) (c : Connection) → c.open_ ≡ false → has_number m c ≡ false
closed_none m c e = rw e refl

opens_elsewhere : (n : ℕ) (end : Connection → Connection) (cs : List Connection) → Shuts end → (m : ℕ) → m ≢ n → list_any (has_number m) (changed n end cs) ≡ list_any (has_number m) cs
opens_elsewhere n end [] shuts m differs = refl
opens_elsewhere n end (c ∷ cs) shuts m differs = go (has_number n c) refl (opens_elsewhere n end cs shuts m differs)
  where
    go : (b : Bool) → has_number n c ≡ b → list_any (has_number m) (changed n end cs) ≡ list_any (has_number m) cs → list_any (has_number m) (changed n end (c ∷ cs)) ≡ list_any (has_number m) (c ∷ cs)
    go true is rest = rw (is, closed_none m (end c) (shuts.shut c), apart n m c differs is, rest) refl
    go false is rest = rw (is, rest) refl

pub open_elsewhere : (n : ℕ) (end : Connection → Connection) (p : Peers) → Shuts end → (m : ℕ) → m ≢ n → is_open m (change_at n end p) ≡ is_open m p
open_elsewhere n end p shuts m differs = opens_elsewhere n end p.accepted shuts m differs

differs_of : (m n : ℕ) (ns : List ℕ) → (Among n ns → ⊥) → Among m ns → m ≢ n
differs_of m n ns none among e = none (subst (λ k. Among k ns) e among)

-- the first is ended, the others are open still
pub open_rest : (n : ℕ) (ns : List ℕ) (end : Connection → Connection) (p : Peers) → Shuts end → AreOpen (n ∷ ns) p → AreOpen ns (change_at n end p)
open_rest n ns end p shuts are = record {
  distinct = are.distinct.1;
  open_each = λ m among. open_elsewhere n end p shuts m (differs_of m n ns are.distinct.0 among) ∙ are.open_each m (inr among);
}

-- ---- endings behind one another

zero_more : (w : ℕ) → w ≡ w + 0
zero_more w = omega arith

move : (w n : ℕ) → (w + 1) + n ≡ w + suc n
move w n = omega arith

pub ends_more : (Q : ℕ → (Connection → Connection) → Type 0) (w : ℕ) (ns : List ℕ) (n : ℕ) (old mid : Peers) (end : Connection → Connection) → EndsEach Q w ns old mid → Shuts end → Q (w + length ns) end → EndsEach Q w (ns ++ n ∷ []) old (change_at n end mid)
ends_more Q w [] n old mid end e shuts q = (end, shuts, subst (λ k. Q k end) (sym (zero_more w)) q, ap (λ (p : Peers). change_at n end p) e)
ends_more Q w (m ∷ ns) n old mid end e shuts q = (e.0, e.1, e.2, ends_more Q (w + 1) ns n (change_at m e.0 old) mid end e.3 shuts (subst (λ k. Q k end) (sym (move w (length ns))) q))

pub ends_as : (P Q : ℕ → (Connection → Connection) → Type 0) (w : ℕ) (ns : List ℕ) (old new : Peers) → ((v : ℕ) (end : Connection → Connection) → P v end → Q v end) → EndsEach P w ns old new → EndsEach Q w ns old new
ends_as P Q w [] old new turn e = e
ends_as P Q w (n ∷ ns) old new turn e = (e.0, e.1, turn w e.0 e.2, ends_as P Q (w + 1) ns (change_at n e.0 old) new turn e.3)

-- ---- where the hub tells

map_closed : (n : ℕ) (mid new : Option Peers) → new ≡ option_map (closed n) mid → Ends n (λ end. ⊤) mid new
map_closed n None new e = e
map_closed n (Some p) new e = (without_peer, shuts_close, tt, e)

-- a connection is closed
pub ended_quietly : (n : ℕ) (old new : Option Peers) → new ≡ option_map (closed n) old → Ends n (λ end. ⊤) old new
ended_quietly n old new e = map_closed n old new e

abbrev pub IsWrite : Result (Unit {0}) OutsideRefusal → ℕ → List ℕ → Option Peers → Option Peers → Type 0
IsWrite wrote n reply old mid = OnOk wrote (Writes n reply old mid) × (IsErrOf wrote OutsideRefusal.Failed → WriteFails n reply old mid) × (IsErrOf wrote OutsideRefusal.Memory → mid ≡ old)

-- what is written, and closed
pub ended : (n : ℕ) (reply : List ℕ) (wrote : Result (Unit {0}) OutsideRefusal) (old mid new : Option Peers) → IsWrite wrote n reply old mid → new ≡ option_map (closed n) mid
    → Ends n (λ end. (IsErrOf wrote OutsideRefusal.Memory → ⊥) → Sends reply end) old new
ended n reply (Ok u) None mid new w e = e ∙ ap (option_map (closed n)) w.0
ended n reply (Ok u) (Some p) mid new w e = (
  (λ c. without_peer (with_more reply c)),
  shuts_whole reply,
  (λ some. sends_whole reply),
  e ∙ ap (option_map (closed n)) w.0 ∙ ap Some (change_twice n (with_more reply) without_peer p (more_stays reply)),
)
ended n reply (Err OutsideRefusal.Failed) None mid new w e = e ∙ ap (option_map (closed n)) (w.1 refl)
ended n reply (Err OutsideRefusal.Failed) (Some p) mid new w e =
    let failed = w.1 refl in (
      (λ c. without_peer (with_write_fault (with_more failed.0 c))),
      shuts_short failed.0,
      (λ some. sends_short reply failed.0 failed.1 failed.2),
      e ∙ ap (option_map (closed n)) failed.3 ∙ ap Some (change_twice n (λ c. with_write_fault (with_more failed.0 c)) without_peer p (fault_stays failed.0)),
    )
ended n reply (Err OutsideRefusal.Memory) None mid new w e = e ∙ ap (option_map (closed n)) (w.2 refl)
ended n reply (Err OutsideRefusal.Memory) (Some p) mid new w e = (without_peer, shuts_close, (λ some. absurd (some refl)), e ∙ ap (option_map (closed n)) (w.2 refl))

-- a connection that was open is so once it was written on
pub open_written : (n : ℕ) (reply : List ℕ) (wrote : Result (Unit {0}) OutsideRefusal) (old mid : Option Peers) → IsWrite wrote n reply old mid → WasOpen n old → WasOpen n mid
open_written n reply (Ok u) None mid w was = λ x is. absurd (let bad : None ≡ Some x = sym w.0 ∙ is in cc)
open_written n reply (Ok u) (Some p) mid w was = λ x is.
    (let e : change_at n (with_more reply) p ≡ x = same (sym w.0 ∙ is) in
    subst (λ (k : Peers). is_open n k ≡ true) e (open_still n (with_more reply) p (more_stays reply) n ∙ was p refl))
  where
    same : {a b : Peers} → Some a ≡ Some b → a ≡ b
    same e = cc
open_written n reply (Err OutsideRefusal.Failed) None mid w was = λ x is. absurd (let bad : None ≡ Some x = sym (w.1 refl) ∙ is in cc)
open_written n reply (Err OutsideRefusal.Failed) (Some p) mid w was = λ x is.
    (let failed = w.1 refl in
    let e : change_at n (λ c. with_write_fault (with_more failed.0 c)) p ≡ x = same (sym failed.3 ∙ is) in
    subst (λ (k : Peers). is_open n k ≡ true) e (open_still n (λ c. with_write_fault (with_more failed.0 c)) p (fault_stays failed.0) n ∙ was p refl))
  where
    same : {a b : Peers} → Some a ≡ Some b → a ≡ b
    same e = cc
open_written n reply (Err OutsideRefusal.Memory) old mid w was = λ x is. was x (sym (w.2 refl) ∙ is)

pub ends_none : (Q : ℕ → (Connection → Connection) → Type 0) (old : Option Peers) → EndsAll Q [] old old
ends_none Q None = refl
ends_none Q (Some p) = (p, refl, refl)

pub ends_all_more : (Q : ℕ → (Connection → Connection) → Type 0) (ns : List ℕ) (n : ℕ) (old mid new : Option Peers) → EndsAll Q ns old mid → Ends n (Q (length ns)) mid new → EndsAll Q (ns ++ n ∷ []) old new
ends_all_more Q ns n None mid new e f = subst (λ (m : Option Peers). Ends n (Q (length ns)) m new) e f
ends_all_more Q ns n (Some p) mid new e f =
    let one : Ends n (Q (length ns)) (Some e.0) new = subst (λ (m : Option Peers). Ends n (Q (length ns)) m new) e.1 f in
    (change_at n one.0 e.0, one.3, ends_more Q 0 ns n p e.0 one.0 e.2 one.1 (subst (λ k. Q k one.0) (zero_before (length ns)) one.2))
  where
    zero_before : (k : ℕ) → k ≡ 0 + k
    zero_before k = omega arith

pub ends_all_as : (P Q : ℕ → (Connection → Connection) → Type 0) (ns : List ℕ) (old new : Option Peers) → ((v : ℕ) (end : Connection → Connection) → P v end → Q v end) → EndsAll P ns old new → EndsAll Q ns old new
ends_all_as P Q ns None new turn e = e
ends_all_as P Q ns (Some p) new turn e = (e.0, e.1, ends_as P Q 0 ns p e.0 turn e.2)

pub ends_one_as : (P Q : (Connection → Connection) → Type 0) (n : ℕ) (old new : Option Peers) → ((end : Connection → Connection) → P end → Q end) → Ends n P old new → Ends n Q old new
ends_one_as P Q n None new turn e = e
ends_one_as P Q n (Some p) new turn e = (e.0, e.1, turn e.0 e.2, e.3)

pub were_rest : (Q : (Connection → Connection) → Type 0) (n : ℕ) (ns : List ℕ) (mid new : Option Peers) → WereOpen (n ∷ ns) mid → Ends n Q mid new → WereOpen ns new
were_rest Q n ns None new were e = λ x is. absurd (let bad : None ≡ Some x = sym e ∙ is in cc)
were_rest Q n ns (Some p) new were e = λ x is.
    (let same : change_at n e.0 p ≡ x = some (sym e.3 ∙ is) in
    subst (AreOpen ns) same (open_rest n ns e.0 p e.1 (were p refl)))
  where
    some : {a b : Peers} → Some a ≡ Some b → a ≡ b
    some e = cc

pub was_first : (n : ℕ) (ns : List ℕ) (mid : Option Peers) → WereOpen (n ∷ ns) mid → WasOpen n mid
was_first n ns mid were = λ x is. (were x is).open_each n (inl refl)

-- ---- places of a list

pub next_at : (ws : List ℕ) (i d : ℕ) → i < length ws → drop i ws ≡ get_or ws i d ∷ drop (i + 1) ws
next_at ws i d less = drop_more ws i d less

pub were_next : (ws : List ℕ) (i d : ℕ) (mid : Option Peers) → i < length ws → WereOpen (drop i ws) mid → WereOpen (get_or ws i d ∷ drop (i + 1) ws) mid
were_next ws i d mid less were = subst (λ (ns : List ℕ). WereOpen ns mid) (drop_more ws i d less) were

length_taken : (ws : List ℕ) (i : ℕ) → i < length ws → length (take i ws) ≡ i
length_taken [] i less = absurd (omega (arith, less))
length_taken (w ∷ ws) zero less = refl
length_taken (w ∷ ws) (suc i) less = ap suc (length_taken ws i (omega (arith, less)))

pub ends_next : (Q : ℕ → (Connection → Connection) → Type 0) (ws : List ℕ) (i d : ℕ) (old mid new : Option Peers) → i < length ws → EndsAll Q (take i ws) old mid → Ends (get_or ws i d) (Q i) mid new → EndsAll Q (take (i + 1) ws) old new
ends_next Q ws i d old mid new less e f =
    subst (λ (ns : List ℕ). EndsAll Q ns old new) (sym (take_more ws i d less)) (ends_all_more Q (take i ws) (get_or ws i d) old mid new e (subst (λ k. Ends (get_or ws i d) (Q k) mid new) (sym (length_taken ws i less)) f))

-- ---- replies of the workers

-- what is at a place is there
pub there_at : {X : Type 0} (xs : List X) (i : ℕ) (x d : X) → slice_get xs i ≡ Some x → slice_index_or xs i d ≡ x
there_at [] i x d e = absurd cc
there_at (y ∷ xs) zero x d e = cc
there_at (y ∷ xs) (suc i) x d e = there_at xs i x d e

pub none_there : (replies : List (Option (List ℕ))) (w : ℕ) (reply : List ℕ) (x : Option (List ℕ)) → x ≡ slice_index_or replies w x → x ≡ None → slice_get replies w ≡ Some (Some reply) → ⊥
none_there replies w reply x is none there = (let bad : None ≡ Some reply = sym none ∙ is ∙ there_at replies w (Some reply) x there in cc)

pub or_left : (a b : Bool) → (a || b) ≡ false → a ≡ false
or_left false b e = refl
or_left true b e = absurd cc

pub or_right : (a b : Bool) → (a || b) ≡ false → b ≡ false
or_right false b e = e
or_right true b e = absurd cc

pub sends_kept : (replies : List (Option (List ℕ))) (w : ℕ) (kept reply given : List ℕ) (x : Option (List ℕ)) (end : Connection → Connection) → x ≡ slice_index_or replies w x → x ≡ Some reply → slice_get replies w ≡ Some (Some kept) → given ≡ reply → Sends given end → SendsReply replies w end
sends_kept replies w kept reply given x end is some there same sends =
    let e : given ≡ kept = (let f : Some reply ≡ Some kept = sym some ∙ is ∙ there_at replies w (Some kept) x there in same ∙ inside f) in
    (kept, there, subst (λ (bytes : List ℕ). Sends bytes end) e sends)
  where
    inside : {a b : List ℕ} → Some a ≡ Some b → a ≡ b
    inside e = cc
