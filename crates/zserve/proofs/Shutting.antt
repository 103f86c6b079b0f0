-- The connections of a round, from their arrival to their end, as the hub tells them.
use Rattle.std.proofs.Common.{◌≡◌, ℕ, ◌+◌, ◌≤◌, ◌<◌, false, List, [], ◌∷◌, ◌++◌, map, length, slice_get, append_assoc, append-nil, Option, Some, None, Ok, Err, refl, sym, ap, ◌∙◌, subst, arith, inl, inr}
use Rattle.std.specs.Prelude.{⊤, IfSome, IsErrOf}
use Rattle.std.specs.List.{list_any}
use Rattle.std.proofs.lemmas.List.{map-append}
use Rattle.zbase.specs.Faults.{Counter, Counts, counts_as}
use Rattle.zio.specs.Hubs.{Connection, Peers, change_at, has_number}
use Rattle.zio.specs.declared.refusal.OutsideRefusal.{OutsideRefusal}
use Rattle.evaluator.specs.Exec.{Eval}
use Rattle.http_clients.specs.Arriving.{Arrived, ArrivedBut, Tells, bytes_of}
use Rattle.http_clients.specs.declared.asked.Asked.{Asked}
use Rattle.http_clients.specs.Clients.{Client, held}
use Rattle.http_clients.specs.Ending.{EndsAll, EndsEach, SendsReply}
use Rattle.http_clients.specs.Hearing.{IsPast, message_front}
use Rattle.txn_core.specs.Cores.{CoreView}
use Rattle.zserve.specs.Happened.{Happening}
use Rattle.zserve.specs.declared.refusal.ServeRefusal.{ServeRefusal}
use Rattle.zserve.specs.Refusals.{of_hub, of_tape}
use Rattle.zserve.specs.Rounds.{RoundDone}
use Rattle.zserve.specs.Serving.{AllShut, AnsweredBy, RoundTold}
use Rattle.zserve.specs.Tapes.{Round}
use Rattle.zserve.proofs.Closings.{AreShut, closed_none, closings, ends, none_more, peers_with}
use Rattle.zserve.proofs.Handing.{all_joined, length_bytes}
use Rattle.zserve.proofs.Rounding.{each_replied, is_round}

-- ---- where the hub tells

pub tells_ended : (R S : Peers → Peers → Type 0) (Q : ℕ → (Connection → Connection) → Type 0) (ns : List ℕ) (old mid new : Option Peers) → ((p q r : Peers) → R p q → EndsEach Q 0 ns q r → S p r) → Tells old mid R → EndsAll Q ns mid new → Tells old new S
tells_ended R S Q ns None mid new turn e f = subst (λ (m : Option Peers). EndsAll Q ns m new) e f
tells_ended R S Q ns (Some p) mid new turn e f =
    let g : EndsAll Q ns (Some e.0) new = subst (λ (m : Option Peers). EndsAll Q ns m new) e.1 f in
    (g.0, g.1, turn p e.0 g.0 e.2 g.2)

-- nothing comes behind the connections of a round
nothing_behind : (n : ℕ) → list_any (has_number n) [] ≡ false
nothing_behind n = refl

-- ---- a round that was answered

answers : (replies : List (Option (List ℕ))) (v : ℕ) (c : Client) (end : Connection → Connection) → SendsReply replies v end → c.end.written ≡ [] → c.end.write_faults ≡ 0 → AnsweredBy replies (record { given = c.given; end = end c.end }, Some v)
answers replies v c end sends none calm = (sends.0, sends.1, sends.2 c.end none calm)

round_told : {E R S : Type 0} (takes : List ℕ → Option R) (eval : Eval R) (old new : CoreView E R S) (stamp : ℕ) (ms : List (List ℕ)) (turns : List (List Happening)) (replies : List (Option (List ℕ))) (ns : List ℕ) (count : ℕ) (p q r : Peers)
    → RoundDone takes eval old new 0 stamp ms turns replies → Arrived p q ns ms count → EndsEach (SendsReply replies) 0 ns q r → RoundTold ms stamp turns count p r
round_told takes eval old new stamp ms turns replies ns count p q r done came each =
    let on : EndsEach (SendsReply replies) 0 ns (peers_with q.port q.coming (p.accepted ++ (ends came.clients ++ []))) r = subst (λ (xs : List Connection). EndsEach (SendsReply replies) 0 ns (peers_with q.port q.coming xs) r) (came.accepted ∙ ap (λ (xs : List Connection). p.accepted ++ xs) (sym (append-nil (ends came.clients)))) each in
    let shut = closings (AnsweredBy replies) (SendsReply replies) (λ c none. none) (answers replies) 0 q.port q.coming p.accepted [] ns ms came.clients r came.stands came.distinct came.apart (λ n among. nothing_behind n) on in
    let clients : List Client = shut.0 in
    let is : r ≡ peers_with q.port q.coming (p.accepted ++ (ends clients ++ [])) = shut.1 in
    let all : AreShut (AnsweredBy replies) 0 ms came.clients clients = shut.2 in
    let round : Round = record { clients = clients; stamp = stamp; turns = turns } in
    record {
      clients = clients;
      port = ap (λ (k : Peers). k.port) is ∙ came.port;
      came = came.came ∙ ap (λ (xs : List (List ℕ)). xs ++ q.coming) (sym all.held_still) ∙ ap (λ (xs : List (List ℕ)). map held clients ++ xs) (sym (ap (λ (k : Peers). k.coming) is));
      accepted = ap (λ (k : Peers). k.accepted) is ∙ ap (λ (xs : List Connection). p.accepted ++ xs) (append-nil (ends clients));
      many = all.many ∙ came.many;
      asked = all.asked;
      is = is_round takes eval old new 0 message_front round replies (subst (λ (xs : List (List ℕ)). RoundDone takes eval old new 0 stamp xs turns replies) (sym all.asked) done) all.answered all.shut;
    }

pub rounds_told : {E R S : Type 0} (takes : List ℕ → Option R) (eval : Eval R) (old new : CoreView E R S) (stamp : ℕ) (ms : List (List ℕ)) (turns : List (List Happening)) (replies : List (Option (List ℕ))) (ns : List ℕ) (count : ℕ) (hub mid hub' : Option Peers)
    → RoundDone takes eval old new 0 stamp ms turns replies → Tells hub mid (λ p q. Arrived p q ns ms count) → EndsAll (SendsReply replies) ns mid hub' → Tells hub hub' (RoundTold ms stamp turns count)
rounds_told takes eval old new stamp ms turns replies ns count hub mid hub' done came ended =
    tells_ended (λ p q. Arrived p q ns ms count) (RoundTold ms stamp turns count) (SendsReply replies) ns hub mid hub' (λ p q r. round_told takes eval old new stamp ms turns replies ns count p q r done) came ended

-- ---- a round that was refused

abbrev anyhow : ℕ → (Connection → Connection) → Type 0
anyhow v end = ⊤

all_shut : (ns : List ℕ) (ms : List (List ℕ)) (count : ℕ) (p q r : Peers) → Arrived p q ns ms count → EndsEach anyhow 0 ns q r → AllShut p r
all_shut ns ms count p q r came each =
    let on : EndsEach anyhow 0 ns (peers_with q.port q.coming (p.accepted ++ (ends came.clients ++ []))) r = subst (λ (xs : List Connection). EndsEach anyhow 0 ns (peers_with q.port q.coming xs) r) (came.accepted ∙ ap (λ (xs : List Connection). p.accepted ++ xs) (sym (append-nil (ends came.clients)))) each in
    let shut = closings (λ x. ⊤) anyhow (λ c none. tt) (λ v c end any none calm. tt) 0 q.port q.coming p.accepted [] ns ms came.clients r came.stands came.distinct came.apart (λ n among. nothing_behind n) on in
    let clients : List Client = shut.0 in
    let is : r ≡ peers_with q.port q.coming (p.accepted ++ (ends clients ++ [])) = shut.1 in
    record {
      clients = clients;
      port = ap (λ (k : Peers). k.port) is ∙ came.port;
      came = came.came ∙ ap (λ (xs : List (List ℕ)). xs ++ q.coming) (sym shut.2.held_still) ∙ ap (λ (xs : List (List ℕ)). map held clients ++ xs) (sym (ap (λ (k : Peers). k.coming) is));
      accepted = ap (λ (k : Peers). k.accepted) is ∙ ap (λ (xs : List Connection). p.accepted ++ xs) (append-nil (ends clients));
      shut = shut.2.shut;
    }

-- where the last of them was closed as it came
all_shut_past : (ns : List ℕ) (ms : List (List ℕ)) (count : ℕ) (p q r : Peers) (bytes : List ℕ) (s : Peers) → Arrived p q ns ms count → q.coming ≡ bytes ∷ s.coming → s.port ≡ q.port → IsPast s q.accepted bytes → EndsEach anyhow 0 ns s r → AllShut p r
all_shut_past ns ms count p q r bytes s came next port past each =
    let last : Connection = past.client.end in
    let on : EndsEach anyhow 0 ns (peers_with s.port s.coming (p.accepted ++ (ends came.clients ++ last ∷ []))) r
    = subst (λ (xs : List Connection). EndsEach anyhow 0 ns (peers_with s.port s.coming xs) r) (past.last ∙ ap (λ (xs : List Connection). xs ++ last ∷ []) came.accepted ∙ append_assoc p.accepted (ends came.clients) (last ∷ [])) each in
    let shut = closings (λ x. ⊤) anyhow (λ c none. tt) (λ v c end any none calm. tt) 0 s.port s.coming p.accepted (last ∷ []) ns ms came.clients r came.stands came.distinct came.apart (λ n among. none_more n last [] (closed_none n last past.shut) refl) on in
    let clients : List Client = shut.0 in
    let is : r ≡ peers_with s.port s.coming (p.accepted ++ (ends clients ++ last ∷ [])) = shut.1 in
    record {
      clients = clients ++ past.client ∷ [];
      port = ap (λ (k : Peers). k.port) is ∙ port ∙ came.port;
      came =
          came.came ∙ ap (λ (xs : List (List ℕ)). map held came.clients ++ xs) (next ∙ ap (λ (b : List ℕ). b ∷ s.coming) past.held_is) ∙ ap (λ (xs : List (List ℕ)). xs ++ held past.client ∷ s.coming) (sym shut.2.held_still)
          ∙ sym (append_assoc (map held clients) (held past.client ∷ []) s.coming) ∙ ap (λ (xs : List (List ℕ)). xs ++ s.coming) (sym (map-append held clients (past.client ∷ [])))
          ∙ ap (λ (xs : List (List ℕ)). map held (clients ++ past.client ∷ []) ++ xs) (sym (ap (λ (k : Peers). k.coming) is));
      accepted = ap (λ (k : Peers). k.accepted) is ∙ ap (λ (xs : List Connection). p.accepted ++ xs) (sym (map-append (λ (c : Client). c.end) clients (past.client ∷ [])));
      shut = all_joined (λ (c : Client). c.end.open_ ≡ false) clients (past.client ∷ []) shut.2.shut (past.shut, tt);
    }

all_shut_but : (ns : List ℕ) (ms : List (List ℕ)) (p s r : Peers) → ArrivedBut ns ms p s → EndsEach anyhow 0 ns s r → AllShut p r
all_shut_but ns ms p s r (count, q, came, inl same) each = all_shut ns ms count p q r came (subst (λ (k : Peers). EndsEach anyhow 0 ns k r) same each)
all_shut_but ns ms p s r (count, q, came, inr (bytes, next, port, past)) each = all_shut_past ns ms count p q r bytes s came next port past each

pub round_shut : (ns : List ℕ) (ms : List (List ℕ)) (count : ℕ) (hub mid hub' : Option Peers) → Tells hub mid (λ p q. Arrived p q ns ms count) → EndsAll (λ w end. ⊤) ns mid hub' → Tells hub hub' AllShut
round_shut ns ms count hub mid hub' came ended = tells_ended (λ p q. Arrived p q ns ms count) AllShut anyhow ns hub mid hub' (λ p q r. all_shut ns ms count p q r) came ended

pub round_shut_but : (ns : List ℕ) (ms : List (List ℕ)) (hub mid hub' : Option Peers) → Tells hub mid (ArrivedBut ns ms) → EndsAll (λ w end. ⊤) ns mid hub' → Tells hub hub' AllShut
round_shut_but ns ms hub mid hub' came ended = tells_ended (ArrivedBut ns ms) AllShut anyhow ns hub mid hub' (λ p s r. all_shut_but ns ms p s r) came ended

-- ---- endings, by what is said of them

ends_each_as : (P Q : ℕ → (Connection → Connection) → Type 0) (w : ℕ) (ns : List ℕ) (old new : Peers) → ((v : ℕ) (end : Connection → Connection) → P v end → Q v end) → EndsEach P w ns old new → EndsEach Q w ns old new
ends_each_as P Q w [] old new turn e = e
ends_each_as P Q w (n ∷ ns) old new turn e = (e.0, e.1, turn w e.0 e.2, ends_each_as P Q (w + 1) ns (change_at n e.0 old) new turn e.3)

pub ends_as : (P Q : ℕ → (Connection → Connection) → Type 0) (ns : List ℕ) (old new : Option Peers) → ((v : ℕ) (end : Connection → Connection) → P v end → Q v end) → EndsAll P ns old new → EndsAll Q ns old new
ends_as P Q ns None new turn e = e
ends_as P Q ns (Some p) new turn e = (e.0, e.1, ends_each_as P Q 0 ns p e.0 turn e.2)

coming_each : (Q : ℕ → (Connection → Connection) → Type 0) (w : ℕ) (ns : List ℕ) (old new : Peers) → EndsEach Q w ns old new → new.coming ≡ old.coming
coming_each Q w [] old new e = ap (λ (k : Peers). k.coming) e
coming_each Q w (n ∷ ns) old new e = coming_each Q (w + 1) ns (change_at n e.0 old) new e.3

-- where no further connection comes, none does once some were closed
pub ended_still : (Q : ℕ → (Connection → Connection) → Type 0) (ns : List ℕ) (old new : Option Peers) → EndsAll Q ns old new → IfSome old (λ q. q.coming ≡ []) → IfSome new (λ q. q.coming ≡ [])
ended_still Q ns None new e none = subst (λ (m : Option Peers). IfSome m (λ q. q.coming ≡ [])) (sym e) tt
ended_still Q ns (Some p) new e none = subst (λ (m : Option Peers). IfSome m (λ q. q.coming ≡ [])) (sym e.1) (coming_each Q 0 ns p e.0 e.2 ∙ none)

-- ---- replies for the connections

pub each_kept : {E R S : Type 0} (takes : List ℕ → Option R) (eval : Eval R) (old new : CoreView E R S) (stamp : ℕ) (asked : List Asked) (turns : List (List Happening)) (replies slice : List (Option (List ℕ))) (numbers : List ℕ) → RoundDone takes eval old new 0 stamp (bytes_of asked) turns replies
    → length asked ≤ 16 → length numbers ≡ length asked → slice ≡ replies → (w : ℕ) → w < length numbers → (reply : List ℕ) × (slice_get slice w ≡ Some (Some reply))
each_kept takes eval old new stamp asked turns replies slice numbers done few many same w less =
    let long = length_bytes asked in
    let one = each_replied takes eval old new 0 stamp (bytes_of asked) turns replies done (omega (arith, long, few)) w (omega (arith, long, many, less)) in
    (one.0, ap (λ (rs : List (Option (List ℕ))). slice_get rs w) same ∙ one.1)

-- ---- counts of faults

pub no_counts : (a : Counter) (F : Type 0) → (F → ⊥) → Counts a a F
no_counts a F none = record {
  later = omega arith;
  told = λ less. absurd (omega (arith, less));
  cause = λ f. absurd (none f);
  calm = λ calm. (calm, refl);
  calls = omega arith;
  arms = record { spends = λ still. record { queue = refl; hits = refl; stopped = refl; left = omega arith }; first = λ f. absurd (none f) };
}

hub_only : (r : OutsideRefusal) (x : ServeRefusal) → x ≡ of_hub r → (r ≡ OutsideRefusal.Failed → x ≡ ServeRefusal.Hub) × (x ≡ ServeRefusal.Hub → r ≡ OutsideRefusal.Failed) × (x ≡ ServeRefusal.Tape → ⊥)
hub_only OutsideRefusal.Failed x e = (λ f. e, λ h. refl, λ t. (let bad : ServeRefusal.Hub ≡ ServeRefusal.Tape = sym e ∙ t in cc))
hub_only OutsideRefusal.Memory x e = (λ f. absurd cc, λ h. absurd (let bad : ServeRefusal.Memory ≡ ServeRefusal.Hub = sym e ∙ h in cc), λ t. (let bad : ServeRefusal.Memory ≡ ServeRefusal.Tape = sym e ∙ t in cc))

tape_only : (r : OutsideRefusal) (x : ServeRefusal) → x ≡ of_tape r → (r ≡ OutsideRefusal.Failed → x ≡ ServeRefusal.Tape) × (x ≡ ServeRefusal.Tape → r ≡ OutsideRefusal.Failed) × (x ≡ ServeRefusal.Hub → ⊥)
tape_only OutsideRefusal.Failed x e = (λ f. e, λ h. refl, λ t. (let bad : ServeRefusal.Tape ≡ ServeRefusal.Hub = sym e ∙ t in cc))
tape_only OutsideRefusal.Memory x e = (λ f. absurd cc, λ h. absurd (let bad : ServeRefusal.Memory ≡ ServeRefusal.Tape = sym e ∙ h in cc), λ t. (let bad : ServeRefusal.Memory ≡ ServeRefusal.Hub = sym e ∙ t in cc))

err_is : {T E : Type 0} (a b : E) → IsErrOf {T = T} {E = E} (Err a) b → a ≡ b
err_is a b e = cc

is_err : {T E : Type 0} (a b : E) → a ≡ b → IsErrOf {T = T} {E = E} (Err a) b
is_err a b e = ap (λ x. Err x) e

pub counts_hub : {T U : Type 0} (a b c : Counter) (r : OutsideRefusal) (x : ServeRefusal) → x ≡ of_hub r → Counts a b (IsErrOf {T = T} {E = OutsideRefusal} (Err r) OutsideRefusal.Failed) → c ≡ b → Counts a c (IsErrOf {T = U} {E = ServeRefusal} (Err x) ServeRefusal.Hub)
counts_hub {T} {U} a b c r x is counts same =
    let only = hub_only r x is in
    subst (λ (k : Counter). Counts a k (IsErrOf {T = U} {E = ServeRefusal} (Err x) ServeRefusal.Hub)) (sym same) (counts_as counts (λ f. is_err {T = U} x ServeRefusal.Hub (only.0 (err_is {T = T} r OutsideRefusal.Failed f))) (λ h. is_err {T = T} r OutsideRefusal.Failed (only.1 (err_is {T = U} x ServeRefusal.Hub h))))

pub counts_no_tape : {U : Type 0} (a : Counter) (r : OutsideRefusal) (x : ServeRefusal) → x ≡ of_hub r → Counts a a (IsErrOf {T = U} {E = ServeRefusal} (Err x) ServeRefusal.Tape)
counts_no_tape {U} a r x is = no_counts a (IsErrOf {T = U} {E = ServeRefusal} (Err x) ServeRefusal.Tape) (λ e. (hub_only r x is).2 (err_is {T = U} x ServeRefusal.Tape e))

pub counts_tape : {T U : Type 0} (a b : Counter) (r : OutsideRefusal) (x : ServeRefusal) → x ≡ of_tape r → Counts a b (IsErrOf {T = T} {E = OutsideRefusal} (Err r) OutsideRefusal.Failed) → Counts a b (IsErrOf {T = U} {E = ServeRefusal} (Err x) ServeRefusal.Tape)
counts_tape {T} {U} a b r x is counts =
    let only = tape_only r x is in
    counts_as counts (λ f. is_err {T = U} x ServeRefusal.Tape (only.0 (err_is {T = T} r OutsideRefusal.Failed f))) (λ h. is_err {T = T} r OutsideRefusal.Failed (only.1 (err_is {T = U} x ServeRefusal.Tape h)))

ok_fails : {T : Type 0} (v : T) → IsErrOf {T = T} {E = OutsideRefusal} (Ok v) OutsideRefusal.Failed → ⊥
ok_fails v e = cc

pub counts_no_hub : {T U : Type 0} (a b c : Counter) (v : T) (r : OutsideRefusal) (x : ServeRefusal) → x ≡ of_tape r → Counts a b (IsErrOf {T = T} {E = OutsideRefusal} (Ok v) OutsideRefusal.Failed) → c ≡ b → Counts a c (IsErrOf {T = U} {E = ServeRefusal} (Err x) ServeRefusal.Hub)
counts_no_hub {T} {U} a b c v r x is counts same =
    subst (λ (k : Counter). Counts a k (IsErrOf {T = U} {E = ServeRefusal} (Err x) ServeRefusal.Hub)) (sym same) (counts_as counts (λ f. absurd (ok_fails v f)) (λ h. absurd ((tape_only r x is).2 (err_is {T = U} x ServeRefusal.Hub h))))
