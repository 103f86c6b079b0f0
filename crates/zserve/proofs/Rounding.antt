-- Rounds behind one another.
use Rattle.std.proofs.Common.{◌≡◌, ℕ, zero, suc, inl, inr, ◌+◌, ◌-◌, ◌<◌, ◌≤◌, min, false, List, [], ◌∷◌, ◌++◌, map, length, slice_get, append_assoc, append-nil, Option, Some, None, refl, sym, ap, ◌∙◌, subst, arith}
use Rattle.std.specs.Prelude.{◌⊎◌}
use Rattle.std.specs.List.{AllByRecursion}
use Rattle.std.proofs.lemmas.List.{map-append}
use Rattle.evaluator.specs.Exec.{Eval}
use Rattle.zio.specs.Hubs.{Connection, Peers}
use Rattle.txn_core.specs.Cores.{CoreView}
use Rattle.zserve.specs.Happened.{Happening}
use Rattle.zserve.specs.Rounds.{RoundDone}
use Rattle.zserve.specs.Serving.{AnsweredBy, RoundsSoFar}
use Rattle.zserve.specs.Sweeping.{Replied}
use Rattle.http_clients.specs.Clients.{Client, held}
use Rattle.http_clients.specs.Numbers.{Among}
use Rattle.zserve.specs.Tapes.{workers_from, AreRounds, IsAnswered, IsRound, Round, Takes, assigned, clients_of, happened, happened_in, messages, sizes}
use Rattle.zserve.specs.Turns.{all_in, lines_in, reply_among}

-- ---- replies

within : {X : Type 0} (xs : List X) (k : ℕ) (x : X) → slice_get xs k ≡ Some x → k < length xs
within [] k x e = absurd cc
within (y ∷ xs) zero x e = omega arith
within (y ∷ xs) (suc k) x e = (let less = within xs k x e in omega (arith, less))

same_reply : (a b : Option (List ℕ)) → Some a ≡ Some b → a ≡ b
same_reply a b e = cc

answered_lines : (replies : List (Option (List ℕ))) (done : List Happening) (x : Client × Option ℕ) → Replied replies done → AnsweredBy replies x → IsAnswered (lines_in done) x
answered_lines replies done (c, None) replied a = a
answered_lines replies done (c, Some w) replied a = (a.0, same_reply (reply_among w (lines_in done)) (Some a.0) (sym (replied w (within replies w (Some a.0) a.1)) ∙ a.1), a.2)

all_answered : (replies : List (Option (List ℕ))) (done : List Happening) (xs : List (Client × Option ℕ)) → Replied replies done → AllByRecursion (AnsweredBy replies) xs → AllByRecursion (IsAnswered (lines_in done)) xs
all_answered replies done [] replied all = tt
all_answered replies done (x ∷ xs) replied all = (answered_lines replies done x replied all.0, all_answered replies done xs replied all.1)

same_or_less : (w v : ℕ) → w ≤ v → (v ≡ w) ⊎ (w + 1 ≤ v)
same_or_less zero zero le = inl refl
same_or_less zero (suc v) le = inr (omega arith)
same_or_less (suc w) zero le = absurd (omega (arith, le))
same_or_less (suc w) (suc v) le = elim (same_or_less w v (omega (arith, le))) [ inl e ↦ inl (ap suc e) | inr more ↦ inr (omega (arith, more)) ]

among_workers : (w v : ℕ) (ms : List (List ℕ)) → w ≤ v → v < length ms + w → Among v (workers_from w ms)
among_workers w v [] le less = absurd (omega (arith, le, less))
among_workers w v (m ∷ ms) le less = elim (same_or_less w v le) [ inl e ↦ inl e | inr more ↦ inr (among_workers (w + 1) v ms more (omega (arith, less))) ]

-- each worker of a round that is done has its reply
pub each_replied : {E R S : Type 0} (takes : List ℕ → Option R) (eval : Eval R) (old new : CoreView E R S) (since stamp : ℕ) (ms : List (List ℕ)) (turns : List (List Happening)) (replies : List (Option (List ℕ))) → RoundDone takes eval old new since stamp ms turns replies → length ms ≤ 16
    → (w : ℕ) → w < length ms → (reply : List ℕ) × (slice_get replies w ≡ Some (Some reply))
each_replied takes eval old new since stamp ms turns replies done few w less =
    let got = done.answered w (among_workers 0 w ms (omega arith) (omega (arith, less))) in
    (got.0, done.replied w (let long = done.long in omega (arith, long, less, few)) ∙ ap (λ (r : Option (List ℕ)). Some r) got.1)

-- a round is done, its replies are written, and its connections are closed
pub is_round : {E R S : Type 0} (takes : List ℕ → Option R) (eval : Eval R) (old new : CoreView E R S) (since : ℕ) (begins : List ℕ → Option (List ℕ)) (r : Round) (replies : List (Option (List ℕ)))
    → RoundDone takes eval old new since r.stamp (messages begins r.clients) r.turns replies → AllByRecursion (AnsweredBy replies) (assigned begins 0 r.clients) → AllByRecursion (λ c. c.end.open_ ≡ false) r.clients → IsRound begins r
is_round takes eval old new since begins r replies done answered shut = record {
  turns = done.turns_are;
  answered = all_answered replies (all_in r.turns) (assigned begins 0 r.clients) done.replied answered;
  closed = shut;
}

-- ---- rounds

pub happened_more : (begins : List ℕ → Option (List ℕ)) (rounds : List Round) (r : Round) → happened begins (rounds ++ r ∷ []) ≡ happened begins rounds ++ happened_in begins r
happened_more begins [] r = append-nil (happened_in begins r)
happened_more begins (x ∷ rounds) r = ap (λ hs. happened_in begins x ++ hs) (happened_more begins rounds r) ∙ sym (append_assoc (happened_in begins x) (happened begins rounds) (happened_in begins r))

clients_more : (rounds : List Round) (r : Round) → clients_of (rounds ++ r ∷ []) ≡ clients_of rounds ++ r.clients
clients_more [] r = append-nil r.clients
clients_more (x ∷ rounds) r = ap (λ cs. x.clients ++ cs) (clients_more rounds r) ∙ sym (append_assoc x.clients (clients_of rounds) r.clients)

each_more : (begins : List ℕ → Option (List ℕ)) (rounds : List Round) (r : Round) → AllByRecursion (IsRound begins) rounds → IsRound begins r → AllByRecursion (IsRound begins) (rounds ++ r ∷ [])
each_more begins [] r all one = (one, tt)
each_more begins (x ∷ rounds) r all one = (all.0, each_more begins rounds r all.1 one)

pub rounds_none : (begins : List ℕ → Option (List ℕ)) (connections most : ℕ) (peers : Peers) → RoundsSoFar begins connections most peers peers [] connections
rounds_none begins connections most peers = record { came = refl; accepted = sym (append-nil peers.accepted); sized = λ last more takes. takes; each = tt }

came_more : (old mid new : Peers) (rounds : List Round) (r : Round) → old.coming ≡ map held (clients_of rounds) ++ mid.coming → mid.coming ≡ map held r.clients ++ new.coming → old.coming ≡ map held (clients_of (rounds ++ r ∷ [])) ++ new.coming
came_more old mid new rounds r e f =
    e ∙ ap (λ (xs : List (List ℕ)). map held (clients_of rounds) ++ xs) f ∙ sym (append_assoc (map held (clients_of rounds)) (map held r.clients) new.coming)
    ∙ ap (λ (xs : List (List ℕ)). xs ++ new.coming) (sym (map-append held (clients_of rounds) r.clients) ∙ ap (map held) (sym (clients_more rounds r)))

accepted_more : (old mid new : Peers) (rounds : List Round) (r : Round) → mid.accepted ≡ old.accepted ++ map (λ c. c.end) (clients_of rounds) → new.accepted ≡ mid.accepted ++ map (λ c. c.end) r.clients → new.accepted ≡ old.accepted ++ map (λ c. c.end) (clients_of (rounds ++ r ∷ []))
accepted_more old mid new rounds r e f =
    f ∙ ap (λ (xs : List Connection). xs ++ map (λ c. c.end) r.clients) e ∙ append_assoc old.accepted (map (λ c. c.end) (clients_of rounds)) (map (λ c. c.end) r.clients)
    ∙ ap (λ (xs : List Connection). old.accepted ++ xs) (sym (map-append (λ (c : Client). c.end) (clients_of rounds) r.clients) ∙ ap (map (λ c. c.end)) (sym (clients_more rounds r)))

sizes_more : (rounds : List Round) (r : Round) (more : List ℕ) → sizes (rounds ++ r ∷ []) ++ more ≡ sizes rounds ++ length r.clients ∷ more
sizes_more [] r more = refl
sizes_more (x ∷ rounds) r more = ap (λ ks. length x.clients ∷ ks) (sizes_more rounds r more)

-- one round more that took as many as it could
pub rounds_more : (begins : List ℕ → Option (List ℕ)) (connections most : ℕ) (old mid new : Peers) (rounds : List Round) (left : ℕ) (r : Round)
    → RoundsSoFar begins connections most old mid rounds left → 1 ≤ length r.clients → length r.clients ≡ min most left → mid.coming ≡ map held r.clients ++ new.coming → new.accepted ≡ mid.accepted ++ map (λ c. c.end) r.clients → IsRound begins r
    → RoundsSoFar begins connections most old new (rounds ++ r ∷ []) (left - length r.clients)
rounds_more begins connections most old mid new rounds left r so some full came accepted one = record {
  came = came_more old mid new rounds r so.came came;
  accepted = accepted_more old mid new rounds r so.accepted accepted;
  sized = λ last more takes. subst (λ ks. Takes most connections (last.coming ≡ []) ks) (sym (sizes_more rounds r more)) (so.sized last (length r.clients ∷ more) (some, omega (arith, full), (λ less. absurd (omega (arith, full, less))), takes));
  each = each_more begins rounds r so.each one;
}

-- the last one, which found no more
pub rounds_short : (begins : List ℕ → Option (List ℕ)) (connections most : ℕ) (old mid new : Peers) (rounds : List Round) (left : ℕ) (r : Round)
    → RoundsSoFar begins connections most old mid rounds left → 1 ≤ length r.clients → length r.clients ≤ min most left → new.coming ≡ [] → mid.coming ≡ map held r.clients ++ new.coming → new.accepted ≡ mid.accepted ++ map (λ c. c.end) r.clients → IsRound begins r
    → AreRounds begins connections most old new (rounds ++ r ∷ [])
rounds_short begins connections most old mid new rounds left r so some fits ended came accepted one = record {
  came = came_more old mid new rounds r so.came came;
  accepted = accepted_more old mid new rounds r so.accepted accepted;
  sized = subst (λ ks. Takes most connections (new.coming ≡ []) ks) (sym (sym (append-nil (sizes (rounds ++ r ∷ []))) ∙ sizes_more rounds r [])) (so.sized new (length r.clients ∷ []) (some, fits, (λ less. (ended, refl)), tt));
  each = each_more begins rounds r so.each one;
}

-- and those so far are the whole, where none is left or none comes
pub rounds_whole : (begins : List ℕ → Option (List ℕ)) (connections most : ℕ) (old new : Peers) (rounds : List Round) (left : ℕ) → RoundsSoFar begins connections most old new rounds left → AreRounds begins connections most old new rounds
rounds_whole begins connections most old new rounds left so = record { came = so.came; accepted = so.accepted; sized = subst (λ ks. Takes most connections (new.coming ≡ []) ks) (append-nil (sizes rounds)) (so.sized new [] tt); each = so.each }
