-- Rounds behind one another, as the hub tells them, up to the end of a run.
use Rattle.std.proofs.Common.{◌≡◌, ℕ, zero, suc, ◌+◌, ◌-◌, ◌<◌, ◌≤◌, min, List, [], ◌∷◌, ◌++◌, map, length, length-append, append_assoc, append-nil, flat_map, Option, Some, None, refl, sym, ap, ap₂, ◌∙◌, subst, arith, inl, inr}
use Rattle.std.specs.Prelude.{◌⊎◌, IfSome}
use Rattle.zdisk.specs.Disk.{Told, content}
use Rattle.evaluator.specs.Exec.{Eval}
use Rattle.http_clients.specs.Arriving.{Tells}
use Rattle.schedule.specs.Items.{HasLine, item_text}
use Rattle.schedule.specs.declared.item.Item2.{Item2}
use Rattle.txn_core.specs.Cores.{CoreView, IsAtRest}
use Rattle.txn_core.specs.Slots.{computed_of, doing_of}
use Rattle.txn_core.specs.declared.slot.Slot.{Slot}
use Rattle.schedule.specs.Moments.{Attempt, Doing, Free}
use Rattle.evaluator.specs.declared.draft.Draft.{Draft}
use Rattle.evaluator.specs.declared.reply.Reply.{Reply}
use Rattle.std.proofs.Common.{replicate, slice_get}
use Rattle.zserve.specs.Sweeping.{Waits}
use Rattle.zserve.specs.Taping.{Continues, Grows}
use Rattle.std.proofs.lemmas.Grind.{flat_map-append}
use Rattle.std.proofs.lemmas.List.{map-append}
use Rattle.zbase.specs.Faults.{Counter, Counts, counts_as, counts_then}
use Rattle.std.specs.Prelude.{IsErrOf}
use Rattle.std.proofs.Common.{Ok}
use Rattle.zserve.specs.declared.refusal.ServeRefusal.{ServeRefusal}
use Rattle.zio.specs.Clocks.{Tick}
use Rattle.zio.specs.Hubs.{Peers}
use Rattle.http_clients.specs.Clients.{Client, held}
use Rattle.http_clients.specs.Hearing.{message_front}
use Rattle.zserve.specs.Happened.{Happening, items}
use Rattle.zserve.specs.Rounds.{round_of}
use Rattle.zserve.specs.Served.{RoundsGone, ToldSoFar, replies_of}
use Rattle.zserve.specs.Serving.{RoundServed, RoundTold, RoundsSoFar}
use Rattle.zserve.specs.Stamped.{AreStamps, Stamps}
use Rattle.zserve.specs.Tapes.{AreRounds, Round, happened_in, messages, sizes, total}
use Rattle.zserve.proofs.Goings.{goes_none, goes_then}
use Rattle.zserve.proofs.Handing.{all_joined}
use Rattle.zserve.proofs.Rounding.{happened_more, rounds_more, rounds_none, rounds_short}
use Rattle.zserve.proofs.Stepping.{items_more}

stamps_more : (a b c : Option (List Tick)) (k l m : Counter) (ts : List ℕ) (t : ℕ) → AreStamps a k ts b l → Stamps b l t c m → AreStamps a k (ts ++ t ∷ []) c m
stamps_more a b c k l m [] t are one = (c, m, subst (λ (x : Option (List Tick)). Stamps x k t c m) are.0 (subst (λ (n : Counter). Stamps b n t c m) are.1 one), (refl, refl))
stamps_more a b c k l m (x ∷ ts) t are one = (are.0, are.1, are.2, stamps_more are.0 b c are.1 l m ts t are.3 one)

total_more : (rounds : List Round) (r : Round) → total (sizes (rounds ++ r ∷ [])) ≡ total (sizes rounds) + length r.clients
total_more [] r = omega arith
total_more (x ∷ rounds) r = (let rest = total_more rounds r in omega (arith, rest))

replies_more : (rounds : List Round) (r : Round) → replies_of (rounds ++ r ∷ []) ≡ replies_of rounds + length (messages message_front r.clients)
replies_more rounds r =
    ap length (flat_map-append (λ (x : Round). messages message_front x.clients) rounds (r ∷ [])) ∙ length-append (flat_map (λ (x : Round). messages message_front x.clients) rounds) (messages message_front r.clients ++ [])
    ∙ ap (λ (xs : List (List ℕ)). replies_of rounds + length xs) (append-nil (messages message_front r.clients))

equal_or_less : (a b : ℕ) → a ≤ b → (a ≡ b) ⊎ (a < b)
equal_or_less zero zero le = inl refl
equal_or_less zero (suc b) le = inr (omega arith)
equal_or_less (suc a) zero le = absurd (omega (arith, le))
equal_or_less (suc a) (suc b) le = elim (equal_or_less a b (omega (arith, le))) [ inl e ↦ inl (ap suc e) | inr l ↦ inr (omega (arith, l)) ]

none_comes : (q r : Peers) (cs : List Client) → q.coming ≡ [] → q.coming ≡ map held cs ++ r.coming → 1 ≤ length cs → ⊥
none_comes q r [] none came some = omega (arith, some)
none_comes q r (c ∷ cs) none came some = (let bad : [] ≡ held c ∷ (map held cs ++ r.coming) = sym none ∙ came in cc)

-- one round more
pub told_next : (connections most count answered stamp : ℕ) (all : List Happening) (ms : List (List ℕ)) (turns : List (List Happening)) (a b c : Option (List Tick)) (k l m : Counter) (left replies : ℕ) (p q r : Peers)
    → ToldSoFar connections most all a k b l left replies p q → RoundTold ms stamp turns count q r → 1 ≤ count → count ≤ min most left → (count < min most left → r.coming ≡ []) → Stamps b l stamp c m → length ms ≡ answered
    → ToldSoFar connections most (all ++ round_of ms stamp turns) a k c m (left - count) (replies + answered) p r
told_next connections most count answered stamp all ms turns a b c k l m left replies p q r so one some fits short stamps many = record {
  rounds = so.rounds ++ round ∷ [];
  is = ap₂ (λ (xs : List Happening) (ys : List Happening). xs ++ ys) so.is same ∙ sym (happened_more message_front so.rounds round);
  port = one.port ∙ so.port;
  kept = subst (λ (n : ℕ). RoundsSoFar message_front connections most p r (so.rounds ++ round ∷ []) (left - n) ⊎ (AreRounds message_front connections most p r (so.rounds ++ round ∷ []) × (r.coming ≡ []))) one.many kept;
  stamps = subst (λ (ts : List ℕ). AreStamps a k ts c m) (sym (map-append (λ (x : Round). x.stamp) so.rounds (round ∷ []))) (stamps_more a b c k l m (map (λ (x : Round). x.stamp) so.rounds) stamp so.stamps stamps);
  count = (let before = so.count in let more = total_more so.rounds round in let len = one.many in omega (arith, before, more, len, fits));
  replied = replies_more so.rounds round ∙ ap₂ (λ (x : ℕ) (y : ℕ). x + y) so.replied (ap length one.asked ∙ many);
}
  where
    round : Round
    round = record { clients = one.clients; stamp = stamp; turns = turns }

    same : round_of ms stamp turns ≡ happened_in message_front round
    same = ap (λ (xs : List (List ℕ)). round_of xs stamp turns) (sym one.asked)

    some_clients : 1 ≤ length one.clients
    some_clients = (let len = one.many in omega (arith, len, some))

    fits_clients : length one.clients ≤ min most left
    fits_clients = (let len = one.many in omega (arith, len, fits))

    kept : RoundsSoFar message_front connections most p r (so.rounds ++ round ∷ []) (left - length one.clients) ⊎ (AreRounds message_front connections most p r (so.rounds ++ round ∷ []) × (r.coming ≡ []))
    kept = elim so.kept [
      | inl before ↦ elim (equal_or_less (length one.clients) (min most left) fits_clients) [
        | inl full ↦ inl (rounds_more message_front connections most p q r so.rounds left round before some_clients full one.came one.accepted one.is)
        | inr less ↦ (let ended : r.coming ≡ [] = short (let len = one.many in omega (arith, len, less)) in inr (rounds_short message_front connections most p q r so.rounds left round before some_clients fits_clients ended one.came one.accepted one.is, ended))
      ]
      | inr whole ↦ absurd (none_comes q r one.clients whole.1 one.came some_clients)
    ]

-- ---- tapes behind one another

grows_then : (a b c : Option Told) (xs ys : List ℕ) → Grows a xs b → Grows b ys c → Grows a (xs ++ ys) c
grows_then None b c xs ys first second = subst (λ (o : Option Told). Grows o ys c) first second
grows_then (Some t) b c xs ys first second =
    let more : Grows (Some first.0) ys c = subst (λ (o : Option Told). Grows o ys c) first.1 second in
    (more.0, more.1, more.2 ∙ ap (λ (bytes : List ℕ). bytes ++ ys) first.2 ∙ append_assoc (content t) xs ys)

continues_then : (a b c : Option Told) (xs ys : List Item2) → Continues a xs b → Continues b ys c → Continues a (xs ++ ys) c
continues_then a b c xs ys first second = (
  subst (λ (t : List ℕ). Grows a t c) (sym (flat_map-append item_text xs ys)) (grows_then a b c (flat_map item_text xs) (flat_map item_text ys) first.0 second.0),
  all_joined HasLine xs ys first.1 second.1,
)

continues_none : (a : Option Told) → Continues a [] a
continues_none None = (refl, tt)
continues_none (Some t) = ((t, refl, sym (append-nil (content t))), tt)

-- ---- rounds so far

told_none : (connections most : ℕ) (ticks : Option (List Tick)) (counter : Counter) (hub : Option Peers) → Tells hub hub (ToldSoFar connections most [] ticks counter ticks counter connections 0)
told_none connections most ticks counter None = refl
told_none connections most ticks counter (Some p) = (p, refl, record { rounds = []; is = refl; port = refl; kept = inl (rounds_none message_front connections most p); stamps = (refl, refl); count = omega arith; replied = refl })

pub gone_none : {E R S : Type 0} (takes : List ℕ → Option R) (eval : Eval R) (connections most : ℕ) (core : CoreView E R S) (ticks : Option (List Tick)) (counter : Counter) (tape : Option Told) (hub : Option Peers) → Waits core []
    → RoundsGone takes eval connections most core core ticks counter ticks counter tape tape hub hub connections 0
gone_none takes eval connections most core ticks counter tape hub idle = record {
  all = [];
  now = 0;
  goes = goes_none takes eval core 0;
  idle = idle;
  taped = continues_none tape;
  told = told_none connections most ticks counter hub;
}

tells_next : (R S T : Peers → Peers → Type 0) (h i j : Option Peers) → ((p q r : Peers) → j ≡ Some r → R p q → S q r → T p r) → Tells h i R → Tells i j S → Tells h j T
tells_next R S T None i j turn e f = subst (λ (m : Option Peers). Tells m j S) e f
tells_next R S T (Some p) i j turn e f =
    let g : Tells (Some e.0) j S = subst (λ (m : Option Peers). Tells m j S) e.1 f in
    (g.0, g.1, turn p e.0 g.0 g.1 e.2 g.2)

pub gone_next : {E R S : Type 0} (takes : List ℕ → Option R) (eval : Eval R) (connections most count answered : ℕ) (first old new : CoreView E R S) (a b c : Option (List Tick)) (k l m : Counter) (t u v : Option Told) (h i j : Option Peers) (left replies : ℕ)
    → RoundsGone takes eval connections most first old a k b l t u h i left replies → RoundServed takes eval old new b l c m u v i j count answered → 1 ≤ count → count ≤ min most left → (count < min most left → IfSome j (λ q. q.coming ≡ []))
    → RoundsGone takes eval connections most first new a k c m t v h j (left - count) (replies + answered)
gone_next takes eval connections most count answered first old new a b c k l m t u v h i j left replies gone served some fits short = record {
  all = gone.all ++ round_of served.ms served.stamp served.turns;
  now = served.stamp;
  goes = goes_then takes eval first old new 0 gone.now served.stamp gone.all (round_of served.ms served.stamp served.turns) gone.goes (served.taped.done gone.now).goes;
  idle = (served.taped.done 0).idle;
  taped = subst (λ (xs : List Item2). Continues t xs v) (sym (items_more gone.all (round_of served.ms served.stamp served.turns))) (continues_then t u v (items gone.all) (items (round_of served.ms served.stamp served.turns)) gone.taped served.taped.taped);
  told = tells_next (ToldSoFar connections most gone.all a k b l left replies) (RoundTold served.ms served.stamp served.turns count) (ToldSoFar connections most (gone.all ++ round_of served.ms served.stamp served.turns) a k c m (left - count) (replies + answered)) h i j
      (λ p q r is so one. told_next connections most count answered served.stamp gone.all served.ms served.turns a b c k l m left replies p q r so one some fits (λ less. subst (λ (o : Option Peers). IfSome o (λ x. x.coming ≡ [])) is (short less)) served.taped.stamps served.many) gone.told served.told;
}

-- ---- small facts of the loop

pub some_of : (n : ℕ) → (n ≡ 0 → ⊥) → 1 ≤ n
some_of zero not = absurd (not refl)
some_of (suc n) not = omega arith

ok_isnt : {T : Type 0} (v : T) (x : ServeRefusal) → IsErrOf {T = T} {E = ServeRefusal} (Ok v) x → ⊥
ok_isnt v x e = cc

pub counts_ok : {T : Type 0} (a b c : Counter) (v : T) (x : ServeRefusal) → Counts a b ⊥ → Counts b c (IsErrOf {T = T} {E = ServeRefusal} (Ok v) x) → Counts a c ⊥
counts_ok a b c v x first second = counts_as (counts_then first (λ f. f) second) (λ e. ok_isnt v x e) (λ f. absurd f)

pub fewer_left : (replies answered left accepted most connections : ℕ) → replies + left ≤ connections → answered ≤ accepted → accepted ≤ most → most ≤ left → replies + answered + (left - accepted) ≤ connections
fewer_left replies answered left accepted most connections before some fits most_left = omega (arith, before, some, fits, most_left)

pub least_left : (most clients left : ℕ) → most ≡ min clients left → most ≤ left
least_left most clients left is = omega (arith, is)

-- ---- a core at rest

none_computed : {R : Type 0} (a : Attempt R) (ready : Option (Reply × Draft)) → computed_of a ready ≡ Free → ⊥
none_computed a None e = cc
none_computed a (Some x) e = cc

idle_slot : {E R S : Type 0} (eval : Eval R) (s : Slot E R S) → doing_of eval s ≡ Free → s ≡ Slot.Idle
idle_slot eval Slot.Idle e = refl
idle_slot eval (Slot.Fresh f) e = absurd cc
idle_slot eval (Slot.Active a) e = absurd cc
idle_slot eval (Slot.Computed a) e = absurd (none_computed a.attempt a.ready e)
idle_slot eval (Slot.Pending p) e = absurd cc

same_doing : {R : Type 0} (a b : Doing R) → Some a ≡ Some b → a ≡ b
same_doing a b e = cc

idle_at : {E R S : Type 0} (eval : Eval R) (slots : List (Slot E R S)) (v : ℕ) → slice_get (map (doing_of eval) slots) v ≡ Some Free → slice_get slots v ≡ Some Slot.Idle
idle_at eval [] v e = absurd cc
idle_at eval (s ∷ slots) zero e = ap (λ x. Some x) (idle_slot eval s (same_doing (doing_of eval s) Free e))
idle_at eval (s ∷ slots) (suc v) e = idle_at eval slots v e

all_free : {R : Type 0} (n v : ℕ) → v < n → slice_get (replicate n (let free : Doing R = Free in free)) v ≡ Some Free
all_free zero v less = absurd (omega (arith, less))
all_free (suc n) zero less = refl
all_free (suc n) (suc v) less = all_free n v (omega (arith, less))

pub rest_waits : {E R S : Type 0} (eval : Eval R) (core : CoreView E R S) → IsAtRest eval core → Waits core []
rest_waits eval core rest = record {
  wait = λ v below. ((λ among i. among), (λ none. idle_at eval core.slots v (ap (λ ds. slice_get ds v) rest.1 ∙ all_free 16 v below)));
  distinct = tt;
  workers = λ w among. absurd among;
}
