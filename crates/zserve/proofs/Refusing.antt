-- What a core went by to where a run was refused, and what the hub tells of that run.
use Rattle.std.proofs.Common.{◌≡◌, ℕ, ◌-◌, List, [], ◌∷◌, ◌++◌, flat_map, map, append-nil, append_assoc, Option, Some, None, Result, Ok, Err, refl, sym, ap, ◌∙◌, subst, inl, inr}
use Rattle.std.specs.Option.{option_map}
use Rattle.std.specs.Prelude.{◌⊎◌, IfSome, OnErr, is_some}
use Rattle.std.proofs.lemmas.List.{map-append}
use Rattle.zbase.specs.Faults.{Counter}
use Rattle.zdisk.specs.Calls.{Follows}
use Rattle.zdisk.specs.Disk.{Held, Told}
use Rattle.zio.specs.Clocks.{Tick}
use Rattle.zio.specs.HubCalls.{listening_on}
use Rattle.zio.specs.Hubs.{Connection, Peers}
use Rattle.zbase.specs.History.{IsHistory}
use Rattle.evaluator.specs.Exec.{Eval, IsLawful}
use Rattle.http_clients.specs.Arriving.{Tells}
use Rattle.http_clients.specs.Clients.{Client, held}
use Rattle.http_clients.specs.Hearing.{message_front}
use Rattle.fs_store.specs.Stores.{IsTold, StoreView}
use Rattle.txn_core.specs.Cores.{CoreView, IsAtRest}
use Rattle.txn_core.specs.Replying.{terms_of}
use Rattle.txn_core.specs.Slots.{Possible}
use Rattle.zserve.specs.Reports.{Reports}
use Rattle.zserve.specs.Going.{Goes, Went}
use Rattle.zserve.specs.Happened.{Happening, items}
use Rattle.zserve.specs.Served.{RefusedRun, RefusedTold, RoundsGone, ToldSoFar}
use Rattle.zserve.specs.Serving.{AllShut, RoundLost}
use Rattle.zserve.specs.Tapes.{AreRounds, RefusedRounds, Round, Takes, clients_of}
use Rattle.zserve.specs.Taping.{Leaves, Taped}
use Rattle.zserve.proofs.Goings.{goes_none, goes_then}
use Rattle.zserve.proofs.Reporting.{ReplayLaw, RunLaw, reports}
use Rattle.zserve.proofs.Rounding.{rounds_whole}
use Rattle.zserve.proofs.Tapings.{leaves_as, leaves_same}
use Rattle.packing.specs.Reachable.{Linking}
use Rattle.schedule.specs.Items.{HasLine, item_text}
use Rattle.std.specs.List.{AllByRecursion}

-- ---- the core

pub on_err : {T M : Type 0} (r : Result T M) (P : Type 0) → P → OnErr r P
on_err (Ok x) P p = tt
on_err (Err m) P p = p

unfoldable pub went_none : {E R S : Type 0} (takes : List ℕ → Option R) (eval : Eval R) (core : CoreView E R S) (since : ℕ) → Went takes eval core since core
went_none takes eval core since = ([], since, goes_none takes eval core since)

pub went_then : {E R S : Type 0} (takes : List ℕ → Option R) (eval : Eval R) (a b c : CoreView E R S) (s t : ℕ) (xs : List Happening) → Goes takes eval a s xs b t → Went takes eval b t c → Went takes eval a s c
went_then takes eval a b c s t xs first more = (xs ++ more.0, more.1, goes_then takes eval a b c s t more.1 xs more.0 first more.2)

-- a refused round, told by another refusal
pub lost_as : {A B E R S : Type 0} → (A → B) → (takes : List ℕ → Option R) (eval : Eval R) (old new : CoreView E R S) (o n : Option Told) → ((since : ℕ) → RoundLost A takes eval old since new o n) → (since : ℕ) → RoundLost B takes eval old since new o n
lost_as turn takes eval old new o n lost since = let l = lost since in (l.0, l.1, l.2, leaves_as turn o [] (flat_map item_text (items l.0)) n l.3)

-- refused before the core went by anything
pub lost_none : {E R S : Type 0} (A : Type 0) (takes : List ℕ → Option R) (eval : Eval R) (core : CoreView E R S) (o n : Option Told) → n ≡ o → (since : ℕ) → RoundLost A takes eval core since core o n
lost_none A takes eval core o n same since = ([], since, goes_none takes eval core since, leaves_same A o [] n same)

-- ---- the tape

pub follows_tells : (a b : Option Told) (Change : Held → Held → Type 0) → Follows a b Change → is_some b ≡ is_some a
follows_tells None None Change follows = refl
follows_tells (Some a) (Some b) Change follows = refl
follows_tells (Some a) None Change follows = absurd follows
follows_tells None (Some b) Change follows = absurd follows

-- ---- the hub

-- where none came in the first place, none comes behind
none_behind : (xs ys : List (List ℕ)) → xs ++ ys ≡ [] → ys ≡ []
none_behind [] ys e = e
none_behind (x ∷ xs) ys e = absurd cc

takes_as : (A B : Type 0) → (A → B) → (most left : ℕ) (ks : List ℕ) → Takes most left A ks → Takes most left B ks
takes_as A B turn most left [] t = tt
takes_as A B turn most left (k ∷ ks) t = (t.0, t.1, (λ less. (let e = t.2 less in (turn e.0, e.1))), takes_as A B turn most (left - k) ks t.3)

-- whole rounds, and behind them connections that are closed
rounds_then : (connections most : ℕ) (p q r : Peers) (rounds : List Round) → AreRounds message_front connections most p q rounds → AllShut q r → RefusedRounds message_front connections most p r rounds
rounds_then connections most p q r rounds are shut = record {
  others = shut.clients;
  came = are.came ∙ ap (λ (xs : List (List ℕ)). map held (clients_of rounds) ++ xs) shut.came ∙ sym (append_assoc (map held (clients_of rounds)) (map held shut.clients) r.coming)
      ∙ ap (λ (xs : List (List ℕ)). xs ++ r.coming) (sym (map-append held (clients_of rounds) shut.clients));
  accepted = shut.accepted ∙ ap (λ (xs : List Connection). xs ++ map (λ c. c.end) shut.clients) are.accepted ∙ append_assoc p.accepted (map (λ c. c.end) (clients_of rounds)) (map (λ c. c.end) shut.clients)
      ∙ ap (λ (xs : List Connection). p.accepted ++ xs) (sym (map-append (λ (c : Client). c.end) (clients_of rounds) shut.clients));
  sized = takes_as (q.coming ≡ []) (r.coming ≡ []) (λ none. none_behind (map held shut.clients) r.coming (sym shut.came ∙ none)) most connections _ are.sized;
  each = are.each;
  shut = shut.shut;
}

told_then : (port connections most : ℕ) (all : List Happening) (a b : Option (List Tick)) (k l : Counter) (left replies : ℕ) (p q r : Peers) → p.port ≡ Some port → ToldSoFar connections most all a k b l left replies p q → AllShut q r → RefusedTold port connections most all a k p r
told_then port connections most all a b k l left replies p q r listens so shut = record {
  port_is = inr (shut.port ∙ so.port ∙ listens);
  rounds = so.rounds;
  is = so.is;
  are = rounds_then connections most p q r so.rounds (elim so.kept [ inl far ↦ rounds_whole message_front connections most p q so.rounds left far | inr last ↦ last.0 ]) shut;
  stamps = (b, l, so.stamps);
}

pub tells_listening : (port connections most : ℕ) (all : List Happening) (a b : Option (List Tick)) (k l : Counter) (left replies : ℕ) (h i j : Option Peers) → IfSome h (λ p. p.port ≡ Some port)
    → Tells h i (ToldSoFar connections most all a k b l left replies) → Tells i j AllShut → Tells h j (RefusedTold port connections most all a k)
tells_listening port connections most all a b k l left replies None i j listens so shut = subst (λ (o : Option Peers). Tells o j AllShut) so shut
tells_listening port connections most all a b k l left replies (Some p) i j listens so shut =
    let more : Tells (Some so.0) j AllShut = subst (λ (o : Option Peers). Tells o j AllShut) so.1 shut in
    (more.0, more.1, told_then port connections most all a b k l left replies p so.0 more.0 listens so.2 more.2)

-- refused in a round, behind whole rounds
unfoldable pub refused_behind : {E R S : Type 0} (takes : List ℕ → Option R) (eval : Eval R) (port connections most : ℕ) (first old new : CoreView E R S) (a b : Option (List Tick)) (k l : Counter) (t u : Option Told) (h i j : Option Peers) (left replies : ℕ)
    → IfSome h (λ p. p.port ≡ Some port) → RoundsGone takes eval connections most first old a k b l t u h i left replies → Tells i j AllShut → ((since : ℕ) → Went takes eval old since new) → RefusedRun takes eval port connections most first new a k h j
refused_behind {E} {R} {S} takes eval port connections most first old new a b k l t u h i j left replies listens gone shut went =
    let on : Went takes eval old gone.now new = went gone.now in
    record {
      all = gone.all;
      served = old;
      now = gone.now;
      goes = gone.goes;
      more = on.0;
      later = on.1;
      went = on.2;
      told = tells_listening port connections most gone.all a b k l left replies h i j listens gone.told shut;
    }

none_shut : (p : Peers) → AllShut p p
none_shut p = record { clients = []; port = refl; came = refl; accepted = sym (append-nil p.accepted); shut = tt }

pub tells_none_shut : (h : Option Peers) → Tells h h AllShut
tells_none_shut None = refl
tells_none_shut (Some p) = (p, refl, none_shut p)

-- refused behind the last round
unfoldable pub refused_last : {E R S : Type 0} (takes : List ℕ → Option R) (eval : Eval R) (port connections most : ℕ) (first old : CoreView E R S) (a b : Option (List Tick)) (k l : Counter) (t u : Option Told) (h i : Option Peers) (left replies : ℕ)
    → IfSome h (λ p. p.port ≡ Some port) → RoundsGone takes eval connections most first old a k b l t u h i left replies → RefusedRun takes eval port connections most first old a k h i
refused_last takes eval port connections most first old a b k l t u h i left replies listens gone =
    refused_behind takes eval port connections most first old old a b k l t u h i i left replies listens gone (tells_none_shut i) (λ since. went_none takes eval old since)

-- what refused rounds answer for: the run, and what stands of the tape
abbrev pub RoundsLost : {E R S : Type 0} → (failed : Type 0) → (List ℕ → Option R) → Eval R → (port connections most : ℕ) → CoreView E R S → CoreView E R S → Option (List Tick) → Counter → Option Peers → Option Peers → Option Told → Option Told → Type 0
RoundsLost failed takes eval port connections most old new a k h i t u =
    (gone : RefusedRun takes eval port connections most old new a k h i) × AllByRecursion HasLine (items gone.all) × Leaves failed t (flat_map item_text (items gone.all)) (flat_map item_text (items gone.more)) u

-- ---- from where the hub began to listen

no_rounds : (connections most : ℕ) (p q : Peers) → q.coming ≡ p.coming → q.accepted ≡ p.accepted → RefusedRounds message_front connections most p q []
no_rounds connections most p q came accepted = record { others = []; came = sym came; accepted = accepted ∙ sym (append-nil p.accepted); sized = tt; each = tt; shut = tt }

pub told_none : (port connections most : ℕ) (a : Option (List Tick)) (k : Counter) (p q : Peers) → (q ≡ p) ⊎ (q.port ≡ Some port) → q.coming ≡ p.coming → q.accepted ≡ p.accepted → RefusedTold port connections most [] a k p q
told_none port connections most a k p q port_is came accepted = record { port_is = port_is; rounds = []; is = refl; are = no_rounds connections most p q came accepted; stamps = (a, k, (refl, refl)) }

unfoldable pub before_any : {E R S : Type 0} (takes : List ℕ → Option R) (eval : Eval R) (port connections most : ℕ) (core : CoreView E R S) (a : Option (List Tick)) (k : Counter) (h i : Option Peers) → Tells h i (RefusedTold port connections most [] a k) → RefusedRun takes eval port connections most core core a k h i
before_any takes eval port connections most core a k h i told = record {
  all = [];
  served = core;
  now = 0;
  goes = goes_none takes eval core 0;
  more = [];
  later = 0;
  went = goes_none takes eval core 0;
  told = told;
}

-- the hub refused to listen
unfoldable pub refused_first : {E R S : Type 0} (takes : List ℕ → Option R) (eval : Eval R) (port connections most : ℕ) (core : CoreView E R S) (a : Option (List Tick)) (k : Counter) (h i : Option Peers) → i ≡ h → RefusedRun takes eval port connections most core core a k h i
refused_first takes eval port connections most core a k h i same = before_any takes eval port connections most core a k h i (tells h i same)
  where
    tells : (h i : Option Peers) → i ≡ h → Tells h i (RefusedTold port connections most [] a k)
    tells None i e = e
    tells (Some p) i e = (p, e, told_none port connections most a k p p (inl refl) refl refl)

-- it listens, and the tape refused its first line
unfoldable pub refused_listening : {E R S : Type 0} (takes : List ℕ → Option R) (eval : Eval R) (port connections most : ℕ) (core : CoreView E R S) (a : Option (List Tick)) (k : Counter) (h i : Option Peers) → i ≡ option_map (listening_on port) h → RefusedRun takes eval port connections most core core a k h i
refused_listening takes eval port connections most core a k h i listens = before_any takes eval port connections most core a k h i (tells h i listens)
  where
    tells : (h i : Option Peers) → i ≡ option_map (listening_on port) h → Tells h i (RefusedTold port connections most [] a k)
    tells None i e = e
    tells (Some p) i e = (listening_on port p, e, told_none port connections most a k p (listening_on port p) (inr refl) refl refl)

-- the port that the hub tells, once it listens
pub listens_on : (port : ℕ) (h i : Option Peers) → i ≡ option_map (listening_on port) h → IfSome i (λ p. p.port ≡ Some port)
listens_on port None i e = subst (λ (o : Option Peers). IfSome o (λ p. p.port ≡ Some port)) (sym e) tt
listens_on port (Some p) i e = subst (λ (o : Option Peers). IfSome o (λ q. q.port ≡ Some port)) (sym e) refl

pub told_from : (port connections most : ℕ) (all : List Happening) (a : Option (List Tick)) (k : Counter) (p q : Peers) → RefusedTold port connections most all a k (listening_on port p) q → RefusedTold port connections most all a k p q
told_from port connections most all a k p q told = record {
  port_is = inr (elim told.port_is [ inl same ↦ ap (λ (x : Peers). x.port) same | inr is ↦ is ]);
  rounds = told.rounds;
  is = told.is;
  are = record { others = told.are.others; came = told.are.came; accepted = told.are.accepted; sized = told.are.sized; each = told.are.each; shut = told.are.shut };
  stamps = told.stamps;
}

-- refused while it listened
unfoldable pub refused_from : {E R S : Type 0} (takes : List ℕ → Option R) (eval : Eval R) (port connections most : ℕ) (old new : CoreView E R S) (a : Option (List Tick)) (k : Counter) (h i j : Option Peers) → i ≡ option_map (listening_on port) h
    → RefusedRun takes eval port connections most old new a k i j → RefusedRun takes eval port connections most old new a k h j
refused_from takes eval port connections most old new a k h i j listens run = record {
  all = run.all;
  served = run.served;
  now = run.now;
  goes = run.goes;
  more = run.more;
  later = run.later;
  went = run.went;
  told = tells h i listens run.told;
}
  where
    tells : (h i : Option Peers) → i ≡ option_map (listening_on port) h → Tells i j (RefusedTold port connections most run.all a k) → Tells h j (RefusedTold port connections most run.all a k)
    tells None i e told = subst (λ (o : Option Peers). Tells o j (RefusedTold port connections most run.all a k)) e told
    tells (Some p) i e told =
        let so : Tells (Some (listening_on port p)) j (RefusedTold port connections most run.all a k) = subst (λ (o : Option Peers). Tells o j (RefusedTold port connections most run.all a k)) e told in
        (so.0, so.1, told_from port connections most run.all a k p so.0 so.2)

-- all that happened, from the first round to where it was refused
pub went_all : {E R S : Type 0} (takes : List ℕ → Option R) (eval : Eval R) (port connections most : ℕ) (old new : CoreView E R S) (a : Option (List Tick)) (k : Counter) (h i : Option Peers) (run : RefusedRun takes eval port connections most old new a k h i)
    → Goes takes eval old 0 (run.all ++ run.more) new run.later
went_all takes eval port connections most old new a k h i run = goes_then takes eval old run.served new 0 run.now run.later run.all run.more run.goes run.went

-- what a refused server answers for: its run, its tape, and the report of all that happened in it
abbrev pub Refuses : {E R S : Type 0} → (List ℕ → Option R) → Eval R → (port connections most : ℕ) → CoreView E R S → CoreView E R S → Option (List Tick) → Counter → Option Peers → Option Peers → (failed : Type 0) → Option Told → Type 0
Refuses takes eval port connections most old new a k h i failed tape =
    (gone : RefusedRun takes eval port connections most old new a k h i) × IfSome tape (Taped failed gone.all gone.more) × (IsTold old.store → (links : Linking) (may : StoreView) → Possible new.store may
    → Reports (terms_of takes eval links old.store.limit old.store.end) old.store.disk.counter.count new.store.disk.counter.count old.store.history (gone.all ++ gone.more) may)

pub refuses : {E R S : Type 0} (takes : List ℕ → Option R) (eval : Eval R) (port connections most : ℕ) (old new : CoreView E R S) (a : Option (List Tick)) (k : Counter) (h i : Option Peers) → RunLaw R → ReplayLaw R → IsLawful eval → (IsTold old.store → IsHistory old.store.history) → IsAtRest eval old
    → old.store.undecided ≡ None → (failed : Type 0) (tape : Option Told) (run : RefusedRun takes eval port connections most old new a k h i) → IfSome tape (Taped failed run.all run.more)
    → Refuses takes eval port connections most old new a k h i failed tape
refuses takes eval port connections most old new a k h i law again lawful history rest decided failed tape run taped =
    (run, taped, λ told links may possible. reports takes eval old new run.later (run.all ++ run.more) law again lawful told (history told) rest decided (went_all takes eval port connections most old new a k h i run) links may possible)
