-- What the calls of a hub make of a connection that is read.
use Rattle.std.proofs.Common.{◌≡◌, ℕ, ◌+◌, ◌<◌, min, Bool, true, false, List, [], ◌∷◌, ◌++◌, take, length, append_assoc, append-nil, if◌then◌else◌, Option, Some, None, refl, sym, ap, ◌∙◌, subst, eq-eqb, nat_lt, inl, inr}
use Rattle.std.specs.List.{list_any}
use Rattle.std.specs.Prelude.{◌⊎◌, IfSome, option_map}
use Rattle.http_in.specs.declared.message.Message.{Message}
use Rattle.http_in.specs.Laws.{MessagesAreOne, UnreadIsNothing}
use Rattle.http_in.specs.Messages.{asked, one_message}
use Rattle.zbase.specs.Limits.{greatest_number}
use Rattle.zio.specs.Hubs.{Connection, Peers, change_at, has_number, is_open, left_at}
use Rattle.zio.specs.HubCalls.{Reads, WasOpen, closed, with_left, with_read_fault, without_peer}
use Rattle.http_clients.specs.Hearing.{AsksFor, Comes, Hearing, HearsAll, HearsOn, IsPast, Passes, PassesUnheard, Stops, TellsStill, message_front}
use Rattle.http_clients.specs.Clients.{heard}
use Rattle.http_clients.proofs.Endings.{StaysOpen, changed, open_still}

-- ---- the connection of a number

pub untouched : (n : ℕ) (f : Connection → Connection) (cs : List Connection) → list_any (has_number n) cs ≡ false → changed n f cs ≡ cs
untouched n f [] none = refl
untouched n f (c ∷ cs) none = go (has_number n c) refl (untouched n f cs)
  where
    go : (b : Bool) → has_number n c ≡ b → (list_any (has_number n) cs ≡ false → changed n f cs ≡ cs) → changed n f (c ∷ cs) ≡ c ∷ cs
    go false is rest = rw is (ap (λ xs. c ∷ xs) (rest (rw is at none)))
    go true is rest = absurd (let bad : true ≡ false = rw is at none in cc)

-- in front of it and behind it none is open under its number
pub changes_one : (n : ℕ) (f : Connection → Connection) (before after : List Connection) (c : Connection) → list_any (has_number n) before ≡ false → has_number n c ≡ true → list_any (has_number n) after ≡ false → changed n f (before ++ c ∷ after) ≡ before ++ f c ∷ after
changes_one n f [] after c none is later = rw is (ap (λ xs. f c ∷ xs) (untouched n f after later))
changes_one n f (b ∷ before) after c none is later = go (has_number n b) refl (λ none. changes_one n f before after c none is later)
  where
    go : (k : Bool) → has_number n b ≡ k → (list_any (has_number n) before ≡ false → changed n f (before ++ c ∷ after) ≡ before ++ f c ∷ after) → changed n f (b ∷ before ++ c ∷ after) ≡ b ∷ before ++ f c ∷ after
    go false at rest = rw at (ap (λ xs. b ∷ xs) (rest (rw at at none)))
    go true at rest = absurd (let bad : true ≡ false = rw at at none in cc)

left_one : (n : ℕ) (before : List Connection) (c : Connection) → list_any (has_number n) before ≡ false → has_number n c ≡ true → left_at n (before ++ c ∷ []) ≡ c.left
left_one n [] c none is = rw is refl
left_one n (b ∷ before) c none is = go (has_number n b) refl (λ none. left_one n before c none is)
  where
    go : (k : Bool) → has_number n b ≡ k → (list_any (has_number n) before ≡ false → left_at n (before ++ c ∷ []) ≡ c.left) → left_at n (b ∷ before ++ c ∷ []) ≡ c.left
    go false at rest = rw at (rest (rw at at none))
    go true at rest = absurd (let bad : true ≡ false = rw at at none in cc)

pub named : (n : ℕ) (c : Connection) → c.number ≡ n → c.open_ ≡ true → has_number n c ≡ true
named n c e o = rw (o, e, eq-eqb n n refl) refl

hearing_named : (p : Peers) (before : List Connection) (n : ℕ) (bytes given : List ℕ) → (h : Hearing p before n bytes given) → has_number n h.connection ≡ true
hearing_named p before n bytes given h = named n h.connection h.number h.open_still

-- ---- tellings behind one another

pub tells_then : (R S : Peers → Peers → Type 0) (old mid new : Option Peers) → TellsStill old mid R → TellsStill mid new S → TellsStill old new (λ p q. (r : Peers) × R p r × S r q)
tells_then R S None mid new e f = subst (λ (m : Option Peers). TellsStill m new S) e f
tells_then R S (Some p) mid new e f =
    let g : TellsStill (Some e.0) new S = subst (λ (m : Option Peers). TellsStill m new S) e.1 f in
    (g.0, g.1, g.2 ∙ e.2, g.3 ∙ e.3, (e.0, e.4, g.4))

pub tells_as : (R S : Peers → Peers → Type 0) (old new : Option Peers) → ((p q : Peers) → R p q → S p q) → TellsStill old new R → TellsStill old new S
tells_as R S None new turn e = e
tells_as R S (Some p) new turn e = (e.0, e.1, e.2, e.3, turn p e.0 e.4)

-- ---- reading

pub heard_first : (n : ℕ) (old : Option Peers) → WasOpen n old → TellsStill old old (HearsOn n [])
heard_first n None was = refl
heard_first n (Some p) was = (p, refl, refl, refl, (was p refl, λ before bytes h. h))

left_stays : (rest : List ℕ) → StaysOpen (with_left rest)
left_stays rest c = (refl, refl)

fault_stays : StaysOpen with_read_fault
fault_stays c = (refl, refl)

-- a piece came
hears_more : (p q : Peers) (before : List Connection) (n : ℕ) (bytes given more : List ℕ) → Hearing p before n bytes given → Comes n more p q → Hearing q before n bytes (given ++ more)
hears_more p q before n bytes given more h (rest, read, is) =
    let name = hearing_named p before n bytes given h in
    record {
      connection = with_left rest h.connection;
      last = ap (λ (k : Peers). k.accepted) is ∙ ap (changed n (with_left rest)) h.last ∙ changes_one n (with_left rest) before [] h.connection h.alone name refl;
      number = h.number;
      open_still = h.open_still;
      held = h.held ∙ ap (λ (xs : List ℕ). given ++ xs) (sym (ap (left_at n) h.last ∙ left_one n before h.connection h.alone name) ∙ read) ∙ sym (append_assoc given more rest);
      unwritten = h.unwritten;
      calm = h.calm;
      alone = h.alone;
    }

on_more : (n : ℕ) (given more : List ℕ) (p q : Peers) → (r : Peers) × HearsOn n given p r × Comes n more r q → HearsOn n (given ++ more) p q
on_more n given more p q (r, on, comes) = (
  ap (is_open n) comes.2 ∙ open_still n (with_left comes.0) r (left_stays comes.0) n ∙ on.0,
  λ before bytes h. hears_more r q before n bytes given more (on.1 before bytes h) comes,
)

pub heard_more : (n : ℕ) (given more : List ℕ) (old mid new : Option Peers) → TellsStill old mid (HearsOn n given) → TellsStill mid new (Comes n more) → TellsStill old new (HearsOn n (given ++ more))
heard_more n given more old mid new e f = tells_as (λ p q. (r : Peers) × HearsOn n given p r × Comes n more r q) (HearsOn n (given ++ more)) old new (on_more n given more) (tells_then (HearsOn n given) (Comes n more) old mid new e f)

on_either : (n : ℕ) (given more : List ℕ) (p q r : Peers) → HearsOn n given p r → (q ≡ r) ⊎ Comes n more r q → (some : List ℕ) × HearsOn n some p q
on_either n given more p q r on (inl e) = (given, subst (λ (k : Peers). HearsOn n given p k) (sym e) on)
on_either n given more p q r on (inr comes) = (given ++ more, on_more n given more p q (r, on, comes))

pub heard_either : (n : ℕ) (given more : List ℕ) (old mid new : Option Peers) → TellsStill old mid (HearsOn n given) → TellsStill mid new (λ p q. (q ≡ p) ⊎ Comes n more p q) → (some : List ℕ) × TellsStill old new (HearsOn n some)
heard_either n given more None mid new e f = ([], subst (λ (m : Option Peers). TellsStill m new (λ p q. (q ≡ p) ⊎ Comes n more p q)) e f)
heard_either n given more (Some p) mid new e f =
    let g : TellsStill (Some e.0) new (λ p q. (q ≡ p) ⊎ Comes n more p q) = subst (λ (m : Option Peers). TellsStill m new (λ p q. (q ≡ p) ⊎ Comes n more p q)) e.1 f in
    let on = on_either n given more p g.0 e.0 e.4 g.4 in
    (on.0, (g.0, g.1, g.2 ∙ e.2, g.3 ∙ e.3, on.1))

pub heard_all : (n : ℕ) (given : List ℕ) (old mid new : Option Peers) → TellsStill old mid (HearsOn n given) → TellsStill mid new (Stops n) → TellsStill old new (HearsAll n given)
heard_all n given old mid new e f = tells_then (HearsOn n given) (Stops n) old mid new e f

pub heard_open : (n : ℕ) (given : List ℕ) (old new : Option Peers) → TellsStill old new (HearsOn n given) → WasOpen n new
heard_open n given None new e = λ x is. absurd (let bad : None ≡ Some x = sym e ∙ is in cc)
heard_open n given (Some p) new e = λ x is. (let same : e.0 ≡ x = some (sym e.1 ∙ is) in subst (λ (k : Peers). is_open n k ≡ true) same e.4.0)
  where
    some : {a b : Peers} → Some a ≡ Some b → a ≡ b
    some e = cc

all_open : (n : ℕ) (given : List ℕ) (p q : Peers) → HearsAll n given p q → is_open n q ≡ true
all_open n given p q (r, on, inl (ended, is)) = ap (is_open n) is ∙ open_still n (with_left []) r (left_stays []) n ∙ on.0
all_open n given p q (r, on, inr is) = ap (is_open n) is ∙ open_still n with_read_fault r fault_stays n ∙ on.0

pub all_heard_open : (n : ℕ) (given : List ℕ) (old new : Option Peers) → TellsStill old new (HearsAll n given) → WasOpen n new
all_heard_open n given None new e = λ x is. absurd (let bad : None ≡ Some x = sym e ∙ is in cc)
all_heard_open n given (Some p) new e = λ x is. (let same : e.0 ≡ x = some (sym e.1 ∙ is) in subst (λ (k : Peers). is_open n k ≡ true) same (all_open n given p e.0 e.4))
  where
    some : {a b : Peers} → Some a ≡ Some b → a ≡ b
    some e = cc

reads_one : (n k : ℕ) (buf : List ℕ) (old new : Option Peers) → Reads n k buf old new → TellsStill old new (λ p q. (q ≡ p) ⊎ Comes n (take k buf) p q)
reads_one n k buf None new r = r
reads_one n k buf (Some p) new r = (change_at n (with_left r.0) p, r.3, refl, refl, inr (r.0, r.1, refl))

pub read_but_lost : (n k : ℕ) (buf : List ℕ) (old new : Option Peers) → Reads n k buf old new → (given : List ℕ) × TellsStill old new (λ p q. (q ≡ p) ⊎ Comes n given p q)
read_but_lost n k buf old new r = (take k buf, reads_one n k buf old new r)

-- the reader has a piece more
pub piece_more : (n : ℕ) (rest kept more : List ℕ) (old mid new : Option Peers) → kept ≡ rest → TellsStill old mid (HearsOn n rest) → (given : List ℕ) × (0 < length given) × (more ≡ kept ++ given) × TellsStill mid new (Comes n given) → TellsStill old new (HearsOn n more)
piece_more n rest kept more old mid new same e (given, some, is, f) = subst (λ (xs : List ℕ). TellsStill old new (HearsOn n xs)) (ap (λ (xs : List ℕ). xs ++ given) (sym same) ∙ sym is) (heard_more n rest given old mid new e f)

-- ---- what came of it

pub of_some : {A : Type 0} (o : Option A) (x : A) (P : A → Type 0) → o ≡ Some x → IfSome o P → P x
of_some {A = A} None x P e is = absurd cc
of_some {A = A} (Some y) x P e is = subst P (same e) is
  where
    same : {a b : A} → Some a ≡ Some b → a ≡ b
    same e = cc

-- the message of what was read is that of all its bytes
asking : (law : UnreadIsNothing) (n : ℕ) (given : List ℕ) (m : Message) (message : List ℕ) → asked given ≡ Some (m, length message) → message ≡ take (length message) given → (p q : Peers) → HearsOn n given p q → AsksFor n message p q
asking law n given m message is cut p q on before bytes h =
    let now = on.1 before bytes h in
    let whole = law given now.connection.left (m, length message) is in
    let front : message_front (given ++ now.connection.left) ≡ Some message = ap (option_map (λ (x : Message × ℕ). take x.1 (given ++ now.connection.left))) whole.0 ∙ ap Some (whole.1 ∙ sym cut) in
    (given, now, ap message_front now.held ∙ front)

pub asks : (law : UnreadIsNothing) (n : ℕ) (given : List ℕ) (m : Message) (message : List ℕ) (old new : Option Peers) → asked given ≡ Some (m, length message) → message ≡ take (length message) given → TellsStill old new (HearsOn n given) → TellsStill old new (AsksFor n message)
asks law n given m message old new is cut e = tells_as (HearsOn n given) (AsksFor n message) old new (asking law n given m message is cut) e

pub one_alone : (law : MessagesAreOne) (given : List ℕ) (m : Message) (message : List ℕ) → asked given ≡ Some (m, length message) → message ≡ take (length message) given → one_message message ≡ Some m
one_alone law given m message is cut = ap one_message cut ∙ (law given (m, length message) is).2

close_last : (n : ℕ) (p q : Peers) (before : List Connection) (c : Connection) → q ≡ closed n p → p.accepted ≡ before ++ c ∷ [] → list_any (has_number n) before ≡ false → has_number n c ≡ true → q.accepted ≡ before ++ without_peer c ∷ []
close_last n p q before c is last alone name = ap (λ (k : Peers). k.accepted) is ∙ ap (changed n without_peer) last ∙ changes_one n without_peer before [] c alone name refl

passing : (n : ℕ) (p q : Peers) (before : List Connection) (bytes given : List ℕ) → Hearing p before n bytes given → q ≡ closed n p → IsPast q before bytes
passing n p q before bytes given h is = record {
  client = record { given = given; end = without_peer h.connection };
  last = close_last n p q before h.connection is h.last h.alone (hearing_named p before n bytes given h);
  held_is = h.held;
  silent = h.unwritten;
  shut = refl;
}

abbrev Unheard : Peers → List Connection → List ℕ → Type 0
Unheard q before bytes = (past : IsPast q before bytes) × (message_front (heard past.client) ≡ None)

nothing_asked : (given : List ℕ) → asked given ≡ None → message_front given ≡ None
nothing_asked given none = ap (option_map (λ (x : Message × ℕ). take x.1 given)) none

heard_whole : (given left : List ℕ) (k : ℕ) → k ≡ 0 → left ≡ [] → (if nat_lt 0 k then given else given ++ left) ≡ given
heard_whole given left k calm ended = rw calm (ap (λ (xs : List ℕ). given ++ xs) ended ∙ append-nil given)

heard_front : (given left : List ℕ) (k : ℕ) → k ≡ 1 → (if nat_lt 0 k then given else given ++ left) ≡ given
heard_front given left k one = rw one refl

one_fault : (k : ℕ) → k ≡ 0 → min (k + 1) greatest_number ≡ 1
one_fault k calm = rw calm refl

unheard_end : (n : ℕ) (r q z : Peers) (before : List Connection) (bytes given : List ℕ) → asked given ≡ None → Hearing r before n bytes given → left_at n r.accepted ≡ [] → q ≡ change_at n (with_left []) r → z ≡ closed n q → Unheard z before bytes
unfolding hears_more passing
unheard_end n r q z before bytes given none h ended is shut =
    let now = hears_more r q before n bytes given [] h ([], ended, is) in
    (passing n q z before bytes (given ++ []) now shut, ap message_front (heard_whole (given ++ []) now.connection.left now.connection.read_faults now.calm.0 refl ∙ append-nil given) ∙ nothing_asked given none)

unheard_fault : (n : ℕ) (r q z : Peers) (before : List Connection) (bytes given : List ℕ) → asked given ≡ None → Hearing r before n bytes given → q ≡ change_at n with_read_fault r → z ≡ closed n q → Unheard z before bytes
unheard_fault n r q z before bytes given none h is shut =
    let name = hearing_named r before n bytes given h in
    let failed : q.accepted ≡ before ++ with_read_fault h.connection ∷ [] = ap (λ (k : Peers). k.accepted) is ∙ ap (changed n with_read_fault) h.last ∙ changes_one n with_read_fault before [] h.connection h.alone name refl in
    let past : IsPast z before bytes = record {
      client = record { given = given; end = without_peer (with_read_fault h.connection) };
      last = close_last n q z before (with_read_fault h.connection) shut failed h.alone (named n (with_read_fault h.connection) h.number h.open_still);
      held_is = h.held;
      silent = h.unwritten;
      shut = refl;
    } in
    (past, ap message_front (heard_front given h.connection.left (min (h.connection.read_faults + 1) greatest_number) (one_fault h.connection.read_faults h.calm.0)) ∙ nothing_asked given none)

unheard : (n : ℕ) (given : List ℕ) → asked given ≡ None → (p z : Peers) → (q : Peers) × HearsAll n given p q × (z ≡ closed n q) → PassesUnheard n p z
unheard n given none p z (q, (r, on, inl (ended, is)), shut) before bytes h = unheard_end n r q z before bytes given none (on.1 before bytes h) ended is shut
unheard n given none p z (q, (r, on, inr is), shut) before bytes h = unheard_fault n r q z before bytes given none (on.1 before bytes h) is shut

closes_still : (n : ℕ) (mid new : Option Peers) → new ≡ option_map (closed n) mid → TellsStill mid new (λ p q. q ≡ closed n p)
closes_still n None new e = e
closes_still n (Some p) new e = (closed n p, e, refl, refl, refl)

pub passes_unheard : (n : ℕ) (given : List ℕ) (old mid new : Option Peers) → asked given ≡ None → TellsStill old mid (HearsAll n given) → new ≡ option_map (closed n) mid → TellsStill old new (PassesUnheard n)
passes_unheard n given old mid new none e f = tells_as (λ p z. (q : Peers) × HearsAll n given p q × (z ≡ closed n q)) (PassesUnheard n) old new (unheard n given none) (tells_then (HearsAll n given) (λ p q. q ≡ closed n p) old mid new e (closes_still n mid new f))

past_by : (n : ℕ) (given : List ℕ) (p z : Peers) → (q : Peers) × HearsOn n given p q × (z ≡ closed n q) → Passes n p z
past_by n given p z (q, on, shut) before bytes h = passing n q z before bytes given (on.1 before bytes h) shut

pub passes : (n : ℕ) (given : List ℕ) (old mid new : Option Peers) → TellsStill old mid (HearsOn n given) → new ≡ option_map (closed n) mid → TellsStill old new (Passes n)
passes n given old mid new e f = tells_as (λ p z. (q : Peers) × HearsOn n given p q × (z ≡ closed n q)) (Passes n) old new (past_by n given) (tells_then (HearsOn n given) (λ p q. q ≡ closed n p) old mid new e (closes_still n mid new f))
