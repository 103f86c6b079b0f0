-- The messages of a round are given, one after another, and the items of a round have lines.
use Rattle.std.proofs.Common.{◌≡◌, ℕ, ◌+◌, ◌<◌, ◌≤◌, Bool, true, false, List, [], ◌∷◌, ◌++◌, map, flat_map, length, length-append, append_assoc, append-nil, replicate, zero, suc, Option, None, refl, sym, ap, ◌∙◌, subst, arith, inl, inr}
use Rattle.std.specs.Prelude.{IfSome}
use Rattle.std.specs.List.{AllByRecursion}
use Rattle.std.proofs.lemmas.Grind.{flat_map-append}
use Rattle.std.proofs.lemmas.List.{map-append}
use Rattle.zdisk.specs.Images.{IsImage}
use Rattle.evaluator.specs.Exec.{Eval}
use Rattle.http_clients.specs.Arriving.{bytes_of}
use Rattle.http_clients.specs.declared.asked.Asked.{Asked}
use Rattle.http_clients.specs.Numbers.{Among}
use Rattle.schedule.specs.Courses.{worker_of}
use Rattle.schedule.specs.Items.{HasLine, item_text}
use Rattle.schedule.specs.declared.item.Item2.{Item2}
use Rattle.fs_store.specs.Moments.{OpensAsKnown}
use Rattle.fs_store.specs.Stores.{StoreView}
use Rattle.txn_core.specs.Cores.{CoreView, IsIdle}
use Rattle.zserve.specs.Giving.{GivenTo}
use Rattle.zserve.specs.Happened.{Happening, items}
use Rattle.zserve.specs.Rounds.{AllGiven, round_of}
use Rattle.zserve.specs.Tapes.{given_from, workers_from}
use Rattle.zserve.specs.Taping.{Continues, Grows, Spelt}
use Rattle.zdisk.specs.Disk.{Told}
use Rattle.zserve.specs.Turns.{AreTurns, all_in, has_reply, waiting}
use Rattle.zserve.specs.Waiting.{AreWorkers}
use Rattle.zserve.proofs.Joining.{given_last, given_more, workers_bound, workers_last}
use Rattle.zserve.proofs.Stepping.{items_more}

-- ---- texts

pub all_joined : {X : Type 0} (P : X → Type 0) (xs ys : List X) → AllByRecursion P xs → AllByRecursion P ys → AllByRecursion P (xs ++ ys)
all_joined P [] ys first second = second
all_joined P (x ∷ xs) ys first second = (first.0, all_joined P xs ys first.1 second)

pub spelt_none : (text : List ℕ) → Spelt text [] text
spelt_none text = (sym (append-nil text), tt)

pub spelt_one : (old new : List ℕ) (x : Item2) → new ≡ old ++ item_text x → HasLine x → Spelt old (x ∷ []) new
spelt_one old new x is line = (is ∙ ap (λ (t : List ℕ). old ++ t) (sym (append-nil (item_text x))), (line, tt))

pub spelt_then : (a b c : List ℕ) (xs ys : List Item2) → Spelt a xs b → Spelt b ys c → Spelt a (xs ++ ys) c
spelt_then a b c xs ys first second = (
  second.0 ∙ ap (λ (t : List ℕ). t ++ flat_map item_text ys) first.0 ∙ append_assoc a (flat_map item_text xs) (flat_map item_text ys) ∙ ap (λ (t : List ℕ). a ++ t) (sym (flat_map-append item_text xs ys)),
  all_joined HasLine xs ys first.1 second.1,
)

-- ---- tapes

-- a text that was put on the tape
pub continues : (old new : Option Told) (first text piece : List ℕ) (all : List Item2) → first ≡ [] → Spelt first all text → piece ≡ text → Grows old piece new → Continues old all new
continues old new first text piece all none spelt same grows = (subst (λ (t : List ℕ). Grows old t new) (same ∙ spelt.0 ∙ ap (λ (t : List ℕ). t ++ flat_map item_text all) none) grows, spelt.1)

-- ---- one message more

abbrev pub KnownImages : StoreView → Type 0
KnownImages s = IfSome s.disk.told (λ told. (image : List ℕ) → IsImage told.now image → OpensAsKnown s image)

pub images_as : (a b : StoreView) → b ≡ a → KnownImages a → KnownImages b
images_as a b same images = subst KnownImages (sym same) images

pub joined_on : (front left behind all : List Asked) (a : Asked) → front ++ left ≡ all → left ≡ a ∷ behind → (front ++ a ∷ []) ++ behind ≡ all
joined_on front left behind all a joined is = append_assoc front (a ∷ []) behind ∙ ap (λ (xs : List Asked). front ++ xs) (sym is) ∙ joined

pub next_below : (front left behind all : List Asked) (a : Asked) (w : ℕ) → front ++ left ≡ all → left ≡ a ∷ behind → length all ≤ 16 → w ≡ length front → w < 16
next_below front left behind all a w joined is few at =
    let whole : length front + length left ≡ length all = sym (length-append front left) ∙ ap length joined in
    let some : length left ≡ suc (length behind) = ap length is in
    omega (arith, whole, some, few, at)

-- an iterator that has no more
pub nothing_left : {X : Type 0} (xs : List X) (n : ℕ) → n ≡ length xs → n ≡ 0 → xs ≡ []
nothing_left [] n long none = refl
nothing_left (x ∷ xs) n long none = absurd (omega (arith, long, none))

pub length_bytes : (front : List Asked) → length (bytes_of front) ≡ length front
length_bytes [] = refl
length_bytes (a ∷ front) = ap suc (length_bytes front)

bytes_more : (front : List Asked) (a : Asked) → bytes_of (front ++ a ∷ []) ≡ bytes_of front ++ a.bytes ∷ []
bytes_more front a = map-append (λ (x : Asked). x.bytes) front (a ∷ [])

bytes_at : (front : List Asked) (w : ℕ) → w ≡ length front → length (bytes_of front) + 0 ≡ w
bytes_at front w at = (let same = length_bytes front in omega (arith, same, at))

pub next_idle : {E R S : Type 0} (takes : List ℕ → Option R) (eval : Eval R) (first core : CoreView E R S) (now w : ℕ) (front : List Asked) → AllGiven takes eval first core now (bytes_of front) → w ≡ length front → w < 16 → IsIdle core w
next_idle takes eval first core now w front given at below = (given.waits.wait w below).1 (λ among.
    (let bound = (workers_bound 0 w (bytes_of front) among).1 in
    let same = bytes_at front w at in
    omega (arith, bound, same)))

pub next_given : {E R S : Type 0} (takes : List ℕ → Option R) (eval : Eval R) (first old new : CoreView E R S) (now w : ℕ) (front : List Asked) (a : Asked) → AllGiven takes eval first old now (bytes_of front) → w ≡ length front → w < 16 → KnownImages old.store
    → GivenTo takes eval old new w a.bytes → AllGiven takes eval first new now (bytes_of (front ++ a ∷ []))
next_given takes eval first old new now w front a given at below images to =
    subst (λ (ms : List (List ℕ)). AllGiven takes eval first new now ms) (sym (bytes_more front a))
    (given_more takes eval first old new now w (bytes_of front) a.bytes given (at ∙ sym (length_bytes front)) below (next_idle takes eval first old now w front given at below) to.store to.others (λ links end. to.follows now links end) images)

pub next_workers : (ws : List ℕ) (front : List Asked) (a : Asked) (w : ℕ) → ws ≡ workers_from 0 (bytes_of front) → w ≡ length front → ws ++ w ∷ [] ≡ workers_from 0 (bytes_of (front ++ a ∷ []))
next_workers ws front a w is at =
    ap (λ (xs : List ℕ). xs ++ w ∷ []) is ∙ ap (λ (k : ℕ). workers_from 0 (bytes_of front) ++ k ∷ []) (sym (bytes_at front w at)) ∙ sym (workers_last 0 (bytes_of front) a.bytes)
    ∙ ap (λ (ms : List (List ℕ)). workers_from 0 ms) (sym (bytes_more front a))

pub next_spelt : (first old new : List ℕ) (front : List Asked) (a : Asked) (w : ℕ) → Spelt first (items (given_from 0 (bytes_of front))) old → new ≡ old ++ item_text (Item2.Request w a.bytes) → HasLine (Item2.Request w a.bytes) → w ≡ length front
    → Spelt first (items (given_from 0 (bytes_of (front ++ a ∷ [])))) new
next_spelt first old new front a w before is line at =
    subst (λ (xs : List Item2). Spelt first xs new) (sym same) (spelt_then first old new (items (given_from 0 (bytes_of front))) (Item2.Request w a.bytes ∷ []) before (spelt_one old new (Item2.Request w a.bytes) is line))
  where
    same : items (given_from 0 (bytes_of (front ++ a ∷ []))) ≡ items (given_from 0 (bytes_of front)) ++ Item2.Request w a.bytes ∷ []
    same =
        ap (λ (ms : List (List ℕ)). items (given_from 0 ms)) (bytes_more front a) ∙ ap (λ (hs : List Happening). items hs) (given_last 0 (bytes_of front) a.bytes)
        ∙ items_more (given_from 0 (bytes_of front)) ((Item2.Request (length (bytes_of front) + 0) a.bytes, []) ∷ [])
        ∙ ap (λ (k : ℕ). items (given_from 0 (bytes_of front)) ++ Item2.Request k a.bytes ∷ []) (bytes_at front w at)

-- ---- lines of turns

waiting_among : (v : ℕ) (turn : List Happening) (ws : List ℕ) → items turn ≡ map Item2.Step ws → Among v (waiting turn) → Among v ws
waiting_among v [] ws e among = absurd among
waiting_among v (h ∷ turn) [] e among = absurd cc
waiting_among v (h ∷ turn) (w ∷ ws) e among = go (has_reply h.1) refl among (waiting_among v turn ws rest)
  where
    head : h.0 ≡ Item2.Step w
    head = cc

    rest : items turn ≡ map Item2.Step ws
    rest = cc

    go : (b : Bool) → has_reply h.1 ≡ b → Among v (waiting (h ∷ turn)) → (Among v (waiting turn) → Among v ws) → Among v (w ∷ ws)
    go true is a behind = inr (behind (rw is at a))
    go false is a behind = (let either : Among v (worker_of h.0 ∷ waiting turn) = rw is at a in elim either [ inl same ↦ inl (same ∙ ap worker_of head) | inr b ↦ inr (behind b) ])

steps_have_lines : (ws : List ℕ) → AreWorkers ws → AllByRecursion HasLine (map Item2.Step ws)
steps_have_lines [] below = tt
steps_have_lines (w ∷ ws) below = (below w (inl refl), steps_have_lines ws (λ v among. below v (inr among)))

turns_have_lines : (ws : List ℕ) (turns : List (List Happening)) → AreTurns ws turns → AreWorkers ws → AllByRecursion HasLine (items (all_in turns))
turns_have_lines [] [] are below = tt
turns_have_lines [] (turn ∷ turns) are below = absurd are
turns_have_lines (w ∷ ws) [] are below = absurd are
turns_have_lines (w ∷ ws) (turn ∷ turns) are below =
    subst (AllByRecursion HasLine) (sym (items_more turn (all_in turns)))
    (all_joined HasLine (items turn) (items (all_in turns)) (subst (AllByRecursion HasLine) (sym are.0) (steps_have_lines (w ∷ ws) below)) (turns_have_lines (waiting turn) turns are.1 (λ v among. below v (waiting_among v turn (w ∷ ws) are.0 among))))

pub round_spelt : (a b c d : List ℕ) (ms : List (List ℕ)) (stamp : ℕ) (turns : List (List Happening)) → Spelt a (items (given_from 0 ms)) b → Spelt b (Item2.Clock stamp ∷ []) c → d ≡ c ++ flat_map item_text (items (all_in turns))
    → AreTurns (workers_from 0 ms) turns → AreWorkers (workers_from 0 ms) → Spelt a (items (round_of ms stamp turns)) d
round_spelt a b c d ms stamp turns given clock stepped are below =
    subst (λ (xs : List Item2). Spelt a xs d) (sym (items_more (given_from 0 ms) ((Item2.Clock stamp, []) ∷ all_in turns)))
    (spelt_then a b d (items (given_from 0 ms)) (Item2.Clock stamp ∷ items (all_in turns)) given
    (spelt_then b c d (Item2.Clock stamp ∷ []) (items (all_in turns)) clock (stepped, turns_have_lines (workers_from 0 ms) turns are below)))

-- ---- no reply yet

pub none_more_yet : (n : ℕ) → replicate n (let none : Option (List ℕ) = None in none) ++ None ∷ [] ≡ replicate (n + 1) None
none_more_yet zero = refl
none_more_yet (suc n) = ap (λ (xs : List (Option (List ℕ))). None ∷ xs) (none_more_yet n) ∙ ap (λ (k : ℕ). replicate k (let none : Option (List ℕ) = None in none)) (one_more n)
  where
    one_more : (k : ℕ) → suc (k + 1) ≡ suc k + 1
    one_more k = omega arith
