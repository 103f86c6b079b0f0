-- The queue of the arming rule is what a disk has armed.
use Rattle.std.proofs.Common.{◌≡◌, ◌+◌, ◌<◌, ◌≤◌, Bool, true, false, List, [], ◌∷◌, ◌++◌, map, length, Some, refl, sym, ap, ◌∙◌, subst, arith, nat_lt}
use Rattle.std.proofs.lemmas.Bool.Decides.{nat_tests}
use Rattle.std.proofs.lemmas.List.{map-append}
use Rattle.zbase.specs.declared.faults.Arm.{Arm}
use Rattle.zbase.specs.Faults.{Arms, Counter, IsWaiting, Spends, Twice, begun, calls_of_first, hit, hit_of}
use Rattle.schedule.specs.Armed.{Queue, called}
use Rattle.schedule.specs.Armed.{Arm as Licence, armed as licensed, hit as licence_hit}

-- what the rule knows of an entry
abbrev pub licence_of : Arm → Licence
licence_of a = record { stops = a.stops; calls = a.calls }

-- The same entries in order; and the votes and commits since the count of the first began, counted twice, are at most
-- the device calls that this count has had.
pub record IsQueueOf (k : Queue) (arms : Arms) : Type 0 where
  pub entries : k.arms ≡ map licence_of arms.queue
  pub since : (arms.queue ≡ [] → ⊥) → k.since + arms.left ≤ calls_of_first arms.queue

-- one entry more, whose count begins at once where none waits
pub record ArmsMore (x : Arm) (old new : Arms) : Type 0 where
  pub queue : new.queue ≡ old.queue ++ x ∷ []
  pub hits : new.hits ≡ old.hits
  pub stopped : new.stopped ≡ old.stopped
  pub first : old.queue ≡ [] → new.left ≡ x.calls
  pub later : (old.queue ≡ [] → ⊥) → new.left ≡ old.left

-- a disk goes on after a stop: the count of the first begins
abbrev pub resumed : Arms → Arms
resumed a = begun a.queue a.hits false

-- nothing is hit
pub queue_spends : (k : Queue) (old new : Arms) → IsQueueOf k old → Spends old new → IsQueueOf k new
queue_spends k old new is spends = record {
  entries = is.entries ∙ ap (map licence_of) (sym spends.queue);
  since = λ some.
      let was : k.since + old.left ≤ calls_of_first old.queue = is.since (λ e. some (spends.queue ∙ e)) in
      let same : calls_of_first new.queue ≡ calls_of_first old.queue = ap calls_of_first spends.queue in
      omega (arith, was, same, spends.left);
}

-- a vote, or a commit: two calls more, and the first entry isn't hit by them
pub queue_called : (k : Queue) (old new : Counter) → IsQueueOf k old.arms → Spends old.arms new.arms → Twice old new → new.arms.stopped ≡ false → IsWaiting new.arms → (next : Queue) × (called k.arms k.since ≡ Some next) × IsQueueOf next new.arms
queue_called k old new is spends twice runs waits = go old.arms.queue refl
  where
    Next : List Licence → Type 0
    Next as' = (next : Queue) × (called as' k.since ≡ Some next) × IsQueueOf next new.arms

    go : (q : List Arm) → old.arms.queue ≡ q → Next k.arms
    go [] e =
        let none : k.arms ≡ [] = is.entries ∙ ap (map licence_of) e in
        let empty : new.arms.queue ≡ [] = spends.queue ∙ e in
        subst Next (sym none) (record { arms = []; since = 0 }, refl, record { entries = ap (map licence_of) (sym empty); since = λ some. absurd (some empty) })
    go (x ∷ xs) e =
        let some_old : old.arms.queue ≡ [] → ⊥ = (λ n. let bad : x ∷ xs ≡ [] = sym e ∙ n in cc) in
        let some_new : new.arms.queue ≡ [] → ⊥ = (λ n. some_old (sym spends.queue ∙ n)) in
        let here : k.arms ≡ licence_of x ∷ map licence_of xs = is.entries ∙ ap (map licence_of) e in
        let first : calls_of_first old.arms.queue ≡ x.calls = ap calls_of_first e in
        let first_new : calls_of_first new.arms.queue ≡ x.calls = ap calls_of_first (spends.queue ∙ e) in
        let was : k.since + old.arms.left ≤ calls_of_first old.arms.queue = is.since some_old in
        let two : new.arms.left + 2 ≤ old.arms.left = twice.left some_old in
        let one : 1 ≤ new.arms.left = waits.waits runs some_new in
        let less : k.since + 2 < x.calls = omega (arith, was, two, one, first) in
        let test : nat_lt (k.since + 2) x.calls ≡ true = grind (arith, nat_tests, less) in
        subst Next (sym here) (record { arms = licence_of x ∷ map licence_of xs; since = k.since + 2 }, rw test refl, record { entries = ap (map licence_of) (sym (spends.queue ∙ e)); since = λ some. omega (arith, was, two, first, first_new) })

-- a call that failed hit the first entry, and whether that was a stop is whether the disk is stopped then
pub queue_hit : (k : Queue) (old new : Arms) → IsQueueOf k old → old.stopped ≡ false → (old.queue ≡ [] → ⊥) → new ≡ hit old → (next : Queue) × (licence_hit new.stopped k.arms ≡ Some next) × IsQueueOf next new
queue_hit k old new is runs some e = go old.queue refl
  where
    Next : List Licence → Type 0
    Next as' = (next : Queue) × (licence_hit new.stopped as' ≡ Some next) × IsQueueOf next new

    hits : (x : Arm) (b : Bool) (xs : List Licence) → x.stops ≡ b → licence_hit b (licence_of x ∷ xs) ≡ Some (record { arms = xs; since = 0 })
    hits x true xs s = rw s refl
    hits x false xs s = rw s refl

    go : (q : List Arm) → old.queue ≡ q → Next k.arms
    go [] n = absurd (some n)
    go (x ∷ xs) n =
        let here : k.arms ≡ licence_of x ∷ map licence_of xs = is.entries ∙ ap (map licence_of) n in
        let after : new ≡ begun xs (old.hits ++ x ∷ []) x.stops = e ∙ ap (λ (b : Bool). hit_of b old.queue old.hits) runs ∙ ap (λ (q : List Arm). hit_of false q old.hits) n in
        let stops : x.stops ≡ new.stopped = sym (ap (λ (a : Arms). a.stopped) after) in
        let rest : new.queue ≡ xs = ap (λ (a : Arms). a.queue) after in
        let left : new.left ≡ calls_of_first xs = ap (λ (a : Arms). a.left) after in
        let first : calls_of_first new.queue ≡ calls_of_first xs = ap calls_of_first rest in
        subst Next (sym here) (record { arms = map licence_of xs; since = 0 }, hits x new.stopped (map licence_of xs) stops, record { entries = ap (map licence_of) (sym rest); since = λ more. omega (arith, left, first) })

-- an arming item
pub queue_armed : (k : Queue) (old new : Arms) (x : Arm) → IsQueueOf k old → ArmsMore x old new → IsQueueOf (licensed k (licence_of x)) new
queue_armed k old new x is more = go old.queue refl
  where
    all : map licence_of new.queue ≡ map licence_of old.queue ++ licence_of x ∷ []
    all = ap (map licence_of) more.queue ∙ map-append licence_of old.queue (x ∷ [])

    go : (q : List Arm) → old.queue ≡ q → IsQueueOf (licensed k (licence_of x)) new
    go [] e =
        let none : k.arms ≡ [] = is.entries ∙ ap (map licence_of) e in
        let only : new.queue ≡ x ∷ [] = more.queue ∙ ap (λ q. q ++ x ∷ []) e in
        let left : new.left ≡ x.calls = more.first e in
        let first : calls_of_first new.queue ≡ x.calls = ap calls_of_first only in
        rw none (record { entries = ap (map licence_of) (sym only); since = λ some. omega (arith, left, first) })
    go (y ∷ ys) e =
        let some : old.queue ≡ [] → ⊥ = (λ n. let bad : y ∷ ys ≡ [] = sym e ∙ n in cc) in
        let here : k.arms ≡ licence_of y ∷ map licence_of ys = is.entries ∙ ap (map licence_of) e in
        let was : k.since + old.left ≤ calls_of_first old.queue = is.since some in
        let first : calls_of_first old.queue ≡ y.calls = ap calls_of_first e in
        let first_new : calls_of_first new.queue ≡ y.calls = ap calls_of_first (more.queue ∙ ap (λ q. q ++ x ∷ []) e) in
        let left : new.left ≡ old.left = more.later some in
        let test : nat_lt 0 (length (licence_of y ∷ map licence_of ys)) ≡ true = grind (arith, nat_tests) in
        let entries : licence_of y ∷ (map licence_of ys ++ licence_of x ∷ []) ≡ map licence_of new.queue = sym (all ∙ ap (λ q. map licence_of q ++ licence_of x ∷ []) e) in
        rw (here, test) (record { entries = entries; since = λ some_new. omega (arith, was, first, first_new, left) })

-- what was hit last left the count of the next at its beginning
pub hit_begins : (a : Arms) → (hit a).left ≡ calls_of_first (hit a).queue
hit_begins a = go a.stopped a.queue
  where
    go : (b : Bool) (q : List Arm) → (hit_of b q a.hits).left ≡ calls_of_first (hit_of b q a.hits).queue
    go true q = refl
    go false [] = refl
    go false (x ∷ xs) = refl

-- going on after a stop that was hit
pub queue_resumed : (k : Queue) (old : Arms) → IsQueueOf k old → old.left ≡ calls_of_first old.queue → IsQueueOf k (resumed old)
queue_resumed k old is begins = record { entries = is.entries; since = λ some. (let was : k.since + old.left ≤ calls_of_first old.queue = is.since some in omega (arith, was, begins)) }
