-- Counts of calls and of faults of a handed-in object: a disk, a source, a sink, a hub, a shelf, a clock. Which calls of a
-- disk in memory fail is armed ahead, in one queue.
use Rattle.std.specs.Prelude.{◌≡◌, ℕ, ◌+◌, ◌<◌, ◌≤◌, min, Bool, true, false, List, [], ◌∷◌, ◌++◌, refl}
use Rattle.std.proofs.Common.{arith, ◌∙◌, sym, ap}
use Rattle.zbase.specs.declared.faults.Arm.{Arm}
use Rattle.zbase.specs.Limits.{greatest_number}

-- ---- what is armed

-- The entries that wait, in order; how many calls are left to the first of them, which is hit by the last of these; those
-- that were hit, in order; and whether one of them stopped the object, so that every call fails and none counts.
pub record Arms : Type 0 where
  pub queue : List Arm
  pub left : ℕ
  pub hits : List Arm
  pub stopped : Bool

-- at how many calls the first entry is hit, from when its count begins; 0 where none waits
abbrev pub calls_of_first : List Arm → ℕ
calls_of_first [] = 0
calls_of_first (x ∷ xs) = x.calls

-- the count of the first entry begins
abbrev pub begun : List Arm → List Arm → Bool → Arms
begun queue hits stopped = record { queue = queue; left = calls_of_first queue; hits = hits; stopped = stopped }

abbrev pub no_arms : Arms
no_arms = begun [] [] false

-- by whether the object is stopped
abbrev pub hit_of : Bool → List Arm → List Arm → Arms
hit_of true queue hits = begun queue hits true
hit_of false [] hits = begun [] hits false
hit_of false (x ∷ xs) hits = begun xs (hits ++ x ∷ []) x.stops

-- A call failed: the first entry was hit, and the count of the next begins, so that no call was made since. A call of a
-- stopped object hits none.
abbrev pub hit : Arms → Arms
hit a = hit_of a.stopped a.queue a.hits

-- no entry was hit, and calls may have been spent
pub record Spends (old new : Arms) : Type 0 where
  pub queue : new.queue ≡ old.queue
  pub hits : new.hits ≡ old.hits
  pub stopped : new.stopped ≡ old.stopped
  pub left : new.left ≤ old.left

-- What a call makes of what is armed. Where no fault is told, no entry was hit; where one is, exactly the first was, and no
-- call came after the one that it failed.
pub record Hits (old new : Arms) (fault : Type 0) : Type 0 where
  pub spends : (fault → ⊥) → Spends old new
  pub first : fault → new ≡ hit old

-- the first entry, where the object isn't stopped, is hit by a later call
pub record IsWaiting (a : Arms) : Type 0 where
  pub waits : a.stopped ≡ false → (a.queue ≡ [] → ⊥) → 1 ≤ a.left

-- ---- counts

-- How often an object has failed (a count stays at 2^64 - 1), whether it can't fail any more, how many calls it has had (0
-- for one that doesn't count them), and what is armed.
pub record Counter : Type 0 where
  pub count : ℕ
  pub sound : Bool
  pub calls : ℕ
  pub arms : Arms

pub record IsFaultless (c : Counter) : Type 0 where
  pub sound : c.sound ≡ true
  pub below : c.count < greatest_number

-- the count rose, or stands at its last value
abbrev pub Rose : Counter → Counter → Type 0
Rose old new = min (old.count + 1) greatest_number ≤ new.count

-- What a call makes of the counts: they never fall, a fault is told exactly where the count of faults rose (at its last
-- value it may be told without), and a faultless object stays so. What is armed is hit where a fault is told.
pub record Counts (old new : Counter) (fault : Type 0) : Type 0 where
  pub later : old.count ≤ new.count
  pub told : old.count < new.count → fault
  pub cause : fault → Rose old new
  pub calm : IsFaultless old → IsFaultless new × (new.count ≡ old.count)
  pub calls : old.calls ≤ new.calls
  pub arms : Hits old.arms new.arms fault

-- at least so many calls were made: so many fewer are left to the first entry, where one waits
pub record Makes (n : ℕ) (old new : Counter) : Type 0 where
  pub calls : min (old.calls + n) greatest_number ≤ new.calls
  pub left : (old.arms.queue ≡ [] → ⊥) → new.arms.left + n ≤ old.arms.left

abbrev pub Once : Counter → Counter → Type 0
Once = Makes 1

abbrev pub Twice : Counter → Counter → Type 0
Twice = Makes 2

-- ---- laws

pub spends_none : (a : Arms) → Spends a a
spends_none a = record { queue = refl; hits = refl; stopped = refl; left = omega arith }

pub spends_then : {a b c : Arms} → Spends a b → Spends b c → Spends a c
spends_then h k = record { queue = k.queue ∙ h.queue; hits = k.hits ∙ h.hits; stopped = k.stopped ∙ h.stopped; left = omega (arith, h.left, k.left) }

-- what is hit doesn't depend on the calls that were spent
pub hit_spent : {a b : Arms} → Spends a b → hit b ≡ hit a
hit_spent {a} {b} h = ap (λ (s : Bool). hit_of s b.queue b.hits) h.stopped ∙ ap (λ (q : List Arm). hit_of a.stopped q b.hits) h.queue ∙ ap (hit_of a.stopped a.queue) h.hits

pub hits_none : (a : Arms) (F : Type 0) → (F → ⊥) → Hits a a F
hits_none a F none = record { spends = λ no. spends_none a; first = λ f. absurd (none f) }

pub hits_as : {a b : Arms} {F G : Type 0} → Hits a b F → (F → G) → (G → F) → Hits a b G
hits_as h to from = record { spends = λ no. h.spends (λ f. no (to f)); first = λ g. h.first (from g) }

pub hits_then : {a b c : Arms} {F G : Type 0} → Hits a b F → (F → ⊥) → Hits b c G → Hits a c G
hits_then h none k = record { spends = λ no. spends_then (h.spends none) (k.spends no); first = λ g. k.first g ∙ hit_spent (h.spends none) }

-- where nothing was called
pub counts_none : (c : Counter) (F : Type 0) → (F → ⊥) → Counts c c F
counts_none c F none = record { later = omega arith; told = λ h. absurd (omega arith); cause = λ f. absurd (none f); calm = λ h. (h, refl); calls = omega arith; arms = hits_none c.arms F none }

-- the same fault, told in other words
pub counts_as : {a b : Counter} {F G : Type 0} → Counts a b F → (F → G) → (G → F) → Counts a b G
counts_as h to from = record { later = h.later; told = λ r. to (h.told r); cause = λ g. h.cause (from g); calm = h.calm; calls = h.calls; arms = hits_as h.arms to from }

same_count : (a b : ℕ) → a ≤ b → (a < b → ⊥) → b ≡ a
same_count a b le not = omega arith

-- a call that told no fault, and then another
pub counts_then : {a b c : Counter} {F G : Type 0} → Counts a b F → (F → ⊥) → Counts b c G → Counts a c G
counts_then {a} {b} {c} h none k =
    let same : b.count ≡ a.count = same_count a.count b.count h.later (λ r. none (h.told r)) in
    record {
      later = omega (arith, h.later, k.later);
      told = λ r. k.told (omega arith);
      cause = λ g. let m : min (b.count + 1) greatest_number ≤ c.count = k.cause g in rw (← same) m;
      calm = λ f. let p : IsFaultless b × (b.count ≡ a.count) = h.calm f in let q : IsFaultless c × (c.count ≡ b.count) = k.calm p.0 in (q.0, q.1 ∙ p.1);
      calls = omega (arith, h.calls, k.calls);
      arms = hits_then h.arms none k.arms;
    }

-- calls that were made stand where no fault was told before or behind them
pub makes_after : {a b c : Counter} {F : Type 0} (n : ℕ) → Counts a b F → (F → ⊥) → Makes n b c → Makes n a c
makes_after {a} {b} {c} n h none m =
    let s : Spends a.arms b.arms = h.arms.spends none in
    record { calls = omega (arith, h.calls, m.calls); left = λ some. omega (arith, s.left, m.left (λ e. some (sym s.queue ∙ e))) }

pub makes_before : {a b c : Counter} {F : Type 0} (n : ℕ) → Makes n a b → Counts b c F → (F → ⊥) → Makes n a c
makes_before {a} {b} {c} n m h none =
    let s : Spends b.arms c.arms = h.arms.spends none in
    record { calls = omega (arith, h.calls, m.calls); left = λ some. omega (arith, s.left, m.left some) }

-- calls behind calls
pub makes_then : {a b c : Counter} {F : Type 0} (n k : ℕ) → Makes n a b → Counts a b F → (F → ⊥) → Makes k b c → Makes (n + k) a c
makes_then {a} {b} {c} n k m h none w =
    let s : Spends a.arms b.arms = h.arms.spends none in
    record { calls = omega (arith, m.calls, w.calls); left = λ some. omega (arith, m.left some, w.left (λ e. some (sym s.queue ∙ e))) }
