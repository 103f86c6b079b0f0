-- What a call of a disk in memory makes of its counts is what every disk says of a call.
use Rattle.std.proofs.Common.{◌≡◌, ℕ, ◌<◌, ◌≤◌, Bool, true, false, List, [], ◌∷◌, length, refl, sym, subst, ◌∙◌, arith, nat_lt, if◌then◌else◌}
use Rattle.std.proofs.lemmas.Bool.Decides.{nat_tests}
use Rattle.zbase.specs.declared.faults.Arm.{Arm}
use Rattle.zbase.specs.Faults.{Arms, Counter, Counts, IsFaultless, IsWaiting, Makes, Spends}
use Rattle.zbase.specs.Limits.{greatest_number}
use Rattle.zdisk.specs.Arming.{called, called_by, failed, is_calm, met, met_first, met_of, spent}
use Rattle.zdisk.specs.Meeting.{IsFault}
use Rattle.zdisk.specs.declared.queue.Met.{Met}

-- the counts are numbers of the machine, and whether the disk can fail is told by what is armed
pub record IsCounter (c : Counter) : Type 0 where
  pub count : c.count ≤ greatest_number
  pub calls : c.calls ≤ greatest_number
  pub sound : c.sound ≡ is_calm c.arms.queue c.arms.stopped
  pub waits : IsWaiting c.arms

calm_meets : (stopped : Bool) (queue : List Arm) (left : ℕ) → is_calm queue stopped ≡ true → met_of stopped queue left ≡ Met.Nothing
calm_meets true [] left e = absurd cc
calm_meets false [] left e = refl
calm_meets stopped (x ∷ xs) left e = absurd cc

fault_calm : (m : Met) → IsFault m → m ≡ Met.Nothing → ⊥
fault_calm m f e = subst IsFault e f

spends_one : (a : Arms) → Spends a (spent a)
spends_one a = record { queue = refl; hits = refl; stopped = refl; left = omega arith }

fault_counts : (c : Counter) (F : Type 0) → F → IsCounter c → (IsFaultless c → ⊥) → Counts c (failed c) F
fault_counts c F fault ok not = record {
  later = omega (arith, ok.count);
  told = λ _. fault;
  cause = λ _. omega arith;
  calm = λ calm. absurd (not calm);
  calls = omega (arith, ok.calls);
  arms = record { spends = λ no. absurd (no fault); first = λ _. refl };
}

not_faultless : (c : Counter) (m : Met) → IsCounter c → met c.arms ≡ m → IsFault m → IsFaultless c → ⊥
not_faultless c m ok e fault calm = fault_calm m fault (sym e ∙ calm_meets c.arms.stopped c.arms.queue c.arms.left (sym ok.sound ∙ calm.sound))

counts_by : (c : Counter) (m : Met) → IsCounter c → met c.arms ≡ m → Counts c (called_by m c) (IsFault m)
counts_by c Met.Nothing ok e = record {
  later = omega arith;
  told = λ h. absurd (omega arith);
  cause = λ f. absurd f;
  calm = λ calm. (record { sound = sym ok.sound ∙ calm.sound; below = calm.below }, refl);
  calls = omega (arith, ok.calls);
  arms = record { spends = λ _. spends_one c.arms; first = λ f. absurd f };
}
counts_by c (Met.Failure seed) ok e = fault_counts c (Unit {0}) tt ok (not_faultless c (Met.Failure seed) ok e tt)
counts_by c (Met.Stop seed) ok e = fault_counts c (Unit {0}) tt ok (not_faultless c (Met.Stop seed) ok e tt)
counts_by c Met.Stopped ok e = fault_counts c (Unit {0}) tt ok (not_faultless c Met.Stopped ok e tt)

pub called_counts : (c : Counter) → IsCounter c → Counts c (called c) (IsFault (met c.arms))
called_counts c ok = counts_by c (met c.arms) ok refl

-- nothing was met: the disk isn't stopped
nothing_running : (stopped : Bool) (queue : List Arm) (left : ℕ) → met_of stopped queue left ≡ Met.Nothing → stopped ≡ false
nothing_running true queue left e = absurd cc
nothing_running false queue left e = refl

-- a call that met nothing is one call
pub called_once : (c : Counter) → IsCounter c → met c.arms ≡ Met.Nothing → Makes 1 c (called c)
called_once c ok e = subst (λ (m : Met). Makes 1 c (called_by m c)) (sym e) (record {
  calls = omega arith;
  left = λ some. omega (arith, ok.waits.waits (nothing_running c.arms.stopped c.arms.queue c.arms.left e) some);
})

-- what hits an entry waits for one
first_waits : (stopped : Bool) (queue : List Arm) (left : ℕ) (m : Met) → met_of stopped queue left ≡ m → (m ≡ Met.Nothing → ⊥) → (m ≡ Met.Stopped → ⊥) → (stopped ≡ false) × (0 < length queue)
first_waits true queue left m e not other = absurd (other (sym e))
first_waits false [] left m e not other = absurd (not (sym e))
first_waits false (x ∷ xs) left m e not other = (refl, omega arith)

pub failure_waits : (a : Arms) (seed : ℕ) → met a ≡ Met.Failure seed → (a.stopped ≡ false) × (0 < length a.queue)
failure_waits a seed e = first_waits a.stopped a.queue a.left (Met.Failure seed) e (λ f. absurd cc) (λ f. absurd cc)

pub stop_waits : (a : Arms) (seed : ℕ) → met a ≡ Met.Stop seed → (a.stopped ≡ false) × (0 < length a.queue)
stop_waits a seed e = first_waits a.stopped a.queue a.left (Met.Stop seed) e (λ f. absurd cc) (λ f. absurd cc)

-- more than one call is left to an entry that isn't met
pub nothing_left : (a : Arms) → met a ≡ Met.Nothing → (a.stopped ≡ false) × (0 < length a.queue → 1 < a.left)
nothing_left a e = go a.stopped a.queue a.left e
  where
    met_some : (x : Arm) (b : Bool) → (if b then Met.Nothing else met_first x) ≡ Met.Nothing → b ≡ true
    met_some x true f = refl
    met_some x false f = absurd (stops x.stops f)
      where
        stops : (s : Bool) → (if s then Met.Stop x.seed else Met.Failure x.seed) ≡ Met.Nothing → ⊥
        stops true f = cc
        stops false f = cc

    go : (stopped : Bool) (queue : List Arm) (left : ℕ) → met_of stopped queue left ≡ Met.Nothing → (stopped ≡ false) × (0 < length queue → 1 < left)
    go true queue left f = absurd cc
    go false [] left f = (refl, λ lt. omega arith)
    go false (x ∷ xs) left f = (refl, λ lt. let t : nat_lt 1 left ≡ true = met_some x (nat_lt 1 left) f in grind (arith, nat_tests, t))
