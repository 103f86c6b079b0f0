-- What a disk in memory makes of a call is what the disk model says of it.
use Rattle.std.specs.Prelude.{IsErr, OnOk}
use Rattle.std.proofs.Common.{◌≡◌, ℕ, ◌+◌, ◌<◌, ◌≤◌, min, Bool, true, false, List, [], ◌∷◌, length, take, Some, Ok, Err, Result, refl, sym, subst, arith, inl, inr}
use Rattle.zbase.specs.declared.faults.Arm.{Arm}
use Rattle.zbase.specs.Faults.{Arms, Counter, Counts, Once, counts_as, hit_of}
use Rattle.zdisk.specs.Arming.{called, called_by, met}
use Rattle.zdisk.specs.ArmingLaws.{failure_waits}
use Rattle.zdisk.specs.Calls.{AnyImage, Cuts, Follows, Mixed, Syncs, Writes, changed, put}
use Rattle.zdisk.specs.Disk.{Held, Told, content, counted}
use Rattle.zdisk.specs.Effects.{after_change, after_sync, faults_left, needs}
use Rattle.zdisk.specs.Images.{IsImage, IsMixture}
use Rattle.zdisk.specs.Meeting.{Answers, IsFault}
use Rattle.zdisk.specs.SeedLaws.{image_named, mixture_named}
use Rattle.zdisk.specs.declared.queue.Met.{Met}

-- each of the two contents is a mixture of them, and the file as it is one of its images
after_is : (old new : List ℕ) → IsMixture old new new
after_is old new = record { long = inl refl; each = λ i lt. inl refl }

before_is : (old new : List ℕ) → IsMixture old new old
before_is old new = record { long = inr (inl refl); each = λ i lt. inr (inl refl) }

now_is : (held : Held) → IsImage held held.now
now_is held = record { long = inl refl; each = λ i lt. inl refl }

mixed : (held : Held) (new bytes : List ℕ) → IsMixture held.now new bytes → Mixed held new (changed bytes held)
mixed held new bytes m = record { bytes = bytes; mixture = m; is = refl }

failed_change : (f : List ℕ → List ℕ) (m : Met) (t : Told) → IsFault m → Mixed t.now (f (content t)) (after_change f m t).now
failed_change f Met.Nothing t fault = absurd fault
failed_change f (Met.Failure seed) t fault = mixed t.now (f (content t)) _ (mixture_named seed (content t) (f (content t)))
failed_change f (Met.Stop seed) t fault = mixed t.now (f (content t)) _ (after_is (content t) (f (content t)))
failed_change f Met.Stopped t fault = mixed t.now (f (content t)) _ (before_is (content t) (f (content t)))

one_moment : (f : List ℕ → List ℕ) (m : Met) (t : Told) → (after_change f m t).earlier ≡ t.now ∷ t.earlier
one_moment f Met.Nothing t = refl
one_moment f (Met.Failure seed) t = refl
one_moment f (Met.Stop seed) t = refl
one_moment f Met.Stopped t = refl

whole_change : (f : List ℕ → List ℕ) (m : Met) (t : Told) → m ≡ Met.Nothing → (after_change f m t).now ≡ changed (f (content t)) t.now
whole_change f m t e = subst (λ (n : Met). (after_change f n t).now ≡ changed (f (content t)) t.now) (sym e) refl

pub write_follows : {T E : Type 0} (at : ℕ) (piece : List ℕ) (m : Met) (t : Told) (result : Result T E) → Answers m result → Follows (Some t) (Some (after_change (put at piece) m t)) (Writes at piece result)
write_follows at piece m t (Ok x) a = (whole_change (put at piece) m t a, one_moment (put at piece) m t)
write_follows at piece m t (Err e) a = (failed_change (put at piece) m t a, one_moment (put at piece) m t)

pub cut_follows : {T E : Type 0} (to : ℕ) (m : Met) (t : Told) (result : Result T E) → Answers m result → Follows (Some t) (Some (after_change (take to) m t)) (Cuts to result)
cut_follows to m t (Ok x) a = (whole_change (take to) m t a, one_moment (take to) m t)
cut_follows to m t (Err e) a = (failed_change (take to) m t a, one_moment (take to) m t)

any : (held : Held) (bytes : List ℕ) → IsImage held bytes → AnyImage held (changed bytes held)
any held bytes i = record { bytes = bytes; image = i; is = refl }

failed_sync : (m : Met) (t : Told) → IsFault m → AnyImage t.now (after_sync m t).now
failed_sync Met.Nothing t fault = absurd fault
failed_sync (Met.Failure seed) t fault = any t.now _ (image_named seed t.now)
failed_sync (Met.Stop seed) t fault = any t.now _ (now_is t.now)
failed_sync Met.Stopped t fault = any t.now _ (now_is t.now)

one_sync : (m : Met) (t : Told) → (after_sync m t).earlier ≡ t.now ∷ t.earlier
one_sync Met.Nothing t = refl
one_sync (Met.Failure seed) t = refl
one_sync (Met.Stop seed) t = refl
one_sync Met.Stopped t = refl

whole_sync : (m : Met) (t : Told) → m ≡ Met.Nothing → (after_sync m t).now ≡ record { now = content t; before = [] }
whole_sync m t e = subst (λ (n : Met). (after_sync n t).now ≡ record { now = content t; before = [] }) (sym e) refl

pub sync_follows : {T E : Type 0} (m : Met) (t : Told) (result : Result T E) → Answers m result → Follows (Some t) (Some (after_sync m t)) (Syncs result)
sync_follows m t (Ok x) a = (whole_sync m t a, one_sync m t)
sync_follows m t (Err e) a = (failed_sync m t a, one_sync m t)

-- ---- what is counted, by the answer

pub calls_called : (c : Counter) → (called c).calls ≡ counted c.calls
calls_called c = by (met c.arms)
  where
    by : (m : Met) → (called_by m c).calls ≡ counted c.calls
    by Met.Nothing = refl
    by (Met.Failure seed) = refl
    by (Met.Stop seed) = refl
    by Met.Stopped = refl

pub answers_counts : {T E : Type 0} (a b : Counter) (m : Met) (result : Result T E) → Answers m result → Counts a b (IsFault m) → Counts a b (IsErr result)
answers_counts a b m (Ok x) is h = counts_as h (λ f. absurd (subst IsFault is f)) (λ no. absurd (clash no))
  where
    clash : false ≡ true → ⊥
    clash e = cc
answers_counts a b m (Err e) is h = counts_as h (λ f. refl) (λ t. is)

pub answers_once : {T E : Type 0} (a b : Counter) (m : Met) (result : Result T E) → Answers m result → (m ≡ Met.Nothing → Once a b) → OnOk result (Once a b)
answers_once a b m (Ok x) is once = once is
answers_once a b m (Err e) is once = tt

-- ---- the room for the entries that wait

needs_by : (m : Met) (n : ℕ) → ((seed : ℕ) → m ≡ Met.Failure seed → 1 ≤ n) → needs m ≤ n
needs_by Met.Nothing n some = omega arith
needs_by (Met.Failure seed) n some = some seed refl
needs_by (Met.Stop seed) n some = omega arith
needs_by Met.Stopped n some = omega arith

-- there is room for a call that may come, where an entry waits that makes it fail
pub needs_room : (a : Arms) (calls n : ℕ) → 1 ≤ calls → min calls (length a.queue) ≤ n → needs (met a) ≤ n
needs_room a calls n some le = needs_by (met a) n (λ seed e. omega (arith, some, le, (failure_waits a seed e).1))

-- an entry that was hit waits no more
fewer_wait : (stopped : Bool) (queue hits : List Arm) → length (hit_of stopped queue hits).queue ≤ length queue
fewer_wait true queue hits = omega arith
fewer_wait false [] hits = omega arith
fewer_wait false (x ∷ xs) hits = omega arith

one_waits : (stopped : Bool) (queue hits : List Arm) → stopped ≡ false → 0 < length queue → length (hit_of stopped queue hits).queue + 1 ≡ length queue
one_waits true queue hits e lt = absurd cc
one_waits false [] hits e lt = absurd (omega (arith, lt))
one_waits false (x ∷ xs) hits e lt = omega arith

left_by : (c : Counter) (m : Met) (old new n : ℕ) → met c.arms ≡ m → new + 1 ≡ old → min old (length c.arms.queue) ≤ n → min new (length (called_by m c).arms.queue) ≤ faults_left m n
left_by c Met.Nothing old new n e one le = omega (arith, one, le)
left_by c (Met.Failure seed) old new n e one le = let w = failure_waits c.arms seed e in omega (arith, one, le, one_waits c.arms.stopped c.arms.queue c.arms.hits w.0 w.1)
left_by c (Met.Stop seed) old new n e one le = omega (arith, one, le, fewer_wait c.arms.stopped c.arms.queue c.arms.hits)
left_by c Met.Stopped old new n e one le = omega (arith, one, le, fewer_wait c.arms.stopped c.arms.queue c.arms.hits)

-- a call that may change the file, of those for which there was room
pub room_left : (c : Counter) (old new n : ℕ) → new + 1 ≡ old → min old (length c.arms.queue) ≤ n → min new (length (called c).arms.queue) ≤ faults_left (met c.arms) n
room_left c old new n one le = left_by c (met c.arms) old new n refl one le

fewer_by : (c : Counter) (m : Met) → length (called_by m c).arms.queue ≤ length c.arms.queue
fewer_by c Met.Nothing = omega arith
fewer_by c (Met.Failure seed) = fewer_wait c.arms.stopped c.arms.queue c.arms.hits
fewer_by c (Met.Stop seed) = fewer_wait c.arms.stopped c.arms.queue c.arms.hits
fewer_by c Met.Stopped = fewer_wait c.arms.stopped c.arms.queue c.arms.hits

-- a call that reads
pub room_stays : (c : Counter) (calls n : ℕ) → min calls (length c.arms.queue) ≤ n → min calls (length (called c).arms.queue) ≤ n
room_stays c calls n le = omega (arith, le, fewer_by c (met c.arms))
