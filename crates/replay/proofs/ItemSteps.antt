-- Items that are run: what was kept before one is kept behind it, with the lines that it printed.
use Rattle.std.proofs.Common.{◌≡◌, ◌⊎◌, ◌≢◌, ℕ, ◌<◌, true, false, List, [], ◌∷◌, ◌++◌, length, map, Option, Some, IfSome, refl, sym, ap, subst, ◌∙◌, inl, inr, slice_get, slice_set, arith}
use Rattle.zbase.specs.declared.faults.Arm.{Arm}
use Rattle.zbase.specs.Faults.{Counter, Counts, IsFaultless, IsWaiting, Spends, Twice}
use Rattle.zbase.specs.History.{IsHistory}
use Rattle.zdisk.specs.Arming.{armed, left_with}
use Rattle.zdisk.specs.Crashes.{IsSynced}
use Rattle.zdisk.specs.Disk.{content}
use Rattle.evaluator.specs.Exec.{Eval}
use Rattle.packing.specs.Reachable.{Linking}
use Rattle.http_out.specs.Replies.{answer}
use Rattle.zbase.specs.History.{History}
use Rattle.schedule.specs.declared.item.Item2.{Item2}
use Rattle.schedule.specs.declared.line.Line.{Line}
use Rattle.schedule.specs.Courses.{Happens}
use Rattle.schedule.specs.Follows.{Follows}
use Rattle.schedule.specs.Moments.{Moment, Terms, clocked, lost_lines}
use Rattle.schedule.specs.Queues.{ArmsMore}
use Rattle.schedule.specs.Stepping.{Opening}
use Rattle.schedule.specs.StoppedSteps.{is_plain}
use Rattle.fs_store.specs.Arming.{arming}
use Rattle.fs_store.specs.Moments.{OpensAsBefore}
use Rattle.fs_store.specs.Stores.{DiskView, IsTold, StoreView, on_disk, settled}
use Rattle.connection.specs.Telling.{TellsOn, tells_forth}
use Rattle.txn_core.specs.declared.step_line.StepLine.{StepLine}
use Rattle.txn_core.specs.Counting.{Lowers, left}
use Rattle.txn_core.specs.Cores.{CoreView, MayBe, is_taken}
use Rattle.txn_core.specs.Growing.{step_grows}
use Rattle.txn_core.specs.Slots.{Possible, moment_of}
use Rattle.txn_core.specs.StepLines.{IsCommitLine, IsFaultLine, IsVoteLine, step_lines}
use Rattle.replay.specs.Handed.{HoldsWhereTold}
use Rattle.replay.specs.Kept.{GoesNeeded, GoesOn, Kept}
use Rattle.replay.specs.Losing.{lost_marks}
use Rattle.replay.specs.Printed.{Prints, terms_of}
use Rattle.replay.specs.Restarts.{Restarts, restart_lines}
use Rattle.replay.proofs.Keeping.{kept_armed, kept_quiet, kept_restart, kept_step, step_acknowledges}
use Rattle.replay.proofs.LostMarks.{marks_of_slots}
use Rattle.replay.proofs.PrintSteps.{prints_none}
use Rattle.replay.proofs.RestartMarks.{marks_before}
use Rattle.replay.proofs.NoIdle.{step_no_idle}
use Rattle.replay.proofs.StepQueues.{fault_hits, step_hits, step_queued}

-- these lines were printed
abbrev GoesBy : {E R S : Type 0} → (List ℕ → Option R) → Eval R → Linking → ℕ → CoreView E R S → ℕ → List Item2 → List Line → CoreView E R S → ℕ → Option (List ℕ) → Option (List ℕ) → Type 0
GoesBy takes eval links limit old since items more new now before behind = (end : ℕ) (given : List ℕ) (h0 : History) (done : List Item2) (lines : List Line) → Kept eval (terms_of takes eval links limit end) given h0 done lines old since
    → Kept eval (terms_of takes eval links limit end) given h0 (done ++ items) (lines ++ more) new now × Prints before behind more

-- ---- items that print nothing

-- a request that is given
pub given_goes_on : {E R S : Type 0} (takes : List ℕ → Option R) (eval : Eval R) (links : Linking) (limit now w : ℕ) (bytes : List ℕ) (old new : CoreView E R S) (o : Option (List ℕ)) → new.store ≡ old.store
    → ((at limit end : ℕ) → Follows (terms_of takes eval links limit end) (MayBe eval old) at (MayBe eval new) at (Item2.Request w bytes) []) → GoesOn takes eval links limit old now (Item2.Request w bytes ∷ []) new now o o
given_goes_on takes eval links limit now w bytes old new o same follows = λ end given h0 done lines kept.
    ([], kept_quiet eval (terms_of takes eval links limit end) given h0 done lines (Item2.Request w bytes) old new now now kept refl refl same (follows now limit end), prints_none o)

pub given_goes_needed : {E R S : Type 0} (takes : List ℕ → Option R) (eval : Eval R) (links : Linking) (limit now w : ℕ) (bytes : List ℕ) (old new : CoreView E R S) (o : Option (List ℕ)) → new.store ≡ old.store
    → ((at limit end : ℕ) → Follows (terms_of takes eval links limit end) (MayBe eval old) at (MayBe eval new) at (Item2.Request w bytes) []) → GoesNeeded takes eval links limit old now (Item2.Request w bytes ∷ []) new now o o
given_goes_needed takes eval links limit now w bytes old new o same follows = λ end given h0 done lines kept.
    ([], kept_quiet eval (terms_of takes eval links limit end) given h0 done lines (Item2.Request w bytes) old new now now kept refl refl same (follows now limit end), prints_none o, tt)

pub clock_goes_needed : {E R S : Type 0} (takes : List ℕ → Option R) (eval : Eval R) (links : Linking) (limit since stamp : ℕ) (core : CoreView E R S) (o : Option (List ℕ)) → GoesNeeded takes eval links limit core since (Item2.Clock stamp ∷ []) core stamp o o
clock_goes_needed takes eval links limit since stamp core o = λ end given h0 done lines kept.
    ([], kept_quiet eval (terms_of takes eval links limit end) given h0 done lines (Item2.Clock stamp) core core since stamp kept refl refl refl (λ m may. (m, may, (refl, refl))), prints_none o, tt)

pub clock_goes_on : {E R S : Type 0} (takes : List ℕ → Option R) (eval : Eval R) (links : Linking) (limit since stamp : ℕ) (core : CoreView E R S) (o : Option (List ℕ)) → GoesOn takes eval links limit core since (Item2.Clock stamp ∷ []) core stamp o o
clock_goes_on takes eval links limit since stamp core o = λ end given h0 done lines kept.
    ([], kept_quiet eval (terms_of takes eval links limit end) given h0 done lines (Item2.Clock stamp) core core since stamp kept refl refl refl (λ m may. (m, may, (refl, refl))), prints_none o)

-- a store over another disk may have the same stores behind it
possible_back : {E R S : Type 0} (eval : Eval R) (core : CoreView E R S) (disk : DiskView) (may : StoreView) → Possible (on_disk core.store disk) may → (was : StoreView) × Possible core.store was × (moment_of eval may core.slots ≡ moment_of eval was core.slots)
possible_back eval core disk may (inl e) = (core.store, inl refl, ap (λ s. moment_of eval s core.slots) e)
possible_back eval core disk may (inr (o, undecided, e)) = (settled core.store (Some o) core.store.disk, inr (o, undecided, refl), ap (λ s. moment_of eval s core.slots) e)

abbrev over : {E R S : Type 0} → CoreView E R S → DiskView → CoreView E R S
over core disk = record { store = on_disk core.store disk; slots = core.slots }

disk_follows : {E R S : Type 0} (eval : Eval R) (terms : Terms R) (now : ℕ) (core : CoreView E R S) (disk : DiskView) (item : Item2) → ((m : Moment R) → Happens terms m item [] m) → Follows terms (MayBe eval core) now (MayBe eval (over core disk)) now item []
disk_follows eval terms now core disk item happens = λ m may.
    (let was = possible_back eval core disk may.0 may.1 in
    (m, (was.0, was.1, may.2 ∙ was.2), happens (clocked m now)))

left_stays : (q : List Arm) (left calls : ℕ) → (q ≡ [] → ⊥) → left_with q left calls ≡ left
left_stays [] left calls some = absurd (some refl)
left_stays (x ∷ xs) left calls some = refl

arms_more : (c : Counter) (x : Arm) → ArmsMore x c.arms (armed c x).arms
arms_more c x = record { queue = refl; hits = refl; stopped = refl; first = λ e. ap (λ q. left_with q c.arms.left x.calls) e; later = left_stays c.arms.queue c.arms.left x.calls }

stop_over : {E R S : Type 0} (takes : List ℕ → Option R) (eval : Eval R) (links : Linking) (limit now n seed : ℕ) (core : CoreView E R S) (o : Option (List ℕ)) → GoesOn takes eval links limit core now (Item2.Stop n seed ∷ []) (over core (arming core.store.disk (record { stops = true; calls = n; seed = seed }))) now o o
stop_over takes eval links limit now n seed core o = λ end given h0 done lines kept.
    (let x : Arm = record { stops = true; calls = n; seed = seed } in
    let disk = arming core.store.disk x in
    ([], kept_armed eval (terms_of takes eval links limit end) given h0 done lines (Item2.Stop n seed) x core (over core disk) now kept refl refl (arms_more core.store.disk.counter x) refl refl (disk_follows eval (terms_of takes eval links limit end) now core disk (Item2.Stop n seed) (λ m. (refl, refl))), prints_none o))

fail_over : {E R S : Type 0} (takes : List ℕ → Option R) (eval : Eval R) (links : Linking) (limit now n seed : ℕ) (core : CoreView E R S) (o : Option (List ℕ)) → GoesOn takes eval links limit core now (Item2.Fail n seed ∷ []) (over core (arming core.store.disk (record { stops = false; calls = n; seed = seed }))) now o o
fail_over takes eval links limit now n seed core o = λ end given h0 done lines kept.
    (let x : Arm = record { stops = false; calls = n; seed = seed } in
    let disk = arming core.store.disk x in
    ([], kept_armed eval (terms_of takes eval links limit end) given h0 done lines (Item2.Fail n seed) x core (over core disk) now kept refl refl (arms_more core.store.disk.counter x) refl refl (disk_follows eval (terms_of takes eval links limit end) now core disk (Item2.Fail n seed) (λ m. (refl, refl))), prints_none o))

-- an item that arms an entry
pub stop_goes_on : {E R S : Type 0} (takes : List ℕ → Option R) (eval : Eval R) (links : Linking) (limit now n seed : ℕ) (core new : CoreView E R S) (o : Option (List ℕ)) → new ≡ over core (arming core.store.disk (record { stops = true; calls = n; seed = seed })) → GoesOn takes eval links limit core now (Item2.Stop n seed ∷ []) new now o o
stop_goes_on {E} {R} {S} takes eval links limit now n seed core new o is = subst (λ (k : CoreView E R S). GoesOn takes eval links limit core now (Item2.Stop n seed ∷ []) k now o o) (sym is) (stop_over takes eval links limit now n seed core o)

pub fail_goes_on : {E R S : Type 0} (takes : List ℕ → Option R) (eval : Eval R) (links : Linking) (limit now n seed : ℕ) (core new : CoreView E R S) (o : Option (List ℕ)) → new ≡ over core (arming core.store.disk (record { stops = false; calls = n; seed = seed })) → GoesOn takes eval links limit core now (Item2.Fail n seed ∷ []) new now o o
fail_goes_on {E} {R} {S} takes eval links limit now n seed core new o is = subst (λ (k : CoreView E R S). GoesOn takes eval links limit core now (Item2.Fail n seed ∷ []) k now o o) (sym is) (fail_over takes eval links limit now n seed core o)

-- ---- a step

-- what a step of the core says, whatever the terms
abbrev pub StepFollows : {E R S : Type 0} → Eval R → CoreView E R S → CoreView E R S → ℕ → ℕ → StepLine → Type 0
StepFollows {E} {R} {S} eval old new w now line = (terms : Terms R) → terms.eval ≡ eval → terms.limit ≡ old.store.limit → Follows terms (MayBe eval old) now (MayBe eval new) now (Item2.Step w) (step_lines terms.answer w line)

fault_or_not : (line : StepLine) → IsFaultLine line ⊎ (IsFaultLine line → ⊥)
fault_or_not StepLine.DiskFault = inl tt
fault_or_not (StepLine.Unknown t) = inl tt
fault_or_not StepLine.Idle = inr (λ f. f)
fault_or_not (StepLine.Begun t) = inr (λ f. f)
fault_or_not (StepLine.Fetched ask) = inr (λ f. f)
fault_or_not StepLine.Computed = inr (λ f. f)
fault_or_not (StepLine.Busy v) = inr (λ f. f)
fault_or_not (StepLine.Voted t) = inr (λ f. f)
fault_or_not (StepLine.Conflict c) = inr (λ f. f)
fault_or_not (StepLine.GivenUp cs) = inr (λ f. f)
fault_or_not (StepLine.Spent s) = inr (λ f. f)
fault_or_not StepLine.Memory = inr (λ f. f)
fault_or_not (StepLine.Read x t) = inr (λ f. f)
fault_or_not (StepLine.Commit x t) = inr (λ f. f)

-- a step behind which the disk is stopped failed
stop_is_fault : (old new : Counter) (line : StepLine) → old.arms.stopped ≡ false → new.arms.stopped ≡ true → Counts old new (IsFaultLine line) → IsFaultLine line
stop_is_fault old new line runs stops counts =
    elim (fault_or_not line) [
      | inl fault ↦ fault
      | inr none ↦ (let spends : Spends old.arms new.arms = counts.arms.spends none in absurd (let bad : true ≡ false = sym stops ∙ spends.stopped ∙ runs in cc))
    ]

fault_isnt_plain : (w : ℕ) (line : StepLine) → IsFaultLine line → is_plain (step_lines answer w line) ≡ false
fault_isnt_plain w StepLine.DiskFault f = refl
fault_isnt_plain w (StepLine.Unknown t) f = refl
fault_isnt_plain w _ f = absurd f

-- and its worker had a request
fault_had : (line : StepLine) (a b : ℕ) → IsFaultLine line → Lowers line a b → 0 < a
fault_had StepLine.DiskFault a b f lowers = omega (arith, lowers)
fault_had (StepLine.Unknown t) a b f lowers = omega (arith, lowers)
fault_had _ a b f lowers = absurd f

-- what a store holds that isn't stale
pub holds_told : (s : StoreView) → IfSome s.disk.told (λ told. IsSynced told × OpensAsBefore s (content told)) → HoldsWhereTold s.disk.told s.history
holds_told s whole = λ told at. (let is = subst (λ d. IfSome d (λ t. IsSynced t × OpensAsBefore s (content t))) at whole in (is.0, (s.end, is.1)))

-- behind which the disk isn't stopped
step_goes_by : {E R S : Type 0} (takes : List ℕ → Option R) (eval : Eval R) (links : Linking) (limit w now : ℕ) (old new : CoreView E R S) (line : StepLine) (before behind : Option (List ℕ)) → limit ≡ old.store.limit → (IsTold old.store → StepFollows eval old new w now line)
    → TellsOn old.store.disk.told new.store.disk.told → Counts old.store.disk.counter new.store.disk.counter (IsFaultLine line) → (old.store.disk.counter.arms.queue ≡ [] → old.store.disk.counter.arms.stopped ≡ false → IsFaultless old.store.disk.counter)
    → (IsVoteLine line → Twice old.store.disk.counter new.store.disk.counter) → IsWaiting new.store.disk.counter.arms → new.store.disk.counter.arms.stopped ≡ false → (IsTold new.store → IsHistory new.store.history) → (IsCommitLine line → HoldsWhereTold new.store.disk.told new.store.history)
    → Prints before behind (step_lines answer w line) → GoesBy takes eval links limit old now (Item2.Step w ∷ []) (step_lines answer w line) new now before behind
step_goes_by takes eval links limit w now old new line before behind limit_is steps tells counts calm twice waits runs history holds printed = λ end given h0 done lines kept.
    (let terms = terms_of takes eval links limit end in
    let follows = steps kept.told terms refl limit_is in
    let some : IsFaultLine line → old.store.disk.counter.arms.queue ≡ [] → ⊥ = λ fault. fault_hits old.store.disk.counter new.store.disk.counter (IsFaultLine line) counts (λ none. calm none kept.running) fault in
    let grows = step_grows eval terms w now old new (step_lines answer w line) follows in
    let told : IsTold new.store = tells_forth old.store.disk.told new.store.disk.told tells kept.told in
    let leaves = step_queued answer kept.queue old.store.disk.counter new.store.disk.counter w line kept.armed kept.running runs counts some twice waits in
    let hits = step_hits answer old.store.disk.counter new.store.disk.counter w line kept.running counts some in
    let said = step_acknowledges answer old.store.disk.told new.store.disk.told given old.store.history new.store.history lines w line kept.acknowledges tells grows.0 (history told) grows.1 holds in
    (kept_step eval terms given h0 done lines w line old new now kept told runs leaves hits said follows, printed))

pub step_goes_on : {E R S : Type 0} (takes : List ℕ → Option R) (eval : Eval R) (links : Linking) (limit w now : ℕ) (old new : CoreView E R S) (line : StepLine) (before behind : Option (List ℕ)) → limit ≡ old.store.limit → (IsTold old.store → StepFollows eval old new w now line)
    → TellsOn old.store.disk.told new.store.disk.told → Counts old.store.disk.counter new.store.disk.counter (IsFaultLine line) → (old.store.disk.counter.arms.queue ≡ [] → old.store.disk.counter.arms.stopped ≡ false → IsFaultless old.store.disk.counter)
    → (IsVoteLine line → Twice old.store.disk.counter new.store.disk.counter) → IsWaiting new.store.disk.counter.arms → new.store.disk.counter.arms.stopped ≡ false → (IsTold new.store → IsHistory new.store.history) → (IsCommitLine line → HoldsWhereTold new.store.disk.told new.store.history)
    → Prints before behind (step_lines answer w line) → GoesOn takes eval links limit old now (Item2.Step w ∷ []) new now before behind
step_goes_on takes eval links limit w now old new line before behind limit_is steps tells counts calm twice waits runs history holds printed = λ end given h0 done lines kept.
    (let by = step_goes_by takes eval links limit w now old new line before behind limit_is steps tells counts calm twice waits runs history holds printed end given h0 done lines kept in
    (step_lines answer w line, by.0, by.1))

-- of a worker that has a request
pub step_goes_needed : {E R S : Type 0} (takes : List ℕ → Option R) (eval : Eval R) (links : Linking) (limit w now : ℕ) (old new : CoreView E R S) (line : StepLine) (before behind : Option (List ℕ)) → limit ≡ old.store.limit → (IsTold old.store → StepFollows eval old new w now line)
    → TellsOn old.store.disk.told new.store.disk.told → Counts old.store.disk.counter new.store.disk.counter (IsFaultLine line) → (old.store.disk.counter.arms.queue ≡ [] → old.store.disk.counter.arms.stopped ≡ false → IsFaultless old.store.disk.counter)
    → (IsVoteLine line → Twice old.store.disk.counter new.store.disk.counter) → IsWaiting new.store.disk.counter.arms → new.store.disk.counter.arms.stopped ≡ false → (IsTold new.store → IsHistory new.store.history) → (IsCommitLine line → HoldsWhereTold new.store.disk.told new.store.history)
    → Prints before behind (step_lines answer w line) → (line ≡ StepLine.Idle → ⊥) → GoesNeeded takes eval links limit old now (Item2.Step w ∷ []) new now before behind
step_goes_needed takes eval links limit w now old new line before behind limit_is steps tells counts calm twice waits runs history holds printed busy = λ end given h0 done lines kept.
    (let by = step_goes_by takes eval links limit w now old new line before behind limit_is steps tells counts calm twice waits runs history holds printed end given h0 done lines kept in
    (step_lines answer w line, by.0, by.1, step_no_idle answer w line busy))

-- that a stop cut off, with the restart behind it
pub stopped_goes_on : {E R S : Type 0} (takes : List ℕ → Option R) (eval : Eval R) (links : Linking) (limit w now : ℕ) (old mid new : CoreView E R S) (line : StepLine) (openings : List Opening) (before behind : Option (List ℕ)) → limit ≡ old.store.limit → (IsTold old.store → StepFollows eval old mid w now line)
    → Counts old.store.disk.counter mid.store.disk.counter (IsFaultLine line) → (old.store.disk.counter.arms.queue ≡ [] → old.store.disk.counter.arms.stopped ≡ false → IsFaultless old.store.disk.counter) → mid.store.disk.counter.arms.stopped ≡ true
    → Lowers line (left old.slots w) (left mid.slots w) → length mid.slots ≡ length old.slots → ((v : ℕ) → v ≢ w → slice_get mid.slots v ≡ slice_get old.slots v)
    → Restarts eval mid new openings → Prints before behind (restart_lines (lost_marks (slice_set (map is_taken mid.slots) w true)) openings new.store.history) → GoesOn takes eval links limit old now (Item2.Step w ∷ []) new now before behind
stopped_goes_on {E} {R} {S} takes eval links limit w now old mid new line openings before behind limit_is steps counts calm stops lowers long others r printed = λ end given h0 done lines kept.
    (let terms = terms_of takes eval links limit end in
    let m : Moment R = moment_of eval old.store old.slots in
    let fault : IsFaultLine line = stop_is_fault old.store.disk.counter mid.store.disk.counter line kept.running stops counts in
    let some = fault_hits old.store.disk.counter mid.store.disk.counter (IsFaultLine line) counts (λ none. calm none kept.running) fault in
    let lost : lost_marks (slice_set (map is_taken mid.slots) w true) ≡ lost_lines m = marks_of_slots eval old.store 0 old.slots (slice_set (map is_taken mid.slots) w true) (marks_before old.slots mid.slots w long (fault_had line _ _ fault lowers) others) in (
      restart_lines (lost_lines m) openings new.store.history,
      kept_restart eval terms given h0 done lines w line old mid new now openings kept (steps kept.told terms refl limit_is) (fault_isnt_plain w line fault) r.told r.running some (counts.arms.first fault) stops r.opened r.reopens r.rest r.decided r.history r.anew,
      subst (λ ls. Prints before behind (restart_lines ls openings new.store.history)) lost printed,
    ))
