-- A loop over a schedule keeps what it has to, from its first item to the whole report.
use Rattle.std.proofs.Common.{◌≡◌, ℕ, ◌+◌, false, true, List, [], ◌∷◌, ◌++◌, map, length, replicate, Option, None, Some, refl, sym, ap, ◌∙◌, subst, append_assoc, append-nil, inl, arith}
use Rattle.std.specs.Prelude.{IsSome}
use Rattle.std.specs.List.{enumerate_from, filter_map}
use Rattle.zbase.specs.declared.faults.Arm.{Arm}
use Rattle.zbase.specs.Faults.{Arms, hit}
use Rattle.zbase.specs.History.{History, IsHistory, IsPrefixOf}
use Rattle.zbase.specs.Values.{last}
use Rattle.zdisk.specs.Crashes.{Piles}
use Rattle.zdisk.specs.Disk.{Told, synced}
use Rattle.evaluator.specs.declared.reply.Denial.{Denial}
use Rattle.evaluator.specs.declared.reply.Mark.{Mark}
use Rattle.evaluator.specs.declared.reply.Reply.{Reply}
use Rattle.evaluator.specs.declared.reply.Shown.{Shown}
use Rattle.evaluator.specs.Exec.{Eval, IsLawful}
use Rattle.schedule.specs.declared.item.Item2.{Item2}
use Rattle.schedule.specs.declared.line.Line.{Line}
use Rattle.schedule.specs.Armed.{Queue, IsArmed, after_item, nothing_armed}
use Rattle.schedule.specs.Armed.{armed as licensed}
use Rattle.schedule.specs.ArmedRuns.{Licenses, RanArmed, is_armed, ran_more, ran_none}
use Rattle.schedule.specs.Causes.{by_oid, denied_line, shown_lines}
use Rattle.schedule.specs.Courses.{Place, Course, items_of, lines_of}
use Rattle.schedule.specs.Entries.{Entered, HitsMore, entry_of, faults}
use Rattle.schedule.specs.EntryLaws.{entered_armed, entered_more, faults-append, hits_one, hits_openings, hits_then}
use Rattle.schedule.specs.Explained.{Explained, history_lines, report}
use Rattle.schedule.specs.Follows.{Follows}
use Rattle.schedule.specs.Moments.{Terms, Asking, Computed, Doing, Free, Moment, Vote, Waiting, clocked, lost_line, lost_lines, start}
use Rattle.schedule.specs.Openings.{Leaves, OpeningsOf, restart_queued}
use Rattle.schedule.specs.Queues.{ArmsMore, IsQueueOf, licence_of, queue_armed, resumed}
use Rattle.schedule.specs.StepLaws.{TellsLast}
use Rattle.schedule.specs.Stepping.{Faults, Opening, Stops, opening_line}
use Rattle.schedule.specs.StoppedSteps.{is_plain}
use Rattle.fs_store.specs.Stores.{IsTold, Out, StoreView}
use Rattle.fs_store.specs.declared.refusal.Spent.{Spent}
use Rattle.connection.specs.Telling.{TellsOn}
use Rattle.txn_core.specs.declared.step_line.StepLine.{StepLine}
use Rattle.txn_core.specs.Cores.{CoreView, IsAtRest, MayBe}
use Rattle.txn_core.specs.Slots.{Possible, doing_of, moment_of, vote_of}
use Rattle.txn_core.specs.StepLines.{IsCommitLine, step_lines}
use Rattle.replay.specs.Handed.{AcknowledgesWhereTold, HeldAt, HoldsWhereTold, PilesWhereTold, moments}
use Rattle.replay.specs.Kept.{IsOpened, Kept}
use Rattle.replay.specs.Printed.{closing}
use Rattle.replay.specs.Restarts.{BeginsAnew, Reopens, restart_lines}
use Rattle.replay.proofs.Handing.{IsQuiet, held_piles, keeps_commit, keeps_on, keeps_restart}
use Rattle.replay.proofs.RestartSteps.{only, restart_follows}
use Rattle.replay.proofs.StepQueues.{HitsTold}

-- ---- the start

first_held : (given : List ℕ) (told : Told) → Piles (synced given) told → HeldAt (moments told) 0 (record { now = given; before = [] })
first_held given told piles = subst (λ hs. HeldAt hs 0 (record { now = given; before = [] })) (sym piles.1) (held_piles piles.0 (record { now = given; before = [] } ∷ []) 0 (record { now = given; before = [] }) (inl (refl, refl)))

-- a core over the opened file
pub kept_first : {E R S : Type 0} (eval : Eval R) (terms : Terms R) (given : List ℕ) (core : CoreView E R S) → IsOpened eval given core → terms.opened ≡ core.store.end → Kept eval terms given core.store.history [] [] core 0
kept_first {E} {R} {S} eval terms given core is opened = record {
  told = is.told;
  running = is.running;
  queue = nothing_armed;
  ran = λ m may.
      let st : may.0 ≡ core.store = only core.store may.0 is.decided may.1 in
      let at : m ≡ moment_of eval core.store core.slots = may.2 ∙ ap (λ s. moment_of eval s core.slots) st in
      let made : Option Vote → ℕ → List (Doing R) → Moment R = (λ v e ws. record { standing = core.store.history; end = e; clock = 0; vote = v; workers = ws }) in
      let starts : start terms core.store.history ≡ clocked m 0 = sym (ap (λ k. clocked k 0) at ∙ ap (λ (out : Option Out). made (vote_of core.slots out) core.store.end (map (doing_of eval) core.slots)) is.rest.0 ∙ ap (made None core.store.end) is.rest.1 ∙ ap (λ e. made None e (replicate 16 Free)) (sym opened)) in
      subst (λ k. RanArmed terms (start terms core.store.history) [] [] k nothing_armed) starts (ran_none terms (start terms core.store.history));
  armed = record { entries = ap (map licence_of) (sym is.unarmed); since = λ some. absurd (some is.unarmed) };
  entered = record { all = ap (λ h. h ++ core.store.disk.counter.arms.queue) is.unhit ∙ is.unarmed; count = ap length is.unhit };
  acknowledges = λ told at. record { commits = tt; first = first_held given told (is.begins told at) };
}

-- ---- one item more

-- by any item
pub kept_next : {E R S : Type 0} (eval : Eval R) (terms : Terms R) (given : List ℕ) (h0 : History) (items : List Item2) (lines more : List Line) (item : Item2) (old new : CoreView E R S) (since now : ℕ) (kept : Kept eval terms given h0 items lines old since) (next : Queue)
    → IsTold new.store → new.store.disk.counter.arms.stopped ≡ false → Licenses kept.queue item more next → IsQueueOf next new.store.disk.counter.arms → Entered (items ++ item ∷ []) (lines ++ more) new.store.disk.counter.arms → AcknowledgesWhereTold new.store.disk.told given new.store.history (lines ++ more)
    → Follows terms (MayBe eval old) since (MayBe eval new) now item more → Kept eval terms given h0 (items ++ item ∷ []) (lines ++ more) new now
kept_next eval terms given h0 items lines more item old new since now kept next told running licensed_so armed entered acknowledges follows = record {
  told = told;
  running = running;
  queue = next;
  ran = λ m may. let f = follows m may in ran_more terms (start terms h0) (clocked f.0 since) (clocked m now) items lines more item kept.queue next (kept.ran f.0 f.1) f.2 licensed_so;
  armed = armed;
  entered = entered;
  acknowledges = acknowledges;
}

hits_still : (a b : Arms) → b ≡ a → HitsMore 0 a b
hits_still a b e = subst (HitsMore 0 a) (sym e) (record { same = refl; count = omega arith })

-- a request, and a clock: the store stays as it was
pub kept_quiet : {E R S : Type 0} (eval : Eval R) (terms : Terms R) (given : List ℕ) (h0 : History) (items : List Item2) (lines : List Line) (item : Item2) (old new : CoreView E R S) (since now : ℕ) (kept : Kept eval terms given h0 items lines old since)
    → entry_of item ≡ [] → after_item kept.queue item ≡ kept.queue → new.store ≡ old.store → Follows terms (MayBe eval old) since (MayBe eval new) now item [] → Kept eval terms given h0 (items ++ item ∷ []) (lines ++ []) new now
kept_quiet eval terms given h0 items lines item old new since now kept none quiet same follows =
    let arms : new.store.disk.counter.arms ≡ old.store.disk.counter.arms = ap (λ (s : StoreView). s.disk.counter.arms) same in
    kept_next eval terms given h0 items lines [] item old new since now kept kept.queue (subst IsTold (sym same) kept.told) (ap (λ (a : Arms). a.stopped) arms ∙ kept.running) (ap (λ q. Some q) quiet) (subst (IsQueueOf kept.queue) (sym arms) kept.armed)
    (entered_more items lines [] item old.store.disk.counter.arms new.store.disk.counter.arms 0 kept.entered (hits_still old.store.disk.counter.arms new.store.disk.counter.arms arms) refl none)
    (subst (λ (s : StoreView). AcknowledgesWhereTold s.disk.told given s.history (lines ++ [])) (sym same) (subst (AcknowledgesWhereTold old.store.disk.told given old.store.history) (sym (append-nil lines)) kept.acknowledges))
    follows

-- an item that arms an entry: only the disk's queue changes
pub kept_armed : {E R S : Type 0} (eval : Eval R) (terms : Terms R) (given : List ℕ) (h0 : History) (items : List Item2) (lines : List Line) (item : Item2) (x : Arm) (old new : CoreView E R S) (now : ℕ) (kept : Kept eval terms given h0 items lines old now)
    → entry_of item ≡ x ∷ [] → after_item kept.queue item ≡ licensed kept.queue (licence_of x) → ArmsMore x old.store.disk.counter.arms new.store.disk.counter.arms → new.store.disk.told ≡ old.store.disk.told → new.store.history ≡ old.store.history
    → Follows terms (MayBe eval old) now (MayBe eval new) now item [] → Kept eval terms given h0 (items ++ item ∷ []) (lines ++ []) new now
kept_armed eval terms given h0 items lines item x old new now kept entry arms more told history follows =
    kept_next eval terms given h0 items lines [] item old new now now kept (licensed kept.queue (licence_of x)) (subst IsSome (sym told) kept.told) (more.stopped ∙ kept.running) (ap (λ q. Some q) arms) (queue_armed kept.queue old.store.disk.counter.arms new.store.disk.counter.arms x kept.armed more)
    (entered_armed items lines item x old.store.disk.counter.arms new.store.disk.counter.arms kept.entered more entry)
    (subst (λ d. AcknowledgesWhereTold d given new.store.history (lines ++ [])) (sym told) (subst (λ h. AcknowledgesWhereTold old.store.disk.told given h (lines ++ [])) (sym history) (subst (AcknowledgesWhereTold old.store.disk.told given old.store.history) (sym (append-nil lines)) kept.acknowledges)))
    follows

-- ---- a step

shown_quiet : (w : ℕ) (ss : List Shown) (rest : List Line) → IsQuiet rest → IsQuiet (map (λ s. Line.Shown w s.oid s.role) ss ++ rest)
shown_quiet w [] rest quiet = quiet
shown_quiet w (s ∷ ss) rest quiet = shown_quiet w ss rest quiet

denied_quiet : (w : ℕ) (d : Option Denial) → IsQuiet (denied_line w d)
denied_quiet w None = ((λ ts. refl), (λ r. refl))
denied_quiet w (Some d) = ((λ ts. refl), (λ r. refl))

commit_quiet : (w : ℕ) (x : Reply) → IsQuiet (shown_lines w x)
commit_quiet w x = subst IsQuiet (append-nil (shown_lines w x)) (shown_quiet w (by_oid x.shown) [] ((λ ts. refl), (λ r. refl)))

pub tells_piles : (old new : Option Told) → TellsOn old new → PilesWhereTold old new
tells_piles None None on told e = absurd cc
tells_piles None (Some b) on told e = absurd on
tells_piles (Some a) None on told e = absurd on
tells_piles (Some a) (Some b) on told e = (let same : b ≡ told = cc in (a, refl, subst (Piles a) same on))

pub acknowledges_on : (old new : Option Told) (given : List ℕ) (p h : History) (lines more : List Line) → AcknowledgesWhereTold old given p lines → PilesWhereTold old new → IsPrefixOf p h → IsHistory h → IsQuiet more → AcknowledgesWhereTold new given h (lines ++ more)
acknowledges_on old new given p h lines more all piles grows is quiet = λ told at. (let was = piles told at in keeps_on was.0 told given p h lines more (all was.0 was.1) was.2 grows is quiet)

-- behind the last item, once the store is settled
pub acknowledges_to : (old new : Option Told) (given : List ℕ) (p h : History) (lines : List Line) → AcknowledgesWhereTold old given p lines → TellsOn old new → IsPrefixOf p h → IsHistory h → AcknowledgesWhereTold new given h lines
acknowledges_to old new given p h lines all tells grows is =
    subst (AcknowledgesWhereTold new given h) (append-nil lines) (acknowledges_on old new given p h lines [] all (tells_piles old new tells) grows is ((λ ts. refl), (λ r. refl)))

-- what a step keeps of the disk
pub step_acknowledges : (answer : Reply → Mark → List ℕ) (old new : Option Told) (given : List ℕ) (p h : History) (lines : List Line) (w : ℕ) (line : StepLine) → AcknowledgesWhereTold old given p lines → TellsOn old new → IsPrefixOf p h → IsHistory h → TellsLast (step_lines answer w line) h → (IsCommitLine line → HoldsWhereTold new h)
    → AcknowledgesWhereTold new given h (lines ++ step_lines answer w line)
step_acknowledges answer old new given p h lines w StepLine.Idle all piles grows is tells holds = acknowledges_on old new given p h lines _ all (tells_piles old new piles) grows is ((λ ts. refl), (λ r. refl))
step_acknowledges answer old new given p h lines w (StepLine.Begun t) all piles grows is tells holds = acknowledges_on old new given p h lines _ all (tells_piles old new piles) grows is ((λ ts. refl), (λ r. refl))
step_acknowledges answer old new given p h lines w (StepLine.Fetched ask) all piles grows is tells holds = acknowledges_on old new given p h lines _ all (tells_piles old new piles) grows is ((λ ts. refl), (λ r. refl))
step_acknowledges answer old new given p h lines w StepLine.Computed all piles grows is tells holds = acknowledges_on old new given p h lines _ all (tells_piles old new piles) grows is ((λ ts. refl), (λ r. refl))
step_acknowledges answer old new given p h lines w (StepLine.Busy v) all piles grows is tells holds = acknowledges_on old new given p h lines _ all (tells_piles old new piles) grows is ((λ ts. refl), (λ r. refl))
step_acknowledges answer old new given p h lines w (StepLine.Voted t) all piles grows is tells holds = acknowledges_on old new given p h lines _ all (tells_piles old new piles) grows is ((λ ts. refl), (λ r. refl))
step_acknowledges answer old new given p h lines w (StepLine.Conflict c) all piles grows is tells holds = acknowledges_on old new given p h lines _ all (tells_piles old new piles) grows is ((λ ts. refl), (λ r. refl))
step_acknowledges answer old new given p h lines w (StepLine.GivenUp cs) all piles grows is tells holds = acknowledges_on old new given p h lines _ all (tells_piles old new piles) grows is ((λ ts. refl), (λ r. refl))
step_acknowledges answer old new given p h lines w (StepLine.Spent Spent.Tids) all piles grows is tells holds = acknowledges_on old new given p h lines _ all (tells_piles old new piles) grows is ((λ ts. refl), (λ r. refl))
step_acknowledges answer old new given p h lines w (StepLine.Spent (Spent.Oids o n)) all piles grows is tells holds = acknowledges_on old new given p h lines _ all (tells_piles old new piles) grows is ((λ ts. refl), (λ r. refl))
step_acknowledges answer old new given p h lines w (StepLine.Spent (Spent.Full n l)) all piles grows is tells holds = acknowledges_on old new given p h lines _ all (tells_piles old new piles) grows is ((λ ts. refl), (λ r. refl))
step_acknowledges answer old new given p h lines w StepLine.DiskFault all piles grows is tells holds = acknowledges_on old new given p h lines _ all (tells_piles old new piles) grows is ((λ ts. refl), (λ r. refl))
step_acknowledges answer old new given p h lines w StepLine.Memory all piles grows is tells holds = acknowledges_on old new given p h lines _ all (tells_piles old new piles) grows is ((λ ts. refl), (λ r. refl))
step_acknowledges answer old new given p h lines w (StepLine.Unknown t) all piles grows is tells holds = acknowledges_on old new given p h lines _ all (tells_piles old new piles) grows is ((λ ts. refl), (λ r. refl))
step_acknowledges answer old new given p h lines w (StepLine.Read x t) all piles grows is tells holds = acknowledges_on old new given p h lines _ all (tells_piles old new piles) grows is (shown_quiet w (by_oid x.shown) (denied_line w x.denied) (denied_quiet w x.denied))
step_acknowledges answer old new given p h lines w (StepLine.Commit x t) all piles grows is tells holds = λ told at.
    (let was = tells_piles old new piles told at in
    let whole = holds tt told at in
    keeps_commit was.0 told given p h lines (shown_lines w x) w t (answer x (Mark.Commit t)) (all was.0 was.1) was.2 grows is (commit_quiet w x) tells whole.0 whole.1)

-- a step behind which the disk isn't stopped
pub kept_step : {E R S : Type 0} (eval : Eval R) (terms : Terms R) (given : List ℕ) (h0 : History) (items : List Item2) (lines : List Line) (w : ℕ) (line : StepLine) (old new : CoreView E R S) (now : ℕ) (kept : Kept eval terms given h0 items lines old now)
    → IsTold new.store → new.store.disk.counter.arms.stopped ≡ false → Leaves kept.queue (step_lines terms.answer w line) new.store.disk.counter.arms → HitsTold terms.answer old.store.disk.counter new.store.disk.counter w line → AcknowledgesWhereTold new.store.disk.told given new.store.history (lines ++ step_lines terms.answer w line)
    → Follows terms (MayBe eval old) now (MayBe eval new) now (Item2.Step w) (step_lines terms.answer w line) → Kept eval terms given h0 (items ++ Item2.Step w ∷ []) (lines ++ step_lines terms.answer w line) new now
kept_step eval terms given h0 items lines w line old new now kept told running leaves hits acknowledges follows =
    kept_next eval terms given h0 items lines (step_lines terms.answer w line) (Item2.Step w) old new now now kept leaves.0 told running leaves.1 leaves.2
    (entered_more items lines (step_lines terms.answer w line) (Item2.Step w) old.store.disk.counter.arms new.store.disk.counter.arms hits.0 kept.entered hits.1 hits.2 refl)
    acknowledges follows

-- ---- a step that a stop cut off, and the restart

lost_first : {R : Type 0} (i : ℕ) (d : Doing R) (ds : List (Doing R)) → ((j : ℕ) → faults (filter_map lost_line (enumerate_from j ds)) ≡ 0) → faults (filter_map lost_line (enumerate_from i (d ∷ ds))) ≡ 0
lost_first i Free ds more = more (i + 1)
lost_first i (Waiting q cs) ds more = (let none = more (i + 1) in omega (arith, none))
lost_first i (Asking a) ds more = (let none = more (i + 1) in omega (arith, none))
lost_first i (Computed a x d) ds more = (let none = more (i + 1) in omega (arith, none))

lost_faultless : {R : Type 0} (i : ℕ) (ds : List (Doing R)) → faults (filter_map lost_line (enumerate_from i ds)) ≡ 0
lost_faultless i [] = refl
lost_faultless i (d ∷ ds) = lost_first i d ds (λ j. lost_faultless j ds)

opening_faults : (os : List Opening) (t n : ℕ) → faults (map opening_line os ++ Line.Restart t n ∷ []) ≡ length os
opening_faults [] t n = refl
opening_faults (Stops ∷ os) t n = (let more = opening_faults os t n in omega (arith, more))
opening_faults (Faults ∷ os) t n = (let more = opening_faults os t n in omega (arith, more))

restart_faults : {R : Type 0} (m : Moment R) (os : List Opening) (h : History) → faults (restart_lines (lost_lines m) os h) ≡ 1 + length os
restart_faults m os h =
    let behind = map opening_line os ++ Line.Restart (last h) (length h.transactions) ∷ [] in
    let grouped : restart_lines (lost_lines m) os h ≡ Line.Stop ∷ (lost_lines m ++ behind) = ap (λ ls. Line.Stop ∷ ls) (append_assoc (lost_lines m) (map opening_line os) (Line.Restart (last h) (length h.transactions) ∷ [])) in
    let parts : faults (lost_lines m ++ behind) ≡ faults (lost_lines m) + faults behind = faults-append (lost_lines m) behind in
    let none : faults (lost_lines m) ≡ 0 = lost_faultless 0 m.workers in
    let each : faults behind ≡ length os = opening_faults os (last h) (length h.transactions) in
    ap faults grouped ∙ omega (arith, parts, none, each)

restart_hits : (old mid new : Arms) (os : List Opening) → old.stopped ≡ false → (old.queue ≡ [] → ⊥) → mid ≡ hit old → OpeningsOf (resumed mid) os new → HitsMore (1 + length os) old new
restart_hits old mid new os runs some first openings =
    let behind = hits_openings (resumed mid) new os refl openings in
    let from_mid : HitsMore (length os) mid new = record { same = behind.same; count = behind.count } in
    hits_then 1 (length os) old mid new (hits_one old mid runs some first) from_mid

restart_acknowledges : (disk : Option Told) (given : List ℕ) (h : History) (lines lost : List Line) (os : List Opening) → IsHistory h → BeginsAnew disk h → AcknowledgesWhereTold disk given h (lines ++ restart_lines lost os h)
restart_acknowledges disk given h lines lost os is anew = λ told at. keeps_restart anew.0 given told h lines (Line.Stop ∷ (lost ++ map opening_line os)) (length h.transactions) is anew.1 (anew.2 told at)

pub kept_restart : {E R S : Type 0} (eval : Eval R) (terms : Terms R) (given : List ℕ) (h0 : History) (items : List Item2) (lines : List Line) (w : ℕ) (line : StepLine) (old mid new : CoreView E R S) (now : ℕ) (openings : List Opening) (kept : Kept eval terms given h0 items lines old now)
    → Follows terms (MayBe eval old) now (MayBe eval mid) now (Item2.Step w) (step_lines terms.answer w line) → is_plain (step_lines terms.answer w line) ≡ false
    → IsTold new.store → new.store.disk.counter.arms.stopped ≡ false → (old.store.disk.counter.arms.queue ≡ [] → ⊥) → mid.store.disk.counter.arms ≡ hit old.store.disk.counter.arms → mid.store.disk.counter.arms.stopped ≡ true → OpeningsOf (resumed mid.store.disk.counter.arms) openings new.store.disk.counter.arms
    → Reopens mid.store new.store → IsAtRest eval new → new.store.undecided ≡ None → IsHistory new.store.history → BeginsAnew new.store.disk.told new.store.history
    → Kept eval terms given h0 (items ++ Item2.Step w ∷ []) (lines ++ restart_lines (lost_lines (moment_of eval old.store old.slots)) openings new.store.history) new now
kept_restart {E} {R} {S} eval terms given h0 items lines w line old mid new now openings kept follows fault told running some first stops opened reopens rest decided is anew =
    let m : Moment R = moment_of eval old.store old.slots in
    let h = new.store.history in
    let more = restart_lines (lost_lines m) openings h in
    let grouped : Line.Stop ∷ (lost_lines m ++ (map opening_line openings ++ Line.Restart (last h) (length h.transactions) ∷ [])) ≡ more = ap (λ ls. Line.Stop ∷ ls) (sym (append_assoc (lost_lines m) (map opening_line openings) (Line.Restart (last h) (length h.transactions) ∷ []))) in
    let queued = restart_queued kept.queue old.store.disk.counter.arms mid.store.disk.counter.arms new.store.disk.counter.arms m openings (last h) (length h.transactions) kept.armed kept.running some first stops opened in
    let leaves : Leaves kept.queue more new.store.disk.counter.arms = subst (λ ls. Leaves kept.queue ls new.store.disk.counter.arms) grouped queued in
    kept_next eval terms given h0 items lines more (Item2.Step w) old new now now kept leaves.0 told running leaves.1 leaves.2
    (entered_more items lines more (Item2.Step w) old.store.disk.counter.arms new.store.disk.counter.arms (1 + length openings) kept.entered (restart_hits old.store.disk.counter.arms mid.store.disk.counter.arms new.store.disk.counter.arms openings kept.running some first opened) (restart_faults m openings h) refl)
    (restart_acknowledges new.store.disk.told given h lines (lost_lines m) openings is anew)
    (restart_follows eval terms w now old mid new (step_lines terms.answer w line) (lost_lines m) openings follows fault reopens rest decided refl)

-- ---- the whole report

-- what the run law says
abbrev pub RunLaw : Type 0 → Type 0
RunLaw R = (terms : Terms R) (h0 : History) (trace : List (Place R)) (end : Moment R) → IsLawful terms.eval → IsHistory h0 → Course terms (start terms h0) trace end → IsArmed trace → (e : Explained terms h0 (items_of trace) (report h0 trace end)) × (e.trace ≡ trace) × (e.end ≡ end)

-- The headline: whatever may stand behind the core once the schedule is over, the report that closes with it is explained,
-- stops and faults included, and ends in its history.
pub kept_ended : {E R S : Type 0} (eval : Eval R) (terms : Terms R) (given : List ℕ) (h0 : History) (items : List Item2) (lines : List Line) (core : CoreView E R S) (now : ℕ) → RunLaw R → IsLawful terms.eval → IsHistory h0 → Kept eval terms given h0 items lines core now
    → (may : StoreView) → Possible core.store may
    → (e : Explained terms h0 items (Line.Head ∷ Line.Opened (last h0) (length h0.transactions) ∷ (lines ++ closing (moment_of eval may core.slots)))) × (e.end ≡ clocked (moment_of eval may core.slots) now) × (lines_of e.trace ≡ lines)
kept_ended {E} {R} {S} eval terms given h0 items lines core now law lawful history kept may possible =
    let m : Moment R = moment_of eval may core.slots in
    let end : Moment R = clocked m now in
    let ran = kept.ran m (may, possible, refl) in
    let explained = law terms h0 ran.trace end lawful history ran.course (is_armed terms (start terms h0) end items lines kept.queue ran) in
    let lost = lost_lines end in
    let behind = history_lines end.standing in
    let grouped : lines ++ lost ++ behind ++ Line.End ∷ [] ≡ lines ++ (lost ++ behind ++ Line.End ∷ []) = append_assoc (lines ++ lost) behind (Line.End ∷ []) ∙ append_assoc lines lost (behind ++ Line.End ∷ []) ∙ ap (λ xs. lines ++ xs) (sym (append_assoc lost behind (Line.End ∷ []))) in
    let first : List Line → List Line = (λ xs. Line.Head ∷ Line.Opened (last h0) (length h0.transactions) ∷ xs) in
    let all : report h0 ran.trace end ≡ first (lines ++ closing m) = ap first (ap (λ xs. xs ++ lost ++ behind ++ Line.End ∷ []) ran.all_lines ∙ grouped) in
    let Ends : List Item2 → List Line → Type 0 = (λ xs r. (e : Explained terms h0 xs r) × (e.end ≡ end) × (lines_of e.trace ≡ lines)) in
    subst (Ends items) all (subst (λ xs. Ends xs (report h0 ran.trace end)) ran.all_items (explained.0, explained.2, ap lines_of explained.1 ∙ ran.all_lines))

pub kept_explained : {E R S : Type 0} (eval : Eval R) (terms : Terms R) (given : List ℕ) (h0 : History) (items : List Item2) (lines : List Line) (core : CoreView E R S) (now : ℕ) → RunLaw R → IsLawful terms.eval → IsHistory h0 → Kept eval terms given h0 items lines core now
    → (may : StoreView) → Possible core.store may
    → (e : Explained terms h0 items (Line.Head ∷ Line.Opened (last h0) (length h0.transactions) ∷ (lines ++ closing (moment_of eval may core.slots)))) × (e.end.standing ≡ may.history) × (lines_of e.trace ≡ lines)
kept_explained {E} {R} {S} eval terms given h0 items lines core now law lawful history kept may possible =
    let e = kept_ended eval terms given h0 items lines core now law lawful history kept may possible in
    (e.0, ap (λ (k : Moment R). k.standing) e.1, e.2)
