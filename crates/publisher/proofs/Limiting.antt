-- What an evaluation comes to over a trail of facts that were taken over.
use Rattle.std.proofs.Common.{ℕ, ◌≡◌, ◌∙◌, ◌==◌, ◌&&◌, refl, sym, ap, arith, Bool, true, false, List, length, sum_by, Option, Some, None, option_map, Result, Ok, Err, nat_lt, if◌then◌else◌}
use Rattle.std.proofs.lemmas.Bool.Decides.{nat_tests}
use Rattle.zbase.specs.History.{Value}
use Rattle.zbase.specs.Query.{Halt, Need, Cause, go_on, or_else, run}
use Rattle.zbase.specs.QueryLaws.{or_else_goes, run_goes, run_passes, worded}
use Rattle.zobject.specs.declared.object.Object.{Object}
use Rattle.zknown.specs.declared.kept.Kept.{Kept}
use Rattle.zknown.specs.Seen.{Seen, objects, seen_as}
use Rattle.zcodec.specs.Reading.{read}
use Rattle.evaluator.specs.declared.ask.Ask.{Ask}
use Rattle.evaluator.specs.declared.fact.Fact.{Fact}
use Rattle.evaluator.specs.declared.fact.LogRow.{LogRow}
use Rattle.evaluator.specs.declared.outcome.Outcome.{Outcome}
use Rattle.evaluator.specs.declared.reply.Reply.{Reply}
use Rattle.evaluator.specs.Counting.{asks_more, judged, limits_count}
use Rattle.evaluator.specs.Exec.{IsTrail, most_asks}
use Rattle.evaluator.specs.FactLaws.{trail_once}
use Rattle.evaluator.specs.Facts.{EachOnce, look}
use Rattle.evaluator.specs.Questions.{Made, Reads, Changes, as_ask, most_bytes, objects_of, outcome, size_of_fact}
use Rattle.http_in.specs.declared.message.Message.{Message}
use Rattle.http_in.specs.declared.message.Message.TheVariants.{Whole}
use Rattle.http_in.specs.declared.message.Request.{Request}
use Rattle.zbase.specs.Query.{Told}
use Rattle.evaluator.specs.declared.draft.Draft.{Draft}
use Rattle.evaluator.specs.declared.draft.Entry.{Entry}
use Rattle.http_in.specs.declared.message.Verb.{Verb}
use Rattle.publisher.specs.declared.answer.Answer.{Answer}
use Rattle.publisher.specs.declared.answer.Answer.TheVariants as answer
use Rattle.publisher.specs.declared.halted.Halted.{Halted}
use Rattle.publisher.specs.declared.halted.Halted.TheVariants as halts
use Rattle.publisher.specs.declared.learned.Learned.{Learned}
use Rattle.manage.specs.Calling as calling
use Rattle.manage.specs.declared.refusal.ManageRefusal.{ManageRefusal}
use Rattle.manage.specs.Undoing.{undone}
use Rattle.publisher.specs.Comes.{made_of, over_history_comes, reworded, run_reworded}
use Rattle.publisher.specs.Faults.{Fault, Call, comes_to}
use Rattle.publisher.specs.Halting.{IsRefusal, halted, is_need, outcome_of}
use Rattle.publisher.specs.Keeping.{Holds, Knows, kept_as, kept_fact, kept_value, saturated}
use Rattle.publisher.specs.Replies.{by_verb, done, fault_reply, log_reply, runaway_facts}
use Rattle.publisher.specs.Site.{call_refused, drafted, finished, listed, over_history, rows_told, read_as, request, seen, site, undo_by, undo_made, value_seen}
use Rattle.publisher.specs.SiteLaws.{site_is_lawful}

-- ---- what is known is what the facts show

value_same : (value : Value) → seen_as (λ (o : Object). o) (kept_value value) ≡ value_seen value
unfolding kept_value
value_same None = refl
value_same (Some bytes) = at (read bytes)
  where
    at : (r : Result Object ℕ) → seen_as (λ (o : Object). o) (kept_as r) ≡ read_as r
    at (Ok object) = refl
    at (Err place) = refl

fact_same : (f : Fact) → seen_as (λ (o : Object). o) (kept_fact f) ≡ seen f
unfolding seen
fact_same (Fact.Object o value serial) = value_same value
fact_same (Fact.Transaction t parts) = refl
fact_same (Fact.Log rows) = refl

found_same : (f : Option Fact) → option_map (seen_as (λ (o : Object). o)) (option_map kept_fact f) ≡ option_map seen f
found_same None = refl
found_same (Some f) = ap Some (fact_same f)

pub objects_are : (rows : List (ℕ × Kept)) (facts : List Fact) → Knows rows facts → objects rows ≡ objects_of seen (look facts)
objects_are rows facts knows = λ i o. (ap (option_map (seen_as (λ (o : Object). o))) (knows o) ∙ found_same (look facts (Ask.Object o))) i

-- the evaluation over these facts, from what is known of the objects
pub site_is : (q : Request) (rows : List (ℕ × Kept)) (facts : List Fact) → Knows rows facts → IsTrail (λ known. site (look known) (Whole q)) facts →
    outcome (judged (by_verb q.method runaway_facts) facts (made_of (look facts) q (comes_to rows (request q)))) ≡ site (look facts) (Whole q)
site_is q rows facts knows trail =
    sym (ap outcome (limits_count (by_verb q.method runaway_facts) (over_history q) facts trail
    ∙ ap (judged (by_verb q.method runaway_facts) facts) (over_history_comes (look facts) q
    ∙ ap (λ (k : ℕ → Option (Seen Object)). made_of (look facts) q (as_ask (run k (request q)))) (sym (objects_are rows facts knows)))))

pub site_whole : (q : Request) (learned : Learned) (facts : List Fact) (it : Outcome) → it ≡ outcome (judged (by_verb q.method runaway_facts) facts (made_of (look facts) q (comes_to learned.known (request q)))) → Holds learned facts →
    IsTrail (λ known. site (look known) (Whole q)) facts → it ≡ site (look facts) (Whole q)
site_whole q learned facts it is holds trail = is ∙ site_is q learned.known facts holds.knows trail

-- no ask stands twice in what a message asked for
pub site_once : (m : Message) (facts : List Fact) → IsTrail (λ known. site (look known) m) facts → EachOnce facts
site_once m facts trail = trail_once site m facts site_is_lawful trail

-- ---- the limits, as the code counts them

over_so : (n : ℕ) → nat_lt most_bytes (saturated n) ≡ nat_lt most_bytes n
over_so n = at (nat_lt most_bytes (saturated n)) (nat_lt most_bytes n) refl refl
  where
    at : (a b : Bool) → nat_lt most_bytes (saturated n) ≡ a → nat_lt most_bytes n ≡ b → a ≡ b
    at true true p q = refl
    at false false p q = refl
    at true false p q = absurd (grind (arith, nat_tests))
    at false true p q = absurd (grind (arith, nat_tests))

judged_over : (runaway : Reply) (facts : List Fact) (r : Result Made (Halt Ask Reply)) → nat_lt most_bytes (sum_by size_of_fact facts) ≡ true → judged runaway facts r ≡ Err (Cause runaway)
judged_over runaway facts r over = ap (λ (b : Bool). if b then Err (Cause runaway) else if asks_more most_asks (length facts) r then Err (Cause runaway) else r) over

judged_within : (runaway : Reply) (facts : List Fact) (r : Result Made (Halt Ask Reply)) → nat_lt most_bytes (sum_by size_of_fact facts) ≡ false → judged runaway facts r ≡ (if asks_more most_asks (length facts) r then Err (Cause runaway) else r)
judged_within runaway facts r within = ap (λ (b : Bool). if b then Err (Cause runaway) else if asks_more most_asks (length facts) r then Err (Cause runaway) else r) within

-- one ask more is needed
more_so : (most asks : ℕ) (r : Result Made (Halt Ask Reply)) → asks_more most asks r ≡ ((asks == most) && is_need (outcome r))
more_so most asks (Ok (Reads x)) = at (asks == most)
  where
    at : (b : Bool) → false ≡ (b && false)
    at true = refl
    at false = refl
more_so most asks (Ok (Changes x d)) = at (asks == most)
  where
    at : (b : Bool) → false ≡ (b && false)
    at true = refl
    at false = refl
more_so most asks (Err (Cause x)) = at (asks == most)
  where
    at : (b : Bool) → false ≡ (b && false)
    at true = refl
    at false = refl
more_so most asks (Err (Need ask)) = at (asks == most)
  where
    at : (b : Bool) → b ≡ (b && true)
    at true = refl
    at false = refl

-- ---- the outcome, by what the code met

pub paged : (known : Ask → Option Fact) (q : Request) (r : Result Answer (Halt Ask Fault)) (x : Reply) → r ≡ Ok (answer.Page x) → Outcome.Answer (by_verb q.method x) ≡ outcome (made_of known q r)
paged known q r x e = sym (ap (λ (s : Result Answer (Halt Ask Fault)). outcome (made_of known q s)) e)

pub changes_to : (known : Ask → Option Fact) (q : Request) (r : Result Answer (Halt Ask Fault)) (x : Reply) (d : Draft) → r ≡ Ok (answer.Change x d) → Outcome.Change (by_verb q.method x) d ≡ outcome (made_of known q r)
changes_to known q r x d e = sym (ap (λ (s : Result Answer (Halt Ask Fault)). outcome (made_of known q s)) e)

-- what an undo or the log comes to
pub undoes_to : (known : Ask → Option Fact) (q : Request) (r : Result Answer (Halt Ask Fault)) (user : List ℕ) (t : ℕ) (it : Outcome) → r ≡ Ok (answer.Undo user t) → it ≡ outcome (run known (undo_by q user t)) → it ≡ outcome (made_of known q r)
undoes_to known q r user t it e is = is ∙ sym (ap (λ (s : Result Answer (Halt Ask Fault)). outcome (made_of known q s)) e)

pub lists_to : (known : Ask → Option Fact) (q : Request) (r : Result Answer (Halt Ask Fault)) (it : Outcome) → r ≡ Ok answer.Log → it ≡ outcome (run known (finished q answer.Log)) → it ≡ outcome (made_of known q r)
lists_to known q r it e is = is ∙ sym (ap (λ (s : Result Answer (Halt Ask Fault)). outcome (made_of known q s)) e)

halted_is : (a b : Halted) → ◌≡◌ {A = Option Halted} (Some a) (Some b) → a ≡ b
halted_is a b e = cc

pub halts_at : (known : Ask → Option Fact) (q : Request) (t : Option (Halt Ask Fault)) (r : Result Answer (Halt Ask Fault)) (h : Halted) → Told t r → halted t ≡ Some h → outcome_of q.method h ≡ outcome (made_of known q r)
halts_at known q None r h told e = absurd (let bad = e in cc)
halts_at known q (Some (Need ask)) r h told e = ap (outcome_of q.method) (sym (halted_is (halts.Need ask) h e)) ∙ sym (ap (λ (s : Result Answer (Halt Ask Fault)). outcome (made_of known q s)) told)
halts_at known q (Some (Cause fault)) r h told e = ap (outcome_of q.method) (sym (halted_is (halts.Refused (fault_reply fault)) h e)) ∙ sym (ap (λ (s : Result Answer (Halt Ask Fault)). outcome (made_of known q s)) told)

-- ---- an undo, by what the code met

pub undone_to : (known : Ask → Option Fact) (q : Request) (user : List ℕ) (t : ℕ) (entries : List Entry) (it : Outcome) → run known (undone t) ≡ Ok entries → it ≡ Outcome.Change (by_verb q.method done) (drafted q user entries) → it ≡ outcome (run known (undo_by q user t))
unfolding undo_by
undone_to known q user t entries it e is =
    is ∙ sym (ap outcome (run_goes known (or_else (call_refused q.method) (undone t)) (undo_made q user) entries (or_else_goes known (call_refused q.method) (undone t) entries e)))

abbrev reword_by : Verb → Halt Ask ManageRefusal → Halt Ask Reply
reword_by verb (Need ask) = Need ask
reword_by verb (Cause c) = Cause (call_refused verb c)

words_by : (verb : Verb) (halt : Halt Ask ManageRefusal) → ◌≡◌ {A = Result (List Entry) (Halt Ask Reply)} (reworded (call_refused verb) (Err halt)) (Err (reword_by verb halt))
words_by verb (Need ask) = refl
words_by verb (Cause c) = refl

stops_by : (known : Ask → Option Fact) (q : Request) (user : List ℕ) (t : ℕ) (halt : Halt Ask ManageRefusal) → run known (undone t) ≡ Err halt → run known (undo_by q user t) ≡ Err (reword_by q.method halt)
unfolding undo_by
stops_by known q user t halt is =
    run_passes known (or_else (call_refused q.method) (undone t)) (undo_made q user) (Some (reword_by q.method halt))
    (run_reworded known (call_refused q.method) (undone t) ∙ ap (reworded (call_refused q.method)) is ∙ words_by q.method halt)

pub not_undone : (known : Ask → Option Fact) (q : Request) (user : List ℕ) (t : ℕ) (cause : ManageRefusal) (it : Outcome) → Told (calling.told cause) (run known (undone t)) → IsRefusal q.method cause it → it ≡ outcome (run known (undo_by q user t))
not_undone known q user t cause it told (h, e, is) = is ∙ at (calling.told cause) refl told e
  where
    at : (halt : Option (Halt Ask ManageRefusal)) → calling.told cause ≡ halt → Told halt (run known (undone t)) → halted (worded Call halt) ≡ Some h → outcome_of q.method h ≡ outcome (run known (undo_by q user t))
    at None is told' e' = absurd (let bad = e' in cc)
    at (Some (Need ask)) is told' e' = ap (outcome_of q.method) (sym (halted_is (halts.Need ask) h e')) ∙ sym (ap outcome (stops_by known q user t (Need ask) told'))
    at (Some (Cause c)) is told' e' = ap (outcome_of q.method) (sym (halted_is (halts.Refused (fault_reply (Call c))) h e')) ∙ sym (ap outcome (stops_by known q user t (Cause c) told'))

pub over_bytes : (learned : Learned) (facts : List Fact) (runaway : Reply) (r : Result Made (Halt Ask Reply)) → nat_lt most_bytes learned.bytes ≡ true → Holds learned facts → Outcome.Answer runaway ≡ outcome (judged runaway facts r)
over_bytes learned facts runaway r over holds =
    sym (ap outcome (judged_over runaway facts r (sym (over_so (sum_by size_of_fact facts)) ∙ ap (nat_lt most_bytes) (sym holds.bytes) ∙ over)))

within_bytes : (learned : Learned) (facts : List Fact) → nat_lt most_bytes learned.bytes ≡ false → Holds learned facts → nat_lt most_bytes (sum_by size_of_fact facts) ≡ false
within_bytes learned facts within holds = sym (over_so (sum_by size_of_fact facts)) ∙ ap (nat_lt most_bytes) (sym holds.bytes) ∙ within

-- whether one ask more is needed
by_asks : (facts : List Fact) (asks : ℕ) (r : Result Made (Halt Ask Reply)) (more : Bool) → length facts ≡ asks → ((asks == most_asks) && is_need (outcome r)) ≡ more → asks_more most_asks (length facts) r ≡ more
by_asks facts asks r more counted is = ap (λ (n : ℕ). asks_more most_asks n r) counted ∙ more_so most_asks asks r ∙ is

pub over_asks : (learned : Learned) (facts : List Fact) (asks : ℕ) (runaway : Reply) (r : Result Made (Halt Ask Reply)) → nat_lt most_bytes learned.bytes ≡ false → ((asks == most_asks) && is_need (outcome r)) ≡ true → Holds learned facts → length facts ≡ asks →
    Outcome.Answer runaway ≡ outcome (judged runaway facts r)
over_asks learned facts asks runaway r within more holds counted =
    sym (ap outcome (judged_within runaway facts r (within_bytes learned facts within holds) ∙ ap (λ (b : Bool). if b then Err (Cause runaway) else r) (by_asks facts asks r true counted more)))

pub within_both : (learned : Learned) (facts : List Fact) (asks : ℕ) (runaway : Reply) (r : Result Made (Halt Ask Reply)) → nat_lt most_bytes learned.bytes ≡ false → ((asks == most_asks) && is_need (outcome r)) ≡ false → Holds learned facts → length facts ≡ asks →
    outcome r ≡ outcome (judged runaway facts r)
within_both learned facts asks runaway r within more holds counted =
    sym (ap outcome (judged_within runaway facts r (within_bytes learned facts within holds) ∙ ap (λ (b : Bool). if b then Err (Cause runaway) else r) (by_asks facts asks r false counted more)))

-- ---- the log, by what the code met

pub needs_log : (facts : List Fact) (q : Request) → None ≡ look facts Ask.Log → Outcome.Need Ask.Log ≡ outcome (run (look facts) (finished q answer.Log))
needs_log facts q e = ap (λ (o : Option Fact). outcome (go_on Ask.Log (λ f. run (look facts) (listed q f)) o)) e

pub lists_rows : (facts : List Fact) (q : Request) (rows : List LogRow) → Some (Fact.Log rows) ≡ look facts Ask.Log → Outcome.Answer (by_verb q.method (log_reply rows)) ≡ outcome (run (look facts) (finished q answer.Log))
lists_rows facts q rows e = ap (λ (o : Option Fact). outcome (go_on Ask.Log (λ f. run (look facts) (listed q f)) o)) e

pub no_log : (facts : List Fact) (q : Request) (f : Fact) (none : List LogRow) → rows_told f ≡ none → Some f ≡ look facts Ask.Log → Outcome.Answer (by_verb q.method (log_reply none)) ≡ outcome (run (look facts) (finished q answer.Log))
no_log facts q f none is e = ap (λ (rows : List LogRow). Outcome.Answer (by_verb q.method (log_reply rows))) (sym is) ∙ ap (λ (o : Option Fact). outcome (go_on Ask.Log (λ f. run (look facts) (listed q f)) o)) e
