-- A site's changes keep the rules of a change: each is that of a call, over the objects that facts show.
use Rattle.std.proofs.Common.{ℕ, ◌≤◌, ◌≡◌, ◌∙◌, refl, sym, subst, arith, List, length, Option, Some, None, option_map, Result, Ok, Err}
use Rattle.zbase.specs.Query.{Halt, Need, Cause, run}
use Rattle.zobject.specs.declared.object.Object.{Object}
use Rattle.zknown.specs.Seen.{Seen, Here, Absent}
use Rattle.acquisition.specs.Acquiring.{first}
use Rattle.permissions.specs.declared.who.Who.{Who}
use Rattle.evaluator.specs.declared.ask.Ask.{Ask}
use Rattle.evaluator.specs.declared.draft.Draft.{Draft}
use Rattle.evaluator.specs.declared.draft.Entry.{Entry}
use Rattle.evaluator.specs.declared.fact.Fact.{Fact}
use Rattle.evaluator.specs.declared.outcome.Outcome.{Outcome}
use Rattle.evaluator.specs.declared.reply.Reply.{Reply}
use Rattle.evaluator.specs.Change.{HasKnownValue, IsChange, IsReply, longest_text}
use Rattle.evaluator.specs.Exec.{WasTaken}
use Rattle.evaluator.specs.Facts.{look}
use Rattle.fs_undo.specs.Undo.{Fault as UndoFault, undo}
use Rattle.fs_undo.specs.UndoLaws.{undo_is_change}
use Rattle.http_in.specs.declared.message.Message.{Message}
use Rattle.http_in.specs.declared.message.Message.TheVariants.{Whole, Refused}
use Rattle.http_in.specs.declared.message.Request.{Request}
use Rattle.http_in.specs.Messages.{one_message}
use Rattle.http_in.specs.Paths.{path_text}
use Rattle.http_in.specs.PathSizes.{paths_short}
use Rattle.manage.specs.declared.changes.Called.{Called}
use Rattle.manage.specs.declared.changes.Called.TheVariants as called_as
use Rattle.manage.specs.ChangingLaws.{changes_lawful}
use Rattle.manage.specs.Laws.{KnowsValues}
use Rattle.manage.specs.Undoing.{undo_refusal, undone}
use Rattle.publisher.specs.Access.{GrantsCall, IsGrantedChange, Writes, shown_by}
use Rattle.publisher.specs.Comes.{Tells, facts_tell, reworded, run_reworded}
use Rattle.publisher.specs.Granting.{are_granted}
use Rattle.publisher.specs.Replies.{message_reply}
use Rattle.publisher.specs.Site.{drafted, seen, site, user_name}
use Rattle.publisher.specs.SiteLaws.{change_told}

same_object : (p o : ℕ) → Ask.Object p ≡ Ask.Object o → p ≡ o
same_object p o e = cc

value_at : (known : Ask → Option Fact) (o : ℕ) (object : Object) → Tells known → (found : Option Fact) → known (Ask.Object o) ≡ found → option_map seen found ≡ Some (Here object) → HasKnownValue known o
unfolding seen
value_at known o object tells None is e = absurd (let bad = e in cc)
value_at known o object tells (Some (Fact.Object p (Some bytes) serial)) is e =
    (bytes, serial, subst (λ n. known (Ask.Object o) ≡ Some (Fact.Object n (Some bytes) serial)) (same_object p o (tells (Ask.Object o) (Fact.Object p (Some bytes) serial) is)) is)
value_at known o object tells (Some (Fact.Object p None serial)) is e = absurd (let bad : ◌≡◌ {A = Option (Seen Object)} (Some Absent) (Some (Here object)) = e in cc)
value_at known o object tells (Some (Fact.Transaction t parts)) is e = absurd (let bad : ◌≡◌ {A = Option (Seen Object)} (Some Absent) (Some (Here object)) = e in cc)
value_at known o object tells (Some (Fact.Log rows)) is e = absurd (let bad : ◌≡◌ {A = Option (Seen Object)} (Some Absent) (Some (Here object)) = e in cc)

-- an object that facts show has a value in one of them
shows_values : (known : Ask → Option Fact) → Tells known → KnowsValues known (shown_by known)
shows_values known tells o object e = value_at known o object tells (known (Ask.Object o)) refl e

-- there is room for the path of a message in a description
taken_short : (q : Request) → WasTaken one_message (Whole q) → length (path_text q.path) ≤ longest_text
taken_short q taken = (let short = paths_short taken.0 q taken.1 in omega (arith, short))

undone_is : (known : Ask → Option Fact) (t : ℕ) (entries : List Entry) → run known (undone t) ≡ Ok entries → run known (undo t) ≡ Ok entries
unfolding undone
undone_is known t entries e = at (run known (undo t)) (sym (run_reworded known undo_refusal (undo t)) ∙ e)
  where
    at : (r : Result (List Entry) (Halt Ask UndoFault)) → reworded undo_refusal r ≡ Ok entries → r ≡ Ok entries
    at (Ok es) e' = cc
    at (Err (Need ask)) e' = absurd (let bad = e' in cc)
    at (Err (Cause c)) e' = absurd (let bad = e' in cc)

written_is : (known : Ask → Option Fact) (q : Request) (user : Who) (made : Called) (entries : List Entry) → Tells known → length (path_text q.path) ≤ longest_text → length (user_name user) ≤ longest_text →
    GrantsCall (shown_by known) q user made → Writes known made entries → IsChange known (drafted q (user_name user) entries)
written_is known q user (called_as.Writes c) entries tells short few g is =
    subst (λ es. IsChange known (drafted q (user_name user) es)) (sym is)
    (changes_lawful known (shown_by known) (shows_values known tells) g.call (first g.on) g.fields c g.called (user_name user) (path_text q.path) few short)
written_is known q user (called_as.Undoes t) entries tells short few g is = undo_is_change known tells t entries (user_name user) (path_text q.path) (undone_is known t entries is) few short
written_is known q user called_as.Lists entries tells short few g is = absurd is

granted_is : (known : Ask → Option Fact) (q : Request) (d : Draft) → Tells known → length (path_text q.path) ≤ longest_text → length d.user ≤ longest_text → IsGrantedChange known q d → IsChange known d
granted_is known q d tells short few g =
    subst (IsChange known) (sym g.told) (written_is known q g.user g.made g.entries tells short (subst (λ (d : Draft). length d.user ≤ longest_text) g.told few) g.granted g.writes)

pub site_changes : (facts : List Fact) (m : Message) (x : Reply) (d : Draft) → WasTaken one_message m → site (look facts) m ≡ Outcome.Change x d → IsChange (look facts) d × IsReply x
site_changes facts (Refused cause) x d taken e = absurd (let bad : Outcome.Answer (message_reply cause) ≡ Outcome.Change x d = e in cc)
site_changes facts (Whole q) x d taken e =
    let told = change_told (look facts) (Whole q) x d e in
    (granted_is (look facts) q d (facts_tell facts) (taken_short q taken) told.1 (are_granted (look facts) q x d (facts_tell facts) e), told.0)
