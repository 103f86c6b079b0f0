-- What a refusal comes to: an ask, or a reply.
use Rattle.std.specs.Prelude.{◌≡◌, Bool, true, false, Option, Some, None}
use Rattle.zbase.specs.Query.{Halt, Need, Cause}
use Rattle.zbase.specs.QueryLaws.{worded}
use Rattle.evaluator.specs.declared.ask.Ask.{Ask}
use Rattle.evaluator.specs.declared.outcome.Outcome.{Outcome}
use Rattle.http_in.specs.declared.message.Verb.{Verb}
use Rattle.publisher.specs.declared.halted.Halted.{Halted}
use Rattle.publisher.specs.declared.halted.Halted.TheVariants as halts
use Rattle.manage.specs.Calling as calling
use Rattle.manage.specs.declared.refusal.ManageRefusal.{ManageRefusal}
use Rattle.publisher.specs.Faults.{Fault, Call}
use Rattle.publisher.specs.Replies.{by_verb, fault_reply}

-- nothing where memory ran out
abbrev pub halted : Option (Halt Ask Fault) → Option Halted
halted None = None
halted (Some (Need ask)) = Some (halts.Need ask)
halted (Some (Cause fault)) = Some (halts.Refused (fault_reply fault))

-- what a message of that method comes to then
abbrev pub outcome_of : Verb → Halted → Outcome
outcome_of verb (halts.Need ask) = Outcome.Need ask
outcome_of verb (halts.Refused x) = Outcome.Answer (by_verb verb x)

abbrev pub is_need : Outcome → Bool
is_need (Outcome.Need ask) = true
is_need (Outcome.Answer x) = false
is_need (Outcome.Change x draft) = false

-- the outcome of a call that is refused, by the method of its message
abbrev pub IsRefusal : Verb → ManageRefusal → Outcome → Type 0
IsRefusal verb cause it = (h : Halted) × (halted (worded Call (calling.told cause)) ≡ Some h) × (it ≡ outcome_of verb h)
