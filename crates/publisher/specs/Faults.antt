-- Why a whole message is answered by a refusal, in the order of an evaluation: its fields, its credentials, its path,
-- its user and the permission that he needs, and its page or call.
use Rattle.std.specs.Prelude.{ℕ, List, Option, Some, None, Result, Ok, Err}
use Rattle.zbase.specs.Query.{Done, Stops, Halt, Need, Cause, or_else, run}
use Rattle.zbase.specs.QueryLaws.{worded}
use Rattle.zknown.specs.declared.kept.Kept.{Kept}
use Rattle.zknown.specs.Seen.{Shapes, Objects, objects, over_objects}
use Rattle.acquisition.specs.Acquiring as acquiring
use Rattle.dtml_values.specs.Told as pages
use Rattle.evaluator.specs.declared.ask.Ask.{Ask}
use Rattle.evaluator.specs.Questions.{as_ask}
use Rattle.manage.specs.Calling as calling
use Rattle.manage.specs.declared.refusal.ManageRefusal.{ManageRefusal}
use Rattle.namespace.specs.Looks as looks
use Rattle.traverse.specs.Publishing as publishing
use Rattle.publisher.specs.declared.refusal.SiteRefusal.{SiteRefusal}
use Rattle.publisher.specs.declared.refusal.SiteRefusal.TheVariants as refusal

pub data Fault : Type 0 where
  -- a field isn't the number that it should be
  NotANumber : List ℕ → Fault
  BadCredentials : Fault
  -- its path leads nowhere
  Path : publishing.Fault → Fault
  -- no user, or no verdict, can be found
  User : acquiring.Fault → Fault
  -- the user isn't granted the permission on the object
  Denied : ℕ → ℕ → Fault
  -- there is no page
  Page : looks.Fault → Fault
  -- the call changes nothing
  Call : ManageRefusal → Fault

-- ---- questions of the layers below

-- a question over shapes, with its causes in these words
abbrev pub by_shapes : {E A : Type 0} → (E → Fault) → Shapes E A → Objects Fault A
by_shapes reword q = over_objects (or_else reword q)

-- a value or a cause, as a question that asks for nothing
abbrev pub or_stops : {E A : Type 0} → (E → Fault) → Result A E → Objects Fault A
or_stops reword (Ok x) = Done x
or_stops reword (Err e) = Stops (reword e)

-- ---- what a question comes to

-- what a question over objects comes to, over rows of what is known; an object that is needed is an ask
abbrev pub comes_to : {E A : Type 0} → List (ℕ × Kept) → Objects E A → Result A (Halt Ask E)
comes_to rows q = as_ask (run (objects rows) q)

-- ---- what code gave

-- an object that is needed, as an ask
abbrev pub asking : {E : Type 0} → Option (Halt ℕ E) → Option (Halt Ask E)
asking None = None
asking (Some (Need o)) = Some (Need (Ask.Object o))
asking (Some (Cause e)) = Some (Cause e)

-- nothing where memory ran out
abbrev pub told : SiteRefusal → Option (Halt Ask Fault)
told refusal.Memory = None
told (refusal.NotANumber name) = Some (Cause (NotANumber name))
told refusal.BadCredentials = Some (Cause BadCredentials)
told (refusal.Path e) = asking (worded Path (publishing.told e))
told (refusal.User e) = asking (worded User (acquiring.told e))
told (refusal.Denied o permission) = Some (Cause (Denied o permission))
told (refusal.Page e) = asking (worded Page (pages.told e))
told (refusal.Call e) = worded Call (calling.told e)
