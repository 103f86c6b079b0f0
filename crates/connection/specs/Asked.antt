-- What an attempt that is decided has asked for.
use Rattle.std.specs.Prelude.{◌≡◌, map}
use Rattle.zbase.specs.History.{History}
use Rattle.evaluator.specs.Exec.{Eval}
use Rattle.evaluator.specs.Facts.{TrueOf, ask_of}
use Rattle.schedule.specs.Asks.{asks_at}
use Rattle.schedule.specs.Moments.{Attempt}
use Rattle.connection.specs.declared.turned.Turned.{Turned}

-- The facts of an attempt answer the asks of its evaluation, whatever the history that gave them.
abbrev pub HasAsked : {R : Type 0} → Eval R → Attempt R → Type 0
HasAsked eval a = (h : History) → TrueOf a.facts h → map ask_of a.facts ≡ asks_at eval h a.request

-- an attempt that is decided has asked for all that its evaluation asks for
abbrev pub Asked : {E R S : Type 0} → Eval R → Attempt R → Turned E R S → Type 0
Asked eval a (Turned.Fetched new ask) = Unit {0}
Asked eval a (Turned.Answered x t) = HasAsked eval a
Asked eval a (Turned.Ready new) = HasAsked eval a
