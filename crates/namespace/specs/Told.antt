-- What a refusal tells.
use Rattle.std.specs.Prelude.{ℕ, ◌≡◌, ◌++◌, List, Option, None, Some, Result, Ok, Err}
use Rattle.evaluator.specs.declared.reply.Shown.{Shown}
use Rattle.zbase.specs.Query.{Halt, Need, Cause, Told}
use Rattle.acquisition.specs.declared.refusal.AqRefusal.{AqRefusal}
use Rattle.acquisition.specs.declared.refusal.AqRefusal.TheVariants as lower
use Rattle.namespace.specs.declared.refusal.NameRefusal.{NameRefusal}
use Rattle.namespace.specs.declared.refusal.NameRefusal.TheVariants as refusal
use Rattle.namespace.specs.Looks.{Fault, Broken, TooDeep, Unauthorized}

abbrev pub of_acquisition : AqRefusal → NameRefusal
of_acquisition lower.Memory = refusal.Memory
of_acquisition (lower.Need o) = refusal.Need o
of_acquisition (lower.Broken o) = refusal.Broken o
of_acquisition lower.TooDeep = refusal.TooDeep

-- nothing where memory ran out
abbrev pub told : NameRefusal → Option (Halt ℕ Fault)
told refusal.Memory = None
told (refusal.Need o) = Some (Need o)
told (refusal.Broken o) = Some (Cause (Broken o))
told (refusal.Unauthorized o permission) = Some (Cause (Unauthorized o permission))
told refusal.TooDeep = Some (Cause TooDeep)

-- What a call answers is what comes of its looks: its result as a value, with the objects that were shown by then, or
-- its refusal as what that one tells.
abbrev pub Shows : {X A E : Type 0} → (E → Option (Halt ℕ Fault)) → (X → A) → List Shown → Result X E → Result (A × List Shown) (Halt ℕ Fault) → Type 0
Shows told view present (Ok x) r = r ≡ Ok (view x, present)
Shows told view present (Err e) r = Told (told e) r

-- the objects that were shown before, and perhaps others behind them
abbrev pub Begins : List Shown → List Shown → Type 0
Begins former present = (rest : List Shown) × (present ≡ former ++ rest)

-- only an answer shows objects; a refusal leaves what was shown as it was
abbrev pub OnlyAnswers : {X E : Type 0} → List Shown → List Shown → Result X E → Type 0
OnlyAnswers former present (Ok x) = Begins former present
OnlyAnswers former present (Err e) = present ≡ former

-- only a hit does
abbrev pub OnlyHits : {X E : Type 0} → List Shown → List Shown → Result (Option X) E → Type 0
OnlyHits former present (Ok (Some x)) = Begins former present
OnlyHits former present (Ok None) = present ≡ former
OnlyHits former present (Err e) = present ≡ former
