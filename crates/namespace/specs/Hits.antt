-- What a name leads to, as contracts see it.
use Rattle.std.specs.Prelude.{◌≡◌, List, Option, None, Some, Result, Ok, Err}
use Rattle.evaluator.specs.declared.reply.Shown.{Shown}
use Rattle.namespace.specs.declared.hit.Hit as declared
use Rattle.namespace.specs.declared.hit.Hit.TheVariants as hit
use Rattle.namespace.specs.Locating.{Hit, Found, Children}
use Rattle.namespace.specs.Told.{Begins}

abbrev pub hit_view : declared.Hit → Hit
hit_view (hit.Found v) = Found v
hit_view (hit.Children whole children) = Children whole children.now

abbrev pub hits : Option declared.Hit → Option Hit
hits None = None
hits (Some found) = Some (hit_view found)

-- only a value that was found shows objects; children, and a refusal, leave what was shown as it was
abbrev pub OnlyFinds : {E : Type 0} → List Shown → List Shown → Result (Option declared.Hit) E → Type 0
OnlyFinds former present (Ok (Some (hit.Found v))) = Begins former present
OnlyFinds former present (Ok (Some (hit.Children whole children))) = present ≡ former
OnlyFinds former present (Ok None) = present ≡ former
OnlyFinds former present (Err e) = present ≡ former
