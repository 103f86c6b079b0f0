-- Objects that stand once in a list.
use Rattle.std.specs.Prelude.{◌≡◌, nat_eq, false, List, [], ◌∷◌, ◌++◌}
use Rattle.std.specs.List.{list_any}
use Rattle.evaluator.specs.declared.reply.Shown.{Shown}

-- none of them is among those before it
abbrev pub AreOnce : List Shown → List Shown → Type 0
AreOnce former [] = Unit {0}
AreOnce former (x ∷ xs) = (list_any (λ (s : Shown). nat_eq s.oid x.oid) former ≡ false) × AreOnce (former ++ x ∷ []) xs
