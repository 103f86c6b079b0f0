-- A text that was made is what was written, or its front is.
use Rattle.std.proofs.Common.{◌≡◌, ℕ, List, Option, Result, Ok, Err, ap, subst, ◌∙◌}
use Rattle.std.specs.Prelude.{IfOk, MatchResult, OnOk}
use Rattle.std.specs.Io.KnownBytes.{append_known}
use Rattle.zio.specs.Sinks.{AppendsFront}

pub put_is : {T E U V : Type 0} (r : Result T E) (t : Result U V) (bytes_of : U → List ℕ) (old new : Option (List ℕ)) (x : List ℕ) → OnOk r (MatchResult t (λ l. new ≡ append_known old (bytes_of l)) (λ _. ⊥)) → IfOk t (λ l. bytes_of l ≡ x) → OnOk r (new ≡ append_known old x)
put_is (Err e) t bytes_of old new x put is = tt
put_is (Ok y) (Ok l) bytes_of old new x put is = put ∙ ap (append_known old) is
put_is (Ok y) (Err e) bytes_of old new x put is = absurd put

pub front_is : {U V : Type 0} (t : Result U V) (bytes_of : U → List ℕ) (old new : Option (List ℕ)) (x : List ℕ) → MatchResult t (λ l. AppendsFront old new (bytes_of l)) (λ _. ⊥) → IfOk t (λ l. bytes_of l ≡ x) → AppendsFront old new x
front_is (Ok l) bytes_of old new x put is = subst (AppendsFront old new) is put
front_is (Err e) bytes_of old new x put is = absurd put
