-- The library's phrases of the status codes are those of a reply.
use Rattle.std.proofs.Common.{◌≡◌, ℕ, ◌==◌, ◌||◌, Bool, true, false, List, [], ◌∷◌, refl, subst, eqb-true, Option, None, Some, unwrap_or, option_map}
use Rattle.std.specs.List.{list_any, AllByRecursion}
use Rattle.http.specs.StatusCode.{reason_phrase}
use Rattle.evaluator.specs.Change.{statuses}
use Rattle.http_out.specs.Replies.{IsStatus, phrase}

-- what holds of each of a list holds of what is among them
among : (P : ℕ → Type 0) (ns : List ℕ) (n : ℕ) → AllByRecursion P ns → list_any (λ k. k == n) ns ≡ true → P n
among P [] n all found = cc
among P (k ∷ ks) n all found = go (k == n) refl found (among P ks n all.1)
  where
    go : (b : Bool) → (k == n) ≡ b → (b || list_any (λ j. j == n) ks) ≡ true → (list_any (λ j. j == n) ks ≡ true → P n) → P n
    go true same found' deeper = subst P (eqb-true k n same) all.0
    go false other found' deeper = deeper found'

pub is_phrase : (code : ℕ) → IsStatus code → unwrap_or (reason_phrase code) [] ≡ phrase code
is_phrase code is = among (λ n. unwrap_or (reason_phrase n) [] ≡ phrase n) statuses code (refl, (refl, (refl, (refl, (refl, (refl, (refl, (refl, (refl, (refl, (refl, (refl, tt)))))))))))) is

-- what a default stands for, seen through a function
pub unwrap_or-through : {A B : Type 0} (f : A → B) (o : Option A) (d : A) → f (unwrap_or o d) ≡ unwrap_or (option_map f o) (f d)
unwrap_or-through f None d = refl
unwrap_or-through f (Some x) d = refl
