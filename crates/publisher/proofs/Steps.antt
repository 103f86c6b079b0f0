-- One question after another, with causes in this crate's words.
use Rattle.std.proofs.Common.{ℕ, ◌≡◌, ◌∙◌, refl, sym, ap, subst, List, Option, Some, None, Result, Ok, Err}
use Rattle.zbase.specs.Query.{◌>>=◌, run, and_then, or_else, Told, Answers, Halt, Need, Cause}
use Rattle.zbase.specs.QueryLaws.{run_then, worded}
use Rattle.zknown.specs.declared.kept.Kept.{Kept}
use Rattle.zknown.specs.Seen.{Shapes, Objects, objects, shapes}
use Rattle.zknown.specs.SeenLaws.{run_over_objects}
use Rattle.evaluator.specs.declared.ask.Ask.{Ask}
use Rattle.evaluator.specs.Questions.{as_ask}
use Rattle.manage.specs.declared.refusal.ManageRefusal.{ManageRefusal}
use Rattle.publisher.specs.Comes.{reworded, run_reworded}
use Rattle.publisher.specs.Faults.{Fault, Call, asking, by_shapes, comes_to}

asked_then : {E A B : Type 0} (r : Result A (Halt ℕ E)) (next : A → Result B (Halt ℕ E)) → as_ask (and_then r next) ≡ and_then (as_ask r) (λ x. as_ask (next x))
asked_then (Ok x) next = refl
asked_then (Err (Need o)) next = refl
asked_then (Err (Cause e)) next = refl

pub comes_then : {E A B : Type 0} (rows : List (ℕ × Kept)) (q : Objects E A) (next : A → Objects E B) → comes_to rows (q >>= next) ≡ and_then (comes_to rows q) (λ x. comes_to rows (next x))
comes_then rows q next = ap as_ask (run_then (objects rows) q next) ∙ asked_then (run (objects rows) q) (λ x. run (objects rows) (next x))

-- a value goes on to the next question
pub goes : {E A B : Type 0} (rows : List (ℕ × Kept)) (q : Objects E A) (next : A → Objects E B) (x : A) → comes_to rows q ≡ Ok x → comes_to rows (q >>= next) ≡ comes_to rows (next x)
goes rows q next x e = comes_then rows q next ∙ ap (λ r. and_then r (λ y. comes_to rows (next y))) e

pub goes_so : {X A B F E : Type 0} (told : F → Option (Halt Ask E)) (view : X → B) (result : Result X F) (rows : List (ℕ × Kept)) (q : Objects E A) (next : A → Objects E B) (x : A) →
    comes_to rows q ≡ Ok x → Answers told view result (comes_to rows (next x)) → Answers told view result (comes_to rows (q >>= next))
goes_so told view result rows q next x e a = subst (Answers told view result) (sym (goes rows q next x e)) a

pub goes_told : {E A B : Type 0} (rows : List (ℕ × Kept)) (q : Objects E A) (next : A → Objects E B) (halt : Option (Halt Ask E)) (x : A) →
    comes_to rows q ≡ Ok x → Told halt (comes_to rows (next x)) → Told halt (comes_to rows (q >>= next))
goes_told rows q next halt x e t = subst (Told halt) (sym (goes rows q next x e)) t

-- and what stops the first stops both
pub passes : {E A B : Type 0} (rows : List (ℕ × Kept)) (q : Objects E A) (next : A → Objects E B) (halt : Option (Halt Ask E)) → Told halt (comes_to rows q) → Told halt (comes_to rows (q >>= next))
passes rows q next None t = tt
passes rows q next (Some halt) t = comes_then rows q next ∙ ap (λ r. and_then r (λ y. comes_to rows (next y))) t

-- ---- causes in other words

asked_reworded : {E F A : Type 0} (reword : E → F) (r : Result A (Halt ℕ E)) → as_ask (reworded reword r) ≡ reworded reword (as_ask r)
asked_reworded reword (Ok x) = refl
asked_reworded reword (Err (Need o)) = refl
asked_reworded reword (Err (Cause e)) = refl

comes_reworded : {E F A : Type 0} (rows : List (ℕ × Kept)) (reword : E → F) (q : Objects E A) → comes_to rows (or_else reword q) ≡ reworded reword (comes_to rows q)
comes_reworded rows reword q = ap as_ask (run_reworded (objects rows) reword q) ∙ asked_reworded reword (run (objects rows) q)

comes_by_shapes : {E A : Type 0} (rows : List (ℕ × Kept)) (reword : E → Fault) (q : Shapes E A) → comes_to rows (by_shapes reword q) ≡ as_ask (reworded reword (run (shapes rows) q))
comes_by_shapes rows reword q = ap as_ask (run_over_objects rows (or_else reword q) ∙ run_reworded (shapes rows) reword q)

asked_ok : {E F A : Type 0} (reword : E → F) (r : Result A (Halt ℕ E)) (x : A) → r ≡ Ok x → as_ask (reworded reword r) ≡ Ok x
asked_ok reword r x e = ap (λ r. as_ask (reworded reword r)) e

asked_told : {E F A : Type 0} (reword : E → F) (r : Result A (Halt ℕ E)) (halt : Option (Halt ℕ E)) → Told halt r → Told (asking (worded reword halt)) (as_ask (reworded reword r))
asked_told reword r None t = tt
asked_told reword r (Some (Need o)) t = ap (λ r. as_ask (reworded reword r)) t
asked_told reword r (Some (Cause e)) t = ap (λ r. as_ask (reworded reword r)) t

-- a question of the layers below over shapes
pub shapes_are : {E A : Type 0} (rows : List (ℕ × Kept)) (reword : E → Fault) (q : Shapes E A) (x : A) → run (shapes rows) q ≡ Ok x → comes_to rows (by_shapes reword q) ≡ Ok x
shapes_are rows reword q x e = comes_by_shapes rows reword q ∙ asked_ok reword (run (shapes rows) q) x e

pub shapes_stop : {E A : Type 0} (rows : List (ℕ × Kept)) (reword : E → Fault) (q : Shapes E A) (halt : Option (Halt ℕ E)) → Told halt (run (shapes rows) q) → Told (asking (worded reword halt)) (comes_to rows (by_shapes reword q))
shapes_stop rows reword q halt t = subst (Told (asking (worded reword halt))) (sym (comes_by_shapes rows reword q)) (asked_told reword (run (shapes rows) q) halt t)

-- ---- calls, whose refusals name asks

reworded_ok : {E F A : Type 0} (reword : E → F) (r : Result A (Halt Ask E)) (x : A) → r ≡ Ok x → reworded reword r ≡ Ok x
reworded_ok reword r x e = ap (reworded reword) e

reworded_told : {E F A : Type 0} (reword : E → F) (r : Result A (Halt Ask E)) (halt : Option (Halt Ask E)) → Told halt r → Told (worded reword halt) (reworded reword r)
reworded_told reword r None t = tt
reworded_told reword r (Some (Need ask)) t = ap (reworded reword) t
reworded_told reword r (Some (Cause e)) t = ap (reworded reword) t

comes_by_calls : {A : Type 0} (rows : List (ℕ × Kept)) (q : Shapes ManageRefusal A) → comes_to rows (by_shapes Call q) ≡ reworded Call (as_ask (run (shapes rows) q))
comes_by_calls rows q = comes_by_shapes rows Call q ∙ asked_reworded Call (run (shapes rows) q)

pub calls_are : {A : Type 0} (rows : List (ℕ × Kept)) (q : Shapes ManageRefusal A) (x : A) → as_ask (run (shapes rows) q) ≡ Ok x → comes_to rows (by_shapes Call q) ≡ Ok x
calls_are rows q x e = comes_by_calls rows q ∙ reworded_ok Call (as_ask (run (shapes rows) q)) x e

pub calls_stop : {A : Type 0} (rows : List (ℕ × Kept)) (q : Shapes ManageRefusal A) (halt : Option (Halt Ask ManageRefusal)) → Told halt (as_ask (run (shapes rows) q)) → Told (worded Call halt) (comes_to rows (by_shapes Call q))
calls_stop rows q halt t = subst (Told (worded Call halt)) (sym (comes_by_calls rows q)) (reworded_told Call (as_ask (run (shapes rows) q)) halt t)

pub changes_are : {A : Type 0} (rows : List (ℕ × Kept)) (q : Objects ManageRefusal A) (x : A) → as_ask (run (objects rows) q) ≡ Ok x → comes_to rows (or_else Call q) ≡ Ok x
changes_are rows q x e = comes_reworded rows Call q ∙ reworded_ok Call (as_ask (run (objects rows) q)) x e

pub changes_stop : {A : Type 0} (rows : List (ℕ × Kept)) (q : Objects ManageRefusal A) (halt : Option (Halt Ask ManageRefusal)) → Told halt (as_ask (run (objects rows) q)) → Told (worded Call halt) (comes_to rows (or_else Call q))
changes_stop rows q halt t = subst (Told (worded Call halt)) (sym (comes_reworded rows Call q)) (reworded_told Call (as_ask (run (objects rows) q)) halt t)

-- ---- pages, whose refusals name objects

pub pages_are : {E A : Type 0} (rows : List (ℕ × Kept)) (reword : E → Fault) (q : Objects E A) (x : A) → run (objects rows) q ≡ Ok x → comes_to rows (or_else reword q) ≡ Ok x
pages_are rows reword q x e = ap as_ask (run_reworded (objects rows) reword q) ∙ asked_ok reword (run (objects rows) q) x e

pub pages_stop : {E A : Type 0} (rows : List (ℕ × Kept)) (reword : E → Fault) (q : Objects E A) (halt : Option (Halt ℕ E)) → Told halt (run (objects rows) q) → Told (asking (worded reword halt)) (comes_to rows (or_else reword q))
pages_stop rows reword q halt t = subst (λ r. Told (asking (worded reword halt)) (as_ask r)) (sym (run_reworded (objects rows) reword q)) (asked_told reword (run (objects rows) q) halt t)
