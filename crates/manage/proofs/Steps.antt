-- One question after another, where what is needed is an ask of an evaluation.
use Rattle.std.proofs.Common.{ℕ, ◌≡◌, ◌∙◌, refl, sym, ap, subst, Option, Some, None, Result, Ok, Err}
use Rattle.zbase.specs.Query.{Query, Done, ◌>>=◌, run, and_then, Told, Answers, Halt, Need, Cause}
use Rattle.zbase.specs.QueryLaws.{run_then}
use Rattle.evaluator.specs.declared.ask.Ask.{Ask}
use Rattle.evaluator.specs.Questions.{as_ask}
use Rattle.manage.specs.declared.changes.Called.TheVariants as called
use Rattle.manage.specs.declared.changes.Change.{Change}
use Rattle.manage.specs.declared.refusal.ManageRefusal.{ManageRefusal}
use Rattle.manage.specs.declared.refusal.ManageRefusal.TheVariants as refusals
use Rattle.manage.specs.Calling.{told}
use Rattle.manage.specs.Changing.{settled}
use Rattle.manage.specs.Fields.{Checked, Fails, Gives}
use Rattle.manage.specs.Fields as fields

asked_then : {E A B : Type 0} (r : Result A (Halt ℕ E)) (next : A → Result B (Halt ℕ E)) → as_ask (and_then r next) ≡ and_then (as_ask r) (λ x. as_ask (next x))
asked_then (Ok x) next = refl
asked_then (Err (Need o)) next = refl
asked_then (Err (Cause e)) next = refl

run_asked : {R E A B : Type 0} (k : ℕ → Option R) (q : Query ℕ R E A) (f : A → Query ℕ R E B) → as_ask (run k (q >>= f)) ≡ and_then (as_ask (run k q)) (λ x. as_ask (run k (f x)))
run_asked k q f = ap as_ask (run_then k q f) ∙ asked_then (run k q) (λ x. run k (f x))

goes : {R E A B : Type 0} (k : ℕ → Option R) (q : Query ℕ R E A) (f : A → Query ℕ R E B) (x : A) → as_ask (run k q) ≡ Ok x → as_ask (run k (q >>= f)) ≡ as_ask (run k (f x))
goes k q f x e = run_asked k q f ∙ ap (λ r. and_then r (λ y. as_ask (run k (f y)))) e

-- a value goes on to the next question
pub goes_so : {R X A B F : Type 0} (told : F → Option (Halt Ask ManageRefusal)) (view : X → B) (result : Result X F) (k : ℕ → Option R) (q : Query ℕ R ManageRefusal A) (f : A → Query ℕ R ManageRefusal B) (x : A) →
    as_ask (run k q) ≡ Ok x → Answers told view result (as_ask (run k (f x))) → Answers told view result (as_ask (run k (q >>= f)))
goes_so told view result k q f x e a = subst (Answers told view result) (sym (goes k q f x e)) a

-- and what stops the first stops both
pub passes : {R A B : Type 0} (k : ℕ → Option R) (q : Query ℕ R ManageRefusal A) (f : A → Query ℕ R ManageRefusal B) (halt : Option (Halt Ask ManageRefusal)) → Told halt (as_ask (run k q)) → Told halt (as_ask (run k (q >>= f)))
passes k q f None t = tt
passes k q f (Some halt) t = run_asked k q f ∙ ap (λ r. and_then r (λ y. as_ask (run k (f y)))) t

-- a refusal of the first of two tests is that of both
pub stops : {A B : Type 0} (r : Checked A) (f : A → Checked B) (e : ManageRefusal) → Fails e r → Fails e (fields.◌>>=◌ r f)
stops r f refusals.Memory h = tt
stops r f (refusals.Need ask) h = absurd h
stops r f (refusals.Broken o) h = rw h refl
stops r f (refusals.NotFound c) h = rw h refl
stops r f (refusals.Missing field) h = rw h refl
stops r f (refusals.BadField field) h = rw h refl
stops r f (refusals.TooLong field) h = rw h refl
stops r f (refusals.NoSuchId id) h = rw h refl
stops r f (refusals.Taken id) h = rw h refl
stops r f refusals.TooMany h = rw h refl
stops r f (refusals.BadSource refusal) h = rw h refl
stops r f refusals.TooDeep h = rw h refl
stops r f (refusals.NoSuchTransaction t) h = rw h refl
stops r f (refusals.UndoChanged o) h = rw h refl

pub settled_fails : {R A : Type 0} (k : ℕ → Option R) (r : Checked A) (e : ManageRefusal) → Fails e r → Told (told e) (as_ask (run k (settled r)))
settled_fails k r refusals.Memory h = tt
settled_fails k r (refusals.Need ask) h = absurd h
settled_fails k r (refusals.Broken o) h = rw h refl
settled_fails k r (refusals.NotFound c) h = rw h refl
settled_fails k r (refusals.Missing field) h = rw h refl
settled_fails k r (refusals.BadField field) h = rw h refl
settled_fails k r (refusals.TooLong field) h = rw h refl
settled_fails k r (refusals.NoSuchId id) h = rw h refl
settled_fails k r (refusals.Taken id) h = rw h refl
settled_fails k r refusals.TooMany h = rw h refl
settled_fails k r (refusals.BadSource refusal) h = rw h refl
settled_fails k r refusals.TooDeep h = rw h refl
settled_fails k r (refusals.NoSuchTransaction t) h = rw h refl
settled_fails k r (refusals.UndoChanged o) h = rw h refl

-- what a test gives is what its question answers
pub decided : {R A : Type 0} (k : ℕ → Option R) (result : Result A ManageRefusal) (r : Checked A) → Gives (λ x. x) result r → Answers told (λ x. x) result (as_ask (run k (settled r)))
decided k (Ok x) r h = rw h refl
decided k (Err e) r h = settled_fails k r e h

-- a change is what a call comes to that asks no history
pub writes_so : {R : Type 0} (k : ℕ → Option R) (q : Query ℕ R ManageRefusal Change) (x : Change) → as_ask (run k q) ≡ Ok x → as_ask (run k (q >>= λ change. Done (called.Writes change))) ≡ Ok (called.Writes x)
writes_so k q x e = goes k q (λ change. Done (called.Writes change)) x e
