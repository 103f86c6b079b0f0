-- What is true of every question.
use Rattle.std.proofs.Common.{◌≡◌, ◌∙◌, refl, ap, Option, Some, None, Result, Ok, Err}
use Rattle.zbase.specs.Query.{Query, Done, Stops, Asks, Halt, Need, Cause, ◌>>=◌, or_else, run, go_on, and_then, Grows, IsDecided, Told}

-- ---- one question, then another

go_on_then : {P R E A B : Type 0} (ask : P) (go : R → Result A (Halt P E)) (next : A → Result B (Halt P E)) (o : Option R) →
    go_on ask (λ answer. and_then (go answer) next) o ≡ and_then (go_on ask go o) next
go_on_then ask go next None = refl
go_on_then ask go next (Some answer) = refl

go_on_same : {P R E A : Type 0} (ask : P) (go other : R → Result A (Halt P E)) → ((answer : R) → go answer ≡ other answer) → (o : Option R) → go_on ask go o ≡ go_on ask other o
go_on_same ask go other same None = refl
go_on_same ask go other same (Some answer) = same answer

-- the run of two questions is the run of the second over the value of the first
pub run_then : {P R E A B : Type 0} (known : P → Option R) (q : Query P R E A) (next : A → Query P R E B) →
    run known (q >>= next) ≡ and_then (run known q) (λ x. run known (next x))
run_then known (Done x) next = refl
run_then known (Stops cause) next = refl
run_then known (Asks ask go) next =
    go_on_same ask _ _ (λ answer. run_then known (go answer) next) (known ask) ∙ go_on_then ask _ _ (known ask)

-- a value goes on to the next question
pub run_goes : {P R E A B : Type 0} (known : P → Option R) (q : Query P R E A) (next : A → Query P R E B) (x : A) → run known q ≡ Ok x → run known (q >>= next) ≡ run known (next x)
run_goes known q next x e = run_then known q next ∙ ap (λ r. and_then r (λ y. run known (next y))) e

-- and what stops the first stops both
pub run_passes : {P R E A B : Type 0} (known : P → Option R) (q : Query P R E A) (next : A → Query P R E B) (halt : Option (Halt P E)) → Told halt (run known q) → Told halt (run known (q >>= next))
run_passes known q next None told = tt
run_passes known q next (Some halt) told = run_then known q next ∙ ap (λ r. and_then r (λ y. run known (next y))) told

-- ---- more is known

more_at : {P R E A : Type 0} (ask : P) (go more : R → Result A (Halt P E)) (o p : Option R) →
    ((answer : R) → o ≡ Some answer → p ≡ Some answer) → ((answer : R) → IsDecided (go answer) → more answer ≡ go answer) →
    IsDecided (go_on ask go o) → go_on ask more p ≡ go_on ask go o
more_at ask go more None p grows same decided = absurd decided
more_at ask go more (Some answer) p grows same decided = ap (go_on ask more) (grows answer refl) ∙ same answer decided

-- what is decided on what is known is decided so where more is known
pub run_more : {P R E A : Type 0} (first later : P → Option R) (q : Query P R E A) → Grows first later → IsDecided (run first q) → run later q ≡ run first q
run_more first later (Done x) grows decided = refl
run_more first later (Stops cause) grows decided = refl
run_more first later (Asks ask go) grows decided =
    more_at ask _ _ (first ask) (later ask) (grows ask) (λ answer d. run_more first later (go answer) grows d) decided

needed_at : {P R E A : Type 0} (known : P → Option R) (ask wanted : P) (go : R → Result A (Halt P E)) (o : Option R) → known ask ≡ o →
    ((answer : R) → go answer ≡ Err (Need wanted) → known wanted ≡ None) → go_on ask go o ≡ Err (Need wanted) → known wanted ≡ None
needed_at known ask wanted go None is deeper e = cc
needed_at known ask wanted go (Some answer) is deeper e = deeper answer e

-- what is needed isn't known
pub run_needs : {P R E A : Type 0} (known : P → Option R) (q : Query P R E A) (wanted : P) → run known q ≡ Err (Need wanted) → known wanted ≡ None
run_needs known (Done x) wanted e = cc
run_needs known (Stops cause) wanted e = cc
run_needs known (Asks ask go) wanted e = needed_at known ask wanted _ (known ask) refl (λ answer d. run_needs known (go answer) wanted d) e

-- ---- causes in other words

abbrev pub worded : {P E F : Type 0} → (E → F) → Option (Halt P E) → Option (Halt P F)
worded reword None = None
worded reword (Some (Need ask)) = Some (Need ask)
worded reword (Some (Cause cause)) = Some (Cause (reword cause))

or_else_goes_at : {P R E F A : Type 0} (ask : P) (go : R → Result A (Halt P E)) (other : R → Result A (Halt P F)) (x : A) → ((answer : R) → go answer ≡ Ok x → other answer ≡ Ok x) → (o : Option R) → go_on ask go o ≡ Ok x → go_on ask other o ≡ Ok x
or_else_goes_at ask go other x same None e = cc
or_else_goes_at ask go other x same (Some answer) e = same answer e

-- a value stays
pub or_else_goes : {P R E F A : Type 0} (known : P → Option R) (reword : E → F) (q : Query P R E A) (x : A) → run known q ≡ Ok x → run known (or_else reword q) ≡ Ok x
or_else_goes known reword (Done y) x e = cc
or_else_goes known reword (Stops cause) x e = cc
or_else_goes known reword (Asks ask go) x e = or_else_goes_at ask _ _ x (λ answer. or_else_goes known reword (go answer) x) (known ask) e

or_else_passes_at : {P R E F A : Type 0} (reword : E → F) (ask : P) (go : R → Result A (Halt P E)) (other : R → Result A (Halt P F)) (halt : Option (Halt P E)) →
    ((answer : R) → Told halt (go answer) → Told (worded reword halt) (other answer)) → (o : Option R) → Told halt (go_on ask go o) → Told (worded reword halt) (go_on ask other o)
or_else_passes_at reword ask go other None same o told = tt
or_else_passes_at reword ask go other (Some (Need p)) same None told = cc
or_else_passes_at reword ask go other (Some (Cause cause)) same None told = cc
or_else_passes_at reword ask go other (Some halt) same (Some answer) told = same answer told

-- and what stops the question stops it in the other words
pub or_else_passes : {P R E F A : Type 0} (known : P → Option R) (reword : E → F) (q : Query P R E A) (halt : Option (Halt P E)) → Told halt (run known q) → Told (worded reword halt) (run known (or_else reword q))
or_else_passes known reword q None told = tt
or_else_passes known reword (Done y) (Some halt) told = cc
or_else_passes known reword (Stops cause) (Some (Need p)) told = cc
or_else_passes known reword (Stops cause) (Some (Cause other)) told = cc
or_else_passes known reword (Asks ask go) (Some halt) told = or_else_passes_at reword ask _ _ (Some halt) (λ answer. or_else_passes known reword (go answer) (Some halt)) (known ask) told
