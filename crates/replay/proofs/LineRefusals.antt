-- A refusal of the outside names no line, and is a fault of the sink where it was one.
use Rattle.std.proofs.Common.{◌≡◌, ℕ, Result, Ok, Err, ap, subst, sym, ◌∙◌}
use Rattle.std.specs.Prelude.{IfErr, IsErrOf}
use Rattle.zbase.specs.Faults.{Counter, Counts, counts_as}
use Rattle.zio.specs.declared.refusal.OutsideRefusal.{OutsideRefusal}
use Rattle.replay.specs.declared.refusal.RunRefusal.{RunRefusal}
use Rattle.replay.specs.Refusals.{IsOfItems, IsOfPrinting, of_outside}

pub no_line : {T : Type 0} (r : Result T RunRefusal) (e : RunRefusal) (o : OutsideRefusal) (n : ℕ) → r ≡ Err e → e ≡ of_outside o → IsErrOf r (RunRefusal.BadLine n) → ⊥
no_line r e OutsideRefusal.Failed n p q is = cc
no_line r e OutsideRefusal.Memory n p q is = cc

pub outside_counts : {T U : Type 0} (a b : Counter) (r : Result T OutsideRefusal) (q : Result U RunRefusal) (o : OutsideRefusal) (e : RunRefusal) → r ≡ Err o → q ≡ Err e → e ≡ of_outside o → Counts a b (IsErrOf r OutsideRefusal.Failed) → Counts a b (IsErrOf q RunRefusal.Output)
outside_counts a b r q OutsideRefusal.Failed e was is of counts = counts_as counts (λ _. cc) (λ _. cc)
outside_counts a b r q OutsideRefusal.Memory e was is of counts = counts_as counts (λ f. cc) (λ f. cc)

one_refusal : {T : Type 0} (x y : RunRefusal) → IsErrOf {T = T} (Err x) y → x ≡ y
one_refusal x y is = cc

-- the same refusal, as another call's
pub same_refusal : {T U : Type 0} (a b : Counter) (e : RunRefusal) → Counts a b (IsErrOf {T = T} (Err e) RunRefusal.Output) → Counts a b (IsErrOf {T = U} (Err e) RunRefusal.Output)
same_refusal {T} {U} a b e counts = counts_as counts (λ is. ap (λ k. Err k) (one_refusal {T = T} e RunRefusal.Output is)) (λ is. ap (λ k. Err k) (one_refusal {T = U} e RunRefusal.Output is))

-- a refusal of the sink is one of printing
pub of_printing : (e : RunRefusal) (o : OutsideRefusal) → e ≡ of_outside o → IsOfPrinting e
of_printing e OutsideRefusal.Failed is = subst IsOfPrinting (sym is) tt
of_printing e OutsideRefusal.Memory is = subst IsOfPrinting (sym is) tt

-- and one of items
pub printing_of_items : (e : RunRefusal) → IsOfPrinting e → IsOfItems e
printing_of_items RunRefusal.Output is = tt
printing_of_items RunRefusal.Memory is = tt
printing_of_items (RunRefusal.Damaged kind place) is = absurd is
printing_of_items (RunRefusal.BadLine n) is = absurd is

-- printing is refused for no line
pub printing_no_line : (e : RunRefusal) (n : ℕ) → IsOfPrinting e → e ≡ RunRefusal.BadLine n → ⊥
printing_no_line e n is at = subst IsOfPrinting at is

pub items_of_printing : {T : Type 0} (r : Result T RunRefusal) → IfErr r IsOfPrinting → IfErr r IsOfItems
items_of_printing (Ok x) is = tt
items_of_printing (Err e) is = printing_of_items e is

-- so it names no line
pub printing_names_none : {T : Type 0} (r : Result T RunRefusal) (n : ℕ) → IfErr r IsOfPrinting → IsErrOf r (RunRefusal.BadLine n) → ⊥
printing_names_none (Ok x) n is at = cc
printing_names_none (Err e) n is at = (let same : e ≡ RunRefusal.BadLine n = cc in printing_no_line e n is same)

-- a refusal of the run is handed on
pub run_counts : {T U : Type 0} (a b : Counter) (e was : RunRefusal) (q : Result U RunRefusal) → q ≡ Err e → e ≡ was → Counts a b (IsErrOf {T = T} (Err was) RunRefusal.Output) → Counts a b (IsErrOf q RunRefusal.Output)
run_counts {T} {U} a b e was q is same counts = subst (λ (k : Result U RunRefusal). Counts a b (IsErrOf k RunRefusal.Output)) (sym (is ∙ ap (λ (k : RunRefusal). Err k) same)) (same_refusal {T = T} {U = U} a b was counts)

-- what answered Ok told no fault
pub calm_ok : {T E : Type 0} (a b : Counter) (x : T) (e : E) → Counts a b (IsErrOf {T = T} (Ok x) e) → Counts a b ⊥
calm_ok a b x e counts = counts_as counts (λ is. cc) (λ none. absurd none)

-- the line that is named
pub same_line : {T : Type 0} (r : Result T RunRefusal) (m n : ℕ) → r ≡ Err (RunRefusal.BadLine m) → IsErrOf r (RunRefusal.BadLine n) → n ≡ m
same_line r m n e is = cc

-- and of the line that a refusal names that is handed on
pub handed_line : {T U : Type 0} (e was : RunRefusal) (q : Result U RunRefusal) (n : ℕ) → q ≡ Err e → e ≡ was → IsErrOf q (RunRefusal.BadLine n) → IsErrOf {T = T} (Err was) (RunRefusal.BadLine n)
handed_line e was q n is same at = (let one : was ≡ RunRefusal.BadLine n = cc in ap (λ (k : RunRefusal). Err k) one)
