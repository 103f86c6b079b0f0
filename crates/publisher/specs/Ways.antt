-- Rules that hold on each way through a question: of each value and each cause that it may come to, as long as what it is
-- answered is right.
use Rattle.std.proofs.Common.{ℕ, zero, suc, ◌+◌, ◌++◌, Bool, true, false, List, [], ◌∷◌, Option, Some, None, Result, Ok, Err, if◌then◌else◌, nat_lt}
use Rattle.zbase.specs.Query.{Query, Done, Stops, Asks, Halt, Need, Cause, ◌>>=◌, or_else, run, go_on}
use Rattle.zobject.specs.declared.object.Object.{Object}
use Rattle.zobject.specs.Shapes.{Shape}
use Rattle.zknown.specs.Seen.{Seen, Shapes, over_objects, shape_seen}
use Rattle.evaluator.specs.declared.fact.Fact.{Fact}
use Rattle.evaluator.specs.declared.reply.Reply.{Reply}
use Rattle.evaluator.specs.Facts.{look}
use Rattle.evaluator.specs.Questions.{Evaluation, Made, counted, limited, met_or, over_facts, size_of_fact}

abbrev pub Any : {A : Type 0} → A → Type 0
Any x = Unit {0}

-- over right answers its causes keep the rule C, and its values the rule V
abbrev pub Keeps : {P R E A : Type 0} → (R → Type 0) → (E → Type 0) → (A → Type 0) → Query P R E A → Type 0
Keeps IsRight C V (Done x) = V x
Keeps IsRight C V (Stops cause) = C cause
Keeps {R = R} IsRight C V (Asks ask go) = (answer : R) → IsRight answer → Keeps IsRight C V (go answer)

-- one question and then another
pub keeps_then : {P R E A B : Type 0} (IsRight : R → Type 0) (C : E → Type 0) (V : A → Type 0) (W : B → Type 0) (q : Query P R E A) (next : A → Query P R E B) →
    Keeps IsRight C V q → ((x : A) → V x → Keeps IsRight C W (next x)) → Keeps IsRight C W (q >>= next)
keeps_then IsRight C V W (Done x) next k each = each x k
keeps_then IsRight C V W (Stops cause) next k each = k
keeps_then IsRight C V W (Asks ask go) next k each = λ answer is. keeps_then IsRight C V W (go answer) next (k answer is) each

-- causes in other words
pub keeps_else : {P R E F A : Type 0} (IsRight : R → Type 0) (C : E → Type 0) (D : F → Type 0) (V : A → Type 0) (reword : E → F) (q : Query P R E A) →
    Keeps IsRight C V q → ((cause : E) → C cause → D (reword cause)) → Keeps IsRight D V (or_else reword q)
keeps_else IsRight C D V reword (Done x) k each = k
keeps_else IsRight C D V reword (Stops cause) k each = each cause k
keeps_else IsRight C D V reword (Asks ask go) k each = λ answer is. keeps_else IsRight C D V reword (go answer) (k answer is) each

-- values whose rule is weaker
pub keeps_more : {P R E A : Type 0} (IsRight : R → Type 0) (C : E → Type 0) (V W : A → Type 0) (q : Query P R E A) → Keeps IsRight C V q → ((x : A) → V x → W x) → Keeps IsRight C W q
keeps_more IsRight C V W (Done x) k each = each x k
keeps_more IsRight C V W (Stops cause) k each = k
keeps_more IsRight C V W (Asks ask go) k each = λ answer is. keeps_more IsRight C V W (go answer) (k answer is) each

-- where nothing is asked of causes and values, each question keeps the rules
pub keeps_any : {P R E A : Type 0} (IsRight : R → Type 0) (q : Query P R E A) → Keeps IsRight (λ cause. Any cause) (λ x. Any x) q
keeps_any IsRight (Done x) = tt
keeps_any IsRight (Stops cause) = tt
keeps_any IsRight (Asks ask go) = λ answer is. keeps_any IsRight (go answer)

-- a question over shapes, put to objects
pub keeps_objects : {E A : Type 0} (IsRight : Seen Shape → Type 0) (IsWhole : Seen Object → Type 0) (C : E → Type 0) (V : A → Type 0) (q : Shapes E A) →
    ((seen : Seen Object) → IsWhole seen → IsRight (shape_seen seen)) → Keeps IsRight C V q → Keeps IsWhole C V (over_objects q)
keeps_objects IsRight IsWhole C V (Done x) shape k = k
keeps_objects IsRight IsWhole C V (Stops cause) shape k = k
keeps_objects IsRight IsWhole C V (Asks o go) shape k = λ seen is. keeps_objects IsRight IsWhole C V (go (shape_seen seen)) shape (k (shape_seen seen) (shape seen is))

-- a question over objects, put to facts that show right ones
pub keeps_facts : {R E A : Type 0} (IsRight : R → Type 0) (C : E → Type 0) (V : A → Type 0) (seen : Fact → R) (q : Query ℕ R E A) →
    ((f : Fact) → IsRight (seen f)) → Keeps IsRight C V q → Keeps (λ (f : Fact). Any f) C V (over_facts seen q)
keeps_facts IsRight C V seen (Done x) right k = k
keeps_facts IsRight C V seen (Stops cause) right k = k
keeps_facts IsRight C V seen (Asks o go) right k = λ f is. keeps_facts IsRight C V seen (go (seen f)) right (k (seen f) (right f))

-- an evaluation within limits
pub keeps_limited : (C : Reply → Type 0) (V : Made → Type 0) (runaway : Reply) (limit : ℕ) (met : List Fact) (left bytes : ℕ) (q : Evaluation) →
    C runaway → Keeps (λ (f : Fact). Any f) C V q → Keeps (λ (f : Fact). Any f) C V (limited runaway limit met left bytes q)
keeps_limited C V runaway limit met left bytes (Done m) r k = k
keeps_limited C V runaway limit met left bytes (Stops x) r k = k
keeps_limited C V runaway limit met left bytes (Asks ask go) r k = at (λ f met left bytes. keeps_limited C V runaway limit met left bytes (go f) r (k f tt)) (look met ask) left
  where
    Deeper : Type 0
    Deeper = (f : Fact) (met : List Fact) (left bytes : ℕ) → Keeps (λ (f : Fact). Any f) C V (limited runaway limit met left bytes (go f))

    cut : Deeper → (n : ℕ) (over : Bool) (f : Fact) → Keeps (λ (f : Fact). Any f) C V (if over then Stops runaway else limited runaway limit (met ++ f ∷ []) n (bytes + size_of_fact f) (go f))
    cut deeper n true f = r
    cut deeper n false f = deeper f (met ++ f ∷ []) n (bytes + size_of_fact f)

    at : Deeper → (o : Option Fact) (left : ℕ) → Keeps (λ (f : Fact). Any f) C V (met_or o (λ f. limited runaway limit met left bytes (go f)) (counted runaway left ask (λ left f. if nat_lt limit (bytes + size_of_fact f) then Stops runaway else limited runaway limit (met ++ f ∷ []) left (bytes + size_of_fact f) (go f))))
    at deeper (Some f) left = deeper f met left bytes
    at deeper None zero = r
    at deeper None (suc n) = λ f is. cut deeper n (nat_lt limit (bytes + size_of_fact f)) f

-- what a question comes to keeps the rules
abbrev pub ComesTo : {P E A : Type 0} → (E → Type 0) → (A → Type 0) → Result A (Halt P E) → Type 0
ComesTo C V (Ok x) = V x
ComesTo C V (Err (Cause cause)) = C cause
ComesTo C V (Err (Need ask)) = Unit {0}

pub keeps_run : {P R E A : Type 0} (C : E → Type 0) (V : A → Type 0) (known : P → Option R) (q : Query P R E A) → Keeps (λ (answer : R). Any answer) C V q → ComesTo C V (run known q)
keeps_run C V known (Done x) k = k
keeps_run C V known (Stops cause) k = k
keeps_run {R = R} C V known (Asks ask go) k = at (λ answer. keeps_run C V known (go answer) (k answer tt)) (known ask)
  where
    at : ((answer : R) → ComesTo C V (run known (go answer))) → (found : Option R) → ComesTo C V (go_on ask (λ answer. run known (go answer)) found)
    at deeper None = tt
    at deeper (Some answer) = deeper answer
