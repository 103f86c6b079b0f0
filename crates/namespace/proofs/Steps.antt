-- What looks come to, one after another.
use Rattle.std.proofs.Common.{ℕ, ◌≡◌, ◌∙◌, sym, ap, subst, List, Option, Some, None, option_map, Result, Ok, Err}
use Rattle.zbase.specs.Query.{run, go_on, or_else, Told, Halt, Cause, ◌>>=◌ as ◌>>>◌}
use Rattle.zbase.specs.QueryLaws.{run_goes, run_passes, or_else_goes}
use Rattle.evaluator.specs.declared.permission.TheConstants.{VIEW}
use Rattle.evaluator.specs.declared.reply.Shown.{Shown}
use Rattle.zobject.specs.declared.object.Object.{Object}
use Rattle.zobject.specs.Shapes.{Shape, shape_of}
use Rattle.zknown.specs.declared.kept.Kept.{Kept}
use Rattle.zknown.specs.declared.kept.Kept.TheVariants as kept
use Rattle.zknown.specs.Seen.{Seen, Shapes, Objects, seen_as, last_added, objects, shapes}
use Rattle.acquisition.specs.Acquiring as acquiring
use Rattle.acquisition.specs.Acquiring.{here, present, upwards, containers, reached}
use Rattle.acquisition.specs.declared.refusal.AqRefusal.{AqRefusal}
use Rattle.acquisition.specs.declared.refusal.AqRefusal.TheVariants as lower
use Rattle.permissions.specs.Roles.{Role}
use Rattle.permissions.specs.Verdicts.{verdict_on}
use Rattle.permissions.specs.declared.who.Who.{Who}
use Rattle.permissions.specs.declared.who.Verdict.TheVariants as verdicts
use Rattle.namespace.specs.Looks.{Looks, Done, Fault, Unauthorized, fault_of, outlined, viewed, through, taken, looked, ◌>>=◌}
use Rattle.namespace.specs.LookLaws.{run_outlined, run_reworded, reworded, veiled_rows, looked_goes, looked_passes}
use Rattle.namespace.specs.Names.{seeing, reaching, viewing}
use Rattle.namespace.specs.Told.{told, of_acquisition, Shows}

-- ---- questions of the layers below

pub outlined_is : {A : Type 0} (rows : List (ℕ × Kept)) (q : Shapes acquiring.Fault A) (x : A) → run (shapes rows) q ≡ Ok x → run (objects rows) (outlined q) ≡ Ok x
outlined_is rows q x e = run_outlined (objects rows) q ∙ ap (λ k. reworded (run k q)) (veiled_rows rows) ∙ ap reworded e

reworded_stops : {A : Type 0} (r : Result A (Halt ℕ acquiring.Fault)) (a : AqRefusal) → Told (acquiring.told a) r → Told (told (of_acquisition a)) (reworded r)
reworded_stops r lower.Memory e = tt
reworded_stops r (lower.Need o) e = ap reworded e
reworded_stops r (lower.Broken o) e = ap reworded e
reworded_stops r lower.TooDeep e = ap reworded e

pub outlined_stops : {A : Type 0} (rows : List (ℕ × Kept)) (q : Shapes acquiring.Fault A) (a : AqRefusal) → Told (acquiring.told a) (run (shapes rows) q) → Told (told (of_acquisition a)) (run (objects rows) (outlined q))
outlined_stops rows q a e =
    subst (Told (told (of_acquisition a))) (sym (run_outlined (objects rows) q ∙ ap (λ k. reworded (run k q)) (veiled_rows rows))) (reworded_stops (run (shapes rows) q) a e)

-- an object that is here is seen as its shape
shape_at : (o : ℕ) (k : ℕ → Option (Seen Object)) (j : ℕ → Option (Seen Shape)) (object : Object) (x : Option Kept) → go_on o (λ seen. run k (present o seen)) (option_map (seen_as (λ object. object)) x) ≡ Ok object → go_on o (λ seen. run j (present o seen)) (option_map (seen_as shape_of) x) ≡ Ok (shape_of object)
shape_at o k j object None e = absurd (let bad = e in cc)
shape_at o k j object (Some (kept.Here other)) e = let same : other ≡ object = cc in ap (λ x. Ok (shape_of x)) same
shape_at o k j object (Some kept.Absent) e = absurd (let bad = e in cc)
shape_at o k j object (Some kept.Unreadable) e = absurd (let bad = e in cc)

pub shape_here : (rows : List (ℕ × Kept)) (o : ℕ) (object : Object) → run (objects rows) (here o) ≡ Ok object → run (shapes rows) (here o) ≡ Ok (shape_of object)
shape_here rows o object e = shape_at o (objects rows) (shapes rows) object (last_added rows o) e

-- where an object isn't here, there is no verdict on it
unseen_stops : (rows : List (ℕ × Kept)) (who : Who) (o permission : ℕ) (halt : Option (Halt ℕ acquiring.Fault)) → Told halt (run (shapes rows) (here o)) → Told halt (run (shapes rows) (verdict_on who o permission))
unfolding verdict_on containers upwards
unseen_stops rows who o permission halt t = run_passes (shapes rows) (containers o) _ halt (run_passes (shapes rows) (here o) _ halt t)

pub viewing_unseen : (rows : List (ℕ × Kept)) (who : Who) (o : ℕ) (a : AqRefusal) (shown : List Shown) → Told (acquiring.told a) (run (shapes rows) (here o)) → Told (told (of_acquisition a)) (looked (objects rows) shown (viewing who o))
viewing_unseen rows who o a shown t = run_passes (objects rows) (outlined (verdict_on who o VIEW)) _ (told (of_acquisition a)) (outlined_stops rows (verdict_on who o VIEW) a (unseen_stops rows who o VIEW (acquiring.told a) t))

-- ---- one question after another

pub shows_so : {X A B E : Type 0} (told : E → Option (Halt ℕ Fault)) (view : X → B) (present : List Shown) (result : Result X E) (k : ℕ → Option (Seen Object)) (q : Objects Fault A) (f : A → Objects Fault (B × List Shown)) (x : A) →
    run k q ≡ Ok x → Shows told view present result (run k (f x)) → Shows told view present result (run k (q >>> f))
shows_so told view present result k q f x e a = subst (Shows told view present result) (sym (run_goes k q f x e)) a

pub passes : {A B : Type 0} (k : ℕ → Option (Seen Object)) (q : Objects Fault A) (f : A → Objects Fault B) (halt : Option (Halt ℕ Fault)) → Told halt (run k q) → Told halt (run k (q >>> f))
passes k q f halt t = run_passes k q f halt t

-- ---- single looks

pub sees : (rows : List (ℕ × Kept)) (o : ℕ) (shape : Shape) (shown : List Shown) → run (shapes rows) (here o) ≡ Ok shape → looked (objects rows) shown (seeing o) ≡ Ok (shape, shown)
sees rows o shape shown e = run_goes (objects rows) (outlined (here o)) _ shape (outlined_is rows (here o) shape e)

pub sees_not : (rows : List (ℕ × Kept)) (o : ℕ) (a : AqRefusal) (shown : List Shown) → Told (acquiring.told a) (run (shapes rows) (here o)) → Told (told (of_acquisition a)) (looked (objects rows) shown (seeing o))
sees_not rows o a shown e = run_passes (objects rows) (outlined (here o)) _ (told (of_acquisition a)) (outlined_stops rows (here o) a e)

pub reaches : (rows : List (ℕ × Kept)) (w : List ℕ) (o : ℕ) (found : List ℕ) (shown : List Shown) → run (shapes rows) (reached w o) ≡ Ok found → looked (objects rows) shown (reaching w o) ≡ Ok (found, shown)
reaches rows w o found shown e = run_goes (objects rows) (outlined (reached w o)) _ found (outlined_is rows (reached w o) found e)

pub reaches_not : (rows : List (ℕ × Kept)) (w : List ℕ) (o : ℕ) (a : AqRefusal) (shown : List Shown) → Told (acquiring.told a) (run (shapes rows) (reached w o)) → Told (told (of_acquisition a)) (looked (objects rows) shown (reaching w o))
reaches_not rows w o a shown e = run_passes (objects rows) (outlined (reached w o)) _ (told (of_acquisition a)) (outlined_stops rows (reached w o) a e)

-- ---- an object that is granted

pub here_is : {A : Type 0} (k : ℕ → Option (Seen Object)) (o : ℕ) (f : Object → Objects Fault A) (object : Object) → run k (here o) ≡ Ok object → run k (or_else fault_of (here o) >>> f) ≡ run k (f object)
here_is k o f object e = run_goes k (or_else fault_of (here o)) f object (or_else_goes k fault_of (here o) object e)

pub here_stops : {A : Type 0} (k : ℕ → Option (Seen Object)) (o : ℕ) (f : Object → Objects Fault A) (a : AqRefusal) → Told (acquiring.told a) (run k (here o)) → Told (told (of_acquisition a)) (run k (or_else fault_of (here o) >>> f))
here_stops k o f a t =
    run_passes k (or_else fault_of (here o)) f (told (of_acquisition a)) (subst (Told (told (of_acquisition a))) (sym (run_reworded k (here o))) (reworded_stops (run k (here o)) a t))

-- a view is granted, and the object is there
pub viewing_is : (k : ℕ → Option (Seen Object)) (who : Who) (o : ℕ) (role : Role) (object : Object) (shown : List Shown) → run k (outlined (verdict_on who o VIEW)) ≡ Ok (verdicts.Granted role) → run k (here o) ≡ Ok object →
    looked k shown (viewing who o) ≡ Ok (object, taken who o role shown)
viewing_is k who o role object shown v h =
    run_goes k (outlined (verdict_on who o VIEW)) (viewed taken who shown o (λ s object. through taken s (Done object))) (verdicts.Granted role) v
    ∙ here_is k o (λ object. through taken (taken who o role shown) (Done object)) object h

pub viewing_stops : (k : ℕ → Option (Seen Object)) (who : Who) (o : ℕ) (role : Role) (a : AqRefusal) (shown : List Shown) → run k (outlined (verdict_on who o VIEW)) ≡ Ok (verdicts.Granted role) → Told (acquiring.told a) (run k (here o)) →
    Told (told (of_acquisition a)) (looked k shown (viewing who o))
viewing_stops k who o role a shown v t =
    subst (Told (told (of_acquisition a))) (sym (run_goes k (outlined (verdict_on who o VIEW)) (viewed taken who shown o (λ s object. through taken s (Done object))) (verdicts.Granted role) v))
    (here_stops k o (λ object. through taken (taken who o role shown) (Done object)) a t)

-- a view that isn't granted
pub viewing_denied : (k : ℕ → Option (Seen Object)) (who : Who) (o permission : ℕ) (shown : List Shown) → run k (outlined (verdict_on who o VIEW)) ≡ Ok (verdicts.Denied permission) →
    looked k shown (viewing who o) ≡ Err (Cause (Unauthorized o VIEW))
viewing_denied k who o permission shown v = run_goes k (outlined (verdict_on who o VIEW)) (viewed taken who shown o (λ s object. through taken s (Done object))) (verdicts.Denied permission) v

-- what is made of a granted view, once the object is shown
pub view_goes : {A : Type 0} (k : ℕ → Option (Seen Object)) (who : Who) (o : ℕ) (role : Role) (object : Object) (shown present : List Shown) (next : Object → Looks A) (x : A) → run k (outlined (verdict_on who o VIEW)) ≡ Ok (verdicts.Granted role) → run k (here o) ≡ Ok object →
    next object ≡ Done x → ((who : Who) → present ≡ taken who o role shown) → looked k shown (viewing who o >>= next) ≡ Ok (x, present)
view_goes k who o role object shown present next x v h made took =
    looked_goes k shown (viewing who o) next (object, taken who o role shown) (viewing_is k who o role object shown v h)
    ∙ ap (λ q. looked k (taken who o role shown) q) made
    ∙ ap (λ s. Ok (x, s)) (sym (took who))

-- ---- looks, one after another

-- a value goes on, with what was shown
pub goes_so : {X A B E : Type 0} (told : E → Option (Halt ℕ Fault)) (view : X → B) (present : List Shown) (result : Result X E) (k : ℕ → Option (Seen Object)) (shown : List Shown) (q : Looks A) (next : A → Looks B) (x : A) (mid : List Shown) →
    looked k shown q ≡ Ok (x, mid) → Shows told view present result (looked k mid (next x)) → Shows told view present result (looked k shown (q >>= next))
goes_so told view present result k shown q next x mid e a = subst (Shows told view present result) (sym (looked_goes k shown q next (x, mid) e)) a

pub goes : {A B : Type 0} (k : ℕ → Option (Seen Object)) (shown : List Shown) (q : Looks A) (next : A → Looks B) (x : A) (mid : List Shown) (r : Result (B × List Shown) (Halt ℕ Fault)) →
    looked k shown q ≡ Ok (x, mid) → looked k mid (next x) ≡ r → looked k shown (q >>= next) ≡ r
goes k shown q next x mid r e f = looked_goes k shown q next (x, mid) e ∙ f

pub goes_told : {A B : Type 0} (k : ℕ → Option (Seen Object)) (shown : List Shown) (q : Looks A) (next : A → Looks B) (halt : Option (Halt ℕ Fault)) (x : A) (mid : List Shown) →
    looked k shown q ≡ Ok (x, mid) → Told halt (looked k mid (next x)) → Told halt (looked k shown (q >>= next))
goes_told k shown q next halt x mid e t = subst (Told halt) (sym (looked_goes k shown q next (x, mid) e)) t

-- what stops the first stops both
pub stops : {A B : Type 0} (k : ℕ → Option (Seen Object)) (shown : List Shown) (q : Looks A) (next : A → Looks B) (halt : Option (Halt ℕ Fault)) → Told halt (looked k shown q) → Told halt (looked k shown (q >>= next))
stops k shown q next halt t = looked_passes k shown q next halt t
