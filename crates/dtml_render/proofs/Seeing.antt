-- The shape of an object, as a page sees it.
use Rattle.std.proofs.Common.{ℕ, ◌≡◌, ◌∙◌, sym, ap, subst, List, Result, Ok}
use Rattle.zbase.specs.Query.{run, Told, Halt}
use Rattle.zbase.specs.QueryLaws.{run_goes, run_passes}
use Rattle.evaluator.specs.declared.reply.Shown.{Shown}
use Rattle.zobject.specs.Shapes.{Shape}
use Rattle.zknown.specs.declared.kept.Kept.{Kept}
use Rattle.zknown.specs.Seen.{Shapes, objects, shapes}
use Rattle.acquisition.specs.Acquiring as acquiring
use Rattle.acquisition.specs.Acquiring.{here, reached}
use Rattle.acquisition.specs.declared.refusal.AqRefusal.{AqRefusal}
use Rattle.acquisition.specs.declared.refusal.AqRefusal.TheVariants as lower
use Rattle.namespace.specs.Looks.{looked, outlined}
use Rattle.namespace.specs.LookLaws.{run_outlined, reworded, veiled_rows}
use Rattle.namespace.specs.Names.{reaching, seeing}
use Rattle.namespace.specs.Told.{of_acquisition}
use Rattle.dtml_values.specs.Told.{told, of_name}

outlined_run : {A : Type 0} (rows : List (ℕ × Kept)) (q : Shapes acquiring.Fault A) → run (objects rows) (outlined q) ≡ reworded (run (shapes rows) q)
outlined_run rows q = run_outlined (objects rows) q ∙ ap (λ k. reworded (run k q)) (veiled_rows rows)

pub sees : (rows : List (ℕ × Kept)) (o : ℕ) (shape : Shape) (shown : List Shown) → run (shapes rows) (here o) ≡ Ok shape → looked (objects rows) shown (seeing o) ≡ Ok (shape, shown)
sees rows o shape shown e = run_goes (objects rows) (outlined (here o)) _ shape (outlined_run rows (here o) ∙ ap reworded e)

reworded_stops : {A : Type 0} (r : Result A (Halt ℕ acquiring.Fault)) (a : AqRefusal) → Told (acquiring.told a) r → Told (told (of_name (of_acquisition a))) (reworded r)
reworded_stops r lower.Memory e = tt
reworded_stops r (lower.Need o) e = ap reworded e
reworded_stops r (lower.Broken o) e = ap reworded e
reworded_stops r lower.TooDeep e = ap reworded e

pub sees_not : (rows : List (ℕ × Kept)) (o : ℕ) (a : AqRefusal) (shown : List Shown) → Told (acquiring.told a) (run (shapes rows) (here o)) → Told (told (of_name (of_acquisition a))) (looked (objects rows) shown (seeing o))
sees_not rows o a shown e =
    run_passes (objects rows) (outlined (here o)) _ (told (of_name (of_acquisition a))) (subst (Told (told (of_name (of_acquisition a)))) (sym (outlined_run rows (here o))) (reworded_stops (run (shapes rows) (here o)) a e))

pub reaches : (rows : List (ℕ × Kept)) (w : List ℕ) (o : ℕ) (found : List ℕ) (shown : List Shown) → run (shapes rows) (reached w o) ≡ Ok found → looked (objects rows) shown (reaching w o) ≡ Ok (found, shown)
reaches rows w o found shown e = run_goes (objects rows) (outlined (reached w o)) _ found (outlined_run rows (reached w o) ∙ ap reworded e)

pub reaches_not : (rows : List (ℕ × Kept)) (w : List ℕ) (o : ℕ) (a : AqRefusal) (shown : List Shown) → Told (acquiring.told a) (run (shapes rows) (reached w o)) → Told (told (of_name (of_acquisition a))) (looked (objects rows) shown (reaching w o))
reaches_not rows w o a shown e =
    run_passes (objects rows) (outlined (reached w o)) _ (told (of_name (of_acquisition a))) (subst (Told (told (of_name (of_acquisition a)))) (sym (outlined_run rows (reached w o))) (reworded_stops (run (shapes rows) (reached w o)) a e))
