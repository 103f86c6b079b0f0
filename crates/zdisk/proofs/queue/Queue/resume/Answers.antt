use Rattle.std.proofs.Common.{◌≡◌, ◌≤◌, ℕ, List, drop, refl, sym, ap, subst, ◌∙◌, arith}
use Rattle.std.proofs.lemmas.List.{drop_all}
use Rattle.zbase.specs.declared.faults.Arm.{Arm}
use Rattle.zbase.specs.Faults.{calls_of_first}
use Rattle.zdisk.proofs.Queues.{first_some}
use Rattle.zdisk.proofs.queue.Queue.resume.Goals as goal

pub invariant_of-self-inside : goal.invariant_of-self-inside
invariant_of-self-inside c =
    let i = c.self.inside in
    let next : c.calls_at-self-inside.result ≡ calls_of_first (drop i.hits i.arms.items) = c.calls_at-self-inside.ensures ∙ ap (λ (xs : List Arm). calls_of_first (drop i.hits xs)) c.as_slice.ensures.value in (
      i.within,
      (
        i.some,
        (
          λ le. next ∙ ap calls_of_first (drop_all i.hits i.arms.items le),
          (
            λ lt. subst (λ (n : ℕ). 1 ≤ n) (sym next) (first_some i.hits i.arms.items i.some lt),
            (
              λ _. next,
              (
                λ _. refl,
                (
                  (omega (arith, i.within, i.arms.ok, i.arms.small), i.small.1),
                  tt,
                ),
              ),
            ),
          ),
        ),
      ),
    )
