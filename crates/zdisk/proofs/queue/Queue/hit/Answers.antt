use Rattle.std.proofs.Common.{◌≡◌, ◌<◌, ◌≤◌, ◌+◌, false, ℕ, List, length, drop, sym, ap, subst, ◌∙◌, arith}
use Rattle.std.proofs.lemmas.List.{drop_all, length-drop}
use Rattle.zbase.specs.declared.faults.Arm.{Arm}
use Rattle.zbase.specs.Faults.{Counter, calls_of_first}
use Rattle.zdisk.proofs.Queues.{first_some}
use Rattle.zdisk.proofs.queue.Queue.hit.Goals as goal

pub invariant_of-self-inside : goal.invariant_of-self-inside
invariant_of-self-inside c =
    let i = c.self.inside in
    let next : c.calls_at-self-inside.result ≡ calls_of_first (drop (i.hits + 1) i.arms.items) = c.calls_at-self-inside.ensures ∙ ap (λ (xs : List Arm). calls_of_first (drop (i.hits + 1) xs)) c.as_slice.ensures.value in
    let within : i.hits + 1 ≤ length i.arms.items = omega (arith, length-drop i.hits i.arms.items, subst (λ (v : Counter). 0 < length v.arms.queue) (sym c.self.view_is) c.requires.some) in
    let runs : i.stopped ≡ false = subst (λ (v : Counter). v.arms.stopped ≡ false) (sym c.self.view_is) c.requires.running in (
      within,
      (
        i.some,
        (
          λ le. next ∙ ap calls_of_first (drop_all (i.hits + 1) i.arms.items le),
          (
            λ lt. subst (λ (n : ℕ). 1 ≤ n) (sym next) (first_some (i.hits + 1) i.arms.items i.some lt),
            (
              λ _. next,
              (
                λ _. omega (arith, i.running runs, c.saturating_add-self-inside.ensures, within, c.self.ranges),
                (
                  (omega (arith, c.saturating_add-self-inside.ensures), i.small.1),
                  tt,
                ),
              ),
            ),
          ),
        ),
      ),
    )
