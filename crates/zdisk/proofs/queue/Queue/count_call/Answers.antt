use Rattle.std.proofs.Common.{◌≡◌, Bool, false, true, drop, take, sym, ap, ◌∙◌, arith}
use Rattle.std.proofs.lemmas.List.{length-drop}
use Rattle.zbase.specs.Faults.{Arms, Counter}
use Rattle.zdisk.specs.Arming.{met}
use Rattle.zdisk.specs.ArmingLaws.{nothing_left}
use Rattle.zdisk.proofs.queue.Queue.count_call.Goals as goal

pub invariant_of-self-inside : goal.invariant_of-self-inside
invariant_of-self-inside c =
    let i = c.self.inside in
    let a : Arms = record { queue = drop i.hits i.arms.items; left = i.left; hits = take i.hits i.arms.items; stopped = i.stopped } in
    let n = nothing_left a (ap (λ (v : Counter). met v.arms) c.self.view_is ∙ sym c.requires ∙ c.in-Nothing.is) in (
      i.within,
      (
        i.some,
        (
          λ le. omega (arith, i.idle le, c.saturating_sub-self-inside.ensures),
          (
            λ lt. omega (arith, n.1 (omega (arith, length-drop i.hits i.arms.items, lt)), c.saturating_sub-self-inside.ensures),
            (
              λ stopped. absurd (clash i.stopped stopped n.0),
              (
                λ running. i.running running,
                (
                  (i.small.0, omega (arith, c.saturating_add-self-inside.ensures)),
                  tt,
                ),
              ),
            ),
          ),
        ),
      ),
    )
  where
    clash : (b : Bool) → b ≡ true → b ≡ false → ⊥
    clash b e f = cc
