use Rattle.std.proofs.Common.{◌≡◌, take, sym, ap, subst, ◌∙◌, arith}
use Rattle.zbase.specs.Faults.{Counter}
use Rattle.zbase.specs.declared.faults.Arm.{Arm}
use Rattle.zdisk.specs.Arming.{last_seed}
use Rattle.zdisk.proofs.Queues.{last_of_hits}
use Rattle.zdisk.proofs.queue.Queue.last_seed.Goals as goal

pub returns-in-Some : goal.returns-in-Some
returns-in-Some c =
    let i = c.self.inside in
    let same : c.index.result.now.seed ≡ last_seed (take i.hits i.arms.items) = ap (λ (a : Arm). a.seed) (c.index.ensures) ∙ sym (last_of_hits i.hits c.in-Some.last i.arms.items _ (omega (arith, c.in-Some.ensures)) i.within) in
    subst (λ (v : Counter). c.index.result.now.seed ≡ last_seed v.arms.hits) c.self.view_is same
