use Rattle.std.proofs.Common.{sym, ap, subst, ◌∙◌}
use Rattle.zdisk.proofs.Following.{calls_called}
use Rattle.zbase.specs.Faults.{Counter, Counts, Makes}
use Rattle.zdisk.specs.Arming.{called_by}
use Rattle.zdisk.specs.ArmingLaws.{IsCounter, called_counts, called_once}
use Rattle.zdisk.specs.Meeting.{IsFault}
use Rattle.zdisk.specs.declared.queue.Met.{Met}
use Rattle.zdisk.proofs.queue.Queue.call.Goals as goal

pub returns-clause-counts : goal.returns-clause-counts
returns-clause-counts c =
    let old = c.args.self.now in
    let n = c.next-meets.ensures in
    let ok : IsCounter old = record { count = n.counted.0; calls = n.counted.1; sound = n.sound; waits = n.waits } in
    let all : Counts old (called_by c.next-meets.result old) (IsFault c.next-meets.result) = subst (λ (m : Met). Counts old (called_by m old) (IsFault m)) (sym n.met) (called_counts old ok) in
    subst (λ (new : Counter). Counts old new (IsFault c.next-meets.result)) (sym c.count_call.ensures) all

pub returns-clause-once : goal.returns-clause-once
returns-clause-once c = λ nothing.
    let old = c.args.self.now in
    let n = c.next-meets.ensures in
    let ok : IsCounter old = record { count = n.counted.0; calls = n.counted.1; sound = n.sound; waits = n.waits } in
    let all : Makes 1 old (called_by c.next-meets.result old) = subst (λ (m : Met). Makes 1 old (called_by m old)) (sym n.met) (called_once old ok (sym n.met ∙ nothing)) in
    subst (λ (new : Counter). Makes 1 old new) (sym c.count_call.ensures) all

pub returns-clause-call : goal.returns-clause-call
returns-clause-call c = ap (λ (v : Counter). v.calls) (c.count_call.ensures ∙ ap (λ (m : Met). called_by m c.args.self.now) c.next-meets.ensures.met) ∙ calls_called c.args.self.now
