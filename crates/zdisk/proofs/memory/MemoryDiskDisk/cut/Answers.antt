use Rattle.std.proofs.Common.{◌≡◌, ◌≤◌, ℕ, min, length, refl, sym, ap, subst, ◌∙◌, take, Some}
use Rattle.zbase.specs.Faults.{Counter}
use Rattle.zdisk.specs.Arming.{called, met}
use Rattle.zdisk.specs.Calls.{Cuts, Follows}
use Rattle.zdisk.specs.Disk.{Told}
use Rattle.zdisk.specs.Effects.{after_change, faults_left, needs}
use Rattle.zdisk.specs.Keeping.{told_in}
use Rattle.zdisk.specs.Meeting.{Answers}
use Rattle.zdisk.specs.declared.queue.Met.{Met}
use Rattle.zdisk.proofs.Following.{answers_counts, answers_once, needs_room, room_left, cut_follows}
use Rattle.zdisk.proofs.memory.MemoryDiskDisk.cut.Goals as goal

pub cut-requires-clause-within : goal.cut-requires-clause-within
cut-requires-clause-within c = c.requires.within (told_in c.args.self.now.file) refl

pub cut-requires-clause-faults : goal.cut-requires-clause-faults
cut-requires-clause-faults c =
    let d = c.args.self.now in
    subst (λ (m : Met). needs m ≤ d.file.faults) (sym c.call-meets.ensures.met) (needs_room d.queue.arms d.file.calls d.file.faults c.requires.room d.room)

pub invariant_of-self : goal.invariant_of-self
invariant_of-self c =
    let d = c.args.self.now in
    let left : c.cut.new.self.faults ≡ faults_left (met d.queue.arms) d.file.faults = c.cut.ensures.faults ∙ ap (λ (m : Met). faults_left m d.file.faults) c.call-meets.ensures.met in
    record { room = subst (λ (q : Counter). min c.cut.new.self.calls (length q.arms.queue) ≤ c.cut.new.self.faults) (sym c.call-meets.ensures.called) (subst (λ (n : ℕ). min c.cut.new.self.calls (length (called d.queue).arms.queue) ≤ n) (sym left) (room_left d.queue d.file.calls c.cut.new.self.calls d.file.faults c.cut.ensures.spare.0 d.room)) }

pub returns-clause-held : goal.returns-clause-held
returns-clause-held c =
    let d = c.args.self.now in
    subst (λ (t : Told). Follows (Some (told_in d.file)) (Some t) (Cuts c.args.to c.answer.result)) (sym c.cut.ensures.told) (cut_follows c.args.to c.call-meets.result (told_in d.file) c.answer.result c.answer.ensures)

pub returns-clause-becomes : goal.returns-clause-becomes
returns-clause-becomes c =
    let d = c.args.self.now in
    ap Some (c.cut.ensures.told ∙ ap (λ (m : Met). after_change (take c.args.to) m (told_in d.file)) c.call-meets.ensures.met)

pub returns-clause-answers : goal.returns-clause-answers
returns-clause-answers c = subst (λ (m : Met). Answers m c.answer.result) c.call-meets.ensures.met c.answer.ensures

pub returns-clause-once : goal.returns-clause-once
returns-clause-once c = answers_once c.args.self.now.queue c.call-meets.new.self c.call-meets.result c.answer.result c.answer.ensures c.call-meets.ensures.once

pub returns-clause-counts : goal.returns-clause-counts
returns-clause-counts c = answers_counts c.args.self.now.queue c.call-meets.new.self c.call-meets.result c.answer.result c.answer.ensures c.call-meets.ensures.counts
