use Rattle.std.proofs.Common.{◌≡◌, [], Err, Result, arith, inl, inr, refl}
use Rattle.zope.specs.declared.refusal.Refusal.{Refusal}
use Rattle.zope.specs.Outside.{OutsideView, outside}
use Rattle.zope.specs.Words.{IsNamed}
use Rattle.words.specs.Views.{view}
use Rattle.zope.proofs.Commands.{no_command}
use Rattle.zope.proofs.Endings.{calm_ends, memory_named, named_by, refused_ends, rose_either}
use Rattle.zope.proofs.top.run.Goals as goal

pub run_command-requires : goal.run_command-requires
run_command-requires g c = record { asked = (_, c.in-Ok.ensures.ok) }

pub returns-in-Ok-run_command-clause-ends : goal.returns-in-Ok-run_command-clause-ends
returns-in-Ok-run_command-clause-ends g c = inl (refl, c.in-Ok-run_command.ensures.ok _ c.in-Ok.ensures.ok)

pub returns-in-Ok-run_command-clause-files : goal.returns-in-Ok-run_command-clause-files
returns-in-Ok-run_command-clause-files g c = c.run_command.ensures.files _ c.in-Ok.ensures.ok

pub returns-in-Ok-run_command-clause-alone : goal.returns-in-Ok-run_command-clause-alone
returns-in-Ok-run_command-clause-alone g c = ((λ other. c.run_command.ensures.unasked _ c.in-Ok.ensures.ok other), (λ other more. c.run_command.ensures.untimed _ c.in-Ok.ensures.ok other more), (λ other more. c.run_command.ensures.unread _ c.in-Ok.ensures.ok other more))

pub returns-in-Err-clause-ends : goal.returns-in-Err-clause-ends
returns-in-Err-clause-ends g c =
    let old : OutsideView = outside (g.F.Shelf.files c.args.files.now) (g.F.Shelf.sound_disks c.args.files.now) (g.F.Shelf.lasts c.args.files.now) (g.F.Shelf.counter c.args.files.now) (g.S.Source.left c.args.input.now) (g.S.Source.counter c.args.input.now) (g.K.Sink.written c.args.out.now) (g.K.Sink.counter c.args.out.now) (g.H.Hub.peers c.args.hub.now) (g.H.Hub.listening c.args.hub.now) (g.C.Clock.ticks c.args.clock.now) (g.C.Clock.counter c.args.clock.now) in
    let mid : OutsideView = outside (g.F.Shelf.files c.run_command.new.files) (g.F.Shelf.sound_disks c.run_command.new.files) (g.F.Shelf.lasts c.run_command.new.files) (g.F.Shelf.counter c.run_command.new.files) (g.S.Source.left c.run_command.new.input) (g.S.Source.counter c.run_command.new.input) (g.K.Sink.written c.run_command.new.out) (g.K.Sink.counter c.run_command.new.out) (g.H.Hub.peers c.run_command.new.hub) (g.H.Hub.listening c.run_command.new.hub) (g.C.Clock.ticks c.run_command.new.clock) (g.C.Clock.counter c.run_command.new.clock) in
    let over : IsNamed _ c.in-Err.refusal c.of-name.result.now = (view c.in-Ok.asked, c.in-Ok.ensures.ok, c.of-name.ensures (view c.in-Ok.asked) c.names_of-names.ensures.file c.names_of-names.ensures.new) in
    refused_ends _ old mid (g.K.Sink.written c.refuse.new.out) (g.K.Sink.counter c.refuse.new.out) c.in-Err.refusal _ (c.in-Err.ensures.cause _ c.in-Ok.ensures.ok) c.in-Err.ensures.counts.later c.refuse.ensures.count c.refuse.ensures.sink
    (named_by _ c.of-name.result.now mid (g.K.Sink.written c.refuse.new.out) (g.K.Sink.counter c.refuse.new.out) c.in-Err.refusal _ (inl over) c.refuse.ensures.named)

same_refusal : {T : Type 0} (a b : Refusal) → (let r : Result T Refusal = Err a in r) ≡ Err b → a ≡ b
same_refusal a b e = cc

pub returns-in-Err-clause-sink_failed : goal.returns-in-Err-clause-sink_failed
returns-in-Err-clause-sink_failed g c rose =
    elim (rose_either (g.K.Sink.counter c.args.out.now).count (g.K.Sink.counter c.run_command.new.out).count (g.K.Sink.counter c.refuse.new.out).count rose) [
      | inl early ↦ c.refuse.ensures.sink (same_refusal c.in-Err.refusal Refusal.Output (c.in-Err.ensures.counts.told early))
      | inr late ↦ c.refuse.ensures.sink_failed late
    ]

pub returns-in-Err-clause-complete : goal.returns-in-Err-clause-complete
returns-in-Err-clause-complete g c =
    let old : OutsideView = outside (g.F.Shelf.files c.args.files.now) (g.F.Shelf.sound_disks c.args.files.now) (g.F.Shelf.lasts c.args.files.now) (g.F.Shelf.counter c.args.files.now) (g.S.Source.left c.args.input.now) (g.S.Source.counter c.args.input.now) (g.K.Sink.written c.args.out.now) (g.K.Sink.counter c.args.out.now) (g.H.Hub.peers c.args.hub.now) (g.H.Hub.listening c.args.hub.now) (g.C.Clock.ticks c.args.clock.now) (g.C.Clock.counter c.args.clock.now) in
    let mid : OutsideView = outside (g.F.Shelf.files c.run_command.new.files) (g.F.Shelf.sound_disks c.run_command.new.files) (g.F.Shelf.lasts c.run_command.new.files) (g.F.Shelf.counter c.run_command.new.files) (g.S.Source.left c.run_command.new.input) (g.S.Source.counter c.run_command.new.input) (g.K.Sink.written c.run_command.new.out) (g.K.Sink.counter c.run_command.new.out) (g.H.Hub.peers c.run_command.new.hub) (g.H.Hub.listening c.run_command.new.hub) (g.C.Clock.ticks c.run_command.new.clock) (g.C.Clock.counter c.run_command.new.clock) in
    let over : IsNamed _ c.in-Err.refusal c.of-name.result.now = (view c.in-Ok.asked, c.in-Ok.ensures.ok, c.of-name.ensures (view c.in-Ok.asked) c.names_of-names.ensures.file c.names_of-names.ensures.new) in
    calm_ends _ old mid (g.K.Sink.written c.refuse.new.out) (g.K.Sink.counter c.refuse.new.out) c.in-Err.refusal _ (record { schedule = c.one_schedule.ensures; line = c.one_bad_line.ensures.not_both; opening = c.one_opening.ensures.not_both; index = c.one_index.ensures; row = c.one_bad_line-2.ensures.not_both }) (c.in-Err.ensures.cause _ c.in-Ok.ensures.ok) c.in-Err.ensures.counts.later c.refuse.ensures.count
    (named_by _ c.of-name.result.now mid (g.K.Sink.written c.refuse.new.out) (g.K.Sink.counter c.refuse.new.out) c.in-Err.refusal _ (inl over) c.refuse.ensures.named)

pub returns-in-Err-clause-files : goal.returns-in-Err-clause-files
returns-in-Err-clause-files g c = c.run_command.ensures.files _ c.in-Ok.ensures.ok

pub returns-in-Err-clause-alone : goal.returns-in-Err-clause-alone
returns-in-Err-clause-alone g c = ((λ other. c.run_command.ensures.unasked _ c.in-Ok.ensures.ok other), (λ other more. c.run_command.ensures.untimed _ c.in-Ok.ensures.ok other more), (λ other more. c.run_command.ensures.unread _ c.in-Ok.ensures.ok other more))

pub returns-in-Err-Usage-clause-ends : goal.returns-in-Err-Usage-clause-ends
returns-in-Err-Usage-clause-ends g c =
    let old : OutsideView = outside (g.F.Shelf.files c.args.files.now) (g.F.Shelf.sound_disks c.args.files.now) (g.F.Shelf.lasts c.args.files.now) (g.F.Shelf.counter c.args.files.now) (g.S.Source.left c.args.input.now) (g.S.Source.counter c.args.input.now) (g.K.Sink.written c.args.out.now) (g.K.Sink.counter c.args.out.now) (g.H.Hub.peers c.args.hub.now) (g.H.Hub.listening c.args.hub.now) (g.C.Clock.ticks c.args.clock.now) (g.C.Clock.counter c.args.clock.now) in
    let none = no_command _ (c.in-Err-Usage.ensures.usage (rw c.in-Err-Usage.field-0-is refl)) in
    refused_ends _ old old (g.K.Sink.written c.refuse-in-Err-Usage.new.out) (g.K.Sink.counter c.refuse-in-Err-Usage.new.out) Refusal.Usage _ (inl (none, refl)) (omega arith) c.refuse-in-Err-Usage.ensures.count c.refuse-in-Err-Usage.ensures.sink
    (named_by _ [] old (g.K.Sink.written c.refuse-in-Err-Usage.new.out) (g.K.Sink.counter c.refuse-in-Err-Usage.new.out) Refusal.Usage _ (inr none) c.refuse-in-Err-Usage.ensures.named)

pub returns-in-Err-Usage-clause-complete : goal.returns-in-Err-Usage-clause-complete
returns-in-Err-Usage-clause-complete g c =
    let old : OutsideView = outside (g.F.Shelf.files c.args.files.now) (g.F.Shelf.sound_disks c.args.files.now) (g.F.Shelf.lasts c.args.files.now) (g.F.Shelf.counter c.args.files.now) (g.S.Source.left c.args.input.now) (g.S.Source.counter c.args.input.now) (g.K.Sink.written c.args.out.now) (g.K.Sink.counter c.args.out.now) (g.H.Hub.peers c.args.hub.now) (g.H.Hub.listening c.args.hub.now) (g.C.Clock.ticks c.args.clock.now) (g.C.Clock.counter c.args.clock.now) in
    let none = no_command _ (c.in-Err-Usage.ensures.usage (rw c.in-Err-Usage.field-0-is refl)) in
    calm_ends _ old old (g.K.Sink.written c.refuse-in-Err-Usage.new.out) (g.K.Sink.counter c.refuse-in-Err-Usage.new.out) Refusal.Usage _ (record { schedule = c.one_schedule.ensures; line = c.one_bad_line.ensures.not_both; opening = c.one_opening.ensures.not_both; index = c.one_index.ensures; row = c.one_bad_line-2.ensures.not_both }) (inl (none, refl)) (omega arith) c.refuse-in-Err-Usage.ensures.count
    (named_by _ [] old (g.K.Sink.written c.refuse-in-Err-Usage.new.out) (g.K.Sink.counter c.refuse-in-Err-Usage.new.out) Refusal.Usage _ (inr none) c.refuse-in-Err-Usage.ensures.named)

pub returns-in-Err-Memory-clause-ends : goal.returns-in-Err-Memory-clause-ends
returns-in-Err-Memory-clause-ends g c =
    let old : OutsideView = outside (g.F.Shelf.files c.args.files.now) (g.F.Shelf.sound_disks c.args.files.now) (g.F.Shelf.lasts c.args.files.now) (g.F.Shelf.counter c.args.files.now) (g.S.Source.left c.args.input.now) (g.S.Source.counter c.args.input.now) (g.K.Sink.written c.args.out.now) (g.K.Sink.counter c.args.out.now) (g.H.Hub.peers c.args.hub.now) (g.H.Hub.listening c.args.hub.now) (g.C.Clock.ticks c.args.clock.now) (g.C.Clock.counter c.args.clock.now) in
    refused_ends _ old old (g.K.Sink.written c.refuse-in-Err-Memory.new.out) (g.K.Sink.counter c.refuse-in-Err-Memory.new.out) Refusal.Memory _ (inl (tt, refl)) (omega arith) c.refuse-in-Err-Memory.ensures.count c.refuse-in-Err-Memory.ensures.sink
    (memory_named _ [] old (g.K.Sink.written c.refuse-in-Err-Memory.new.out) (g.K.Sink.counter c.refuse-in-Err-Memory.new.out) _ c.refuse-in-Err-Memory.ensures.named)

pub returns-in-Err-Memory-clause-complete : goal.returns-in-Err-Memory-clause-complete
returns-in-Err-Memory-clause-complete g c =
    let old : OutsideView = outside (g.F.Shelf.files c.args.files.now) (g.F.Shelf.sound_disks c.args.files.now) (g.F.Shelf.lasts c.args.files.now) (g.F.Shelf.counter c.args.files.now) (g.S.Source.left c.args.input.now) (g.S.Source.counter c.args.input.now) (g.K.Sink.written c.args.out.now) (g.K.Sink.counter c.args.out.now) (g.H.Hub.peers c.args.hub.now) (g.H.Hub.listening c.args.hub.now) (g.C.Clock.ticks c.args.clock.now) (g.C.Clock.counter c.args.clock.now) in
    calm_ends _ old old (g.K.Sink.written c.refuse-in-Err-Memory.new.out) (g.K.Sink.counter c.refuse-in-Err-Memory.new.out) Refusal.Memory _ (record { schedule = c.one_schedule.ensures; line = c.one_bad_line.ensures.not_both; opening = c.one_opening.ensures.not_both; index = c.one_index.ensures; row = c.one_bad_line-2.ensures.not_both }) (inl (tt, refl)) (omega arith) c.refuse-in-Err-Memory.ensures.count
    (memory_named _ [] old (g.K.Sink.written c.refuse-in-Err-Memory.new.out) (g.K.Sink.counter c.refuse-in-Err-Memory.new.out) _ c.refuse-in-Err-Memory.ensures.named)
