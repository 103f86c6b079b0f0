use Rattle.std.proofs.Common.{map, sym, ◌∙◌, refl, ap}
use Rattle.std.proofs.lemmas.List.Elements.{All-same}
use Rattle.zbase.specs.Faults.{counts_as}
use Rattle.schedule.specs.Moments.{Attempt}
use Rattle.fs_store.specs.Seeing.{IsSeen}
use Rattle.fs_store.specs.Stores.{idle}
use Rattle.connection.specs.States.{ActiveView, AreReads, AreSeen, clashes_of, serial_seen}
use Rattle.connection.proofs.Validating.{comes_unready, comes_whole, ruled, was_refused}
use Rattle.connection.proofs.active.Active.vote.Goals as goal

pub vote-requires-clause-seen : goal.vote-requires-clause-seen
vote-requires-clause-seen g c =
    let read : AreSeen c.args.store.now c.self.inside.reads.items = rw (sym c.self.view_is) at c.requires.reads in
    All-same (IsSeen c.args.store.now) c.as_slice.result.now c.self.inside.reads.items c.as_slice.ensures.value read

pub returns-in-Ok-clause-voted : goal.returns-in-Ok-clause-voted
returns-in-Ok-clause-voted g c =
    let attempt : Attempt g.row.E-Request.Denot = record { request = c.self.inside.request; clashes = clashes_of c.self.inside.conflicts; snapshot = c.self.inside.snapshot; facts = c.self.inside.facts } in
    let reads : AreReads c.as_slice.result.now c.self.inside.facts = ap (map serial_seen) c.as_slice.ensures.value ∙ c.self.invariant.1 in
    let held = c.in-Ok.ensures.held in
    rw (← c.self.view_is, c.voted.ensures) (
      c.in-Some.reply,
      c.in-Some.draft,
      sym c.take.ensures.value ∙ c.in-Some.is,
      record {
        attempt = refl;
        reply = refl;
        none = c.in-Ok.ensures.free.0;
        held = (held.0.0, held.0.1, c.in-Ok.ensures.holder held.0.0 held.0.1, held.0.2, held.1);
        settles = c.in-Ok.ensures.settled;
        free = λ told. ruled (idle c.vote.new.self) attempt c.in-Some.draft c.as_slice.result.now _ reads (c.in-Ok.ensures.free.1 told);
        tid = c.in-Ok.ensures.tid;
        out = c.in-Ok.ensures.out;
      },
    )

pub returns-in-Err-default-Some-clause-refused : goal.returns-in-Err-default-Some-clause-refused
returns-in-Err-default-Some-clause-refused g c =
    let attempt : Attempt g.row.E-Request.Denot = record { request = c.self.inside.request; clashes = clashes_of c.self.inside.conflicts; snapshot = c.self.inside.snapshot; facts = c.self.inside.facts } in
    let before : ActiveView g.row.E-Request.Denot = record { attempt = attempt; reads = c.self.inside.reads.items; ready = c.self.inside.ready } in
    let reads : AreReads c.as_slice.result.now c.self.inside.facts = ap (map serial_seen) c.as_slice.ensures.value ∙ c.self.invariant.1 in
    let ready = sym c.take.ensures.value ∙ c.in-Some.is in
    let err = c.in-Err-default-Some.ensures in
    let why = was_refused c.args.store.now c.vote.new.self attempt c.in-Some.draft c.as_slice.result.now c.in-Err-default-Some.refusal reads err.busy err.busy_by err.stands err.lost err.refused in
    let back = comes_whole before c.in-Some.reply c.in-Some.draft c.in-Err-default-Some.draft c.in-Err-default-Some.refusal _ ready c.in-Err-default-Some.field-0-1-is err.back in
    rw (← c.self.view_is) (c.in-Some.reply, c.in-Some.draft, ready, c.refused.ensures.refused c.args.store.now c.vote.new.self before c.in-Some.draft back why)

pub returns-in-Err-default-Some-clause-counts : goal.returns-in-Err-default-Some-clause-counts
returns-in-Err-default-Some-clause-counts g c = counts_as c.in-Err-default-Some.ensures.fault c.refused.ensures.disk.1 c.refused.ensures.disk.0

pub returns-in-Err-default-None-clause-refused : goal.returns-in-Err-default-None-clause-refused
returns-in-Err-default-None-clause-refused g c =
    let attempt : Attempt g.row.E-Request.Denot = record { request = c.self.inside.request; clashes = clashes_of c.self.inside.conflicts; snapshot = c.self.inside.snapshot; facts = c.self.inside.facts } in
    let before : ActiveView g.row.E-Request.Denot = record { attempt = attempt; reads = c.self.inside.reads.items; ready = c.self.inside.ready } in
    let reads : AreReads c.as_slice.result.now c.self.inside.facts = ap (map serial_seen) c.as_slice.ensures.value ∙ c.self.invariant.1 in
    let ready = sym c.take.ensures.value ∙ c.in-Some.is in
    let err = c.in-Err-default-None.ensures in
    let why = was_refused c.args.store.now c.vote.new.self attempt c.in-Some.draft c.as_slice.result.now c.in-Err-default-None.refusal reads err.busy err.busy_by err.stands err.lost err.refused in
    let back = comes_unready before c.in-Some.draft c.in-Err-default-None.refusal _ c.take.new.self c.take.ensures.after c.in-Err-default-None.field-0-1-is err.back in
    rw (← c.self.view_is) (c.in-Some.reply, c.in-Some.draft, ready, c.refused-in-Err-default-None.ensures.refused c.args.store.now c.vote.new.self before c.in-Some.draft back why)
