use Rattle.std.proofs.Common.{◌≡◌, ◌∙◌, [], ◌∷◌, sym, ap, append-nil}
use Rattle.evaluator.specs.declared.outcome.Outcome.{Outcome}
use Rattle.evaluator.specs.Facts.{ask_of, look}
use Rattle.evaluator.specs.FactLaws.{trail_push}
use Rattle.schedule.specs.Moments.{Attempt}
use Rattle.connection.specs.States.{AreSeen, clashes_of}
use Rattle.connection.specs.Telling.{keeps_still}
use Rattle.connection.proofs.Asking.{answer_decided, change_decided, has_asked}
use Rattle.connection.proofs.active.Active.turn.Goals as goal

pub invariant_of-self : goal.invariant_of-self
invariant_of-self g c = (rw append-nil at (c.eval.ensures.fits []), c.self.invariant.1, c.self.invariant.2, c.self.invariant.3)

pub invariant_of-self-in-Answer-1 : goal.invariant_of-self-in-Answer-1
invariant_of-self-in-Answer-1 g c = (rw append-nil at (c.eval.ensures.fits []), c.self.invariant.1, c.self.invariant.2, c.self.invariant.3)

pub invariant_of-self-in-Change : goal.invariant_of-self-in-Change
invariant_of-self-in-Change g c = (rw append-nil at (c.eval.ensures.fits []), c.self.invariant.1, c.self.invariant.2, c.self.invariant.3)

pub invariant_of-self-in-Ok-learn : goal.invariant_of-self-in-Ok-learn
invariant_of-self-in-Ok-learn g c =
    let given = g.E.Evaluator.meaning in
    let learns = c.in-Ok-learn.ensures.ok in
    let found = learns.0 in
    let wanted : given (look c.self.inside.facts) c.self.inside.request ≡ Outcome.Need (ask_of found) = sym c.in-Ok.ensures.value ∙ c.in-Need.is ∙ ap (λ a. Outcome.Need a) (sym learns.1.0) in
    rw learns.2 (c.eval.ensures.fits (found ∷ []), rw learns.2 at c.learn.ensures.reads, trail_push (λ known. given (look known) c.self.inside.request) c.self.inside.facts found c.self.invariant.2 wanted, c.self.invariant.3)

pub invariant_of-self-in-Err-Disk : goal.invariant_of-self-in-Err-Disk
invariant_of-self-in-Err-Disk g c = rw c.in-Err-Disk.ensures.err (rw append-nil at (c.eval.ensures.fits []), rw c.in-Err-Disk.ensures.err at c.learn.ensures.reads, c.self.invariant.2, c.self.invariant.3)

pub invariant_of-self-in-Err-Memory : goal.invariant_of-self-in-Err-Memory
invariant_of-self-in-Err-Memory g c = rw c.in-Err-Memory.ensures.err (rw append-nil at (c.eval.ensures.fits []), rw c.in-Err-Memory.ensures.err at c.learn.ensures.reads, c.self.invariant.2, c.self.invariant.3)

pub returns-in-Answer-clause-asked : goal.returns-in-Answer-clause-asked
returns-in-Answer-clause-asked g c =
    let given = g.E.Evaluator.meaning in
    let attempt : Attempt g.row.E-Request.Denot = record { request = c.self.inside.request; clashes = clashes_of c.self.inside.conflicts; snapshot = c.self.inside.snapshot; facts = c.self.inside.facts } in
    rw (← c.self.view_is) (has_asked given attempt c.self.invariant.2 (g.met.E.Evaluator.few_asks c.self.inside.facts c.self.inside.request c.self.invariant.2) (answer_decided (given (look c.self.inside.facts) c.self.inside.request) c.in-Answer.reply (sym c.in-Ok.ensures.value ∙ c.in-Answer.is)))

pub returns-in-Change-clause-asked : goal.returns-in-Change-clause-asked
returns-in-Change-clause-asked g c =
    let given = g.E.Evaluator.meaning in
    let attempt : Attempt g.row.E-Request.Denot = record { request = c.self.inside.request; clashes = clashes_of c.self.inside.conflicts; snapshot = c.self.inside.snapshot; facts = c.self.inside.facts } in
    rw (← c.self.view_is) (has_asked given attempt c.self.invariant.2 (g.met.E.Evaluator.few_asks c.self.inside.facts c.self.inside.request c.self.invariant.2) (change_decided (given (look c.self.inside.facts) c.self.inside.request) c.in-Change.reply c.in-Change.draft (sym c.in-Ok.ensures.value ∙ c.in-Change.is)))

pub returns-in-Change-clause-reads : goal.returns-in-Change-clause-reads
returns-in-Change-clause-reads g c =
    let read : AreSeen c.args.store.now c.self.inside.reads.items = rw (sym c.self.view_is) at c.requires.reads in
    read

pub returns-in-Answer-clause-any_moment : goal.returns-in-Answer-clause-any_moment
returns-in-Answer-clause-any_moment g c = keeps_still c.args.store.now c.is_sound.ensures.images

pub returns-in-Change-clause-any_moment : goal.returns-in-Change-clause-any_moment
returns-in-Change-clause-any_moment g c = keeps_still c.args.store.now c.is_sound.ensures.images

pub returns-in_default-clause-any_moment : goal.returns-in_default-clause-any_moment
returns-in_default-clause-any_moment g c = keeps_still c.args.store.now c.is_sound.ensures.images
