use Rattle.std.proofs.Common.{◌≡◌, ◌+◌, ℕ, Option, Some, Result, Err, IfSome, sym, ap, ◌∙◌, subst, arith}
use Rattle.std.specs.Prelude.{IsErrOf}
use Rattle.std.proofs.lemmas.Result.{err_from_is_err_and}
use Rattle.zdisk.specs.declared.disk.Disk.{Ghosts}
use Rattle.fs_scan.specs.declared.opening.ScanRefusal.{ScanRefusal}
use Rattle.zdisk.specs.Disk.{Told, content}
use Rattle.fs_scan.specs.Ahead.{IsAhead}
use Rattle.fs_scan.specs.Keeping.{KeepsOn}
use Rattle.fs_scan.specs.OnlyReads.{OnlyReads, reads_as, reads_then}
use Rattle.fs_scan.specs.Pacing.{IsPiece}
use Rattle.fs_scan.specs.Stepped.{StepsOn}
use Rattle.fs_scan.specs.Walked.{Course}
use Rattle.fs_scan.proofs.Pacing.{Spent, spent_far, spent_none, spent_on}
use Rattle.fs_scan.proofs.ScanSteps.{keeps_there, scan_breaks, scan_ends, scans_on}
use Rattle.fs_scan.proofs.opening.go_over.Goals as goal

one_refusal : {T : Type 0} (x y : ScanRefusal) → IsErrOf {T = T} (Err x) y → x ≡ y
one_refusal x y e = cc

-- the same refusal, as another call's
same_refusal : {S : Type 0} {D : Ghosts S} {a b : S} {T U : Type 0} (r : Result T ScanRefusal) (e : ScanRefusal) → r ≡ Err e → OnlyReads D a b (IsErrOf {T = U} (Err e) ScanRefusal.Disk) → OnlyReads D a b (IsErrOf r ScanRefusal.Disk)
same_refusal {S} {D} {a} {b} {T} {U} r e is only = reads_as only (λ f. is ∙ ap (λ k. Err k) (one_refusal {T = U} e ScanRefusal.Disk f)) (λ f. ap (λ k. Err k) (one_refusal {T = T} e ScanRefusal.Disk (sym is ∙ f)))

pub returns-in_err-step-clause-only_reads : goal.returns-in_err-step-clause-only_reads
returns-in_err-step-clause-only_reads g c =
    let p = err_from_is_err_and c.from_residual-in_err-step.result c.from_residual-in_err-step.ensures.1 in
    same_refusal c.from_residual-in_err-step.result c.in_err-step.field-0.0 (p.1 ∙ ap (λ k. Err k) p.2) (reads_then c.each.invariant.only (λ none. none) c.in_err-step.ensures.only_reads)

pub step-requires-clause-keeps : goal.step-requires-clause-keeps
step-requires-clause-keeps g c =
    let i = c.each.invariant in
    subst (λ (d : Option Told). IfSome d (λ told. KeepsOn (content told) c.each.walk.kept)) (sym i.only.same) (keeps_there (g.D.Disk.told c.args.disk.now) c.each.tally.at c.each.tally.last c.each.tally.floor c.each.tally.count c.each.walk.kept i.came)

pub step-requires-clause-ahead : goal.step-requires-clause-ahead
step-requires-clause-ahead g c = subst (λ (d : Option Told). IsAhead d c.each.walk.ahead) (sym c.each.invariant.only.same) c.each.invariant.ahead

pub returns-in-Damaged-clause-damaged : goal.returns-in-Damaged-clause-damaged
returns-in-Damaged-clause-damaged g c = λ kind place is.
    let i = c.each.invariant in
    let says = subst (λ (d : Option Told). IfSome d (λ told. StepsOn (content told) c.each.tally.at c.each.walk.last c.each.walk.kept c.step.new.self.kept c.in_ok-step.field-0)) i.only.same c.in_ok-step.ensures.says in
    let k : c.in-Damaged.kind ≡ kind = cc in
    let p : c.each.tally.at ≡ place = cc in
    scan_breaks (g.D.Disk.told c.args.disk.now) c.each.tally.at c.each.tally.last c.each.tally.floor c.each.tally.count c.each.walk.kept c.step.new.self.kept i.came c.in-Damaged.kind kind place (rw (c.in-Damaged.is, i.last) at says) k p

pub each-preserved : goal.each-preserved
each-preserved g c =
    let i = c.each.invariant in
    let s = c.in_ok-step.ensures in
    let e = c.in-Right.extent in
    let b = c.behind-tally.ensures in
    let says = subst (λ (d : Option Told). IfSome d (λ told. StepsOn (content told) c.each.tally.at c.each.walk.last c.each.walk.kept c.step.new.self.kept c.in_ok-step.field-0)) i.only.same s.says in
    let goes = rw c.in-Right.is at s.goes in
    record {
      came = scans_on (g.D.Disk.told c.args.disk.now) c.each.tally.at c.each.tally.last c.each.tally.floor c.each.tally.count c.each.walk.kept c.step.new.self.kept i.came e _ _ _ _ (rw (c.in-Right.is, i.last) at says) b.at b.last b.floor b.count;
      ahead = subst (λ (d : Option Told). IsAhead d c.step.new.self.ahead) i.only.same s.ahead;
      length = i.length;
      here = ap (λ (course : Course). course.place) goes.there ∙ ap Some (sym b.at);
      last = ap (λ (course : Course). course.last) goes.there ∙ rw i.last (sym b.last);
      within = omega (arith, b.at, goes.fits.ends);
      piece = subst (λ (n : ℕ). IsPiece c.args.len n c.step.new.self.ahead) (sym b.at) (rw c.in-Right.is at (s.piece i.piece i.within));
      spent = subst (λ (n : ℕ). Spent (g.D.Disk.told c.args.disk.now) n c.step.new.self.ahead.from ((g.D.Disk.counter c.args.disk.now).calls + 1) (g.D.Disk.counter c.step.new.disk).calls) (sym b.at)
          (spent_on (g.D.Disk.told c.args.disk.now) (g.D.Disk.told c.each.disk) c.each.tally.at (c.each.tally.at + (e.long + 8)) c.each.walk.ahead.from c.step.new.self.ahead.from _ _ _ i.only.same i.spent (rw c.in-Right.is at (s.spends i.piece i.within)));
      few = b.few;
      only = reads_then i.only (λ none. none) (reads_as s.only_reads (λ e. cc) (λ none. absurd none));
    }

pub returns-in-End-clause-reached : goal.returns-in-End-clause-reached
returns-in-End-clause-reached g c =
    let i = c.each.invariant in
    let says = subst (λ (d : Option Told). IfSome d (λ told. StepsOn (content told) c.each.tally.at c.each.walk.last c.each.walk.kept c.step.new.self.kept c.in_ok-step.field-0)) i.only.same c.in_ok-step.ensures.says in
    scan_ends (g.D.Disk.told c.args.disk.now) c.each.tally.at c.each.tally.last c.each.tally.floor c.each.tally.count c.each.walk.kept c.step.new.self.kept i.came (rw c.in-End.is at says)

pub returns-in_err-enter-clause-spends : goal.returns-in_err-enter-clause-spends
returns-in_err-enter-clause-spends g c = spent_none (g.D.Disk.told c.args.disk.now) c.args.len c.args.len _ _ (omega (arith, c.in_err-enter.ensures.reads))

pub returns-in_err-step-clause-spends : goal.returns-in_err-step-clause-spends
returns-in_err-step-clause-spends g c =
    let i = c.each.invariant in
    let o = g.D.Disk.told c.args.disk.now in
    spent_on o (g.D.Disk.told c.each.disk) c.each.tally.at c.args.len c.each.walk.ahead.from c.args.len _ _ _ i.only.same i.spent (c.in_err-step.ensures.spends i.piece i.within)

pub returns-in-End-clause-spends : goal.returns-in-End-clause-spends
returns-in-End-clause-spends g c =
    let i = c.each.invariant in
    let s = c.in_ok-step.ensures in
    let o = g.D.Disk.told c.args.disk.now in
    let piece : IsPiece c.args.len c.args.len c.step.new.self.ahead = rw c.in-End.is at (s.piece i.piece i.within) in
    spent_far o c.args.len c.step.new.self.ahead.from c.args.len _ _ (spent_on o (g.D.Disk.told c.each.disk) c.each.tally.at c.args.len c.each.walk.ahead.from c.step.new.self.ahead.from _ _ _ i.only.same i.spent (rw c.in-End.is at (s.spends i.piece i.within))) piece.begins

pub returns-in-Damaged-clause-spends : goal.returns-in-Damaged-clause-spends
returns-in-Damaged-clause-spends g c =
    let i = c.each.invariant in
    let s = c.in_ok-step.ensures in
    let o = g.D.Disk.told c.args.disk.now in
    let piece : IsPiece c.args.len c.args.len c.step.new.self.ahead = rw c.in-Damaged.is at (s.piece i.piece i.within) in
    spent_far o c.args.len c.step.new.self.ahead.from c.args.len _ _ (spent_on o (g.D.Disk.told c.each.disk) c.each.tally.at c.args.len c.each.walk.ahead.from c.step.new.self.ahead.from _ _ _ i.only.same i.spent (rw c.in-Damaged.is at (s.spends i.piece i.within))) piece.begins
