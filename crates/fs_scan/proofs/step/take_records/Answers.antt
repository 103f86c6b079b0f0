use Rattle.std.proofs.Common.{◌≡◌, ◌∙◌, ◌+◌, ◌++◌, List, Option, IfSome, drop, sym, subst, ◌<◌, arith}
use Rattle.std.specs.List.{All}
use Rattle.zbase.specs.declared.ids.Row.{Row}
use Rattle.zbase.specs.Numbers.{be64}
use Rattle.zdisk.specs.Disk.{Told, content}
use Rattle.fs_scan.specs.declared.extent.Extent.{Extent}
use Rattle.fs_scan.specs.Keeping.{PlacesRise, starts}
use Rattle.fs_scan.specs.Stepped.{RightFits}
use Rattle.fs_scan.proofs.StepsRead.{are_placed, leads, leads_short, leads_wrong, may_add, right_fits}
use Rattle.std.proofs.lemmas.Result.{err_from_is_err_and}
use Rattle.fs_scan.proofs.Pacing.{paces_from, paces_more, piece_on}
use Rattle.fs_scan.proofs.StepsPaced.{paces_err, paces_read}
use Rattle.fs_scan.proofs.step.take_records.Goals as goal

pub returns-in-None-clause-leads : goal.returns-in-None-clause-leads
returns-in-None-clause-leads g c =
    let o = g.D.Disk.told c.args.disk.now in
    let tail = subst (λ (d : Option Told). IfSome d (λ told. drop (c.args.frame.now.place + c.args.frame.now.long) (content told) ≡ be64 c.in_ok-tail.tail ++ drop (c.args.frame.now.place + c.args.frame.now.long + 8) (content told))) c.in_ok-read.ensures.only_reads.same c.in_ok-tail.ensures.tail in
    leads_short o c.args.len c.args.frame.now c.in_ok-tail.tail c.requires.len c.requires.fits c.requires.frame tail c.in_ok-tail.ensures.bound c.requires.read c.args.last c.args.kept.now c.requires.keeps (rw c.in-None.is at c.in_ok-read.ensures.read)

pub returns-in-Some-fault-clause-leads : goal.returns-in-Some-fault-clause-leads
returns-in-Some-fault-clause-leads g c =
    let o = g.D.Disk.told c.args.disk.now in
    let tail = subst (λ (d : Option Told). IfSome d (λ told. drop (c.args.frame.now.place + c.args.frame.now.long) (content told) ≡ be64 c.in_ok-tail.tail ++ drop (c.args.frame.now.place + c.args.frame.now.long + 8) (content told))) c.in_ok-read.ensures.only_reads.same c.in_ok-tail.ensures.tail in
    let read = rw c.new-rows.ensures at (rw c.in-Some.is at c.in_ok-read.ensures.read) in
    leads_wrong o c.args.len c.args.frame.now c.in_ok-tail.tail c.requires.len c.requires.fits c.requires.frame tail c.in_ok-tail.ensures.bound c.requires.read c.args.last c.args.kept.now c.requires.keeps c.read_records.new.rows c.in-Some.marks read c.in-Some-fault.kind (sym c.fault.ensures ∙ c.in-Some-fault.is)

pub add-requires-clause-rise : goal.add-requires-clause-rise
add-requires-clause-rise g c =
    let rise = rw c.new-rows.ensures at (rw c.in-Some.is at c.in_ok-read.ensures.rise) in
    subst (λ (rows : List Row). PlacesRise 0 (c.args.kept.now.places ++ starts rows)) (sym c.as_slice.ensures) (may_add c.args.frame.now c.args.kept.now c.read_records.new.rows c.requires.before rise)

pub add-requires-clause-placed : goal.add-requires-clause-placed
add-requires-clause-placed g c =
    let rise = rw c.new-rows.ensures at (rw c.in-Some.is at c.in_ok-read.ensures.rise) in
    subst (All (λ (row : Row). 0 < row.place)) (sym c.as_slice.ensures) (are_placed c.args.frame.now _ c.read_records.new.rows c.requires.fits rise)

pub returns-clause-leads : goal.returns-clause-leads
returns-clause-leads g c =
    let o = g.D.Disk.told c.args.disk.now in
    let tail = subst (λ (d : Option Told). IfSome d (λ told. drop (c.args.frame.now.place + c.args.frame.now.long) (content told) ≡ be64 c.in_ok-tail.tail ++ drop (c.args.frame.now.place + c.args.frame.now.long + 8) (content told))) c.in_ok-read.ensures.only_reads.same c.in_ok-tail.ensures.tail in
    let read = rw c.new-rows.ensures at (rw c.in-Some.is at c.in_ok-read.ensures.read) in
    let more = rw c.as_slice.ensures at c.in_ok-add-in-None-fault.ensures in
    rw c.with_tail.ensures (leads o c.args.len c.args.frame.now c.in_ok-tail.tail c.requires.len c.requires.fits c.requires.frame tail c.in_ok-tail.ensures.bound c.requires.read c.args.last c.args.kept.now c.requires.keeps c.read_records.new.rows c.in-Some.marks read c.add.new.self (sym c.fault.ensures ∙ c.in-None-fault.is) more)

pub returns-clause-fits : goal.returns-clause-fits
returns-clause-fits g c =
    let rise = rw c.new-rows.ensures at (rw c.in-Some.is at c.in_ok-read.ensures.rise) in
    let more = rw c.as_slice.ensures at c.in_ok-add-in-None-fault.ensures in
    subst (λ (w : Extent). RightFits c.args.len c.args.frame.now.place c.args.last c.add.new.self w) (sym c.with_tail.ensures)
    (right_fits c.args.len c.args.last c.in_ok-tail.tail c.args.frame.now c.args.kept.now c.add.new.self c.read_records.new.rows c.in-Some.marks c.requires.fits c.requires.before rise more (sym c.fault.ensures ∙ c.in-None-fault.is))

pub returns-in_err-read-clause-paces : goal.returns-in_err-read-clause-paces
returns-in_err-read-clause-paces g c = λ p le.
    let o = g.D.Disk.told c.args.disk.now in
    let f = c.args.frame.now in
    let begins = piece_on c.args.len f.place (f.place + f.from) c.args.ahead.now p (omega arith) in
    let e = err_from_is_err_and c.from_residual.result c.from_residual.ensures.1 in
    paces_err o c.args.len f.place (f.place + f.long) c.args.ahead.now c.read_records.new.ahead _ _ c.from_residual.result e.0 e.1 (paces_from o f.place (f.place + f.from) (f.place + f.long) c.args.ahead.now c.read_records.new.ahead _ _ (omega arith) (c.in_err-read.ensures.paces begins)) (omega (arith, c.requires.fits.room, le))

pub returns-in_err-tail-clause-paces : goal.returns-in_err-tail-clause-paces
returns-in_err-tail-clause-paces g c = λ p le.
    let o = g.D.Disk.told c.args.disk.now in
    let f = c.args.frame.now in
    let begins = piece_on c.args.len f.place (f.place + f.from) c.args.ahead.now p (omega arith) in
    let paces = paces_read o f.place f.from f.long c.args.ahead.now c.read_records.new.ahead c.tail_at.new.ahead _ _ _ (c.in_ok-read.ensures.paces begins) (c.in_err-tail.ensures.forward (c.in_ok-read.ensures.piece begins)) in
    let e = err_from_is_err_and c.from_residual-in_err-tail.result c.from_residual-in_err-tail.ensures.1 in
    paces_err o c.args.len f.place (f.place + f.long) c.args.ahead.now c.tail_at.new.ahead _ _ c.from_residual-in_err-tail.result e.0 e.1 paces (omega (arith, c.requires.fits.room, le))

pub returns-in_err-add-in-None-fault-clause-paces : goal.returns-in_err-add-in-None-fault-clause-paces
returns-in_err-add-in-None-fault-clause-paces g c = λ p le.
    let o = g.D.Disk.told c.args.disk.now in
    let f = c.args.frame.now in
    let begins = piece_on c.args.len f.place (f.place + f.from) c.args.ahead.now p (omega arith) in
    let paces = paces_read o f.place f.from f.long c.args.ahead.now c.read_records.new.ahead c.tail_at.new.ahead _ _ _ (c.in_ok-read.ensures.paces begins) (c.in_ok-tail.ensures.forward (c.in_ok-read.ensures.piece begins)) in
    let e = err_from_is_err_and c.from_residual-in_err-add-in-None-fault.result c.from_residual-in_err-add-in-None-fault.ensures.1 in
    paces_err o c.args.len f.place (f.place + f.long) c.args.ahead.now c.tail_at.new.ahead _ _ c.from_residual-in_err-add-in-None-fault.result e.0 e.1 paces (omega (arith, c.requires.fits.room, le))

pub returns-in-None-clause-piece : goal.returns-in-None-clause-piece
returns-in-None-clause-piece g c = λ p le.
    let o = g.D.Disk.told c.args.disk.now in
    let f = c.args.frame.now in
    let begins = piece_on c.args.len f.place (f.place + f.from) c.args.ahead.now p (omega arith) in
    piece_on c.args.len (f.place + f.long) c.args.len c.tail_at.new.ahead (c.in_ok-tail.ensures.piece (c.in_ok-read.ensures.piece begins)) (omega (arith, c.requires.fits.room))

pub returns-in-None-clause-paces : goal.returns-in-None-clause-paces
returns-in-None-clause-paces g c = λ p le.
    let o = g.D.Disk.told c.args.disk.now in
    let f = c.args.frame.now in
    let begins = piece_on c.args.len f.place (f.place + f.from) c.args.ahead.now p (omega arith) in
    let paces = paces_read o f.place f.from f.long c.args.ahead.now c.read_records.new.ahead c.tail_at.new.ahead _ _ _ (c.in_ok-read.ensures.paces begins) (c.in_ok-tail.ensures.forward (c.in_ok-read.ensures.piece begins)) in
    paces_more o f.place (f.place + f.long) c.args.len c.args.ahead.now c.tail_at.new.ahead _ _ paces (omega (arith, c.requires.fits.room, le))

pub returns-in-Some-fault-clause-piece : goal.returns-in-Some-fault-clause-piece
returns-in-Some-fault-clause-piece g c = λ p le.
    let o = g.D.Disk.told c.args.disk.now in
    let f = c.args.frame.now in
    let begins = piece_on c.args.len f.place (f.place + f.from) c.args.ahead.now p (omega arith) in
    piece_on c.args.len (f.place + f.long) c.args.len c.tail_at.new.ahead (c.in_ok-tail.ensures.piece (c.in_ok-read.ensures.piece begins)) (omega (arith, c.requires.fits.room))

pub returns-in-Some-fault-clause-paces : goal.returns-in-Some-fault-clause-paces
returns-in-Some-fault-clause-paces g c = λ p le.
    let o = g.D.Disk.told c.args.disk.now in
    let f = c.args.frame.now in
    let begins = piece_on c.args.len f.place (f.place + f.from) c.args.ahead.now p (omega arith) in
    let paces = paces_read o f.place f.from f.long c.args.ahead.now c.read_records.new.ahead c.tail_at.new.ahead _ _ _ (c.in_ok-read.ensures.paces begins) (c.in_ok-tail.ensures.forward (c.in_ok-read.ensures.piece begins)) in
    paces_more o f.place (f.place + f.long) c.args.len c.args.ahead.now c.tail_at.new.ahead _ _ paces (omega (arith, c.requires.fits.room, le))

pub returns-clause-piece : goal.returns-clause-piece
returns-clause-piece g c = λ p le.
    let o = g.D.Disk.told c.args.disk.now in
    let f = c.args.frame.now in
    let begins = piece_on c.args.len f.place (f.place + f.from) c.args.ahead.now p (omega arith) in
    rw c.with_tail.ensures (piece_on c.args.len (f.place + f.long) (f.place + (f.long + 8)) c.tail_at.new.ahead (c.in_ok-tail.ensures.piece (c.in_ok-read.ensures.piece begins)) (omega arith))

pub returns-clause-paces : goal.returns-clause-paces
returns-clause-paces g c = λ p le.
    let o = g.D.Disk.told c.args.disk.now in
    let f = c.args.frame.now in
    let begins = piece_on c.args.len f.place (f.place + f.from) c.args.ahead.now p (omega arith) in
    let paces = paces_read o f.place f.from f.long c.args.ahead.now c.read_records.new.ahead c.tail_at.new.ahead _ _ _ (c.in_ok-read.ensures.paces begins) (c.in_ok-tail.ensures.forward (c.in_ok-read.ensures.piece begins)) in
    rw c.with_tail.ensures (paces_more o f.place (f.place + f.long) (f.place + (f.long + 8)) c.args.ahead.now c.tail_at.new.ahead _ _ paces (omega arith))
