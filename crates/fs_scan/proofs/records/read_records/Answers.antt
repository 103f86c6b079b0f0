use Rattle.std.proofs.Common.{◌≡◌, ◌∙◌, ◌+◌, ◌-◌, ◌≤◌, ℕ, List, Option, IfSome, Result, Err, refl, sym, ap, subst, arith, rules}
use Rattle.std.proofs.lemmas.Result.{err_from_is_err_and}
use Rattle.zbase.specs.declared.ids.Row.{Row}
use Rattle.zdisk.specs.Disk.{Told, bytes_at, content}
use Rattle.fs_record.specs.File.{is_right_body}
use Rattle.fs_scan.specs.Ahead.{IsAhead}
use Rattle.fs_scan.specs.Found.{body_in}
use Rattle.fs_scan.specs.Keeping.{rows_on}
use Rattle.fs_scan.specs.OnlyReads.{reads_as, reads_then}
use Rattle.fs_scan.specs.Rising.{RiseWithin}
use Rattle.fs_scan.proofs.AheadRead.{piece_is}
use Rattle.fs_scan.proofs.Pacing.{paces_forward, paces_more, paces_one, paces_then, piece_on}
use Rattle.fs_scan.proofs.RecordsRead.{none_told, one_told, points_told}
use Rattle.fs_scan.proofs.RisingPlaces.{one_rises}
use Rattle.fs_scan.specs.declared.opening.ScanRefusal.{ScanRefusal}
use Rattle.fs_scan.proofs.records.read_records.Goals as goal

other : {T : Type 0} {r : Result T ScanRefusal} → r ≡ Err ScanRefusal.Memory → r ≡ Err ScanRefusal.Disk → ⊥
other m d = cc

pub returns-in-None-clause-read : goal.returns-in-None-clause-read
returns-in-None-clause-read g c =
    let i = c.records.invariant in
    let s = c.in_ok-show.ensures in
    let o = g.D.Disk.told c.args.disk.now in
    let piece = c.piece.result.now in
    let there = subst (λ (d : Option Told). IfSome d (λ told. piece ≡ bytes_at told c.records.at c.min-size.result)) i.only.same (piece_is (g.D.Disk.told c.records.disk) c.show.new.self c.records.at c.min-size.result piece s.ahead s.covers c.piece.ensures) in
    none_told o c.args.len c.args.frame.now c.requires.len c.requires.fits c.records.at i.begins i.within c.args.kept.now c.requires.keeps c.args.rows.now c.records.rows c.records.marks i.read _ c.min-size.result piece refl (omega (arith, c.min-size.ensures)) there c.in-None.ensures.none c.records-test.true

pub returns-in_err-one-clause-only_reads : goal.returns-in_err-one-clause-only_reads
returns-in_err-one-clause-only_reads g c =
    let e = err_from_is_err_and c.from_residual-in_err-one.result c.from_residual-in_err-one.ensures.1 in
    reads_then c.records.invariant.only (λ none. none) (reads_then (reads_as c.in_ok-show.ensures.only_reads (λ e. cc) (λ none. absurd none)) (λ none. none) (reads_as c.in_err-one.ensures.only_reads (λ f. e.1 ∙ ap (λ k. Err k) e.2) (λ f. search rules)))

pub returns-in_err-push-clause-only_reads : goal.returns-in_err-push-clause-only_reads
returns-in_err-push-clause-only_reads g c =
    let e = err_from_is_err_and c.from_residual-in_err-push.result c.from_residual-in_err-push.ensures.1 in
    let memory : c.from_residual-in_err-push.result ≡ Err ScanRefusal.Memory = e.1 ∙ ap (λ k. Err k) e.2 in
    reads_as (reads_then c.records.invariant.only (λ none. none) (reads_then (reads_as c.in_ok-show.ensures.only_reads (λ e. cc) (λ none. absurd none)) (λ none. none) (reads_as c.in_ok-one.ensures.only_reads (λ e. cc) (λ none. absurd none)))) (λ none. absurd none) (λ f. absurd (other memory f))

pub returns-in_err-show-clause-paces : goal.returns-in_err-show-clause-paces
returns-in_err-show-clause-paces g c = λ p.
    let i = c.records.invariant in
    let o = g.D.Disk.told c.args.disk.now in
    let all = c.args.frame.now.place + c.args.frame.now.long in
    paces_then o o _ c.records.at all _ c.records.ahead c.show.new.self _ _ _ refl (i.paces p) (paces_forward o c.records.at all c.records.at c.records.ahead c.show.new.self _ _ (c.in_err-show.ensures.forward (i.piece p) (omega (arith, c.min-size.ensures))) i.within i.within)

pub returns-in-None-clause-piece : goal.returns-in-None-clause-piece
returns-in-None-clause-piece g c = λ p. piece_on c.args.len c.records.at _ c.show.new.self (c.in_ok-show.ensures.piece (c.records.invariant.piece p)) c.records.invariant.within

pub returns-in-None-clause-paces : goal.returns-in-None-clause-paces
returns-in-None-clause-paces g c = λ p.
    let i = c.records.invariant in
    let o = g.D.Disk.told c.args.disk.now in
    let all = c.args.frame.now.place + c.args.frame.now.long in
    paces_then o o _ c.records.at all _ c.records.ahead c.show.new.self _ _ _ refl (i.paces p) (paces_forward o c.records.at all c.records.at c.records.ahead c.show.new.self _ _ (c.in_ok-show.ensures.forward (i.piece p) (omega (arith, c.min-size.ensures))) i.within i.within)

pub returns-in_err-one-clause-paces : goal.returns-in_err-one-clause-paces
returns-in_err-one-clause-paces g c = λ p.
    let i = c.records.invariant in
    let s = c.in_ok-show.ensures in
    let j = c.in_err-one.ensures in
    let f = c.in-Some.found in
    let o = g.D.Disk.told c.args.disk.now in
    let all = c.args.frame.now.place + c.args.frame.now.long in
    let piece = c.piece.result.now in
    let there = subst (λ (d : Option Told). IfSome d (λ told. piece ≡ bytes_at told c.records.at c.min-size.result)) i.only.same (piece_is (g.D.Disk.told c.records.disk) c.show.new.self c.records.at c.min-size.result piece s.ahead s.covers c.piece.ensures) in
    let points = points_told o c.args.len c.args.frame.now c.requires.len c.requires.fits c.records.at i.begins i.within _ c.min-size.result piece f refl (omega (arith, c.min-size.ensures)) there c.in-Some.ensures.found in
    paces_then o o _ c.records.at all _ c.records.ahead c.show.new.self _ _ _ refl (i.paces p) (paces_one o c.records.at all c.records.ahead c.show.new.self _ _ _ f.head.length f.back (s.forward (i.piece p) (omega (arith, c.min-size.ensures))) c.records-test.true j.reads j.spares points)

pub returns-in_err-push-clause-paces : goal.returns-in_err-push-clause-paces
returns-in_err-push-clause-paces g c = λ p.
    let i = c.records.invariant in
    let s = c.in_ok-show.ensures in
    let j = c.in_ok-one.ensures in
    let f = c.in-Some.found in
    let o = g.D.Disk.told c.args.disk.now in
    let all = c.args.frame.now.place + c.args.frame.now.long in
    let piece = c.piece.result.now in
    let there = subst (λ (d : Option Told). IfSome d (λ told. piece ≡ bytes_at told c.records.at c.min-size.result)) i.only.same (piece_is (g.D.Disk.told c.records.disk) c.show.new.self c.records.at c.min-size.result piece s.ahead s.covers c.piece.ensures) in
    let points = points_told o c.args.len c.args.frame.now c.requires.len c.requires.fits c.records.at i.begins i.within _ c.min-size.result piece f refl (omega (arith, c.min-size.ensures)) there c.in-Some.ensures.found in
    paces_then o o _ c.records.at all _ c.records.ahead c.show.new.self _ _ _ refl (i.paces p) (paces_one o c.records.at all c.records.ahead c.show.new.self _ _ _ f.head.length f.back (s.forward (i.piece p) (omega (arith, c.min-size.ensures))) c.records-test.true j.reads j.spares points)

pub returns-clause-piece : goal.returns-clause-piece
returns-clause-piece g c = λ p. piece_on c.args.len c.records.at _ c.records.ahead (c.records.invariant.piece p) c.records.invariant.within

pub returns-clause-paces : goal.returns-clause-paces
returns-clause-paces g c = λ p. paces_more (g.D.Disk.told c.args.disk.now) _ c.records.at _ c.args.ahead.now c.records.ahead _ _ (c.records.invariant.paces p) c.records.invariant.within

pub records-preserved : goal.records-preserved
records-preserved g c =
    let i = c.records.invariant in
    let s = c.in_ok-show.ensures in
    let j = c.in_ok-one.ensures in
    let a = c.and-marks.ensures in
    let f = c.in-Some.found in
    let o = g.D.Disk.told c.args.disk.now in
    let piece = c.piece.result.now in
    let room : f.size ≤ c.args.frame.now.place + c.args.frame.now.long - c.records.at = c.in-Some.ensures.size.1 in
    let there = subst (λ (d : Option Told). IfSome d (λ told. piece ≡ bytes_at told c.records.at c.min-size.result)) i.only.same (piece_is (g.D.Disk.told c.records.disk) c.show.new.self c.records.at c.min-size.result piece s.ahead s.covers c.piece.ensures) in
    let back = subst (λ (d : Option Told). IfSome d (λ told. (behind : List ℕ) → c.in_ok-one.one.back ≡ is_right_body (rows_on (content told) c.args.kept.now.places) f.head.oid (body_in f.head.length f.back behind))) (s.only_reads.same ∙ i.only.same) j.back in
    record {
      ahead = subst (λ (d : Option Told). IsAhead d c.show.new.self) i.only.same s.ahead;
      read = one_told o c.args.len c.args.frame.now c.requires.len c.requires.fits c.records.at i.begins i.within c.args.kept.now c.requires.keeps c.args.rows.now c.records.rows c.records.marks i.read _ c.min-size.result piece f c.push.new.self c.in_ok-one.one c.and-marks.result
          refl (omega (arith, c.min-size.ensures)) there c.in-Some.ensures.found room j.own j.prev back j.version a.own a.prev a.back a.version c.in_ok-push.ensures.ok;
      piece = λ p. piece_on c.args.len c.records.at (c.records.at + f.size) c.show.new.self (s.piece (i.piece p)) (omega arith);
      paces = λ p.
          let points = points_told o c.args.len c.args.frame.now c.requires.len c.requires.fits c.records.at i.begins i.within _ c.min-size.result piece f refl (omega (arith, c.min-size.ensures)) there c.in-Some.ensures.found in
          paces_then o o _ c.records.at (c.records.at + f.size) _ c.records.ahead c.show.new.self _ _ _ refl (i.paces p) (paces_one o c.records.at (c.records.at + f.size) c.records.ahead c.show.new.self _ _ _ f.head.length f.back (s.forward (i.piece p) (omega (arith, c.min-size.ensures))) (omega (arith, c.in-Some.ensures.size.0)) j.reads j.spares points);
      rise = λ begin h. subst (λ (rows : List Row). RiseWithin begin (c.records.at + f.size) rows) (sym c.in_ok-push.ensures.ok) (one_rises begin c.records.at (c.records.at + f.size) c.records.rows _ (i.rise begin h) refl (omega (arith, c.in-Some.ensures.size.0)));
      begins = omega (arith, i.begins);
      within = omega (arith, room, i.within);
      only = reads_then i.only (λ none. none) (reads_then (reads_as s.only_reads (λ e. cc) (λ none. absurd none)) (λ none. none) (reads_as j.only_reads (λ e. cc) (λ none. absurd none)));
    }
