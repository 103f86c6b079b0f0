use Rattle.std.proofs.Common.{◌≡◌, ◌+◌, ◌<◌, Option, cond, length, subst, arith}
use Rattle.zdisk.specs.Disk.{Told}
use Rattle.fs_scan.specs.Ahead.{IsAhead}
use Rattle.fs_scan.specs.OnlyReads.{reads_as, reads_then}
use Rattle.fs_scan.proofs.Present.{count_all, count_one, few_more, no_place, place_is}
use Rattle.fs_scan.proofs.checking.count_present.Goals.{then-branch, else-branch}
use Rattle.fs_scan.proofs.checking.count_present.Goals as goal

pub unreachable-requires : goal.unreachable-requires
unreachable-requires g c = no_place c.args.kept.now.places c.records.number c.place.result c.place.ensures c.in-None.is (omega (arith, c.records-test.true, c.count-number-end.ensures.count))

pub records-preserved : goal.records-preserved
records-preserved g c =
    let i = c.records.invariant in
    let p = c.in_ok-is_present.ensures in
    let o = g.D.Disk.told c.args.disk.now in
    let has = c.in_ok-is_present.field-0 in
    let lt : c.records.number < length c.args.kept.now.places = omega (arith, c.records-test.true, c.count-number-end.ensures.count) in
    let next : c.if-branch.count ≡ c.records.count + cond has 1 0 = elim c.if-branch.branch [
      | then-branch w ↦ rw (w.if-branch.true) (w.count-is)
      | else-branch w ↦ rw (w.if-branch.false) (omega (arith, w.count-is))
    ] in
    record {
      ahead = subst (λ (d : Option Told). IsAhead d c.is_present.new.ahead) i.only.same p.ahead;
      counted = count_one o (g.D.Disk.told c.records.disk) c.args.kept.now.places c.args.kept.now.newest c.records.number c.records.count c.if-branch.count c.in-Some.place has i.only.same (place_is c.args.kept.now.places c.records.number c.in-Some.place c.place.result c.place.ensures c.in-Some.is lt) lt p.present next i.counted;
      few = few_more has c.records.count c.if-branch.count c.records.number next i.few;
      only = reads_then i.only (λ none. none) (reads_as p.only_reads (λ e. cc) (λ none. absurd none));
    }

pub returns-clause-count : goal.returns-clause-count
returns-clause-count g c = count_all (g.D.Disk.told c.args.disk.now) c.args.kept.now.places c.args.kept.now.newest c.records.number c.records.count (omega (arith, c.records-test.false, c.count-number-end.ensures.count)) c.records.invariant.counted
