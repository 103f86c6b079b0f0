use Rattle.std.proofs.Common.{◌-◌, drop, take, length, Option, refl, subst, arith}
use Rattle.std.proofs.lemmas.List.{take_rest}
use Rattle.zdisk.specs.Disk.{Told}
use Rattle.fs_scan.specs.Found.{NoData}
use Rattle.fs_scan.specs.OnlyReads.{reads_as, reads_then}
use Rattle.fs_scan.proofs.DataAt.{slice_front}
use Rattle.fs_scan.proofs.ValuesRead.{Costs, Means, all_cost, none_cost, one_more_value, record_stands}
use Rattle.fs_scan.proofs.valued.read_values.Goals as goal

pub returns-in_default-clause-values : goal.returns-in_default-clause-values
returns-in_default-clause-values g c = λ ds are.
    record_stands (g.D.Disk.told c.args.disk.now) c.args.area.now c.loop-at.at c.loop-at.values _ _ (ds, are) c.loop-at.invariant.read c.loop-at-test.true (subst NoData (take_rest c.args.area.now c.loop-at.at) (c.in_default.ensures.none (take (length c.args.area.now - c.loop-at.at) (drop c.loop-at.at c.args.area.now)) (slice_front (take (length c.args.area.now - c.loop-at.at) (drop c.loop-at.at c.args.area.now)) c.min.result (omega (arith, c.min.ensures)))))

pub returns-in_default-clause-reads : goal.returns-in_default-clause-reads
returns-in_default-clause-reads g c =
    none_cost (g.D.Disk.told c.args.disk.now) c.args.area.now _ _ (λ ds are. record_stands (g.D.Disk.told c.args.disk.now) c.args.area.now c.loop-at.at c.loop-at.values _ _ (ds, are) c.loop-at.invariant.read c.loop-at-test.true (subst NoData (take_rest c.args.area.now c.loop-at.at) (c.in_default.ensures.none (take (length c.args.area.now - c.loop-at.at) (drop c.loop-at.at c.args.area.now)) (slice_front (take (length c.args.area.now - c.loop-at.at) (drop c.loop-at.at c.args.area.now)) c.min.result (omega (arith, c.min.ensures))))))

pub returns-clause-reads : goal.returns-clause-reads
returns-clause-reads g c = all_cost (g.D.Disk.told c.args.disk.now) c.args.area.now c.loop-at.at c.loop-at.values _ _ c.loop-at.invariant.read (omega (arith, c.loop-at-test.false))

pub loop-at-preserved : goal.loop-at-preserved
loop-at-preserved g c =
    let i = c.loop-at.invariant in
    let f = c.in-Some.found in
    let v = c.in_ok-value.ensures in
    let rest = take (length c.args.area.now - c.loop-at.at) (drop c.loop-at.at c.args.area.now) in
    record {
      read = one_more_value (g.D.Disk.told c.args.disk.now) c.args.area.now rest c.loop-at.at c.loop-at.values c.push.new.self f _ _ _ (g.D.Disk.counter c.value_at_front.new.disk).calls i.read (take_rest c.args.area.now c.loop-at.at) (c.in-Some.ensures.found rest (slice_front rest c.min.result (omega (arith, c.min.ensures)))) c.in-Some.ensures.size.1
          refl (subst (λ (d : Option Told). Means d f rest c.in_ok-value.value) i.only.same v.value)
          (subst (λ (d : Option Told). Costs d f rest (g.D.Disk.counter c.loop-at.disk).calls (g.D.Disk.counter c.value_at_front.new.disk).calls) i.only.same v.reads) c.in_ok-push.ensures.ok;
      within = omega (arith, c.in-Some.ensures.size.1);
      only = reads_then i.only (λ none. none) (reads_as v.only_reads (λ e. cc) (λ none. absurd none));
    }
