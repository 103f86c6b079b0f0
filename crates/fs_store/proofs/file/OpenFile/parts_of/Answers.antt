use Rattle.std.proofs.Common.{◌≡◌, ◌+◌, ◌<◌, length, arith, ap, sym, ◌∙◌}
use Rattle.std.specs.Prelude.{◌-◌}
use Rattle.std.specs.Ordering.{nat_cmp}
use Rattle.std.specs.BTreeSet.{contains}
use Rattle.zbase.specs.Values.{before}
use Rattle.fs_scan.specs.OnlyReads.{reads_as, reads_then}
use Rattle.fs_scan.specs.declared.wholes.OidValue.{OidValue}
use Rattle.fs_store.specs.Fronts.{history_at}
use Rattle.fs_store.proofs.PartSteps.{seen_next, part_new, part_old}
use Rattle.fs_store.proofs.Sought.{loads_more}
use Rattle.fs_store.proofs.Tellings.{moved, on_both, on_three, on_told}
use Rattle.fs_store.proofs.file.OpenFile.parts_of.Goals as goal

pub loop-left-preserved-in_ok-push : goal.loop-left-preserved-in_ok-push
loop-left-preserved-in_ok-push g c =
    let o = g.D.Disk.told c.args.disk.now in
    let kept = c.loop-left.invariant in
    let left = c.loop-left.left in
    let vs = c.args.values.now in
    let v = c.index-values-left.result in
    let e = c.in_ok-part_of.ensures in
    let own = ap (λ (w : OidValue). w.oid) c.written.view_is in
    let one : left ≡ left - 1 + 1 = omega (arith, c.loop-left-test.true) in
    let lt : left - 1 < length vs = omega (arith, c.loop-left-test.true, kept.within) in
    record {
      within = omega (arith, kept.within);
      parts = on_both o _ _ _ (λ told so part. part_new (before (history_at told c.args.self.now.end) c.args.tid) vs left (left - 1) _ v _ _ _ (contains nat_cmp c.loop-left.seen) one lt c.index-values-left.is own (sym c.in_ok-insert.ensures.added ∙ c.if-branch.true) kept.seen part c.in_ok-push.ensures.items so)
          kept.parts (moved _ o _ (sym kept.only.same) e.part);
      seen = seen_next (contains nat_cmp c.loop-left.seen) (contains nat_cmp c.insert.new.self) vs left (left - 1) _ v one lt c.index-values-left.is own c.in_ok-insert.ensures.updates.0 kept.seen;
      costs = on_three o _ _ _ _ (λ told had part load. loads_more told c.args.self.now.end c.args.tid _ _ (g.D.Disk.counter c.part_of.new.disk).calls _ (before (history_at told c.args.self.now.end) c.args.tid) _ _ _ _ part c.in_ok-push.ensures.items had load)
          kept.costs (moved _ o _ (sym kept.only.same) e.part) (moved _ o _ (sym kept.only.same) e.reads);
      only = reads_then kept.only (λ none. none) (reads_as e.only_reads (λ x. cc) (λ none. absurd none));
    }

pub loop-left-preserved : goal.loop-left-preserved
loop-left-preserved g c =
    let kept = c.loop-left.invariant in
    let left = c.loop-left.left in
    let vs = c.args.values.now in
    let v = c.index-values-left.result in
    let own = ap (λ (w : OidValue). w.oid) c.written.view_is in
    let one : left ≡ left - 1 + 1 = omega (arith, c.loop-left-test.true) in
    let lt : left - 1 < length vs = omega (arith, c.loop-left-test.true, kept.within) in
    record {
      within = omega (arith, kept.within);
      parts = on_told (g.D.Disk.told c.args.disk.now) _ _ (λ told so. part_old (before (history_at told c.args.self.now.end) c.args.tid) vs left (left - 1) _ v c.loop-left.parts.items (contains nat_cmp c.loop-left.seen) one lt c.index-values-left.is own (sym c.in_ok-insert.ensures.added ∙ c.if-branch.false) kept.seen so)
          kept.parts;
      seen = seen_next (contains nat_cmp c.loop-left.seen) (contains nat_cmp c.insert.new.self) vs left (left - 1) _ v one lt c.index-values-left.is own c.in_ok-insert.ensures.updates.0 kept.seen;
      costs = kept.costs;
      only = kept.only;
    }
