use Rattle.std.proofs.Common.{None, Some, sym, ◌∙◌, arith}
use Rattle.fs_scan.specs.OnlyReads.{reads_as, reads_none, reads_then}
use Rattle.fs_store.specs.Seeking.{CostsWalk, SoughtIn}
use Rattle.fs_store.proofs.Sought.{TellsRecord, WalkedBack, walk_costs, walk_end, walk_first, walk_found, walk_none, walk_on, walk_past}
use Rattle.fs_store.proofs.Tellings.{moved, on_both, on_told}
use Rattle.fs_store.proofs.file.OpenFile.seek.Goals as goal

pub back-init : goal.back-init
back-init g c =
    let calls = (g.D.Disk.counter c.args.disk.now).calls in
    record {
      walked = on_told (g.D.Disk.told c.args.disk.now) _ (λ told. WalkedBack told c.args.self.now c.args.self.now.end c.args.tid calls calls) (λ told k. walk_first told c.args.self.now c.args.tid calls k.0) c.requires;
      only = reads_none g.D.Disk c.args.disk.now;
    }

pub returns-in_err-found-clause-reads : goal.returns-in_err-found-clause-reads
returns-in_err-found-clause-reads g c =
    let calls = (g.D.Disk.counter c.args.disk.now).calls in
    let more = (g.D.Disk.counter c.txn_before.new.disk).calls in
    on_told (g.D.Disk.told c.args.disk.now) _ (λ told. CostsWalk told c.args.self.now.end c.args.tid calls more) (λ told w. walk_costs told c.args.self.now c.back.end c.args.tid calls _ more w c.in_err-found.ensures.reads) c.back.invariant.walked

pub returns-in_default-clause-reads : goal.returns-in_default-clause-reads
returns-in_default-clause-reads g c =
    let calls = (g.D.Disk.counter c.args.disk.now).calls in
    let more = (g.D.Disk.counter c.txn_before.new.disk).calls in
    on_told (g.D.Disk.told c.args.disk.now) _ (λ told. CostsWalk told c.args.self.now.end c.args.tid calls more) (λ told w. walk_costs told c.args.self.now c.back.end c.args.tid calls _ more w c.in_ok-found.ensures.reads) c.back.invariant.walked

pub returns-then-is_with-clause-reads : goal.returns-then-is_with-clause-reads
returns-then-is_with-clause-reads g c =
    let calls = (g.D.Disk.counter c.args.disk.now).calls in
    let more = (g.D.Disk.counter c.txn_before.new.disk).calls in
    on_told (g.D.Disk.told c.args.disk.now) _ (λ told. CostsWalk told c.args.self.now.end c.args.tid calls more) (λ told w. walk_costs told c.args.self.now c.back.end c.args.tid calls _ more w c.in_ok-found.ensures.reads) c.back.invariant.walked

pub returns-then-not-is_passed-clause-reads : goal.returns-then-not-is_passed-clause-reads
returns-then-not-is_passed-clause-reads g c =
    let calls = (g.D.Disk.counter c.args.disk.now).calls in
    let more = (g.D.Disk.counter c.txn_before.new.disk).calls in
    on_told (g.D.Disk.told c.args.disk.now) _ (λ told. CostsWalk told c.args.self.now.end c.args.tid calls more) (λ told w. walk_costs told c.args.self.now c.back.end c.args.tid calls _ more w c.in_ok-found.ensures.reads) c.back.invariant.walked

pub returns-clause-reads : goal.returns-clause-reads
returns-clause-reads g c =
    let calls = (g.D.Disk.counter c.args.disk.now).calls in
    let more = (g.D.Disk.counter c.back.disk).calls in
    on_told (g.D.Disk.told c.args.disk.now) _ (λ told. CostsWalk told c.args.self.now.end c.args.tid calls more) (λ told w. walk_costs told c.args.self.now c.back.end c.args.tid calls more more w (omega arith)) c.back.invariant.walked

pub returns-in_default-clause-found : goal.returns-in_default-clause-found
returns-in_default-clause-found g c =
    let o = g.D.Disk.told c.args.disk.now in
    let i = c.back.invariant in
    on_both o _ (λ told. TellsRecord told c.back.end None) (λ told. SoughtIn told c.args.self.now.end c.args.tid None)
    (λ told w t. walk_none told c.args.self.now c.back.end c.args.tid _ _ w c.back-test.true t) i.walked (moved _ o _ (sym i.only.same) (rw c.in_default.is at c.in_ok-found.ensures.found))

pub returns-then-is_with-clause-found : goal.returns-then-is_with-clause-found
returns-then-is_with-clause-found g c =
    let o = g.D.Disk.told c.args.disk.now in
    let i = c.back.invariant in
    on_both o _ (λ told. TellsRecord told c.back.end (Some c.in-Some.found)) (λ told. SoughtIn told c.args.self.now.end c.args.tid (Some c.in-Some.found))
    (λ told w t. walk_found told c.args.self.now c.back.end c.args.tid _ _ c.in-Some.found w c.back-test.true t (sym c.is_with.ensures ∙ c.if-is_with.true)) i.walked (moved _ o _ (sym i.only.same) (rw c.in-Some.is at c.in_ok-found.ensures.found))

pub returns-then-not-is_passed-clause-found : goal.returns-then-not-is_passed-clause-found
returns-then-not-is_passed-clause-found g c =
    let o = g.D.Disk.told c.args.disk.now in
    let i = c.back.invariant in
    on_both o _ (λ told. TellsRecord told c.back.end (Some c.in-Some.found)) (λ told. SoughtIn told c.args.self.now.end c.args.tid None)
    (λ told w t. walk_past told c.args.self.now c.back.end c.args.tid _ _ c.in-Some.found w c.back-test.true t (sym c.is_with.ensures ∙ c.if-is_with.false) (sym c.is_passed.ensures ∙ c.if-not-is_passed.true)) i.walked (moved _ o _ (sym i.only.same) (rw c.in-Some.is at c.in_ok-found.ensures.found))

pub back-preserved : goal.back-preserved
back-preserved g c =
    let o = g.D.Disk.told c.args.disk.now in
    let i = c.back.invariant in
    let e = c.in_ok-found.ensures in
    let calls = (g.D.Disk.counter c.args.disk.now).calls in
    let more = (g.D.Disk.counter c.txn_before.new.disk).calls in
    record {
      walked = on_both o _ (λ told. TellsRecord told c.back.end (Some c.in-Some.found)) (λ told. WalkedBack told c.args.self.now c.in-Some.found.place c.args.tid calls more)
          (λ told w t. walk_on told c.args.self.now c.back.end c.args.tid calls _ more c.in-Some.found w c.back-test.true t (sym c.is_with.ensures ∙ c.if-is_with.false) (sym c.is_passed.ensures ∙ c.if-not-is_passed.false) e.reads) i.walked (moved _ o _ (sym i.only.same) (rw c.in-Some.is at e.found));
      only = reads_then i.only (λ none. none) (reads_as e.only_reads (λ x. cc) (λ none. absurd none));
    }

pub returns-clause-found : goal.returns-clause-found
returns-clause-found g c =
    on_told (g.D.Disk.told c.args.disk.now) _ (λ told. SoughtIn told c.args.self.now.end c.args.tid None) (λ told w. walk_end told c.args.self.now c.back.end c.args.tid _ _ w (omega (arith, c.back-test.false))) c.back.invariant.walked
