use Rattle.std.proofs.Common.{ℕ, ◌<◌, ◌-◌, subst, arith}
use Rattle.fs_scan.proofs.TransactionsRead.{free_costs, no_area, reads_costs, reads_values, short_area}
use Rattle.fs_scan.proofs.transactions.values_at.Goals as goal

pub returns-then-head-from-clause-values : goal.returns-then-head-from-clause-values
returns-then-head-from-clause-values g c = no_area (g.D.Disk.told c.args.disk.now) c.args.at c.args.head.now (subst (λ (n : ℕ). c.args.head.now.length < n) c.texts_end-from.ensures c.if-head-from.true)

pub returns-in_default-clause-values : goal.returns-in_default-clause-values
returns-in_default-clause-values g c =
    short_area (g.D.Disk.told c.args.disk.now) c.args.at c.saturating_add-place.result (c.args.head.now.length - c.texts_end-from.result) c.args.head.now (rw c.in_default.is at c.in_ok-area.ensures.piece) (omega arith) (omega arith) (omega arith)

pub returns-clause-values : goal.returns-clause-values
returns-clause-values g c =
    reads_values (g.D.Disk.told c.args.disk.now) (g.D.Disk.told c.read_piece.new.disk) c.args.len c.args.at c.saturating_add-place.result (c.args.head.now.length - c.texts_end-from.result) c.args.head.now c.in-Some.area.items c.in_ok-values.values
    c.in_ok-area.ensures.only_reads.same c.requires (omega arith) (rw c.in-Some.is at c.in_ok-area.ensures.piece) (omega arith) (omega arith) (rw c.deref.ensures.value at c.in_ok-values.ensures.values)

pub returns-then-head-from-clause-reads : goal.returns-then-head-from-clause-reads
returns-then-head-from-clause-reads g c = free_costs (g.D.Disk.told c.args.disk.now) c.args.at c.args.head.now _ _ (omega arith)

pub returns-in_default-clause-reads : goal.returns-in_default-clause-reads
returns-in_default-clause-reads g c = free_costs (g.D.Disk.told c.args.disk.now) c.args.at c.args.head.now _ _ c.in_ok-area.ensures.reads

pub returns-clause-reads : goal.returns-clause-reads
returns-clause-reads g c =
    reads_costs (g.D.Disk.told c.args.disk.now) (g.D.Disk.told c.read_piece.new.disk) c.args.len c.args.at c.saturating_add-place.result (c.args.head.now.length - c.texts_end-from.result) c.args.head.now c.in-Some.area.items _ _ _
    c.in_ok-area.ensures.only_reads.same c.requires (omega arith) (rw c.in-Some.is at c.in_ok-area.ensures.piece) (omega arith) (omega arith) c.in_ok-area.ensures.reads (rw c.deref.ensures.value at c.in_ok-values.ensures.reads)
