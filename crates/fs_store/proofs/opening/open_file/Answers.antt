use Rattle.std.proofs.Common.{◌≡◌, Err, ap, ◌∙◌, arith}
use Rattle.std.proofs.lemmas.Result.{err_from_is_err_and}
use Rattle.fs_store.specs.declared.opening.FileRead.{FileRead}
use Rattle.zbase.specs.Faults.{Counter}
use Rattle.fs_store.proofs.OpeningCosts.{costs_begin, costs_read}
use Rattle.fs_store.proofs.Tellings.{moved}
use Rattle.fs_store.proofs.Tidying.{left_synced, refused_by, rest_stayed, synced_alone, synced_then}
use Rattle.fs_store.proofs.opening.open_file.Goals as goal

calls_of : {a b : Counter} → a ≡ b → a.calls ≡ b.calls
calls_of e = ap (λ (k : Counter). k.calls) e

pub returns-in_err-read-clause-refused : goal.returns-in_err-read-clause-refused
returns-in_err-read-clause-refused g c =
    let p = err_from_is_err_and c.from_residual-in_err-read.result c.from_residual-in_err-read.ensures.1 in
    refused_by {T = FileRead} (g.D.Disk.told c.args.disk.now) (g.D.Disk.told c.len.new.self) c.in_ok-len.len c.in_err-read.field-0.0 c.from_residual-in_err-read.result (synced_then _ _ _ _ c.in_ok-reserve.ensures.same c.in_ok-sync.ensures.held c.in_ok-len.ensures.same)
    (moved _ _ _ c.in_ok-len.ensures.same c.in_ok-len.ensures.value) (omega (arith, c.if-len-gt-MAX_LENGTH.false)) (p.1 ∙ ap (λ k. Err k) p.2) c.in_err-read.ensures.damaged

pub returns-in_err-read-clause-left : goal.returns-in_err-read-clause-left
returns-in_err-read-clause-left g c =
    let p = err_from_is_err_and c.from_residual-in_err-read.result c.from_residual-in_err-read.ensures.1 in
    left_synced (g.D.Disk.told c.args.disk.now) (g.D.Disk.told c.read_file.new.disk) c.in_err-read.field-0.0 c.from_residual-in_err-read.result
    (synced_then _ _ _ _ c.in_ok-reserve.ensures.same c.in_ok-sync.ensures.held (c.in_err-read.ensures.only_reads.same ∙ c.in_ok-len.ensures.same)) (p.1 ∙ ap (λ k. Err k) p.2)

pub returns-then-read-eq0-clause-tidies : goal.returns-then-read-eq0-clause-tidies
returns-then-read-eq0-clause-tidies g c =
    synced_alone (g.D.Disk.told c.args.disk.now) (g.D.Disk.told c.len.new.self) (g.D.Disk.told c.read_file.new.disk) c.in_ok-read.read.file.end c.in_ok-read.read.torn
    (synced_then _ _ _ _ c.in_ok-reserve.ensures.same c.in_ok-sync.ensures.held c.in_ok-len.ensures.same) c.in_ok-read.ensures.only_reads.same c.if-read-eq0.true

pub returns-in_err-cut_off-clause-left : goal.returns-in_err-cut_off-clause-left
returns-in_err-cut_off-clause-left g c =
    let p = err_from_is_err_and c.from_residual-in_err-cut_off.result c.from_residual-in_err-cut_off.ensures.1 in
    rest_stayed (g.D.Disk.told c.args.disk.now) (g.D.Disk.told c.len.new.self) (g.D.Disk.told c.read_file.new.disk) (g.D.Disk.told c.cut_off.new.disk) c.in_ok-read.read c.from_residual-in_err-cut_off.result
    (synced_then _ _ _ _ c.in_ok-reserve.ensures.same c.in_ok-sync.ensures.held c.in_ok-len.ensures.same) c.in_ok-read.ensures.only_reads.same c.in_ok-read.ensures.reads c.in_err-cut_off.ensures.failed (p.1 ∙ ap (λ k. Err k) p.2)

pub returns-in_err-reserve-clause-costs : goal.returns-in_err-reserve-clause-costs
returns-in_err-reserve-clause-costs g c = costs_begin (g.D.Disk.told c.args.disk.now) _ _ (omega (arith, calls_of c.in_err-reserve.ensures.uncalled))

pub returns-in_err-sync-clause-costs : goal.returns-in_err-sync-clause-costs
returns-in_err-sync-clause-costs g c = costs_begin (g.D.Disk.told c.args.disk.now) _ _ (omega (arith, c.in_err-sync.ensures.call, calls_of c.in_ok-reserve.ensures.uncalled))

pub returns-in_err-len-clause-costs : goal.returns-in_err-len-clause-costs
returns-in_err-len-clause-costs g c = costs_begin (g.D.Disk.told c.args.disk.now) _ _ (omega (arith, c.in_err-len.ensures.call, c.in_ok-sync.ensures.call, calls_of c.in_ok-reserve.ensures.uncalled))

pub returns-then-len-gt-MAX_LENGTH-clause-costs : goal.returns-then-len-gt-MAX_LENGTH-clause-costs
returns-then-len-gt-MAX_LENGTH-clause-costs g c = costs_begin (g.D.Disk.told c.args.disk.now) _ _ (omega (arith, c.in_ok-len.ensures.call, c.in_ok-sync.ensures.call, calls_of c.in_ok-reserve.ensures.uncalled))

pub returns-in_err-read-clause-costs : goal.returns-in_err-read-clause-costs
returns-in_err-read-clause-costs g c =
    costs_read (g.D.Disk.told c.args.disk.now) (g.D.Disk.told c.len.new.self) _ _ _ _ (synced_then _ _ _ _ c.in_ok-reserve.ensures.same c.in_ok-sync.ensures.held c.in_ok-len.ensures.same) c.in_err-read.ensures.costs
    (omega (arith, c.in_ok-len.ensures.call, c.in_ok-sync.ensures.call, calls_of c.in_ok-reserve.ensures.uncalled)) (omega arith)

pub returns-then-read-eq0-clause-costs : goal.returns-then-read-eq0-clause-costs
returns-then-read-eq0-clause-costs g c =
    costs_read (g.D.Disk.told c.args.disk.now) (g.D.Disk.told c.len.new.self) _ _ _ _ (synced_then _ _ _ _ c.in_ok-reserve.ensures.same c.in_ok-sync.ensures.held c.in_ok-len.ensures.same) c.in_ok-read.ensures.costs
    (omega (arith, c.in_ok-len.ensures.call, c.in_ok-sync.ensures.call, calls_of c.in_ok-reserve.ensures.uncalled)) (omega arith)

pub returns-in_err-cut_off-clause-costs : goal.returns-in_err-cut_off-clause-costs
returns-in_err-cut_off-clause-costs g c =
    costs_read (g.D.Disk.told c.args.disk.now) (g.D.Disk.told c.len.new.self) _ _ _ _ (synced_then _ _ _ _ c.in_ok-reserve.ensures.same c.in_ok-sync.ensures.held c.in_ok-len.ensures.same) c.in_ok-read.ensures.costs
    (omega (arith, c.in_ok-len.ensures.call, c.in_ok-sync.ensures.call, calls_of c.in_ok-reserve.ensures.uncalled)) c.in_err-cut_off.ensures.costs

pub returns-clause-costs : goal.returns-clause-costs
returns-clause-costs g c =
    costs_read (g.D.Disk.told c.args.disk.now) (g.D.Disk.told c.len.new.self) _ _ _ _ (synced_then _ _ _ _ c.in_ok-reserve.ensures.same c.in_ok-sync.ensures.held c.in_ok-len.ensures.same) c.in_ok-read.ensures.costs
    (omega (arith, c.in_ok-len.ensures.call, c.in_ok-sync.ensures.call, calls_of c.in_ok-reserve.ensures.uncalled)) c.in_ok-cut_off.ensures.costs
