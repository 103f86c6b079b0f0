use Rattle.std.proofs.Common.{ℕ, IfSome, sym, subst}
use Rattle.zdisk.specs.Disk.{content}
use Rattle.fs_store.specs.Finding.{CostsLoad}
use Rattle.fs_store.specs.Opened.{CostsOpening}
use Rattle.fs_store.specs.Stores.{StoreView}
use Rattle.fs_store.proofs.Loadings.{costs_none}
use Rattle.fs_store.proofs.Tellings.{moved, on_told}
use Rattle.fs_store.proofs.store.Store.load.Goals as goal

pub returns-in_err-refresh-clause-reads_again : goal.returns-in_err-refresh-clause-reads_again
returns-in_err-refresh-clause-reads_again g c =
    let new = c.refresh.new.self in
    on_told c.args.self.now.disk.told (λ told. CostsOpening (content told) c.args.self.now.disk.counter.calls new.disk.counter.calls)
    (λ told. (calls : ℕ) × CostsOpening (content told) c.args.self.now.disk.counter.calls calls × IfSome new.disk.told (λ now. CostsLoad now new.end c.args.oid c.args.at calls new.disk.counter.calls))
    (λ told opened. (new.disk.counter.calls, opened, costs_none new.disk.told new.end c.args.oid c.args.at new.disk.counter.calls)) c.in_err-refresh.ensures.reads

pub returns-clause-reads_again : goal.returns-clause-reads_again
returns-clause-reads_again g c =
    let i = c.self.inside in
    let more = (g.D.Disk.counter c.recall.new.disk).calls in
    let now = g.D.Disk.told c.recall.new.disk in
    let opened = subst (λ (s : StoreView). IfSome c.args.self.now.disk.told (λ told. CostsOpening (content told) c.args.self.now.disk.counter.calls s.disk.counter.calls)) (sym c.self.view_is) c.in_ok-refresh.ensures.reads in
    let loaded = moved (g.D.Disk.told i.disk) now (λ t. CostsLoad t i.file.end c.args.oid c.args.at (g.D.Disk.counter i.disk).calls more) c.recall.ensures.only_reads.same c.recall.ensures.reads in
    on_told c.args.self.now.disk.told (λ told. CostsOpening (content told) c.args.self.now.disk.counter.calls (g.D.Disk.counter i.disk).calls)
    (λ told. (calls : ℕ) × CostsOpening (content told) c.args.self.now.disk.counter.calls calls × IfSome now (λ t. CostsLoad t i.file.end c.args.oid c.args.at calls more))
    (λ told opened. ((g.D.Disk.counter i.disk).calls, opened, loaded)) opened
