use Rattle.std.proofs.Common.{Option, IfSome, sym, subst}
use Rattle.fs_store.specs.declared.finding.Record.{Record}
use Rattle.fs_store.specs.Finding.{CostsLoad, FoundIn}
use Rattle.fs_store.proofs.Loadings.{costs_value}
use Rattle.fs_store.proofs.Tellings.{moved, on_three}
use Rattle.fs_store.proofs.file.OpenFile.load.Goals as goal

pub returns-in_ok-value-in-Some-clause-reads : goal.returns-in_ok-value-in-Some-clause-reads
returns-in_ok-value-in-Some-clause-reads g c =
    let o = g.D.Disk.told c.args.disk.now in
    let end = c.args.self.now.end in
    let calls = (g.D.Disk.counter c.args.disk.now).calls in
    let now = (g.D.Disk.counter c.find.new.disk).calls in
    let more = (g.D.Disk.counter c.value_of.new.disk).calls in
    let found = subst (λ (x : Option Record). IfSome o (λ told. FoundIn told end c.args.oid c.args.at x)) c.in-Some.is c.in_ok-find.ensures.found in
    on_three o _ _ _ (λ told. CostsLoad told end c.args.oid c.args.at calls more)
    (λ told le f costs. costs_value told end c.args.oid c.args.at calls now more c.in-Some.found le f (costs c.args.oid f.is_place))
    c.in_ok-find.ensures.reads found (moved _ o _ (sym c.in_ok-find.ensures.only_reads.same) c.in_ok-value-in-Some.ensures.reads)
