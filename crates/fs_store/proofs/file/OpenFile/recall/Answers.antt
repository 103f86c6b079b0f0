use Rattle.std.proofs.Common.{◌≡◌, ◌≤◌, Contains, Option, IfSome, subst, ◌∙◌}
use Rattle.fs_store.specs.declared.reads.Loaded.{Loaded}
use Rattle.fs_store.proofs.Loadings.{costs_none}
use Rattle.fs_store.proofs.Recents.{loaded_again, loaded_read, read_with}
use Rattle.fs_store.proofs.file.OpenFile.recall.Goals as goal

pub returns-in-Some-clause-loaded : goal.returns-in-Some-clause-loaded
returns-in-Some-clause-loaded g c =
    let found = subst (λ (x : Option Loaded). IfSome x (λ l. Contains c.args.recent.now (c.args.oid, l) × (l.place ≡ c.place-place.result) × (l.serial ≤ c.args.at))) c.in-Some.is c.in_ok-loaded.ensures.found in
    loaded_again (g.D.Disk.told c.args.disk.now) c.args.self.now c.args.oid c.args.at c.in-Some.loaded c.requires.known (c.requires.read (c.args.oid, c.in-Some.loaded) found.0) (found.1 ∙ c.place-place.ensures) found.2

pub returns-in-Some-clause-reads : goal.returns-in-Some-clause-reads
returns-in-Some-clause-reads g c = costs_none (g.D.Disk.told c.args.disk.now) c.args.self.now.end c.args.oid c.args.at (g.D.Disk.counter c.args.disk.now).calls

pub returns-in_err-loaded-clause-reads : goal.returns-in_err-loaded-clause-reads
returns-in_err-loaded-clause-reads g c = costs_none (g.D.Disk.told c.args.disk.now) c.args.self.now.end c.args.oid c.args.at (g.D.Disk.counter c.args.disk.now).calls

pub returns-clause-read : goal.returns-clause-read
returns-clause-read g c =
    let o = g.D.Disk.told c.args.disk.now in
    let u = g.D.Disk.told c.load.new.disk in
    let end = c.args.self.now.end in
    let loaded = c.in_ok-loaded-2.loaded in
    read_with o u end c.args.oid loaded c.get.new.self c.keep.new.self c.load.ensures.only_reads.same c.keep.ensures
    (λ e there. c.requires.read e (c.get.ensures.stays e there)) (loaded_read o end c.args.oid c.args.at loaded c.in_ok-loaded-2.ensures.loaded)
