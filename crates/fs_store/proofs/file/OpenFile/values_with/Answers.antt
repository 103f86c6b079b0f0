use Rattle.std.proofs.Common.{◌≡◌, ◌+◌, None, Some, sym}
use Rattle.std.specs.Option.{option_map}
use Rattle.zbase.specs.Values.{transaction}
use Rattle.fs_scan.specs.Wholes.{records_in}
use Rattle.fs_store.specs.Fronts.{history_at}
use Rattle.fs_store.specs.Parts.{records_of}
use Rattle.fs_store.specs.Seeking.{CostsValues, CostsWalk, SoughtIn}
use Rattle.fs_store.proofs.Sought.{CostsBehind, GivesValues, values_cost, values_found, values_none}
use Rattle.fs_store.proofs.Tellings.{moved, on_both, on_four, on_told}
use Rattle.fs_store.proofs.file.OpenFile.values_with.Goals as goal

pub returns-in_default-clause-found : goal.returns-in_default-clause-found
returns-in_default-clause-found g c =
    on_told (g.D.Disk.told c.args.disk.now) (λ told. SoughtIn told c.args.self.now.end c.args.tid None) (λ told. None ≡ option_map records_of (transaction (history_at told c.args.self.now.end) c.args.tid))
    (λ told s. values_none told c.args.self.now.end c.args.tid s) (rw c.in_default.is at c.in_ok-found.ensures.found)

pub returns-clause-found : goal.returns-clause-found
returns-clause-found g c =
    let o = g.D.Disk.told c.args.disk.now in
    let end = c.args.self.now.end in
    let f = c.in-Some.found in
    let e = c.in_ok-found.ensures in
    on_both o (λ told. SoughtIn told end c.args.tid (Some f)) (λ told. GivesValues told f.place f.head c.in_ok-values.values) (λ told. option_map records_in c.in_ok-values.values ≡ option_map records_of (transaction (history_at told end) c.args.tid))
    (λ told s v. values_found told end c.args.tid f c.in_ok-values.values s v) (rw c.in-Some.is at e.found) (moved _ o _ (sym e.only_reads.same) c.in_ok-values.ensures.values)

pub returns-clause-reads : goal.returns-clause-reads
returns-clause-reads g c =
    let o = g.D.Disk.told c.args.disk.now in
    let end = c.args.self.now.end in
    let f = c.in-Some.found in
    let e = c.in_ok-found.ensures in
    let calls = (g.D.Disk.counter c.args.disk.now).calls in
    let mid = (g.D.Disk.counter c.seek.new.disk).calls in
    let more = (g.D.Disk.counter c.values_at.new.disk).calls in
    on_four o (λ told. SoughtIn told end c.args.tid (Some f)) (λ told. GivesValues told f.place f.head c.in_ok-values.values) (λ told. CostsWalk told end c.args.tid calls mid) (λ told. CostsBehind told f.place f.head (mid + 1) more) (λ told. CostsValues told end c.args.tid c.in_ok-values.values calls more)
    (λ told s v w b. values_cost told end c.args.tid calls mid more f c.in_ok-values.values s v w b) (rw c.in-Some.is at e.found) (moved _ o _ (sym e.only_reads.same) c.in_ok-values.ensures.values) e.reads (moved _ o _ (sym e.only_reads.same) c.in_ok-values.ensures.reads)
