use Rattle.std.proofs.Common.{◌≡◌, IfSome, List, Option, Some, None, arith, sym, ap, subst, ◌∙◌}
use Rattle.std.specs.Option.{option_map}
use Rattle.zbase.specs.Values.{transaction, upto}
use Rattle.evaluator.specs.Facts.{parts_of, unpacked_at}
use Rattle.fs_scan.specs.declared.wholes.OidValue.{OidValue}
use Rattle.fs_scan.specs.Wholes.{records_in}
use Rattle.fs_store.specs.Parts.{records_of}
use Rattle.fs_store.specs.declared.file.OpenFile.{OpenFile}
use Rattle.fs_record.specs.FileLaws.{file_history}
use Rattle.fs_store.specs.Fronts.{history_at}
use Rattle.fs_store.proofs.PartSteps.{none_found, parts_are, parts_none, parts_packed, transaction_beyond, transaction_within}
use Rattle.fs_store.specs.Seeking.{CostsParts, CostsRead, CostsValues}
use Rattle.fs_store.proofs.Sought.{no_walk}
use Rattle.fs_store.proofs.Tellings.{always, moved, on_both, on_three, on_told}
use Rattle.fs_store.proofs.file.OpenFile.transaction.Goals as goal

pub returns-then-at-tid-clause-parts : goal.returns-then-at-tid-clause-parts
returns-then-at-tid-clause-parts g c =
    always (g.D.Disk.told c.args.disk.now) (λ told. None ≡ option_map (parts_of (upto (history_at told c.args.self.now.end) c.args.at)) (unpacked_at (upto (history_at told c.args.self.now.end) c.args.at) c.args.tid))
    (λ told. parts_none (history_at told c.args.self.now.end) c.args.tid c.args.at (transaction_beyond (history_at told c.args.self.now.end) c.args.tid c.args.at c.if-at-tid.true))

pub returns-then-tid-self-clause-parts : goal.returns-then-tid-self-clause-parts
returns-then-tid-self-clause-parts g c =
    on_told (g.D.Disk.told c.args.disk.now) _ (λ told. None ≡ option_map (parts_of (upto (history_at told c.args.self.now.end) c.args.at)) (unpacked_at (upto (history_at told c.args.self.now.end) c.args.at) c.args.tid))
    (λ told k. parts_packed (history_at told c.args.self.now.end) c.args.tid c.args.at c.args.self.now.floor k.0.floor_is (omega (arith, c.if-tid-self.true, ap (λ (k : OpenFile). k.floor) c.self.view_is))) c.requires

pub returns-in-None-clause-parts : goal.returns-in-None-clause-parts
returns-in-None-clause-parts g c =
    let found = subst (λ (w : Option (List OidValue)). IfSome (g.D.Disk.told c.args.disk.now) (λ told. option_map records_in w ≡ option_map records_of (transaction (history_at told c.args.self.now.end) c.args.tid))) c.in-None.is c.in_ok-values_with.ensures.found in
    on_told (g.D.Disk.told c.args.disk.now) _ (λ told. None ≡ option_map (parts_of (upto (history_at told c.args.self.now.end) c.args.at)) (unpacked_at (upto (history_at told c.args.self.now.end) c.args.at) c.args.tid))
    (λ told f.
    let h = history_at told c.args.self.now.end in
    parts_none h c.args.tid c.args.at (transaction_within h c.args.tid c.args.at (omega (arith, c.if-at-tid.false)) ∙ none_found (transaction h c.args.tid) f)) found

pub returns-in_ok-parts_of-in-Some-clause-parts : goal.returns-in_ok-parts_of-in-Some-clause-parts
returns-in_ok-parts_of-in-Some-clause-parts g c =
    let o = g.D.Disk.told c.args.disk.now in
    let found = subst (λ (w : Option (List OidValue)). IfSome o (λ told. option_map records_in w ≡ option_map records_of (transaction (history_at told c.args.self.now.end) c.args.tid))) c.in-Some.is c.in_ok-values_with.ensures.found in
    let parts = moved _ o _ (sym c.in_ok-values_with.ensures.only_reads.same) c.in_ok-parts_of-in-Some.ensures.parts in
    on_three o _ _ _ (λ told. Some c.in_ok-parts_of-in-Some.field-0 ≡ option_map (parts_of (upto (history_at told c.args.self.now.end) c.args.at)) (unpacked_at (upto (history_at told c.args.self.now.end) c.args.at) c.args.tid))
    (λ told k f p. parts_are (history_at told c.args.self.now.end) c.args.tid c.args.at c.args.self.now.floor c.in-Some.values c.as_slice.result.now c.in_ok-parts_of-in-Some.field-0 (file_history _ _ k.0.file) k.0.floor_is (omega (arith, c.if-tid-self.false, ap (λ (k : OpenFile). k.floor) c.self.view_is)) (omega (arith, c.if-at-tid.false)) f c.as_slice.ensures p) c.requires found parts

-- ---- what it costs

pub returns-then-at-tid-clause-reads : goal.returns-then-at-tid-clause-reads
returns-then-at-tid-clause-reads g c = on_told (g.D.Disk.told c.args.disk.now) _ _ (λ told k. no_walk told c.args.self.now c.args.tid _ k.0) c.requires

pub returns-then-tid-self-clause-reads : goal.returns-then-tid-self-clause-reads
returns-then-tid-self-clause-reads g c = on_told (g.D.Disk.told c.args.disk.now) _ _ (λ told k. no_walk told c.args.self.now c.args.tid _ k.0) c.requires

pub returns-in-None-clause-reads : goal.returns-in-None-clause-reads
returns-in-None-clause-reads g c =
    let calls = (g.D.Disk.counter c.args.disk.now).calls in
    let read = (g.D.Disk.counter c.values_with.new.disk).calls in
    subst (λ (w : Option (List OidValue)). IfSome (g.D.Disk.told c.args.disk.now) (λ told. CostsValues told c.args.self.now.end c.args.tid w calls read)) c.in-None.is c.in_ok-values_with.ensures.reads

pub returns-in_ok-parts_of-in-Some-clause-reads : goal.returns-in_ok-parts_of-in-Some-clause-reads
returns-in_ok-parts_of-in-Some-clause-reads g c =
    let o = g.D.Disk.told c.args.disk.now in
    let end = c.args.self.now.end in
    let calls = (g.D.Disk.counter c.args.disk.now).calls in
    let read = (g.D.Disk.counter c.values_with.new.disk).calls in
    let more = (g.D.Disk.counter c.parts_of.new.disk).calls in
    let values = subst (λ (w : Option (List OidValue)). IfSome o (λ told. CostsValues told end c.args.tid w calls read)) c.in-Some.is c.in_ok-values_with.ensures.reads in
    let loads = moved _ o _ (sym c.in_ok-values_with.ensures.only_reads.same) c.in_ok-parts_of-in-Some.ensures.reads in
    on_both o (λ told. CostsRead told end c.args.tid calls read) _ (λ told. CostsParts told end c.args.tid (Some c.in_ok-parts_of-in-Some.field-0) calls more) (λ told v l. (read, v, l)) values loads
