use Rattle.std.proofs.Common.{◌≡◌, Option, None, Some, length, refl, sym, subst, ◌∙◌, arith}
use Rattle.zdisk.specs.Disk.{Told, bytes_at}
use Rattle.fs_scan.specs.Ahead.{IsAhead, unread}
use Rattle.fs_scan.specs.OnlyReads.{reads_as, reads_none, reads_then}
use Rattle.fs_store.proofs.Tellings.{always, moved, on_both, on_four, on_told}
use Rattle.fs_store.proofs.Walking.{AddsRow, Logged, Tells, logged_all, logged_costs, logged_more, logged_none, no_head}
use Rattle.fs_store.proofs.file.OpenFile.log.Goals as goal

pub each-init : goal.each-init
each-init g c =
    let o = g.D.Disk.told c.args.disk.now in
    let calls = (g.D.Disk.counter c.args.disk.now).calls in
    record {
      logged = on_told o _ (λ told. Logged told c.args.self.now 4 c.args.at c.new-rows.result calls calls) (λ told k. logged_none told c.args.self.now c.args.at calls c.new-rows.result k.0 c.new-rows.ensures) c.requires;
      ahead = subst (IsAhead o) (sym c.new-ahead.ensures) (always o (λ told. unread.bytes ≡ bytes_at told unread.from (length unread.bytes)) (λ told. refl));
      only = reads_none g.D.Disk c.args.disk.now;
    }

pub returns-in_default-clause-rows : goal.returns-in_default-clause-rows
returns-in_default-clause-rows g c =
    let o = g.D.Disk.told c.args.disk.now in
    let i = c.each.invariant in
    on_both o _ (λ told. Tells told c.each.place None) _
    (λ told l t. no_head told c.args.self.now c.each.place l.ts l.walked c.each-test.true t) i.logged (moved _ o _ (sym i.only.same) (rw c.in_default.is at c.in_ok-head.ensures.head))

pub returns-in_default-clause-reads : goal.returns-in_default-clause-reads
returns-in_default-clause-reads g c =
    let o = g.D.Disk.told c.args.disk.now in
    let i = c.each.invariant in
    on_both o _ (λ told. Tells told c.each.place None) _
    (λ told l t. no_head told c.args.self.now c.each.place l.ts l.walked c.each-test.true t) i.logged (moved _ o _ (sym i.only.same) (rw c.in_default.is at c.in_ok-head.ensures.head))

pub each-preserved : goal.each-preserved
each-preserved g c =
    let o = g.D.Disk.told c.args.disk.now in
    let i = c.each.invariant in
    let e = c.in_ok-head.ensures in
    let a = c.in_ok-add_row.ensures in
    let calls = (g.D.Disk.counter c.args.disk.now).calls in
    let now = (g.D.Disk.counter c.each.disk).calls in
    let more = (g.D.Disk.counter c.add_row.new.disk).calls in
    record {
      logged = on_four o _ (λ told. Logged told c.args.self.now c.each.place c.args.at c.each.rows calls now) (λ told. Tells told c.each.place (Some c.in-Some.head)) (λ told. AddsRow told c.each.place c.in-Some.head c.args.self.now.floor c.args.at c.each.rows c.add_row.new.rows) (λ told. Logged told c.args.self.now c.behind-place.result c.args.at c.add_row.new.rows calls more)
          (λ told k l t s. logged_more told c.args.self.now c.each.place c.args.at c.behind-place.result c.each.rows c.add_row.new.rows c.in-Some.head calls now more (omega (arith, k.1, k.0.within)) l c.each-test.true t s c.behind-place.ensures (omega (arith, e.reads, a.reads))) c.requires i.logged (moved _ o _ (sym i.only.same) (rw c.in-Some.is at e.head))
          (moved _ o _ (sym (e.only_reads.same ∙ i.only.same)) a.added);
      ahead = subst (λ (d : Option Told). IsAhead d c.add_row.new.ahead) (e.only_reads.same ∙ i.only.same) a.ahead;
      only = reads_then i.only (λ none. none) (reads_then (reads_as e.only_reads (λ x. cc) (λ none. absurd none)) (λ none. none) (reads_as a.only_reads (λ x. cc) (λ none. absurd none)));
    }

pub returns-clause-rows : goal.returns-clause-rows
returns-clause-rows g c =
    on_both (g.D.Disk.told c.args.disk.now) _ _ _ (λ told k l. logged_all told c.args.self.now c.each.place c.args.at c.each.rows _ _ k.0 l c.each-test.false) c.requires c.each.invariant.logged

pub returns-clause-reads : goal.returns-clause-reads
returns-clause-reads g c =
    on_told (g.D.Disk.told c.args.disk.now) _ _ (λ told l. logged_costs told c.args.self.now c.each.place c.args.at c.each.rows _ _ l) c.each.invariant.logged
