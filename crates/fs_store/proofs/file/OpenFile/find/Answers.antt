use Rattle.std.proofs.Common.{IfSome, Some, None, sym, subst, ◌∙◌, arith}
use Rattle.std.proofs.lemmas.Bool.{leb-true, leb-false}
use Rattle.fs_scan.specs.OnlyReads.{reads_as, reads_none, reads_then}
use Rattle.fs_store.specs.Finding.{FoundIn, WayBack}
use Rattle.fs_store.proofs.Tellings.{moved, on_told, on_both}
use Rattle.fs_store.proofs.WayBack.{Tells, found_here, no_head, none_here, prev_before, way_first, way_on}
use Rattle.fs_store.proofs.file.OpenFile.find.Goals as goal

pub back-init : goal.back-init
back-init g c =
    let o = g.D.Disk.told c.args.disk.now in
    record {
      way = subst (λ n. IfSome o (λ told. WayBack told c.args.self.now.end c.args.oid c.args.at n (g.D.Disk.counter c.args.disk.now).calls (g.D.Disk.counter c.args.disk.now).calls)) (sym c.place-place.ensures)
          (on_told o _ _ (λ told k. way_first told c.args.self.now c.args.oid c.args.at _ k.0) c.requires);
      only = reads_none g.D.Disk c.args.disk.now;
    }

pub returns-in-None-clause-found : goal.returns-in-None-clause-found
returns-in-None-clause-found g c =
    let o = g.D.Disk.told c.args.disk.now in
    let tells = subst (λ h. IfSome (g.D.Disk.told c.back.disk) (λ told. Tells told c.back.place h)) c.in-None.is c.in_ok-head.ensures.head in
    on_both o (λ told. WayBack told c.args.self.now.end c.args.oid c.args.at c.back.place (g.D.Disk.counter c.args.disk.now).calls (g.D.Disk.counter c.back.disk).calls) (λ told. Tells told c.back.place None) (λ told. FoundIn told c.args.self.now.end c.args.oid c.args.at None)
    (λ told w t. no_head told _ _ _ _ _ _ w c.back-test.true t) c.back.invariant.way (moved _ o _ (sym c.back.invariant.only.same) tells)

pub returns-then-is_upto-clause-found : goal.returns-then-is_upto-clause-found
returns-then-is_upto-clause-found g c =
    let o = g.D.Disk.told c.args.disk.now in
    let tells = subst (λ h. IfSome (g.D.Disk.told c.back.disk) (λ told. Tells told c.back.place h)) c.in-Some.is c.in_ok-head.ensures.head in
    let le = leb-true c.in-Some.head.tid c.args.at (sym c.is_upto.ensures ∙ c.if-is_upto.true) in
    on_both o (λ told. WayBack told c.args.self.now.end c.args.oid c.args.at c.back.place (g.D.Disk.counter c.args.disk.now).calls (g.D.Disk.counter c.back.disk).calls) (λ told. Tells told c.back.place (Some c.in-Some.head)) (λ told. FoundIn told c.args.self.now.end c.args.oid c.args.at (Some (record { place = c.back.place; head = c.in-Some.head })))
    (λ told w t. found_here told _ _ _ _ _ _ _ w c.back-test.true t le) c.back.invariant.way (moved _ o _ (sym c.back.invariant.only.same) tells)

pub returns-then-head-place-clause-found : goal.returns-then-head-place-clause-found
returns-then-head-place-clause-found g c =
    let o = g.D.Disk.told c.args.disk.now in
    let tells = subst (λ h. IfSome (g.D.Disk.told c.back.disk) (λ told. Tells told c.back.place h)) c.in-Some.is c.in_ok-head.ensures.head in
    on_both o (λ told. WayBack told c.args.self.now.end c.args.oid c.args.at c.back.place (g.D.Disk.counter c.args.disk.now).calls (g.D.Disk.counter c.back.disk).calls) (λ told. Tells told c.back.place (Some c.in-Some.head)) (λ told. FoundIn told c.args.self.now.end c.args.oid c.args.at None)
    (λ told w t. absurd (omega (arith, prev_before told _ _ _ _ _ _ _ w c.back-test.true t, c.if-head-place.true))) c.back.invariant.way (moved _ o _ (sym c.back.invariant.only.same) tells)

pub back-preserved : goal.back-preserved
back-preserved g c =
    let o = g.D.Disk.told c.args.disk.now in
    let i = c.back.invariant in
    let e = c.in_ok-head.ensures in
    let tells = subst (λ h. IfSome (g.D.Disk.told c.back.disk) (λ told. Tells told c.back.place h)) c.in-Some.is e.head in
    let lt = leb-false c.in-Some.head.tid c.args.at (sym c.is_upto.ensures ∙ c.if-is_upto.false) in
    record {
      way = on_both o (λ told. WayBack told c.args.self.now.end c.args.oid c.args.at c.back.place (g.D.Disk.counter c.args.disk.now).calls (g.D.Disk.counter c.back.disk).calls) (λ told. Tells told c.back.place (Some c.in-Some.head)) (λ told. WayBack told c.args.self.now.end c.args.oid c.args.at c.in-Some.head.prev (g.D.Disk.counter c.args.disk.now).calls (g.D.Disk.counter c.read_head.new.disk).calls)
          (λ told w t. way_on told _ _ _ _ _ _ _ _ w c.back-test.true t lt e.reads) i.way (moved _ o _ (sym i.only.same) tells);
      only = reads_then i.only (λ none. none) (reads_as e.only_reads (λ x. cc) (λ none. absurd none));
    }

pub returns-clause-found : goal.returns-clause-found
returns-clause-found g c =
    on_told (g.D.Disk.told c.args.disk.now) (λ told. WayBack told c.args.self.now.end c.args.oid c.args.at c.back.place (g.D.Disk.counter c.args.disk.now).calls (g.D.Disk.counter c.back.disk).calls) (λ told. FoundIn told c.args.self.now.end c.args.oid c.args.at None)
    (λ told w. none_here told _ _ _ _ _ _ w (omega (arith, c.back-test.false))) c.back.invariant.way
