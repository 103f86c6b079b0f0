use Rattle.std.proofs.Common.{◌-◌, Some, None, sym, arith}
use Rattle.fs_store.proofs.Sought.{TellsHead, TellsLength, TellsRecord, head_there, no_head_there, no_tail, too_long}
use Rattle.fs_store.proofs.Tellings.{moved, on_both, on_told}
use Rattle.fs_store.proofs.seeking.txn_before.Goals as goal

pub returns-in_default-clause-found : goal.returns-in_default-clause-found
returns-in_default-clause-found g c =
    on_told (g.D.Disk.told c.args.disk.now) (λ told. TellsLength told c.args.end None) (λ told. TellsRecord told c.args.end None) (λ told t. no_tail told c.args.end t) (rw c.in_default.is at c.in_ok-long.ensures.length)

pub returns-then-end-size-clause-found : goal.returns-then-end-size-clause-found
returns-then-end-size-clause-found g c =
    on_told (g.D.Disk.told c.args.disk.now) (λ told. TellsLength told c.args.end (Some c.in-Some.long)) (λ told. TellsRecord told c.args.end None)
    (λ told t. too_long told c.args.end c.in-Some.long c.saturating_add-size.result t (omega arith) c.saturating_add-size.ensures c.if-end-size.true) (rw c.in-Some.is at c.in_ok-long.ensures.length)

pub returns-in-Some-2-clause-found : goal.returns-in-Some-2-clause-found
returns-in-Some-2-clause-found g c =
    let o = g.D.Disk.told c.args.disk.now in
    let size = c.saturating_add-size.result in
    let place = c.args.end - size in
    on_both o (λ told. TellsLength told c.args.end (Some c.in-Some.long)) (λ told. TellsHead told place (Some c.in-Some-2.head)) (λ told. TellsRecord told c.args.end (Some (record { place = place; head = c.in-Some-2.head })))
    (λ told t h. head_there told c.args.end c.in-Some.long size place c.in-Some-2.head t (omega arith) c.saturating_add-size.ensures (omega arith) h) (rw c.in-Some.is at c.in_ok-long.ensures.length)
    (moved _ o _ (sym c.in_ok-long.ensures.only_reads.same) (rw c.in-Some-2.is at c.in_ok-head.ensures.head))

pub returns-in-None-clause-found : goal.returns-in-None-clause-found
returns-in-None-clause-found g c =
    let o = g.D.Disk.told c.args.disk.now in
    let size = c.saturating_add-size.result in
    let place = c.args.end - size in
    on_both o (λ told. TellsLength told c.args.end (Some c.in-Some.long)) (λ told. TellsHead told place None) (λ told. TellsRecord told c.args.end None)
    (λ told t h. no_head_there told c.args.end c.in-Some.long size place t (omega arith) c.saturating_add-size.ensures (omega arith) h) (rw c.in-Some.is at c.in_ok-long.ensures.length)
    (moved _ o _ (sym c.in_ok-long.ensures.only_reads.same) (rw c.in-None.is at c.in_ok-head.ensures.head))
