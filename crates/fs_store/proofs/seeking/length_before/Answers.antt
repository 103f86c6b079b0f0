use Rattle.std.proofs.Common.{Some, inl, inr, arith}
use Rattle.fs_store.proofs.Sought.{TellsLength, no_length, reads_length}
use Rattle.fs_store.proofs.Tellings.{on_told}
use Rattle.fs_store.proofs.seeking.length_before.Goals as goal
use Rattle.fs_store.proofs.seeking.length_before.Goals.{then-end-via-then-end, then-end-via-else-end+then-len-end}

pub returns-then-end-clause-length : goal.returns-then-end-clause-length
returns-then-end-clause-length g c =
    no_length (g.D.Disk.told c.args.disk.now) c.args.len c.args.end c.requires
    (elim c.then-end.branch [
      | then-end-via-then-end w ↦ inl w.if-end.true
      | then-end-via-else-end+then-len-end w ↦ inr w.if-len-end.true
    ])

pub returns-clause-length : goal.returns-clause-length
returns-clause-length g c =
    on_told (g.D.Disk.told c.args.disk.now) _ (λ told. TellsLength told c.args.end (Some c.u64_at.result))
    (λ told r. reads_length told c.args.end c.u64_at.result c.read_at.new.buf r (omega (arith, c.read_at.auto.buf)) c.u64_at.ensures c.u64_at.type_inv) c.in_ok-read_at.ensures.value
