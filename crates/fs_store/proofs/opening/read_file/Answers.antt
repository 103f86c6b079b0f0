use Rattle.zdisk.specs.Disk.{content}
use Rattle.fs_store.specs.declared.opening.FileRead.{FileRead}
use Rattle.fs_store.specs.FileReads.{Reads}
use Rattle.fs_store.proofs.Readings.{reads_scan}
use Rattle.fs_store.proofs.Tellings.{on_told}
use Rattle.fs_store.proofs.opening.read_file.Goals as goal

pub returns-clause-reads : goal.returns-clause-reads
returns-clause-reads g c =
    let s = c.in_ok-end.field-0 in
    let read : FileRead = record { file = record { index = s.newest; end = s.end; len = s.end; last = s.last; floor = s.floor; next = c.above-next.result; count = s.count }; torn = s.torn } in
    on_told (g.D.Disk.told c.args.disk.now) _ (λ told. Reads (content told) read) (λ told t. reads_scan (content told) s c.above-next.result t c.above-next.ensures.next) c.in_ok-end.ensures.told
