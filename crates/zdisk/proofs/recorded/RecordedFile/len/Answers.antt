use Rattle.std.proofs.Common.{reverse, sym}
use Rattle.zdisk.specs.Keeping.{buffer_of}
use Rattle.zdisk.specs.Undoing.{fits_len}
use Rattle.zdisk.proofs.Telling.{length_told}
use Rattle.zdisk.proofs.recorded.RecordedFile.len.Goals as goal

pub returns : goal.returns
returns c =
    let d = c.args.self.now in
    sym (length_told (buffer_of d) d.entries.items (fits_len (buffer_of d) (reverse d.entries.items) d.fits))
