use Rattle.std.proofs.Common.{reverse}
use Rattle.zdisk.specs.Keeping.{buffer_of}
use Rattle.zdisk.specs.Undoing.{fits_len}
use Rattle.zdisk.proofs.Covering.{fits_kept, told_kept}
use Rattle.zdisk.proofs.recorded.RecordedFile.keep.Goals as goal

pub invariant_of-self-clause-fits : goal.invariant_of-self-clause-fits
invariant_of-self-clause-fits c =
    let d = c.args.self.now in
    fits_kept (buffer_of d) d.entries.items _ c.note.ensures.items (fits_len (buffer_of d) (reverse d.entries.items) d.fits) d.fits

pub returns-clause-told : goal.returns-clause-told
returns-clause-told c =
    let d = c.args.self.now in
    told_kept (buffer_of d) d.entries.items _ c.note.ensures.items
