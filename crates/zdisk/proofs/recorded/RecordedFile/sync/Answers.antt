use Rattle.std.proofs.Common.{◌≡◌, reverse, sym, subst}
use Rattle.zdisk.specs.Effects.{after_sync}
use Rattle.zdisk.specs.Keeping.{buffer_of, told_in}
use Rattle.zdisk.specs.Recorded.{told_by}
use Rattle.zdisk.specs.Undoing.{fits_len}
use Rattle.zdisk.specs.declared.queue.Met.{Met}
use Rattle.zdisk.proofs.Covering.{fits_sync, told_sync}
use Rattle.zdisk.proofs.recorded.RecordedFile.sync.Goals as goal

pub invariant_of-self-clause-fits : goal.invariant_of-self-clause-fits
invariant_of-self-clause-fits c =
    let d = c.args.self.now in
    fits_sync (buffer_of d) d.entries.items _ c.note.ensures.items (fits_len (buffer_of d) (reverse d.entries.items) d.fits) d.fits

pub returns-in-Nothing-clause-told : goal.returns-in-Nothing-clause-told
returns-in-Nothing-clause-told c =
    let d = c.args.self.now in
    subst (λ (m : Met). told_by (buffer_of d) c.note.new.entries.items ≡ after_sync m (told_in d)) (sym c.in-Nothing.is) (told_sync (buffer_of d) d.entries.items c.note.new.entries.items c.note.ensures.items)
