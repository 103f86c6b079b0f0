use Rattle.std.proofs.Common.{◌≤◌, length, take, reverse, refl, sym, ap, ◌∙◌, arith}
use Rattle.std.proofs.lemmas.List.{take-take}
use Rattle.zdisk.specs.Keeping.{buffer_of}
use Rattle.zdisk.specs.Undoing.{fits_len}
use Rattle.zdisk.proofs.Covering.{fits_cut, told_cut}
use Rattle.zdisk.proofs.Telling.{now_told, place_within}
use Rattle.zdisk.proofs.recorded.RecordedFile.cut_whole.Goals as goal

pub invariant_of-self-clause-fits : goal.invariant_of-self-clause-fits
invariant_of-self-clause-fits c =
    let d = c.args.self.now in
    let inside : d.len ≤ length d.bytes.items = fits_len (buffer_of d) (reverse d.entries.items) d.fits in
    let before : c.args.to ≤ d.len = place_within (buffer_of d) d.entries.items c.args.to inside c.requires.within in
    fits_cut (buffer_of d) (record { bytes = d.bytes.items; len = c.args.to; covered = d.covered.items }) d.entries.items _ d.len refl c.note.ensures.items (omega (arith, before, inside)) d.fits

pub returns-clause-told : goal.returns-clause-told
returns-clause-told c =
    let d = c.args.self.now in
    let inside : d.len ≤ length d.bytes.items = fits_len (buffer_of d) (reverse d.entries.items) d.fits in
    let before : c.args.to ≤ d.len = place_within (buffer_of d) d.entries.items c.args.to inside c.requires.within in
    told_cut (buffer_of d) (record { bytes = d.bytes.items; len = c.args.to; covered = d.covered.items }) d.entries.items _ d.len _ refl c.note.ensures.items (sym (take-take c.args.to d.len d.bytes.items before) ∙ ap (take c.args.to) (sym (now_told (buffer_of d) d.entries.items)))
