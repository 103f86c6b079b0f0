use Rattle.std.proofs.Common.{◌≤◌, ◌+◌, length, reverse, ap, arith}
use Rattle.zdisk.specs.Keeping.{buffer_of}
use Rattle.zdisk.specs.Undoing.{fits_len}
use Rattle.zdisk.proofs.Telling.{place_within, read_gives}
use Rattle.zdisk.proofs.recorded.RecordedFile.read.Goals as goal

pub overflow_add-at : goal.overflow_add-at
overflow_add-at c =
    let d = c.args.self.now in
    let inside : d.len ≤ length d.bytes.items = fits_len (buffer_of d) (reverse d.entries.items) d.fits in
    omega (arith, place_within (buffer_of d) d.entries.items (c.args.at + length c.args.buf.now) inside c.requires.within, inside, d.bytes.ok, d.bytes.small)

pub slice_bounds-copy_from_slice-end : goal.slice_bounds-copy_from_slice-end
slice_bounds-copy_from_slice-end c =
    let d = c.args.self.now in
    let inside : d.len ≤ length d.bytes.items = fits_len (buffer_of d) (reverse d.entries.items) d.fits in
    omega (arith, place_within (buffer_of d) d.entries.items (c.args.at + length c.args.buf.now) inside c.requires.within, inside, ap length c.deref.ensures.value)

pub returns : goal.returns
returns c =
    let d = c.args.self.now in
    let inside : d.len ≤ length d.bytes.items = fits_len (buffer_of d) (reverse d.entries.items) d.fits in
    let within = place_within (buffer_of d) d.entries.items (c.args.at + length c.args.buf.now) inside c.requires.within in
    read_gives d.bytes.items d.covered.items d.len c.args.at d.entries.items _ _ _ within c.deref.ensures.value c.copy_from_slice.ensures.len c.copy_from_slice.ensures.after
