use Rattle.std.proofs.Common.{◌≤◌, ◌+◌, ◌-◌, ℕ, length, max, take, reverse, sym, ap, ◌∙◌, arith}
use Rattle.zdisk.specs.Calls.{put}
use Rattle.zdisk.specs.Keeping.{buffer_of}
use Rattle.zdisk.specs.Undoing.{fits_len}
use Rattle.zdisk.proofs.Buffers.{written_file}
use Rattle.zdisk.proofs.Covering.{fits_piece, fits_write, room_less, told_write, undone_wrote}
use Rattle.zdisk.proofs.Telling.{now_told, place_within, written_within}
use Rattle.zdisk.proofs.recorded.RecordedFile.write_whole.Goals as goal

pub cover-covered-requires-clause-within : goal.cover-covered-requires-clause-within
cover-covered-requires-clause-within c =
    let d = c.args.self.now in
    let inside : d.len ≤ length d.bytes.items = fits_len (buffer_of d) (reverse d.entries.items) d.fits in
    omega (arith, place_within (buffer_of d) d.entries.items c.args.at inside c.requires.within, inside, d.bytes.ok)

pub overflow_add-at : goal.overflow_add-at
overflow_add-at c =
    let d = c.args.self.now in
    let inside : d.len ≤ length d.bytes.items = fits_len (buffer_of d) (reverse d.entries.items) d.fits in
    omega (arith, place_within (buffer_of d) d.entries.items c.args.at inside c.requires.within, inside, d.room, c.requires.space, d.bytes.ok, d.bytes.small)

pub invariant_of-self-clause-fits : goal.invariant_of-self-clause-fits
invariant_of-self-clause-fits c =
    let d = c.args.self.now in
    let w = c.cover-covered in
    let piece = c.args.piece.now in
    let inside : d.len ≤ length d.bytes.items = fits_len (buffer_of d) (reverse d.entries.items) d.fits in
    let before : c.args.at ≤ d.len = place_within (buffer_of d) d.entries.items c.args.at inside c.requires.within in
    let at : c.args.at ≤ length d.bytes.items = omega (arith, before, inside) in
    fits_write (buffer_of d) (record { bytes = w.new.bytes.items; len = c.max-self.result; covered = w.new.covered.items }) d.entries.items _ c.args.at (length piece) w.result d.len
    (undone_wrote c.args.at w.result d.len c.max-self.result piece d.bytes.items w.new.bytes.items d.covered.items w.new.covered.items at w.ensures.bytes w.ensures.covered w.ensures.count)
    c.note.ensures.items
    (written_within d.bytes.items w.new.bytes.items d.len c.max-self.result c.args.at piece before inside w.ensures.bytes c.max-self.ensures)
    (fits_piece c.args.at w.result c.max-self.result piece d.bytes.items w.new.bytes.items d.covered.items w.new.covered.items at (ap length w.ensures.bytes) w.ensures.covered w.ensures.count)
    d.fits

pub invariant_of-self-clause-kept : goal.invariant_of-self-clause-kept
invariant_of-self-clause-kept c =
    let d = c.args.self.now in
    let w = c.cover-covered in
    let left = d.spare - length c.args.piece.now in
    omega (arith, w.ensures.covered_len, w.ensures.covered_capacity, d.kept, c.requires.space, room_less d.faults (d.bytes.len + d.spare) (w.new.bytes.len + left) (omega (arith, w.ensures.len, c.requires.space)))

pub returns-clause-told : goal.returns-clause-told
returns-clause-told c =
    let d = c.args.self.now in
    let w = c.cover-covered in
    let piece = c.args.piece.now in
    let inside : d.len ≤ length d.bytes.items = fits_len (buffer_of d) (reverse d.entries.items) d.fits in
    let before : c.args.at ≤ d.len = place_within (buffer_of d) d.entries.items c.args.at inside c.requires.within in
    let at : c.args.at ≤ length d.bytes.items = omega (arith, before, inside) in
    told_write (buffer_of d) (record { bytes = w.new.bytes.items; len = c.max-self.result; covered = w.new.covered.items }) d.entries.items _ c.args.at (length piece) w.result d.len _
    (undone_wrote c.args.at w.result d.len c.max-self.result piece d.bytes.items w.new.bytes.items d.covered.items w.new.covered.items at w.ensures.bytes w.ensures.covered w.ensures.count)
    c.note.ensures.items
    (ap (λ (k : ℕ). take k w.new.bytes.items) c.max-self.ensures ∙ ap (take (max d.len (c.args.at + length piece))) w.ensures.bytes ∙ written_file c.args.at d.len piece d.bytes.items before inside ∙ ap (put c.args.at piece) (sym (now_told (buffer_of d) d.entries.items)))
