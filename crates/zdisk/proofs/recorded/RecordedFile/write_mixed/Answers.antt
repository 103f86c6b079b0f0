use Rattle.std.proofs.Common.{◌≡◌, ◌≤◌, ◌+◌, ◌-◌, ℕ, List, length, max, min, drop, take, reverse, refl, sym, ap, subst, false, if◌then◌else◌, ◌∙◌, arith}
use Rattle.std.proofs.lemmas.List.{with_items_is}
use Rattle.std.specs.Vec.{with_items}
use Rattle.zdisk.specs.Calls.{put}
use Rattle.zbase.specs.Limits.{greatest_number}
use Rattle.zdisk.specs.Filling.{IsFilled}
use Rattle.zdisk.specs.Keeping.{buffer_of}
use Rattle.zdisk.specs.Seeds.{image_of, takes_new}
use Rattle.zdisk.specs.Undoing.{fits_len}
use Rattle.zdisk.proofs.Covering.{fits_alike, told_alike, fits_piece, fits_write, last_piece, length_put, room_one, told_write, undone_mixed}
use Rattle.zdisk.proofs.Mixing.{either_length, either_within, written_image}
use Rattle.zdisk.proofs.Telling.{now_told, place_within, written_within}
use Rattle.zdisk.proofs.recorded.RecordedFile.write_mixed.Goals as goal

pub cover-covered-requires-clause-within : goal.cover-covered-requires-clause-within
cover-covered-requires-clause-within c =
    let d = c.args.self.now in
    let inside : d.len ≤ length d.bytes.items = fits_len (buffer_of d) (reverse d.entries.items) d.fits in
    omega (arith, place_within (buffer_of d) d.entries.items c.args.at inside c.requires.within, inside, d.bytes.ok)

pub overflow_add-end : goal.overflow_add-end
overflow_add-end c =
    let d = c.args.self.now in
    let inside : d.len ≤ length d.bytes.items = fits_len (buffer_of d) (reverse d.entries.items) d.fits in
    omega (arith, place_within (buffer_of d) d.entries.items c.args.at inside c.requires.within, inside, d.room, c.requires.space, d.bytes.ok, d.bytes.small)

pub overflow_sub-self-4 : goal.overflow_sub-self-4
overflow_sub-self-4 c =
    let d = c.args.self.now in
    place_within (buffer_of d) d.entries.items c.args.at (fits_len (buffer_of d) (reverse d.entries.items) d.fits) c.requires.within

pub fill-requires-clause-within : goal.fill-requires-clause-within
fill-requires-clause-within c =
    let d = c.args.self.now in
    let piece = c.args.piece.now in
    let inside : d.len ≤ length d.bytes.items = fits_len (buffer_of d) (reverse d.entries.items) d.fits in
    let at : c.args.at ≤ length d.bytes.items = omega (arith, place_within (buffer_of d) d.entries.items c.args.at inside c.requires.within, inside) in
    omega (arith, ap length c.deref_mut.ensures.value, ap length c.cover-covered.ensures.bytes, length_put c.args.at piece d.bytes.items at)

pub invariant_of-self-clause-fits : goal.invariant_of-self-clause-fits
invariant_of-self-clause-fits c =
    let d = c.args.self.now in
    let w = c.cover-covered in
    let piece = c.args.piece.now in
    let over = take (length piece) (drop c.args.at d.bytes.items) in
    let inside : d.len ≤ length d.bytes.items = fits_len (buffer_of d) (reverse d.entries.items) d.fits in
    let before : c.args.at ≤ d.len = place_within (buffer_of d) d.entries.items c.args.at inside c.requires.within in
    let at : c.args.at ≤ length d.bytes.items = omega (arith, before, inside) in
    let old = take (c.len-from.result + c.min.result - c.len-from.result) (drop c.len-from.result c.deref.result.now) in
    let fill : IsFilled c.args.seed false c.args.at (c.args.at + length piece) old w.new.bytes.items c.fill.new.bytes = subst (λ (xs : List ℕ). IsFilled c.args.seed false c.args.at (c.args.at + length piece) old xs c.fill.new.bytes) c.deref_mut.ensures.value c.fill.ensures in
    let most : c.max.result ≤ length c.fill.new.bytes = omega (arith, written_within d.bytes.items w.new.bytes.items d.len c.max.result c.args.at piece before inside w.ensures.bytes c.max.ensures, fill.long) in
    let within : c.length_by-self.result ≤ length c.fill.new.bytes = subst (λ (n : ℕ). n ≤ length c.fill.new.bytes) (sym c.length_by-self.ensures) (either_within (takes_new c.args.seed greatest_number) c.max.result d.len (length c.fill.new.bytes) most (omega (arith, most, c.max.ensures))) in
    let items : (with_items w.new.bytes c.fill.new.bytes).items ≡ c.fill.new.bytes = with_items_is w.new.bytes c.fill.new.bytes (omega (arith, fill.long, w.new.bytes.ok)) in
    fits_alike c.fill.new.bytes (with_items w.new.bytes c.fill.new.bytes).items w.new.covered.items w.new.covered.items c.length_by-self.result c.note.new.entries.items items refl
    (
    fits_write (buffer_of d) (record { bytes = c.fill.new.bytes; len = c.length_by-self.result; covered = w.new.covered.items }) d.entries.items _ c.args.at (length piece) w.result d.len
    (undone_mixed c.args.seed c.args.at w.result d.len c.length_by-self.result piece old d.bytes.items w.new.bytes.items c.fill.new.bytes d.covered.items w.new.covered.items at w.ensures.bytes w.ensures.covered w.ensures.count fill)
    c.note.ensures.items
    within
    (fits_piece c.args.at w.result c.length_by-self.result piece d.bytes.items c.fill.new.bytes d.covered.items w.new.covered.items at (fill.long ∙ ap length w.ensures.bytes) w.ensures.covered w.ensures.count)
    d.fits
    )

pub invariant_of-self-clause-kept : goal.invariant_of-self-clause-kept
invariant_of-self-clause-kept c =
    let d = c.args.self.now in
    let w = c.cover-covered in
    let left = d.spare - length c.args.piece.now in
    omega (arith, w.ensures.covered_len, w.ensures.covered_capacity, d.kept, c.requires.space, room_one d.faults (d.faults - 1) (d.bytes.len + d.spare) (w.new.bytes.len + left) (omega (arith, c.requires.faults)) (omega (arith, w.ensures.len, c.requires.space)))

pub returns-clause-told : goal.returns-clause-told
returns-clause-told c =
    let d = c.args.self.now in
    let w = c.cover-covered in
    let piece = c.args.piece.now in
    let over = take (length piece) (drop c.args.at d.bytes.items) in
    let inside : d.len ≤ length d.bytes.items = fits_len (buffer_of d) (reverse d.entries.items) d.fits in
    let before : c.args.at ≤ d.len = place_within (buffer_of d) d.entries.items c.args.at inside c.requires.within in
    let at : c.args.at ≤ length d.bytes.items = omega (arith, before, inside) in
    let old = take (c.len-from.result + c.min.result - c.len-from.result) (drop c.len-from.result c.deref.result.now) in
    let fill : IsFilled c.args.seed false c.args.at (c.args.at + length piece) old w.new.bytes.items c.fill.new.bytes = subst (λ (xs : List ℕ). IsFilled c.args.seed false c.args.at (c.args.at + length piece) old xs c.fill.new.bytes) c.deref_mut.ensures.value c.fill.ensures in
    let most : c.max.result ≤ length c.fill.new.bytes = omega (arith, written_within d.bytes.items w.new.bytes.items d.len c.max.result c.args.at piece before inside w.ensures.bytes c.max.ensures, fill.long) in
    let within : c.length_by-self.result ≤ length c.fill.new.bytes = subst (λ (n : ℕ). n ≤ length c.fill.new.bytes) (sym c.length_by-self.ensures) (either_within (takes_new c.args.seed greatest_number) c.max.result d.len (length c.fill.new.bytes) most (omega (arith, most, c.max.ensures))) in
    let covered_by : old ≡ take (min w.result (d.len - c.args.at)) over =
    last_piece c.len-from.result c.min.result c.deref.result.now d.covered.items w.new.covered.items over c.deref.ensures.value w.ensures.covered (omega (arith, c.len-from.ensures, d.covered.ok)) ∙ ap (λ (k : ℕ). take k over) c.min.ensures in
    let long : c.length_by-self.result ≡ (if takes_new c.args.seed greatest_number then max d.len (c.args.at + length piece) else d.len) = c.length_by-self.ensures ∙ either_length (takes_new c.args.seed greatest_number) c.max.result d.len _ _ c.max.ensures refl in
    let items : (with_items w.new.bytes c.fill.new.bytes).items ≡ c.fill.new.bytes = with_items_is w.new.bytes c.fill.new.bytes (omega (arith, fill.long, w.new.bytes.ok)) in
    told_alike c.fill.new.bytes (with_items w.new.bytes c.fill.new.bytes).items w.new.covered.items w.new.covered.items c.length_by-self.result c.note.new.entries.items c.note.new.entries.items items refl refl
    ∙ (
    told_write (buffer_of d) (record { bytes = c.fill.new.bytes; len = c.length_by-self.result; covered = w.new.covered.items }) d.entries.items _ c.args.at (length piece) w.result d.len _
    (undone_mixed c.args.seed c.args.at w.result d.len c.length_by-self.result piece old d.bytes.items w.new.bytes.items c.fill.new.bytes d.covered.items w.new.covered.items at w.ensures.bytes w.ensures.covered w.ensures.count fill)
    c.note.ensures.items
    (
    written_image c.args.seed c.args.at d.len c.length_by-self.result w.result piece d.bytes.items w.new.bytes.items c.fill.new.bytes old before inside w.ensures.bytes w.ensures.count covered_by fill long within
    ∙ ap (λ (x : List ℕ). image_of c.args.seed x (put c.args.at piece x)) (sym (now_told (buffer_of d) d.entries.items))
    )
    )
