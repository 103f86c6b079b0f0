use Rattle.std.proofs.Common.{◌≡◌, ◌≤◌, ◌+◌, ◌-◌, ℕ, List, [], length, drop, take, reverse, refl, sym, ap, subst, true, ◌++◌, ◌∙◌, arith}
use Rattle.std.proofs.lemmas.List.{length-take, with_items_is}
use Rattle.std.specs.Vec.{with_items}
use Rattle.zbase.specs.Limits.{greatest_number}
use Rattle.zdisk.specs.Filling.{IsFilled}
use Rattle.zdisk.specs.Keeping.{buffer_of}
use Rattle.zdisk.specs.Seeds.{image_of, takes_new}
use Rattle.zdisk.specs.Undoing.{fits_len}
use Rattle.zdisk.proofs.Covering.{fits_alike, told_alike, fits_cover, fits_write, room_one, told_write, undone_cover}
use Rattle.zdisk.proofs.Mixing.{cut_image, either_within}
use Rattle.zdisk.proofs.Telling.{now_told, place_within}
use Rattle.zdisk.proofs.recorded.RecordedFile.cut_mixed.Goals as goal

pub overflow_sub-count : goal.overflow_sub-count
overflow_sub-count c =
    let d = c.args.self.now in
    place_within (buffer_of d) d.entries.items c.args.to (fits_len (buffer_of d) (reverse d.entries.items) d.fits) c.requires.within

pub slice_bounds-push_all-count : goal.slice_bounds-push_all-count
slice_bounds-push_all-count c =
    let d = c.args.self.now in
    let inside : d.len ≤ length d.bytes.items = fits_len (buffer_of d) (reverse d.entries.items) d.fits in
    omega (arith, place_within (buffer_of d) d.entries.items c.args.to inside c.requires.within, inside, ap length c.deref.ensures.value)

pub slice_bounds-push_all-start : goal.slice_bounds-push_all-start
slice_bounds-push_all-start c =
    let d = c.args.self.now in
    let inside : d.len ≤ length d.bytes.items = fits_len (buffer_of d) (reverse d.entries.items) d.fits in
    omega (arith, place_within (buffer_of d) d.entries.items c.args.to inside c.requires.within, inside, ap length c.deref.ensures.value)

pub slice_bounds-push_all-end : goal.slice_bounds-push_all-end
slice_bounds-push_all-end c =
    let d = c.args.self.now in
    let inside : d.len ≤ length d.bytes.items = fits_len (buffer_of d) (reverse d.entries.items) d.fits in
    omega (arith, place_within (buffer_of d) d.entries.items c.args.to inside c.requires.within, inside, ap length c.deref.ensures.value)

pub push_all-requires : goal.push_all-requires
push_all-requires c =
    let d = c.args.self.now in
    let inside : d.len ≤ length d.bytes.items = fits_len (buffer_of d) (reverse d.entries.items) d.fits in
    omega (arith, d.kept, inside, d.bytes.ok, length-take (d.len - c.args.to) (drop c.args.to c.deref.result.now), room_one d.faults (d.faults - 1) (d.bytes.len + d.spare) (d.bytes.len + d.spare) (omega (arith, c.requires.faults)) (omega arith))

pub fill-requires-clause-order : goal.fill-requires-clause-order
fill-requires-clause-order c =
    let d = c.args.self.now in
    place_within (buffer_of d) d.entries.items c.args.to (fits_len (buffer_of d) (reverse d.entries.items) d.fits) c.requires.within

pub fill-requires-clause-within : goal.fill-requires-clause-within
fill-requires-clause-within c =
    let d = c.args.self.now in
    omega (arith, ap length c.deref_mut.ensures.value, fits_len (buffer_of d) (reverse d.entries.items) d.fits)

pub invariant_of-self-clause-fits : goal.invariant_of-self-clause-fits
invariant_of-self-clause-fits c =
    let d = c.args.self.now in
    let inside : d.len ≤ length d.bytes.items = fits_len (buffer_of d) (reverse d.entries.items) d.fits in
    let before : c.args.to ≤ d.len = place_within (buffer_of d) d.entries.items c.args.to inside c.requires.within in
    let end : d.len ≡ c.args.to + (d.len - c.args.to) = omega (arith, before) in
    let all : c.args.to + (d.len - c.args.to) ≤ length d.bytes.items = omega (arith, before, inside) in
    let cut : c.push_all.new.out.items ≡ d.covered.items ++ take (d.len - c.args.to) (drop c.args.to d.bytes.items) = c.push_all.ensures.items ∙ ap (λ (xs : List ℕ). d.covered.items ++ take (d.len - c.args.to) (drop c.args.to xs)) c.deref.ensures.value in
    let fill : IsFilled c.args.seed true c.args.to d.len [] d.bytes.items c.fill.new.bytes = subst (λ (xs : List ℕ). IsFilled c.args.seed true c.args.to d.len [] xs c.fill.new.bytes) c.deref_mut.ensures.value c.fill.ensures in
    let within : c.length_by-self.result ≤ d.len = subst (λ (n : ℕ). n ≤ d.len) (sym c.length_by-self.ensures) (either_within (takes_new c.args.seed greatest_number) c.args.to d.len d.len before (omega arith)) in
    let items : (with_items d.bytes c.fill.new.bytes).items ≡ c.fill.new.bytes = with_items_is d.bytes c.fill.new.bytes (omega (arith, fill.long, d.bytes.ok)) in
    fits_alike c.fill.new.bytes (with_items d.bytes c.fill.new.bytes).items c.push_all.new.out.items c.push_all.new.out.items c.length_by-self.result c.note.new.entries.items items refl
    (
    fits_write (buffer_of d) (record { bytes = c.fill.new.bytes; len = c.length_by-self.result; covered = c.push_all.new.out.items }) d.entries.items _ c.args.to (d.len - c.args.to) (d.len - c.args.to) d.len
    (undone_cover c.args.seed true c.args.to (d.len - c.args.to) d.len d.len c.length_by-self.result [] d.bytes.items c.fill.new.bytes d.covered.items c.push_all.new.out.items all end cut fill)
    c.note.ensures.items
    (omega (arith, within, inside, fill.long))
    (fits_cover c.args.to (d.len - c.args.to) c.length_by-self.result d.bytes.items c.fill.new.bytes d.covered.items c.push_all.new.out.items all fill.long cut)
    d.fits
    )

pub invariant_of-self-clause-kept : goal.invariant_of-self-clause-kept
invariant_of-self-clause-kept c =
    let d = c.args.self.now in
    let inside : d.len ≤ length d.bytes.items = fits_len (buffer_of d) (reverse d.entries.items) d.fits in
    omega (arith, d.kept, inside, d.bytes.ok, c.push_all.ensures.len, c.push_all.ensures.capacity, length-take (d.len - c.args.to) (drop c.args.to c.deref.result.now), room_one d.faults (d.faults - 1) (d.bytes.len + d.spare) (d.bytes.len + d.spare) (omega (arith, c.requires.faults)) (omega arith))

pub returns-clause-told : goal.returns-clause-told
returns-clause-told c =
    let d = c.args.self.now in
    let inside : d.len ≤ length d.bytes.items = fits_len (buffer_of d) (reverse d.entries.items) d.fits in
    let before : c.args.to ≤ d.len = place_within (buffer_of d) d.entries.items c.args.to inside c.requires.within in
    let end : d.len ≡ c.args.to + (d.len - c.args.to) = omega (arith, before) in
    let all : c.args.to + (d.len - c.args.to) ≤ length d.bytes.items = omega (arith, before, inside) in
    let cut : c.push_all.new.out.items ≡ d.covered.items ++ take (d.len - c.args.to) (drop c.args.to d.bytes.items) = c.push_all.ensures.items ∙ ap (λ (xs : List ℕ). d.covered.items ++ take (d.len - c.args.to) (drop c.args.to xs)) c.deref.ensures.value in
    let fill : IsFilled c.args.seed true c.args.to d.len [] d.bytes.items c.fill.new.bytes = subst (λ (xs : List ℕ). IsFilled c.args.seed true c.args.to d.len [] xs c.fill.new.bytes) c.deref_mut.ensures.value c.fill.ensures in
    let items : (with_items d.bytes c.fill.new.bytes).items ≡ c.fill.new.bytes = with_items_is d.bytes c.fill.new.bytes (omega (arith, fill.long, d.bytes.ok)) in
    told_alike c.fill.new.bytes (with_items d.bytes c.fill.new.bytes).items c.push_all.new.out.items c.push_all.new.out.items c.length_by-self.result c.note.new.entries.items c.note.new.entries.items items refl refl
    ∙ (
    told_write (buffer_of d) (record { bytes = c.fill.new.bytes; len = c.length_by-self.result; covered = c.push_all.new.out.items }) d.entries.items _ c.args.to (d.len - c.args.to) (d.len - c.args.to) d.len _
    (undone_cover c.args.seed true c.args.to (d.len - c.args.to) d.len d.len c.length_by-self.result [] d.bytes.items c.fill.new.bytes d.covered.items c.push_all.new.out.items all end cut fill)
    c.note.ensures.items
    (cut_image c.args.seed c.args.to d.len c.length_by-self.result d.bytes.items c.fill.new.bytes before inside fill c.length_by-self.ensures ∙ ap (λ (x : List ℕ). image_of c.args.seed x (take c.args.to x)) (sym (now_told (buffer_of d) d.entries.items)))
    )
