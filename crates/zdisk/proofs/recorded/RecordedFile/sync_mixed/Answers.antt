use Rattle.std.proofs.Common.{◌≡◌, ◌+◌, ◌-◌, ◌≤◌, ℕ, List, ◌++◌, length, take, drop, reverse, refl, ap, ◌∙◌, arith}
use Rattle.std.proofs.lemmas.List.{length-take, with_items_is}
use Rattle.std.specs.Vec.{with_items}
use Rattle.zdisk.specs.Keeping.{buffer_of}
use Rattle.zdisk.specs.Undoing.{lowest_since}
use Rattle.zdisk.specs.declared.record.Entry.{Entry}
use Rattle.zdisk.proofs.Covering.{fits_alike, told_alike, first_piece, fits_cover, fits_write, room_one, told_write}
use Rattle.zdisk.proofs.Lowest.{lowest_within, undone_left}
use Rattle.zdisk.proofs.Mixing.{left_alike}
use Rattle.zdisk.proofs.recorded.RecordedFile.sync_mixed.Goals as goal

pub overflow_sub-count : goal.overflow_sub-count
overflow_sub-count c =
    let d = c.args.self.now in
    let at : c.lowest-at.result ≡ lowest_since d.len (reverse d.entries.items) = c.lowest-at.ensures ∙ ap (λ (es : List Entry). lowest_since d.len (reverse es)) c.deref.ensures.value in
    omega (arith, lowest_within (buffer_of d) (reverse d.entries.items) c.lowest-at.result at d.fits, c.len.ensures, d.bytes.ok)

pub slice_bounds-push_all-count : goal.slice_bounds-push_all-count
slice_bounds-push_all-count c =
    let d = c.args.self.now in
    let at : c.lowest-at.result ≡ lowest_since d.len (reverse d.entries.items) = c.lowest-at.ensures ∙ ap (λ (es : List Entry). lowest_since d.len (reverse es)) c.deref.ensures.value in
    omega (arith, lowest_within (buffer_of d) (reverse d.entries.items) c.lowest-at.result at d.fits, ap length c.deref-2.ensures.value)

pub slice_bounds-push_all-start : goal.slice_bounds-push_all-start
slice_bounds-push_all-start c =
    let d = c.args.self.now in
    let at : c.lowest-at.result ≡ lowest_since d.len (reverse d.entries.items) = c.lowest-at.ensures ∙ ap (λ (es : List Entry). lowest_since d.len (reverse es)) c.deref.ensures.value in
    omega (arith, lowest_within (buffer_of d) (reverse d.entries.items) c.lowest-at.result at d.fits, ap length c.deref-2.ensures.value)

pub push_all-requires : goal.push_all-requires
push_all-requires c =
    let d = c.args.self.now in
    let piece : length (take (length c.deref-2.result.now - c.lowest-at.result) (drop c.lowest-at.result c.deref-2.result.now)) ≤ d.bytes.len =
    omega (arith, length-take (length c.deref-2.result.now - c.lowest-at.result) (drop c.lowest-at.result c.deref-2.result.now), ap length c.deref-2.ensures.value, d.bytes.ok) in
    omega (arith, d.kept, piece, room_one d.faults (d.faults - 1) (d.bytes.len + d.spare) (d.bytes.len + d.spare) (omega (arith, c.requires.faults)) (omega arith))

pub invariant_of-self-clause-fits : goal.invariant_of-self-clause-fits
invariant_of-self-clause-fits c =
    let d = c.args.self.now in
    let at = c.lowest-at.result in
    let count = c.len.result - at in
    let least : at ≡ lowest_since d.len (reverse d.entries.items) = c.lowest-at.ensures ∙ ap (λ (es : List Entry). lowest_since d.len (reverse es)) c.deref.ensures.value in
    let all : at + count ≡ length d.bytes.items = omega (arith, lowest_within (buffer_of d) (reverse d.entries.items) at least d.fits, c.len.ensures, d.bytes.ok) in
    let long : length c.mix-self.new.bytes ≡ length d.bytes.items = c.mix-self.ensures.long ∙ ap length c.deref_mut.ensures.value in
    let rest : length c.deref-2.result.now - at ≡ count = omega (arith, ap length c.deref-2.ensures.value, c.len.ensures, d.bytes.ok) in
    let cut : c.push_all.new.out.items ≡ d.covered.items ++ take count (drop at d.bytes.items) =
    c.push_all.ensures.items ∙ ap (λ (k : ℕ). d.covered.items ++ take k (drop at c.deref-2.result.now)) rest ∙ ap (λ (xs : List ℕ). d.covered.items ++ take count (drop at xs)) c.deref-2.ensures.value in
    let kept : take c.len-kept.result c.deref-3.result.now ≡ d.covered.items = first_piece c.len-kept.result c.deref-3.result.now d.covered.items c.push_all.new.out.items _ c.deref-3.ensures.value cut (omega (arith, c.len-kept.ensures, d.covered.ok)) in
    let items : (with_items d.bytes c.mix-self.new.bytes).items ≡ c.mix-self.new.bytes = with_items_is d.bytes c.mix-self.new.bytes (omega (arith, long, d.bytes.ok)) in
    fits_alike c.mix-self.new.bytes (with_items d.bytes c.mix-self.new.bytes).items c.push_all.new.out.items c.push_all.new.out.items c.mix-self.result c.note.new.entries.items items refl
    (
    fits_write (buffer_of d) (record { bytes = c.mix-self.new.bytes; len = c.mix-self.result; covered = c.push_all.new.out.items }) d.entries.items _ at count count d.len
    (undone_left c.args.seed at count d.len c.mix-self.result d.bytes.items c.deref_mut.result.now c.mix-self.new.bytes d.covered.items _ c.push_all.new.out.items d.entries.items c.deref-4.result.now c.deref_mut.ensures.value kept c.deref-4.ensures.value
    least d.fits all long c.mix-self.ensures.within c.mix-self.ensures.image cut)
    c.note.ensures.items
    c.mix-self.ensures.within
    (fits_cover at count c.mix-self.result d.bytes.items c.mix-self.new.bytes d.covered.items c.push_all.new.out.items (omega (arith, all)) long cut)
    d.fits
    )

pub invariant_of-self-clause-kept : goal.invariant_of-self-clause-kept
invariant_of-self-clause-kept c =
    let d = c.args.self.now in
    let piece : length (take (length c.deref-2.result.now - c.lowest-at.result) (drop c.lowest-at.result c.deref-2.result.now)) ≤ d.bytes.len =
    omega (arith, length-take (length c.deref-2.result.now - c.lowest-at.result) (drop c.lowest-at.result c.deref-2.result.now), ap length c.deref-2.ensures.value, d.bytes.ok) in
    omega (arith, d.kept, piece, c.push_all.ensures.len, c.push_all.ensures.capacity, room_one d.faults (d.faults - 1) (d.bytes.len + d.spare) (d.bytes.len + d.spare) (omega (arith, c.requires.faults)) (omega arith))

pub returns-clause-told : goal.returns-clause-told
returns-clause-told c =
    let d = c.args.self.now in
    let at = c.lowest-at.result in
    let count = c.len.result - at in
    let least : at ≡ lowest_since d.len (reverse d.entries.items) = c.lowest-at.ensures ∙ ap (λ (es : List Entry). lowest_since d.len (reverse es)) c.deref.ensures.value in
    let all : at + count ≡ length d.bytes.items = omega (arith, lowest_within (buffer_of d) (reverse d.entries.items) at least d.fits, c.len.ensures, d.bytes.ok) in
    let long : length c.mix-self.new.bytes ≡ length d.bytes.items = c.mix-self.ensures.long ∙ ap length c.deref_mut.ensures.value in
    let rest : length c.deref-2.result.now - at ≡ count = omega (arith, ap length c.deref-2.ensures.value, c.len.ensures, d.bytes.ok) in
    let cut : c.push_all.new.out.items ≡ d.covered.items ++ take count (drop at d.bytes.items) =
    c.push_all.ensures.items ∙ ap (λ (k : ℕ). d.covered.items ++ take k (drop at c.deref-2.result.now)) rest ∙ ap (λ (xs : List ℕ). d.covered.items ++ take count (drop at xs)) c.deref-2.ensures.value in
    let kept : take c.len-kept.result c.deref-3.result.now ≡ d.covered.items = first_piece c.len-kept.result c.deref-3.result.now d.covered.items c.push_all.new.out.items _ c.deref-3.ensures.value cut (omega (arith, c.len-kept.ensures, d.covered.ok)) in
    let items : (with_items d.bytes c.mix-self.new.bytes).items ≡ c.mix-self.new.bytes = with_items_is d.bytes c.mix-self.new.bytes (omega (arith, long, d.bytes.ok)) in
    told_alike c.mix-self.new.bytes (with_items d.bytes c.mix-self.new.bytes).items c.push_all.new.out.items c.push_all.new.out.items c.mix-self.result c.note.new.entries.items c.note.new.entries.items items refl refl
    ∙ (
    told_write (buffer_of d) (record { bytes = c.mix-self.new.bytes; len = c.mix-self.result; covered = c.push_all.new.out.items }) d.entries.items _ at count count d.len _
    (undone_left c.args.seed at count d.len c.mix-self.result d.bytes.items c.deref_mut.result.now c.mix-self.new.bytes d.covered.items _ c.push_all.new.out.items d.entries.items c.deref-4.result.now c.deref_mut.ensures.value kept c.deref-4.ensures.value
    least d.fits all long c.mix-self.ensures.within c.mix-self.ensures.image cut)
    c.note.ensures.items
    (c.mix-self.ensures.image ∙ left_alike c.args.seed d.len d.bytes.items c.deref_mut.result.now d.covered.items _ d.entries.items c.deref-4.result.now c.deref_mut.ensures.value kept c.deref-4.ensures.value)
    )
