use Rattle.std.proofs.Common.{◌≡◌, ◌≤◌, ℕ, length, reverse, refl, sym, subst, ◌∙◌, arith}
use Rattle.zbase.specs.Limits.{greatest_number}
use Rattle.zdisk.specs.Recorded.{Buffer}
use Rattle.zdisk.specs.Seeds.{takes_new}
use Rattle.zdisk.specs.Undoing.{back, fits_len}
use Rattle.zdisk.proofs.Covering.{back_within}
use Rattle.zdisk.proofs.Mixing.{either_within, mixed_image}
use Rattle.zdisk.proofs.undoing.mix.Goals as goal

pub fill-requires-clause-order : goal.fill-requires-clause-order
fill-requires-clause-order c = fits_len (record { bytes = c.args.bytes.now; len = c.args.len; covered = c.args.kept.now }) (reverse c.args.entries.now) c.requires

pub fill-requires-2-clause-order : goal.fill-requires-2-clause-order
fill-requires-2-clause-order c =
    let first : Buffer = record { bytes = c.args.bytes.now; len = c.args.len; covered = c.args.kept.now } in
    omega (arith, c.blend-was.ensures.long, back_within first (reverse c.args.entries.now) c.requires, c.blend-was.ensures.blends.short, c.blend-was.ensures.blends.long)

pub returns-clause-image : goal.returns-clause-image
returns-clause-image c =
    let first : Buffer = record { bytes = c.args.bytes.now; len = c.args.len; covered = c.args.kept.now } in
    mixed_image c.args.seed c.args.len c.blend-was.result _ c.length_by.result c.args.bytes.now c.blend-was.new.bytes c.fill.new.bytes c.fill-2.new.bytes (back first (reverse c.args.entries.now)) c.blend-was.ensures.blends c.fill.ensures c.fill-2.ensures
    refl (fits_len first (reverse c.args.entries.now) c.requires) c.blend-was.ensures.long (back_within first (reverse c.args.entries.now) c.requires) c.length_by.ensures

pub returns-clause-within : goal.returns-clause-within
returns-clause-within c =
    let first : Buffer = record { bytes = c.args.bytes.now; len = c.args.len; covered = c.args.kept.now } in
    let whole : length c.fill-2.new.bytes ≡ length c.args.bytes.now = c.fill-2.ensures.long ∙ c.fill.ensures.long ∙ c.blend-was.ensures.blends.long in
    subst (λ (n : ℕ). n ≤ length c.fill-2.new.bytes) (sym c.length_by.ensures) (either_within (takes_new c.args.seed greatest_number) c.args.len c.blend-was.result (length c.fill-2.new.bytes)
    (omega (arith, whole, fits_len first (reverse c.args.entries.now) c.requires)) (omega (arith, whole, c.blend-was.ensures.long, back_within first (reverse c.args.entries.now) c.requires, c.blend-was.ensures.blends.short, c.blend-was.ensures.blends.long)))
