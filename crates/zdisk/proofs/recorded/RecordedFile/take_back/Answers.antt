use Rattle.std.proofs.Common.{◌≡◌, length, refl, ap, ◌∙◌, arith}
use Rattle.std.proofs.lemmas.List.{with_items_is}
use Rattle.std.specs.Vec.{with_items}
use Rattle.zdisk.specs.Keeping.{buffer_of}
use Rattle.zdisk.proofs.Covering.{told_alike, fits_empty}
use Rattle.zdisk.proofs.Mixing.{left_alike}
use Rattle.zdisk.proofs.Telling.{earlier_told, told_new}
use Rattle.zdisk.proofs.recorded.RecordedFile.take_back.Goals as goal

pub invariant_of-self-clause-fits : goal.invariant_of-self-clause-fits
invariant_of-self-clause-fits c =
    let v = c.args.self.now.bytes in
    let items : (with_items v c.mix-self.new.bytes).items ≡ c.mix-self.new.bytes = with_items_is v c.mix-self.new.bytes (omega (arith, c.mix-self.ensures.long, ap length c.deref_mut.ensures.value, c.args.self.now.bytes.ok)) in
    fits_empty _ c.clear.new.self.items c.mix-self.result c.clear-2.new.self.items c.clear-2.ensures.items (omega (arith, c.mix-self.ensures.within, ap length items))

pub returns-clause-told : goal.returns-clause-told
returns-clause-told c =
    let d = c.args.self.now in
    let items : (with_items d.bytes c.mix-self.new.bytes).items ≡ c.mix-self.new.bytes = with_items_is d.bytes c.mix-self.new.bytes (omega (arith, c.mix-self.ensures.long, ap length c.deref_mut.ensures.value, c.args.self.now.bytes.ok)) in
    told_alike c.mix-self.new.bytes (with_items d.bytes c.mix-self.new.bytes).items c.clear.new.self.items c.clear.new.self.items c.mix-self.result c.clear-2.new.self.items c.clear-2.new.self.items items refl refl
    ∙ (
    told_new _ c.mix-self.new.bytes c.clear.new.self.items c.mix-self.result c.clear-2.new.self.items
    (c.mix-self.ensures.image ∙ left_alike c.args.seed d.len d.bytes.items c.deref_mut.result.now d.covered.items c.deref.result.now d.entries.items c.deref-2.result.now c.deref_mut.ensures.value c.deref.ensures.value c.deref-2.ensures.value)
    c.clear-2.ensures.items
    )

pub returns-clause-spare : goal.returns-clause-spare
returns-clause-spare c =
    let d = c.args.self.now in
    (omega (arith, earlier_told (buffer_of d) d.entries.items, d.entries.ok, ap length c.clear-2.ensures.items), refl)
