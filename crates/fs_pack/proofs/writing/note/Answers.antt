use Rattle.std.proofs.Common.{◌∙◌, List, ap, sym}
use Rattle.fs_index.specs.Places.{place_of}
use Rattle.fs_record.specs.declared.body.Item.{Item}
use Rattle.fs_pack.specs.Output.{noted}
use Rattle.fs_pack.proofs.Steps.{no_item, noted_step}
use Rattle.fs_pack.proofs.writing.note.Goals as goal

pub loop-item-preserved : goal.loop-item-preserved
loop-item-preserved c = λ o.
    noted_step o c.loop-item.place c.in_ok-place.place c.loop-item.item-index c.args.items.now c.item-item.result (place_of c.loop-item.newest o) (place_of c.reserve.new.self o) (place_of c.put.new.self o) _
    c.item-item.is c.loop-item-test.true (c.in_ok-reserve.ensures.places o) (c.put.ensures.places o) c.in_ok-place.ensures (c.loop-item.invariant o)

pub returns : goal.returns
returns c = λ o.
    sym (ap (λ (items : List Item). noted o (place_of c.loop-item.newest o) c.loop-item.place items) (no_item c.loop-item.item-index c.args.items.now c.loop-item-test.false)) ∙ c.loop-item.invariant o
