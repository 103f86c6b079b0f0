use Rattle.std.proofs.Common.{rules, ◌≡◌, ◌≢◌, ◌++◌, ◌+◌, List, [], ℕ, arith, inl, inr}
use Rattle.schedule.specs.declared.item.Item2.{Item2}
use Rattle.schedule.specs.Items.{item_text}
use Rattle.schedule.specs.BadLines.{BeginsItem, GoesOn, GoodLines}
use Rattle.schedule.proofs.reader.read_schedule.Goals as goal

pub returns-in-Some-after-clause-bad_line : goal.returns-in-Some-after-clause-bad_line
returns-in-Some-after-clause-bad_line c = λ n e.
    (let number : c.reading.line + 1 ≡ n = cc in
    let good : GoodLines c.args.bytes.now c.reading.items c.reading.rest.now = record { lines = c.reading.invariant.lines; text_is = c.reading.invariant.parts } in
    let text : c.reading.rest.now ≡ item_text Item2.End ++ c.in-Some-after.behind.now = search rules in
    let some : c.in-Some-after.behind.now ≢ [] = search rules in
    let more : GoesOn c.reading.rest.now = record { more = c.in-Some-after.behind.now; text = text; some = some } in
    inr (c.reading.items, c.reading.rest.now, good, inr (omega (arith, number, c.reading.invariant.number), more)))

pub returns-in-Err-Bad-clause-bad_line : goal.returns-in-Err-Bad-clause-bad_line
returns-in-Err-Bad-clause-bad_line c = λ n e.
    (let number : c.reading.line ≡ n = cc in
    let good : GoodLines c.args.bytes.now c.reading.items c.reading.rest.now = record { lines = c.reading.invariant.lines; text_is = c.reading.invariant.parts } in
    let no_item : BeginsItem c.reading.rest.now → ⊥ = c.item_at.ensures.bad (search rules) in
    let no_end : (rest : List ℕ) → c.reading.rest.now ≢ item_text Item2.End ++ rest = search rules in
    inr (c.reading.items, c.reading.rest.now, good, inl (omega (arith, number, c.reading.invariant.number), record { no_item = no_item; no_end = no_end })))
