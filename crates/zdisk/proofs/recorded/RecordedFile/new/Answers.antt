use Rattle.std.proofs.Common.{◌+◌, ◌≤◌, length, ◌∙◌, arith}
use Rattle.std.proofs.lemmas.List.{take_all}
use Rattle.zdisk.proofs.Covering.{fits_empty, room_none}
use Rattle.zdisk.proofs.Telling.{told_new}
use Rattle.zdisk.proofs.recorded.RecordedFile.new.Goals as goal

pub invariant_of-result-clause-fits : goal.invariant_of-result-clause-fits
invariant_of-result-clause-fits c =
    let v = c.into_vec-bytes.result in
    let within : c.len.result ≤ length v.items = omega (arith, c.len.ensures, v.ok) in
    fits_empty v.items c.new.result.items c.len.result c.new-2.result.items c.new-2.ensures.items within

pub invariant_of-result-clause-kept : goal.invariant_of-result-clause-kept
invariant_of-result-clause-kept c = omega (arith, c.new.ensures.len, room_none (c.into_vec-bytes.result.len + 0), room_none c.into_vec-bytes.result.len)

pub returns-clause-told : goal.returns-clause-told
returns-clause-told c =
    let v = c.into_vec-bytes.result in
    told_new _ v.items c.new.result.items c.len.result c.new-2.result.items (take_all c.len.result v.items (omega (arith, c.len.ensures, v.ok)) ∙ c.into_vec-bytes.ensures) c.new-2.ensures.items
