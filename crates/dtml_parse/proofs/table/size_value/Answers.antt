use Rattle.std.proofs.Common.{◌≡◌, true}
use Rattle.dtml_parse.specs.Table.{is_size}
use Rattle.dtml_parse.proofs.Sizes.{size_is_read}
use Rattle.dtml_parse.proofs.table.size_value.Goals as goal

pub returns-in-Err : goal.returns-in-Err
returns-in-Err c =
    let size : is_size c.args.text.now ≡ true = cc in
    absurd (size_is_read c.args.text.now c.in-Err.field-0 size c.in-Err.ensures.value.0)
