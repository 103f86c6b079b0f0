use Rattle.std.proofs.Common.{◌<◌, length, get_or, arith, rules}
use Rattle.std.proofs.lemmas.Str.{IsCharBoundary-after_ascii}
use Rattle.dtml_expr.proofs.token.sign_at.Goals as goal

pub split_at-requires : goal.split_at-requires
split_at-requires c =
    let room : 1 < length c.args.text.now = rw (← c.as_bytes-bytes.ensures.value) (omega arith) in
    let ascii : get_or c.args.text.now 1 0 < 128 = rw (← c.as_bytes-bytes.ensures.value) (omega arith) in
    IsCharBoundary-after_ascii c.args.text.now 1 c.utf8.text room ascii

pub split_at-requires-2 : goal.split_at-requires-2
split_at-requires-2 c =
    let room : 0 < length c.args.text.now = rw (← c.as_bytes-bytes.ensures.value) (search rules) in
    let ascii : get_or c.args.text.now 0 0 < 128 = rw (← c.as_bytes-bytes.ensures.value) c.in_ok-token.ensures.ascii in
    IsCharBoundary-after_ascii c.args.text.now 0 c.utf8.text room ascii
