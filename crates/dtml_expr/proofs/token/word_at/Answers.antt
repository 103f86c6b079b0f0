use Rattle.dtml_expr.proofs.Cuts.{behind_name}
use Rattle.dtml_expr.proofs.token.word_at.Goals as goal

pub split_at-requires : goal.split_at-requires
split_at-requires c = rw (c.name_len.ensures, c.as_bytes.ensures.value) (behind_name c.args.text.now c.utf8.text)
