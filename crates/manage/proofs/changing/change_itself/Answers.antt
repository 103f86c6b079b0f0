use Rattle.manage.proofs.Itself.{answers_itself}
use Rattle.manage.proofs.changing.change_itself.Goals as goal

pub returns : goal.returns
returns c = λ known. answers_itself known c.args.call c.args.oid c.args.object.now c.args.fields.now c.record_itself.result c.requires.alone c.record_itself.ensures
