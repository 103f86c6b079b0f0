use Rattle.zobject.specs.Rules.{kind_of}
use Rattle.zknown.specs.Seen.{objects}
use Rattle.manage.specs.Table.{row_of}
use Rattle.manage.proofs.Children.{answers_adding}
use Rattle.manage.proofs.adding.change_adding.Goals as goal

pub returns : goal.returns
returns c =
    answers_adding (objects c.args.known.now) c.args.call c.args.oid c.args.folder.now c.args.fields.now (row_of c.args.call (kind_of c.args.folder.now.part)) c.in_ok-depth.depth c.add_at.result
    c.requires.adding c.in_ok-depth.ensures c.add_at.ensures
