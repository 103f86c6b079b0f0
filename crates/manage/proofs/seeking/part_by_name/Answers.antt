use Rattle.std.proofs.Common.{◌∙◌, map}
use Rattle.manage.proofs.Marks.{unknown_same}
use Rattle.manage.proofs.seeking.part_by_name.Goals as goal

pub returns-clause-unknown : goal.returns-clause-unknown
returns-clause-unknown g c =
    c.first_unmet.ensures ∙ unknown_same c.in_ok-sought.sought.unmet c.unsought.new.sought.unmet (map g.T.Named.name_of c.args.items.now) c.args.texts.now c.in_ok-sought.ensures.unmet c.in_ok-left.ensures.unmet
