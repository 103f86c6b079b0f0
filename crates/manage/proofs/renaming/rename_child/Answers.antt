use Rattle.zknown.specs.Seen.{objects}
use Rattle.manage.specs.Becoming.{situation, with_renamed}
use Rattle.manage.specs.ChangingLaws.{is_here}
use Rattle.manage.proofs.renaming.rename_child.Goals as goal

pub write_own-requires : goal.write_own-requires
write_own-requires c = record { lawful = c.requires.right (with_renamed c.args.child (situation c.args.folder.now c.args.fields.now)) c.requires.folder }

pub write_both-requires-clause-child : goal.write_both-requires-clause-child
write_both-requires-clause-child c =
    c.requires.right c.in_ok-object.object.now
    (c.requires.lawful c.args.child c.in_ok-object.object.now (is_here (objects c.args.known.now) c.args.child c.in_ok-object.object.now c.in_ok-object.ensures.whole))
