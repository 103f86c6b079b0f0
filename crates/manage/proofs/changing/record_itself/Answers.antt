use Rattle.manage.proofs.Itself.{becomes_right}
use Rattle.manage.proofs.changing.record_itself.Goals as goal

pub write_itself-requires : goal.write_itself-requires
write_itself-requires c = record { lawful = becomes_right c.rows_keep_the_rules.ensures c.args.call c.args.object.now c.args.fields.now c.in_ok-new.new c.requires.lawful c.in_ok-new.ensures }
