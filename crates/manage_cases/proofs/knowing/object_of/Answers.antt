use Rattle.manage_cases.proofs.knowing.object_of.Goals as goal

pub returns : goal.returns
returns c = c.records_are_exact.ensures.lawful c.args.bytes.now c.in_ok-object.object c.in_ok-object.ensures.read
