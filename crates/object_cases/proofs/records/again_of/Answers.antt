use Rattle.object_cases.proofs.records.again_of.Goals as goal

pub encode-requires : goal.encode-requires
encode-requires c = record { lawful = c.records_are_exact.ensures.lawful c.args.bytes.now c.in-Ok.object c.in-Ok.ensures.read }
