use Rattle.publisher.proofs.Learning.{read_rules}
use Rattle.publisher.proofs.learned.add_value.Goals as goal

pub returns-clause-rules : goal.returns-clause-rules
returns-clause-rules c = read_rules c.args.known.now c.add-2.new.self c.args.oid c.as_slice.result.now c.decode-object.result c.records_are_exact.ensures.lawful c.decode-object.ensures.read c.in_ok-add-2.ensures.added
