use Rattle.std.proofs.Common.{eq-eqb, arith}
use Rattle.http_in.specs.EndLaws.{passes_text}
use Rattle.http_in.proofs.ends.line_len.Goals as goal

pub returns-in-Some-clause-passed : goal.returns-in-Some-clause-passed
returns-in-Some-clause-passed c = passes_text c.args.bytes.now c.in-Some.at
    (λ k less is. c.in-Some.ensures.0.before k (omega arith) less (eq-eqb _ _ is)) (omega (arith, c.in-Some.ensures.0.high))

pub returns-in-None-clause-passed : goal.returns-in-None-clause-passed
returns-in-None-clause-passed c = passes_text c.args.bytes.now _ (λ k less is. c.in-None.ensures k (omega arith) less (eq-eqb _ _ is)) (omega arith)
