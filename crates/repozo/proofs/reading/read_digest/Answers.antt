use Rattle.std.proofs.Common.{rules, ◌≡◌}
use Rattle.std.proofs.lemmas.Slice.Eq.{bytes_eq-Decides}
use Rattle.repozo.proofs.RowLines.{decoded, digest_of}
use Rattle.repozo.proofs.reading.read_digest.Goals as goal

pub returns-in_default-clause-none : goal.returns-in_default-clause-none
returns-in_default-clause-none c = λ digest is e.
    (let given = decoded c.args.text.now digest c.decode_to_slice.result c.decode_to_slice.new.out is e c.decode_to_slice.ensures.value in
    let ok = given.0 in
    search rules)

pub returns-then-ne-clause-none : goal.returns-then-ne-clause-none
returns-then-ne-clause-none c = λ digest is e.
    (let given = decoded c.args.text.now digest c.decode_to_slice.result c.decode_to_slice.new.out is e c.decode_to_slice.ensures.value in
    let same : c.decode_to_slice.new.out ≡ digest = given.1 in
    let text : c.encode_to_slice.new.output ≡ c.args.text.now = search rules in
    let equal = (bytes_eq-Decides c.encode_to_slice.new.output c.args.text.now).1 text in
    search rules)

pub returns-clause-digest : goal.returns-clause-digest
returns-clause-digest c = digest_of c.args.text.now c.decode_to_slice.result c.decode_to_slice.new.out c.decode_to_slice.ensures.value c.in-Ok.is
