use Rattle.std.proofs.Common.{◌≡◌, ℕ, List, ◌-◌, ◌<◌, length, drop, Some, sym, rules, arith}
use Rattle.std.specs.Str.{IsUtf8}
use Rattle.std.proofs.lemmas.Bool.Decides.{nat_tests}
use Rattle.dtml_lex.specs.declared.part.PartKind.{PartKind}
use Rattle.dtml_lex.specs.Reading.{part_at}
use Rattle.dtml_lex.specs.Source.{IsPartAt, IsSpelled}
use Rattle.dtml_lex.proofs.Whole.{part_stands, rest_within}
use Rattle.dtml_lex.proofs.next.next_part.Goals as goal

stands : (source : List ℕ) (at : ℕ) (kind : PartKind) (rest : List ℕ) → at < length source → IsUtf8 rest → part_at (drop at source) ≡ Some (kind, rest)
    → IsPartAt source at (record { start = at; end = length source - length rest; kind = kind }) × IsSpelled source (record { start = at; end = length source - length rest; kind = kind })
stands source at kind rest inside text read =
    let within = rest_within source at kind rest inside read in
    part_stands source at (length source - length rest) kind rest inside text read (omega arith)

pub overflow_sub-result : goal.overflow_sub-result
overflow_sub-result c =
    let inside : c.args.at < length c.args.source.now = grind (arith, nat_tests) in
    let read : part_at (drop c.args.at c.args.source.now) ≡ Some (c.in-Some.kind, c.in-Some.rest.now) = rw (← c.split_at.ensures.back) (rw c.in-Some.is at (sym c.in_ok-kind.ensures)) in
    rest_within c.args.source.now c.args.at c.in-Some.kind c.in-Some.rest.now inside read

pub returns-clause-part : goal.returns-clause-part
returns-clause-part c =
    let inside : c.args.at < length c.args.source.now = grind (arith, nat_tests) in
    let read : part_at (drop c.args.at c.args.source.now) ≡ Some (c.in-Some.kind, c.in-Some.rest.now) = rw (← c.split_at.ensures.back) (rw c.in-Some.is at (sym c.in_ok-kind.ensures)) in
    (stands c.args.source.now c.args.at c.in-Some.kind c.in-Some.rest.now inside (search rules) read).0

pub returns-clause-spelled : goal.returns-clause-spelled
returns-clause-spelled c =
    let inside : c.args.at < length c.args.source.now = grind (arith, nat_tests) in
    let read : part_at (drop c.args.at c.args.source.now) ≡ Some (c.in-Some.kind, c.in-Some.rest.now) = rw (← c.split_at.ensures.back) (rw c.in-Some.is at (sym c.in_ok-kind.ensures)) in
    (stands c.args.source.now c.args.at c.in-Some.kind c.in-Some.rest.now inside (search rules) read).1
