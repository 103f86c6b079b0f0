use Rattle.std.proofs.Common.{rules, ◌≡◌, ◌<◌, ◌++◌, ◌∷◌, [], length, length-append, inl, sym, ap, subst, ◌∙◌, arith}
use Rattle.std.specs.Prelude.{flat_map}
use Rattle.repozo.specs.BadLines.{GoesOn}
use Rattle.repozo.specs.Index.{AreRows, HasLine, end_of, row_text}
use Rattle.repozo.specs.declared.index.TheConstants.{MAX_PIECES}
use Rattle.repozo.proofs.RowLines.{line_long, texts_more}
use Rattle.repozo.proofs.Whole.{rows_more}
use Rattle.repozo.proofs.reading.read_index.Goals as goal

pub reading-preserved : goal.reading-preserved
reading-preserved c =
    let next : c.reading.rest.now ≡ row_text c.in-Ok.row ++ c.in-Ok.others.now = search rules in
    let line : HasLine c.in-Ok.row = search rules in
    let start : c.in-Ok.row.start ≡ end_of c.reading.rows = search rules in
    let room : length c.reading.rows < MAX_PIECES = search rules in
    let pushed : c.push.new.self ≡ c.reading.rows ++ c.in-Ok.row ∷ [] = search rules in
    let long = ap length pushed ∙ length-append c.reading.rows (c.in-Ok.row ∷ []) in
    let shorter = line_long c.in-Ok.row c.reading.rest.now c.in-Ok.others.now next in
    record {
      parts = texts_more c.args.bytes.now c.reading.rest.now c.in-Ok.others.now c.reading.rows c.in-Ok.row c.reading.invariant.parts next ∙ ap (λ rows. flat_map row_text rows ++ c.in-Ok.others.now) (sym pushed);
      rules = subst AreRows (sym pushed) (rows_more c.reading.rows c.in-Ok.row c.reading.invariant.rules line start room);
      number = omega (arith, long, c.reading.invariant.number);
      line = omega (arith, shorter, c.reading.invariant.line);
    }

pub returns-in-Err-Bad-clause-bad_line : goal.returns-in-Err-Bad-clause-bad_line
returns-in-Err-Bad-clause-bad_line c = λ n e.
    (let number : n ≡ c.reading.line = search rules in
    let none : GoesOn c.reading.rows c.reading.rest.now → ⊥ = search rules in
    record {
      rows = c.reading.rows;
      rules = c.reading.invariant.rules;
      rest = c.reading.rest.now;
      good = c.reading.invariant.parts;
      bad = inl (number ∙ c.reading.invariant.number, record { no_row = none; no_end = search rules });
    })
