use Rattle.std.proofs.Common.{rules, ◌≡◌, [], ◌∷◌, ◌++◌, Err, sym, ap, ◌∙◌}
use Rattle.repozo.specs.Index.{HasLine, Lacks, end_of, row_text}
use Rattle.repozo.specs.declared.reading.Unread.TheVariants.{Bad}
use Rattle.repozo.proofs.Lines.{goes_on_by, goes_on_line, line_is, line_text, same_start}
use Rattle.repozo.proofs.reading.next_row.Goals as goal

pub returns-in_err-line-clause-bad : goal.returns-in_err-line-clause-bad
returns-in_err-line-clause-bad c = λ _ g.
    (let lacks : Lacks 10 c.args.bytes.now = search rules in
    goes_on_line c.args.rows.now c.args.bytes.now g lacks)

pub returns-in_err-row-clause-bad : goal.returns-in_err-row-clause-bad
returns-in_err-row-clause-bad c = λ bad g.
    (let parts : c.args.bytes.now ≡ c.in_ok-line.line.now ++ 10 ∷ c.in_ok-line.rest.now = search rules in
    let lacks : Lacks 10 c.in_ok-line.line.now = search rules in
    let unread : c.read_row.result ≡ Err Bad = search rules in
    let line = goes_on_by c.args.rows.now c.args.bytes.now c.in_ok-line.line.now c.in_ok-line.rest.now g lacks parts in
    c.read_row.ensures.bad unread g.row g.line (ap (λ xs. xs ++ 10 ∷ []) line ∙ sym (line_text g.row)))

pub returns-then-row-end_of-clause-bad : goal.returns-then-row-end_of-clause-bad
returns-then-row-end_of-clause-bad c = λ _ g.
    (let parts : c.args.bytes.now ≡ c.in_ok-line.line.now ++ 10 ∷ c.in_ok-line.rest.now = search rules in
    let lacks : Lacks 10 c.in_ok-line.line.now = search rules in
    let line = goes_on_by c.args.rows.now c.args.bytes.now c.in_ok-line.line.now c.in_ok-line.rest.now g lacks parts in
    let text : c.in_ok-line.line.now ++ 10 ∷ [] ≡ row_text c.in_ok-row.row = search rules in
    let has : HasLine c.in_ok-row.row = search rules in
    let start = same_start c.in_ok-row.row g.row has g.line (sym (line_is c.in_ok-line.line.now c.in_ok-row.row text) ∙ line) in
    let same : c.in_ok-row.row.start ≡ end_of c.args.rows.now = start ∙ g.start in
    search rules)
