use Rattle.std.proofs.Common.{rules, ◌≡◌, ◌≢◌, ℕ, List, [], ◌∷◌, ◌++◌, Err, refl, sym, ap, length, subst, ◌∙◌, arith}
use Rattle.std.specs.Prelude.{decimal}
use Rattle.std.specs.Str.{IsUtf8}
use Rattle.hex.specs.Hex.{encode_lower}
use Rattle.repozo.specs.Index.{IsDigest, Lacks}
use Rattle.repozo.specs.declared.reading.Unread.TheVariants.{Bad}
use Rattle.repozo.proofs.Lines.{start_small}
use Rattle.repozo.proofs.RowLines.{Parts, all_parts, in_order, last_part, end_part, named_lacks, no_end, no_last, no_start}
use Rattle.repozo.proofs.reading.read_row.Goals as goal

no_length : (text : List ℕ) → length text ≡ 0 → text ≡ []
no_length [] e = refl
no_length (x ∷ xs) e = absurd (cc)

pub returns-in_err-front-clause-bad : goal.returns-in_err-front-clause-bad
returns-in_err-front-clause-bad c = λ _ row is e.
    (let lacks : Lacks 32 c.args.line.now = search rules in
    no_last c.args.line.now row e lacks)

pub returns-in_err-left-clause-bad : goal.returns-in_err-left-clause-bad
returns-in_err-left-clause-bad c = λ _ row is e.
    (let parts : c.args.line.now ≡ c.in_ok-front.front.now ++ 32 ∷ c.in_ok-front.digits.now = search rules in
    let last : Lacks 32 c.in_ok-front.digits.now = search rules in
    let lacks : Lacks 32 c.in_ok-front.front.now = search rules in
    no_end c.in_ok-front.front.now row (last_part c.args.line.now c.in_ok-front.front.now c.in_ok-front.digits.now row is e parts last).0 lacks)

pub returns-in_err-named-clause-bad : goal.returns-in_err-named-clause-bad
returns-in_err-named-clause-bad c = λ _ row is e.
    (let parts : c.args.line.now ≡ c.in_ok-front.front.now ++ 32 ∷ c.in_ok-front.digits.now = search rules in
    let last : Lacks 32 c.in_ok-front.digits.now = search rules in
    let ends : c.in_ok-front.front.now ≡ c.in_ok-left.left.now ++ 32 ∷ c.in_ok-left.ends.now = search rules in
    let end_lacks : Lacks 32 c.in_ok-left.ends.now = search rules in
    let lacks : Lacks 32 c.in_ok-left.left.now = search rules in
    let front = (last_part c.args.line.now c.in_ok-front.front.now c.in_ok-front.digits.now row is e parts last).0 in
    no_start c.in_ok-left.left.now row (end_part c.in_ok-front.front.now c.in_ok-left.left.now c.in_ok-left.ends.now row is front ends end_lacks).0 lacks)

pub returns-in_err-md5-clause-bad : goal.returns-in_err-md5-clause-bad
returns-in_err-md5-clause-bad c = λ _ row is e.
    (let parts : Parts c.args.line.now c.in_ok-front.front.now c.in_ok-front.digits.now c.in_ok-left.left.now c.in_ok-left.ends.now c.in_ok-named.named.now c.in_ok-named.starts.now
    = record { last = search rules; last_lacks = search rules; end = search rules; end_lacks = search rules; start = search rules; start_lacks = search rules } in
    let four = all_parts _ _ _ _ _ _ _ row parts is e in
    let none : (digest : List ℕ) → IsDigest digest → c.in_ok-front.digits.now ≢ encode_lower digest = search rules in
    none row.md5 is.digest four.3)

pub returns-in_err-end-clause-bad : goal.returns-in_err-end-clause-bad
returns-in_err-end-clause-bad c = λ bad row is e.
    (let parts : Parts c.args.line.now c.in_ok-front.front.now c.in_ok-front.digits.now c.in_ok-left.left.now c.in_ok-left.ends.now c.in_ok-named.named.now c.in_ok-named.starts.now
    = record { last = search rules; last_lacks = search rules; end = search rules; end_lacks = search rules; start = search rules; start_lacks = search rules } in
    let four = all_parts _ _ _ _ _ _ _ row parts is e in
    let unread : c.read_decimal.result ≡ Err Bad = search rules in
    c.read_decimal.ensures.bad unread row.end is.small four.2)

pub returns-in_err-start-clause-bad : goal.returns-in_err-start-clause-bad
returns-in_err-start-clause-bad c = λ bad row is e.
    (let parts : Parts c.args.line.now c.in_ok-front.front.now c.in_ok-front.digits.now c.in_ok-left.left.now c.in_ok-left.ends.now c.in_ok-named.named.now c.in_ok-named.starts.now
    = record { last = search rules; last_lacks = search rules; end = search rules; end_lacks = search rules; start = search rules; start_lacks = search rules } in
    let four = all_parts _ _ _ _ _ _ _ row parts is e in
    let unread : c.read_decimal-2.result ≡ Err Bad = search rules in
    c.read_decimal-2.ensures.bad unread row.start (start_small row is) four.1)

pub returns-in_err-name-clause-bad : goal.returns-in_err-name-clause-bad
returns-in_err-name-clause-bad c = λ _ row is e.
    (let parts : Parts c.args.line.now c.in_ok-front.front.now c.in_ok-front.digits.now c.in_ok-left.left.now c.in_ok-left.ends.now c.in_ok-named.named.now c.in_ok-named.starts.now
    = record { last = search rules; last_lacks = search rules; end = search rules; end_lacks = search rules; start = search rules; start_lacks = search rules } in
    let four = all_parts _ _ _ _ _ _ _ row parts is e in
    let text : IsUtf8 c.in_ok-named.named.now = subst IsUtf8 (sym four.0) is.text in
    search rules)

pub returns-then-is_empty-clause-bad : goal.returns-then-is_empty-clause-bad
returns-then-is_empty-clause-bad c = λ _ row is e.
    (let parts : Parts c.args.line.now c.in_ok-front.front.now c.in_ok-front.digits.now c.in_ok-left.left.now c.in_ok-left.ends.now c.in_ok-named.named.now c.in_ok-named.starts.now
    = record { last = search rules; last_lacks = search rules; end = search rules; end_lacks = search rules; start = search rules; start_lacks = search rules } in
    let four = all_parts _ _ _ _ _ _ _ row parts is e in
    let name : c.in_ok-name.name.now ≡ row.name = search rules in
    let none : length c.in_ok-name.name.now ≡ 0 = search rules in
    is.named (no_length row.name (ap length (sym name) ∙ none)))

pub returns-then-end-start-clause-bad : goal.returns-then-end-start-clause-bad
returns-then-end-start-clause-bad c = λ _ row is e.
    (let parts : Parts c.args.line.now c.in_ok-front.front.now c.in_ok-front.digits.now c.in_ok-left.left.now c.in_ok-left.ends.now c.in_ok-named.named.now c.in_ok-named.starts.now
    = record { last = search rules; last_lacks = search rules; end = search rules; end_lacks = search rules; start = search rules; start_lacks = search rules } in
    let four = all_parts _ _ _ _ _ _ _ row parts is e in
    let starts : c.in_ok-named.starts.now ≡ decimal c.in_ok-start.start = search rules in
    let ends : c.in_ok-left.ends.now ≡ decimal c.in_ok-end.end = search rules in
    let order = in_order _ _ c.in_ok-start.start c.in_ok-end.end row (omega arith) (omega arith) is starts ends four.1 four.2 in
    search rules)

pub returns-clause-line : goal.returns-clause-line
returns-clause-line c =
    let parts : Parts c.args.line.now c.in_ok-front.front.now c.in_ok-front.digits.now c.in_ok-left.left.now c.in_ok-left.ends.now c.in_ok-named.named.now c.in_ok-named.starts.now
    = record { last = search rules; last_lacks = search rules; end = search rules; end_lacks = search rules; start = search rules; start_lacks = search rules } in
    let name : c.in_ok-from_str.field-0 ≡ c.in_ok-named.named.now = search rules in
    record {
      named = search rules;
      one_line = subst (Lacks 10) (sym name) (named_lacks _ _ _ _ _ _ _ parts c.requires.line);
      text = search rules;
      some = omega (arith, c.if-end-start.false);
      small = search rules;
      digest = search rules;
    }
