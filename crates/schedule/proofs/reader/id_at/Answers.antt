use Rattle.std.proofs.Common.{rules, ◌≡◌, ◌++◌, ◌∷◌, ◌∙◌, sym, subst}
use Rattle.zbase.specs.Hex.{hex16_text}
use Rattle.schedule.specs.Rows.{Lacks}
use Rattle.schedule.proofs.Fronts.{has_byte, one_front}
use Rattle.schedule.proofs.Stamps.{stamp_lacks}
use Rattle.schedule.proofs.reader.id_at.Goals as goal

pub returns-in_err-digits-clause-bad : goal.returns-in_err-digits-clause-bad
returns-in_err-digits-clause-bad c = λ _ t more small e.
    (let lacks : Lacks 10 c.args.fields.now = search rules in
    has_byte 10 (hex16_text t) more (subst (λ bytes. Lacks 10 bytes) e lacks))

pub returns-in_err-id-clause-bad : goal.returns-in_err-id-clause-bad
returns-in_err-id-clause-bad c = λ _ t more small is.
    (let line : c.args.fields.now ≡ c.in_ok-digits.digits.now ++ 10 ∷ c.in_ok-digits.rest.now = search rules in
    let lacks : Lacks 10 c.in_ok-digits.digits.now = search rules in
    let same = one_front 10 c.in_ok-digits.digits.now (hex16_text t) c.in_ok-digits.rest.now more lacks (stamp_lacks t) (sym line ∙ is) in
    let digits : hex16_text t ≡ c.in_ok-digits.digits.now = sym same.0 in
    search rules)
