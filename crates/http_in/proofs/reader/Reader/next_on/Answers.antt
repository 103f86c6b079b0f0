use Rattle.std.proofs.Common.{◌≡◌, ◌∙◌, ◌≤◌, length, drop, ap, sym, subst, Some, vec_capacity, arith}
use Rattle.http_in.specs.Messages.{asked}
use Rattle.http_in.specs.MessageLaws.{asked_within}
use Rattle.http_in.specs.SizeLaws.{longest_message}
use Rattle.http_in.specs.Inside.{IsLook, looked_by}
use Rattle.http_in.specs.Streams.{Stream}
use Rattle.http_in.proofs.Readers.{taken_is, cut_is, keeps_next}
use Rattle.http_in.proofs.reader.Reader.next_on.Goals as goal

pub overflow_add-self : goal.overflow_add-self
overflow_add-self c =
    let found : asked c.split_at.result.1.now ≡ Some (c.in-Found.message, c.in-Found.length) = subst (λ x. IsLook c.split_at.result.1.now (looked_by x)) c.in-Found.is c.in_ok-message.ensures in
    omega (arith, (asked_within c.split_at.result.1.now _ found).1, c.split_at.ensures.back_len)

pub invariant_of-self : goal.invariant_of-self
invariant_of-self c =
    let found : asked c.split_at.result.1.now ≡ Some (c.in-Found.message, c.in-Found.length) = subst (λ x. IsLook c.split_at.result.1.now (looked_by x)) c.in-Found.is c.in_ok-message.ensures in
    let rest : c.split_at.result.1.now ≡ drop c.self.inside.at c.self.inside.bytes.items = c.split_at.ensures.back ∙ ap (drop c.self.inside.at) c.as_slice.ensures.value in
    let within : c.in-Found.length ≤ length (drop c.self.inside.at c.self.inside.bytes.items) = rw (← rest) (asked_within c.split_at.result.1.now (c.in-Found.message, c.in-Found.length) found).1 in
    keeps_next c.self.inside.bytes.items c.self.inside.taken c.self.inside.at c.self.inside.clean c.self.inside.wanted c.self.inside.quiet (vec_capacity c.self.inside.bytes) c.in-Found.length c.self.invariant within (longest_message c.split_at.result.1.now (c.in-Found.message, c.in-Found.length) found)

pub returns-in-Found-clause-some : goal.returns-in-Found-clause-some
returns-in-Found-clause-some c =
    let found : asked c.split_at.result.1.now ≡ Some (c.in-Found.message, c.in-Found.length) = subst (λ x. IsLook c.split_at.result.1.now (looked_by x)) c.in-Found.is c.in_ok-message.ensures in
    let rest : c.split_at.result.1.now ≡ drop c.self.inside.at c.self.inside.bytes.items = c.split_at.ensures.back ∙ ap (drop c.self.inside.at) c.as_slice.ensures.value in
    let within : c.in-Found.length ≤ length (drop c.self.inside.at c.self.inside.bytes.items) = rw (← rest) (asked_within c.split_at.result.1.now (c.in-Found.message, c.in-Found.length) found).1 in
    let seen : c.args.self.now.rest ≡ drop c.self.inside.at c.self.inside.bytes.items = ap (λ (s : Stream). s.rest) (sym c.self.view_is) in
    ap asked (seen ∙ sym rest) ∙ found ∙ ap (λ n. Some (c.in-Found.message, n)) (sym (taken_is c.self.inside.bytes.items c.self.inside.at c.in-Found.length within))

pub returns-in-Found-clause-cut : goal.returns-in-Found-clause-cut
returns-in-Found-clause-cut c =
    let seen : c.args.self.now.rest ≡ drop c.self.inside.at c.self.inside.bytes.items = ap (λ (s : Stream). s.rest) (sym c.self.view_is) in
    seen ∙ cut_is c.self.inside.bytes.items c.self.inside.at c.in-Found.length
