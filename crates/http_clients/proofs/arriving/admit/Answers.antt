use Rattle.std.proofs.Common.{◌++◌, ◌∷◌, ◌∙◌, [], ap, inr, refl}
use Rattle.http_clients.specs.declared.asked.Asked.{Asked}
use Rattle.http_clients.proofs.Arrivals.{enters, leaves}
use Rattle.http_clients.proofs.Hears.{of_some}
use Rattle.http_clients.proofs.arriving.admit.Goals as goal

pub returns-in_err-message-clause-err : goal.returns-in_err-message-clause-err
returns-in_err-message-clause-err g c = λ err. (
  c.reserve.ensures.items,
  c.reserve-else-is_err.ensures.items,
  leaves c.in-Some.number c.in_ok-number.field-0 (g.H.Hub.peers c.args.hub.now) (g.H.Hub.peers c.accept.new.self) (g.H.Hub.peers c.hear.new.hub) c.in-Some.is c.in_ok-number.ensures.ok (c.in_err-message.ensures.err refl),
)

pub returns-in-Some-2-clause-some : goal.returns-in-Some-2-clause-some
returns-in-Some-2-clause-some g c = λ ok.
    (let a : Asked = record { message = c.in-Some-2.message; bytes = c.in-Some-2.bytes } in
    let one = of_some c.in_ok-message.field-0 (c.in-Some-2.message, c.in-Some-2.bytes) _ c.in-Some-2.is c.in_ok-message.ensures.one in
    let asks = of_some c.in_ok-message.field-0 (c.in-Some-2.message, c.in-Some-2.bytes) _ c.in-Some-2.is c.in_ok-message.ensures.some in
    inr (
      c.in-Some.number,
      a,
      c.push_reserved.ensures.items ∙ ap (λ xs. xs ++ c.in-Some.number ∷ []) c.reserve.ensures.items,
      c.push_reserved-in-Some-2.ensures.items ∙ ap (λ xs. xs ++ a ∷ []) c.reserve-else-is_err.ensures.items,
      one,
      enters c.in-Some.number a.bytes c.in_ok-number.field-0 (g.H.Hub.peers c.args.hub.now) (g.H.Hub.peers c.accept.new.self) (g.H.Hub.peers c.hear.new.hub) c.in-Some.is c.in_ok-number.ensures.ok asks,
    ))
