use Rattle.std.proofs.Common.{Ok, ap, refl}
use Rattle.http_clients.proofs.Hears.{all_heard_open, asks, of_some, one_alone, passes, passes_unheard}
use Rattle.http_clients.proofs.hearing.hear.Goals as goal

pub close-requires : goal.close-requires
close-requires g c = (let ended = c.in-Ok-None.ensures.none (ap Ok c.in-Ok-None.field-0-is) in record { «open» = all_heard_open c.args.conn ended.0 (g.H.Hub.peers c.args.hub.now) (g.H.Hub.peers c.read_message.new.hub) ended.2 })

pub returns-in-Ok-Some-clause-one : goal.returns-in-Ok-Some-clause-one
returns-in-Ok-Some-clause-one g c = (let is = of_some c.in-Ok-Some.field-0 (c.in-Ok-Some.message, c.in-Ok-Some.bytes) _ c.in-Ok-Some.field-0-is c.in-Ok-Some.ensures.some in one_alone c.one_message_alone.ensures.one is.0 c.in-Ok-Some.message c.in-Ok-Some.bytes is.1 is.2)

pub returns-in-Ok-Some-clause-some : goal.returns-in-Ok-Some-clause-some
returns-in-Ok-Some-clause-some g c =
    let is = of_some c.in-Ok-Some.field-0 (c.in-Ok-Some.message, c.in-Ok-Some.bytes) _ c.in-Ok-Some.field-0-is c.in-Ok-Some.ensures.some in
    asks c.one_connection.ensures.unread c.args.conn is.0 c.in-Ok-Some.message c.in-Ok-Some.bytes (g.H.Hub.peers c.args.hub.now) (g.H.Hub.peers c.read_message.new.hub) is.1 is.2 is.3

pub returns-in-Ok-None-clause-none : goal.returns-in-Ok-None-clause-none
returns-in-Ok-None-clause-none g c = λ is.
    (let ended = c.in-Ok-None.ensures.none (ap Ok c.in-Ok-None.field-0-is) in
    passes_unheard c.args.conn ended.0 (g.H.Hub.peers c.args.hub.now) (g.H.Hub.peers c.read_message.new.hub) (g.H.Hub.peers c.close.new.self) ended.1 ended.2 c.close.ensures.closed)

pub returns-in-Err-clause-err : goal.returns-in-Err-clause-err
returns-in-Err-clause-err g c = λ err.
    (let cut = c.in-Err.ensures.err refl in
    passes c.args.conn cut.0 (g.H.Hub.peers c.args.hub.now) (g.H.Hub.peers c.read_message.new.hub) (g.H.Hub.peers c.close-in-Err.new.self) cut.1 c.close-in-Err.ensures.closed)
