use Rattle.std.proofs.Common.{◌≡◌, ◌<◌, None, ap, refl, sym, subst, ◌∙◌}
use Rattle.std.specs.Prelude.{IfNone}
use Rattle.http_in.specs.Messages.{asked}
use Rattle.http_clients.proofs.Hears.{heard_all, heard_either, piece_more}
use Rattle.http_clients.proofs.hearing.read_message.Goals as goal

pub returns-in_err-read_piece-clause-err : goal.returns-in_err-read_piece-clause-err
returns-in_err-read_piece-clause-err g c = λ err.
    (let lost = c.in_err-read_piece.ensures.err refl in
    heard_either c.args.conn c.reading.reader.rest lost.0 (g.H.Hub.peers c.args.hub.now) (g.H.Hub.peers c.reading.hub) (g.H.Hub.peers c.read_piece.new.hub) c.reading.invariant.hears lost.1)

pub returns-then-not-branch-clause-none : goal.returns-then-not-branch-clause-none
returns-then-not-branch-clause-none g c = λ is.
    (let none : asked c.reading.reader.rest ≡ None = subst (λ o. IfNone o (asked c.reading.reader.rest ≡ None)) c.in_default.is c.in_ok-message.ensures.none in
    let stops = c.in_ok-read_piece.ensures.stops (let e = c.if-not-branch.true in cc) in
    (c.reading.reader.rest, none, heard_all c.args.conn c.reading.reader.rest (g.H.Hub.peers c.args.hub.now) (g.H.Hub.peers c.reading.hub) (g.H.Hub.peers c.read_piece.new.hub) c.reading.invariant.hears stops.1))

pub reading-preserved : goal.reading-preserved
reading-preserved g c =
    let kept : c.next.new.self ≡ c.reading.reader = subst (λ o. IfNone o (c.next.new.self ≡ c.reading.reader)) c.in_default.is c.in_ok-message.ensures.kept in
    let more = c.in_ok-read_piece.ensures.more (let e = c.if-not-branch.false in cc) in
    record {
      hears = piece_more c.args.conn c.reading.reader.rest c.next.new.self.rest c.read_piece.new.reader.rest (g.H.Hub.peers c.args.hub.now) (g.H.Hub.peers c.reading.hub) (g.H.Hub.peers c.read_piece.new.hub) (ap (λ r. r.rest) kept) c.reading.invariant.hears more;
      some = subst (λ n. 0 < n) (sym c.in_ok-read_piece.ensures.long) c.reading.invariant.some;
      listening = c.in_ok-read_piece.ensures.listening ∙ c.reading.invariant.listening;
    }
