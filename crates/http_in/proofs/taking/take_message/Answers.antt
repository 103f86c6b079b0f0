use Rattle.std.proofs.Common.{◌≡◌, ◌∙◌, ◌++◌, ap, sym, length, Some}
use Rattle.http_in.specs.Messages.{asked}
use Rattle.http_in.specs.StreamLaws.{none_asked, part_asked, whole_asked}
use Rattle.http_in.specs.Streams.{Stream}
use Rattle.http_in.proofs.taking.take_message.Goals as goal

pub returns-in_default : goal.returns-in_default
returns-in_default c =
    let fed : c.feed.new.self.rest ≡ c.args.bytes.now = c.in_ok-feed.ensures.ok ∙ ap (λ (s : Stream). s.rest ++ c.args.bytes.now) c.new-reader.ensures in
    sym (none_asked c.args.bytes.now (ap asked (sym fed) ∙ (rw c.in_default.is at c.in_ok-message.ensures.none)))

pub returns-then-taken-bytes : goal.returns-then-taken-bytes
returns-then-taken-bytes c =
    let fed : c.feed.new.self.rest ≡ c.args.bytes.now = c.in_ok-feed.ensures.ok ∙ ap (λ (s : Stream). s.rest ++ c.args.bytes.now) c.new-reader.ensures in
    let found : asked c.feed.new.self.rest ≡ Some (c.in-Some.message, length c.next.new.self.taken) = rw c.in-Some.is at c.in_ok-message.ensures.some in
    let all : length c.next.new.self.taken ≡ length c.args.bytes.now = ap length (sym c.taken.ensures.is) ∙ c.if-taken-bytes.true in
    sym (whole_asked c.args.bytes.now c.in-Some.message (ap asked (sym fed) ∙ found ∙ ap (λ n. Some (c.in-Some.message, n)) all))

pub returns : goal.returns
returns c =
    let fed : c.feed.new.self.rest ≡ c.args.bytes.now = c.in_ok-feed.ensures.ok ∙ ap (λ (s : Stream). s.rest ++ c.args.bytes.now) c.new-reader.ensures in
    let found : asked c.feed.new.self.rest ≡ Some (c.in-Some.message, length c.next.new.self.taken) = rw c.in-Some.is at c.in_ok-message.ensures.some in
    sym (part_asked c.args.bytes.now c.in-Some.message (length c.next.new.self.taken) (ap asked (sym fed) ∙ found) (λ all. c.if-taken-bytes.false (ap length c.taken.ensures.is ∙ all)))
