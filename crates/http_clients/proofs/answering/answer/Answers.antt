use Rattle.std.proofs.Common.{◌≡◌, ◌∙◌, ◌||◌, false, get_or, refl, sym, take}
use Rattle.http_clients.specs.Ending.{SendsReply}
use Rattle.http_clients.proofs.Endings.{ends_all_as, ends_next, ends_one_as, none_there, or_left, or_right, sends_kept, were_next, were_rest}
use Rattle.http_clients.proofs.answering.answer.Goals.{then-short, else-short}
use Rattle.http_clients.proofs.answering.answer.Goals as goal

pub unreachable-requires : goal.unreachable-requires
unreachable-requires g c =
    let there = c.requires.replies c.loop-worker.worker c.loop-worker-test.true in
    none_there c.args.replies.now c.loop-worker.worker there.0 c.index-replies-worker.result c.index-replies-worker.is c.in_default.is there.1

pub loop-worker-preserved : goal.loop-worker-preserved
loop-worker-preserved g c =
    let ns = c.args.numbers.now in
    let i = c.loop-worker.worker in
    let less = c.loop-worker-test.true in
    let old = g.H.Hub.peers c.args.hub.now in
    let mid = g.H.Hub.peers c.loop-worker.hub in
    let new = g.H.Hub.peers c.answer_one-lacks.new.hub in
    let lacks = c.answer_one-lacks.result in
    let short = c.if-short.short in
    let both : short ≡ (c.loop-worker.short || lacks) = elim c.if-short.branch [ then-short w ↦ w.short-is ∙ sym (rw w.if-short.true refl) | else-short w ↦ w.short-is ∙ sym (rw w.if-short.false refl) ] in
    let there = c.requires.replies i less in
    let was = ends_all_as (λ w end. c.loop-worker.short ≡ false → SendsReply c.args.replies.now w end) (λ w end. short ≡ false → SendsReply c.args.replies.now w end) (take i ns) old mid
    (λ w end sends none. sends (or_left c.loop-worker.short lacks (sym both ∙ none))) c.loop-worker.invariant.ended in
    let one = ends_one_as _ (λ end. short ≡ false → SendsReply c.args.replies.now i end) (get_or ns i 0) mid new (λ end sends none. sends_kept c.args.replies.now i there.0 c.in-Some.reply c.as_slice.result.now c.index-replies-worker.result end c.index-replies-worker.is c.in-Some.is there.1 c.as_slice.ensures (sends (or_right c.loop-worker.short lacks (sym both ∙ none)))) c.answer_one-lacks.ensures.ended in
    record {
      ended = ends_next (λ w end. short ≡ false → SendsReply c.args.replies.now w end) ns i 0 old mid new less was one;
      rest = were_rest _ (get_or ns i 0) _ mid new (were_next ns i 0 mid less c.loop-worker.invariant.rest) c.answer_one-lacks.ensures.ended;
      listening = c.answer_one-lacks.ensures.listening ∙ c.loop-worker.invariant.listening;
    }
