use Rattle.std.proofs.Common.{◌≡◌, ℕ, ◌<◌, ◌++◌, List, [], ◌∷◌, append-nil, length-append, arith, refl, sym, ap, subst, ◌∙◌}
use Rattle.std.specs.Vec.Iter.{into_iter_items}
use Rattle.http_clients.specs.Arriving.{AreMessages, bytes_of}
use Rattle.http_clients.specs.declared.asked.Asked.{Asked}
use Rattle.http_in.specs.declared.message.Message.{Message}
use Rattle.zserve.specs.Rounds.{AllGiven}
use Rattle.zserve.proofs.Handing.{KnownImages, images_as, joined_on, next_below, next_given, next_idle, next_spelt, next_workers, nothing_left, spelt_none}
use Rattle.zserve.proofs.Joining.{given_none}
use Rattle.zserve.proofs.Refusing.{on_err}
use Rattle.zserve.specs.Going.{Went}
use Rattle.zserve.specs.Tapes.{given_from}
use Rattle.zserve.proofs.giving.give_all.Goals as goal

pub loop-one-init : goal.loop-one-init
loop-one-init g c =
    let all : into_iter_items c.into_iter-one-iterator.result ≡ c.args.asked.items = cc in
    record {
      front = [];
      joined = all;
      at = refl;
      messages = subst AreMessages (sym all) c.requires.messages;
      given = λ now. given_none g.E.Evaluator.takes g.E.Evaluator.meaning c.args.core.now now c.requires.idle;
      store = refl;
      workers = c.new-waiting.ensures.items;
      spelt = spelt_none c.args.text.now;
    }

pub give-requires-clause-idle : goal.give-requires-clause-idle
give-requires-clause-idle g c =
    let i = c.loop-one.invariant in
    let below : c.loop-one.worker < 16 = next_below i.front _ _ c.args.asked.items c.in-Some.one c.loop-one.worker i.joined c.in-Some.ensures.steps.0 c.requires.few i.at in
    next_idle g.E.Evaluator.takes g.E.Evaluator.meaning c.args.core.now c.loop-one.core 0 c.loop-one.worker i.front (i.given 0) i.at below

pub loop-one-preserved : goal.loop-one-preserved
loop-one-preserved g c =
    let i = c.loop-one.invariant in
    let w = c.loop-one.worker in
    let one = c.in-Some.one in
    let e = c.in_ok-give.ensures in
    let below : w < 16 = next_below i.front _ _ c.args.asked.items one w i.joined c.in-Some.ensures.steps.0 c.requires.few i.at in
    let images : KnownImages c.loop-one.core.store = images_as c.args.core.now.store c.loop-one.core.store i.store (subst KnownImages c.store.ensures c.is_sound.ensures.images) in
    record {
      front = i.front ++ one ∷ [];
      joined = joined_on i.front _ _ c.args.asked.items one i.joined c.in-Some.ensures.steps.0;
      at = (let long = length-append i.front (one ∷ []) in let at = i.at in omega (arith, long, at));
      messages = (subst AreMessages c.in-Some.ensures.steps.0 i.messages).1;
      given = λ now. next_given g.E.Evaluator.takes g.E.Evaluator.meaning c.args.core.now c.loop-one.core c.give.new.core now w i.front one (i.given now) i.at below images e.given;
      store = e.given.store ∙ i.store;
      workers = c.in_ok-push.ensures.items ∙ next_workers c.loop-one.waiting.items i.front one w i.workers i.at;
      spelt = next_spelt c.args.text.now c.loop-one.text c.give.new.text i.front one w i.spelt e.text e.line i.at;
    }

pub returns-clause-given : goal.returns-clause-given
returns-clause-given g c =
    let i = c.loop-one.invariant in
    let none : into_iter_items c.loop-one.one-iterator ≡ [] = nothing_left (into_iter_items c.loop-one.one-iterator) c.loop-one.one-iterator.rest.len c.loop-one.one-iterator.rest.ok.0 c.in-None.ensures.steps.0 in
    let whole : i.front ≡ c.args.asked.items = sym (append-nil i.front) ∙ ap (λ (xs : List Asked). i.front ++ xs) (sym none) ∙ i.joined in
    λ now. subst (λ (xs : List Asked). AllGiven g.E.Evaluator.takes g.E.Evaluator.meaning c.args.core.now c.loop-one.core now (bytes_of xs)) whole (i.given now)

pub returns-in_err-give-clause-went : goal.returns-in_err-give-clause-went
returns-in_err-give-clause-went g c =
    let i = c.loop-one.invariant in
    let went : (since : ℕ) → Went {E = g.row.E.Denot} {R = Message} {S = g.row.E-State.Denot} g.E.Evaluator.takes g.E.Evaluator.meaning c.args.core.now since c.give.new.core = λ since. subst (λ core. Went {E = g.row.E.Denot} {R = Message} {S = g.row.E-State.Denot} g.E.Evaluator.takes g.E.Evaluator.meaning c.args.core.now since core) (sym c.in_err-give.ensures.err) (given_from 0 (bytes_of i.front), since, (i.given since).goes) in
    on_err c.from_residual.result ((since : ℕ) → Went {E = g.row.E.Denot} {R = Message} {S = g.row.E-State.Denot} g.E.Evaluator.takes g.E.Evaluator.meaning c.args.core.now since c.give.new.core) went

pub returns-in_err-push-clause-went : goal.returns-in_err-push-clause-went
returns-in_err-push-clause-went g c =
    let i = c.loop-one.invariant in
    let w = c.loop-one.worker in
    let one = c.in-Some.one in
    let below : w < 16 = next_below i.front _ _ c.args.asked.items one w i.joined c.in-Some.ensures.steps.0 c.requires.few i.at in
    let images : KnownImages c.loop-one.core.store = images_as c.args.core.now.store c.loop-one.core.store i.store (subst KnownImages c.store.ensures c.is_sound.ensures.images) in
    let went : (since : ℕ) → Went {E = g.row.E.Denot} {R = Message} {S = g.row.E-State.Denot} g.E.Evaluator.takes g.E.Evaluator.meaning c.args.core.now since c.give.new.core = λ since.
    (given_from 0 (bytes_of (i.front ++ one ∷ [])), since, (next_given g.E.Evaluator.takes g.E.Evaluator.meaning c.args.core.now c.loop-one.core c.give.new.core since w i.front one (i.given since) i.at below images c.in_ok-give.ensures.given).goes) in
    on_err c.from_residual-in_err-push.result ((since : ℕ) → Went {E = g.row.E.Denot} {R = Message} {S = g.row.E-State.Denot} g.E.Evaluator.takes g.E.Evaluator.meaning c.args.core.now since c.give.new.core) went
