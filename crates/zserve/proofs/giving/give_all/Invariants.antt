use Rattle.std.proofs.Common.{◌≡◌, ℕ, ◌++◌, List, length}
use Rattle.std.specs.Vec.Iter.{into_iter_items}
use Rattle.http_clients.specs.Arriving.{AreMessages, bytes_of}
use Rattle.http_clients.specs.declared.asked.Asked.{Asked}
use Rattle.zserve.specs.Happened.{items}
use Rattle.zserve.specs.Rounds.{AllGiven}
use Rattle.zserve.specs.Tapes.{given_from, workers_from}
use Rattle.zserve.specs.Taping.{Spelt}
use Rattle.zserve.proofs.giving.give_all.Given as goal

-- the messages so far were given, and those that are left are messages
abbrev pub invariant-loop-one : goal.invariant-loop-one
invariant-loop-one g l = record {
  front : List Asked;
  joined : front ++ into_iter_items l.one-iterator ≡ l.fn.asked.items;
  at : l.worker ≡ length front;
  messages : AreMessages (into_iter_items l.one-iterator);
  given : (now : ℕ) → AllGiven g.E.Evaluator.takes g.E.Evaluator.meaning l.fn.core l.core now (bytes_of front);
  store : l.core.store ≡ l.fn.core.store;
  workers : l.waiting.items ≡ workers_from 0 (bytes_of front);
  spelt : Spelt l.fn.text (items (given_from 0 (bytes_of front))) l.text;
}
