use Rattle.std.proofs.Common.{◌≡◌, None}
use Rattle.replay_tests.proofs.workers.a_vote_that_is_out_at_the_end_never_stands.Given as goal

abbrev pub invariant-loop-stamp : goal.invariant-loop-stamp
invariant-loop-stamp g l = l.store.out ≡ None
