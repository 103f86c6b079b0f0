use Rattle.std.proofs.Common.{rules}
use Rattle.repozo.proofs.Several.{one_as, one_then}
use Rattle.repozo.proofs.joining.join.Goals as goal

pub returns-in_err-check_pieces-clause-piece_counts : goal.returns-in_err-check_pieces-clause-piece_counts
returns-in_err-check_pieces-clause-piece_counts g c = one_as _ _ (λ f. search rules) (λ f. search rules) c.in_err-check_pieces.ensures.counts

pub returns-clause-piece_counts : goal.returns-clause-piece_counts
returns-clause-piece_counts g c = one_then _ _ _ _ c.in_ok-check_pieces.ensures.counts (λ f. search rules) c.put_pieces.ensures.piece_counts
