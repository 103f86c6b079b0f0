use Rattle.std.proofs.Common.{rules}
use Rattle.repozo.proofs.Several.{calm_none, one_calm}
use Rattle.repozo.proofs.planning.hold_front.Goals as goal

pub returns-in_err-one-clause-piece_counts : goal.returns-in_err-one-clause-piece_counts
returns-in_err-one-clause-piece_counts g c = one_calm g.D.Disk.counter c.args.pieces.now.items c.args.pieces.now.items (calm_none g.D.Disk.counter c.args.pieces.now.items) (λ f. search rules)

pub returns-in_err-other-clause-piece_counts : goal.returns-in_err-other-clause-piece_counts
returns-in_err-other-clause-piece_counts g c = one_calm g.D.Disk.counter c.args.pieces.now.items c.args.pieces.now.items (calm_none g.D.Disk.counter c.args.pieces.now.items) (λ f. search rules)

pub returns-in_err-len-clause-piece_counts : goal.returns-in_err-len-clause-piece_counts
returns-in_err-len-clause-piece_counts g c = one_calm g.D.Disk.counter c.args.pieces.now.items c.args.pieces.now.items (calm_none g.D.Disk.counter c.args.pieces.now.items) (λ f. search rules)
