use Rattle.std.proofs.Common.{rules}
use Rattle.repozo.proofs.Several.{back_counts, calm_none, one_as, one_calm}
use Rattle.repozo.proofs.joining.put_pieces.Goals as goal

pub returns-in_err-window-clause-piece_counts : goal.returns-in_err-window-clause-piece_counts
returns-in_err-window-clause-piece_counts g c = one_calm g.D.Disk.counter c.args.pieces.now.items c.args.pieces.now.items (calm_none g.D.Disk.counter c.args.pieces.now.items) (λ f. search rules)

pub returns-in_err-reserve-clause-piece_counts : goal.returns-in_err-reserve-clause-piece_counts
returns-in_err-reserve-clause-piece_counts g c = one_calm g.D.Disk.counter c.args.pieces.now.items c.args.pieces.now.items (calm_none g.D.Disk.counter c.args.pieces.now.items) (λ f. search rules)

pub returns-in_err-append_each-clause-piece_counts : goal.returns-in_err-append_each-clause-piece_counts
returns-in_err-append_each-clause-piece_counts g c = one_as _ _ (λ f. search rules) (λ f. search rules) (back_counts _ g.D.Disk.counter c.args.pieces.now.items _ c.append_each.new.pieces c.args.pieces.now.len c.as_mut_slice.ensures.value (search rules) c.in_err-append_each.ensures.piece_counts)

pub returns-in_err-map_err-clause-piece_counts : goal.returns-in_err-map_err-clause-piece_counts
returns-in_err-map_err-clause-piece_counts g c = one_as _ _ (λ f. search rules) (λ f. search rules) (back_counts _ g.D.Disk.counter c.args.pieces.now.items _ c.append_each.new.pieces c.args.pieces.now.len c.as_mut_slice.ensures.value (search rules) c.in_ok-append_each.ensures.piece_counts)

pub returns-clause-piece_counts : goal.returns-clause-piece_counts
returns-clause-piece_counts g c = one_as _ _ (λ f. search rules) (λ f. search rules) (back_counts _ g.D.Disk.counter c.args.pieces.now.items _ c.append_each.new.pieces c.args.pieces.now.len c.as_mut_slice.ensures.value (search rules) c.in_ok-append_each.ensures.piece_counts)
