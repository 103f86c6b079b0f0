use Rattle.std.proofs.Common.{◌∙◌, ap, map, rules, subst, sym}
use Rattle.repozo.specs.Disks.{AllRead}
use Rattle.repozo.specs.Pieces.{first_bad}
use Rattle.repozo.proofs.Several.{calm_none, one_calm}
use Rattle.repozo.proofs.checking.check_pieces.Goals as goal

pub returns-in_err-window-clause-counts : goal.returns-in_err-window-clause-counts
returns-in_err-window-clause-counts g c = one_calm g.D.Disk.counter c.args.pieces.now.items c.args.pieces.now.items (calm_none g.D.Disk.counter c.args.pieces.now.items) (λ f. search rules)

pub returns-clause-bad : goal.returns-clause-bad
returns-clause-bad g c = λ name is held all.
    (ap (λ rs. first_bad rs held) (sym c.as_slice.ensures) ∙ c.check_each.ensures.bad name is held (subst (λ ps. AllRead (map g.D.Disk.told ps) held) (sym c.as_mut_slice.ensures.value) all))
