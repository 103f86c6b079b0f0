use Rattle.std.proofs.Common.{◌≡◌, Option, length, rules, subst, sym}
use Rattle.std.specs.Prelude.{IfSome}
use Rattle.std.proofs.lemmas.Result.{IfOk-weaker}
use Rattle.zdisk.specs.Disk.{Told, content}
use Rattle.repozo.specs.Disks.{Reads}
use Rattle.repozo.proofs.Checked.{read_is}
use Rattle.repozo.proofs.Current.{is_part_when}
use Rattle.repozo.proofs.planning.is_current.Goals as goal

pub returns-clause-is : goal.returns-clause-is
returns-clause-is g c =
    let long : IfSome (g.D.Disk.told c.args.piece.now) (λ (t : Told). c.in_ok-has.has ≡ length (content t)) = search rules in
    IfOk-weaker c.same_part.result _ _ (λ b is bytes held rb rh. is_part_when c.args.row.now bytes held c.in_ok-has.has b (read_is (g.D.Disk.told c.args.piece.now) held (λ xs. c.in_ok-has.has ≡ length xs) rh long) (search rules)
    (is bytes held rb (subst (λ (o : Option Told). Reads o held) (sym c.len.ensures.same) rh))) c.same_part.ensures.is
