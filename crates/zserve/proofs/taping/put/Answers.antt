use Rattle.std.proofs.Common.{◌≡◌, [], Option, refl, subst, sym}
use Rattle.zdisk.specs.Disk.{Told}
use Rattle.zio.specs.declared.refusal.OutsideRefusal.{OutsideRefusal}
use Rattle.zserve.specs.Taping.{IsLong, Leaves}
use Rattle.zserve.proofs.Tapings.{leaves_torn}
use Rattle.zserve.proofs.taping.put.Goals as goal

pub returns-in-Err-clause-left : goal.returns-in-Err-clause-left
returns-in-Err-clause-left g c =
    let same = c.in_ok-reserve.ensures.same in
    subst (λ (o : Option Told). Leaves (OutsideRefusal.Failed ≡ OutsideRefusal.Failed) o [] c.args.text.now (g.R.Disk.told c.write_at.new.self)) same
    (leaves_torn (OutsideRefusal.Failed ≡ OutsideRefusal.Failed) refl (g.R.Disk.told c.reserve.new.self) (g.R.Disk.told c.write_at.new.self) c.args.at c.args.text.now (subst (λ (o : Option Told). IsLong o c.args.at) (sym same) c.requires.long) c.in-Err.ensures.held)
