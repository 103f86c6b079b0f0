use Rattle.std.proofs.Common.{◌≡◌, [], refl, subst, sym}
use Rattle.zdisk.specs.Crashes.{IsSynced}
use Rattle.zdisk.specs.Disk.{Told, content}
use Rattle.zope.proofs.Closing.{left_new, made_new}
use Rattle.zope.proofs.making.make_file.Goals as goal

pub make_site-made-requires-clause-empty : goal.make_site-made-requires-clause-empty
make_site-made-requires-clause-empty g c told is = subst (λ (t : Told). IsSynced t × (content t ≡ [])) (sym (c.in-Ok.ensures.empty told is)) (refl, refl)

pub returns-in_err-made-in-Ok-clause-left : goal.returns-in_err-made-in-Ok-clause-left
returns-in_err-made-in-Ok-clause-left g c =
    left_new _ _ _ c.args.file.now _ c.args.name.now c.args.password.now _ _ c.close-closed.result c.in-Ok.ensures.new c.in-Ok.ensures.made c.in-Ok.ensures.told c.one_image.ensures.own c.make_site-made.ensures.any_moment c.close-closed.ensures.closed c.close-closed.ensures.kept

pub returns-in_err-closed-in-Ok-clause-left : goal.returns-in_err-closed-in-Ok-clause-left
returns-in_err-closed-in-Ok-clause-left g c =
    left_new _ _ _ c.args.file.now _ c.args.name.now c.args.password.now _ _ c.close-closed.result c.in-Ok.ensures.new c.in-Ok.ensures.made c.in-Ok.ensures.told c.one_image.ensures.own c.make_site-made.ensures.any_moment c.close-closed.ensures.closed c.close-closed.ensures.kept

pub returns-in_ok-closed-in-Ok-clause-made : goal.returns-in_ok-closed-in-Ok-clause-made
returns-in_ok-closed-in-Ok-clause-made g c =
    made_new _ _ _ c.args.file.now _ _ _ c.in-Ok.ensures.new c.in-Ok.ensures.made c.in-Ok.ensures.told c.in_ok-made-in-Ok.ensures.made c.in_ok-closed-in-Ok.ensures.closed

pub returns-in_ok-closed-in-Ok-clause-left : goal.returns-in_ok-closed-in-Ok-clause-left
returns-in_ok-closed-in-Ok-clause-left g c =
    left_new _ _ _ c.args.file.now _ c.args.name.now c.args.password.now _ _ c.close-closed.result c.in-Ok.ensures.new c.in-Ok.ensures.made c.in-Ok.ensures.told c.one_image.ensures.own c.make_site-made.ensures.any_moment c.close-closed.ensures.closed c.close-closed.ensures.kept
