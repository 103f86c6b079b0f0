use Rattle.zope.proofs.Leaving.{packed_did, packed_leaves, packed_untold, unpacked_leaves}
use Rattle.zope.proofs.packs.pack_site.Goals as goal

pub returns-in_err-done-clause-left : goal.returns-in_err-done-clause-left
returns-in_err-done-clause-left g c = unpacked_leaves c.args.file.now c.args.before _ _ c.in_err-done.ensures.left

pub returns-clause-ok : goal.returns-clause-ok
returns-clause-ok g c = packed_did c.args.file.now c.args.before _ _ _ _ _ c.in_ok-done.done c.put_packed.result c.in_ok-done.ensures.packed c.in_ok-done.ensures.lasts.0 c.put_packed.ensures.ok

pub returns-clause-cause : goal.returns-clause-cause
returns-clause-cause g c = packed_untold c.args.file.now c.args.before _ _ _ _ _ _ c.in_ok-done.done c.put_packed.result c.in_ok-done.ensures.packed c.put_packed.ensures.cause

pub returns-clause-left : goal.returns-clause-left
returns-clause-left g c = packed_leaves c.args.file.now c.args.before _ _ c.in_ok-done.done c.in_ok-done.ensures.packed
