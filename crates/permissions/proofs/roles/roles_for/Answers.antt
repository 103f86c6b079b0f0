use Rattle.std.proofs.Common.{◌≡◌, ◌∙◌, ◌++◌, ap, true, false, None, Some, rules}
use Rattle.zobject.specs.Shapes.{shape_of}
use Rattle.zknown.specs.Seen.{shapes}
use Rattle.permissions.specs.Roles.{setting_of}
use Rattle.permissions.proofs.Steps.{passes_by, ends_here, goes_up}
use Rattle.permissions.proofs.roles.roles_for.Goals as goal

pub loop-oid-preserved-in_default : goal.loop-oid-preserved-in_default
unfolding shape_of
loop-oid-preserved-in_default c =
    let none : setting_of c.args.permission c.present-object.result.now.settings ≡ None = search rules in
    passes_by (shapes c.args.known.now) c.args.path.now c.loop-oid.oid-index c.oid-item.result (shape_of c.present-object.result.now) c.loop-oid-test.true c.oid-item.is c.present-object.ensures c.loop-oid.invariant.0
    c.args.permission c.loop-oid.roles _ c.loop-oid.invariant.1 none

pub returns-then-not-setting : goal.returns-then-not-setting
unfolding shape_of
returns-then-not-setting c =
    let some : setting_of c.args.permission c.present-object.result.now.settings ≡ Some c.in-Some.setting.now = search rules in
    let alone : c.in-Some.setting.now.acquire ≡ false = search rules in
    ends_here (shapes c.args.known.now) c.args.path.now c.loop-oid.oid-index c.oid-item.result (shape_of c.present-object.result.now) c.loop-oid-test.true c.oid-item.is c.present-object.ensures c.loop-oid.invariant.0
    c.args.permission c.loop-oid.roles _ c.loop-oid.invariant.1 c.in-Some.setting.now some alone c.append.new.roles (c.in_ok-append.ensures ∙ ap (λ more. c.loop-oid.roles ++ more) c.as_slice-in-loop-oid.ensures)

pub loop-oid-preserved : goal.loop-oid-preserved
unfolding shape_of
loop-oid-preserved c =
    let some : setting_of c.args.permission c.present-object.result.now.settings ≡ Some c.in-Some.setting.now = search rules in
    let too : c.in-Some.setting.now.acquire ≡ true = search rules in
    goes_up (shapes c.args.known.now) c.args.path.now c.loop-oid.oid-index c.oid-item.result (shape_of c.present-object.result.now) c.loop-oid-test.true c.oid-item.is c.present-object.ensures c.loop-oid.invariant.0
    c.args.permission c.loop-oid.roles _ c.loop-oid.invariant.1 c.in-Some.setting.now some too c.append.new.roles (c.in_ok-append.ensures ∙ ap (λ more. c.loop-oid.roles ++ more) c.as_slice-in-loop-oid.ensures)
