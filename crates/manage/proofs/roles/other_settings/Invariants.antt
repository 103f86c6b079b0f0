use Rattle.std.proofs.Common.{◌≡◌, ◌++◌, drop}
use Rattle.manage.specs.Becoming.{other_settings}
use Rattle.manage.proofs.roles.other_settings.Given as goal

abbrev pub invariant-loop-setting : goal.invariant-loop-setting
invariant-loop-setting l = l.left ++ other_settings l.permission (drop l.setting-index l.settings) ≡ other_settings l.permission l.settings
