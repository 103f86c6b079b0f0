use Rattle.permissions.proofs.RoleLaws.{hides}
use Rattle.permissions.proofs.laws.settings_hide_what_is_above.Goals as goal

pub returns : goal.returns
returns c = λ known permission below o above others s sets alone. hides known permission below o above others s sets alone
