use Rattle.zobject.proofs.Changed.{setting_put, settings_fewer}
use Rattle.zobject.proofs.laws.settings_may_change.Goals as goal

pub returns : goal.returns
returns c = record { put = setting_put; fewer = settings_fewer }
