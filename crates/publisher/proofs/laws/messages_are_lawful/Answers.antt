use Rattle.publisher.specs.ChangeLaws.{site_changes}
use Rattle.publisher.specs.SiteLaws.{site_asks_few, site_is_lawful, site_replies}
use Rattle.publisher.proofs.laws.messages_are_lawful.Goals as goal

pub returns : goal.returns
returns c = record { lawful = site_is_lawful; few_asks = site_asks_few; changes = site_changes; replies = site_replies }
