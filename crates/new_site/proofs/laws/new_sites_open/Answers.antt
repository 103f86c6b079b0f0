use Rattle.new_site.specs.SiteLaws.{page_is, root_is, site_opens, users_is}
use Rattle.new_site.proofs.laws.new_sites_open.Goals as goal

pub returns-clause-root : goal.returns-clause-root
returns-clause-root c = root_is

pub returns-clause-users : goal.returns-clause-users
returns-clause-users c = users_is

pub returns-clause-page : goal.returns-clause-page
returns-clause-page c = page_is

pub returns-clause-opens : goal.returns-clause-opens
returns-clause-opens c = site_opens
