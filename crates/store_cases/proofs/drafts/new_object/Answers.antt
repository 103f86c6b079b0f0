use Rattle.std.proofs.Common.{refl, rules}
use Rattle.store_cases.proofs.Drafting.{new_draft}
use Rattle.store_cases.proofs.drafts.new_object.Goals as goal

pub returns : goal.returns
returns c = new_draft _ _ _ _ c.in_ok-draft.ensures.entries refl c.requires (search rules) c.in_ok-draft.ensures.user c.in_ok-draft.ensures.description
