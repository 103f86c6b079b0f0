use Rattle.std.proofs.Common.{refl}
use Rattle.store_cases.proofs.Drafting.{written_draft}
use Rattle.store_cases.proofs.drafts.change.Goals as goal

pub returns : goal.returns
returns c = written_draft _ c.args.oid _ _ _ c.in_ok-draft.ensures.entries refl c.requires c.new-holes.ensures c.in_ok-draft.ensures.user c.in_ok-draft.ensures.description
