use Rattle.store_cases.proofs.Drafting.{restored_draft}
use Rattle.store_cases.proofs.drafts.restore.Goals as goal

pub returns : goal.returns
returns c = restored_draft _ c.args.oid c.args.to c.in_ok-draft.ensures.entries c.in_ok-draft.ensures.user c.in_ok-draft.ensures.description
