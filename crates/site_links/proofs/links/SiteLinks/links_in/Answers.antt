use Rattle.site_links.proofs.Decoded.{linked_by, linked_none, one_object, spells_none}
use Rattle.site_links.proofs.links.SiteLinks.links_in.Goals as goal

pub returns-in_ok-links_of-in-Ok-clause-linked : goal.returns-in_ok-links_of-in-Ok-clause-linked
returns-in_ok-links_of-in-Ok-clause-linked c = linked_by c.args.bytes.now c.in-Ok.object c.in_ok-links_of-in-Ok.field-0 c.in-Ok.ensures.place c.in_ok-links_of-in-Ok.ensures

pub returns-in_ok-links_of-in-Ok-clause-spelled : goal.returns-in_ok-links_of-in-Ok-clause-spelled
returns-in_ok-links_of-in-Ok-clause-spelled c = λ o spells. one_object o c.in-Ok.object c.in_ok-links_of-in-Ok.field-0 (c.in-Ok.ensures.only o spells) c.in_ok-links_of-in-Ok.ensures

pub returns-in-Err-BadRecord-clause-linked : goal.returns-in-Err-BadRecord-clause-linked
returns-in-Err-BadRecord-clause-linked c = linked_none c.args.bytes.now c.in-Err-BadRecord.field-0 _ c.in-Err-BadRecord.field-0-is c.in-Err-BadRecord.ensures.place

pub returns-in-Err-BadRecord-clause-spelled : goal.returns-in-Err-BadRecord-clause-spelled
returns-in-Err-BadRecord-clause-spelled c = λ o spells. absurd (spells_none o c.in-Err-BadRecord.field-0 _ c.in-Err-BadRecord.field-0-is (c.in-Err-BadRecord.ensures.only o spells))

pub returns-in-Err-BadRecord-clause-none : goal.returns-in-Err-BadRecord-clause-none
returns-in-Err-BadRecord-clause-none c = λ _ o spells. spells_none o c.in-Err-BadRecord.field-0 _ c.in-Err-BadRecord.field-0-is (c.in-Err-BadRecord.ensures.only o spells)
