use Rattle.std.proofs.Common.{rules, ◌≤◌, Some, [], length, subst, sym}
use Rattle.fs_store.specs.Stores.{most_length}
use Rattle.http_in.specs.Messages.{one_message}
use Rattle.publisher.specs.Site.{site}
use Rattle.replay.specs.Replayed.{Breaks}
use Rattle.site_links.specs.Linked.{linked}
use Rattle.zope.proofs.Drawing.{admin_keeps, broke_off, site_is_short, undamaged}
use Rattle.zope.proofs.generating.report_of.Goals as goal

pub site_bytes-requires : goal.site_bytes-requires
site_bytes-requires c = admin_keeps

pub replay-requires-clause-size : goal.replay-requires-clause-size
replay-requires-clause-size c = subst (λ b. length b ≤ most_length) (sym c.in_ok-bytes.ensures) site_is_short

pub returns-in-Err-BadLine-clause-cause : goal.returns-in-Err-BadLine-clause-cause
returns-in-Err-BadLine-clause-cause c =
    let b : Breaks one_message site linked most_length c.in_ok-bytes.bytes c.args.schedule.now c.in-Err-BadLine.line (Some []) (Some c.replay.new.out.bytes) = search rules in
    broke_off c.args.number c.in-Err-BadLine.line c.in_ok-bytes.bytes c.args.schedule.now _ c.in_ok-bytes.ensures c.requires.drawn b

pub unreachable-requires : goal.unreachable-requires
unreachable-requires c = undamaged c.new_sites_open.ensures.opens c.one_opening.ensures.not_both c.in_ok-bytes.bytes c.in-Err-Damaged.field-0-1 c.in-Err-Damaged.field-0-0 c.in_ok-bytes.ensures (search rules)
