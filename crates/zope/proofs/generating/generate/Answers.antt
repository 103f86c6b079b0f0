use Rattle.std.proofs.Common.{rules, ◌≡◌}
use Rattle.drawn_runs.specs.Rounds.{drawn_run}
use Rattle.report_tally.specs.Tallies.{capped}
use Rattle.zope.specs.Drawn.{requests_in}
use Rattle.zope.proofs.Drawing.{done, untold}
use Rattle.zope.proofs.generating.generate.Goals as goal

pub returns-clause-ok : goal.returns-clause-ok
returns-clause-ok g c =
    let counted : c.requests_in-requests.result ≡ capped (requests_in (drawn_run c.args.number)) = search rules in
    done c.args.number _ _ c.in_ok-lines.lines c.requests_in-requests.result _ _ c.put_summary.result c.in_ok-report.ensures.report c.explained_reports_are_tidy.ensures c.bytes.ensures counted c.in_ok-lines.ensures c.put_summary.ensures.ok

pub returns-clause-cause : goal.returns-clause-cause
returns-clause-cause g c =
    let counted : c.requests_in-requests.result ≡ capped (requests_in (drawn_run c.args.number)) = search rules in
    untold c.args.number _ _ c.in_ok-lines.lines c.requests_in-requests.result _ _ _ c.put_summary.result c.in_ok-report.ensures.report c.explained_reports_are_tidy.ensures c.bytes.ensures counted c.in_ok-lines.ensures c.put_summary.ensures.cause
