-- What wrong sites answer over the small site of the worked rows: one that ignores credentials, one that shows every object
-- for `Anonymous`, one that renders with the proxy roles of an object that the page doesn't render, one that passes over an
-- item of a `dtml-in` without `skip_unauthorized`, and one in which the title of an object that its user may not view changes
-- a page.
use Rattle.std.specs.Prelude.{ℕ, List, [], ◌∷◌, Option, Some, codes, nat_eq, if◌then◌else◌}
use Rattle.zobject.specs.declared.object.Object.{Object}
use Rattle.zobject.specs.declared.object.Part2.TheVariants as parts
use Rattle.zknown.specs.Seen.{Seen, Here}
use Rattle.evaluator.specs.declared.outcome.Outcome.{Outcome}
use Rattle.evaluator.specs.declared.permission.TheConstants.{VIEW}
use Rattle.evaluator.specs.declared.reply.Denial.{Denial}
use Rattle.evaluator.specs.declared.reply.Reply.{Reply}
use Rattle.http_in.specs.declared.message.Request.{Request}
use Rattle.http_in.specs.declared.message.Verb.TheVariants.{Get}
use Rattle.namespace.specs.Traces.{Children, Contents, Kind, Look, Turn, a_look}
use Rattle.permissions.specs.declared.who.Verdict.{Verdict}
use Rattle.permissions.specs.declared.who.Verdict.TheVariants as verdicts
use Rattle.permissions.specs.declared.who.Who.TheVariants as users
use Rattle.publisher.specs.Replies.{page_reply}
use Rattle.publisher.specs.Worked.{admin, at, held, managers, sent, shown, site}

-- the Manager `admin` asks for the private document `s`
abbrev pub private_page : Request
private_page = sent Get (at (codes "s")) [] admin

-- who ignores credentials denies it
abbrev pub not_granted : Denial
not_granted = record { oid = 4; permission = VIEW }

-- who shows every object for `Anonymous` names the wrong role
abbrev pub for_anyone : Reply
for_anyone = page_reply (codes "hush") (shown 4 (codes "Anonymous") ∷ [])

-- the site, in which there is a method with the proxy role Manager too
abbrev pub site_with_proxy : ℕ → Option (Seen Object)
site_with_proxy o = if nat_eq o 8 then Some (Here (held 0 (codes "m") [] (parts.Method [] (codes "Manager" ∷ [])))) else site o

-- nobody asks for the front page, which renders nothing that has proxy roles
abbrev pub front_page : Request
front_page = sent Get [] [] []

-- who renders with another's proxy roles shows the private document there
abbrev pub with_anothers_roles : Reply
with_anothers_roles = page_reply (codes "<b>T</b>") (shown 2 (codes "Anonymous") ∷ shown 4 (codes "Manager") ∷ [])

-- the site, whose front page shows the folder `H`, and then the private document `s`
abbrev pub listing_site : ℕ → Option (Seen Object)
listing_site o =
    if nat_eq o 2 then Some (Here (held 0 (codes "index_html") [] (parts.Method (codes "<dtml-with H><dtml-in objectValues></dtml-in></dtml-with><dtml-var s>") []))) else site o

abbrev nobody_looks : Kind → ℕ → Verdict → Look
nobody_looks kind o v = a_look users.Anonymous kind o v

abbrev to_everyone : Verdict
to_everyone = verdicts.Granted (codes "Anonymous")

-- who passes over the private document `e` there, though that isn't asked for, denies the document `s` behind it
abbrev pub past_an_item : List Look
past_an_item =
    nobody_looks Contents 2 to_everyone ∷ nobody_looks Children 5 to_everyone ∷ nobody_looks Contents 6 to_everyone ∷ nobody_looks Turn 7 (verdicts.Denied VIEW)
    ∷ nobody_looks Contents 4 (verdicts.Denied VIEW) ∷ []

-- the site, in which the private document has another title
abbrev pub renamed_site : ℕ → Option (Seen Object)
renamed_site o = if nat_eq o 4 then Some (Here (record (held 0 (codes "s") managers (parts.Document (codes "hush") [])) { title = codes "U" })) else site o

-- nobody asks for the document `d`
abbrev pub open_page : Request
open_page = sent Get (at (codes "d")) [] []

-- who tells the title of another document there
abbrev pub with_a_title : List ℕ → Outcome
with_a_title title = Outcome.Answer (page_reply title (shown 3 (codes "Anonymous") ∷ []))
