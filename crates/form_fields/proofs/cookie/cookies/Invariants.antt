use Rattle.std.proofs.Common.{◌≡◌, drop}
use Rattle.std.specs.List.{flat_map, fold}
use Rattle.form_fields.specs.Cookies as spec
use Rattle.form_fields.specs.Firsts.{AreAt}
use Rattle.form_fields.specs.Grouping.{names, with_cookie}
use Rattle.form_fields.proofs.cookie.cookies.Given as goal

-- the cookies so far become those of all headers with the other headers
abbrev pub invariant-loop-at : goal.invariant-loop-at
invariant-loop-at l =
    (fold with_cookie l.cookies (flat_map spec.cookies_in (spec.cookie_values (drop l.at l.request.headers))) ≡ spec.cookies_of l.request)
    × AreAt (names l.cookies) l.places
