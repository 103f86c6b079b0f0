use Rattle.std.proofs.Common.{◌∙◌, ◌<◌, ℕ, List, [], length, sym, subst, arith, String, Global, BTreeMap}
use Rattle.std.specs.List.{flat_map}
use Rattle.form_fields.specs.declared.field.Field.{Field}
use Rattle.form_fields.specs.Cookies.{cookie_values, cookies_in, cookies_of}
use Rattle.form_fields.specs.Firsts.{AreAt}
use Rattle.form_fields.specs.Grouping.{names}
use Rattle.form_fields.proofs.CookieSteps.{next_cookies, next_header, no_header}
use Rattle.form_fields.proofs.Grouped.{cookies_all}
use Rattle.form_fields.proofs.Placing.{none_placed}
use Rattle.form_fields.proofs.cookie.cookies.Goals as goal
use Rattle.form_fields.proofs.cookie.cookies.Goals.{then-is_named+in_ok-add_cookies, else-is_named}

pub loop-at-init : goal.loop-at-init
unfolding cookies_of
loop-at-init c = (rw c.new-cookies.ensures (cookies_all [] (flat_map cookies_in (cookie_values c.args.request.now.headers))), rw c.new-cookies.ensures (none_placed c.new-places.result c.new-places.ensures.empty))

pub loop-at-preserved : goal.loop-at-preserved
loop-at-preserved c =
    let less : c.loop-at.at < length c.args.request.now.headers = omega (arith, c.loop-at-test.true, c.len-at-end.ensures) in
    elim c.if-is_named.branch [
      | then-is_named+in_ok-add_cookies w ↦ (
        next_cookies c.args.request.now.headers c.loop-at.at no_header less c.loop-at.cookies c.if-is_named.cookies w.value.result.now (cookies_of c.args.request.now)
            (sym (c.is_named.ensures no_header) ∙ w.if-is_named.true) (w.value.ensures no_header) (w.cookies-is ∙ w.in_ok-add_cookies.ensures.cookies) c.loop-at.invariant.0,
        subst (λ (p : BTreeMap (String Global) ℕ). AreAt (names c.if-is_named.cookies) p) (sym w.places-is) (subst (λ (f : List Field). AreAt (names f) w.add_cookies.new.places) (sym w.cookies-is) w.in_ok-add_cookies.ensures.places),
      )
      | else-is_named w ↦ (
        next_header c.args.request.now.headers c.loop-at.at no_header less c.loop-at.cookies c.if-is_named.cookies (cookies_of c.args.request.now)
            (sym (c.is_named.ensures no_header) ∙ w.if-is_named.false) w.cookies-is c.loop-at.invariant.0,
        subst (λ (p : BTreeMap (String Global) ℕ). AreAt (names c.if-is_named.cookies) p) (sym w.places-is) (subst (λ (f : List Field). AreAt (names f) c.loop-at.places) (sym w.cookies-is) c.loop-at.invariant.1),
      )
    ]
