use Rattle.std.proofs.Common.{◌≡◌, map}
use Rattle.std.specs.List.{filter_map, fold}
use Rattle.std.specs.Vec.Iter.{into_iter_items}
use Rattle.form_fields.specs.Cookies as spec
use Rattle.form_fields.specs.Firsts.{AreAt}
use Rattle.form_fields.specs.Grouping.{names, with_cookie}
use Rattle.form_fields.proofs.cookie.add_cookies.Given as goal

-- the cookies so far become those of all pieces with the other pieces
abbrev pub invariant-loop-piece : goal.invariant-loop-piece
invariant-loop-piece l =
    (fold with_cookie l.cookies (filter_map (λ piece. spec.parted (spec.trimmed piece)) (map (λ x. x.now) (into_iter_items l.piece-iterator))) ≡ fold with_cookie l.initial.cookies (spec.cookies_in l.value))
    × AreAt (names l.cookies) l.places
