use Rattle.std.proofs.Common.{◌≡◌, ℕ, ◌∙◌, ap, subst, List, ◌++◌, ◌∷◌, [], Some}
use Rattle.std.specs.Prelude.{◌==◌, if◌then◌else◌}
use Rattle.zbase.specs.declared.ids.Row.{Row}
use Rattle.fs_index.specs.Places.{known, place_of}
use Rattle.fs_scan.specs.Keeping.{Keeping, KeepsMore}
use Rattle.fs_scan.proofs.KeptPlaces.{one_more, put_newest}
use Rattle.fs_scan.proofs.kept.Kept.push.Goals as goal

pub returns : goal.returns
returns c =
    let put = subst (λ (r : Row). (o : ℕ) → place_of c.put.new.self o ≡ (if c.args.row.oid == o then known r.place else place_of c.reserve-2.new.self o)) c.row.view_is c.put.ensures.places in
    let old : Keeping = record { places = c.self.inside.starts.items; newest = c.self.inside.newest; greatest = c.self.inside.greatest } in
    let new : Keeping = record { places = c.push.new.self.items; newest = c.put.new.self; greatest = Some c.or_greater.result } in
    subst (λ (k : Keeping). KeepsMore k new (c.args.row ∷ [])) c.self.view_is
    (one_more old new c.args.row
    (c.in-Ok.ensures.items ∙ ap (λ (p : ℕ). c.reserve.new.self.items ++ p ∷ []) (c.new.ensures ∙ ap (λ (r : Row). r.place) c.row.view_is) ∙ ap (λ (ps : List ℕ). ps ++ c.args.row.place ∷ []) c.in_ok-reserve.ensures.items)
    (put_newest c.self.inside.newest c.reserve-2.new.self c.put.new.self c.args.row.oid c.args.row.place c.requires.placed c.in_ok-reserve-2.ensures.places put)
    (ap Some (rw (← c.row.view_is) c.or_greater.ensures)))
