use Rattle.std.proofs.Common.{◌/◌, ℕ, List, IsSome, Some, cond, refl, ap, sym, subst, ◌∙◌}
use Rattle.std.proofs.Math.ListN.{set}
use Rattle.std.specs.Map.{lookup}
use Rattle.std.specs.Ordering.{nat_cmp}
use Rattle.std.specs.BTreeMap.{is_at}
use Rattle.fs_index.specs.Places.{Slots, is_in_row}
use Rattle.fs_index.proofs.Rows.{reached, unreached, row_put}
use Rattle.fs_index.proofs.index.Index.put_in_row.Goals as goal

pub put-requires-clause-within : goal.put-requires-clause-within
put-requires-clause-within c =
    let s : Slots = record { rows = c.self.inside.rows.entries; few = c.self.inside.few.entries } in
    rw c.number_of.ensures (reached s c.args.id c.in-Some.row.now (ap (λ (t : Slots). is_in_row t c.args.id) c.self.view_is ∙ c.requires.row) c.in-Some.ensures.value)

pub unreachable-requires : goal.unreachable-requires
unreachable-requires c =
    let s : Slots = record { rows = c.self.inside.rows.entries; few = c.self.inside.few.entries } in
    unreached s c.args.id (ap (λ (t : Slots). is_in_row t c.args.id) c.self.view_is ∙ c.requires.row) c.in-None.ensures.value

pub returns : goal.returns
returns c =
    let row = c.in-Some.row.now in
    let found = c.in-Some.ensures.value in
    let s : Slots = record { rows = c.self.inside.rows.entries; few = c.self.inside.few.entries } in
    let new : Slots = record { rows = (c.get_mut.follows.lender c.put.new.self).entries; few = c.self.inside.few.entries } in
    let there = (c.get_mut.follows.holds c.put.new.self).3 (subst IsSome found refl) in
    let within = reached s c.args.id row (ap (λ (t : Slots). is_in_row t c.args.id) c.self.view_is ∙ c.requires.row) found in
    rw (← c.self.view_is) (row_put s new row c.args.id c.args.place (sym found) within refl
    (λ n. there.0 n ∙ ap (λ (r : List ℕ). cond (is_at (nat_cmp (c.args.id / 65536)) n) (Some r) (lookup (is_at (nat_cmp n)) s.rows)) (c.put.ensures ∙ ap (λ (k : ℕ). set row k c.args.place) c.number_of.ensures)))
