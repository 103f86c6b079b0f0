use Rattle.std.proofs.Common.{rules, ℕ, ◌≡◌, ◌∙◌, ◌∷◌, ◌++◌, [], sym, ap, subst, true, not, nat_cmp}
use Rattle.std.proofs.Math.Bool.{cond}
use Rattle.std.specs.BTreeMap.{is_at}
use Rattle.std.specs.BTreeSet.{contains}
use Rattle.namespace.proofs.Onces.{more_in, once_taken}
use Rattle.namespace.proofs.showing.Showing.take.Goals as goal

pub invariant_of-self-else-is_err : goal.invariant_of-self-else-is_err
invariant_of-self-else-is_err c =
    let new : true ≡ not (contains nat_cmp c.self.inside.oids c.args.oid) = sym c.if-not-branch.false ∙ c.in_ok-insert.ensures.added ∙ ap (λ (n : ℕ). not (contains nat_cmp c.self.inside.oids n)) c.oid.view_is in
    let longer : c.push_shown-added.new.list ≡ c.self.inside.list ++ record { oid = c.args.oid; role = c.args.role } ∷ [] = search rules in (
      more_in c.self.inside.oids c.insert.new.self c.self.inside.list c.push_shown-added.new.list c.args.oid c.args.role c.self.invariant.0
          (subst (λ (n : ℕ). (o : ℕ) → contains nat_cmp c.insert.new.self o ≡ cond (is_at (nat_cmp n) o) true (contains nat_cmp c.self.inside.oids o)) c.oid.view_is c.in_ok-insert.ensures.updates.0) longer,
      once_taken c.self.inside.oids c.self.inside.list c.push_shown-added.new.list c.args.oid c.args.role c.self.invariant.0 c.self.invariant.1 new longer,
    )
