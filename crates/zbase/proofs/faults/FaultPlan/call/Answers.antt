use Rattle.std.proofs.Common.{◌≡◌, ◌<◌, ◌∙◌, sym, ap, arith, true, ◌==◌}
use Rattle.std.specs.List.{list_any}
use Rattle.zbase.proofs.Plans.{call_fails, call_passes}
use Rattle.zbase.proofs.faults.FaultPlan.call.Goals as goal

pub returns-then-contains-clause-counts : goal.returns-then-contains-clause-counts
returns-then-contains-clause-counts c =
    let small : c.self.inside.count < 18446744073709551616 = omega arith in
    let number = c.in-Some.ensures in
    let among : list_any (λ n. n == c.in-Some.number) c.self.inside.failing.items ≡ true = ap (λ ns. list_any (λ n. n == c.in-Some.number) ns) (sym c.deref.ensures.value) ∙ sym c.contains.ensures.value ∙ c.if-contains.true in
    rw (← c.self.view_is) (call_fails c.self.inside.failing.items c.self.inside.calls c.in-Some.number c.self.inside.count c.saturating_add-self-inside.result small number.1 among c.saturating_add-self-inside.ensures)

pub returns-clause-counts : goal.returns-clause-counts
returns-clause-counts c =
    let number = c.in-Some.ensures in
    rw (← c.self.view_is) (call_passes c.self.inside.failing.items c.self.inside.calls c.in-Some.number c.self.inside.count number.1)
