use Rattle.std.proofs.Common.{◌≡◌, ◌≤◌, ◌+◌, ◌∙◌, ◌∷◌, [], ap, sym, subst, take, length, arith}
use Rattle.std.proofs.lemmas.Bool.Decides.{nat_tests}
use Rattle.std.proofs.lemmas.List.{take-append-le, length-append}
use Rattle.evaluator.specs.declared.reply.Shown.{Shown}
use Rattle.namespace.specs.Once.{AreOnce}
use Rattle.namespace.proofs.Onces.{once_less, left_in}
use Rattle.namespace.proofs.showing.cut_back.Goals as goal

pub list-preserved-in-Some : goal.list-preserved-in-Some
list-preserved-in-Some c =
    let left = c.pop.new.self.items in
    let less = once_less [] left c.in-Some.last (subst (AreOnce []) c.in-Some.ensures.items c.list.invariant.once) in
    let ok = c.list.list.ok in
    let long : length c.list.list.items ≡ length left + 1 = ap length c.in-Some.ensures.items ∙ length-append left (c.in-Some.last ∷ []) in
    let test = c.list-test.true in
    let len = c.len.ensures in
    let short : c.args.count ≤ length left = grind (arith, nat_tests) in
    record {
      taken = sym (take-append-le c.args.count left (c.in-Some.last ∷ []) short) ∙ ap (take c.args.count) (sym c.in-Some.ensures.items) ∙ c.list.invariant.taken;
      are = left_in c.list.oids c.remove.new.self c.list.list.items left c.in-Some.last c.last.inside.0.0.0 (ap (λ (s : Shown). s.oid) c.last.view_is) c.list.invariant.are c.in-Some.ensures.items less.1 c.remove.ensures.updates.0;
      once = less.0;
    }
