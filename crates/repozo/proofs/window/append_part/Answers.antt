use Rattle.std.proofs.Common.{◌≡◌, ◌∙◌, ◌+◌, ℕ, arith, length, length-take-le, rules, subst, take}
use Rattle.std.specs.Prelude.{IfSome}
use Rattle.zdisk.specs.Disk.{Told, bytes_at}
use Rattle.repozo.proofs.Windows.{appended_more}
use Rattle.repozo.proofs.window.append_part.Goals as goal

pub copying-preserved : goal.copying-preserved
copying-preserved g c =
    let count = c.min-count.ensures in
    let spare = c.in_ok-append_window.ensures.spare in
    let lt = c.copying-test.true in
    let window : length c.copying.window ≡ 65536 = search rules in
    let part : length (take c.min-count.result c.copying.window) ≡ c.min-count.result = length-take-le c.min-count.result c.copying.window (omega (arith, count, window)) in
    let long : length c.append_window.new.window ≡ c.min-count.result = c.append_window.auto.window ∙ part in
    let read : IfSome (g.D.Disk.told c.copying.from) (λ (told : Told). c.append_window.new.window ≡ bytes_at told (c.args.start + c.copying.done) c.min-count.result) =
    subst (λ (n : ℕ). IfSome (g.D.Disk.told c.copying.from) (λ (told : Told). c.append_window.new.window ≡ bytes_at told (c.args.start + c.copying.done) n)) part c.in_ok-append_window.ensures.read in
    record {
      within = omega (arith, count, lt);
      appended = appended_more _ _ c.args.start c.copying.done c.min-count.result _ _ _ c.args.hasher.now c.copying.hasher c.update.new.self c.append_window.new.window c.copying.invariant.same long c.copying.invariant.appended read c.in_ok-append_window.ensures.grown c.update.ensures;
      tells = search rules;
      same = search rules;
      calls = λ more. omega (arith, c.copying.invariant.calls lt, spare.0, count, more);
      spent = omega (arith, c.copying.invariant.calls lt, spare.0, count, lt);
      bytes = omega (arith, c.copying.invariant.bytes, spare.1, part);
      from_counts = search rules;
      to_counts = search rules;
    }
