use Rattle.std.proofs.Common.{◌≡◌, ◌∙◌, ℕ, arith, length, length-take-le, rules, subst, take}
use Rattle.std.specs.Prelude.{IfSome}
use Rattle.zdisk.specs.Disk.{Told, bytes_at}
use Rattle.repozo.proofs.Windows.{hashed_more}
use Rattle.repozo.proofs.checking.digest_of.Goals as goal

pub reading-preserved : goal.reading-preserved
reading-preserved g c =
    let count = c.min-count.ensures in
    let lt = c.reading-test.true in
    let part : length (take c.min-count.result c.reading.window) ≡ c.min-count.result = length-take-le c.min-count.result c.reading.window (omega (arith, count)) in
    let long : length c.read_at.new.buf ≡ c.min-count.result = c.read_at.auto.buf ∙ part in
    let read : IfSome (g.D.Disk.told c.reading.piece) (λ (told : Told). c.read_at.new.buf ≡ bytes_at told c.reading.done c.min-count.result) =
    subst (λ (n : ℕ). IfSome (g.D.Disk.told c.reading.piece) (λ (told : Told). c.read_at.new.buf ≡ bytes_at told c.reading.done n)) long c.in_ok-read_at.ensures.value in
    record {
      within = omega (arith, count, lt);
      hashed = hashed_more _ _ c.reading.done c.min-count.result c.read_at.new.buf c.reading.hasher c.update.new.self c.reading.invariant.same c.reading.invariant.hashed read c.update.ensures;
      same = search rules;
      counts = search rules;
    }
