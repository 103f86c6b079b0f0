use Rattle.std.proofs.Common.{◌≡◌, Option, arith, false, length, length-take-le, rules, subst, sym, take, true}
use Rattle.zdisk.specs.Disk.{Told}
use Rattle.repozo.specs.Disks.{Reads}
use Rattle.repozo.proofs.Current.{window_alike, window_differs}
use Rattle.repozo.proofs.planning.same_part.Goals as goal

pub returns-then-not-branch-clause-is : goal.returns-then-not-branch-clause-is
returns-then-not-branch-clause-is g c = λ bytes held rb rh.
    (let count = c.min-count.ensures in
    let lt = c.comparing-test.true in
    let window : length c.comparing.one ≡ 65536 = search rules in
    let long : length (take c.min-count.result c.comparing.one) ≡ c.min-count.result = length-take-le c.min-count.result c.comparing.one (omega (arith, count, window)) in
    let no : c.in_ok-same_window.field-0 ≡ false = search rules in
    window_differs c.args.start c.args.size c.comparing.done c.min-count.result _ bytes held c.in_ok-same_window.field-0 (omega (arith, count, lt)) long
    (c.in_ok-same_window.ensures.is bytes held (subst (λ (o : Option Told). Reads o bytes) (sym c.comparing.invariant.same) rb) (subst (λ (o : Option Told). Reads o held) (sym c.comparing.invariant.same_piece) rh)) no)

pub comparing-preserved : goal.comparing-preserved
comparing-preserved g c =
    let count = c.min-count.ensures in
    let lt = c.comparing-test.true in
    let window : length c.comparing.one ≡ 65536 = search rules in
    let long : length (take c.min-count.result c.comparing.one) ≡ c.min-count.result = length-take-le c.min-count.result c.comparing.one (omega (arith, count, window)) in
    let yes : c.in_ok-same_window.field-0 ≡ true = search rules in
    record {
      within = omega (arith, count, lt);
      alike = λ bytes held rb rh. window_alike c.args.start c.comparing.done c.min-count.result _ bytes held c.in_ok-same_window.field-0 long
          (c.in_ok-same_window.ensures.is bytes held (subst (λ (o : Option Told). Reads o bytes) (sym c.comparing.invariant.same) rb) (subst (λ (o : Option Told). Reads o held) (sym c.comparing.invariant.same_piece) rh)) yes (c.comparing.invariant.alike bytes held rb rh);
      same = search rules;
      same_piece = search rules;
      file_counts = search rules;
      piece_counts = search rules;
    }
