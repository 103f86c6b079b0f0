use Rattle.std.proofs.Common.{◌≡◌, ◌∙◌, ◌<◌, ℕ, List, ap, Some, false, get_or, length, refl, rules, sym, true, true≢false}
use Rattle.std.proofs.lemmas.List.{get_or_default}
use Rattle.repozo.specs.declared.index.PieceRow.{PieceRow}
use Rattle.zbase.specs.Faults.{Counts, counts_as}
use Rattle.repozo.proofs.Checked.{bad_there, right_more, told_right_at}
use Rattle.repozo.proofs.Several.{calm_none, calm_set, one_calm, one_set, same_set}
use Rattle.repozo.proofs.checking.check_each.Goals as goal

pub pieces-init : goal.pieces-init
pieces-init g c = record { right = λ r. r; bad = λ held all. refl; same = refl; calm = calm_none g.D.Disk.counter c.args.pieces.now }

pub returns-in_err-copy-in-Ok-false-clause-same : goal.returns-in_err-copy-in-Ok-false-clause-same
returns-in_err-copy-in-Ok-false-clause-same g c =
    let lt : c.pieces.i < length c.pieces.pieces = search rules in
    same_set g.D.Disk.told c.pieces.pieces c.pieces.i c.is_right.new.piece c.index-pieces-i.result lt c.is_right.ensures.same ∙ c.pieces.invariant.same

pub returns-in_err-copy-in-Ok-false-clause-counts : goal.returns-in_err-copy-in-Ok-false-clause-counts
returns-in_err-copy-in-Ok-false-clause-counts g c =
    let lt : c.pieces.i < length c.pieces.pieces = search rules in
    let count = g.D.Disk.counter in
    let one : Counts (count (get_or c.pieces.pieces c.pieces.i c.index-pieces-i.result)) (count c.is_right.new.piece) ⊥ = counts_as c.in-Ok-false.ensures.counts (λ e. true≢false (sym e)) (λ n. absurd n) in
    one_calm count c.args.pieces.now _ (calm_set count c.args.pieces.now c.pieces.pieces c.pieces.i c.is_right.new.piece c.index-pieces-i.result c.pieces.invariant.calm lt one) (λ f. search rules)

pub returns-in-Ok-false-clause-bad : goal.returns-in-Ok-false-clause-bad
returns-in-Ok-false-clause-bad g c = λ name is held all.
    (let lt : c.pieces.i < length c.pieces.pieces = search rules in
    let le : c.pieces.i < length c.args.rows.now = search rules in
    let named : c.in_ok-copy-in-Ok-false.field-0 ≡ name = cc in
    let row : get_or c.args.rows.now c.pieces.i c.index-rows-i.result ≡ get_or c.args.rows.now c.pieces.i c.index-rows-i-in-Ok-false.result = get_or_default c.args.rows.now c.pieces.i _ _ le in
    bad_there g.D.Disk.told c.args.pieces.now c.pieces.pieces c.args.rows.now held c.pieces.i c.index-pieces-i.result c.index-rows-i.result c.index-rows-i.result c.in-Ok-false.field-0 false c.index-rows-i.is c.pieces.invariant.same all lt le c.in-Ok-false.ensures.is c.in-Ok-false.field-0-test (c.pieces.invariant.bad held all)
    ∙ ap (λ (r : PieceRow). Some r.name) row ∙ ap (λ (n : List ℕ). Some n) (sym c.in_ok-copy-in-Ok-false.ensures ∙ named))

pub returns-in-Ok-false-clause-same : goal.returns-in-Ok-false-clause-same
returns-in-Ok-false-clause-same g c =
    let lt : c.pieces.i < length c.pieces.pieces = search rules in
    same_set g.D.Disk.told c.pieces.pieces c.pieces.i c.is_right.new.piece c.index-pieces-i.result lt c.is_right.ensures.same ∙ c.pieces.invariant.same

pub returns-in-Ok-false-clause-counts : goal.returns-in-Ok-false-clause-counts
returns-in-Ok-false-clause-counts g c =
    let lt : c.pieces.i < length c.pieces.pieces = search rules in
    let count = g.D.Disk.counter in
    let one : Counts (count (get_or c.pieces.pieces c.pieces.i c.index-pieces-i.result)) (count c.is_right.new.piece) ⊥ = counts_as c.in-Ok-false.ensures.counts (λ e. true≢false (sym e)) (λ n. absurd n) in
    one_calm count c.args.pieces.now _ (calm_set count c.args.pieces.now c.pieces.pieces c.pieces.i c.is_right.new.piece c.index-pieces-i.result c.pieces.invariant.calm lt one) (λ f. search rules)

pub returns-in-Err-clause-same : goal.returns-in-Err-clause-same
returns-in-Err-clause-same g c =
    let lt : c.pieces.i < length c.pieces.pieces = search rules in
    same_set g.D.Disk.told c.pieces.pieces c.pieces.i c.is_right.new.piece c.index-pieces-i.result lt c.is_right.ensures.same ∙ c.pieces.invariant.same

pub returns-in-Err-clause-counts : goal.returns-in-Err-clause-counts
returns-in-Err-clause-counts g c =
    let lt : c.pieces.i < length c.pieces.pieces = search rules in
    let count = g.D.Disk.counter in
    one_set count c.args.pieces.now c.pieces.pieces c.pieces.i c.is_right.new.piece c.index-pieces-i.result c.pieces.invariant.calm lt
    (counts_as c.in-Err.ensures.counts (λ f. refl) (λ f. refl))

pub pieces-preserved : goal.pieces-preserved
pieces-preserved g c =
    let lt : c.pieces.i < length c.pieces.pieces = search rules in
    let le : c.pieces.i < length c.args.rows.now = search rules in
    let count = g.D.Disk.counter in
    let one : Counts (count (get_or c.pieces.pieces c.pieces.i c.index-pieces-i.result)) (count c.is_right.new.piece) ⊥ = counts_as c.in-Ok-true.ensures.counts (λ e. true≢false (sym e)) (λ n. absurd n) in
    record {
      right = λ rest. c.pieces.invariant.right (right_more g.D.Disk.told c.pieces.pieces c.args.rows.now c.pieces.i c.is_right.new.piece c.index-pieces-i.result c.index-rows-i.result lt le
          (told_right_at (g.D.Disk.told (get_or c.pieces.pieces c.pieces.i c.index-pieces-i.result)) c.index-rows-i.result (get_or c.args.rows.now c.pieces.i c.index-rows-i.result) c.in-Ok-true.field-0 c.index-rows-i.is c.in-Ok-true.ensures.is c.in-Ok-true.field-0-test) rest);
      bad = λ held all. sym (bad_there g.D.Disk.told c.args.pieces.now c.pieces.pieces c.args.rows.now held c.pieces.i c.index-pieces-i.result c.index-rows-i.result c.index-rows-i.result c.in-Ok-true.field-0 true c.index-rows-i.is c.pieces.invariant.same all lt le c.in-Ok-true.ensures.is c.in-Ok-true.field-0-test (c.pieces.invariant.bad held all));
      same = same_set g.D.Disk.told c.pieces.pieces c.pieces.i c.is_right.new.piece c.index-pieces-i.result lt c.is_right.ensures.same ∙ c.pieces.invariant.same;
      calm = calm_set count c.args.pieces.now c.pieces.pieces c.pieces.i c.is_right.new.piece c.index-pieces-i.result c.pieces.invariant.calm lt one;
    }

pub returns-clause-counts : goal.returns-clause-counts
returns-clause-counts g c = one_calm g.D.Disk.counter c.args.pieces.now c.pieces.pieces c.pieces.invariant.calm (λ f. search rules)
