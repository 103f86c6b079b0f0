use Rattle.std.proofs.Common.{◌≡◌, ◌∙◌, ◌<◌, ◌≤◌, Option, false, get_or, length, refl, rules, subst, sym, true}
use Rattle.zbase.specs.Faults.{Counts, counts_as, counts_none}
use Rattle.zdisk.specs.Disk.{Told}
use Rattle.repozo.specs.Disks.{Reads}
use Rattle.repozo.proofs.Checked.{long_there}
use Rattle.repozo.proofs.Current.{matches_end, matches_is, matches_there}
use Rattle.repozo.proofs.Several.{calm_none, calm_set, one_calm, one_set, same_set}
use Rattle.repozo.proofs.planning.each_is_current.Goals as goal

pub pieces-init : goal.pieces-init
pieces-init g c = record {
  left = λ bytes held rb all. refl;
  same = refl;
  same_pieces = refl;
  file_counts = counts_none (g.D.Disk.counter c.args.file.now) ⊥ (λ n. n);
  calm = calm_none g.D.Disk.counter c.args.pieces.now;
}

pub returns-in_err-is_current-clause-same_pieces : goal.returns-in_err-is_current-clause-same_pieces
returns-in_err-is_current-clause-same_pieces g c =
    let lt : c.pieces.i < length c.pieces.pieces = search rules in
    same_set g.D.Disk.told c.pieces.pieces c.pieces.i c.is_current.new.piece c.index-pieces-i.result lt c.is_current.ensures.same_piece ∙ c.pieces.invariant.same_pieces

pub returns-in_err-is_current-clause-piece_counts : goal.returns-in_err-is_current-clause-piece_counts
returns-in_err-is_current-clause-piece_counts g c =
    let lt : c.pieces.i < length c.pieces.pieces = search rules in
    one_set g.D.Disk.counter c.args.pieces.now c.pieces.pieces c.pieces.i c.is_current.new.piece c.index-pieces-i.result c.pieces.invariant.calm lt
    (counts_as c.in_err-is_current.ensures.piece_counts (λ f. search rules) (λ f. search rules))

pub returns-then-not-branch-clause-is : goal.returns-then-not-branch-clause-is
returns-then-not-branch-clause-is g c = λ bytes held rb all.
    (let lt : c.pieces.i < length c.pieces.pieces = search rules in
    let le : c.pieces.i < length c.args.rows.now = search rules in
    let no : c.in_ok-is_current.field-0 ≡ false = search rules in
    let long : length held ≡ length c.args.rows.now = long_there g.D.Disk.told c.args.pieces.now c.args.pieces.now held refl all ∙ c.requires.paired in
    sym (sym (matches_is c.args.rows.now held bytes c.requires.lines c.requires.chained long)
    ∙ matches_there g.D.Disk.told c.args.pieces.now c.pieces.pieces c.args.rows.now held bytes c.pieces.i c.index-pieces-i.result c.index-rows-i.result c.index-rows-i.result c.in_ok-is_current.field-0 false c.index-rows-i.is c.pieces.invariant.same_pieces all lt le
    (λ h rh. c.in_ok-is_current.ensures.is bytes h (subst (λ (o : Option Told). Reads o bytes) (sym c.pieces.invariant.same) rb) rh) no (c.pieces.invariant.left bytes held rb all)))

pub returns-then-not-branch-clause-same_pieces : goal.returns-then-not-branch-clause-same_pieces
returns-then-not-branch-clause-same_pieces g c =
    let lt : c.pieces.i < length c.pieces.pieces = search rules in
    same_set g.D.Disk.told c.pieces.pieces c.pieces.i c.is_current.new.piece c.index-pieces-i.result lt c.is_current.ensures.same_piece ∙ c.pieces.invariant.same_pieces

pub returns-then-not-branch-clause-piece_counts : goal.returns-then-not-branch-clause-piece_counts
returns-then-not-branch-clause-piece_counts g c =
    let lt : c.pieces.i < length c.pieces.pieces = search rules in
    let count = g.D.Disk.counter in
    let one : Counts (count (get_or c.pieces.pieces c.pieces.i c.index-pieces-i.result)) (count c.is_current.new.piece) ⊥ = counts_as c.in_ok-is_current.ensures.piece_counts (λ f. search rules) (λ n. absurd n) in
    one_calm count c.args.pieces.now _ (calm_set count c.args.pieces.now c.pieces.pieces c.pieces.i c.is_current.new.piece c.index-pieces-i.result c.pieces.invariant.calm lt one) (λ f. search rules)

pub pieces-preserved : goal.pieces-preserved
pieces-preserved g c =
    let lt : c.pieces.i < length c.pieces.pieces = search rules in
    let le : c.pieces.i < length c.args.rows.now = search rules in
    let yes : c.in_ok-is_current.field-0 ≡ true = search rules in
    let count = g.D.Disk.counter in
    let one : Counts (count (get_or c.pieces.pieces c.pieces.i c.index-pieces-i.result)) (count c.is_current.new.piece) ⊥ = counts_as c.in_ok-is_current.ensures.piece_counts (λ f. search rules) (λ n. absurd n) in
    record {
      left = λ bytes held rb all. sym (matches_there g.D.Disk.told c.args.pieces.now c.pieces.pieces c.args.rows.now held bytes c.pieces.i c.index-pieces-i.result c.index-rows-i.result c.index-rows-i.result c.in_ok-is_current.field-0 true c.index-rows-i.is c.pieces.invariant.same_pieces all lt le
          (λ h rh. c.in_ok-is_current.ensures.is bytes h (subst (λ (o : Option Told). Reads o bytes) (sym c.pieces.invariant.same) rb) rh) yes (c.pieces.invariant.left bytes held rb all));
      same = search rules;
      same_pieces = same_set g.D.Disk.told c.pieces.pieces c.pieces.i c.is_current.new.piece c.index-pieces-i.result lt c.is_current.ensures.same_piece ∙ c.pieces.invariant.same_pieces;
      file_counts = search rules;
      calm = calm_set count c.args.pieces.now c.pieces.pieces c.pieces.i c.is_current.new.piece c.index-pieces-i.result c.pieces.invariant.calm lt one;
    }

pub returns-clause-is : goal.returns-clause-is
returns-clause-is g c = λ bytes held rb all.
    (let end : length c.args.rows.now ≤ c.pieces.i = search rules in
    let long : length held ≡ length c.args.rows.now = long_there g.D.Disk.told c.args.pieces.now c.args.pieces.now held refl all ∙ c.requires.paired in
    sym (sym (matches_is c.args.rows.now held bytes c.requires.lines c.requires.chained long) ∙ matches_end c.args.rows.now held bytes c.pieces.i end (c.pieces.invariant.left bytes held rb all)))

pub returns-clause-piece_counts : goal.returns-clause-piece_counts
returns-clause-piece_counts g c = one_calm g.D.Disk.counter c.args.pieces.now c.pieces.pieces c.pieces.invariant.calm (λ f. search rules)
