use Rattle.std.proofs.Common.{◌≡◌, ◌∙◌, ◌==◌, Option, false, length, rules, ap, subst, sym}
use Rattle.zdisk.specs.Disk.{Told}
use Rattle.fs_scan.specs.Scanned.{Tells}
use Rattle.repozo.specs.Disks.{HasPart, Reads}
use Rattle.repozo.specs.Pieces.{due}
use Rattle.repozo.proofs.Checked.{read_is}
use Rattle.repozo.proofs.Planned.{due_is, due_within, front_within, not_piece}
use Rattle.repozo.proofs.Several.{calm_none, one_as, one_calm}
use Rattle.repozo.proofs.planning.plan.Goals as goal

pub returns-in_err-end-clause-piece_counts : goal.returns-in_err-end-clause-piece_counts
returns-in_err-end-clause-piece_counts g c = one_calm g.D.Disk.counter c.args.pieces.now.items c.args.pieces.now.items (calm_none g.D.Disk.counter c.args.pieces.now.items) (λ f. search (rules, not_piece))

pub returns-then-full-clause-piece_counts : goal.returns-then-full-clause-piece_counts
returns-then-full-clause-piece_counts g c = one_calm g.D.Disk.counter c.args.pieces.now.items c.args.pieces.now.items (calm_none g.D.Disk.counter c.args.pieces.now.items) (λ f. search rules)

pub returns-in_err-current-clause-piece_counts : goal.returns-in_err-current-clause-piece_counts
returns-in_err-current-clause-piece_counts g c = one_as _ _ (λ f. search rules) (λ f. search rules) c.in_err-current.ensures.piece_counts

pub returns-clause-due : goal.returns-clause-due
returns-clause-due g c = λ bytes held rb all.
    (let tells : Tells bytes c.in_ok-end.field-0 = read_is (g.D.Disk.told c.args.file.now) bytes (λ b. Tells b c.in_ok-end.field-0) rb c.in_ok-end.ensures.told in
    let part : c.args.full ≡ false = search rules in
    let some : (length c.args.rows.now == 0) ≡ false = sym c.is_empty.ensures ∙ c.if-is_empty.false in
    let current = c.in_ok-current.ensures.is bytes held (subst (λ (o : Option Told). Reads o bytes) (sym c.scan.ensures.only_reads.same) rb) all in
    record {
      front = tells.front;
      end = c.in_ok-end.field-0.end;
      opens = tells.cut;
      is = c.due.ensures ∙ ap (λ rs. due c.in_ok-current.current rs c.in_ok-end.field-0.end) c.as_slice.ensures ∙ due_is c.args.full c.args.rows.now held bytes c.in_ok-current.current c.in_ok-end.field-0.end part some current;
    })

pub returns-clause-piece_counts : goal.returns-clause-piece_counts
returns-clause-piece_counts g c = one_as _ _ (λ f. search rules) (λ f. search rules) c.in_ok-current.ensures.piece_counts

pub returns-then-full-clause-within : goal.returns-then-full-clause-within
returns-then-full-clause-within g c = front_within (g.D.Disk.told c.args.file.now) c.in_ok-end.field-0 c.in_ok-end.ensures.told

pub returns-clause-within : goal.returns-clause-within
returns-clause-within g c =
    let whole = front_within (g.D.Disk.told c.args.file.now) c.in_ok-end.field-0 c.in_ok-end.ensures.told in
    subst (HasPart (g.D.Disk.told c.args.file.now)) (sym c.due.ensures) (due_within (g.D.Disk.told c.args.file.now) c.in_ok-current.current c.as_slice.result.now c.in_ok-end.field-0.end whole)
