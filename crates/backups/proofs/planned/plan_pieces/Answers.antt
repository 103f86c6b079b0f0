use Rattle.std.proofs.Common.{◌≡◌, ◌∙◌, ◌⊎◌, Err, List, length, map, ap, inl, inr, refl, rules, subst}
use Rattle.std.proofs.lemmas.List.{length-map}
use Rattle.std.specs.Prelude.{IfSome}
use Rattle.zbase.specs.Faults.{IsFaultless}
use Rattle.repozo.specs.declared.index.PieceRow.{PieceRow}
use Rattle.repozo.specs.declared.refusal.RepoRefusal.{RepoRefusal}
use Rattle.repozo.specs.declared.refusal.RepoRefusal.TheVariants as repo
use Rattle.repozo.specs.Pieces.{IsDue}
use Rattle.backups.specs.Opened.{IsMissingAt}
use Rattle.backups.specs.Standing.{AreOpen}
use Rattle.backups.proofs.Closing.{no_fault, no_piece_fault}
use Rattle.backups.proofs.Planning.{calls_beside, not_there, of_plan, planned_over}
use Rattle.backups.proofs.planned.plan_pieces.Goals as goal

pub returns-in-Ok-false-clause-planned : goal.returns-in-Ok-false-clause-planned
returns-in-Ok-false-clause-planned g c = λ bytes reads.
    (let items = c.open_pieces.new.pieces.items in
    let missing = c.in-Ok-false.ensures.missing (search rules) in
    not_there (g.F.Shelf.files c.args.files.now) c.args.rows.now (length items) (subst (λ (rs : List PieceRow). IfSome (g.F.Shelf.files c.args.files.now) (λ all. IsMissingAt all rs (length items))) c.as_slice.ensures missing.1))

pub returns-in-Err-Failed-clause-calls : goal.returns-in-Err-Failed-clause-calls
returns-in-Err-Failed-clause-calls g c = calls_beside c.in-Err-Failed.ensures.calls (λ x. x) (λ f. rw c.in-Err-Failed.field-0-is refl)

pub returns-in-Ok-clause-planned : goal.returns-in-Ok-clause-planned
returns-in-Ok-clause-planned g c = λ bytes reads.
    (let files = g.F.Shelf.files in
    let told = g.F.D.Disk.told in
    let items = c.open_pieces.new.pieces.items in
    let long : length (map told items) ≡ length c.args.rows.now = length-map items told ∙ c.in-Ok-true.ensures.whole (search rules) ∙ ap length c.as_slice.ensures in
    planned_over (files c.args.files.now) c.args.rows.now (map told items) (λ held. IsDue c.args.full c.args.rows.now held bytes c.in-Ok.plan)
    (subst (λ (rs : List PieceRow). IfSome (files c.args.files.now) (λ all. AreOpen all rs (map told items))) c.as_slice.ensures c.open_pieces.ensures.open) long (λ held all. c.in-Ok.ensures.due bytes held reads all))

pub returns-in-Err-clause-calls : goal.returns-in-Err-clause-calls
returns-in-Err-clause-calls g c = record {
  later = c.open_pieces.ensures.calls.later;
  sound = λ s. (c.open_pieces.ensures.calls.sound s.0, (c.in-Err.ensures.file_counts.calm s.1).0);
  cause = λ f. inr (λ s. (
      let told : c.told_as.result ≡ _ = cc in
      none (of_plan c.in-Err.refusal c.told_as.result c.told_as.ensures told) s.0 s.1));
}
  where
    none : (c.in-Err.refusal ≡ repo.File) ⊎ (c.in-Err.refusal ≡ repo.Piece) → g.F.Shelf.sound_disks c.args.files.now → IsFaultless (g.F.D.Disk.counter c.args.file.now) → ⊥
    none (inl e) s calm = no_fault calm c.in-Err.ensures.file_counts (ap (λ (r : RepoRefusal). Err r) e)
    none (inr e) s calm = no_piece_fault _ _ (c.open_pieces.ensures.sound s) c.in-Err.ensures.piece_counts (ap (λ (r : RepoRefusal). Err r) e)
