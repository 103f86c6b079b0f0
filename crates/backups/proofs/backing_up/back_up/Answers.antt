use Rattle.std.proofs.Common.{◌≡◌, Err, ap, inr, rules, subst}
use Rattle.backups.specs.declared.backed.Made.{Made}
use Rattle.backups.specs.declared.refusal.BackupRefusal.{BackupRefusal}
use Rattle.backups.specs.Calls.{calls_then}
use Rattle.backups.specs.Names.{index_name}
use Rattle.backups.proofs.Backing.{Makes, backed_after, file_cause, left_after, names_cause, spends_after}
use Rattle.backups.proofs.backing_up.back_up.Goals as goal

pub returns-in-Err-clause-cause : goal.returns-in-Err-clause-cause
returns-in-Err-clause-cause g c =
    let named : c.as_str-index.result.now ≡ index_name c.args.repo.now = search rules in
    file_cause c.in-Err.refusal c.args.file.now c.args.repo.now c.as_str-index.result.now c.args.full (g.F.Shelf.files c.args.files.now) (g.F.Shelf.files c.make_of.new.files) _ named c.in-Err.ensures.cause c.in-Err.ensures.unmade
    (λ e. c.in-Err.ensures.calls.cause (ap (λ (r : BackupRefusal). Err r) e))

pub returns-clause-cause : goal.returns-clause-cause
returns-clause-cause g c =
    let named : c.as_str-index.result.now ≡ index_name c.args.repo.now = search rules in
    let makes = subst (λ (it : Made). Makes (g.F.Shelf.files c.args.files.now) (g.F.Shelf.files c.make_of.new.files) c.args.file.now c.args.repo.now c.as_str-index.result.now c.args.full it) c.in-Piece.is c.in-Ok.ensures.made in
    names_cause c.in-Err-put_index.unput c.args.file.now c.args.repo.now c.args.full (g.F.Shelf.files c.args.files.now) (g.F.Shelf.files c.put_index.new.files) _ c.in-Err-put_index.ensures.others
    (λ e. spends_after _ _ _ c.args.file.now c.args.repo.now c.as_str-index.result.now c.args.full c.in-Piece.rows c.in-Piece.done named makes (c.in-Err-put_index.ensures.spent (ap (λ (r : BackupRefusal). Err r) e)))
    (λ e. (calls_then c.in-Ok.ensures.calls c.in-Ok.ensures.calls.sound c.in-Err-put_index.ensures.calls (λ h. inr h)).cause (ap (λ (r : BackupRefusal). Err r) e))

pub returns-clause-left : goal.returns-clause-left
returns-clause-left g c =
    let named : c.as_str-index.result.now ≡ index_name c.args.repo.now = search rules in
    let makes = subst (λ (it : Made). Makes (g.F.Shelf.files c.args.files.now) (g.F.Shelf.files c.make_of.new.files) c.args.file.now c.args.repo.now c.as_str-index.result.now c.args.full it) c.in-Piece.is c.in-Ok.ensures.made in
    left_after _ _ _ c.args.file.now c.args.repo.now c.as_str-index.result.now c.args.full c.in-Piece.rows c.in-Piece.done named makes c.in-Err-put_index.ensures.left

pub returns-in-Ok-put_index-clause-backed : goal.returns-in-Ok-put_index-clause-backed
returns-in-Ok-put_index-clause-backed g c =
    let named : c.as_str-index.result.now ≡ index_name c.args.repo.now = search rules in
    let makes = subst (λ (it : Made). Makes (g.F.Shelf.files c.args.files.now) (g.F.Shelf.files c.make_of.new.files) c.args.file.now c.args.repo.now c.as_str-index.result.now c.args.full it) c.in-Piece.is c.in-Ok.ensures.made in
    backed_after _ _ _ c.args.file.now c.args.repo.now c.as_str-index.result.now _ c.args.full c.in-Piece.rows _ named (search rules) makes c.in-Ok-put_index.ensures.put
