use Rattle.std.proofs.Common.{◌≡◌, ◌⊎◌, Err, ap, inr, rules, subst, sym}
use Rattle.zbase.specs.Faults.{Rose}
use Rattle.backups.specs.declared.indexes.Unread.{Unread}
use Rattle.backups.specs.declared.refusal.RestoreRefusal.{RestoreRefusal}
use Rattle.backups.specs.Calls.{calls_then}
use Rattle.backups.specs.Names.{index_name}
use Rattle.backups.specs.Restored.{RestoreCause}
use Rattle.backups.proofs.Causes.{rows_cause, unread_cause}
use Rattle.backups.proofs.Closing.{calls_back}
use Rattle.backups.proofs.restoring.restore.Goals as goal

pub returns-in-Err-clause-cause : goal.returns-in-Err-clause-cause
returns-in-Err-clause-cause g c =
    let files = g.F.Shelf.files in
    let named : c.as_str.result.now ≡ index_name c.args.repo.now = search rules in
    let cause = unread_cause c.args.repo.now c.args.out.now c.as_str.result.now (files c.args.files.now) (Rose (g.F.Shelf.counter c.args.files.now) (g.F.Shelf.counter c.index_of.new.files) ⊎ (g.F.Shelf.sound_disks c.args.files.now → ⊥)) c.in-Err.refusal named
    (λ e. c.in-Err.ensures.missing (ap (λ (u : Unread). Err u) e)) (λ n e. c.in-Err.ensures.bad n (ap (λ (u : Unread). Err u) e)) (λ e. c.in-Err.ensures.calls.cause (ap (λ (u : Unread). Err u) e)) in
    subst (λ (r : RestoreRefusal). RestoreCause c.args.repo.now c.args.out.now (files c.args.files.now) (Rose (g.F.Shelf.counter c.args.files.now) (g.F.Shelf.counter c.index_of.new.files) ⊎ (g.F.Shelf.sound_disks c.args.files.now → ⊥)) r) (sym c.from.ensures) cause

pub returns-clause-cause : goal.returns-clause-cause
returns-clause-cause g c =
    let files = g.F.Shelf.files in
    let named : c.as_str.result.now ≡ index_name c.args.repo.now = search rules in
    let both = calls_then c.in-Ok.ensures.calls c.in-Ok.ensures.calls.sound c.join_into-joined.ensures.calls (λ h. inr h) in
    let calls = calls_back both c.close_pieces.ensures.sound c.close_pieces.ensures.uncounted in
    rows_cause c.join_into-joined.result (files c.args.files.now) (files c.index_of.new.files) c.args.repo.now c.args.out.now c.as_str.result.now c.in-Ok.rows
    (Rose (g.F.Shelf.counter c.args.files.now) (g.F.Shelf.counter c.close_pieces.new.files) ⊎ (g.F.Shelf.sound_disks c.args.files.now → ⊥)) c.in-Ok.ensures.same named c.in-Ok.ensures.stands
    c.join_into-joined.ensures.bad c.join_into-joined.ensures.exists c.join_into-joined.ensures.others calls.cause
