use Rattle.std.proofs.Common.{◌≡◌, ◌⊎◌, ◌≤◌, Err, map, ap, inl, inr, subst, sym}
use Rattle.std.specs.List.{concat}
use Rattle.zbase.specs.Faults.{Counter}
use Rattle.repozo.specs.declared.refusal.RepoRefusal.{RepoRefusal}
use Rattle.repozo.specs.declared.refusal.RepoRefusal.TheVariants as repo
use Rattle.backups.specs.Opened.{AreSound}
use Rattle.backups.proofs.Closing.{filled, left_new, no_fault, no_piece_fault, of_disks}
use Rattle.backups.proofs.restoring.put_file.Goals as goal

pub returns-in_ok-closed-in-Ok-put-clause-made : goal.returns-in_ok-closed-in-Ok-put-clause-made
returns-in_ok-closed-in-Ok-put-clause-made g c = λ held all.
    filled _ _ _ c.args.out.now (concat held) _ _ c.in-Ok.ensures.new c.in-Ok.ensures.made c.in-Ok.ensures.told (c.in-Ok-put.ensures.joined held all) c.in_ok-closed-in-Ok-put.ensures.closed

pub returns-in_ok-closed-in-Ok-put-clause-left : goal.returns-in_ok-closed-in-Ok-put-clause-left
returns-in_ok-closed-in-Ok-put-clause-left g c =
    left_new _ _ _ c.args.out.now _ _ c.close-closed.result c.in-Ok.ensures.new c.in-Ok.ensures.made c.in-Ok.ensures.told c.put_pieces-put.ensures.tells c.close-closed.ensures.closed c.close-closed.ensures.kept

pub returns-in-Err-clause-left : goal.returns-in-Err-clause-left
returns-in-Err-clause-left g c =
    left_new _ _ _ c.args.out.now _ _ c.close-closed.result c.in-Ok.ensures.new c.in-Ok.ensures.made c.in-Ok.ensures.told c.put_pieces-put.ensures.tells c.close-closed.ensures.closed c.close-closed.ensures.kept

pub returns-in-Err-clause-calls : goal.returns-in-Err-clause-calls
returns-in-Err-clause-calls g c = record {
  later = subst (λ (d : Counter). (g.F.Shelf.counter c.args.files.now).count ≤ d.count) (sym c.close-closed.ensures.uncounted) c.in-Ok.ensures.counts.later;
  sound = λ s. c.close-closed.ensures.stays_sound (c.in-Ok.ensures.stays_sound s.0);
  cause = λ f. inr (λ s. (
      let told : c.told_of.result ≡ _ = cc in
      none (of_disks c.in-Err.refusal c.told_of.result c.told_of.ensures told) s.0 s.1));
}
  where
    none : (c.in-Err.refusal ≡ repo.Piece) ⊎ (c.in-Err.refusal ≡ repo.Out) → g.F.Shelf.sound_disks c.args.files.now → AreSound (map g.F.D.Disk.counter c.args.pieces.now.items) → ⊥
    none (inl e) s sound = no_piece_fault _ _ sound c.in-Err.ensures.piece_counts (ap (λ (r : RepoRefusal). Err r) e)
    none (inr e) s sound = no_fault (c.in-Ok.ensures.sound s) c.in-Err.ensures.out_counts (ap (λ (r : RepoRefusal). Err r) e)
