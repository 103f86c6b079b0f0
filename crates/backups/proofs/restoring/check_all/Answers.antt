use Rattle.std.proofs.Common.{◌≡◌, Err, ap}
use Rattle.repozo.specs.declared.refusal.RepoRefusal.{RepoRefusal}
use Rattle.repozo.specs.declared.refusal.RepoRefusal.TheVariants as repo
use Rattle.backups.specs.declared.refusal.RestoreRefusal.{RestoreRefusal}
use Rattle.backups.specs.declared.refusal.RestoreRefusal.TheVariants as restore
use Rattle.backups.proofs.Closing.{of_check, one_as, told_bad, told_fault}
use Rattle.backups.proofs.restoring.check_all.Goals as goal

pub returns-in-Err-clause-bad : goal.returns-in-Err-clause-bad
returns-in-Err-clause-bad g c = λ name is.
    (let told : c.told_of.result ≡ restore.BadPiece name = cc in
    c.in-Err.ensures.bad name (ap (λ (r : RepoRefusal). Err r) (told_bad c.in-Err.refusal c.told_of.result name c.told_of.ensures told)))

pub returns-in-Err-clause-counts : goal.returns-in-Err-clause-counts
returns-in-Err-clause-counts g c =
    one_as _ _ _ _
    (λ f. (let piece : c.in-Err.refusal ≡ repo.Piece = cc in ap (λ (r : RestoreRefusal). Err r) (told_fault c.in-Err.refusal c.told_of.result c.told_of.ensures piece)))
    (λ f. (let told : c.told_of.result ≡ restore.Disk = cc in ap (λ (r : RepoRefusal). Err r) (of_check c.in-Err.refusal c.told_of.result c.in-Err.ensures.others c.told_of.ensures told)))
    c.in-Err.ensures.counts

pub returns-in-Ok-clause-counts : goal.returns-in-Ok-clause-counts
returns-in-Ok-clause-counts g c = one_as _ _ _ _ (λ f. absurd cc) (λ f. absurd cc) c.in-Ok.ensures.counts
