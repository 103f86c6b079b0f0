use Rattle.std.proofs.Common.{◌≡◌, ℕ, Option, subst}
use Rattle.zdisk.specs.Crashes.{LeavesFrom}
use Rattle.zdisk.specs.Disk.{Told}
use Rattle.fs_store.specs.Fronts.{history_where}
use Rattle.fs_store.specs.Moments.{OpensTo}
use Rattle.fs_store.proofs.Files.{still_opens}
use Rattle.fs_store.proofs.Unsettling.{still_unsettled}
use Rattle.fs_store.proofs.file.OpenFile.vote_on.Goals as goal

moved : (given o u : Option Told) (end : ℕ) → given ≡ o → LeavesFrom given u (λ file image. OpensTo image (history_where given end) end) → LeavesFrom o u (λ file image. OpensTo image (history_where o end) end)
moved given o u end same all = subst (λ (x : Option Told). LeavesFrom x u (λ file image. OpensTo image (history_where x end) end)) same all

pub returns-in-Ok-Some-clause-any_moment : goal.returns-in-Ok-Some-clause-any_moment
returns-in-Ok-Some-clause-any_moment g c = still_opens _ _ c.args.self.now _ _ _ c.in-Ok-Some.ensures.only_reads.same c.requires.kept

pub returns-in-Err-clause-any_moment : goal.returns-in-Err-clause-any_moment
returns-in-Err-clause-any_moment g c = still_opens _ _ c.args.self.now _ _ _ c.in-Err.ensures.only_reads.same c.requires.kept

pub returns-in-Ok-clause-any_moment : goal.returns-in-Ok-clause-any_moment
returns-in-Ok-clause-any_moment g c = moved _ _ _ c.args.self.now.end c.in-Ok-None.ensures.only_reads.same c.in-Ok.ensures.any_moment

pub returns-in-Err-Disk-clause-any_moment : goal.returns-in-Err-Disk-clause-any_moment
returns-in-Err-Disk-clause-any_moment g c = moved _ _ _ c.args.self.now.end c.in-Ok-None.ensures.only_reads.same c.in-Err-Disk.ensures.any_moment

pub returns-in-Err-Memory-clause-any_moment : goal.returns-in-Err-Memory-clause-any_moment
returns-in-Err-Memory-clause-any_moment g c = moved _ _ _ c.args.self.now.end c.in-Ok-None.ensures.only_reads.same c.in-Err-Memory.ensures.any_moment

pub returns-in-Ok-Some-clause-unsettled : goal.returns-in-Ok-Some-clause-unsettled
returns-in-Ok-Some-clause-unsettled g c = still_unsettled _ _ c.args.self.now _ _ _ c.in-Ok-Some.ensures.only_reads.same c.requires.kept

pub returns-in-Err-clause-unsettled : goal.returns-in-Err-clause-unsettled
returns-in-Err-clause-unsettled g c = still_unsettled _ _ c.args.self.now _ _ _ c.in-Err.ensures.only_reads.same c.requires.kept
