use Rattle.std.proofs.Common.{◌≡◌, true, false, refl, sym, subst}
use Rattle.zbase.specs.Faults.{Counter, Counts, counts_as}
use Rattle.file_server.proofs.Leaving.{closed_holds}
use Rattle.file_server.proofs.closing.close_core.Goals as goal

pub returns-in-Ok-clause-holds : goal.returns-in-Ok-clause-holds
returns-in-Ok-clause-holds g c = closed_holds c.args.core.store _ false _ c.one_image.ensures.own c.in-Ok.ensures.store.0 c.into_disk.ensures.images

pub returns-in-Err-clause-holds : goal.returns-in-Err-clause-holds
returns-in-Err-clause-holds g c = closed_holds c.args.core.store _ true _ c.one_image.ensures.own c.in-Err.ensures.stale.0 c.into_disk-in-Err.ensures.images

pub returns-in-Ok-clause-counts : goal.returns-in-Ok-clause-counts
returns-in-Ok-clause-counts g c = subst (λ (k : Counter). Counts c.args.core.store.disk.counter k (false ≡ true)) (sym c.into_disk.ensures.counter) (counts_as c.in-Ok.ensures.counts (λ f. absurd f) (λ e. absurd cc))

pub returns-in-Err-clause-counts : goal.returns-in-Err-clause-counts
returns-in-Err-clause-counts g c = subst (λ (k : Counter). Counts c.args.core.store.disk.counter k (true ≡ true)) (sym c.into_disk-in-Err.ensures.counter) (counts_as c.in-Err.ensures.fault (λ f. refl) (λ e. tt))
