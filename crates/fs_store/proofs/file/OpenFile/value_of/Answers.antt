use Rattle.std.proofs.Common.{◌≡◌, ℕ}
use Rattle.fs_record.specs.File.{value_at}
use Rattle.fs_record.specs.Standing.{IsPlace}
use Rattle.fs_store.specs.Fronts.{records_at}
use Rattle.fs_store.proofs.Loadings.{all_stand, costs_there}
use Rattle.fs_store.proofs.Tellings.{on_both}
use Rattle.fs_store.proofs.file.OpenFile.value_of.Goals as goal

pub returns-in-Ok-clause-value : goal.returns-in-Ok-clause-value
returns-in-Ok-clause-value g c =
    on_both (g.D.Disk.told c.args.disk.now) _ _ (λ told. (oid : ℕ) → IsPlace (records_at told c.args.self.now.end) oid c.args.place → c.in-Ok.value ≡ value_at c.args.place (records_at told c.args.self.now.end))
    (λ told k v oid is. v (records_at told c.args.self.now.end) oid (all_stand told c.args.self.now k.0) is) c.requires.known c.in-Ok.ensures.value

pub returns-in-Ok-clause-reads : goal.returns-in-Ok-clause-reads
returns-in-Ok-clause-reads g c =
    costs_there (g.D.Disk.told c.args.disk.now) c.args.self.now c.args.place _ _ c.requires.known c.follow_from.ensures.reads

pub returns-in-Err-Disk-clause-reads : goal.returns-in-Err-Disk-clause-reads
returns-in-Err-Disk-clause-reads g c =
    costs_there (g.D.Disk.told c.args.disk.now) c.args.self.now c.args.place _ _ c.requires.known c.follow_from.ensures.reads

pub returns-in-Err-Memory-clause-reads : goal.returns-in-Err-Memory-clause-reads
returns-in-Err-Memory-clause-reads g c =
    costs_there (g.D.Disk.told c.args.disk.now) c.args.self.now c.args.place _ _ c.requires.known c.follow_from.ensures.reads
