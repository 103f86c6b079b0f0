use Rattle.new_site.proofs.Moments.{made_ok, set, stands, written}
use Rattle.new_site.proofs.making.put_file.Goals as goal

pub returns-in_err-append_and_sync-clause-any_moment :
    goal.returns-in_err-append_and_sync-clause-any_moment
returns-in_err-append_and_sync-clause-any_moment g c =
    written c.args.waiting.now 20 32 (g.D.Disk.told c.args.disk.now) (g.D.Disk.told c.append_and_sync.new.disk) c.requires.empty c.in_err-append_and_sync.ensures.any_moment

pub overwrite_and_sync-requires-clause-synced : goal.overwrite_and_sync-requires-clause-synced
overwrite_and_sync-requires-clause-synced g c =
    stands c.args.waiting.now 20 32 (g.D.Disk.told c.args.disk.now) (g.D.Disk.told c.append_and_sync.new.disk) c.requires.empty c.requires.long c.in_ok-append_and_sync.ensures.written

pub returns-clause-put : goal.returns-clause-put
returns-clause-put g c =
    made_ok c.args.waiting.now 20 32 c.overwrite_and_sync.result (g.D.Disk.told c.args.disk.now) (g.D.Disk.told c.append_and_sync.new.disk) (g.D.Disk.told c.overwrite_and_sync.new.disk) c.requires.empty c.in_ok-append_and_sync.ensures.written c.overwrite_and_sync.ensures.written

pub returns-clause-any_moment : goal.returns-clause-any_moment
returns-clause-any_moment g c =
    set c.args.waiting.now 20 32 (g.D.Disk.told c.args.disk.now) (g.D.Disk.told c.append_and_sync.new.disk) (g.D.Disk.told c.overwrite_and_sync.new.disk) c.requires.empty c.in_ok-append_and_sync.ensures.any_moment c.in_ok-append_and_sync.ensures.written c.overwrite_and_sync.ensures.any_moment
