use Rattle.std.proofs.Common.{◌≡◌, Some, sym, slice_get, refl}
use Rattle.txn_core.proofs.Lists.{read_here}
use Rattle.txn_core.proofs.Resting.{free_at}
use Rattle.txn_core.proofs.workers.Core.is_free.Goals as goal

pub returns : goal.returns
returns g c =
    let here : slice_get c.self.inside.slots.items c.args.worker ≡ Some c.index.result.now = read_here c.self.inside.slots.items 16 c.args.worker c.index.result.now c.index.result.now (sym c.self.invariant.count) c.requires refl c.index.ensures in
    rw (← c.self.view_is) (free_at c.self.inside.slots.items c.args.worker c.index.result.now c.is_taken.result here c.is_taken.ensures)
