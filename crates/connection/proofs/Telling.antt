-- What the calls of a store leave of what its disk told.
use Rattle.std.proofs.Common.{◌≡◌, Some, ℕ, sym, subst}
use Rattle.fs_store.specs.Moments.{OpensToEither}
use Rattle.fs_store.specs.Stores.{IsVoteOf, Out, StoreView}
use Rattle.connection.specs.Telling.{TellsOn, leaves_tell, tells_self}

pub finish_tells : (old new : StoreView) (tid : ℕ) → IsVoteOf old tid → ((o : Out) → old.out ≡ Some o → OpensToEither old new o) → TellsOn old.disk.told new.disk.told
finish_tells old new tid vote leaves = leaves_tell old.disk.told new.disk.told _ (leaves vote.0 vote.1)

pub same_tells : (old new : StoreView) → new ≡ old → TellsOn old.disk.told new.disk.told
same_tells old new same = subst (λ (s : StoreView). TellsOn old.disk.told s.disk.told) (sym same) (tells_self old.disk.told)
