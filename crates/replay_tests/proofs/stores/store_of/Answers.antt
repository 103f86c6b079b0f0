use Rattle.std.proofs.Common.{Option, Some, None, refl}
use Rattle.std.specs.Prelude.{IsSome}
use Rattle.zdisk.specs.Disk.{Told}
use Rattle.fs_store.specs.Opened.{WhereTold}
use Rattle.replay_tests.proofs.stores.store_of.Goals as goal

both_tell : (R : Told → Told → Type 0) (told : Told) (new : Option Told) → WhereTold (Some told) new R → IsSome new
both_tell R told None h = absurd h
both_tell R told (Some new) h = refl

pub returns-in-Ok-clause-steady : goal.returns-in-Ok-clause-steady
returns-in-Ok-clause-steady c =
    let opened = rw c.new-disk.ensures.told at c.in-Ok.ensures.opened in
    record {
      told = both_tell _ _ _ opened.told;
      faultless = (c.in-Ok.ensures.calm.calm c.new-disk.ensures.faultless).0;
      fresh = opened.fresh;
    }
