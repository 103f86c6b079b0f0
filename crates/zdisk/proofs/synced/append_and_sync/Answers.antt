use Rattle.std.proofs.Common.{◌++◌, ℕ, List, subst, arith}
use Rattle.zdisk.specs.Calls.{put}
use Rattle.zdisk.specs.Disk.{content}
use Rattle.zdisk.specs.Images.{IsMixture}
use Rattle.zdisk.specs.Crashes.{IsTorn}
use Rattle.zdisk.specs.MomentLaws.{leaves_as, becomes_as}
use Rattle.zdisk.specs.OneChange.{put_end, torn}
use Rattle.zdisk.proofs.synced.append_and_sync.Goals as goal

pub write_and_sync-requires-clause-synced : goal.write_and_sync-requires-clause-synced
write_and_sync-requires-clause-synced g c = λ told is. ((c.requires.synced told is).0, omega (arith, (c.requires.synced told is).1))

pub returns-clause-any_moment : goal.returns-clause-any_moment
returns-clause-any_moment g c =
    let piece = c.args.piece.now in
    leaves_as _ _ (λ file image. IsMixture file (put c.args.end piece file) image) (λ file image. IsTorn file piece image)
    (λ told is image m. torn (content told) piece image (subst (λ (new : List ℕ). IsMixture (content told) new image) (put_end (content told) piece c.args.end (c.requires.synced told is).1) m))
    c.write_and_sync.ensures.any_moment

pub returns-clause-written : goal.returns-clause-written
returns-clause-written g c =
    let piece = c.args.piece.now in
    becomes_as c.write_and_sync.result _ _ (put c.args.end piece) (λ file. file ++ piece) (λ told is. put_end (content told) piece c.args.end (c.requires.synced told is).1) c.write_and_sync.ensures.written
