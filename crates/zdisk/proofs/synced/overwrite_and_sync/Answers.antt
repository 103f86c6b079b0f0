use Rattle.std.proofs.Common.{◌≡◌, ◌∷◌, [], ℕ, List, set, subst, arith}
use Rattle.std.specs.Prelude.{◌⊎◌}
use Rattle.zdisk.specs.Calls.{put}
use Rattle.zdisk.specs.Disk.{content}
use Rattle.zdisk.specs.Images.{IsMixture}
use Rattle.zdisk.specs.MomentLaws.{leaves_as, becomes_as}
use Rattle.zdisk.specs.OneChange.{put_byte, before_or_after}
use Rattle.zdisk.proofs.synced.overwrite_and_sync.Goals as goal

pub write_and_sync-requires-clause-synced : goal.write_and_sync-requires-clause-synced
write_and_sync-requires-clause-synced g c = λ told is. ((c.requires.synced told is).0, omega (arith, (c.requires.synced told is).1))

pub returns-clause-any_moment : goal.returns-clause-any_moment
returns-clause-any_moment g c =
    let at = c.args.at in
    let byte = c.args.byte in
    leaves_as _ _ (λ file image. IsMixture file (put at (byte ∷ []) file) image) (λ file image. (image ≡ file) ⊎ (image ≡ set file at byte))
    (λ told is image m. before_or_after (content told) image at byte (c.requires.synced told is).1 (subst (λ (new : List ℕ). IsMixture (content told) new image) (put_byte (content told) at byte (c.requires.synced told is).1) m))
    c.write_and_sync.ensures.any_moment

pub returns-clause-written : goal.returns-clause-written
returns-clause-written g c =
    let at = c.args.at in
    let byte = c.args.byte in
    becomes_as c.write_and_sync.result _ _ (put at (byte ∷ [])) (λ file. set file at byte) (λ told is. put_byte (content told) at byte (c.requires.synced told is).1) c.write_and_sync.ensures.written
