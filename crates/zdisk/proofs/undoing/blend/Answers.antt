use Rattle.std.proofs.Common.{◌≡◌, ◌-◌, ℕ, Bool, true, false, suc, subst, refl, arith}
use Rattle.zdisk.specs.Recorded.{Buffer}
use Rattle.zdisk.specs.Undoing.{Going}
use Rattle.zdisk.proofs.Blending.{going_first, going_on}
use Rattle.zdisk.proofs.undoing.blend.Goals as goal
use Rattle.zdisk.proofs.undoing.blend.Goals.{in-Sync, in_default}

clash : {x : Bool} → x ≡ true → x ≡ false → ⊥
clash t e = cc

pub loop-count-init : goal.loop-count-init
loop-count-init c = record { going = going_first c.args.seed (record { bytes = c.args.bytes.now; len = c.args.len; covered = c.args.kept.now }) c.args.entries.now c.requires }

pub loop-count-preserved : goal.loop-count-preserved
loop-count-preserved c =
    let first : Buffer = record { bytes = c.args.bytes.now; len = c.args.len; covered = c.args.kept.now } in
    let n : ℕ = c.loop-count.count - 1 in
    let more : c.loop-count.count ≡ suc n = omega (arith, c.loop-count-test.true) in
    let g : Going c.args.seed first c.args.entries.now (suc n) c.loop-count.rest c.loop-count.was c.loop-count.bytes = subst (λ (k : ℕ). Going c.args.seed first c.args.entries.now k c.loop-count.rest c.loop-count.was c.loop-count.bytes) more c.loop-count.invariant.going in
    elim c.match-matches.branch [
      | in-Sync w ↦ absurd (clash w.matches-is c.if-matches.false)
      | in_default w ↦ record { going = going_on c.args.seed first c.args.entries.now n c.loop-count.rest c.loop-count.was c.take_back-before.result.0 c.take_back-before.result.1 c.loop-count.bytes c.take_back-before.new.bytes _ _ g refl w.in_default.not-Sync c.take_back-before.ensures }
    ]
