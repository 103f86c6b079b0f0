use Rattle.std.specs.Prelude.{◌≡◌}
use Rattle.zdisk.specs.contracts.memory.MemoryDiskDisk.TheImpl.{ghosts}
use Rattle.serve_cases.proofs.arming.arm.Given as goal

abbrev pub invariant-loop-part : goal.invariant-loop-part
invariant-loop-part l = ghosts.told l.disk ≡ ghosts.told l.fn.disk
