use Rattle.std.proofs.Common.{◌≡◌, ◌≤◌, ◌+◌, ◌-◌, ◌^◌, drop, sum_by}
use Rattle.evaluator.specs.Questions.{size_of_part}
use Rattle.publisher.specs.Keeping.{saturated}
use Rattle.publisher.proofs.learned.parts_size.Given as goal

-- the size so far becomes that of all parts with the parts that are left
abbrev pub invariant-loop-part : goal.invariant-loop-part
invariant-loop-part l = (l.size ≤ 2 ^ 64 - 1) × (saturated (l.size + sum_by size_of_part (drop l.part-index l.parts)) ≡ saturated (sum_by size_of_part l.parts))
