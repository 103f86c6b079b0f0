-- A count of the faults of some calls, beside the plan of all of them.
use Rattle.std.specs.Prelude.{◌≡◌, true}
use Rattle.zbase.specs.Faults.{Counter, IsFaultless}

-- these calls can't fail where none can
pub record IsBacked (part plan : Counter) : Type 0 where
  pub faultless : part.sound ≡ true → IsFaultless plan
