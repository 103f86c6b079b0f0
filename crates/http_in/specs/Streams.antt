-- What a reader of a stream is seen as.
use Rattle.std.specs.Prelude.{ℕ, List}

-- The last message that was answered, what has come behind it, and how many bytes are kept for both.
pub record Stream : Type 0 where
  pub taken : List ℕ
  pub rest : List ℕ
  pub held : ℕ
