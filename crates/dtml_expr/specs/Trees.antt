-- Expressions, without where they lie in memory.
use Rattle.std.specs.Prelude.{ℕ, ℤ, List}
use Rattle.dtml_expr.specs.declared.expr.Order.{Order}

mutual
  pub data Tree : Type 0 where
    Number : ℤ → Tree
    Quoted : List ℕ → Tree
    Name : List ℕ → Tree
    Or : Trees → Tree
    And : Trees → Tree
    Not : Tree → Tree
    Compare : Tree → Order → Tree → Tree
    Add : Tree → Tree → Tree
    Sub : Tree → Tree → Tree
    Mul : Tree → Tree → Tree
    Dot : Tree → List ℕ → Tree

  pub data Trees : Type 0 where
    none : Trees
    more : Tree → Trees → Trees

-- one more expression at the end
abbrev pub snoc : Trees → Tree → Trees
snoc none t = more t none
snoc (more u us) t = more u (snoc us t)
