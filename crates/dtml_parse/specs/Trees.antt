-- Templates, without where they lie in memory.
use Rattle.std.specs.Prelude.{ℕ, Bool, List, Option}
use Rattle.dtml_expr.specs.Trees as exprs

-- the argument of a tag
pub data Arg : Type 0 where
  Name : List ℕ → Arg
  Expression : exprs.Tree → Arg

-- how a `var` shows its value
pub record Marks : Type 0 where
  pub html_quote : Bool
  pub url_quote : Bool
  pub newline_to_br : Bool
  pub lower : Bool
  pub upper : Bool
  pub capitalize : Bool
  pub missing : Option (List ℕ)
  pub size : Option ℕ
  pub etc : Option (List ℕ)

-- a name that a `let` gives to a value
pub record Bound : Type 0 where
  pub name : List ℕ
  pub arg : Arg

-- A node of a template, with the place of its tag. A node of `if` has the places of its arms.
mutual
  pub data Item : Type 0 where
    Plain : List ℕ → Item
    Var : ℕ → Arg → Marks → Item
    Call : ℕ → Arg → Item
    If : Arms → Otherwise → Item
    Unless : ℕ → Arg → Items → Item
    Loop : ℕ → Arg → Bool → Bool → Items → Otherwise → Item
    With : ℕ → Arg → Items → Item
    Let : ℕ → List Bound → Items → Item
    Comment : ℕ → Items → Item

  -- the nodes of a block, in order
  pub data Items : Type 0 where
    none : Items
    more : Item → Items → Items

  -- the arms of an `if`, each with the place of its tag
  pub data Arms : Type 0 where
    last : Arms
    arm : ℕ → Arg → Items → Arms → Arms

  -- the block of an `else`, where there is one
  pub data Otherwise : Type 0 where
    absent : Otherwise
    present : Items → Otherwise
