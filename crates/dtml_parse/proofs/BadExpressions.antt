-- Why there is no argument.
use Rattle.std.proofs.Common.{ℕ, List}
use Rattle.dtml_lex.specs.declared.refusal.DtmlRefusal.{DtmlRefusal}
use Rattle.dtml_lex.specs.declared.refusal.DtmlRefusal.TheVariants as refusals
use Rattle.dtml_expr.specs.Refusals.{Refuses}
use Rattle.dtml_parse.specs.Table.{Expression}
use Rattle.dtml_parse.specs.Pieces.{NoArg}
use Rattle.dtml_parse.specs.Parsing.{IsBadExpression}

pub no_expression : (at : ℕ) (text : List ℕ) (refusal : DtmlRefusal) → Refuses text at refusal → IsBadExpression at (NoArg (Expression text)) refusal
no_expression at text refusals.Memory h = tt
no_expression at text (refusals.BadTag place) h = h
no_expression at text (refusals.Unclosed place) h = h
no_expression at text (refusals.Stray place) h = h
no_expression at text (refusals.BadAttribute place) h = h
no_expression at text (refusals.BadExpression place) h = h
no_expression at text (refusals.TooLarge most) h = h
no_expression at text (refusals.TooDeep place) h = h

-- a bad expression of one reason is one of another that follows from it
pub weaker : (at : ℕ) (P Q : Type 0) (refusal : DtmlRefusal) → (P → Q) → IsBadExpression at P refusal → IsBadExpression at Q refusal
weaker at P Q refusals.Memory f h = tt
weaker at P Q (refusals.BadTag place) f h = h
weaker at P Q (refusals.Unclosed place) f h = h
weaker at P Q (refusals.Stray place) f h = h
weaker at P Q (refusals.BadAttribute place) f h = h
weaker at P Q (refusals.BadExpression place) f h = (h.0, f h.1)
weaker at P Q (refusals.TooLarge most) f h = h
weaker at P Q (refusals.TooDeep place) f h = h
