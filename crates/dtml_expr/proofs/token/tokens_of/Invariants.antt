use Rattle.std.proofs.Common.{length}
use denote.Shadow.{shadow}
use denote.Text.{Utf8}
use Rattle.dtml_expr.specs.Views.{token_views}
use Rattle.dtml_expr.proofs.TokenSteps.{Lexed}
use Rattle.dtml_expr.proofs.token.tokens_of.Given as goal

abbrev pub invariant-tokens : goal.invariant-tokens
invariant-tokens l = record { utf8 : shadow (Utf8 l.rest); lexed : Lexed l.source (token_views l.tokens.items) l.rest }

abbrev pub decreases-tokens : goal.decreases-tokens
decreases-tokens l = length l.rest
