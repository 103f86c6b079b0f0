-- Worked rows: templates that are read, and sources that are refused.
use Rattle.std.specs.Prelude.{◌≡◌, refl, ℕ, zero, suc, Bool, true, false, nat_lt, pos, if◌then◌else◌, List, [], ◌∷◌, ◌++◌, length, map, codes, Some, Ok, Err}
use Rattle.std.proofs.Common.{ap}
use Rattle.zbase.specs.declared.limits.TheConstants.{MOST_SOURCE}
use Rattle.dtml_lex.specs.declared.refusal.DtmlRefusal.TheVariants.{BadTag, Unclosed, Stray, BadAttribute, BadExpression, TooLarge, TooDeep}
use Rattle.dtml_lex.specs.Reading.{word_at, quotation_at, value_at, attribute_at, next_attribute, tag_end, attributes_at, tag_named, tag_at, name_at, entity_at, begins_part, plain_len, part_at}
use Rattle.dtml_expr.specs.Trees as exprs
use Rattle.dtml_expr.specs.declared.expr.Order.TheVariants.{Lt}
use Rattle.dtml_expr.specs.Tokens.{token_at}
use Rattle.dtml_expr.specs.Reading.{head_at, dots_at, item_at, chain, chain_at, comparison_at, and_at, or_at, not_at, tokens_at, expression_at}
use Rattle.dtml_parse.specs.Trees.{Name, Expression, Marks, Item, Items, Plain, Var, Call, If, Unless, Loop, With, Let, Comment, none, more, last, arm, absent, present}
use Rattle.dtml_parse.specs.Table.{only_html_quote}
use Rattle.dtml_parse.specs.TreeReading.{◌>>=◌, arms_at, nodes_at, whole, template_at, template}

-- nodes in order
abbrev block : List Item → Items
block [] = none
block (item ∷ rest) = more item (block rest)

abbrev text : List ℕ → Items
text bytes = block (Plain bytes ∷ [])

abbrev unmarked : Marks
unmarked = record only_html_quote { html_quote = false }

-- ---- templates

variables : template (codes "Hi <dtml-var x>, &dtml-y.z;!") ≡ Ok (block (
    Plain (codes "Hi ") ∷ Var 3 (Name (codes "x")) unmarked ∷ Plain (codes ", ") ∷ Var 17 (Name (codes "y.z")) only_html_quote ∷ Plain (codes "!") ∷ []))
unfolding word_at quotation_at value_at attribute_at next_attribute tag_end attributes_at tag_named tag_at name_at entity_at begins_part plain_len part_at nodes_at template_at
variables = refl

shown : template (codes "<dtml-var x upper size=12 etc=\"..\">") ≡ Ok (block (Var 0 (Name (codes "x")) (record unmarked { upper = true; size = Some 12; etc = Some (codes "..") }) ∷ []))
unfolding word_at quotation_at value_at attribute_at next_attribute tag_end attributes_at tag_named tag_at name_at entity_at begins_part plain_len part_at nodes_at template_at
shown = refl

expression : template (codes "<dtml-call \"a < 2\">") ≡ Ok (block (Call 0 (Expression (exprs.Compare (exprs.Name (codes "a")) Lt (exprs.Number (pos 2)))) ∷ []))
unfolding word_at quotation_at value_at attribute_at next_attribute tag_end attributes_at tag_named tag_at name_at entity_at begins_part plain_len part_at nodes_at template_at head_at dots_at item_at chain chain_at comparison_at and_at or_at not_at token_at tokens_at expression_at
expression = refl

conditions : template (codes "<dtml-if a>x<dtml-elif b>y<dtml-else>z</dtml-if>")
    ≡ Ok (block (If (arm 0 (Name (codes "a")) (text (codes "x")) (arm 12 (Name (codes "b")) (text (codes "y")) last)) (present (text (codes "z"))) ∷ []))
unfolding word_at quotation_at value_at attribute_at next_attribute tag_end attributes_at tag_named tag_at name_at entity_at begins_part plain_len part_at arms_at nodes_at template_at
conditions = refl

loops : template (codes "<dtml-in a reverse>x</dtml-in><dtml-in b>y<dtml-else></dtml-in>")
    ≡ Ok (block (Loop 0 (Name (codes "a")) true false (text (codes "x")) absent ∷ Loop 30 (Name (codes "b")) false false (text (codes "y")) (present none) ∷ []))
unfolding word_at quotation_at value_at attribute_at next_attribute tag_end attributes_at tag_named tag_at name_at entity_at begins_part plain_len part_at nodes_at template_at
loops = refl

nested : template (codes "<dtml-with a><dtml-let b=c><dtml-unless b>x</dtml-unless></dtml-let></dtml-with><dtml-comment></dtml-comment>")
    ≡ Ok (block (With 0 (Name (codes "a")) (block (Let 13 (record { name = codes "b"; arg = Name (codes "c") } ∷ []) (block (Unless 27 (Name (codes "b")) (text (codes "x")) ∷ [])) ∷ [])) ∷ Comment 80 none ∷ []))
unfolding word_at quotation_at value_at attribute_at next_attribute tag_end attributes_at tag_named tag_at name_at entity_at begins_part plain_len part_at nodes_at template_at
nested = refl

-- ---- refusals

-- an unknown tag, one that is open at the end, a closing tag outside, an `else` in a `with`, and a second argument
refused : map template (codes "a<dtml-b>" ∷ codes "ab<dtml-in c>d" ∷ codes "</dtml-if>" ∷ codes "<dtml-with a><dtml-else></dtml-with>" ∷ codes "<dtml-call a b>" ∷ [])
    ≡ Err (BadTag 1) ∷ Err (Unclosed 2) ∷ Err (Stray 0) ∷ Err (Stray 13) ∷ Err (BadAttribute 0) ∷ []
unfolding word_at quotation_at value_at attribute_at next_attribute tag_end attributes_at tag_named tag_at name_at entity_at begins_part plain_len part_at nodes_at template_at
refused = refl

no_expression : template (codes "<dtml-if a>b<dtml-elif \"c +\">") ≡ Err (BadExpression 12)
unfolding word_at quotation_at value_at attribute_at next_attribute tag_end attributes_at tag_named tag_at name_at entity_at begins_part plain_len part_at arms_at nodes_at template_at head_at dots_at item_at chain chain_at comparison_at and_at or_at not_at token_at tokens_at expression_at
no_expression = refl

-- the first from the left, not the first in a list of kinds
first_from_the_left : template (codes "<dtml-call a b><dtml-c>") ≡ Err (BadAttribute 0)
unfolding word_at quotation_at value_at attribute_at next_attribute tag_end attributes_at tag_named tag_at name_at entity_at begins_part plain_len part_at nodes_at template_at
first_from_the_left = refl

abbrev comments : ℕ → List ℕ
comments zero = []
comments (suc n) = codes "<dtml-comment>" ++ comments n

too_deep : map (λ n. template (comments n)) (64 ∷ 65 ∷ []) ≡ Err (Unclosed 882) ∷ Err (TooDeep 896) ∷ []
unfolding word_at quotation_at value_at attribute_at next_attribute tag_end attributes_at tag_named tag_at name_at entity_at begins_part plain_len part_at nodes_at template_at
too_deep = refl

too_large : (source : List ℕ) → nat_lt MOST_SOURCE (length source) ≡ true → template source ≡ Err (TooLarge MOST_SOURCE)
unfolding template_at
too_large source e = ap (λ (t : Bool). if t then Err (TooLarge MOST_SOURCE) else (nodes_at source (length source) 64 0 >>= whole source)) e
