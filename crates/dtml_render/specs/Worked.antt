-- Worked pages, which compute.
use Rattle.std.specs.Prelude.{ℕ, ◌≡◌, refl, List, [], ◌∷◌, Option, Some, None, Result, Ok, Err, false, codes, nat_eq, if◌then◌else◌}
use Rattle.zbase.specs.Query.{Halt, Cause}
use Rattle.evaluator.specs.declared.permission.TheConstants.{VIEW}
use Rattle.evaluator.specs.declared.reply.Shown.{Shown}
use Rattle.dtml_lex.specs.declared.refusal.DtmlRefusal.TheVariants as refusals
use Rattle.dtml_lex.specs.Reading.{word_at, quotation_at, value_at, attribute_at, next_attribute, tag_end, attributes_at, tag_named, tag_at, name_at, entity_at, begins_part, plain_len, part_at}
use Rattle.dtml_expr.specs.Tokens.{token_at}
use Rattle.dtml_expr.specs.Reading.{head_at, dots_at, item_at, chain, chain_at, comparison_at, and_at, or_at, not_at, tokens_at, expression_at}
use Rattle.dtml_parse.specs.TreeReading.{arms_at, nodes_at, template_at}
use Rattle.dtml_format.specs.Shaping.{shape, quoted, cased, sized, html_quote, last_space, chars, first_chars}
use Rattle.zobject.specs.declared.object.Object.{Object}
use Rattle.zobject.specs.declared.object.Setting.{Setting}
use Rattle.zobject.specs.declared.object.Child.{Child}
use Rattle.zobject.specs.declared.object.Property.{Property}
use Rattle.zobject.specs.declared.object.PropValue.TheVariants as values
use Rattle.zobject.specs.declared.object.Part2.{Part2}
use Rattle.zobject.specs.declared.object.Part2.TheVariants as parts
use Rattle.zobject.specs.Shapes.{shape_of}
use Rattle.zknown.specs.Seen.{Seen, Here}
use Rattle.acquisition.specs.Acquiring.{containers, upwards, reached}
use Rattle.permissions.specs.declared.who.Who.TheVariants as who
use Rattle.permissions.specs.Roles.{roles, has, locals_on, local_roles}
use Rattle.permissions.specs.Verdicts.{verdict_on, judged, proxy_user}
use Rattle.namespace.specs.Looks.{Looks, Done, looked, ◌>>=◌, Fault, Of, Unauthorized, NoName, BadValue, BadSource, Runaway, Tags, Renders, Output}
use Rattle.namespace.specs.Names.{text, viewing, named_for, in_layers, in_layer, in_base, in_object, searched, in_one, by_word, title_in, title_or_id_in, ids_in, values_in, reach_each, property_or_child, property_in, child_at}
use Rattle.dtml_values.specs.Values.{fitting}
use Rattle.dtml_values.specs.Expressions.{evaluated, first_of}
use Rattle.dtml_render.specs.Rendering.{source_of, rendered, sourced, object_rendered, rendered_if, argument, needed, var_text, call_text, unless_text, object_turn, turn, each, over_items, loop_text, with_text, bound, let_text, item_text, items_text, arms_text, else_text, source_text}

-- ---- small sites

abbrev lists : List ℕ → ℕ → Child
lists name oid = record { name = name; oid = oid }

abbrev plain : List ℕ → List ℕ → List Setting → List Property → Part2 → Seen Object
plain id title settings properties part = Here (record { id = id; parent = 0; title = title; settings = settings; locals = []; properties = properties; part = part })

-- `View` is Manager's alone
abbrev managers : List Setting
managers = record { permission = VIEW; acquire = false; roles = codes "Manager" ∷ [] } ∷ []

abbrev by : ℕ → List ℕ → Shown
by o role = record { oid = o; role = role }

-- a document `p` with this source in a public folder, beside a private document `s` and a method `m` with its source
-- and proxy roles
abbrev site : List ℕ → List ℕ → List (List ℕ) → ℕ → Option (Seen Object)
site source method proxy o =
    if nat_eq o 0 then Some (plain [] (codes "Zope") [] (record { name = codes "ns"; value = values.Lines (codes "x" ∷ codes "y" ∷ []) } ∷ []) (parts.Folder (lists (codes "p") 1 ∷ lists (codes "s") 2 ∷ lists (codes "m") 3 ∷ [])))
    else if nat_eq o 1 then Some (plain (codes "p") (codes "P") [] [] (parts.Document source []))
    else if nat_eq o 2 then Some (plain (codes "s") (codes "S") managers [] (parts.Document [] []))
    else if nat_eq o 3 then Some (plain (codes "m") [] [] [] (parts.Method method proxy))
    else None

abbrev source_page : ℕ → ℕ → Object → Looks (List ℕ)
source_page o tags object =
    source_text 32 (record { user = who.Anonymous; acting = proxy_user (shape_of object); layers = []; client = o ∷ 0 ∷ []; request = record { name = codes "q"; val = text (codes "a b") } ∷ [] }) o (source_of object.part) (record { tags = tags; output = 64 })
    >>= λ x. Done x.0

-- the page of an object for nobody, which may evaluate so many tags and make 64 bytes
abbrev page : (ℕ → Option (Seen Object)) → ℕ → ℕ → Result (List ℕ × List Shown) (Halt ℕ Fault)
page known o tags = looked known [] (viewing who.Anonymous o >>= source_page o tags)

abbrev of_p : List ℕ → Result (List ℕ × List Shown) (Halt ℕ Fault)
of_p source = page (site source [] []) 1 100

abbrev shows : List ℕ → Result (List ℕ × List Shown) (Halt ℕ Fault)
shows t = Ok (t, by 1 (codes "Anonymous") ∷ [])

-- ---- pages

titles_of_all : of_p (codes "<dtml-in objectValues><dtml-var id></dtml-in>") ≡ Err (Cause (Unauthorized 2 VIEW))
unfolding word_at quotation_at value_at attribute_at next_attribute tag_end attributes_at tag_named tag_at name_at entity_at begins_part plain_len part_at nodes_at arms_at template_at head_at dots_at item_at chain chain_at comparison_at and_at or_at not_at token_at tokens_at expression_at named_for in_layers in_layer in_base in_object searched in_one by_word title_in title_or_id_in ids_in values_in reach_each property_or_child property_in child_at shape_of containers upwards reached verdict_on judged roles has locals_on local_roles rendered sourced object_rendered rendered_if argument needed var_text call_text unless_text object_turn turn each over_items loop_text with_text bound let_text item_text items_text arms_text else_text source_text evaluated first_of fitting shape quoted cased sized html_quote last_space chars first_chars
titles_of_all = refl

titles_of_some : page (site (codes "<dtml-in objectValues skip_unauthorized><dtml-var id></dtml-in>") [] []) 1 100 ≡ Ok (codes "pm", by 1 (codes "Anonymous") ∷ by 3 (codes "Anonymous") ∷ [])
unfolding word_at quotation_at value_at attribute_at next_attribute tag_end attributes_at tag_named tag_at name_at entity_at begins_part plain_len part_at nodes_at arms_at template_at head_at dots_at item_at chain chain_at comparison_at and_at or_at not_at token_at tokens_at expression_at named_for in_layers in_layer in_base in_object searched in_one by_word title_in title_or_id_in ids_in values_in reach_each property_or_child property_in child_at shape_of containers upwards reached verdict_on judged roles has locals_on local_roles rendered sourced object_rendered rendered_if argument needed var_text call_text unless_text object_turn turn each over_items loop_text with_text bound let_text item_text items_text arms_text else_text source_text evaluated first_of fitting shape quoted cased sized html_quote last_space chars first_chars
titles_of_some = refl

reversed : of_p (codes "<dtml-in ns reverse><dtml-var sequence-item></dtml-in>") ≡ Ok (codes "yx", by 1 (codes "Anonymous") ∷ by 0 (codes "Anonymous") ∷ [])
unfolding word_at quotation_at value_at attribute_at next_attribute tag_end attributes_at tag_named tag_at name_at entity_at begins_part plain_len part_at nodes_at arms_at template_at head_at dots_at item_at chain chain_at comparison_at and_at or_at not_at token_at tokens_at expression_at named_for in_layers in_layer in_base in_object searched in_one by_word title_in title_or_id_in ids_in values_in reach_each property_or_child property_in child_at shape_of containers upwards reached verdict_on judged roles has locals_on local_roles rendered sourced object_rendered rendered_if argument needed var_text call_text unless_text object_turn turn each over_items loop_text with_text bound let_text item_text items_text arms_text else_text source_text evaluated first_of fitting shape quoted cased sized html_quote last_space chars first_chars
reversed = refl

empty_text : of_p (codes "<dtml-in \"''\">a<dtml-else>b</dtml-in>") ≡ shows (codes "b")
unfolding word_at quotation_at value_at attribute_at next_attribute tag_end attributes_at tag_named tag_at name_at entity_at begins_part plain_len part_at nodes_at arms_at template_at head_at dots_at item_at chain chain_at comparison_at and_at or_at not_at token_at tokens_at expression_at named_for in_layers in_layer in_base in_object searched in_one by_word title_in title_or_id_in ids_in values_in reach_each property_or_child property_in child_at shape_of containers upwards reached verdict_on judged roles has locals_on local_roles rendered sourced object_rendered rendered_if argument needed var_text call_text unless_text object_turn turn each over_items loop_text with_text bound let_text item_text items_text arms_text else_text source_text evaluated first_of fitting shape quoted cased sized html_quote last_space chars first_chars
empty_text = refl

first_true_arm : of_p (codes "<dtml-if none>a<dtml-elif q>b<dtml-else>c</dtml-if>") ≡ shows (codes "b")
unfolding word_at quotation_at value_at attribute_at next_attribute tag_end attributes_at tag_named tag_at name_at entity_at begins_part plain_len part_at nodes_at arms_at template_at head_at dots_at item_at chain chain_at comparison_at and_at or_at not_at token_at tokens_at expression_at named_for in_layers in_layer in_base in_object searched in_one by_word title_in title_or_id_in ids_in values_in reach_each property_or_child property_in child_at shape_of containers upwards reached verdict_on judged roles has locals_on local_roles rendered sourced object_rendered rendered_if argument needed var_text call_text unless_text object_turn turn each over_items loop_text with_text bound let_text item_text items_text arms_text else_text source_text evaluated first_of fitting shape quoted cased sized html_quote last_space chars first_chars
first_true_arm = refl

no_name : of_p (codes "<dtml-var none>") ≡ Err (Cause (Of (NoName (codes "none"))))
unfolding word_at quotation_at value_at attribute_at next_attribute tag_end attributes_at tag_named tag_at name_at entity_at begins_part plain_len part_at nodes_at arms_at template_at head_at dots_at item_at chain chain_at comparison_at and_at or_at not_at token_at tokens_at expression_at named_for in_layers in_layer in_base in_object searched in_one by_word title_in title_or_id_in ids_in values_in reach_each property_or_child property_in child_at shape_of containers upwards reached verdict_on judged roles has locals_on local_roles rendered sourced object_rendered rendered_if argument needed var_text call_text unless_text object_turn turn each over_items loop_text with_text bound let_text item_text items_text arms_text else_text source_text evaluated first_of fitting shape quoted cased sized html_quote last_space chars first_chars
no_name = refl

missing : of_p (codes "<dtml-var none missing=\"a&b\" html_quote>") ≡ shows (codes "a&amp;b")
unfolding word_at quotation_at value_at attribute_at next_attribute tag_end attributes_at tag_named tag_at name_at entity_at begins_part plain_len part_at nodes_at arms_at template_at head_at dots_at item_at chain chain_at comparison_at and_at or_at not_at token_at tokens_at expression_at named_for in_layers in_layer in_base in_object searched in_one by_word title_in title_or_id_in ids_in values_in reach_each property_or_child property_in child_at shape_of containers upwards reached verdict_on judged roles has locals_on local_roles rendered sourced object_rendered rendered_if argument needed var_text call_text unless_text object_turn turn each over_items loop_text with_text bound let_text item_text items_text arms_text else_text source_text evaluated first_of fitting shape quoted cased sized html_quote last_space chars first_chars
missing = refl

marks_before_size : of_p (codes "<dtml-var \"'a&b'\" html_quote size=3>") ≡ shows (codes "a&a...")
unfolding word_at quotation_at value_at attribute_at next_attribute tag_end attributes_at tag_named tag_at name_at entity_at begins_part plain_len part_at nodes_at arms_at template_at head_at dots_at item_at chain chain_at comparison_at and_at or_at not_at token_at tokens_at expression_at named_for in_layers in_layer in_base in_object searched in_one by_word title_in title_or_id_in ids_in values_in reach_each property_or_child property_in child_at shape_of containers upwards reached verdict_on judged roles has locals_on local_roles rendered sourced object_rendered rendered_if argument needed var_text call_text unless_text object_turn turn each over_items loop_text with_text bound let_text item_text items_text arms_text else_text source_text evaluated first_of fitting shape quoted cased sized html_quote last_space chars first_chars
marks_before_size = refl

size_at_a_space : of_p (codes "<dtml-var \"'abcd ef'\" size=6>") ≡ shows (codes "abcd ...")
unfolding word_at quotation_at value_at attribute_at next_attribute tag_end attributes_at tag_named tag_at name_at entity_at begins_part plain_len part_at nodes_at arms_at template_at head_at dots_at item_at chain chain_at comparison_at and_at or_at not_at token_at tokens_at expression_at named_for in_layers in_layer in_base in_object searched in_one by_word title_in title_or_id_in ids_in values_in reach_each property_or_child property_in child_at shape_of containers upwards reached verdict_on judged roles has locals_on local_roles rendered sourced object_rendered rendered_if argument needed var_text call_text unless_text object_turn turn each over_items loop_text with_text bound let_text item_text items_text arms_text else_text source_text evaluated first_of fitting shape quoted cased sized html_quote last_space chars first_chars
size_at_a_space = refl

bound_in_order : of_p (codes "<dtml-let a=q b=\"a + a\"><dtml-var b></dtml-let>") ≡ shows (codes "a ba b")
unfolding word_at quotation_at value_at attribute_at next_attribute tag_end attributes_at tag_named tag_at name_at entity_at begins_part plain_len part_at nodes_at arms_at template_at head_at dots_at item_at chain chain_at comparison_at and_at or_at not_at token_at tokens_at expression_at named_for in_layers in_layer in_base in_object searched in_one by_word title_in title_or_id_in ids_in values_in reach_each property_or_child property_in child_at shape_of containers upwards reached verdict_on judged roles has locals_on local_roles rendered sourced object_rendered rendered_if argument needed var_text call_text unless_text object_turn turn each over_items loop_text with_text bound let_text item_text items_text arms_text else_text source_text evaluated first_of fitting shape quoted cased sized html_quote last_space chars first_chars
bound_in_order = refl

no_object : of_p (codes "x<dtml-with q></dtml-with>") ≡ Err (Cause (Of (BadValue 1)))
unfolding word_at quotation_at value_at attribute_at next_attribute tag_end attributes_at tag_named tag_at name_at entity_at begins_part plain_len part_at nodes_at arms_at template_at head_at dots_at item_at chain chain_at comparison_at and_at or_at not_at token_at tokens_at expression_at named_for in_layers in_layer in_base in_object searched in_one by_word title_in title_or_id_in ids_in values_in reach_each property_or_child property_in child_at shape_of containers upwards reached verdict_on judged roles has locals_on local_roles rendered sourced object_rendered rendered_if argument needed var_text call_text unless_text object_turn turn each over_items loop_text with_text bound let_text item_text items_text arms_text else_text source_text evaluated first_of fitting shape quoted cased sized html_quote last_space chars first_chars
no_object = refl

operand_that_decides : of_p (codes "<dtml-var \"0 or '' or q or none\">") ≡ shows (codes "a b")
unfolding word_at quotation_at value_at attribute_at next_attribute tag_end attributes_at tag_named tag_at name_at entity_at begins_part plain_len part_at nodes_at arms_at template_at head_at dots_at item_at chain chain_at comparison_at and_at or_at not_at token_at tokens_at expression_at named_for in_layers in_layer in_base in_object searched in_one by_word title_in title_or_id_in ids_in values_in reach_each property_or_child property_in child_at shape_of containers upwards reached verdict_on judged roles has locals_on local_roles rendered sourced object_rendered rendered_if argument needed var_text call_text unless_text object_turn turn each over_items loop_text with_text bound let_text item_text items_text arms_text else_text source_text evaluated first_of fitting shape quoted cased sized html_quote last_space chars first_chars
operand_that_decides = refl

last_tag : page (site (codes "<dtml-call q><dtml-call q>") [] []) 1 2 ≡ shows []
unfolding word_at quotation_at value_at attribute_at next_attribute tag_end attributes_at tag_named tag_at name_at entity_at begins_part plain_len part_at nodes_at arms_at template_at head_at dots_at item_at chain chain_at comparison_at and_at or_at not_at token_at tokens_at expression_at named_for in_layers in_layer in_base in_object searched in_one by_word title_in title_or_id_in ids_in values_in reach_each property_or_child property_in child_at shape_of containers upwards reached verdict_on judged roles has locals_on local_roles rendered sourced object_rendered rendered_if argument needed var_text call_text unless_text object_turn turn each over_items loop_text with_text bound let_text item_text items_text arms_text else_text source_text evaluated first_of fitting shape quoted cased sized html_quote last_space chars first_chars
last_tag = refl

one_tag_more : page (site (codes "<dtml-call q><dtml-call q>") [] []) 1 1 ≡ Err (Cause (Of (Runaway Tags)))
unfolding word_at quotation_at value_at attribute_at next_attribute tag_end attributes_at tag_named tag_at name_at entity_at begins_part plain_len part_at nodes_at arms_at template_at head_at dots_at item_at chain chain_at comparison_at and_at or_at not_at token_at tokens_at expression_at named_for in_layers in_layer in_base in_object searched in_one by_word title_in title_or_id_in ids_in values_in reach_each property_or_child property_in child_at shape_of containers upwards reached verdict_on judged roles has locals_on local_roles rendered sourced object_rendered rendered_if argument needed var_text call_text unless_text object_turn turn each over_items loop_text with_text bound let_text item_text items_text arms_text else_text source_text evaluated first_of fitting shape quoted cased sized html_quote last_space chars first_chars
one_tag_more = refl

too_much_text : of_p (codes "<dtml-in ns>0123456789012345678901234567890123456789</dtml-in>") ≡ Err (Cause (Of (Runaway Output)))
unfolding word_at quotation_at value_at attribute_at next_attribute tag_end attributes_at tag_named tag_at name_at entity_at begins_part plain_len part_at nodes_at arms_at template_at head_at dots_at item_at chain chain_at comparison_at and_at or_at not_at token_at tokens_at expression_at named_for in_layers in_layer in_base in_object searched in_one by_word title_in title_or_id_in ids_in values_in reach_each property_or_child property_in child_at shape_of containers upwards reached verdict_on judged roles has locals_on local_roles rendered sourced object_rendered rendered_if argument needed var_text call_text unless_text object_turn turn each over_items loop_text with_text bound let_text item_text items_text arms_text else_text source_text evaluated first_of fitting shape quoted cased sized html_quote last_space chars first_chars
too_much_text = refl

bad_source : page (site (codes "<dtml-var m>") (codes "<dtml-x>") []) 1 100 ≡ Err (Cause (Of (BadSource 3 (refusals.BadTag 0))))
unfolding word_at quotation_at value_at attribute_at next_attribute tag_end attributes_at tag_named tag_at name_at entity_at begins_part plain_len part_at nodes_at arms_at template_at head_at dots_at item_at chain chain_at comparison_at and_at or_at not_at token_at tokens_at expression_at named_for in_layers in_layer in_base in_object searched in_one by_word title_in title_or_id_in ids_in values_in reach_each property_or_child property_in child_at shape_of containers upwards reached verdict_on judged roles has locals_on local_roles rendered sourced object_rendered rendered_if argument needed var_text call_text unless_text object_turn turn each over_items loop_text with_text bound let_text item_text items_text arms_text else_text source_text evaluated first_of fitting shape quoted cased sized html_quote last_space chars first_chars
bad_source = refl

runs_away : page (site [] (codes "<dtml-var m>") []) 3 100 ≡ Err (Cause (Of (Runaway Renders)))
unfolding word_at quotation_at value_at attribute_at next_attribute tag_end attributes_at tag_named tag_at name_at entity_at begins_part plain_len part_at nodes_at arms_at template_at head_at dots_at item_at chain chain_at comparison_at and_at or_at not_at token_at tokens_at expression_at named_for in_layers in_layer in_base in_object searched in_one by_word title_in title_or_id_in ids_in values_in reach_each property_or_child property_in child_at shape_of containers upwards reached verdict_on judged roles has locals_on local_roles rendered sourced object_rendered rendered_if argument needed var_text call_text unless_text object_turn turn each over_items loop_text with_text bound let_text item_text items_text arms_text else_text source_text evaluated first_of fitting shape quoted cased sized html_quote last_space chars first_chars
runs_away = refl

by_proxy_roles : page (site [] (codes "<dtml-var \"s.title\">") (codes "Manager" ∷ [])) 3 100 ≡ Ok (codes "S", by 3 (codes "Anonymous") ∷ by 2 (codes "Manager") ∷ [])
unfolding word_at quotation_at value_at attribute_at next_attribute tag_end attributes_at tag_named tag_at name_at entity_at begins_part plain_len part_at nodes_at arms_at template_at head_at dots_at item_at chain chain_at comparison_at and_at or_at not_at token_at tokens_at expression_at named_for in_layers in_layer in_base in_object searched in_one by_word title_in title_or_id_in ids_in values_in reach_each property_or_child property_in child_at shape_of containers upwards reached verdict_on judged roles has locals_on local_roles rendered sourced object_rendered rendered_if argument needed var_text call_text unless_text object_turn turn each over_items loop_text with_text bound let_text item_text items_text arms_text else_text source_text evaluated first_of fitting shape quoted cased sized html_quote last_space chars first_chars
by_proxy_roles = refl

without_proxy_roles : page (site [] (codes "<dtml-var \"s.title\">") []) 3 100 ≡ Err (Cause (Unauthorized 2 VIEW))
unfolding word_at quotation_at value_at attribute_at next_attribute tag_end attributes_at tag_named tag_at name_at entity_at begins_part plain_len part_at nodes_at arms_at template_at head_at dots_at item_at chain chain_at comparison_at and_at or_at not_at token_at tokens_at expression_at named_for in_layers in_layer in_base in_object searched in_one by_word title_in title_or_id_in ids_in values_in reach_each property_or_child property_in child_at shape_of containers upwards reached verdict_on judged roles has locals_on local_roles rendered sourced object_rendered rendered_if argument needed var_text call_text unless_text object_turn turn each over_items loop_text with_text bound let_text item_text items_text arms_text else_text source_text evaluated first_of fitting shape quoted cased sized html_quote last_space chars first_chars
without_proxy_roles = refl

not_handed_on : page (site (codes "<dtml-var m><dtml-var \"s.title\">") (codes "<dtml-call \"s.title\">") (codes "Manager" ∷ [])) 1 100 ≡ Err (Cause (Unauthorized 2 VIEW))
unfolding word_at quotation_at value_at attribute_at next_attribute tag_end attributes_at tag_named tag_at name_at entity_at begins_part plain_len part_at nodes_at arms_at template_at head_at dots_at item_at chain chain_at comparison_at and_at or_at not_at token_at tokens_at expression_at named_for in_layers in_layer in_base in_object searched in_one by_word title_in title_or_id_in ids_in values_in reach_each property_or_child property_in child_at shape_of containers upwards reached verdict_on judged roles has locals_on local_roles rendered sourced object_rendered rendered_if argument needed var_text call_text unless_text object_turn turn each over_items loop_text with_text bound let_text item_text items_text arms_text else_text source_text evaluated first_of fitting shape quoted cased sized html_quote last_space chars first_chars
not_handed_on = refl
