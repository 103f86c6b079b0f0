-- Worked rows: what messages come to over a small site, and in which order they are refused.
use lib.Utf8.{encode}
use Rattle.std.proofs.Common.{◌≡◌, ℕ, false, List, [], ◌∷◌, ◌++◌, Option, Some, None, Result, Ok, Err, refl, codes, nat_eq, if◌then◌else◌}
use Rattle.std.specs.Str.{is_utf8, chars}
use Rattle.std.specs.Str.Lossy.{utf8_lossy, utf8_valid_len}
use Rattle.base64.specs.Decode.{groups_bytes, groups_error, scan_steps}
use Rattle.base64.specs.Rfc4648.{encode_symbols}
use Rattle.form_urlencoded.specs.Form.{raw_pairs, split}
use Rattle.percent_encoding.specs.Percent.{percent_decode}
use Rattle.sha1.specs.Sha1.{sha1, digest_bytes, hash_after, compress, rounds, schedule, first_words}
use Rattle.zbase.specs.Query.{run, Halt, Cause}
use Rattle.zobject.specs.declared.object.Child.{Child}
use Rattle.zobject.specs.declared.object.Object.{Object}
use Rattle.zobject.specs.declared.object.Part2.{Part2}
use Rattle.zobject.specs.declared.object.Part2.TheVariants as parts
use Rattle.zobject.specs.declared.object.Setting.{Setting}
use Rattle.zobject.specs.declared.object.User.{User}
use Rattle.zobject.specs.declared.version.Version.TheVariants.{Second}
use Rattle.zobject.specs.Shapes.{shape_of}
use Rattle.zcodec.specs.Record.{record_text}
use Rattle.zknown.specs.Seen.{Seen, Here}
use Rattle.acquisition.specs.Acquiring.{found, reached, containers, upwards}
use Rattle.acquisition.specs.Acquiring.{searched as finds}
use Rattle.permissions.specs.Roles.{roles, has, locals_on, local_roles}
use Rattle.permissions.specs.Users.{known_user, sought, taken_at, user_at}
use Rattle.permissions.specs.Verdicts.{verdict_on, judged}
use Rattle.user_folder.specs.Credentials.{spelled_by}
use Rattle.evaluator.specs.declared.draft.Entry.{Entry}
use Rattle.evaluator.specs.declared.draft.Name.{Name}
use Rattle.evaluator.specs.declared.reply.Shown.{Shown}
use Rattle.dtml_lex.specs.Reading.{word_at, quotation_at, value_at, attribute_at, next_attribute, tag_end, attributes_at, tag_named, tag_at, name_at, entity_at, begins_part, plain_len, part_at}
use Rattle.dtml_expr.specs.Tokens.{token_at}
use Rattle.dtml_expr.specs.Reading.{head_at, dots_at, item_at, chain, chain_at, comparison_at, and_at, or_at, not_at, tokens_at, expression_at}
use Rattle.dtml_parse.specs.TreeReading.{arms_at, nodes_at, template_at}
use Rattle.dtml_format.specs.Shaping.{shape, quoted, cased, sized, html_quote, last_space, first_chars}
use Rattle.dtml_values.specs.Values.{fitting}
use Rattle.dtml_values.specs.Expressions.{evaluated, first_of}
use Rattle.dtml_render.specs.Rendering.{rendered, sourced, object_rendered, rendered_if, argument, needed, var_text, call_text, unless_text, object_turn, turn, each, over_items, loop_text, with_text, bound, let_text, item_text, items_text, arms_text, else_text, source_text}
use Rattle.evaluator.specs.declared.permission.TheConstants.{CHANGE_DTML_DOCUMENTS, VIEW}
use Rattle.form_fields.specs.Cookies.{cookies_of}
use Rattle.form_fields.specs.Fields.{fields_of}
use Rattle.form_fields.specs.Names.{named_by}
use Rattle.form_fields.specs.Numbers.{whole_number}
use Rattle.form_fields.specs.Pairs.{pairs, pairs_of}
use Rattle.http_in.specs.declared.message.Request.{Request}
use Rattle.http_in.specs.declared.message.Verb.{Verb}
use Rattle.http_in.specs.declared.message.Verb.TheVariants.{Get, Head, Post}
use Rattle.http_in.specs.Headers.{Header}
use Rattle.manage.specs.declared.call.Call.TheVariants as calls
use Rattle.manage.specs.declared.refusal.FieldName.TheVariants.{Data, Tid}
use Rattle.manage.specs.declared.refusal.ManageRefusal.TheVariants.{NotFound, Missing}
use Rattle.manage.specs.Calling.{permission_at}
use Rattle.manage.specs.Changing.{change, judged as call_judged, written}
use Rattle.manage.specs.Fields.{field_kept, fields_kept, text_of, texts_of}
use Rattle.namespace.specs.Looks.{Unauthorized}
use Rattle.namespace.specs.Names.{named_for, in_layers, in_layer, in_base, in_object, searched, in_one, by_word, title_in, title_or_id_in, ids_in, values_in, reach_each, property_or_child, property_in, child_at}
use Rattle.namespace.specs.Requests.{request_names}
use Rattle.traverse.specs.Publishing as publishing
use Rattle.traverse.specs.Publishing.{published, walked, stepped, child, index}
use Rattle.traverse.specs.Publishing.{page as page_at}
use Rattle.publisher.specs.declared.answer.Answer.{Answer}
use Rattle.publisher.specs.declared.answer.Answer.TheVariants as answers
use Rattle.publisher.specs.Faults as faults
use Rattle.publisher.specs.Faults.{Fault}
use Rattle.publisher.specs.Pages.{scope_page}
use Rattle.publisher.specs.Replies.{done, page_reply}
use Rattle.publisher.specs.Site.{request, with_fields, with_credentials, page, scope_answer, call_on, call_with, change_for, change_by}

-- ---- a small site

abbrev pub lists : List ℕ → ℕ → Child
lists name oid = record { name = name; oid = oid }

abbrev pub held : ℕ → List ℕ → List Setting → Part2 → Object
held parent id settings part = record { id = id; parent = parent; title = codes "T"; settings = settings; locals = []; properties = []; part = part }

-- `View` is Manager's alone
abbrev pub managers : List Setting
managers = record { permission = VIEW; acquire = false; roles = codes "Manager" ∷ [] } ∷ []

-- a user whose password is `secret`
abbrev manager : List ℕ → User
manager name = record { name = name; password = codes "{SHA}5en6G6MezRroT3XKqkdPOmY/BfQ="; roles = codes "Manager" ∷ [] }

-- The root has the Manager `admin`, the method `index_html`, the document `d`, the private document `s`, and the folder `H`
-- with the Manager `eve` and the private document `e`.
abbrev pub site : ℕ → Option (Seen Object)
site o =
    if nat_eq o 0 then Some (Here (held 0 [] [] (parts.Folder (lists (codes "acl_users") 1 ∷ lists (codes "index_html") 2 ∷ lists (codes "d") 3 ∷ lists (codes "s") 4 ∷ lists (codes "H") 5 ∷ []))))
    else if nat_eq o 1 then Some (Here (held 0 (codes "acl_users") [] (parts.UserFolder (manager (codes "admin") ∷ []))))
    else if nat_eq o 2 then Some (Here (held 0 (codes "index_html") [] (parts.Method (codes "<b><dtml-var title></b>") [])))
    else if nat_eq o 3 then Some (Here (held 0 (codes "d") [] (parts.Document (codes "hello") [])))
    else if nat_eq o 4 then Some (Here (held 0 (codes "s") managers (parts.Document (codes "hush") [])))
    else if nat_eq o 5 then Some (Here (held 0 (codes "H") [] (parts.Folder (lists (codes "acl_users") 6 ∷ lists (codes "e") 7 ∷ []))))
    else if nat_eq o 6 then Some (Here (held 5 (codes "acl_users") [] (parts.UserFolder (manager (codes "eve") ∷ []))))
    else if nat_eq o 7 then Some (Here (held 5 (codes "e") managers (parts.Document (codes "deep") [])))
    else None

-- ---- messages

abbrev pub sent : Verb → List (List ℕ) → List ℕ → List Header → Request
sent verb path query headers = record { method = verb; path = path; raw = codes "/"; query = query; headers = headers; body = [] }

abbrev by : List ℕ → List Header
by credentials = record { name = codes "authorization"; value = codes "Basic " ++ credentials } ∷ []

-- the password of each is `secret`
abbrev pub admin : List Header
admin = by (codes "YWRtaW46c2VjcmV0")

abbrev eve : List Header
eve = by (codes "ZXZlOnNlY3JldA==")

-- `admin` with another password
abbrev stranger : List Header
stranger = by (codes "YWRtaW46U2VjcmV0")

abbrev bad : List Header
bad = by (codes "?")

abbrev comes_to : Request → Result Answer (Halt ℕ Fault)
comes_to q = run site (request q)

abbrev pub shown : ℕ → List ℕ → Shown
shown o role = record { oid = o; role = role }

abbrev pub at : List ℕ → List (List ℕ)
at name = name ∷ []

-- ---- pages

front : comes_to (sent Get [] [] []) ≡ Ok (answers.Page (page_reply (codes "<b>T</b>") (shown 2 (codes "Anonymous") ∷ shown 0 (codes "Anonymous") ∷ [])))
unfolding request with_fields with_credentials page scope_answer scope_page call_on call_with change_for change_by change written call_judged fields_kept field_kept texts_of text_of published walked stepped child page_at index found reached containers upwards finds verdict_on judged roles has locals_on local_roles shape_of known_user sought taken_at user_at permission_at fields_of pairs pairs_of raw_pairs split percent_decode named_by whole_number utf8_lossy utf8_valid_len is_utf8 encode cookies_of spelled_by groups_bytes groups_error scan_steps encode_symbols sha1 digest_bytes hash_after compress rounds schedule first_words named_for in_layers in_layer in_base in_object searched in_one by_word title_in title_or_id_in ids_in values_in reach_each property_or_child property_in child_at request_names word_at quotation_at value_at attribute_at next_attribute tag_end attributes_at tag_named tag_at name_at entity_at begins_part plain_len part_at nodes_at arms_at template_at head_at dots_at item_at chain chain_at comparison_at and_at or_at not_at token_at tokens_at expression_at rendered sourced object_rendered rendered_if argument needed var_text call_text unless_text object_turn turn each over_items loop_text with_text bound let_text item_text items_text arms_text else_text source_text evaluated first_of fitting shape quoted cased sized html_quote last_space chars first_chars
front = refl

document : comes_to (sent Get (at (codes "d")) [] admin) ≡ Ok (answers.Page (page_reply (codes "hello") (shown 3 (codes "Anonymous") ∷ [])))
unfolding request with_fields with_credentials page scope_answer scope_page call_on call_with change_for change_by change written call_judged fields_kept field_kept texts_of text_of published walked stepped child page_at index found reached containers upwards finds verdict_on judged roles has locals_on local_roles shape_of known_user sought taken_at user_at permission_at fields_of pairs pairs_of raw_pairs split percent_decode named_by whole_number utf8_lossy utf8_valid_len is_utf8 encode cookies_of spelled_by groups_bytes groups_error scan_steps encode_symbols sha1 digest_bytes hash_after compress rounds schedule first_words named_for in_layers in_layer in_base in_object searched in_one by_word title_in title_or_id_in ids_in values_in reach_each property_or_child property_in child_at request_names word_at quotation_at value_at attribute_at next_attribute tag_end attributes_at tag_named tag_at name_at entity_at begins_part plain_len part_at nodes_at arms_at template_at head_at dots_at item_at chain chain_at comparison_at and_at or_at not_at token_at tokens_at expression_at rendered sourced object_rendered rendered_if argument needed var_text call_text unless_text object_turn turn each over_items loop_text with_text bound let_text item_text items_text arms_text else_text source_text evaluated first_of fitting shape quoted cased sized html_quote last_space chars first_chars
document = refl

private_page : comes_to (sent Get (at (codes "s")) [] admin) ≡ Ok (answers.Page (page_reply (codes "hush") (shown 4 (codes "Manager") ∷ [])))
unfolding request with_fields with_credentials page scope_answer scope_page call_on call_with change_for change_by change written call_judged fields_kept field_kept texts_of text_of published walked stepped child page_at index found reached containers upwards finds verdict_on judged roles has locals_on local_roles shape_of known_user sought taken_at user_at permission_at fields_of pairs pairs_of raw_pairs split percent_decode named_by whole_number utf8_lossy utf8_valid_len is_utf8 encode cookies_of spelled_by groups_bytes groups_error scan_steps encode_symbols sha1 digest_bytes hash_after compress rounds schedule first_words named_for in_layers in_layer in_base in_object searched in_one by_word title_in title_or_id_in ids_in values_in reach_each property_or_child property_in child_at request_names word_at quotation_at value_at attribute_at next_attribute tag_end attributes_at tag_named tag_at name_at entity_at begins_part plain_len part_at nodes_at arms_at template_at head_at dots_at item_at chain chain_at comparison_at and_at or_at not_at token_at tokens_at expression_at rendered sourced object_rendered rendered_if argument needed var_text call_text unless_text object_turn turn each over_items loop_text with_text bound let_text item_text items_text arms_text else_text source_text evaluated first_of fitting shape quoted cased sized html_quote last_space chars first_chars
private_page = refl

by_head : comes_to (sent Head (at (codes "d")) [] []) ≡ Ok (answers.Page (page_reply (codes "hello") (shown 3 (codes "Anonymous") ∷ [])))
unfolding request with_fields with_credentials page scope_answer scope_page call_on call_with change_for change_by change written call_judged fields_kept field_kept texts_of text_of published walked stepped child page_at index found reached containers upwards finds verdict_on judged roles has locals_on local_roles shape_of known_user sought taken_at user_at permission_at fields_of pairs pairs_of raw_pairs split percent_decode named_by whole_number utf8_lossy utf8_valid_len is_utf8 encode cookies_of spelled_by groups_bytes groups_error scan_steps encode_symbols sha1 digest_bytes hash_after compress rounds schedule first_words named_for in_layers in_layer in_base in_object searched in_one by_word title_in title_or_id_in ids_in values_in reach_each property_or_child property_in child_at request_names word_at quotation_at value_at attribute_at next_attribute tag_end attributes_at tag_named tag_at name_at entity_at begins_part plain_len part_at nodes_at arms_at template_at head_at dots_at item_at chain chain_at comparison_at and_at or_at not_at token_at tokens_at expression_at rendered sourced object_rendered rendered_if argument needed var_text call_text unless_text object_turn turn each over_items loop_text with_text bound let_text item_text items_text arms_text else_text source_text evaluated first_of fitting shape quoted cased sized html_quote last_space chars first_chars
by_head = refl

-- a user of the folder's own user folder
in_a_folder : comes_to (sent Get (codes "H" ∷ codes "e" ∷ []) [] eve) ≡ Ok (answers.Page (page_reply (codes "deep") (shown 7 (codes "Manager") ∷ [])))
unfolding request with_fields with_credentials page scope_answer scope_page call_on call_with change_for change_by change written call_judged fields_kept field_kept texts_of text_of published walked stepped child page_at index found reached containers upwards finds verdict_on judged roles has locals_on local_roles shape_of known_user sought taken_at user_at permission_at fields_of pairs pairs_of raw_pairs split percent_decode named_by whole_number utf8_lossy utf8_valid_len is_utf8 encode cookies_of spelled_by groups_bytes groups_error scan_steps encode_symbols sha1 digest_bytes hash_after compress rounds schedule first_words named_for in_layers in_layer in_base in_object searched in_one by_word title_in title_or_id_in ids_in values_in reach_each property_or_child property_in child_at request_names word_at quotation_at value_at attribute_at next_attribute tag_end attributes_at tag_named tag_at name_at entity_at begins_part plain_len part_at nodes_at arms_at template_at head_at dots_at item_at chain chain_at comparison_at and_at or_at not_at token_at tokens_at expression_at rendered sourced object_rendered rendered_if argument needed var_text call_text unless_text object_turn turn each over_items loop_text with_text bound let_text item_text items_text arms_text else_text source_text evaluated first_of fitting shape quoted cased sized html_quote last_space chars first_chars
in_a_folder = refl

-- a user of a folder above
from_above : comes_to (sent Get (codes "H" ∷ codes "e" ∷ []) [] admin) ≡ Ok (answers.Page (page_reply (codes "deep") (shown 7 (codes "Manager") ∷ [])))
unfolding request with_fields with_credentials page scope_answer scope_page call_on call_with change_for change_by change written call_judged fields_kept field_kept texts_of text_of published walked stepped child page_at index found reached containers upwards finds verdict_on judged roles has locals_on local_roles shape_of known_user sought taken_at user_at permission_at fields_of pairs pairs_of raw_pairs split percent_decode named_by whole_number utf8_lossy utf8_valid_len is_utf8 encode cookies_of spelled_by groups_bytes groups_error scan_steps encode_symbols sha1 digest_bytes hash_after compress rounds schedule first_words named_for in_layers in_layer in_base in_object searched in_one by_word title_in title_or_id_in ids_in values_in reach_each property_or_child property_in child_at request_names word_at quotation_at value_at attribute_at next_attribute tag_end attributes_at tag_named tag_at name_at entity_at begins_part plain_len part_at nodes_at arms_at template_at head_at dots_at item_at chain chain_at comparison_at and_at or_at not_at token_at tokens_at expression_at rendered sourced object_rendered rendered_if argument needed var_text call_text unless_text object_turn turn each over_items loop_text with_text bound let_text item_text items_text arms_text else_text source_text evaluated first_of fitting shape quoted cased sized html_quote last_space chars first_chars
from_above = refl

-- a user of another folder is nobody here
from_elsewhere : comes_to (sent Get (at (codes "s")) [] eve) ≡ Err (Cause (faults.Page (Unauthorized 4 VIEW)))
unfolding request with_fields with_credentials page scope_answer scope_page call_on call_with change_for change_by change written call_judged fields_kept field_kept texts_of text_of published walked stepped child page_at index found reached containers upwards finds verdict_on judged roles has locals_on local_roles shape_of known_user sought taken_at user_at permission_at fields_of pairs pairs_of raw_pairs split percent_decode named_by whole_number utf8_lossy utf8_valid_len is_utf8 encode cookies_of spelled_by groups_bytes groups_error scan_steps encode_symbols sha1 digest_bytes hash_after compress rounds schedule first_words named_for in_layers in_layer in_base in_object searched in_one by_word title_in title_or_id_in ids_in values_in reach_each property_or_child property_in child_at request_names word_at quotation_at value_at attribute_at next_attribute tag_end attributes_at tag_named tag_at name_at entity_at begins_part plain_len part_at nodes_at arms_at template_at head_at dots_at item_at chain chain_at comparison_at and_at or_at not_at token_at tokens_at expression_at rendered sourced object_rendered rendered_if argument needed var_text call_text unless_text object_turn turn each over_items loop_text with_text bound let_text item_text items_text arms_text else_text source_text evaluated first_of fitting shape quoted cased sized html_quote last_space chars first_chars
from_elsewhere = refl

without_credentials : comes_to (sent Get (at (codes "s")) [] []) ≡ Err (Cause (faults.Page (Unauthorized 4 VIEW)))
unfolding request with_fields with_credentials page scope_answer scope_page call_on call_with change_for change_by change written call_judged fields_kept field_kept texts_of text_of published walked stepped child page_at index found reached containers upwards finds verdict_on judged roles has locals_on local_roles shape_of known_user sought taken_at user_at permission_at fields_of pairs pairs_of raw_pairs split percent_decode named_by whole_number utf8_lossy utf8_valid_len is_utf8 encode cookies_of spelled_by groups_bytes groups_error scan_steps encode_symbols sha1 digest_bytes hash_after compress rounds schedule first_words named_for in_layers in_layer in_base in_object searched in_one by_word title_in title_or_id_in ids_in values_in reach_each property_or_child property_in child_at request_names word_at quotation_at value_at attribute_at next_attribute tag_end attributes_at tag_named tag_at name_at entity_at begins_part plain_len part_at nodes_at arms_at template_at head_at dots_at item_at chain chain_at comparison_at and_at or_at not_at token_at tokens_at expression_at rendered sourced object_rendered rendered_if argument needed var_text call_text unless_text object_turn turn each over_items loop_text with_text bound let_text item_text items_text arms_text else_text source_text evaluated first_of fitting shape quoted cased sized html_quote last_space chars first_chars
without_credentials = refl

with_another_password : comes_to (sent Get (at (codes "s")) [] stranger) ≡ Err (Cause (faults.Page (Unauthorized 4 VIEW)))
unfolding request with_fields with_credentials page scope_answer scope_page call_on call_with change_for change_by change written call_judged fields_kept field_kept texts_of text_of published walked stepped child page_at index found reached containers upwards finds verdict_on judged roles has locals_on local_roles shape_of known_user sought taken_at user_at permission_at fields_of pairs pairs_of raw_pairs split percent_decode named_by whole_number utf8_lossy utf8_valid_len is_utf8 encode cookies_of spelled_by groups_bytes groups_error scan_steps encode_symbols sha1 digest_bytes hash_after compress rounds schedule first_words named_for in_layers in_layer in_base in_object searched in_one by_word title_in title_or_id_in ids_in values_in reach_each property_or_child property_in child_at request_names word_at quotation_at value_at attribute_at next_attribute tag_end attributes_at tag_named tag_at name_at entity_at begins_part plain_len part_at nodes_at arms_at template_at head_at dots_at item_at chain chain_at comparison_at and_at or_at not_at token_at tokens_at expression_at rendered sourced object_rendered rendered_if argument needed var_text call_text unless_text object_turn turn each over_items loop_text with_text bound let_text item_text items_text arms_text else_text source_text evaluated first_of fitting shape quoted cased sized html_quote last_space chars first_chars
with_another_password = refl

-- ---- the order of refusals

fields_first : comes_to (sent Get (at (codes "none")) (codes "n:int=x") bad) ≡ Err (Cause (faults.NotANumber (codes "n")))
unfolding request with_fields with_credentials page scope_answer scope_page call_on call_with change_for change_by change written call_judged fields_kept field_kept texts_of text_of published walked stepped child page_at index found reached containers upwards finds verdict_on judged roles has locals_on local_roles shape_of known_user sought taken_at user_at permission_at fields_of pairs pairs_of raw_pairs split percent_decode named_by whole_number utf8_lossy utf8_valid_len is_utf8 encode cookies_of spelled_by groups_bytes groups_error scan_steps encode_symbols sha1 digest_bytes hash_after compress rounds schedule first_words named_for in_layers in_layer in_base in_object searched in_one by_word title_in title_or_id_in ids_in values_in reach_each property_or_child property_in child_at request_names word_at quotation_at value_at attribute_at next_attribute tag_end attributes_at tag_named tag_at name_at entity_at begins_part plain_len part_at nodes_at arms_at template_at head_at dots_at item_at chain chain_at comparison_at and_at or_at not_at token_at tokens_at expression_at rendered sourced object_rendered rendered_if argument needed var_text call_text unless_text object_turn turn each over_items loop_text with_text bound let_text item_text items_text arms_text else_text source_text evaluated first_of fitting shape quoted cased sized html_quote last_space chars first_chars
fields_first = refl

then_credentials : comes_to (sent Get (at (codes "none")) [] bad) ≡ Err (Cause (faults.BadCredentials))
unfolding request with_fields with_credentials page scope_answer scope_page call_on call_with change_for change_by change written call_judged fields_kept field_kept texts_of text_of published walked stepped child page_at index found reached containers upwards finds verdict_on judged roles has locals_on local_roles shape_of known_user sought taken_at user_at permission_at fields_of pairs pairs_of raw_pairs split percent_decode named_by whole_number utf8_lossy utf8_valid_len is_utf8 encode cookies_of spelled_by groups_bytes groups_error scan_steps encode_symbols sha1 digest_bytes hash_after compress rounds schedule first_words named_for in_layers in_layer in_base in_object searched in_one by_word title_in title_or_id_in ids_in values_in reach_each property_or_child property_in child_at request_names word_at quotation_at value_at attribute_at next_attribute tag_end attributes_at tag_named tag_at name_at entity_at begins_part plain_len part_at nodes_at arms_at template_at head_at dots_at item_at chain chain_at comparison_at and_at or_at not_at token_at tokens_at expression_at rendered sourced object_rendered rendered_if argument needed var_text call_text unless_text object_turn turn each over_items loop_text with_text bound let_text item_text items_text arms_text else_text source_text evaluated first_of fitting shape quoted cased sized html_quote last_space chars first_chars
then_credentials = refl

then_the_path : comes_to (sent Get (at (codes "none")) [] stranger) ≡ Err (Cause (faults.Path (publishing.NotFound (codes "none"))))
unfolding request with_fields with_credentials page scope_answer scope_page call_on call_with change_for change_by change written call_judged fields_kept field_kept texts_of text_of published walked stepped child page_at index found reached containers upwards finds verdict_on judged roles has locals_on local_roles shape_of known_user sought taken_at user_at permission_at fields_of pairs pairs_of raw_pairs split percent_decode named_by whole_number utf8_lossy utf8_valid_len is_utf8 encode cookies_of spelled_by groups_bytes groups_error scan_steps encode_symbols sha1 digest_bytes hash_after compress rounds schedule first_words named_for in_layers in_layer in_base in_object searched in_one by_word title_in title_or_id_in ids_in values_in reach_each property_or_child property_in child_at request_names word_at quotation_at value_at attribute_at next_attribute tag_end attributes_at tag_named tag_at name_at entity_at begins_part plain_len part_at nodes_at arms_at template_at head_at dots_at item_at chain chain_at comparison_at and_at or_at not_at token_at tokens_at expression_at rendered sourced object_rendered rendered_if argument needed var_text call_text unless_text object_turn turn each over_items loop_text with_text bound let_text item_text items_text arms_text else_text source_text evaluated first_of fitting shape quoted cased sized html_quote last_space chars first_chars
then_the_path = refl

-- a call is none by HEAD, and none on a user folder
then_what_is_called_on : comes_to (sent Head (codes "d" ∷ codes "manage_edit" ∷ []) [] stranger) ≡ Err (Cause (faults.Call (NotFound calls.Edit)))
unfolding request with_fields with_credentials page scope_answer scope_page call_on call_with change_for change_by change written call_judged fields_kept field_kept texts_of text_of published walked stepped child page_at index found reached containers upwards finds verdict_on judged roles has locals_on local_roles shape_of known_user sought taken_at user_at permission_at fields_of pairs pairs_of raw_pairs split percent_decode named_by whole_number utf8_lossy utf8_valid_len is_utf8 encode cookies_of spelled_by groups_bytes groups_error scan_steps encode_symbols sha1 digest_bytes hash_after compress rounds schedule first_words named_for in_layers in_layer in_base in_object searched in_one by_word title_in title_or_id_in ids_in values_in reach_each property_or_child property_in child_at request_names word_at quotation_at value_at attribute_at next_attribute tag_end attributes_at tag_named tag_at name_at entity_at begins_part plain_len part_at nodes_at arms_at template_at head_at dots_at item_at chain chain_at comparison_at and_at or_at not_at token_at tokens_at expression_at rendered sourced object_rendered rendered_if argument needed var_text call_text unless_text object_turn turn each over_items loop_text with_text bound let_text item_text items_text arms_text else_text source_text evaluated first_of fitting shape quoted cased sized html_quote last_space chars first_chars
then_what_is_called_on = refl

no_call_there : comes_to (sent Post (codes "acl_users" ∷ codes "manage_edit" ∷ []) [] admin) ≡ Err (Cause (faults.Call (NotFound calls.Edit)))
unfolding request with_fields with_credentials page scope_answer scope_page call_on call_with change_for change_by change written call_judged fields_kept field_kept texts_of text_of published walked stepped child page_at index found reached containers upwards finds verdict_on judged roles has locals_on local_roles shape_of known_user sought taken_at user_at permission_at fields_of pairs pairs_of raw_pairs split percent_decode named_by whole_number utf8_lossy utf8_valid_len is_utf8 encode cookies_of spelled_by groups_bytes groups_error scan_steps encode_symbols sha1 digest_bytes hash_after compress rounds schedule first_words named_for in_layers in_layer in_base in_object searched in_one by_word title_in title_or_id_in ids_in values_in reach_each property_or_child property_in child_at request_names word_at quotation_at value_at attribute_at next_attribute tag_end attributes_at tag_named tag_at name_at entity_at begins_part plain_len part_at nodes_at arms_at template_at head_at dots_at item_at chain chain_at comparison_at and_at or_at not_at token_at tokens_at expression_at rendered sourced object_rendered rendered_if argument needed var_text call_text unless_text object_turn turn each over_items loop_text with_text bound let_text item_text items_text arms_text else_text source_text evaluated first_of fitting shape quoted cased sized html_quote last_space chars first_chars
no_call_there = refl

then_the_user : comes_to (sent Post (codes "d" ∷ codes "manage_edit" ∷ []) [] stranger) ≡ Err (Cause (faults.Denied 3 CHANGE_DTML_DOCUMENTS))
unfolding request with_fields with_credentials page scope_answer scope_page call_on call_with change_for change_by change written call_judged fields_kept field_kept texts_of text_of published walked stepped child page_at index found reached containers upwards finds verdict_on judged roles has locals_on local_roles shape_of known_user sought taken_at user_at permission_at fields_of pairs pairs_of raw_pairs split percent_decode named_by whole_number utf8_lossy utf8_valid_len is_utf8 encode cookies_of spelled_by groups_bytes groups_error scan_steps encode_symbols sha1 digest_bytes hash_after compress rounds schedule first_words named_for in_layers in_layer in_base in_object searched in_one by_word title_in title_or_id_in ids_in values_in reach_each property_or_child property_in child_at request_names word_at quotation_at value_at attribute_at next_attribute tag_end attributes_at tag_named tag_at name_at entity_at begins_part plain_len part_at nodes_at arms_at template_at head_at dots_at item_at chain chain_at comparison_at and_at or_at not_at token_at tokens_at expression_at rendered sourced object_rendered rendered_if argument needed var_text call_text unless_text object_turn turn each over_items loop_text with_text bound let_text item_text items_text arms_text else_text source_text evaluated first_of fitting shape quoted cased sized html_quote last_space chars first_chars
then_the_user = refl

then_the_call : comes_to (sent Post (codes "d" ∷ codes "manage_edit" ∷ []) [] admin) ≡ Err (Cause (faults.Call (Missing Data)))
unfolding request with_fields with_credentials page scope_answer scope_page call_on call_with change_for change_by change written call_judged fields_kept field_kept texts_of text_of published walked stepped child page_at index found reached containers upwards finds verdict_on judged roles has locals_on local_roles shape_of known_user sought taken_at user_at permission_at fields_of pairs pairs_of raw_pairs split percent_decode named_by whole_number utf8_lossy utf8_valid_len is_utf8 encode cookies_of spelled_by groups_bytes groups_error scan_steps encode_symbols sha1 digest_bytes hash_after compress rounds schedule first_words named_for in_layers in_layer in_base in_object searched in_one by_word title_in title_or_id_in ids_in values_in reach_each property_or_child property_in child_at request_names word_at quotation_at value_at attribute_at next_attribute tag_end attributes_at tag_named tag_at name_at entity_at begins_part plain_len part_at nodes_at arms_at template_at head_at dots_at item_at chain chain_at comparison_at and_at or_at not_at token_at tokens_at expression_at rendered sourced object_rendered rendered_if argument needed var_text call_text unless_text object_turn turn each over_items loop_text with_text bound let_text item_text items_text arms_text else_text source_text evaluated first_of fitting shape quoted cased sized html_quote last_space chars first_chars
then_the_call = refl

-- ---- an edit

edit : comes_to (sent Post (codes "d" ∷ codes "manage_edit" ∷ []) (codes "data=x") admin) ≡ Ok (answers.Change done (record { user = codes "admin"; description = codes "/d/manage_edit"; entries = Entry.Write (Name.Old 3) (record_text Second (held 0 (codes "d") [] (parts.Document (codes "x") []))) [] ∷ [] }))
unfolding request with_fields with_credentials page scope_answer scope_page call_on call_with change_for change_by change written call_judged fields_kept field_kept texts_of text_of published walked stepped child page_at index found reached containers upwards finds verdict_on judged roles has locals_on local_roles shape_of known_user sought taken_at user_at permission_at fields_of pairs pairs_of raw_pairs split percent_decode named_by whole_number utf8_lossy utf8_valid_len is_utf8 encode cookies_of spelled_by groups_bytes groups_error scan_steps encode_symbols sha1 digest_bytes hash_after compress rounds schedule first_words named_for in_layers in_layer in_base in_object searched in_one by_word title_in title_or_id_in ids_in values_in reach_each property_or_child property_in child_at request_names word_at quotation_at value_at attribute_at next_attribute tag_end attributes_at tag_named tag_at name_at entity_at begins_part plain_len part_at nodes_at arms_at template_at head_at dots_at item_at chain chain_at comparison_at and_at or_at not_at token_at tokens_at expression_at rendered sourced object_rendered rendered_if argument needed var_text call_text unless_text object_turn turn each over_items loop_text with_text bound let_text item_text items_text arms_text else_text source_text evaluated first_of fitting shape quoted cased sized html_quote last_space chars first_chars
edit = refl

-- ---- the log, and what is undone

the_log : comes_to (sent Get (at (codes "undoable_transactions")) [] admin) ≡ Ok answers.Log
unfolding request with_fields with_credentials page scope_answer scope_page call_on call_with change_for change_by change written call_judged fields_kept field_kept texts_of text_of published walked stepped child page_at index found reached containers upwards finds verdict_on judged roles has locals_on local_roles shape_of known_user sought taken_at user_at permission_at fields_of pairs pairs_of raw_pairs split percent_decode named_by whole_number utf8_lossy utf8_valid_len is_utf8 encode cookies_of spelled_by groups_bytes groups_error scan_steps encode_symbols sha1 digest_bytes hash_after compress rounds schedule first_words named_for in_layers in_layer in_base in_object searched in_one by_word title_in title_or_id_in ids_in values_in reach_each property_or_child property_in child_at request_names word_at quotation_at value_at attribute_at next_attribute tag_end attributes_at tag_named tag_at name_at entity_at begins_part plain_len part_at nodes_at arms_at template_at head_at dots_at item_at chain chain_at comparison_at and_at or_at not_at token_at tokens_at expression_at rendered sourced object_rendered rendered_if argument needed var_text call_text unless_text object_turn turn each over_items loop_text with_text bound let_text item_text items_text arms_text else_text source_text evaluated first_of fitting shape quoted cased sized html_quote last_space chars first_chars
the_log = refl

the_undone : comes_to (sent Post (at (codes "manage_undo_transactions")) (codes "tid=0331620000000001") admin) ≡ Ok (answers.Undo (codes "admin") 230072808112128001)
unfolding request with_fields with_credentials page scope_answer scope_page call_on call_with change_for change_by change written call_judged fields_kept field_kept texts_of text_of published walked stepped child page_at index found reached containers upwards finds verdict_on judged roles has locals_on local_roles shape_of known_user sought taken_at user_at permission_at fields_of pairs pairs_of raw_pairs split percent_decode named_by whole_number utf8_lossy utf8_valid_len is_utf8 encode cookies_of spelled_by groups_bytes groups_error scan_steps encode_symbols sha1 digest_bytes hash_after compress rounds schedule first_words named_for in_layers in_layer in_base in_object searched in_one by_word title_in title_or_id_in ids_in values_in reach_each property_or_child property_in child_at request_names word_at quotation_at value_at attribute_at next_attribute tag_end attributes_at tag_named tag_at name_at entity_at begins_part plain_len part_at nodes_at arms_at template_at head_at dots_at item_at chain chain_at comparison_at and_at or_at not_at token_at tokens_at expression_at rendered sourced object_rendered rendered_if argument needed var_text call_text unless_text object_turn turn each over_items loop_text with_text bound let_text item_text items_text arms_text else_text source_text evaluated first_of fitting shape quoted cased sized html_quote last_space chars first_chars
the_undone = refl

-- by nobody
not_his_log : comes_to (sent Get (at (codes "undoable_transactions")) [] []) ≡ Err (Cause (faults.Denied 0 12))
unfolding request with_fields with_credentials page scope_answer scope_page call_on call_with change_for change_by change written call_judged fields_kept field_kept texts_of text_of published walked stepped child page_at index found reached containers upwards finds verdict_on judged roles has locals_on local_roles shape_of known_user sought taken_at user_at permission_at fields_of pairs pairs_of raw_pairs split percent_decode named_by whole_number utf8_lossy utf8_valid_len is_utf8 encode cookies_of spelled_by groups_bytes groups_error scan_steps encode_symbols sha1 digest_bytes hash_after compress rounds schedule first_words named_for in_layers in_layer in_base in_object searched in_one by_word title_in title_or_id_in ids_in values_in reach_each property_or_child property_in child_at request_names word_at quotation_at value_at attribute_at next_attribute tag_end attributes_at tag_named tag_at name_at entity_at begins_part plain_len part_at nodes_at arms_at template_at head_at dots_at item_at chain chain_at comparison_at and_at or_at not_at token_at tokens_at expression_at rendered sourced object_rendered rendered_if argument needed var_text call_text unless_text object_turn turn each over_items loop_text with_text bound let_text item_text items_text arms_text else_text source_text evaluated first_of fitting shape quoted cased sized html_quote last_space chars first_chars
not_his_log = refl

-- a form without an id
no_id : comes_to (sent Post (at (codes "manage_undo_transactions")) [] admin) ≡ Err (Cause (faults.Call (Missing Tid)))
unfolding request with_fields with_credentials page scope_answer scope_page call_on call_with change_for change_by change written call_judged fields_kept field_kept texts_of text_of published walked stepped child page_at index found reached containers upwards finds verdict_on judged roles has locals_on local_roles shape_of known_user sought taken_at user_at permission_at fields_of pairs pairs_of raw_pairs split percent_decode named_by whole_number utf8_lossy utf8_valid_len is_utf8 encode cookies_of spelled_by groups_bytes groups_error scan_steps encode_symbols sha1 digest_bytes hash_after compress rounds schedule first_words named_for in_layers in_layer in_base in_object searched in_one by_word title_in title_or_id_in ids_in values_in reach_each property_or_child property_in child_at request_names word_at quotation_at value_at attribute_at next_attribute tag_end attributes_at tag_named tag_at name_at entity_at begins_part plain_len part_at nodes_at arms_at template_at head_at dots_at item_at chain chain_at comparison_at and_at or_at not_at token_at tokens_at expression_at rendered sourced object_rendered rendered_if argument needed var_text call_text unless_text object_turn turn each over_items loop_text with_text bound let_text item_text items_text arms_text else_text source_text evaluated first_of fitting shape quoted cased sized html_quote last_space chars first_chars
no_id = refl
