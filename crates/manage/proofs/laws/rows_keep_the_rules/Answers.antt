use Rattle.manage.proofs.RightRows.{add_document_right, add_folder_right, add_method_right, add_property_right, add_user_folder_right, add_user_right, delete_local_roles_right, delete_objects_right, delete_properties_right, edit_document_right, edit_folder_right, edit_method_right, every_row, rename_object_right, set_local_roles_right, set_permission_right, set_proxy_roles_right}
use Rattle.manage.proofs.laws.rows_keep_the_rules.Goals as goal

pub returns : goal.returns
returns c =
    let like = c.texts_keep_their_rules.ensures in
    let more = c.children_may_change.ensures.more in
    let new = c.new_objects_keep_the_rules.ensures in
    let titles = c.names_may_change.ensures.title in
    let methods = c.sources_may_change.ensures.method in
    let documents = c.sources_may_change.ensures.document in
    let any = c.roles_may_be_sorted.ensures.any in
    every_row (add_folder_right like more new) (add_method_right like more new) (add_document_right like more new) (add_user_folder_right like more new)
    (edit_method_right like titles methods documents) (edit_document_right like titles methods documents) (edit_folder_right like titles methods documents)
    (delete_objects_right c.children_may_change.ensures.fewer) (rename_object_right like c.children_may_change.ensures.renamed c.names_may_change.ensures.id)
    (set_permission_right c.settings_may_change.ensures.put c.settings_may_change.ensures.fewer like any)
    (set_local_roles_right like c.roles_may_be_sorted.ensures.some c.local_roles_may_change.ensures.put) (delete_local_roles_right c.local_roles_may_change.ensures.fewer)
    (add_property_right like c.properties_may_change.ensures.put) (delete_properties_right c.properties_may_change.ensures.fewer)
    (set_proxy_roles_right like any c.proxy_roles_may_change.ensures.method c.proxy_roles_may_change.ensures.document)
    (add_user_right like any c.kept_passwords_are_lawful.ensures c.users_may_be_added.ensures)
