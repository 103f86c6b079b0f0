-- The file of a new site: a root folder, a user folder with one manager, and a start page.
--
-- Zope Book, "Basic Zope Objects" and "Users and Security". The objects are written by one transaction, whose description
-- is `init`.
use Rattle.std.specs.Prelude.{ℕ, List, [], ◌∷◌, ◌++◌, codes}
use Rattle.zbase.specs.History.{History, empty_history}
use Rattle.fs_record.specs.File.{Front, front_of, longer, magic}
use Rattle.fs_record.specs.Spelling.{block_spelling}
use Rattle.fs_record.specs.Written.{said_by, transaction}
use Rattle.fs_record.specs.declared.body.Body.TheVariants.{Full}
use Rattle.fs_record.specs.declared.body.Item.{Item}
use Rattle.fs_record.specs.declared.body.TxnTexts.{TxnTexts}
use Rattle.zcodec.specs.Record.{record_text}
use Rattle.zobject.specs.Changes.{new_object}
use Rattle.zobject.specs.declared.object.Child.{Child}
use Rattle.zobject.specs.declared.object.Object.{Object}
use Rattle.zobject.specs.declared.object.Part2.{Part2}
use Rattle.zobject.specs.declared.object.Part2.TheVariants.{Folder, Method, UserFolder}
use Rattle.zobject.specs.declared.object.User.{User}
use Rattle.zobject.specs.declared.version.Version.TheVariants.{Second}
use Rattle.user_folder.specs.Users.{kept}

-- ---- the objects

-- the root, or one of those in it
abbrev pub made : List ℕ → List ℕ → Part2 → Object
made id title part = new_object id 0 title part

abbrev pub child : List ℕ → ℕ → Child
child name oid = record { name = name; oid = oid }

abbrev pub root : Object
root = made [] (codes "Zope") (Folder (child (codes "acl_users") 1 ∷ child (codes "index_html") 2 ∷ []))

abbrev pub manager : List ℕ → List ℕ → User
manager name password = record { name = name; password = kept password; roles = codes "Manager" ∷ [] }

abbrev pub user_folder : List ℕ → List ℕ → Object
user_folder name password = made (codes "acl_users") [] (UserFolder (manager name password ∷ []))

abbrev pub start_page : Object
start_page = made (codes "index_html") [] (Method (codes "<html><body><h1><dtml-var title html_quote></h1></body></html>") [])

-- ---- the file

-- what is written of an object that there wasn't before
abbrev pub first_item : ℕ → Object → Item
first_item oid o = record { oid = oid; prev = 0; body = Full (record_text Second o) }

abbrev pub items : List ℕ → List ℕ → List Item
items name password = first_item 0 root ∷ first_item 1 (user_folder name password) ∷ first_item 2 start_page ∷ []

abbrev pub texts : TxnTexts
texts = record { user = []; description = codes "init"; extension = [] }

-- `FS21`, and one transaction of that status
unfoldable pub file_with : ℕ → ℕ → List ℕ → List ℕ → List ℕ
file_with status stamp name password = magic ++ block_spelling (transaction 4 stamp status texts (items name password))

-- the status is that of a transaction that counts
abbrev pub site_file : ℕ → List ℕ → List ℕ → List ℕ
site_file = file_with 32

-- what the file says
abbrev pub site_history : ℕ → List ℕ → List ℕ → History
site_history stamp name password = longer empty_history 32 (said_by [] stamp texts (items name password))
