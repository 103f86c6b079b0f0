-- Worked rows of records in both versions, by hand from the table of the formats, and of the first bytes that are no record.
use Rattle.std.proofs.Common.{◌≡◌, true, [], ◌∷◌, map, Err, refl, codes}
use Rattle.std.specs.Prelude.{negsuc}
use Rattle.zbase.specs.Numbers.{be16, be32, be64}
use Rattle.zobject.specs.declared.object.Object.{Object}
use Rattle.zobject.specs.declared.object.PropValue.TheVariants.{Line, Int, Lines}
use Rattle.zobject.specs.declared.object.Part2.TheVariants.{Folder, Method, Document, UserFolder}
use Rattle.zobject.specs.declared.version.Version.TheVariants.{First, Second}
use Rattle.zcodec.specs.Record.{list_of, record_text, source_text, text}
use Rattle.zcodec.specs.Reading.{byte_at, kind_at, magic_at, head_at, object_at, read, start_at, whole_at}

-- the root folder without an id, which lists one child
abbrev folder : Object
folder = record { id = []; parent = 0; title = []; settings = []; locals = []; properties = []; part = Folder (record { name = codes "a"; oid = 1 } ∷ []) }

folder_is_spelled : record_text First folder ≡
    90 ∷ 49 ∷ 70 ∷ 0 ∷ 0 ∷ 0 ∷ 0 ∷ 0 ∷ 0 ∷ 0 ∷ 0 ∷ 0 ∷ 0 ∷ 0 ∷ 0 ∷ 0 ∷ 0 ∷ 0 ∷ 0 ∷ 0 ∷ 0
    ∷ 0 ∷ 1 ∷ 0 ∷ 1 ∷ 97 ∷ 0 ∷ 0 ∷ 0 ∷ 0 ∷ 0 ∷ 0 ∷ 0 ∷ 1 ∷ []
unfolding record_text list_of text be64 be16
folder_is_spelled = refl

-- a page in it, with the source `hello`
abbrev page : Object
page = record { id = codes "a"; parent = 0; title = []; settings = []; locals = []; properties = []; part = Document (codes "hello") [] }

page_is_spelled : record_text First page ≡
    90 ∷ 49 ∷ 68 ∷ 0 ∷ 1 ∷ 97 ∷ 0 ∷ 0 ∷ 0 ∷ 0 ∷ 0 ∷ 0 ∷ 0 ∷ 0 ∷ 0 ∷ 0 ∷ 0 ∷ 0 ∷ 0 ∷ 0 ∷ 0 ∷ 0
    ∷ 0 ∷ 0 ∷ 0 ∷ 5 ∷ 104 ∷ 101 ∷ 108 ∷ 108 ∷ 111 ∷ []
unfolding record_text list_of source_text text be64 be32 be16
page_is_spelled = refl

-- in the second version two bytes more, the count of its proxy roles
page_is_spelled_again : record_text Second page ≡
    90 ∷ 50 ∷ 68 ∷ 0 ∷ 1 ∷ 97 ∷ 0 ∷ 0 ∷ 0 ∷ 0 ∷ 0 ∷ 0 ∷ 0 ∷ 0 ∷ 0 ∷ 0 ∷ 0 ∷ 0 ∷ 0 ∷ 0 ∷ 0 ∷ 0
    ∷ 0 ∷ 0 ∷ 0 ∷ 5 ∷ 104 ∷ 101 ∷ 108 ∷ 108 ∷ 111 ∷ 0 ∷ 0 ∷ []
unfolding record_text list_of source_text text be64 be32 be16
page_is_spelled_again = refl

-- a method with a title, a setting that acquires, local roles, a property of each type, and a proxy role
abbrev method : Object
method = record {
  id = codes "m";
  parent = 258;
  title = codes "T";
  settings = record { permission = 13; acquire = true; roles = codes "R" ∷ [] } ∷ [];
  locals = record { user = codes "u"; roles = codes "R" ∷ codes "S" ∷ [] } ∷ [];
  properties = record { name = codes "a"; value = Int (negsuc 1) } ∷ record { name = codes "b"; value = Lines (codes "x" ∷ [] ∷ []) } ∷ record { name = codes "c"; value = Line (codes "y") } ∷ [];
  part = Method (codes "s") (codes "P" ∷ []);
}

method_is_spelled : record_text Second method ≡
    90 ∷ 50 ∷ 77 ∷ 0 ∷ 1 ∷ 109 ∷ 0 ∷ 0 ∷ 0 ∷ 0 ∷ 0 ∷ 0 ∷ 1 ∷ 2 ∷ 0 ∷ 1 ∷ 84
    ∷ 0 ∷ 1 ∷ 13 ∷ 1 ∷ 0 ∷ 1 ∷ 0 ∷ 1 ∷ 82
    ∷ 0 ∷ 1 ∷ 0 ∷ 1 ∷ 117 ∷ 0 ∷ 2 ∷ 0 ∷ 1 ∷ 82 ∷ 0 ∷ 1 ∷ 83
    ∷ 0 ∷ 3 ∷ 0 ∷ 1 ∷ 97 ∷ 105 ∷ 255 ∷ 255 ∷ 255 ∷ 255 ∷ 255 ∷ 255 ∷ 255 ∷ 254
    ∷ 0 ∷ 1 ∷ 98 ∷ 108 ∷ 0 ∷ 2 ∷ 0 ∷ 1 ∷ 120 ∷ 0 ∷ 0
    ∷ 0 ∷ 1 ∷ 99 ∷ 115 ∷ 0 ∷ 1 ∷ 121
    ∷ 0 ∷ 0 ∷ 0 ∷ 1 ∷ 115 ∷ 0 ∷ 1 ∷ 0 ∷ 1 ∷ 80 ∷ []
unfolding record_text list_of source_text text be64 be32 be16
method_is_spelled = refl

-- a user folder with one user without a password
users_are_spelled : record_text Second (record { id = codes "acl_users"; parent = 0; title = []; settings = []; locals = []; properties = []; part = UserFolder (record { name = codes "jo"; password = []; roles = codes "R" ∷ [] } ∷ []) }) ≡
    90 ∷ 50 ∷ 85 ∷ 0 ∷ 9 ∷ 97 ∷ 99 ∷ 108 ∷ 95 ∷ 117 ∷ 115 ∷ 101 ∷ 114 ∷ 115 ∷ 0 ∷ 0 ∷ 0 ∷ 0 ∷ 0 ∷ 0 ∷ 0 ∷ 0 ∷ 0 ∷ 0
    ∷ 0 ∷ 0 ∷ 0 ∷ 0 ∷ 0 ∷ 0 ∷ 0 ∷ 1 ∷ 0 ∷ 2 ∷ 106 ∷ 111 ∷ 0 ∷ 0 ∷ 0 ∷ 1 ∷ 0 ∷ 1 ∷ 82 ∷ []
unfolding record_text list_of text be64 be16
users_are_spelled = refl

-- the first bytes: no magic at 0, no kind at 2
no_records : map read ([] ∷ (90 ∷ []) ∷ (90 ∷ 51 ∷ 70 ∷ []) ∷ (90 ∷ 49 ∷ []) ∷ (90 ∷ 50 ∷ 88 ∷ []) ∷ []) ≡ Err 0 ∷ Err 0 ∷ Err 0 ∷ Err 2 ∷ Err 2 ∷ []
unfolding read whole_at object_at head_at start_at magic_at kind_at byte_at
no_records = refl
