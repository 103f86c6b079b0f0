-- The texts of a catalog's documents.
--
-- The entries have one line each, by rising ids: the id, and for each index a space and the values, or `-`. An index has a
-- line with its kind, and one line for each key, by rising bytes: the key, a space, and its ids. Lists are joined by
-- commas, an id has 16 hexadecimal digits and a text two for each byte, the empty text is a dot, and every line ends with
-- LF.
use Rattle.std.specs.Prelude.{ℕ, List, [], ◌∷◌, ◌++◌, map, flat_map, codes}
use Rattle.zbase.specs.Hex.{hex16_text, hex_bytes}
use Rattle.catalog.specs.declared.document.Entry.{Entry}
use Rattle.catalog.specs.declared.document.Index.{Index}
use Rattle.catalog.specs.declared.document.IndexKind.{IndexKind}
use Rattle.catalog.specs.declared.document.IndexKind.TheVariants as kind
use Rattle.catalog.specs.declared.document.Posting.{Posting}

abbrev pub value_text : List ℕ → List ℕ
value_text [] = codes "."
value_text (b ∷ bs) = hex_bytes (b ∷ bs)

-- texts, each behind a byte
abbrev pub each_behind : ℕ → List (List ℕ) → List ℕ
each_behind byte [] = []
each_behind byte (text ∷ texts) = byte ∷ text ++ each_behind byte texts

-- texts with a byte between each two
abbrev pub joined_by : ℕ → List (List ℕ) → List ℕ
joined_by byte [] = []
joined_by byte (text ∷ texts) = text ++ each_behind byte texts

-- the values of an object for an index
abbrev pub column_text : List (List ℕ) → List ℕ
column_text [] = codes "-"
column_text (v ∷ vs) = joined_by 44 (map value_text (v ∷ vs))

abbrev pub entry_text : Entry → List ℕ
entry_text e = joined_by 32 (hex16_text e.oid ∷ map column_text e.values) ++ 10 ∷ []

unfoldable pub entries_text : List Entry → List ℕ
entries_text entries = flat_map entry_text entries

abbrev pub posting_text : Posting → List ℕ
posting_text p = joined_by 32 (value_text p.key ∷ joined_by 44 (map hex16_text p.oids) ∷ []) ++ 10 ∷ []

abbrev pub kind_text : IndexKind → List ℕ
kind_text kind.Field = codes "field"
kind_text kind.Keyword = codes "keyword"

unfoldable pub index_text : Index → List ℕ
index_text x = kind_text x.kind ++ 10 ∷ flat_map posting_text x.postings
