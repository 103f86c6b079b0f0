-- Worked rows: two documents with a subject, as lines `x` and `y` and as `y`, in a keyword index.
use lib.Utf8.{encode}
use Rattle.std.proofs.Common.{◌≡◌, ℕ, List, [], ◌∷◌, ◌++◌, Some, None, refl, codes, map}
use Rattle.std.specs.Str.{is_utf8, chars}
use Rattle.zbase.specs.Hex.{hex16_text, hex_digits}
use Rattle.catalog.specs.declared.document.Contents.{Contents}
use Rattle.catalog.specs.declared.document.Entry.{Entry}
use Rattle.catalog.specs.declared.document.Sought.{Sought}
use Rattle.catalog.specs.declared.document.Index.{Index}
use Rattle.catalog.specs.declared.document.IndexKind.TheVariants.{Keyword}
use Rattle.catalog.specs.Agreeing.{catalogued, inverse_of, nothing, uncatalogued, with_index}
use Rattle.catalog.specs.Hits.{found_by_all, hits}
use Rattle.catalog.specs.Reading.{entries_read, index_read}
use Rattle.catalog.specs.Spelling.{entries_text, index_text}

abbrev x : List ℕ
x = codes "x"

abbrev y : List ℕ
y = codes "y"

abbrev a : List (List ℕ) → Entry
a values = record { oid = 1; values = values ∷ [] }

abbrev b : Entry
b = record { oid = 2; values = (y ∷ []) ∷ [] }

abbrev both : Contents
both = catalogued b (catalogued (a (x ∷ y ∷ [])) (with_index Keyword nothing))

abbrev lines : List ℕ
lines = codes "0000000000000001 78,79" ++ 10 ∷ codes "0000000000000002 79" ++ 10 ∷ []

abbrev subjects : List ℕ
subjects = codes "keyword" ++ 10 ∷ codes "78 0000000000000001" ++ 10 ∷ codes "79 0000000000000001,0000000000000002" ++ 10 ∷ []

abbrev texts : List Index → List (List ℕ)
texts indexes = map index_text indexes

spelled : entries_text both.entries ≡ lines
unfolding entries_text hex16_text hex_digits
spelled = refl

indexed : texts both.indexes ≡ subjects ∷ []
unfolding index_text hex16_text hex_digits
indexed = refl

read : entries_read 1 lines ≡ Some both.entries
unfolding entries_read entries_text hex16_text hex_digits is_utf8 chars encode
read = refl

-- not with another number of columns, and not without an LF at the end
not_read : entries_read 2 lines ≡ None
unfolding entries_read entries_text hex16_text hex_digits is_utf8 chars encode
not_read = refl

not_ended : entries_read 1 (codes "0000000000000001 78") ≡ None
unfolding entries_read entries_text hex16_text hex_digits is_utf8 chars encode
not_ended = refl

index_is_read : map index_read (subjects ∷ codes "words" ∷ []) ≡ Some (record { kind = Keyword; postings = inverse_of 0 both.entries }) ∷ None ∷ []
unfolding index_read index_text hex16_text hex_digits is_utf8 chars encode
index_is_read = refl

-- ---- searches

abbrev for : List (List ℕ) → Sought
for given = record { index = 0; given = given }

found : map (λ given. found_by_all both.indexes (for given) []) ((y ∷ []) ∷ (x ∷ []) ∷ (codes "z" ∷ []) ∷ (x ∷ y ∷ []) ∷ []) ≡ (1 ∷ 2 ∷ []) ∷ (1 ∷ []) ∷ [] ∷ (1 ∷ 2 ∷ []) ∷ []
found = refl

-- the first document's subject is `z` once it is catalogued again
again : map (λ given. hits (for given ∷ []) (catalogued (a (codes "z" ∷ [])) both).entries) ((y ∷ []) ∷ (codes "z" ∷ []) ∷ []) ≡ (2 ∷ []) ∷ (1 ∷ []) ∷ []
again = refl

removed : texts (uncatalogued 1 both).indexes ≡ (codes "keyword" ++ 10 ∷ codes "79 0000000000000002" ++ 10 ∷ []) ∷ []
unfolding index_text hex16_text hex_digits
removed = refl
