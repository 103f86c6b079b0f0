-- Reading the texts of a catalog's documents: a text is taken apart at its separators, whatever stands between them, and
-- what is found is told where it is of the form and is spelled by that text.
use Rattle.std.specs.Prelude.{ℕ, ◌+◌, ◌*◌, ◌-◌, ◌%◌, ◌^◌, ◌==◌, ◌&&◌, nat_lt, Bool, true, false, List, [], ◌∷◌, length, map, take, codes, Option, Some, None, if◌then◌else◌}
use Rattle.std.specs.List.{list_all, slice_split}
use Rattle.std.specs.Str.{bytes_eq, is_utf8}
use Rattle.zobject.specs.Rules.{comes_before}
use Rattle.catalog.specs.declared.document.Entry.{Entry}
use Rattle.catalog.specs.declared.document.Index.{Index}
use Rattle.catalog.specs.declared.document.IndexKind.{IndexKind}
use Rattle.catalog.specs.declared.document.IndexKind.TheVariants as kind
use Rattle.catalog.specs.declared.document.Posting.{Posting}
use Rattle.catalog.specs.Postings.{has_oids, key_before, oid_before}
use Rattle.catalog.specs.Spelling.{entries_text, index_text}

-- ---- numbers and bytes of digits

-- below 16, of any byte
abbrev pub digit_of : ℕ → ℕ
digit_of b = (if nat_lt b 58 then b - 48 else b - 87) % 16

-- of 64 bits: the last sixteen digits count
abbrev pub number_from : ℕ → List ℕ → ℕ
number_from n [] = n
number_from n (d ∷ ds) = number_from (n % 2 ^ 60 * 16 + digit_of d) ds

abbrev pub number_of : List ℕ → ℕ
number_of digits = number_from 0 digits

abbrev pub bytes_of : List ℕ → List ℕ
bytes_of [] = []
bytes_of (d ∷ []) = []
bytes_of (d ∷ e ∷ rest) = (digit_of d * 16 + digit_of e) ∷ bytes_of rest

-- ---- texts and lists of them

-- bytes that are no text are none
abbrev pub text_of : List ℕ → List ℕ
text_of bytes = if is_utf8 bytes then bytes else []

abbrev pub value_in : List ℕ → List ℕ
value_in text = if bytes_eq text (codes ".") then [] else text_of (bytes_of text)

abbrev pub parts : ℕ → List ℕ → List (List ℕ)
parts separator text = slice_split (λ b. b == separator) text

abbrev pub column_in : List ℕ → List (List ℕ)
column_in text = if bytes_eq text (codes "-") then [] else map value_in (parts 44 text)

-- what stands before each LF, where the text ends with one
abbrev pub lines_in : List ℕ → List (List ℕ)
lines_in text = if length text == 0 then [] else parts 10 (take (length text - 1) text)

-- ---- entries and indexes

abbrev pub entry_from : List (List ℕ) → Entry
entry_from [] = record { oid = 0; values = [] }
entry_from (oid ∷ columns) = record { oid = number_of oid; values = map column_in columns }

abbrev pub entries_in : List ℕ → List Entry
entries_in text = map (λ l. entry_from (parts 32 l)) (lines_in text)

abbrev pub posting_from : List (List ℕ) → Posting
posting_from [] = record { key = []; oids = [] }
posting_from (key ∷ []) = record { key = value_in key; oids = [] }
posting_from (key ∷ oids ∷ rest) = record { key = value_in key; oids = map number_of (parts 44 oids) }

abbrev pub kind_in : List ℕ → IndexKind
kind_in text = if bytes_eq text (codes "field") then kind.Field else kind.Keyword

abbrev pub index_from : List (List ℕ) → Index
index_from [] = record { kind = kind.Keyword; postings = [] }
index_from (l ∷ ls) = record { kind = kind_in l; postings = map (λ l. posting_from (parts 32 l)) ls }

abbrev pub index_in : List ℕ → Index
index_in text = index_from (lines_in text)

-- ---- of the form; what was taken apart has ids of 64 bits and texts

abbrev pub rises : {X : Type 0} → (X → X → Bool) → List X → Bool
rises before [] = true
rises before (x ∷ []) = true
rises before (x ∷ y ∷ ys) = before x y && rises before (y ∷ ys)

abbrev pub is_entry : ℕ → Entry → Bool
is_entry n e = (length e.values == n) && list_all (rises comes_before) e.values

abbrev pub are_entries : ℕ → List Entry → Bool
are_entries n entries = list_all (is_entry n) entries && rises oid_before entries

abbrev pub is_posting : Posting → Bool
is_posting p = has_oids p.oids && rises nat_lt p.oids

abbrev pub are_postings : List Posting → Bool
are_postings postings = list_all is_posting postings && rises key_before postings

-- ---- read

abbrev pub where_so : {X : Type 0} → Bool → X → Option X
where_so true x = Some x
where_so false x = None

-- the entries with n columns that a text spells, if it spells any
unfoldable pub entries_read : ℕ → List ℕ → Option (List Entry)
entries_read n text = where_so (are_entries n (entries_in text) && bytes_eq (entries_text (entries_in text)) text) (entries_in text)

-- the index that a text spells, if it spells one
unfoldable pub index_read : List ℕ → Option Index
index_read text = where_so (are_postings (index_in text).postings && bytes_eq (index_text (index_in text)) text) (index_in text)
