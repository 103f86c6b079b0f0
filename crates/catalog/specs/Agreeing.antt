-- When the documents of a catalog agree: each index is the inverse of its column of the entries.
use Rattle.std.specs.Prelude.{ℕ, suc, ◌≡◌, List, [], ◌∷◌, ◌++◌, length}
use Rattle.std.specs.List.{AllByRecursion}
use Rattle.catalog.specs.declared.document.Contents.{Contents}
use Rattle.catalog.specs.declared.document.Entry.{Entry}
use Rattle.catalog.specs.declared.document.Index.{Index}
use Rattle.catalog.specs.declared.document.IndexKind.{IndexKind}
use Rattle.catalog.specs.declared.document.Posting.{Posting}
use Rattle.catalog.specs.Forms.{AreEntries, ArePostings}
use Rattle.catalog.specs.Postings.{is_posted, is_valued, posted_all, reposted, unposted, values_for, widened, with_entry, without_entry}

-- An object stands under a key exactly where the key is among its values.
abbrev pub IsInverse : ℕ → List Entry → List Posting → Type 0
IsInverse i entries postings = (key : List ℕ) (o : ℕ) → is_posted key o postings ≡ is_valued i key o entries

-- each of the indexes from the i-th column on
abbrev pub AreInverses : ℕ → List Entry → List Index → Type 0
AreInverses i entries [] = Unit {0}
AreInverses i entries (x ∷ xs) = IsInverse i entries x.postings × AreInverses (suc i) entries xs

abbrev pub AreIndexes : List Index → Type 0
AreIndexes indexes = AllByRecursion (λ (x : Index). ArePostings x.postings) indexes

-- The documents are of their form, with one column per index, and each index is the inverse of its column.
pub record Agrees (c : Contents) : Type 0 where
  pub entries : AreEntries (length c.indexes) c.entries
  pub indexes : AreIndexes c.indexes
  pub inverses : AreInverses 0 c.entries c.indexes

-- ---- whether an index is the inverse

-- the inverse of a column
abbrev pub inverse_of : ℕ → List Entry → List Posting
inverse_of i [] = []
inverse_of i (e ∷ es) = posted_all e.oid (values_for i e) (inverse_of i es)

-- ---- the calls

abbrev pub nothing : Contents
nothing = record { entries = []; indexes = [] }

abbrev pub with_index : IndexKind → Contents → Contents
with_index kind c = record { entries = widened c.entries; indexes = c.indexes ++ record { kind = kind; postings = [] } ∷ [] }

-- an object has its values for the i-th index and those behind
abbrev pub reindexed : ℕ → Entry → List Index → List Index
reindexed i e [] = []
reindexed i e (x ∷ xs) = record x { postings = reposted e.oid (values_for i e) x.postings } ∷ reindexed (suc i) e xs

abbrev pub catalogued : Entry → Contents → Contents
catalogued e c = record { entries = with_entry e c.entries; indexes = reindexed 0 e c.indexes }

abbrev pub unindexed : ℕ → List Index → List Index
unindexed o [] = []
unindexed o (x ∷ xs) = record x { postings = unposted o x.postings } ∷ unindexed o xs

abbrev pub uncatalogued : ℕ → Contents → Contents
uncatalogued o c = record { entries = without_entry o c.entries; indexes = unindexed o c.indexes }
