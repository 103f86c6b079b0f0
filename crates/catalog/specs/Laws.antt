-- What is true of every catalog: its calls keep agreement, its searches find the hits, and its documents have one text
-- each.
use Rattle.std.specs.Prelude.{ℕ, ◌≡◌, ◌<◌, ◌↔◌, List, ◌∷◌, length, Some}
use Rattle.std.specs.List.{AllByRecursion}
use Rattle.catalog.specs.declared.document.Contents.{Contents}
use Rattle.catalog.specs.declared.document.Entry.{Entry}
use Rattle.catalog.specs.declared.document.Index.{Index}
use Rattle.catalog.specs.declared.document.IndexKind.{IndexKind}
use Rattle.catalog.specs.declared.document.Posting.{Posting}
use Rattle.catalog.specs.declared.document.Sought.{Sought}
use Rattle.catalog.specs.Agreeing.{Agrees, IsInverse, catalogued, inverse_of, nothing, uncatalogued, with_index}
use Rattle.catalog.specs.Forms.{AreEntries, ArePostings, IsEntry}
use Rattle.catalog.specs.Hits.{found_by_all, hits}
use Rattle.catalog.specs.Reading.{entries_read, index_read}
use Rattle.catalog.specs.Spelling.{entries_text, index_text}

-- Each call keeps agreement, and a new catalog has it.
pub record CallsKeepAgreement : Type 0 where
  pub new : Agrees nothing
  pub index_added : (kind : IndexKind) (c : Contents) → Agrees c → Agrees (with_index kind c)
  pub entry_made : (e : Entry) (c : Contents) → IsEntry (length c.indexes) e → Agrees c → Agrees (catalogued e c)
  pub entry_removed : (o : ℕ) (c : Contents) → Agrees c → Agrees (uncatalogued o c)

-- Where the documents agree, the indexes that a search names find what a filter of the entries finds.
abbrev pub SearchesFindHits : Type 0
SearchesFindHits = (c : Contents) (s : Sought) (further : List Sought) → Agrees c → s.index < length c.indexes → AllByRecursion (λ (t : Sought). t.index < length c.indexes) further →
    found_by_all c.indexes s further ≡ hits (s ∷ further) c.entries

-- An index is the inverse of a column exactly where its keys are those of the column's inverse.
abbrev pub InversesAreOne : Type 0
InversesAreOne = (n i : ℕ) (entries : List Entry) (postings : List Posting) → AreEntries n entries → ArePostings postings → IsInverse i entries postings ↔ (postings ≡ inverse_of i entries)

-- Entries of the form are read from their text, and what is read is of the form and has that text: so each text has one
-- reading, and each reading one text. The same of indexes.
pub record TextsAreRead : Type 0 where
  pub entries_spelled : (n : ℕ) (entries : List Entry) → AreEntries n entries → entries_read n (entries_text entries) ≡ Some entries
  pub entries_told : (n : ℕ) (text : List ℕ) (entries : List Entry) → entries_read n text ≡ Some entries → AreEntries n entries × (entries_text entries ≡ text)
  pub index_spelled : (x : Index) → ArePostings x.postings → index_read (index_text x) ≡ Some x
  pub index_told : (text : List ℕ) (x : Index) → index_read text ≡ Some x → ArePostings x.postings × (index_text x ≡ text)
