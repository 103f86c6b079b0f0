-- Whether an index is the inverse of its column, told by a look through each of the two.
use Rattle.std.specs.Prelude.{ℕ, ◌<◌, Bool, ◌&&◌, List, length}
use Rattle.std.specs.List.{list_all}
use Rattle.catalog.specs.declared.document.Contents.{Contents}
use Rattle.catalog.specs.declared.document.Entry.{Entry}
use Rattle.catalog.specs.declared.document.Posting.{Posting}
use Rattle.catalog.specs.Agreeing.{IsInverse}
use Rattle.catalog.specs.Hits.{postings_of}
use Rattle.catalog.specs.Postings.{is_posted, is_valued, values_for}

-- each object that stands under the key has it among its values
abbrev pub is_posting_valued : ℕ → List Entry → Posting → Bool
is_posting_valued i entries p = list_all (λ o. is_valued i p.key o entries) p.oids

-- the object stands under each of its values
abbrev pub is_entry_posted : ℕ → List Posting → Entry → Bool
is_entry_posted i postings e = list_all (λ key. is_posted key e.oid postings) (values_for i e)

abbrev pub is_inverse : ℕ → List Entry → List Posting → Bool
is_inverse i entries postings = list_all (is_posting_valued i entries) postings && list_all (is_entry_posted i postings) entries

-- The index there isn't the inverse of its column, and each one before it is.
pub record IsFirstDiffering (at : ℕ) (c : Contents) : Type 0 where
  pub few : at < length c.indexes
  pub differs : IsInverse at c.entries (postings_of at c.indexes) → ⊥
  pub before : (i : ℕ) → i < at → IsInverse i c.entries (postings_of i c.indexes)
