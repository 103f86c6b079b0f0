-- Which entries and which keys of an index a document may have.
use Rattle.std.specs.Prelude.{ℕ, ◌≡◌, ◌<◌, ◌^◌, nat_lt, true, List, length}
use Rattle.std.specs.List.{AllByRecursion}
use Rattle.std.specs.Str.{is_utf8}
use Rattle.zobject.specs.Rules.{Rise, comes_before}
use Rattle.catalog.specs.declared.document.Entry.{Entry}
use Rattle.catalog.specs.declared.document.Posting.{Posting}
use Rattle.catalog.specs.Postings.{has_oids, key_before, oid_before}

-- of 64 bits
abbrev pub IsOid : ℕ → Type 0
IsOid o = o < 2 ^ 64

abbrev pub IsText : List ℕ → Type 0
IsText text = is_utf8 text ≡ true

-- by rising bytes, each once
pub record AreValues (values : List (List ℕ)) : Type 0 where
  pub each : AllByRecursion IsText values
  pub rise : Rise comes_before values

-- with n columns
pub record IsEntry (n : ℕ) (e : Entry) : Type 0 where
  pub oid : IsOid e.oid
  pub wide : length e.values ≡ n
  pub values : AllByRecursion AreValues e.values

-- by rising ids
pub record AreEntries (n : ℕ) (entries : List Entry) : Type 0 where
  pub each : AllByRecursion (IsEntry n) entries
  pub rise : Rise oid_before entries

-- a key of at least one object
pub record IsPosting (p : Posting) : Type 0 where
  pub key : IsText p.key
  pub some : has_oids p.oids ≡ true
  pub each : AllByRecursion IsOid p.oids
  pub rise : Rise nat_lt p.oids

-- by rising keys
pub record ArePostings (postings : List Posting) : Type 0 where
  pub each : AllByRecursion IsPosting postings
  pub rise : Rise key_before postings
