-- What a pass over a file finds that is to be packed: where each object's last record up to the pack stands among the
-- records, and what later transactions keep.
use Rattle.std.specs.Prelude.{◌≡◌, ℕ, ◌+◌, ◌∷◌, ◌++◌, List, [], filter, length, nat_le, nat_lt, Option, None, true}
use Rattle.zbase.specs.History.{Value}
use Rattle.zbase.specs.Values.{last_after}
use Rattle.fs_index.specs.Places.{place_of}
use Rattle.fs_record.specs.File.{AreRight, bytes_of, front_of, rows}
use Rattle.fs_record.specs.Opening.{is_end}
use Rattle.fs_record.specs.Spelling.{Block}
use Rattle.fs_scan.specs.Keeping.{starts}
use Rattle.packing.specs.Packed.{records_in}
use Rattle.packing.specs.Reachable.{Linking, links_in, spells_none}
use Rattle.fs_pack.specs.Entries.{Entry, entries, said}
use Rattle.fs_pack.specs.Marked.{added, all_added, broken_by}
use Rattle.fs_pack.specs.Numbered.{AreNumbered, last_number, oids_of}
use Rattle.fs_pack.specs.declared.surveying.Survey.{Survey}

-- ---- the transactions up to the pack, and those behind it

abbrev pub entries_to : ℕ → List Entry → List Entry
entries_to t es = filter (λ (e : Entry). nat_le e.said.tid t) es

abbrev pub entries_behind : ℕ → List Entry → List Entry
entries_behind t es = filter (λ (e : Entry). nat_lt t e.said.tid) es

-- ---- what later records keep

-- their objects, and what their values lead to
abbrev pub seeded : Linking → List (ℕ × Value) → List ℕ → List ℕ
seeded links [] os = os
seeded links (r ∷ rs) os = seeded links rs (all_added (links_in links r.1) (added r.0 os))

-- the least of their objects of which a value can't be read
abbrev pub failing : Linking → List (ℕ × Value) → Option ℕ → Option ℕ
failing links [] broken = broken
failing links (r ∷ rs) broken = failing links rs (broken_by (spells_none links r.1) r.0 broken)

-- ---- a survey

-- of a transaction up to the pack it takes the numbers of its records, and its id
pub record TakesUpTo (e : Entry) (old new : Survey) : Type 0 where
  pub newest : (o : ℕ) → place_of new.newest o ≡ last_number o (place_of old.newest o) old.records (oids_of e.said.records)
  pub records : new.records ≡ old.records + length (oids_of e.said.records)
  pub until : new.until ≡ e.said.tid
  pub kept : new.kept ≡ old.kept
  pub broken : new.broken ≡ old.broken

-- and of a later one what it keeps
pub record TakesBehind (links : Linking) (e : Entry) (old new : Survey) : Type 0 where
  pub newest : new.newest ≡ old.newest
  pub records : new.records ≡ old.records
  pub until : new.until ≡ old.until
  pub kept : new.kept ≡ seeded links e.said.records old.kept
  pub broken : new.broken ≡ failing links e.said.records old.broken

pub record Takes (links : Linking) (t : ℕ) (e : Entry) (old new : Survey) : Type 0 where
  pub up_to : nat_le e.said.tid t ≡ true → TakesUpTo e old new
  pub behind : nat_lt t e.said.tid ≡ true → TakesBehind links e old new

-- what it has of these transactions
pub record SurveyOf (links : Linking) (t : ℕ) (es : List Entry) (s : Survey) : Type 0 where
  pub newest : AreNumbered s.newest (oids_of (records_in (said (entries_to t es))))
  pub records : s.records ≡ length (oids_of (records_in (said (entries_to t es))))
  pub until : s.until ≡ last_after 0 (said (entries_to t es))
  pub kept : s.kept ≡ seeded links (records_in (said (entries_behind t es))) (0 ∷ [])
  pub broken : s.broken ≡ failing links (records_in (said (entries_behind t es))) None

-- The bytes open to these transactions, whose records have these places.
pub record Surveys (links : Linking) (bytes : List ℕ) (t : ℕ) (places : List ℕ) (s : Survey) : Type 0 where
  pub blocks : List Block
  pub right : AreRight blocks
  pub rest : List ℕ
  pub spelled : bytes ≡ bytes_of blocks ++ rest
  pub end : is_end rest ≡ true
  pub records : places ≡ starts (rows (front_of blocks).records)
  pub found : SurveyOf links t (entries blocks) s
