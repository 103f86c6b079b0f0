-- Keys that rise are put among those of an index in one pass: where the index rises too, these are `posted_all`.
use Rattle.std.specs.Prelude.{ℕ, nat_eq, Bool, false, List, [], ◌∷◌, ◌++◌, map, get_or, drop, if◌then◌else◌}
use Rattle.std.specs.Str.{bytes_eq}
use Rattle.zobject.specs.Rules.{comes_before}
use Rattle.catalog.specs.declared.document.Index.{Index}
use Rattle.catalog.specs.declared.document.Posting.{Posting}
use Rattle.catalog.specs.Placing.{with_oid}
use Rattle.catalog.specs.Postings.{reposted}

-- a key that has one object
abbrev pub single : ℕ → List ℕ → Posting
single o key = record { key = key; oids = o ∷ [] }

-- the first of the keys, as far as they come before this one, and those from there on
abbrev pub before_key : List ℕ → List (List ℕ) → List (List ℕ)
before_key key [] = []
before_key key (k ∷ ks) = if comes_before k key then k ∷ before_key key ks else []

abbrev pub from_key : List ℕ → List (List ℕ) → List (List ℕ)
from_key key [] = []
from_key key (k ∷ ks) = if comes_before k key then from_key key ks else k ∷ ks

-- the object too, where the first of the keys is this one's; and the keys behind that
abbrev pub own : ℕ → List (List ℕ) → Posting → Posting
own o [] p = p
own o (k ∷ ks) p = if bytes_eq k p.key then record p { oids = with_oid o p.oids } else p

abbrev pub past_key : List ℕ → List (List ℕ) → List (List ℕ)
past_key key [] = []
past_key key (k ∷ ks) = if bytes_eq k key then ks else k ∷ ks

abbrev pub merged : ℕ → List (List ℕ) → List Posting → List Posting
merged o keys [] = map (single o) keys
merged o keys (p ∷ ps) = map (single o) (before_key p.key keys) ++ own o (from_key p.key keys) p ∷ merged o (past_key p.key (from_key p.key keys)) ps

-- ---- ids in their order, each once

-- the first of the ids is the same
abbrev pub is_next : ℕ → List ℕ → Bool
is_next o [] = false
is_next o (p ∷ ps) = nat_eq p o

-- of ids that don't fall: of each run of the same id the last one
abbrev pub once : List ℕ → List ℕ
once [] = []
once (o ∷ os) = if is_next o os then once os else o ∷ once os

-- ---- the indexes, by the columns of an entry

abbrev pub reindexed_by : ℕ → List (List (List ℕ)) → List Index → List Index
reindexed_by o columns [] = []
reindexed_by o columns (x ∷ xs) = record x { postings = reposted o (get_or columns 0 []) x.postings } ∷ reindexed_by o (drop 1 columns) xs
