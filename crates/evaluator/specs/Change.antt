-- The rules of a change and of a reply.
use Rattle.std.specs.Prelude.{ℕ, ◌≡◌, ◌+◌, ◌<◌, ◌≤◌, ◌⊎◌, ◌≢◌, ◌==◌, Bool, true, false, List, [], ◌∷◌, length, map, count_by, AllPairs, Contains, Option, Some, IfSome}
use Rattle.std.specs.List.{AllByRecursion, list_any}
use Rattle.zbase.specs.Roles.{IsRole}
use Rattle.evaluator.specs.declared.ask.Ask.{Ask}
use Rattle.evaluator.specs.declared.draft.Draft.{Draft}
use Rattle.evaluator.specs.declared.draft.Entry.{Entry}
use Rattle.evaluator.specs.declared.draft.Hole.{Hole}
use Rattle.evaluator.specs.declared.draft.Name.{Name}
use Rattle.evaluator.specs.declared.fact.Fact.{Fact}
use Rattle.evaluator.specs.declared.fact.Part.{Part}
use Rattle.evaluator.specs.declared.permission.TheConstants.{PERMISSIONS}
use Rattle.evaluator.specs.declared.reply.Reply.{Reply}

-- the object that an entry is about
abbrev pub named : Entry → Name
named (Entry.Write name bytes holes) = name
named (Entry.Restore o t) = Name.Old o

abbrev pub is_new : Name → Bool
is_new (Name.New k) = true
is_new (Name.Old o) = false

-- how many new objects a change makes
abbrev pub made : Draft → ℕ
made d = count_by (λ e. is_new (named e)) d.entries

-- a known fact has a value of the object
abbrev pub HasKnownValue : (Ask → Option Fact) → ℕ → Type 0
HasKnownValue known o = (bytes : List ℕ) × (serial : ℕ) × (known (Ask.Object o) ≡ Some (Fact.Object o (Some bytes) serial))

-- a known transaction wrote the object, and t was its serial before
abbrev pub WasSerial : (Ask → Option Fact) → ℕ → ℕ → Type 0
WasSerial known o t = (tid : ℕ) × (parts : List Part) × (part : Part)
    × (known (Ask.Transaction tid) ≡ Some (Fact.Transaction tid (Some parts))) × Contains parts part × (part.oid ≡ o) × (part.before_serial ≡ t)

-- holes lie within the bytes and name new objects of the change
abbrev pub IsHole : ℕ → List ℕ → Hole → Type 0
IsHole new bytes hole = (hole.at + 8 ≤ length bytes) × (hole.new < new)

abbrev pub AreApart : Hole → Hole → Type 0
AreApart a b = (a.at + 8 ≤ b.at) ⊎ (b.at + 8 ≤ a.at)

-- where new objects are made, an object that is named by its id has a value in a known fact
abbrev pub IsKnownName : (Ask → Option Fact) → ℕ → Name → Type 0
IsKnownName known new (Name.Old o) = 0 < new → HasKnownValue known o
IsKnownName known new (Name.New k) = k < new

abbrev pub IsEntry : (Ask → Option Fact) → ℕ → Entry → Type 0
IsEntry known new (Entry.Write name bytes holes) = IsKnownName known new name × (0 < length bytes) × AllByRecursion (IsHole new bytes) holes × AllPairs AreApart holes
IsEntry known new (Entry.Restore o t) = IsKnownName known new (Name.Old o) × ((t ≡ 0) ⊎ WasSerial known o t)

-- the longest text of a transaction, and one more than the most new objects
abbrev pub longest_text : ℕ
longest_text = 65535

abbrev pub most_new : ℕ
most_new = 4294967296

pub record IsChange (known : Ask → Option Fact) (d : Draft) : Type 0 where
  pub user : length d.user ≤ longest_text
  pub description : length d.description ≤ longest_text
  -- entries are about distinct objects
  pub distinct : AllPairs (λ a b. named a ≢ named b) d.entries
  -- new objects are numbered from 0 without a gap
  pub numbered : (k : ℕ) → k < made d → Contains (map named d.entries) (Name.New k)
  pub few : made d < most_new
  pub each : AllByRecursion (IsEntry known (made d)) d.entries

-- the status codes of replies
abbrev pub statuses : List ℕ
statuses = 200 ∷ 400 ∷ 401 ∷ 404 ∷ 411 ∷ 413 ∷ 414 ∷ 415 ∷ 431 ∷ 500 ∷ 501 ∷ 503 ∷ []

abbrev pub IsPermission : ℕ → Type 0
IsPermission n = (0 < n) × (n ≤ PERMISSIONS)

pub record IsReply (x : Reply) : Type 0 where
  pub status : list_any (λ n. n == x.status) statuses ≡ true
  pub denied : IfSome x.denied (λ d. IsPermission d.permission)
  -- objects are shown once each
  pub distinct : AllPairs (λ a b. a.oid ≢ b.oid) x.shown
  pub roles : AllByRecursion (λ s. IsRole s.role) x.shown
