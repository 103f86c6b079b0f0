-- The records that are kept, each by its object: those that were used last.
use Rattle.std.specs.Prelude.{◌≡◌, ◌⊎◌, ◌+◌, ◌≤◌, ℕ, List, [], ◌∷◌, length, Contains, Option, Some, None, IfSome}
use Rattle.zbase.specs.History.{Value}
use Rattle.zdisk.specs.Disk.{Told}
use Rattle.lru.specs.LruCache.{LruCache}
use Rattle.fs_store.specs.declared.reads.Loaded.{Loaded}
use Rattle.fs_store.specs.Seeing.{ReadOn}

-- as many bytes at most as the value of one has
abbrev pub most_value : ℕ
most_value = 1048576

-- and as many as all have together
abbrev pub most_bytes : ℕ
most_bytes = 16777216

-- and so many records are kept at most
abbrev pub most_records : ℕ
most_records = 256

abbrev pub bytes_in : Value → ℕ
bytes_in None = 0
bytes_in (Some bytes) = length bytes

abbrev pub total : List (ℕ × Loaded) → ℕ
total [] = 0
total (e ∷ es) = bytes_in e.1.value + total es

abbrev pub kept_in : Option (LruCache ℕ Loaded) → List (ℕ × Loaded)
kept_in None = []
kept_in (Some cache) = cache.entries

-- a cache holds so many at most
abbrev pub HasCap : ℕ → Option (LruCache ℕ Loaded) → Type 0
HasCap most records = IfSome records (λ cache. cache.cap ≡ most)

-- no value is longer than one may be
abbrev pub AreShort : List (ℕ × Loaded) → Type 0
AreShort kept = (e : ℕ × Loaded) → Contains kept e → bytes_in e.1.value ≤ most_value

-- together they have no more bytes than are counted, and no more than they may have
abbrev pub Fits : List (ℕ × Loaded) → ℕ → Type 0
Fits kept bytes = AreShort kept × (total kept ≤ bytes) × (bytes ≤ most_bytes)

-- these and no others, but for one more
abbrev pub IsWith : List (ℕ × Loaded) → ℕ → Loaded → List (ℕ × Loaded) → Type 0
IsWith old oid loaded new = (e : ℕ × Loaded) → Contains new e → Contains old e ⊎ (e ≡ (oid, loaded))

-- each was the object's last record at some time of the file on a disk, with its own value, where the disk tells
abbrev pub AreRead : Option Told → ℕ → List (ℕ × Loaded) → Type 0
AreRead disk end kept = (e : ℕ × Loaded) → Contains kept e → ReadOn disk end e.0 e.1
