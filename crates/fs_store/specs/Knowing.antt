-- What a store knows of its disk's file, where the disk tells.
use Rattle.std.specs.Prelude.{◌≡◌, ◌≤◌, ℕ, length, Option, IfSome}
use Rattle.zbase.specs.Values.{last, next}
use Rattle.zdisk.specs.Crashes.{IsSynced}
use Rattle.zdisk.specs.Disk.{Told, content}
use Rattle.fs_record.specs.File.{IsFile, last_place, rows}
use Rattle.fs_scan.specs.Newest.{place_in}
use Rattle.fs_index.specs.Places.{place_of}
use Rattle.fs_store.specs.declared.file.OpenFile.{OpenFile}
use Rattle.fs_store.specs.Fronts.{file_at, front_at, history_at, records_at}

-- The bytes begin with a file that ends there. The store has its numbers, and each object's newest place.
pub record Knows (told : Told) (known : OpenFile) : Type 0 where
  pub synced : IsSynced told
  pub within : known.end ≤ length (content told)
  pub file : IsFile (file_at told known.end) (front_at told known.end)
  pub last_is : known.last ≡ last (history_at told known.end)
  pub floor_is : known.floor ≡ (history_at told known.end).floor
  pub next_is : known.next ≡ next (history_at told known.end)
  pub count_is : known.count ≡ length (history_at told known.end).transactions
  pub newest : (o : ℕ) → place_in (place_of known.index o) ≡ last_place o 0 (rows (records_at told known.end))

-- and of all bytes there are so many
abbrev pub IsKnown : Option Told → OpenFile → Type 0
IsKnown disk known = IfSome disk (λ told. Knows told known × (known.len ≡ length (content told)))
