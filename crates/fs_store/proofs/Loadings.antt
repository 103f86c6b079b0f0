-- What is loaded of an object.
use Rattle.std.proofs.Common.{◌≡◌, ℕ, ◌+◌, ◌≤◌, List, drop, Option, Some, None, IfSome, refl, sym, ap, subst, arith, inl, inr}
use Rattle.std.proofs.lemmas.List.{take-append-drop}
use Rattle.zbase.specs.History.{Value}
use Rattle.zbase.specs.Values.{serial_of, value_of}
use Rattle.zdisk.specs.Disk.{Told, content}
use Rattle.fs_record.specs.File.{Earlier, value_at}
use Rattle.fs_record.specs.Standing.{IsPlace}
use Rattle.fs_record.specs.StandingLaws.{each_stands}
use Rattle.fs_scan.specs.Present.{AllStand}
use Rattle.fs_record.specs.Walks.{later_than}
use Rattle.fs_scan.specs.Backs.{CostsBacks}
use Rattle.fs_store.specs.declared.finding.Record.{Record}
use Rattle.fs_store.specs.declared.file.OpenFile.{OpenFile}
use Rattle.fs_store.specs.Finding.{CostsLoad, FoundAt, FoundNone}
use Rattle.fs_store.specs.Fronts.{file_at, front_at, history_at, records_at}
use Rattle.fs_store.specs.Knowing.{IsKnown, Knows}
use Rattle.fs_store.specs.Seeing.{IsLoaded}

pub all_stand : (told : Told) (known : OpenFile) → Knows told known → AllStand (content told) (records_at told known.end)
all_stand told known k =
    subst (λ (bytes : List ℕ). AllStand bytes (records_at told known.end)) (take-append-drop known.end (content told)) (each_stands (file_at told known.end) (drop known.end (content told)) (front_at told known.end) k.file)

pub loaded_none : (told : Told) (end oid t : ℕ) → FoundNone told end oid t → IsLoaded told end oid t (record { value = None; serial = 0; place = 0 })
loaded_none told end oid t f = record { value_is = sym (ap value_of f.none); serial_is = sym (ap serial_of f.none); read = f.read }

pub loaded_at : (told : Told) (end oid t : ℕ) (found : Record) (v : Value) → FoundAt told end oid t found.place found.head → v ≡ value_at found.place (records_at told end) → IsLoaded told end oid t (record { value = v; serial = found.head.tid; place = found.place })
loaded_at told end oid t found v f is =
    subst (λ (x : Value). IsLoaded told end oid t (record { value = x; serial = found.head.tid; place = found.place })) (sym is)
    (record { value_is = sym (ap value_of f.newest_is); serial_is = sym (ap serial_of f.newest_is); read = f.read })

-- ---- what it has cost

-- no call costs no more than it may
pub costs_none : (o : Option Told) (end oid t calls : ℕ) → IfSome o (λ told. CostsLoad told end oid t calls calls)
costs_none None end oid t calls = tt
costs_none (Some told) end oid t calls = record { backs = 0; followed = inl refl; within = omega arith }

pub costs_found : (told : Told) (end oid t calls more : ℕ) → more ≤ calls + 1 + later_than (history_at told end) t oid → CostsLoad told end oid t calls more
costs_found told end oid t calls more le = record { backs = 0; followed = inl refl; within = omega (arith, le) }

pub costs_value : (told : Told) (end oid t calls now more : ℕ) (found : Record) → now ≤ calls + 1 + later_than (history_at told end) t oid → FoundAt told end oid t found.place found.head → CostsBacks (content told) found.place now more → CostsLoad told end oid t calls more
costs_value told end oid t calls now more found le f c = record { backs = c.backs; followed = inr (found.place, found.head, c.at, f, c.leads); within = omega (arith, le, c.within) }

-- by the records of the store's file, where the disk tells
pub costs_there : (o : Option Told) (known : OpenFile) (place calls more : ℕ) → IsKnown o known → IfSome o (λ told. (records : List Earlier) (oid : ℕ) → AllStand (content told) records → IsPlace records oid place → CostsBacks (content told) place calls more)
    → IfSome o (λ told. (oid : ℕ) → IsPlace (records_at told known.end) oid place → CostsBacks (content told) place calls more)
costs_there None known place calls more k costs = tt
costs_there (Some told) known place calls more k costs = λ oid is. costs (records_at told known.end) oid (all_stand told known k.0) is
