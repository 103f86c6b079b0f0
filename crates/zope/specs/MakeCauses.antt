-- What the making of a new site did, or why it did not end well.
--
-- The order of looking is: the name and the password; the shelf; the disk; the printing.
use Rattle.std.specs.Prelude.{◌≡◌, ◌⊎◌, ◌≤◌, ◌<◌, ◌++◌, ℕ, List, [], ◌∷◌, length, IfSome, Option, codes, option_map, None, Some}
use Rattle.std.specs.Io.KnownBytes.{append_known}
use Rattle.zbase.specs.Faults.{Counter, Rose}
use Rattle.zbase.specs.Hex.{hex16_text}
use Rattle.zio.specs.Clocks.{Tick, next_tick}
use Rattle.zio.specs.Shelves.{Entry, file_at}
use Rattle.zobject.specs.Rules.{Keeps}
use Rattle.zobject.specs.declared.limits.TheConstants.{MOST_GIVEN_PASSWORD}
use Rattle.zobject.specs.declared.version.Rule.TheVariants.{UserName}
use Rattle.stamp.specs.Stamps.{IsOutOfRange, IsStamp}
use Rattle.new_site.specs.Begun.{IsBegun}
use Rattle.new_site.specs.NewSite.{site_file}
use Rattle.new_site.specs.declared.making.MakeRefusal.{MakeRefusal}
use Rattle.new_site.specs.declared.making.MakeRefusal.TheVariants as made
use Rattle.zope.specs.declared.refusal.Refusal.{Refusal}
use Rattle.zope.specs.CheckCauses.{PrintCause}
use Rattle.zope.specs.Shelved.{IsMissing, IsPresent}

-- ---- who the manager is

pub record IsLegible (name password : List ℕ) : Type 0 where
  pub name_keeps : Keeps UserName name
  pub given : 1 ≤ length password
  pub short : length password ≤ MOST_GIVEN_PASSWORD

-- ---- when the site is made

-- the stamp of that moment, and 1 where it has none, or the stamp 0
abbrev pub IsFirstAt : Tick → ℕ → Type 0
IsFirstAt tick tid = ((0 < tid) × IsStamp tick.0 tick.1 tid) ⊎ ((tid ≡ 1) × (IsOutOfRange tick.0 tick.1 ⊎ IsStamp tick.0 tick.1 0))

-- the id of the site's transaction: 1 where the clock failed, and otherwise by its next moment, which it may tell
abbrev pub IsFirst : (ticks : Option (List Tick)) (old new : Counter) → ℕ → Type 0
IsFirst ticks old new tid = ((tid ≡ 1) × Rose old new) ⊎ ((old.count < new.count → ⊥) × (tick : Tick) × IfSome ticks (λ all. tick ≡ next_tick all) × IsFirstAt tick tid)

-- ---- what is printed

abbrev pub created_line : ℕ → List ℕ
created_line tid = codes "created " ++ (hex16_text tid ++ 10 ∷ [])

-- where the shelf tells, it had no file of that name, and has one more, with these bytes
abbrev pub HasNew : Option (List Entry) → List ℕ → List ℕ → Option (List Entry) → Type 0
HasNew old name bytes new = IsMissing old name × (new ≡ option_map (λ all. all ++ (name, bytes) ∷ []) old)

-- what the making of a site leaves in the files, however it ends: each that was there, and at most one more, with the new
-- site, or with what there is of it where the making broke off
abbrev pub LeavesNew : (file name password : List ℕ) → Option (List Entry) → Option (List Entry) → Type 0
LeavesNew file name password old new = (new ≡ old) ⊎ ((tid : ℕ) × (bytes : List ℕ) × IsBegun tid name password bytes × HasNew old file bytes new)

pub record Made (file name password : List ℕ) (files new_files : Option (List Entry)) (ticks : Option (List Tick)) (clock new_clock : Counter) (old new : Option (List ℕ)) : Type 0 where
  pub legible : IsLegible name password
  -- the id of the one transaction
  pub tid : ℕ
  pub first : IsFirst ticks clock new_clock tid
  -- where the shelf tells, it had no such file, and has it now, with the new site
  pub made : HasNew files file (site_file tid name password) new_files
  -- the id was printed
  pub printed : new ≡ append_known old (created_line tid)

-- ---- why not

-- what the making of the file is refused for
abbrev pub NewCause : Option (List Entry) → List ℕ → Type 0 → Refusal → Type 0
NewCause files file failed Refusal.Exists = IsPresent files file
NewCause files file failed Refusal.Disk = failed × IsMissing files file
NewCause files file failed Refusal.Memory = Unit {0}
NewCause files file failed _ = ⊥

abbrev pub LegibleCause : List ℕ → List ℕ → Refusal → Type 0
LegibleCause name password Refusal.NotLegible = IsLegible name password → ⊥
LegibleCause name password _ = ⊥

-- the cause of a refusal: of the name and password, of the file, or of the printing
abbrev pub MakeCause : (file name password : List ℕ) (files : Option (List Entry)) (sink disk : Type 0) (old new : Option (List ℕ)) → Refusal → Type 0
MakeCause file name password files sink disk old new e =
    (LegibleCause name password e × (new ≡ old))
    ⊎ ((IsLegible name password × NewCause files file disk e × (new ≡ old))
    ⊎ ((tid : ℕ) × IsLegible name password × IsMissing files file × PrintCause sink (created_line tid) old new e))

-- a refusal of a part, as one of the command
abbrev pub of_make : MakeRefusal → Refusal
of_make made.Disk = Refusal.Disk
of_make made.Memory = Refusal.Memory

-- nothing that the making of a site looks at is a cause: the name and password are legible, the file isn't there, and no
-- count rose
pub record NoMakeCause (file name password : List ℕ) (files : Option (List Entry)) (sink disk : Type 0) : Type 0 where
  pub legible : IsLegible name password
  pub entries : List Entry
  pub shelf : files ≡ Some entries
  pub absent : file_at entries file ≡ None
  pub sink_calm : sink → ⊥
  pub disk_calm : disk → ⊥
