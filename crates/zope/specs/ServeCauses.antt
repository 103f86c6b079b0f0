-- What a server of a site did, or why it did not end well.
--
-- The order of looking is: the shelf, for the file; the record; the file's size; its opening; the hub; the run; the printing.
use Rattle.std.specs.Prelude.{◌≡◌, ◌⊎◌, ◌≤◌, ◌++◌, ℕ, List, [], ◌∷◌, length, Option, None, Some, codes, decimal}
use Rattle.std.specs.Io.KnownBytes.{append_known}
use Rattle.zbase.specs.Faults.{Counter}
use Rattle.zio.specs.Clocks.{Tick}
use Rattle.zio.specs.Hubs.{Peers}
use Rattle.zio.specs.Shelves.{Entry, file_at}
use Rattle.fs_record.specs.File.{Front}
use Rattle.fs_record.specs.Opening.{Cut}
use Rattle.fs_store.specs.Stores.{most_length}
use Rattle.http_in.specs.Messages.{one_message}
use Rattle.publisher.specs.Site.{site}
use Rattle.file_server.specs.Kept.{FileCause, FileRefused, FileServed}
use Rattle.file_server.specs.Shelved.{KeepsBeside}
use Rattle.file_server.specs.declared.refusal.FileRefusal.{FileRefusal}
use Rattle.zope.specs.declared.refusal.Refusal.{Refusal}
use Rattle.zope.specs.CheckCauses.{PrintCause}

-- how many connections were accepted, and how many replies given
abbrev pub served_line : ℕ → ℕ → List ℕ
served_line accepted replies = codes "served " ++ (decimal accepted ++ (codes " " ++ (decimal replies ++ 10 ∷ [])))

-- What a server did, where the shelf, the hub and the clock tell: it served the site in the file, and the tape in the new file is its
-- record; and how many connections and replies there were was printed.
pub record SiteServed (sound : Type 0) (file record_ : List ℕ) (port connections clients : ℕ) (files new_files : Option (List Entry)) (ticks : Option (List Tick)) (clock : Counter) (new_ticks : Option (List Tick)) (new_clock : Counter) (peers new_peers : Option Peers) (old new : Option (List ℕ)) : Type 0 where
  pub accepted : ℕ
  pub replies : ℕ
  pub served : FileServed sound one_message site file record_ port connections clients files new_files ticks clock new_ticks new_clock peers new_peers accepted replies
  pub printed : new ≡ append_known old (served_line accepted replies)

-- What a server leaves in the files, however it ends: all as it was; or whatever the site's file has then, and the new record.
abbrev pub LeavesServed : (file record_ : List ℕ) → Option (List Entry) → Option (List Entry) → Type 0
LeavesServed file record_ old new = (new ≡ old) ⊎ ((entries : List Entry) × (old ≡ Some entries) × (left : List ℕ) × (tape : List ℕ) × KeepsBeside entries file left record_ tape new)

-- ---- why not

-- a refusal of a part, as one of the command; the hub is told as an input is
abbrev pub of_served : FileRefusal → Refusal
of_served FileRefusal.Missing = Refusal.Missing
of_served FileRefusal.Exists = Refusal.Exists
of_served (FileRefusal.TooLong n) = Refusal.TooLong n
of_served (FileRefusal.Damaged kind place) = Refusal.Damaged kind place
of_served FileRefusal.Disk = Refusal.Disk
of_served FileRefusal.Hub = Refusal.Input
of_served FileRefusal.Memory = Refusal.Memory

-- The server is refused for its cause, and what it leaves of the site and of the record is said.
pub record ServeRefused (sound : Type 0) (file record_ : List ℕ) (port connections clients : ℕ) (files new_files : Option (List Entry)) (ticks : Option (List Tick)) (clock : Counter) (peers new_peers : Option Peers) (hub shelf : Type 0) (e : Refusal) : Type 0 where
  pub refusal : FileRefusal
  pub is : e ≡ of_served refusal
  pub cause : FileCause file record_ files hub shelf (sound → ⊥) refusal
  pub left : FileRefused sound one_message site file record_ port connections clients files new_files ticks clock peers new_peers refusal

-- it did all, but for the printing, of which a front was written
pub record ServeUntold (sound : Type 0) (file record_ : List ℕ) (port connections clients : ℕ) (files new_files : Option (List Entry)) (ticks : Option (List Tick)) (clock : Counter) (new_ticks : Option (List Tick)) (new_clock : Counter) (peers new_peers : Option Peers) (sink : Type 0) (old new : Option (List ℕ)) (e : Refusal) : Type 0 where
  pub accepted : ℕ
  pub replies : ℕ
  pub served : FileServed sound one_message site file record_ port connections clients files new_files ticks clock new_ticks new_clock peers new_peers accepted replies
  pub printed : PrintCause sink (served_line accepted replies) old new e

-- the cause of a refusal: of the server, before which nothing is written, or of the printing
abbrev pub ServeCause : (sound : Type 0) (file record_ : List ℕ) (port connections clients : ℕ) (files new_files : Option (List Entry)) (ticks : Option (List Tick)) (clock : Counter) (new_ticks : Option (List Tick)) (new_clock : Counter) (peers new_peers : Option Peers) (hub sink shelf : Type 0) (old new : Option (List ℕ)) → Refusal → Type 0
ServeCause sound file record_ port connections clients files new_files ticks clock new_ticks new_clock peers new_peers hub sink shelf old new e =
    (ServeRefused sound file record_ port connections clients files new_files ticks clock peers new_peers hub shelf e × (new ≡ old))
    ⊎ ServeUntold sound file record_ port connections clients files new_files ticks clock new_ticks new_clock peers new_peers sink old new e

-- Nothing that a server looks at is a cause: the file is there, opens and isn't too long, the record isn't there, and no count rose.
pub record NoServeCause (file record_ : List ℕ) (files : Option (List Entry)) (hub sink disk : Type 0) : Type 0 where
  pub entries : List Entry
  pub shelf : files ≡ Some entries
  pub bytes : List ℕ
  pub there : file_at entries file ≡ Some bytes
  pub fits : length bytes ≤ most_length
  pub front : Front
  pub end : ℕ
  pub opens : Cut bytes front end
  pub absent : file_at entries record_ ≡ None
  pub hub_calm : hub → ⊥
  pub sink_calm : sink → ⊥
  pub disk_calm : disk → ⊥
