-- What a file is: `FS21`, and blocks that are right one after another.
--
-- FileStorage format notes. A block is judged against the data records before it: where each stands and whose it
-- is.
use Rattle.std.specs.Prelude.{◌≡◌, ℕ, ◌+◌, Bool, true, ◌&&◌, ◌||◌, ◌==◌, nat_lt, if◌then◌else◌, List, [], ◌∷◌, ◌++◌, length, map, Option, Some, None}
use Rattle.std.specs.List.{list_any, list_all}
use Rattle.zbase.specs.History.{Value, Transaction, History, empty_history}
use Rattle.zbase.specs.Values.{last}
use Rattle.zbase.specs.declared.ids.Row.{Row}
use Rattle.fs_record.specs.declared.body.Body.{Body}
use Rattle.fs_record.specs.declared.body.Body.TheVariants.{Full, Back}
use Rattle.fs_record.specs.declared.damage.Damage.{Damage}
use Rattle.fs_record.specs.declared.damage.Damage.TheVariants.{BadTid, BadPrev, BadBack, BadStatus, BadTail, BadVersion}
use Rattle.fs_record.specs.Spelling.{Data, Inside, Records, Skipped, Block, data_spelling, block_spelling, long_of}
use Rattle.fs_record.specs.Fits.{FitsBlock}

-- an earlier data record: whose it is and where it stands, and the value that it means
pub record Earlier : Type 0 where
  pub at : Row
  pub value : Value

-- what the blocks so far say: where they end, their data records from the oldest, and their history
pub record Front : Type 0 where
  pub place : ℕ
  pub records : List Earlier
  pub history : History

abbrev pub rows : List Earlier → List Row
rows records = map (λ (e : Earlier). e.at) records

-- ---- what a block has to say, given the data records before it

-- the place of the object's last data record, else the given one
abbrev pub last_place : ℕ → ℕ → List Row → ℕ
last_place oid found [] = found
last_place oid found (row ∷ rs) = last_place oid (if row.oid == oid then row.place else found) rs

abbrev pub is_row : ℕ → ℕ → Row → Bool
is_row oid place row = (row.oid == oid) && (row.place == place)

-- the record has its transaction's id and start
abbrev pub is_own : ℕ → ℕ → Data → Bool
is_own tid start d = (d.tid == tid) && (d.start == start)

abbrev pub has_prev : List Row → Data → Bool
has_prev rs d = d.prev == last_place d.oid 0 rs

abbrev pub is_right_body : List Row → ℕ → Body → Bool
is_right_body rs oid (Full bytes) = true
is_right_body rs oid (Back place) = (place == 0) || list_any (is_row oid place) rs

abbrev pub has_body : List Row → Data → Bool
has_body rs d = is_right_body rs d.oid d.body

abbrev pub has_no_version : Data → Bool
has_no_version d = d.version == 0

-- a transaction that counts has status space or `p`
abbrev pub is_counted : ℕ → Bool
is_counted status = (status == 32) || (status == 112)

-- the first damage of a block that begins at the place, over all its records; of an undone one only the second
-- length is looked at
unfoldable pub fault_in : ℕ → ℕ → List Row → Block → Inside → Option Damage
fault_in place t rs b (Skipped bytes) = if b.tail == long_of b then None else Some BadTail
fault_in place t rs b (Records ds) =
    if nat_lt t b.tid && list_all (is_own b.tid place) ds then
    if list_all (has_prev rs) ds then
    if list_all (has_body rs) ds then
    if is_counted b.status then
    if b.tail == long_of b then
    if list_all has_no_version ds then None
    else Some BadVersion
    else Some BadTail
    else Some BadStatus
    else Some BadBack
    else Some BadPrev
    else Some BadTid

abbrev pub fault_of : Front → Block → Option Damage
fault_of front b = fault_in front.place (last front.history) (rows front.records) b b.inside

-- ---- how a file goes on

-- the value of the data record at a place
abbrev pub value_at : ℕ → List Earlier → Value
value_at place [] = None
value_at place (e ∷ es) = if e.at.place == place then e.value else value_at place es

-- the value that is meant, by the earlier records; a back pointer 0 has none
abbrev pub value_of : List Earlier → Body → Value
value_of earlier (Full bytes) = Some bytes
value_of earlier (Back place) = if place == 0 then None else value_at place earlier

-- the records that stand from a place on, with what they mean by the earlier ones
abbrev pub records_from : List Earlier → ℕ → List Data → List Earlier
records_from earlier place [] = []
records_from earlier place (d ∷ ds) = record { at = record { oid = d.oid; place = place }; value = value_of earlier d.body } ∷ records_from earlier (place + length (data_spelling d)) ds

abbrev pub values_of : List Earlier → List Data → List (ℕ × Value)
values_of earlier ds = map (λ (d : Data). (d.oid, value_of earlier d.body)) ds

-- the place of the first record
abbrev pub records_place : ℕ → Block → ℕ
records_place place b = place + 23 + length b.texts.user + length b.texts.description + length b.texts.extension

-- the transaction that a block with these records says
abbrev pub transaction_of : List Earlier → Block → List Data → Transaction
transaction_of earlier b ds = record { tid = b.tid; user = b.texts.user; description = b.texts.description; extension = b.texts.extension; records = values_of earlier ds }

-- one transaction longer; a packed one is the floor
abbrev pub longer : History → ℕ → Transaction → History
longer h status x = record { floor = if status == 112 then x.tid else h.floor; transactions = h.transactions ++ x ∷ [] }

unfoldable pub after_in : Front → Block → Inside → Front
after_in front b (Skipped bytes) = record { place = front.place + (long_of b + 8); records = front.records; history = front.history }
after_in front b (Records ds) = record {
  place = front.place + (long_of b + 8);
  records = front.records ++ records_from front.records (records_place front.place b) ds;
  history = longer front.history b.status (transaction_of front.records b ds);
}

abbrev pub after : Front → Block → Front
after front b = after_in front b b.inside

-- ---- files; their blocks stand newest first

abbrev pub magic : List ℕ
magic = 70 ∷ 83 ∷ 50 ∷ 49 ∷ []

abbrev pub front_of : List Block → Front
front_of [] = record { place = 4; records = []; history = empty_history }
front_of (b ∷ bs) = after (front_of bs) b

abbrev pub bytes_of : List Block → List ℕ
bytes_of [] = magic
bytes_of (b ∷ bs) = bytes_of bs ++ block_spelling b

-- a block that may stand behind a front
pub record IsRight (front : Front) (b : Block) : Type 0 where
  pub fits : FitsBlock b
  pub right : fault_of front b ≡ None

abbrev pub AreRight : List Block → Type 0
AreRight [] = Unit {0}
AreRight (b ∷ bs) = IsRight (front_of bs) b × AreRight bs

-- the bytes are a file, which says the front
pub record IsFile (bytes : List ℕ) (front : Front) : Type 0 where
  pub blocks : List Block
  pub right : AreRight blocks
  pub spelled : bytes ≡ bytes_of blocks
  pub said : front ≡ front_of blocks
