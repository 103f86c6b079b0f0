-- The file of transactions is one of their history, and as long as it is counted.
use Rattle.std.proofs.Common.{◌≡◌, ℕ, ◌+◌, ◌<◌, ◌^◌, ◌==◌, true, List, [], ◌∷◌, ◌++◌, Some, None, length, map, refl, sym, ap, ap₂, subst, ◌∙◌, arith, Bool, false, append_assoc, append-nil, if◌then◌else◌}
use Rattle.std.specs.Prelude.{sum, sum_by}
use Rattle.std.specs.List.{All, AllByRecursion}
use Rattle.std.proofs.lemmas.List.{length-append}
use Rattle.std.proofs.lemmas.List.Elements.{All-cons, All-nil}
use Rattle.std.proofs.lemmas.List.Sums.{sum-map, sum_by-cons}
use Rattle.zbase.specs.History.{Value, Transaction, History, RisesFrom}
use Rattle.zbase.specs.Values.{last}
use Rattle.zbase.specs.HistoryLaws.{last_after-append}
use Rattle.zbase.specs.NumberLaws.{length-be64}
use Rattle.zbase.specs.declared.ids.Row.{Row}
use Rattle.fs_record.specs.declared.layout.TheConstants.{BARE_TXN_LEN, DATA_HEAD_LEN}
use Rattle.fs_record.specs.declared.body.Item.{Item}
use Rattle.fs_record.specs.Spelling.{Block, block_spelling}
use Rattle.fs_record.specs.File.{Earlier, Front, IsFile, AreRight, after, bytes_of, front_of, is_right_body, last_place, longer, rows, value_of}
use Rattle.fs_record.specs.FileLaws.{file_place}
use Rattle.fs_record.specs.Sizes.{record_size, records_size, length-transaction}
use Rattle.fs_record.specs.Written.{FitsItem, GoesBehind, IsWritable}
use Rattle.fs_record.specs.StandingLaws.{RiseWithin, file_kept}
use Rattle.fs_record.specs.WrittenLaws.{history-transaction, right_behind}
use Rattle.packing.specs.Sizes as sizes
use Rattle.packing.specs.Sizes.{full_size, transaction_size, value_size}
use Rattle.fs_pack.specs.Entries.{Entry}
use Rattle.fs_pack.specs.Spelled.{IsEntry, IsValue, block_of, blocks_behind, body_of, entry_size, file_of, file_size, floor_from, item_of, items_of, texts_of}

abbrev Records : Type 0
Records = List (ℕ × Value)

item_size : (earlier : List Row) (r : ℕ × Value) → record_size (item_of earlier r) ≡ DATA_HEAD_LEN + value_size r.1
item_size earlier (o, None) = ap (λ (n : ℕ). DATA_HEAD_LEN + n) (length-be64 0)
item_size earlier (o, Some bytes) = refl

items_size : (earlier : List Row) (rs : Records) → records_size (map (item_of earlier) rs) ≡ sum_by sizes.record_size rs
items_size earlier [] = refl
items_size earlier (r ∷ rs) =
    sum_by-cons record_size (item_of earlier r) (map (item_of earlier) rs)
    ∙ ap₂ (λ (m n : ℕ). m + n) (item_size earlier r) (items_size earlier rs)
    ∙ sym (sum_by-cons sizes.record_size r rs)

pub block_size : (front : Front) (e : Entry) → length (block_spelling (block_of front e)) ≡ entry_size e
block_size front e = omega (arith, length-transaction front.place e.said.tid e.status (texts_of e.said) (items_of front e.said), items_size (rows front.records) e.said.records)

behind_size : (bs : List Block) (es : List Entry) → length (bytes_of (blocks_behind bs es)) ≡ length (bytes_of bs) + sum_by entry_size es
behind_size bs [] = omega arith
behind_size bs (e ∷ es) =
    omega (arith, behind_size (block_of (front_of bs) e ∷ bs) es, length-append (bytes_of bs) (block_spelling (block_of (front_of bs) e)), block_size (front_of bs) e, sum_by-cons entry_size e es)

pub sized : (es : List Entry) → length (file_of es) ≡ file_size es
sized es = behind_size [] es

-- one transaction more at the end
pub behind-append : (bs : List Block) (es fs : List Entry) → blocks_behind bs (es ++ fs) ≡ blocks_behind (blocks_behind bs es) fs
behind-append bs [] fs = refl
behind-append bs (e ∷ es) fs = behind-append (block_of (front_of bs) e ∷ bs) es fs

-- ---- its items can be written, and are right

same_value : (earlier : List Earlier) (v : Value) → value_of earlier (body_of v) ≡ v
same_value earlier None = refl
same_value earlier (Some bytes) = refl

said_items : (earlier : List Earlier) (rs : Records) → map (λ (item : Item). (item.oid, value_of earlier item.body)) (map (item_of (rows earlier)) rs) ≡ rs
said_items earlier [] = refl
said_items earlier (r ∷ rs) = ap₂ (λ (v : Value) (ss : Records). (r.0, v) ∷ ss) (same_value earlier r.1) (said_items earlier rs)

AreNamed : List Row → Type 0
AreNamed earlier = (oid : ℕ) → last_place oid 0 earlier < 2 ^ 64

fit_items : (earlier : List Row) (rs : Records) → AllByRecursion (λ (r : ℕ × Value). (r.0 < 2 ^ 64) × IsValue r.1) rs → AreNamed earlier → All FitsItem (map (item_of earlier) rs)
unfolding AreNamed
fit_items earlier [] all named = All-nil FitsItem
fit_items earlier ((o, None) ∷ rs) all named = All-cons FitsItem _ _ (record { oid = all.0.0; prev = named o; body = omega arith }) (fit_items earlier rs all.1 named)
fit_items earlier ((o, Some bytes) ∷ rs) all named = All-cons FitsItem _ _ (record { oid = all.0.0; prev = named o; body = all.0.1 }) (fit_items earlier rs all.1 named)

prev_items : (earlier : List Row) (rs : Records) → All (λ (item : Item). item.prev ≡ last_place item.oid 0 earlier) (map (item_of earlier) rs)
prev_items earlier [] = All-nil (λ (item : Item). item.prev ≡ last_place item.oid 0 earlier)
prev_items earlier (r ∷ rs) = All-cons (λ (item : Item). item.prev ≡ last_place item.oid 0 earlier) (item_of earlier r) (map (item_of earlier) rs) refl (prev_items earlier rs)

right_value : (earlier : List Row) (o : ℕ) (v : Value) → is_right_body earlier o (body_of v) ≡ true
right_value earlier o None = refl
right_value earlier o (Some bytes) = refl

back_items : (earlier : List Row) (rs : Records) → All (λ (item : Item). is_right_body earlier item.oid item.body ≡ true) (map (item_of earlier) rs)
back_items earlier [] = All-nil (λ (item : Item). is_right_body earlier item.oid item.body ≡ true)
back_items earlier (r ∷ rs) = All-cons (λ (item : Item). is_right_body earlier item.oid item.body ≡ true) (item_of earlier r) (map (item_of earlier) rs) (right_value earlier r.0 r.1) (back_items earlier rs)

-- ---- its history

pub said_block : (front : Front) (e : Entry) → (after front (block_of front e)).history ≡ longer front.history e.status e.said
said_block front e =
    history-transaction front front.place e.said.tid e.status (texts_of e.said) (items_of front e.said)
    ∙ ap (λ (rs : Records). longer front.history e.status (made e.said.tid e.said.user e.said.description e.said.extension rs)) (said_items front.records e.said.records)
  where
    made : ℕ → List ℕ → List ℕ → List ℕ → Records → Transaction
    made tid user description extension rs = record { tid = tid; user = user; description = description; extension = extension; records = rs }

-- ---- it is a file

named : (oid found n end : ℕ) (es : List Earlier) → RiseWithin n end es → end < 2 ^ 64 → found < 2 ^ 64 → last_place oid found (rows es) < 2 ^ 64
named oid found n end [] rise short has = has
named oid found n end (e ∷ es) rise short has = named oid (if e.at.oid == oid then e.at.place else found) (e.at.place + 1) end es rise.2 short (choose (e.at.oid == oid))
  where
    choose : (b : Bool) → (if b then e.at.place else found) < 2 ^ 64
    choose true = omega (arith, rise.1, short)
    choose false = has

the_file : (bs : List Block) → AreRight bs → IsFile (bytes_of bs) (front_of bs)
the_file bs right = record { blocks = bs; right = right; spelled = refl; said = refl }

all_named : (bs : List Block) → AreRight bs → length (bytes_of bs) < 2 ^ 64 → AreNamed (rows (front_of bs).records)
unfolding AreNamed
all_named bs right short oid =
    let place = file_place (bytes_of bs) (front_of bs) (the_file bs right) in
    named oid 0 4 (front_of bs).place (front_of bs).records (file_kept (bytes_of bs) (front_of bs) (the_file bs right)).rise (omega (arith, place, short)) (omega arith)

writable : (bs : List Block) (e : Entry) → AreRight bs → IsEntry e → length (bytes_of bs) + entry_size e < 2 ^ 64 → IsWritable (front_of bs).place e.said.tid e.status (texts_of e.said) (items_of (front_of bs) e.said)
writable bs e right is short = record {
  id = is.tid;
  user = is.user;
  description = is.description;
  extension = is.extension;
  each = fit_items (rows (front_of bs).records) e.said.records is.records (all_named bs right (omega (arith, short)));
  end = omega (arith, block_size (front_of bs) e, file_place (bytes_of bs) (front_of bs) (the_file bs right), short);
}

goes_behind : (front : Front) (e : Entry) → IsEntry e → last front.history < e.said.tid → GoesBehind front e.said.tid e.status (items_of front e.said)
goes_behind front e is later = record {
  later = later;
  counted = is.counted;
  previous = prev_items (rows front.records) e.said.records;
  back = back_items (rows front.records) e.said.records;
}

last_longer : (h : History) (status : ℕ) (x : Transaction) → last (longer h status x) ≡ x.tid
last_longer h status x = last_after-append 0 h.transactions (x ∷ [])

pub right_behind_all : (bs : List Block) (es : List Entry) → AreRight bs → AllByRecursion IsEntry es → RisesFrom (last (front_of bs).history) (map (λ (e : Entry). e.said) es) → length (bytes_of bs) + sum_by entry_size es < 2 ^ 64 → AreRight (blocks_behind bs es)
right_behind_all bs [] right all rise short = right
right_behind_all bs (e ∷ es) right all rise short =
    let front = front_of bs in
    let b = block_of front e in
    let sum = sum_by-cons entry_size e es in
    let one = right_behind front front.place e.said.tid e.status (texts_of e.said) (items_of front e.said) refl (writable bs e right all.0 (omega (arith, sum, short))) (goes_behind front e all.0 rise.0) in
    let last_is : last (after front b).history ≡ e.said.tid = ap last (said_block front e) ∙ last_longer front.history e.status e.said in
    right_behind_all (b ∷ bs) es (one, right) all.1 (subst (λ n. RisesFrom n (map (λ (f : Entry). f.said) es)) (sym last_is) rise.1) (omega (arith, length-append (bytes_of bs) (block_spelling b), block_size front e, sum, short))

abbrev the_history : ℕ → List Transaction → History
the_history floor xs = record { floor = floor; transactions = xs }

pub history_behind : (bs : List Block) (es : List Entry) → (front_of (blocks_behind bs es)).history ≡ the_history (floor_from (front_of bs).history.floor es) ((front_of bs).history.transactions ++ map (λ (e : Entry). e.said) es)
history_behind bs [] = ap (the_history (front_of bs).history.floor) (sym (append-nil (front_of bs).history.transactions))
history_behind bs (e ∷ es) =
    let h = (front_of bs).history in
    let said = said_block (front_of bs) e in
    history_behind (block_of (front_of bs) e ∷ bs) es
    ∙ ap (λ (g : History). the_history (floor_from g.floor es) (g.transactions ++ map (λ (f : Entry). f.said) es)) said
    ∙ ap (the_history (floor_from (if e.status == 112 then e.said.tid else h.floor) es)) (append_assoc h.transactions (e.said ∷ []) (map (λ (f : Entry). f.said) es))

-- it is as long as is told of the history
one_size : (e : Entry) → entry_size e ≡ transaction_size e.said
one_size e = ap (λ (n : ℕ). BARE_TXN_LEN + length e.said.user + length e.said.description + length e.said.extension + n) (sym (sum-map sizes.record_size e.said.records))

all_sizes : (es : List Entry) → sum_by entry_size es ≡ sum_by transaction_size (map (λ (e : Entry). e.said) es)
all_sizes [] = refl
all_sizes (e ∷ es) =
    sum_by-cons entry_size e es
    ∙ ap₂ (λ (m n : ℕ). m + n) (one_size e) (all_sizes es)
    ∙ sym (sum_by-cons transaction_size e.said (map (λ (f : Entry). f.said) es))

pub full_said : (es : List Entry) (h : History) → map (λ (e : Entry). e.said) es ≡ h.transactions → file_size es ≡ full_size h
full_said es h is =
    ap (λ (n : ℕ). 4 + n) (all_sizes es ∙ sym (sum-map transaction_size (map (λ (e : Entry). e.said) es)) ∙ ap (λ (xs : List Transaction). sum (map transaction_size xs)) is)

-- The transactions of a history are written as a file of it.
pub spelled : (es : List Entry) → AllByRecursion IsEntry es → RisesFrom 0 (map (λ (e : Entry). e.said) es) → file_size es < 2 ^ 64
    → (front : Front) × IsFile (file_of es) front × (front.history ≡ the_history (floor_from 0 es) (map (λ (e : Entry). e.said) es))
spelled es all rise short = (front_of (blocks_behind [] es), the_file (blocks_behind [] es) (right_behind_all [] es tt all rise short), history_behind [] es)
