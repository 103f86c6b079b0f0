-- The transaction that waits counts: what the file says then, and what the store knows.
use Rattle.std.proofs.Common.{◌≡◌, ℕ, ◌+◌, ◌<◌, ◌≤◌, ◌^◌, List, [], ◌∷◌, ◌++◌, length, set, take, max, min, Option, Some, None, IfSome, refl, sym, ap, ap₂, subst, ◌∙◌, append-nil, arith, inl, inr}
use Rattle.std.specs.Prelude.{◌⊎◌, ◌==◌, if◌then◌else◌, slice_set}
use Rattle.std.proofs.lemmas.List.{length-append, map-append, set-append_right, length-take-le, take_all}
use Rattle.std.proofs.lemmas.Grind.{flat_map-append}
use Rattle.zbase.specs.History.{History, Transaction, added}
use Rattle.zbase.specs.HistoryLaws.{last_after-append}
use Rattle.zbase.specs.Values.{Revision, last, next, next_after, revisions, revisions_of}
use Rattle.zbase.specs.declared.ids.Row.{Row}
use Rattle.zdisk.specs.Crashes.{Becomes, IsSynced, LeavesFrom}
use Rattle.zdisk.specs.Disk.{Told, content}
use Rattle.zdisk.specs.Images.{moment}
use Rattle.zdisk.specs.MomentLaws.{held_now, piles_later}
use Rattle.fs_index.specs.Places.{place_of}
use Rattle.fs_record.specs.declared.body.Item.{Item}
use Rattle.fs_record.specs.declared.body.TxnTexts.{TxnTexts}
use Rattle.fs_record.specs.File.{Earlier, Front, IsFile, IsRight, after, after_in, front_of, last_place, records_from, records_place, rows, transaction_of}
use Rattle.fs_record.specs.FileLaws.{file_place}
use Rattle.fs_record.specs.FileReading.{head_within, reads_file, status_at, status_set}
use Rattle.fs_record.specs.Reading.{opening_of}
use Rattle.fs_record.specs.Sizes.{length-data, length-transaction}
use Rattle.fs_record.specs.Spelling.{data_spelling, Block, Inside, Records, Skipped, block_spelling}
use Rattle.fs_record.specs.WalkLaws.{grows, is_file, whole}
use Rattle.fs_record.specs.Written.{IsWritable, data_of, records_of, said_by, transaction}
use Rattle.fs_record.specs.WrittenLaws.{history-transaction, right_behind}
use Rattle.fs_scan.specs.Newest.{place_in}
use Rattle.fs_store.specs.declared.file.OpenFile.{OpenFile}
use Rattle.fs_store.specs.declared.reads.Loaded.{Loaded}
use Rattle.fs_store.specs.declared.waiting.Waiting.{Waiting}
use Rattle.fs_store.specs.Fronts.{file_at, front_at, front_in, history_at, history_where, records_at}
use Rattle.fs_store.specs.Kept.{IsKept, Knowable, StandsBehind, out_of}
use Rattle.fs_store.specs.Knowing.{Knows}
use Rattle.fs_store.specs.Moments.{OpensTo}
use Rattle.fs_store.specs.Placed.{first_at, item_rows, next_with}
use Rattle.fs_store.specs.Seeing.{ReadIn, ReadOn}
use Rattle.fs_store.specs.Stores.{most_length}
use Rattle.zbase.specs.Limits.{greatest_number}
use Rattle.fs_store.proofs.Files.{file_front}
use Rattle.fs_store.proofs.Images.{opens_file, opens_rest, own_image, torn_is_end}

-- ---- the block, before and after

abbrev pub piece_of : ℕ → OpenFile → Waiting → List ℕ
piece_of status k w = block_spelling (transaction k.end w.tid status w.texts w.items)

abbrev pub counted_front : Told → OpenFile → Waiting → Front
counted_front t k w = after (front_at t k.end) (transaction k.end w.tid 32 w.texts w.items)

pub long_file : (t : Told) (k : OpenFile) → Knows t k → length (file_at t k.end) ≡ k.end
long_file t k knows = length-take-le k.end (content t) knows.within

pub writable_counted : (start tid : ℕ) (texts : TxnTexts) (items : List Item) → IsWritable start tid 99 texts items → IsWritable start tid 32 texts items
writable_counted start tid texts items w = record {
  id = w.id;
  user = w.user;
  description = w.description;
  extension = w.extension;
  each = w.each;
  end = omega (arith, w.end, length-transaction start tid 99 texts items, length-transaction start tid 32 texts items);
}

pub same_size : (k : OpenFile) (w : Waiting) → length (piece_of 32 k w) ≡ length (piece_of 99 k w)
same_size k w = length-transaction k.end w.tid 32 w.texts w.items ∙ sym (length-transaction k.end w.tid 99 w.texts w.items)

right_counted : (t : Told) (k : OpenFile) (w : Waiting) → Knows t k → StandsBehind t k w → IsWritable k.end w.tid 99 w.texts w.items → IsRight (front_at t k.end) (transaction k.end w.tid 32 w.texts w.items)
right_counted t k w knows stands writable =
    right_behind (front_at t k.end) k.end w.tid 32 w.texts w.items (sym (long_file t k knows) ∙ sym (file_place (file_at t k.end) (front_at t k.end) knows.file)) (writable_counted k.end w.tid w.texts w.items writable) stands.goes

-- the longer file
pub file_counted : (t : Told) (k : OpenFile) (w : Waiting) → Knows t k → StandsBehind t k w → IsWritable k.end w.tid 99 w.texts w.items → IsFile (file_at t k.end ++ piece_of 32 k w) (counted_front t k w)
file_counted t k w knows stands writable = is_file _ _ _ (grows (file_at t k.end) (front_at t k.end) (front_at t k.end) _ (whole (file_at t k.end) (front_at t k.end) knows.file) (right_counted t k w knows stands writable))

pub history_counted : (t : Told) (k : OpenFile) (w : Waiting) → (counted_front t k w).history ≡ added (history_at t k.end) (said_by (records_at t k.end) w.tid w.texts w.items)
history_counted t k w = history-transaction (front_at t k.end) k.end w.tid 32 w.texts w.items

-- setting the status byte behind a file
pub set_behind : (file piece : List ℕ) (i byte : ℕ) → set (file ++ piece) (length file + i) byte ≡ file ++ set piece i byte
set_behind file piece i byte = set-append_right file piece (length file) (length file + i) byte refl (omega arith) ∙ ap (λ (n : ℕ). file ++ set piece n byte) (omega arith)

pub status_counted : (t : Told) (k : OpenFile) (w : Waiting) → Knows t k → StandsBehind t k w → slice_set (content t) (k.end + 16) 32 ≡ file_at t k.end ++ piece_of 32 k w
status_counted t k w knows stands =
    ap₂ (λ (bytes : List ℕ) (n : ℕ). slice_set bytes n 32) stands.behind (ap (λ (n : ℕ). n + 16) (sym (long_file t k knows)))
    ∙ set_behind (file_at t k.end) (piece_of 99 k w) 16 32
    ∙ ap (λ (p : List ℕ). file_at t k.end ++ p) (status_set k.end w.tid 99 32 w.texts w.items)

-- ---- images

pub opens_waiting : (t : Told) (k : OpenFile) (w : Waiting) → Knows t k → StandsBehind t k w → length (content t) ≤ most_length → OpensTo (content t) (history_at t k.end) k.end
opens_waiting t k w knows stands fits =
    opens_rest (file_at t k.end) (piece_of 99 k w) (content t) (front_at t k.end) k.end knows.file stands.behind (torn_is_end (piece_of 99 k w) (inl (status_at k.end w.tid 99 w.texts w.items))) (long_file t k knows) fits

-- the file of which it is a part has as many bytes as before
pub long_counted : (t : Told) (k : OpenFile) (w : Waiting) → StandsBehind t k w → length (file_at t k.end ++ piece_of 32 k w) ≡ length (content t)
long_counted t k w stands = omega (arith, length-append (file_at t k.end) (piece_of 32 k w), length-append (file_at t k.end) (piece_of 99 k w), ap length stands.behind, same_size k w)

ends_counted : (t : Told) (k : OpenFile) (w : Waiting) → Knows t k → w.size ≡ length (piece_of 99 k w) → length (file_at t k.end ++ piece_of 32 k w) ≡ k.end + w.size
ends_counted t k w knows size = omega (arith, length-append (file_at t k.end) (piece_of 32 k w), long_file t k knows, same_size k w, size)

pub opens_counted : (t : Told) (k : OpenFile) (w : Waiting) → Knows t k → StandsBehind t k w → IsWritable k.end w.tid 99 w.texts w.items → w.size ≡ length (piece_of 99 k w) → length (content t) ≤ most_length
    → OpensTo (file_at t k.end ++ piece_of 32 k w) (added (history_at t k.end) (said_by (records_at t k.end) w.tid w.texts w.items)) (k.end + w.size)
opens_counted t k w knows stands writable size fits =
    subst (λ (h : History). OpensTo (file_at t k.end ++ piece_of 32 k w) h (k.end + w.size)) (history_counted t k w)
    (opens_file _ _ (k.end + w.size) (file_counted t k w knows stands writable) (ends_counted t k w knows size) (omega (arith, fits, long_counted t k w stands)))

-- ---- what the store knows then

rows_from : (earlier : List Earlier) (tid start place : ℕ) (items : List Item) → rows (records_from earlier place (records_of tid start items)) ≡ item_rows place items
rows_from earlier tid start place [] = refl
rows_from earlier tid start place (item ∷ items) =
    ap₂ (λ (row : Row) (rs : List Row). row ∷ rs) refl (rows_from earlier tid start (place + length (data_spelling (data_of tid start item))) items ∙ ap (λ (n : ℕ). item_rows (place + n) items) (length-data (data_of tid start item)))

last_place-append : (o found : ℕ) (xs ys : List Row) → last_place o found (xs ++ ys) ≡ last_place o (last_place o found xs) ys
last_place-append o found [] ys = refl
last_place-append o found (x ∷ xs) ys = last_place-append o (if x.oid == o then x.place else found) xs ys

next_after-append : (xs ys : List Revision) → next_after (xs ++ ys) ≡ max (next_after xs) (next_after ys)
next_after-append [] ys = omega arith
next_after-append (x ∷ xs) ys = omega (arith, next_after-append xs ys)

next_of_items : (earlier : List Earlier) (tid above : ℕ) (texts : TxnTexts) (items : List Item) → max above (next_after (revisions_of (said_by earlier tid texts items))) ≡ next_with above items
next_of_items earlier tid above texts [] = omega arith
next_of_items earlier tid above texts (item ∷ items) = omega (arith, next_of_items earlier tid (max above (item.oid + 1)) texts items)

next_longer : (h : History) (earlier : List Earlier) (tid : ℕ) (texts : TxnTexts) (items : List Item) → next (added h (said_by earlier tid texts items)) ≡ next_with (next h) items
next_longer h earlier tid texts items =
    let x = said_by earlier tid texts items in
    let e : revisions (added h x) ≡ revisions h ++ revisions_of x = flat_map-append revisions_of h.transactions (x ∷ []) ∙ ap (λ (rs : List Revision). revisions h ++ rs) (append-nil (revisions_of x)) in
    ap next_after e ∙ next_after-append (revisions h) (revisions_of x) ∙ next_of_items earlier tid (next h) texts items

last_longer : (h : History) (x : Transaction) → last (added h x) ≡ x.tid
last_longer h x = last_after-append 0 h.transactions (x ∷ [])

-- there are no more transactions than bytes
few_after : (front : Front) (b : Block) (i : Inside) → length front.history.transactions ≤ front.place → length (after_in front b i).history.transactions ≤ (after_in front b i).place
unfolding after_in
few_after front b (Skipped bytes) le = omega (arith, le)
few_after front b (Records ds) le = omega (arith, le, length-append front.history.transactions (transaction_of front.records b ds ∷ []))

few_blocks : (bs : List Block) → length (front_of bs).history.transactions ≤ (front_of bs).place
few_blocks [] = omega arith
few_blocks (b ∷ bs) = few_after (front_of bs) b b.inside (few_blocks bs)

few : (file : List ℕ) (front : Front) → IsFile file front → length front.history.transactions ≤ front.place
few file front is = subst (λ (f : Front). length f.history.transactions ≤ f.place) (sym is.said) (few_blocks is.blocks)

count_one : (c n m end long : ℕ) → c ≡ min (n + 1) greatest_number → n ≡ m → m ≤ end → end + long < 2 ^ 64 → 23 ≤ long → c ≡ m + 1
count_one c n m end long is same few fits some = omega (arith, is, same, few, fits, some)

rows_counted : (t : Told) (k : OpenFile) (w : Waiting) → Knows t k → rows (counted_front t k w).records ≡ rows (records_at t k.end) ++ item_rows (first_at k.end w.texts) w.items
unfolding after_in
rows_counted t k w knows =
    let front = front_at t k.end in
    let place : front.place ≡ k.end = file_place (file_at t k.end) front knows.file ∙ long_file t k knows in
    map-append (λ (e : Earlier). e.at) front.records (records_from front.records (records_place front.place (transaction k.end w.tid 32 w.texts w.items)) (records_of w.tid k.end w.items))
    ∙ ap (λ (rs : List Row). rows front.records ++ rs) (rows_from front.records w.tid k.end _ w.items ∙ ap (λ (n : ℕ). item_rows n w.items) (omega (arith, place)))

-- what the store has then of the transaction that waited
pub record Learnt (k k' : OpenFile) (w : Waiting) : Type 0 where
  pub numbers : (k'.end ≡ k.end + w.size) × (k'.last ≡ w.tid)
  pub floor : k'.floor ≡ k.floor
  pub len : k'.len ≡ k.len
  pub next : (k'.next ≡ next_with k.next w.items) × (k'.next ≤ 2 ^ 64)
  pub count : k'.count ≡ min (k.count + 1) greatest_number
  pub index : (o : ℕ) → place_in (place_of k'.index o) ≡ last_place o (place_in (place_of k.index o)) (item_rows (first_at k.end w.texts) w.items)

pub content_counted : (t u : Told) (k : OpenFile) (w : Waiting) → Knows t k → StandsBehind t k w → content u ≡ slice_set (content t) (k.end + 16) 32 → content u ≡ file_at t k.end ++ piece_of 32 k w
content_counted t u k w knows stands written = written ∙ status_counted t k w knows stands

pub end_counted : (t u : Told) (k k' : OpenFile) (w : Waiting) → Knows t k → w.size ≡ length (piece_of 99 k w) → content u ≡ file_at t k.end ++ piece_of 32 k w → Learnt k k' w → k'.end ≡ length (content u)
end_counted t u k k' w knows size is learnt = omega (arith, learnt.numbers.0, size, ap length is, length-append (file_at t k.end) (piece_of 32 k w), long_file t k knows, same_size k w)

pub whole_counted : (t u : Told) (k k' : OpenFile) (w : Waiting) → Knows t k → w.size ≡ length (piece_of 99 k w) → content u ≡ file_at t k.end ++ piece_of 32 k w → Learnt k k' w → file_at u k'.end ≡ file_at t k.end ++ piece_of 32 k w
whole_counted t u k k' w knows size is learnt = take_all k'.end (content u) (omega (arith, end_counted t u k k' w knows size is learnt)) ∙ is

pub front_counted : (t u : Told) (k k' : OpenFile) (w : Waiting) → Knows t k → StandsBehind t k w → IsWritable k.end w.tid 99 w.texts w.items → file_at u k'.end ≡ file_at t k.end ++ piece_of 32 k w → front_at u k'.end ≡ counted_front t k w
front_counted t u k k' w knows stands writable same =
    ap (λ (f : List ℕ). front_in (opening_of f)) same ∙ ap front_in (reads_file _ (counted_front t k w) (file_counted t k w knows stands writable))

pub knows_counted : (t u : Told) (k k' : OpenFile) (w : Waiting) → Knows t k → StandsBehind t k w → IsWritable k.end w.tid 99 w.texts w.items → w.size ≡ length (piece_of 99 k w) → IsSynced u → content u ≡ file_at t k.end ++ piece_of 32 k w → Learnt k k' w → Knows u k'
knows_counted t u k k' w knows stands writable size synced is learnt =
    let h = history_at t k.end in
    let x = said_by (records_at t k.end) w.tid w.texts w.items in
    let file = whole_counted t u k k' w knows size is learnt in
    let front = front_counted t u k k' w knows stands writable file in
    let history : history_at u k'.end ≡ added h x = ap (λ (f : Front). f.history) front ∙ history_counted t k w in
    let place : (front_at t k.end).place ≡ k.end = file_place (file_at t k.end) (front_at t k.end) knows.file ∙ long_file t k knows in
    let le : length h.transactions ≤ k.end = subst (λ (n : ℕ). length h.transactions ≤ n) place (few (file_at t k.end) (front_at t k.end) knows.file) in
    let one_more : length (added h x).transactions ≡ length h.transactions + 1 = length-append h.transactions (x ∷ []) in
    record {
      synced = synced;
      within = omega (arith, end_counted t u k k' w knows size is learnt);
      file = subst (λ (f : Front). IsFile (file_at u k'.end) f) (sym front) (subst (λ (b : List ℕ). IsFile b (counted_front t k w)) (sym file) (file_counted t k w knows stands writable));
      last_is = learnt.numbers.1 ∙ sym (last_longer h x) ∙ sym (ap last history);
      floor_is = learnt.floor ∙ knows.floor_is ∙ sym (ap (λ (g : History). g.floor) history);
      next_is = learnt.next.0 ∙ ap (λ (n : ℕ). next_with n w.items) knows.next_is ∙ sym (next_longer h (records_at t k.end) w.tid w.texts w.items) ∙ sym (ap next history);
      count_is = count_one (k'.count) k.count (length h.transactions) k.end (length (piece_of 99 k w)) learnt.count knows.count_is le writable.end (head_within (transaction k.end w.tid 99 w.texts w.items)) ∙ sym one_more ∙ sym (ap (λ (g : History). length g.transactions) history);
      newest = λ o.
          learnt.index o
          ∙ ap (λ (n : ℕ). last_place o n (item_rows (first_at k.end w.texts) w.items)) (knows.newest o)
          ∙ sym (last_place-append o 0 (rows (records_at t k.end)) (item_rows (first_at k.end w.texts) w.items))
          ∙ sym (ap (last_place o 0) (rows_counted t k w knows))
          ∙ sym (ap (λ (f : Front). last_place o 0 (rows f.records)) front);
    }

-- ---- over every disk

pub kept_counted : (o u : Option Told) (k k' : OpenFile) (w : Waiting) (limit calls bytes calls_left bytes_left : ℕ) → IsKept o k limit (Some w) calls bytes → Becomes o u (λ file. slice_set file (k.end + 16) 32) → Learnt k k' w → IsKept u k' limit None calls_left bytes_left
kept_counted None None k k' w limit calls bytes calls_left bytes_left kept became learnt = record { bound = learnt.next.1; knows = tt; fits = tt; long = tt; alone = λ none. tt; waits = tt }
kept_counted None (Some u) k k' w limit calls bytes calls_left bytes_left kept became learnt = absurd became
kept_counted (Some t) None k k' w limit calls bytes calls_left bytes_left kept became learnt = absurd became
kept_counted (Some t) (Some u) k k' w limit calls bytes calls_left bytes_left kept became learnt =
    let v = kept.waits in
    let is = content_counted t u k w kept.knows v.stands became.1 in
    record {
      bound = learnt.next.1;
      knows = knows_counted t u k k' w kept.knows v.stands v.writable v.size_is became.0 is learnt;
      fits = omega (arith, ap length is, long_counted t k w v.stands, kept.fits);
      long = learnt.len ∙ kept.long ∙ sym (ap length is ∙ long_counted t k w v.stands);
      alone = λ none. end_counted t u k k' w kept.knows v.size_is is learnt;
      waits = tt;
    }

pub stands_counted : (o u : Option Told) (k k' : OpenFile) (w : Waiting) (limit calls bytes : ℕ) → IsKept o k limit (Some w) calls bytes → Becomes o u (λ file. slice_set file (k.end + 16) 32) → Learnt k k' w → IfSome o (λ t. history_where u k'.end ≡ added (history_at t k.end) (out_of o k.end w).transaction)
stands_counted None u k k' w limit calls bytes kept became learnt = tt
stands_counted (Some t) None k k' w limit calls bytes kept became learnt = absurd became
stands_counted (Some t) (Some u) k k' w limit calls bytes kept became learnt =
    let v = kept.waits in
    let is = content_counted t u k w kept.knows v.stands became.1 in
    let file = whole_counted t u k k' w kept.knows v.size_is is learnt in
    ap (λ (f : Front). f.history) (front_counted t u k k' w kept.knows v.stands v.writable file) ∙ history_counted t k w

pub read_counted : (o u : Option Told) (k k' : OpenFile) (w : Waiting) (limit calls bytes : ℕ) (oid : ℕ) (s : Loaded) → IsKept o k limit (Some w) calls bytes → Becomes o u (λ file. slice_set file (k.end + 16) 32) → Learnt k k' w → ReadOn o k.end oid s → ReadOn u k'.end oid s
read_counted None None k k' w limit calls bytes oid s kept became learnt seen = tt
read_counted None (Some u) k k' w limit calls bytes oid s kept became learnt seen = absurd became
read_counted (Some t) None k k' w limit calls bytes oid s kept became learnt seen = absurd became
read_counted (Some t) (Some u) k k' w limit calls bytes oid s kept became learnt seen =
    let v = kept.waits in
    let is = content_counted t u k w kept.knows v.stands became.1 in
    let file = whole_counted t u k k' w kept.knows v.size_is is learnt in
    let front = front_counted t u k k' w kept.knows v.stands v.writable file in
    let more : ReadIn (file_at t k.end ++ piece_of 32 k w) (counted_front t k w) oid s = record {
      at = seen.at;
      passed = grows (file_at t k.end) (front_at t k.end) seen.at _ seen.passed (right_counted t k w kept.knows v.stands v.writable);
      serial_is = seen.serial_is;
      place_is = seen.place_is;
      value_is = seen.value_is;
    } in
    subst (λ (f : Front). ReadIn (file_at u k'.end) f oid s) (sym front) (subst (λ (b : List ℕ). ReadIn b (counted_front t k w) oid s) (sym file) more)

-- before or after, at every moment
abbrev Sets : ℕ → List ℕ → List ℕ → Type 0
Sets at file image = (image ≡ file) ⊎ (image ≡ slice_set file at 32)

either_opens : (t : Told) (k : OpenFile) (w : Waiting) (limit calls bytes : ℕ) (image : List ℕ) → IsKept (Some t) k limit (Some w) calls bytes → Sets (k.end + 16) (content t) image
    → OpensTo image (history_at t k.end) k.end ⊎ OpensTo image (added (history_at t k.end) (said_by (records_at t k.end) w.tid w.texts w.items)) (k.end + w.size)
either_opens t k w limit calls bytes image kept (inl e) = inl (subst (λ (b : List ℕ). OpensTo b (history_at t k.end) k.end) (sym e) (opens_waiting t k w kept.knows kept.waits.stands kept.fits))
either_opens t k w limit calls bytes image kept (inr e) =
    let v = kept.waits in
    inr (subst (λ (b : List ℕ). OpensTo b (added (history_at t k.end) (said_by (records_at t k.end) w.tid w.texts w.items)) (k.end + w.size)) (sym (e ∙ status_counted t k w kept.knows v.stands)) (opens_counted t k w kept.knows v.stands v.writable v.size_is kept.fits))

pub moments_counted : (o u : Option Told) (k : OpenFile) (w : Waiting) (limit calls bytes : ℕ) → IsKept o k limit (Some w) calls bytes → LeavesFrom o u (λ file image. (image ≡ file) ⊎ (image ≡ slice_set file (k.end + 16) 32))
    → LeavesFrom o u (λ file image. OpensTo image (history_where o k.end) k.end ⊎ OpensTo image (added (history_where o k.end) (out_of o k.end w).transaction) (k.end + w.size))
moments_counted None None k w limit calls bytes kept all = tt
moments_counted None (Some u) k w limit calls bytes kept all = absurd all
moments_counted (Some t) None k w limit calls bytes kept all = absurd all
moments_counted (Some t) (Some u) k w limit calls bytes kept all = (all.0, λ held since image is. either_opens t k w limit calls bytes image kept (all.1 held since image is))

pub either_front : (t u : Told) (k : OpenFile) (w : Waiting) → Knows t k → StandsBehind t k w → Sets (k.end + 16) (content t) (content u) → file_at u k.end ≡ file_at t k.end
either_front t u k w knows stands (inl e) = ap (take k.end) e
either_front t u k w knows stands (inr e) = file_front t u k.end (piece_of 32 k w) knows.within (e ∙ status_counted t k w knows stands)

pub history_undecided : (o u : Option Told) (k : OpenFile) (w : Waiting) (limit calls bytes : ℕ) → IsKept o k limit (Some w) calls bytes → LeavesFrom o u (λ file image. (image ≡ file) ⊎ (image ≡ slice_set file (k.end + 16) 32)) → history_where u k.end ≡ history_where o k.end
history_undecided None None k w limit calls bytes kept all = refl
history_undecided None (Some u) k w limit calls bytes kept all = absurd all
history_undecided (Some t) None k w limit calls bytes kept all = absurd all
history_undecided (Some t) (Some u) k w limit calls bytes kept all =
    ap (λ (f : List ℕ). (front_in (opening_of f)).history) (either_front t u k w kept.knows kept.waits.stands (all.1 u.now (held_now u (moment t) (piles_later t u all.0)) (content u) (own_image u.now)))

-- ---- what the calls want

pub status_within : (o : Option Told) (k : OpenFile) (w : Waiting) (limit calls bytes : ℕ) → IsKept o k limit (Some w) calls bytes → (t : Told) → o ≡ Some t → IsSynced t × (k.end + 16 < length (content t))
status_within o k w limit calls bytes kept t is =
    let knows : Knows t k = subst (λ (x : Option Told). IfSome x (λ s. Knows s k)) is kept.knows in
    let stands : StandsBehind t k w = subst (λ (x : Option Told). IfSome x (λ s. StandsBehind s k w)) is kept.waits.stands in
    (knows.synced, omega (arith, ap length stands.behind, length-append (file_at t k.end) (piece_of 99 k w), long_file t k knows, head_within (transaction k.end w.tid 99 w.texts w.items)))

pub knowable : (o : Option Told) (k : OpenFile) (w : Waiting) (limit calls bytes : ℕ) → limit ≤ most_length → IsKept o k limit (Some w) calls bytes → Knowable k w
knowable o k w limit calls bytes most kept =
    let v = kept.waits in
    let size = length-transaction k.end w.tid 99 w.texts w.items in
    record {
      bound = kept.bound;
      fits = omega (arith, size, v.size_is, v.within, most);
      within = omega (arith, v.within, most);
      room = v.room;
    }
