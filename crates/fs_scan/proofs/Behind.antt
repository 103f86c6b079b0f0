-- One block more behind a front.
use Rattle.std.proofs.Common.{◌≡◌, ℕ, ◌+◌, true, false, List, [], ◌∷◌, ◌++◌, length, refl, ap, ◌∙◌}
use Rattle.std.specs.Prelude.{◌==◌, if◌then◌else◌}
use Rattle.std.proofs.lemmas.List.{length-append, map-append}
use Rattle.std.proofs.lemmas.Bool.{eqb-true}
use Rattle.zbase.specs.declared.ids.Row.{Row}
use Rattle.zbase.specs.History.{History, Transaction}
use Rattle.zbase.specs.Values.{last}
use Rattle.zbase.specs.HistoryLaws.{last_after-append}
use Rattle.fs_record.specs.Spelling.{Data, Inside, Records, Skipped, Block, data_spelling}
use Rattle.fs_record.specs.Fits.{FitsInside}
use Rattle.fs_record.specs.File.{Earlier, Front, rows, records_from, records_place, longer, transaction_of, after_in, front_of, bytes_of, AreRight}
use Rattle.fs_record.specs.FileLaws.{file_place}
use Rattle.fs_scan.specs.Marked.{places_from}
use Rattle.fs_scan.specs.Taking.{rows_after}

pub block_place : (blocks : List Block) → AreRight blocks → (front_of blocks).place ≡ length (bytes_of blocks)
block_place blocks right = file_place (bytes_of blocks) (front_of blocks) (record { blocks = blocks; right = right; spelled = refl; said = refl })

rows-records_from : (earlier : List Earlier) (place : ℕ) (ds : List Data) → rows (records_from earlier place ds) ≡ places_from place ds
rows-records_from earlier place [] = refl
rows-records_from earlier place (d ∷ ds) = ap (λ (r : List Row). record { oid = d.oid; place = place } ∷ r) (rows-records_from earlier (place + length (data_spelling d)) ds)

pub rows_then : (front : Front) (b : Block) (i : Inside) → rows (after_in front b i).records ≡ rows_after (rows front.records) front.place b i
unfolding after_in
rows_then front b (Skipped bytes) = refl
rows_then front b (Records ds) = map-append (λ (e : Earlier). e.at) front.records (records_from front.records (records_place front.place b) ds) ∙ ap (λ (r : List Row). rows front.records ++ r) (rows-records_from front.records (records_place front.place b) ds)

last_then : (h : History) (status : ℕ) (x : Transaction) → last (longer h status x) ≡ x.tid
last_then h status x = last_after-append 0 h.transactions (x ∷ [])

-- the id, the floor and the number of transactions behind it; one undone in the old manner changes none of them
pub id_then : (front : Front) (b : Block) (i : Inside) → FitsInside b.status i → last (after_in front b i).history ≡ (if b.status == 117 then last front.history else b.tid)
unfolding after_in
id_then front b (Skipped bytes) fits = rw fits refl
id_then front b (Records ds) fits = last_then front.history b.status (transaction_of front.records b ds) ∙ rw fits.0 refl

not_packed : (status : ℕ) → (status == 117) ≡ true → (status == 112) ≡ false
not_packed status e = ap (λ (n : ℕ). n == 112) (eqb-true status 117 e)

pub floor_then : (front : Front) (b : Block) (i : Inside) → FitsInside b.status i → (after_in front b i).history.floor ≡ (if b.status == 112 then b.tid else front.history.floor)
unfolding after_in
floor_then front b (Skipped bytes) fits = rw (not_packed b.status fits) refl
floor_then front b (Records ds) fits = refl

pub count_then : (front : Front) (b : Block) (i : Inside) → FitsInside b.status i → length (after_in front b i).history.transactions ≡ (if b.status == 117 then length front.history.transactions else length front.history.transactions + 1)
unfolding after_in
count_then front b (Skipped bytes) fits = rw fits refl
count_then front b (Records ds) fits = length-append front.history.transactions (transaction_of front.records b ds ∷ []) ∙ rw fits.0 refl
