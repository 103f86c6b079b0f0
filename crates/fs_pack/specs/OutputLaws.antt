-- What is written is the file of the transactions.
use Rattle.std.proofs.Common.{◌≡◌, ℕ, ◌+◌, ◌==◌, Bool, true, false, List, [], ◌∷◌, ◌++◌, length, map, sum_by, Option, None, Some, refl, sym, ap, ap₂, ◌∙◌, arith, eqb-true, if◌then◌else◌}
use Rattle.std.proofs.lemmas.List.{length-append, map-append}
use Rattle.std.proofs.lemmas.List.Sums.{sum_by-cons}
use Rattle.zbase.specs.History.{Value}
use Rattle.zbase.specs.NumberLaws.{length-be64}
use Rattle.zbase.specs.declared.ids.Row.{Row}
use Rattle.fs_index.specs.Places.{known, or_zero, place_of}
use Rattle.fs_record.specs.File.{Earlier, Front, after_in, bytes_of, front_of, last_place, records_from, records_place, rows}
use Rattle.fs_record.specs.Sizes.{length-data, length-transaction, long-transaction, record_size, records_size, texts_size}
use Rattle.fs_record.specs.Spelling.{Block, Data, Records, block_spelling, data_spelling, long_of}
use Rattle.fs_record.specs.Written.{data_of, records_of, transaction}
use Rattle.fs_record.specs.declared.body.Item.{Item}
use Rattle.fs_record.specs.declared.layout.TheConstants.{DATA_HEAD_LEN, TAIL_LEN, TXN_HEAD_LEN}
use Rattle.packing.specs.Sizes as sizes
use Rattle.fs_pack.specs.Entries.{Entry}
use Rattle.fs_pack.specs.Output.{Appends, IsOutput, block_with, item_with, items_with, noted}
use Rattle.fs_pack.specs.Spelled.{block_of, blocks_behind, body_of, entry_size, item_of, items_of, texts_of}
use Rattle.fs_pack.specs.SpelledLaws.{behind-append}
use Rattle.fs_pack.specs.declared.writing.Output.{Output}

-- ---- how long it is

item_long : (found : ℕ → Option ℕ) (r : ℕ × Value) → record_size (item_with found r) ≡ sizes.record_size r
item_long found (o, None) = ap (λ (n : ℕ). DATA_HEAD_LEN + n) (length-be64 0)
item_long found (o, Some bytes) = refl

items_long : (found : ℕ → Option ℕ) (rs : List (ℕ × Value)) → records_size (items_with found rs) ≡ sum_by sizes.record_size rs
items_long found [] = refl
items_long found (r ∷ rs) =
    sum_by-cons record_size (item_with found r) (items_with found rs)
    ∙ ap₂ (λ (m n : ℕ). m + n) (item_long found r) (items_long found rs)
    ∙ sym (sum_by-cons sizes.record_size r rs)

pub with_size : (end : ℕ) (found : ℕ → Option ℕ) (e : Entry) → length (block_spelling (block_with end found e)) ≡ entry_size e
with_size end found e = omega (arith, length-transaction end e.said.tid e.status (texts_of e.said) (items_with found e.said.records), items_long found e.said.records)

-- ---- its records' previous places

or_known : (place : ℕ) → or_zero (known place) ≡ place
or_known place = go (place == 0) refl
  where
    go : (b : Bool) → (place == 0) ≡ b → or_zero (if b then None else Some place) ≡ place
    go true is = sym (eqb-true place 0 is)
    go false is = refl

same_items : (found : ℕ → Option ℕ) (earlier : List Row) (rs : List (ℕ × Value)) → ((o : ℕ) → found o ≡ known (last_place o 0 earlier)) → items_with found rs ≡ map (item_of earlier) rs
same_items found earlier [] is = refl
same_items found earlier (r ∷ rs) is =
    ap₂ (λ (n : ℕ) (items : List Item). let all : List Item = record { oid = r.0; prev = n; body = body_of r.1 } ∷ items in all) (ap or_zero (is r.0) ∙ or_known (last_place r.0 0 earlier)) (same_items found earlier rs is)

-- ---- where its records stand

last-append : (o f : ℕ) (xs ys : List Row) → last_place o f (xs ++ ys) ≡ last_place o (last_place o f xs) ys
last-append o f [] ys = refl
last-append o f (x ∷ xs) ys = last-append o (if x.oid == o then x.place else f) xs ys

noted_so : (o f place tid start : ℕ) (earlier : List Earlier) (items : List Item) → noted o (known f) place items ≡ known (last_place o f (rows (records_from earlier place (records_of tid start items))))
noted_so o f place tid start earlier [] = refl
noted_so o f place tid start earlier (item ∷ items) =
    ap₂ (λ (g : Option ℕ) (n : ℕ). noted o g n items) (choose (item.oid == o)) (ap (λ (n : ℕ). place + n) (sym (length-data (data_of tid start item))))
    ∙ noted_so o (if item.oid == o then place else f) (place + length (data_spelling (data_of tid start item))) tid start earlier items
  where
    choose : (b : Bool) → (if b then known place else known f) ≡ known (if b then place else f)
    choose true = refl
    choose false = refl

-- the records behind a transaction that is written
after_records : (front : Front) (b : Block) (ds : List Data) → (after_in front b (Records ds)).records ≡ front.records ++ records_from front.records (records_place front.place b) ds
unfolding after_in
after_records front b ds = refl

after_place : (front : Front) (b : Block) (ds : List Data) → (after_in front b (Records ds)).place ≡ front.place + (long_of b + TAIL_LEN)
unfolding after_in
after_place front b ds = refl

-- a front's place is the length of its bytes
pub place_is : (bs : List Block) (es : List Entry) → (front_of bs).place ≡ length (bytes_of bs) → (front_of (blocks_behind bs es)).place ≡ length (bytes_of (blocks_behind bs es))
place_is bs [] is = is
place_is bs (e ∷ es) is =
    let b = block_of (front_of bs) e in
    let items = items_of (front_of bs) e.said in
    place_is (b ∷ bs) es
    (after_place (front_of bs) b (records_of e.said.tid (front_of bs).place items)
    ∙ omega (arith, is, length-append (bytes_of bs) (block_spelling b), length-transaction (front_of bs).place e.said.tid e.status (texts_of e.said) items, long-transaction (front_of bs).place e.said.tid e.status (texts_of e.said) items))

pub output_first : (output : Output) (file : List ℕ) → output.end ≡ 4 → ((o : ℕ) → place_of output.newest o ≡ None) → file ≡ bytes_of [] → IsOutput [] output file
output_first output file end none is = record { spelled = is; end = end ∙ sym (ap length is); newest = none }

-- one transaction more
pub output_more : (es : List Entry) (e : Entry) (old new : Output) (before after : List ℕ) → IsOutput es old before → Appends e old new → after ≡ before ++ block_spelling (block_with old.end (place_of old.newest) e) → IsOutput (es ++ e ∷ []) new after
output_more es e old new before after is more file = record {
  spelled = file ∙ ap₂ (λ (xs : List ℕ) (b : Block). xs ++ block_spelling b) is.spelled block ∙ sym (ap bytes_of (behind-append [] es (e ∷ [])));
  end = more.end ∙ ap₂ (λ (m n : ℕ). m + n) is.end (sym (with_size old.end (place_of old.newest) e)) ∙ sym (ap length file ∙ length-append before (block_spelling (block_with old.end (place_of old.newest) e)));
  newest = λ o.
      more.newest o
      ∙ ap (λ (f : Option ℕ). noted o f (old.end + TXN_HEAD_LEN + texts_size (texts_of e.said)) (items_with (place_of old.newest) e.said.records)) (is.newest o)
      ∙ ap₂ (λ (n : ℕ) (items : List Item). noted o (known (last_place o 0 (rows front.records))) n items) first items
      ∙ noted_so o (last_place o 0 (rows front.records)) (records_place front.place (block_of front e)) e.said.tid front.place front.records (items_of front e.said)
      ∙ sym (ap (λ (bs : List Block). known (last_place o 0 (rows (front_of bs).records))) (behind-append [] es (e ∷ []))
      ∙ ap (λ (xs : List Earlier). known (last_place o 0 (rows xs))) (after_records front (block_of front e) ds)
      ∙ ap (λ (rs : List Row). known (last_place o 0 rs)) (map-append (λ (x : Earlier). x.at) front.records (records_from front.records (records_place front.place (block_of front e)) ds))
      ∙ ap known (last-append o 0 (rows front.records) (rows (records_from front.records (records_place front.place (block_of front e)) ds))));
}
  where
    bs : List Block
    bs = blocks_behind [] es

    front : Front
    front = front_of bs

    ds : List Data
    ds = records_of e.said.tid front.place (items_of front e.said)

    end : old.end ≡ front.place
    end = is.end ∙ ap length is.spelled ∙ sym (place_is [] es refl)

    items : items_with (place_of old.newest) e.said.records ≡ items_of front e.said
    items = same_items (place_of old.newest) (rows front.records) e.said.records is.newest

    block : block_with old.end (place_of old.newest) e ≡ block_of front e
    block = ap₂ (λ (n : ℕ) (xs : List Item). transaction n e.said.tid e.status (texts_of e.said) xs) end items

    first : old.end + TXN_HEAD_LEN + texts_size (texts_of e.said) ≡ records_place front.place (block_of front e)
    first = omega (arith, end)
