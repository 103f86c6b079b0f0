-- What is written of a draft is what it settles to.
use Rattle.std.proofs.Common.{◌≡◌, ℕ, zero, suc, ◌+◌, ◌<◌, Bool, true, false, cond, List, [], ◌∷◌, length, map, get_or, refl, ap, ◌∙◌, arith}
use Rattle.std.specs.Prelude.{nat_lt, All}
use Rattle.std.proofs.lemmas.List.Elements.{All-head, All-tail}
use Rattle.std.proofs.lemmas.List.Sums.{sum_by-cons}
use Rattle.zbase.specs.History.{Transaction, Value}
use Rattle.zdisk.specs.Disk.{Told, content}
use Rattle.evaluator.specs.declared.draft.Draft.{Draft}
use Rattle.evaluator.specs.Settle.{by_oid, placed as placed_record}
use Rattle.fs_record.specs.declared.body.Item.{Item}
use Rattle.fs_record.specs.File.{Earlier}
use Rattle.fs_record.specs.Sizes.{record_size, records_size}
use Rattle.fs_record.specs.Written.{HasBody}
use Rattle.fs_store.specs.Drafts.{sizes_of}
use Rattle.fs_store.specs.Fronts.{records_at}
use Rattle.fs_store.specs.Pointing.{IsDirect}
use Rattle.fs_store.specs.Settled.{AreOf, IsRight, IsSettled, SettlesAs, in_order, placed, says}

-- ---- by rising ids

said_placed : (earlier : List Earlier) (item : Item) (items : List Item) → map (says earlier) (placed item items) ≡ placed_record (says earlier item) (map (says earlier) items)
said_placed earlier item [] = refl
said_placed earlier item (i ∷ is) = go (nat_lt item.oid i.oid) (said_placed earlier item is)
  where
    go : (b : Bool) → map (says earlier) (placed item is) ≡ placed_record (says earlier item) (map (says earlier) is)
        → map (says earlier) (cond b (item ∷ i ∷ is) (i ∷ placed item is)) ≡ cond b (says earlier item ∷ says earlier i ∷ map (says earlier) is) (says earlier i ∷ placed_record (says earlier item) (map (says earlier) is))
    go true deeper = refl
    go false deeper = ap (λ rs. says earlier i ∷ rs) deeper

said_in_order : (earlier : List Earlier) (items : List Item) → map (says earlier) (in_order items) ≡ by_oid (map (says earlier) items)
said_in_order earlier [] = refl
said_in_order earlier (i ∷ is) = said_placed earlier i (in_order is) ∙ ap (placed_record (says earlier i)) (said_in_order earlier is)

all_cons : (P : Item → Type 0) (item : Item) (items : List Item) → P item → All P items → All P (item ∷ items)
all_cons P item items p all i d lt = go i lt
  where
    go : (i : ℕ) → i < length (item ∷ items) → P (get_or (item ∷ items) i d)
    go zero lt = p
    go (suc k) lt = all k d (omega (arith, lt))

all_placed : (P : Item → Type 0) (item : Item) (items : List Item) → P item → All P items → All P (placed item items)
all_placed P item [] p all = all_cons P item [] p all
all_placed P item (i ∷ is) p all = go (nat_lt item.oid i.oid) (all_placed P item is p (All-tail P i is all))
  where
    go : (b : Bool) → All P (placed item is) → All P (cond b (item ∷ i ∷ is) (i ∷ placed item is))
    go true deeper = all_cons P item (i ∷ is) p all
    go false deeper = all_cons P i (placed item is) (All-head P i is all) deeper

pub all_in_order : (P : Item → Type 0) (items : List Item) → All P items → All P (in_order items)
all_in_order P [] all = all
all_in_order P (i ∷ is) all = all_placed P i (in_order is) (All-head P i is all) (all_in_order P is (All-tail P i is all))

size_placed : (item : Item) (items : List Item) → records_size (placed item items) ≡ record_size item + records_size items
size_placed item [] = sum_by-cons record_size item []
size_placed item (i ∷ is) = go (nat_lt item.oid i.oid) (size_placed item is)
  where
    go : (b : Bool) → records_size (placed item is) ≡ record_size item + records_size is → records_size (cond b (item ∷ i ∷ is) (i ∷ placed item is)) ≡ record_size item + records_size (i ∷ is)
    go true deeper = sum_by-cons record_size item (i ∷ is)
    go false deeper = omega (arith, sum_by-cons record_size i (placed item is), sum_by-cons record_size i is, deeper)

size_in_order : (items : List Item) → records_size (in_order items) ≡ records_size items
size_in_order [] = refl
size_in_order (i ∷ is) = size_placed i (in_order is) ∙ omega (arith, sum_by-cons record_size i is, size_in_order is)

-- ---- the whole

abbrev transaction_with : Draft → ℕ → List (ℕ × Value) → Transaction
transaction_with d tid rs = record { tid = tid; user = d.user; description = d.description; extension = []; records = rs }

pub settles : (told : Told) (end : ℕ) (d : Draft) (items : List Item) → AreOf told end d.entries items → All (λ item. IsDirect (content told) item.body) items
    → SettlesAs told end d (record { texts = record { user = d.user; description = d.description; extension = [] }; items = in_order items })
settles told end d items are direct = record {
  said = λ tid. ap (transaction_with d tid) (said_in_order (records_at told end) items ∙ ap by_oid are.0);
  right = all_in_order (IsRight (records_at told end)) items are.1;
  direct = all_in_order (λ item. IsDirect (content told) item.body) items direct;
}

pub is_settled : (d : Draft) (items : List Item) → All HasBody items → records_size items ≡ sizes_of d.entries → IsSettled d (record { texts = record { user = d.user; description = d.description; extension = [] }; items = in_order items })
is_settled d items bodies same = record {
  user = refl;
  description = refl;
  extension = refl;
  bodies = all_in_order HasBody items bodies;
  size_is = omega (arith, size_in_order items, same);
}
