-- Worked rows: a small history, packed.
use Rattle.std.proofs.Common.{◌≡◌, ◌==◌, ◌||◌, ◌+◌, ◌*◌, ℕ, Bool, true, false, List, [], ◌∷◌, map, Some, None, refl, codes, if◌then◌else◌}
use Rattle.std.specs.List.{list_any}
use Rattle.zbase.specs.History.{Value, Transaction, History}
use Rattle.packing.specs.Packed.{packed}
use Rattle.packing.specs.Reachable.{Linking, is_broken, links_in, values_from}
use Rattle.packing.specs.Sizes.{full_size}

abbrev wrote : ℕ → List (ℕ × Value) → Transaction
wrote t records = record { tid = t; user = []; description = []; extension = []; records = records }

-- the root 0 holds 1 and 2; 2 is written again, 1 twice in one transaction, 3 is never reachable, 4 is written last
abbrev worked : History
worked = record {
  floor = 0;
  transactions =
      wrote 5 ((0, Some (codes "r")) ∷ (1, Some (codes "a")) ∷ (2, Some (codes "b")) ∷ [])
      ∷ wrote 6 ((2, Some (codes "c")) ∷ [])
      ∷ wrote 7 ((1, Some (codes "d")) ∷ (1, Some (codes "e")) ∷ [])
      ∷ wrote 8 ((3, Some (codes "f")) ∷ [])
      ∷ wrote 9 ((2, Some (codes "g")) ∷ (4, None) ∷ [])
      ∷ [];
}

abbrev keep_at_8 : ℕ → Bool
keep_at_8 o = (o == 0) || (o == 1) || (o == 2) || (o == 4)

-- 4 is kept as long as it was written later
abbrev keep_at_end : ℕ → Bool
keep_at_end o = (o == 0) || (o == 1) || (o == 2)

abbrev all : ℕ → Bool
all o = true

-- at 8: the transaction 6 stays, as the last to write 2 up to then; 8 stays without a record, as the last one
packed_at_8 : packed keep_at_8 worked 8 ≡ record {
  floor = 8;
  transactions =
      wrote 5 ((0, Some (codes "r")) ∷ [])
      ∷ wrote 6 ((2, Some (codes "c")) ∷ [])
      ∷ wrote 7 ((1, Some (codes "e")) ∷ [])
      ∷ wrote 8 []
      ∷ wrote 9 ((2, Some (codes "g")) ∷ (4, None) ∷ [])
      ∷ [];
}
packed_at_8 = refl

-- at the end, also for a time behind it
packed_at_end : map (packed keep_at_end worked) (9 ∷ 12 ∷ []) ≡ (λ (h : History). h ∷ h ∷ []) (record {
  floor = 9;
  transactions =
      wrote 5 ((0, Some (codes "r")) ∷ [])
      ∷ wrote 7 ((1, Some (codes "e")) ∷ [])
      ∷ wrote 9 ((2, Some (codes "g")) ∷ [])
      ∷ [];
})
packed_at_end = refl

-- before the first transaction nothing changes
packed_before : packed all worked 4 ≡ worked
packed_before = refl

-- five transactions of 31 bytes behind the magic, four records of one byte and one without a value
packed_size : full_size (packed keep_at_8 worked 8) ≡ 4 + 5 * 31 + 4 * 43 + 50
packed_size = refl

-- ---- what an object leads to, by its value at the pack and later ones

values_of_2 : map (λ t. values_from worked t 2) (5 ∷ 8 ∷ 9 ∷ [])
    ≡ (Some (codes "b") ∷ Some (codes "c") ∷ Some (codes "g") ∷ []) ∷ (Some (codes "c") ∷ Some (codes "g") ∷ []) ∷ (Some (codes "g") ∷ []) ∷ []
values_of_2 = refl

-- both records of one transaction count as later values
values_of_1 : values_from worked 6 1 ≡ Some (codes "a") ∷ Some (codes "d") ∷ Some (codes "e") ∷ []
values_of_1 = refl

-- bytes that are the ids of the objects to which they lead, but for those with an `x`, which spell no object
abbrev led : Linking
led bytes = if list_any (λ b. b == 120) bytes then None else Some bytes

led_to : map (links_in led) (Some (1 ∷ 2 ∷ []) ∷ Some (1 ∷ 120 ∷ []) ∷ None ∷ []) ≡ (1 ∷ 2 ∷ []) ∷ [] ∷ [] ∷ []
led_to = refl

abbrev broken : History
broken = record {
  floor = 0;
  transactions = wrote 5 ((0, Some (codes "x")) ∷ (1, Some (codes "a")) ∷ []) ∷ wrote 6 ((0, Some (codes "a")) ∷ []) ∷ wrote 7 ((1, Some (codes "x")) ∷ []) ∷ wrote 8 ((1, None) ∷ []) ∷ [];
}

-- 0 can't be read at 5 alone, and 1 until its second value is packed
broken_by_time : map (λ o. map (λ t. is_broken led broken t o) (5 ∷ 6 ∷ 7 ∷ 8 ∷ [])) (0 ∷ 1 ∷ 2 ∷ [])
    ≡ (true ∷ false ∷ false ∷ false ∷ []) ∷ (true ∷ true ∷ true ∷ false ∷ []) ∷ (false ∷ false ∷ false ∷ false ∷ []) ∷ []
broken_by_time = refl
