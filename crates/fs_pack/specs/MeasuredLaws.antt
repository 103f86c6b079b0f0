-- Sizes are added up, and what is told of a packed file is so.
use Rattle.std.proofs.Common.{◌≡◌, ℕ, ◌+◌, ◌<◌, ◌≤◌, ◌^◌, ◌==◌, Bool, true, false, List, [], ◌∷◌, ◌++◌, length, nat_lt, sum_by, Option, None, Some, refl, sym, ap, ◌∙◌, arith, if◌then◌else◌}
use Rattle.std.proofs.lemmas.List.{length-append}
use Rattle.std.proofs.lemmas.List.Sums.{sum_by-append, sum_by-cons}
use Rattle.std.proofs.lemmas.Bool.Decides.{nat_tests}
use Rattle.zbase.specs.History.{Value}
use Rattle.fs_record.specs.declared.layout.TheConstants.{BARE_TXN_LEN}
use Rattle.packing.specs.Sizes.{record_size}
use Rattle.fs_pack.specs.Entries.{Entry}
use Rattle.fs_pack.specs.EntryLaws.{floor-append}
use Rattle.fs_pack.specs.Measured.{IsTally, fitting, plus, plus_entry, plus_records}
use Rattle.fs_pack.specs.Spelled.{entry_size, file_size}
use Rattle.fs_pack.specs.declared.tallying.Tally.{Tally}

over : (m n : ℕ) → nat_lt m (2 ^ 64) ≡ false → nat_lt (m + n) (2 ^ 64) ≡ false
over m n is = grind (arith, nat_tests, is)

pub plus_fits : (m n : ℕ) → plus (fitting m) n ≡ fitting (m + n)
plus_fits m n = go (nat_lt m (2 ^ 64)) refl
  where
    go : (b : Bool) → nat_lt m (2 ^ 64) ≡ b → plus (if b then Some m else None) n ≡ fitting (m + n)
    go true is = refl
    go false is = sym (ap (λ (b : Bool). if b then Some (m + n) else None) (over m n is))

records_fit : (m : ℕ) (rs : List (ℕ × Value)) → plus_records (fitting m) rs ≡ fitting (m + sum_by record_size rs)
records_fit m [] =
    let same : m ≡ m + sum_by record_size [] = omega arith in
    ap fitting same
records_fit m (r ∷ rs) =
    let same : m + record_size r + sum_by record_size rs ≡ m + sum_by record_size (r ∷ rs) = omega (arith, sum_by-cons record_size r rs) in
    ap (λ (o : Option ℕ). plus_records o rs) (plus_fits m (record_size r))
    ∙ records_fit (m + record_size r) rs
    ∙ ap fitting same

pub entry_from : (m : ℕ) (e : Entry) → plus_entry (Some m) e ≡ fitting (m + entry_size e)
entry_from m e =
    let u = length e.said.user in
    let d = length e.said.description in
    let x = length e.said.extension in
    let same : m + BARE_TXN_LEN + u + d + x + sum_by record_size e.said.records ≡ m + entry_size e = omega arith in
    ap (λ (o : Option ℕ). plus_records o e.said.records)
    (ap (λ (o : Option ℕ). plus (plus o d) x) (plus_fits (m + BARE_TXN_LEN) u) ∙ ap (λ (o : Option ℕ). plus o x) (plus_fits (m + BARE_TXN_LEN + u) d) ∙ plus_fits (m + BARE_TXN_LEN + u + d) x)
    ∙ records_fit (m + BARE_TXN_LEN + u + d + x) e.said.records
    ∙ ap fitting same

entry_fits : (m : ℕ) (e : Entry) → plus_entry (fitting m) e ≡ fitting (m + entry_size e)
entry_fits m e =
    ap (λ (o : Option ℕ). plus_records (plus (plus (plus o (length e.said.user)) (length e.said.description)) (length e.said.extension)) e.said.records) (plus_fits m BARE_TXN_LEN)
    ∙ entry_from m e

size_more : (es : List Entry) (e : Entry) → file_size (es ++ e ∷ []) ≡ file_size es + entry_size e
size_more es e = omega (arith, sum_by-append entry_size es (e ∷ []), sum_by-cons entry_size e [])

pub tally_more : (es : List Entry) (e : Entry) (old new : Tally) → IsTally es old → new.floor ≡ (if e.status == 112 then e.said.tid else old.floor) → new.count ≡ old.count + 1 → new.size ≡ plus_entry old.size e → IsTally (es ++ e ∷ []) new
tally_more es e old new t floor count size = record {
  floor = floor ∙ ap (λ (n : ℕ). if e.status == 112 then e.said.tid else n) t.floor ∙ sym (floor-append 0 es (e ∷ []));
  count = count ∙ ap (λ (n : ℕ). n + 1) t.count ∙ sym (length-append es (e ∷ []));
  size = size ∙ ap (λ (o : Option ℕ). plus_entry o e) t.size ∙ entry_fits (file_size es) e ∙ ap fitting (sym (size_more es e));
}

pub fits_so : (n size : ℕ) → fitting size ≡ Some n → n ≡ size
fits_so n size is = go (nat_lt size (2 ^ 64)) is
  where
    go : (b : Bool) → (if b then Some size else None) ≡ Some n → n ≡ size
    go true e = cc
    go false e = absurd cc

pub fits_not : (size : ℕ) → fitting size ≡ None → 2 ^ 64 ≤ size
fits_not size is = go (nat_lt size (2 ^ 64)) refl is
  where
    go : (b : Bool) → nat_lt size (2 ^ 64) ≡ b → (if b then Some size else None) ≡ None → 2 ^ 64 ≤ size
    go true p e = absurd cc
    go false p e = grind (arith, nat_tests, p)

pub fits_below : (n size : ℕ) → fitting size ≡ Some n → size < 2 ^ 64
fits_below n size is = go (nat_lt size (2 ^ 64)) refl is
  where
    go : (b : Bool) → nat_lt size (2 ^ 64) ≡ b → (if b then Some size else None) ≡ Some n → size < 2 ^ 64
    go true p e = grind (arith, nat_tests, p)
    go false p e = absurd cc
