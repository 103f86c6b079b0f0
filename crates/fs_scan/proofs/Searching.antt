-- What a search finds among places that rise.
use Rattle.std.proofs.Common.{◌≡◌, ℕ, zero, suc, ◌+◌, ◌<◌, ◌≤◌, ◌^◌, Bool, true, false, ◌||◌, eqb, List, [], ◌∷◌, ◌++◌, length, get_or, Option, Some, None, Result, Ok, Err, IfOk, IfErr, IfSome, refl, sym, ap, ◌∙◌, arith, inl, inr}
use Rattle.std.specs.Option.{ForSome}
use Rattle.std.specs.List.{list_any}
use Rattle.std.specs.List.Sorted.{IsSearchInRange, IsBinarySearchResult, IsNonDecreasingBy}
use Rattle.std.specs.Ordering.{nat_cmp, ordering_index}
use Rattle.std.proofs.lemmas.Bool.{ne_eqb, eq-eqb, eqb-true, cases_lt}
use Rattle.std.proofs.lemmas.Bool.Decides.{nat_tests}
use Rattle.std.proofs.lemmas.Cmp.{ranked}
use Rattle.std.proofs.lemmas.List.Sorted.{IsNonDecreasingBy-from_default}
use Rattle.std.specs.Prelude.{◌==◌, ◌&&◌, take, drop}
use Rattle.std.proofs.Common.{append_assoc}
use Rattle.std.proofs.lemmas.List.{take-append-drop}
use Rattle.zbase.specs.Numbers.{be64}
use Rattle.zbase.specs.declared.faults.Failed.{Failed}
use Rattle.zdisk.specs.Disk.{Told, bytes_at, content}
use Rattle.fs_record.specs.File.{is_row}
use Rattle.fs_record.specs.Reading.{u64_read}
use Rattle.fs_scan.proofs.KeptPlaces.{earlier, id_there}
use Rattle.fs_scan.specs.Keeping.{IsStart, NoStart, PlacesRise, Readable, is_start, rows_on}

at_least : (n i : ℕ) (ps : List ℕ) → PlacesRise n ps → i < length ps → n ≤ get_or ps i 0
at_least n i [] h lt = absurd (omega arith)
at_least n zero (p ∷ ps) h lt = h.0
at_least n (suc i) (p ∷ ps) h lt = omega (arith, h.0, at_least (p + 1) i ps h.1 (omega arith))

strictly : (n i j : ℕ) (ps : List ℕ) → PlacesRise n ps → i < j → j < length ps → get_or ps i 0 < get_or ps j 0
strictly n i j [] h lt within = absurd (omega arith)
strictly n i zero (p ∷ ps) h lt within = absurd (omega arith)
strictly n zero (suc j) (p ∷ ps) h lt within = omega (arith, at_least (p + 1) j ps h.1 (omega arith))
strictly n (suc i) (suc j) (p ∷ ps) h lt within = strictly (p + 1) i j ps h.1 (omega arith) (omega arith)

pub none_starts : (place : ℕ) (ps : List ℕ) → NoStart ps place → is_start ps place ≡ false
none_starts place [] none = refl
none_starts place (p ∷ ps) none = rw (ne_eqb p place (none 0 (omega arith))) (none_starts place ps (λ i lt. none (suc i) (omega arith)))

or_true : (b : Bool) → (b || true) ≡ true
or_true true = refl
or_true false = refl

pub one_starts : (place i : ℕ) (ps : List ℕ) → IsStart ps place i → is_start ps place ≡ true
one_starts place i [] at = absurd (omega (arith, at.within))
one_starts place zero (p ∷ ps) at = rw (eq-eqb p place at.stands) refl
one_starts place (suc i) (p ∷ ps) at = rw (one_starts place i ps (record { within = omega (arith, at.within); stands = at.stands })) (or_true (eqb p place))

-- there is an id where a record begins
pub readable_there : (bytes : List ℕ) (place : ℕ) (ps : List ℕ) → Readable bytes ps → is_start ps place ≡ true → place + 8 ≤ length bytes
readable_there bytes place [] r is = absurd cc
readable_there bytes place (p ∷ ps) r is = by_cases (eqb p place) refl (λ later. readable_there bytes place ps r.1 later)
  where
    by_cases : (t : Bool) → eqb p place ≡ t → (is_start ps place ≡ true → place + 8 ≤ length bytes) → place + 8 ≤ length bytes
    by_cases true e rest = omega (arith, r.0, eqb-true p place e)
    by_cases false e rest = rest (ap (λ (b : Bool). b || is_start ps place) (sym e) ∙ is)

pub readable_where : (disk : Option Told) (place i : ℕ) (ps : List ℕ) → ForSome disk (λ told. Readable (content told) ps) → IsStart ps place i → ForSome disk (λ told. place + 8 ≤ length (content told))
readable_where disk place i ps r at = λ told e. readable_there (content told) place ps (r told e) (one_starts place i ps at)

-- the id that was read at a place
pub id_read : (disk : Option Told) (place oid n : ℕ) (buf : List ℕ) → n < 2 ^ 64 → length buf ≡ 8 → IfSome disk (λ told. buf ≡ bytes_at told place (length buf)) → drop 0 buf ≡ be64 n ++ drop 8 buf → IfSome disk (λ told. (n == oid) ≡ (u64_read place (content told) == oid))
id_read None place oid n buf fits long read is = tt
id_read (Some told) place oid n buf fits long read is =
    let rest = drop place (content told) in
    let front : take 8 rest ≡ be64 n ++ drop 8 buf = ap (λ (k : ℕ). take k rest) (sym long) ∙ sym read ∙ is in
    ap (λ (k : ℕ). k == oid) (sym (id_there (content told) (drop 8 buf ++ drop 8 rest) n place fits (sym (take-append-drop 8 rest) ∙ ap (λ (x : List ℕ). x ++ drop 8 rest) front ∙ append_assoc (be64 n) (drop 8 buf) (drop 8 rest))))

-- no record begins at the place
pub not_earlier : (disk : Option Told) (oid place : ℕ) (ps : List ℕ) → NoStart ps place → IfSome disk (λ told. false ≡ list_any (is_row oid place) (rows_on (content told) ps))
not_earlier None oid place ps none = tt
not_earlier (Some told) oid place ps none = sym (earlier (content told) oid place ps ∙ ap (λ (t : Bool). t && (u64_read place (content told) == oid)) (none_starts place ps none))

-- one begins there, and the id there was compared
pub earlier_there : (disk : Option Told) (oid place i : ℕ) (ps : List ℕ) (r : Result Bool Failed) → IsStart ps place i → IfOk r (λ yes. IfSome disk (λ told. yes ≡ (u64_read place (content told) == oid))) → IfOk r (λ yes. IfSome disk (λ told. yes ≡ list_any (is_row oid place) (rows_on (content told) ps)))
earlier_there None oid place i ps (Ok told_so) at is = tt
earlier_there (Some told) oid place i ps (Ok told_so) at is = is ∙ sym (earlier (content told) oid place ps ∙ ap (λ (t : Bool). t && (u64_read place (content told) == oid)) (one_starts place i ps at))
earlier_there None oid place i ps (Err e) at is = tt
earlier_there (Some told) oid place i ps (Err e) at is = tt

module _ (ps : List ℕ) (rise : PlacesRise 0 ps) (place : ℕ) where
  comparisons_rise : IsNonDecreasingBy (λ p. ordering_index (nat_cmp p place)) ps
  comparisons_rise = IsNonDecreasingBy-from_default (λ p. ordering_index (nat_cmp p place)) ps 0 (λ i j le within.
      let places_rise : get_or ps i 0 ≤ get_or ps j 0 = grind (arith, strictly 0 i j ps rise, λ (same : i ≡ j). ap (λ k. get_or ps k 0) same) in
      grind (arith, nat_tests))

  -- what a search by place finds
  pub searched : (r : Result ℕ ℕ) → IsSearchInRange r (length ps) → IsBinarySearchResult (λ p. nat_cmp p place) ps r → record { found : IfOk r (IsStart ps place); absent : IfErr r (λ _. NoStart ps place) }
  searched (Ok at) within equal = record { found = record { within = within; stands = ranked _ place _ (sym (equal 0)) }; absent = tt }
  searched (Err at) within parted = record { found = tt; absent = none }
    where
      below : (i : ℕ) → i < at → get_or ps i 0 < place
      below i lt = ranked _ place _ (sym ((parted comparisons_rise).0 i 0 (omega arith) lt))

      beyond : (i : ℕ) → at ≤ i → i < length ps → place < get_or ps i 0
      beyond i le lt = ranked _ place _ (sym ((parted comparisons_rise).1 i 0 le lt))

      none : NoStart ps place
      none i lt e = elim (cases_lt i at) [
        | inl before ↦ omega (arith, e, below i before)
        | inr after ↦ omega (arith, e, beyond i after lt)
      ]
