-- What is chosen by the marks of the kept records is what a pack leaves.
use Rattle.std.proofs.Common.{◌≡◌, ℕ, ◌<◌, ◌≤◌, ◌==◌, Bool, true, false, cond, ◌&&◌, List, [], ◌∷◌, ◌++◌, length, drop, map, filter, nat_le, nat_lt, refl, sym, ap, ap₂, subst, ◌∙◌, arith, append_assoc, leb-false, lt-ltb, eq-eqb, ne_eqb, ◌≢◌, if◌then◌else◌, not}
use Rattle.std.proofs.lemmas.List.{drop-drop, length-append, map-append}
use Rattle.std.proofs.lemmas.Bool.Decides.{nat_tests}
use Rattle.zbase.specs.History.{Value, Transaction, RisesFrom}
use Rattle.zbase.specs.Values.{last_after}
use Rattle.zbase.specs.HistoryLaws.{rises_front, rises_last}
use Rattle.packing.specs.Packed.{has_record, is_empty, records_in, standing, thinned, with_records}
use Rattle.fs_pack.specs.Entries.{Entry, as_packed, packed_entries, said}
use Rattle.fs_pack.specs.EntryLaws.{entries_part, none_up_to}
use Rattle.fs_pack.specs.Chosen.{chosen, chosen_of, marks_of, picked}

pub picked_stand : (keep : ℕ → Bool) (rs later : List (ℕ × Value)) → picked (marks_of keep (rs ++ later)) rs ≡ standing keep rs later
picked_stand keep [] [] = refl
picked_stand keep [] (r ∷ later) = refl
picked_stand keep (r ∷ rs) later = go (keep r.0 && not (has_record r.0 (rs ++ later))) (picked_stand keep rs later)
  where
    go : (b : Bool) → picked (marks_of keep (rs ++ later)) rs ≡ standing keep rs later → cond b (r ∷ picked (marks_of keep (rs ++ later)) rs) (picked (marks_of keep (rs ++ later)) rs) ≡ cond b (r ∷ standing keep rs later) (standing keep rs later)
    go true deeper = ap (λ (qs : List (ℕ × Value)). r ∷ qs) deeper
    go false deeper = deeper

pub marks_behind : (keep : ℕ → Bool) (rs later : List (ℕ × Value)) → drop (length rs) (marks_of keep (rs ++ later)) ≡ marks_of keep later
marks_behind keep [] later = refl
marks_behind keep (r ∷ rs) later = marks_behind keep rs later

-- transactions behind the pack are chosen whole
chosen_later : (before until n : ℕ) (marks : List Bool) (es : List Entry) → RisesFrom n (said es) → before ≤ n → chosen_of before until marks es ≡ filter (λ (e : Entry). nat_lt before e.said.tid) es
chosen_later before until n marks [] rise le = refl
chosen_later before until n marks (e ∷ es) rise le =
    let above : nat_lt before e.said.tid ≡ true = lt-ltb before e.said.tid (omega (arith, rise.0, le)) in
    let behind : nat_le e.said.tid before ≡ false = grind (arith, nat_tests, rise.0, le) in
    rw (above, behind) (ap (λ (fs : List Entry). e ∷ fs) (chosen_later before until e.said.tid (drop (length e.said.records) marks) es rise.1 (omega (arith, rise.0, le))))

-- a transaction is the last one exactly where none follows
last_alone : (t n : ℕ) (x : Transaction) (xs : List Transaction) → RisesFrom n (x ∷ xs) → (x.tid == last_after n (x ∷ xs)) ≡ is_empty xs
last_alone t n x [] rise = eq-eqb x.tid x.tid refl
last_alone t n x (y ∷ ys) rise =
    let up = rises_last y.tid ys rise.1.1 in
    let other : x.tid ≢ last_after y.tid ys = (λ e. omega (arith, up, rise.1.0, e)) in
    ne_eqb x.tid (last_after y.tid ys) other

joined : (b : Bool) (x : Transaction) (xs : List Transaction) (later : List Entry) → (if b then [] else as_packed x ∷ []) ++ (map as_packed xs ++ later) ≡ map as_packed (if b then xs else x ∷ xs) ++ later
joined true x xs later = refl
joined false x xs later = refl

-- The marks of the kept records choose what a pack leaves.
pub chosen_are : (keep : ℕ → Bool) (t n : ℕ) (es : List Entry) → RisesFrom n (said es)
    → chosen_of t (last_after n (said (filter (λ (e : Entry). nat_le e.said.tid t) es))) (marks_of keep (records_in (said (filter (λ (e : Entry). nat_le e.said.tid t) es)))) es ≡ packed_entries keep t es
chosen_are keep t n [] rise = refl
chosen_are keep t n (e ∷ es) rise = go (nat_le e.said.tid t) (nat_lt t e.said.tid) refl refl (chosen_are keep t e.said.tid es rise.1)
  where
    front : List Entry
    front = filter (λ (f : Entry). nat_le f.said.tid t) es

    rest : List Entry
    rest = filter (λ (f : Entry). nat_lt t f.said.tid) es

    later : List (ℕ × Value)
    later = records_in (said front)

    stand : List (ℕ × Value)
    stand = standing keep e.said.records later

    rises : RisesFrom e.said.tid (said front)
    rises = rises_front e.said.tid (said front) (said rest) (subst (RisesFrom e.said.tid) (sym (ap said (entries_part t e.said.tid es rise.1)) ∙ map-append (λ (f : Entry). f.said) front rest) rise.1)

    until : ℕ
    until = last_after e.said.tid (said front)

    -- what is chosen of a transaction up to the pack
    one : nat_le e.said.tid t ≡ true → chosen t until (marks_of keep (e.said.records ++ later)) e ≡ (if is_empty stand && not (is_empty (said front)) then [] else as_packed (with_records e.said stand) ∷ [])
    one p =
        rw p (ap₂ (λ (rs : List (ℕ × Value)) (last : Bool). let es : List Entry = (if is_empty rs && not last then [] else as_packed (with_records e.said rs) ∷ []) in es) (picked_stand keep e.said.records later) (last_alone t n e.said (said front) (rise.0, rises)))

    go : (a b : Bool) → nat_le e.said.tid t ≡ a → nat_lt t e.said.tid ≡ b → chosen_of t until (marks_of keep later) es ≡ map as_packed (thinned keep (said front)) ++ rest
        → chosen_of t (last_after n (said (cond a (e ∷ front) front))) (marks_of keep (records_in (said (cond a (e ∷ front) front)))) (e ∷ es) ≡ map as_packed (thinned keep (said (cond a (e ∷ front) front))) ++ cond b (e ∷ rest) rest
    go true false p q deeper =
        ap₂ (λ (c d : List Entry). c ++ d) (one p) (ap (λ (ms : List Bool). chosen_of t until ms es) (marks_behind keep e.said.records later) ∙ deeper)
        ∙ joined (is_empty stand && not (is_empty (said front))) (with_records e.said stand) (thinned keep (said front)) rest
    go false true p q deeper =
        let above : t < e.said.tid = leb-false e.said.tid t p in
        let none : front ≡ [] = none_up_to t e.said.tid es rise.1 (omega (arith, above)) in
        chosen_later t (last_after n (said front)) t (marks_of keep (records_in (said front))) (e ∷ es) (above, rise.1) (omega arith)
        ∙ ap (λ (b : Bool). let fs : List Entry = cond b (e ∷ rest) rest in fs) q
        ∙ ap (λ (fs : List Entry). map as_packed (thinned keep (said fs)) ++ (e ∷ rest)) (sym none)
    go true true p q deeper = absurd (grind (arith, nat_tests))
    go false false p q deeper = absurd (grind (arith, nat_tests))

-- What is chosen of transactions and of further ones: the further ones' marks stand behind as many as the first have records.
pub chosen-append : (before until : ℕ) (marks : List Bool) (es fs : List Entry) → chosen_of before until marks (es ++ fs) ≡ chosen_of before until marks es ++ chosen_of before until (drop (length (records_in (said es))) marks) fs
chosen-append before until marks [] fs = refl
chosen-append before until marks (e ∷ es) fs =
    let n = length e.said.records in
    let m = length (records_in (said es)) in
    ap (λ (xs : List Entry). chosen before until marks e ++ xs)
    (chosen-append before until (drop n marks) es fs
    ∙ ap (λ (ms : List Bool). chosen_of before until (drop n marks) es ++ chosen_of before until ms fs) (drop-drop m n marks ∙ ap (λ (k : ℕ). drop k marks) (sym (length-append e.said.records (records_in (said es))))))
    ∙ sym (append_assoc (chosen before until marks e) (chosen_of before until (drop n marks) es) (chosen_of before until (drop (length (records_in (said (e ∷ es)))) marks) fs))
