-- The transactions that a walk over a file has passed, with their statuses.
use Rattle.std.proofs.Common.{◌≡◌, ℕ, suc, zero, ◌+◌, ◌-◌, ◌<◌, ◌≤◌, ◌==◌, ◌||◌, Bool, true, false, List, [], ◌∷◌, ◌++◌, length, drop, Option, None, Some, refl, sym, ap, ap₂, subst, ◌∙◌, append_assoc, append-nil, arith, inl, inr, eqb-true, if◌then◌else◌}
use Rattle.std.specs.List.{AllByRecursion}
use Rattle.std.proofs.lemmas.List.{append_cancel_left, length-append, length-map, map-append}
use Rattle.std.proofs.lemmas.Bool.{cases_order}
use Rattle.zbase.specs.History.{Transaction, History, RisesFrom, Value}
use Rattle.zbase.specs.HistoryLaws.{rises_front, rises_rest}
use Rattle.zbase.specs.Values.{last, last_after}
use Rattle.zbase.specs.declared.ids.Row.{Row}
use Rattle.fs_record.specs.Spelling.{Block, Inside, Records, Skipped, block_spelling}
use Rattle.fs_record.specs.File.{Front, IsFile, AreRight, after_in, bytes_of, fault_in, front_of, is_counted, longer, rows}
use Rattle.fs_record.specs.FileLaws.{file_history}
use Rattle.fs_record.specs.Opening.{SplitsAt}
use Rattle.fs_record.specs.UniqueLaws.{same_count}
use Rattle.fs_scan.specs.Keeping.{row_on, rows_on, starts}
use Rattle.fs_scan.specs.Walked.{Course, FrontAt, IsOn, Passes, Ends}
use Rattle.fs_scan.specs.WalkedLaws.{one_front}
use Rattle.fs_scan.specs.Wholes.{transaction_in}
use Rattle.fs_scan.specs.declared.wholes.Whole.{Whole}
use Rattle.fs_pack.specs.Entries.{Entry, entries, entry_in, entry_of, said}
use Rattle.packing.specs.Packed.{records_in}
use Rattle.fs_pack.specs.EntryLaws.{are_entries, counts, floor-append, floor_entries, floor_last, said_entries}
use Rattle.fs_pack.specs.PartLaws.{oids_same}
use Rattle.fs_pack.specs.Spelled.{IsEntry, floor_from}

-- the file before the walk's place says these transactions; before its first step there are none
abbrev pub PassedBy : List ℕ → Option ℕ → List Entry → Type 0
PassedBy bytes None es = es ≡ []
PassedBy bytes (Some place) es = (blocks : List Block) × AreRight blocks × ((rest : List ℕ) × (bytes ≡ bytes_of blocks ++ rest)) × (place ≡ length (bytes_of blocks)) × (es ≡ entries blocks)

-- ---- two fronts of the same bytes

extends : (k : ℕ) (bs cs : List Block) (x y : List ℕ) → AreRight bs → AreRight cs → length bs + k ≡ length cs → bytes_of bs ++ x ≡ bytes_of cs ++ y → (newer : List Block) × (cs ≡ newer ++ bs)
extends zero bs cs x y p q l e = ([], sym (same_count bs cs x y p q (omega arith) e).0)
extends (suc k) bs [] x y p q l e = absurd (omega arith)
extends (suc k) bs (c ∷ cs) x y p q l e =
    let r = extends k bs cs x (block_spelling c ++ y) p q.1 (omega arith) (e ∙ append_assoc (bytes_of cs) (block_spelling c) y) in
    (c ∷ r.0, ap (λ (t : List Block). c ∷ t) r.1)

entries_more : (newer bs : List Block) → (more : List Entry) × (entries (newer ++ bs) ≡ entries bs ++ more)
entries_more [] bs = ([], sym (append-nil (entries bs)))
entries_more (b ∷ newer) bs =
    let r = entries_more newer bs in
    let new = entry_in (front_of (newer ++ bs)) b b.inside in
    (r.0 ++ new, ap (λ (es : List Entry). es ++ new) r.1 ∙ append_assoc (entries bs) r.0 new)

pub length_said : (es : List Entry) → length (said es) ≡ length es
length_said [] = refl
length_said (e ∷ es) = omega (arith, length_said es)

none_more : (es more : List Entry) → length (es ++ more) ≡ length es → more ≡ []
none_more es [] e = refl
none_more es (m ∷ more) e = absurd (omega (arith, e, length-append es (m ∷ more)))

same_longer : (newer bs : List Block) → (front_of (newer ++ bs)).history.transactions ≡ (front_of bs).history.transactions → entries (newer ++ bs) ≡ entries bs
same_longer newer bs same =
    let r = entries_more newer bs in
    let long : length (entries (newer ++ bs)) ≡ length (entries bs) = sym (length_said (entries (newer ++ bs))) ∙ ap length (said_entries (newer ++ bs) ∙ same ∙ sym (said_entries bs)) ∙ length_said (entries bs) in
    r.1 ∙ ap (λ (es : List Entry). entries bs ++ es) (none_more (entries bs) r.0 (sym (ap length r.1) ∙ long)) ∙ append-nil (entries bs)

-- of files that the bytes begin with and that say the same history
pub same_entries : (bs cs : List Block) (x y : List ℕ) → AreRight bs → AreRight cs → bytes_of bs ++ x ≡ bytes_of cs ++ y → (front_of bs).history.transactions ≡ (front_of cs).history.transactions → entries bs ≡ entries cs
same_entries bs cs x y p q e same =
    elim (cases_order (length bs) (length cs)) [
      | inl long ↦ ap entries (same_count bs cs x y p q long e).0
      | inr (inl lt) ↦ (let r = extends (length cs - length bs) bs cs x y p q (omega arith) e in
          sym (ap entries r.1 ∙ same_longer r.0 bs (sym (ap (λ (ds : List Block). (front_of ds).history.transactions) r.1) ∙ sym same)))
      | inr (inr gt) ↦ (let r = extends (length bs - length cs) cs bs y x q p (omega arith) (sym e) in
          ap entries r.1 ∙ same_longer r.0 cs (sym (ap (λ (ds : List Block). (front_of ds).history.transactions) r.1) ∙ same))
    ]

-- ---- one transaction more

grows_not : (xs : List Transaction) (x : Transaction) → xs ≡ xs ++ x ∷ [] → ⊥
grows_not xs x e = omega (arith, ap length e, length-append xs (x ∷ []))

-- a transaction by which the history grows has a status that counts
counted_in : (front : Front) (b : Block) (i : Inside) (before : History) (status : ℕ) (x : Transaction) → fault_in front.place (last front.history) (rows front.records) b i ≡ None → front.history ≡ before → (after_in front b i).history ≡ longer before status x → is_counted b.status ≡ true
unfolding after_in
counted_in front b (Skipped bytes) before status x right same e =
    absurd (grows_not front.history.transactions x (ap (λ (h : History). h.transactions) e ∙ ap (λ (h : History). h.transactions ++ x ∷ []) (sym same)))
counted_in front b (Records ds) before status x right same e = counts front.place (last front.history) (rows front.records) b ds right

-- a file that says one transaction more begins with the other
goes_on : (bs cs : List Block) (x y : List ℕ) (t : Transaction) → AreRight bs → AreRight cs → bytes_of bs ++ x ≡ bytes_of cs ++ y → (front_of cs).history.transactions ≡ (front_of bs).history.transactions ++ t ∷ []
    → (more : List Entry) × (entries cs ≡ entries bs ++ more)
goes_on bs cs x y t p q e grows =
    elim (cases_order (length bs) (length cs)) [
      | inl long ↦ ([], sym (ap entries (same_count bs cs x y p q long e).0) ∙ sym (append-nil (entries bs)))
      | inr (inl lt) ↦ (let r = extends (length cs - length bs) bs cs x y p q (omega arith) e in
          let m = entries_more r.0 bs in
          (m.0, ap entries r.1 ∙ m.1))
      | inr (inr gt) ↦ (let r = extends (length bs - length cs) cs bs y x q p (omega arith) (sym e) in
          let m = entries_more r.0 cs in
          let old : length (entries bs) ≡ length (front_of bs).history.transactions = sym (length_said (entries bs)) ∙ ap length (said_entries bs) in
          let new : length (entries cs) ≡ length ((front_of bs).history.transactions ++ t ∷ []) = sym (length_said (entries cs)) ∙ ap length (said_entries cs ∙ grows) in
          absurd (omega (arith, old, new, length-append (front_of bs).history.transactions (t ∷ []), ap length (ap entries r.1 ∙ m.1), length-append (entries cs) m.0)))
    ]

one_entry : (more : List Entry) (t : Transaction) → said more ≡ t ∷ [] → (e : Entry) × (more ≡ e ∷ []) × (e.said ≡ t)
one_entry [] t is = absurd cc
one_entry (e ∷ []) t is = (e, refl, cc)
one_entry (e ∷ f ∷ more) t is = absurd cc

-- of the two statuses that count, one alone gives the floor
same_status : (a b floor tid : ℕ) → is_counted a ≡ true → is_counted b ≡ true → floor < tid → (if a == 112 then tid else floor) ≡ (if b == 112 then tid else floor) → a ≡ b
same_status a b floor tid p q below same = go (a == 32) (a == 112) (b == 32) (b == 112) refl refl refl refl p q same
  where
    go : (c d e f : Bool) → (a == 32) ≡ c → (a == 112) ≡ d → (b == 32) ≡ e → (b == 112) ≡ f → (c || d) ≡ true → (e || f) ≡ true → (if d then tid else floor) ≡ (if f then tid else floor) → a ≡ b
    go c true e true pc pd pe pf cd ef is = eqb-true a 112 pd ∙ sym (eqb-true b 112 pf)
    go true false true false pc pd pe pf cd ef is = eqb-true a 32 pc ∙ sym (eqb-true b 32 pe)
    go false false e f pc pd pe pf cd ef is = absurd cc
    go c d false false pc pd pe pf cd ef is = absurd cc
    go c true e false pc pd pe pf cd ef is = absurd (omega (arith, below, is))
    go c false e true pc pd pe pf cd ef is = absurd (omega (arith, below, is))

-- and has its status
one_more : (bs cs : List Block) (x y : List ℕ) (status : ℕ) (t : Transaction) → AreRight bs → AreRight cs → bytes_of bs ++ x ≡ bytes_of cs ++ y → is_counted status ≡ true → (front_of cs).history ≡ longer (front_of bs).history status t
    → entries cs ≡ entries bs ++ record { status = status; said = t } ∷ []
one_more bs cs x y status t p q same counted grows =
    let grown : (front_of cs).history.transactions ≡ (front_of bs).history.transactions ++ t ∷ [] = ap (λ (h : History). h.transactions) grows in
    let m = goes_on bs cs x y t p q same grown in
    let tail : said m.0 ≡ t ∷ [] = append_cancel_left (said (entries bs)) (said m.0) (t ∷ [])
    (sym (map-append (λ (e : Entry). e.said) (entries bs) m.0) ∙ sym (ap said m.1) ∙ said_entries cs ∙ grown ∙ ap (λ (xs : List Transaction). xs ++ t ∷ []) (sym (said_entries bs))) in
    let e = one_entry m.0 t tail in
    let joined : entries cs ≡ entries bs ++ e.0 ∷ [] = m.1 ∙ ap (λ (es : List Entry). entries bs ++ es) e.1 in
    let all : AllByRecursion IsEntry (entries bs ++ e.0 ∷ []) = subst (AllByRecursion IsEntry) joined (are_entries cs q) in
    let rises : RisesFrom 0 (said (entries bs) ++ e.0.said ∷ []) =
    subst (RisesFrom 0) (sym (said_entries cs) ∙ ap said joined ∙ map-append (λ (f : Entry). f.said) (entries bs) (e.0 ∷ [])) (file_history (bytes_of cs) (front_of cs) (record { blocks = cs; right = q; spelled = refl; said = refl })) in
    let floor = floor_from 0 (entries bs) in
    let low : floor ≤ last_after 0 (said (entries bs)) = floor_last 0 0 (entries bs) (rises_front 0 (said (entries bs)) (e.0.said ∷ []) rises) (omega arith) in
    let below : floor < e.0.said.tid = omega (arith, low, (rises_rest 0 (said (entries bs)) (e.0.said ∷ []) rises).0) in
    let by_floor : (if e.0.status == 112 then e.0.said.tid else floor) ≡ (if status == 112 then e.0.said.tid else floor) =
    sym (floor-append 0 (entries bs) (e.0 ∷ [])) ∙ sym (ap (floor_from 0) joined) ∙ floor_entries cs ∙ ap (λ (h : History). h.floor) grows
    ∙ ap₂ (λ (n : ℕ) (k : ℕ). if status == 112 then n else k) (sym (ap (λ (z : Transaction). z.tid) e.2)) (sym (floor_entries bs)) in
    let its : e.0.status ≡ status = same_status e.0.status status floor e.0.said.tid (last_all IsEntry (entries bs) e.0 all).counted counted below by_floor in
    joined ∙ ap₂ (λ (n : ℕ) (z : Transaction). let es : List Entry = entries bs ++ record { status = n; said = z } ∷ [] in es) its e.2
  where
    last_all : {X : Type 0} (P : X → Type 0) (xs : List X) (z : X) → AllByRecursion P (xs ++ z ∷ []) → P z
    last_all P [] z a = a.0
    last_all P (w ∷ xs) z a = last_all P xs z a.1

-- the entries before the transaction that comes next
before_here : (bytes : List ℕ) (place : Option ℕ) (es : List Entry) (before here : Front) (bs : List Block) (rest : List ℕ) → PassedBy bytes place es → FrontAt bytes place before → here.history ≡ before.history → AreRight bs → bytes ≡ bytes_of bs ++ rest → here ≡ front_of bs → entries bs ≡ es
before_here bytes None es before here bs rest passed came undone right joined is =
    let none : (front_of bs).history.transactions ≡ [] = ap (λ (f : Front). f.history.transactions) (sym is) ∙ ap (λ (h : History). h.transactions) undone ∙ ap (λ (f : Front). f.history.transactions) came in
    same_entries bs [] rest (drop 4 bytes) right tt (sym joined ∙ begins_so bs rest joined) none ∙ sym passed
  where
    begins_so : (cs : List Block) (r : List ℕ) → bytes ≡ bytes_of cs ++ r → bytes ≡ bytes_of [] ++ drop 4 bytes
    begins_so [] r e = e ∙ ap (λ (z : List ℕ). bytes_of [] ++ z) (sym (ap (drop 4) e))
    begins_so (c ∷ cs) r e = begins_so cs (block_spelling c ++ r) (e ∙ append_assoc (bytes_of cs) (block_spelling c) r)
before_here bytes (Some place) es before here bs rest passed came undone right joined is =
    let file : IsFile (bytes_of passed.0) (front_of passed.0) = record { blocks = passed.0; right = passed.1; spelled = refl; said = refl } in
    let at : FrontAt bytes (Some place) (front_of passed.0) = (passed.2.0, record { file = bytes_of passed.0; is_file = file; joined = passed.2.1; at = passed.3 }) in
    let same : before ≡ front_of passed.0 = one_front bytes (Some place) before (front_of passed.0) came at in
    same_entries bs passed.0 rest passed.2.0 right passed.1 (sym joined ∙ passed.2.1) (ap (λ (f : Front). f.history.transactions) (sym is) ∙ ap (λ (h : History). h.transactions) undone ∙ ap (λ (f : Front). f.history.transactions) same)
    ∙ sym passed.4

pub passes_one : (bytes : List ℕ) (old new : Course) (es : List Entry) (whole : Whole) → PassedBy bytes old.place es → Passes bytes old new whole → PassedBy bytes new.place (es ++ entry_of whole ∷ [])
passes_one bytes old new es whole passed p = go new.place p.behind
  where
    s : SplitsAt bytes whole.place p.here p.begins.0
    s = p.begins.1

    bs : List Block
    bs = s.is_file.blocks

    joined : bytes ≡ bytes_of bs ++ p.begins.0
    joined = s.joined ∙ ap (λ (z : List ℕ). z ++ p.begins.0) s.is_file.spelled

    before : entries bs ≡ es
    before = before_here bytes old.place es p.before p.here bs p.begins.0 passed p.came p.undone s.is_file.right joined s.is_file.said

    counted : is_counted whole.status ≡ true
    counted = subst (λ (n : ℕ). is_counted n ≡ true) p.status (counted_in p.here p.block p.block.inside p.before.history whole.status (transaction_in whole) p.right.right p.undone p.counts)

    go : (place : Option ℕ) → FrontAt bytes place (after_in p.here p.block p.block.inside) → PassedBy bytes place (es ++ entry_of whole ∷ [])
    go None at = absurd (grows_from p.before.history.transactions (sym (ap (λ (h : History). h.transactions) p.counts) ∙ ap (λ (f : Front). f.history.transactions) at))
      where
        grows_from : (xs : List Transaction) → xs ++ transaction_in whole ∷ [] ≡ [] → ⊥
        grows_from xs e = omega (arith, ap length e, length-append xs (transaction_in whole ∷ []))
    go (Some place) at =
        let file = at.1.is_file in
        let there : bytes ≡ bytes_of file.blocks ++ at.0 = at.1.joined ∙ ap (λ (z : List ℕ). z ++ at.0) file.spelled in
        let grows : (front_of file.blocks).history ≡ longer (front_of bs).history whole.status (transaction_in whole) =
        sym (ap (λ (f : Front). f.history) file.said) ∙ p.counts ∙ ap (λ (h : History). longer h whole.status (transaction_in whole)) (sym p.undone ∙ ap (λ (f : Front). f.history) s.is_file.said) in
        let says : entries file.blocks ≡ es ++ entry_of whole ∷ [] =
        one_more bs file.blocks p.begins.0 at.0 whole.status (transaction_in whole) s.is_file.right file.right (sym joined ∙ there) counted grows ∙ ap (λ (fs : List Entry). fs ++ entry_of whole ∷ []) before in
        (file.blocks, file.right, (at.0, there), at.1.at ∙ ap length file.spelled, sym says)

-- at the end the passed transactions are those of the file to which the bytes open
pub ends_spelled : (bytes : List ℕ) (old new : Course) (e : Ends bytes old new) → bytes ≡ bytes_of e.cut.1.is_file.blocks ++ e.cut.0
ends_spelled bytes old new e = e.cut.1.joined ∙ ap (λ (z : List ℕ). z ++ e.cut.0) e.cut.1.is_file.spelled

pub passes_end : (bytes : List ℕ) (old new : Course) (es : List Entry) → PassedBy bytes old.place es → (e : Ends bytes old new) → entries e.cut.1.is_file.blocks ≡ es
passes_end bytes old new es passed e =
    let file = e.cut.1.is_file in
    before_here bytes old.place es e.before e.front file.blocks e.cut.0 passed e.came e.undone file.right (ends_spelled bytes old new e) file.said

-- a walk has counted their records
pub passed_count : (bytes : List ℕ) (place : Option ℕ) (places : List ℕ) (es : List Entry) (front : Front) → PassedBy bytes place es → FrontAt bytes place front → rows front.records ≡ rows_on bytes places → length places ≡ length (records_in (said es))
passed_count bytes place places es front passed at is = sym (length-map places (row_on bytes)) ∙ sym (ap length is) ∙ go place passed at
  where
    go : (p : Option ℕ) → PassedBy bytes p es → FrontAt bytes p front → length (rows front.records) ≡ length (records_in (said es))
    go None none here = ap (λ (f : Front). length (rows f.records)) here ∙ sym (ap (λ (fs : List Entry). length (records_in (said fs))) none)
    go (Some n) by here =
        let bs = by.0 in
        let file : IsFile (bytes_of bs) (front_of bs) = record { blocks = bs; right = by.1; spelled = refl; said = refl } in
        let there : FrontAt bytes (Some n) (front_of bs) = (by.2.0, record { file = bytes_of bs; is_file = file; joined = by.2.1; at = by.3 }) in
        let same : front ≡ front_of bs = one_front bytes (Some n) front (front_of bs) here there in
        ap (λ (f : Front). length (rows f.records)) same
        ∙ sym (length-map (rows (front_of bs).records) (λ (r : Row). r.oid)) ∙ ap length (oids_same bs) ∙ length-map (records_in (said (entries bs))) (λ (r : ℕ × Value). r.0)
        ∙ sym (ap (λ (fs : List Entry). length (records_in (said fs))) by.4)

starts_on : (bytes places : List ℕ) → starts (rows_on bytes places) ≡ places
starts_on bytes [] = refl
starts_on bytes (p ∷ ps) = ap (λ (qs : List ℕ). p ∷ qs) (starts_on bytes ps)

-- and has the places of all of them at the end
pub ends_rows : (bytes : List ℕ) (old new : Course) (e : Ends bytes old new) → IsOn bytes new → new.kept.places ≡ starts (rows (front_of e.cut.1.is_file.blocks).records)
ends_rows bytes old new e on =
    let same : on.front ≡ e.front = one_front bytes (Some e.end) on.front e.front (subst (λ (p : Option ℕ). FrontAt bytes p on.front) e.at on.stands) (e.cut.0, e.cut.1) in
    sym (starts_on bytes new.kept.places) ∙ sym (ap starts on.records) ∙ ap (λ (f : Front). starts (rows f.records)) (same ∙ e.cut.1.is_file.said)
