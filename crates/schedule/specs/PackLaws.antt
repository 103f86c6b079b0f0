-- What the lines of a pack make of the arming rule and of the number of faults: nothing, but for a fault's own.
use Rattle.std.proofs.Common.{◌≡◌, ℕ, ◌+◌, Bool, true, false, cond, List, [], ◌∷◌, ◌++◌, map, flat_map, Some, refl, ap, ◌∙◌, append_assoc, nat_lt, arith}
use Rattle.zbase.specs.History.{History, Transaction, Value}
use Rattle.schedule.specs.declared.item.Item2.{Item2}
use Rattle.schedule.specs.declared.line.Line.{Line}
use Rattle.schedule.specs.Armed.{Queue, after_lines}
use Rattle.schedule.specs.ArmedRuns.{Licenses}
use Rattle.schedule.specs.Entries.{faults}
use Rattle.schedule.specs.Histories.{floor_lines, history_lines, record_line, transaction_lines}

-- ---- the history's lines

records_quiet : (k : Queue) (rs : List (ℕ × Value)) (rest : List Line) → after_lines (Some k) (map record_line rs ++ rest) ≡ after_lines (Some k) rest
records_quiet k [] rest = refl
records_quiet k (r ∷ rs) rest = records_quiet k rs rest

transactions_quiet : (k : Queue) (ts : List Transaction) (rest : List Line) → after_lines (Some k) (flat_map transaction_lines ts ++ rest) ≡ after_lines (Some k) rest
transactions_quiet k [] rest = refl
transactions_quiet k (t ∷ ts) rest = ap (after_lines (Some k)) (append_assoc (transaction_lines t) (flat_map transaction_lines ts) rest) ∙ records_quiet k t.records (flat_map transaction_lines ts ++ rest) ∙ transactions_quiet k ts rest

floor_quiet : (k : Queue) (b : Bool) (floor : ℕ) (rest : List Line) → after_lines (Some k) (cond b (Line.Floor floor ∷ []) [] ++ rest) ≡ after_lines (Some k) rest
floor_quiet k true floor rest = refl
floor_quiet k false floor rest = refl

pub history_quiet : (k : Queue) (h : History) (rest : List Line) → after_lines (Some k) (history_lines h ++ rest) ≡ after_lines (Some k) rest
history_quiet k h rest =
    ap (after_lines (Some k)) (append_assoc (floor_lines h.floor) (flat_map transaction_lines h.transactions) rest)
    ∙ floor_quiet k (nat_lt 0 h.floor) h.floor (flat_map transaction_lines h.transactions ++ rest)
    ∙ transactions_quiet k h.transactions rest

-- a pack that is done leaves what is armed
pub packed_licensed : (k : Queue) (t floor n : ℕ) (h : History) → Licenses k (Item2.Pack t) (history_lines h ++ Line.Packed floor n ∷ []) k
packed_licensed k t floor n h = history_quiet k h (Line.Packed floor n ∷ [])

records_faultless : (rs : List (ℕ × Value)) (rest : List Line) → faults (map record_line rs ++ rest) ≡ faults rest
records_faultless [] rest = refl
records_faultless (r ∷ rs) rest = (let more = records_faultless rs rest in omega (arith, more))

transactions_faultless : (ts : List Transaction) (rest : List Line) → faults (flat_map transaction_lines ts ++ rest) ≡ faults rest
transactions_faultless [] rest = refl
transactions_faultless (t ∷ ts) rest =
    let here : faults (transaction_lines t ++ (flat_map transaction_lines ts ++ rest)) ≡ faults (flat_map transaction_lines ts ++ rest) = (let more = records_faultless t.records (flat_map transaction_lines ts ++ rest) in omega (arith, more)) in
    ap faults (append_assoc (transaction_lines t) (flat_map transaction_lines ts) rest) ∙ here ∙ transactions_faultless ts rest

floor_faultless : (b : Bool) (floor : ℕ) (rest : List Line) → faults (cond b (Line.Floor floor ∷ []) [] ++ rest) ≡ faults rest
floor_faultless true floor rest = omega arith
floor_faultless false floor rest = refl

pub packed_faultless : (floor n : ℕ) (h : History) → faults (history_lines h ++ Line.Packed floor n ∷ []) ≡ 0
packed_faultless floor n h =
    let behind : List Line = flat_map transaction_lines h.transactions ++ Line.Packed floor n ∷ [] in
    let grouped : faults ((floor_lines h.floor ++ flat_map transaction_lines h.transactions) ++ Line.Packed floor n ∷ []) ≡ faults (floor_lines h.floor ++ behind) = ap faults (append_assoc (floor_lines h.floor) (flat_map transaction_lines h.transactions) (Line.Packed floor n ∷ [])) in
    let first : faults (floor_lines h.floor ++ behind) ≡ faults behind = floor_faultless (nat_lt 0 h.floor) h.floor behind in
    let rest : faults behind ≡ faults (Line.Packed floor n ∷ []) = transactions_faultless h.transactions (Line.Packed floor n ∷ []) in
    omega (arith, grouped, first, rest)
