-- Each text is a schedule or has a bad line.
use Rattle.std.proofs.Common.{◌≡◌, ℕ, ◌<◌, ◌+◌, ◌^◌, List, [], ◌∷◌, ◌++◌, ◌⊎◌, inl, inr, length, take, drop, zero, suc, refl, sym, ap, subst, ◌∙◌, append_assoc, length-append, arith}
use Rattle.std.specs.Prelude.{codes, decimal, flat_map}
use Rattle.std.specs.List.{AllByRecursion}
use Rattle.std.proofs.lemmas.List.{take-append-drop}
use Rattle.schedule.specs.declared.item.Item2.{Item2}
use Rattle.schedule.specs.Items.{item_text, first_line, workers, HasLine, IsSchedule}
use Rattle.schedule.specs.BadLines.{BeginsItem, IsBadLine, GoesOn, IsBadAt}
use Rattle.schedule.proofs.BadItems.{regroup_step, regroup_clock, regroup_stop, regroup_fail, regroup_pack, a_request, a_step, a_clock, a_stop, a_fail, a_pack, no_word, behind_worker, behind_length}
use Rattle.schedule.proofs.Decided.{Begins, begins, NumberAt, number_at, WorkerAt, worker_at, CallsAt, calls_at}
use Rattle.schedule.proofs.OneSchedule.{regroup_request}
use Rattle.schedule.proofs.Stamps.{Stamp, stamp}

-- an item begins, or none does
abbrev Item : List ℕ → Type 0
Item text = BeginsItem text ⊎ (BeginsItem text → ⊥)

long_enough : (n : ℕ) (rest more : List ℕ) → drop n rest ≡ 10 ∷ more → length (take n rest) ≡ n
long_enough zero rest more e = refl
long_enough (suc n) [] more e = absurd (cc)
long_enough (suc n) (x ∷ rest) more e = (let f = long_enough n rest more e in omega (arith, f))

request_by_bytes : (fields : List ℕ) (w n : ℕ) (rest : List ℕ) → w < workers → n < 2 ^ 64 → fields ≡ decimal w ++ 32 ∷ (decimal n ++ 10 ∷ rest) → Begins (10 ∷ []) (drop n rest) → Item (codes "request " ++ fields)
request_by_bytes fields w n rest below small e (inl (more, f)) =
    let count : length (take n rest) ≡ n = long_enough n rest more f in
    let parts : rest ≡ take n rest ++ 10 ∷ more = sym (take-append-drop n rest) ∙ ap (λ xs. take n rest ++ xs) f in
    let text : codes "request " ++ fields ≡ item_text (Item2.Request w (take n rest)) ++ more =
    ap (λ xs. codes "request " ++ xs) (e ∙ ap (λ xs. decimal w ++ 32 ∷ xs) (ap (λ k. decimal k ++ 10 ∷ rest) (sym count) ∙ ap (λ xs. decimal (length (take n rest)) ++ 10 ∷ xs) parts)) ∙ sym (regroup_request w (take n rest) more) in
    inl (Item2.Request w (take n rest), more, (below, omega (arith, count, small)), text)
request_by_bytes fields w n rest below small e (inr none) = inr (λ item. (let parts = behind_length fields (decimal n ++ 10 ∷ rest) w n rest below e small refl item in none parts.0 parts.2))

request_by_length : (fields rest : List ℕ) (w : ℕ) → w < workers → fields ≡ decimal w ++ 32 ∷ rest → NumberAt 10 rest → Item (codes "request " ++ fields)
request_by_length fields rest w below e (inl (n, others, small, f)) = request_by_bytes fields w n others below small (e ∙ ap (λ xs. decimal w ++ 32 ∷ xs) f) (begins (10 ∷ []) (drop n others))
request_by_length fields rest w below e (inr none) = inr (λ item. (let parts = behind_worker fields rest w below e item in none (length parts.0) (parts.0 ++ 10 ∷ parts.1) parts.2 parts.3))

request : (fields : List ℕ) → WorkerAt 32 fields → Item (codes "request " ++ fields)
request fields (inl (w, rest, below, e)) = request_by_length fields rest w below e (number_at 10 rest (omega arith))
request fields (inr none) = inr (λ item. (let parts = a_request fields item in none parts.0 (decimal (length parts.1) ++ 10 ∷ (parts.1 ++ 10 ∷ parts.2)) parts.3 parts.5))

step : (fields : List ℕ) → WorkerAt 10 fields → Item (codes "step " ++ fields)
step fields (inl (w, rest, below, e)) = inl (Item2.Step w, rest, below, ap (λ xs. codes "step " ++ xs) e ∙ sym (regroup_step w rest))
step fields (inr none) = inr (λ item. (let parts = a_step fields item in none parts.0 parts.1 parts.2 parts.3))

clock : (fields : List ℕ) → Stamp fields → Item (codes "clock " ++ fields)
clock fields (inl (t, rest, small, e)) = inl (Item2.Clock t, rest, small, ap (λ xs. codes "clock " ++ xs) e ∙ sym (regroup_clock t rest))
clock fields (inr none) = inr (λ item. (let parts = a_clock fields item in none parts.0 parts.1 parts.3))

stop : (fields : List ℕ) → CallsAt fields → Item (codes "stop " ++ fields)
stop fields (inl c) = inl (Item2.Stop c.calls c.seed, c.more, (c.some, c.calls_small, c.seed_small), ap (λ xs. codes "stop " ++ xs) c.text ∙ sym (regroup_stop c.calls c.seed c.more))
stop fields (inr none) = inr (λ item. none (a_stop fields item))

fail : (fields : List ℕ) → CallsAt fields → Item (codes "fail " ++ fields)
fail fields (inl c) = inl (Item2.Fail c.calls c.seed, c.more, (c.some, c.calls_small, c.seed_small), ap (λ xs. codes "fail " ++ xs) c.text ∙ sym (regroup_fail c.calls c.seed c.more))
fail fields (inr none) = inr (λ item. none (a_fail fields item))

pack : (fields : List ℕ) → Stamp fields → Item (codes "pack " ++ fields)
pack fields (inl (t, rest, small, e)) = inl (Item2.Pack t, rest, small, ap (λ xs. codes "pack " ++ xs) e ∙ sym (regroup_pack t rest))
pack fields (inr none) = inr (λ item. (let parts = a_pack fields item in none parts.0 parts.1 parts.3))

item_by_word : (text : List ℕ) → Begins (codes "request ") text → Begins (codes "step ") text → Begins (codes "clock ") text → Begins (codes "stop ") text → Begins (codes "fail ") text → Begins (codes "pack ") text → Item text
item_by_word text (inl (fields, e)) _ _ _ _ _ = subst (λ xs. Item xs) (sym e) (request fields (worker_at 32 fields (omega arith)))
item_by_word text (inr _) (inl (fields, e)) _ _ _ _ = subst (λ xs. Item xs) (sym e) (step fields (worker_at 10 fields (omega arith)))
item_by_word text (inr _) (inr _) (inl (fields, e)) _ _ _ = subst (λ xs. Item xs) (sym e) (clock fields (stamp fields))
item_by_word text (inr _) (inr _) (inr _) (inl (fields, e)) _ _ = subst (λ xs. Item xs) (sym e) (stop fields (calls_at fields))
item_by_word text (inr _) (inr _) (inr _) (inr _) (inl (fields, e)) _ = subst (λ xs. Item xs) (sym e) (fail fields (calls_at fields))
item_by_word text (inr _) (inr _) (inr _) (inr _) (inr _) (inl (fields, e)) = subst (λ xs. Item xs) (sym e) (pack fields (stamp fields))
item_by_word text (inr r) (inr s) (inr c) (inr h) (inr f) (inr k) = inr (no_word text r s c h f k)

item : (text : List ℕ) → Item text
item text = item_by_word text (begins (codes "request ") text) (begins (codes "step ") text) (begins (codes "clock ") text) (begins (codes "stop ") text) (begins (codes "fail ") text) (begins (codes "pack ") text)

-- good lines, and why they end
abbrev Ends : List ℕ → Type 0
Ends others = (others ≡ item_text Item2.End) ⊎ (GoesOn others ⊎ IsBadLine others)

abbrev Read : List ℕ → Type 0
Read rest = (items : List Item2) × (others : List ℕ) × AllByRecursion HasLine items × (rest ≡ flat_map item_text items ++ others) × Ends others

at_end : (rest more : List ℕ) → rest ≡ item_text Item2.End ++ more → Ends rest
at_end rest [] e = inl e
at_end rest (x ∷ more) e = inr (inl (record { more = x ∷ more; text = e; some = λ f. cc }))

item_long : (item : Item2) → 0 < length (item_text item)
item_long (Item2.Request w bytes) = omega arith
item_long (Item2.Step w) = omega arith
item_long (Item2.Clock t) = omega arith
item_long (Item2.Stop n seed) = omega arith
item_long (Item2.Fail n seed) = omega arith
item_long (Item2.Pack t) = omega arith
item_long Item2.End = omega arith

read_by : (k : ℕ) (rest : List ℕ) → ((others : List ℕ) → length others < k → Read others) → length rest < suc k → Begins (item_text Item2.End) rest → Item rest → Read rest
read_by k rest go f (inl (more, e)) _ = ([], rest, tt, refl, at_end rest more e)
read_by k rest go f (inr none) (inl (item, others, line, e)) =
    let count : length rest ≡ length (item_text item) + length others = ap length e ∙ length-append (item_text item) others in
    let long = item_long item in
    let r = go others (omega (arith, count, long, f)) in
    (item ∷ r.0, r.1, (line, r.2), e ∙ ap (λ xs. item_text item ++ xs) r.3 ∙ sym (append_assoc (item_text item) (flat_map item_text r.0) r.1), r.4)
read_by k rest go f (inr none) (inr nothing) = ([], rest, tt, refl, inr (inr (record { no_item = nothing; no_end = none })))

read : (k : ℕ) (rest : List ℕ) → length rest < k → Read rest
read zero rest f = absurd (omega (arith, f))
read (suc k) rest f = read_by k rest (read k) f (begins (item_text Item2.End) rest) (item rest)

abbrev Either : List ℕ → Type 0
Either text = ((items : List Item2) × IsSchedule text items) ⊎ ((n : ℕ) × IsBadAt text n)

either_read : (text rest : List ℕ) → text ≡ first_line ++ rest → Read rest → Either text
either_read text rest e (items, others, lines, f, inl end) = inl (items, record { lines = lines; text = e ∙ ap (λ xs. first_line ++ xs) (f ∙ ap (λ xs. flat_map item_text items ++ xs) end) })
either_read text rest e (items, others, lines, f, inr (inl more)) = inr (length items + 3, inr (items, others, record { lines = lines; text_is = e ∙ ap (λ xs. first_line ++ xs) f }, inr (refl, more)))
either_read text rest e (items, others, lines, f, inr (inr bad)) = inr (length items + 2, inr (items, others, record { lines = lines; text_is = e ∙ ap (λ xs. first_line ++ xs) f }, inl (refl, bad)))

either_by : (text : List ℕ) → Begins first_line text → Either text
either_by text (inl (rest, e)) = either_read text rest e (read (length rest + 1) rest (omega arith))
either_by text (inr none) = inr (1, inl (refl, none))

pub either : (text : List ℕ) → ((items : List Item2) × IsSchedule text items) ⊎ ((n : ℕ) × IsBadAt text n)
either text = either_by text (begins first_line text)
