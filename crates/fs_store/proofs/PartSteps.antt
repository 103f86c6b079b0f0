-- The parts of a transaction, one more record from the end, and what a part up to a transaction knows.
use Rattle.std.proofs.Common.{◌≡◌, ℕ, arith, ◌+◌, ◌<◌, ◌≤◌, ◌==◌, ◌||◌, Bool, true, false, cond, eqb, ltb, List, [], ◌∷◌, ◌++◌, Option, Some, None, refl, sym, ap, ap₂, subst, ◌∙◌, map, filter, find, length, get_or, drop, reverse, ne_eqb, eqb-true, leb-false}
use Rattle.std.specs.Prelude.{nat_lt, nat_le, not, ◌-◌}
use Rattle.std.specs.List.{list_any}
use Rattle.std.specs.Ordering.{nat_cmp, is_eq}
use Rattle.std.specs.BTreeMap.{is_at}
use Rattle.std.specs.declared.cmp.Ordering.TheVariants.{Less, Equal, Greater}
use Rattle.std.proofs.lemmas.Bool.{ltb-true, false≢true}
use Rattle.std.proofs.lemmas.Bool.Decides.{nat_tests}
use Rattle.std.proofs.lemmas.List.{reverse-append, drop_more}
use Rattle.zbase.specs.History.{Transaction, Value, History, RisesFrom, IsHistory}
use Rattle.std.specs.Option.{option_map}
use Rattle.zbase.specs.Values.{before, serial, transaction, upto, value}
use Rattle.zbase.specs.HistoryLaws.{found_within}
use Rattle.evaluator.specs.declared.fact.Part.{Part}
use Rattle.evaluator.specs.Facts.{last_records, part_of, parts_of, unpacked_at}
use Rattle.fs_scan.specs.declared.wholes.OidValue.{OidValue}
use Rattle.fs_scan.specs.Wholes.{records_in}
use Rattle.fs_store.specs.Parts.{records_of}

one_of : (p q : Bool) → (p ≡ true → q ≡ false) → is_eq (cond p Less (cond q Equal Greater)) ≡ q
one_of true true h = absurd (false≢true (sym (h refl)))
one_of true false h = refl
one_of false true h = refl
one_of false false h = refl

at_same : (a o : ℕ) → is_at (nat_cmp a) o ≡ (a == o)
at_same a o = one_of (ltb a o) (eqb a o) (λ p. ne_eqb a o (λ e. omega (arith, ltb-true a o p, e)))

next_drop : (vs : List OidValue) (left i : ℕ) (v : OidValue) → left ≡ i + 1 → i < length vs → v ≡ get_or vs i v → drop i vs ≡ v ∷ drop left vs
next_drop vs left i v one lt is = drop_more vs i v lt ∙ ap (λ (x : OidValue). x ∷ drop (i + 1) vs) (sym is) ∙ ap (λ n. v ∷ drop n vs) (sym one)

pub seen_next : (old new : ℕ → Bool) (vs : List OidValue) (left i key : ℕ) (v : OidValue) → left ≡ i + 1 → i < length vs → v ≡ get_or vs i v → key ≡ v.oid
    → ((o : ℕ) → new o ≡ cond (is_at (nat_cmp key) o) true (old o)) → ((o : ℕ) → old o ≡ list_any (λ s. s.0 == o) (records_in (drop left vs)))
    → (o : ℕ) → new o ≡ list_any (λ s. s.0 == o) (records_in (drop i vs))
seen_next old new vs left i key v one lt is own put has o =
    put o ∙ ap (λ b. cond b true (old o)) (at_same key o ∙ ap (λ n. n == o) own) ∙ ap (λ b. cond (v.oid == o) true b) (has o)
    ∙ either (v.oid == o) (list_any (λ s. s.0 == o) (records_in (drop left vs)))
    ∙ ap (λ xs. list_any (λ s. s.0 == o) (records_in xs)) (sym (next_drop vs left i v one lt is))
  where
    either : (a b : Bool) → cond a true b ≡ (a || b)
    either true b = refl
    either false b = refl

not_true : (b : Bool) → not b ≡ true → b ≡ false
not_true true e = cc
not_true false e = refl

not_false : (b : Bool) → not b ≡ false → b ≡ true
not_false true e = refl
not_false false e = cc

pub part_new : (past : History) (vs : List OidValue) (left i key : ℕ) (v : OidValue) (parts new : List Part) (p : Part) (old : ℕ → Bool) → left ≡ i + 1 → i < length vs → v ≡ get_or vs i v → key ≡ v.oid
    → not (old key) ≡ true → ((o : ℕ) → old o ≡ list_any (λ s. s.0 == o) (records_in (drop left vs))) → p ≡ part_of past (v.oid, v.value) → new ≡ parts ++ p ∷ []
    → reverse parts ≡ map (part_of past) (last_records (records_in (drop left vs))) → reverse new ≡ map (part_of past) (last_records (records_in (drop i vs)))
part_new past vs left i key v parts new p old one lt is own added has part push so =
    let none : list_any (λ s. s.0 == v.oid) (records_in (drop left vs)) ≡ false = sym (has v.oid) ∙ ap old (sym own) ∙ not_true (old key) added in
    ap reverse push ∙ reverse-append parts (p ∷ []) ∙ ap (λ q. q ∷ reverse parts) part ∙ ap (λ ps. part_of past (v.oid, v.value) ∷ ps) so
    ∙ sym (ap (λ b. map (part_of past) (cond b (last_records (records_in (drop left vs))) ((v.oid, v.value) ∷ last_records (records_in (drop left vs))))) none)
    ∙ sym (ap (λ xs. map (part_of past) (last_records (records_in xs))) (next_drop vs left i v one lt is))

pub part_old : (past : History) (vs : List OidValue) (left i key : ℕ) (v : OidValue) (parts : List Part) (old : ℕ → Bool) → left ≡ i + 1 → i < length vs → v ≡ get_or vs i v → key ≡ v.oid
    → not (old key) ≡ false → ((o : ℕ) → old o ≡ list_any (λ s. s.0 == o) (records_in (drop left vs)))
    → reverse parts ≡ map (part_of past) (last_records (records_in (drop left vs))) → reverse parts ≡ map (part_of past) (last_records (records_in (drop i vs)))
part_old past vs left i key v parts old one lt is own added has so =
    let some : list_any (λ s. s.0 == v.oid) (records_in (drop left vs)) ≡ true = sym (has v.oid) ∙ ap old (sym own) ∙ not_false (old key) added in
    so
    ∙ sym (ap (λ b. map (part_of past) (cond b (last_records (records_in (drop left vs))) ((v.oid, v.value) ∷ last_records (records_in (drop left vs))))) some)
    ∙ sym (ap (λ xs. map (part_of past) (last_records (records_in xs))) (next_drop vs left i v one lt is))

-- ---- up to a transaction

beyond : (xs : List Transaction) (tid at : ℕ) → at < tid → find (λ x. x.tid == tid) (filter (λ x. nat_le x.tid at) xs) ≡ None
beyond [] tid at lt = refl
beyond (x ∷ xs) tid at lt = go (nat_le x.tid at) refl (beyond xs tid at lt)
  where
    go : (b : Bool) → nat_le x.tid at ≡ b → find (λ y. y.tid == tid) (filter (λ y. nat_le y.tid at) xs) ≡ None → find (λ y. y.tid == tid) (cond b (x ∷ filter (λ y. nat_le y.tid at) xs) (filter (λ y. nat_le y.tid at) xs)) ≡ None
    go true le deeper =
        let other : (x.tid == tid) ≡ false = grind (arith, nat_tests) in
        rw other deeper
    go false le deeper = deeper

within : (xs : List Transaction) (tid at : ℕ) → tid ≤ at → find (λ x. x.tid == tid) (filter (λ x. nat_le x.tid at) xs) ≡ find (λ x. x.tid == tid) xs
within [] tid at le = refl
within (x ∷ xs) tid at le = go (x.tid == tid) refl (nat_le x.tid at) refl (within xs tid at le)
  where
    go : (b : Bool) → (x.tid == tid) ≡ b → (c : Bool) → nat_le x.tid at ≡ c → find (λ y. y.tid == tid) (filter (λ y. nat_le y.tid at) xs) ≡ find (λ y. y.tid == tid) xs
        → find (λ y. y.tid == tid) (cond c (x ∷ filter (λ y. nat_le y.tid at) xs) (filter (λ y. nat_le y.tid at) xs)) ≡ cond b (Some x) (find (λ y. y.tid == tid) xs)
    go true hit true p deeper = rw hit refl
    go true hit false p deeper = absurd (let e = eqb-true x.tid tid hit in let lt = leb-false x.tid at p in omega (arith, e, lt, le))
    go false miss true p deeper = rw miss deeper
    go false miss false p deeper = deeper

pub transaction_beyond : (h : History) (tid at : ℕ) → at < tid → transaction (upto h at) tid ≡ None
transaction_beyond h tid at lt = beyond h.transactions tid at lt

pub transaction_within : (h : History) (tid at : ℕ) → tid ≤ at → transaction (upto h at) tid ≡ transaction h tid
transaction_within h tid at le = within h.transactions tid at le

before_within : (xs : List Transaction) (t at : ℕ) → t ≤ at → filter (λ x. nat_lt x.tid t) (filter (λ x. nat_le x.tid at) xs) ≡ filter (λ x. nat_lt x.tid t) xs
before_within [] t at le = refl
before_within (x ∷ xs) t at le = go (nat_lt x.tid t) refl (nat_le x.tid at) refl (before_within xs t at le)
  where
    go : (b : Bool) → nat_lt x.tid t ≡ b → (c : Bool) → nat_le x.tid at ≡ c → filter (λ y. nat_lt y.tid t) (filter (λ y. nat_le y.tid at) xs) ≡ filter (λ y. nat_lt y.tid t) xs
        → filter (λ y. nat_lt y.tid t) (cond c (x ∷ filter (λ y. nat_le y.tid at) xs) (filter (λ y. nat_le y.tid at) xs)) ≡ cond b (x ∷ filter (λ y. nat_lt y.tid t) xs) (filter (λ y. nat_lt y.tid t) xs)
    go true hit true p deeper = rw hit (ap (λ ys. x ∷ ys) deeper)
    go true hit false p deeper = absurd (let lt = ltb-true x.tid t hit in let gt = leb-false x.tid at p in omega (arith, lt, gt, le))
    go false miss true p deeper = rw miss deeper
    go false miss false p deeper = deeper

pub parts_within : (h : History) (x : Transaction) (at : ℕ) → x.tid ≤ at → parts_of (upto h at) x ≡ parts_of h x
parts_within h x at le = ap (λ ts. let past : History = record { floor = h.floor; transactions = ts } in map (part_of past) (last_records x.records)) (before_within h.transactions x.tid at le)

pub found_tid : (h : History) (x : Transaction) (tid : ℕ) → IsHistory h → transaction h tid ≡ Some x → x.tid ≡ tid
found_tid h x tid good found = (found_within tid 0 h.transactions x good found).0

found_above : (n tid : ℕ) (xs : List Transaction) (x : Transaction) → RisesFrom n xs → find (λ y. y.tid == tid) xs ≡ Some x → n < x.tid
found_above n tid [] x h e = cc
found_above n tid (y ∷ ys) x h e = go (y.tid == tid) e (found_above y.tid tid ys x h.1)
  where
    go : (b : Bool) → cond b (Some y) (find (λ z. z.tid == tid) ys) ≡ Some x → (find (λ z. z.tid == tid) ys ≡ Some x → y.tid < x.tid) → n < x.tid
    go true here deeper = (let same : y ≡ x = cc in subst (λ (z : Transaction). n < z.tid) same h.0)
    go false here deeper = (let lt = deeper here in omega (arith, lt, h.0))

pub found_positive : (h : History) (x : Transaction) (tid : ℕ) → IsHistory h → transaction h tid ≡ Some x → 0 < x.tid
found_positive h x tid good found = found_above 0 tid h.transactions x good found

pub before_is_upto : (h : History) (tid : ℕ) → 0 < tid → upto h (tid - 1) ≡ before h tid
before_is_upto h tid positive = ap (λ ts. let past : History = record { floor = h.floor; transactions = ts } in past) (go h.transactions)
  where
    same : (n : ℕ) → nat_le n (tid - 1) ≡ nat_lt n tid
    same n = grind (arith, nat_tests)

    go : (xs : List Transaction) → filter (λ x. nat_le x.tid (tid - 1)) xs ≡ filter (λ x. nat_lt x.tid tid) xs
    go [] = refl
    go (x ∷ xs) = rw (same x.tid, go xs) refl

pub part_is : (h : History) (tid oid : ℕ) (after v : Value) (s : ℕ) → 0 < tid → v ≡ value (upto h (tid - 1)) oid → s ≡ serial (upto h (tid - 1)) oid → (let p : Part = record { oid = oid; after = after; before = v; before_serial = s } in p) ≡ part_of (before h tid) (oid, after)
part_is h tid oid after v s positive value_is serial_is =
    let same = before_is_upto h tid positive in
    ap₂ (λ (v : Value) (s : ℕ). let p : Part = record { oid = oid; after = after; before = v; before_serial = s } in p) (value_is ∙ ap (λ (past : History). value past oid) same) (serial_is ∙ ap (λ (past : History). serial past oid) same)

not_found : (b : Bool) (f : Option Transaction) → f ≡ None → cond b f None ≡ None
not_found true f none = none
not_found false f none = refl

pub parts_none : (h : History) (tid at : ℕ) → transaction (upto h at) tid ≡ None → None ≡ option_map (parts_of (upto h at)) (unpacked_at (upto h at) tid)
parts_none h tid at none = sym (ap (option_map (parts_of (upto h at))) (not_found (nat_lt h.floor tid) (transaction (upto h at) tid) none))

-- a transaction up to the floor was packed
pub parts_packed : (h : History) (tid at floor : ℕ) → floor ≡ h.floor → tid ≤ floor → None ≡ option_map (parts_of (upto h at)) (unpacked_at (upto h at) tid)
parts_packed h tid at floor is le =
    let below : nat_lt h.floor tid ≡ false = grind (arith, nat_tests) in
    sym (ap (λ (b : Bool). option_map (parts_of (upto h at)) (cond b (transaction (upto h at) tid) None)) below)

pub none_found : (f : Option Transaction) → None ≡ option_map records_of f → f ≡ None
none_found None e = refl
none_found (Some x) e = absurd cc

pub parts_are : (h : History) (tid at floor : ℕ) (values shown : List OidValue) (parts : List Part) → IsHistory h → floor ≡ h.floor → floor < tid → tid ≤ at → Some (records_in values) ≡ option_map records_of (transaction h tid) → shown ≡ values
    → parts ≡ map (part_of (before h tid)) (last_records (records_in shown)) → Some parts ≡ option_map (parts_of (upto h at)) (unpacked_at (upto h at) tid)
parts_are h tid at floor values shown parts good is_floor above le found same are = go (transaction h tid) refl found
  where
    higher : nat_lt h.floor tid ≡ true
    higher = grind (arith, nat_tests, is_floor, above)

    go : (f : Option Transaction) → transaction h tid ≡ f → Some (records_in values) ≡ option_map records_of f → Some parts ≡ option_map (parts_of (upto h at)) (unpacked_at (upto h at) tid)
    go None is e = absurd cc
    go (Some x) is e =
        let said : records_in values ≡ x.records = cc in
        let own = found_tid h x tid good is in
        ap (λ (ps : List Part). Some ps) (are
        ∙ ap (λ (vs : List OidValue). map (part_of (before h tid)) (last_records (records_in vs))) same
        ∙ ap (λ (rs : List (ℕ × Value)). map (part_of (before h tid)) (last_records rs)) said
        ∙ ap (λ (t : ℕ). map (part_of (before h t)) (last_records x.records)) (sym own)
        ∙ sym (parts_within h x at (omega (arith, own, le))))
        ∙ sym (ap (λ (b : Bool). option_map (parts_of (upto h at)) (cond b (transaction (upto h at) tid) None)) higher ∙ ap (option_map (parts_of (upto h at))) (transaction_within h tid at le ∙ is))
