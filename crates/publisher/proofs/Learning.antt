-- One fact more is taken over.
use Rattle.std.proofs.Common.{ℕ, ◌+◌, ◌<◌, ◌≤◌, ◌≡◌, ◌∙◌, ◌==◌, ◌-◌, ◌^◌, refl, sym, ap, subst, arith, eqb-true, Bool, true, false, List, [], ◌∷◌, ◌++◌, length, take, drop, get_or, append_assoc, sum_by, option_map, Option, Some, None, Result, Ok, Err, if◌then◌else◌}
use Rattle.std.proofs.lemmas.Grind.{common_steps}
use Rattle.std.proofs.Math.Seq.{take-append_seam, take-length}
use Rattle.std.proofs.lemmas.List.{length-append, length-take-le, take-append-drop, take_more}
use Rattle.std.proofs.lemmas.List.Sums.{sum_by_push}
use Rattle.std.specs.Option.{option_or}
use Rattle.std.specs.Prelude.{IfOk, OnErr, is_some, min}
use Rattle.zbase.specs.Query.{Grows}
use Rattle.zobject.specs.declared.object.Object.{Object}
use Rattle.zobject.specs.declared.refusal.CodecRefusal.{CodecRefusal}
use Rattle.zobject.specs.declared.refusal.CodecRefusal.TheVariants.{Memory, BadRecord}
use Rattle.zobject.specs.Rules.{IsObject}
use Rattle.zbase.specs.History.{Value}
use Rattle.zknown.specs.declared.kept.Kept.{Kept}
use Rattle.zknown.specs.declared.kept.Kept.TheVariants as kept
use Rattle.zknown.specs.Seen.{Added, Seen, Here, kept_of, last_added, objects, seen_as}
use Rattle.zcodec.specs.Reading.{Decodes, read}
use Rattle.zcodec.specs.Record.{Spells}
use Rattle.evaluator.specs.declared.ask.Ask.{Ask}
use Rattle.evaluator.specs.declared.fact.Fact.{Fact}
use Rattle.evaluator.specs.declared.fact.LogRow.{LogRow}
use Rattle.evaluator.specs.declared.fact.Part.{Part}
use Rattle.evaluator.specs.Facts.{ask_of, look, same_ask}
use Rattle.evaluator.specs.Questions.{size_of_fact, size_of_part}
use Rattle.manage.specs.Changing.{KeepRules}
use Rattle.publisher.specs.Comes.{look_push}
use Rattle.publisher.specs.declared.learned.Learned.{Learned}
use Rattle.publisher.specs.Keeping.{Holds, HoldsFirst, IsAdded, IsSame, Knows, kept_as, kept_fact, kept_value, saturated}

-- ---- what is read

abbrev IsRight : Kept → Type 0
IsRight k = (object : Object) → k ≡ kept.Here object → IsObject object

same_kept : (a b : Kept) → ◌≡◌ {A = Option Kept} (Some a) (Some b) → a ≡ b
same_kept a b e = cc

same_object : (a b : Object) → kept.Here a ≡ kept.Here b → a ≡ b
same_object a b e = cc

-- what is kept of bytes that were read
pub read_is : (bytes : List ℕ) (r : Result Object CodecRefusal) (k : Kept) → Decodes r (read bytes) → kept_of (Some r) ≡ Some k → kept_as (read bytes) ≡ k
read_is bytes (Ok o) k is e = ap kept_as is ∙ same_kept (kept.Here o) k e
read_is bytes (Err (BadRecord at)) k is e = ap kept_as is ∙ same_kept kept.Unreadable k e
read_is bytes (Err Memory) k is e = absurd (let bad = e in cc)

pub read_right : ((bytes : List ℕ) (o : Object) → Spells o bytes → IsObject o) → (bytes : List ℕ) (r : Result Object CodecRefusal) (k : Kept) → IfOk r (λ o. Spells o bytes) → kept_of (Some r) ≡ Some k → IsRight k
read_right lawful bytes (Ok o) k spells e = λ object is. subst IsObject (same_object o object (same_kept (kept.Here o) k e ∙ is)) (lawful bytes o spells)
read_right lawful bytes (Err (BadRecord at)) k spells e = λ object is. absurd (let bad : kept.Unreadable ≡ kept.Here object = same_kept kept.Unreadable k e ∙ is in cc)
read_right lawful bytes (Err Memory) k spells e = absurd (let bad = e in cc)

-- ---- objects that keep the rules

here_is : (k : Kept) (object : Object) → ◌≡◌ {A = Option (Seen Object)} (Some (seen_as (λ (o : Object). o) k)) (Some (Here object)) → k ≡ kept.Here object
here_is (kept.Here o) object e = cc
here_is kept.Absent object e = absurd (let bad = e in cc)
here_is kept.Unreadable object e = absurd (let bad = e in cc)

pub rules_stay : (old new : List (ℕ × Kept)) → IsSame old new → KeepRules (objects old) → KeepRules (objects new)
rules_stay old new same rules = λ o object e. rules o object (ap (option_map (seen_as (λ (x : Object). x))) (sym (same o)) ∙ e)

rules_added : (old new : List (ℕ × Kept)) (oid : ℕ) (k : Kept) → IsRight k → ((o : ℕ) → last_added new o ≡ (if oid == o then Some k else last_added old o)) → KeepRules (objects old) → KeepRules (objects new)
rules_added old new oid k right added rules = λ o object e. at o object (oid == o) (ap (option_map (seen_as (λ (x : Object). x))) (sym (added o)) ∙ e)
  where
    at : (o : ℕ) (object : Object) (same : Bool) → option_map (seen_as (λ (x : Object). x)) (if same then Some k else last_added old o) ≡ Some (Here object) → IsObject object
    at o object true e = right object (here_is k object e)
    at o object false e = rules o object e

-- what is added of a value
pub read_added : (old new : List (ℕ × Kept)) (oid : ℕ) (value : Value) (bytes : List ℕ) (r : Result Object CodecRefusal) → value ≡ Some bytes → Decodes r (read bytes) → Added oid (Some r) old new → IsAdded oid value old new
unfolding kept_value
read_added old new oid value bytes r is decodes added = λ o.
    added.2 o ∙ ap (λ (k : Kept). if oid == o then Some k else last_added old o) (sym (read_is bytes r added.0 decodes added.1)) ∙ ap (λ (v : Value). if oid == o then Some (kept_value v) else last_added old o) (sym is)

pub absent_added : (old new : List (ℕ × Kept)) (oid : ℕ) (value : Value) → value ≡ None → Added oid None old new → IsAdded oid value old new
unfolding kept_value
absent_added old new oid value is added = λ o.
    added.2 o ∙ ap (λ (k : Kept). if oid == o then Some k else last_added old o) (sym (same_kept kept.Absent added.0 added.1)) ∙ ap (λ (v : Value). if oid == o then Some (kept_value v) else last_added old o) (sym is)

pub read_rules : (old new : List (ℕ × Kept)) (oid : ℕ) (bytes : List ℕ) (r : Result Object CodecRefusal) → ((bytes : List ℕ) (o : Object) → Spells o bytes → IsObject o) → IfOk r (λ o. Spells o bytes) → Added oid (Some r) old new → KeepRules (objects old) → KeepRules (objects new)
read_rules old new oid bytes r lawful spells added rules = rules_added old new oid added.0 (read_right lawful bytes r added.0 spells added.1) added.2 rules

pub absent_rules : (old new : List (ℕ × Kept)) (oid : ℕ) → Added oid None old new → KeepRules (objects old) → KeepRules (objects new)
absent_rules old new oid added rules = rules_added old new oid added.0 (λ object e. absurd (let bad : kept.Absent ≡ kept.Here object = same_kept kept.Absent added.0 added.1 ∙ e in cc)) added.2 rules

-- ---- what is known

left_alone : (f : Option Fact) → f ≡ option_or f None
left_alone None = refl
left_alone (Some f) = refl

none_is : (k : Option Kept) → is_some k ≡ false → k ≡ None
none_is None e = refl
none_is (Some k) e = absurd (let bad = e in cc)

pub knows_same : (old new : List (ℕ × Kept)) (facts : List Fact) → IsSame old new → Knows old facts → Knows new facts
knows_same old new facts same knows = λ o. same o ∙ knows o

pub learn_new : (old new : List (ℕ × Kept)) (facts : List Fact) (oid : ℕ) (value : Value) (serial : ℕ) → Knows old facts → is_some (last_added old oid) ≡ false → IsAdded oid value old new → Knows new (facts ++ Fact.Object oid value serial ∷ [])
learn_new old new facts oid value serial knows none added = λ o.
    added o ∙ at o (oid == o) refl ∙ sym (ap (option_map kept_fact) (look_push facts (Fact.Object oid value serial) (Ask.Object o)))
  where
    unmet : (f : Option Fact) → option_map kept_fact f ≡ None → f ≡ None
    unmet None e = refl
    unmet (Some f) e = absurd (let bad = e in cc)

    at : (o : ℕ) (same : Bool) → (oid == o) ≡ same →
        (if same then Some (kept_value value) else last_added old o) ≡ option_map kept_fact (option_or (look facts (Ask.Object o)) (if same then Some (Fact.Object oid value serial) else None))
    at o true is =
        let unknown : look facts (Ask.Object o) ≡ None = subst (λ p. look facts (Ask.Object p) ≡ None) (eqb-true oid o is) (unmet (look facts (Ask.Object oid)) (sym (knows oid) ∙ none_is (last_added old oid) none)) in
        sym (ap (λ f. option_map kept_fact (option_or f (Some (Fact.Object oid value serial)))) unknown)
    at o false is = knows o ∙ ap (option_map kept_fact) (left_alone (look facts (Ask.Object o)))

pub learn_known : (rows : List (ℕ × Kept)) (facts : List Fact) (oid : ℕ) (value : Value) (serial : ℕ) → Knows rows facts → is_some (last_added rows oid) ≡ true → Knows rows (facts ++ Fact.Object oid value serial ∷ [])
learn_known rows facts oid value serial knows is_known = λ o.
    knows o ∙ ap (option_map kept_fact) (at o (oid == o) refl) ∙ sym (ap (option_map kept_fact) (look_push facts (Fact.Object oid value serial) (Ask.Object o)))
  where
    met : (f : Option Fact) (other : Fact) → is_some (option_map kept_fact f) ≡ true → f ≡ option_or f (Some other)
    met None other e = absurd (let bad = e in cc)
    met (Some f) other e = refl

    at : (o : ℕ) (same : Bool) → (oid == o) ≡ same → look facts (Ask.Object o) ≡ option_or (look facts (Ask.Object o)) (if same then Some (Fact.Object oid value serial) else None)
    at o true is = met (look facts (Ask.Object o)) (Fact.Object oid value serial) (ap is_some (sym (knows o)) ∙ subst (λ p. is_some (last_added rows p) ≡ true) (eqb-true oid o is) is_known)
    at o false is = left_alone (look facts (Ask.Object o))

-- a fact of no object
other_fact : (rows : List (ℕ × Kept)) (facts : List Fact) (f : Fact) → ((o : ℕ) → same_ask (ask_of f) (Ask.Object o) ≡ false) → Knows rows facts → Knows rows (facts ++ f ∷ [])
other_fact rows facts f other knows = λ o.
    knows o ∙ ap (option_map kept_fact) (left_alone (look facts (Ask.Object o)) ∙ ap (λ (b : Bool). option_or (look facts (Ask.Object o)) (if b then Some f else None)) (sym (other o)) ∙ sym (look_push facts f (Ask.Object o)))

pub learn_transaction : (rows : List (ℕ × Kept)) (facts : List Fact) (f : Fact) (t : ℕ) (parts : Option (List Part)) → f ≡ Fact.Transaction t parts → Knows rows facts → Knows rows (facts ++ f ∷ [])
learn_transaction rows facts f t parts is knows = subst (λ (g : Fact). Knows rows (facts ++ g ∷ [])) (sym is) (other_fact rows facts (Fact.Transaction t parts) (λ o. refl) knows)

pub learn_log : (rows : List (ℕ × Kept)) (facts : List Fact) (f : Fact) (log : List LogRow) → f ≡ Fact.Log log → Knows rows facts → Knows rows (facts ++ f ∷ [])
learn_log rows facts f log is knows = subst (λ (g : Fact). Knows rows (facts ++ g ∷ [])) (sym is) (other_fact rows facts (Fact.Log log) (λ o. refl) knows)

-- ---- what was known stays known

pub grows_not : (rows : List (ℕ × Kept)) → Grows (objects rows) (objects rows)
grows_not rows = λ o seen e. e

pub grows_further : (first second third : List (ℕ × Kept)) → Grows (objects first) (objects second) → Grows (objects second) (objects third) → Grows (objects first) (objects third)
grows_further first second third one two = λ o seen e. two o seen (one o seen e)

pub same_grows : (old new : List (ℕ × Kept)) → IsSame old new → Grows (objects old) (objects new)
same_grows old new same = λ o seen e. ap (option_map (seen_as (λ (x : Object). x))) (same o) ∙ e

pub new_grows : (old new : List (ℕ × Kept)) (oid : ℕ) (value : Value) → is_some (last_added old oid) ≡ false → IsAdded oid value old new → Grows (objects old) (objects new)
new_grows old new oid value none added = λ o seen e. ap (option_map (seen_as (λ (x : Object). x))) (added o) ∙ at o seen (oid == o) refl e
  where
    at : (o : ℕ) (seen : Seen Object) (same : Bool) → (oid == o) ≡ same → option_map (seen_as (λ (x : Object). x)) (last_added old o) ≡ Some seen →
        option_map (seen_as (λ (x : Object). x)) (if same then Some (kept_value value) else last_added old o) ≡ Some seen
    at o seen true is e = absurd (let unknown = none_is (last_added old oid) none in let known = subst (λ p. option_map (seen_as (λ (x : Object). x)) (last_added old p) ≡ Some seen) (sym (eqb-true oid o is)) e in let bad : ◌≡◌ {A = Option (Seen Object)} None (Some seen) = ap (option_map (seen_as (λ (x : Object). x))) (sym unknown) ∙ known in cc)
    at o seen false is e = e

-- ---- sums

saturated_more : (a b : ℕ) → min (saturated a + saturated b) (2 ^ 64 - 1) ≡ saturated (a + b)
saturated_more a b = omega arith

pub saturated_step : (size part rest whole : ℕ) → saturated (size + (part + rest)) ≡ whole → saturated (min (size + saturated part) (2 ^ 64 - 1) + rest) ≡ whole
saturated_step size part rest whole e = omega (arith, e)

pub sizes_done : (size at whole : ℕ) (parts : List Part) → size ≤ 2 ^ 64 - 1 → length parts ≤ at → saturated (size + sum_by size_of_part (drop at parts)) ≡ whole → size ≡ whole
sizes_done size at whole parts small done e =
    let none : drop at parts ≡ [] = grind (arith, common_steps) in
    let last : saturated (size + 0) ≡ whole = ap (λ (l : List Part). saturated (size + sum_by size_of_part l)) (sym none) ∙ e in
    omega (arith, small, last)

-- ---- all that is kept

pub holds_more : (old new : Learned) (front : List Fact) (f : Fact) → (Knows old.known front → Knows new.known (front ++ f ∷ [])) → (KeepRules (objects old.known) → KeepRules (objects new.known)) → new.taken ≡ old.taken + 1 →
    new.bytes ≡ min (old.bytes + saturated (size_of_fact f)) (2 ^ 64 - 1) → Holds old front → Holds new (front ++ f ∷ [])
holds_more old new front f knows rules taken bytes holds = record {
  knows = knows holds.knows;
  rules = rules holds.rules;
  taken = taken ∙ ap (λ n. n + 1) holds.taken ∙ sym (length-append front (f ∷ []));
  bytes = bytes ∙ ap (λ n. min (n + saturated (size_of_fact f)) (2 ^ 64 - 1)) holds.bytes ∙ saturated_more (sum_by size_of_fact front) (size_of_fact f) ∙ ap saturated (sym (sum_by_push size_of_fact front f));
}

pub holds_still : (old new : Learned) (front : List Fact) → (Knows old.known front → Knows new.known front) → (KeepRules (objects old.known) → KeepRules (objects new.known)) → new.taken ≡ old.taken → new.bytes ≡ old.bytes → Holds old front → Holds new front
holds_still old new front knows rules taken bytes holds = record { knows = knows holds.knows; rules = rules holds.rules; taken = taken ∙ holds.taken; bytes = bytes ∙ holds.bytes }

pub on_err : {T E : Type 0} (r : Result T E) (P : Type 0) → P → OnErr r P
on_err (Ok x) P p = tt
on_err (Err e) P p = p

-- ---- fact by fact

pub begins : (learned : Learned) (facts : List Fact) → HoldsFirst learned facts → (learned.taken ≤ length facts) × Holds learned (take learned.taken facts)
begins learned facts fits =
    let long : length facts ≡ length fits.front + length fits.rest = ap length fits.parts ∙ length-append fits.front fits.rest in
    let taken = fits.holds.taken in
    let same : take learned.taken facts ≡ fits.front = ap (λ (n : ℕ). take n facts) taken ∙ ap (take (length fits.front)) fits.parts ∙ take-append_seam fits.front fits.rest in
    (omega (arith, taken, long), subst (λ (front : List Fact). Holds learned front) (sym same) fits.holds)

pub next_holds : (learned : Learned) (facts : List Fact) (at : ℕ) (f : Fact) → at < length facts → f ≡ get_or facts at f → Holds learned (take at facts ++ f ∷ []) → Holds learned (take (at + 1) facts)
next_holds learned facts at f below is holds = subst (λ (front : List Fact). Holds learned front) (ap (λ (g : Fact). take at facts ++ g ∷ []) is ∙ sym (take_more facts at f below)) holds

pub all_hold : (learned : Learned) (facts : List Fact) (at : ℕ) → length facts ≤ at → at ≤ length facts → Holds learned (take at facts) → Holds learned facts
all_hold learned facts at more few holds =
    let same : at ≡ length facts = omega (arith, more, few) in
    subst (λ (front : List Fact). Holds learned front) (ap (λ (n : ℕ). take n facts) same ∙ take-length facts) holds

pub fits_so : (learned : Learned) (facts : List Fact) (at : ℕ) → Holds learned (take at facts) → (more : List Fact) → HoldsFirst learned (facts ++ more)
fits_so learned facts at holds more = record {
  front = take at facts;
  rest = drop at facts ++ more;
  parts = ap (λ (l : List Fact). l ++ more) (sym (take-append-drop at facts)) ∙ append_assoc (take at facts) (drop at facts) more;
  holds = holds;
}

pub all_fit : (learned : Learned) (facts : List Fact) → Holds learned facts → (more : List Fact) → HoldsFirst learned (facts ++ more)
all_fit learned facts holds more = record { front = facts; rest = more; parts = refl; holds = holds }

pub taken_is : (learned : Learned) (facts : List Fact) (at : ℕ) → at ≤ length facts → Holds learned (take at facts) → learned.taken ≡ at
taken_is learned facts at below holds = holds.taken ∙ length-take-le at facts below
