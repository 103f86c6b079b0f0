-- One look after another, where refusals are those of a page.
use Rattle.std.proofs.Common.{ℕ, ◌≡◌, ◌∙◌, refl, sym, ap, subst, ◌++◌, append_assoc, List, [], Option, None, Some, Result, Ok, Err, arith}
use Rattle.std.proofs.lemmas.List.{append-nil}
use Rattle.zbase.specs.Query.{Told, Halt}
use Rattle.evaluator.specs.declared.reply.Shown.{Shown}
use Rattle.zobject.specs.declared.object.Object.{Object}
use Rattle.zknown.specs.Seen.{Seen}
use Rattle.namespace.specs.Looks.{Looks, Done, Fault, looked, ◌>>=◌}
use Rattle.namespace.specs.LookLaws.{looked_goes, looked_passes}
use Rattle.namespace.specs.Names.{Space}
use Rattle.namespace.specs.Told as lower
use Rattle.namespace.specs.Told.{Shows, Begins, OnlyAnswers, OnlyHits}
use Rattle.namespace.specs.declared.refusal.NameRefusal.{NameRefusal}
use Rattle.namespace.specs.declared.refusal.NameRefusal.TheVariants as names
use Rattle.dtml_values.specs.declared.budget.Budget.{Budget}
use Rattle.dtml_values.specs.Values.{Left}
use Rattle.dtml_values.specs.Told.{told, of_name, Keeps}

-- a refusal of the layer below tells the same
pub named_told : {A : Type 0} (e : NameRefusal) (r : Result A (Halt ℕ Fault)) → Told (lower.told e) r → Told (told (of_name e)) r
named_told names.Memory r t = tt
named_told (names.Need o) r t = t
named_told (names.Broken o) r t = t
named_told (names.Unauthorized o permission) r t = t
named_told names.TooDeep r t = t

pub name_stops : {A B : Type 0} (k : ℕ → Option (Seen Object)) (shown : List Shown) (q : Looks A) (next : A → Looks B) (e : NameRefusal) → Told (lower.told e) (looked k shown q) → Told (told (of_name e)) (looked k shown (q >>= next))
name_stops k shown q next e t = looked_passes k shown q next (told (of_name e)) (named_told e (looked k shown q) t)

-- what comes behind goes on with what was shown
pub goes_so : {X A B E : Type 0} (tell : E → Option (Halt ℕ Fault)) (view : X → B) (present : List Shown) (result : Result X E) (k : ℕ → Option (Seen Object)) (shown : List Shown) (q : Looks A) (next : A → Looks B) (x : A) (mid : List Shown) →
    looked k shown q ≡ Ok (x, mid) → Shows tell view present result (looked k mid (next x)) → Shows tell view present result (looked k shown (q >>= next))
goes_so tell view present result k shown q next x mid e a = subst (Shows tell view present result) (sym (looked_goes k shown q next (x, mid) e)) a

pub goes : {A B : Type 0} (k : ℕ → Option (Seen Object)) (shown : List Shown) (q : Looks A) (next : A → Looks B) (x : A) (mid : List Shown) (r : Result (B × List Shown) (Halt ℕ Fault)) →
    looked k shown q ≡ Ok (x, mid) → looked k mid (next x) ≡ r → looked k shown (q >>= next) ≡ r
goes k shown q next x mid r e f = looked_goes k shown q next (x, mid) e ∙ f

pub stops : {A B : Type 0} (k : ℕ → Option (Seen Object)) (shown : List Shown) (q : Looks A) (next : A → Looks B) (halt : Option (Halt ℕ Fault)) → Told halt (looked k shown q) → Told halt (looked k shown (q >>= next))
stops k shown q next halt t = looked_passes k shown q next halt t

-- a value, with what is left
pub left_so : {X A E : Type 0} (tell : E → Option (Halt ℕ Fault)) (view : X → A) (present : List Shown) (result : Result X E) (k : ℕ → Option (Seen Object)) (shown : List Shown) (q : Looks A) (left : Left) →
    Shows tell view present result (looked k shown q) → Shows {A = A × Left} tell (λ x. (view x, left)) present result (looked k shown (q >>= λ v. Done (v, left)))
left_so tell view present (Ok x) k shown q left is = looked_goes k shown q (λ v. Done (v, left)) (view x, present) is
left_so tell view present (Err e) k shown q left is = looked_passes k shown q (λ v. Done (v, left)) (tell e) is

-- ---- what stands

pub begins_none : (a b : List Shown) → b ≡ a → Begins a b
begins_none a b same = ([], same ∙ sym (append-nil a))

pub begins_on : (a b c : List Shown) → Begins a b → Begins b c → Begins a c
begins_on a b c p q = (p.0 ++ q.0, q.1 ∙ ap (λ s. s ++ q.0) p.1 ∙ append_assoc a p.0 q.0)

pub hits_begin : {X E : Type 0} (a b : List Shown) (r : Result (Option X) E) → OnlyHits a b r → Begins a b
hits_begin a b (Ok (Some x)) only = only
hits_begin a b (Ok None) only = begins_none a b only
hits_begin a b (Err e) only = begins_none a b only

pub answers_begin : {X E : Type 0} (a b : List Shown) (r : Result X E) → OnlyAnswers a b r → Begins a b
answers_begin a b (Ok x) only = only
answers_begin a b (Err e) only = begins_none a b only

-- only the stack changed
pub keeps_stack : (a b : Space) (x : Budget) → b.known ≡ a.known → b.scope ≡ a.scope → Begins a.shown b.shown → Keeps a b x x
keeps_stack a b x known scope shown = record { known = known; scope = scope; shown = shown; renders = refl; tags = omega arith; output = omega arith }

pub keeps_on : (a b c : Space) (x y z : Budget) → Keeps a b x y → Keeps b c y z → Keeps a c x z
keeps_on a b c x y z p q = record {
  known = q.known ∙ p.known;
  scope = q.scope ∙ p.scope;
  shown = begins_on a.shown b.shown c.shown p.shown q.shown;
  renders = q.renders ∙ p.renders;
  tags = omega (arith, p.tags, q.tags);
  output = omega (arith, p.output, q.output);
}
