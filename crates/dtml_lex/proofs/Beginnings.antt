-- Where a tag or an entity begins.
use Rattle.std.proofs.Common.{◌≡◌, ℕ, ◌||◌, ◌⊎◌, inl, inr, Bool, true, false, cond, List, ◌++◌, length, drop, nat_eq, codes, Option, Some, None, refl, sym, ap, ap₂, ◌∙◌, append_assoc}
use Rattle.std.specs.Prelude.{is_some}
use Rattle.std.specs.List.{starts_with}
use Rattle.dtml_lex.specs.Spelling.{HasEntity, begins_tag, BeginsPart}
use Rattle.dtml_lex.specs.Reading.{Reads, strip, entity_at, begins_part}
use Rattle.dtml_lex.proofs.Entities.{entity_is, entity_read}

some_strip : (bs front : List ℕ) → is_some (strip bs front) ≡ starts_with nat_eq bs front
some_strip bs front = (elim (starts_with nat_eq bs front) as (λ t. is_some (cond t (Some (drop (length front) bs)) None) ≡ t) [
  | true ↦ refl
  | false ↦ refl
])

some_of : {A : Type 0} (o : Option A) → is_some o ≡ true → (x : A) × (o ≡ Some x)
some_of (Some x) e = (x, refl)
some_of None e = absurd cc

pub none_of : {A : Type 0} (o : Option A) → is_some o ≡ false → o ≡ None
none_of (Some x) e = absurd cc
none_of None e = refl

either : (a b : Bool) → (a || b) ≡ true → (a ≡ true) ⊎ (b ≡ true)
either true b e = inl refl
either false b e = inr e

pub neither : (a b : Bool) → (a || b) ≡ false → (a ≡ false) × (b ≡ false)
neither true b e = absurd cc
neither false b e = (refl, e)

has_entity : (bs : List ℕ) → is_some (entity_at bs) ≡ true → HasEntity bs
has_entity bs e =
    let x = some_of (entity_at bs) e in
    let is = entity_is bs x.0 x.1 in
    (x.0.0, x.0.1, is.0 ∙ simp append_assoc, is.1)

is_entity : (bs : List ℕ) → HasEntity bs → is_some (entity_at bs) ≡ true
is_entity bs h =
    let regroup : bs ≡ codes "&dtml-" ++ (h.0 ++ (codes ";" ++ h.1)) = h.2 ∙ simp append_assoc in
    ap (λ (t : List ℕ). is_some (entity_at t)) regroup ∙ ap (λ (o : Reads (List ℕ)). is_some o) (entity_read h.0 h.1 h.3)

begins_parts : (bs : List ℕ) → begins_part bs ≡ (begins_tag bs || is_some (entity_at bs))
unfolding begins_part
begins_parts bs = ap₂ (λ (a b : Bool). a || b || is_some (entity_at bs)) (some_strip bs (codes "<dtml-")) (some_strip bs (codes "</dtml-"))

pub begins_yes : (bs : List ℕ) → begins_part bs ≡ true → BeginsPart bs
begins_yes bs e = elim (either (begins_tag bs) (is_some (entity_at bs)) (sym (begins_parts bs) ∙ e)) [
  | inl tag ↦ inl tag
  | inr entity ↦ inr (has_entity bs entity)
]

yes_or : (a : Bool) → (true || a) ≡ true
yes_or a = refl

or_yes : (a : Bool) → (a || true) ≡ true
or_yes true = refl
or_yes false = refl

pub yes_begins : (bs : List ℕ) → BeginsPart bs → begins_part bs ≡ true
yes_begins bs (inl tag) = begins_parts bs ∙ ap (λ (t : Bool). t || is_some (entity_at bs)) tag
yes_begins bs (inr entity) = begins_parts bs ∙ (ap (λ (t : Bool). begins_tag bs || t) (is_entity bs entity) ∙ or_yes (begins_tag bs))

pub begins_no : (bs : List ℕ) → begins_part bs ≡ false → ¬ BeginsPart bs
begins_no bs e h = let yes = yes_begins bs h in absurd cc

pub no_begins : (bs : List ℕ) → ¬ BeginsPart bs → begins_part bs ≡ false
no_begins bs h = (elim (begins_part bs) as (λ t. begins_part bs ≡ t → t ≡ false) [
  | true ↦ λ e. absurd (h (begins_yes bs e))
  | false ↦ λ e. refl
]) refl
