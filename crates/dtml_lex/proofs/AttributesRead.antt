-- What is read as attributes is spelled so.
use Rattle.std.proofs.Common.{◌≡◌, ℕ, zero, suc, true, false, cond, List, [], ◌∷◌, ◌++◌, codes, Option, Some, None, refl, sym, ap, ap₂, subst, ◌∙◌, append_assoc}
use Rattle.std.specs.List.{take_while, list_all}
use Rattle.std.proofs.lemmas.Option.{cond_some}
use Rattle.dtml_lex.specs.declared.part.Attribute.{Attribute}
use Rattle.dtml_lex.specs.declared.part.Attribute.TheVariants.{Word, Bare, Quoted, Quotation}
use Rattle.dtml_lex.specs.Spelling.{is_blank, is_word_byte, is_unquoted, is_some_of, is_word, attribute_text, is_attribute, SpellsAttributes}
use Rattle.dtml_lex.specs.Reading.{Reads, strip, begins, run, word_at, quotation_at, value_from, value_at, word_then, attribute_from, attribute_at, next_attribute, tag_end, with_first, attributes_from, attributes_at}
use Rattle.dtml_lex.proofs.Fronts.{bind_some, some_is, two, pair_is, stripped, run_is, begins_some}

pub word_is : (bs word rest : List ℕ) → word_at bs ≡ Some (word, rest) → (bs ≡ word ++ rest) × (is_word word ≡ true)
unfolding word_at
word_is bs word rest e =
    let h = cond_some {A = List ℕ × List ℕ} (begins is_word_byte bs) (run is_word_byte bs) (word, rest) e in
    let is = ap (λ (p : List ℕ × List ℕ). two p.0 p.1) h.1 in
    let front : take_while is_word_byte bs ≡ word = ap (λ (p : List ℕ × List ℕ). p.0) h.1 in
    ((run_is is_word_byte bs word rest is).0, subst (λ (xs : List ℕ). is_word xs ≡ true) front (begins_some is_word_byte bs h.0))

pub quotation_is : (bs text rest : List ℕ) → quotation_at bs ≡ Some (text, rest) → (bs ≡ text ++ (codes "\"" ++ rest)) × (list_all is_unquoted text ≡ true)
unfolding quotation_at
quotation_is bs text rest e =
    let x = bind_some (strip (run is_unquoted bs).1 (codes "\"")) (λ (r : List ℕ). two (run is_unquoted bs).0 r) (text, rest) e in
    let parts = pair_is (run is_unquoted bs).0 text x.0 rest x.2 in
    let behind : (run is_unquoted bs).1 ≡ codes "\"" ++ rest = stripped (run is_unquoted bs).1 (codes "\"") x.0 x.1 ∙ ap (λ (t : List ℕ). codes "\"" ++ t) parts.1 in
    run_is is_unquoted bs text (codes "\"" ++ rest) (ap₂ (λ (a b : List ℕ). two a b) parts.0 behind)

-- what an attribute is at the front of a text
abbrev pub IsFront : List ℕ → Attribute × List ℕ → Type 0
IsFront bs x = (bs ≡ attribute_text x.0 ++ x.1) × (is_attribute x.0 ≡ true)

value_by : (name bs : List ℕ) (o : Option (List ℕ)) (x : Attribute × List ℕ) → is_word name ≡ true → strip bs (codes "\"") ≡ o → value_from name bs o ≡ Some x → IsFront (name ++ (codes "=" ++ bs)) x
value_by name bs (Some inner) x word is e =
    let v = bind_some (quotation_at inner) (λ v. two (Quoted name v.0) v.1) x e in
    let q = quotation_is inner v.0.0 v.0.1 v.1 in
    let text : name ++ (codes "=" ++ bs) ≡ attribute_text (Quoted name v.0.0) ++ v.0.1 =
    ap (λ (t : List ℕ). name ++ (codes "=" ++ t)) (stripped bs (codes "\"") inner is ∙ ap (λ (t : List ℕ). codes "\"" ++ t) q.0) ∙ simp append_assoc in
    let fits : is_attribute (Quoted name v.0.0) ≡ true = rw (word, q.1) refl in
    subst (IsFront (name ++ (codes "=" ++ bs))) (some_is {A = Attribute × List ℕ} (Quoted name v.0.0, v.0.1) x v.2) (text, fits)
value_by name bs None x word is e =
    let v = bind_some (word_at bs) (λ v. two (Bare name v.0) v.1) x e in
    let w = word_is bs v.0.0 v.0.1 v.1 in
    let text : name ++ (codes "=" ++ bs) ≡ attribute_text (Bare name v.0.0) ++ v.0.1 =
    ap (λ (t : List ℕ). name ++ (codes "=" ++ t)) w.0 ∙ simp append_assoc in
    let fits : is_attribute (Bare name v.0.0) ≡ true = rw (word, w.1) refl in
    subst (IsFront (name ++ (codes "=" ++ bs))) (some_is {A = Attribute × List ℕ} (Bare name v.0.0, v.0.1) x v.2) (text, fits)

value_is : (name bs : List ℕ) (x : Attribute × List ℕ) → is_word name ≡ true → value_at name bs ≡ Some x → IsFront (name ++ (codes "=" ++ bs)) x
unfolding value_at
value_is name bs x word e = value_by name bs (strip bs (codes "\"")) x word refl e

then_by : (word rest : List ℕ) (o : Option (List ℕ)) (x : Attribute × List ℕ) → is_word word ≡ true → strip rest (codes "=") ≡ o → word_then (word, rest) o ≡ Some x → IsFront (word ++ rest) x
then_by word rest (Some inner) x fits is e =
    rw (stripped rest (codes "=") inner is) (value_is word inner x fits e)
then_by word rest None x fits is e = subst (IsFront (word ++ rest)) (some_is {A = Attribute × List ℕ} (Word word, rest) x e) (refl, fits)

attribute_by : (bs : List ℕ) (o : Option (List ℕ)) (x : Attribute × List ℕ) → strip bs (codes "\"") ≡ o → attribute_from bs o ≡ Some x → IsFront bs x
attribute_by bs (Some inner) x is e =
    let v = bind_some (quotation_at inner) (λ v. two (Quotation v.0) v.1) x e in
    let q = quotation_is inner v.0.0 v.0.1 v.1 in
    let text : bs ≡ attribute_text (Quotation v.0.0) ++ v.0.1 =
    stripped bs (codes "\"") inner is ∙ ap (λ (t : List ℕ). codes "\"" ++ t) q.0 ∙ simp append_assoc in
    subst (IsFront bs) (some_is {A = Attribute × List ℕ} (Quotation v.0.0, v.0.1) x v.2) (text, q.1)
attribute_by bs None x is e =
    let w = bind_some (word_at bs) (λ word. word_then word (strip word.1 (codes "="))) x e in
    let h = word_is bs w.0.0 w.0.1 w.1 in
    subst (λ (t : List ℕ). IsFront t x) (sym h.0) (then_by w.0.0 w.0.1 (strip w.0.1 (codes "=")) x h.1 refl w.2)

pub attribute_is : (bs : List ℕ) (x : Attribute × List ℕ) → attribute_at bs ≡ Some x → IsFront bs x
unfolding attribute_at
attribute_is bs x e = attribute_by bs (strip bs (codes "\"")) x refl e

pub next_is : (bs : List ℕ) (x : Attribute × List ℕ) → next_attribute bs ≡ Some x
    → (blanks : List ℕ) × (bs ≡ blanks ++ (attribute_text x.0 ++ x.1)) × (is_some_of is_blank blanks ≡ true) × (is_attribute x.0 ≡ true)
unfolding next_attribute
next_is bs x e = (elim (begins is_blank bs) as (λ t. begins is_blank bs ≡ t → cond t (attribute_at (run is_blank bs).1) None ≡ Some x
    → (blanks : List ℕ) × (bs ≡ blanks ++ (attribute_text x.0 ++ x.1)) × (is_some_of is_blank blanks ≡ true) × (is_attribute x.0 ≡ true)) [
      | true ↦ λ t h.
          let a = attribute_is (run is_blank bs).1 x h in
          let whole = run_is is_blank bs (run is_blank bs).0 (run is_blank bs).1 refl in
          ((run is_blank bs).0, whole.0 ∙ ap (λ (r : List ℕ). (run is_blank bs).0 ++ r) a.0, begins_some is_blank bs t, a.1)
      | false ↦ λ t h. absurd cc
    ]) refl e

tag_end_is : (bs rest : List ℕ) → tag_end bs ≡ Some rest → (blanks : List ℕ) × (bs ≡ blanks ++ (codes ">" ++ rest)) × (list_all is_blank blanks ≡ true)
unfolding tag_end
tag_end_is bs rest e =
    let whole = run_is is_blank bs (run is_blank bs).0 (run is_blank bs).1 refl in
    ((run is_blank bs).0, whole.0 ∙ ap (λ (r : List ℕ). (run is_blank bs).0 ++ r) (stripped (run is_blank bs).1 (codes ">") rest e), whole.1)

-- what the attributes of a tag and its `>` are at the front of a text
abbrev pub AreFront : List ℕ → List Attribute × List ℕ → Type 0
AreFront bs x = (inner : List ℕ) × (bs ≡ inner ++ (codes ">" ++ x.1)) × SpellsAttributes x.0 inner

more_are : (again : List ℕ → Reads (List Attribute)) (bs : List ℕ) (a : Attribute × List ℕ) (x : List Attribute × List ℕ)
    → ((next : List ℕ) (y : List Attribute × List ℕ) → again next ≡ Some y → AreFront next y)
    → next_attribute bs ≡ Some a → with_first a.0 (again a.1) ≡ Some x → AreFront bs x
more_are again bs a x right is e =
    let first = next_is bs a is in
    let y = bind_some (again a.1) (λ y. two (a.0 ∷ y.0) y.1) x e in
    let rest = right a.1 y.0 y.1 in
    let inner = (first.0 ++ attribute_text a.0) ++ rest.0 in
    let text : bs ≡ ((first.0 ++ attribute_text a.0) ++ rest.0) ++ (codes ">" ++ y.0.1) =
    first.1 ∙ (ap (λ (t : List ℕ). first.0 ++ (attribute_text a.0 ++ t)) rest.1 ∙ simp append_assoc) in
    subst (AreFront bs) (some_is {A = List Attribute × List ℕ} (a.0 ∷ y.0.0, y.0.1) x y.2) (inner, text, (first.0, rest.0, refl, first.2, first.3, rest.2))

attributes_by : (again : List ℕ → Reads (List Attribute)) (bs : List ℕ) (o : Option (List ℕ)) (x : List Attribute × List ℕ)
    → ((next : List ℕ) (y : List Attribute × List ℕ) → again next ≡ Some y → AreFront next y)
    → tag_end bs ≡ o → attributes_from again bs o ≡ Some x → AreFront bs x
attributes_by again bs (Some rest) x right is e =
    let end = tag_end_is bs rest is in
    subst (AreFront bs) (some_is {A = List Attribute × List ℕ} ([], rest) x e) (end.0, end.1, end.2)
attributes_by again bs None x right is e =
    let a = bind_some (next_attribute bs) (λ a. with_first a.0 (again a.1)) x e in
    more_are again bs a.0 x right a.1 a.2

pub attributes_are : (fuel : ℕ) (bs : List ℕ) (x : List Attribute × List ℕ) → attributes_at fuel bs ≡ Some x → AreFront bs x
unfolding attributes_at
attributes_are zero bs x e = absurd cc
attributes_are (suc fuel) bs x e = attributes_by (attributes_at fuel) bs (tag_end bs) x (attributes_are fuel) refl e
