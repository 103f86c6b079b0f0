-- What is read as an entity is spelled so, and what is spelled so is read.
use Rattle.std.proofs.Common.{◌≡◌, ℕ, true, false, List, [], ◌∷◌, ◌++◌, codes, Option, Some, None, refl, ap, ap₂, subst, ◌∙◌}
use Rattle.std.specs.List.{list_all}
use Rattle.std.proofs.lemmas.Option.{cond_some}
use Rattle.dtml_lex.specs.Spelling.{is_letter, is_name_byte, is_some_of, is_name}
use Rattle.dtml_lex.specs.Reading.{◌>>=◌, Reads, strip, begins, run, name_at, entity_at}
use Rattle.dtml_lex.proofs.Fronts.{both, bind_some, some_is, two, stripped, strips, run_is, run_front, run_behind, begins_some}
use Rattle.dtml_lex.proofs.AttributesSpelled.{picks}

letter_is_name_byte : (b : ℕ) → is_letter b ≡ true → is_name_byte b ≡ true
letter_is_name_byte b e = rw e refl

front_is_name : (b : ℕ) (bs name rest : List ℕ) → (b ∷ bs) ≡ name ++ rest → list_all is_name_byte name ≡ true → is_letter b ≡ true → is_some_of is_name_byte name ≡ true → is_name name ≡ true
front_is_name b bs [] rest text all letter some = absurd cc
front_is_name b bs (c ∷ cs) rest text all letter some =
    let first : b ≡ c = cc in
    let begins : is_letter c ≡ true = rw (← first) letter in
    rw (begins, (both (is_name_byte c) (list_all is_name_byte cs) all).1) refl

name_is : (bs name rest : List ℕ) → name_at bs ≡ Some (name, rest) → (bs ≡ name ++ rest) × (is_name name ≡ true)
unfolding name_at
name_is [] name rest e = absurd cc
name_is (b ∷ bs) name rest e =
    let h = cond_some {A = List ℕ × List ℕ} (is_letter b) (run is_name_byte (b ∷ bs)) (name, rest) e in
    let front = ap (λ (p : List ℕ × List ℕ). p.0) h.1 in
    let is = run_is is_name_byte (b ∷ bs) name rest (ap (λ (p : List ℕ × List ℕ). two p.0 p.1) h.1) in
    let some = subst (λ (t : List ℕ). is_some_of is_name_byte t ≡ true) front (begins_some is_name_byte (b ∷ bs) (letter_is_name_byte b h.0)) in
    (is.0, front_is_name b bs name rest is.0 is.1 h.0 some)

pub entity_is : (bs : List ℕ) (x : List ℕ × List ℕ) → entity_at bs ≡ Some x → (bs ≡ codes "&dtml-" ++ (x.0 ++ (codes ";" ++ x.1))) × (is_name x.0 ≡ true)
unfolding entity_at
entity_is bs x e =
    let inner = bind_some (strip bs (codes "&dtml-")) (λ inner. name_at inner >>= λ name. strip name.1 (codes ";") >>= λ rest. two name.0 rest) x e in
    let name = bind_some (name_at inner.0) (λ name. strip name.1 (codes ";") >>= λ rest. two name.0 rest) x inner.2 in
    let rest = bind_some (strip name.0.1 (codes ";")) (λ rest. two name.0.0 rest) x name.2 in
    let is = name_is inner.0 name.0.0 name.0.1 name.1 in
    let text : bs ≡ codes "&dtml-" ++ (name.0.0 ++ (codes ";" ++ rest.0)) =
    stripped bs (codes "&dtml-") inner.0 inner.1 ∙ ap (λ (t : List ℕ). codes "&dtml-" ++ t) (is.0 ∙ ap (λ (t : List ℕ). name.0.0 ++ t) (stripped name.0.1 (codes ";") rest.0 rest.1)) in
    subst (λ (x : List ℕ × List ℕ). (bs ≡ codes "&dtml-" ++ (x.0 ++ (codes ";" ++ x.1))) × (is_name x.0 ≡ true)) {x = (name.0.0, rest.0)} (some_is {A = List ℕ × List ℕ} (name.0.0, rest.0) x rest.2) (text, is.1)

name_read : (name rest : List ℕ) → is_name name ≡ true → begins is_name_byte rest ≡ false → name_at (name ++ rest) ≡ Some (name, rest)
unfolding name_at
name_read [] rest fits other = absurd cc
name_read (b ∷ name) rest fits other =
    let h = both (is_letter b) (list_all is_name_byte name) fits in
    let all : list_all is_name_byte (b ∷ name) ≡ true = rw (letter_is_name_byte b h.0, h.1) refl in
    picks (begins is_letter ((b ∷ name) ++ rest)) (Some (run is_name_byte ((b ∷ name) ++ rest))) None h.0
    ∙ ap₂ (λ (x y : List ℕ). two x y) (run_front is_name_byte (b ∷ name) rest all other) (run_behind is_name_byte (b ∷ name) rest all other)

pub entity_read : (name rest : List ℕ) → is_name name ≡ true → entity_at (codes "&dtml-" ++ (name ++ (codes ";" ++ rest))) ≡ Some (name, rest)
unfolding entity_at
entity_read name rest fits =
    ap (λ (o : Option (List ℕ)). o >>= λ inner. name_at inner >>= λ name. strip name.1 (codes ";") >>= λ rest. two name.0 rest) (strips (codes "&dtml-") (name ++ (codes ";" ++ rest)))
    ∙ (ap (λ (o : Reads (List ℕ)). o >>= λ name. strip name.1 (codes ";") >>= λ rest. two name.0 rest) (name_read name (codes ";" ++ rest) fits refl)
    ∙ ap (λ (o : Option (List ℕ)). o >>= λ rest. two name rest) (strips (codes ";") rest))
