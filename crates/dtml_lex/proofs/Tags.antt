-- What is read as a tag is spelled so, and what is spelled so is read.
use Rattle.std.proofs.Common.{◌≡◌, ℕ, Bool, true, false, cond, List, [], ◌∷◌, ◌++◌, length, codes, Option, Some, refl, sym, ap, ap₂, subst, ◌∙◌, arith}
use Rattle.std.specs.List.{list_all, find}
use Rattle.std.specs.Str.{bytes_eq}
use Rattle.std.proofs.lemmas.Bool.Decides.{nat_tests}
use Rattle.dtml_lex.specs.declared.part.TagName.{TagName}
use Rattle.dtml_lex.specs.declared.part.TagName.TheVariants.{Var, Call, If, Elif, Else, Unless, In, With, Let, Comment}
use Rattle.dtml_lex.specs.declared.part.Attribute.{Attribute}
use Rattle.dtml_lex.specs.Spelling.{is_lower, tag_text, SpellsAttributes}
use Rattle.dtml_lex.specs.Reading.{◌>>=◌, Reads, begins, run, attributes_at, tag_names, tag_named, tag_at}
use Rattle.dtml_lex.proofs.Fronts.{bind_some, some_is, two, same_bytes, run_is, run_front, run_behind}
use Rattle.dtml_lex.proofs.AttributesRead.{attributes_are}
use Rattle.dtml_lex.proofs.AttributesSpelled.{closes, attributes_close, attributes_read}

found : {X : Type 0} (p : X → Bool) (xs : List X) (x : X) → find p xs ≡ Some x → p x ≡ true
found p [] x e = absurd cc
found p (y ∷ ys) x e = (elim (p y) as (λ t. p y ≡ t → cond t (Some y) (find p ys) ≡ Some x → p x ≡ true) [
  | true ↦ λ t h. let same = some_is y x h in rw (← same) t
  | false ↦ λ t h. found p ys x h
]) refl e

named_is : (word : List ℕ) (name : TagName) → tag_named word ≡ Some name → tag_text name ≡ word
unfolding tag_named
named_is word name e = same_bytes (tag_text name) word (found (λ (name : TagName). bytes_eq (tag_text name) word) tag_names name e)

text_named : (name : TagName) → tag_named (tag_text name) ≡ Some name
unfolding tag_named
text_named Var = refl
text_named Call = refl
text_named If = refl
text_named Elif = refl
text_named Else = refl
text_named Unless = refl
text_named In = refl
text_named With = refl
text_named Let = refl
text_named Comment = refl

text_lower : (name : TagName) → list_all is_lower (tag_text name) ≡ true
text_lower Var = refl
text_lower Call = refl
text_lower If = refl
text_lower Elif = refl
text_lower Else = refl
text_lower Unless = refl
text_lower In = refl
text_lower With = refl
text_lower Let = refl
text_lower Comment = refl

-- what a tag is behind its lead
abbrev pub IsTagFront : List ℕ → (TagName × List Attribute) × List ℕ → Type 0
IsTagFront bs x = (inner : List ℕ) × (bs ≡ tag_text x.0.0 ++ (inner ++ (codes ">" ++ x.1))) × SpellsAttributes x.0.1 inner

pub tag_is : (bs : List ℕ) (x : (TagName × List Attribute) × List ℕ) → tag_at bs ≡ Some x → IsTagFront bs x
unfolding tag_at
tag_is bs x e =
    let word = (run is_lower bs).0 in
    let rest = (run is_lower bs).1 in
    let n = bind_some (tag_named word) (λ (name : TagName). attributes_at (length rest) rest >>= λ y. two (name, y.0) y.1) x e in
    let a = bind_some (attributes_at (length rest) rest) (λ y. two (n.0, y.0) y.1) x n.2 in
    let front = attributes_are (length rest) rest a.0 a.1 in
    let whole = run_is is_lower bs word rest refl in
    let text : bs ≡ tag_text n.0 ++ (front.0 ++ (codes ">" ++ a.0.1)) =
    whole.0 ∙ ap₂ (λ (s t : List ℕ). s ++ t) (sym (named_is word n.0 n.1)) front.1 in
    subst (IsTagFront bs) (some_is {A = (TagName × List Attribute) × List ℕ} ((n.0, a.0.0), a.0.1) x a.2) (front.0, text, front.2)

closes_no_lower : (bs : List ℕ) → begins closes bs ≡ true → begins is_lower bs ≡ false
closes_no_lower [] e = absurd cc
closes_no_lower (b ∷ bs) e = grind (arith, nat_tests)

pub tag_read : (name : TagName) (attributes : List Attribute) (inner rest : List ℕ) → SpellsAttributes attributes inner
    → tag_at (tag_text name ++ (inner ++ (codes ">" ++ rest))) ≡ Some ((name, attributes), rest)
unfolding tag_at
tag_read name attributes inner rest spelled =
    let behind = inner ++ (codes ">" ++ rest) in
    let other = closes_no_lower behind (attributes_close attributes inner rest spelled) in
    let front = run_front is_lower (tag_text name) behind (text_lower name) other in
    let back = run_behind is_lower (tag_text name) behind (text_lower name) other in
    ap₂ (λ (word r : List ℕ). tag_named word >>= λ (name : TagName). attributes_at (length r) r >>= λ y. two (name, y.0) y.1) front back
    ∙ (ap (λ (o : Option TagName). o >>= λ (name : TagName). attributes_at (length behind) behind >>= λ y. two (name, y.0) y.1) (text_named name)
    ∙ ap (λ (o : Reads (List Attribute)). o >>= λ y. two (name, y.0) y.1) (attributes_read (length behind) attributes inner rest (omega arith) spelled))
