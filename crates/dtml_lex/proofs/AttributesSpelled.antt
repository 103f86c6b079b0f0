-- What is spelled as attributes is read so.
use Rattle.std.proofs.Common.{◌≡◌, ℕ, zero, suc, ◌<◌, ◌≤◌, ◌||◌, ◌==◌, Bool, true, false, cond, List, [], ◌∷◌, ◌++◌, length, nat_eq, codes, Option, Some, None, refl, ap, ap₂, ◌∙◌, append_assoc, arith, length-append}
use Rattle.std.specs.List.{list_all}
use Rattle.std.proofs.lemmas.Bool.Decides.{nat_tests}
use Rattle.dtml_lex.specs.declared.part.Attribute.{Attribute}
use Rattle.dtml_lex.specs.declared.part.Attribute.TheVariants.{Word, Bare, Quoted, Quotation}
use Rattle.dtml_lex.specs.Spelling.{is_blank, is_word_byte, is_unquoted, is_some_of, is_word, attribute_text, is_attribute, SpellsAttributes}
use Rattle.dtml_lex.specs.Reading.{◌>>=◌, Reads, strip, begins, run, word_at, quotation_at, value_from, value_at, word_then, attribute_from, attribute_at, next_attribute, tag_end, with_first, attributes_from, attributes_at}
use Rattle.dtml_lex.proofs.Fronts.{two, both, strips, run_front, run_behind}

-- what an attribute begins with
opens : ℕ → Bool
opens b = is_word_byte b || (b == 34)

pub picks : {A : Type 0} (b : Bool) (x y : A) → b ≡ true → cond b x y ≡ x
picks true x y e = refl
picks false x y e = absurd cc

-- what stands behind an attribute, and behind the name of a tag: white space or `>`
abbrev pub closes : ℕ → Bool
closes b = is_blank b || (b == 62)

closes_no_word : (bs : List ℕ) → begins closes bs ≡ true → begins is_word_byte bs ≡ false
closes_no_word [] e = absurd cc
closes_no_word (b ∷ bs) e = grind (arith, nat_tests)

closes_no_equals : (bs : List ℕ) → begins closes bs ≡ true → strip bs (codes "=") ≡ None
closes_no_equals [] e = absurd cc
closes_no_equals (b ∷ bs) e = let no : nat_eq 61 b ≡ false = grind (arith, nat_tests) in rw no refl

word_no_quote : (word rest : List ℕ) → is_word word ≡ true → strip (word ++ rest) (codes "\"") ≡ None
word_no_quote [] rest e = absurd cc
word_no_quote (b ∷ word) rest e =
    let first = (both (is_word_byte b) (list_all is_word_byte word) e).0 in
    let no : nat_eq 34 b ≡ false = grind (arith, nat_tests) in rw no refl

word_read : (word rest : List ℕ) → is_word word ≡ true → begins is_word_byte rest ≡ false → word_at (word ++ rest) ≡ Some (word, rest)
unfolding word_at
word_read [] rest fits other = absurd cc
word_read (b ∷ word) rest fits other =
    let first = (both (is_word_byte b) (list_all is_word_byte word) fits).0 in
    picks (begins is_word_byte ((b ∷ word) ++ rest)) (Some (run is_word_byte ((b ∷ word) ++ rest))) None first
    ∙ ap₂ (λ (x y : List ℕ). two x y) (run_front is_word_byte (b ∷ word) rest fits other) (run_behind is_word_byte (b ∷ word) rest fits other)

quotation_read : (text rest : List ℕ) → list_all is_unquoted text ≡ true → quotation_at (text ++ (codes "\"" ++ rest)) ≡ Some (text, rest)
unfolding quotation_at
quotation_read text rest fits =
    ap₂ (λ (x y : List ℕ). strip y (codes "\"") >>= λ r. two x r) (run_front is_unquoted text (codes "\"" ++ rest) fits refl) (run_behind is_unquoted text (codes "\"" ++ rest) fits refl)
    ∙ ap (λ (o : Option (List ℕ)). o >>= λ r. two text r) (strips (codes "\"") rest)

quoted_read : (text rest : List ℕ) → list_all is_unquoted text ≡ true → attribute_at (codes "\"" ++ (text ++ (codes "\"" ++ rest))) ≡ Some (Quotation text, rest)
unfolding attribute_at
quoted_read text rest fits =
    ap (attribute_from (codes "\"" ++ (text ++ (codes "\"" ++ rest)))) (strips (codes "\"") (text ++ (codes "\"" ++ rest)))
    ∙ ap (λ (r : Reads (List ℕ)). r >>= λ t. two (Quotation t.0) t.1) (quotation_read text rest fits)

named_read : (name rest : List ℕ) → is_word name ≡ true → begins is_word_byte rest ≡ false → attribute_at (name ++ rest) ≡ word_then (name, rest) (strip rest (codes "="))
unfolding attribute_at
named_read name rest fits other =
    ap (attribute_from (name ++ rest)) (word_no_quote name rest fits)
    ∙ ap (λ (r : Reads (List ℕ)). r >>= λ word. word_then word (strip word.1 (codes "="))) (word_read name rest fits other)

valued_read : (name rest : List ℕ) → is_word name ≡ true → attribute_at (name ++ (codes "=" ++ rest)) ≡ value_at name rest
valued_read name rest fits = named_read name (codes "=" ++ rest) fits refl ∙ ap (word_then (name, codes "=" ++ rest)) (strips (codes "=") rest)

bare_read : (name value rest : List ℕ) → is_word value ≡ true → begins is_word_byte rest ≡ false → value_at name (value ++ rest) ≡ Some (Bare name value, rest)
unfolding value_at
bare_read name value rest fits other =
    ap (value_from name (value ++ rest)) (word_no_quote value rest fits)
    ∙ ap (λ (r : Reads (List ℕ)). r >>= λ v. two (Bare name v.0) v.1) (word_read value rest fits other)

quoted_value_read : (name value rest : List ℕ) → list_all is_unquoted value ≡ true → value_at name (codes "\"" ++ (value ++ (codes "\"" ++ rest))) ≡ Some (Quoted name value, rest)
unfolding value_at
quoted_value_read name value rest fits =
    ap (value_from name (codes "\"" ++ (value ++ (codes "\"" ++ rest)))) (strips (codes "\"") (value ++ (codes "\"" ++ rest)))
    ∙ ap (λ (r : Reads (List ℕ)). r >>= λ v. two (Quoted name v.0) v.1) (quotation_read value rest fits)

attribute_read : (a : Attribute) (rest : List ℕ) → is_attribute a ≡ true → begins closes rest ≡ true → attribute_at (attribute_text a ++ rest) ≡ Some (a, rest)
attribute_read (Word word) rest fits end =
    named_read word rest fits (closes_no_word rest end) ∙ ap (word_then (word, rest)) (closes_no_equals rest end)
attribute_read (Bare name value) rest fits end =
    let h = both (is_word name) (is_word value) fits in
    let regroup : attribute_text (Bare name value) ++ rest ≡ name ++ (codes "=" ++ (value ++ rest)) = simp append_assoc in
    ap attribute_at regroup ∙ (valued_read name (value ++ rest) h.0 ∙ bare_read name value rest h.1 (closes_no_word rest end))
attribute_read (Quoted name value) rest fits end =
    let h = both (is_word name) (list_all is_unquoted value) fits in
    let regroup : attribute_text (Quoted name value) ++ rest ≡ name ++ (codes "=" ++ (codes "\"" ++ (value ++ (codes "\"" ++ rest)))) = simp append_assoc in
    ap attribute_at regroup ∙ (valued_read name (codes "\"" ++ (value ++ (codes "\"" ++ rest))) h.0 ∙ quoted_value_read name value rest h.1)
attribute_read (Quotation text) rest fits end =
    let regroup : attribute_text (Quotation text) ++ rest ≡ codes "\"" ++ (text ++ (codes "\"" ++ rest)) = simp append_assoc in
    ap attribute_at regroup ∙ quoted_read text rest fits

word_opens : (word rest : List ℕ) → is_word word ≡ true → begins opens (word ++ rest) ≡ true
unfolding opens
word_opens [] rest e = absurd cc
word_opens (b ∷ word) rest e = rw (both (is_word_byte b) (list_all is_word_byte word) e).0 refl

attribute_opens : (a : Attribute) (rest : List ℕ) → is_attribute a ≡ true → begins opens (attribute_text a ++ rest) ≡ true
unfolding opens
attribute_opens (Word word) rest fits = word_opens word rest fits
attribute_opens (Bare name value) rest fits =
    let regroup : attribute_text (Bare name value) ++ rest ≡ name ++ (codes "=" ++ (value ++ rest)) = simp append_assoc in
    ap (begins opens) regroup ∙ word_opens name (codes "=" ++ (value ++ rest)) (both (is_word name) (is_word value) fits).0
attribute_opens (Quoted name value) rest fits =
    let regroup : attribute_text (Quoted name value) ++ rest ≡ name ++ (codes "=\"" ++ (value ++ (codes "\"" ++ rest))) = simp append_assoc in
    ap (begins opens) regroup ∙ word_opens name (codes "=\"" ++ (value ++ (codes "\"" ++ rest))) (both (is_word name) (list_all is_unquoted value) fits).0
attribute_opens (Quotation text) rest fits = refl

opens_no_blank : (bs : List ℕ) → begins opens bs ≡ true → begins is_blank bs ≡ false
unfolding opens
opens_no_blank [] e = absurd cc
opens_no_blank (b ∷ bs) e = grind (arith, nat_tests)

opens_no_end : (bs : List ℕ) → begins opens bs ≡ true → strip bs (codes ">") ≡ None
unfolding opens
opens_no_end [] e = absurd cc
opens_no_end (b ∷ bs) e = let no : nat_eq 62 b ≡ false = grind (arith, nat_tests) in rw no refl

-- ---- all attributes of a tag

some_all : (p : ℕ → Bool) (bs : List ℕ) → is_some_of p bs ≡ true → list_all p bs ≡ true
some_all p [] e = absurd cc
some_all p (b ∷ bs) e = e

blanks_close : (blanks rest : List ℕ) → list_all is_blank blanks ≡ true → begins closes rest ≡ true → begins closes (blanks ++ rest) ≡ true
blanks_close [] rest all end = end
blanks_close (b ∷ blanks) rest all end = rw (both (is_blank b) (list_all is_blank blanks) all).0 refl

some_blanks_close : (blanks rest : List ℕ) → is_some_of is_blank blanks ≡ true → begins closes (blanks ++ rest) ≡ true
some_blanks_close [] rest all = absurd cc
some_blanks_close (b ∷ blanks) rest all = rw (both (is_blank b) (list_all is_blank blanks) all).0 refl

pub attributes_close : (attributes : List Attribute) (inner rest : List ℕ) → SpellsAttributes attributes inner → begins closes (inner ++ (codes ">" ++ rest)) ≡ true
attributes_close [] inner rest spelled = blanks_close inner (codes ">" ++ rest) spelled refl
attributes_close (a ∷ more) inner rest spelled =
    let regroup : inner ++ (codes ">" ++ rest) ≡ spelled.0 ++ (attribute_text a ++ (spelled.1 ++ (codes ">" ++ rest))) =
    ap (λ (t : List ℕ). t ++ (codes ">" ++ rest)) spelled.2 ∙ simp append_assoc in
    ap (begins closes) regroup ∙ some_blanks_close spelled.0 (attribute_text a ++ (spelled.1 ++ (codes ">" ++ rest))) spelled.3

end_read : (blanks rest : List ℕ) → list_all is_blank blanks ≡ true → tag_end (blanks ++ (codes ">" ++ rest)) ≡ Some rest
unfolding tag_end
end_read blanks rest all = ap (λ (t : List ℕ). strip t (codes ">")) (run_behind is_blank blanks (codes ">" ++ rest) all refl) ∙ strips (codes ">") rest

no_end : (blanks rest : List ℕ) → list_all is_blank blanks ≡ true → begins opens rest ≡ true → tag_end (blanks ++ rest) ≡ None
unfolding tag_end
no_end blanks rest all opening = ap (λ (t : List ℕ). strip t (codes ">")) (run_behind is_blank blanks rest all (opens_no_blank rest opening)) ∙ opens_no_end rest opening

begins_blank : (blanks rest : List ℕ) → is_some_of is_blank blanks ≡ true → begins is_blank (blanks ++ rest) ≡ true
begins_blank [] rest some = absurd cc
begins_blank (b ∷ blanks) rest some = (both (is_blank b) (list_all is_blank blanks) some).0

next_read : (blanks : List ℕ) (a : Attribute) (rest : List ℕ) → is_some_of is_blank blanks ≡ true → is_attribute a ≡ true → begins closes rest ≡ true
    → next_attribute (blanks ++ (attribute_text a ++ rest)) ≡ Some (a, rest)
unfolding next_attribute
next_read blanks a rest some fits end =
    let all = blanks ++ (attribute_text a ++ rest) in
    picks (begins is_blank all) (attribute_at (run is_blank all).1) None (begins_blank blanks (attribute_text a ++ rest) some)
    ∙ (ap attribute_at (run_behind is_blank blanks (attribute_text a ++ rest) (some_all is_blank blanks some) (opens_no_blank (attribute_text a ++ rest) (attribute_opens a rest fits))) ∙ attribute_read a rest fits end)

some_long : (p : ℕ → Bool) (bs : List ℕ) → is_some_of p bs ≡ true → 0 < length bs
some_long p [] e = absurd cc
some_long p (b ∷ bs) e = omega arith

one_more : (fuel : ℕ) (blanks : List ℕ) (a : Attribute) (more : List Attribute) (rest after : List ℕ) → is_some_of is_blank blanks ≡ true → is_attribute a ≡ true → begins closes rest ≡ true
    → attributes_at fuel rest ≡ Some (more, after) → attributes_at (suc fuel) (blanks ++ (attribute_text a ++ rest)) ≡ Some (a ∷ more, after)
unfolding attributes_at
one_more fuel blanks a more rest after some fits end is =
    let all = blanks ++ (attribute_text a ++ rest) in
    ap (attributes_from (attributes_at fuel) all) (no_end blanks (attribute_text a ++ rest) (some_all is_blank blanks some) (attribute_opens a rest fits))
    ∙ (ap (λ (r : Reads Attribute). r >>= λ x. with_first x.0 (attributes_at fuel x.1)) (next_read blanks a rest some fits end)
    ∙ ap (with_first a) is)

no_more : (fuel : ℕ) (blanks rest : List ℕ) → list_all is_blank blanks ≡ true → attributes_at (suc fuel) (blanks ++ (codes ">" ++ rest)) ≡ Some ([], rest)
unfolding attributes_at
no_more fuel blanks rest all = ap (attributes_from (attributes_at fuel) (blanks ++ (codes ">" ++ rest))) (end_read blanks rest all)

pub attributes_read : (fuel : ℕ) (attributes : List Attribute) (inner rest : List ℕ) → length (inner ++ (codes ">" ++ rest)) ≤ fuel → SpellsAttributes attributes inner
    → attributes_at fuel (inner ++ (codes ">" ++ rest)) ≡ Some (attributes, rest)
attributes_read zero attributes inner rest le spelled = absurd (omega (arith, length-append inner (codes ">" ++ rest)))
attributes_read (suc fuel) [] inner rest le spelled = no_more fuel inner rest spelled
attributes_read (suc fuel) (a ∷ more) inner rest le spelled =
    let after = spelled.1 ++ (codes ">" ++ rest) in
    let regroup : inner ++ (codes ">" ++ rest) ≡ spelled.0 ++ (attribute_text a ++ after) = ap (λ (t : List ℕ). t ++ (codes ">" ++ rest)) spelled.2 ∙ simp append_assoc in
    let some = some_long is_blank spelled.0 spelled.3 in
    let shorter : length after ≤ fuel = omega (arith, ap length regroup, length-append spelled.0 (attribute_text a ++ after), length-append (attribute_text a) after) in
    ap (attributes_at (suc fuel)) regroup
    ∙ one_more fuel spelled.0 a more after rest spelled.3 spelled.4 (attributes_close more spelled.1 rest spelled.5) (attributes_read fuel more spelled.1 rest shorter spelled.5)
