-- What is read as a part is spelled so, and what is spelled so is read.
use Rattle.std.proofs.Common.{◌≡◌, ℕ, ◌<◌, ◌||◌, ◌⊎◌, inl, inr, true, false, List, [], ◌∷◌, ◌++◌, length, take, drop, codes, Option, Some, None, refl, sym, ap, ap₂, subst, ◌∙◌, append_assoc, arith}
use Rattle.std.specs.Prelude.{is_some, ◌↔◌}
use Rattle.std.proofs.lemmas.List.{take-append-drop}
use Rattle.std.proofs.Math.Seq.{take-append_seam, drop-append_seam}
use Rattle.dtml_lex.specs.declared.part.TagName.{TagName}
use Rattle.dtml_lex.specs.declared.part.Attribute.{Attribute}
use Rattle.dtml_lex.specs.declared.part.PartKind.{PartKind}
use Rattle.dtml_lex.specs.declared.part.PartKind.TheVariants.{Plain, Entity, Opening, Closing}
use Rattle.dtml_lex.specs.Spelling.{tag_text, begins_tag, IsPart, IsBadTag}
use Rattle.dtml_lex.specs.Reading.{◌>>=◌, Reads, strip, begins, tag_at, entity_at, begins_part, plain_len, text_from, closing_from, opening_from, part_at}
use Rattle.dtml_lex.proofs.Fronts.{bind_some, some_is, two, stripped, strips}
use Rattle.dtml_lex.proofs.Tags.{tag_is, tag_read}
use Rattle.dtml_lex.proofs.Entities.{entity_is, entity_read}
use Rattle.dtml_lex.proofs.Beginnings.{none_of, neither, begins_yes, yes_begins, no_begins}
use Rattle.dtml_lex.proofs.PlainText.{plain_is, plain_read}

-- what a part is at the front of a text
abbrev pub IsPartFront : List ℕ → PartKind × List ℕ → Type 0
IsPartFront bs x = (text : List ℕ) × (bs ≡ text ++ x.1) × IsPart x.0 text x.1

none_begins : (bs : List ℕ) → strip bs (codes "<dtml-") ≡ None → strip bs (codes "</dtml-") ≡ None → entity_at bs ≡ None → begins_part bs ≡ false
unfolding begins_part
none_begins bs opening closing entity = rw (opening, closing, entity) refl

text_by : (bs : List ℕ) (o : Reads (List ℕ)) (x : PartKind × List ℕ) → 0 < length bs → strip bs (codes "<dtml-") ≡ None → strip bs (codes "</dtml-") ≡ None
    → entity_at bs ≡ o → text_from bs o ≡ Some x → IsPartFront bs x
text_by bs (Some entity) x some opening closing is e =
    let h = entity_is bs entity is in
    let text : bs ≡ ((codes "&dtml-" ++ entity.0) ++ codes ";") ++ entity.1 = h.0 ∙ simp append_assoc in
    subst (IsPartFront bs) (some_is {A = PartKind × List ℕ} (Entity entity.0, entity.1) x e) ((codes "&dtml-" ++ entity.0) ++ codes ";", text, (refl, h.1))
text_by bs None x some opening closing is e =
    let plain = plain_is bs some (none_begins bs opening closing is) in
    subst (IsPartFront bs) (some_is {A = PartKind × List ℕ} (Plain (take (plain_len bs) bs), drop (plain_len bs) bs) x e)
    (take (plain_len bs) bs, sym (take-append-drop (plain_len bs) bs), (refl, plain))

closing_by : (bs : List ℕ) (o : Option (List ℕ)) (x : PartKind × List ℕ) → 0 < length bs → strip bs (codes "<dtml-") ≡ None → strip bs (codes "</dtml-") ≡ o → closing_from bs o ≡ Some x → IsPartFront bs x
closing_by bs (Some inner) x some opening is e =
    let v = bind_some (tag_at inner) (λ tag. two (Closing tag.0.0 tag.0.1) tag.1) x e in
    let t = tag_is inner v.0 v.1 in
    let lead = codes "</dtml-" in
    let text : bs ≡ (((lead ++ tag_text v.0.0.0) ++ t.0) ++ codes ">") ++ v.0.1 = stripped bs lead inner is ∙ (ap (λ (r : List ℕ). lead ++ r) t.1 ∙ simp append_assoc) in
    subst (IsPartFront bs) (some_is {A = PartKind × List ℕ} (Closing v.0.0.0 v.0.0.1, v.0.1) x v.2) (((lead ++ tag_text v.0.0.0) ++ t.0) ++ codes ">", text, (t.0, refl, t.2))
closing_by bs None x some opening is e = text_by bs (entity_at bs) x some opening is refl e

opening_by : (bs : List ℕ) (o : Option (List ℕ)) (x : PartKind × List ℕ) → 0 < length bs → strip bs (codes "<dtml-") ≡ o → opening_from bs o ≡ Some x → IsPartFront bs x
opening_by bs (Some inner) x some is e =
    let v = bind_some (tag_at inner) (λ tag. two (Opening tag.0.0 tag.0.1) tag.1) x e in
    let t = tag_is inner v.0 v.1 in
    let lead = codes "<dtml-" in
    let text : bs ≡ (((lead ++ tag_text v.0.0.0) ++ t.0) ++ codes ">") ++ v.0.1 = stripped bs lead inner is ∙ (ap (λ (r : List ℕ). lead ++ r) t.1 ∙ simp append_assoc) in
    subst (IsPartFront bs) (some_is {A = PartKind × List ℕ} (Opening v.0.0.0 v.0.0.1, v.0.1) x v.2) (((lead ++ tag_text v.0.0.0) ++ t.0) ++ codes ">", text, (t.0, refl, t.2))
opening_by bs None x some is e = closing_by bs (strip bs (codes "</dtml-")) x some is refl e

pub part_is : (bs : List ℕ) (kind : PartKind) (rest : List ℕ) → 0 < length bs → part_at bs ≡ Some (kind, rest) → (text : List ℕ) × (bs ≡ text ++ rest) × IsPart kind text rest
unfolding part_at
part_is bs kind rest some e = opening_by bs (strip bs (codes "<dtml-")) (kind, rest) some refl e

opening_read : (inner : List ℕ) → part_at (codes "<dtml-" ++ inner) ≡ (tag_at inner >>= λ tag. two (Opening tag.0.0 tag.0.1) tag.1)
unfolding part_at
opening_read inner = ap (opening_from (codes "<dtml-" ++ inner)) (strips (codes "<dtml-") inner)

closing_read : (inner : List ℕ) → part_at (codes "</dtml-" ++ inner) ≡ (tag_at inner >>= λ tag. two (Closing tag.0.0 tag.0.1) tag.1)
unfolding part_at
closing_read inner = ap (closing_from (codes "</dtml-" ++ inner)) (strips (codes "</dtml-") inner)

entity_part_read : (inner : List ℕ) → part_at (codes "&dtml-" ++ inner) ≡ text_from (codes "&dtml-" ++ inner) (entity_at (codes "&dtml-" ++ inner))
unfolding part_at
entity_part_read inner = refl

text_part_read : (bs : List ℕ) → begins_part bs ≡ false → part_at bs ≡ Some (Plain (take (plain_len bs) bs), drop (plain_len bs) bs)
unfolding part_at begins_part
text_part_read bs other =
    let tags = neither (is_some (strip bs (codes "<dtml-")) || is_some (strip bs (codes "</dtml-"))) (is_some (entity_at bs)) other in
    let both = neither (is_some (strip bs (codes "<dtml-"))) (is_some (strip bs (codes "</dtml-"))) tags.0 in
    ap (opening_from bs) (none_of (strip bs (codes "<dtml-")) both.0)
    ∙ (ap (closing_from bs) (none_of (strip bs (codes "</dtml-")) both.1)
    ∙ ap (text_from bs) (none_of (entity_at bs) tags.1))

pub part_read : (kind : PartKind) (text rest : List ℕ) → IsPart kind text rest → part_at (text ++ rest) ≡ Some (kind, rest)
part_read (Plain plain) text rest (same, is) =
    let other = λ (n : ℕ) (lt : n < length text). no_begins (drop n (text ++ rest)) (is.1 n lt) in
    let end = elim is.2 as (λ _. (rest ≡ []) ⊎ (begins_part rest ≡ true)) [
      | inl nothing ↦ inl nothing
      | inr begins ↦ inr (yes_begins rest begins)
    ] in
    let len = plain_read text rest other end in
    let front : take (plain_len (text ++ rest)) (text ++ rest) ≡ plain = rw len (take-append_seam text rest ∙ same) in
    let back : drop (plain_len (text ++ rest)) (text ++ rest) ≡ rest = rw len (drop-append_seam text rest) in
    text_part_read (text ++ rest) (other 0 is.0) ∙ ap₂ (λ (a b : List ℕ). two (Plain a) b) front back
part_read (Entity name) text rest (is, fits) =
    let regroup : text ++ rest ≡ codes "&dtml-" ++ (name ++ (codes ";" ++ rest)) = ap (λ (t : List ℕ). t ++ rest) is ∙ simp append_assoc in
    let inner = name ++ (codes ";" ++ rest) in
    ap part_at regroup ∙ (entity_part_read inner ∙ ap (text_from (codes "&dtml-" ++ inner)) (entity_read name rest fits))
part_read (Opening name attributes) text rest (inner, is, spelled) =
    let behind = tag_text name ++ (inner ++ (codes ">" ++ rest)) in
    let regroup : text ++ rest ≡ codes "<dtml-" ++ behind = ap (λ (t : List ℕ). t ++ rest) is ∙ simp append_assoc in
    ap part_at regroup ∙ (opening_read behind ∙ ap (λ (r : Reads (TagName × List Attribute)). r >>= λ tag. two (Opening tag.0.0 tag.0.1) tag.1) (tag_read name attributes inner rest spelled))
part_read (Closing name attributes) text rest (inner, is, spelled) =
    let behind = tag_text name ++ (inner ++ (codes ">" ++ rest)) in
    let regroup : text ++ rest ≡ codes "</dtml-" ++ behind = ap (λ (t : List ℕ). t ++ rest) is ∙ simp append_assoc in
    ap part_at regroup ∙ (closing_read behind ∙ ap (λ (r : Reads (TagName × List Attribute)). r >>= λ tag. two (Closing tag.0.0 tag.0.1) tag.1) (tag_read name attributes inner rest spelled))

-- a part isn't empty
pub part_long : (kind : PartKind) (text rest : List ℕ) → IsPart kind text rest → 0 < length text
part_long (Plain plain) text rest (same, is) = is.0
part_long (Entity name) text rest (is, fits) = rw is (omega arith)
part_long (Opening name attributes) text rest (inner, is, spelled) = rw is (omega arith)
part_long (Closing name attributes) text rest (inner, is, spelled) = rw is (omega arith)

-- ---- tags that fit no form

read_nothing : (bs : List ℕ) → part_at bs ≡ None → begins_tag bs ≡ true
read_nothing bs e = (elim (begins_part bs) as (λ t. begins_part bs ≡ t → begins_tag bs ≡ true) [
  | true ↦ λ begins. elim (begins_yes bs begins) as (λ _. begins_tag bs ≡ true) [
    | inl tag ↦ tag
    | inr entity ↦
        let regroup : bs ≡ (((codes "&dtml-" ++ entity.0) ++ codes ";") ++ entity.1) = entity.2 in
        let read = part_read (Entity entity.0) ((codes "&dtml-" ++ entity.0) ++ codes ";") entity.1 (refl, entity.3) in
        let found = ap part_at regroup ∙ read in
        absurd cc
  ]
  | false ↦ λ other. let read = text_part_read bs other in absurd cc
]) refl

no_reading : (bs : List ℕ) → part_at bs ≡ None → (kind : PartKind) (text rest : List ℕ) → bs ≡ text ++ rest → ¬ IsPart kind text rest
no_reading bs e kind text rest whole part =
    let found = ap part_at whole ∙ part_read kind text rest part in
    absurd cc

tag_long : (bs : List ℕ) → begins_tag bs ≡ true → 0 < length bs
tag_long [] e = absurd cc
tag_long (b ∷ bs) e = omega arith

bad_tag : (bs : List ℕ) (o : Reads PartKind) → part_at bs ≡ o → IsBadTag bs → o ≡ None
bad_tag bs None e bad = refl
bad_tag bs (Some x) e bad =
    let part = part_is bs x.0 x.1 (tag_long bs bad.0) e in
    absurd (bad.1 x.0 part.0 x.1 part.1 part.2)

pub refused_is : (bs : List ℕ) → (part_at bs ≡ None) ↔ IsBadTag bs
refused_is bs = (λ e. (read_nothing bs e, no_reading bs e), λ bad. bad_tag bs (part_at bs) refl bad)
