-- The parts of a whole source.
use Rattle.std.proofs.Common.{◌≡◌, ℕ, ◌+◌, ◌-◌, ◌<◌, ◌≤◌, List, [], ◌∷◌, ◌++◌, length, take, drop, Some, refl, sym, ap, ap₂, subst, ◌∙◌, append_assoc, arith, length-append, length-drop}
use Rattle.std.specs.List.{flat_map}
use Rattle.std.specs.Str.{IsUtf8, IsCharBoundary}
use Rattle.std.proofs.lemmas.List.{take-append-drop, length-take-le, drop-drop}
use Rattle.std.proofs.lemmas.Str.{IsCharBoundary-at_seam}
use Rattle.std.proofs.Math.Seq.{take-append_seam, drop-append_seam, drop-length}
use Rattle.dtml_lex.specs.declared.part.PartKind.{PartKind}
use Rattle.dtml_lex.specs.declared.part.SourcePart.{SourcePart}
use Rattle.dtml_lex.specs.Reading.{part_at}
use Rattle.dtml_lex.specs.Source.{IsPartAt, IsSpelled, AreParts, part_text}
use Rattle.dtml_lex.proofs.Fronts.{two, pair_is}
use Rattle.dtml_lex.proofs.Parts.{part_is, part_long}

-- ---- the part that is read at a place

pub rest_within : (source : List ℕ) (at : ℕ) (kind : PartKind) (rest : List ℕ) → at < length source → part_at (drop at source) ≡ Some (kind, rest) → length rest ≤ length source
rest_within source at kind rest inside is =
    let part = part_is (drop at source) kind rest (omega (arith, length-drop at source)) is in
    omega (arith, ap length part.1, length-append part.0 rest, length-drop at source)

-- where a part ends, and how it is spelled
pub part_stands : (source : List ℕ) (at end : ℕ) (kind : PartKind) (rest : List ℕ) → at < length source → IsUtf8 rest → part_at (drop at source) ≡ Some (kind, rest)
    → end + length rest ≡ length source
    → IsPartAt source at (record { start = at; end = end; kind = kind }) × IsSpelled source (record { start = at; end = end; kind = kind })
part_stands source at end kind rest inside text is ends =
    let some : 0 < length (drop at source) = omega (arith, length-drop at source) in
    let part = part_is (drop at source) kind rest some is in
    let long = part_long kind part.0 rest part.2 in
    let whole : source ≡ (take at source ++ part.0) ++ rest =
    sym (take-append-drop at source) ∙ (ap (λ (t : List ℕ). take at source ++ t) part.1 ∙ sym (append_assoc (take at source) part.0 rest)) in
    let front : length (take at source) ≡ at = length-take-le at source (omega arith) in
    let lengths = length-append (take at source) part.0 in
    let place : length (take at source ++ part.0) ≡ end = omega (arith, ap length whole, length-append (take at source ++ part.0) rest) in
    let behind : drop end source ≡ rest = ap₂ (λ (n : ℕ) (t : List ℕ). drop n t) (sym place) whole ∙ drop-append_seam (take at source ++ part.0) rest in
    let long_so : length part.0 ≡ end - at = omega arith in
    let shown : take (end - at) (drop at source) ≡ part.0 = ap₂ (λ (n : ℕ) (t : List ℕ). take n t) (sym long_so) part.1 ∙ take-append_seam part.0 rest in
    let stands : IsPartAt source at (record { start = at; end = end; kind = kind }) = record {
      start = refl;
      forward = omega arith;
      boundary = subst (IsCharBoundary source) place (IsCharBoundary-at_seam source (take at source ++ part.0) rest whole text);
      kind = is ∙ ap (λ (t : List ℕ). two kind t) (sym behind);
    } in
    (stands, rw (shown, behind) part.2)

-- ---- all parts

drop_more : (bs : List ℕ) (i j : ℕ) → i ≤ j → drop j bs ≡ drop (j - i) (drop i bs)
drop_more bs i j le =
    let whole : i + (j - i) ≡ j = omega arith in
    sym (drop-drop (j - i) i bs ∙ ap (λ (n : ℕ). drop n bs) whole)

text_then : (source : List ℕ) (part : SourcePart) → part.start ≤ part.end → part_text source part ++ drop part.end source ≡ drop part.start source
text_then source part le =
    ap (λ (t : List ℕ). part_text source part ++ t) (drop_more source part.start part.end le) ∙ take-append-drop (part.end - part.start) (drop part.start source)

joined_from : (source : List ℕ) (at : ℕ) (parts : List SourcePart) → AreParts source at parts → flat_map (part_text source) parts ≡ drop at source
joined_from source at [] end = sym (ap (λ (n : ℕ). drop n source) end ∙ drop-length source)
joined_from source at (part ∷ more) are =
    let start = are.0.start in
    let le : part.start ≤ part.end = omega (arith, start, are.0.forward) in
    ap (λ (t : List ℕ). part_text source part ++ t) (joined_from source part.end more are.1) ∙ (text_then source part le ∙ ap (λ (n : ℕ). drop n source) start)

pub joined : (source : List ℕ) (parts : List SourcePart) → AreParts source 0 parts → flat_map (part_text source) parts ≡ source
joined source parts are = joined_from source 0 parts are

abbrev made : ℕ → ℕ → PartKind → SourcePart
made start end kind = record { start = start; end = end; kind = kind }

same_part : (source : List ℕ) (at : ℕ) (part other : SourcePart) → IsPartAt source at part → IsPartAt source at other → part ≡ other
same_part source at part other is also =
    let read = pair_is part.kind other.kind (drop part.end source) (drop other.end source) (sym is.kind ∙ also.kind) in
    let end : part.end ≡ other.end = omega (arith, is.boundary.0, also.boundary.0, ap length read.1, length-drop part.end source, length-drop other.end source) in
    let start : part.start ≡ other.start = is.start ∙ sym also.start in
    ap (λ (n : ℕ). made n part.end part.kind) start
    ∙ (ap (λ (n : ℕ). made other.start n part.kind) end ∙ ap (λ (k : PartKind). made other.start other.end k) read.0)

same_parts : (source : List ℕ) (at : ℕ) (parts others : List SourcePart) → AreParts source at parts → AreParts source at others → parts ≡ others
same_parts source at [] [] are also = refl
same_parts source at [] (other ∷ others) are also = absurd (omega (arith, also.0.forward, also.0.boundary.0))
same_parts source at (part ∷ more) [] are also = absurd (omega (arith, are.0.forward, are.0.boundary.0))
same_parts source at (part ∷ more) (other ∷ others) are also =
    let first = same_part source at part other are.0 also.0 in
    let rest : AreParts source part.end others = subst (λ (p : SourcePart). AreParts source p.end others) (sym first) also.1 in
    ap₂ (λ (p : SourcePart) (ps : List SourcePart). p ∷ ps) first (same_parts source part.end more others are.1 rest)

pub one_list : (source : List ℕ) (parts others : List SourcePart) → AreParts source 0 parts → AreParts source 0 others → parts ≡ others
one_list source parts others = same_parts source 0 parts others
