-- A part that is read at a place of a text stands there.
use Rattle.std.proofs.Common.{◌≡◌, ◌∙◌, inl, inr, ℕ, suc, ◌+◌, ◌-◌, ◌<◌, Bool, true, false, nat_eq, ◌&&◌, ◌||◌, List, [], ◌∷◌, ◌++◌, length, take, drop, get_or, codes, Some, refl, sym, ap, subst, append_assoc, arith, length-append, length-drop}
use Rattle.std.specs.Bool.{IsTrue}
use Rattle.std.specs.List.{starts_with}
use Rattle.std.specs.Str.{IsUtf8, IsCharBoundary}
use Rattle.std.proofs.lemmas.List.{take-append-drop, drop-drop}
use Rattle.std.proofs.lemmas.Str.{IsCharBoundary-end, IsCharBoundary-before_ascii, IsCharBoundary-after_ascii}
use Rattle.std.proofs.lemmas.Bool.Decides.{nat_tests}
use Rattle.std.proofs.Math.Seq.{drop-append_seam, get_or-append_seam}
use Rattle.dtml_lex.specs.declared.part.PartKind.{PartKind}
use Rattle.dtml_lex.specs.declared.part.PartKind.TheVariants as kinds
use Rattle.dtml_lex.specs.Spelling.{tag_text, BeginsPart, IsPart}
use Rattle.dtml_lex.specs.Laws.{ReadIsSpelled}
use Rattle.dtml_lex.specs.Reading.{part_at}
use Rattle.dtml_lex.specs.Source.{IsPartAt}
use Rattle.dtml_parse.proofs.Once.{found}

-- ---- spellings

either_first : (t p q : Bool) → IsTrue ((t && p) || (t && q)) → t ≡ true
either_first true p q h = refl
either_first false p q h = absurd cc

-- a part begins with an ASCII byte
abbrev AsciiFirst : List ℕ → Type 0
AsciiFirst bytes = (b : ℕ) × (rest : List ℕ) × (bytes ≡ b ∷ rest) × (b < 128)

begins_ascii : (bytes : List ℕ) → BeginsPart bytes → AsciiFirst bytes
begins_ascii [] (inl h) = absurd cc
begins_ascii (b ∷ bs) (inl h) =
    let first : nat_eq 60 b ≡ true = either_first (nat_eq 60 b) (starts_with nat_eq bs (codes "dtml-")) (starts_with nat_eq bs (codes "/dtml-")) h in
    (b, bs, refl, grind (arith, nat_tests))
begins_ascii bytes (inr h) = (38, _, h.2, omega arith)

tag_last : (lead name inner rest : List ℕ) → (lead ++ name ++ inner ++ codes ">") ++ rest ≡ (lead ++ name ++ inner) ++ 62 ∷ rest
tag_last lead name inner rest = simp append_assoc refl

entity_last : (lead name rest : List ℕ) → (lead ++ name ++ codes ";") ++ rest ≡ (lead ++ name) ++ 59 ∷ rest
entity_last lead name rest = simp append_assoc refl

some_bytes : (kind : PartKind) (text rest : List ℕ) → IsPart kind text rest → 0 < length text
some_bytes (kinds.Plain plain) text rest is = is.1.0
some_bytes (kinds.Entity name) text rest is = rw is.0 (omega arith)
some_bytes (kinds.Opening name attributes) text rest is = rw is.1 (omega arith)
some_bytes (kinds.Closing name attributes) text rest is = rw is.1 (omega arith)

module _ (source : List ℕ) (text : IsUtf8 source) where
  -- ---- where a text may be cut

  seam : (at : ℕ) (front rest : List ℕ) → drop at source ≡ front ++ rest → source ≡ (take at source ++ front) ++ rest
  seam at front rest e = sym (take-append-drop at source) ∙ (ap (λ (t : List ℕ). take at source ++ t) e ∙ sym (append_assoc (take at source) front rest))

  behind_ascii : (at : ℕ) (front rest : List ℕ) (b : ℕ) → b < 128 → drop at source ≡ front ++ b ∷ rest → IsCharBoundary source (length source - length rest)
  behind_ascii at front rest b ascii e =
      let joined = take at source ++ front in
      let s = seam at front (b ∷ rest) e in
      let byte : get_or source (length joined) 0 ≡ b = ap (λ (t : List ℕ). get_or t (length joined) 0) s ∙ get_or-append_seam joined b rest 0 in
      let lengths : length source ≡ length joined + suc (length rest) = ap length s ∙ length-append joined (b ∷ rest) in
      let place : length joined + 1 ≡ length source - length rest = omega (arith, lengths) in
      subst (IsCharBoundary source) place (IsCharBoundary-after_ascii source (length joined) text (omega (arith, lengths)) (omega (arith, byte, ascii)))

  before_ascii : (at : ℕ) (front rest : List ℕ) (b : ℕ) → b < 128 → drop at source ≡ front ++ b ∷ rest → IsCharBoundary source (length source - length (b ∷ rest))
  before_ascii at front rest b ascii e =
      let joined = take at source ++ front in
      let s = seam at front (b ∷ rest) e in
      let byte : get_or source (length joined) 0 ≡ b = ap (λ (t : List ℕ). get_or t (length joined) 0) s ∙ get_or-append_seam joined b rest 0 in
      let lengths : length source ≡ length joined + suc (length rest) = ap length s ∙ length-append joined (b ∷ rest) in
      let place : length joined ≡ length source - suc (length rest) = omega (arith, lengths) in
      subst (IsCharBoundary source) place (IsCharBoundary-before_ascii source (length joined) (omega (arith, lengths)) (omega (arith, byte, ascii)))

  cut : (at : ℕ) (kind : PartKind) (front rest : List ℕ) → drop at source ≡ front ++ rest → IsPart kind front rest → IsCharBoundary source (length source - length rest)
  cut at (kinds.Plain plain) front rest e (same, (some, other, inl nothing)) =
      let place : length source ≡ length source - length rest = omega (arith, ap length nothing) in
      subst (IsCharBoundary source) place (IsCharBoundary-end source)
  cut at (kinds.Plain plain) front rest e (same, (some, other, inr begins)) =
      let first = begins_ascii rest begins in
      subst (λ (t : List ℕ). IsCharBoundary source (length source - length t)) (sym first.2) (before_ascii at front first.1 first.0 first.3 (e ∙ ap (λ (t : List ℕ). front ++ t) first.2))
  cut at (kinds.Entity name) front rest e (is, named) = behind_ascii at (codes "&dtml-" ++ name) rest 59 (omega arith) (e ∙ (ap (λ (t : List ℕ). t ++ rest) is ∙ entity_last (codes "&dtml-") name rest))
  cut at (kinds.Opening name attributes) front rest e (inner, is, spelled) =
      behind_ascii at (codes "<dtml-" ++ tag_text name ++ inner) rest 62 (omega arith) (e ∙ (ap (λ (t : List ℕ). t ++ rest) is ∙ tag_last (codes "<dtml-") (tag_text name) inner rest))
  cut at (kinds.Closing name attributes) front rest e (inner, is, spelled) =
      behind_ascii at (codes "</dtml-" ++ tag_text name ++ inner) rest 62 (omega arith) (e ∙ (ap (λ (t : List ℕ). t ++ rest) is ∙ tag_last (codes "</dtml-") (tag_text name) inner rest))

  pub stands : ReadIsSpelled → (at : ℕ) (kind : PartKind) (rest : List ℕ) → at < length source → part_at (drop at source) ≡ Some (kind, rest) → IsPartAt source at (record { start = at; end = length source - length rest; kind = kind })
  stands spelled at kind rest inside e =
      let some : 0 < length (drop at source) = omega (arith, length-drop at source, inside) in
      let part = spelled (drop at source) kind rest some e in
      let long = some_bytes kind part.0 rest part.2 in
      let lengths : length source - at ≡ length part.0 + length rest = sym (length-drop at source) ∙ (ap length part.1 ∙ length-append part.0 rest) in
      let end : at + length part.0 ≡ length source - length rest = omega (arith, lengths, inside) in
      let back : drop (at + length part.0) source ≡ rest = sym (drop-drop (length part.0) at source) ∙ (ap (λ (t : List ℕ). drop (length part.0) t) part.1 ∙ drop-append_seam part.0 rest) in
      record {
        start = refl;
        forward = omega (arith, lengths, inside, long);
        boundary = cut at kind part.0 rest part.1 part.2;
        read = e ∙ ap (λ (t : List ℕ). found (kind, t)) (sym (subst (λ (n : ℕ). drop n source ≡ rest) end back));
      }
