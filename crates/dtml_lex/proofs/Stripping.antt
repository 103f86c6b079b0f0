-- Fronts of texts.
use Rattle.std.proofs.Common.{◌≡◌, ℕ, true, false, List, length, drop, Option, Some, None, option_map, refl, sym, ap, subst, ◌∙◌, Bor}
use Rattle.std.specs.Option.{MatchOption}
use Rattle.std.specs.Str.{IsCharBoundary}
use Rattle.std.specs.Str.Pattern.{FindsTextPrefix, StripsPrefix}
use Rattle.std.proofs.lemmas.Str.Pattern.{starts_text}
use Rattle.dtml_lex.specs.Reading.{strip}

-- what `strip_prefix` answers is what stands behind the front
pub strip_prefix_is : (s n : List ℕ) (r : Option (Bor (List ℕ))) → MatchOption r (FindsTextPrefix n s None) (λ x. StripsPrefix (FindsTextPrefix n) s x.now) → option_map (λ x. x.now) r ≡ strip s n
strip_prefix_is s n None h = let e = starts_text false n s h in rw (← e) refl
strip_prefix_is s n (Some x) h =
    let boundary : IsCharBoundary s h.0 = subst (IsCharBoundary s) (sym h.1.0) h.1.2 in
    let e = starts_text true n s (h.0, h.1, boundary) in
    let rest : x.now ≡ drop (length n) s = h.2 ∙ ap (λ k. drop k s) h.1.0 in
    rw (← e) (ap (λ (t : List ℕ). Some t) rest)
