-- A map that has the place of each name of a list, as the list grows.
use Rattle.std.proofs.Common.{◌≡◌, ◌∙◌, ℕ, Bool, true, false, cond, List, [], ◌∷◌, ◌++◌, length, refl, ap, sym, Option, Some, None, String, Global, BTreeMap, string_bytes, nat_cmp}
use Rattle.std.specs.BTreeMap.{get_by_text, is_at}
use Rattle.std.specs.Cmp.Lexicographic.{bytes_decides, slice_cmp}
use Rattle.std.specs.List.{position}
use Rattle.std.specs.Map.{lookup, update}
use Rattle.std.specs.Str.{bytes_eq}
use Rattle.form_fields.specs.Firsts.{AreAt}
use Rattle.form_fields.proofs.Positions.{or_else, position_push}

or_none : {A : Type 0} (o : Option A) → or_else o None ≡ o
or_none None = refl
or_none (Some x) = refl

-- an empty map has the places of no names
pub none_placed : (m : BTreeMap (String Global) ℕ) → m.entries ≡ [] → AreAt [] m
none_placed m empty = λ q. ap (lookup (is_at (λ k. slice_cmp nat_cmp q (string_bytes k)))) empty

pub places_push : (m n : BTreeMap (String Global) ℕ) (names : List (List ℕ)) (name : List ℕ) (place : ℕ) → AreAt names m → position (λ j. bytes_eq j name) names ≡ None → place ≡ length names
    → ((q : List ℕ) → get_by_text n q ≡ update bytes_eq (get_by_text m) name (Some place) q) → AreAt (names ++ name ∷ []) n
places_push m n names name place at none is sets = λ q. sets q ∙ rw (position_push (λ j. bytes_eq j q) names name) (go q (bytes_eq name q) refl)
  where
    go : (q : List ℕ) (b : Bool) → bytes_eq name q ≡ b → cond (bytes_eq name q) (Some place) (get_by_text m q) ≡ or_else (position (λ j. bytes_eq j q) names) (cond (bytes_eq name q) (Some (length names)) None)
    go q true same =
        let here : position (λ j. bytes_eq j q) names ≡ None = rw ((bytes_decides name q).0 same) at none in
        rw (same, here) (ap Some is)
    go q false apart = rw (apart, at q) (sym (or_none (position (λ j. bytes_eq j q) names)))
