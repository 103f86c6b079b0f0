-- Lines behind lines, and a whole report.
use Rattle.std.proofs.Common.{◌≡◌, ℕ, ◌+◌, ◌<◌, List, [], ◌∷◌, ◌++◌, length, get_or, take, map, subst, Option, Some, None, Result, Ok, Err, OnOk, refl, sym, ap, ◌∙◌, append_assoc, append-nil}
use Rattle.std.specs.Io.KnownBytes.{append_known}
use Rattle.std.proofs.lemmas.Grind.{flat_map-append}
use Rattle.std.proofs.lemmas.List.{take_more, map-append}
use Rattle.schedule.specs.declared.line.Line.{Line}
use Rattle.schedule.specs.Lines.{line_text, report_text}
use Rattle.replay.specs.Printed.{Prints}

append_twice : (o : Option (List ℕ)) (x y : List ℕ) → append_known (append_known o x) y ≡ append_known o (x ++ y)
append_twice None x y = refl
append_twice (Some xs) x y = ap (λ (t : List ℕ). Some t) (append_assoc xs x y)

pub prints_none : (o : Option (List ℕ)) → Prints o o []
prints_none None = refl
prints_none (Some xs) = ap (λ (t : List ℕ). Some t) (sym (append-nil xs))

pub prints_then : (a b c : Option (List ℕ)) (xs ys : List Line) → Prints a b xs → Prints b c ys → Prints a c (xs ++ ys)
prints_then a b c xs ys p q =
    q ∙ ap (λ o. append_known o (report_text ys)) p ∙ append_twice a (report_text xs) (report_text ys) ∙ ap (append_known a) (sym (flat_map-append line_text xs ys))

pub prints_then_ok : {T E : Type 0} (r : Result T E) (a b c : Option (List ℕ)) (xs ys : List Line) → Prints a b xs → OnOk r (Prints b c ys) → OnOk r (Prints a c (xs ++ ys))
prints_then_ok (Ok x) a b c xs ys p q = prints_then a b c xs ys p q
prints_then_ok (Err e) a b c xs ys p q = tt

-- the line of one more item, each seen through a view
pub prints_next_line : {X Y : Type 0} (line_of : Y → Line) (view : X → Y) (a b c : Option (List ℕ)) (xs : List X) (i : ℕ) (x : X) → i < length xs → x ≡ get_or xs i x → Prints a b (map line_of (map view (take i xs))) → Prints b c (line_of (view x) ∷ []) → Prints a c (map line_of (map view (take (i + 1) xs)))
prints_next_line line_of view a b c xs i x lt e p q =
    let one : take (i + 1) xs ≡ take i xs ++ x ∷ [] = take_more xs i x lt ∙ ap (λ y. take i xs ++ y ∷ []) (sym e) in
    let all : map line_of (map view (take i xs)) ++ line_of (view x) ∷ [] ≡ map line_of (map view (take (i + 1) xs)) =
    sym (ap (λ ys. map line_of (map view ys)) one ∙ ap (map line_of) (map-append view (take i xs) (x ∷ [])) ∙ map-append line_of (map view (take i xs)) (view x ∷ [])) in
    subst (λ ls. Prints a c ls) all (prints_then a b c (map line_of (map view (take i xs))) (line_of (view x) ∷ []) p q)
