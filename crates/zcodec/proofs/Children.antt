-- The names of children, as a loop collects them.
use Rattle.std.proofs.Common.{◌≡◌, ℕ, List, [], ◌∷◌, ◌++◌, sym, ap, ◌∙◌, map, reverse, nat_cmp}
use Rattle.std.proofs.lemmas.List.{map_push, reverse-append}
use Rattle.std.specs.List.{list_any}
use Rattle.std.specs.Ordering.{is_eq}
use Rattle.std.specs.Cmp.Lexicographic.{slice_cmp}
use Rattle.std.specs.Str.{bytes_eq}
use Rattle.std.specs.BTreeSet.{BTreeSet}
use denote.Ref.{Bor}
use Rattle.zobject.specs.declared.object.Child.{Child}
use Rattle.zcodec.specs.Given.{Knows}

-- the names, the last one first
abbrev pub named : List Child → List (List ℕ)
named cs = reverse (map (λ (c : Child). c.name) cs)

pub named-push : (cs : List Child) (c : Child) → named (cs ++ c ∷ []) ≡ c.name ∷ named cs
named-push cs c = ap reverse (map_push (λ (c : Child). c.name) cs c) ∙ reverse-append (map (λ (c : Child). c.name) cs) (c.name ∷ [])

pub knows_none : (names : BTreeSet (Bor (List ℕ))) (cs : List Child) → names.keys ≡ [] → cs ≡ [] → Knows names (named cs)
knows_none names cs e k q = ap (list_any (λ (x : Bor (List ℕ)). is_eq (slice_cmp nat_cmp q x.now))) e ∙ ap (λ (ds : List Child). list_any (bytes_eq q) (named ds)) (sym k)

pub knows_pushed : (names : BTreeSet (Bor (List ℕ))) (cs : List Child) (c : Child) → Knows names (c.name ∷ named cs) → Knows names (named (cs ++ c ∷ []))
knows_pushed names cs c h q = h q ∙ ap (list_any (bytes_eq q)) (sym (named-push cs c))
