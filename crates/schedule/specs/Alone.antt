-- Requests that run alone, one after another: what becomes of a schedule's items then.
use Rattle.std.proofs.Common.{◌≡◌, ℕ, List, [], ◌∷◌, ◌++◌, replicate, refl, sym, ap, ◌∙◌, append_assoc, append-nil, subst}
use Rattle.schedule.specs.declared.item.Item2.{Item2}
use Rattle.schedule.specs.declared.line.Line.{Line}

-- The schedule without its steps, stops and failures, and with some steps of its worker behind each request.
abbrev pub IsSerial : List Item2 → List Item2 → Type 0
IsSerial [] run = run ≡ []
IsSerial (Item2.Request w bytes ∷ items) run = (steps : ℕ) × (rest : List Item2) × (run ≡ Item2.Request w bytes ∷ (replicate steps (Item2.Step w) ++ rest)) × IsSerial items rest
IsSerial (Item2.Clock t ∷ items) run = (rest : List Item2) × (run ≡ Item2.Clock t ∷ rest) × IsSerial items rest
IsSerial (Item2.Pack t ∷ items) run = (rest : List Item2) × (run ≡ Item2.Pack t ∷ rest) × IsSerial items rest
IsSerial (Item2.Step w ∷ items) run = IsSerial items run
IsSerial (Item2.Stop n seed ∷ items) run = IsSerial items run
IsSerial (Item2.Fail n seed ∷ items) run = IsSerial items run
IsSerial (Item2.End ∷ items) run = ⊥

-- a step that isn't idle
abbrev pub IsNoIdle : Line → Type 0
IsNoIdle (Line.Idle w) = ⊥
IsNoIdle _ = Unit {0}

-- what a loop over the items keeps: a piece behind what was run
pub serial_then : (items more : List Item2) (run rest : List Item2) → IsSerial items run → IsSerial more rest → IsSerial (items ++ more) (run ++ rest)
serial_then [] more run rest e s = subst (λ (xs : List Item2). IsSerial more (xs ++ rest)) (sym e) s
serial_then (Item2.Request w bytes ∷ items) more run rest (n, tail, e, t) s =
    (n, tail ++ rest, ap (λ xs. xs ++ rest) e ∙ ap (λ xs. Item2.Request w bytes ∷ xs) (append_assoc (replicate n (Item2.Step w)) tail rest), serial_then items more tail rest t s)
serial_then (Item2.Clock t ∷ items) more run rest (tail, e, u) s = (tail ++ rest, ap (λ xs. xs ++ rest) e, serial_then items more tail rest u s)
serial_then (Item2.Pack t ∷ items) more run rest (tail, e, u) s = (tail ++ rest, ap (λ xs. xs ++ rest) e, serial_then items more tail rest u s)
serial_then (Item2.Step w ∷ items) more run rest t s = serial_then items more run rest t s
serial_then (Item2.Stop n seed ∷ items) more run rest t s = serial_then items more run rest t s
serial_then (Item2.Fail n seed ∷ items) more run rest t s = serial_then items more run rest t s
serial_then (Item2.End ∷ items) more run rest t s = absurd t

-- a request, and so many steps of its worker
pub serial_request : (w n : ℕ) (bytes : List ℕ) → IsSerial (Item2.Request w bytes ∷ []) (Item2.Request w bytes ∷ replicate n (Item2.Step w))
serial_request w n bytes = (n, [], ap (λ xs. Item2.Request w bytes ∷ xs) (sym (append-nil (replicate n (Item2.Step w)))), refl)
