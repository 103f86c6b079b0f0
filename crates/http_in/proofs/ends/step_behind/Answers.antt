use Rattle.std.proofs.Common.{◌≡◌, ◌∙◌, refl, List, ◌∷◌, ap, ℕ, arith}
use Rattle.http_in.specs.Inside.{Waits, Said, Passes}
use Rattle.http_in.specs.EndLaws.{passes_line, passes_return, said_again}
use Rattle.http_in.proofs.ends.step_behind.Goals as goal

behind_lf : {bytes : List ℕ} {front : List ℕ} → bytes ≡ front → 10 ∷ bytes ≡ 10 ∷ front
behind_lf e = ap (λ (b : List ℕ). 10 ∷ b) e

pub returns-in_default : goal.returns-in_default
returns-in_default c = said_again Waits (behind_lf c.in_default.ensures) refl

pub returns-then-second-eq10 : goal.returns-then-second-eq10
returns-then-second-eq10 c =
    said_again (Said.Ends 2) (behind_lf (c.in-Some.ensures ∙ ap (λ b. b ∷ c.in-Some.rest.now) c.if-second-eq10.true)) (refl, omega arith)

pub returns-then-second-ne13 : goal.returns-then-second-ne13
returns-then-second-ne13 c =
    said_again (Passes 2) (behind_lf c.in-Some.ensures) (passes_line c.in-Some.second c.in-Some.rest.now c.if-second-eq10.false c.if-second-ne13.true)

pub returns-in_default-parted : goal.returns-in_default-parted
returns-in_default-parted c =
    said_again Waits (behind_lf (c.in-Some.ensures ∙ ap (λ b. b ∷ c.in-Some.rest.now) c.if-second-ne13.false ∙ ap (λ (bs : List ℕ). 13 ∷ bs) c.in_default-parted.ensures)) refl

pub returns-then-third-eq10 : goal.returns-then-third-eq10
returns-then-third-eq10 c =
    said_again (Said.Ends 3) (behind_lf (c.in-Some.ensures ∙ ap (λ b. b ∷ c.in-Some.rest.now) c.if-second-ne13.false ∙ ap (λ (bs : List ℕ). 13 ∷ bs) (c.in-Some-parted.ensures ∙ ap (λ b. b ∷ c.in-Some-parted._behind.now) c.if-third-eq10.true))) (refl, omega arith)

pub returns-else-third-eq10 : goal.returns-else-third-eq10
returns-else-third-eq10 c =
    said_again (Passes 3) (behind_lf (c.in-Some.ensures ∙ ap (λ b. b ∷ c.in-Some.rest.now) c.if-second-ne13.false ∙ ap (λ (bs : List ℕ). 13 ∷ bs) c.in-Some-parted.ensures)) (passes_return c.in-Some-parted.third c.in-Some-parted._behind.now c.if-third-eq10.false)
