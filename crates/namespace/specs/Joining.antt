-- One page in the making, then another, then a third: how they are grouped makes no difference.
use Rattle.std.proofs.Common.{◌≡◌, refl}
use Rattle.namespace.specs.Looks.{Looks, Done, Stops, See, Reach, Enter, View, Offer, ◌>>=◌}

pub then_then : {A B C : Type 0} (q : Looks A) (f : A → Looks B) (g : B → Looks C) → ((q >>= f) >>= g) ≡ (q >>= λ x. (f x >>= g))
then_then (Done x) f g = refl
then_then (Stops cause) f g = refl
then_then (See o go) f g = λ i. See o (λ shape. then_then (go shape) f g i)
then_then (Reach w o go) f g = λ i. Reach w o (λ found. then_then (go found) f g i)
then_then (Enter who o go) f g = λ i. Enter who o (then_then go f g i)
then_then (View who o go) f g = λ i. View who o (λ object. then_then (go object) f g i)
then_then (Offer who o go) f g = λ i. Offer who o (λ granted. then_then (go granted) f g i)

-- a page that only hands its value on
pub then_done : {A : Type 0} (q : Looks A) → (q >>= λ x. Done x) ≡ q
then_done (Done x) = refl
then_done (Stops cause) = refl
then_done (See o go) = λ i. See o (λ shape. then_done (go shape) i)
then_done (Reach w o go) = λ i. Reach w o (λ found. then_done (go found) i)
then_done (Enter who o go) = λ i. Enter who o (then_done go i)
then_done (View who o go) = λ i. View who o (λ object. then_done (go object) i)
then_done (Offer who o go) = λ i. Offer who o (λ granted. then_done (go granted) i)
