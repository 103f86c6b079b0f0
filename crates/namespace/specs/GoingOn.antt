-- A page in the making that goes on as another one. What a page came to over what is known, it comes to wherever more is
-- known: so a page that stopped at an object that isn't known needn't begin anew once that is known.
use Rattle.std.proofs.Common.{ℕ, ◌≡◌, ◌∙◌, refl, sym, ap, subst, List, Option, Result, Ok}
use Rattle.zbase.specs.Query.{and_then, Halt, Grows, IsDecided}
use Rattle.zbase.specs.QueryLaws.{run_more}
use Rattle.evaluator.specs.declared.reply.Shown.{Shown}
use Rattle.zobject.specs.declared.object.Object.{Object}
use Rattle.zknown.specs.Seen.{Seen}
use Rattle.namespace.specs.Looks.{Looks, ◌>>=◌, Fault, looked, through, taken}
use Rattle.namespace.specs.LookLaws.{looked_then, looked_goes}

-- where more is known than here, both come to the same
abbrev pub GoesOn : {A : Type 0} → (ℕ → Option (Seen Object)) → List Shown → Looks A → List Shown → Looks A → Type 0
GoesOn known shown page present rest = (later : ℕ → Option (Seen Object)) → Grows known later → looked later shown page ≡ looked later present rest

pub goes_not : {A : Type 0} (k : ℕ → Option (Seen Object)) (shown : List Shown) (q : Looks A) → GoesOn k shown q shown q
goes_not k shown q = λ later grows. refl

pub goes_further : {A : Type 0} (k : ℕ → Option (Seen Object)) (first second third : List Shown) (p q r : Looks A) → GoesOn k first p second q → GoesOn k second q third r → GoesOn k first p third r
goes_further k first second third p q r pq qr = λ later grows. pq later grows ∙ qr later grows

-- where more is known it goes on so still
pub goes_still : {A : Type 0} (k l : ℕ → Option (Seen Object)) (shown present : List Shown) (p q : Looks A) → Grows k l → GoesOn k shown p present q → GoesOn l shown p present q
goes_still k l shown present p q kl pq = λ later grows. pq later (λ o seen e. grows o seen (kl o seen e))

-- and so does whatever comes behind
pub goes_behind : {A B : Type 0} (k : ℕ → Option (Seen Object)) (shown present : List Shown) (p q : Looks A) (next : A → Looks B) → GoesOn k shown p present q → GoesOn k shown (p >>= next) present (q >>= next)
goes_behind k shown present p q next pq = λ later grows.
    looked_then later shown p next ∙ ap (λ r. and_then r (λ x. looked later x.1 (next x.0))) (pq later grows) ∙ sym (looked_then later present q next)

ok_decided : {A : Type 0} (r : Result A (Halt ℕ Fault)) (x : A) → r ≡ Ok x → IsDecided r
ok_decided r x e = subst IsDecided (sym e) tt

-- what is come to stays where more is known
pub stays : {A : Type 0} (k : ℕ → Option (Seen Object)) (shown : List Shown) (q : Looks A) (x : A × List Shown) → looked k shown q ≡ Ok x →
    (later : ℕ → Option (Seen Object)) → Grows k later → looked later shown q ≡ Ok x
stays k shown q x e later grows = run_more k later (through taken shown q) grows (ok_decided (looked k shown q) x e) ∙ e

-- what is come to is left behind
pub goes_to : {A B : Type 0} (k : ℕ → Option (Seen Object)) (shown : List Shown) (q : Looks A) (next : A → Looks B) (x : A) (mid : List Shown) → looked k shown q ≡ Ok (x, mid) → GoesOn k shown (q >>= next) mid (next x)
goes_to k shown q next x mid e = λ later grows. looked_goes later shown q next (x, mid) (stays k shown q (x, mid) e later grows)
