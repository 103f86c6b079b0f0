-- A text that is a role by the rules of texts is one by the rules of replies.
use Rattle.std.proofs.Common.{◌≡◌, ◌≢◌, ℕ, ◌≤◌, ◌&&◌, Bool, true, false, not, List, [], ◌∷◌, refl, subst, arith, nat_eq}
use Rattle.std.specs.List.{list_all, AllByRecursion}
use Rattle.std.proofs.lemmas.Bool.{leb-true}
use Rattle.std.proofs.lemmas.Bool.Decides.{nat_tests}
use Rattle.zbase.specs.Roles.{IsRole}
use Rattle.zobject.specs.declared.version.Rule.TheVariants.{Role}
use Rattle.zobject.specs.Texts.{is_between, is_of_length, is_role, keeps}

both : (a b : Bool) → (a && b) ≡ true → (a ≡ true) × (b ≡ true)
both true b e = (refl, e)
both false b e = absurd (let bad = e in cc)

abbrev byte_of_role : ℕ → Bool
byte_of_role b = is_between 32 126 b && not (nat_eq b 44)

not_comma : (b : ℕ) → byte_of_role b ≡ true → b ≡ 44 → ⊥
not_comma b e is = (let bad : byte_of_role 44 ≡ true = subst (λ n. byte_of_role n ≡ true) is e in cc)

byte_is : (b : ℕ) → byte_of_role b ≡ true → (32 ≤ b) × (b ≤ 126) × (b ≢ 44)
byte_is b e = (grind (arith, nat_tests), grind (arith, nat_tests), λ is. not_comma b e is)

all_bytes : (t : List ℕ) → list_all byte_of_role t ≡ true → AllByRecursion (λ b. (32 ≤ b) × (b ≤ 126) × (b ≢ 44)) t
all_bytes [] e = tt
all_bytes (b ∷ t) e = let p = both (byte_of_role b) (list_all byte_of_role t) e in (byte_is b p.0, all_bytes t p.1)

pub role_is_role : (t : List ℕ) → keeps Role t ≡ true → IsRole t
role_is_role t e =
    let role = (both (is_role t) _ e).0 in
    let p = both (is_of_length 64 t) (list_all byte_of_role t) role in
    let long = both _ _ p.0 in
    (leb-true _ _ long.0, leb-true _ _ long.1, all_bytes t p.1)
