-- What reads expressions by a fuel reads them as the grammar says, both ways.
use Rattle.std.proofs.Common.{◌≡◌, ◌∙◌, ℕ, zero, suc, ◌≤◌, Bool, true, false, List, [], ◌∷◌, length, Option, Some, None, refl, sym, ap, subst, append-nil, arith, if◌then◌else◌}
use Rattle.dtml_expr.specs.Trees.{Tree}
use Rattle.dtml_expr.specs.Tokens.{Token, Front, token_at, is_blank, AreTokens, end, blank, token}
use Rattle.dtml_expr.specs.Grammar.{IsOr, IsNot, IsExpr}
use Rattle.dtml_expr.specs.Reading.{◌>>=◌, or_at, not_at, with_token, tokens_at, all_read, expression_at, ReadsExpressions}
use Rattle.dtml_expr.proofs.Sound.{bind_some, some_is, not_sound, or_sound}
use Rattle.dtml_expr.proofs.Complete.{or_complete_at}
use Rattle.dtml_expr.proofs.TokenSteps.{no_token, shorter}

-- ---- tokens

with_sound : (again : List ℕ → Option (List Token)) → ((bs : List ℕ) (ts : List Token) → again bs ≡ Some ts → AreTokens bs ts)
    → (bs : List ℕ) (o : Option Front) → token_at bs ≡ o → (ts : List Token) → with_token again o ≡ Some ts → AreTokens bs ts
with_sound again sound bs None h ts e = absurd cc
with_sound again sound bs (Some x) h ts e =
    let p = bind_some (again x.1) (λ (more : List Token). Some (x.0 ∷ more)) ts e in
    subst (λ (l : List Token). AreTokens bs l) (some_is {A = List Token} (x.0 ∷ p.0) ts p.2) (token h (sound x.1 p.0 p.1))

tokens_sound : (fuel : ℕ) (bs : List ℕ) (ts : List Token) → tokens_at fuel bs ≡ Some ts → AreTokens bs ts
unfolding tokens_at
tokens_sound zero [] ts e = subst (λ (l : List Token). AreTokens [] l) (some_is {A = List Token} [] ts e) end
tokens_sound (suc fuel) [] ts e = subst (λ (l : List Token). AreTokens [] l) (some_is {A = List Token} [] ts e) end
tokens_sound zero (b ∷ bs) ts e = absurd cc
tokens_sound (suc fuel) (b ∷ bs) ts e = (elim (is_blank b) as (λ t. is_blank b ≡ t → (if t then tokens_at fuel bs else with_token (tokens_at fuel) (token_at (b ∷ bs))) ≡ Some ts → AreTokens (b ∷ bs) ts) [
  | true ↦ λ h g. blank h (tokens_sound fuel bs ts g)
  | false ↦ λ h g. with_sound (tokens_at fuel) (tokens_sound fuel) (b ∷ bs) (token_at (b ∷ bs)) refl ts g
]) refl e

solid : (b : ℕ) (bs : List ℕ) (x : Front) → token_at (b ∷ bs) ≡ Some x → is_blank b ≡ false
solid b bs x e = (elim (is_blank b) as (λ t. is_blank b ≡ t → t ≡ false) [
  | true ↦ λ h. absurd (let none = no_token b bs h in cc)
  | false ↦ λ h. refl
]) refl

one_token : (fuel : ℕ) (bs rest : List ℕ) (x : Token) (more : List Token) → token_at bs ≡ Some (x, rest) → length bs ≤ fuel
    → ((k : ℕ) → length rest ≤ k → tokens_at k rest ≡ Some more) → tokens_at fuel bs ≡ Some (x ∷ more)
unfolding tokens_at
one_token fuel [] rest x more e le again = absurd (let less = shorter [] rest x e in omega arith)
one_token zero (b ∷ bs) rest x more e le again = absurd (omega arith)
one_token (suc fuel) (b ∷ bs) rest x more e le again =
    let less = shorter (b ∷ bs) rest x e in
    ap (λ (t : Bool). if t then tokens_at fuel bs else with_token (tokens_at fuel) (token_at (b ∷ bs))) (solid b bs (x, rest) e)
    ∙ (ap (with_token (tokens_at fuel)) e ∙ ap (λ (o : Option (List Token)). o >>= λ ts. Some (x ∷ ts)) (again fuel (omega arith)))

one_blank : (fuel b : ℕ) (bs : List ℕ) (ts : List Token) → is_blank b ≡ true → suc (length bs) ≤ fuel → ((k : ℕ) → length bs ≤ k → tokens_at k bs ≡ Some ts) → tokens_at fuel (b ∷ bs) ≡ Some ts
unfolding tokens_at
one_blank zero b bs ts h le again = absurd (omega arith)
one_blank (suc fuel) b bs ts h le again =
    ap (λ (t : Bool). if t then tokens_at fuel bs else with_token (tokens_at fuel) (token_at (b ∷ bs))) h ∙ again fuel (omega arith)

no_bytes : (fuel : ℕ) → tokens_at fuel [] ≡ Some []
unfolding tokens_at
no_bytes zero = refl
no_bytes (suc fuel) = refl

tokens_complete : (bs : List ℕ) (ts : List Token) → AreTokens bs ts → (fuel : ℕ) → length bs ≤ fuel → tokens_at fuel bs ≡ Some ts
tokens_complete bs ts end fuel le = no_bytes fuel
tokens_complete bs ts (blank {b = b} {bs = bs'} h k) fuel le = one_blank fuel b bs' ts h le (tokens_complete bs' ts k)
tokens_complete bs ts (token {rest = rest} {x = x} {ts = more} e k) fuel le = one_token fuel bs rest x more e le (tokens_complete rest more k)

-- a token has a byte
no_more : (bs : List ℕ) (ts : List Token) → AreTokens bs ts → length ts ≤ length bs
no_more bs ts end = omega arith
no_more bs ts (blank {b = b} {bs = bs'} h k) = let fewer = no_more bs' ts k in omega arith
no_more bs ts (token {rest = rest} {x = x} {ts = more} e k) =
    let fewer = no_more rest more k in
    let less = shorter bs rest x e in
    omega arith

-- ---- the expression

all_is : (x : Tree × List Token) (tree : Tree) → all_read x ≡ Some tree → x ≡ (tree, [])
all_is (t, []) tree e = ap (λ (z : Tree). (z, [])) (some_is {A = Tree} t tree e)
all_is (t, y ∷ ys) tree e = absurd cc

is_read : (text : List ℕ) (fuel : ℕ) (tree : Tree) → length text ≤ fuel → IsExpr text tree → expression_at fuel text ≡ Some tree
unfolding expression_at
is_read text fuel tree le h =
    let fewer = no_more text h.0 h.1 in
    ap (λ (o : Option (List Token)). o >>= λ ts. or_at (not_at fuel 64) fuel ts >>= all_read) (tokens_complete text h.0 h.1 fuel le)
    ∙ ap (λ (o : Option (Tree × List Token)). o >>= all_read) (or_complete_at 64 h.0 tree h.2 fuel (omega arith))

read_is : (text : List ℕ) (fuel : ℕ) (tree : Tree) → expression_at fuel text ≡ Some tree → IsExpr text tree
unfolding expression_at
read_is text fuel tree e =
    let p = bind_some (tokens_at fuel text) (λ (ts : List Token). or_at (not_at fuel 64) fuel ts >>= all_read) tree e in
    let q = bind_some (or_at (not_at fuel 64) fuel p.0) all_read tree p.2 in
    let whole : or_at (not_at fuel 64) fuel p.0 ≡ Some (tree, []) = q.1 ∙ ap (λ (x : Tree × List Token). Some x) (all_is q.0 tree q.2) in
    let s = or_sound (IsNot 64) (not_at fuel 64) (not_sound fuel 64) fuel p.0 [] tree whole in
    (p.0, tokens_sound fuel text p.0 p.1, subst (λ (l : List Token). IsOr (IsNot 64) l tree) (sym (s.is ∙ append-nil s.front)) s.rule)

pub reads_expressions : ReadsExpressions
reads_expressions text fuel tree le = (read_is text fuel tree, is_read text fuel tree le)
