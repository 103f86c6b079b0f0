-- While no LF comes no message does.
use Rattle.std.proofs.Common.{◌≡◌, ◌≢◌, ◌==◌, ℕ, ◌-◌, ◌<◌, ◌≤◌, Bool, true, false, if◌then◌else◌, Option, Some, None, List, [], ◌∷◌, ◌++◌, length, take, drop, length-drop, append-nil, append_assoc, refl, subst, sym, ap, ◌∙◌, arith}
use Rattle.std.specs.List.{All}
use Rattle.std.proofs.lemmas.Bool.{ne_eqb}
use Rattle.std.proofs.lemmas.List.{take_all}
use Rattle.std.proofs.lemmas.List.Elements.{All-cons, All-nil, All-head, All-tail}
use Rattle.http_in.specs.Ends.{empty_line, from, head_end, lf_behind, or_later}
use Rattle.http_in.specs.EndLaws.{passes_text}
use Rattle.http_in.specs.Inside.{IsPassed, IsQuiet, IsShort}
use Rattle.http_in.specs.MessageLaws.{none_yet}
use Rattle.http_in.specs.Messages.{asked, most_head}

none_asked : (bytes : List ℕ) → length bytes ≤ 0 → asked bytes ≡ None
unfolding asked
none_asked [] few = refl
none_asked (b ∷ bytes) few = absurd (omega (arith, few))

pub quiet_none : (rest : List ℕ) → IsQuiet 0 rest
quiet_none rest more all few = none_asked (rest ++ more) few

pub quiet_less : (rest : List ℕ) (most less : ℕ) → IsQuiet most rest → less ≤ most → IsQuiet less rest
quiet_less rest most less still within more all few = still more all (omega (arith, few, within))

-- what has no LF holds no end of a head
none_in_text : (more : List ℕ) → All (λ b. b ≢ 10) more → head_end more ≡ None
none_in_text more all =
    let text : IsPassed (take (length more) more) = passes_text more (length more) (λ k less. all k 0 less) (omega arith) in
    ap head_end (sym (append-nil more)) ∙ (subst IsPassed (take_all (length more) more (omega arith)) text) []

none_first : (more : List ℕ) → All (λ b. b ≢ 10) more → lf_behind more ≡ None
none_first [] all = refl
none_first (b ∷ more) all = rw (ne_eqb b 10 (All-head (λ x. x ≢ 10) b more all)) refl

no_line : (more : List ℕ) → All (λ b. b ≢ 10) more → empty_line more ≡ None
no_line [] all = refl
no_line (b ∷ more) all = go (b == 13)
  where
    go : (t : Bool) → (if b == 10 then Some 1 else if t then lf_behind more else None) ≡ None
    go true = rw (ne_eqb b 10 (All-head (λ x. x ≢ 10) b more all)) (none_first more (All-tail (λ x. x ≢ 10) b more all))
    go false = rw (ne_eqb b 10 (All-head (λ x. x ≢ 10) b more all)) refl

line_more : (bytes more : List ℕ) → empty_line bytes ≡ None → All (λ b. b ≢ 10) more → empty_line (bytes ++ more) ≡ None
line_more [] more none all = no_line more all
line_more (b ∷ []) more none all = go (b == 10) (b == 13) none
  where
    go : (t u : Bool) → if◌then◌else◌ {A = Option ℕ} t (Some 1) (if u then None else None) ≡ None → if◌then◌else◌ {A = Option ℕ} t (Some 1) (if u then lf_behind more else None) ≡ None
    go true u e = cc
    go false true e = none_first more all
    go false false e = refl
line_more (b ∷ c ∷ bytes) more none all = none

from_none : (o : Option ℕ) → from 1 o ≡ None → o ≡ None
from_none None e = refl
from_none (Some k) e = cc

more_at : (b : ℕ) (bytes more : List ℕ) → (head_end bytes ≡ None → head_end (bytes ++ more) ≡ None) → head_end (b ∷ bytes) ≡ None → All (λ b. b ≢ 10) more → head_end (b ∷ (bytes ++ more)) ≡ None
more_at b bytes more later none all = go (b == 10) none
  where
    behind : from 1 (head_end bytes) ≡ None → from 1 (head_end (bytes ++ more)) ≡ None
    behind e = ap (from 1) (later (from_none (head_end bytes) e))

    at_line : (o : Option ℕ) → empty_line bytes ≡ o → or_later o (from 1 (head_end bytes)) ≡ None → or_later (empty_line (bytes ++ more)) (from 1 (head_end (bytes ++ more))) ≡ None
    at_line None line e = rw (line_more bytes more line all) (behind e)
    at_line (Some k) line e = cc

    go : (t : Bool) → (if t then or_later (empty_line bytes) (from 1 (head_end bytes)) else from 1 (head_end bytes)) ≡ None → (if t then or_later (empty_line (bytes ++ more)) (from 1 (head_end (bytes ++ more))) else from 1 (head_end (bytes ++ more))) ≡ None
    go true e = at_line (empty_line bytes) refl e
    go false e = behind e

none_more : (bytes more : List ℕ) → head_end bytes ≡ None → All (λ b. b ≢ 10) more → head_end (bytes ++ more) ≡ None
none_more [] more none all = none_in_text more all
none_more (b ∷ bytes) more none all = more_at b bytes more (λ e. none_more bytes more e all) none all

-- in a head that may go on, until it is too long
pub quiet_head : (rest : List ℕ) → head_end rest ≡ None → IsQuiet 16383 rest
quiet_head rest none more all few =
    none_yet (rest ++ more) (ap head_end (take_all most_head (rest ++ more) (omega (arith, few))) ∙ none_more rest more none all) (omega (arith, few))

-- before the message's last byte
pub quiet_short : (rest : List ℕ) (wanted : ℕ) → 0 < wanted → IsShort wanted rest → IsQuiet (wanted - 1) rest
quiet_short rest wanted some short more all few = short more (omega (arith, few, some))

pub quiet_byte : (rest : List ℕ) (most b : ℕ) → IsQuiet most rest → b ≢ 10 → IsQuiet most (rest ++ b ∷ [])
quiet_byte rest most b still other more all few =
    let same = append_assoc rest (b ∷ []) more in
    ap asked same ∙ still (b ∷ more) (All-cons (λ x. x ≢ 10) b more other all) (subst (λ (l : List ℕ). length l ≤ most) same few)

pub quiet_now : (bytes : List ℕ) (to quiet : ℕ) → IsQuiet (quiet - to) (drop to bytes) → length bytes ≤ quiet → asked (drop to bytes) ≡ None
quiet_now bytes to quiet still few =
    let none = append-nil (drop to bytes) in
    ap asked (sym none) ∙ still [] (All-nil (λ x. x ≢ 10)) (omega (arith, few, length-drop to bytes, ap length none))
