-- A text whose spaces are cut off at one end, one at a time.
use lib.Utf8.{encode}
use Rattle.std.proofs.Common.{◌≡◌, ◌∙◌, ◌≢◌, ℕ, ◌==◌, ◌-◌, Bool, true, false, List, [], ◌∷◌, ◌++◌, length, take, drop, if◌then◌else◌, reverse, refl, ap, sym, arith, Some, None}
use Rattle.std.proofs.lemmas.Bool.{eqb-true}
use Rattle.std.proofs.lemmas.List.{reverse-append, reverse-reverse, take-append-drop, drop_all}
use Rattle.std.proofs.lemmas.Str.Pattern.{drop_at_char}
use Rattle.std.specs.Str.Pattern.{CutsPrefixes, CutsSuffixes, FindsCharPrefix, FindsCharSuffix, IsFullyTrimmed, IsTrimStartMatches, IsTrimEndMatches}
use Rattle.form_fields.specs.Cookies.{behind_spaces, before_spaces}

-- a text that doesn't begin with a space stays
stays : (r : List ℕ) → ((rest : List ℕ) → r ≢ 32 ∷ rest) → behind_spaces r ≡ r
stays [] other = refl
stays (b ∷ r) other = go (b == 32) refl
  where
    go : (t : Bool) → (b == 32) ≡ t → (if t then behind_spaces r else b ∷ r) ≡ b ∷ r
    go true is = absurd (other r (ap (λ c. c ∷ r) (eqb-true b 32 is)))
    go false is = refl

-- ---- at the front

cuts_front : (s ns r : List ℕ) → CutsPrefixes (FindsCharPrefix 32) s ns r → behind_spaces s ≡ behind_spaces r
cuts_front s [] r is = ap behind_spaces (sym is)
cuts_front s (n ∷ ns) r (m, cuts, at, is) = cuts_front s ns m cuts ∙ ap behind_spaces (drop_at_char 32 m 0 n at (omega arith)) ∙ ap behind_spaces (sym is)

front_done : (r : List ℕ) → IsFullyTrimmed (FindsCharPrefix 32) r → (rest : List ℕ) → r ≢ 32 ∷ rest
unfolding encode
front_done r (None, lacks, zero) = lacks
front_done r (Some n, at, zero) = λ rest e. omega (arith, at.ends, zero)

pub front_trimmed : (s r : List ℕ) → IsTrimStartMatches (FindsCharPrefix 32) s r → r ≡ behind_spaces s
front_trimmed s r ((ns, cuts), done) = sym (cuts_front s ns r cuts ∙ stays r (front_done r done))

-- ---- at the end

end_is : (m : List ℕ) (n : ℕ) (r : List ℕ) → drop (length m - n) m ≡ 32 ∷ drop (length m) m → r ≡ take (length m - n) m → m ≡ r ++ 32 ∷ []
end_is m n r at is = sym (take-append-drop (length m - n) m) ∙ rw (sym is, at, drop_all (length m) m (omega arith)) refl

before_one : (r : List ℕ) → before_spaces (r ++ 32 ∷ []) ≡ before_spaces r
before_one r = ap (λ t. reverse (behind_spaces t)) (reverse-append r (32 ∷ []))

cuts_end : (s ns r : List ℕ) → CutsSuffixes (FindsCharSuffix 32) s ns r → before_spaces s ≡ before_spaces r
cuts_end s [] r is = ap before_spaces (sym is)
cuts_end s (n ∷ ns) r (m, cuts, at, is) = cuts_end s ns m cuts ∙ ap before_spaces (end_is m n r (drop_at_char 32 m (length m - n) (length m) at.1 (omega arith)) is) ∙ before_one r

end_done : (r : List ℕ) → IsFullyTrimmed (FindsCharSuffix 32) r → (front : List ℕ) → r ≢ front ++ 32 ∷ []
unfolding encode
end_done r (None, lacks, zero) = lacks
end_done r (Some n, at, zero) = λ front e. omega (arith, at.0, zero)

pub end_trimmed : (s r : List ℕ) → IsTrimEndMatches (FindsCharSuffix 32) s r → r ≡ before_spaces s
end_trimmed s r ((ns, cuts), done) = sym (cuts_end s ns r cuts ∙ ap reverse (stays (reverse r) other) ∙ reverse-reverse r)
  where
    other : (rest : List ℕ) → reverse r ≢ 32 ∷ rest
    other rest e = end_done r done (reverse rest) (sym (reverse-reverse r) ∙ ap reverse e ∙ reverse-append (32 ∷ []) rest)
