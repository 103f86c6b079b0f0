-- The records of a settled change, by rising id: the newest of an object.
use Rattle.std.proofs.Common.{ℕ, ◌≡◌, ◌∙◌, ◌==◌, ◌||◌, ◌++◌, ◌∷◌, [], refl, sym, ap, Bool, true, false, cond, List, map, Option, Some, None, nat_lt, eqb-true, eq-eqb}
use Rattle.std.specs.List.{AllByRecursion}
use Rattle.zbase.specs.History.{Value, History}
use Rattle.zbase.specs.Values.{Revision, later, newest, upto, value}
use Rattle.evaluator.specs.declared.fact.Part.{Part}
use Rattle.evaluator.specs.Settle.{by_oid, placed, record_of}
use Rattle.fs_undo.specs.declared.planning.Restore.{Restore}
use Rattle.fs_undo.specs.Undo.{entries_behind, entry_of, is_among, restore_of}
use Rattle.fs_undo.specs.Undone.{has_part}
use Rattle.fs_undo.proofs.Serials.{revision}

later_right : (a b : Option Revision) → later a b ≡ None → b ≡ None
later_right a None e = refl
later_right a (Some r) e = absurd (let bad = e in cc)

none_first : (r : Option Revision) → later None r ≡ r
none_first None = refl
none_first (Some r) = refl

abbrev pub newest_of : ℕ → List (ℕ × Value) → ℕ → Option Revision
newest_of t rs o = newest (map (revision t) rs) o

abbrev pub first_of : ℕ → List (ℕ × Value) → ℕ → Option Revision
first_of t [] o = None
first_of t (r ∷ rs) o = cond (r.0 == o) (Some (revision t r)) (first_of t rs o)

-- no two are of one object
abbrev pub Apart : ℕ → List (ℕ × Value) → Type 0
Apart t [] = Unit {0}
Apart t (r ∷ rs) = (first_of t rs r.0 ≡ None) × Apart t rs

placed_newest : (t : ℕ) (r : ℕ × Value) (ss : List (ℕ × Value)) (o : ℕ) → newest_of t ss r.0 ≡ None → newest_of t (placed r ss) o ≡ cond (r.0 == o) (Some (revision t r)) (newest_of t ss o)
placed_newest t r [] o none = refl
placed_newest t r (q ∷ ss) o none = at (nat_lt r.0 q.0) (placed_newest t r ss o (later_right (cond (q.0 == r.0) (Some (revision t q)) None) (newest_of t ss r.0) none))
  where
    in_front : (b : Bool) → (r.0 == o) ≡ b → later (cond b (Some (revision t r)) None) (newest_of t (q ∷ ss) o) ≡ cond b (Some (revision t r)) (newest_of t (q ∷ ss) o)
    in_front true is = (let same : r.0 ≡ o = eqb-true r.0 o is in ap (later (Some (revision t r))) (ap (newest_of t (q ∷ ss)) (sym same) ∙ none))
    in_front false is = none_first (newest_of t (q ∷ ss) o)

    behind : (b : Bool) (a n : Option Revision) → later a (cond b (Some (revision t r)) n) ≡ cond b (Some (revision t r)) (later a n)
    behind true a n = refl
    behind false a n = refl

    at : (b : Bool) → newest_of t (placed r ss) o ≡ cond (r.0 == o) (Some (revision t r)) (newest_of t ss o) → newest_of t (cond b (r ∷ q ∷ ss) (q ∷ placed r ss)) o ≡ cond (r.0 == o) (Some (revision t r)) (newest_of t (q ∷ ss) o)
    at true deeper = in_front (r.0 == o) refl
    at false deeper = ap (later (cond (q.0 == o) (Some (revision t q)) None)) deeper ∙ behind (r.0 == o) (cond (q.0 == o) (Some (revision t q)) None) (newest_of t ss o)

pub sorted_newest : (t : ℕ) (rs : List (ℕ × Value)) (o : ℕ) → Apart t rs → newest_of t (by_oid rs) o ≡ first_of t rs o
sorted_newest t [] o apart = refl
sorted_newest t (r ∷ rs) o apart = placed_newest t r (by_oid rs) o (sorted_newest t rs r.0 apart.1 ∙ apart.0) ∙ ap (cond (r.0 == o) (Some (revision t r))) (sorted_newest t rs o apart.1)

-- ---- the restores of parts

among_behind : (o : ℕ) (earlier : List Restore) (r : Restore) → is_among o (earlier ++ r ∷ []) ≡ (is_among o earlier || (r.oid == o))
among_behind o [] r = or_false (r.oid == o)
  where
    or_false : (b : Bool) → (b || false) ≡ b
    or_false true = refl
    or_false false = refl
among_behind o (q ∷ qs) r = at (q.oid == o) (among_behind o qs r)
  where
    at : (b : Bool) → is_among o (qs ++ r ∷ []) ≡ (is_among o qs || (r.oid == o)) → (b || is_among o (qs ++ r ∷ [])) ≡ ((b || is_among o qs) || (r.oid == o))
    at true deeper = refl
    at false deeper = deeper

module _ (h : History) (s : ℕ) (back : ℕ → Value) where
  -- each part's object goes back to this value
  abbrev pub GoesBack : Part → Type 0
  GoesBack p = value (upto h p.before_serial) p.oid ≡ back p.oid

  abbrev restored : List Restore → List Part → List (ℕ × Value)
  restored earlier ps = map (record_of h) (entries_behind earlier (map restore_of ps))

  abbrev put : Bool → Bool → ℕ → Option Revision
  put before has o = cond before None (cond has (Some (revision s (o, back o))) None)

  nothing : (b : Bool) (o : ℕ) → None ≡ put b false o
  nothing true o = refl
  nothing false o = refl

  pub first_restored : (earlier : List Restore) (ps : List Part) (o : ℕ) → AllByRecursion GoesBack ps → first_of s (restored earlier ps) o ≡ put (is_among o earlier) (has_part o ps) o
  first_restored earlier [] o all = nothing (is_among o earlier) o
  first_restored earlier (p ∷ ps) o all = at (is_among p.oid earlier) refl (p.oid == o) refl (first_restored (earlier ++ restore_of p ∷ []) ps o all.1 ∙ ap (λ b. put b (has_part o ps) o) (among_behind o earlier (restore_of p)))
    where
      more : Option Revision
      more = first_of s (restored (earlier ++ restore_of p ∷ []) ps) o

      or_false : (b : Bool) → (b || false) ≡ b
      or_false true = refl
      or_false false = refl

      at : (b : Bool) → is_among p.oid earlier ≡ b → (c : Bool) → (p.oid == o) ≡ c → more ≡ put (is_among o earlier || (p.oid == o)) (has_part o ps) o
          → first_of s (map (record_of h) (entry_of b (restore_of p) ++ entries_behind (earlier ++ restore_of p ∷ []) (map restore_of ps))) o ≡ put (is_among o earlier) (c || has_part o ps) o
      at true is true same deeper =
          let own : is_among o earlier ≡ true = ap (λ n. is_among n earlier) (sym (eqb-true p.oid o same)) ∙ is in
          deeper ∙ ap (λ b. put (b || (p.oid == o)) (has_part o ps) o) own ∙ sym (ap (λ b. put b true o) own)
      at true is false same deeper = deeper ∙ ap (λ c. put (is_among o earlier || c) (has_part o ps) o) same ∙ ap (λ b. put b (has_part o ps) o) (or_false (is_among o earlier))
      at false is true same deeper =
          let e : p.oid ≡ o = eqb-true p.oid o same in
          let none : is_among o earlier ≡ false = ap (λ n. is_among n earlier) (sym e) ∙ is in
          ap (λ b. cond b (Some (revision s (p.oid, value (upto h p.before_serial) p.oid))) more) same
          ∙ ap (λ v. Some (revision s (p.oid, v))) all.0 ∙ ap (λ n. Some (revision s (n, back n))) e ∙ sym (ap (λ b. put b true o) none)
      at false is false same deeper =
          ap (λ b. cond b (Some (revision s (p.oid, value (upto h p.before_serial) p.oid))) more) same
          ∙ deeper ∙ ap (λ c. put (is_among o earlier || c) (has_part o ps) o) same ∙ ap (λ b. put b (has_part o ps) o) (or_false (is_among o earlier))

  among_it : (earlier : List Restore) (p : Part) → is_among p.oid (earlier ++ restore_of p ∷ []) ≡ true
  among_it earlier p = among_behind p.oid earlier (restore_of p) ∙ ap (λ b. is_among p.oid earlier || b) (eq-eqb p.oid p.oid refl) ∙ or_true (is_among p.oid earlier)
    where
      or_true : (b : Bool) → (b || true) ≡ true
      or_true true = refl
      or_true false = refl

  pub restored_apart : (earlier : List Restore) (ps : List Part) → AllByRecursion GoesBack ps → Apart s (restored earlier ps)
  restored_apart earlier [] all = tt
  restored_apart earlier (p ∷ ps) all = at (is_among p.oid earlier) (restored_apart (earlier ++ restore_of p ∷ []) ps all.1)
    where
      at : (b : Bool) → Apart s (restored (earlier ++ restore_of p ∷ []) ps) → Apart s (map (record_of h) (entry_of b (restore_of p) ++ entries_behind (earlier ++ restore_of p ∷ []) (map restore_of ps)))
      at true deeper = deeper
      at false deeper = (first_restored (earlier ++ restore_of p ∷ []) ps p.oid all.1 ∙ ap (λ b. put b (has_part p.oid ps) p.oid) (among_it earlier p), deeper)
