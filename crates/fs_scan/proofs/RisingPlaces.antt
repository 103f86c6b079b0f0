-- Records whose places rise, and how they go on.
use Rattle.std.proofs.Common.{◌≡◌, ℕ, ◌+◌, ◌<◌, ◌≤◌, List, [], ◌∷◌, ◌++◌, arith}
use Rattle.std.specs.List.{All, AllByRecursion}
use Rattle.std.proofs.lemmas.List.Elements.{All-from_recursion}
use Rattle.zbase.specs.declared.ids.Row.{Row}
use Rattle.fs_scan.specs.Keeping.{PlacesRise, PlacesWithin, starts}
use Rattle.fs_scan.specs.Rising.{RiseWithin}

pub rise_within : (n end : ℕ) (ps : List ℕ) → PlacesWithin n end ps → PlacesRise n ps
rise_within n end [] h = tt
rise_within n end (p ∷ ps) h = (h.0, rise_within (p + 1) end ps h.1)

-- places, and records behind them
pub rise_on : (n mid end : ℕ) (ps : List ℕ) (rows : List Row) → PlacesWithin n mid ps → RiseWithin mid end rows → PlacesWithin n end (ps ++ starts rows)
rise_on n mid end [] rows h k = lower n mid end rows h k
  where
    lower : (n mid end : ℕ) (rows : List Row) → n ≤ mid → RiseWithin mid end rows → PlacesWithin n end (starts rows)
    lower n mid end [] le k = omega (arith, k)
    lower n mid end (row ∷ rows) le k = (omega (arith, k.0), all (row.place + 1) end rows k.1)
      where
        all : (n end : ℕ) (rows : List Row) → RiseWithin n end rows → PlacesWithin n end (starts rows)
        all n end [] k = k
        all n end (row ∷ rows) k = (k.0, all (row.place + 1) end rows k.1)
rise_on n mid end (p ∷ ps) rows h k = (h.0, rise_on (p + 1) mid end ps rows h.1 k)

pub further : (n mid end : ℕ) (ps : List ℕ) → PlacesWithin n mid ps → mid ≤ end → PlacesWithin n end ps
further n mid end [] h le = omega (arith, h)
further n mid end (p ∷ ps) h le = (h.0, further (p + 1) mid end ps h.1 le)

-- one record more behind others
pub one_rises : (n at end : ℕ) (rows : List Row) (row : Row) → RiseWithin n at rows → row.place ≡ at → at < end → RiseWithin n end (rows ++ row ∷ [])
one_rises n at end [] row h is lt = (omega (arith, h, is), omega (arith, is, lt))
one_rises n at end (r ∷ rows) row h is lt = (h.0, one_rises (r.place + 1) at end rows row h.1 is lt)

pub wider : (n mid end : ℕ) (rows : List Row) → RiseWithin n mid rows → mid ≤ end → RiseWithin n end rows
wider n mid end [] h le = omega (arith, h)
wider n mid end (row ∷ rows) h le = (h.0, wider (row.place + 1) mid end rows h.1 le)

pub none_rise : (n : ℕ) → RiseWithin n n []
none_rise n = omega arith

-- records that begin behind the file's start
pub placed : (n end : ℕ) (rows : List Row) → 0 < n → RiseWithin n end rows → All (λ (row : Row). 0 < row.place) rows
placed n end rows some h = All-from_recursion (λ (row : Row). 0 < row.place) rows (each n end rows some h)
  where
    each : (n end : ℕ) (rows : List Row) → 0 < n → RiseWithin n end rows → AllByRecursion (λ (row : Row). 0 < row.place) rows
    each n end [] some h = tt
    each n end (row ∷ rows) some h = (omega (arith, h.0), each (row.place + 1) end rows (omega arith) h.1)
