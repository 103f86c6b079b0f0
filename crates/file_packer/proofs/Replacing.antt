-- What stands under each name once a file was replaced.
use Rattle.std.proofs.Common.{◌≡◌, ◌++◌, ◌∙◌, ℕ, Bool, true, false, filter, List, [], ◌∷◌, Option, None, Some, refl, sym, ap, subst}
use Rattle.std.specs.Prelude.{if◌then◌else◌}
use Rattle.std.specs.Str.{bytes_eq}
use Rattle.std.proofs.lemmas.Slice.Eq.{bytes_eq-Decides}
use Rattle.zio.specs.Shelves.{Entry, Replaces, file_at, is_other}
use Rattle.file_packer.specs.Packing.{Turned}

-- the file of that name has these bytes, and all else is as it was
abbrev pub Puts : List ℕ → List ℕ → List Entry → List Entry → Type 0
Puts name bytes all now = (other : List ℕ) → file_at now other ≡ (if bytes_eq name other then Some bytes else file_at all other)

-- ---- one name

or_else : Option (List ℕ) → Option (List ℕ) → Option (List ℕ)
or_else None b = b
or_else (Some a) b = Some a

or_none : (o : Option (List ℕ)) → or_else o None ≡ o
unfolding or_else
or_none None = refl
or_none (Some a) = refl

one_at : Entry → List ℕ → Option (List ℕ)
one_at x other = if bytes_eq x.0 other then Some x.1 else None

-- the last file of a list is found where none before it has its name
at_end : (all : List Entry) (x : Entry) (other : List ℕ) → file_at (all ++ x ∷ []) other ≡ or_else (file_at all other) (one_at x other)
unfolding or_else one_at
at_end [] x other = refl
at_end (f ∷ fs) x other = go (bytes_eq f.0 other) refl (at_end fs x other)
  where
    go : (b : Bool) → bytes_eq f.0 other ≡ b → file_at (fs ++ x ∷ []) other ≡ or_else (file_at fs other) (one_at x other) → file_at ((f ∷ fs) ++ x ∷ []) other ≡ or_else (file_at (f ∷ fs) other) (one_at x other)
    go true e rest = rw e refl
    go false e rest = rw e rest

same_name : (a b : List ℕ) → bytes_eq a b ≡ true → a ≡ b
same_name a b e = (bytes_eq-Decides a b).0 e

its_name : (a : List ℕ) → bytes_eq a a ≡ true
its_name a = (bytes_eq-Decides a a).1 refl

one_here : (name bytes : List ℕ) → one_at (name, bytes) name ≡ Some bytes
unfolding one_at
one_here name bytes = rw (its_name name) refl

one_other : (name bytes other : List ℕ) → bytes_eq name other ≡ false → one_at (name, bytes) other ≡ None
unfolding one_at
one_other name bytes other e = rw e refl

or_first : (o b : Option (List ℕ)) → o ≡ None → or_else o b ≡ b
unfolding or_else
or_first None b e = refl
or_first (Some a) b e = absurd cc

-- a file more, under a name that had none
pub more_here : (all : List Entry) (name bytes : List ℕ) → file_at all name ≡ None → file_at (all ++ (name, bytes) ∷ []) name ≡ Some bytes
more_here all name bytes free = at_end all (name, bytes) name ∙ or_first (file_at all name) (one_at (name, bytes) name) free ∙ one_here name bytes

pub more_other : (all : List Entry) (name bytes other : List ℕ) → bytes_eq name other ≡ false → file_at (all ++ (name, bytes) ∷ []) other ≡ file_at all other
more_other all name bytes other e = at_end all (name, bytes) other ∙ ap (or_else (file_at all other)) (one_other name bytes other e) ∙ or_none (file_at all other)

-- ---- a file in another one's place

-- files of neither name
left_at : (all : List Entry) (new main other : List ℕ) → bytes_eq main other ≡ false → bytes_eq new other ≡ false → file_at (filter (is_other new main) all) other ≡ file_at all other
left_at [] new main other main_not new_not = refl
left_at (f ∷ fs) new main other main_not new_not = go (bytes_eq f.0 new) refl (bytes_eq f.0 main) refl (bytes_eq f.0 other) refl (left_at fs new main other main_not new_not)
  where
    go : (a : Bool) → bytes_eq f.0 new ≡ a → (b : Bool) → bytes_eq f.0 main ≡ b → (d : Bool) → bytes_eq f.0 other ≡ d → file_at (filter (is_other new main) fs) other ≡ file_at fs other → file_at (filter (is_other new main) (f ∷ fs)) other ≡ file_at (f ∷ fs) other
    go true p b q true r rest = absurd (let both : bytes_eq new other ≡ true = subst (λ (n : List ℕ). bytes_eq n other ≡ true) (same_name f.0 new p) r in cc)
    go true p b q false r rest = rw (p, r) rest
    go false p true q true r rest = absurd (let both : bytes_eq main other ≡ true = subst (λ (n : List ℕ). bytes_eq n other ≡ true) (same_name f.0 main q) r in cc)
    go false p true q false r rest = rw (p, q, r) rest
    go false p false q true r rest = rw (p, q, r) refl
    go false p false q false r rest = rw (p, q, r) rest

none_left : (all : List Entry) (new main : List ℕ) → file_at (filter (is_other new main) all) main ≡ None
none_left [] new main = refl
none_left (f ∷ fs) new main = go (bytes_eq f.0 new) refl (bytes_eq f.0 main) refl (none_left fs new main)
  where
    go : (a : Bool) → bytes_eq f.0 new ≡ a → (b : Bool) → bytes_eq f.0 main ≡ b → file_at (filter (is_other new main) fs) main ≡ None → file_at (filter (is_other new main) (f ∷ fs)) main ≡ None
    go true p b q rest = rw p rest
    go false p true q rest = rw (p, q) rest
    go false p false q rest = rw (p, q) (rw q rest)

no_new_left : (all : List Entry) (new main : List ℕ) → file_at (filter (is_other new main) all) new ≡ None
no_new_left [] new main = refl
no_new_left (f ∷ fs) new main = go (bytes_eq f.0 new) refl (bytes_eq f.0 main) refl (no_new_left fs new main)
  where
    go : (a : Bool) → bytes_eq f.0 new ≡ a → (b : Bool) → bytes_eq f.0 main ≡ b → file_at (filter (is_other new main) fs) new ≡ None → file_at (filter (is_other new main) (f ∷ fs)) new ≡ None
    go true p b q rest = rw p rest
    go false p true q rest = rw (p, q) rest
    go false p false q rest = rw (p, q) (rw p rest)

-- a new file takes the place of another one, or of none: all else is as it was before it was made
pub puts_over : (all : List Entry) (new main bytes : List ℕ) → file_at all new ≡ None → Puts main bytes all (filter (is_other new main) (all ++ (new, bytes) ∷ []) ++ (main, bytes) ∷ [])
puts_over all new main bytes free other = go (bytes_eq main other) refl (bytes_eq new other) refl
  where
    mid : List Entry
    mid = all ++ (new, bytes) ∷ []

    kept : List Entry
    kept = filter (is_other new main) (all ++ (new, bytes) ∷ [])

    go : (a : Bool) → bytes_eq main other ≡ a → (b : Bool) → bytes_eq new other ≡ b → file_at (filter (is_other new main) (all ++ (new, bytes) ∷ []) ++ (main, bytes) ∷ []) other ≡ (if bytes_eq main other then Some bytes else file_at all other)
    go true p b q = rw p (subst (λ (n : List ℕ). file_at (filter (is_other new main) (all ++ (new, bytes) ∷ []) ++ (main, bytes) ∷ []) n ≡ Some bytes) (same_name main other p)
        (more_here (filter (is_other new main) (all ++ (new, bytes) ∷ [])) main bytes (none_left (all ++ (new, bytes) ∷ []) new main)))
    go false p true q = rw p (more_other (filter (is_other new main) (all ++ (new, bytes) ∷ [])) main bytes other p
        ∙ subst (λ (n : List ℕ). file_at (filter (is_other new main) (all ++ (new, bytes) ∷ [])) n ≡ None) (same_name new other q) (no_new_left (all ++ (new, bytes) ∷ []) new main)
        ∙ sym (subst (λ (n : List ℕ). file_at all n ≡ None) (same_name new other q) free))
    go false p false q = rw p (more_other (filter (is_other new main) (all ++ (new, bytes) ∷ [])) main bytes other p
        ∙ left_at (all ++ (new, bytes) ∷ []) new main other p q ∙ more_other all new bytes other q)

some_bytes : (a b : List ℕ) → Some a ≡ Some b → a ≡ b
some_bytes a b e = cc

-- the same, as a shelf tells it
pub replaced : (all mid : List Entry) (new main bytes : List ℕ) (now : Option (List Entry)) → file_at all new ≡ None → mid ≡ all ++ (new, bytes) ∷ [] → Replaces (Some mid) new main now → Turned (Some all) now (Puts main bytes)
replaced all mid new main bytes now free is took =
    let Is : List Entry → Type 0 = λ m. Replaces (Some m) new main now in
    let it : Replaces (Some (all ++ (new, bytes) ∷ [])) new main now = subst Is is took in
    let same : it.0 ≡ bytes = some_bytes it.0 bytes (sym it.1 ∙ more_here all new bytes free) in (
      filter (is_other new main) (all ++ (new, bytes) ∷ []) ++ (main, bytes) ∷ [],
      subst (λ (b : List ℕ). now ≡ Some (filter (is_other new main) (all ++ (new, bytes) ∷ []) ++ (main, b) ∷ [])) same it.2,
      puts_over all new main bytes free,
    )
