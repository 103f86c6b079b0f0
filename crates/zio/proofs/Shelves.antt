-- The files of a shelf that have neither of two names, one after another.
use Rattle.std.proofs.Common.{◌≡◌, ◌<◌, ◌+◌, ◌++◌, ℕ, zero, suc, Bool, true, false, List, [], ◌∷◌, filter, get_or, length, set, take, nat_lt, None, Some, refl, sym, ap, subst, ◌∙◌, append-nil, arith}
use Rattle.std.specs.List.{position, position_or_len}
use Rattle.std.specs.Str.{bytes_eq}
use Rattle.std.proofs.lemmas.Bool.Decides.{nat_tests}
use Rattle.std.proofs.lemmas.List.{map-append, take_more}
use Rattle.std.proofs.lemmas.List.Elements.{All-push, filter-append}
use Rattle.std.proofs.lemmas.List.Sums.{fails_before_first, passes_at_first}
use Rattle.zio.specs.declared.memory_shelf.MemoryFile.{MemoryFile}
use Rattle.zio.specs.MemoryShelves.{HaveSoundDisks, NeverFails, entries, entry}
use Rattle.zio.specs.Shelves.{Entry, with_bytes}

-- those of one file more
one_more : (p : Entry → Bool) (files : List MemoryFile) (i : ℕ) (file : MemoryFile) → i < length files → get_or files i file ≡ file → filter p (entries (take (i + 1) files)) ≡ filter p (entries (take i files)) ++ filter p (entry file ∷ [])
one_more p files i file within is =
    ap (λ (xs : List MemoryFile). filter p (entries xs)) (take_more files i file within ∙ ap (λ (x : MemoryFile). take i files ++ x ∷ []) is)
    ∙ ap (filter p) (map-append entry (take i files) (file ∷ []))
    ∙ filter-append p (entries (take i files)) (entry file ∷ [])

pub copied_one : (p : Entry → Bool) (files others : List MemoryFile) (i : ℕ) (file copy : MemoryFile) → i < length files → get_or files i file ≡ file → p (entry file) ≡ true → entry copy ≡ entry file → entries others ≡ filter p (entries (take i files)) → entries (others ++ copy ∷ []) ≡ filter p (entries (take (i + 1) files))
copied_one p files others i file copy within is takes same kept =
    let last : entry copy ∷ [] ≡ filter p (entry file ∷ []) = rw (same, takes) refl in
    map-append entry others (copy ∷ []) ∙ ap (λ (xs : List Entry). xs ++ entry copy ∷ []) kept ∙ ap (λ (xs : List Entry). filter p (entries (take i files)) ++ xs) last ∙ sym (one_more p files i file within is)

pub passed_one : (p : Entry → Bool) (files others : List MemoryFile) (i : ℕ) (file : MemoryFile) → i < length files → get_or files i file ≡ file → p (entry file) ≡ false → entries others ≡ filter p (entries (take i files)) → entries others ≡ filter p (entries (take (i + 1) files))
passed_one p files others i file within is drops kept =
    let none : filter p (entry file ∷ []) ≡ [] = rw drops refl in
    kept ∙ sym (one_more p files i file within is ∙ ap (λ (xs : List Entry). filter p (entries (take i files)) ++ xs) none ∙ append-nil (filter p (entries (take i files))))

-- a copy fails as its file does
pub sound_one : (files others : List MemoryFile) (i : ℕ) (file copy : MemoryFile) → i < length files → get_or files i file ≡ file → copy.failing ≡ file.failing → HaveSoundDisks others → HaveSoundDisks files → HaveSoundDisks (others ++ copy ∷ [])
sound_one files others i file copy within is same sound all = All-push NeverFails others copy sound (same ∙ subst NeverFails is (all i file within))

-- a file more behind the others
pub one_behind : (files now : List MemoryFile) (file : MemoryFile) (others : List Entry) (last : Entry) → now ≡ files ++ file ∷ [] → entries files ≡ others → entry file ≡ last → Some (entries now) ≡ Some (others ++ last ∷ [])
one_behind files now file others last behind kept is =
    ap (λ (xs : List Entry). Some xs) (ap entries behind ∙ map-append entry files (file ∷ []) ∙ ap (λ (xs : List Entry). xs ++ entry file ∷ []) kept ∙ ap (λ (e : Entry). others ++ e ∷ []) is)

-- ---- the first file of a name

-- the same file with other bytes
abbrev rewritten : List ℕ → MemoryFile → MemoryFile
rewritten bytes file = record { name = file.name; bytes = bytes; failing = file.failing }

put_at : (name bytes : List ℕ) (files : List MemoryFile) (i : ℕ) (d : MemoryFile) → i < length files → bytes_eq (get_or files i d).name name ≡ true → ((k : ℕ) → k < i → bytes_eq (get_or files k d).name name ≡ false)
    → entries (set files i (rewritten bytes (get_or files i d))) ≡ with_bytes name bytes (entries files)
put_at name bytes [] i d within is before = absurd (omega (arith, within))
put_at name bytes (f ∷ fs) zero d within is before = rw is refl
put_at name bytes (f ∷ fs) (suc i) d within is before =
    rw (before 0 (omega arith)) (ap (λ (xs : List Entry). entry f ∷ xs) (put_at name bytes fs i d (omega (arith, within)) is (λ k lt. before (suc k) (omega (arith, lt)))))

put_none : (name bytes : List ℕ) (files : List MemoryFile) (d : MemoryFile) → ((k : ℕ) → k < length files → bytes_eq (get_or files k d).name name ≡ false) → entries files ≡ with_bytes name bytes (entries files)
put_none name bytes [] d none = refl
put_none name bytes (f ∷ fs) d none = rw (none 0 (omega arith)) (ap (λ (xs : List Entry). entry f ∷ xs) (put_none name bytes fs d (λ k lt. none (suc k) (omega (arith, lt)))))

abbrev is_named : List ℕ → MemoryFile → Bool
is_named name file = bytes_eq file.name name

-- where it is found, its bytes are the new ones
pub put_first : (files : List MemoryFile) (name bytes now : List ℕ) (place : ℕ) (file : MemoryFile) → position (is_named name) files ≡ Some place → get_or files place file ≡ file → bytes ≡ now
    → Some (entries (set files place (rewritten bytes file))) ≡ Some (with_bytes name now (entries files))
put_first files name bytes now place file found is same = go (nat_lt (position_or_len (is_named name) files) (length files)) refl
  where
    first : ℕ
    first = position_or_len (is_named name) files

    go : (b : Bool) → nat_lt (position_or_len (is_named name) files) (length files) ≡ b → Some (entries (set files place (rewritten bytes file))) ≡ Some (with_bytes name now (entries files))
    go false e = absurd (let at : None ≡ Some place = rw e at found in cc)
    go true e =
        let at : Some first ≡ Some place = rw e at found in
        let here : first ≡ place = cc in
        let within : first < length files = grind (arith, nat_tests, e) in
        let put = put_at name bytes files first file within (passes_at_first (is_named name) files file within) (λ k lt. fails_before_first (is_named name) files k file lt) in
        ap (λ (xs : List Entry). Some xs) (
        sym (ap (λ (n : ℕ). entries (set files n (rewritten bytes (get_or files n file)))) here ∙ ap (λ (f : MemoryFile). entries (set files place (rewritten bytes f))) is)
        ∙ put ∙ ap (λ (xs : List ℕ). with_bytes name xs (entries files)) same
        )

-- where it isn't there, nothing changes
pub put_nowhere : (files : List MemoryFile) (name now : List ℕ) → position (is_named name) files ≡ None → Some (entries files) ≡ Some (with_bytes name now (entries files))
put_nowhere [] name now found = refl
put_nowhere (d ∷ ds) name now found = go (nat_lt (position_or_len (is_named name) (d ∷ ds)) (length (d ∷ ds))) refl
  where
    files : List MemoryFile
    files = d ∷ ds

    go : (b : Bool) → nat_lt (position_or_len (is_named name) files) (length files) ≡ b → Some (entries files) ≡ Some (with_bytes name now (entries files))
    go true e = absurd (let at : Some (position_or_len (is_named name) files) ≡ None = rw e at found in cc)
    go false e = ap (λ (xs : List Entry). Some xs) (put_none name now files d (λ k lt. fails_before_first (is_named name) files k d (grind (arith, nat_tests, e, lt))))
