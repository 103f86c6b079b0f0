-- What a shelf tells once the disks of a site and of its tape were given back.
use Rattle.std.proofs.Common.{◌≡◌, ◌⊎◌, ◌++◌, ◌∙◌, ℕ, Bool, true, false, List, [], ◌∷◌, Option, None, Some, Result, Ok, Err, IfSome, inl, inr, refl, sym, ap, subst}
use Rattle.std.specs.Prelude.{OnErr, OnOk}
use Rattle.std.specs.Option.{option_map}
use Rattle.std.specs.Str.{bytes_eq}
use Rattle.std.proofs.lemmas.Slice.Eq.{bytes_eq-Decides}
use Rattle.zdisk.specs.Disk.{Told, content, synced}
use Rattle.zio.specs.Shelves.{Entry, TakesBack, file_at, with_bytes}
use Rattle.file_server.specs.Shelved.{Holds, KeepsBeside, TakesBoth, TakesOne}

-- ---- files by their names

put_same : (name bytes : List ℕ) (all : List Entry) → file_at all name ≡ Some bytes → with_bytes name bytes all ≡ all
put_same name bytes [] is = refl
put_same name bytes (f ∷ fs) is = go (bytes_eq f.0 name) refl (put_same name bytes fs)
  where
    go : (b : Bool) → bytes_eq f.0 name ≡ b → (file_at fs name ≡ Some bytes → with_bytes name bytes fs ≡ fs) → with_bytes name bytes (f ∷ fs) ≡ f ∷ fs
    go true e rest =
        let at : Some f.1 ≡ Some bytes = rw e at is in
        let same : f.1 ≡ bytes = cc in
        rw e (ap (λ (b : List ℕ). (f.0, b) ∷ fs) (sym same))
    go false e rest = let at : file_at fs name ≡ Some bytes = rw e at is in rw e (ap (λ (xs : List Entry). f ∷ xs) (rest at))

put_new : (name bytes before : List ℕ) (all : List Entry) → file_at all name ≡ None → with_bytes name bytes (all ++ (name, before) ∷ []) ≡ all ++ (name, bytes) ∷ []
put_new name bytes before [] none = rw ((bytes_eq-Decides name name).1 refl) refl
put_new name bytes before (f ∷ fs) none = go (bytes_eq f.0 name) refl (put_new name bytes before fs)
  where
    go : (b : Bool) → bytes_eq f.0 name ≡ b → (file_at fs name ≡ None → with_bytes name bytes (fs ++ (name, before) ∷ []) ≡ fs ++ (name, bytes) ∷ []) → with_bytes name bytes ((f ∷ fs) ++ (name, before) ∷ []) ≡ (f ∷ fs) ++ (name, bytes) ∷ []
    go true e rest = absurd (let at : Some f.1 ≡ None = rw e at none in cc)
    go false e rest = let at : file_at fs name ≡ None = rw e at none in rw e (ap (λ (xs : List Entry). f ∷ xs) (rest at))

-- a file that is there is the first of its name, whatever stands behind
put_first : (name bytes was : List ℕ) (all rest : List Entry) → file_at all name ≡ Some was → with_bytes name bytes (all ++ rest) ≡ with_bytes name bytes all ++ rest
put_first name bytes was [] rest is = absurd cc
put_first name bytes was (f ∷ fs) rest is = go (bytes_eq f.0 name) refl (put_first name bytes was fs rest)
  where
    go : (b : Bool) → bytes_eq f.0 name ≡ b → (file_at fs name ≡ Some was → with_bytes name bytes (fs ++ rest) ≡ with_bytes name bytes fs ++ rest) → with_bytes name bytes ((f ∷ fs) ++ rest) ≡ with_bytes name bytes (f ∷ fs) ++ rest
    go true e more = rw e refl
    go false e more = let at : file_at fs name ≡ Some was = rw e at is in rw e (ap (λ (xs : List Entry). f ∷ xs) (more at))

-- a file that isn't there isn't there once another's bytes are changed
still_none : (name bytes other : List ℕ) (all : List Entry) → file_at all other ≡ None → file_at (with_bytes name bytes all) other ≡ None
still_none name bytes other [] none = refl
still_none name bytes other (f ∷ fs) none = go (bytes_eq f.0 other) refl (bytes_eq f.0 name) refl (still_none name bytes other fs)
  where
    go : (b : Bool) → bytes_eq f.0 other ≡ b → (d : Bool) → bytes_eq f.0 name ≡ d → (file_at fs other ≡ None → file_at (with_bytes name bytes fs) other ≡ None) → file_at (with_bytes name bytes (f ∷ fs)) other ≡ None
    go true e d k rest = absurd (let at : Some f.1 ≡ None = rw e at none in cc)
    go false e true k rest = let at : file_at fs other ≡ None = rw e at none in rw (k, e) at
    go false e false k rest = let at : file_at fs other ≡ None = rw e at none in rw (k, e) (rest at)

-- ---- disks that are given back

-- the shelf once the tape was made
abbrev pub Made : List Entry → List ℕ → Option (List Entry) → Type 0
Made entries record_ mid = mid ≡ Some (entries ++ (record_, []) ∷ [])

site_back : (entries : List Entry) (mid between : Option (List Entry)) (file record_ bytes : List ℕ) (disk : Told) → file_at entries file ≡ Some bytes → Made entries record_ mid → TakesBack mid file (Some disk) between → between ≡ Some (with_bytes file (content disk) entries ++ (record_, []) ∷ [])
site_back entries mid between file record_ bytes disk there made back =
    let put : between ≡ Some (with_bytes file (content disk) (entries ++ (record_, []) ∷ [])) = subst (λ (fs : Option (List Entry)). TakesBack fs file (Some disk) between) made back in
    put ∙ ap (λ (xs : List Entry). Some xs) (put_first file (content disk) bytes entries ((record_, []) ∷ []) there)

tape_back : (entries : List Entry) (between now : Option (List Entry)) (record_ : List ℕ) (tape : Told) → file_at entries record_ ≡ None → between ≡ Some (entries ++ (record_, []) ∷ []) → TakesBack between record_ (Some tape) now → now ≡ Some (entries ++ (record_, content tape) ∷ [])
tape_back entries between now record_ tape none made back =
    let put : now ≡ Some (with_bytes record_ (content tape) (entries ++ (record_, []) ∷ [])) = subst (λ (fs : Option (List Entry)). TakesBack fs record_ (Some tape) now) made back in
    put ∙ ap (λ (xs : List Entry). Some xs) (put_new record_ (content tape) [] entries none)

pub both_back : (entries : List Entry) (mid now : Option (List Entry)) (file record_ bytes : List ℕ) (disk tape : Told) → file_at entries file ≡ Some bytes → file_at entries record_ ≡ None → Made entries record_ mid → TakesBoth file record_ mid (Some disk) (Some tape) now → KeepsBeside entries file (content disk) record_ (content tape) now
both_back entries mid now file record_ bytes disk tape there none made both = (
  none,
  tape_back (with_bytes file (content disk) entries) both.0 now record_ tape (still_none file (content disk) record_ entries none) (site_back entries mid both.0 file record_ bytes disk there made both.1) both.2,
)

as_it_was : (entries : List Entry) (now : Option (List Entry)) (file record_ bytes tape : List ℕ) → file_at entries file ≡ Some bytes → file_at entries record_ ≡ None → now ≡ Some (entries ++ (record_, tape) ∷ []) → KeepsBeside entries file bytes record_ tape now
as_it_was entries now file record_ bytes tape there none is = (none, is ∙ ap (λ (xs : List Entry). Some (xs ++ (record_, tape) ∷ [])) (sym (put_same file bytes entries there)))

-- one of them at most is told: the site's file, the tape, or neither
abbrev pub TellsOne : List Entry → (file record_ bytes held text : List ℕ) → Option (List Entry) → Type 0
TellsOne entries file record_ bytes held text now =
    (left : List ℕ) × (tape : List ℕ) × (((left ≡ held) × (tape ≡ [])) ⊎ ((left ≡ bytes) × ((tape ≡ text) ⊎ (tape ≡ [])))) × KeepsBeside entries file left record_ tape now

pub one_back : (entries : List Entry) (mid now : Option (List Entry)) (file record_ bytes : List ℕ) (disk tape : Told) → file_at entries file ≡ Some bytes → file_at entries record_ ≡ None → Made entries record_ mid → TakesOne file record_ mid (Some disk) (Some tape) now → TellsOne entries file record_ bytes (content disk) (content tape) now
one_back entries mid now file record_ bytes disk tape there none made (inl site) = (content disk, [], inl (refl, refl), (none, site_back entries mid now file record_ bytes disk there made site))
one_back entries mid now file record_ bytes disk tape there none made (inr (inl back)) = (bytes, content tape, inr (refl, inl refl), as_it_was entries now file record_ bytes (content tape) there none (tape_back entries mid now record_ tape none made back))
one_back entries mid now file record_ bytes disk tape there none made (inr (inr same)) = (bytes, [], inr (refl, inr refl), as_it_was entries now file record_ bytes [] there none (same ∙ made))

-- a shelf that tells nothing goes on telling nothing
none_taken : (old new : Option (List Entry)) (name : List ℕ) (disk : Option Told) → old ≡ None → TakesBack old name disk new → new ≡ None
none_taken old new name disk none back = subst (λ (fs : Option (List Entry)). TakesBack fs name disk new) none back

pub none_both : (mid now : Option (List Entry)) (file record_ : List ℕ) (disk tape : Option Told) → mid ≡ None → TakesBoth file record_ mid disk tape now → now ≡ None
none_both mid now file record_ disk tape none both = none_taken both.0 now record_ tape (none_taken mid both.0 file disk none both.1) both.2

pub none_one : (mid now : Option (List Entry)) (file record_ : List ℕ) (disk tape : Option Told) → mid ≡ None → TakesOne file record_ mid disk tape now → now ≡ None
none_one mid now file record_ disk tape none (inl back) = none_taken mid now file disk none back
none_one mid now file record_ disk tape none (inr (inl back)) = none_taken mid now record_ tape none back
none_one mid now file record_ disk tape none (inr (inr same)) = same ∙ none

-- ---- handed out

pub opened_holds : (files : Option (List Entry)) (name : List ℕ) (told : Option Told) → IfSome files (λ all. told ≡ option_map synced (file_at all name)) → IfSome files (λ all. file_at all name ≡ None → ⊥) → IfSome files (λ all. Holds all name told)
opened_holds None name told found there = tt
opened_holds (Some all) name told found there = go (file_at all name) refl
  where
    go : (f : Option (List ℕ)) → file_at all name ≡ f → Holds all name told
    go None e = absurd (there e)
    go (Some bytes) e = (bytes, e, found ∙ ap (option_map synced) e)

-- the disk of a file that was opened is given back as it was, whether or not there is memory to tell it
unchanged : {T E : Type 0} (files now : Option (List Entry)) (name : List ℕ) (told : Option Told) (r : Result T E) → IfSome files (λ all. Holds all name told) → OnOk r (TakesBack files name told now) → OnErr r (now ≡ files) → now ≡ files
unchanged files now name told (Err e) holds back failed = failed
unchanged None now name told (Ok x) holds back failed = back
unchanged (Some all) now name told (Ok x) holds back failed =
    let put : now ≡ Some (with_bytes name holds.0 all) = subst (λ (o : Option Told). TakesBack (Some all) name o now) holds.2 back in
    put ∙ ap (λ (xs : List Entry). Some xs) (put_same name holds.0 all holds.1)

pub returned : {T E : Type 0} (files mid now : Option (List Entry)) (name : List ℕ) (told : Option Told) (r : Result T E) → IfSome files (λ all. Holds all name told) → mid ≡ files → OnOk r (TakesBack mid name told now) → OnErr r (now ≡ mid) → now ≡ files
returned files mid now name told r holds same back failed = unchanged files now name told r holds (subst (λ (fs : Option (List Entry)). OnOk r (TakesBack fs name told now)) same back) (subst (λ (fs : Option (List Entry)). OnErr r (now ≡ fs)) same failed)
