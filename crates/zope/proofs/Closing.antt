-- What a shelf tells once a disk was given back.
use Rattle.std.proofs.Common.{◌≡◌, ◌++◌, ◌∙◌, ℕ, Bool, true, false, List, [], ◌∷◌, Option, None, Some, Result, Ok, Err, IfSome, inl, inr, refl, sym, ap, subst, arith}
use Rattle.std.specs.Prelude.{OnErr, OnOk}
use Rattle.std.specs.Option.{option_map}
use Rattle.std.specs.Str.{bytes_eq}
use Rattle.std.proofs.lemmas.Slice.Eq.{bytes_eq-Decides}
use Rattle.zdisk.specs.Crashes.{Becomes, LeavesFrom}
use Rattle.zdisk.specs.Disk.{Held, Told, content, synced}
use Rattle.zdisk.specs.Images.{IsImage}
use Rattle.zio.specs.Shelves.{Entry, TakesBack, file_at, with_bytes}
use Rattle.new_site.specs.Begun.{IsBegun}
use Rattle.zope.specs.MakeCauses.{HasNew, LeavesNew}
use Rattle.zope.specs.Shelved.{IsMissing, IsPresent}

-- ---- a file that was there

put_same : (name bytes : List ℕ) (all : List Entry) → file_at all name ≡ Some bytes → with_bytes name bytes all ≡ all
put_same name bytes [] is = refl
put_same name bytes (f ∷ fs) is = go (bytes_eq f.0 name) refl (put_same name bytes fs)
  where
    go : (b : Bool) → bytes_eq f.0 name ≡ b → (file_at fs name ≡ Some bytes → with_bytes name bytes fs ≡ fs) → with_bytes name bytes (f ∷ fs) ≡ f ∷ fs
    go true e rest =
        let at : Some f.1 ≡ Some bytes = rw e at is in
        let same : f.1 ≡ bytes = cc in
        rw e (ap (λ (b : List ℕ). (f.0, b) ∷ fs) (sym same))
    go false e rest = let at : file_at fs name ≡ Some bytes = rw e at is in rw e (ap (λ (xs : List Entry). f ∷ xs) (rest at))

put_back : (files now : Option (List Entry)) (name : List ℕ) (told : Option Told) → IfSome files (λ all. told ≡ option_map synced (file_at all name)) → IsPresent files name → TakesBack files name told now → now ≡ files
put_back None now name told found there back = back
put_back (Some all) now name told found there back = go (file_at all name) refl
  where
    go : (f : Option (List ℕ)) → file_at all name ≡ f → now ≡ Some all
    go None e = absurd (there e)
    go (Some bytes) e =
        let is : told ≡ Some (synced bytes) = found ∙ ap (option_map synced) e in
        let put : now ≡ Some (with_bytes name bytes all) = subst (λ (o : Option Told). TakesBack (Some all) name o now) is back in
        put ∙ ap (λ (xs : List Entry). Some xs) (put_same name bytes all e)

-- a disk over a file reads as it was opened, and was given back: no file has changed, whether or not there was memory for that
pub unchanged : {T E : Type 0} (files mid now : Option (List Entry)) (name : List ℕ) (opened told : Option Told) (r : Result T E) → IfSome files (λ all. opened ≡ option_map synced (file_at all name)) → IsPresent files name → mid ≡ files → told ≡ opened
    → OnOk r (TakesBack mid name told now) → OnErr r (now ≡ mid) → now ≡ files
unchanged files mid now name opened told (Ok x) found there kept same back failed =
    put_back files now name opened found there (subst (λ (o : Option Told). TakesBack files name o now) same (subst (λ (fs : Option (List Entry)). TakesBack fs name told now) kept back))
unchanged files mid now name opened told (Err e) found there kept same back failed = failed ∙ kept

-- ---- a new file

put_new : (name bytes before : List ℕ) (all : List Entry) → file_at all name ≡ None → with_bytes name bytes (all ++ (name, before) ∷ []) ≡ all ++ (name, bytes) ∷ []
put_new name bytes before [] none = rw ((bytes_eq-Decides name name).1 refl) refl
put_new name bytes before (f ∷ fs) none = go (bytes_eq f.0 name) refl (put_new name bytes before fs)
  where
    go : (b : Bool) → bytes_eq f.0 name ≡ b → (file_at fs name ≡ None → with_bytes name bytes (fs ++ (name, before) ∷ []) ≡ fs ++ (name, bytes) ∷ []) → with_bytes name bytes ((f ∷ fs) ++ (name, before) ∷ []) ≡ (f ∷ fs) ++ (name, bytes) ∷ []
    go true e rest = absurd (let at : Some f.1 ≡ None = rw e at none in cc)
    go false e rest = let at : file_at fs name ≡ None = rw e at none in rw e (ap (λ (xs : List Entry). f ∷ xs) (rest at))

-- one more file, as it was handed out
abbrev pub AddsEmpty : Option (List Entry) → List ℕ → Option (List Entry) → Type 0
AddsEmpty files name mid = mid ≡ option_map (λ all. all ++ (name, []) ∷ []) files

-- the new file has what its disk holds
added : (all : List Entry) (mid now : Option (List Entry)) (name : List ℕ) (told : Told) → file_at all name ≡ None → AddsEmpty (Some all) name mid → TakesBack mid name (Some told) now → HasNew (Some all) name (content told) now
added all mid now name told none adds back =
    let put : now ≡ Some (with_bytes name (content told) (all ++ (name, []) ∷ [])) = subst (λ (fs : Option (List Entry)). TakesBack fs name (Some told) now) adds back in
    (none, put ∙ ap (λ (xs : List Entry). Some xs) (put_new name (content told) [] all none))

pub made_new : (files mid now : Option (List Entry)) (name bytes : List ℕ) (opened told : Option Told) → IsMissing files name → AddsEmpty files name mid → IfSome files (λ _. opened ≡ Some (synced [])) → Becomes opened told (λ _. bytes) → TakesBack mid name told now → HasNew files name bytes now
made_new None mid now name bytes opened told none adds empty becomes back = (tt, subst (λ (fs : Option (List Entry)). TakesBack fs name told now) adds back)
made_new (Some all) mid now name bytes opened (Some t) none adds empty becomes back =
    let is : Becomes (Some (synced [])) (Some t) (λ _. bytes) = subst (λ (o : Option Told). Becomes o (Some t) (λ _. bytes)) empty becomes in
    subst (λ (b : List ℕ). HasNew (Some all) name b now) is.1 (added all mid now name t none adds back)
made_new (Some all) mid now name bytes opened None none adds empty becomes back = absurd (subst (λ (o : Option Told). Becomes o None (λ _. bytes)) empty becomes)

nothing_begun : (tid : ℕ) (name password : List ℕ) → IsBegun tid name password []
nothing_begun tid name password = inl (inl (refl, refl, λ more is. cc))

-- what a file holds is what a stop may leave of it
begun_now : (tid : ℕ) (name password : List ℕ) (told : Told) → ((held : Held) → IsImage held held.now) → LeavesFrom (Some (synced [])) (Some told) (λ _ image. IsBegun tid name password image) → IsBegun tid name password (content told)
begun_now tid name password told own leaves = leaves.1 told.now (inl (omega arith, refl)) (content told) (own told.now)

-- however the making ended, and whether or not there was memory to give the disk back
pub left_new : {T E : Type 0} (files mid now : Option (List Entry)) (file : List ℕ) (tid : ℕ) (name password : List ℕ) (opened told : Option Told) (r : Result T E) → IsMissing files file → AddsEmpty files file mid → IfSome files (λ _. opened ≡ Some (synced []))
    → ((held : Held) → IsImage held held.now) → LeavesFrom opened told (λ _ image. IsBegun tid name password image) → OnOk r (TakesBack mid file told now) → OnErr r (now ≡ mid) → LeavesNew file name password files now
left_new None mid now file tid name password opened told (Ok x) none adds empty own leaves back failed = inl (subst (λ (fs : Option (List Entry)). TakesBack fs file told now) adds back)
left_new None mid now file tid name password opened told (Err e) none adds empty own leaves back failed = inl (failed ∙ adds)
left_new (Some all) mid now file tid name password opened told (Err e) none adds empty own leaves back failed = inr (tid, [], nothing_begun tid name password, (none, failed ∙ adds))
left_new (Some all) mid now file tid name password opened None (Ok x) none adds empty own leaves back failed = absurd (subst (λ (o : Option Told). LeavesFrom o None (λ _ image. IsBegun tid name password image)) empty leaves)
left_new (Some all) mid now file tid name password opened (Some t) (Ok x) none adds empty own leaves back failed =
    let from : LeavesFrom (Some (synced [])) (Some t) (λ _ image. IsBegun tid name password image) = subst (λ (o : Option Told). LeavesFrom o (Some t) (λ _ image. IsBegun tid name password image)) empty leaves in
    inr (tid, content t, begun_now tid name password t own from, added all mid now file t none adds back)
