-- What a shelf tells once a disk was given back, and what faults mean.
use Rattle.std.proofs.Common.{◌≡◌, ◌++◌, ◌∙◌, ◌⊎◌, ◌≤◌, ℕ, Bool, true, false, List, [], ◌∷◌, Option, None, Some, Result, Ok, Err, IfSome, inl, inr, refl, sym, ap, subst, arith}
use Rattle.std.specs.Prelude.{OnErr, OnOk, is_some}
use Rattle.std.specs.Option.{option_map}
use Rattle.std.specs.Str.{bytes_eq}
use Rattle.std.proofs.lemmas.Slice.Eq.{bytes_eq-Decides}
use Rattle.zbase.specs.Faults.{Counter, Counts, IsFaultless, Rose, counts_as}
use Rattle.zdisk.specs.Crashes.{Becomes}
use Rattle.zdisk.specs.Disk.{Told, content, synced}
use Rattle.zio.specs.Shelves.{Entry, Holds, TakesBack, file_at, with_bytes}
use Rattle.repozo.specs.Disks.{AllCalm, OneCounts}
use Rattle.repozo.specs.Refusals.{IsOfCheck}
use Rattle.repozo.specs.declared.refusal.RepoRefusal.{RepoRefusal}
use Rattle.repozo.specs.declared.refusal.RepoRefusal.TheVariants as repo
use Rattle.backups.specs.Calls.{Calls, calls_then}
use Rattle.backups.specs.Opened.{AreSound}
use Rattle.backups.specs.Refusals.{IsToldOf}
use Rattle.backups.specs.declared.refusal.RestoreRefusal.{RestoreRefusal}
use Rattle.backups.specs.declared.refusal.RestoreRefusal.TheVariants as restore
use Rattle.backups.specs.Restored.{LeavesOne, Turns}
use Rattle.backups.specs.Standing.{IsMissing}

-- ---- a file that was there

pub put_same : (name bytes : List ℕ) (all : List Entry) → file_at all name ≡ Some bytes → with_bytes name bytes all ≡ all
put_same name bytes [] is = refl
put_same name bytes (f ∷ fs) is = go (bytes_eq f.0 name) refl (put_same name bytes fs)
  where
    go : (b : Bool) → bytes_eq f.0 name ≡ b → (file_at fs name ≡ Some bytes → with_bytes name bytes fs ≡ fs) → with_bytes name bytes (f ∷ fs) ≡ f ∷ fs
    go true e rest =
        let at : Some f.1 ≡ Some bytes = rw e at is in
        let same : f.1 ≡ bytes = cc in
        rw e (ap (λ (b : List ℕ). (f.0, b) ∷ fs) (sym same))
    go false e rest = let at : file_at fs name ≡ Some bytes = rw e at is in rw e (ap (λ (xs : List Entry). f ∷ xs) (rest at))

-- a disk that a shelf opened holds its file
pub opened : (files : Option (List Entry)) (name : List ℕ) (told : Option Told) → IfSome files (λ all. told ≡ option_map synced (file_at all name)) → IfSome files (λ all. file_at all name ≡ None → ⊥) → IfSome files (λ all. Holds all name told)
opened None name told found there = tt
opened (Some all) name told found there = go (file_at all name) refl
  where
    go : (f : Option (List ℕ)) → file_at all name ≡ f → Holds all name told
    go None e = absurd (there e)
    go (Some bytes) e = (bytes, e, found ∙ ap (option_map synced) e)

give_back : (files now : Option (List Entry)) (name : List ℕ) (told : Option Told) → IfSome files (λ all. Holds all name told) → TakesBack files name told now → now ≡ files
give_back None now name told held back = back
give_back (Some all) now name told held back =
    let put : now ≡ Some (with_bytes name held.0 all) = subst (λ (o : Option Told). TakesBack (Some all) name o now) held.2 back in
    put ∙ ap (λ (xs : List Entry). Some xs) (put_same name held.0 all held.1)

-- a disk that reads as it was opened was given back: no file has changed, whether or not there was memory for that
pub unchanged : {T E : Type 0} (files mid now : Option (List Entry)) (name : List ℕ) (was told : Option Told) (r : Result T E) → IfSome files (λ all. Holds all name was) → mid ≡ files → told ≡ was
    → OnOk r (TakesBack mid name told now) → OnErr r (now ≡ mid) → now ≡ files
unchanged files mid now name was told (Ok x) held kept same back failed =
    give_back files now name was held (subst (λ (o : Option Told). TakesBack files name o now) same (subst (λ (fs : Option (List Entry)). TakesBack fs name told now) kept back))
unchanged files mid now name was told (Err e) held kept same back failed = failed ∙ kept

-- what is so of the bytes that a disk reads is so of its file
pub of_file : (files : Option (List Entry)) (name : List ℕ) (told : Option Told) (P : List ℕ → Type 0) (Q : List Entry → Type 0) → ((all : List Entry) (bytes : List ℕ) → file_at all name ≡ Some bytes → P bytes → Q all)
    → IfSome files (λ all. Holds all name told) → IfSome told (λ t. P (content t)) → IfSome files Q
of_file None name told P Q so held is = tt
of_file (Some all) name told P Q so held is = so all held.0 held.1 (subst (λ (o : Option Told). IfSome o (λ t. P (content t))) held.2 is)

-- ---- faults

-- a disk that can't fail doesn't
pub no_fault : {a b : Counter} {F : Type 0} → IsFaultless a → Counts a b F → F → ⊥
no_fault {a} {b} calm counts f =
    let rose : Rose a b = counts.cause f in
    let still = (counts.calm calm).1 in
    omega (arith, rose, still, calm.below)

-- a call of the shelf alone
pub calls_one : {S T : Type 0} {a b : Counter} {F G : Type 0} → Counts a b F → (S → T) → (G → F) → Calls S T a b G
calls_one counts sound so = record { later = counts.later; sound = sound; cause = λ g. inl (counts.cause (so g)) }

-- a disk was opened, used and given back, and the fault is the disk's
pub calls_disk : {S T U : Type 0} {a b c x y : Counter} {F G H : Type 0} → Counts a b F → (S → T) → (T → U) → c ≡ b → (S → IsFaultless x) → Counts x y G → (H → G) → Calls S U a c H
calls_disk {S} {T} {U} {a} {b} {c} {x} {y} counts one two same sound disk so = record {
  later = subst (λ (d : Counter). a.count ≤ d.count) (sym same) counts.later;
  sound = λ s. two (one s);
  cause = λ h. inr (λ s. no_fault (sound s) disk (so h));
}

-- a call of the shelf behind others without a fault
pub calls_next : {S T U : Type 0} {a b c : Counter} {F G : Type 0} → Calls S T a b ⊥ → Counts b c F → (T → U) → (G → F) → Calls S U a c G
calls_next calls counts sound so = calls_then calls calls.sound (calls_one counts sound (λ f. f)) (λ g. inr (so g))

-- a disk was given back
pub calls_back : {S T U : Type 0} {a b c : Counter} {F : Type 0} → Calls S T a b F → (T → U) → c ≡ b → Calls S U a c F
calls_back {S} {T} {U} {a} {b} {c} {F} calls sound same =
    subst (λ (d : Counter). Calls S U a d F) (sym same) (record { later = calls.later; sound = λ s. sound (calls.sound s); cause = calls.cause })

-- ---- a new file

pub put_new : (name bytes before : List ℕ) (all : List Entry) → file_at all name ≡ None → with_bytes name bytes (all ++ (name, before) ∷ []) ≡ all ++ (name, bytes) ∷ []
put_new name bytes before [] none = rw ((bytes_eq-Decides name name).1 refl) refl
put_new name bytes before (f ∷ fs) none = go (bytes_eq f.0 name) refl (put_new name bytes before fs)
  where
    go : (b : Bool) → bytes_eq f.0 name ≡ b → (file_at fs name ≡ None → with_bytes name bytes (fs ++ (name, before) ∷ []) ≡ fs ++ (name, bytes) ∷ []) → with_bytes name bytes ((f ∷ fs) ++ (name, before) ∷ []) ≡ (f ∷ fs) ++ (name, bytes) ∷ []
    go true e rest = absurd (let at : Some f.1 ≡ None = rw e at none in cc)
    go false e rest = let at : file_at fs name ≡ None = rw e at none in rw e (ap (λ (xs : List Entry). f ∷ xs) (rest at))

-- a file that is there stays there behind a new one
pub at_more : (all : List Entry) (name bytes : List ℕ) (x : Entry) → file_at all name ≡ Some bytes → file_at (all ++ x ∷ []) name ≡ Some bytes
at_more [] name bytes x is = absurd cc
at_more (f ∷ fs) name bytes x is = go (bytes_eq f.0 name) refl (at_more fs name bytes x)
  where
    go : (b : Bool) → bytes_eq f.0 name ≡ b → (file_at fs name ≡ Some bytes → file_at (fs ++ x ∷ []) name ≡ Some bytes) → file_at ((f ∷ fs) ++ x ∷ []) name ≡ Some bytes
    go true e rest = let at : Some f.1 ≡ Some bytes = rw e at is in rw e at
    go false e rest = let at : file_at fs name ≡ Some bytes = rw e at is in rw e (rest at)

-- one more file, as it was handed out
abbrev pub AddsEmpty : Option (List Entry) → List ℕ → Option (List Entry) → Type 0
AddsEmpty files name mid = mid ≡ option_map (λ all. all ++ (name, []) ∷ []) files

-- the new file has what its disk holds
pub added : (all : List Entry) (mid now : Option (List Entry)) (name : List ℕ) (told : Told) → file_at all name ≡ None → AddsEmpty (Some all) name mid → TakesBack mid name (Some told) now → now ≡ Some (all ++ (name, content told) ∷ [])
added all mid now name told none adds back =
    let put : now ≡ Some (with_bytes name (content told) (all ++ (name, []) ∷ [])) = subst (λ (fs : Option (List Entry)). TakesBack fs name (Some told) now) adds back in
    put ∙ ap (λ (xs : List Entry). Some xs) (put_new name (content told) [] all none)

-- the new disk was filled, and given back
pub filled : (files mid now : Option (List Entry)) (name bytes : List ℕ) (was told : Option Told) → IsMissing files name → AddsEmpty files name mid → IfSome files (λ _. was ≡ Some (synced [])) → Becomes was told (λ _. bytes) → TakesBack mid name told now
    → Turns files now (λ all made. (file_at all name ≡ None) × (made ≡ all ++ (name, bytes) ∷ []))
filled None mid now name bytes was told none adds empty becomes back = subst (λ (fs : Option (List Entry)). TakesBack fs name told now) adds back
filled (Some all) mid now name bytes was (Some t) none adds empty becomes back =
    let is : Becomes (Some (synced [])) (Some t) (λ _. bytes) = subst (λ (o : Option Told). Becomes o (Some t) (λ _. bytes)) empty becomes in
    (all ++ (name, bytes) ∷ [], subst (λ (b : List ℕ). now ≡ Some (all ++ (name, b) ∷ [])) is.1 (added all mid now name t none adds back), (none, refl))
filled (Some all) mid now name bytes was None none adds empty becomes back = absurd (subst (λ (o : Option Told). Becomes o None (λ _. bytes)) empty becomes)

-- whatever its disk holds, and whether or not there was memory to give it back
pub left_new : {T E : Type 0} (files mid now : Option (List Entry)) (name : List ℕ) (was told : Option Told) (r : Result T E) → IsMissing files name → AddsEmpty files name mid → IfSome files (λ _. was ≡ Some (synced [])) → is_some told ≡ is_some was
    → OnOk r (TakesBack mid name told now) → OnErr r (now ≡ mid) → Turns files now (LeavesOne name)
left_new None mid now name was told (Ok x) none adds empty tells back failed = subst (λ (fs : Option (List Entry)). TakesBack fs name told now) adds back
left_new None mid now name was told (Err e) none adds empty tells back failed = failed ∙ adds
left_new (Some all) mid now name was told (Err e) none adds empty tells back failed = (all ++ (name, []) ∷ [], failed ∙ adds, inr (none, [], refl))
left_new (Some all) mid now name was None (Ok x) none adds empty tells back failed = absurd (let is : is_some (Some (synced [])) ≡ false = sym (ap is_some empty) ∙ sym tells in cc)
left_new (Some all) mid now name was (Some t) (Ok x) none adds empty tells back failed = (all ++ (name, content t) ∷ [], added all mid now name t none adds back, inr (none, content t, refl))

-- nothing was made
pub left_same : (files now : Option (List Entry)) (name : List ℕ) → now ≡ files → Turns files now (LeavesOne name)
left_same None now name same = same
left_same (Some all) now name same = (all, same, inl refl)

-- pieces that can't fail don't
pub no_piece_fault : {F : Type 0} (olds news : List Counter) → AreSound olds → OneCounts olds news F → F → ⊥
no_piece_fault [] [] sound one f = one f
no_piece_fault [] (n ∷ ns) sound one f = one
no_piece_fault (o ∷ os) [] sound one f = one
no_piece_fault (o ∷ os) (n ∷ ns) sound (inl p) f = no_fault sound.0 p.0 f
no_piece_fault (o ∷ os) (n ∷ ns) sound (inr p) f = no_piece_fault os ns sound.1 p.1 f

-- a refusal that is told as a fault is one of a disk
pub of_disks : (r : RepoRefusal) (told : RestoreRefusal) → IsToldOf r told → told ≡ restore.Disk → (r ≡ repo.Piece) ⊎ (r ≡ repo.Out)
of_disks repo.Piece told is e = inl refl
of_disks repo.Out told is e = inr refl
of_disks (repo.BadPiece name) told is e = absurd cc
of_disks repo.Memory told is e = absurd cc
of_disks repo.File told is e = absurd is
of_disks (repo.Damaged kind place) told is e = absurd is

pub stay_calm : (olds news : List Counter) → AreSound olds → AllCalm olds news → AreSound news
stay_calm [] [] sound calm = tt
stay_calm [] (n ∷ ns) sound calm = absurd calm
stay_calm (o ∷ os) [] sound calm = absurd calm
stay_calm (o ∷ os) (n ∷ ns) sound calm = ((calm.0.calm sound.0).0, stay_calm os ns sound.1 calm.1)

-- and stay so
pub stay_sound : (F : Type 0) (olds news : List Counter) → AreSound olds → OneCounts olds news F → AreSound news
stay_sound F [] [] sound one = tt
stay_sound F [] (n ∷ ns) sound one = absurd one
stay_sound F (o ∷ os) [] sound one = absurd one
stay_sound F (o ∷ os) (n ∷ ns) sound (inl p) = ((p.0.calm sound.0).0, stay_calm os ns sound.1 p.1)
stay_sound F (o ∷ os) (n ∷ ns) sound (inr p) = ((p.0.calm sound.0).0, stay_sound F os ns sound.1 p.1)

-- the same fault, told in other words
pub one_as : (F G : Type 0) (olds news : List Counter) → (F → G) → (G → F) → OneCounts olds news F → OneCounts olds news G
one_as F G [] [] to from one = λ g. one (from g)
one_as F G [] (n ∷ ns) to from one = absurd one
one_as F G (o ∷ os) [] to from one = absurd one
one_as F G (o ∷ os) (n ∷ ns) to from (inl p) = inl (counts_as p.0 to from, p.1)
one_as F G (o ∷ os) (n ∷ ns) to from (inr p) = inr (p.0, one_as F G os ns to from p.1)

-- of a check, only a piece's fault is told as one
pub of_check : (r : RepoRefusal) (told : RestoreRefusal) → IsOfCheck r → IsToldOf r told → told ≡ restore.Disk → r ≡ repo.Piece
of_check repo.Piece told of is e = refl
of_check repo.Out told of is e = absurd of
of_check (repo.BadPiece name) told of is e = absurd cc
of_check repo.Memory told of is e = absurd cc
of_check repo.File told of is e = absurd is
of_check (repo.Damaged kind place) told of is e = absurd is

pub told_fault : (r : RepoRefusal) (told : RestoreRefusal) → IsToldOf r told → r ≡ repo.Piece → told ≡ restore.Disk
told_fault repo.Piece told is e = is
told_fault repo.Out told is e = is
told_fault (repo.BadPiece name) told is e = absurd cc
told_fault repo.Memory told is e = absurd cc
told_fault repo.File told is e = absurd is
told_fault (repo.Damaged kind place) told is e = absurd is

pub told_bad : (r : RepoRefusal) (told : RestoreRefusal) (name : List ℕ) → IsToldOf r told → told ≡ restore.BadPiece name → r ≡ repo.BadPiece name
told_bad repo.Piece told name is e = absurd cc
told_bad repo.Out told name is e = absurd cc
told_bad (repo.BadPiece n) told name is e = ap (λ (m : List ℕ). repo.BadPiece m) (let same : n ≡ name = cc in same)
told_bad repo.Memory told name is e = absurd cc
told_bad repo.File told name is e = absurd is
told_bad (repo.Damaged kind place) told name is e = absurd is
