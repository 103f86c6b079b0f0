-- A new file that is filled, and one that takes another one's place.
use Rattle.std.proofs.Common.{◌≡◌, ◌++◌, ◌∙◌, ℕ, List, [], ◌∷◌, Option, None, Some, Result, Ok, Err, IfSome, inl, inr, refl, sym, ap, subst}
use Rattle.std.specs.Prelude.{IfErr, IsErrOf, OnErr, OnOk, is_some}
use Rattle.zdisk.specs.Crashes.{Becomes, LeavesFrom}
use Rattle.zdisk.specs.Disk.{Told, content, synced}
use Rattle.zio.specs.Shelves.{Entry, Replaces, TakesBack, file_at, with_bytes}
use Rattle.backups.specs.declared.refusal.BackupRefusal.{BackupRefusal}
use Rattle.backups.specs.declared.refusal.BackupRefusal.TheVariants as refusals
use Rattle.backups.specs.BackedUp.{AddsIndex, IsFirstFree, IsIndexName, Puts, Turned}
use Rattle.backups.specs.Putting.{Fills, IsOfFilling, IsOfNaming}
use Rattle.backups.specs.Restored.{Turns}
use Rattle.backups.specs.Standing.{IsMissing, IsPresent}
use Rattle.backups.proofs.Closing.{AddsEmpty, put_new}
use Rattle.backups.proofs.Replacing.{puts_new, replaced}

-- a disk goes on telling, or not telling
pub leaves_tells : (P : List ℕ → List ℕ → Type 0) (old new : Option Told) → LeavesFrom old new P → is_some new ≡ is_some old
leaves_tells P None None leaves = refl
leaves_tells P None (Some n) leaves = absurd leaves
leaves_tells P (Some o) None leaves = absurd leaves
leaves_tells P (Some o) (Some n) leaves = refl

-- a new disk that was filled is given back
pub filled_back : (files now : Option (List Entry)) (name text : List ℕ) (was told : Option Told) → IfSome files (λ _. was ≡ Some (synced [])) → Becomes was told (λ file. file ++ text) → TakesBack files name told now
    → Turns files now (λ all n. n ≡ with_bytes name text all)
filled_back None now name text was told empty becomes back = back
filled_back (Some all) now name text was (Some t) empty becomes back =
    let is : Becomes (Some (synced [])) (Some t) (λ file. file ++ text) = subst (λ (o : Option Told). Becomes o (Some t) (λ file. file ++ text)) empty becomes in
    (with_bytes name (content t) all, back, ap (λ (b : List ℕ). with_bytes name b all) is.1)
filled_back (Some all) now name text was None empty becomes back = absurd (subst (λ (o : Option Told). Becomes o None (λ file. file ++ text)) empty becomes)

-- whatever it holds, and whether or not there was memory for it
pub fills_back : {T E : Type 0} (files now : Option (List Entry)) (name : List ℕ) (was told : Option Told) (r : Result T E) → IfSome files (λ _. was ≡ Some (synced [])) → is_some told ≡ is_some was → OnOk r (TakesBack files name told now) → OnErr r (now ≡ files)
    → Turns files now (Fills name)
fills_back None now name was told (Ok x) empty tells back failed = back
fills_back None now name was told (Err e) empty tells back failed = failed
fills_back (Some all) now name was told (Err e) empty tells back failed = (all, failed, inl refl)
fills_back (Some all) now name was None (Ok x) empty tells back failed = absurd (let is : is_some (Some (synced [])) ≡ is_some {T = Told} None = sym (ap is_some empty) ∙ sym tells in cc)
fills_back (Some all) now name was (Some t) (Ok x) empty tells back failed = (with_bytes name (content t) all, back, inr (content t, refl))

-- a file that was made and filled
pub made_filled : (files mid now : Option (List Entry)) (name text : List ℕ) → IsMissing files name → AddsEmpty files name mid → Turns mid now (λ all n. n ≡ with_bytes name text all) → Turns files now (λ all n. n ≡ all ++ (name, text) ∷ [])
made_filled None mid now name text none adds turns = subst (λ (m : Option (List Entry)). Turns m now (λ x n. n ≡ with_bytes name text x)) adds turns
made_filled (Some all) mid now name text none adds turns =
    let it : Turns (Some (all ++ (name, []) ∷ [])) now (λ x n. n ≡ with_bytes name text x) = subst (λ (m : Option (List Entry)). Turns m now (λ x n. n ≡ with_bytes name text x)) adds turns in
    (it.0, it.1, it.2 ∙ put_new name text [] all none)

pub made_puts : (files mid now : Option (List Entry)) (name text : List ℕ) → IsMissing files name → AddsEmpty files name mid → Turns mid now (λ all n. n ≡ with_bytes name text all) → Turned files now (Puts name text)
made_puts None mid now name text none adds turns = tt
made_puts (Some all) mid now name text none adds turns =
    let it = made_filled (Some all) mid now name text none adds turns in
    (it.0, it.1, subst (Puts name text all) (sym it.2) (puts_new all name text none))

-- ---- an index on its way

-- under its own name
pub own_name : (files : Option (List Entry)) (index : List ℕ) → IsMissing files index → IfSome files (λ all. IsIndexName all index index)
own_name None index none = tt
own_name (Some all) index none = inl (refl, none)

-- or under a numbered one
pub other_name : (files : Option (List Entry)) (index name : List ℕ) → IsPresent files index → IfSome files (λ all. IsFirstFree all index name) → IfSome files (λ all. IsIndexName all index name)
other_name None index name there first = tt
other_name (Some all) index name there first = inr (there, first)

name_is_free : (all : List Entry) (index name : List ℕ) → IsIndexName all index name → file_at all name ≡ None
name_is_free all index name (inl (is, none)) = subst (λ (n : List ℕ). file_at all n ≡ None) (sym is) none
name_is_free all index name (inr (there, first)) = first.free

-- whatever is in it
pub left_index : (files mid now : Option (List Entry)) (index name : List ℕ) → IfSome files (λ all. IsIndexName all index name) → AddsEmpty files name mid → Turns mid now (Fills name) → Turned files now (AddsIndex index)
left_index None mid now index name is adds turns = tt
left_index (Some all) mid now index name is adds turns =
    let it : Turns (Some (all ++ (name, []) ∷ [])) now (Fills name) = subst (λ (m : Option (List Entry)). Turns m now (Fills name)) adds turns in
    (it.0, it.1, go it.0 it.2)
  where
    go : (n : List Entry) → Fills name (all ++ (name, []) ∷ []) n → AddsIndex index all n
    go n (inl same) = inr (name, [], is, same)
    go n (inr (bytes, put)) = inr (name, bytes, is, put ∙ put_new name bytes [] all (name_is_free all index name is))

-- where filling it was refused, or not
pub puts_made : {T E : Type 0} (r : Result T E) (files mid now : Option (List Entry)) (name text : List ℕ) → IsMissing files name → AddsEmpty files name mid → OnOk r (Turns mid now (λ all n. n ≡ with_bytes name text all)) → OnOk r (Turned files now (Puts name text))
puts_made (Err e) files mid now name text none adds turns = tt
puts_made (Ok x) files mid now name text none adds turns = made_puts files mid now name text none adds turns

pub left_made : {T E : Type 0} (r : Result T E) (files mid now : Option (List Entry)) (index name : List ℕ) → IfSome files (λ all. IsIndexName all index name) → AddsEmpty files name mid → Turns mid now (Fills name) → OnErr r (Turned files now (AddsIndex index))
left_made (Ok x) files mid now index name is adds turns = tt
left_made (Err e) files mid now index name is adds turns = left_index files mid now index name is adds turns

-- a file that is filled has its name
pub filling_spends : {T : Type 0} (r : Result T BackupRefusal) (P : Type 0) → IfErr r IsOfFilling → IsErrOf r refusals.NamesSpent → P
filling_spends (Ok x) P of is = absurd cc
filling_spends (Err refusals.Missing) P of is = absurd of
filling_spends (Err (refusals.TooLong n)) P of is = absurd of
filling_spends (Err (refusals.Damaged kind place)) P of is = absurd of
filling_spends (Err refusals.NamesSpent) P of is = absurd of
filling_spends (Err refusals.Disk) P of is = absurd cc
filling_spends (Err refusals.Memory) P of is = absurd cc

pub filling_names : {T : Type 0} (r : Result T BackupRefusal) → IfErr r IsOfFilling → IfErr r IsOfNaming
filling_names (Ok x) of = tt
filling_names (Err refusals.Missing) of = absurd of
filling_names (Err (refusals.TooLong n)) of = absurd of
filling_names (Err (refusals.Damaged kind place)) of = absurd of
filling_names (Err refusals.NamesSpent) of = absurd of
filling_names (Err refusals.Disk) of = tt
filling_names (Err refusals.Memory) of = tt

-- the name under which a new index is made
pub free_missing : (files : Option (List Entry)) (base name : List ℕ) → IfSome files (λ all. IsFirstFree all base name) → IsMissing files name
free_missing None base name first = tt
free_missing (Some all) base name first = first.free

-- the new index takes the place of the old one
pub replaced_puts : (files mid full now : Option (List Entry)) (name index text : List ℕ) → IsMissing files name → AddsEmpty files name mid → Turns mid full (λ all n. n ≡ with_bytes name text all) → Replaces full name index now → Turned files now (Puts index text)
replaced_puts None mid full now name index text none adds turns took = tt
replaced_puts (Some all) mid full now name index text none adds turns took =
    let it = made_filled (Some all) mid full name text none adds turns in
    replaced all it.0 name index text now none it.2 (subst (λ (f : Option (List Entry)). Replaces f name index now) it.1 took)

-- ---- the same, of a name that is told in two ways

pub left_numbered : (files mid full now : Option (List Entry)) (index own name : List ℕ) → IsPresent files index → own ≡ name → IfSome files (λ all. IsFirstFree all index name) → AddsEmpty files name mid → Turns mid full (Fills own) → now ≡ full → Turned files now (AddsIndex index)
left_numbered files mid full now index own name there named first adds turns same =
    left_index files mid now index name (other_name files index name there first) adds
    (subst (λ (o : Option (List Entry)). Turns mid o (Fills name)) (sym same) (subst (λ (n : List ℕ). Turns mid full (Fills n)) named turns))

pub puts_numbered : (files mid full now : Option (List Entry)) (own name index text : List ℕ) → own ≡ name → IfSome files (λ all. IsFirstFree all index name) → AddsEmpty files name mid → Turns mid full (λ all n. n ≡ with_bytes own text all) → Replaces full own index now → Turned files now (Puts index text)
puts_numbered files mid full now own name index text named first adds turns took =
    replaced_puts files mid full now own index text (free_missing files index own (subst (λ (n : List ℕ). IfSome files (λ all. IsFirstFree all index n)) (sym named) first)) (subst (λ (n : List ℕ). AddsEmpty files n mid) (sym named) adds) turns took
