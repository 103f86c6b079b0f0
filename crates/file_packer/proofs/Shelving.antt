-- What a shelf tells once a disk was given back, and what faults mean.
use Rattle.std.proofs.Common.{◌≡◌, ◌++◌, ◌∙◌, ◌⊎◌, ℕ, Bool, true, false, List, [], ◌∷◌, Option, None, Some, Result, Ok, Err, IfSome, inl, inr, refl, sym, ap, subst, arith}
use Rattle.std.specs.Prelude.{IfErr, OnErr, OnOk, is_some}
use Rattle.std.specs.Option.{option_map}
use Rattle.std.specs.Str.{bytes_eq}
use Rattle.std.proofs.lemmas.Slice.Eq.{bytes_eq-Decides}
use Rattle.zbase.specs.Faults.{Counter, Counts, IsFaultless, Rose}
use Rattle.zdisk.specs.Disk.{Told, content, synced}
use Rattle.zio.specs.Shelves.{Entry, Holds, TakesBack, file_at, with_bytes}
use Rattle.file_packer.specs.Calls.{Calls}
use Rattle.file_packer.specs.Packing.{LeavesOne, Turns}

-- ---- refusals

-- what is so of a refusal is so of the result that tells it
pub on_refusal : {T E : Type 0} (r : Result T E) (e : E) (P : E → Type 0) → r ≡ Err e → P e → IfErr r P
on_refusal {T} {E} r e P is p = subst (λ (x : Result T E). IfErr x P) (sym is) p

-- and so is what is so whatever it is
pub on_any : {T E : Type 0} (r : Result T E) (P : Type 0) → P → IfErr r (λ _. P)
on_any (Ok x) P p = tt
on_any (Err e) P p = p

pub on_either : {T E : Type 0} (r : Result T E) (P : Type 0) (Q : E → Type 0) → P → IfErr r (λ e. P ⊎ Q e)
on_either (Ok x) P Q p = tt
on_either (Err e) P Q p = inl p

-- ---- a file that was there

put_same : (name bytes : List ℕ) (all : List Entry) → file_at all name ≡ Some bytes → with_bytes name bytes all ≡ all
put_same name bytes [] is = refl
put_same name bytes (f ∷ fs) is = go (bytes_eq f.0 name) refl (put_same name bytes fs)
  where
    go : (b : Bool) → bytes_eq f.0 name ≡ b → (file_at fs name ≡ Some bytes → with_bytes name bytes fs ≡ fs) → with_bytes name bytes (f ∷ fs) ≡ f ∷ fs
    go true e rest =
        let at : Some f.1 ≡ Some bytes = rw e at is in
        let same : f.1 ≡ bytes = cc in
        rw e (ap (λ (b : List ℕ). (f.0, b) ∷ fs) (sym same))
    go false e rest = let at : file_at fs name ≡ Some bytes = rw e at is in rw e (ap (λ (xs : List Entry). f ∷ xs) (rest at))

-- a disk that a shelf opened holds its file
pub opened : (files : Option (List Entry)) (name : List ℕ) (told : Option Told) → IfSome files (λ all. told ≡ option_map synced (file_at all name)) → IfSome files (λ all. file_at all name ≡ None → ⊥) → IfSome files (λ all. Holds all name told)
opened None name told found there = tt
opened (Some all) name told found there = go (file_at all name) refl
  where
    go : (f : Option (List ℕ)) → file_at all name ≡ f → Holds all name told
    go None e = absurd (there e)
    go (Some bytes) e = (bytes, e, found ∙ ap (option_map synced) e)

give_back : (files now : Option (List Entry)) (name : List ℕ) (told : Option Told) → IfSome files (λ all. Holds all name told) → TakesBack files name told now → now ≡ files
give_back None now name told held back = back
give_back (Some all) now name told held back =
    let put : now ≡ Some (with_bytes name held.0 all) = subst (λ (o : Option Told). TakesBack (Some all) name o now) held.2 back in
    put ∙ ap (λ (xs : List Entry). Some xs) (put_same name held.0 all held.1)

-- a disk that reads as it was opened was given back: no file has changed, whether or not there was memory for that
pub unchanged : {T E : Type 0} (files mid now : Option (List Entry)) (name : List ℕ) (was told : Option Told) (r : Result T E) → IfSome files (λ all. Holds all name was) → mid ≡ files → told ≡ was
    → OnOk r (TakesBack mid name told now) → OnErr r (now ≡ mid) → now ≡ files
unchanged files mid now name was told (Ok x) held kept same back failed =
    give_back files now name was held (subst (λ (o : Option Told). TakesBack files name o now) same (subst (λ (fs : Option (List Entry)). TakesBack fs name told now) kept back))
unchanged files mid now name was told (Err e) held kept same back failed = failed ∙ kept

-- ---- faults

-- a disk that can't fail doesn't
pub no_fault : {a b : Counter} {F : Type 0} → IsFaultless a → Counts a b F → F → ⊥
no_fault {a} {b} calm counts f =
    let rose : Rose a b = counts.cause f in
    let still = (counts.calm calm).1 in
    omega (arith, rose, still, calm.below)

-- a call of the shelf alone
pub calls_one : {S T : Type 0} {a b : Counter} {F G : Type 0} → Counts a b F → (S → T) → (G → F) → Calls S T a b G
calls_one counts sound so = record { later = counts.later; sound = sound; cause = λ g. inl (counts.cause (so g)) }

-- a disk was given back
pub calls_back : {S T U : Type 0} {a b c : Counter} {F : Type 0} → Calls S T a b F → (T → U) → c ≡ b → Calls S U a c F
calls_back {S} {T} {U} {a} {b} {c} {F} calls sound same =
    subst (λ (d : Counter). Calls S U a d F) (sym same) (record { later = calls.later; sound = λ s. sound (calls.sound s); cause = calls.cause })

-- ---- a new file

put_new : (name bytes before : List ℕ) (all : List Entry) → file_at all name ≡ None → with_bytes name bytes (all ++ (name, before) ∷ []) ≡ all ++ (name, bytes) ∷ []
put_new name bytes before [] none = rw ((bytes_eq-Decides name name).1 refl) refl
put_new name bytes before (f ∷ fs) none = go (bytes_eq f.0 name) refl (put_new name bytes before fs)
  where
    go : (b : Bool) → bytes_eq f.0 name ≡ b → (file_at fs name ≡ None → with_bytes name bytes (fs ++ (name, before) ∷ []) ≡ fs ++ (name, bytes) ∷ []) → with_bytes name bytes ((f ∷ fs) ++ (name, before) ∷ []) ≡ (f ∷ fs) ++ (name, bytes) ∷ []
    go true e rest = absurd (let at : Some f.1 ≡ None = rw e at none in cc)
    go false e rest = let at : file_at fs name ≡ None = rw e at none in rw e (ap (λ (xs : List Entry). f ∷ xs) (rest at))

-- a file that is there stays there behind a new one
pub at_more : (all : List Entry) (name bytes : List ℕ) (x : Entry) → file_at all name ≡ Some bytes → file_at (all ++ x ∷ []) name ≡ Some bytes
at_more [] name bytes x is = absurd cc
at_more (f ∷ fs) name bytes x is = go (bytes_eq f.0 name) refl (at_more fs name bytes x)
  where
    go : (b : Bool) → bytes_eq f.0 name ≡ b → (file_at fs name ≡ Some bytes → file_at (fs ++ x ∷ []) name ≡ Some bytes) → file_at ((f ∷ fs) ++ x ∷ []) name ≡ Some bytes
    go true e rest = let at : Some f.1 ≡ Some bytes = rw e at is in rw e at
    go false e rest = let at : file_at fs name ≡ Some bytes = rw e at is in rw e (rest at)

-- one more file, as it was handed out
abbrev pub AddsEmpty : Option (List Entry) → List ℕ → Option (List Entry) → Type 0
AddsEmpty files name mid = mid ≡ option_map (λ all. all ++ (name, []) ∷ []) files

-- the new file has what its disk holds
pub added : (all : List Entry) (mid now : Option (List Entry)) (name : List ℕ) (told : Told) → file_at all name ≡ None → AddsEmpty (Some all) name mid → TakesBack mid name (Some told) now → now ≡ Some (all ++ (name, content told) ∷ [])
added all mid now name told none adds back =
    let put : now ≡ Some (with_bytes name (content told) (all ++ (name, []) ∷ [])) = subst (λ (fs : Option (List Entry)). TakesBack fs name (Some told) now) adds back in
    put ∙ ap (λ (xs : List Entry). Some xs) (put_new name (content told) [] all none)

-- whatever its disk holds, and whether or not there was memory to give it back
pub left_new : {T E : Type 0} (files mid now : Option (List Entry)) (name : List ℕ) (was told : Option Told) (r : Result T E) → IfSome files (λ all. file_at all name ≡ None) → AddsEmpty files name mid → IfSome files (λ _. was ≡ Some (synced []))
    → is_some told ≡ is_some was → OnOk r (TakesBack mid name told now) → OnErr r (now ≡ mid) → Turns files now (LeavesOne name)
left_new None mid now name was told (Ok x) none adds empty tells back failed = subst (λ (fs : Option (List Entry)). TakesBack fs name told now) adds back
left_new None mid now name was told (Err e) none adds empty tells back failed = failed ∙ adds
left_new (Some all) mid now name was told (Err e) none adds empty tells back failed = (all ++ (name, []) ∷ [], failed ∙ adds, inr (none, [], refl))
left_new (Some all) mid now name was None (Ok x) none adds empty tells back failed = absurd (let is : is_some (Some (synced [])) ≡ false = sym (ap is_some empty) ∙ sym tells in cc)
left_new (Some all) mid now name was (Some t) (Ok x) none adds empty tells back failed = (all ++ (name, content t) ∷ [], added all mid now name t none adds back, inr (none, content t, refl))

-- nothing was made
pub left_same : (files now : Option (List Entry)) (name : List ℕ) → now ≡ files → Turns files now (LeavesOne name)
left_same None now name same = same
left_same (Some all) now name same = (all, same, inl refl)

-- ---- calls behind one another

pub turns_as : (old new : Option (List Entry)) (P Q : List Entry → List Entry → Type 0) → Turns old new P → ((all now : List Entry) → P all now → Q all now) → Turns old new Q
turns_as None new P Q turns so = turns
turns_as (Some all) new P Q (now, is, p) so = (now, is, so all now p)

-- a file that was read, and stays, is given back
pub still : {T E : Type 0} (old mid now : Option (List Entry)) (name : List ℕ) (was told : Option Told) (r : Result T E) (P : List Entry → List Entry → Type 0) → IfSome old (λ all. Holds all name was) → Turns old mid P
    → ((a b : List Entry) → P a b → (bytes : List ℕ) → file_at a name ≡ Some bytes → file_at b name ≡ Some bytes) → told ≡ was → OnOk r (TakesBack mid name told now) → OnErr r (now ≡ mid) → Turns old now P
still None mid now name was told (Ok x) P held turns stays same back failed = subst (λ (m : Option (List Entry)). TakesBack m name told now) turns back
still None mid now name was told (Err e) P held turns stays same back failed = failed ∙ turns
still (Some all) mid now name was told r P held (m, is, p) stays same back failed =
    let holds : IfSome mid (λ x. Holds x name was) = subst (λ (o : Option (List Entry)). IfSome o (λ x. Holds x name was)) (sym is) (held.0, stays all m p held.0 held.1, held.2) in
    (m, unchanged mid mid now name was told r holds refl same back failed ∙ is, p)

-- and until then its disk holds it
pub still_held : (old mid : Option (List Entry)) (name : List ℕ) (was told : Option Told) (P : List Entry → List Entry → Type 0) → IfSome old (λ all. Holds all name was) → Turns old mid P
    → ((a b : List Entry) → P a b → (bytes : List ℕ) → file_at a name ≡ Some bytes → file_at b name ≡ Some bytes) → told ≡ was → IfSome mid (λ all. Holds all name told)
still_held None mid name was told P held turns stays same = subst (λ (o : Option (List Entry)). IfSome o (λ all. Holds all name told)) (sym turns) tt
still_held (Some all) mid name was told P held (m, is, p) stays same =
    subst (λ (o : Option (List Entry)). IfSome o (λ all. Holds all name told)) (sym is) (held.0, stays all m p held.0 held.1, same ∙ held.2)

-- a new file leaves it as it is
pub stays_beside : (a b : List Entry) (one name bytes : List ℕ) → LeavesOne one a b → file_at a name ≡ Some bytes → file_at b name ≡ Some bytes
stays_beside a b one name bytes (inl same) is = subst (λ (x : List Entry). file_at x name ≡ Some bytes) (sym same) is
stays_beside a b one name bytes (inr (none, more, made)) is = subst (λ (x : List Entry). file_at x name ≡ Some bytes) (sym made) (at_more a name bytes (one, more) is)
