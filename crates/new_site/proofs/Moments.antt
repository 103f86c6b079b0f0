-- The images of a disk while a file is put into it.
use Rattle.std.proofs.Common.{◌≡◌, ℕ, ◌+◌, ◌<◌, List, [], ◌∷◌, ◌++◌, length, Option, Some, None, Result, Ok, Err, refl, sym, ap, subst, ◌∙◌, inl, inr}
use Rattle.std.specs.Prelude.{◌⊎◌, OnOk, slice_set}
use Rattle.std.specs.Option.{ForSome}
use Rattle.zdisk.specs.Crashes.{Becomes, IsSynced, IsTorn, LeavesFrom}
use Rattle.zdisk.specs.Disk.{Held, Told, content}
use Rattle.zdisk.specs.Images.{IsImage}
use Rattle.zdisk.specs.MomentLaws.{leaves_as, leaves_now, leaves_then, piles_none}
use Rattle.new_site.specs.Begun.{IsBegun, IsNoFile, OpensEmpty}
use Rattle.new_site.specs.NewSite.{file_with, site_file}
use Rattle.new_site.specs.SiteLaws.{status_put, torn_begun}

-- where the disk tells, it is empty and synced
abbrev pub IsEmpty : Option Told → Type 0
IsEmpty disk = ForSome disk (λ told. IsSynced told × (content told ≡ []))

-- of what is synced there is one image
abbrev pub OneImage : Type 0
OneImage = (held : Held) (image : List ℕ) → held.before ≡ [] → IsImage held image → image ≡ held.now

some_same : (a b : Told) → Some a ≡ Some b → a ≡ b
some_same a b e = cc

-- ---- a piece is written into an empty file, and a byte of it

module _ (piece : List ℕ) (at byte : ℕ) where
  abbrev pub Puts : List ℕ → List ℕ → Type 0
  Puts _ image = IsTorn [] piece image ⊎ (image ≡ slice_set piece at byte)

  pub written : (old mid : Option Told) → IsEmpty old → LeavesFrom old mid (λ file image. IsTorn file piece image) → LeavesFrom old mid Puts
  written old mid empty leaves = leaves_as old mid (λ file image. IsTorn file piece image) Puts (λ told is image t. inl (subst (λ (file : List ℕ). IsTorn file piece image) (empty told is).1 t)) leaves

  pub holds : (old mid : Option Told) → IsEmpty old → Becomes old mid (λ file. file ++ piece) → ForSome mid (λ told. IsSynced told × (content told ≡ piece))
  holds None None empty becomes told is = absurd cc
  holds (Some o) None empty becomes told is = absurd becomes
  holds None (Some m) empty becomes told is = absurd becomes
  holds (Some o) (Some m) empty becomes told is = subst (λ (t : Told). IsSynced t × (content t ≡ piece)) (some_same m told is) (becomes.0, becomes.1 ∙ ap (λ (file : List ℕ). file ++ piece) (empty o refl).1)

  pub stands : (old mid : Option Told) → IsEmpty old → at < length piece → Becomes old mid (λ file. file ++ piece) → ForSome mid (λ told. IsSynced told × (at < length (content told)))
  stands old mid empty long becomes told is = let h = holds old mid empty becomes told is in (h.0, subst (λ (bytes : List ℕ). at < length bytes) (sym h.1) long)

  whole_torn : IsTorn [] piece piece
  whole_torn = record { rest = piece; behind = refl; long = inr refl; each = λ i. inl refl }

  set_one : (file image : List ℕ) → file ≡ piece → (image ≡ file) ⊎ (image ≡ slice_set file at byte) → Puts [] image
  set_one file image is (inl same) = inl (subst (IsTorn [] piece) (sym (same ∙ is)) whole_torn)
  set_one file image is (inr set) = inr (set ∙ ap (λ (bytes : List ℕ). slice_set bytes at byte) is)

  pub set : (old mid new : Option Told) → IsEmpty old → LeavesFrom old mid (λ file image. IsTorn file piece image) → Becomes old mid (λ file. file ++ piece)
      → LeavesFrom mid new (λ file image. (image ≡ file) ⊎ (image ≡ slice_set file at byte)) → LeavesFrom old new Puts
  set old mid new empty before becomes after =
      leaves_then old mid new (Puts []) (Puts []) (λ image is. is) (written old mid empty before)
      (leaves_as mid new (λ file image. (image ≡ file) ⊎ (image ≡ slice_set file at byte)) Puts (λ told is image either. set_one (content told) image (holds old mid empty becomes told is).1 either) after)

  pub made : (old mid new : Option Told) → IsEmpty old → Becomes old mid (λ file. file ++ piece) → Becomes mid new (λ file. slice_set file at byte) → Becomes old new (λ _. slice_set piece at byte)
  made None None None empty first second = tt
  made None None (Some n) empty first second = absurd second
  made None (Some m) new empty first second = absurd first
  made (Some o) None new empty first second = absurd first
  made (Some o) (Some m) None empty first second = absurd second
  made (Some o) (Some m) (Some n) empty first second = (second.0, second.1 ∙ ap (λ (bytes : List ℕ). slice_set bytes at byte) (holds (Some o) (Some m) empty first m refl).1)

  pub made_ok : {T E : Type 0} (r : Result T E) (old mid new : Option Told) → IsEmpty old → Becomes old mid (λ file. file ++ piece) → OnOk r (Becomes mid new (λ file. slice_set file at byte)) → OnOk r (Becomes old new (λ _. slice_set piece at byte))
  made_ok (Ok x) old mid new empty first second = made old mid new empty first second
  made_ok (Err e) old mid new empty first second = tt

-- ---- the piece is the file of a new site

module _ (stamp : ℕ) (name password : List ℕ) where
  abbrev pub Begun : List ℕ → List ℕ → Type 0
  Begun _ image = IsBegun stamp name password image

  one_begun : (piece image : List ℕ) → piece ≡ file_with 99 stamp name password → IsTorn [] piece image ⊎ (image ≡ slice_set piece 20 32) → IsBegun stamp name password image
  one_begun piece image is (inl torn) = elim (torn_begun stamp name password image (subst (λ (bytes : List ℕ). IsTorn [] bytes image) is torn)) [
    | inl none ↦ inl none
    | inr empty ↦ inr (inl empty)
  ]
  one_begun piece image is (inr set) = inr (inr (set ∙ ap (λ (bytes : List ℕ). slice_set bytes 20 32) is ∙ status_put stamp name password))

  pub begun : (old between new : Option Told) (piece : List ℕ) → between ≡ old → piece ≡ file_with 99 stamp name password → LeavesFrom between new (Puts piece 20 32) → LeavesFrom old new Begun
  begun old between new piece same is leaves =
      leaves_as old new (Puts piece 20 32) Begun (λ told e image puts. one_begun piece image is puts) (subst (λ (disk : Option Told). LeavesFrom disk new (Puts piece 20 32)) same leaves)

  -- no byte of it was written
  untouched : OneImage → (told : Told) → IsSynced told × (content told ≡ []) → (image : List ℕ) → IsImage told.now image → IsBegun stamp name password image
  untouched only told empty image is = inl (inl (refl, refl, λ more e. no_bytes image more (only told.now image empty.0 is ∙ empty.1) e))
    where
      no_bytes : (image more : List ℕ) → image ≡ [] → image ≡ 70 ∷ 83 ∷ 50 ∷ 49 ∷ more → ⊥
      no_bytes image more p q = cc

  pub not_begun : OneImage → (old new : Option Told) → new ≡ old → IsEmpty old → LeavesFrom old new Begun
  not_begun only None None same empty = tt
  not_begun only None (Some n) same empty = absurd cc
  not_begun only (Some told) None same empty = absurd cc
  not_begun only (Some told) (Some n) same empty = subst (λ (disk : Option Told). LeavesFrom (Some told) disk Begun) (sym same) (piles_none told, leaves_now told (IsBegun stamp name password) (untouched only told (empty told refl)))

  pub whole : (old between new : Option Told) (piece : List ℕ) → between ≡ old → piece ≡ file_with 99 stamp name password → Becomes between new (λ _. slice_set piece 20 32) → Becomes old new (λ _. site_file stamp name password)
  whole None None None piece same is becomes = tt
  whole (Some o) None new piece same is becomes = absurd cc
  whole None (Some b) new piece same is becomes = absurd cc
  whole None None (Some n) piece same is becomes = absurd becomes
  whole (Some o) (Some b) None piece same is becomes = absurd becomes
  whole (Some o) (Some b) (Some n) piece same is becomes = (becomes.0, becomes.1 ∙ ap (λ (bytes : List ℕ). slice_set bytes 20 32) is ∙ status_put stamp name password)
