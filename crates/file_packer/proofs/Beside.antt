-- The packed file beside the file that is packed, and in its place.
use Rattle.std.proofs.Common.{◌≡◌, ℕ, List, length, Option, None, Some, Result, IfSome, inr, refl, ap, subst}
use Rattle.std.specs.Option.{option_map}
use Rattle.std.specs.Prelude.{OnErr, OnOk}
use Rattle.zdisk.specs.Disk.{Told, content}
use Rattle.zio.specs.Shelves.{Entry, Holds, Replaces, TakesBack, file_at}
use Rattle.fs_record.specs.Opening.{Damaged}
use Rattle.packing.specs.Reachable.{Linking}
use Rattle.fs_pack.specs.Plans.{LacksObject, PassesLimit}
use Rattle.fs_pack.specs.declared.packed.Packed.{Packed}
use Rattle.file_packer.specs.declared.refusal.FilePackRefusal.{FilePackRefusal}
use Rattle.file_packer.specs.declared.refusal.FilePackRefusal.TheVariants as refusals
use Rattle.file_packer.specs.Making.{MakesOf, MakingCause, Reads}
use Rattle.file_packer.specs.Packing.{FilePackCause, Fits, HasFile, HasPlan, LeavesOne, MadeBeside, PackedIn, Turned, Turns, pack_name}
use Rattle.file_packer.proofs.Replacing.{Puts, replaced}
use Rattle.file_packer.proofs.Shelving.{stays_beside, still, still_held}

-- what is so of all bytes that the disk reads is so of its file's
of_held : (links : Linking) (old mid : Option (List Entry)) (file name : List ℕ) (t : ℕ) (done : Packed) (was : Option Told) → name ≡ pack_name file → IfSome old (λ all. Holds all file was)
    → Turns old mid (λ all n. (bytes : List ℕ) → Reads was bytes → MakesOf links bytes t name done all n) → Turns old mid (λ all n. MadeBeside links all n file t done)
of_held links None mid file name t done was named held turns = turns
of_held links (Some all) mid file name t done was named held (now, is, so) = (now, is, it)
  where
    makes : MakesOf links held.0 t (pack_name file) done all now
    makes = subst (λ (n : List ℕ). MakesOf links held.0 t n done all now) named (so held.0 (ap (option_map content) held.2))

    it : MadeBeside links all now file t done
    it = record { bytes = held.0; there = held.1; left = makes.1; packs = makes.2; free = makes.0; made = makes.3 }

-- the file that is packed was given back
pub made_beside : {T E : Type 0} (links : Linking) (old opens mid now : Option (List Entry)) (file name : List ℕ) (t : ℕ) (done : Packed) (was told : Option Told) (q : Result T E) → name ≡ pack_name file → IfSome old (λ all. Holds all file was) → opens ≡ old → told ≡ was
    → Turns opens mid (λ all n. (bytes : List ℕ) → Reads was bytes → MakesOf links bytes t name done all n) → OnOk q (TakesBack mid file told now) → OnErr q (now ≡ mid) → Turns old now (λ all n. MadeBeside links all n file t done)
made_beside links old opens mid now file name t done was told q named held same reads turns back failed =
    still old mid now file was told q (λ all n. MadeBeside links all n file t done) held
    (of_held links old mid file name t done was named held (subst (λ (o : Option (List Entry)). Turns o mid (λ all n. (bytes : List ℕ) → Reads was bytes → MakesOf links bytes t name done all n)) same turns))
    (λ a b made bytes is. stays_beside a b (pack_name file) file bytes (inr (made.free, made.left, made.made)) is) reads back failed

pub left_beside : {T E : Type 0} (old opens mid now : Option (List Entry)) (file name : List ℕ) (was told : Option Told) (q : Result T E) → name ≡ pack_name file → IfSome old (λ all. Holds all file was) → opens ≡ old → told ≡ was
    → Turns opens mid (LeavesOne name) → OnOk q (TakesBack mid file told now) → OnErr q (now ≡ mid) → Turns old now (LeavesOne (pack_name file))
left_beside old opens mid now file name was told q named held same reads turns back failed =
    still old mid now file was told q (LeavesOne (pack_name file)) held (subst (λ (n : List ℕ). Turns old mid (LeavesOne n)) named (subst (λ (o : Option (List Entry)). Turns o mid (LeavesOne name)) same turns))
    (λ a b left bytes is. stays_beside a b (pack_name file) file bytes left is) reads back failed

-- until then its disk holds it
pub held_beside : (old opens mid : Option (List Entry)) (file name : List ℕ) (was told : Option Told) → IfSome old (λ all. Holds all file was) → opens ≡ old → told ≡ was → Turns opens mid (LeavesOne name) → IfSome mid (λ all. Holds all file told)
held_beside old opens mid file name was told held same reads turns =
    still_held old mid file was told (LeavesOne name) held (subst (λ (o : Option (List Entry)). Turns o mid (LeavesOne name)) same turns) (λ a b left bytes is. stays_beside a b name file bytes left is) reads

-- ---- why it isn't

file_has : (old : Option (List Entry)) (file : List ℕ) (was : Option Told) (P : List ℕ → Type 0) → IfSome old (λ all. Holds all file was) → IfSome was (λ t. Fits (content t) × P (content t)) → IfSome old (λ all. HasFile all file P)
file_has None file was P held is = tt
file_has (Some all) file was P held is =
    let it : Fits held.0 × P held.0 = subst (λ (o : Option Told). IfSome o (λ t. Fits (content t) × P (content t))) held.2 is in
    (held.0, held.1, it.0, it.1)

file_long : (old : Option (List Entry)) (file : List ℕ) (was : Option Told) (P : List ℕ → Type 0) → IfSome old (λ all. Holds all file was) → IfSome was (λ t. P (content t)) → IfSome old (λ all. (bytes : List ℕ) × (file_at all file ≡ Some bytes) × P bytes)
file_long None file was P held is = tt
file_long (Some all) file was P held is = (held.0, held.1, subst (λ (o : Option Told). IfSome o (λ t. P (content t))) held.2 is)

both : (old : Option (List Entry)) (P Q : List Entry → Type 0) → IfSome old P → IfSome old Q → IfSome old (λ all. P all × Q all)
both None P Q p q = tt
both (Some all) P Q p q = (p, q)

pub file_cause : (links : Linking) (t : ℕ) (old opens : Option (List Entry)) (file name : List ℕ) (was : Option Told) (failed : Type 0) (e : FilePackRefusal) → name ≡ pack_name file → IfSome old (λ all. Holds all file was) → opens ≡ old
    → MakingCause links t was name opens e → (e ≡ refusals.Disk → failed) → FilePackCause links file t old failed e
file_cause links t old opens file name was failed refusals.Missing named held same cause fault = absurd cause
file_cause links t old opens file name was failed (refusals.TooLong n) named held same cause fault = (cause.0, file_long old file was (λ bytes. n ≡ length bytes) held cause.1)
file_cause links t old opens file name was failed (refusals.Damaged kind place) named held same cause fault = file_has old file was (λ bytes. Damaged bytes place kind) held cause
file_cause links t old opens file name was failed (refusals.Unreadable o) named held same cause fault = file_has old file was (λ bytes. LacksObject links bytes t o) held cause
file_cause links t old opens file name was failed (refusals.Full need limit) named held same cause fault = (cause.0, file_has old file was (λ bytes. PassesLimit links bytes t need limit) held cause.1)
file_cause links t old opens file name was failed refusals.Exists named held same cause fault =
    both old (λ all. HasFile all file (HasPlan links t)) (λ all. file_at all (pack_name file) ≡ None → ⊥) (file_has old file was (HasPlan links t) held cause.0)
    (subst (λ (n : List ℕ). IfSome old (λ all. file_at all n ≡ None → ⊥)) named (subst (λ (o : Option (List Entry)). IfSome o (λ all. file_at all name ≡ None → ⊥)) same cause.1))
file_cause links t old opens file name was failed refusals.Disk named held same cause fault = fault refl
file_cause links t old opens file name was failed refusals.Memory named held same cause fault = tt

-- ---- in the other's place

pub put_in_place : (links : Linking) (old mid now : Option (List Entry)) (file name : List ℕ) (t : ℕ) (done : Packed) → name ≡ pack_name file → Turns old mid (λ all n. MadeBeside links all n file t done) → Replaces mid name file now → Turned old now (λ all n. PackedIn links all n file t done)
put_in_place links None mid now file name t done named turns took = tt
put_in_place links (Some all) mid now file name t done named (m, is, made) took = (placed.0, placed.1, record { bytes = made.bytes; there = made.there; left = made.left; packs = made.packs; free = made.free; puts = placed.2 })
  where
    took_it : Replaces (Some m) (pack_name file) file now
    took_it = subst (λ (n : List ℕ). Replaces (Some m) n file now) named (subst (λ (o : Option (List Entry)). Replaces o name file now) is took)

    placed : Turned (Some all) now (Puts file made.left)
    placed = replaced all m (pack_name file) file made.left now made.free made.made took_it
