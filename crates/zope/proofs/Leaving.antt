-- What a backup or a pack leaves in the files.
use Rattle.std.proofs.Common.{ℕ, Bool, List, Option, None, Some, Result, Ok, Err, ◌≡◌, inl, inr}
use Rattle.std.specs.Prelude.{IfErr, OnOk}
use Rattle.std.specs.Io.KnownBytes.{append_known}
use Rattle.zio.specs.Shelves.{Entry}
use Rattle.backups.specs.BackedUp as made
use Rattle.fs_pack.specs.declared.packed.Packed.{Packed}
use Rattle.file_packer.specs.Packing as made_by_pack
use Rattle.site_links.specs.Linked.{linked}
use Rattle.zope.specs.BackupCauses.{LeavesBackup}
use Rattle.zope.specs.CheckCauses.{PrintCause}
use Rattle.zope.specs.PackCauses.{FilePacked, LeavesPacked, PackCause, packed_line}
use Rattle.zope.specs.declared.refusal.Refusal.{Refusal}

pub refused_leaves : (file repo : List ℕ) (full : Bool) (old new : Option (List Entry)) → made.Turned old new (made.LeavesOld file repo full) → LeavesBackup file repo full old new
refused_leaves file repo full None new turned = tt
refused_leaves file repo full (Some all) new turned = (turned.0, turned.1, inr turned.2)

-- ---- a pack

-- that was refused
pub unpacked_leaves : (file : List ℕ) (t : ℕ) (old new : Option (List Entry)) → made_by_pack.Turns old new (made_by_pack.LeavesOne (made_by_pack.pack_name file)) → LeavesPacked file t old new
unpacked_leaves file t None new turns = tt
unpacked_leaves file t (Some all) new turns = (turns.0, turns.1, inl turns.2)

-- or done
abbrev Packs : List ℕ → ℕ → Option (List Entry) → Option (List Entry) → Packed → Type 0
Packs file t old new done = made_by_pack.Turned old new (λ all now. made_by_pack.PackedIn linked all now file t done)

pub packed_leaves : (file : List ℕ) (t : ℕ) (old new : Option (List Entry)) (done : Packed) → Packs file t old new done → LeavesPacked file t old new
packed_leaves file t None new done turned = tt
packed_leaves file t (Some all) new done turned = (turned.0, turned.1, inr (done, turned.2))

pub packed_did : {T E : Type 0} (file : List ℕ) (t : ℕ) (files now : Option (List Entry)) (lasts : List ℕ → Type 0) (old new : Option (List ℕ)) (done : Packed) (r : Result T E) → Packs file t files now done → lasts file → OnOk r (new ≡ append_known old (packed_line done))
    → OnOk r (FilePacked file t files now lasts old new)
packed_did file t files now lasts old new done (Ok x) packs lasting printed = record { done = done; packed = packs; lasting = lasting; printed = printed }
packed_did file t files now lasts old new done (Err e) packs lasting printed = tt

pub packed_untold : {T : Type 0} (file : List ℕ) (t : ℕ) (files now : Option (List Entry)) (sink disk : Type 0) (old new : Option (List ℕ)) (done : Packed) (r : Result T Refusal) → Packs file t files now done → IfErr r (PrintCause sink (packed_line done) old new)
    → IfErr r (PackCause file t files now sink disk old new)
packed_untold file t files now sink disk old new done (Ok x) packs cause = tt
packed_untold file t files now sink disk old new done (Err e) packs cause = inr (record { done = done; packed = packs; printed = cause })
