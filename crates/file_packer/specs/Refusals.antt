-- A refusal of a pack, as one of a file of a shelf.
use Rattle.fs_pack.specs.declared.refusal.PackRefusal.{PackRefusal}
use Rattle.fs_pack.specs.declared.refusal.PackRefusal.TheVariants as packs
use Rattle.file_packer.specs.declared.refusal.FilePackRefusal.{FilePackRefusal}
use Rattle.file_packer.specs.declared.refusal.FilePackRefusal.TheVariants as refusals

abbrev pub of_pack : PackRefusal → FilePackRefusal
of_pack (packs.Damaged kind place) = refusals.Damaged kind place
of_pack packs.From = refusals.Disk
of_pack packs.To = refusals.Disk
of_pack (packs.Unreadable o) = refusals.Unreadable o
of_pack (packs.Full need limit) = refusals.Full need limit
of_pack packs.Memory = refusals.Memory
