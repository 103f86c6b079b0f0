-- Why a disk isn't opened again.
use Rattle.fs_store.specs.declared.opening.OpenRefusal.{OpenRefusal}
use Rattle.fs_store.specs.declared.refusal.LoadRefusal.{LoadRefusal}

-- a refusal of an opening, as one of the call that opened again
abbrev pub again : OpenRefusal → LoadRefusal
again (OpenRefusal.Damaged kind place) = LoadRefusal.Memory
again OpenRefusal.Disk = LoadRefusal.Disk
again (OpenRefusal.TooLong long) = LoadRefusal.Memory
again OpenRefusal.Memory = LoadRefusal.Memory
