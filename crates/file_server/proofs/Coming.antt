-- By when a refusal comes.
use Rattle.std.proofs.Common.{◌⊎◌, inl, inr}
use Rattle.fs_store.specs.declared.opening.OpenRefusal.{OpenRefusal}
use Rattle.zio.specs.declared.refusal.ShelfRefusal.{ShelfRefusal}
use Rattle.zserve.specs.declared.refusal.ServeRefusal.{ServeRefusal}
use Rattle.file_server.specs.Refusals.{Comes, of_open, of_serve, of_shelf}
use Rattle.file_server.specs.declared.refusal.FileRefusal.{FileRefusal}

any_as : (B O S A P T : Type 0) → (B → A) → (O → P) → (S → T) → B ⊎ (O ⊎ S) → A ⊎ (P ⊎ T)
any_as B O S A P T first second third (inl b) = inl (first b)
any_as B O S A P T first second third (inr (inl o)) = inr (inl (second o))
any_as B O S A P T first second third (inr (inr s)) = inr (inr (third s))

-- told in other words
pub comes_as : (e : FileRefusal) (B O S A P T : Type 0) → (B → A) → (O → P) → (S → T) → Comes e B O S → Comes e A P T
comes_as FileRefusal.Missing B O S A P T first second third c = first c
comes_as FileRefusal.Exists B O S A P T first second third c = first c
comes_as (FileRefusal.TooLong n) B O S A P T first second third c = second c
comes_as (FileRefusal.Damaged kind place) B O S A P T first second third c = second c
comes_as FileRefusal.Hub B O S A P T first second third c = third c
comes_as FileRefusal.Disk B O S A P T first second third c = any_as B O S A P T first second third c
comes_as FileRefusal.Memory B O S A P T first second third c = any_as B O S A P T first second third c

-- want of memory may come in the place of any refusal
pub comes_last : (e : FileRefusal) (B O S A P T : Type 0) → (B → A) → (O → P) → (S → T) → Comes e B O S → Comes FileRefusal.Memory A P T
comes_last FileRefusal.Missing B O S A P T first second third c = inl (first c)
comes_last FileRefusal.Exists B O S A P T first second third c = inl (first c)
comes_last (FileRefusal.TooLong n) B O S A P T first second third c = inr (inl (second c))
comes_last (FileRefusal.Damaged kind place) B O S A P T first second third c = inr (inl (second c))
comes_last FileRefusal.Hub B O S A P T first second third c = inr (inr (third c))
comes_last FileRefusal.Disk B O S A P T first second third c = any_as B O S A P T first second third c
comes_last FileRefusal.Memory B O S A P T first second third c = any_as B O S A P T first second third c

pub comes_open : (e : OpenRefusal) (B O S : Type 0) → O → Comes (of_open e) B O S
comes_open (OpenRefusal.Damaged kind place) B O S o = o
comes_open OpenRefusal.Disk B O S o = inr (inl o)
comes_open (OpenRefusal.TooLong n) B O S o = o
comes_open OpenRefusal.Memory B O S o = inr (inl o)

pub comes_serve : (e : ServeRefusal) (B O S : Type 0) → S → Comes (of_serve e) B O S
comes_serve ServeRefusal.Hub B O S s = s
comes_serve ServeRefusal.Tape B O S s = inr (inr s)
comes_serve ServeRefusal.Memory B O S s = inr (inr s)

pub comes_shelf : (e : ShelfRefusal) (B O S : Type 0) → B → Comes (of_shelf e) B O S
comes_shelf ShelfRefusal.Missing B O S b = b
comes_shelf ShelfRefusal.Exists B O S b = b
comes_shelf ShelfRefusal.Failed B O S b = inl b
comes_shelf ShelfRefusal.Memory B O S b = inl b
