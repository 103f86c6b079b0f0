-- What is due, once the pieces are compared.
use Rattle.std.proofs.Common.{◌≡◌, ℕ, ◌+◌, ◌≤◌, ◌<◌, Bool, true, false, ◌&&◌, ◌||◌, ◌==◌, not, List, length, Option, None, Some, arith, refl, subst, sym, ap, ap₂, ◌∙◌}
use Rattle.std.proofs.lemmas.Bool.{ltb-true}
use Rattle.std.specs.Prelude.{IfSome, nat_lt}
use Rattle.zdisk.specs.Disk.{HasRange, Told, content}
use Rattle.fs_scan.specs.Scanned.{Tells}
use Rattle.fs_scan.specs.declared.opening.ScanRefusal.{ScanRefusal}
use Rattle.fs_scan.specs.declared.opening.Scanned.{Scanned}
use Rattle.repozo.specs.declared.index.PieceRow.{PieceRow}
use Rattle.repozo.specs.declared.index.TheConstants.{MAX_PIECES}
use Rattle.repozo.specs.declared.refusal.RepoRefusal.TheVariants as refusals
use Rattle.repozo.specs.Disks.{HasPart}
use Rattle.repozo.specs.Index.{end_of}
use Rattle.repozo.specs.Pieces.{are_current, due, plan_of}
use Rattle.repozo.specs.Refusals.{of_scan}

pub not_piece : (r : ScanRefusal) → of_scan r ≡ refusals.Piece → ⊥
not_piece (ScanRefusal.Damaged kind place) e = cc
not_piece ScanRefusal.Disk e = cc
not_piece ScanRefusal.Memory e = cc

pub due_is : (full : Bool) (rows : List PieceRow) (held : List (List ℕ)) (bytes : List ℕ) (current : Bool) (n : ℕ) → full ≡ false → (length rows == 0) ≡ false → current ≡ are_current rows held bytes → due current rows n ≡ plan_of full rows held bytes n
due_is full rows held bytes current n part some is =
    let asked : not (full || (length rows == 0)) ≡ true = ap₂ (λ (x y : Bool). not (x || y)) part some in
    ap (λ (b : Bool). due b rows n) (is ∙ sym (ap (λ (b : Bool). b && are_current rows held bytes) asked))

-- ---- what is due stands in the file

pub front_within : (o : Option Told) (s : Scanned) → IfSome o (λ t. Tells (content t) s) → HasRange o 0 s.end
front_within None s tells t is = absurd cc
front_within (Some u) s tells t is =
    let same : u ≡ t = cc in
    subst (λ (x : Told). 0 + s.end ≤ length (content x)) same (omega (arith, tells.torn))

pub due_within : (o : Option Told) (current : Bool) (rows : List PieceRow) (n : ℕ) → HasRange o 0 n → HasPart o (due current rows n)
due_within o false rows n whole = whole
due_within o true rows n whole = go (end_of rows == n) refl (nat_lt (end_of rows) n) refl (nat_lt (length rows) MAX_PIECES) refl
  where
    go : (a : Bool) → (end_of rows == n) ≡ a → (b : Bool) → nat_lt (end_of rows) n ≡ b → (d : Bool) → nat_lt (length rows) MAX_PIECES ≡ d → HasPart o (due true rows n)
    go true e b f d h = rw e tt
    go false e true f true h =
        let below : end_of rows < n = ltb-true (end_of rows) n f in
        rw (e, f, h) (omega (arith, below), λ t is. omega (arith, whole t is, below))
    go false e true f false h = rw (e, f, h) whole
    go false e false f d h = rw (e, f) whole
