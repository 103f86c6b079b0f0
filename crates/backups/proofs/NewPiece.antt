-- A piece that is made.
use Rattle.std.proofs.Common.{Bool, Result, Ok, Err, arith, ◌≡◌, ◌++◌, ◌∷◌, ◌∙◌, ◌-◌, ℕ, List, [], Option, None, Some, IfSome, inl, inr, refl, sym, ap, subst}
use Rattle.std.specs.Prelude.{IfOk, OnErr, OnOk, is_some}
use Rattle.md5.specs.Md5.{md5}
use Rattle.zdisk.specs.Disk.{Told, bytes_at, content, synced}
use Rattle.zio.specs.Shelves.{Entry, TakesBack, file_at}
use Rattle.repozo.specs.declared.index.PieceRow.{PieceRow}
use Rattle.repozo.specs.Disks.{Copied, Reads}
use Rattle.repozo.specs.Pieces.{part}
use Rattle.repozo.specs.declared.planning.BackupPlan.{BackupPlan}
use Rattle.repozo.specs.declared.planning.BackupPlan.TheVariants as plans
use Rattle.backups.specs.declared.backed.Backed.{Backed}
use Rattle.backups.specs.declared.backed.Backed.TheVariants as backed
use Rattle.backups.specs.declared.backed.Made.{Made}
use Rattle.backups.specs.declared.backed.Made.TheVariants as made
use Rattle.backups.specs.declared.refusal.BackupRefusal.{BackupRefusal}
use Rattle.backups.specs.BackedUp.{AddsPiece, AreSpent, IsDueOver, IsFirstFree, IsMade}
use Rattle.backups.specs.Putting.{HasPiece, MakesDue, SpendsDue}
use Rattle.backups.specs.Restored.{LeavesOne, Turns}
use Rattle.backups.proofs.Closing.{AddsEmpty, filled, left_new}
use Rattle.backups.proofs.Filling.{free_missing}

some_is : (a b : List ℕ) → Some a ≡ Some b → a ≡ b
some_is a b e = cc

abbrev pub row_with : List ℕ → ℕ → ℕ → List ℕ → PieceRow
row_with name start end digest = record { name = name; start = start; end = end; md5 = digest }

-- what was copied is what stands in the file there
copied_part : (file : Option Told) (start size : ℕ) (bytes b : List ℕ) → IfSome file (λ t. bytes ≡ bytes_at t start size) → Reads file b → bytes ≡ part start size b
copied_part None start size bytes b read reads = absurd cc
copied_part (Some t) start size bytes b read reads = read ∙ ap (part start size) (some_is (content t) b reads)

pub piece_made : (files now : Option (List Entry)) (repo name : List ℕ) (file : Option Told) (start end : ℕ) (bytes digest : List ℕ) (row : PieceRow) → Turns files now (λ all n. (file_at all name ≡ None) × (n ≡ all ++ (name, bytes) ∷ []))
    → IfSome files (λ all. IsFirstFree all repo name) → IfSome file (λ t. bytes ≡ bytes_at t start (end - start)) → digest ≡ md5 bytes → row ≡ row_with name start end digest
    → Turns files now (λ all n. (b : List ℕ) → Reads file b → HasPiece all n repo start end b row)
piece_made None now repo name file start end bytes digest row turns first read is rows = turns
piece_made (Some all) now repo name file start end bytes digest row turns first read is rows = (turns.0, turns.1, λ b reads. piece b (copied_part file start (end - start) bytes b read reads))
  where
    piece : (b : List ℕ) → bytes ≡ part start (end - start) b → HasPiece all turns.0 repo start end b row
    piece b same = subst (HasPiece all turns.0 repo start end b) (sym rows) (record {
      first = first;
      made = turns.2.1 ∙ ap (λ (x : List ℕ). all ++ (name, x) ∷ []) same;
      is = ap (row_with name start end) (is ∙ ap md5 same);
    })

-- whatever is in it
pub left_piece : (files now : Option (List Entry)) (repo name : List ℕ) → IfSome files (λ all. IsFirstFree all repo name) → Turns files now (LeavesOne name) → Turns files now (AddsPiece repo)
left_piece None now repo name first turns = turns
left_piece (Some all) now repo name first (n, is, inl same) = (n, is, inl same)
left_piece (Some all) now repo name first (n, is, inr (free, bytes, made)) = (n, is, inr (name, bytes, first, made))

pub on_err : {T E : Type 0} (r : Result T E) (P : Type 0) → P → OnErr r P
on_err (Ok x) P p = tt
on_err (Err e) P p = p

-- ---- a piece that was copied, and given back

named_first : (files : Option (List Entry)) (repo own name : List ℕ) → own ≡ name → IfSome files (λ all. IsFirstFree all repo name) → IfSome files (λ all. IsFirstFree all repo own)
named_first files repo own name named first = subst (λ (n : List ℕ). IfSome files (λ all. IsFirstFree all repo n)) (sym named) first

named_adds : (files mid : Option (List Entry)) (own name : List ℕ) → own ≡ name → AddsEmpty files name mid → AddsEmpty files own mid
named_adds files mid own name named adds = subst (λ (n : List ℕ). AddsEmpty files n mid) (sym named) adds

pub left_copied : {T E : Type 0} (files mid now : Option (List Entry)) (repo own name : List ℕ) (was told : Option Told) (r : Result T E) → own ≡ name → IfSome files (λ all. IsFirstFree all repo name) → AddsEmpty files name mid → IfSome files (λ _. was ≡ Some (synced []))
    → is_some told ≡ is_some was → OnOk r (TakesBack mid own told now) → OnErr r (now ≡ mid) → Turns files now (AddsPiece repo)
left_copied files mid now repo own name was told r named first adds empty tells back failed =
    let one = named_first files repo own name named first in
    left_piece files now repo own one (left_new files mid now own was told r (free_missing files repo own one) (named_adds files mid own name named adds) empty tells back failed)

pub made_copied : (files mid now : Option (List Entry)) (repo own name : List ℕ) (file was told : Option Told) (start end : ℕ) (digest : List ℕ) (row : PieceRow) → own ≡ name → IfSome files (λ all. IsFirstFree all repo name) → AddsEmpty files name mid
    → IfSome files (λ _. was ≡ Some (synced [])) → Copied file start (end - start) was told digest → TakesBack mid own told now → row ≡ row_with own start end digest
    → Turns files now (λ all n. (b : List ℕ) → Reads file b → HasPiece all n repo start end b row)
made_copied files mid now repo own name file was told start end digest row named first adds empty copied back rows =
    let one = named_first files repo own name named first in
    piece_made files now repo own file start end copied.bytes digest row (filled files mid now own copied.bytes was told (free_missing files repo own one) (named_adds files mid own name named adds) empty copied.kept back) one copied.read copied.is rows

-- ---- the piece that is due

none_less : (n : ℕ) → n - 0 ≡ n
none_less n = omega arith

pub made_full : (files now : Option (List Entry)) (repo : List ℕ) (file : Option Told) (n : ℕ) (row : PieceRow) (rows next : List PieceRow) (plan : BackupPlan) (done : Backed) → Turns files now (λ all m. (b : List ℕ) → Reads file b → HasPiece all m repo 0 n b row)
    → plan ≡ plans.Full n → next ≡ row ∷ [] → done ≡ backed.Full row.name n → Turns files now (λ all m. (b : List ℕ) → Reads file b → IsMade all m repo b rows plan (made.Piece next done))
made_full None now repo file n row rows next plan done turns is nexts dones = turns
made_full (Some all) now repo file n row rows next plan done (m, e, has) is nexts dones = (
  m,
  e,
  λ b reads. subst (λ (p : BackupPlan). IsMade all m repo b rows p (made.Piece next done)) (sym is) (
      let it = has b reads in
      (row.name, part 0 n b, (refl, nexts ∙ ap (λ (x : PieceRow). x ∷ []) it.is, dones), it.first, it.made ∙ ap (λ (k : ℕ). all ++ (row.name, part 0 k b) ∷ []) (none_less n))),
)

pub made_more : (files now : Option (List Entry)) (repo : List ℕ) (file : Option Told) (s n : ℕ) (row : PieceRow) (rows next : List PieceRow) (plan : BackupPlan) (done : Backed) → Turns files now (λ all m. (b : List ℕ) → Reads file b → HasPiece all m repo s n b row)
    → plan ≡ plans.More s n → next ≡ rows ++ row ∷ [] → done ≡ backed.More row.name (n - s) → Turns files now (λ all m. (b : List ℕ) → Reads file b → IsMade all m repo b rows plan (made.Piece next done))
made_more None now repo file s n row rows next plan done turns is nexts dones = turns
made_more (Some all) now repo file s n row rows next plan done (m, e, has) is nexts dones = (
  m,
  e,
  λ b reads. subst (λ (p : BackupPlan). IsMade all m repo b rows p (made.Piece next done)) (sym is) (
      let it = has b reads in
      (row.name, part s (n - s) b, (refl, nexts ∙ ap (λ (x : PieceRow). rows ++ x ∷ []) it.is, dones), it.first, it.made)),
)

pub makes_due : (r : Result Made BackupRefusal) (files mid now : Option (List Entry)) (repo index : List ℕ) (asked : Bool) (was told : Option Told) (rows : List PieceRow) (plan : BackupPlan) → mid ≡ files → told ≡ was
    → ((bytes : List ℕ) → Reads was bytes → IfSome files (λ all. IsDueOver all index asked bytes rows plan)) → IfOk r (λ it. Turns mid now (λ all n. (bytes : List ℕ) → Reads told bytes → IsMade all n repo bytes rows plan it))
    → IfOk r (λ it. Turns files now (λ all n. (bytes : List ℕ) → Reads was bytes → MakesDue all n repo index asked bytes it))
makes_due (Err e) files mid now repo index asked was told rows plan same still due makes = tt
makes_due (Ok it) None mid now repo index asked was told rows plan same still due makes = subst (λ (m : Option (List Entry)). Turns m now (λ all n. (bytes : List ℕ) → Reads told bytes → IsMade all n repo bytes rows plan it)) same makes
makes_due (Ok it) (Some all) mid now repo index asked was told rows plan same still due makes =
    let turns : Turns (Some all) now (λ x n. (bytes : List ℕ) → Reads told bytes → IsMade x n repo bytes rows plan it) = subst (λ (m : Option (List Entry)). Turns m now (λ x n. (bytes : List ℕ) → Reads told bytes → IsMade x n repo bytes rows plan it)) same makes in
    (turns.0, turns.1, λ bytes reads. record { rows = rows; plan = plan; due = due bytes reads; made = turns.2 bytes (subst (λ (o : Option Told). Reads o bytes) (sym still) reads) })

pub spends_due : (files mid : Option (List Entry)) (repo index : List ℕ) (asked : Bool) (rows : List PieceRow) (plan : BackupPlan) (bytes : List ℕ) → mid ≡ files → IfSome files (λ all. IsDueOver all index asked bytes rows plan) → (plan ≡ plans.Nothing → ⊥)
    → IfSome mid (λ all. AreSpent all repo) → IfSome files (λ all. SpendsDue all repo index asked bytes)
spends_due None mid repo index asked rows plan bytes same due some spent = tt
spends_due (Some all) mid repo index asked rows plan bytes same due some spent =
    record { rows = rows; plan = plan; due = due; some = some; spent = subst (λ (o : Option (List Entry)). IfSome o (λ x. AreSpent x repo)) same spent }
