-- Pieces that are open, against their rows.
use Rattle.std.proofs.Common.{◌≡◌, ◌++◌, ◌∙◌, ◌+◌, ◌-◌, ◌==◌, ◌&&◌, ℕ, Bool, true, false, List, [], ◌∷◌, length, length-append, get_or, take, Option, None, Some, Result, Ok, Err, IfSome, inl, inr, refl, sym, ap, subst, arith, eqb-true}
use Rattle.std.specs.Prelude.{IfOk}
use Rattle.std.specs.List.{AllByRecursion, concat}
use Rattle.std.specs.Option.{option_map}
use Rattle.std.specs.Prelude.{if◌then◌else◌}
use Rattle.std.specs.Str.{bytes_eq}
use Rattle.md5.specs.Md5.{md5}
use Rattle.zdisk.specs.Disk.{Told, content, synced}
use Rattle.zio.specs.Shelves.{Entry, file_at}
use Rattle.repozo.specs.declared.index.PieceRow.{PieceRow}
use Rattle.repozo.specs.Disks.{AllRead, AllRight, Reads}
use Rattle.repozo.specs.Index.{AreRows, Chained, HasLine, end_from, end_of}
use Rattle.repozo.specs.Pieces.{first_bad, is_right, size_of}
use Rattle.backups.specs.Opened.{IsMissingAt}
use Rattle.backups.specs.Restored.{Joins, LeavesOne, Turns}
use Rattle.backups.specs.Standing.{AreOpen, IsPresent, first_wrong, pieces_of}
use Rattle.backups.proofs.Closing.{at_more}

reads_held : (d : Option Told) (bytes : List ℕ) → d ≡ Some (synced bytes) → Reads d bytes
reads_held d bytes is = ap (option_map content) is

-- what the disks that are open read
pub read_open : (all : List Entry) (rows : List PieceRow) (ds : List (Option Told)) → AreOpen all rows ds → AllRead ds (take (length ds) (pieces_of all rows))
read_open all [] [] opens = tt
read_open all (r ∷ rs) [] opens = tt
read_open all [] (d ∷ ds) opens = absurd opens
read_open all (r ∷ rs) (d ∷ ds) opens =
    rw opens.0.1 (reads_held d opens.0.0 opens.0.2, read_open all rs ds opens.1)

pub read_all : (all : List Entry) (rows : List PieceRow) (ds : List (Option Told)) → length ds ≡ length rows → AreOpen all rows ds → AllRead ds (pieces_of all rows)
read_all all [] [] long opens = tt
read_all all (r ∷ rs) [] long opens = absurd (omega arith)
read_all all [] (d ∷ ds) long opens = absurd opens
read_all all (r ∷ rs) (d ∷ ds) long opens =
    rw opens.0.1 (reads_held d opens.0.0 opens.0.2, read_all all rs ds (omega (arith, long)) opens.1)

-- the first that is bad among those that are open is the first that is wrong
pub bad_is_wrong : (all : List Entry) (rows : List PieceRow) (ds : List (Option Told)) (name : List ℕ) → AreOpen all rows ds → first_bad rows (take (length ds) (pieces_of all rows)) ≡ Some name → first_wrong all rows ≡ Some name
bad_is_wrong all [] [] name opens bad = absurd cc
bad_is_wrong all (r ∷ rs) [] name opens bad = absurd cc
bad_is_wrong all [] (d ∷ ds) name opens bad = absurd opens
bad_is_wrong all (r ∷ rs) (d ∷ ds) name opens bad = go (is_right r opens.0.0) refl (rw opens.0.1 at bad) (bad_is_wrong all rs ds name opens.1)
  where
    go : (b : Bool) → is_right r opens.0.0 ≡ b → (if is_right r opens.0.0 then first_bad rs (take (length ds) (pieces_of all rs)) else Some r.name) ≡ Some name
        → (first_bad rs (take (length ds) (pieces_of all rs)) ≡ Some name → first_wrong all rs ≡ Some name) → first_wrong all (r ∷ rs) ≡ Some name
    go true e here rest = rw (opens.0.1, e) (rest (rw e at here))
    go false e here rest = rw (opens.0.1, e) (rw e at here)

right_of : (d : Option Told) (r : PieceRow) (bytes : List ℕ) → d ≡ Some (synced bytes) → IfSome d (λ t. is_right r (content t) ≡ true) → is_right r bytes ≡ true
right_of d r bytes is right = subst (λ (o : Option Told). IfSome o (λ t. is_right r (content t) ≡ true)) is right

-- behind those that are right one is missing: it is the first that is wrong
pub missing_is_wrong : (all : List Entry) (rows : List PieceRow) (ds : List (Option Told)) (e : PieceRow) → AreOpen all rows ds → AllRight ds rows → IsMissingAt all rows (length ds) → first_wrong all rows ≡ Some (get_or rows (length ds) e).name
missing_is_wrong all [] ds e opens right missing = absurd missing
missing_is_wrong all (r ∷ rs) [] e opens right missing = rw missing refl
missing_is_wrong all (r ∷ rs) (d ∷ ds) e opens right missing =
    rw (opens.0.1, right_of d r opens.0.0 opens.0.2 right.0) (missing_is_wrong all rs ds e opens.1 right.1 missing)

-- all are there and right
pub none_is_wrong : (all : List Entry) (rows : List PieceRow) (ds : List (Option Told)) → length ds ≡ length rows → AreOpen all rows ds → AllRight ds rows → first_wrong all rows ≡ None
none_is_wrong all [] [] long opens right = refl
none_is_wrong all (r ∷ rs) [] long opens right = absurd (omega arith)
none_is_wrong all [] (d ∷ ds) long opens right = absurd opens
none_is_wrong all (r ∷ rs) (d ∷ ds) long opens right =
    rw (opens.0.1, right_of d r opens.0.0 opens.0.2 right.0) (none_is_wrong all rs ds (omega (arith, long)) opens.1 right.1)

both_first : (a b : Bool) → a && b ≡ true → a ≡ true
both_first true b e = refl
both_first false b e = absurd cc

size_right : (r : PieceRow) (bytes : List ℕ) → is_right r bytes ≡ true → length bytes ≡ size_of r
size_right r bytes right = eqb-true (length bytes) (size_of r) (both_first (length bytes == size_of r) (bytes_eq (md5 bytes) r.md5) right)

-- right pieces are as long as their rows say
pub long_of : (all : List Entry) (rows : List PieceRow) (ds : List (Option Told)) (at : ℕ) → length ds ≡ length rows → AreOpen all rows ds → AllRight ds rows → AllByRecursion HasLine rows → Chained at rows
    → at + length (concat (pieces_of all rows)) ≡ end_from at rows
long_of all [] [] at long opens right lines chained = omega arith
long_of all (r ∷ rs) [] at long opens right lines chained = absurd (omega arith)
long_of all [] (d ∷ ds) at long opens right lines chained = absurd opens
long_of all (r ∷ rs) (d ∷ ds) at long opens right lines chained =
    let size : length opens.0.0 ≡ r.end - r.start = size_right r opens.0.0 (right_of d r opens.0.0 opens.0.2 right.0) in
    let rest : r.end + length (concat (pieces_of all rs)) ≡ end_from r.end rs = long_of all rs ds r.end (omega (arith, long)) opens.1 right.1 lines.1 chained.1 in
    let sum : at + (length opens.0.0 + length (concat (pieces_of all rs))) ≡ r.end + length (concat (pieces_of all rs)) = omega (arith, size, chained.0, lines.0.some) in
    rw opens.0.1 (ap (λ (n : ℕ). at + n) (length-append opens.0.0 (concat (pieces_of all rs))) ∙ sum ∙ rest)

-- a new file leaves them opens
pub open_still : (all : List Entry) (rows : List PieceRow) (ds : List (Option Told)) (x : Entry) → AreOpen all rows ds → AreOpen (all ++ x ∷ []) rows ds
open_still all [] [] x opens = tt
open_still all (r ∷ rs) [] x opens = tt
open_still all [] (d ∷ ds) x opens = absurd opens
open_still all (r ∷ rs) (d ∷ ds) x opens = ((opens.0.0, at_more all r.name opens.0.0 x opens.0.1, opens.0.2), open_still all rs ds x opens.1)

-- ---- where a shelf tells

pub bad_told : (files : Option (List Entry)) (rows : List PieceRow) (ds : List (Option Told)) (name : List ℕ) → IfSome files (λ all. AreOpen all rows ds) → ((held : List (List ℕ)) → AllRead ds held → first_bad rows held ≡ Some name) → IfSome files (λ all. first_wrong all rows ≡ Some name)
bad_told None rows ds name opens bad = tt
bad_told (Some all) rows ds name opens bad = bad_is_wrong all rows ds name opens (bad (take (length ds) (pieces_of all rows)) (read_open all rows ds opens))

pub missing_told : (files : Option (List Entry)) (rows : List PieceRow) (ds : List (Option Told)) (e : PieceRow) (n : ℕ) (name : List ℕ) → n ≡ length ds → (get_or rows n e).name ≡ name → IfSome files (λ all. AreOpen all rows ds) → AllRight ds rows → IfSome files (λ all. IsMissingAt all rows n)
    → IfSome files (λ all. first_wrong all rows ≡ Some name)
missing_told None rows ds e n name long is opens right missing = tt
missing_told (Some all) rows ds e n name long is opens right missing =
    missing_is_wrong all rows ds e opens right (subst (IsMissingAt all rows) long missing)
    ∙ ap (λ (x : List ℕ). Some x) (ap (λ (k : ℕ). (get_or rows k e).name) (sym long) ∙ is)

pub joined : {E : Type 0} (r : Result ℕ E) (files mid now : Option (List Entry)) (rows : List PieceRow) (out : List ℕ) (ds : List (Option Told)) → mid ≡ files → IfSome files (λ all. AreOpen all rows ds) → length ds ≡ length rows → AllRight ds rows → AreRows rows
    → IfOk r (λ size. (held : List (List ℕ)) → AllRead ds held → Turns mid now (λ all n. (file_at all out ≡ None) × (n ≡ all ++ (out, concat held) ∷ []))) → IfOk r (λ size. size ≡ end_of rows) → Turns mid now (LeavesOne out)
    → IfOk r (λ size. Turns files now (λ all n. Joins all n rows out size))
joined (Err e) files mid now rows out ds same opens long right rules made size left = tt
joined (Ok size) None mid now rows out ds same opens long right rules made is left = subst (λ (m : Option (List Entry)). Turns m now (LeavesOne out)) same left
joined (Ok size) (Some all) mid now rows out ds same opens long right rules made is left =
    let it : Turns (Some all) now (λ x n. (file_at x out ≡ None) × (n ≡ x ++ (out, concat (pieces_of all rows)) ∷ [])) =
    subst (λ (m : Option (List Entry)). Turns m now (λ x n. (file_at x out ≡ None) × (n ≡ x ++ (out, concat (pieces_of all rows)) ∷ []))) same (made (pieces_of all rows) (read_all all rows ds long opens)) in
    let whole : 0 + length (concat (pieces_of all rows)) ≡ end_from 0 rows = long_of all rows ds 0 long opens right rules.lines rules.chained in
    (it.0, it.1, record { right = none_is_wrong all rows ds long opens right; absent = it.2.0; made = it.2.1; long = omega (arith, whole, is) })

pub exists_right : (files mid : Option (List Entry)) (rows : List PieceRow) (out : List ℕ) (ds : List (Option Told)) → mid ≡ files → IfSome files (λ all. AreOpen all rows ds) → length ds ≡ length rows → AllRight ds rows → IsPresent mid out
    → IfSome files (λ all. (first_wrong all rows ≡ None) × (file_at all out ≡ None → ⊥))
exists_right None mid rows out ds same opens long right there = tt
exists_right (Some all) mid rows out ds same opens long right there = (none_is_wrong all rows ds long opens right, subst (λ (m : Option (List Entry)). IsPresent m out) same there)

pub still_open : (files mid now : Option (List Entry)) (rows : List PieceRow) (out : List ℕ) (ds : List (Option Told)) → mid ≡ files → IfSome files (λ all. AreOpen all rows ds) → Turns mid now (LeavesOne out) → IfSome now (λ all. AreOpen all rows ds)
still_open files mid now rows out ds same opens left = go files opens (subst (λ (m : Option (List Entry)). Turns m now (LeavesOne out)) same left)
  where
    more : (all n : List Entry) → AreOpen all rows ds → LeavesOne out all n → AreOpen n rows ds
    more all n opens (inl same) = subst (λ (x : List Entry). AreOpen x rows ds) (sym same) opens
    more all n opens (inr (none, bytes, is)) = subst (λ (x : List Entry). AreOpen x rows ds) (sym is) (open_still all rows ds (out, bytes) opens)

    go : (f : Option (List Entry)) → IfSome f (λ all. AreOpen all rows ds) → Turns f now (LeavesOne out) → IfSome now (λ all. AreOpen all rows ds)
    go None opens left = subst (λ (m : Option (List Entry)). IfSome m (λ all. AreOpen all rows ds)) (sym left) tt
    go (Some all) opens left = subst (λ (m : Option (List Entry)). IfSome m (λ x. AreOpen x rows ds)) (sym left.1) (more all left.0 opens left.2)
