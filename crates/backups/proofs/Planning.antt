-- What is due over the pieces of an index, or over none.
use Rattle.std.proofs.Common.{◌≡◌, ◌∙◌, ◌<◌, ℕ, zero, suc, Bool, true, List, [], ◌∷◌, ◌⊎◌, length, Option, None, Some, IfSome, inl, inr, refl, sym, subst, arith}
use Rattle.zbase.specs.Faults.{Counter, Rose}
use Rattle.std.proofs.Common.{Result, Ok, Err}
use Rattle.std.specs.Prelude.{IfOk}
use Rattle.zdisk.specs.Disk.{Told}
use Rattle.zio.specs.Shelves.{Entry, file_at}
use Rattle.repozo.specs.declared.index.PieceRow.{PieceRow}
use Rattle.repozo.specs.declared.planning.BackupPlan.{BackupPlan}
use Rattle.repozo.specs.BadLines.{IsBadAt}
use Rattle.repozo.specs.Disks.{AllRead, Reads}
use Rattle.repozo.specs.Index.{IsIndex}
use Rattle.repozo.specs.Pieces.{IsDue}
use Rattle.repozo.specs.declared.refusal.RepoRefusal.{RepoRefusal}
use Rattle.repozo.specs.declared.refusal.RepoRefusal.TheVariants as repo
use Rattle.backups.specs.declared.refusal.BackupRefusal.{BackupRefusal}
use Rattle.backups.specs.declared.refusal.BackupRefusal.TheVariants as backup
use Rattle.backups.specs.declared.planned.Due.{Due}
use Rattle.backups.specs.Calls.{Calls}
use Rattle.backups.specs.BackedUp.{IsDueOver}
use Rattle.backups.specs.Opened.{IsMissingAt}
use Rattle.backups.specs.Putting.{IsPlanned, IsStanding, IsToldAs}
use Rattle.backups.specs.Standing.{AreOpen, AreThere, HasBadIndex, HasIndex, IsMissing, pieces_of}
use Rattle.backups.proofs.Joining.{read_all}

there_of : (all : List Entry) (rows : List PieceRow) (ds : List (Option Told)) → length ds ≡ length rows → AreOpen all rows ds → AreThere all rows
there_of all [] [] long opens = refl
there_of all (r ∷ rs) [] long opens = absurd (omega (arith, long))
there_of all [] (d ∷ ds) long opens = absurd opens
there_of all (r ∷ rs) (d ∷ ds) long opens = let rest : length (pieces_of all rs) ≡ length rs = there_of all rs ds (omega (arith, long)) opens.1 in rw opens.0.1 (omega (arith, rest))

pub planned_over : (files : Option (List Entry)) (rows : List PieceRow) (ds : List (Option Told)) (P : List (List ℕ) → Type 0) → IfSome files (λ all. AreOpen all rows ds) → length ds ≡ length rows → ((held : List (List ℕ)) → AllRead ds held → P held)
    → IfSome files (λ all. AreThere all rows × P (pieces_of all rows))
planned_over None rows ds P opens long so = tt
planned_over (Some all) rows ds P opens long so = (there_of all rows ds long opens, so (pieces_of all rows) (read_all all rows ds long opens))

short : (all : List Entry) (rows : List PieceRow) (n : ℕ) → IsMissingAt all rows n → length (pieces_of all rows) < length rows
short all [] n missing = absurd missing
short all (r ∷ rs) zero missing = rw missing (omega arith)
short all (r ∷ rs) (suc n) missing = go (file_at all r.name) refl (short all rs n missing)
  where
    go : (f : Option (List ℕ)) → file_at all r.name ≡ f → length (pieces_of all rs) < length rs → length (pieces_of all (r ∷ rs)) < length (r ∷ rs)
    go None e lt = rw e (omega arith)
    go (Some bytes) e lt = rw e (omega (arith, lt))

pub not_there : (files : Option (List Entry)) (rows : List PieceRow) (n : ℕ) → IfSome files (λ all. IsMissingAt all rows n) → IfSome files (λ all. AreThere all rows → ⊥)
not_there None rows n missing = tt
not_there (Some all) rows n missing = λ there. (let lt = short all rows n missing in absurd (omega (arith, lt, there)))

-- ---- the index

some_same : (o : Option (List ℕ)) (a b : List ℕ) → o ≡ Some a → o ≡ Some b → a ≡ b
some_same o a b p q = cc

pub none_stands : (files : Option (List Entry)) (index : List ℕ) → IsMissing files index → IfSome files (λ all. IsStanding all index None)
none_stands None index missing = tt
none_stands (Some all) index missing = λ rows has. (let there : file_at all index ≡ Some has.text = has.there in let both : None ≡ Some has.text = sym missing ∙ there in absurd cc)

pub bad_stands : (files : Option (List Entry)) (index : List ℕ) (n : ℕ) → ((text : List ℕ) (rows : List PieceRow) (m : ℕ) → IsIndex text rows → IsBadAt text m → ⊥) → IfSome files (λ all. HasBadIndex all index n) → IfSome files (λ all. IsStanding all index None)
bad_stands None index n law bad = tt
bad_stands (Some all) index n law bad = λ rows has. law has.text rows n has.is (subst (λ (t : List ℕ). IsBadAt t n) (some_same (file_at all index) bad.text has.text bad.there has.there) bad.bad)

-- ---- what is due

pub over_stands : (files : Option (List Entry)) (index : List ℕ) (asked : Bool) (bytes : List ℕ) (rows : List PieceRow) (plan : BackupPlan) → IfSome files (λ all. HasIndex all index rows) → IfSome files (λ all. IsPlanned all rows asked bytes (Some plan))
    → IfSome files (λ all. IsDueOver all index asked bytes rows plan)
over_stands None index asked bytes rows plan has planned = tt
over_stands (Some all) index asked bytes rows plan has planned = record { full = asked; over = inl (has, planned.0, refl); due = planned.1 }

pub over_none : (files : Option (List Entry)) (index : List ℕ) (asked : Bool) (bytes : List ℕ) (rows : List PieceRow) (plan : BackupPlan) → IfSome files (λ all. (rs : List PieceRow) → HasIndex all index rs → AreThere all rs → ⊥) → rows ≡ [] → IsDue true [] [] bytes plan
    → IfSome files (λ all. IsDueOver all index asked bytes rows plan)
over_none None index asked bytes rows plan none is due = tt
over_none (Some all) index asked bytes rows plan none is due = subst (λ (rs : List PieceRow). IsDueOver all index asked bytes rs plan) (sym is) (record { full = true; over = inr (none, refl, refl); due = due })

pub no_index : (files : Option (List Entry)) (index : List ℕ) → IfSome files (λ all. IsStanding all index None) → IfSome files (λ all. (rs : List PieceRow) → HasIndex all index rs → AreThere all rs → ⊥)
no_index None index none = tt
no_index (Some all) index none = λ rs has there. none rs has

-- an index has one list of rows, so one whose piece is missing stands for nothing
pub no_pieces : (files : Option (List Entry)) (index : List ℕ) (rows : List PieceRow) → ((text : List ℕ) (a b : List PieceRow) → IsIndex text a → IsIndex text b → a ≡ b) → IfSome files (λ all. HasIndex all index rows) → IfSome files (λ all. AreThere all rows → ⊥)
    → IfSome files (λ all. (rs : List PieceRow) → HasIndex all index rs → AreThere all rs → ⊥)
no_pieces None index rows law has none = tt
no_pieces (Some all) index rows law has none = λ rs other there.
    none (subst (AreThere all) (law has.text rs rows (subst (λ (t : List ℕ). IsIndex t rs) (some_same (file_at all index) other.text has.text other.there has.there) other.is) has.is) there)

-- ---- faults

-- calls of a shelf, beside something that stays so
pub calls_beside : {S T X Y : Type 0} {a b : Counter} {F G : Type 0} → Calls S T a b F → (X → Y) → (G → F) → Calls (S × X) (T × Y) a b G
calls_beside {S} {T} {X} {Y} {a} {b} {F} {G} calls stays so = record { later = calls.later; sound = λ s. (calls.sound s.0, stays s.1); cause = λ g. go (calls.cause (so g)) }
  where
    go : Rose a b ⊎ (S → ⊥) → Rose a b ⊎ (S × X → ⊥)
    go (inl rose) = inl rose
    go (inr not) = inr (λ s. not s.0)

-- and before which something is so
pub calls_first : {S T X : Type 0} {a b : Counter} {F G : Type 0} → Calls S T a b F → (G → F) → Calls (S × X) T a b G
calls_first {S} {T} {X} {a} {b} {F} {G} calls so = record { later = calls.later; sound = λ s. calls.sound s.0; cause = λ g. go (calls.cause (so g)) }
  where
    go : Rose a b ⊎ (S → ⊥) → Rose a b ⊎ (S × X → ⊥)
    go (inl rose) = inl rose
    go (inr not) = inr (λ s. not s.0)

-- where less is asked before it
pub calls_before : {S T X Y : Type 0} {a b : Counter} {F : Type 0} → Calls (S × Y) T a b F → (X → Y) → Calls (S × X) T a b F
calls_before {S} {T} {X} {Y} {a} {b} {F} calls stays = record { later = calls.later; sound = λ s. calls.sound (s.0, stays s.1); cause = λ f. go (calls.cause f) }
  where
    go : Rose a b ⊎ (S × Y → ⊥) → Rose a b ⊎ (S × X → ⊥)
    go (inl rose) = inl rose
    go (inr not) = inr (λ s. not (s.0, stays s.1))

-- a refusal of a plan, or of a copy, that is told as a fault is one of a disk
pub of_plan : (r : RepoRefusal) (told : BackupRefusal) → IsToldAs r told → told ≡ backup.Disk → (r ≡ repo.File) ⊎ (r ≡ repo.Piece)
of_plan repo.File told is e = inl refl
of_plan repo.Piece told is e = inr refl
of_plan repo.Memory told is e = absurd cc
of_plan (repo.Damaged kind place) told is e = absurd cc
of_plan (repo.BadPiece name) told is e = absurd is
of_plan repo.Out told is e = absurd is

-- ---- all of it

pub over_whole : (r : Result Due BackupRefusal) (files : Option (List Entry)) (index : List ℕ) (asked : Bool) (was told : Option Told) → told ≡ was
    → ((bytes : List ℕ) → Reads was bytes → IfSome files (λ all. (rs : List PieceRow) → HasIndex all index rs → AreThere all rs → ⊥)) → IfOk r (λ due. due.rows ≡ []) → IfOk r (λ due. (bytes : List ℕ) → Reads told bytes → IsDue true [] [] bytes due.plan)
    → IfOk r (λ due. (bytes : List ℕ) → Reads was bytes → IfSome files (λ all. IsDueOver all index asked bytes due.rows due.plan))
over_whole (Err e) files index asked was told same none empty is = tt
over_whole (Ok due) files index asked was told same none empty is = λ bytes reads.
    over_none files index asked bytes due.rows due.plan (none bytes reads) empty (is bytes (subst (λ (o : Option Told). Reads o bytes) (sym same) reads))

-- ---- by the answers of the parts

pub over_due : (files mid : Option (List Entry)) (index : List ℕ) (asked : Bool) (bytes : List ℕ) (rows inner : List PieceRow) (o : Option (List PieceRow)) (plan : BackupPlan) (p : Option BackupPlan) → mid ≡ files → o ≡ Some rows → inner ≡ rows → p ≡ Some plan
    → IfSome files (λ all. IsStanding all index o) → IfSome mid (λ all. IsPlanned all inner asked bytes p) → IfSome files (λ all. IsDueOver all index asked bytes rows plan)
over_due files mid index asked bytes rows inner o plan p same is within ps stands planned =
    over_stands files index asked bytes rows plan (subst (λ (x : Option (List PieceRow)). IfSome files (λ all. IsStanding all index x)) is stands)
    (subst (λ (x : Option BackupPlan). IfSome files (λ all. IsPlanned all rows asked bytes x)) ps (subst (λ (rs : List PieceRow). IfSome files (λ all. IsPlanned all rs asked bytes p)) within
    (subst (λ (f : Option (List Entry)). IfSome f (λ all. IsPlanned all inner asked bytes p)) same planned)))

pub no_pieces_due : (files mid : Option (List Entry)) (index : List ℕ) (asked : Bool) (bytes : List ℕ) (rows inner : List PieceRow) (o : Option (List PieceRow)) (p : Option BackupPlan) → ((text : List ℕ) (a b : List PieceRow) → IsIndex text a → IsIndex text b → a ≡ b)
    → mid ≡ files → o ≡ Some rows → inner ≡ rows → p ≡ None → IfSome files (λ all. IsStanding all index o) → IfSome mid (λ all. IsPlanned all inner asked bytes p)
    → IfSome files (λ all. (rs : List PieceRow) → HasIndex all index rs → AreThere all rs → ⊥)
no_pieces_due files mid index asked bytes rows inner o p law same is within ps stands planned =
    no_pieces files index rows law (subst (λ (x : Option (List PieceRow)). IfSome files (λ all. IsStanding all index x)) is stands)
    (subst (λ (x : Option BackupPlan). IfSome files (λ all. IsPlanned all rows asked bytes x)) ps (subst (λ (rs : List PieceRow). IfSome files (λ all. IsPlanned all rs asked bytes p)) within
    (subst (λ (f : Option (List Entry)). IfSome f (λ all. IsPlanned all inner asked bytes p)) same planned)))

pub no_index_of : (files : Option (List Entry)) (index : List ℕ) (o : Option (List PieceRow)) → o ≡ None → IfSome files (λ all. IsStanding all index o) → IfSome files (λ all. (rs : List PieceRow) → HasIndex all index rs → AreThere all rs → ⊥)
no_index_of files index o none stands = no_index files index (subst (λ (x : Option (List PieceRow)). IfSome files (λ all. IsStanding all index x)) none stands)

pub none_of : (o : Option (List PieceRow)) → ((rows : List PieceRow) → o ≡ Some rows → ⊥) → o ≡ None
none_of None others = refl
none_of (Some rows) others = absurd (others rows refl)
