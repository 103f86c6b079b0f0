-- What a backup made, why it was refused, and what it leaves.
use Rattle.std.proofs.Common.{◌≡◌, ◌≤◌, ◌∙◌, ℕ, Bool, List, length, Option, None, Some, Result, Ok, Err, IfSome, inl, inr, refl, sym, ap, subst}
use Rattle.std.specs.Prelude.{IfErr, IsErrOf}
use Rattle.zdisk.specs.Disk.{Told, content}
use Rattle.fs_record.specs.declared.layout.TheConstants.{MAX_LENGTH}
use Rattle.zio.specs.Shelves.{Entry, file_at}
use Rattle.repozo.specs.declared.index.PieceRow.{PieceRow}
use Rattle.repozo.specs.declared.planning.BackupPlan.{BackupPlan}
use Rattle.repozo.specs.declared.planning.BackupPlan.TheVariants as plans
use Rattle.repozo.specs.Disks.{Reads}
use Rattle.repozo.specs.Index.{index_text}
use Rattle.backups.specs.declared.backed.Backed.{Backed}
use Rattle.backups.specs.declared.backed.Backed.TheVariants as backed
use Rattle.backups.specs.declared.backed.Made.{Made}
use Rattle.backups.specs.declared.backed.Made.TheVariants as made
use Rattle.backups.specs.declared.refusal.BackupRefusal.{BackupRefusal}
use Rattle.backups.specs.declared.refusal.BackupRefusal.TheVariants as refusals
use Rattle.backups.specs.BackedUp.{AddsIndex, AreSpent, BackedUp, BackupCause, Fits, HasDue, HasFile, IsDueOver, IsNext, IsUnmade, LeavesOld, Puts, Spends, Turned}
use Rattle.backups.specs.Names.{index_name}
use Rattle.backups.specs.Putting.{FileCause, IsEarly, IsOfNaming, MakesDue, SpendsDue}
use Rattle.backups.specs.Restored.{Turns}

-- ---- the file

some_as : (a b : List ℕ) → Some a ≡ Some b → a ≡ b
some_as a b e = cc

-- a file is as long as its disk says
pub fits_read : (told : Option Told) (n : ℕ) (bytes : List ℕ) → IfSome told (λ t. n ≡ length (content t)) → n ≤ MAX_LENGTH → Reads told bytes → Fits bytes
fits_read None n bytes is le reads = absurd cc
fits_read (Some t) n bytes is le reads = subst (λ (k : ℕ). k ≤ MAX_LENGTH) (is ∙ ap length (some_as (content t) bytes reads)) le

pub fits_told : (told : Option Told) (n : ℕ) (P : List ℕ → Type 0) → IfSome told (λ t. n ≡ length (content t)) → n ≤ MAX_LENGTH → IfSome told (λ t. P (content t)) → IfSome told (λ t. Fits (content t) × P (content t))
fits_told None n P is le so = tt
fits_told (Some t) n P is le so = (subst (λ (k : ℕ). k ≤ MAX_LENGTH) is le, so)

-- ---- refusals

-- of a naming only the names that are spent come before anything is made
pub early_names : {T : Type 0} (r : Result T BackupRefusal) (P : Type 0) → IfErr r IsOfNaming → (IsErrOf r refusals.NamesSpent → P) → IfErr r (λ refusal. IsEarly refusal → P)
early_names (Ok x) P of so = tt
early_names (Err refusals.Missing) P of so = absurd of
early_names (Err (refusals.TooLong n)) P of so = absurd of
early_names (Err (refusals.Damaged kind place)) P of so = absurd of
early_names (Err refusals.NamesSpent) P of so = λ early. so refl
early_names (Err refusals.Disk) P of so = λ early. absurd early
early_names (Err refusals.Memory) P of so = λ early. absurd early

-- ---- what was made

pub backed_nothing : (file repo index : List ℕ) (asked : Bool) (all now : List Entry) → index ≡ index_name repo → HasFile all file (λ bytes. Fits bytes × MakesDue all now repo index asked bytes made.Nothing) → BackedUp all now file repo asked backed.Nothing
backed_nothing file repo index asked all now named (bytes, there, (fits, due)) = record {
  bytes = bytes;
  there = there;
  fits = fits;
  rows = due.rows;
  plan = due.plan;
  due = subst (λ (i : List ℕ). IsDueOver all i asked bytes due.rows due.plan) named due.due;
  did = inl (due.made.0, refl, due.made.1);
}

-- the piece, and an index that names it
pub backed_piece : (file repo index text : List ℕ) (asked : Bool) (all mid now : List Entry) (next : List PieceRow) (done : Backed) → index ≡ index_name repo → text ≡ index_text next
    → HasFile all file (λ bytes. Fits bytes × MakesDue all mid repo index asked bytes (made.Piece next done)) → Puts index text mid now → BackedUp all now file repo asked done
backed_piece file repo index text asked all mid now next done named is (bytes, there, (fits, due)) puts =
    let (name, piece, nexts, first, mids) = due.made in
    record {
      bytes = bytes;
      there = there;
      fits = fits;
      rows = due.rows;
      plan = due.plan;
      due = subst (λ (i : List ℕ). IsDueOver all i asked bytes due.rows due.plan) named due.due;
      did = inr (record {
        name = name;
        piece = piece;
        next = next;
        is = nexts;
        first = first;
        files = subst (λ (m : List Entry). Puts (index_name repo) (index_text next) m now) mids (subst (λ (i : List ℕ). Puts i (index_text next) mid now) named (subst (λ (t : List ℕ). Puts index t mid now) is puts));
      });
    }

-- ---- what it leaves

pub leaves_whole : (file repo index : List ℕ) (asked : Bool) (all mid now : List Entry) (next : List PieceRow) (done : Backed) → index ≡ index_name repo
    → HasFile all file (λ bytes. Fits bytes × MakesDue all mid repo index asked bytes (made.Piece next done)) → AddsIndex index mid now → LeavesOld file repo asked all now
leaves_whole file repo index asked all mid now next done named (bytes, there, (fits, due)) adds =
    let (name, piece, nexts, first, mids) = due.made in
    inr (record {
      bytes = bytes;
      there = there;
      fits = fits;
      rows = due.rows;
      plan = due.plan;
      due = subst (λ (i : List ℕ). IsDueOver all i asked bytes due.rows due.plan) named due.due;
      name = name;
      piece = piece;
      next = next;
      done = done;
      is = nexts;
      first = first;
      index = subst (λ (m : List Entry). AddsIndex (index_name repo) m now) mids (subst (λ (i : List ℕ). AddsIndex i mid now) named adds);
    })

-- ---- why it was refused

next_is_due : (bytes : List ℕ) (rows : List PieceRow) (plan : BackupPlan) (name piece : List ℕ) (next : List PieceRow) (done : Backed) → IsNext bytes rows plan name piece next done → plan ≡ plans.Nothing → ⊥
next_is_due bytes rows plans.Nothing name piece next done is e = is
next_is_due bytes rows (plans.Full n) name piece next done is e = absurd cc
next_is_due bytes rows (plans.More s n) name piece next done is e = absurd cc

-- the names of the index are spent
pub spends_index : (file repo index : List ℕ) (asked : Bool) (all mid now : List Entry) (next : List PieceRow) (done : Backed) → index ≡ index_name repo
    → HasFile all file (λ bytes. Fits bytes × MakesDue all mid repo index asked bytes (made.Piece next done)) → now ≡ mid → (file_at mid index ≡ None → ⊥) → AreSpent mid index
    → HasDue all file repo asked × Spends all (Some now) repo
spends_index file repo index asked all mid now next done named (bytes, there, (fits, due)) same present spent =
    let (name, piece, nexts, first, mids) = due.made in (
      record {
        bytes = bytes;
        there = there;
        fits = fits;
        rows = due.rows;
        plan = due.plan;
        due = subst (λ (i : List ℕ). IsDueOver all i asked bytes due.rows due.plan) named due.due;
        some = next_is_due bytes due.rows due.plan name piece next done nexts;
      },
      inr (record {
        name = name;
        piece = piece;
        first = first;
        made = ap (λ (m : List Entry). Some m) (same ∙ mids);
        there = subst (λ (m : List Entry). file_at m (index_name repo) ≡ None → ⊥) mids (subst (λ (i : List ℕ). file_at mid i ≡ None → ⊥) named present);
        spent = subst (λ (m : List Entry). AreSpent m (index_name repo)) mids (subst (AreSpent mid) named spent);
      }),
    )

-- those of the piece are
pub spends_piece : (file repo index : List ℕ) (asked : Bool) (files now : Option (List Entry)) → index ≡ index_name repo → now ≡ files
    → IfSome files (λ all. HasFile all file (λ bytes. Fits bytes × SpendsDue all repo index asked bytes)) → IfSome files (λ all. HasDue all file repo asked × Spends all now repo)
spends_piece file repo index asked None now named same spends = tt
spends_piece file repo index asked (Some all) now named same (bytes, there, (fits, due)) = (
  record {
    bytes = bytes;
    there = there;
    fits = fits;
    rows = due.rows;
    plan = due.plan;
    due = subst (λ (i : List ℕ). IsDueOver all i asked bytes due.rows due.plan) named due.due;
    some = due.some;
  },
  inl (due.spent, same),
)

pub file_cause : (r : BackupRefusal) (file repo index : List ℕ) (asked : Bool) (files now : Option (List Entry)) (failed : Type 0) → index ≡ index_name repo → FileCause file repo index asked files r → (IsEarly r → now ≡ files) → (r ≡ refusals.Disk → failed)
    → BackupCause file repo asked files now failed r
file_cause refusals.Missing file repo index asked files now failed named cause same fault = cause
file_cause (refusals.TooLong n) file repo index asked files now failed named cause same fault = cause
file_cause (refusals.Damaged kind place) file repo index asked files now failed named cause same fault = cause
file_cause refusals.NamesSpent file repo index asked files now failed named cause same fault = spends_piece file repo index asked files now named (same tt) cause
file_cause refusals.Disk file repo index asked files now failed named cause same fault = fault refl
file_cause refusals.Memory file repo index asked files now failed named cause same fault = tt

pub names_cause : (e : BackupRefusal) (file repo : List ℕ) (asked : Bool) (files now : Option (List Entry)) (failed : Type 0) → IsOfNaming e → (e ≡ refusals.NamesSpent → IfSome files (λ all. HasDue all file repo asked × Spends all now repo)) → (e ≡ refusals.Disk → failed)
    → BackupCause file repo asked files now failed e
names_cause refusals.Missing file repo asked files now failed of spent fault = absurd of
names_cause (refusals.TooLong n) file repo asked files now failed of spent fault = absurd of
names_cause (refusals.Damaged kind place) file repo asked files now failed of spent fault = absurd of
names_cause refusals.NamesSpent file repo asked files now failed of spent fault = spent refl
names_cause refusals.Disk file repo asked files now failed of spent fault = fault refl
names_cause refusals.Memory file repo asked files now failed of spent fault = tt

-- ---- where a shelf tells

abbrev pub Makes : Option (List Entry) → Option (List Entry) → List ℕ → List ℕ → List ℕ → Bool → Made → Type 0
Makes files mid file repo index asked it = Turns files mid (λ all n. HasFile all file (λ bytes. Fits bytes × MakesDue all n repo index asked bytes it))

pub spends_after : (files mid now : Option (List Entry)) (file repo index : List ℕ) (asked : Bool) (next : List PieceRow) (done : Backed) → index ≡ index_name repo → Makes files mid file repo index asked (made.Piece next done)
    → Turned mid now (λ a n. (n ≡ a) × (file_at a index ≡ None → ⊥) × AreSpent a index) → IfSome files (λ all. HasDue all file repo asked × Spends all now repo)
spends_after None mid now file repo index asked next done named makes spent = tt
spends_after (Some all) mid now file repo index asked next done named (m, e, has) spent =
    let it : Turned (Some m) now (λ a n. (n ≡ a) × (file_at a index ≡ None → ⊥) × AreSpent a index) = subst (λ (o : Option (List Entry)). Turned o now (λ a n. (n ≡ a) × (file_at a index ≡ None → ⊥) × AreSpent a index)) e spent in
    subst (λ (o : Option (List Entry)). HasDue all file repo asked × Spends all o repo) (sym it.1) (spends_index file repo index asked all m it.0 next done named has it.2.0 it.2.1 it.2.2)

pub left_after : (files mid now : Option (List Entry)) (file repo index : List ℕ) (asked : Bool) (next : List PieceRow) (done : Backed) → index ≡ index_name repo → Makes files mid file repo index asked (made.Piece next done) → Turned mid now (AddsIndex index)
    → Turned files now (LeavesOld file repo asked)
left_after None mid now file repo index asked next done named makes adds = tt
left_after (Some all) mid now file repo index asked next done named (m, e, has) adds =
    let it : Turned (Some m) now (AddsIndex index) = subst (λ (o : Option (List Entry)). Turned o now (AddsIndex index)) e adds in
    (it.0, it.1, leaves_whole file repo index asked all m it.0 next done named has it.2)

pub backed_after : (files mid now : Option (List Entry)) (file repo index text : List ℕ) (asked : Bool) (next : List PieceRow) (done : Backed) → index ≡ index_name repo → text ≡ index_text next → Makes files mid file repo index asked (made.Piece next done) → Turned mid now (Puts index text)
    → Turned files now (λ all n. BackedUp all n file repo asked done)
backed_after None mid now file repo index text asked next done named is makes puts = tt
backed_after (Some all) mid now file repo index text asked next done named is (m, e, has) puts =
    let it : Turned (Some m) now (Puts index text) = subst (λ (o : Option (List Entry)). Turned o now (Puts index text)) e puts in
    (it.0, it.1, backed_piece file repo index text asked all m it.0 next done named is has it.2)

pub nothing_after : (files now : Option (List Entry)) (file repo index : List ℕ) (asked : Bool) → index ≡ index_name repo → Makes files now file repo index asked made.Nothing → Turned files now (λ all n. BackedUp all n file repo asked backed.Nothing)
nothing_after None now file repo index asked named makes = tt
nothing_after (Some all) now file repo index asked named (m, e, has) = (m, e, backed_nothing file repo index asked all m named has)

pub left_piece_made : (files mid : Option (List Entry)) (file repo index : List ℕ) (asked : Bool) (next : List PieceRow) (done : Backed) → index ≡ index_name repo → Makes files mid file repo index asked (made.Piece next done) → Turned files mid (LeavesOld file repo asked)
left_piece_made None mid file repo index asked next done named makes = tt
left_piece_made (Some all) mid file repo index asked next done named (m, e, has) = (m, e, leaves_whole file repo index asked all m m next done named has (inl refl))

pub early_made : (r : BackupRefusal) (P : Type 0) → (IsEarly r → P) → IsUnmade r → P
early_made refusals.Missing P so un = so tt
early_made (refusals.TooLong n) P so un = so tt
early_made (refusals.Damaged kind place) P so un = so tt
early_made refusals.NamesSpent P so un = absurd un
early_made refusals.Disk P so un = absurd un
early_made refusals.Memory P so un = absurd un

pub if_with : (o : Option (List Entry)) (P : Type 0) (Q : List Entry → Type 0) → P → IfSome o Q → IfSome o (λ a. P × Q a)
if_with None P Q p q = tt
if_with (Some a) P Q p q = (p, q)
