-- A step over a transaction, by the pieces of the file that were read.
use Rattle.std.proofs.Common.{◌≡◌, ℕ, ◌+◌, ◌-◌, ◌^◌, ◌<◌, Bool, true, false, cond, List, [], ◌++◌, length, take, drop, Option, Some, None, IfSome, IfOk, Result, Ok, Err, refl, sym, ap, subst, ◌∙◌, append-nil, arith, inl}
use Rattle.std.specs.Prelude.{◌&&◌, min, nat_lt}
use Rattle.std.specs.Option.{ForSome}
use Rattle.std.specs.List.{All, flat_map}
use Rattle.std.proofs.lemmas.Bool.{false≢true, ltb-true}
use Rattle.std.proofs.lemmas.List.{drop-drop, drop_all, length-drop, take-append-drop}
use Rattle.zbase.specs.Numbers.{be64}
use Rattle.zbase.specs.declared.ids.Row.{Row}
use Rattle.zdisk.specs.Disk.{Told, bytes_at, content}
use Rattle.fs_record.specs.Spelling.{data_spelling}
use Rattle.fs_record.specs.Opening.{is_end}
use Rattle.fs_record.specs.declared.damage.Damage.{Damage as Kind}
use Rattle.fs_record.specs.declared.damage.Damage.TheVariants.{BadLength, BadTail, BadTid}
use Rattle.fs_scan.specs.declared.extent.Frame.{Frame}
use Rattle.fs_scan.specs.declared.extent.Parts.{Parts}
use Rattle.fs_scan.specs.declared.judging.Marks.{Marks}
use Rattle.fs_scan.specs.declared.step.Step.{Step}
use Rattle.fs_scan.specs.declared.step.Step.TheVariants as steps
use Rattle.fs_scan.specs.Extent.{FrameFits, IsFrame, IsWhole, PartsSay, area_at, extent_of}
use Rattle.fs_scan.specs.Found.{IsFront}
use Rattle.fs_scan.specs.Keeping.{AreSaid, Keeping, KeepsMore, KeepsOn, PlacesRise, PlacesWithin, rows_on, starts}
use Rattle.fs_scan.specs.Marked.{NoRecords, Read}
use Rattle.fs_scan.specs.Rising.{RiseWithin}
use Rattle.fs_scan.specs.Stepped.{LeadsOn, RightFits, StepsOn}
use Rattle.fs_scan.specs.Taking.{StepLeads, fault_by}
use Rattle.fs_scan.proofs.KeptPlaces.{all_said, rows_more}
use Rattle.fs_scan.proofs.RecordsRead.{front_of_left}
use Rattle.fs_scan.proofs.RisingPlaces.{further, placed, rise_on, rise_within, wider}
use Rattle.fs_scan.proofs.Stepping.{bad_length, records_right, records_wrong, skipped_right, skipped_tail}
use Rattle.fs_scan.proofs.WholeAt.{short_ends, with_tail}

-- ---- a number of eight bytes

tail_there : (told : Told) (at tail : ℕ) (piece : List ℕ) → piece ≡ bytes_at told at 8 → length piece ≡ 8 → drop 0 piece ≡ be64 tail ++ drop 8 piece → drop at (content told) ≡ be64 tail ++ drop (at + 8) (content told)
tail_there told at tail piece is long read =
    let rest = drop at (content told) in
    let front : take 8 rest ≡ be64 tail = sym is ∙ read ∙ ap (λ (x : List ℕ). be64 tail ++ x) (drop_all 8 piece (omega (arith, long))) ∙ append-nil (be64 tail) in
    sym (take-append-drop 8 rest) ∙ ap (λ (x : List ℕ). x ++ drop 8 rest) front ∙ ap (λ (x : List ℕ). be64 tail ++ x) (drop-drop 8 at (content told))

pub tail_told : (disk : Option Told) (at tail : ℕ) (piece : List ℕ) → IfSome disk (λ told. piece ≡ bytes_at told at 8) → length piece ≡ 8 → drop 0 piece ≡ be64 tail ++ drop 8 piece → IfSome disk (λ told. drop at (content told) ≡ be64 tail ++ drop (at + 8) (content told))
tail_told None at tail piece is long read = tt
tail_told (Some told) at tail piece is long read = tail_there told at tail piece is long read

-- ---- a head

pub none_left : (disk : Option Told) (len at : ℕ) → ForSome disk (λ told. len ≡ length (content told)) → len < at → IfSome disk (λ told. is_end (drop at (content told)) ≡ true)
none_left None len at whole lt = tt
none_left (Some told) len at whole lt = short_ends (drop at (content told)) (omega (arith, whole told refl, length-drop at (content told)))

pub said_there : (disk : Option Told) (len at left size : ℕ) (piece : List ℕ) (parts : Parts) → ForSome disk (λ told. len ≡ length (content told)) → left ≡ len - at → size ≡ min 23 left → IfSome disk (λ told. piece ≡ bytes_at told at size)
    → ((rest : List ℕ) → IsFront 23 left piece rest → PartsSay rest parts) → IfSome disk (λ told. PartsSay (drop at (content told)) parts)
said_there None len at left size piece parts whole is cut read says = tt
said_there (Some told) len at left size piece parts whole is cut read says =
    let rest = drop at (content told) in
    let room : length rest ≡ left = omega (arith, whole told refl, is, length-drop at (content told)) in
    says rest (front_of_left 23 left size rest rest piece (omega (arith, room)) (sym (take_whole left rest room)) cut read)
  where
    take_whole : (left : ℕ) (rest : List ℕ) → length rest ≡ left → take left rest ≡ rest
    take_whole left rest room = sym (append-nil (take left rest)) ∙ ap (λ (x : List ℕ). take left rest ++ x) (sym (drop_all left rest (omega (arith, room)))) ∙ take-append-drop left rest

-- ---- a transaction

module _ (bytes : List ℕ) (f : Frame) (tail : ℕ) (fits : FrameFits f.place (length bytes - f.place) f) (is : IsFrame (drop f.place bytes) f) (there : drop (f.place + f.long) bytes ≡ be64 tail ++ drop (f.place + f.long + 8) bytes) (lt : tail < 2 ^ 64) where
  whole : IsWhole (drop f.place bytes) (extent_of f tail)
  whole = with_tail (drop f.place bytes) f.place tail f (subst (λ (n : ℕ). FrameFits f.place n f) (sym (length-drop f.place bytes)) fits) is
      (drop-drop f.long f.place bytes ∙ there ∙ ap (λ (x : List ℕ). be64 tail ++ x) (ap (λ (n : ℕ). drop n bytes) (omega arith) ∙ sym (drop-drop (f.long + 8) f.place bytes))) lt

  skips_right : (last : ℕ) (rows : List Row) → f.head.status ≡ 117 → tail ≡ f.head.length → StepLeads (drop f.place bytes) f.place last rows rows (steps.Right (extent_of f tail))
  skips_right last rows undone same = skipped_right (drop f.place bytes) (extent_of f tail) f.place last rows whole undone same

  skips_wrong : (last : ℕ) (rows : List Row) → f.head.status ≡ 117 → (tail ≡ f.head.length → ⊥) → StepLeads (drop f.place bytes) f.place last rows rows (steps.Damaged BadTail)
  skips_wrong last rows undone other = (skipped_tail (drop f.place bytes) (extent_of f tail) f.place last rows whole undone other, refl)

  module _ (counted : f.head.status ≡ 117 → ⊥) (last : ℕ) (kept : Keeping) (keeps : KeepsOn bytes kept) where
    wrong_length : NoRecords (area_at f bytes) → LeadsOn bytes f.place last kept kept (steps.Damaged BadLength)
    wrong_length none = ((inl (refl, bad_length (drop f.place bytes) (extent_of f tail) whole counted none), refl), keeps)

    module _ (rows : List Row) (marks : Marks) (read : Read (area_at f bytes) (rows_on bytes kept.places) [] rows (f.place + f.from) f.head.tid f.place marks) where
      wrong : (kind : Kind) → fault_by last f.head.tid f.head.status tail f.head.length marks ≡ Some kind → LeadsOn bytes f.place last kept kept (steps.Damaged kind)
      wrong kind why = ((records_wrong (drop f.place bytes) (extent_of f tail) f.place last (rows_on bytes kept.places) [] rows marks kind whole counted read why, refl), keeps)

      said : AreSaid bytes rows
      said =
          let area = drop f.from (drop f.place bytes) in
          let here : drop (f.place + f.from) bytes ≡ flat_map data_spelling read.ds ++ drop (f.long - f.from) area =
          sym (drop-drop f.from f.place bytes) ∙ sym (take-append-drop (f.long - f.from) area) ∙ ap (λ (x : List ℕ). x ++ drop (f.long - f.from) area) read.are.spelled in
          subst (AreSaid bytes) (sym read.rows) (all_said bytes (f.place + f.from) read.ds (drop (f.long - f.from) area) read.are.fits here)

      right : (new : Keeping) → fault_by last f.head.tid f.head.status tail f.head.length marks ≡ None → KeepsMore kept new rows → LeadsOn bytes f.place last kept new (steps.Right (extent_of f tail))
      right new why more =
          (records_right (drop f.place bytes) (extent_of f tail) f.place last (rows_on bytes kept.places) rows (rows_on bytes new.places) marks whole counted read why (rows_more bytes kept new rows more said), more.still bytes keeps said)

-- ---- the same, where the disk tells

fit_there : (told : Told) (len : ℕ) (f : Frame) → ForSome (Some told) (λ told. len ≡ length (content told)) → FrameFits f.place (len - f.place) f → FrameFits f.place (length (content told) - f.place) f
fit_there told len f whole fits = subst (λ (n : ℕ). FrameFits f.place (n - f.place) f) (whole told refl) fits

abbrev HasTail : Option Told → Frame → ℕ → Type 0
HasTail disk f tail = IfSome disk (λ told. drop (f.place + f.long) (content told) ≡ be64 tail ++ drop (f.place + f.long + 8) (content told))

pub skips : (disk : Option Told) (len : ℕ) (f : Frame) (tail : ℕ) → ForSome disk (λ told. len ≡ length (content told)) → FrameFits f.place (len - f.place) f → IfSome disk (λ told. IsFrame (drop f.place (content told)) f) → HasTail disk f tail → tail < 2 ^ 64 → f.head.status ≡ 117 → tail ≡ f.head.length
    → IfSome disk (λ told. (last : ℕ) (rows : List Row) → StepLeads (drop f.place (content told)) f.place last rows rows (steps.Right (extent_of f tail)))
skips None len f tail w fits is there lt undone same = tt
skips (Some told) len f tail w fits is there lt undone same = λ last rows. skips_right (content told) f tail (fit_there told len f w fits) is there lt last rows undone same

pub skips_not : (disk : Option Told) (len : ℕ) (f : Frame) (tail : ℕ) → ForSome disk (λ told. len ≡ length (content told)) → FrameFits f.place (len - f.place) f → IfSome disk (λ told. IsFrame (drop f.place (content told)) f) → HasTail disk f tail → tail < 2 ^ 64 → f.head.status ≡ 117 → (tail ≡ f.head.length → ⊥)
    → IfSome disk (λ told. (last : ℕ) (rows : List Row) → StepLeads (drop f.place (content told)) f.place last rows rows (steps.Damaged BadTail))
skips_not None len f tail w fits is there lt undone other = tt
skips_not (Some told) len f tail w fits is there lt undone other = λ last rows. skips_wrong (content told) f tail (fit_there told len f w fits) is there lt last rows undone other

pub leads : (disk : Option Told) (len : ℕ) (f : Frame) (tail : ℕ) → ForSome disk (λ told. len ≡ length (content told)) → FrameFits f.place (len - f.place) f → IfSome disk (λ told. IsFrame (drop f.place (content told)) f) → HasTail disk f tail → tail < 2 ^ 64 → (f.head.status ≡ 117 → ⊥)
    → (last : ℕ) (kept : Keeping) → IfSome disk (λ told. KeepsOn (content told) kept)
    → (rows : List Row) (marks : Marks) → IfSome disk (λ told. Read (area_at f (content told)) (rows_on (content told) kept.places) [] rows (f.place + f.from) f.head.tid f.place marks)
    → (new : Keeping) → fault_by last f.head.tid f.head.status tail f.head.length marks ≡ None → KeepsMore kept new rows → IfSome disk (λ told. LeadsOn (content told) f.place last kept new (steps.Right (extent_of f tail)))
leads None len f tail w fits is there lt counted last kept keeps rows marks read new why more = tt
leads (Some told) len f tail w fits is there lt counted last kept keeps rows marks read new why more = right (content told) f tail (fit_there told len f w fits) is there lt counted last kept keeps rows marks read new why more

pub leads_wrong : (disk : Option Told) (len : ℕ) (f : Frame) (tail : ℕ) → ForSome disk (λ told. len ≡ length (content told)) → FrameFits f.place (len - f.place) f → IfSome disk (λ told. IsFrame (drop f.place (content told)) f) → HasTail disk f tail → tail < 2 ^ 64 → (f.head.status ≡ 117 → ⊥)
    → (last : ℕ) (kept : Keeping) → IfSome disk (λ told. KeepsOn (content told) kept)
    → (rows : List Row) (marks : Marks) → IfSome disk (λ told. Read (area_at f (content told)) (rows_on (content told) kept.places) [] rows (f.place + f.from) f.head.tid f.place marks)
    → (kind : Kind) → fault_by last f.head.tid f.head.status tail f.head.length marks ≡ Some kind → IfSome disk (λ told. LeadsOn (content told) f.place last kept kept (steps.Damaged kind))
leads_wrong None len f tail w fits is there lt counted last kept keeps rows marks read kind why = tt
leads_wrong (Some told) len f tail w fits is there lt counted last kept keeps rows marks read kind why = wrong (content told) f tail (fit_there told len f w fits) is there lt counted last kept keeps rows marks read kind why

pub leads_short : (disk : Option Told) (len : ℕ) (f : Frame) (tail : ℕ) → ForSome disk (λ told. len ≡ length (content told)) → FrameFits f.place (len - f.place) f → IfSome disk (λ told. IsFrame (drop f.place (content told)) f) → HasTail disk f tail → tail < 2 ^ 64 → (f.head.status ≡ 117 → ⊥)
    → (last : ℕ) (kept : Keeping) → IfSome disk (λ told. KeepsOn (content told) kept) → IfSome disk (λ told. NoRecords (area_at f (content told))) → IfSome disk (λ told. LeadsOn (content told) f.place last kept kept (steps.Damaged BadLength))
leads_short None len f tail w fits is there lt counted last kept keeps none = tt
leads_short (Some told) len f tail w fits is there lt counted last kept keeps none = wrong_length (content told) f tail (fit_there told len f w fits) is there lt counted last kept keeps none

-- ---- what holds also where it doesn't tell

passed : (t : Bool) (o : Option Kind) (d : Kind) → cond t o (Some d) ≡ None → t ≡ true
passed true o d e = refl
passed false o d e = cc

first_holds : (t u : Bool) → (t && u) ≡ true → t ≡ true
first_holds true u e = refl
first_holds false u e = absurd (false≢true e)

later : (last tid status tail long : ℕ) (m : Marks) → fault_by last tid status tail long m ≡ None → last < tid
later last tid status tail long m e = ltb-true last tid (first_holds (nat_lt last tid) m.own (passed _ _ BadTid e))

pub right_fits : (len last tail : ℕ) (f : Frame) (old new : Keeping) (rows : List Row) (marks : Marks) → FrameFits f.place (len - f.place) f → PlacesWithin 0 f.place old.places → ((begin : ℕ) → RiseWithin begin (f.place + f.from) [] → RiseWithin begin (f.place + f.long) rows) → KeepsMore old new rows
    → fault_by last f.head.tid f.head.status tail f.head.length marks ≡ None → RightFits len f.place last new (extent_of f tail)
right_fits len last tail f old new rows marks fits before rise more none = record {
  ends = omega (arith, fits.room);
  places = subst (PlacesWithin 0 (f.place + (f.long + 8))) (sym more.places) (rise_on 0 f.place (f.place + (f.long + 8)) old.places rows before (wider f.place (f.place + f.long) (f.place + (f.long + 8)) rows (rise f.place (omega arith)) (omega arith)));
  later = λ counted. later last f.head.tid f.head.status tail f.head.length marks none;
}

pub skipped_fits : (len last tail : ℕ) (f : Frame) (kept : Keeping) → FrameFits f.place (len - f.place) f → PlacesWithin 0 f.place kept.places → f.head.status ≡ 117 → RightFits len f.place last kept (extent_of f tail)
skipped_fits len last tail f kept fits before undone = record {
  ends = omega (arith, fits.room);
  places = further 0 f.place (f.place + (f.long + 8)) kept.places before (omega arith);
  later = λ counted. absurd (counted undone);
}

pub may_add : (f : Frame) (old : Keeping) (rows : List Row) → PlacesWithin 0 f.place old.places → ((begin : ℕ) → RiseWithin begin (f.place + f.from) [] → RiseWithin begin (f.place + f.long) rows) → PlacesRise 0 (old.places ++ starts rows)
may_add f old rows before rise = rise_within 0 (f.place + f.long) (old.places ++ starts rows) (rise_on 0 f.place (f.place + f.long) old.places rows before (rise f.place (omega arith)))

pub are_placed : (f : Frame) (left : ℕ) (rows : List Row) → FrameFits f.place left f → ((begin : ℕ) → RiseWithin begin (f.place + f.from) [] → RiseWithin begin (f.place + f.long) rows) → All (λ (row : Row). 0 < row.place) rows
are_placed f left rows fits rise = placed (f.place + f.from) (f.place + f.long) rows (omega (arith, fits.from)) (rise (f.place + f.from) (omega arith))

-- ---- the step, by what stands there

pub leads_on : (disk : Option Told) (at last : ℕ) (old new : Keeping) (s : Step) → IfSome disk (λ told. is_end (drop at (content told)) ≡ false) → IfSome disk (λ told. LeadsOn (content told) at last old new s) → IfSome disk (λ told. StepsOn (content told) at last old new s)
leads_on None at last old new s goes on = tt
leads_on (Some told) at last old new steps.End goes on = absurd on.0
leads_on (Some told) at last old new (steps.Damaged kind) goes on = ((goes, on.0.0, on.0.1), on.1)
leads_on (Some told) at last old new (steps.Right w) goes on = ((goes, on.0), on.1)

pub skips_on : (disk : Option Told) (at last : ℕ) (kept : Keeping) (s : Step) → IfSome disk (λ told. is_end (drop at (content told)) ≡ false) → IfSome disk (λ told. KeepsOn (content told) kept)
    → IfSome disk (λ told. (last : ℕ) (rows : List Row) → StepLeads (drop at (content told)) at last rows rows s) → IfSome disk (λ told. StepsOn (content told) at last kept kept s)
skips_on None at last kept s goes keeps on = tt
skips_on (Some told) at last kept s goes keeps on = leads_on (Some told) at last kept kept s goes (on last (rows_on (content told) kept.places), keeps)

-- the same, with what came of it
pub skips_all : {E : Type 0} (disk given : Option Told) (at last : ℕ) (kept : Keeping) (f : Frame) (r : Result Step E) → given ≡ disk → f.place ≡ at → IfSome disk (λ told. is_end (drop at (content told)) ≡ false) → IfSome disk (λ told. KeepsOn (content told) kept)
    → IfOk r (λ s. IfSome given (λ told. (last : ℕ) (rows : List Row) → StepLeads (drop f.place (content told)) f.place last rows rows s)) → IfOk r (λ s. IfSome disk (λ told. StepsOn (content told) at last kept kept s))
skips_all disk given at last kept f (Err e) same is goes keeps on = tt
skips_all disk given at last kept f (Ok s) same is goes keeps on =
    skips_on disk at last kept s goes keeps
    (subst (λ (n : ℕ). IfSome disk (λ told. (last : ℕ) (rows : List Row) → StepLeads (drop n (content told)) n last rows rows s)) is
    (subst (λ (d : Option Told). IfSome d (λ told. (last : ℕ) (rows : List Row) → StepLeads (drop f.place (content told)) f.place last rows rows s)) same on))

pub first_of : (A B : Told → Type 0) (disk : Option Told) → IfSome disk (λ told. A told × B told) → IfSome disk A
first_of A B None both = tt
first_of A B (Some told) both = both.0
