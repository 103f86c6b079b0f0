-- What a loop over a walk has come to.
use Rattle.std.proofs.Common.{◌≡◌, ℕ, List, [], ◌∷◌, ◌++◌, Option, Some, None, IfSome, length, drop, refl, sym, ap, subst, ◌∙◌, append-nil}
use Rattle.zdisk.specs.Disk.{Told, content}
use Rattle.fs_scan.specs.Walked.{Course, Ends, IsFresh, IsOn, Passes, Walks}
use Rattle.fs_scan.specs.declared.wholes.Whole.{Whole}
use Rattle.packing.specs.Packed.{records_in}
use Rattle.packing.specs.Reachable.{Linking}
use Rattle.fs_pack.specs.Chosen.{Planned, chosen, chosen_of}
use Rattle.fs_pack.specs.ChosenLaws.{chosen-append}
use Rattle.fs_pack.specs.Entries.{Entry, entry_of, said}
use Rattle.fs_pack.specs.Measured.{IsTally, Measures}
use Rattle.fs_pack.specs.PassedEntries.{PassedBy, ends_rows, ends_spelled, passed_count, passes_end, passes_one}
use Rattle.fs_pack.specs.SurveyLaws.{survey_one}
use Rattle.fs_pack.specs.Surveyed.{SurveyOf, Surveys, Takes}
use Rattle.fs_pack.specs.declared.surveying.Survey.{Survey}
use Rattle.fs_pack.specs.declared.tallying.Tally.{Tally}

-- a walk that has not begun is on every file
pub fresh_on : (o : Option Told) (c : Course) → ((bytes : List ℕ) → IsOn bytes c) → IfSome o (λ told. IsOn (content told) c)
fresh_on None c on = tt
fresh_on (Some told) c on = on (content told)

-- a survey is of the transactions behind a walk
pub record Passing (links : Linking) (bytes : List ℕ) (t : ℕ) (course : Course) (s : Survey) : Type 0 where
  pub es : List Entry
  pub passed : PassedBy bytes course.place es
  pub found : SurveyOf links t es s

pub passing_first : (o : Option Told) (links : Linking) (t : ℕ) (course : Course) (s : Survey) → IsFresh course → SurveyOf links t [] s → IfSome o (λ told. Passing links (content told) t course s)
passing_first None links t course s is found = tt
passing_first (Some told) links t course s is found = record { es = []; passed = subst (λ (p : Option ℕ). PassedBy (content told) p []) (sym is.place) refl; found = found }

pub passing_next : (o p : Option Told) (links : Linking) (t : ℕ) (old new : Course) (s r : Survey) (whole : Whole) → p ≡ o → IfSome o (λ told. Passing links (content told) t old s)
    → IfSome p (λ told. Walks (content told) old new (Some whole)) → Takes links t (entry_of whole) s r → IfSome o (λ told. Passing links (content told) t new r)
passing_next None p links t old new s r whole same passing walks takes = tt
passing_next (Some told) p links t old new s r whole same passing walks takes =
    let passes : Passes (content told) old new whole = subst (λ (d : Option Told). IfSome d (λ told. Walks (content told) old new (Some whole))) same walks in
    record {
      es = passing.es ++ entry_of whole ∷ [];
      passed = passes_one (content told) old new passing.es whole passing.passed passes;
      found = survey_one links t passing.es (entry_of whole) s r passing.found takes;
    }

pub passing_last : (o p : Option Told) (links : Linking) (t : ℕ) (old new : Course) (s : Survey) → p ≡ o → IfSome o (λ told. Passing links (content told) t old s)
    → IfSome p (λ told. Walks (content told) old new None) → IfSome p (λ told. IsOn (content told) new) → IfSome o (λ told. Surveys links (content told) t new.kept.places s)
passing_last None p links t old new s same passing walks on = tt
passing_last (Some told) p links t old new s same passing walks on =
    let ends : Ends (content told) old new = subst (λ (d : Option Told). IfSome d (λ told. Walks (content told) old new None)) same walks in
    let is_on : IsOn (content told) new = subst (λ (d : Option Told). IfSome d (λ told. IsOn (content told) new)) same on in
    record {
      blocks = ends.cut.1.is_file.blocks;
      right = ends.cut.1.is_file.right;
      rest = ends.cut.0;
      spelled = ends_spelled (content told) old new ends;
      end = ends.cut.2;
      records = ends_rows (content told) old new ends is_on;
      found = subst (λ (es : List Entry). SurveyOf links t es s) (sym (passes_end (content told) old new passing.es passing.passed ends)) passing.found;
    }

-- a tally is of what a plan chooses of the transactions behind a walk
pub record Measuring (bytes : List ℕ) (p : Planned) (course : Course) (tally : Tally) : Type 0 where
  pub es : List Entry
  pub passed : PassedBy bytes course.place es
  pub tells : IsTally (chosen_of p.before p.until p.marks es) tally

pub measuring_first : (o : Option Told) (p : Planned) (course : Course) (tally : Tally) → IsFresh course → IsTally [] tally → IfSome o (λ told. Measuring (content told) p course tally)
measuring_first None p course tally is found = tt
measuring_first (Some told) p course tally is found = record { es = []; passed = subst (λ (p : Option ℕ). PassedBy (content told) p []) (sym is.place) refl; tells = found }

pub measuring_next : (o d : Option Told) (p : Planned) (old new : Course) (tally more : Tally) (number : ℕ) (whole : Whole) → d ≡ o → IfSome o (λ told. Measuring (content told) p old tally) → IfSome o (λ told. IsOn (content told) old)
    → IfSome d (λ told. Walks (content told) old new (Some whole)) → number ≡ length old.kept.places
    → ((es : List Entry) → IsTally es tally → IsTally (es ++ chosen p.before p.until (drop number p.marks) (entry_of whole)) more) → IfSome o (λ told. Measuring (content told) p new more)
measuring_next None d p old new tally more number whole same measuring on walks is tells = tt
measuring_next (Some told) d p old new tally more number whole same measuring on walks is tells =
    let passes : Passes (content told) old new whole = subst (λ (d : Option Told). IfSome d (λ told. Walks (content told) old new (Some whole))) same walks in
    let es = measuring.es in
    let e = entry_of whole in
    let count : number ≡ length (records_in (said es)) = is ∙ passed_count (content told) old.place old.kept.places es on.front measuring.passed on.stands on.records in
    let joined : chosen_of p.before p.until p.marks (es ++ e ∷ []) ≡ chosen_of p.before p.until p.marks es ++ chosen p.before p.until (drop number p.marks) e =
    chosen-append p.before p.until p.marks es (e ∷ [])
    ∙ ap (λ (fs : List Entry). chosen_of p.before p.until p.marks es ++ fs) (append-nil (chosen p.before p.until (drop (length (records_in (said es))) p.marks) e) ∙ ap (λ (n : ℕ). chosen p.before p.until (drop n p.marks) e) (sym count)) in
    record {
      es = es ++ e ∷ [];
      passed = passes_one (content told) old new es whole measuring.passed passes;
      tells = subst (λ (fs : List Entry). IsTally fs more) (sym joined) (tells (chosen_of p.before p.until p.marks es) measuring.tells);
    }

pub measuring_last : (o d : Option Told) (p : Planned) (old new : Course) (tally : Tally) → d ≡ o → IfSome o (λ told. Measuring (content told) p old tally)
    → IfSome d (λ told. Walks (content told) old new None) → IfSome o (λ told. Measures (content told) p tally)
measuring_last None d p old new tally same measuring walks = tt
measuring_last (Some told) d p old new tally same measuring walks =
    let ends : Ends (content told) old new = subst (λ (d : Option Told). IfSome d (λ told. Walks (content told) old new None)) same walks in
    record {
      blocks = ends.cut.1.is_file.blocks;
      right = ends.cut.1.is_file.right;
      rest = ends.cut.0;
      spelled = ends_spelled (content told) old new ends;
      end = ends.cut.2;
      tells = subst (λ (es : List Entry). IsTally (chosen_of p.before p.until p.marks es) tally) (sym (passes_end (content told) old new measuring.es measuring.passed ends)) measuring.tells;
    }
