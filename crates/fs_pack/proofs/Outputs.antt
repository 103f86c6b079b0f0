-- What the loop that writes has come to.
use Rattle.std.proofs.Common.{◌≡◌, ℕ, ◌+◌, ◌<◌, ◌≤◌, ◌^◌, ◌==◌, ◌&&◌, Bool, true, false, not, List, [], ◌∷◌, ◌++◌, Option, Some, None, IfSome, length, drop, nat_le, refl, sym, ap, subst, ◌∙◌, append-nil, arith, if◌then◌else◌}
use Rattle.std.proofs.lemmas.List.{length-append}
use Rattle.zdisk.specs.Crashes.{IsSynced}
use Rattle.zdisk.specs.Disk.{Told, content}
use Rattle.fs_index.specs.Places.{place_of}
use Rattle.fs_record.specs.File.{magic}
use Rattle.fs_record.specs.Spelling.{block_spelling}
use Rattle.fs_scan.specs.Walked.{Course, Ends, IsFresh, IsOn, Passes, Walks}
use Rattle.fs_scan.specs.declared.wholes.Whole.{Whole}
use Rattle.packing.specs.Packed.{is_empty, records_in, with_records}
use Rattle.packing.specs.Reachable.{Linking}
use Rattle.fs_pack.specs.Chosen.{Planned, chosen, chosen_of, picked}
use Rattle.fs_pack.specs.ChosenLaws.{chosen-append}
use Rattle.fs_pack.specs.Entries.{Entry, as_packed, entries, entry_of, said}
use Rattle.fs_pack.specs.Measured.{fitting, plus_entry}
use Rattle.fs_pack.specs.MeasuredLaws.{entry_from, fits_below, fits_so}
use Rattle.fs_pack.specs.Output.{IsOutput, IsSettled, WritesOn, block_with}
use Rattle.fs_pack.specs.OutputLaws.{output_first, output_more, with_size}
use Rattle.fs_pack.specs.PassedEntries.{PassedBy, ends_spelled, passed_count, passes_end, passes_one}
use Rattle.fs_pack.specs.PlanLaws.{one_file}
use Rattle.fs_pack.specs.Plans.{IsPacked, StandsFor, left}
use Rattle.fs_pack.specs.Spelled.{entry_size, file_of}
use Rattle.fs_pack.specs.declared.packed.Packed.{Packed}
use Rattle.fs_pack.specs.declared.writing.Output.{Output}

-- the output is what a plan chooses of the transactions behind a walk
pub record Writing (bytes : List ℕ) (p : Planned) (course : Course) (output : Output) (file : List ℕ) : Type 0 where
  pub es : List Entry
  pub passed : PassedBy bytes course.place es
  pub written : IsOutput (chosen_of p.before p.until p.marks es) output file

-- where both disks tell
abbrev pub Written : Option Told → Option Told → Planned → Course → Output → Type 0
Written from to p course output = IfSome from (λ f. IfSome to (λ t. Writing (content f) p course output (content t)))

pub writing_first : (from to : Option Told) (p : Planned) (course : Course) (output : Output) → IsFresh course → output.end ≡ 4 → ((o : ℕ) → place_of output.newest o ≡ None) → IfSome to (λ t. content t ≡ magic) → Written from to p course output
writing_first None to p course output fresh end none is = tt
writing_first (Some f) None p course output fresh end none is = tt
writing_first (Some f) (Some t) p course output fresh end none is = record {
  es = [];
  passed = subst (λ (place : Option ℕ). PassedBy (content f) place []) (sym fresh.place) refl;
  written = output_first output (content t) end none is;
}

-- where a transaction ends behind the others
pub record IsSized (end more : ℕ) (e : Entry) : Type 0 where
  pub is : more ≡ end + entry_size e
  pub short : end + entry_size e < 2 ^ 64

pub sized_so : (end more : ℕ) (e : Entry) (size : Option ℕ) → size ≡ plus_entry (Some end) e → size ≡ Some more → IsSized end more e
sized_so end more e size is some =
    let fits : fitting (end + entry_size e) ≡ Some more = sym (entry_from end e) ∙ sym is ∙ some in
    record { is = fits_so more (end + entry_size e) fits; short = fits_below more (end + entry_size e) fits }

-- a plan chooses at most one of one transaction
chosen_few : (before until : ℕ) (marks : List Bool) (e : Entry) → length (chosen before until marks e) ≤ 1
chosen_few before until marks e = go (nat_le e.said.tid before) (is_empty (picked marks e.said.records) && not (e.said.tid == until))
  where
    left_in : Entry
    left_in = as_packed (with_records e.said (picked marks e.said.records))

    go : (a b : Bool) → length (if a then if b then [] else left_in ∷ [] else e ∷ []) ≤ 1
    go true true = omega arith
    go true false = omega arith
    go false b = omega arith

writes_more : (es cs : List Entry) (old new : Output) (before after : Told) → length cs ≤ 1 → IsOutput es old (content before) → WritesOn cs old new (Some before) (Some after) → IsOutput (es ++ cs) new (content after)
writes_more es [] old new before after few is same =
    let told : after ≡ before = cc in
    subst (λ (fs : List Entry). IsOutput fs new (content after)) (sym (append-nil es))
    (subst (λ (t : Told). IsOutput es new (content t)) (sym told) (subst (λ (o : Output). IsOutput es o (content before)) (sym same.0) is))
writes_more es (e ∷ []) old new before after few is more = output_more es e old new (content before) (content after) is more.0 more.1
writes_more es (e ∷ f ∷ cs) old new before after few is more = absurd (omega (arith, few))

pub writing_next : (from d before after : Option Told) (p : Planned) (old new : Course) (output more : Output) (number : ℕ) (whole : Whole) → d ≡ from → Written from before p old output → IfSome from (λ told. IsOn (content told) old)
    → IfSome d (λ told. Walks (content told) old new (Some whole)) → number ≡ length old.kept.places → WritesOn (chosen p.before p.until (drop number p.marks) (entry_of whole)) output more before after → Written from after p new more
writing_next None d before after p old new output more number whole same so_far on walks is writes = tt
writing_next (Some f) d before None p old new output more number whole same so_far on walks is writes = tt
writing_next (Some f) d None (Some u) p old new output more number whole same so_far on walks is writes = absurd (untold (chosen p.before p.until (drop number p.marks) (entry_of whole)) writes)
  where
    untold : (cs : List Entry) → WritesOn cs output more None (Some u) → ⊥
    untold [] w = absurd (other w.1)
      where
        other : Some u ≡ None → ⊥
        other e = cc
    untold (e ∷ cs) w = w.1
writing_next (Some f) d (Some t) (Some u) p old new output more number whole same so_far on walks is writes =
    let passes : Passes (content f) old new whole = subst (λ (x : Option Told). IfSome x (λ told. Walks (content told) old new (Some whole))) same walks in
    let es = so_far.es in
    let e = entry_of whole in
    let count : number ≡ length (records_in (said es)) = is ∙ passed_count (content f) old.place old.kept.places es on.front so_far.passed on.stands on.records in
    let cs = chosen p.before p.until (drop number p.marks) e in
    let joined : chosen_of p.before p.until p.marks (es ++ e ∷ []) ≡ chosen_of p.before p.until p.marks es ++ cs =
    chosen-append p.before p.until p.marks es (e ∷ [])
    ∙ ap (λ (fs : List Entry). chosen_of p.before p.until p.marks es ++ fs) (append-nil (chosen p.before p.until (drop (length (records_in (said es))) p.marks) e) ∙ ap (λ (n : ℕ). chosen p.before p.until (drop n p.marks) e) (sym count)) in
    record {
      es = es ++ e ∷ [];
      passed = passes_one (content f) old new es whole so_far.passed passes;
      written = subst (λ (fs : List Entry). IsOutput fs more (content u)) (sym joined)
          (writes_more (chosen_of p.before p.until p.marks es) cs output more t u (chosen_few p.before p.until (drop number p.marks) e) so_far.written writes);
    }

-- the output ends where the file does, also where the disk that is packed doesn't tell
pub ends_next : (cs : List Entry) (old new : Output) (before after : Option Told) → WritesOn cs old new before after → IfSome before (λ t. old.end ≡ length (content t)) → IfSome after (λ t. new.end ≡ length (content t))
ends_next cs old new before None w is = tt
ends_next [] old new None (Some u) w is = absurd (other w.1)
  where
    other : Some u ≡ None → ⊥
    other e = cc
ends_next [] old new (Some t) (Some u) w is =
    let told : u ≡ t = cc in
    ap (λ (o : Output). o.end) w.0 ∙ is ∙ ap (λ (x : Told). length (content x)) (sym told)
ends_next (e ∷ cs) old new None (Some u) w is = absurd w.1
ends_next (e ∷ cs) old new (Some t) (Some u) w is =
    omega (arith, w.0.end, is, ap length w.1, length-append (content t) (block_spelling (block_with old.end (place_of old.newest) e)), with_size old.end (place_of old.newest) e)

pub writing_last : (from d to after : Option Told) (p : Planned) (old new : Course) (output : Output) (done : Packed) → d ≡ from → Written from to p old output → IfSome d (λ told. Walks (content told) old new None) → IsSettled to after
    → done ≡ record { end = output.end; floor = p.floor; count = p.count } → IfSome from (λ f. (links : Linking) (s : StandsFor links (content f) p) → IfSome after (λ told. IsSynced told × IsPacked s.packs (content told) done))
writing_last None d to after p old new output done same so_far walks settled is = tt
writing_last (Some f) d to None p old new output done same so_far walks settled is = λ links s. tt
writing_last (Some f) d None (Some u) p old new output done same so_far walks settled is = absurd settled
writing_last (Some f) d (Some t) (Some u) p old new output done same so_far walks settled is = λ links s.
    let ends : Ends (content f) old new = subst (λ (x : Option Told). IfSome x (λ told. Walks (content told) old new None)) same walks in
    let packs = s.packs in
    let one : entries packs.blocks ≡ so_far.es = one_file (content f) packs.blocks ends.cut.1.is_file.blocks packs.rest ends.cut.0 packs.right ends.cut.1.is_file.right packs.spelled (ends_spelled (content f) old new ends) packs.end ends.cut.2
    ∙ passes_end (content f) old new so_far.es so_far.passed ends in
    let all : chosen_of p.before p.until p.marks so_far.es ≡ left packs = sym (ap (chosen_of p.before p.until p.marks) one) ∙ s.chosen in (
      settled.0,
      record {
        spelled = settled.1 ∙ so_far.written.spelled ∙ ap file_of all;
        end = ap (λ (x : Packed). x.end) is ∙ so_far.written.end ∙ sym (ap length settled.1);
        floor = ap (λ (x : Packed). x.floor) is ∙ s.floor;
        count = ap (λ (x : Packed). x.count) is ∙ s.count;
      },
    )
