-- What the loop kept, with what closes a report, is all that a replay promises of its report and of its disk.
use Rattle.std.proofs.Common.{◌≡◌, ℕ, List, ◌++◌, sym, ◌∙◌, subst}
use Rattle.std.specs.Prelude.{Option, take}
use Rattle.zbase.specs.Faults.{Arms}
use Rattle.zbase.specs.History.{History, IsHistory}
use Rattle.zdisk.specs.Disk.{Told}
use Rattle.evaluator.specs.Exec.{Eval, IsLawful}
use Rattle.packing.specs.Reachable.{Linking}
use Rattle.schedule.specs.declared.item.Item2.{Item2}
use Rattle.schedule.specs.declared.line.Line.{Line}
use Rattle.schedule.specs.Courses.{lines_of}
use Rattle.schedule.specs.Entries.{entries, faults}
use Rattle.schedule.specs.EntryLaws.{entered_whole}
use Rattle.fs_store.specs.Moments.{OpensTo}
use Rattle.fs_store.specs.Stores.{StoreView}
use Rattle.connection.specs.Telling.{TellsOn, tells_forth}
use Rattle.txn_core.specs.Cores.{CoreView}
use Rattle.txn_core.specs.Growing.{possible_grows}
use Rattle.txn_core.specs.Slots.{Possible, moment_of}
use Rattle.replay.specs.Handed.{AcknowledgesWhereTold}
use Rattle.replay.specs.Held.{HoldsFile}
use Rattle.replay.specs.Kept.{Kept}
use Rattle.replay.specs.Printed.{Prints, closing, opening, terms_of}
use Rattle.replay.specs.Replayed.{Replays}
use Rattle.replay.proofs.Keeping.{RunLaw, acknowledges_to, kept_explained}
use Rattle.replay.proofs.PrintSteps.{prints_then}

pub whole : {E R S : Type 0} (takes : List ℕ → Option R) (eval : Eval R) (links : Linking) (limit end : ℕ) (given : List ℕ) (h0 : History) (items : List Item2) (lines : List Line) (core : CoreView E R S) (now : ℕ) (may : StoreView) (disk : Option Told) (arms : Arms) (old mid new : Option (List ℕ))
    → RunLaw R → IsLawful eval → IsHistory h0 → OpensTo given h0 end → Kept eval (terms_of takes eval links limit end) given h0 items lines core now → Possible core.store may → IsHistory may.history → HoldsFile disk may.history → TellsOn core.store.disk.told disk → arms.hits ≡ core.store.disk.counter.arms.hits
    → Prints old mid (opening h0 ++ lines) → Prints mid new (closing (moment_of eval may core.slots)) → Replays takes eval links limit given items disk arms old new
whole {E} {R} {S} takes eval links limit end given h0 items lines core now may disk arms old mid new law lawful history opens kept possible last holds tells hits so_far closed =
    let e = kept_explained eval (terms_of takes eval links limit end) given h0 items lines core now law lawful history kept may possible in
    let said : AcknowledgesWhereTold disk given may.history lines = acknowledges_to core.store.disk.told disk given core.store.history may.history lines kept.acknowledges tells (possible_grows core.store may possible) last in
    let first : arms.hits ≡ take (faults lines) (entries items) = hits ∙ entered_whole items lines core.store.disk.counter.arms kept.entered in
    record {
      history = h0;
      end = end;
      opens = opens;
      report = opening h0 ++ (lines ++ closing (moment_of eval may core.slots));
      explained = e.0;
      printed = prints_then old mid new (opening h0 ++ lines) (closing (moment_of eval may core.slots)) so_far closed;
      told = tells_forth core.store.disk.told disk tells kept.told;
      holds = subst (HoldsFile disk) (sym e.1) holds;
      acknowledges = subst (λ h. AcknowledgesWhereTold disk given h (lines_of e.0.trace)) (sym e.1) (subst (AcknowledgesWhereTold disk given may.history) (sym e.2) said);
      hits = subst (λ ls. arms.hits ≡ take (faults ls) (entries items)) (sym e.2) first;
    }
