-- A server of a file of a shelf: what it leaves, and its causes.
use Rattle.std.proofs.Common.{◌≡◌, ◌++◌, ◌∙◌, ℕ, true, List, [], ◌∷◌, append-nil, Option, None, Some, Result, Ok, Err, IfErr, IfOk, IfSome, MatchOption, is_some, inl, inr, refl, sym, ap, subst}
use Rattle.std.specs.Prelude.{⊤}
use Rattle.std.specs.Option.{option_map}
use Rattle.zbase.specs.Faults.{Counter}
use Rattle.zdisk.specs.Crashes.{IsSynced}
use Rattle.zdisk.specs.Disk.{Held, Told, content, synced}
use Rattle.zdisk.specs.Images.{IsImage}
use Rattle.zio.specs.Clocks.{Tick}
use Rattle.zio.specs.Hubs.{Peers}
use Rattle.zio.specs.Shelves.{Entry, file_at}
use Rattle.evaluator.specs.Exec.{Eval}
use Rattle.schedule.specs.Items.{IsSchedule}
use Rattle.fs_store.specs.Opened.{WhereTold}
use Rattle.zserve.specs.Happened.{Happening, items}
use Rattle.zserve.specs.Taping.{Taped}
use Rattle.zserve.specs.declared.plan.Served.{Served}
use Rattle.file_server.specs.Kept.{FileRefused, FileServed, KeepsPart, KeepsRun, KeepsUnopened, LeavesRun, LosesRun, NotFinished, NotOpened, Untouched}
use Rattle.file_server.specs.Opening.{LeavesFile, OpeningRefused}
use Rattle.file_server.specs.Refusals.{Comes}
use Rattle.file_server.specs.Returned.{BackRefused, BackServed, IsBack}
use Rattle.file_server.specs.Running.{DiskRefused, DiskServed, NotRun, RunRefused, Runs}
use Rattle.file_server.specs.Shelved.{Holds, KeepsBeside, Lends, TakesBoth, TakesOne}
use Rattle.file_server.specs.declared.refusal.FileRefusal.{FileRefusal}
use Rattle.file_server.proofs.Coming.{comes_as, comes_last}
use Rattle.file_server.proofs.Unopened.{IsOwn, leaves_file, leaves_history}
use Rattle.file_server.proofs.Ended.{tape_as, tape_last, tells_last}
use Rattle.file_server.proofs.Shelves.{Made, both_back, none_both, none_one, one_back}

-- what is read of a synced file is its one image
abbrev IsOnly : Type 0
IsOnly = (held : Held) (image : List ℕ) → held.before ≡ [] → IsImage held image → image ≡ held.now

-- a sound disk, by what makes it so
runs_by : {R : Type 0} (F G : Type 0) (takes : List ℕ → Option R) (eval : Eval R) (all : List Happening) (before after : List ℕ) → (G → F) → Runs F takes eval all before after → Runs G takes eval all before after
runs_by F G takes eval all before after by runs = record {
  history = runs.history;
  end = runs.end;
  opens = runs.opens;
  old = runs.old;
  new = runs.new;
  calm = λ g. runs.calm (by g);
  may = runs.may;
  reports = runs.reports;
  stands = runs.stands;
  left = runs.left;
}

-- ---- a server that did what its plan says

keeps_run : {R : Type 0} (sound : Type 0) (takes : List ℕ → Option R) (eval : Eval R) (all : List Happening) (entries : List Entry) (mid now : Option (List Entry)) (file record_ bytes : List ℕ) (disk tape : Option Told) → file_at entries file ≡ Some bytes → file_at entries record_ ≡ None → Made entries record_ mid
    → WhereTold (Some (synced bytes)) disk (λ before after. Runs sound takes eval all (content before) (content after)) → IfSome tape (λ told. IsSynced told × IsSchedule (content told) (items all)) → is_some tape ≡ true → TakesBoth file record_ mid disk tape now → KeepsRun sound takes eval file record_ all entries now
keeps_run sound takes eval all entries mid now file record_ bytes None tape there none made runs taped tells both = absurd runs
keeps_run sound takes eval all entries mid now file record_ bytes (Some d) None there none made runs taped tells both = absurd cc
keeps_run sound takes eval all entries mid now file record_ bytes (Some d) (Some p) there none made runs taped tells both = record {
  bytes = bytes;
  there = there;
  left = content d;
  runs = runs;
  tape = content p;
  spells = taped.1;
  kept = both_back entries mid now file record_ bytes d p there none made both;
}

-- the disk holds the file's bytes
runs_of : {R : Type 0} (F G : Type 0) (takes : List ℕ → Option R) (eval : Eval R) (all : List Happening) (bytes : List ℕ) (disk disk' : Option Told) → disk ≡ Some (synced bytes) → (G → F) → WhereTold disk disk' (λ before after. Runs F takes eval all (content before) (content after))
    → WhereTold (Some (synced bytes)) disk' (λ before after. Runs G takes eval all (content before) (content after))
runs_of {R} F G takes eval all bytes disk disk' is by runs = go disk' (subst (λ (o : Option Told). WhereTold o disk' (λ before after. Runs F takes eval all (content before) (content after))) is runs)
  where
    go : (d : Option Told) → WhereTold (Some (synced bytes)) d (λ before after. Runs F takes eval all (content before) (content after)) → WhereTold (Some (synced bytes)) d (λ before after. Runs G takes eval all (content before) (content after))
    go None told = told
    go (Some d) told = runs_by F G takes eval all bytes (content d) by told

pub served_kept : {R : Type 0} (F G : Type 0) (takes : List ℕ → Option R) (eval : Eval R) (port connections most : ℕ) (file record_ : List ℕ) (files mid now : Option (List Entry)) (disk empty : Option Told) (a : Option (List Tick)) (k : Counter) (b : Option (List Tick)) (l : Counter) (hub hub' : Option Peers) (accepted replies : ℕ)
    → Lends file record_ files mid disk empty → (G → F) → BackServed F takes eval file record_ port connections most mid now disk empty a k b l hub hub' accepted replies → FileServed G takes eval file record_ port connections most files now a k b l hub hub' accepted replies
served_kept {R} F G takes eval port connections most file record_ files mid now disk empty a k b l hub hub' accepted replies lends by back = record {
  all = back.served.all;
  told = back.served.told;
  kept = kept files lends.holds lends.absent lends.made lends.empty;
}
  where
    kept : (fs : Option (List Entry)) → IfSome fs (λ es. Holds es file disk) → IfSome fs (λ es. file_at es record_ ≡ None) → mid ≡ option_map (λ es. es ++ (record_, []) ∷ []) fs → IfSome fs (λ _. empty ≡ Some (synced [])) → MatchOption fs (now ≡ None) (λ es. KeepsRun G takes eval file record_ back.served.all es now)
    kept None holds none made is = none_both mid now file record_ back.disk' back.tape' made back.back
    kept (Some es) holds none made is = keeps_run G takes eval back.served.all es mid now file record_ holds.0 back.disk' back.tape' holds.1 none made (runs_of F G takes eval back.served.all holds.0 disk back.disk' holds.2 by back.served.runs) back.served.taped (back.tells ∙ ap (λ (o : Option Told). is_some o) is) back.back

-- ---- one that was refused while the file was opened

unopened : IsOwn → IsOnly → (file record_ : List ℕ) (es : List Entry) (mid now : Option (List Entry)) (bytes : List ℕ) (disk' tape' : Option Told) (e : FileRefusal) → file_at es file ≡ Some bytes → file_at es record_ ≡ None → Made es record_ mid → OpeningRefused (Some (synced bytes)) disk' e → IfSome tape' (λ told. content told ≡ []) → is_some tape' ≡ true
    → TakesBoth file record_ mid disk' tape' now → KeepsUnopened file record_ e es now
unopened own only file record_ es mid now bytes None tape' e there none made refused taped tells both = absurd refused.told
unopened own only file record_ es mid now bytes (Some d) None e there none made refused taped tells both = absurd cc
unopened own only file record_ es mid now bytes (Some d) (Some p) e there none made refused taped tells both = (
  bytes,
  content d,
  there,
  subst (λ (t : List ℕ). KeepsBeside es file (content d) record_ t now) taped (both_back es mid now file record_ bytes d p there none made both),
  leaves_file own only e bytes d refused.given refused.told,
)

-- there was no memory to give the disks back
unopened_last : IsOwn → IsOnly → (file record_ : List ℕ) (es : List Entry) (mid now : Option (List Entry)) (bytes : List ℕ) (disk' tape' : Option Told) (e : FileRefusal) → file_at es file ≡ Some bytes → file_at es record_ ≡ None → Made es record_ mid → OpeningRefused (Some (synced bytes)) disk' e → IfSome tape' (λ told. content told ≡ []) → is_some tape' ≡ true
    → TakesOne file record_ mid disk' tape' now → KeepsUnopened file record_ FileRefusal.Memory es now
unopened_last own only file record_ es mid now bytes None tape' e there none made refused taped tells one = absurd refused.told
unopened_last own only file record_ es mid now bytes (Some d) None e there none made refused taped tells one = absurd cc
unopened_last own only file record_ es mid now bytes (Some d) (Some p) e there none made refused taped tells one =
    let told = one_back es mid now file record_ bytes d p there none made one in
    let empty : told.1 ≡ [] = elim told.2 [ inl site ↦ site.1 | inr rest ↦ elim rest.1 [ inl text ↦ text ∙ taped | inr nothing ↦ nothing ] ] in
    let history : LeavesFile FileRefusal.Memory bytes (content d) = leaves_history e bytes (content d) (leaves_file own only e bytes d refused.given refused.told) in (
      bytes,
      told.0,
      there,
      subst (λ (t : List ℕ). KeepsBeside es file told.0 record_ t now) empty told.3,
      elim told.2 [ inl site ↦ subst (λ (x : List ℕ). LeavesFile FileRefusal.Memory bytes x) (sym site.0) history | inr rest ↦ inl rest.0 ],
    )

-- ---- one that was refused while it was served

left_run : {R : Type 0} (F G : Type 0) (takes : List ℕ → Option R) (eval : Eval R) (file record_ : List ℕ) (failed : Type 0) (all more : List Happening) (es : List Entry) (mid now : Option (List Entry)) (bytes : List ℕ) (disk' tape' : Option Told) → file_at es file ≡ Some bytes → file_at es record_ ≡ None → Made es record_ mid
    → WhereTold (Some (synced bytes)) disk' (λ before after. Runs G takes eval (all ++ more) (content before) (content after)) → IfSome tape' (Taped failed all more) → is_some tape' ≡ true → TakesBoth file record_ mid disk' tape' now → LeavesRun G takes eval file record_ failed all more es now
left_run F G takes eval file record_ failed all more es mid now bytes None tape' there none made runs taped tells both = absurd runs
left_run F G takes eval file record_ failed all more es mid now bytes (Some d) None there none made runs taped tells both = absurd cc
left_run F G takes eval file record_ failed all more es mid now bytes (Some d) (Some p) there none made runs taped tells both = record {
  bytes = bytes;
  there = there;
  left = content d;
  runs = runs;
  tape = content p;
  taped = (p, refl, taped);
  kept = both_back es mid now file record_ bytes d p there none made both;
}

lost_run : {R : Type 0} (G : Type 0) (takes : List ℕ → Option R) (eval : Eval R) (file record_ : List ℕ) (all more : List Happening) (es : List Entry) (mid now : Option (List Entry)) (bytes : List ℕ) (disk' tape' : Option Told) → file_at es file ≡ Some bytes → file_at es record_ ≡ None → Made es record_ mid
    → WhereTold (Some (synced bytes)) disk' (λ before after. Runs G takes eval (all ++ more) (content before) (content after)) → IfSome tape' (Taped ⊤ all more) → is_some tape' ≡ true → TakesOne file record_ mid disk' tape' now → LosesRun G takes eval file record_ all more es now
lost_run G takes eval file record_ all more es mid now bytes None tape' there none made runs taped tells one = absurd runs
lost_run G takes eval file record_ all more es mid now bytes (Some d) None there none made runs taped tells one = absurd cc
lost_run G takes eval file record_ all more es mid now bytes (Some d) (Some p) there none made runs taped tells one =
    let told = one_back es mid now file record_ bytes d p there none made one in
    record {
      bytes = bytes;
      there = there;
      held = content d;
      runs = runs;
      text = content p;
      taped = (p, refl, taped);
      left = told.0;
      tape = told.1;
      one = told.2;
      kept = told.3;
    }

-- ---- however it was refused

-- the parts of a refusal over both disks, by when it came, where the shelf tells what it told
unopened_where : IsOwn → IsOnly → (file record_ : List ℕ) (files mid now : Option (List Entry)) (disk empty disk' tape' : Option Told) (hub hub' : Option Peers) (e : FileRefusal) → Lends file record_ files mid disk empty → is_some tape' ≡ is_some empty → TakesBoth file record_ mid disk' tape' now → NotRun disk disk' tape' hub hub' e → NotOpened file record_ files now hub hub' e
unopened_where own only file record_ files mid now disk empty disk' tape' hub hub' e lends tells both run = (run.told, kept files lends.holds lends.absent lends.made lends.empty)
  where
    kept : (fs : Option (List Entry)) → IfSome fs (λ es. Holds es file disk) → IfSome fs (λ es. file_at es record_ ≡ None) → mid ≡ option_map (λ es. es ++ (record_, []) ∷ []) fs → IfSome fs (λ _. empty ≡ Some (synced [])) → MatchOption fs (now ≡ None) (λ es. KeepsUnopened file record_ e es now)
    kept None holds none made is = none_both mid now file record_ disk' tape' made both
    kept (Some es) holds none made is = unopened own only file record_ es mid now holds.0 disk' tape' e holds.1 none made (subst (λ (o : Option Told). OpeningRefused o disk' e) holds.2 run.opening) run.taped (tells ∙ ap (λ (o : Option Told). is_some o) is) both

unopened_lost : IsOwn → IsOnly → (file record_ : List ℕ) (files mid now : Option (List Entry)) (disk empty disk' tape' : Option Told) (hub hub' : Option Peers) (e : FileRefusal) → Lends file record_ files mid disk empty → is_some tape' ≡ is_some empty → TakesOne file record_ mid disk' tape' now → NotRun disk disk' tape' hub hub' e → NotOpened file record_ files now hub hub' FileRefusal.Memory
unopened_lost own only file record_ files mid now disk empty disk' tape' hub hub' e lends tells one run = (run.told, kept files lends.holds lends.absent lends.made lends.empty)
  where
    kept : (fs : Option (List Entry)) → IfSome fs (λ es. Holds es file disk) → IfSome fs (λ es. file_at es record_ ≡ None) → mid ≡ option_map (λ es. es ++ (record_, []) ∷ []) fs → IfSome fs (λ _. empty ≡ Some (synced [])) → MatchOption fs (now ≡ None) (λ es. KeepsUnopened file record_ FileRefusal.Memory es now)
    kept None holds none made is = none_one mid now file record_ disk' tape' made one
    kept (Some es) holds none made is = unopened_last own only file record_ es mid now holds.0 disk' tape' e holds.1 none made (subst (λ (o : Option Told). OpeningRefused o disk' e) holds.2 run.opening) run.taped (tells ∙ ap (λ (o : Option Told). is_some o) is) one

run_where : {R : Type 0} (F G : Type 0) (takes : List ℕ → Option R) (eval : Eval R) (port connections most : ℕ) (file record_ : List ℕ) (files mid now : Option (List Entry)) (disk empty disk' tape' : Option Told) (a : Option (List Tick)) (k : Counter) (hub hub' : Option Peers) (e : FileRefusal) → Lends file record_ files mid disk empty → (G → F) → is_some tape' ≡ is_some empty
    → TakesBoth file record_ mid disk' tape' now → RunRefused F takes eval port connections most disk disk' tape' (e ≡ FileRefusal.Disk) a k hub hub' → NotFinished G takes eval file record_ port connections most files now a k hub hub' e
run_where F G takes eval port connections most file record_ files mid now disk empty disk' tape' a k hub hub' e lends by tells both run = record { all = run.all; more = run.more; told = run.told; kept = kept files lends.holds lends.absent lends.made lends.empty }
  where
    kept : (fs : Option (List Entry)) → IfSome fs (λ es. Holds es file disk) → IfSome fs (λ es. file_at es record_ ≡ None) → mid ≡ option_map (λ es. es ++ (record_, []) ∷ []) fs → IfSome fs (λ _. empty ≡ Some (synced [])) → MatchOption fs (now ≡ None) (λ es. KeepsPart G takes eval file record_ run.all run.more e es now)
    kept None holds none made is = none_both mid now file record_ disk' tape' made both
    kept (Some es) holds none made is = inl (left_run F G takes eval file record_ (e ≡ FileRefusal.Disk) run.all run.more es mid now holds.0 disk' tape' holds.1 none made (runs_of F G takes eval (run.all ++ run.more) holds.0 disk disk' holds.2 by run.runs) run.taped (tells ∙ ap (λ (o : Option Told). is_some o) is) both)

run_lost : {R : Type 0} (F G : Type 0) (takes : List ℕ → Option R) (eval : Eval R) (port connections most : ℕ) (file record_ : List ℕ) (files mid now : Option (List Entry)) (disk empty disk' tape' : Option Told) (failed : Type 0) (a : Option (List Tick)) (k : Counter) (hub hub' : Option Peers) → Lends file record_ files mid disk empty → (G → F) → is_some tape' ≡ is_some empty
    → TakesOne file record_ mid disk' tape' now → RunRefused F takes eval port connections most disk disk' tape' failed a k hub hub' → NotFinished G takes eval file record_ port connections most files now a k hub hub' FileRefusal.Memory
run_lost F G takes eval port connections most file record_ files mid now disk empty disk' tape' failed a k hub hub' lends by tells one run = record { all = run.all; more = run.more; told = run.told; kept = kept files lends.holds lends.absent lends.made lends.empty }
  where
    kept : (fs : Option (List Entry)) → IfSome fs (λ es. Holds es file disk) → IfSome fs (λ es. file_at es record_ ≡ None) → mid ≡ option_map (λ es. es ++ (record_, []) ∷ []) fs → IfSome fs (λ _. empty ≡ Some (synced [])) → MatchOption fs (now ≡ None) (λ es. KeepsPart G takes eval file record_ run.all run.more FileRefusal.Memory es now)
    kept None holds none made is = none_one mid now file record_ disk' tape' made one
    kept (Some es) holds none made is = inr (refl, lost_run G takes eval file record_ run.all run.more es mid now holds.0 disk' tape' holds.1 none made (runs_of F G takes eval (run.all ++ run.more) holds.0 disk disk' holds.2 by run.runs) (tape_as failed ⊤ run.all run.more tape' (λ f. tt) run.taped) (tells ∙ ap (λ (o : Option Told). is_some o) is) one)

refused_as : {R : Type 0} (F G : Type 0) (takes : List ℕ → Option R) (eval : Eval R) (port connections most : ℕ) (file record_ : List ℕ) (files mid now : Option (List Entry)) (disk empty disk' tape' : Option Told) (a : Option (List Tick)) (k : Counter) (hub hub' : Option Peers) (first e : FileRefusal) → IsOwn → IsOnly → Lends file record_ files mid disk empty → (G → F)
    → DiskRefused F takes eval port connections most disk disk' tape' a k hub hub' first → is_some tape' ≡ is_some empty → IsBack file record_ mid disk' tape' now first e → FileRefused G takes eval file record_ port connections most files now a k hub hub' e
refused_as F G takes eval port connections most file record_ files mid now disk empty disk' tape' a k hub hub' first e own only lends by refused tells (inl (same, both)) =
    subst (FileRefused G takes eval file record_ port connections most files now a k hub hub') (sym same) (comes_as first ⊥ (NotRun disk disk' tape' hub hub' first) (RunRefused F takes eval port connections most disk disk' tape' (first ≡ FileRefusal.Disk) a k hub hub') (Untouched files now hub hub') (NotOpened file record_ files now hub hub' first) (NotFinished G takes eval file record_ port connections most files now a k hub hub' first)
    (λ x. absurd x) (unopened_where own only file record_ files mid now disk empty disk' tape' hub hub' first lends tells both) (run_where F G takes eval port connections most file record_ files mid now disk empty disk' tape' a k hub hub' first lends by tells both) refused)
refused_as F G takes eval port connections most file record_ files mid now disk empty disk' tape' a k hub hub' first e own only lends by refused tells (inr (memory, one)) =
    subst (FileRefused G takes eval file record_ port connections most files now a k hub hub') (sym memory) (comes_last first ⊥ (NotRun disk disk' tape' hub hub' first) (RunRefused F takes eval port connections most disk disk' tape' (first ≡ FileRefusal.Disk) a k hub hub') (Untouched files now hub hub') (NotOpened file record_ files now hub hub' FileRefusal.Memory) (NotFinished G takes eval file record_ port connections most files now a k hub hub' FileRefusal.Memory)
    (λ x. absurd x) (unopened_lost own only file record_ files mid now disk empty disk' tape' hub hub' first lends tells one) (run_lost F G takes eval port connections most file record_ files mid now disk empty disk' tape' (first ≡ FileRefusal.Disk) a k hub hub' lends by tells one) refused)

pub refused_kept : {R : Type 0} (F G : Type 0) (takes : List ℕ → Option R) (eval : Eval R) (port connections most : ℕ) (file record_ : List ℕ) (files mid now : Option (List Entry)) (disk empty : Option Told) (a : Option (List Tick)) (k : Counter) (hub hub' : Option Peers) (r : Result Served FileRefusal) → IsOwn → IsOnly → Lends file record_ files mid disk empty → (G → F)
    → IfErr r (BackRefused F takes eval file record_ port connections most mid now disk empty a k hub hub') → IfErr r (FileRefused G takes eval file record_ port connections most files now a k hub hub')
refused_kept F G takes eval port connections most file record_ files mid now disk empty a k hub hub' (Ok served) own only lends by back = tt
refused_kept F G takes eval port connections most file record_ files mid now disk empty a k hub hub' (Err e) own only lends by back = refused_as F G takes eval port connections most file record_ files mid now disk empty back.disk' back.tape' a k hub hub' back.first e own only lends by back.refused back.tells back.back

pub served_kept_ok : {R : Type 0} (F G : Type 0) (takes : List ℕ → Option R) (eval : Eval R) (port connections most : ℕ) (file record_ : List ℕ) (files mid now : Option (List Entry)) (disk empty : Option Told) (a : Option (List Tick)) (k : Counter) (b : Option (List Tick)) (l : Counter) (hub hub' : Option Peers) (r : Result Served FileRefusal) → Lends file record_ files mid disk empty → (G → F)
    → IfOk r (λ served. BackServed F takes eval file record_ port connections most mid now disk empty a k b l hub hub' served.connections served.replies) → IfOk r (λ served. FileServed G takes eval file record_ port connections most files now a k b l hub hub' served.connections served.replies)
served_kept_ok F G takes eval port connections most file record_ files mid now disk empty a k b l hub hub' (Ok served) lends by back = served_kept F G takes eval port connections most file record_ files mid now disk empty a k b l hub hub' served.connections served.replies lends by back
served_kept_ok F G takes eval port connections most file record_ files mid now disk empty a k b l hub hub' (Err e) lends by back = tt

-- ---- refused before there was a tape

pub untouched : {R : Type 0} (G : Type 0) (takes : List ℕ → Option R) (eval : Eval R) (port connections most : ℕ) (file record_ : List ℕ) (files now : Option (List Entry)) (a : Option (List Tick)) (k : Counter) (hub : Option Peers) (e : FileRefusal) → Comes e ⊤ ⊥ ⊥ → now ≡ files → FileRefused G takes eval file record_ port connections most files now a k hub hub e
untouched G takes eval port connections most file record_ files now a k hub e before same =
    comes_as e ⊤ ⊥ ⊥ (Untouched files now hub hub) (NotOpened file record_ files now hub hub e) (NotFinished G takes eval file record_ port connections most files now a k hub hub e) (λ x. (same, refl)) (λ x. absurd x) (λ x. absurd x) before

-- ---- given back

-- it did what its plan says, and there was no memory to tell that
served_last : {R : Type 0} (F : Type 0) (takes : List ℕ → Option R) (eval : Eval R) (port connections most : ℕ) (disk disk' tape : Option Told) (a : Option (List Tick)) (k : Counter) (b : Option (List Tick)) (l : Counter) (hub hub' : Option Peers) (accepted replies : ℕ)
    → DiskServed F takes eval port connections most disk disk' tape a k b l hub hub' accepted replies → DiskRefused F takes eval port connections most disk disk' tape a k hub hub' FileRefusal.Memory
served_last F takes eval port connections most disk disk' tape a k b l hub hub' accepted replies served = inr (inr (record {
  all = served.all;
  more = [];
  taped = tape_last (FileRefusal.Memory ≡ FileRefusal.Disk) served.all tape served.taped;
  told = tells_last port connections most served.all a k b l accepted replies hub hub' served.told;
  runs = subst (λ (xs : List Happening). WhereTold disk disk' (λ before after. Runs F takes eval xs (content before) (content after))) (sym (append-nil served.all)) served.runs;
}))

pub back_served : {R : Type 0} (F : Type 0) (takes : List ℕ → Option R) (eval : Eval R) (port connections most : ℕ) (file record_ : List ℕ) (files now : Option (List Entry)) (disk disk' empty tape : Option Told) (a : Option (List Tick)) (k : Counter) (b : Option (List Tick)) (l : Counter) (hub hub' : Option Peers) (r : Result Served FileRefusal)
    → IfOk r (λ served. DiskServed F takes eval port connections most disk disk' tape a k b l hub hub' served.connections served.replies) → is_some tape ≡ is_some empty → TakesBoth file record_ files disk' tape now
    → IfOk r (λ served. BackServed F takes eval file record_ port connections most files now disk empty a k b l hub hub' served.connections served.replies)
back_served F takes eval port connections most file record_ files now disk disk' empty tape a k b l hub hub' (Ok served) was tells both = record { disk' = disk'; tape' = tape; served = was; tells = tells; back = both }
back_served F takes eval port connections most file record_ files now disk disk' empty tape a k b l hub hub' (Err e) was tells both = tt

pub back_refused : {R : Type 0} (F : Type 0) (takes : List ℕ → Option R) (eval : Eval R) (port connections most : ℕ) (file record_ : List ℕ) (files now : Option (List Entry)) (disk disk' empty tape : Option Told) (a : Option (List Tick)) (k : Counter) (hub hub' : Option Peers) (r : Result Served FileRefusal)
    → IfErr r (DiskRefused F takes eval port connections most disk disk' tape a k hub hub') → is_some tape ≡ is_some empty → TakesBoth file record_ files disk' tape now → IfErr r (BackRefused F takes eval file record_ port connections most files now disk empty a k hub hub')
back_refused F takes eval port connections most file record_ files now disk disk' empty tape a k hub hub' (Ok served) was tells both = tt
back_refused F takes eval port connections most file record_ files now disk disk' empty tape a k hub hub' (Err e) was tells both = record { disk' = disk'; tape' = tape; first = e; refused = was; tells = tells; back = inl (refl, both) }

-- for want of memory, whatever came of it
pub back_lost : {R : Type 0} (F : Type 0) (takes : List ℕ → Option R) (eval : Eval R) (port connections most : ℕ) (file record_ : List ℕ) (files now : Option (List Entry)) (disk disk' empty tape : Option Told) (a : Option (List Tick)) (k : Counter) (b : Option (List Tick)) (l : Counter) (hub hub' : Option Peers) (r : Result Served FileRefusal)
    → IfOk r (λ served. DiskServed F takes eval port connections most disk disk' tape a k b l hub hub' served.connections served.replies) → IfErr r (DiskRefused F takes eval port connections most disk disk' tape a k hub hub') → is_some tape ≡ is_some empty → TakesOne file record_ files disk' tape now
    → (refusal : FileRefusal) → refusal ≡ FileRefusal.Memory → BackRefused F takes eval file record_ port connections most files now disk empty a k hub hub' refusal
back_lost F takes eval port connections most file record_ files now disk disk' empty tape a k b l hub hub' (Ok served) was gone tells one refusal is = record { disk' = disk'; tape' = tape; first = FileRefusal.Memory; refused = served_last F takes eval port connections most disk disk' tape a k b l hub hub' served.connections served.replies was; tells = tells; back = inr (is, one) }
back_lost F takes eval port connections most file record_ files now disk disk' empty tape a k b l hub hub' (Err e) was gone tells one refusal is = record { disk' = disk'; tape' = tape; first = e; refused = gone; tells = tells; back = inr (is, one) }
