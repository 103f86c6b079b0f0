-- What a server over a core did, once its core is closed.
use Rattle.std.proofs.Common.{◌≡◌, ◌∙◌, ◌++◌, ℕ, List, [], map, append-nil, Option, None, Some, Result, Ok, Err, IfErr, IfOk, IfSome, is_some, IsSome, inr, refl, sym, ap, subst}
use Rattle.zbase.specs.Faults.{Counter, Counts, IsFaultless}
use Rattle.zdisk.specs.Crashes.{IsSynced}
use Rattle.zdisk.specs.Disk.{Told, content}
use Rattle.zio.specs.Clocks.{Tick}
use Rattle.zio.specs.Hubs.{Peers}
use Rattle.evaluator.specs.Exec.{Eval}
use Rattle.http_clients.specs.Arriving.{Tells}
use Rattle.http_clients.specs.Clients.{Client, held}
use Rattle.packing.specs.Reachable.{Linking}
use Rattle.schedule.specs.Items.{IsSchedule}
use Rattle.fs_store.specs.Opened.{Opens, OpensAs, WhereTold}
use Rattle.fs_store.specs.Stores.{IsTold, StoreView, most_length}
use Rattle.connection.specs.Telling.{TellsOn, tells_then}
use Rattle.txn_core.specs.Cores.{CoreView}
use Rattle.txn_core.specs.Replying.{terms_of}
use Rattle.txn_core.specs.Slots.{Possible}
use Rattle.zserve.specs.Going.{Goes}
use Rattle.zserve.specs.Happened.{Happening, items}
use Rattle.zserve.specs.Reports.{Reports}
use Rattle.zserve.specs.Served.{RefusedRun, RefusedTold, RunTold}
use Rattle.zserve.specs.Tapes.{clients_of}
use Rattle.zserve.specs.Taping.{Taped}
use Rattle.zserve.specs.declared.plan.Served.{Served}
use Rattle.zserve.specs.declared.refusal.ServeRefusal.{ServeRefusal}
use Rattle.file_server.specs.Ending.{Leaves, LeavesDisk, MayHold, RefusedOver, ServedOver}
use Rattle.file_server.specs.Refusals.{Comes, of_serve}
use Rattle.file_server.specs.Running.{DiskRefused, DiskServed, NotRun, RunRefused, Runs}
use Rattle.file_server.specs.declared.refusal.FileRefusal.{FileRefusal}
use Rattle.file_server.specs.Opening.{OpeningRefused}
use Rattle.file_server.proofs.Coming.{comes_as, comes_serve}
use Rattle.file_server.proofs.Unopened.{never_failed}
use Rattle.file_server.proofs.Tapes.{taped_as, taped_whole}

-- ---- what serving says, by how it ended

-- there is a report for each store that may stand
abbrev pub AreReported : {E R S : Type 0} → (List ℕ → Option R) → Eval R → CoreView E R S → CoreView E R S → List Happening → Type 0
AreReported takes eval old new all =
    IsTold old.store → (links : Linking) (may : StoreView) → Possible new.store may → Reports (terms_of takes eval links old.store.limit old.store.end) old.store.disk.counter.count new.store.disk.counter.count old.store.history all may

abbrev pub WasServed : {E R S : Type 0} → (List ℕ → Option R) → Eval R → (port connections most : ℕ) → CoreView E R S → CoreView E R S → Option Told → Option (List Tick) → Counter → Option (List Tick) → Counter → Option Peers → Option Peers → Served → Type 0
WasServed takes eval port connections most old new tape ticks counter ticks' counter' hub hub' served =
    (all : List Happening) × (now : ℕ) × Goes takes eval old 0 all new now × IfSome tape (λ told. IsSynced told × IsSchedule (content told) (items all))
    × Tells hub hub' (RunTold port connections most all ticks counter ticks' counter' served.connections served.replies) × AreReported takes eval old new all

abbrev pub WasRefused : {E R S : Type 0} → (List ℕ → Option R) → Eval R → (port connections most : ℕ) → CoreView E R S → CoreView E R S → Option Told → Option (List Tick) → Counter → Option Peers → Option Peers → ServeRefusal → Type 0
WasRefused takes eval port connections most old new tape ticks counter hub hub' refusal =
    (gone : RefusedRun takes eval port connections most old new ticks counter hub hub') × IfSome tape (Taped (refusal ≡ ServeRefusal.Tape) gone.all gone.more) × AreReported takes eval old new (gone.all ++ gone.more)

-- ---- what its core tells, and its faults

-- the disk goes on telling, and where it can't fail it keeps its count
abbrev WentOn : {E R S : Type 0} → CoreView E R S → CoreView E R S → Type 0
WentOn old new =
    TellsOn old.store.disk.told new.store.disk.told × (IsFaultless old.store.disk.counter → IsFaultless new.store.disk.counter × (new.store.disk.counter.count ≡ old.store.disk.counter.count))

refused_on : {E R S : Type 0} (takes : List ℕ → Option R) (eval : Eval R) (port connections most : ℕ) (old new : CoreView E R S) (a : Option (List Tick)) (k : Counter) (hub hub' : Option Peers) → RefusedRun takes eval port connections most old new a k hub hub' → WentOn old new
refused_on takes eval port connections most old new a k hub hub' gone = (
  tells_then old.store.disk.told gone.served.store.disk.told new.store.disk.told gone.goes.tells gone.went.tells,
  λ calm. (let one = gone.goes.calm calm in let two = gone.went.calm one.0 in (two.0, two.1 ∙ one.1)),
)

went_on : {E R S : Type 0} (takes : List ℕ → Option R) (eval : Eval R) (port connections most : ℕ) (old new : CoreView E R S) (tape : Option Told) (a : Option (List Tick)) (k : Counter) (b : Option (List Tick)) (l : Counter) (hub hub' : Option Peers) (r : Result Served ServeRefusal)
    → IfOk r (WasServed takes eval port connections most old new tape a k b l hub hub') → IfErr r (WasRefused takes eval port connections most old new tape a k hub hub') → WentOn old new
went_on takes eval port connections most old new tape a k b l hub hub' (Ok served) was gone = (was.2.tells, was.2.calm)
went_on takes eval port connections most old new tape a k b l hub hub' (Err e) was gone = refused_on takes eval port connections most old new a k hub hub' gone.0

tells_some : (a b : Option Told) → TellsOn a b → is_some b ≡ is_some a
tells_some None None on = refl
tells_some (Some a) (Some b) on = refl
tells_some (Some a) None on = absurd on
tells_some None (Some b) on = absurd on

pub tells_still : {E R S : Type 0} (takes : List ℕ → Option R) (eval : Eval R) (port connections most : ℕ) (old new : CoreView E R S) (disk tape : Option Told) (a : Option (List Tick)) (k : Counter) (b : Option (List Tick)) (l : Counter) (hub hub' : Option Peers) (r : Result Served ServeRefusal)
    → IfOk r (WasServed takes eval port connections most old new tape a k b l hub hub') → IfErr r (WasRefused takes eval port connections most old new tape a k hub hub') → TellsOn new.store.disk.told disk → is_some disk ≡ is_some old.store.disk.told
tells_still takes eval port connections most old new disk tape a k b l hub hub' r was gone on =
    tells_some new.store.disk.told disk on ∙ tells_some old.store.disk.told new.store.disk.told (went_on takes eval port connections most old new tape a k b l hub hub' r was gone).0

-- a disk that can't fail didn't fail while its core was closed
pub closed_calmly : {E R S : Type 0} (takes : List ℕ → Option R) (eval : Eval R) (port connections most : ℕ) (old new : CoreView E R S) (tape : Option Told) (a : Option (List Tick)) (k : Counter) (b : Option (List Tick)) (l : Counter) (hub hub' : Option Peers) (r : Result Served ServeRefusal) (last : Counter) (F : Type 0)
    → IfOk r (WasServed takes eval port connections most old new tape a k b l hub hub') → IfErr r (WasRefused takes eval port connections most old new tape a k hub hub') → Counts new.store.disk.counter last F → F → IsFaultless old.store.disk.counter → ⊥
closed_calmly takes eval port connections most old new tape a k b l hub hub' r last F was gone counts failed calm =
    never_failed new.store.disk.counter last F counts failed ((went_on takes eval port connections most old new tape a k b l hub hub' r was gone).1 calm).0

-- ---- the disk

leaves : {E R S : Type 0} (takes : List ℕ → Option R) (eval : Eval R) (old new : CoreView E R S) (all : List Happening) (disk : Option Told) → AreReported takes eval old new all → WentOn old new → IfSome disk (λ t. MayHold new.store (content t)) → LeavesDisk takes eval old.store all disk
leaves takes eval old new all None reports on holds told = tt
leaves takes eval old new all (Some t) reports on holds told = record { may = holds.0; count = new.store.disk.counter.count; reports = λ links. reports told links holds.0 holds.1; calm = λ calm. (on.1 calm).1; end = holds.2; opens = holds.3 }

pub served_over : {E R S : Type 0} (takes : List ℕ → Option R) (eval : Eval R) (port connections most : ℕ) (old new : CoreView E R S) (disk tape : Option Told) (a : Option (List Tick)) (k : Counter) (b : Option (List Tick)) (l : Counter) (hub hub' : Option Peers) (served : Served)
    → WasServed takes eval port connections most old new tape a k b l hub hub' served → IfSome disk (λ t. MayHold new.store (content t)) → ServedOver takes eval port connections most old.store disk tape a k b l hub hub' served.connections served.replies
served_over takes eval port connections most old new disk tape a k b l hub hub' served was holds = record {
  all = was.0;
  taped = was.3;
  told = was.4;
  leaves = leaves takes eval old new was.0 disk was.5 (was.2.tells, was.2.calm) holds;
}

-- a whole run, seen as one that was refused behind its last round
told_last : (port connections most : ℕ) (all : List Happening) (a : Option (List Tick)) (k : Counter) (b : Option (List Tick)) (l : Counter) (accepted replies : ℕ) (p q : Peers) → RunTold port connections most all a k b l accepted replies p q → RefusedTold port connections most all a k p q
told_last port connections most all a k b l accepted replies p q told =
    let same : clients_of told.rounds ++ [] ≡ clients_of told.rounds = append-nil (clients_of told.rounds) in
    record {
      port_is = inr told.port_is;
      rounds = told.rounds;
      is = told.is;
      are = record {
        others = [];
        came = told.are.came ∙ ap (λ (cs : List Client). map held cs ++ q.coming) (sym same);
        accepted = told.are.accepted ∙ ap (λ (cs : List Client). p.accepted ++ map (λ c. c.end) cs) (sym same);
        sized = told.are.sized;
        each = told.are.each;
        shut = tt;
      };
      stamps = (b, l, told.stamps);
    }

pub tells_last : (port connections most : ℕ) (all : List Happening) (a : Option (List Tick)) (k : Counter) (b : Option (List Tick)) (l : Counter) (accepted replies : ℕ) (hub hub' : Option Peers) → Tells hub hub' (RunTold port connections most all a k b l accepted replies) → Tells hub hub' (RefusedTold port connections most all a k)
tells_last port connections most all a k b l accepted replies None hub' told = told
tells_last port connections most all a k b l accepted replies (Some p) hub' told = (told.0, told.1, told_last port connections most all a k b l accepted replies p told.0 told.2)

-- a tape that is whole, as one of a run that was refused
pub tape_last : (F : Type 0) (all : List Happening) (tape : Option Told) → IfSome tape (λ told. IsSynced told × IsSchedule (content told) (items all)) → IfSome tape (Taped F all [])
tape_last F all None taped = tt
tape_last F all (Some t) taped = taped_whole F all t taped.1

pub tape_as : (F G : Type 0) (all more : List Happening) (tape : Option Told) → (F → G) → IfSome tape (Taped F all more) → IfSome tape (Taped G all more)
tape_as F G all more None turn taped = tt
tape_as F G all more (Some t) turn taped = taped_as F G all more t turn taped

gone_over : {E R S : Type 0} (takes : List ℕ → Option R) (eval : Eval R) (port connections most : ℕ) (old new : CoreView E R S) (disk tape : Option Told) (a : Option (List Tick)) (k : Counter) (hub hub' : Option Peers) (e : ServeRefusal) (F : Type 0)
    → WasRefused takes eval port connections most old new tape a k hub hub' e → IfSome disk (λ t. MayHold new.store (content t)) → (e ≡ ServeRefusal.Tape → F) → RefusedOver takes eval port connections most old.store disk tape F a k hub hub'
gone_over takes eval port connections most old new disk tape a k hub hub' e F gone holds torn = record {
  all = gone.0.all;
  more = gone.0.more;
  taped = tape_as (e ≡ ServeRefusal.Tape) F gone.0.all gone.0.more tape torn gone.1;
  told = gone.0.told;
  leaves = leaves takes eval old new (gone.0.all ++ gone.0.more) disk gone.2 (refused_on takes eval port connections most old new a k hub hub' gone.0) holds;
}

-- serving was refused
pub refused_over : {E R S : Type 0} (takes : List ℕ → Option R) (eval : Eval R) (port connections most : ℕ) (old new : CoreView E R S) (disk tape : Option Told) (a : Option (List Tick)) (k : Counter) (hub hub' : Option Peers) (e : ServeRefusal) (refusal : FileRefusal) → refusal ≡ of_serve e
    → WasRefused takes eval port connections most old new tape a k hub hub' e → IfSome disk (λ t. MayHold new.store (content t)) → Comes refusal ⊥ ⊥ (RefusedOver takes eval port connections most old.store disk tape (refusal ≡ FileRefusal.Disk) a k hub hub')
refused_over takes eval port connections most old new disk tape a k hub hub' e refusal is gone holds =
    subst (λ (x : FileRefusal). Comes x ⊥ ⊥ (RefusedOver takes eval port connections most old.store disk tape (x ≡ FileRefusal.Disk) a k hub hub')) (sym is) (comes_serve e ⊥ ⊥ (RefusedOver takes eval port connections most old.store disk tape (of_serve e ≡ FileRefusal.Disk) a k hub hub') (gone_over takes eval port connections most old new disk tape a k hub hub' e (of_serve e ≡ FileRefusal.Disk) gone holds (λ torn. ap of_serve torn)))

-- the disk failed behind it, however it ended
pub failed_over : {E R S : Type 0} (takes : List ℕ → Option R) (eval : Eval R) (port connections most : ℕ) (old new : CoreView E R S) (disk tape : Option Told) (a : Option (List Tick)) (k : Counter) (b : Option (List Tick)) (l : Counter) (hub hub' : Option Peers) (r : Result Served ServeRefusal)
    → IfOk r (WasServed takes eval port connections most old new tape a k b l hub hub') → IfErr r (WasRefused takes eval port connections most old new tape a k hub hub') → IfSome disk (λ t. MayHold new.store (content t))
    → Comes FileRefusal.Disk ⊥ ⊥ (RefusedOver takes eval port connections most old.store disk tape (FileRefusal.Disk ≡ FileRefusal.Disk) a k hub hub')
failed_over takes eval port connections most old new disk tape a k b l hub hub' (Ok served) was gone holds = inr (inr (record {
  all = was.0;
  more = [];
  taped = tape_last (FileRefusal.Disk ≡ FileRefusal.Disk) was.0 tape was.3;
  told = tells_last port connections most was.0 a k b l served.connections served.replies hub hub' was.4;
  leaves = leaves takes eval old new (was.0 ++ []) disk (subst (AreReported takes eval old new) (sym (append-nil was.0)) was.5) (was.2.tells, was.2.calm) holds;
}))
failed_over takes eval port connections most old new disk tape a k b l hub hub' (Err e) was gone holds = inr (inr (gone_over takes eval port connections most old new disk tape a k hub hub' e (FileRefusal.Disk ≡ FileRefusal.Disk) gone holds (λ is. refl)))

-- ---- over the file on a disk

-- over a sound disk its count was below the last value, and stays
runs : {R : Type 0} (sound : Type 0) (takes : List ℕ → Option R) (eval : Eval R) (all : List Happening) (s : StoreView) (torn : ℕ) (before opened after : List ℕ) → OpensAs before opened s torn → s.limit ≡ most_length → (sound → IsFaultless s.disk.counter) → Leaves takes eval s all after → Runs sound takes eval all before after
runs sound takes eval all s torn before opened after opens limit calm left = record {
  history = s.history;
  end = s.end;
  opens = record { fits = opens.fits; front = opens.front; cut = opens.cut; is = sym opens.history };
  old = s.disk.counter.count;
  new = left.count;
  calm = λ is. (left.calm (calm is), (calm is).below);
  may = left.may;
  reports = λ links. subst (λ n. Reports (terms_of takes eval links n s.end) s.disk.counter.count left.count s.history all left.may) limit (left.reports links);
  stands = left.end;
  left = left.opens;
}

runs_where : {R : Type 0} (sound : Type 0) (takes : List ℕ → Option R) (eval : Eval R) (all : List Happening) (s : StoreView) (disk disk' : Option Told) → Opens disk most_length s → (sound → IsFaultless s.disk.counter) → is_some disk' ≡ is_some s.disk.told → LeavesDisk takes eval s all disk' → WhereTold disk disk' (λ b a. Runs sound takes eval all (content b) (content a))
runs_where sound takes eval all s disk disk' opens calm tells left = go disk s.disk.told disk' refl opens.told tells left
  where
    go : (d o e : Option Told) → o ≡ s.disk.told → WhereTold d o (λ b a. OpensAs (content b) (content a) s opens.torn) → is_some e ≡ is_some o → LeavesDisk takes eval s all e → WhereTold d e (λ b a. Runs sound takes eval all (content b) (content a))
    go None None None is told same left = tt
    go None None (Some e) is told same left = absurd cc
    go None (Some o) e is told same left = absurd told
    go (Some d) None e is told same left = absurd told
    go (Some d) (Some o) None is told same left = absurd cc
    go (Some d) (Some o) (Some e) is told same left = runs sound takes eval all s opens.torn (content d) (content o) (content e) told opens.limit_is calm (left (subst (λ (x : Option Told). IsSome x) is refl))

disk_served : {R : Type 0} (sound : Type 0) (takes : List ℕ → Option R) (eval : Eval R) (port connections most : ℕ) (s : StoreView) (disk disk' tape : Option Told) (a : Option (List Tick)) (k : Counter) (b : Option (List Tick)) (l : Counter) (hub hub' : Option Peers) (accepted replies : ℕ)
    → Opens disk most_length s → (sound → IsFaultless s.disk.counter) → is_some disk' ≡ is_some s.disk.told → ServedOver takes eval port connections most s disk' tape a k b l hub hub' accepted replies → DiskServed sound takes eval port connections most disk disk' tape a k b l hub hub' accepted replies
disk_served sound takes eval port connections most s disk disk' tape a k b l hub hub' accepted replies opens calm tells over = record {
  all = over.all;
  taped = over.taped;
  told = over.told;
  runs = runs_where sound takes eval over.all s disk disk' opens calm tells over.leaves;
}

pub disk_served_ok : {R : Type 0} (sound : Type 0) (takes : List ℕ → Option R) (eval : Eval R) (port connections most : ℕ) (s : StoreView) (disk disk' tape : Option Told) (a : Option (List Tick)) (k : Counter) (b : Option (List Tick)) (l : Counter) (hub hub' : Option Peers) (r : Result Served FileRefusal)
    → Opens disk most_length s → (sound → IsFaultless s.disk.counter) → is_some disk' ≡ is_some s.disk.told
    → IfOk r (λ served. ServedOver takes eval port connections most s disk' tape a k b l hub hub' served.connections served.replies) → IfOk r (λ served. DiskServed sound takes eval port connections most disk disk' tape a k b l hub hub' served.connections served.replies)
disk_served_ok sound takes eval port connections most s disk disk' tape a k b l hub hub' (Ok served) opens calm tells over = disk_served sound takes eval port connections most s disk disk' tape a k b l hub hub' served.connections served.replies opens calm tells over
disk_served_ok sound takes eval port connections most s disk disk' tape a k b l hub hub' (Err e) opens calm tells over = tt

run_refused : {R : Type 0} (sound : Type 0) (takes : List ℕ → Option R) (eval : Eval R) (port connections most : ℕ) (s : StoreView) (disk disk' tape : Option Told) (F : Type 0) (a : Option (List Tick)) (k : Counter) (hub hub' : Option Peers)
    → Opens disk most_length s → (sound → IsFaultless s.disk.counter) → is_some disk' ≡ is_some s.disk.told → RefusedOver takes eval port connections most s disk' tape F a k hub hub' → RunRefused sound takes eval port connections most disk disk' tape F a k hub hub'
run_refused sound takes eval port connections most s disk disk' tape F a k hub hub' opens calm tells over = record {
  all = over.all;
  more = over.more;
  taped = over.taped;
  told = over.told;
  runs = runs_where sound takes eval (over.all ++ over.more) s disk disk' opens calm tells over.leaves;
}

-- it was opened, and refused while it ran
pub disk_refused : {R : Type 0} (sound : Type 0) (takes : List ℕ → Option R) (eval : Eval R) (port connections most : ℕ) (s : StoreView) (disk disk' tape : Option Told) (a : Option (List Tick)) (k : Counter) (hub hub' : Option Peers) (r : Result Served FileRefusal)
    → Opens disk most_length s → (sound → IsFaultless s.disk.counter) → is_some disk' ≡ is_some s.disk.told
    → IfErr r (λ e. Comes e ⊥ ⊥ (RefusedOver takes eval port connections most s disk' tape (e ≡ FileRefusal.Disk) a k hub hub')) → IfErr r (DiskRefused sound takes eval port connections most disk disk' tape a k hub hub')
disk_refused sound takes eval port connections most s disk disk' tape a k hub hub' (Ok served) opens calm tells over = tt
disk_refused sound takes eval port connections most s disk disk' tape a k hub hub' (Err e) opens calm tells over =
    comes_as e ⊥ ⊥ (RefusedOver takes eval port connections most s disk' tape (e ≡ FileRefusal.Disk) a k hub hub') ⊥ (NotRun disk disk' tape hub hub' e) (RunRefused sound takes eval port connections most disk disk' tape (e ≡ FileRefusal.Disk) a k hub hub')
    (λ x. x) (λ x. absurd x) (run_refused sound takes eval port connections most s disk disk' tape (e ≡ FileRefusal.Disk) a k hub hub' opens calm tells) over

-- it wasn't opened
pub not_run : {R : Type 0} (sound : Type 0) (takes : List ℕ → Option R) (eval : Eval R) (port connections most : ℕ) (disk disk' tape : Option Told) (a : Option (List Tick)) (k : Counter) (hub : Option Peers) (e : FileRefusal)
    → Comes e ⊥ (OpeningRefused disk disk' e) ⊥ → ((t : Told) → tape ≡ Some t → content t ≡ []) → DiskRefused sound takes eval port connections most disk disk' tape a k hub hub e
not_run sound takes eval port connections most disk disk' tape a k hub e refused empty =
    comes_as e ⊥ (OpeningRefused disk disk' e) ⊥ ⊥ (NotRun disk disk' tape hub hub e) (RunRefused sound takes eval port connections most disk disk' tape (e ≡ FileRefusal.Disk) a k hub hub)
    (λ x. x) (λ opening. record { opening = opening; taped = still tape empty; told = refl }) (λ x. absurd x) refused
  where
    still : (o : Option Told) → ((t : Told) → o ≡ Some t → content t ≡ []) → IfSome o (λ t. content t ≡ [])
    still None none = tt
    still (Some t) none = none t refl

-- ---- causes

pub is_hub : (e : ServeRefusal) → of_serve e ≡ FileRefusal.Hub → e ≡ ServeRefusal.Hub
is_hub ServeRefusal.Hub is = refl
is_hub ServeRefusal.Tape is = absurd cc
is_hub ServeRefusal.Memory is = absurd cc

pub is_tape : (e : ServeRefusal) → of_serve e ≡ FileRefusal.Disk → e ≡ ServeRefusal.Tape
is_tape ServeRefusal.Tape is = refl
is_tape ServeRefusal.Hub is = absurd cc
is_tape ServeRefusal.Memory is = absurd cc
