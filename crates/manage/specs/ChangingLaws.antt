-- What a call writes, by the table: each record is settled to that of its object, and a change keeps its rules.
use Rattle.std.proofs.Common.{◌≡◌, ◌∙◌, ℕ, ◌<◌, ◌≤◌, ◌^◌, lit<, length, Bool, true, false, List, [], ◌∷◌, map, Option, Some, None, Result, Ok, Err, refl, sym, ap, ap₂, subst, arith, eq-eqb, nat_eq, if◌then◌else◌}
use Rattle.std.specs.Prelude.{AllPairs, ◌≢◌}
use Rattle.std.specs.List.{AllByRecursion}
use Rattle.zbase.specs.History.{History}
use Rattle.zbase.specs.Query.{Done, ◌>>=◌, run, go_on, and_then, Halt}
use Rattle.zbase.specs.QueryLaws.{run_then}
use Rattle.zbase.specs.Values.{next}
use Rattle.zobject.specs.declared.object.Object.{Object}
use Rattle.zobject.specs.Changes.{with_id}
use Rattle.zobject.specs.Folders.{child_of}
use Rattle.zobject.specs.Rules.{kind_of}
use Rattle.zknown.specs.Seen.{Seen, Here, Absent, Unreadable, Objects}
use Rattle.zobject.specs.declared.object.Child.{Child}
use Rattle.evaluator.specs.declared.ask.Ask.{Ask}
use Rattle.evaluator.specs.declared.fact.Fact.{Fact}
use Rattle.evaluator.specs.Change.{HasKnownValue, IsChange, longest_text, named}
use Rattle.evaluator.specs.Questions.{as_ask}
use Rattle.evaluator.specs.declared.draft.Name.{Name}
use Rattle.evaluator.specs.Settle.{oid_of, record_of}
use Rattle.form_fields.specs.declared.field.Field.{Field}
use Rattle.manage.specs.declared.call.Call.{Call}
use Rattle.manage.specs.declared.call.Call.TheVariants as call
use Rattle.manage.specs.declared.changes.Called.{Called}
use Rattle.manage.specs.declared.changes.Called.TheVariants as called
use Rattle.manage.specs.declared.changes.Change.{Change}
use Rattle.manage.specs.declared.refusal.FieldName.TheVariants as field
use Rattle.manage.specs.declared.refusal.ManageRefusal.{ManageRefusal}
use Rattle.manage.specs.Becoming.{Situation, children, children_in, situation, text, with_renamed}
use Rattle.manage.specs.Calling.{here, present}
use Rattle.manage.specs.Changing.{became, by_call, by_row, called_by, change, changed, depth_of, judged, renamed_child, settled, undoes, wanted, writes, written, written_by}
use Rattle.manage.specs.Fields.{Checked}
use Rattle.manage.specs.Fields as tests
use Rattle.manage.specs.Laws.{AreLawful, ChangesAreLawful, HolesFit, KnowsValues, SettlesRightly, WritesLawfully, settled_row}
use Rattle.manage.specs.Table.{Adds, Itself, Renames, Row, Writes, row_of}
use Rattle.manage.specs.Undoing.{undone_id}
use Rattle.manage.specs.Written.{IsSettled, Written, change_of, entry_of, grown, whole, with_child}
use Rattle.manage.specs.WrittenLaws.{grown_fits, grown_settles, record_is_some, whole_settles}

-- ---- an object that is here

here_at : (k : ℕ → Option (Seen Object)) (o : ℕ) (x : Object) (found : Option (Seen Object)) → as_ask (go_on o (λ seen. run k (present o seen)) found) ≡ Ok x → found ≡ Some (Here x)
here_at k o x None e = absurd (let bad = e in cc)
here_at k o x (Some (Here y)) e = (let same : ◌≡◌ {A = Result Object (Halt Ask ManageRefusal)} (Ok y) (Ok x) = e in cc)
here_at k o x (Some Absent) e = absurd (let bad = e in cc)
here_at k o x (Some Unreadable) e = absurd (let bad = e in cc)

-- an object that was answered is here
pub is_here : (k : ℕ → Option (Seen Object)) (o : ℕ) (x : Object) → as_ask (run k (here o)) ≡ Ok x → k o ≡ Some (Here x)
is_here k o x e = here_at k o x (k o) e

-- ---- one question after another

abbrev Came : {A B : Type 0} → (ℕ → Option (Seen Object)) → Objects ManageRefusal A → (A → Objects ManageRefusal B) → B → Type 0
Came {A} known q next y = (x : A) × (run known q ≡ Ok x) × (run known (next x) ≡ Ok y)

came_from : {A B : Type 0} (r : Result A (Halt ℕ ManageRefusal)) (next : A → Result B (Halt ℕ ManageRefusal)) (y : B) → and_then r next ≡ Ok y → (x : A) × (r ≡ Ok x) × (next x ≡ Ok y)
came_from (Ok x) next y e = (x, refl, e)
came_from (Err halt) next y e = absurd (let bad = e in cc)

-- a value of two questions came by a value of the first
pub came : {A B : Type 0} (known : ℕ → Option (Seen Object)) (q : Objects ManageRefusal A) (next : A → Objects ManageRefusal B) (y : B) → run known (q >>= next) ≡ Ok y → Came known q next y
came known q next y e = came_from (run known q) (λ x. run known (next x)) y (sym (run_then known q next) ∙ e)

ok_is : {A : Type 0} {x y : A} → ◌≡◌ {A = Result A (Halt ℕ ManageRefusal)} (Ok x) (Ok y) → x ≡ y
ok_is e = cc

-- ---- what is written

-- as a user's change, it keeps the rules
abbrev IsDrafted : (Ask → Option Fact) → List Written → Type 0
IsDrafted facts ws = (user description : List ℕ) → length user ≤ longest_text → length description ≤ longest_text → IsChange facts (record { user = user; description = description; entries = map entry_of ws })

-- what is true of it, over what is known
Holds : (ℕ → Option (Seen Object)) → List Written → Type 0
Holds known ws = AllByRecursion IsSettled ws × AreLawful known ws × ((facts : Ask → Option Fact) → KnowsValues facts known → IsDrafted facts ws)

two_pairs : {X : Type 0} (R : X → X → Type 0) (a b : X) → R a b → AllPairs R (a ∷ b ∷ [])
two_pairs R a b r i j d below within =
    let first : i ≡ 0 = omega (arith, below, within) in
    let second : j ≡ 1 = omega (arith, below, within) in
    rw (first, second) r

one_drafted : (facts : Ask → Option Fact) (o : ℕ) (object : Object) → IsDrafted facts (whole (Name.Old o) object ∷ [])
one_drafted facts o object = λ user description few short. record {
  user = few;
  description = short;
  distinct = λ i j d h k. absurd (omega arith);
  numbered = λ k h. absurd (omega arith);
  few = lit< tt;
  each = ((λ h. absurd (omega arith), record_is_some object, tt, λ i j d h k. absurd (omega arith)), tt);
}

added_drafted : (facts : Ask → Option Fact) (o : ℕ) (folder : Object) (cs : List Child) (name : List ℕ) (child : Object) → HasKnownValue facts o → IsDrafted facts (grown o folder cs name ∷ whole (Name.New 0) child ∷ [])
added_drafted facts o folder cs name child has = λ user description few short. record {
  user = few;
  description = short;
  distinct = two_pairs (λ a b. named a ≢ named b) (entry_of (grown o folder cs name)) (entry_of (whole (Name.New 0) child)) (λ same. apart same);
  numbered = λ k h. (let first : 0 ≡ k = omega arith in (1, lit< tt, ap Name.New first));
  few = lit< tt;
  each = (
    (λ h. has, record_is_some (with_child folder cs name 0), (((grown_fits o folder cs name).0.0.0, lit< tt), tt), λ i j d h k. absurd (omega arith)),
    ((lit< tt, record_is_some child, tt, λ i j d h k. absurd (omega arith)), tt),
  );
}
  where
    apart : Name.Old o ≡ Name.New 0 → ⊥
    apart same = cc

two_drafted : (facts : Ask → Option Fact) (o child : ℕ) (folder object : Object) → Name.Old o ≢ Name.Old child → IsDrafted facts (whole (Name.Old o) folder ∷ whole (Name.Old child) object ∷ [])
two_drafted facts o child folder object apart = λ user description few short. record {
  user = few;
  description = short;
  distinct = two_pairs (λ a b. named a ≢ named b) (entry_of (whole (Name.Old o) folder)) (entry_of (whole (Name.Old child) object)) apart;
  numbered = λ k h. absurd (omega arith);
  few = lit< tt;
  each = (
    (λ h. absurd (omega arith), record_is_some folder, tt, λ i j d h k. absurd (omega arith)),
    ((λ h. absurd (omega arith), record_is_some object, tt, λ i j d h k. absurd (omega arith)), tt),
  );
}

whole_fits : (name : Name) (object : Object) → HolesFit (whole name object)
whole_fits name object = (tt, omega arith)

one_is : (known : ℕ → Option (Seen Object)) (o : ℕ) (before object : Object) (ws : List Written) → known o ≡ Some (Here before) → ◌≡◌ {A = Result (List Written) (Halt ℕ ManageRefusal)} (Ok (whole (Name.Old o) object ∷ [])) (Ok ws) → Holds known ws
unfolding Holds
one_is known o before object ws is e = subst (λ vs. AllByRecursion IsSettled vs × AreLawful known vs × ((facts : Ask → Option Fact) → KnowsValues facts known → IsDrafted facts vs)) (ok_is e) (
  (whole_settles (Name.Old o) object, tt),
  record { here = ((before, is), tt); holes = (whole_fits (Name.Old o) object, tt); apart = (tt, tt) },
  λ facts knows. one_drafted facts o object,
)

added_are : (known : ℕ → Option (Seen Object)) (o : ℕ) (folder : Object) (cs : List Child) (name : List ℕ) (child : Object) (ws : List Written) → known o ≡ Some (Here folder)
    → ◌≡◌ {A = Result (List Written) (Halt ℕ ManageRefusal)} (Ok (grown o folder cs name ∷ whole (Name.New 0) child ∷ [])) (Ok ws) → Holds known ws
unfolding Holds
added_are known o folder cs name child ws is e = subst (λ vs. AllByRecursion IsSettled vs × AreLawful known vs × ((facts : Ask → Option Fact) → KnowsValues facts known → IsDrafted facts vs)) (ok_is e) (
  (grown_settles o folder cs name, (whole_settles (Name.New 0) child, tt)),
  record { here = ((folder, is), (refl, tt)); holes = (grown_fits o folder cs name, (whole_fits (Name.New 0) child, tt)); apart = (((λ same. old_new same), tt), (tt, tt)) },
  λ facts knows. added_drafted facts o folder cs name child (knows o folder is),
)
  where
    old_new : Name.Old o ≡ Name.New 0 → ⊥
    old_new same = cc

two_are : (known : ℕ → Option (Seen Object)) (o child : ℕ) (before was folder object : Object) (ws : List Written) → nat_eq child o ≡ false → known o ≡ Some (Here before) → known child ≡ Some (Here was)
    → ◌≡◌ {A = Result (List Written) (Halt ℕ ManageRefusal)} (Ok (whole (Name.Old o) folder ∷ whole (Name.Old child) object ∷ [])) (Ok ws) → Holds known ws
unfolding Holds
two_are known o child before was folder object ws other is there e = subst (λ vs. AllByRecursion IsSettled vs × AreLawful known vs × ((facts : Ask → Option Fact) → KnowsValues facts known → IsDrafted facts vs)) (ok_is e) (
  (whole_settles (Name.Old o) folder, (whole_settles (Name.Old child) object, tt)),
  record { here = ((before, is), ((was, there), tt)); holes = (whole_fits (Name.Old o) folder, (whole_fits (Name.Old child) object, tt)); apart = (((λ same. apart same), tt), (tt, tt)) },
  λ facts knows. two_drafted facts o child folder object (λ same. apart same),
)
  where
    wrong : (b : Bool) → b ≡ true → b ≡ false → ⊥
    wrong true e f = cc
    wrong false e f = cc

    is_it : Name.Old o ≡ Name.Old child → child ≡ o
    is_it same = cc

    apart : Name.Old o ≡ Name.Old child → ⊥
    apart same = wrong (nat_eq child o) (eq-eqb child o (is_it same)) other

renamed_at : (known : ℕ → Option (Seen Object)) (o child : ℕ) (s : Situation) (ws : List Written) (own : Bool) → nat_eq child o ≡ own → known o ≡ Some (Here s.object) →
    run known (if own then Done (whole (Name.Old o) (with_id (text field.NewId s) (with_renamed child s)) ∷ [])
    else here child >>= λ object. Done (whole (Name.Old o) (with_renamed child s) ∷ whole (Name.Old child) (with_id (text field.NewId s) object) ∷ [])) ≡ Ok ws → Holds known ws
renamed_at known o child s ws true is there e = one_is known o s.object _ ws there e
renamed_at known o child s ws false is there e =
    let c = came known (here child) _ ws e in
    two_are known o child s.object c.0 (with_renamed child s) (with_id (text field.NewId s) c.0) ws is there (is_here known child c.0 (ap as_ask c.1)) c.2

renamed_are : (known : ℕ → Option (Seen Object)) (o : ℕ) (s : Situation) (found : Option ℕ) (ws : List Written) → known o ≡ Some (Here s.object) → run known (renamed_child o s found) ≡ Ok ws → Holds known ws
renamed_are known o s None ws there e = absurd (let bad = e in cc)
renamed_are known o s (Some child) ws there e = renamed_at known o child s ws (nat_eq child o) refl there e

written_are : (known : ℕ → Option (Seen Object)) (how : Writes) (row : Row) (o : ℕ) (object : Object) (form : List Field) (ws : List Written) → known o ≡ Some (Here object) → run known (written how row o object form) ≡ Ok ws → Holds known ws
unfolding written
written_are known (Itself new) row o object form ws there e =
    let c = came known (settled (became row new object form)) _ ws e in
    one_is known o object c.0 ws there c.2
written_are known (Adds id title part) row o object form ws there e =
    let depth = came known (depth_of o) _ ws e in
    let c = came known (settled (wanted id title part row (record { object = object; form = form; depth = depth.0 }))) _ ws depth.2 in
    added_are known o object (children_in object.part) c.0.id _ ws there c.2
written_are known Renames row o object form ws there e =
    let passed = came known (settled (judged row (situation object form) (Ok (tt {0})))) _ ws e in
    renamed_are known o (situation object form) (child_of (text field.Id (situation object form)) (children (situation object form))) ws there passed.2

row_are : (known : ℕ → Option (Seen Object)) (found : Option Row) (c : Call) (o : ℕ) (object : Object) (form : List Field) (ws : List Written) → known o ≡ Some (Here object) → run known (by_row found c o object form) ≡ Ok ws → Holds known ws
row_are known None c o object form ws there e = absurd (let bad = e in cc)
row_are known (Some row) c o object form ws there e = written_are known row.writes row o object form ws there e

call_are : (known : ℕ → Option (Seen Object)) (c : Call) (o : ℕ) (object : Object) (form : List Field) (ws : List Written) → known o ≡ Some (Here object) → run known (by_call c o object form) ≡ Ok ws → Holds known ws
call_are known c o object form ws there e = row_are known (row_of c (kind_of object.part)) c o object form ws there e

writes_are : (known : ℕ → Option (Seen Object)) (c : Call) (o : ℕ) (form : List Field) (ws : List Written) → run known (writes c o form) ≡ Ok ws → Holds known ws
unfolding writes
writes_are known c o form ws e =
    let object = came known (here o) _ ws e in
    call_are known c o object.0 form ws (is_here known o object.0 (ap as_ask object.1)) object.2

pub write_lawfully : WritesLawfully
unfolding Holds
write_lawfully known c o form ws e = (writes_are known c o form ws e).1

-- ---- what a call comes to

settled_is : {A : Type 0} (known : ℕ → Option (Seen Object)) (r : Checked A) (x : A) → run known (settled r) ≡ Ok x → r ≡ Ok x
settled_is known (Ok y) x e = cc
settled_is known (Err refusal) x e = absurd (let bad = e in cc)

from_written : (known : ℕ → Option (Seen Object)) (q : Objects ManageRefusal Change) (done : Change) → run known (written_by q) ≡ Ok (called.Writes done) → run known q ≡ Ok done
from_written known q done e =
    let made = came known q (λ change. Done (called.Writes change)) (called.Writes done) e in
    let same : made.0 ≡ done = (let both = made.2 in cc) in
    made.1 ∙ ap Ok same

never_undoes : (r : Checked ℕ) (done : Change) → ◌≡◌ {A = Checked Called} (tests.◌>>=◌ r (λ t. Ok (called.Undoes t))) (Ok (called.Writes done)) → ⊥
never_undoes (Ok t) done e = cc
never_undoes (Err refusal) done e = cc

-- a call that comes to a change makes that change
writes_change : (known : ℕ → Option (Seen Object)) (c : Call) (o : ℕ) (object : Object) (form : List Field) (done : Change) → run known (called_by c o object form) ≡ Ok (called.Writes done) → run known (changed c o object form) ≡ Ok done
writes_change known call.AddFolder o object form done e = from_written known _ done e
writes_change known call.AddMethod o object form done e = from_written known _ done e
writes_change known call.AddDocument o object form done e = from_written known _ done e
writes_change known call.AddUserFolder o object form done e = from_written known _ done e
writes_change known call.Edit o object form done e = from_written known _ done e
writes_change known call.DeleteObjects o object form done e = from_written known _ done e
writes_change known call.RenameObject o object form done e = from_written known _ done e
writes_change known call.SetPermission o object form done e = from_written known _ done e
writes_change known call.SetLocalRoles o object form done e = from_written known _ done e
writes_change known call.DeleteLocalRoles o object form done e = from_written known _ done e
writes_change known call.AddProperty o object form done e = from_written known _ done e
writes_change known call.DeleteProperties o object form done e = from_written known _ done e
writes_change known call.SetProxyRoles o object form done e = from_written known _ done e
writes_change known call.AddUser o object form done e = from_written known _ done e
writes_change known call.UndoTransactions o object form done e = absurd (never_undoes (undone_id form) done (settled_is known (undoes form) (called.Writes done) e))
writes_change known call.ListTransactions o object form done e = absurd (let bad = e in cc)

pub changes_lawful : ChangesAreLawful
unfolding change Holds
changes_lawful facts known knows c o form done e user description few short =
    let object = came known (here o) _ (called.Writes done) e in
    let written = came known (by_call c o object.0 form) _ done (writes_change known c o object.0 form done object.2) in
    let holds = call_are known c o object.0 form written.0 (is_here known o object.0 (ap as_ask object.1)) written.1 in
    let same : change_of written.0 ≡ done = ok_is written.2 in
    subst (λ (d : Change). IsChange facts (record { user = user; description = description; entries = d.entries })) same (holds.2 facts knows user description few short)

-- ---- in a transaction

rows_are : (h : History) (ws : List Written) → next h < 2 ^ 64 → AllByRecursion IsSettled ws → map (record_of h) (map entry_of ws) ≡ map (settled_row h) ws
rows_are h [] few all = refl
rows_are h (w ∷ ws) few all = ap₂ (λ r rs. r ∷ rs) (ap (λ bytes. (oid_of h w.name, Some bytes)) (all.0 (next h) few)) (rows_are h ws few all.1)

pub settle_rightly : SettlesRightly
unfolding Holds
settle_rightly known c o form ws h e few = rows_are h ws few (writes_are known c o form ws e).0
