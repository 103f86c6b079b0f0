-- Rows that add a child.
use Rattle.std.proofs.Common.{◌≡◌, ◌∙◌, ℕ, ◌<◌, ◌^◌, true, List, Option, Some, None, Result, Ok, Err, length, refl, sym, ap, subst}
use Rattle.std.specs.List.{AllByRecursion}
use Rattle.zbase.specs.Query.{Done, ◌>>=◌, run, and_then, or_else, Answers, Told, Halt}
use Rattle.zbase.specs.QueryLaws.{or_else_goes, or_else_passes, run_goes, run_passes, run_then, worded}
use Rattle.zobject.specs.declared.object.Object.{Object}
use Rattle.zobject.specs.Changes.{new_object}
use Rattle.zobject.specs.Rules.{IsObject, kind_of}
use Rattle.zknown.specs.declared.kept.Kept.{Kept}
use Rattle.zknown.specs.Seen.{Seen, Objects, objects, over_objects, shapes}
use Rattle.zknown.specs.SeenLaws.{run_over_objects}
use Rattle.acquisition.specs.Acquiring as acquiring
use Rattle.acquisition.specs.Acquiring.{containers}
use Rattle.acquisition.specs.declared.refusal.AqRefusal.{AqRefusal}
use Rattle.acquisition.specs.declared.refusal.AqRefusal.TheVariants as aq
use Rattle.evaluator.specs.declared.ask.Ask.{Ask}
use Rattle.evaluator.specs.Questions.{as_ask}
use Rattle.form_fields.specs.declared.field.Field.{Field}
use Rattle.manage.specs.declared.call.Call.{Call}
use Rattle.manage.specs.declared.changes.Change.{Change}
use Rattle.manage.specs.declared.changes.NewChild.{NewChild}
use Rattle.manage.specs.declared.refusal.ManageRefusal.{ManageRefusal}
use Rattle.manage.specs.Becoming.{Situation, children}
use Rattle.manage.specs.Calling.{told}
use Rattle.manage.specs.Changing.{AddsChild, IsAdding, added, change_by, child_added, child_wanted, depth_of, no_depth, no_path, settled, wanted, wanted_by, written}
use Rattle.manage.specs.Fields.{Checked, Gives}
use Rattle.manage.specs.Fields as tests
use Rattle.manage.specs.Laws.{IsRightRow, Rightly}
use Rattle.manage.specs.Table.{Adds, Itself, Renames, Row, Writes, row_of, table}
use Rattle.manage.specs.Written.{Written, change_of, with_child}
use Rattle.manage.proofs.Rows.{judged_so, row_right}
use Rattle.manage.proofs.Steps.{decided, goes_so, passes}

-- ---- how deep it is

pub depth_is : (rows : List (ℕ × Kept)) (o : ℕ) (path : List ℕ) → run (shapes rows) (containers o) ≡ Ok path → as_ask (run (objects rows) (depth_of o)) ≡ Ok (length path)
depth_is rows o path e =
    ap as_ask (run_goes (objects rows) (over_objects (or_else no_path (containers o))) (λ path. Done (length path)) path
    (run_over_objects rows (or_else no_path (containers o)) ∙ or_else_goes (shapes rows) no_path (containers o) path e))

stopped : (rows : List (ℕ × Kept)) (o : ℕ) (halt : Option (Halt ℕ acquiring.Fault)) → Told halt (run (shapes rows) (containers o)) → Told (worded no_path halt) (run (objects rows) (depth_of o))
stopped rows o halt t =
    run_passes (objects rows) (over_objects (or_else no_path (containers o))) (λ path. Done (length path)) (worded no_path halt)
    (subst (Told (worded no_path halt)) (sym (run_over_objects rows (or_else no_path (containers o)))) (or_else_passes (shapes rows) no_path (containers o) halt t))

pub no_depth_is : (rows : List (ℕ × Kept)) (o : ℕ) (e : AqRefusal) → Told (acquiring.told e) (run (shapes rows) (containers o)) → Told (told (no_depth e)) (as_ask (run (objects rows) (depth_of o)))
no_depth_is rows o aq.Memory t = tt
no_depth_is rows o (aq.Need p) t = ap as_ask (stopped rows o (acquiring.told (aq.Need p)) t)
no_depth_is rows o (aq.Broken p) t = ap as_ask (stopped rows o (acquiring.told (aq.Broken p)) t)
no_depth_is rows o aq.TooDeep t = ap as_ask (stopped rows o (acquiring.told aq.TooDeep) t)

-- ---- what is added keeps the rules

abbrev AreRight : ℕ → Situation → NewChild → Type 0
AreRight o s child = ((first : ℕ) → first < 2 ^ 64 → IsObject (with_child s.object (children s) child.id first)) × IsObject (new_object child.id o child.title child.part)

by_writes : (row : Row) (w : Writes) (c : Call) (o : ℕ) (s : Situation) (child : NewChild) → row.writes ≡ w → IsRightRow row → IsObject s.object → row.kinds (kind_of s.object.part) ≡ true → o < 2 ^ 64 → wanted_by w row c s ≡ Ok child → AreRight o s child
by_writes row (Adds id title part) c o s child is right lawful named few e =
    let new : NewChild = record { id = id s; title = title s; part = part s } in
    let p = judged_so row s new child e in
    subst (AreRight o s) p.1 (subst (λ w. Rightly w o s) is (right s o lawful named few p.0))
by_writes row (Itself new) c o s child is right lawful named few e = absurd (let bad = e in cc)
by_writes row Renames c o s child is right lawful named few e = absurd (let bad = e in cc)

pub added_right : ((c : Call) → AllByRecursion IsRightRow (table c)) → (c : Call) (o : ℕ) (s : Situation) (child : NewChild) → IsObject s.object → o < 2 ^ 64 → child_wanted (row_of c (kind_of s.object.part)) c s ≡ Ok child → AreRight o s child
added_right right c o s child lawful few e = at (row_of c (kind_of s.object.part)) refl e
  where
    at : (found : Option Row) → row_of c (kind_of s.object.part) ≡ found → child_wanted found c s ≡ Ok child → AreRight o s child
    at None is e' = absurd (let bad = e' in cc)
    at (Some row) is e' =
        let r = row_right right c (kind_of s.object.part) row is in
        by_writes row row.writes c o s child refl r.0 lawful r.1 few e'

-- ---- as a question

module _ (k : ℕ → Option (Seen Object)) (c : Call) (o : ℕ) (object : Object) (form : List Field) where
  abbrev at_depth : ℕ → Situation
  at_depth depth = record { object = object; form = form; depth = depth }

  -- a question, and what its value is tested for
  in_turn : {A : Type 0} (q : Objects ManageRefusal A) (f : A → Objects ManageRefusal (List Written)) (g : A → Objects ManageRefusal Change)
      → ((x : A) → run k (f x >>= λ ws. Done (change_of ws)) ≡ run k (g x)) → run k ((q >>= f) >>= λ ws. Done (change_of ws)) ≡ run k (q >>= g)
  in_turn {A} q f g same = run_then k (q >>= f) last ∙ ap (λ r. and_then r after) (run_then k q f) ∙ at (run k q) ∙ sym (run_then k q g)
    where
      last : List Written → Objects ManageRefusal Change
      last ws = Done (change_of ws)

      after : List Written → Result Change (Halt ℕ ManageRefusal)
      after ws = run k (last ws)

      at : (r : Result A (Halt ℕ ManageRefusal)) → and_then (and_then r (λ x. run k (f x))) after ≡ and_then r (λ x. run k (g x))
      at (Ok x) = sym (run_then k (f x) last) ∙ same x
      at (Err halt) = refl

  went : (r : Checked NewChild) → run k ((settled r >>= λ child. Done (added o object child)) >>= λ ws. Done (change_of ws)) ≡ run k (settled (tests.◌>>=◌ r (λ child. Ok (change_of (added o object child)))))
  went (Ok x) = refl
  went (Err refusal) = refl

  by_adding : (w : Writes) (row : Row) → AddsChild w →
      run k (written w row o object form >>= λ ws. Done (change_of ws)) ≡ run k (depth_of o >>= λ depth. settled (tests.◌>>=◌ (wanted_by w row c (at_depth depth)) (λ child. Ok (change_of (added o object child)))))
  unfolding written
  by_adding (Adds id title part) row is =
      in_turn (depth_of o) (λ depth. settled (wanted id title part row (at_depth depth)) >>= λ child. Done (added o object child))
      (λ depth. settled (tests.◌>>=◌ (wanted id title part row (at_depth depth)) (λ child. Ok (change_of (added o object child))))) (λ depth. went (wanted id title part row (at_depth depth)))
  by_adding (Itself new) row is = absurd is
  by_adding Renames row is = absurd is

  asks : (found : Option Row) → IsAdding found → run k (change_by found c o object form) ≡ run k (depth_of o >>= λ depth. settled (child_added found c o (at_depth depth)))
  asks None is = absurd is
  asks (Some row) is = by_adding row.writes row is

  pub answers_adding : (found : Option Row) (depth : ℕ) (result : Result Change ManageRefusal) → IsAdding found → as_ask (run k (depth_of o)) ≡ Ok depth
      → Gives (λ x. x) result (child_added found c o (record { object = object; form = form; depth = depth })) → Answers told (λ x. x) result (as_ask (run k (change_by found c o object form)))
  answers_adding found depth result is e g =
      subst (λ r. Answers told (λ x. x) result (as_ask r)) (sym (asks found is))
      (goes_so told (λ x. x) result k (depth_of o) (λ depth. settled (child_added found c o (at_depth depth))) depth e (decided k result (child_added found c o (at_depth depth)) g))

  pub passes_adding : (found : Option Row) (halt : Option (Halt Ask ManageRefusal)) → IsAdding found → Told halt (as_ask (run k (depth_of o))) → Told halt (as_ask (run k (change_by found c o object form)))
  passes_adding found halt is t =
      subst (λ r. Told halt (as_ask r)) (sym (asks found is)) (passes k (depth_of o) (λ depth. settled (child_added found c o (at_depth depth))) halt t)
