-- Lines that aren't idle, and what goes on without idle steps.
use Rattle.std.proofs.Common.{◌≡◌, ℕ, Bool, true, false, cond, nat_lt, length, List, [], ◌∷◌, ◌++◌, map, flat_map, Option, None, Some, refl, sym, subst, append_assoc, append-nil}
use Rattle.std.specs.List.{AllByRecursion}
use Rattle.zbase.specs.History.{History, Transaction, Value}
use Rattle.evaluator.specs.Exec.{Eval}
use Rattle.evaluator.specs.declared.reply.Denial.{Denial}
use Rattle.evaluator.specs.declared.reply.Mark.{Mark}
use Rattle.evaluator.specs.declared.reply.Reply.{Reply}
use Rattle.evaluator.specs.declared.reply.Shown.{Shown}
use Rattle.packing.specs.Reachable.{Linking}
use Rattle.fs_store.specs.declared.refusal.Spent.{Spent}
use Rattle.schedule.specs.declared.item.Item2.{Item2}
use Rattle.schedule.specs.declared.line.Line.{Line}
use Rattle.schedule.specs.Alone.{IsNoIdle}
use Rattle.schedule.specs.Causes.{by_oid, denied_line, shown_lines}
use Rattle.schedule.specs.Explained.{floor_lines, history_head, history_lines, record_line, transaction_lines}
use Rattle.schedule.specs.Stepping.{Faults, Opening, Stops, opening_line}
use Rattle.txn_core.specs.declared.step_line.StepLine.{StepLine}
use Rattle.txn_core.specs.Cores.{CoreView}
use Rattle.txn_core.specs.StepLines.{spent_line, step_lines}
use Rattle.replay.specs.Kept.{GoesNeeded, GoesOn, Kept}
use Rattle.replay.specs.Printed.{terms_of}
use Rattle.replay.specs.Restarts.{restart_lines}
use Rattle.replay.proofs.PrintSteps.{prints_none, prints_then}

-- no line of these is idle
abbrev pub NoneIdle : List Line → Type 0
NoneIdle = AllByRecursion IsNoIdle

pub both : (xs ys : List Line) → NoneIdle xs → NoneIdle ys → NoneIdle (xs ++ ys)
both [] ys p q = q
both (x ∷ xs) ys p q = (p.0, both xs ys p.1 q)

-- ---- a history

records_no_idle : (rs : List (ℕ × Value)) → NoneIdle (map record_line rs)
records_no_idle [] = tt
records_no_idle (r ∷ rs) = (tt, records_no_idle rs)

transactions_no_idle : (xs : List Transaction) → NoneIdle (flat_map transaction_lines xs)
transactions_no_idle [] = tt
transactions_no_idle (x ∷ xs) = both (transaction_lines x) (flat_map transaction_lines xs) (tt, records_no_idle x.records) (transactions_no_idle xs)

floor_no_idle : (floor : ℕ) → NoneIdle (floor_lines floor)
floor_no_idle floor = go (nat_lt 0 floor)
  where
    go : (b : Bool) → NoneIdle (cond b (Line.Floor floor ∷ []) [])
    go true = (tt, tt)
    go false = tt

history_no_idle : (h : History) → NoneIdle (history_lines h)
history_no_idle h = both (history_head (length h.transactions) h.floor) (flat_map transaction_lines h.transactions) (tt, floor_no_idle h.floor) (transactions_no_idle h.transactions)

-- of a pack that is done
pub packed_no_idle : (h : History) (floor count : ℕ) → NoneIdle (history_lines h ++ Line.Packed floor count ∷ [])
packed_no_idle h floor count = both (history_lines h) (Line.Packed floor count ∷ []) (history_no_idle h) (tt, tt)

-- ---- a restart

openings_no_idle : (os : List Opening) → NoneIdle (map opening_line os)
openings_no_idle [] = tt
openings_no_idle (Stops ∷ os) = (tt, openings_no_idle os)
openings_no_idle (Faults ∷ os) = (tt, openings_no_idle os)

pub restart_no_idle : (openings : List Opening) (h : History) → NoneIdle (restart_lines [] openings h)
restart_no_idle openings h = (tt, both (map opening_line openings) _ (openings_no_idle openings) (tt, tt))

-- ---- a step

shown_no_idle : (w : ℕ) (ss : List Shown) → NoneIdle (map (λ (s : Shown). Line.Shown w s.oid s.role) ss)
shown_no_idle w [] = tt
shown_no_idle w (s ∷ ss) = (tt, shown_no_idle w ss)

denied_no_idle : (w : ℕ) (d : Option Denial) → NoneIdle (denied_line w d)
denied_no_idle w None = tt
denied_no_idle w (Some d) = (tt, tt)

spent_no_idle : (w : ℕ) (s : Spent) → IsNoIdle (spent_line w s)
spent_no_idle w Spent.Tids = tt
spent_no_idle w (Spent.Oids o n) = tt
spent_no_idle w (Spent.Full need limit) = tt

pub step_no_idle : (answer : Reply → Mark → List ℕ) (w : ℕ) (line : StepLine) → (line ≡ StepLine.Idle → ⊥) → NoneIdle (step_lines answer w line)
step_no_idle answer w StepLine.Idle other = absurd (other refl)
step_no_idle answer w (StepLine.Begun t) other = (tt, tt)
step_no_idle answer w (StepLine.Fetched ask) other = (tt, tt)
step_no_idle answer w StepLine.Computed other = (tt, tt)
step_no_idle answer w (StepLine.Busy v) other = (tt, tt)
step_no_idle answer w (StepLine.Voted t) other = (tt, tt)
step_no_idle answer w (StepLine.Conflict c) other = (tt, tt)
step_no_idle answer w (StepLine.GivenUp cs) other = (tt, (tt, (tt, tt)))
step_no_idle answer w (StepLine.Spent s) other = (spent_no_idle w s, (tt, tt))
step_no_idle answer w StepLine.Memory other = (tt, (tt, tt))
step_no_idle answer w StepLine.DiskFault other = (tt, (tt, tt))
step_no_idle answer w (StepLine.Unknown t) other = (tt, (tt, tt))
step_no_idle answer w (StepLine.Read x t) other = (tt, both (shown_lines w x) (denied_line w x.denied) (shown_no_idle w (by_oid x.shown)) (denied_no_idle w x.denied))
step_no_idle answer w (StepLine.Commit x t) other = (tt, shown_no_idle w (by_oid x.shown))

-- ---- going on

pub needed_goes_on : {E R S : Type 0} (takes : List ℕ → Option R) (eval : Eval R) (links : Linking) (limit : ℕ) (old : CoreView E R S) (since : ℕ) (items : List Item2) (new : CoreView E R S) (now : ℕ) (before behind : Option (List ℕ)) → GoesNeeded takes eval links limit old since items new now before behind → GoesOn takes eval links limit old since items new now before behind
needed_goes_on takes eval links limit old since items new now before behind goes = λ end given h0 done lines kept. (let g = goes end given h0 done lines kept in (g.0, g.1, g.2))

pub needed_none : {E R S : Type 0} (takes : List ℕ → Option R) (eval : Eval R) (links : Linking) (limit : ℕ) (core : CoreView E R S) (now : ℕ) (o : Option (List ℕ)) → GoesNeeded takes eval links limit core now [] core now o o
needed_none takes eval links limit core now o = λ end given h0 done lines kept.
    ([], subst (λ (ls : List Line). Kept eval (terms_of takes eval links limit end) given h0 (done ++ []) ls core now) (sym (append-nil lines)) (subst (λ (xs : List Item2). Kept eval (terms_of takes eval links limit end) given h0 xs lines core now) (sym (append-nil done)) kept), prints_none o, tt)

pub needed_then : {E R S : Type 0} (takes : List ℕ → Option R) (eval : Eval R) (links : Linking) (limit : ℕ) (a b c : CoreView E R S) (s t u : ℕ) (xs ys : List Item2) (before mid behind : Option (List ℕ))
    → GoesNeeded takes eval links limit a s xs b t before mid → GoesNeeded takes eval links limit b t ys c u mid behind → GoesNeeded takes eval links limit a s (xs ++ ys) c u before behind
needed_then takes eval links limit a b c s t u xs ys before mid behind first second = λ end given h0 done lines kept.
    (let one = first end given h0 done lines kept in
    let two = second end given h0 (done ++ xs) (lines ++ one.0) one.1 in (
      one.0 ++ two.0,
      subst (λ (ls : List Line). Kept eval (terms_of takes eval links limit end) given h0 (done ++ (xs ++ ys)) ls c u) (append_assoc lines one.0 two.0)
          (subst (λ (zs : List Item2). Kept eval (terms_of takes eval links limit end) given h0 zs ((lines ++ one.0) ++ two.0) c u) (append_assoc done xs ys) two.1),
      prints_then before mid behind one.0 two.0 one.2 two.2,
      both one.0 two.0 one.3 two.3,
    ))
