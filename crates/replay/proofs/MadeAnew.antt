-- A core that was made anew over what a stop left.
use Rattle.std.proofs.Common.{◌≡◌, ℕ, false, List, [], ◌∷◌, ◌++◌, length, map, None, Option, Some, sym, ap, subst, ◌∙◌}
use Rattle.zbase.specs.History.{History, IsHistory}
use Rattle.zbase.specs.Values.{last}
use Rattle.zdisk.specs.Crashes.{Piles}
use Rattle.zdisk.specs.Disk.{Told, synced}
use Rattle.evaluator.specs.Exec.{Eval}
use Rattle.schedule.specs.declared.line.Line.{Line}
use Rattle.schedule.specs.Openings.{OpeningsOf}
use Rattle.schedule.specs.Queues.{resumed}
use Rattle.schedule.specs.Stepping.{Opening, opening_line}
use Rattle.fs_store.specs.Moments.{OpensTo}
use Rattle.fs_store.specs.Stores.{IsTold, StoreView}
use Rattle.txn_core.specs.Cores.{CoreView, IsAtRest}
use Rattle.replay.specs.Printed.{Prints}
use Rattle.replay.specs.Restarts.{BeginsAnew, OpensAnew, Restarts, restart_lines}
use Rattle.replay.proofs.Images.{LeftBy}
use Rattle.replay.proofs.PrintSteps.{prints_then}

begins_anew : (s : StoreView) (h : History) (end : ℕ) → s.history ≡ h → OpensAnew h end s.disk.told → BeginsAnew s.disk.told s.history
begins_anew s h end is a = (a.image, (end, subst (λ k. OpensTo a.image k end) (sym is) a.opens), λ told at. (let same : a.told ≡ told = told_once a.told told (sym a.is ∙ at) in subst (Piles (synced a.image)) same a.begins))
  where
    told_once : (x y : Told) → Some x ≡ Some y → x ≡ y
    told_once x y e = cc

pub restarts : {E R S : Type 0} (eval : Eval R) (old new : CoreView E R S) (store : StoreView) (openings : List Opening) (disk : Option Told) (left : LeftBy old.store disk) → new.store ≡ store → IsAtRest eval new
    → store.disk.counter.arms.stopped ≡ false → IsTold store → store.undecided ≡ None → IsHistory store.history → store.limit ≡ old.store.limit → OpeningsOf (resumed old.store.disk.counter.arms) openings store.disk.counter.arms
    → (store.history ≡ left.may.history) × (store.end ≡ left.may.end) × OpensAnew left.may.history left.may.end store.disk.told → Restarts eval old new openings
restarts eval old new store openings disk left e rest runs told decided is limit opened found = record {
  told = subst IsTold (sym e) told;
  running = ap (λ (s : StoreView). s.disk.counter.arms.stopped) e ∙ runs;
  opened = subst (λ (s : StoreView). OpeningsOf (resumed old.store.disk.counter.arms) openings s.disk.counter.arms) (sym e) opened;
  reopens = record { may = left.may; possible = left.possible; history = ap (λ (s : StoreView). s.history) e ∙ found.0; end = ap (λ (s : StoreView). s.end) e ∙ found.1; limit = ap (λ (s : StoreView). s.limit) e ∙ limit };
  rest = rest;
  decided = ap (λ (s : StoreView). s.undecided) e ∙ decided;
  history = subst (λ (s : StoreView). IsHistory s.history) (sym e) is;
  anew = subst (λ (s : StoreView). BeginsAnew s.disk.told s.history) (sym e) (begins_anew store left.may.history left.may.end found.0 found.2);
}

-- the lines of it, one after another
pub restart_prints : (a b c d e : Option (List ℕ)) (lost : List Line) (openings : List Opening) (h k : History) (t n : ℕ) → k ≡ h → t ≡ last h → n ≡ length h.transactions → Prints a b (Line.Stop ∷ []) → Prints b c lost → Prints c d (map opening_line openings) → Prints d e (Line.Restart t n ∷ []) → Prints a e (restart_lines lost openings k)
restart_prints a b c d e lost openings h k t n same at long first second third fourth =
    let restarted : Prints d e (Line.Restart (last k) (length k.transactions) ∷ []) = subst (λ x. Prints d e (Line.Restart x (length k.transactions) ∷ [])) (at ∙ ap last (sym same)) (subst (λ x. Prints d e (Line.Restart t x ∷ [])) (long ∙ ap (λ (x : History). length x.transactions) (sym same)) fourth) in
    prints_then a d e ((Line.Stop ∷ lost) ++ map opening_line openings) (Line.Restart (last k) (length k.transactions) ∷ []) (prints_then a c d (Line.Stop ∷ lost) (map opening_line openings) (prints_then a b c (Line.Stop ∷ []) lost first second) third) restarted
