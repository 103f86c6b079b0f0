-- A core goes on: by nothing, by one thing, and by one behind another.
use Rattle.std.proofs.Common.{◌≡◌, ℕ, ◌+◌, ◌<◌, ◌≤◌, List, [], ◌∷◌, ◌++◌, append-nil, append_assoc, Option, Some, None, refl, sym, ap, ◌∙◌, subst, arith, inl, inr}
use Rattle.std.specs.Prelude.{IfSome}
use Rattle.std.proofs.lemmas.List.{map-append}
use Rattle.zbase.specs.Faults.{Counter, Counts, IsFaultless}
use Rattle.zbase.specs.History.{History}
use Rattle.zbase.specs.HistoryLaws.{prefix_refl}
use Rattle.zdisk.specs.Crashes.{LeavesFrom}
use Rattle.zdisk.specs.Disk.{Told}
use Rattle.zdisk.specs.Images.{IsImage}
use Rattle.zdisk.specs.MomentLaws.{leaves_as, leaves_now, piles_none}
use Rattle.evaluator.specs.Exec.{Eval}
use Rattle.http_out.specs.Replies.{answer}
use Rattle.packing.specs.Reachable.{Linking}
use Rattle.schedule.specs.declared.item.Item2.{Item2}
use Rattle.schedule.specs.declared.line.Line.{Line}
use Rattle.schedule.specs.Counted.{AreCounted, Counted}
use Rattle.schedule.specs.Courses.{Happens, Place}
use Rattle.schedule.specs.CourseLaws.{course_more}
use Rattle.schedule.specs.Follows.{Follows}
use Rattle.schedule.specs.Moments.{Moment, Terms, clocked}
use Rattle.fs_store.specs.Moments.{OpensAsKnown}
use Rattle.fs_store.specs.Stores.{IsTold, StoreView}
use Rattle.connection.specs.Telling.{TellsOn, tells_forth, tells_self, tells_then}
use Rattle.txn_core.specs.declared.step_line.StepLine.{StepLine}
use Rattle.txn_core.specs.Cores.{CoreView, MayBe}
use Rattle.txn_core.specs.Crashing.{KeepsNearly, OpensNearly}
use Rattle.txn_core.specs.Growing.{step_grows}
use Rattle.txn_core.specs.StepLines.{IsFaultLine, step_lines}
use Rattle.zserve.specs.Going.{Goes, RanTo}
use Rattle.zserve.specs.Happened.{Happening, Ran, happening, printed}
use Rattle.txn_core.specs.Replying.{terms_of}
use Rattle.zserve.specs.Safety.{IsSafe, OpensNear}
use Rattle.zserve.proofs.StepFacts.{calm_counts, fault_counts, fault_or_not, never_stops}

-- ---- behind one another

counted_then : (a b c : ℕ) (xs ys : List (List Line)) → AreCounted a xs b → AreCounted b ys c → AreCounted a (xs ++ ys) c
counted_then a b c [] ys first second = subst (λ n. AreCounted n ys c) first second
counted_then a b c (x ∷ xs) ys first second = (first.0, first.1, counted_then first.0 b c xs ys first.2 second)

safe_then : (a b c : Option Told) (h g k : History) (xs ys : List Happening) → IsSafe a h xs b g → IsSafe b g ys c k → IsSafe a h (xs ++ ys) c k
safe_then a b c h g k [] ys first second = subst (λ (d : Option Told). IsSafe d h ys c k) first.0 (subst (λ (i : History). IsSafe b i ys c k) first.1 second)
safe_then a b c h g k (x ∷ xs) ys first second = (first.0, first.1, first.2, first.3, first.4, safe_then first.0 b c first.1 g k xs ys first.5 second)

pub goes_none : {E R S : Type 0} (takes : List ℕ → Option R) (eval : Eval R) (core : CoreView E R S) (now : ℕ) → Goes takes eval core now [] core now
goes_none takes eval core now = record {
  limit = refl;
  ran = λ told links end first done prior. subst (λ xs. RanTo eval (terms_of takes eval links core.store.limit end) first xs core now) (sym (append-nil done)) prior;
  tells = tells_self core.store.disk.told;
  counted = refl;
  calm = λ f. (f, refl);
  safe = λ told. (refl, refl);
}

pub goes_then : {E R S : Type 0} (takes : List ℕ → Option R) (eval : Eval R) (a b c : CoreView E R S) (s t u : ℕ) (xs ys : List Happening) → Goes takes eval a s xs b t → Goes takes eval b t ys c u → Goes takes eval a s (xs ++ ys) c u
goes_then {E} {R} {S} takes eval a b c s t u xs ys first second =
    let forth : IsTold a.store → IsTold b.store = λ told. tells_forth a.store.disk.told b.store.disk.told first.tells told in
    record {
      limit = second.limit ∙ first.limit;
      ran = λ told links end from done prior.
          (let mid = first.ran told links end from done prior in
          let more = second.ran (forth told) links end from (done ++ xs) (subst (λ n. RanTo eval (terms_of takes eval links n end) from (done ++ xs) b t) (sym first.limit) mid) in
          subst (λ zs. RanTo eval (terms_of takes eval links a.store.limit end) from zs c u) (append_assoc done xs ys) (subst (λ n. RanTo eval (terms_of takes eval links n end) from ((done ++ xs) ++ ys) c u) first.limit more));
      tells = tells_then a.store.disk.told b.store.disk.told c.store.disk.told first.tells second.tells;
      counted = subst (λ ls. AreCounted a.store.disk.counter.count ls c.store.disk.counter.count) (sym (map-append (λ (h : Happening). h.1) xs ys)) (counted_then a.store.disk.counter.count b.store.disk.counter.count c.store.disk.counter.count (printed xs) (printed ys) first.counted second.counted);
      calm = λ f. (let one = first.calm f in let two = second.calm one.0 in (two.0, two.1 ∙ one.1));
      safe = λ told. safe_then a.store.disk.told b.store.disk.told c.store.disk.told a.store.history b.store.history c.store.history xs ys (first.safe told) (second.safe (forth told));
    }

-- ---- by one

ran_more : {R : Type 0} (terms : Terms R) (first old new : Moment R) (done : List Happening) (item : Item2) (lines : List Line) → Ran terms first done old → Happens terms old item lines new → Ran terms first (done ++ (item, lines) ∷ []) new
ran_more {R} terms first old new done item lines ran h =
    let place : Place R = record { before = old; item = item; lines = lines; after = new } in
    record {
      trace = ran.trace ++ place ∷ [];
      is = map-append happening ran.trace (place ∷ []) ∙ ap (λ xs. xs ++ (item, lines) ∷ []) ran.is;
      course = course_more terms first old new ran.trace item lines ran.course h;
    }

pub ran_next : {E R S : Type 0} (eval : Eval R) (terms : Terms R) (first : Moment R) (done : List Happening) (item : Item2) (lines : List Line) (old new : CoreView E R S) (since now : ℕ) → Follows terms (MayBe eval old) since (MayBe eval new) now item lines → RanTo eval terms first done old since → RanTo eval terms first (done ++ (item, lines) ∷ []) new now
ran_next eval terms first done item lines old new since now follows ran = λ m may.
    (let f = follows m may in ran_more terms first (clocked f.0 since) (clocked m now) done item lines (ran f.0 f.1) f.2)

same_count : (a b : ℕ) → a ≤ b → (a < b → ⊥) → b ≡ a
same_count a b le not = omega arith

step_counted : (old new : Counter) (w : ℕ) (line : StepLine) → Counts old new (IsFaultLine line) → Counted old.count (step_lines answer w line) new.count
step_counted old new w line counts = fault_or_not line (Counted old.count (step_lines answer w line) new.count)
    (λ fault. record { later = counts.later; calm = λ none. absurd (let one = fault_counts w line fault in omega (arith, one, none)); rose = λ some. counts.cause fault; runs = never_stops w line })
    (λ calm. record { later = counts.later; calm = λ none. still calm; rose = λ some. absurd (let zero_ = calm_counts w line calm in omega (arith, zero_, some)); runs = never_stops w line })
  where
    still : (IsFaultLine line → ⊥) → new.count ≡ old.count
    still calm = (let le = counts.later in let not : old.count < new.count → ⊥ = λ r. calm (counts.told r) in same_count old.count new.count le not)

near : (s : StoreView) (image : List ℕ) → OpensNearly s image → OpensNear s.history image
near s image (inl (inl opens)) = inl (s.end, opens)
near s image (inl (inr (o, is, opens))) = inr (o.transaction, s.end + o.size, opens)
near s image (inr (o, is, opens)) = inr (o.transaction, s.end + o.size, opens)

step_leaves : (old new : StoreView) → KeepsNearly old new → LeavesFrom old.disk.told new.disk.told (λ file image. OpensNear old.history image)
step_leaves old new keeps = leaves_as old.disk.told new.disk.told (λ file image. OpensNearly old image) (λ file image. OpensNear old.history image) (λ told is image opens. near old image opens) keeps

-- a step of a worker
pub goes_step : {E R S : Type 0} (takes : List ℕ → Option R) (eval : Eval R) (old new : CoreView E R S) (w now : ℕ) (line : StepLine) → new.store.limit ≡ old.store.limit
    → (IsTold old.store → (terms : Terms R) → terms.eval ≡ eval → terms.limit ≡ old.store.limit → Follows terms (MayBe eval old) now (MayBe eval new) now (Item2.Step w) (step_lines terms.answer w line))
    → TellsOn old.store.disk.told new.store.disk.told → Counts old.store.disk.counter new.store.disk.counter (IsFaultLine line) → KeepsNearly old.store new.store → Goes takes eval old now ((Item2.Step w, step_lines answer w line) ∷ []) new now
goes_step takes eval old new w now line limit steps tells counts keeps = record {
  limit = limit;
  ran = λ told links end first done prior. ran_next eval (terms_of takes eval links old.store.limit end) first done (Item2.Step w) (step_lines answer w line) old new now now (steps told (terms_of takes eval links old.store.limit end) refl refl) prior;
  tells = tells;
  counted = (new.store.disk.counter.count, step_counted old.store.disk.counter new.store.disk.counter w line counts, refl);
  calm = counts.calm;
  safe = λ told.
      (let grew = step_grows eval (terms_of takes eval (λ bytes. None) old.store.limit 0) w now old new (step_lines answer w line) (steps told (terms_of takes eval (λ bytes. None) old.store.limit 0) refl refl) in
      (new.store.disk.told, new.store.history, step_leaves old.store new.store keeps, grew.0, grew.1, (refl, refl)));
}

-- a thing that leaves the store as it is
still : (told : Option Told) (P : List ℕ → Type 0) → IfSome told (λ t. (image : List ℕ) → IsImage t.now image → P image) → LeavesFrom told told (λ file image. P image)
still None P now = tt
still (Some t) P now = (piles_none t, leaves_now t P now)

known_near : (s : StoreView) (told : Option Told) → IfSome told (λ t. (image : List ℕ) → IsImage t.now image → OpensAsKnown s image) → IfSome told (λ t. (image : List ℕ) → IsImage t.now image → OpensNear s.history image)
known_near s None known = tt
known_near s (Some t) known = λ image is. near s image (inl (known image is))

pub goes_quietly : {E R S : Type 0} (takes : List ℕ → Option R) (eval : Eval R) (old new : CoreView E R S) (since now : ℕ) (item : Item2) → new.store ≡ old.store
    → ((links : Linking) (end : ℕ) → Follows (terms_of takes eval links old.store.limit end) (MayBe eval old) since (MayBe eval new) now item [])
    → IfSome old.store.disk.told (λ told. (image : List ℕ) → IsImage told.now image → OpensAsKnown old.store image) → Goes takes eval old since ((item, []) ∷ []) new now
goes_quietly {E} {R} {S} takes eval old new since now item same follows images =
    let told_is : new.store.disk.told ≡ old.store.disk.told = ap (λ (s : StoreView). s.disk.told) same in
    let count_is : new.store.disk.counter.count ≡ old.store.disk.counter.count = ap (λ (s : StoreView). s.disk.counter.count) same in
    record {
      limit = ap (λ (s : StoreView). s.limit) same;
      ran = λ told links end first done prior. ran_next eval (terms_of takes eval links old.store.limit end) first done item [] old new since now (follows links end) prior;
      tells = subst (λ d. TellsOn old.store.disk.told d) (sym told_is) (tells_self old.store.disk.told);
      counted = (old.store.disk.counter.count, record { later = omega arith; calm = λ none. refl; rose = λ some. absurd (omega (arith, some)); runs = refl }, count_is);
      calm = λ f. (subst (λ (s : StoreView). IsFaultless s.disk.counter) (sym same) f, count_is);
      safe = λ told. (
        old.store.disk.told,
        old.store.history,
        still old.store.disk.told (OpensNear old.store.history) (known_near old.store old.store.disk.told images),
        prefix_refl old.store.history,
        tt,
        (told_is, ap (λ (s : StoreView). s.history) same),
      );
    }
