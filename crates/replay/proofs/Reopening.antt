-- Openings behind a stop that failed, one after another.
use Rattle.std.proofs.Common.{◌≡◌, ℕ, ◌<◌, Bool, true, false, List, [], ◌∷◌, ◌++◌, length, map, Option, refl, sym, ap, subst, ◌∙◌, append-nil, append_assoc, arith}
use Rattle.std.proofs.lemmas.List.{map-append}
use Rattle.zbase.specs.declared.faults.Arm.{Arm}
use Rattle.zbase.specs.Faults.{Arms, Counter, Counts, Spends, begun, hit, hit_of}
use Rattle.schedule.specs.Openings.{OpeningsOf}
use Rattle.schedule.specs.Queues.{resumed}
use Rattle.schedule.specs.Stepping.{Faults, Opening, Stops, opening_line}
use Rattle.replay.specs.Printed.{Prints}
use Rattle.replay.specs.Restarts.{GoesOnBy}
use Rattle.replay.proofs.PrintSteps.{prints_none, prints_then}

-- These openings failed and were printed, and this is left of what was armed first.
pub record HaveFailed (first now : Arms) (before behind : Option (List ℕ)) : Type 0 where
  pub openings : List Opening
  pub printed : Prints before behind (map opening_line openings)
  pub goes : (rest : List Opening) (b : Arms) → OpeningsOf now rest b → OpeningsOf first (openings ++ rest) b

pub none_failed : (first : Arms) (o : Option (List ℕ)) → HaveFailed first first o o
none_failed first o = record { openings = []; printed = prints_none o; goes = λ rest b k. k }

one_goes : (first now mid next b : Arms) (x : Opening) (os rest : List Opening) → ((more : List Opening) → OpeningsOf now more b → OpeningsOf first (os ++ more) b) → (now.queue ≡ [] → ⊥) → mid ≡ hit now → GoesOnBy x mid next → OpeningsOf next rest b → OpeningsOf first (os ++ x ∷ rest) b
one_goes first now mid next b Stops os rest goes some e by o = goes (Stops ∷ rest) (mid, some, e, by.0, subst (λ a. OpeningsOf a rest b) by.1 o)
one_goes first now mid next b Faults os rest goes some e by o = goes (Faults ∷ rest) (mid, some, e, by.0, subst (λ a. OpeningsOf a rest b) by.1 o)

-- one more
pub one_failed : (first now mid next : Arms) (x : Opening) (before behind last : Option (List ℕ)) → HaveFailed first now before behind → (now.queue ≡ [] → ⊥) → mid ≡ hit now → GoesOnBy x mid next → Prints behind last (opening_line x ∷ []) → HaveFailed first next before last
one_failed first now mid next x before behind last failed some e by printed = record {
  openings = failed.openings ++ x ∷ [];
  printed = subst (Prints before last) (sym (map-append opening_line failed.openings (x ∷ []))) (prints_then before behind last (map opening_line failed.openings) (opening_line x ∷ []) failed.printed printed);
  goes = λ rest b o. subst (λ xs. OpeningsOf first xs b) (sym (append_assoc failed.openings (x ∷ []) rest)) (one_goes first now mid next b x failed.openings rest (λ more k. failed.goes more b k) some e by o);
}

-- the last one succeeded
pub last_opened : (first now last : Arms) (before behind : Option (List ℕ)) → HaveFailed first now before behind → Spends now last → (openings : List Opening) × OpeningsOf first openings last × Prints before behind (map opening_line openings)
last_opened first now last before behind failed spends = (failed.openings, subst (λ xs. OpeningsOf first xs last) (append-nil failed.openings) (failed.goes [] last spends), failed.printed)

hit_shorter : (now mid : Arms) → now.stopped ≡ false → (now.queue ≡ [] → ⊥) → mid ≡ hit now → length mid.queue < length now.queue
hit_shorter now mid runs some e = go now.queue refl
  where
    go : (q : List Arm) → now.queue ≡ q → length mid.queue < length now.queue
    go [] n = absurd (some n)
    go (x ∷ xs) n =
        let after : mid ≡ begun xs (now.hits ++ x ∷ []) x.stops = e ∙ ap (λ (b : Bool). hit_of b now.queue now.hits) runs ∙ ap (λ (q : List Arm). hit_of false q now.hits) n in
        let rest : length mid.queue ≡ length xs = ap (λ (a : Arms). length a.queue) after in
        let all : length now.queue ≡ length (x ∷ xs) = ap length n in
        omega (arith, rest, all)

-- each takes an entry out of the queue, and the disk isn't stopped behind it
pub went_on : (x : Opening) (now mid next : Arms) → now.stopped ≡ false → (now.queue ≡ [] → ⊥) → mid ≡ hit now → GoesOnBy x mid next → (next.stopped ≡ false) × (length next.queue < length now.queue)
went_on Stops now mid next runs some e by = (ap (λ (a : Arms). a.stopped) by.1, (let same : length next.queue ≡ length mid.queue = ap (λ (a : Arms). length a.queue) by.1 in omega (arith, same, hit_shorter now mid runs some e)))
went_on Faults now mid next runs some e by = (ap (λ (a : Arms). a.stopped) by.1 ∙ by.0, (let same : length next.queue ≡ length mid.queue = ap (λ (a : Arms). length a.queue) by.1 in omega (arith, same, hit_shorter now mid runs some e)))

-- what is left of a stopped disk once its core is ended: it is stopped still, and goes on as it would have before
pub lost_arms : (old new : Counter) (fault : Bool) → old.arms.stopped ≡ true → Counts old new (fault ≡ true) → (new.arms.stopped ≡ true) × (resumed new.arms ≡ resumed old.arms)
lost_arms old new true stops counts =
    let is : new.arms ≡ begun old.arms.queue old.arms.hits true = counts.arms.first refl ∙ ap (λ (b : Bool). hit_of b old.arms.queue old.arms.hits) stops in
    (ap (λ (a : Arms). a.stopped) is, ap resumed is)
lost_arms old new false stops counts =
    let spends : Spends old.arms new.arms = counts.arms.spends (λ e. cc) in
    (spends.stopped ∙ stops, ap (λ q. begun q new.arms.hits false) spends.queue ∙ ap (λ h. begun old.arms.queue h false) spends.hits)
