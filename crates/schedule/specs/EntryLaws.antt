-- Which entries a run has hit, item by item.
use Rattle.std.proofs.Common.{◌≡◌, ℕ, ◌+◌, Bool, false, List, [], ◌∷◌, ◌++◌, length, take, refl, sym, ap, ◌∙◌, append-nil, append_assoc, arith}
use Rattle.std.proofs.lemmas.Grind.{flat_map-append}
use Rattle.std.proofs.lemmas.List.{length-append}
use Rattle.schedule.specs.declared.item.Item2.{Item2}
use Rattle.schedule.specs.declared.line.Line.{Line}
use Rattle.schedule.specs.Stepping.{Opening, Stops, Faults}
use Rattle.zbase.specs.declared.faults.Arm.{Arm}
use Rattle.zbase.specs.Faults.{Arms, Spends, begun, hit, hit_of}
use Rattle.schedule.specs.Entries.{Entered, HitsMore, entries, entry_of, faults}
use Rattle.schedule.specs.Openings.{OpeningsOf}
use Rattle.schedule.specs.Queues.{ArmsMore, resumed}

pub hits_none : (old new : Arms) → Spends old new → HitsMore 0 old new
hits_none old new s = record { same = ap (λ h. h ++ new.queue) s.hits ∙ ap (λ q. old.hits ++ q) s.queue; count = (let same : length new.hits ≡ length old.hits = ap length s.hits in omega (arith, same)) }

pub hits_one : (old new : Arms) → old.stopped ≡ false → (old.queue ≡ [] → ⊥) → new ≡ hit old → HitsMore 1 old new
hits_one old new runs some e = go old.queue refl
  where
    go : (q : List Arm) → old.queue ≡ q → HitsMore 1 old new
    go [] n = absurd (some n)
    go (x ∷ xs) n =
        let after : new ≡ begun xs (old.hits ++ x ∷ []) x.stops = e ∙ ap (λ (b : Bool). hit_of b old.queue old.hits) runs ∙ ap (λ (q : List Arm). hit_of false q old.hits) n in
        let hits : new.hits ≡ old.hits ++ x ∷ [] = ap (λ (a : Arms). a.hits) after in
        let rest : new.queue ≡ xs = ap (λ (a : Arms). a.queue) after in
        let long : length new.hits ≡ length old.hits + 1 = ap length hits ∙ length-append old.hits (x ∷ []) in
        record {
          same = ap (λ h. h ++ new.queue) hits ∙ ap (λ q. (old.hits ++ x ∷ []) ++ q) rest ∙ append_assoc old.hits (x ∷ []) xs ∙ ap (λ q. old.hits ++ q) (sym n);
          count = omega (arith, long);
        }

pub hits_then : (m n : ℕ) (a b c : Arms) → HitsMore m a b → HitsMore n b c → HitsMore (m + n) a c
hits_then m n a b c x y = record { same = y.same ∙ x.same; count = omega (arith, x.count, y.count) }

pub hits_openings : (a b : Arms) (os : List Opening) → a.stopped ≡ false → OpeningsOf a os b → HitsMore (length os) a b
hits_openings a b [] runs o = hits_none a b o
hits_openings a b (Stops ∷ os) runs o =
    let one = hits_one a o.0 runs o.1 o.2 in
    let rest = hits_openings (resumed o.0) b os refl o.4 in
    record { same = rest.same ∙ one.same; count = omega (arith, one.count, rest.count) }
hits_openings a b (Faults ∷ os) runs o =
    let one = hits_one a o.0 runs o.1 o.2 in
    let rest = hits_openings o.0 b os o.3 o.4 in
    record { same = rest.same ∙ one.same; count = omega (arith, one.count, rest.count) }

pub faults-append : (xs ys : List Line) → faults (xs ++ ys) ≡ faults xs + faults ys
faults-append [] ys = omega arith
faults-append (x ∷ xs) ys = let more : faults (xs ++ ys) ≡ faults xs + faults ys = faults-append xs ys in omega (arith, more)

entries-append : (items : List Item2) (item : Item2) → entries (items ++ item ∷ []) ≡ entries items ++ entry_of item
entries-append items item = flat_map-append entry_of items (item ∷ []) ∙ ap (λ xs. entries items ++ xs) (append-nil (entry_of item))

-- an item that arms nothing, with its lines
pub entered_more : (items : List Item2) (lines more : List Line) (item : Item2) (old new : Arms) (n : ℕ) → Entered items lines old → HitsMore n old new → faults more ≡ n → entry_of item ≡ [] → Entered (items ++ item ∷ []) (lines ++ more) new
entered_more items lines more item old new n was hits count none =
    let all : faults (lines ++ more) ≡ faults lines + faults more = faults-append lines more in
    record {
      all = hits.same ∙ was.all ∙ sym (entries-append items item ∙ ap (λ xs. entries items ++ xs) none ∙ append-nil (entries items));
      count = omega (arith, was.count, hits.count, count, all);
    }

-- an arming item
pub entered_armed : (items : List Item2) (lines : List Line) (item : Item2) (x : Arm) (old new : Arms) → Entered items lines old → ArmsMore x old new → entry_of item ≡ x ∷ [] → Entered (items ++ item ∷ []) (lines ++ []) new
entered_armed items lines item x old new was more e =
    let none : faults (lines ++ []) ≡ faults lines = ap faults (append-nil lines) in
    record {
      all = ap (λ h. h ++ new.queue) more.hits ∙ ap (λ q. old.hits ++ q) more.queue ∙ sym (append_assoc old.hits old.queue (x ∷ [])) ∙ ap (λ xs. xs ++ x ∷ []) was.all ∙ sym (entries-append items item ∙ ap (λ xs. entries items ++ xs) e);
      count = ap length more.hits ∙ was.count ∙ sym none;
    }

take_front : {A : Type 0} (xs ys : List A) → take (length xs) (xs ++ ys) ≡ xs
take_front [] ys = refl
take_front (x ∷ xs) ys = ap (λ zs. x ∷ zs) (take_front xs ys)

-- at the end: what was hit are the entries of the first items, as many as there are lines of faults
pub entered_whole : (items : List Item2) (lines : List Line) (arms : Arms) → Entered items lines arms → arms.hits ≡ take (faults lines) (entries items)
entered_whole items lines arms e = sym (ap (λ n. take n (entries items)) (sym e.count) ∙ ap (take (length arms.hits)) (sym e.all) ∙ take_front arms.hits arms.queue)
