-- Over a disk that can't fail, a run that is explained by its count is explained as a replay is.
use Rattle.std.proofs.Common.{◌≡◌, ℕ, zero, suc, ◌<◌, ◌≤◌, Bool, true, false, List, [], ◌∷◌, ◌++◌, Option, Some, refl, sym, ap, ◌∙◌, subst, arith, IsSome}
use Rattle.zbase.specs.History.{History}
use Rattle.zbase.specs.Limits.{greatest_number}
use Rattle.schedule.specs.declared.item.Item2.{Item2}
use Rattle.schedule.specs.declared.line.Line.{Line}
use Rattle.schedule.specs.Armed.{Queue, after_item, after_line, after_lines, after_places, nothing_armed}
use Rattle.schedule.specs.Counted.{AreCounted, Counted, ExplainedByCount, printed}
use Rattle.schedule.specs.Courses.{Place, items_of}
use Rattle.schedule.specs.Entries.{entries, entry_of, faults, is_fault, one_if}
use Rattle.schedule.specs.Explained.{Explained}
use Rattle.schedule.specs.Moments.{Terms}

all_later : (old : ℕ) (all : List (List Line)) (new : ℕ) → AreCounted old all new → old ≤ new
all_later old [] new c = omega (arith, c)
all_later old (lines ∷ more) new c = (let a = c.1.later in let b = all_later c.0 more new c.2 in omega (arith, a, b))

no_faults : (n mid : ℕ) (lines : List Line) → n < greatest_number → mid ≤ n → Counted n lines mid → faults lines ≡ 0
no_faults n mid lines below le c = go (faults lines) refl
  where
    go : (k : ℕ) → faults lines ≡ k → faults lines ≡ 0
    go zero e = e
    go (suc k) e = absurd (let r = c.rose (omega (arith, e)) in omega (arith, r, below, le))

none_in : (l : Line) (ls : List Line) → faults (l ∷ ls) ≡ 0 → (is_fault l ≡ false) × (faults ls ≡ 0)
none_in l ls e = go (is_fault l) refl
  where
    go : (b : Bool) → is_fault l ≡ b → (is_fault l ≡ false) × (faults ls ≡ 0)
    go false is = (is, omega (arith, e, ap one_if is))
    go true is = absurd (let one : one_if (is_fault l) ≡ 1 = ap one_if is in omega (arith, e, one))

quiet_line : (l : Line) → is_fault l ≡ false → after_line nothing_armed l ≡ Some nothing_armed
quiet_line Line.Stop e = absurd cc
quiet_line (Line.DiskFault w) e = absurd cc
quiet_line (Line.Unknown w t) e = absurd cc
quiet_line Line.OpenFault e = absurd cc
quiet_line Line.PackFault e = absurd cc
quiet_line (Line.Vote w t) e = refl
quiet_line (Line.ReplyCommit w t bytes) e = refl
quiet_line Line.Head e = refl
quiet_line (Line.Opened t n) e = refl
quiet_line (Line.Begin w t) e = refl
quiet_line (Line.Fetch w ask) e = refl
quiet_line (Line.Computed w) e = refl
quiet_line (Line.Busy w v) e = refl
quiet_line (Line.Conflict w c) e = refl
quiet_line (Line.GivenUp w cs) e = refl
quiet_line (Line.Idle w) e = refl
quiet_line (Line.SpentTids w) e = refl
quiet_line (Line.SpentOids w o n) e = refl
quiet_line (Line.SpentFull w need limit) e = refl
quiet_line (Line.Memory w) e = refl
quiet_line (Line.ReplyRead w t bytes) e = refl
quiet_line (Line.ReplyNone w bytes) e = refl
quiet_line (Line.Shown w o role) e = refl
quiet_line (Line.Denied w o permission) e = refl
quiet_line (Line.Lost w) e = refl
quiet_line (Line.Restart t n) e = refl
quiet_line (Line.History n) e = refl
quiet_line (Line.Floor t) e = refl
quiet_line (Line.Transaction t u d x n) e = refl
quiet_line (Line.RecordRow o v) e = refl
quiet_line (Line.Packed t n) e = refl
quiet_line Line.PackBusy e = refl
quiet_line (Line.PackUnreadable o) e = refl
quiet_line (Line.PackFull need limit) e = refl
quiet_line Line.PackMemory e = refl
quiet_line Line.End e = refl

quiet_lines : (ls : List Line) → faults ls ≡ 0 → after_lines (Some nothing_armed) ls ≡ Some nothing_armed
quiet_lines [] e = refl
quiet_lines (l ∷ ls) e =
    let parts = none_in l ls e in
    ap (λ k. after_lines k ls) (quiet_line l parts.0) ∙ quiet_lines ls parts.1

quiet_item : (item : Item2) → entry_of item ≡ [] → after_item nothing_armed item ≡ nothing_armed
quiet_item (Item2.Stop n seed) e = absurd cc
quiet_item (Item2.Fail n seed) e = absurd cc
quiet_item (Item2.Request w bytes) e = refl
quiet_item (Item2.Step w) e = refl
quiet_item (Item2.Clock t) e = refl
quiet_item (Item2.Pack t) e = refl
quiet_item Item2.End e = refl

no_front : {A : Type 0} (front behind : List A) → front ++ behind ≡ [] → (front ≡ []) × (behind ≡ [])
no_front [] behind e = (refl, e)
no_front (x ∷ xs) behind e = absurd cc

quiet_places : {R : Type 0} (n : ℕ) (ps : List (Place R)) → n < greatest_number → entries (items_of ps) ≡ [] → AreCounted n (printed ps) n → after_places (Some nothing_armed) ps ≡ Some nothing_armed
quiet_places n [] below none c = refl
quiet_places {R} n (p ∷ ps) below none c =
    let le = all_later c.0 (printed ps) n c.2 in
    let same : c.0 ≡ n = (let a = c.1.later in omega (arith, a, le)) in
    let unarmed = no_front (entry_of p.item) (entries (items_of ps)) none in
    let here : after_lines (Some (after_item nothing_armed p.item)) p.lines ≡ Some nothing_armed = ap (λ k. after_lines (Some k) p.lines) (quiet_item p.item unarmed.0) ∙ quiet_lines p.lines (no_faults n c.0 p.lines below le c.1) in
    ap (λ k. after_places k ps) here ∙ quiet_places n ps below unarmed.1 (subst (λ m. AreCounted m (printed ps) n) same c.2)

pub replays : {R : Type 0} (terms : Terms R) (n : ℕ) (h0 : History) (s : List Item2) (r : List Line) → n < greatest_number → entries s ≡ [] → ExplainedByCount terms n n h0 s r → Explained terms h0 s r
replays terms n h0 s r below none e = record {
  trace = e.trace;
  end = e.end;
  items = e.items;
  lines = e.lines;
  course = e.course;
  first = e.first;
  right = e.right;
  faults = subst (λ (q : Option Queue). IsSome q) (sym (quiet_places n e.trace below (ap entries e.items ∙ none) e.faults)) refl;
}
