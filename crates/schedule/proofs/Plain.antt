-- Where no fault line stands, a report's lines are those of the table, and no others.
use Rattle.std.proofs.Common.{◌≡◌, ℕ, Bool, true, false, not, List, [], ◌∷◌, ◌++◌, Option, Some, None, refl, sym, ap, ◌∙◌, subst, inl, inr, append_assoc, cond}
use Rattle.schedule.specs.declared.item.Item2.{Item2}
use Rattle.schedule.specs.declared.line.Line.{Line}
use Rattle.schedule.specs.Moments.{Terms, Waiting, Vote, Moment, doing, turned, lost_lines}
use Rattle.schedule.specs.Stepping.{Told, told, Opening, Trouble, Wants_memory, Disk_fails, Is_unknown, Is_stopped, has_request, held_by, settled, restarted, fails, troubled, Steps}
use Rattle.schedule.specs.Courses.{Place, Course, Happens, items_of, lines_of}

abbrev pub is_trouble : Line → Bool
is_trouble (Line.Memory w) = true
is_trouble (Line.DiskFault w) = true
is_trouble (Line.Unknown w t) = true
is_trouble Line.Stop = true
is_trouble _ = false

-- the first line, if there is one, tells of no trouble
abbrev pub begins_plain : List Line → Bool
begins_plain [] = false
begins_plain (line ∷ lines) = not (is_trouble line)

abbrev pub begins_troubled : List Line → Bool
begins_troubled [] = false
begins_troubled (line ∷ lines) = is_trouble line

-- a troubled step begins with its trouble
pub trouble_first : {R : Type 0} (terms : Terms R) (m : Moment R) (w : ℕ) (trouble : Trouble) (r : Told R) → troubled terms m w trouble ≡ Some r → begins_troubled r.0 ≡ true
trouble_first terms m w trouble r e = outer (has_request (doing m w)) e
  where
    so : (s : Told _) → begins_troubled s.0 ≡ true → Some s ≡ Some r → begins_troubled r.0 ≡ true
    so s first same = (let one : s ≡ r = cc in subst (λ (k : Told _). begins_troubled k.0 ≡ true) one first)

    inner : (o : Option Vote) (t : Trouble) → fails terms m w o t ≡ Some r → begins_troubled r.0 ≡ true
    inner None Wants_memory same = so _ refl same
    inner None Disk_fails same = so _ refl same
    inner (Some v) (Is_unknown stands) same = so _ refl same
    inner None (Is_stopped stands openings) same = so _ refl same
    inner (Some v) (Is_stopped stands openings) same = so _ refl same
    inner (Some v) Wants_memory same = cc
    inner (Some v) Disk_fails same = cc
    inner None (Is_unknown stands) same = cc

    outer : (b : Bool) → cond b (fails terms m w (held_by w m.vote) trouble) None ≡ Some r → begins_troubled r.0 ≡ true
    outer true same = inner (held_by w m.vote) trouble same
    outer false same = cc

-- what the lines after a step begin with
clash : (xs ys more : List Line) (line : Line) → begins_troubled xs ≡ true → xs ++ ys ≡ line ∷ more → is_trouble line ≡ true
clash [] ys more line first e = cc
clash (x ∷ xs) ys more line first e = (let one : x ≡ line = cc in subst (λ l. is_trouble l ≡ true) one first)

-- A step whose next line tells of no trouble printed what the table says.
pub next_told : {R : Type 0} (terms : Terms R) (m end : Moment R) (w : ℕ) (ps : List (Place R)) (items : List Item2) (tail more : List Line) (line : Line)
    → Course terms m ps end → items_of ps ≡ Item2.Step w ∷ items → lines_of ps ++ tail ≡ line ∷ more → is_trouble line ≡ false
    → (qs : List (Place R)) × Course terms (told terms m w).1 qs end × (items_of qs ≡ items) × ((told terms m w).0 ++ (lines_of qs ++ tail) ≡ line ∷ more)
next_told terms m end w [] items tail more line c same e plain = cc
next_told {R} terms m end w (p ∷ ps) items tail more line c same e plain = go (subst (λ (i : Item2). Happens terms p.before i p.lines p.after) first c.1)
  where
    first : p.item ≡ Item2.Step w
    first = cc

    rest : items_of ps ≡ items
    rest = cc

    regrouped : p.lines ++ (lines_of ps ++ tail) ≡ line ∷ more
    regrouped = sym (append_assoc p.lines (lines_of ps) tail) ∙ e

    go : Steps terms p.before w p.lines p.after → (qs : List (Place R)) × Course terms (told terms m w).1 qs end × (items_of qs ≡ items) × ((told terms m w).0 ++ (lines_of qs ++ tail) ≡ line ∷ more)
    go (inl table) =
        let here : told terms m w ≡ (p.lines, p.after) = ap (λ k. told terms k w) c.0 ∙ table in (
          ps,
          subst (λ k. Course terms k ps end) (sym (ap (λ (r : Told R). r.1) here)) c.2,
          rest,
          ap (λ (r : Told R). r.0 ++ (lines_of ps ++ tail)) here ∙ regrouped,
        )
    go (inr trouble) =
        let bad : is_trouble line ≡ true = clash p.lines (lines_of ps ++ tail) more line (trouble_first terms p.before w trouble.0 (p.lines, p.after) trouble.1) regrouped in
        cc

-- A step whose next line is `stop`, where the table says otherwise, was stopped.
abbrev pub WasStopped : {R : Type 0} → Moment R → ℕ → List Line → Type 0
WasStopped m w more = (stands : Bool) × (openings : List Opening) × (rest : List Line) × ((restarted (lost_lines m) openings (settled m (held_by w m.vote) stands)).0 ++ rest ≡ Line.Stop ∷ more)

stopped_by : {R : Type 0} (terms : Terms R) (m : Moment R) (w : ℕ) (trouble : Trouble) (r : Told R) (ys more : List Line) → troubled terms m w trouble ≡ Some r → r.0 ++ ys ≡ Line.Stop ∷ more → WasStopped m w more
stopped_by {R} terms m w trouble r ys more e lines = outer (has_request (doing m w)) e
  where
    so : (s : Told R) → Some s ≡ Some r → s.0 ++ ys ≡ Line.Stop ∷ more
    so s same = (let one : s ≡ r = cc in subst (λ (k : Told R). k.0 ++ ys ≡ Line.Stop ∷ more) (sym one) lines)

    inner : (o : Option Vote) → held_by w m.vote ≡ o → (t : Trouble) → fails terms m w o t ≡ Some r → WasStopped m w more
    inner None held Wants_memory same = (let bad = so _ same in cc)
    inner None held Disk_fails same = (let bad = so _ same in cc)
    inner (Some v) held (Is_unknown stands) same = (let bad = so _ same in cc)
    inner None held (Is_stopped stands openings) same = (stands, openings, ys, subst (λ o. (restarted (lost_lines m) openings (settled m o stands)).0 ++ ys ≡ Line.Stop ∷ more) (sym held) (so _ same))
    inner (Some v) held (Is_stopped stands openings) same = (stands, openings, ys, subst (λ o. (restarted (lost_lines m) openings (settled m o stands)).0 ++ ys ≡ Line.Stop ∷ more) (sym held) (so _ same))
    inner (Some v) held Wants_memory same = cc
    inner (Some v) held Disk_fails same = cc
    inner None held (Is_unknown stands) same = cc

    outer : (b : Bool) → cond b (fails terms m w (held_by w m.vote) trouble) None ≡ Some r → WasStopped m w more
    outer true same = inner (held_by w m.vote) refl trouble same
    outer false same = cc

plain_not_stop : (xs ys more : List Line) → begins_plain xs ≡ true → xs ++ ys ≡ Line.Stop ∷ more → ⊥
plain_not_stop [] ys more plain e = cc
plain_not_stop (x ∷ xs) ys more plain e = (let one : x ≡ Line.Stop = cc in let bad : begins_plain (Line.Stop ∷ xs) ≡ true = subst (λ l. begins_plain (l ∷ xs) ≡ true) one plain in cc)

pub next_stopped : {R : Type 0} (terms : Terms R) (m end : Moment R) (w : ℕ) (ps : List (Place R)) (items : List Item2) (tail more : List Line)
    → Course terms m ps end → items_of ps ≡ Item2.Step w ∷ items → lines_of ps ++ tail ≡ Line.Stop ∷ more → begins_plain (told terms m w).0 ≡ true → WasStopped m w more
next_stopped terms m end w [] items tail more c same e plain = cc
next_stopped {R} terms m end w (p ∷ ps) items tail more c same e plain = go (subst (λ k. Steps terms k w p.lines p.after) (sym c.0) (subst (λ (i : Item2). Happens terms p.before i p.lines p.after) first c.1))
  where
    first : p.item ≡ Item2.Step w
    first = cc

    regrouped : p.lines ++ (lines_of ps ++ tail) ≡ Line.Stop ∷ more
    regrouped = sym (append_assoc p.lines (lines_of ps) tail) ∙ e

    go : Steps terms m w p.lines p.after → WasStopped m w more
    go (inl table) = absurd (plain_not_stop p.lines (lines_of ps ++ tail) more (subst (λ (r : Told R). begins_plain r.0 ≡ true) table plain) regrouped)
    go (inr trouble) = stopped_by terms m w trouble.0 (p.lines, p.after) (lines_of ps ++ tail) more trouble.1 regrouped

-- items that print nothing
pub next_given : {R : Type 0} (terms : Terms R) (m end : Moment R) (w : ℕ) (bytes : List ℕ) (q : R) (ps : List (Place R)) (items : List Item2) (tail r : List Line)
    → terms.takes bytes ≡ Some q → Course terms m ps end → items_of ps ≡ Item2.Request w bytes ∷ items → lines_of ps ++ tail ≡ r
    → (qs : List (Place R)) × Course terms (turned m w (Waiting q [])) qs end × (items_of qs ≡ items) × (lines_of qs ++ tail ≡ r)
next_given terms m end w bytes q [] items tail r takes c same e = cc
next_given {R} terms m end w bytes q (p ∷ ps) items tail r takes c same e =
    let first : p.item ≡ Item2.Request w bytes = cc in
    let step = subst (λ (i : Item2). Happens terms p.before i p.lines p.after) first c.1 in
    let one : step.0 ≡ q = cc in
    let after : p.after ≡ turned m w (Waiting q []) = step.4 ∙ ap (λ k. turned p.before w (Waiting k [])) one ∙ ap (λ k. turned k w (Waiting q [])) (sym c.0) in
    (ps, subst (λ k. Course terms k ps end) after c.2, cc, ap (λ ls. (ls ++ lines_of ps) ++ tail) (sym step.3) ∙ e)

pub next_armed : {R : Type 0} (terms : Terms R) (m end : Moment R) (n seed : ℕ) (ps : List (Place R)) (items : List Item2) (tail r : List Line)
    → Course terms m ps end → items_of ps ≡ Item2.Stop n seed ∷ items → lines_of ps ++ tail ≡ r
    → (qs : List (Place R)) × Course terms m qs end × (items_of qs ≡ items) × (lines_of qs ++ tail ≡ r)
next_armed terms m end n seed [] items tail r c same e = cc
next_armed {R} terms m end n seed (p ∷ ps) items tail r c same e =
    let first : p.item ≡ Item2.Stop n seed = cc in
    let step = subst (λ (i : Item2). Happens terms p.before i p.lines p.after) first c.1 in
    (ps, subst (λ k. Course terms k ps end) (step.1 ∙ sym c.0) c.2, cc, ap (λ ls. (ls ++ lines_of ps) ++ tail) (sym step.0) ∙ e)

-- A report is read up to here: these items and these lines are left, and this moment was reached.
pub record At {R : Type 0} (terms : Terms R) (m end : Moment R) (items : List Item2) (tail r : List Line) : Type 0 where
  pub places : List (Place R)
  pub course : Course terms m places end
  pub left : items_of places ≡ items
  pub lines : lines_of places ++ tail ≡ r

pub at_told : {R : Type 0} {terms : Terms R} {m end : Moment R} {w : ℕ} {items : List Item2} {tail more : List Line} {line : Line} (n : Moment R)
    → told terms m w ≡ (line ∷ [], n) → is_trouble line ≡ false → At terms m end (Item2.Step w ∷ items) tail (line ∷ more) → At terms n end items tail more
at_told {R} {terms} {m} {end} {w} {items} {tail} {more} {line} n here plain at =
    let step = next_told terms m end w at.places items tail more line at.course at.left at.lines plain in
    let lines : line ∷ (lines_of step.0 ++ tail) ≡ line ∷ more = sym (ap (λ (r : Told R). r.0 ++ (lines_of step.0 ++ tail)) here) ∙ step.3 in
    record { places = step.0; course = subst (λ k. Course terms k step.0 end) (ap (λ (r : Told R). r.1) here) step.1; left = step.2; lines = cc }

-- a line that the table doesn't give
pub at_wrong : {R : Type 0} {terms : Terms R} {m end : Moment R} {w : ℕ} {items : List Item2} {tail more : List Line} {line : Line} (other : Line) (others : List Line) (n : Moment R)
    → told terms m w ≡ (other ∷ others, n) → is_trouble line ≡ false → At terms m end (Item2.Step w ∷ items) tail (line ∷ more) → other ≡ line
at_wrong {R} {terms} {m} {end} {w} {items} {tail} {more} {line} other others n here plain at =
    let step = next_told terms m end w at.places items tail more line at.course at.left at.lines plain in
    let lines : other ∷ (others ++ (lines_of step.0 ++ tail)) ≡ line ∷ more = sym (ap (λ (r : Told R). r.0 ++ (lines_of step.0 ++ tail)) here) ∙ step.3 in
    cc

pub at_given : {R : Type 0} {terms : Terms R} {m end : Moment R} {w : ℕ} {bytes : List ℕ} {items : List Item2} {tail r : List Line} (q : R)
    → terms.takes bytes ≡ Some q → At terms m end (Item2.Request w bytes ∷ items) tail r → At terms (turned m w (Waiting q [])) end items tail r
at_given {R} {terms} {m} {end} {w} {bytes} {items} {tail} {r} q takes at =
    let step = next_given terms m end w bytes q at.places items tail r takes at.course at.left at.lines in
    record { places = step.0; course = step.1; left = step.2; lines = step.3 }

pub at_armed : {R : Type 0} {terms : Terms R} {m end : Moment R} {k seed : ℕ} {items : List Item2} {tail r : List Line} → At terms m end (Item2.Stop k seed ∷ items) tail r → At terms m end items tail r
at_armed {R} {terms} {m} {end} {k} {seed} {items} {tail} {r} at =
    let step = next_armed terms m end k seed at.places items tail r at.course at.left at.lines in
    record { places = step.0; course = step.1; left = step.2; lines = step.3 }

pub at_stopped : {R : Type 0} {terms : Terms R} {m end : Moment R} {w : ℕ} {items : List Item2} {tail more : List Line} → begins_plain (told terms m w).0 ≡ true → At terms m end (Item2.Step w ∷ items) tail (Line.Stop ∷ more) → WasStopped m w more
at_stopped {R} {terms} {m} {end} {w} {items} {tail} {more} plain at = next_stopped terms m end w at.places items tail more at.course at.left at.lines plain
