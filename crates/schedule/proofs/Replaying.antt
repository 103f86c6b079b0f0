-- Reports of the same items over the same history are the same, where neither tells of want of memory, a fault or a stop.
use Rattle.std.proofs.Common.{◌≡◌, ℕ, Bool, true, false, List, [], ◌∷◌, ◌++◌, Option, Some, None, refl, sym, ap, ap₂, ◌∙◌, subst, arith, inl, inr, length, ◌<◌, ◌⊎◌, nat_lt}
use Rattle.std.proofs.lemmas.Bool.Decides.{nat_tests}
use Rattle.std.specs.List.{list_any}
use Rattle.zbase.specs.History.{History}
use Rattle.zbase.specs.Values.{last}
use Rattle.packing.specs.Packed.{packed}
use Rattle.packing.specs.PackedLaws.{one_keep, one_pack}
use Rattle.packing.specs.Reachable.{AreReadable, IsUnreadable, Linking}
use Rattle.schedule.specs.declared.item.Item2.{Item2}
use Rattle.schedule.specs.declared.line.Line.{Line}
use Rattle.schedule.specs.Courses.{Course, Happens, Place, items_of, lines_of}
use Rattle.schedule.specs.Explained.{Explains, history_lines}
use Rattle.schedule.specs.Moments.{Moment, Terms, Vote, doing, lost_lines, start, turned, Waiting as Waiting_}
use Rattle.schedule.specs.Packing.{Is_cut_off, Lacks_memory, PackTrouble, Pack_fails, Packs, PacksAt, pack_fails, packs_to, refused_so}
use Rattle.schedule.specs.Stepping.{Disk_fails, Is_stopped, Is_unknown, Steps, Told, Trouble, Wants_memory, fails, has_request, held_by, told, troubled}
use Rattle.schedule.specs.Untroubled.{Untroubled, is_trouble}

taken : {R : Type 0} (x t : Told R) → Some x ≡ Some t → list_any is_trouble x.0 ≡ true → list_any is_trouble t.0 ≡ true
taken x t e shows = (let same : x ≡ t = cc in subst (λ (k : Told _). list_any is_trouble k.0 ≡ true) same shows)

fails_shows : {R : Type 0} (terms : Terms R) (m : Moment R) (w : ℕ) (held : Option Vote) (trouble : Trouble) (t : Told R) → fails terms m w held trouble ≡ Some t → list_any is_trouble t.0 ≡ true
fails_shows terms m w None Wants_memory t e = taken _ t e refl
fails_shows terms m w None Disk_fails t e = taken _ t e refl
fails_shows terms m w (Some v) (Is_unknown b) t e = taken _ t e refl
fails_shows terms m w None (Is_stopped b os) t e = taken _ t e refl
fails_shows terms m w (Some v) (Is_stopped b os) t e = taken _ t e refl
fails_shows terms m w (Some v) Wants_memory t e = absurd cc
fails_shows terms m w (Some v) Disk_fails t e = absurd cc
fails_shows terms m w None (Is_unknown b) t e = absurd cc

trouble_shows : {R : Type 0} (terms : Terms R) (m : Moment R) (w : ℕ) (trouble : Trouble) (t : Told R) (b : Bool) → has_request (doing m w) ≡ b → troubled terms m w trouble ≡ Some t → list_any is_trouble t.0 ≡ true
trouble_shows terms m w trouble t true asked e =
    let here : troubled terms m w trouble ≡ fails terms m w (held_by w m.vote) trouble = rw asked refl in
    fails_shows terms m w (held_by w m.vote) trouble t (sym here ∙ e)
trouble_shows terms m w trouble t false asked e =
    let none : troubled terms m w trouble ≡ None = rw asked refl in
    absurd (let bad : None ≡ Some t = sym none ∙ e in cc)

-- a step that meets nothing is the table's
plain_step : {R : Type 0} (terms : Terms R) (old new : Moment R) (w : ℕ) (lines : List Line) → Steps terms old w lines new → list_any is_trouble lines ≡ false → told terms old w ≡ (lines, new)
plain_step terms old new w lines (inl e) calm = e
plain_step terms old new w lines (inr (trouble, e)) calm = absurd (let bad : true ≡ false = sym (trouble_shows terms old w trouble (lines, new) (has_request (doing old w)) refl e) ∙ calm in cc)

abbrev Same : {R : Type 0} → List Line → Moment R → List Line → Moment R → Type 0
Same ls a ks b = (ls ≡ ks) × (a ≡ b)

paired : {R : Type 0} (t : Told R) (ls ks : List Line) (a b : Moment R) → t ≡ (ls, a) → t ≡ (ks, b) → Same ls a ks b
paired t ls ks a b e f = (sym (ap (λ (k : Told _). k.0) e) ∙ ap (λ (k : Told _). k.0) f, sym (ap (λ (k : Told _). k.1) e) ∙ ap (λ (k : Told _). k.1) f)

-- ---- packs

abbrev AreAlike : (ℕ → Bool) → (ℕ → Bool) → Type 0
AreAlike keep other = (o : ℕ) → keep o ≡ other o

-- an object that one set keeps and none of its values spells isn't readable by a set that is alike
not_both : (links : Linking) (h : History) (t : ℕ) (keep other : ℕ → Bool) (o : ℕ) → AreAlike keep other → IsUnreadable links h t keep o → AreReadable links h t other → ⊥
not_both links h t keep other o alike broken whole =
    let kept : other o ≡ true = sym (alike o) ∙ broken.kept in
    (let bad : true ≡ false = sym broken.broken ∙ whole o kept in cc)

-- no object that can't be read is below the least
not_below : (links : Linking) (h : History) (t : ℕ) (keep other : ℕ → Bool) (o p : ℕ) → AreAlike keep other → IsUnreadable links h t keep o → IsUnreadable links h t other p → nat_lt o p ≡ false
not_below links h t keep other o p alike x y = go (nat_lt o p) refl
  where
    go : (b : Bool) → nat_lt o p ≡ b → nat_lt o p ≡ false
    go false e = e
    go true e =
        let below : o < p = grind (arith, nat_tests) in
        let kept : other o ≡ true = sym (alike o) ∙ x.kept in
        absurd (let bad : true ≡ false = sym x.broken ∙ y.first o below kept in cc)

one_least : (links : Linking) (h : History) (t : ℕ) (keep other : ℕ → Bool) (o p : ℕ) → AreAlike keep other → IsUnreadable links h t keep o → IsUnreadable links h t other p → o ≡ p
one_least links h t keep other o p alike x y =
    let a : nat_lt o p ≡ false = not_below links h t keep other o p alike x y in
    let b : nat_lt p o ≡ false = not_below links h t other keep p o (λ n. sym (alike n)) y x in
    grind (arith, nat_tests)

-- what a pack with this set may say and leave
abbrev Found : {R : Type 0} → Terms R → Moment R → ℕ → (ℕ → Bool) → List Line → Moment R → Type 0
Found terms old t keep lines new =
    ((o : ℕ) × IsUnreadable terms.links old.standing t keep o × (refused_so old (Line.PackUnreadable o) ≡ (lines, new)))
    ⊎ (AreReadable terms.links old.standing t keep × (packs_to terms old (packed keep old.standing t) ≡ (lines, new)))

-- packs that meet nothing say and leave the same
packs_same : {R : Type 0} (terms : Terms R) (old a b : Moment R) (t : ℕ) (ls ks : List Line) → Packs terms old t ls a → Packs terms old t ks b → Same ls a ks b
packs_same {R} terms old a b t ls ks p q = go p.told q.told
  where
    alike : AreAlike p.keep q.keep
    alike = one_keep terms.links old.standing t p.keep q.keep p.kept q.kept

    go : Found terms old t p.keep ls a → Found terms old t q.keep ks b → Same ls a ks b
    go (inl x) (inl y) =
        let one : x.0 ≡ y.0 = one_least terms.links old.standing t p.keep q.keep x.0 y.0 alike x.1 y.1 in
        paired (refused_so old (Line.PackUnreadable x.0)) ls ks a b x.2 (ap (λ (o : ℕ). refused_so old (Line.PackUnreadable o)) one ∙ y.2)
    go (inl x) (inr y) = absurd (not_both terms.links old.standing t p.keep q.keep x.0 alike x.1 y.0)
    go (inr x) (inl y) = absurd (not_both terms.links old.standing t q.keep p.keep y.0 (λ n. sym (alike n)) y.1 x.0)
    go (inr x) (inr y) =
        let one : packed p.keep old.standing t ≡ packed q.keep old.standing t = one_pack old.standing t p.keep q.keep alike in
        paired (packs_to terms old (packed p.keep old.standing t)) ls ks a b x.1 (ap (packs_to terms old) one ∙ y.1)

-- a trouble of a pack shows
pack_shows : {R : Type 0} (old new : Moment R) (trouble : PackTrouble) (lines : List Line) → pack_fails old trouble ≡ (lines, new) → list_any is_trouble lines ≡ true
pack_shows {R} old new Lacks_memory lines e = ap (λ (k : Told R). list_any is_trouble k.0) (sym e)
pack_shows {R} old new Pack_fails lines e = ap (λ (k : Told R). list_any is_trouble k.0) (sym e)
pack_shows {R} old new (Is_cut_off openings) lines e = ap (λ (k : Told R). list_any is_trouble k.0) (sym e)

pack_same : {R : Type 0} (terms : Terms R) (old a b : Moment R) (t : ℕ) (ls ks : List Line) → PacksAt terms old t ls a → PacksAt terms old t ks b → list_any is_trouble ls ≡ false → list_any is_trouble ks ≡ false → Same ls a ks b
pack_same terms old a b t ls ks (inl x) (inl y) calm quiet = paired (refused_so old Line.PackBusy) ls ks a b x.1 y.1
pack_same terms old a b t ls ks (inl x) (inr y) calm quiet = absurd (let bad : true ≡ false = sym x.0 ∙ y.0 in cc)
pack_same terms old a b t ls ks (inr x) (inl y) calm quiet = absurd (let bad : true ≡ false = sym y.0 ∙ x.0 in cc)
pack_same terms old a b t ls ks (inr (idle, inl x)) (inr (rests, inl y)) calm quiet = packs_same terms old a b t ls ks x y
pack_same terms old a b t ls ks (inr (idle, inr x)) (inr y) calm quiet = absurd (let bad : true ≡ false = sym (pack_shows old a x.0 ls x.1) ∙ calm in cc)
pack_same terms old a b t ls ks (inr x) (inr (idle, inr y)) calm quiet = absurd (let bad : true ≡ false = sym (pack_shows old b y.0 ks y.1) ∙ quiet in cc)

happens_same : {R : Type 0} (terms : Terms R) (old a b : Moment R) (item : Item2) (ls ks : List Line) → Happens terms old item ls a → Happens terms old item ks b → list_any is_trouble ls ≡ false → list_any is_trouble ks ≡ false → Same ls a ks b
happens_same {R} terms old a b (Item2.Request w bytes) ls ks h k calm quiet =
    let some : Some h.0 ≡ Some k.0 = sym h.1 ∙ k.1 in
    let q : h.0 ≡ k.0 = same_some h.0 k.0 some in
    (h.3 ∙ sym k.3, h.4 ∙ ap (λ (x : R). turned old w (Waiting_ x [])) q ∙ sym k.4)
  where
    same_some : (x y : R) → Some x ≡ Some y → x ≡ y
    same_some x y e = cc
happens_same terms old a b (Item2.Step w) ls ks h k calm quiet = paired (told terms old w) ls ks a b (plain_step terms old a w ls h calm) (plain_step terms old b w ks k quiet)
happens_same terms old a b (Item2.Clock t) ls ks h k calm quiet = (h.0 ∙ sym k.0, h.1 ∙ sym k.1)
happens_same terms old a b (Item2.Stop n seed) ls ks h k calm quiet = (h.0 ∙ sym k.0, h.1 ∙ sym k.1)
happens_same terms old a b (Item2.Fail n seed) ls ks h k calm quiet = (h.0 ∙ sym k.0, h.1 ∙ sym k.1)
happens_same terms old a b (Item2.Pack t) ls ks h k calm quiet = pack_same terms old a b t ls ks h k calm quiet
happens_same terms old a b Item2.End ls ks h k calm quiet = absurd h

course_same : {R : Type 0} (terms : Terms R) (old a b : Moment R) (ps qs : List (Place R)) → Course terms old ps a → Course terms old qs b → items_of ps ≡ items_of qs → Untroubled ps → Untroubled qs → Same (lines_of ps) a (lines_of qs) b
course_same terms old a b [] [] c d items calm quiet = (refl, sym c ∙ d)
course_same terms old a b [] (q ∷ qs) c d items calm quiet = absurd cc
course_same terms old a b (p ∷ ps) [] c d items calm quiet = absurd cc
course_same {R} terms old a b (p ∷ ps) (q ∷ qs) c d items calm quiet =
    let first : p.item ≡ q.item = heads items in
    let rest : items_of ps ≡ items_of qs = tails items in
    let one = happens_same terms old p.after q.after p.item p.lines q.lines (subst (λ (m : Moment R). Happens terms m p.item p.lines p.after) (sym c.0) c.1) (subst (λ i. Happens terms old i q.lines q.after) (sym first) (subst (λ (m : Moment R). Happens terms m q.item q.lines q.after) (sym d.0) d.1)) calm.0 quiet.0 in
    let more = course_same terms p.after a b ps qs c.2 (subst (λ (m : Moment R). Course terms m qs b) (sym one.1) d.2) rest calm.1 quiet.1 in
    (ap₂ (λ (xs ys : List Line). xs ++ ys) one.0 more.0, more.1)
  where
    heads : p.item ∷ items_of ps ≡ q.item ∷ items_of qs → p.item ≡ q.item
    heads e = cc

    tails : p.item ∷ items_of ps ≡ q.item ∷ items_of qs → items_of ps ≡ items_of qs
    tails e = cc

pub same_report : {R : Type 0} (terms : Terms R) (L K : List (Place R) → Type 0) (h0 : History) (s : List Item2) (r q : List Line) → (e : Explains terms L h0 s r) → (f : Explains terms K h0 s q) → Untroubled e.trace → Untroubled f.trace → r ≡ q
same_report {R} terms L K h0 s r q e f calm quiet =
    let same = course_same terms (start terms h0) e.end f.end e.trace f.trace e.course f.course (e.items ∙ sym f.items) calm quiet in
    e.lines ∙ ap₂ (λ (ls : List Line) (m : Moment R). Line.Head ∷ Line.Opened (last h0) (length h0.transactions) ∷ (ls ++ lost_lines m ++ history_lines m.standing ++ Line.End ∷ [])) same.0 same.1 ∙ sym f.lines
