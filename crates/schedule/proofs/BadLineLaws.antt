-- A text has one first bad line, and none where it is a schedule.
use Rattle.std.proofs.Common.{◌≡◌, ℕ, ◌+◌, List, [], ◌∷◌, ◌++◌, ◌⊎◌, inl, inr, length, refl, sym, subst, ◌∙◌, append_assoc, arith}
use Rattle.std.specs.Prelude.{flat_map}
use Rattle.std.specs.List.{AllByRecursion}
use Rattle.std.proofs.lemmas.List.{append_cancel_left}
use Rattle.schedule.specs.declared.item.Item2.{Item2}
use Rattle.schedule.specs.Items.{item_text, first_line, HasLine, IsSchedule}
use Rattle.schedule.specs.BadLines.{IsBadLine, GoesOn, IsBadAt}
use Rattle.schedule.proofs.OneSchedule.{one_item, not_end}

-- what stands behind good lines: a bad line or what goes on behind the end, and how many lines it is further on
abbrev Behind : List ℕ → ℕ → Type 0
Behind rest k = ((k ≡ 2) × IsBadLine rest) ⊎ ((k ≡ 3) × GoesOn rest)

-- an item begins there, so no end and no bad line does
item_is_no_stop : (x : Item2) (others rest : List ℕ) (k : ℕ) → HasLine x → rest ≡ item_text x ++ others → Behind rest k → ⊥
item_is_no_stop x others rest k line e (inl bad) = bad.1.no_item (x, others, line, e)
item_is_no_stop x others rest k line e (inr more) = not_end x others more.1.more line (sym e ∙ more.1.text)

-- the end is no bad line, and goes on in one way
same_stop : (rest : List ℕ) (j k : ℕ) → Behind rest j → Behind rest k → j ≡ k
same_stop rest j k (inl a) (inl b) = a.0 ∙ sym b.0
same_stop rest j k (inl a) (inr b) = absurd (a.1.no_end b.1.more b.1.text)
same_stop rest j k (inr a) (inl b) = absurd (b.1.no_end a.1.more a.1.text)
same_stop rest j k (inr a) (inr b) = a.0 ∙ sym b.0

same_count : (a b : List Item2) (r s : List ℕ) (j k : ℕ) → AllByRecursion HasLine a → AllByRecursion HasLine b → flat_map item_text a ++ r ≡ flat_map item_text b ++ s → Behind r j → Behind s k → length a + j ≡ length b + k
same_count [] [] r s j k p q e f g = omega (arith, same_stop r j k f (subst (λ rest. Behind rest k) (sym e) g))
same_count [] (y ∷ ys) r s j k p q e f g = absurd (item_is_no_stop y (flat_map item_text ys ++ s) r j q.0 (e ∙ append_assoc (item_text y) (flat_map item_text ys) s) f)
same_count (x ∷ xs) [] r s j k p q e f g = absurd (item_is_no_stop x (flat_map item_text xs ++ r) s k p.0 (sym e ∙ append_assoc (item_text x) (flat_map item_text xs) r) g)
same_count (x ∷ xs) (y ∷ ys) r s j k p q e f g =
    let both = one_item x y (flat_map item_text xs ++ r) (flat_map item_text ys ++ s) p.0 q.0 (sym (append_assoc (item_text x) (flat_map item_text xs) r) ∙ e ∙ append_assoc (item_text y) (flat_map item_text ys) s) in
    let rest : length xs + j ≡ length ys + k = same_count xs ys r s j k p.1 q.1 both.1 f g in
    omega (arith, rest)

-- what stands behind the first line of a text, in two ways
behind_first : (text xs ys r s : List ℕ) → text ≡ first_line ++ xs ++ r → text ≡ first_line ++ ys ++ s → xs ++ r ≡ ys ++ s
behind_first text xs ys r s e f = append_cancel_left first_line _ _ (sym (append_assoc first_line xs r) ∙ sym e ∙ f ∙ append_assoc first_line ys s)

-- the parts of a bad line behind the first
behind : (n count : ℕ) (rest : List ℕ) → ((n ≡ count + 2) × IsBadLine rest) ⊎ ((n ≡ count + 3) × GoesOn rest) → (k : ℕ) × (n ≡ count + k) × Behind rest k
behind n count rest (inl bad) = (2, bad.0, inl (refl, bad.1))
behind n count rest (inr more) = (3, more.0, inr (refl, more.1))

pub one_number : (text : List ℕ) (m n : ℕ) → IsBadAt text m → IsBadAt text n → m ≡ n
one_number text m n (inl a) (inl b) = a.0 ∙ sym b.0
one_number text m n (inl a) (inr (items, rest, good, stop)) = absurd (a.1 (flat_map item_text items ++ rest) (good.text_is ∙ append_assoc first_line (flat_map item_text items) rest))
one_number text m n (inr (items, rest, good, stop)) (inl b) = absurd (b.1 (flat_map item_text items ++ rest) (good.text_is ∙ append_assoc first_line (flat_map item_text items) rest))
one_number text m n (inr (a, r, p, f)) (inr (b, s, q, g)) =
    let x = behind m (length a) r f in
    let y = behind n (length b) s g in
    x.1 ∙ same_count a b r s x.0 y.0 p.lines q.lines (behind_first text (flat_map item_text a) (flat_map item_text b) r s p.text_is q.text_is) x.2 y.2 ∙ sym y.1

-- the whole text is good lines and the end
no_stop : (a b : List Item2) (s : List ℕ) (k : ℕ) → AllByRecursion HasLine a → AllByRecursion HasLine b → flat_map item_text a ++ item_text Item2.End ≡ flat_map item_text b ++ s → Behind s k → ⊥
no_stop [] [] s k p q e (inl bad) = bad.1.no_end [] (sym e)
no_stop [] [] s k p q e (inr more) = more.1.some (sym (append_cancel_left (item_text Item2.End) [] more.1.more (e ∙ more.1.text)))
no_stop [] (y ∷ ys) s k p q e g = not_end y (flat_map item_text ys ++ s) [] q.0 (sym (append_assoc (item_text y) (flat_map item_text ys) s) ∙ sym e)
no_stop (x ∷ xs) [] s k p q e g = item_is_no_stop x (flat_map item_text xs ++ item_text Item2.End) s k p.0 (sym e ∙ append_assoc (item_text x) (flat_map item_text xs) (item_text Item2.End)) g
no_stop (x ∷ xs) (y ∷ ys) s k p q e g =
    let both = one_item x y (flat_map item_text xs ++ item_text Item2.End) (flat_map item_text ys ++ s) p.0 q.0 (sym (append_assoc (item_text x) (flat_map item_text xs) (item_text Item2.End)) ∙ e ∙ append_assoc (item_text y) (flat_map item_text ys) s) in
    no_stop xs ys s k p.1 q.1 both.1 g

pub schedule_or_bad : (text : List ℕ) (items : List Item2) (n : ℕ) → IsSchedule text items → IsBadAt text n → ⊥
schedule_or_bad text items n is (inl a) = a.1 (flat_map item_text items ++ item_text Item2.End) (is.text ∙ append_assoc first_line (flat_map item_text items) (item_text Item2.End))
schedule_or_bad text items n is (inr (b, s, q, g)) =
    let y = behind n (length b) s g in
    no_stop items b s y.0 is.lines q.lines (behind_first text (flat_map item_text items) (flat_map item_text b) (item_text Item2.End) s is.text q.text_is) y.2
