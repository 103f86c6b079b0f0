-- A text spells one schedule: no item's text begins another item's.
use Rattle.std.proofs.Common.{◌≡◌, ℕ, ◌<◌, ◌≤◌, ◌+◌, ◌*◌, ◌^◌, List, [], ◌∷◌, ◌++◌, length, get_or, refl, sym, ap, ◌∙◌, append_assoc, arith}
use Rattle.std.specs.Prelude.{codes, flat_map, decimal}
use Rattle.std.specs.Char.{digit_value}
use Rattle.std.specs.List.{AllByRecursion}
use Rattle.std.specs.Str.Parse.{AllDigits}
use Rattle.std.proofs.lemmas.Fmt.{decimal_is_IsNumeral, decimal_injective}
use Rattle.std.proofs.lemmas.List.{append_cancel_left}
use Rattle.zbase.specs.Hex.{hex16_text}
use Rattle.zbase.specs.HexLaws.{fronts_same, length-hex16_text, hex16_text_injective}
use Rattle.schedule.specs.declared.item.Item2.{Item2}
use Rattle.schedule.specs.Items.{item_text, first_line, HasLine, IsSchedule}

-- digits end where no digit follows
digits_end : (xs ys : List ℕ) (c d : ℕ) (r s : List ℕ) → AllDigits 10 xs → AllDigits 10 ys → 10 ≤ digit_value c → 10 ≤ digit_value d → xs ++ c ∷ r ≡ ys ++ d ∷ s → (xs ≡ ys) × (c ∷ r ≡ d ∷ s)
digits_end [] [] c d r s p q f g e = (refl, e)
digits_end (x ∷ xs) [] c d r s p q f g e =
    let h : x ≡ d = cc in absurd (omega (arith, p.0, g, ap digit_value h))
digits_end [] (y ∷ ys) c d r s p q f g e =
    let h : c ≡ y = cc in absurd (omega (arith, q.0, f, ap digit_value h))
digits_end (x ∷ xs) (y ∷ ys) c d r s p q f g e =
    let tails : xs ++ c ∷ r ≡ ys ++ d ∷ s = cc in
    let rest = digits_end xs ys c d r s p.1 q.1 f g tails in
    let heads : x ≡ y = cc in
    let front : xs ≡ ys = rest.0 in
    (cc, rest.1)

-- a number ends at a space or LF
pub number_ends : (m n c : ℕ) (r s : List ℕ) → m < 2 ^ 64 → n < 2 ^ 64 → 10 ≤ digit_value c → decimal m ++ c ∷ r ≡ decimal n ++ c ∷ s → (m ≡ n) × (r ≡ s)
number_ends m n c r s fm fn f e =
    let both = digits_end (decimal m) (decimal n) c c r s (decimal_is_IsNumeral m fm).0.1 (decimal_is_IsNumeral n fn).0.1 f f e in
    let rest : c ∷ r ≡ c ∷ s = both.1 in
    (decimal_injective m n fm fn both.0, cc)

-- a row of one number
one_number : (m n : ℕ) (r s : List ℕ) → m < 2 ^ 64 → n < 2 ^ 64 → (decimal m ++ 10 ∷ []) ++ r ≡ (decimal n ++ 10 ∷ []) ++ s → (m ≡ n) × (r ≡ s)
one_number m n r s fm fn e = number_ends m n 10 r s fm fn (omega arith) (sym (append_assoc (decimal m) (10 ∷ []) r) ∙ e ∙ append_assoc (decimal n) (10 ∷ []) s)

-- a row of two numbers
two_numbers : (m a n b : ℕ) (r s : List ℕ) → m < 2 ^ 64 → a < 2 ^ 64 → n < 2 ^ 64 → b < 2 ^ 64 → (decimal m ++ (32 ∷ decimal a ++ 10 ∷ [])) ++ r ≡ (decimal n ++ (32 ∷ decimal b ++ 10 ∷ [])) ++ s → (m ≡ n) × (a ≡ b) × (r ≡ s)
two_numbers m a n b r s fm fa fn fb e =
    let regroup : (k j : ℕ) (t : List ℕ) → (decimal k ++ (32 ∷ decimal j ++ 10 ∷ [])) ++ t ≡ decimal k ++ 32 ∷ (decimal j ++ 10 ∷ t) = (λ k j t. simp append_assoc) in
    let first = number_ends m n 32 (decimal a ++ 10 ∷ r) (decimal b ++ 10 ∷ s) fm fn (omega arith) (sym (regroup m a r) ∙ e ∙ regroup n b s) in
    let second = number_ends a b 10 r s fa fb (omega arith) first.1 in
    (first.0, second.0, second.1)

one_id : (t u : ℕ) (r s : List ℕ) → t < 2 ^ 64 → u < 2 ^ 64 → (hex16_text t ++ 10 ∷ []) ++ r ≡ (hex16_text u ++ 10 ∷ []) ++ s → (t ≡ u) × (r ≡ s)
one_id t u r s ft fu e =
    let f : hex16_text t ++ 10 ∷ r ≡ hex16_text u ++ 10 ∷ s = sym (append_assoc (hex16_text t) (10 ∷ []) r) ∙ e ∙ append_assoc (hex16_text u) (10 ∷ []) s in
    let parts = fronts_same (hex16_text t) (hex16_text u) (10 ∷ r) (10 ∷ s) (length-hex16_text t ∙ sym (length-hex16_text u)) f in
    let rest : 10 ∷ r ≡ 10 ∷ s = parts.1 in
    (hex16_text_injective t u ft fu parts.0, cc)

pub regroup_request : (w : ℕ) (bytes r : List ℕ) → item_text (Item2.Request w bytes) ++ r ≡ codes "request " ++ (decimal w ++ 32 ∷ (decimal (length bytes) ++ 10 ∷ (bytes ++ 10 ∷ r)))
regroup_request w bytes r = simp append_assoc

one_request : (w v : ℕ) (xs ys r s : List ℕ) → w < 2 ^ 64 → v < 2 ^ 64 → length xs < 2 ^ 64 → length ys < 2 ^ 64 → item_text (Item2.Request w xs) ++ r ≡ item_text (Item2.Request v ys) ++ s → (w ≡ v) × (xs ≡ ys) × (r ≡ s)
one_request w v xs ys r s fw fv fx fy e =
    let f : codes "request " ++ (decimal w ++ 32 ∷ (decimal (length xs) ++ 10 ∷ (xs ++ 10 ∷ r))) ≡ codes "request " ++ (decimal v ++ 32 ∷ (decimal (length ys) ++ 10 ∷ (ys ++ 10 ∷ s))) = sym (regroup_request w xs r) ∙ e ∙ regroup_request v ys s in
    let tails : decimal w ++ 32 ∷ (decimal (length xs) ++ 10 ∷ (xs ++ 10 ∷ r)) ≡ decimal v ++ 32 ∷ (decimal (length ys) ++ 10 ∷ (ys ++ 10 ∷ s)) = append_cancel_left (codes "request ") _ _ f in
    let first = number_ends w v 32 _ _ fw fv (omega arith) tails in
    let second = number_ends (length xs) (length ys) 10 _ _ fx fy (omega arith) first.1 in
    let third = fronts_same xs ys (10 ∷ r) (10 ∷ s) second.0 second.1 in
    let rests : 10 ∷ r ≡ 10 ∷ s = third.1 in
    (first.0, third.0, cc)

-- the first and the third letter of an item's word tell which it is
abbrev sort : List ℕ → ℕ
sort text = get_or text 0 0 * 256 + get_or text 2 0

pub one_item : (x y : Item2) (r s : List ℕ) → HasLine x → HasLine y → item_text x ++ r ≡ item_text y ++ s → (x ≡ y) × (r ≡ s)
one_item (Item2.Request w xs) (Item2.Request v ys) r s p q e =
    let same = one_request w v xs ys r s (omega (arith, p.0)) (omega (arith, q.0)) p.1 q.1 e in
    let workers : w ≡ v = same.0 in
    let bodies : xs ≡ ys = same.1 in
    (cc, same.2)
one_item (Item2.Step w) (Item2.Step v) r s p q e =
    let same = one_number w v r s (omega (arith, p)) (omega (arith, q)) (append_cancel_left (codes "step ") _ _ e) in
    (ap (λ n. Item2.Step n) same.0, same.1)
one_item (Item2.Clock t) (Item2.Clock u) r s p q e =
    let same = one_id t u r s p q (append_cancel_left (codes "clock ") _ _ e) in
    (ap (λ n. Item2.Clock n) same.0, same.1)
one_item (Item2.Stop n a) (Item2.Stop m b) r s p q e =
    let same = two_numbers n a m b r s p.1 p.2 q.1 q.2 (append_cancel_left (codes "stop ") _ _ e) in
    let counts : n ≡ m = same.0 in
    let seeds : a ≡ b = same.1 in
    (cc, same.2)
one_item (Item2.Fail n a) (Item2.Fail m b) r s p q e =
    let same = two_numbers n a m b r s p.1 p.2 q.1 q.2 (append_cancel_left (codes "fail ") _ _ e) in
    let counts : n ≡ m = same.0 in
    let seeds : a ≡ b = same.1 in
    (cc, same.2)
one_item (Item2.Pack t) (Item2.Pack u) r s p q e =
    let same = one_id t u r s p q (append_cancel_left (codes "pack ") _ _ e) in
    (ap (λ n. Item2.Pack n) same.0, same.1)
one_item Item2.End y r s p q e = absurd p
one_item x Item2.End r s p q e = absurd q
one_item x y r s p q e = (let differ = ap sort e in absurd (omega (arith, differ)))

-- an item's text is no end of a schedule
pub not_end : (x : Item2) (r s : List ℕ) → HasLine x → item_text x ++ r ≡ item_text Item2.End ++ s → ⊥
not_end Item2.End r s p e = p
not_end x r s p e = (let differ = ap sort e in omega (arith, differ))

one_list : (a b : List Item2) → AllByRecursion HasLine a → AllByRecursion HasLine b → flat_map item_text a ++ item_text Item2.End ≡ flat_map item_text b ++ item_text Item2.End → a ≡ b
one_list [] [] p q e = refl
one_list [] (y ∷ ys) p q e =
    absurd (not_end y (flat_map item_text ys ++ item_text Item2.End) [] q.0 (sym (append_assoc (item_text y) (flat_map item_text ys) (item_text Item2.End)) ∙ sym e))
one_list (x ∷ xs) [] p q e =
    absurd (not_end x (flat_map item_text xs ++ item_text Item2.End) [] p.0 (sym (append_assoc (item_text x) (flat_map item_text xs) (item_text Item2.End)) ∙ e))
one_list (x ∷ xs) (y ∷ ys) p q e =
    let f = sym (append_assoc (item_text x) (flat_map item_text xs) (item_text Item2.End)) ∙ e ∙ append_assoc (item_text y) (flat_map item_text ys) (item_text Item2.End) in
    let both = one_item x y (flat_map item_text xs ++ item_text Item2.End) (flat_map item_text ys ++ item_text Item2.End) p.0 q.0 f in
    let rest = one_list xs ys p.1 q.1 both.1 in
    let first : x ≡ y = both.0 in
    cc

pub one_text : (text : List ℕ) (a b : List Item2) → IsSchedule text a → IsSchedule text b → a ≡ b
one_text text a b p q =
    let e : (first_line ++ flat_map item_text a) ++ item_text Item2.End ≡ (first_line ++ flat_map item_text b) ++ item_text Item2.End = sym p.text ∙ q.text in
    one_list a b p.lines q.lines (append_cancel_left first_line _ _ (sym (append_assoc first_line (flat_map item_text a) (item_text Item2.End)) ∙ e ∙ append_assoc first_line (flat_map item_text b) (item_text Item2.End)))
