-- The text of a request of cells reads back to it, and no other text reads to it.
use denote.Ref.{Bor}
use Rattle.std.proofs.Common.{◌≡◌, ◌∙◌, ℕ, zero, suc, ◌+◌, ◌-◌, ◌*◌, ◌/◌, ◌%◌, ◌^◌, ◌<◌, ◌≤◌, ◌==◌, ◌&&◌, Bool, true, false, cond, List, [], ◌∷◌, ◌++◌, length, take, drop, Option, Some, None, option_map, refl, sym, ap, subst, arith, eqb-true, eq-eqb, append_assoc, append-nil, add-one, nat_le, codes}
use Rattle.std.specs.Prelude.{option_and_then, MatchOption, ◌≢◌}
use Rattle.std.specs.Option.{option_or}
use Rattle.std.proofs.Math.Nat.{mul-le-mul_left}
use Rattle.std.proofs.lemmas.Bool.Decides.{nat_tests}
use Rattle.std.proofs.lemmas.Grind.{pow_more}
use Rattle.std.proofs.lemmas.List.{take_all, take_at, drop_at, take-append-drop}
use Rattle.zbase.specs.Hex.{hex_digit, hex_digits, hex16_text}
use Rattle.zbase.specs.HexLaws.{length-hex_digits, length-hex16_text}
use Rattle.evaluator.specs.declared.cells.CellRequest.{CellRequest}
use Rattle.evaluator.specs.Cells.{behind, digit, read_digits, read_hex16, id_behind, copy_of, copy_in, log_at, takes_cell, cell_text, HasIds}

-- ---- fronts

pub behind_front : (front rest : List ℕ) → behind front (front ++ rest) ≡ Some rest
behind_front [] rest = refl
behind_front (f ∷ fs) rest = rw (eq-eqb f f refl) (behind_front fs rest)

pub front_of : (front bs rest : List ℕ) → behind front bs ≡ Some rest → bs ≡ front ++ rest
front_of [] bs rest e = cc
front_of (f ∷ fs) [] rest e = cc
front_of (f ∷ fs) (b ∷ bs) rest e = go (f == b) refl e (front_of fs bs rest)
  where
    go : (t : Bool) → (f == b) ≡ t → cond t (behind fs bs) None ≡ Some rest → (behind fs bs ≡ Some rest → bs ≡ fs ++ rest) → b ∷ bs ≡ (f ∷ fs) ++ rest
    go true same e' deeper = (let first : f ≡ b = eqb-true f b same in let others = deeper e' in cc)
    go false other e' deeper = cc

-- ---- digits

digit_reads : (d : ℕ) → d < 16 → digit (hex_digit d) ≡ Some d
digit_reads d h = grind (arith, nat_tests)

-- what a byte is as a digit
record IsDigit (b d : ℕ) : Type 0 where
  below : d < 16
  is : hex_digit d ≡ b

some_same : {X : Type 0} {x y : X} → Some x ≡ Some y → x ≡ y
some_same e = cc

digit_prints : (b d : ℕ) → digit b ≡ Some d → IsDigit b d
digit_prints b d e = low (nat_le 48 b && nat_le b 57) refl e
  where
    high : (t : Bool) → (nat_le 97 b && nat_le b 102) ≡ t → cond t (Some (b - 87)) None ≡ Some d → IsDigit b d
    high true is e' = (let n : b - 87 ≡ d = some_same e' in record { below = grind (arith, nat_tests); is = grind (arith, nat_tests) })
    high false is e' = cc

    low : (t : Bool) → (nat_le 48 b && nat_le b 57) ≡ t → cond t (Some (b - 48)) (cond (nat_le 97 b && nat_le b 102) (Some (b - 87)) None) ≡ Some d → IsDigit b d
    low true is e' = (let n : b - 48 ≡ d = some_same e' in record { below = grind (arith, nat_tests); is = grind (arith, nat_tests) })
    low false is e' = high (nat_le 97 b && nat_le b 102) refl e'

-- ---- numbers

below : (k n : ℕ) → n < 16 ^ suc k → n / 16 < 16 ^ k
below k n h = (let p : 16 ^ suc k ≡ 16 ^ k * 16 = ap (λ j. 16 ^ j) (sym (add-one k)) ∙ pow_more 16 k in omega (arith, h, p))

reads_on : (k n a : ℕ) (rest : List ℕ) → n < 16 ^ k → read_digits (Some a) (hex_digits k n ++ rest) ≡ read_digits (Some (a * 16 ^ k + n)) rest
unfolding hex_digits
reads_on zero n a rest h = (let same : a ≡ a * 16 ^ 0 + n = omega (arith, h) in ap (λ m. read_digits (Some m) rest) same)
reads_on (suc k) n a rest h =
    let p : 16 ^ suc k ≡ 16 ^ k * 16 = ap (λ j. 16 ^ j) (sym (add-one k)) ∙ pow_more 16 k in
    let sum : 16 * (a * 16 ^ k + n / 16) + n % 16 ≡ a * 16 ^ suc k + n = rw p (omega arith) in
    ap (λ bs. read_digits (Some a) bs) (append_assoc (hex_digits k (n / 16)) (hex_digit (n % 16) ∷ []) rest)
    ∙ reads_on k (n / 16) a (hex_digit (n % 16) ∷ rest) (below k n h)
    ∙ ap (λ o. read_digits (option_map (λ d. 16 * (a * 16 ^ k + n / 16) + d) o) rest) (digit_reads (n % 16) (omega arith))
    ∙ ap (λ m. read_digits (Some m) rest) sum

pub id_reads : (n : ℕ) → n < 2 ^ 64 → read_hex16 (hex16_text n) ≡ Some n
unfolding hex16_text
id_reads n h =
    let all : read_digits (Some 0) (hex_digits 16 n ++ []) ≡ Some n = reads_on 16 n 0 [] (omega arith) ∙ ap (λ m. read_digits (Some m) []) (omega arith) in
    rw (length-hex_digits 16 n) (rw append-nil at all)

hex_digits-more : (k n d : ℕ) → d < 16 → hex_digits (suc k) (16 * n + d) ≡ hex_digits k n ++ hex_digit d ∷ []
unfolding hex_digits
hex_digits-more k n d h =
    let q : (16 * n + d) / 16 ≡ n = omega arith in
    let r : (16 * n + d) % 16 ≡ d = omega arith in
    rw (q, r) refl

hex_digits-none : (n : ℕ) → hex_digits 0 n ≡ []
unfolding hex_digits
hex_digits-none n = refl

-- a number that was read behind k digits of another one
record IsRead (bs : List ℕ) (k a n : ℕ) : Type 0 where
  digits : hex_digits (k + length bs) n ≡ hex_digits k a ++ bs
  small : n < (a + 1) * 16 ^ length bs

prints_back : (bs : List ℕ) (k a n : ℕ) → read_digits (Some a) bs ≡ Some n → IsRead bs k a n
prints_back [] k a n e =
    let same : a ≡ n = some_same e in
    record {
      digits = rw (append-nil, same) (ap (λ j. hex_digits j n) (omega arith));
      small = omega (arith, same);
    }
prints_back (b ∷ bs) k a n e = go (digit b) refl e (λ d. prints_back bs (suc k) (16 * a + d) n)
  where
    go : (o : Option ℕ) → digit b ≡ o → read_digits (option_map (λ d. 16 * a + d) o) bs ≡ Some n → ((d : ℕ) → read_digits (Some (16 * a + d)) bs ≡ Some n → IsRead bs (suc k) (16 * a + d) n) → IsRead (b ∷ bs) k a n
    go None is e' deeper = cc
    go (Some d) is e' deeper =
        let one = digit_prints b d is in
        let others = deeper d e' in
        let p : 16 ^ suc (length bs) ≡ 16 ^ length bs * 16 = ap (λ j. 16 ^ j) (sym (add-one (length bs))) ∙ pow_more 16 (length bs) in
        let place : k + length (b ∷ bs) ≡ suc k + length bs = omega arith in
        record {
          digits = ap (λ j. hex_digits j n) place ∙ others.digits ∙ ap (λ front. front ++ bs) (hex_digits-more k a d one.below)
              ∙ ap (λ c. (hex_digits k a ++ c ∷ []) ++ bs) one.is ∙ append_assoc (hex_digits k a) (b ∷ []) bs;
          small = (let up : 16 ^ length bs * (16 * a + d + 1) ≤ 16 ^ length bs * (16 * (a + 1)) = mul-le-mul_left (16 ^ length bs) (let low = one.below in omega arith) in rw p (omega (arith, others.small, up)));
        }

-- the digits of an id, and nothing else
pub record IsIdText (bs : List ℕ) (n : ℕ) : Type 0 where
  pub is : bs ≡ hex16_text n
  pub small : n < 2 ^ 64

pub id_prints : (bs : List ℕ) (n : ℕ) → read_hex16 bs ≡ Some n → IsIdText bs n
unfolding hex16_text
id_prints bs n e = go (length bs == 16) refl e
  where
    go : (t : Bool) → (length bs == 16) ≡ t → cond t (read_digits (Some 0) bs) None ≡ Some n → IsIdText bs n
    go false is e' = cc
    go true is e' =
        let len : length bs ≡ 16 = eqb-true (length bs) 16 is in
        let read = prints_back bs 0 0 n e' in
        record {
          is = sym (sym (ap (λ j. hex_digits j n) (omega (arith, len))) ∙ read.digits ∙ ap (λ front. front ++ bs) (hex_digits-none 0));
          small = (let s = read.small in rw len at s);
        }

-- ---- requests

pub text_reads : (q : CellRequest) → HasIds q → takes_cell (cell_text q) ≡ Some q
text_reads (CellRequest.Read a) h = rw (id_reads a h) refl
text_reads (CellRequest.Copy a b) h =
    rw (take_at (hex16_text a) (32 ∷ hex16_text b) 16 (length-hex16_text a), drop_at (hex16_text a) (32 ∷ hex16_text b) 16 (length-hex16_text a), id_reads a h.0, id_reads b h.1) refl
text_reads (CellRequest.New a) h = rw (id_reads a h) refl
text_reads CellRequest.Log h = refl
text_reads (CellRequest.Part t) h = rw (id_reads t h) refl

-- these bytes are the text of the request
pub record IsTextOf (bs : List ℕ) (q : CellRequest) : Type 0 where
  pub is : bs ≡ cell_text q
  pub ids : HasIds q

id_after : (front bs : List ℕ) (a : ℕ) → id_behind front bs ≡ Some a → (rest : List ℕ) × (bs ≡ front ++ rest) × IsIdText rest a
id_after front bs a e = go (behind front bs) refl e
  where
    go : (o : Option (List ℕ)) → behind front bs ≡ o → option_and_then read_hex16 o ≡ Some a → (rest : List ℕ) × (bs ≡ front ++ rest) × IsIdText rest a
    go None is e' = cc
    go (Some rest) is e' = (rest, front_of front bs rest is, id_prints rest a e')

-- the text of a request with one id
of_one : (made : ℕ → CellRequest) (front bs : List ℕ) (q : CellRequest) → ((n : ℕ) → cell_text (made n) ≡ front ++ hex16_text n) → ((n : ℕ) → n < 2 ^ 64 → HasIds (made n)) → option_map made (id_behind front bs) ≡ Some q → IsTextOf bs q
of_one made front bs q text ids e = go (id_behind front bs) refl e
  where
    go : (o : Option ℕ) → id_behind front bs ≡ o → option_map made o ≡ Some q → IsTextOf bs q
    go None is e' = cc
    go (Some n) is e' =
        let same : made n ≡ q = some_same e' in
        let found = id_after front bs n is in
        record {
          is = found.1 ∙ ap (λ rest. front ++ rest) found.2.is ∙ sym (text n) ∙ ap cell_text same;
          ids = subst HasIds same (ids n found.2.small);
        }

of_copy : (bs rest : List ℕ) (q : CellRequest) → bs ≡ codes "copy " ++ rest → copy_in rest ≡ Some q → IsTextOf bs q
of_copy bs rest q front e = go (read_hex16 (take 16 rest)) (id_behind (32 ∷ []) (drop 16 rest)) refl refl e
  where
    go : (a b : Option ℕ) → read_hex16 (take 16 rest) ≡ a → id_behind (32 ∷ []) (drop 16 rest) ≡ b → copy_of a b ≡ Some q → IsTextOf bs q
    go None b is-a is-b e' = cc
    go (Some a) None is-a is-b e' = cc
    go (Some a) (Some b) is-a is-b e' =
        let same : CellRequest.Copy a b ≡ q = some_same e' in
        let first = id_prints (take 16 rest) a is-a in
        let second = id_after (32 ∷ []) (drop 16 rest) b is-b in
        let parts : rest ≡ hex16_text a ++ 32 ∷ hex16_text b = sym (take-append-drop 16 rest) ∙ ap (λ t. t ++ drop 16 rest) first.is ∙ ap (λ t. hex16_text a ++ t) (second.1 ∙ ap (λ t. 32 ∷ t) second.2.is) in
        record {
          is = front ∙ ap (λ t. codes "copy " ++ t) parts ∙ ap cell_text same;
          ids = subst HasIds same (first.small, second.2.small);
        }

of_log : (bs rest : List ℕ) (q : CellRequest) → bs ≡ codes "log" ++ rest → log_at rest ≡ Some q → IsTextOf bs q
of_log bs [] q front e = (let same : CellRequest.Log ≡ q = some_same e in record { is = front ∙ ap cell_text same; ids = subst HasIds same tt })
of_log bs (b ∷ rest) q front e = cc

behind_then : (front bs : List ℕ) (next : List ℕ → Option CellRequest) (q : CellRequest) → ((rest : List ℕ) → bs ≡ front ++ rest → next rest ≡ Some q → IsTextOf bs q) → option_and_then next (behind front bs) ≡ Some q → IsTextOf bs q
behind_then front bs next q of e = go (behind front bs) refl e
  where
    go : (o : Option (List ℕ)) → behind front bs ≡ o → option_and_then next o ≡ Some q → IsTextOf bs q
    go None is e' = cc
    go (Some rest) is e' = of rest (front_of front bs rest is) e'

either : (a b : Option CellRequest) (q : CellRequest) (P : Type 0) → (a ≡ Some q → P) → (b ≡ Some q → P) → option_or a b ≡ Some q → P
either None b q P first second e = second e
either (Some r) b q P first second e = first e

pub read_is_text : (bs : List ℕ) (q : CellRequest) → takes_cell bs ≡ Some q → IsTextOf bs q
read_is_text bs q e =
    either _ _ q (IsTextOf bs q) (of_one CellRequest.Read (codes "read ") bs q (λ n. refl) (λ n h. h))
    (either _ _ q (IsTextOf bs q) (behind_then (codes "copy ") bs copy_in q (λ rest. of_copy bs rest q))
    (either _ _ q (IsTextOf bs q) (of_one CellRequest.New (codes "new ") bs q (λ n. refl) (λ n h. h))
    (either _ _ q (IsTextOf bs q) (of_one CellRequest.Part (codes "part ") bs q (λ n. refl) (λ n h. h))
    (behind_then (codes "log") bs log_at q (λ rest. of_log bs rest q))))) e

-- ---- what the code finds

pub behind_is : (front bs : List ℕ) (o : Option (Bor (List ℕ))) → MatchOption o ((rest : List ℕ) → bs ≢ front ++ rest) (λ rest. bs ≡ front ++ rest.now) → option_map (λ rest. rest.now) o ≡ behind front bs
behind_is front bs None never = go (behind front bs) refl
  where
    go : (o : Option (List ℕ)) → behind front bs ≡ o → None ≡ o
    go None is = refl
    go (Some rest) is = absurd (never rest (front_of front bs rest is))
behind_is front bs (Some x) is = sym (ap (behind front) is ∙ behind_front front x.now)

pub id_is : (bs : List ℕ) (n : ℕ) → hex16_text n ≡ bs → n < 2 ^ 64 → Some n ≡ read_hex16 bs
id_is bs n is small = sym (ap read_hex16 (sym is) ∙ id_reads n small)

pub no_id : (bs : List ℕ) → ((n : ℕ) → hex16_text n ≡ bs → ⊥) → None ≡ read_hex16 bs
no_id bs none = go (read_hex16 bs) refl
  where
    go : (o : Option ℕ) → read_hex16 bs ≡ o → None ≡ o
    go None is = refl
    go (Some n) is = absurd (none n (sym (id_prints bs n is).is))

-- too short for an id
pub short_copy : (ids : List ℕ) → length ids < 16 → None ≡ copy_in ids
short_copy ids h =
    let whole : take 16 ids ≡ ids = take_all 16 ids (omega arith) in
    let short : (length ids == 16) ≡ false = grind (arith, nat_tests) in
    rw (whole, short) refl

or_none : (o : Option CellRequest) → o ≡ option_or o None
or_none None = refl
or_none (Some q) = refl

-- what begins as a copy is no other request
pub copy_reads : (bs ids : List ℕ) → Some ids ≡ behind (codes "copy ") bs → copy_in ids ≡ takes_cell bs
copy_reads bs ids e = subst (λ t. copy_in ids ≡ takes_cell t) (sym (front_of (codes "copy ") bs ids (sym e))) (or_none (copy_in ids))
