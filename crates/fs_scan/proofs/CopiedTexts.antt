-- Texts that stand behind a transaction's head.
use Rattle.std.proofs.Common.{◌≡◌, ℕ, ◌+◌, List, take, drop, sym, ap, ◌∙◌}
use Rattle.std.proofs.lemmas.List.{drop-drop}
use Rattle.fs_record.specs.declared.heads.TxnHead.{TxnHead}
use Rattle.fs_record.specs.declared.body.TxnTexts.{TxnTexts}
use Rattle.fs_record.specs.Reading.{texts_read}

made_texts : List ℕ → List ℕ → List ℕ → TxnTexts
made_texts u d x = record { user = u; description = d; extension = x }

same_texts : (u u' d d' x x' : List ℕ) → u ≡ u' → d ≡ d' → x ≡ x' → made_texts u d x ≡ made_texts u' d' x'
same_texts u u' d d' x x' a b c = cc

texts_made : (u d x : List ℕ) (t : TxnTexts) → u ≡ t.user → d ≡ t.description → x ≡ t.extension → made_texts u d x ≡ t
unfolding made_texts
texts_made u d x t a b c = same_texts u t.user d t.description x t.extension a b c

taken_at : (k n a m : ℕ) (rest : List ℕ) → k ≡ n → a ≡ 23 + m → take k (drop a rest) ≡ take n (drop m (drop 23 rest))
taken_at k n a m rest e f = rw (e, f) (ap (take n) (sym (drop-drop m 23 rest)))

pub texts_are : (rest : List ℕ) (h : TxnHead) (k1 k2 k3 a2 a3 : ℕ) (u d x : List ℕ) → k1 ≡ h.user → k2 ≡ h.description → k3 ≡ h.extension → a2 ≡ 23 + h.user → a3 ≡ 23 + (h.user + h.description)
    → u ≡ take k1 (drop 23 rest) → d ≡ take k2 (drop a2 rest) → x ≡ take k3 (drop a3 rest) → record { user = u; description = d; extension = x } ≡ texts_read h (drop 23 rest)
unfolding made_texts
texts_are rest h k1 k2 k3 a2 a3 u d x e1 e2 e3 f2 f3 p q r =
    texts_made u d x (texts_read h (drop 23 rest)) (p ∙ ap (λ (n : ℕ). take n (drop 23 rest)) e1) (q ∙ taken_at k2 h.description a2 h.user rest e2 f2) (r ∙ taken_at k3 h.extension a3 (h.user + h.description) rest e3 f3)
