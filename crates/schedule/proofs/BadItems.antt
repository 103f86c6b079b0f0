-- What stands in a text behind the word of an item.
use Rattle.std.proofs.Common.{◌≡◌, ◌≢◌, ℕ, ◌<◌, ◌^◌, List, ◌∷◌, ◌++◌, length, get_or, drop, ◌+◌, length-append, append_assoc, sym, ap, ◌∙◌, arith}
use Rattle.std.specs.Prelude.{codes, decimal}
use Rattle.std.proofs.lemmas.List.{append_cancel_left, drop_at}
use Rattle.zbase.specs.Hex.{hex16_text}
use Rattle.schedule.specs.declared.item.Item2.{Item2}
use Rattle.schedule.specs.Items.{item_text, workers}
use Rattle.schedule.specs.BadLines.{BeginsItem}
use Rattle.schedule.proofs.OneSchedule.{number_ends, regroup_request}

pub regroup_step : (w : ℕ) (r : List ℕ) → item_text (Item2.Step w) ++ r ≡ codes "step " ++ (decimal w ++ 10 ∷ r)
regroup_step w r = simp append_assoc

pub regroup_clock : (t : ℕ) (r : List ℕ) → item_text (Item2.Clock t) ++ r ≡ codes "clock " ++ (hex16_text t ++ 10 ∷ r)
regroup_clock t r = simp append_assoc

pub regroup_stop : (n seed : ℕ) (r : List ℕ) → item_text (Item2.Stop n seed) ++ r ≡ codes "stop " ++ (decimal n ++ 32 ∷ (decimal seed ++ 10 ∷ r))
regroup_stop n seed r = simp append_assoc

pub regroup_fail : (n seed : ℕ) (r : List ℕ) → item_text (Item2.Fail n seed) ++ r ≡ codes "fail " ++ (decimal n ++ 32 ∷ (decimal seed ++ 10 ∷ r))
regroup_fail n seed r = simp append_assoc

pub regroup_pack : (t : ℕ) (r : List ℕ) → item_text (Item2.Pack t) ++ r ≡ codes "pack " ++ (hex16_text t ++ 10 ∷ r)
regroup_pack t r = simp append_assoc

-- a count of device calls, a seed and LF
pub record Calls (fields : List ℕ) : Type 0 where
  pub calls : ℕ
  pub seed : ℕ
  pub more : List ℕ
  pub some : 0 < calls
  pub calls_small : calls < 2 ^ 64
  pub seed_small : seed < 2 ^ 64
  pub text : fields ≡ decimal calls ++ 32 ∷ (decimal seed ++ 10 ∷ more)

-- a request begins there: its worker, its length, its bytes and LF
pub a_request : (fields : List ℕ) → BeginsItem (codes "request " ++ fields) → (w : ℕ) × (bytes : List ℕ) × (more : List ℕ) × (w < workers) × (length bytes < 2 ^ 64) × (fields ≡ decimal w ++ 32 ∷ (decimal (length bytes) ++ 10 ∷ (bytes ++ 10 ∷ more)))
a_request fields (Item2.Request w bytes, more, line, text) = (w, bytes, more, line.0, line.1, append_cancel_left (codes "request ") _ _ (text ∙ regroup_request w bytes more))
a_request fields (Item2.Step w, more, line, text) = (let differ = ap (λ bytes. get_or bytes 0 0) text in absurd (omega (arith, differ)))
a_request fields (Item2.Clock t, more, line, text) = (let differ = ap (λ bytes. get_or bytes 0 0) text in absurd (omega (arith, differ)))
a_request fields (Item2.Stop n seed, more, line, text) = (let differ = ap (λ bytes. get_or bytes 0 0) text in absurd (omega (arith, differ)))
a_request fields (Item2.Fail n seed, more, line, text) = (let differ = ap (λ bytes. get_or bytes 0 0) text in absurd (omega (arith, differ)))
a_request fields (Item2.Pack t, more, line, text) = (let differ = ap (λ bytes. get_or bytes 0 0) text in absurd (omega (arith, differ)))
a_request fields (Item2.End, more, line, text) = absurd line

-- a step begins there: its worker and LF
pub a_step : (fields : List ℕ) → BeginsItem (codes "step " ++ fields) → (w : ℕ) × (more : List ℕ) × (w < workers) × (fields ≡ decimal w ++ 10 ∷ more)
a_step fields (Item2.Request w bytes, more, line, text) = (let differ = ap (λ bytes. get_or bytes 0 0) text in absurd (omega (arith, differ)))
a_step fields (Item2.Step w, more, line, text) = (w, more, line, append_cancel_left (codes "step ") _ _ (text ∙ regroup_step w more))
a_step fields (Item2.Clock t, more, line, text) = (let differ = ap (λ bytes. get_or bytes 0 0) text in absurd (omega (arith, differ)))
a_step fields (Item2.Stop n seed, more, line, text) = (let differ = ap (λ bytes. get_or bytes 2 0) text in absurd (omega (arith, differ)))
a_step fields (Item2.Fail n seed, more, line, text) = (let differ = ap (λ bytes. get_or bytes 0 0) text in absurd (omega (arith, differ)))
a_step fields (Item2.Pack t, more, line, text) = (let differ = ap (λ bytes. get_or bytes 0 0) text in absurd (omega (arith, differ)))
a_step fields (Item2.End, more, line, text) = absurd line

-- a clock begins there: its stamp and LF
pub a_clock : (fields : List ℕ) → BeginsItem (codes "clock " ++ fields) → (t : ℕ) × (more : List ℕ) × (t < 2 ^ 64) × (fields ≡ hex16_text t ++ 10 ∷ more)
a_clock fields (Item2.Request w bytes, more, line, text) = (let differ = ap (λ bytes. get_or bytes 0 0) text in absurd (omega (arith, differ)))
a_clock fields (Item2.Step w, more, line, text) = (let differ = ap (λ bytes. get_or bytes 0 0) text in absurd (omega (arith, differ)))
a_clock fields (Item2.Clock t, more, line, text) = (t, more, line, append_cancel_left (codes "clock ") _ _ (text ∙ regroup_clock t more))
a_clock fields (Item2.Stop n seed, more, line, text) = (let differ = ap (λ bytes. get_or bytes 0 0) text in absurd (omega (arith, differ)))
a_clock fields (Item2.Fail n seed, more, line, text) = (let differ = ap (λ bytes. get_or bytes 0 0) text in absurd (omega (arith, differ)))
a_clock fields (Item2.Pack t, more, line, text) = (let differ = ap (λ bytes. get_or bytes 0 0) text in absurd (omega (arith, differ)))
a_clock fields (Item2.End, more, line, text) = absurd line

-- a stop begins there: its count of calls, its seed and LF
pub a_stop : (fields : List ℕ) → BeginsItem (codes "stop " ++ fields) → Calls fields
a_stop fields (Item2.Request w bytes, more, line, text) = (let differ = ap (λ bytes. get_or bytes 0 0) text in absurd (omega (arith, differ)))
a_stop fields (Item2.Step w, more, line, text) = (let differ = ap (λ bytes. get_or bytes 2 0) text in absurd (omega (arith, differ)))
a_stop fields (Item2.Clock t, more, line, text) = (let differ = ap (λ bytes. get_or bytes 0 0) text in absurd (omega (arith, differ)))
a_stop fields (Item2.Stop n seed, more, line, text) = record { calls = n; seed = seed; more = more; some = line.0; calls_small = line.1; seed_small = line.2; text = append_cancel_left (codes "stop ") _ _ (text ∙ regroup_stop n seed more) }
a_stop fields (Item2.Fail n seed, more, line, text) = (let differ = ap (λ bytes. get_or bytes 0 0) text in absurd (omega (arith, differ)))
a_stop fields (Item2.Pack t, more, line, text) = (let differ = ap (λ bytes. get_or bytes 0 0) text in absurd (omega (arith, differ)))
a_stop fields (Item2.End, more, line, text) = absurd line

-- a failure begins there: its count of calls, its seed and LF
pub a_fail : (fields : List ℕ) → BeginsItem (codes "fail " ++ fields) → Calls fields
a_fail fields (Item2.Request w bytes, more, line, text) = (let differ = ap (λ bytes. get_or bytes 0 0) text in absurd (omega (arith, differ)))
a_fail fields (Item2.Step w, more, line, text) = (let differ = ap (λ bytes. get_or bytes 0 0) text in absurd (omega (arith, differ)))
a_fail fields (Item2.Clock t, more, line, text) = (let differ = ap (λ bytes. get_or bytes 0 0) text in absurd (omega (arith, differ)))
a_fail fields (Item2.Stop n seed, more, line, text) = (let differ = ap (λ bytes. get_or bytes 0 0) text in absurd (omega (arith, differ)))
a_fail fields (Item2.Fail n seed, more, line, text) = record { calls = n; seed = seed; more = more; some = line.0; calls_small = line.1; seed_small = line.2; text = append_cancel_left (codes "fail ") _ _ (text ∙ regroup_fail n seed more) }
a_fail fields (Item2.Pack t, more, line, text) = (let differ = ap (λ bytes. get_or bytes 0 0) text in absurd (omega (arith, differ)))
a_fail fields (Item2.End, more, line, text) = absurd line

-- a pack begins there: its id and LF
pub a_pack : (fields : List ℕ) → BeginsItem (codes "pack " ++ fields) → (t : ℕ) × (more : List ℕ) × (t < 2 ^ 64) × (fields ≡ hex16_text t ++ 10 ∷ more)
a_pack fields (Item2.Request w bytes, more, line, text) = (let differ = ap (λ bytes. get_or bytes 0 0) text in absurd (omega (arith, differ)))
a_pack fields (Item2.Step w, more, line, text) = (let differ = ap (λ bytes. get_or bytes 0 0) text in absurd (omega (arith, differ)))
a_pack fields (Item2.Clock t, more, line, text) = (let differ = ap (λ bytes. get_or bytes 0 0) text in absurd (omega (arith, differ)))
a_pack fields (Item2.Stop n seed, more, line, text) = (let differ = ap (λ bytes. get_or bytes 0 0) text in absurd (omega (arith, differ)))
a_pack fields (Item2.Fail n seed, more, line, text) = (let differ = ap (λ bytes. get_or bytes 0 0) text in absurd (omega (arith, differ)))
a_pack fields (Item2.Pack t, more, line, text) = (t, more, line, append_cancel_left (codes "pack ") _ _ (text ∙ regroup_pack t more))
a_pack fields (Item2.End, more, line, text) = absurd line

-- the text doesn't begin with the front
abbrev pub LacksFront : List ℕ → List ℕ → Type 0
LacksFront front text = (fields : List ℕ) → text ≢ front ++ fields

-- no item begins without one of the six words
pub no_word : (text : List ℕ) → LacksFront (codes "request ") text → LacksFront (codes "step ") text → LacksFront (codes "clock ") text → LacksFront (codes "stop ") text → LacksFront (codes "fail ") text → LacksFront (codes "pack ") text → BeginsItem text → ⊥
no_word text r s c h f k (Item2.Request w bytes, more, line, e) = r _ (e ∙ regroup_request w bytes more)
no_word text r s c h f k (Item2.Step w, more, line, e) = s _ (e ∙ regroup_step w more)
no_word text r s c h f k (Item2.Clock t, more, line, e) = c _ (e ∙ regroup_clock t more)
no_word text r s c h f k (Item2.Stop n seed, more, line, e) = h _ (e ∙ regroup_stop n seed more)
no_word text r s c h f k (Item2.Fail n seed, more, line, e) = f _ (e ∙ regroup_fail n seed more)
no_word text r s c h f k (Item2.Pack t, more, line, e) = k _ (e ∙ regroup_pack t more)
no_word text r s c h f k (Item2.End, more, line, e) = line

-- what follows the worker of a request
pub behind_worker : (fields rest : List ℕ) (w : ℕ) → w < workers → fields ≡ decimal w ++ 32 ∷ rest → BeginsItem (codes "request " ++ fields) → (bytes : List ℕ) × (more : List ℕ) × (length bytes < 2 ^ 64) × (rest ≡ decimal (length bytes) ++ 10 ∷ (bytes ++ 10 ∷ more))
behind_worker fields rest w below e begins =
    let parts = a_request fields begins in
    let bytes = parts.1 in
    let more = parts.2 in
    let same = number_ends w parts.0 32 rest (decimal (length bytes) ++ 10 ∷ (bytes ++ 10 ∷ more)) (omega (arith, below)) (omega (arith, parts.3)) (omega arith) (sym e ∙ parts.5) in
    (bytes, more, parts.4, same.1)

-- what follows its length: the bytes and LF
pub behind_length : (fields rest : List ℕ) (w len : ℕ) (others : List ℕ) → w < workers → fields ≡ decimal w ++ 32 ∷ rest → len < 2 ^ 64 → rest ≡ decimal len ++ 10 ∷ others → BeginsItem (codes "request " ++ fields) → (more : List ℕ) × (len < length others) × (drop len others ≡ 10 ∷ more)
behind_length fields rest w len others below e small f begins =
    let parts = behind_worker fields rest w below e begins in
    let bytes = parts.0 in
    let more = parts.1 in
    let same = number_ends len (length bytes) 10 others (bytes ++ 10 ∷ more) small parts.2 (omega arith) (sym f ∙ parts.3) in
    let others_are : others ≡ bytes ++ 10 ∷ more = same.1 in
    let lengths : length others ≡ length bytes + length (10 ∷ more) = ap length others_are ∙ length-append bytes (10 ∷ more) in
    let count : len ≡ length bytes = same.0 in
    (more, omega (arith, lengths, count), ap (λ xs. drop len xs) others_are ∙ drop_at bytes (10 ∷ more) len (sym count))
