-- A walk over the heads of a store's file: the transactions so far.
use Rattle.std.proofs.Common.{◌≡◌, ℕ, ◌+◌, ◌*◌, ◌<◌, ◌≤◌, ◌^◌, ◌==◌, Bool, true, false, cond, List, [], ◌∷◌, ◌++◌, map, filter, length, drop, Option, Some, None, refl, sym, ap, ap₂, subst, ◌∙◌, append_assoc, append-nil, arith, inl, inr}
use Rattle.std.specs.Prelude.{◌⊎◌, ◌&&◌, nat_le, nat_lt}
use Rattle.std.proofs.lemmas.Bool.{false≢true}
use Rattle.std.proofs.lemmas.List.{drop_at, length-append, length-take, map-append, take-append-drop}
use Rattle.std.proofs.lemmas.List.Elements.{filter-append}
use Rattle.zbase.specs.History.{Transaction}
use Rattle.zbase.specs.Values.{upto}
use Rattle.zdisk.specs.Disk.{Told, content}
use Rattle.evaluator.specs.Facts.{log_row, unpacked}
use Rattle.evaluator.specs.declared.fact.LogRow.{LogRow}
use Rattle.fs_record.specs.declared.body.TxnTexts.{TxnTexts}
use Rattle.fs_record.specs.declared.heads.TxnHead.{TxnHead}
use Rattle.fs_record.specs.File.{AreRight, Front, after_in, bytes_of, front_of, rows, transaction_of}
use Rattle.fs_record.specs.Fits.{FitsInside}
use Rattle.fs_record.specs.Opening.{Stands}
use Rattle.fs_record.specs.Spelling.{Block, Data, Inside, Records, Skipped, block_spelling, long_of, txn_head_of}
use Rattle.fs_record.specs.SpellingLaws.{length-block}
use Rattle.fs_record.specs.StandingLaws.{each_stands}
use Rattle.fs_scan.specs.Present.{AllStand}
use Rattle.fs_store.specs.declared.file.OpenFile.{OpenFile}
use Rattle.fs_store.specs.Fronts.{file_at, history_at}
use Rattle.fs_store.specs.Knowing.{Knows}
use Rattle.fs_store.specs.Parts.{CostsLog, behind, is_logged, row_of}

-- ---- the first of a file's blocks, which stand newest first

pub right_part : (xs ys : List Block) → AreRight (xs ++ ys) → AreRight ys
right_part [] ys right = right
right_part (x ∷ xs) ys right = right_part xs ys right.1

pub bytes_part : (xs ys : List Block) → (z : List ℕ) × (bytes_of (xs ++ ys) ≡ bytes_of ys ++ z)
bytes_part [] ys = ([], sym (append-nil (bytes_of ys)))
bytes_part (x ∷ xs) ys = let r = bytes_part xs ys in (r.0 ++ block_spelling x, ap (λ (z : List ℕ). z ++ block_spelling x) r.1 ∙ append_assoc (bytes_of ys) r.0 (block_spelling x))

grows : (front : Front) (b : Block) (i : Inside) → (z : List Transaction) × ((after_in front b i).history.transactions ≡ front.history.transactions ++ z)
unfolding after_in
grows front b (Skipped bytes) = ([], sym (append-nil front.history.transactions))
grows front b (Records ds) = (transaction_of front.records b ds ∷ [], refl)

said_part : (xs ys : List Block) → (z : List Transaction) × ((front_of (xs ++ ys)).history.transactions ≡ (front_of ys).history.transactions ++ z)
said_part [] ys = ([], sym (append-nil (front_of ys).history.transactions))
said_part (x ∷ xs) ys =
    let r = said_part xs ys in
    let g = grows (front_of (xs ++ ys)) x x.inside in
    (r.0 ++ g.0, g.1 ∙ ap (λ (z : List Transaction). z ++ g.0) r.1 ∙ append_assoc (front_of ys).history.transactions r.0 g.0)

last_of : (xs : List Block) → (xs ≡ []) ⊎ ((ys : List Block) × (y : Block) × (xs ≡ ys ++ y ∷ []))
last_of [] = inl refl
last_of (x ∷ xs) =
    elim (last_of xs) [
      | inl e ↦ inr ([], x, ap (λ (z : List Block). x ∷ z) e)
      | inr s ↦ inr (x ∷ s.0, s.1, ap (λ (z : List Block). x ∷ z) s.2)
    ]

-- ---- how far a walk has come

-- the blocks before the place say these transactions
pub record WalkedTo (told : Told) (known : OpenFile) (place : ℕ) (ts : List Transaction) : Type 0 where
  pub knows : Knows told known
  pub later : List Block
  pub gone : List Block
  pub all : knows.file.blocks ≡ later ++ gone
  pub place_is : place ≡ length (bytes_of gone)
  pub said : (front_of gone).history.transactions ≡ ts

pub walked_none : (told : Told) (known : OpenFile) → Knows told known → WalkedTo told known 4 []
walked_none told known k = record { knows = k; later = k.file.blocks; gone = []; all = sym (append-nil k.file.blocks); place_is = refl; said = refl }

-- this block stands next
pub record NextIs (told : Told) (known : OpenFile) (place : ℕ) (ts : List Transaction) (later : List Block) (b : Block) : Type 0 where
  pub knows : Knows told known
  pub gone : List Block
  pub all : knows.file.blocks ≡ later ++ b ∷ gone
  pub place_is : place ≡ length (bytes_of gone)
  pub said : (front_of gone).history.transactions ≡ ts

pub long_file : (told : Told) (known : OpenFile) → Knows told known → length (file_at told known.end) ≡ known.end
long_file told known k = omega (arith, length-take known.end (content told), k.within)

next_by : (told : Told) (known : OpenFile) (place : ℕ) (ts : List Transaction) (w : WalkedTo told known place ts) → place < known.end → (w.later ≡ []) ⊎ ((ys : List Block) × (y : Block) × (w.later ≡ ys ++ y ∷ [])) → (later : List Block) × (b : Block) × NextIs told known place ts later b
next_by told known place ts w lt (inl none) =
    let gone : w.knows.file.blocks ≡ w.gone = w.all ∙ ap (λ (z : List Block). z ++ w.gone) none in
    absurd (omega (arith, lt, w.place_is, long_file told known w.knows, ap length w.knows.file.spelled, ap (λ (z : List Block). length (bytes_of z)) gone))
next_by told known place ts w lt (inr s) = (
  s.0,
  s.1,
  record {
    knows = w.knows;
    gone = w.gone;
    all = w.all ∙ ap (λ (z : List Block). z ++ w.gone) s.2 ∙ append_assoc s.0 (s.1 ∷ []) w.gone;
    place_is = w.place_is;
    said = w.said;
  },
)

next_gone : (told : Told) (known : OpenFile) (place : ℕ) (ts : List Transaction) (w : WalkedTo told known place ts) (lt : place < known.end) (s : (w.later ≡ []) ⊎ ((ys : List Block) × (y : Block) × (w.later ≡ ys ++ y ∷ []))) → (next_by told known place ts w lt s).2.gone ≡ w.gone
unfolding next_by
next_gone told known place ts w lt (inl none) =
    let gone : w.knows.file.blocks ≡ w.gone = w.all ∙ ap (λ (z : List Block). z ++ w.gone) none in
    absurd (omega (arith, lt, w.place_is, long_file told known w.knows, ap length w.knows.file.spelled, ap (λ (z : List Block). length (bytes_of z)) gone))
next_gone told known place ts w lt (inr s) = refl

next_is : (told : Told) (known : OpenFile) (place : ℕ) (ts : List Transaction) → WalkedTo told known place ts → place < known.end → (later : List Block) × (b : Block) × NextIs told known place ts later b
next_is told known place ts w lt = next_by told known place ts w lt (last_of w.later)

next_is_gone : (told : Told) (known : OpenFile) (place : ℕ) (ts : List Transaction) (w : WalkedTo told known place ts) (lt : place < known.end) → (next_is told known place ts w lt).2.gone ≡ w.gone
unfolding next_is
next_is_gone told known place ts w lt = next_gone told known place ts w lt (last_of w.later)

module _ (told : Told) (known : OpenFile) (place : ℕ) (ts : List Transaction) (later : List Block) (b : Block) (n : NextIs told known place ts later b) where
  pub rights : AreRight (b ∷ n.gone)
  rights = right_part later (b ∷ n.gone) (subst AreRight n.all n.knows.file.right)

  -- what stands behind it in the file
  rest_in : List ℕ
  rest_in = (bytes_part later (b ∷ n.gone)).0

  pub rest : List ℕ
  rest = rest_in ++ drop known.end (content told)

  file_is : file_at told known.end ≡ (bytes_of n.gone ++ block_spelling b) ++ rest_in
  unfolding rest_in
  file_is = n.knows.file.spelled ∙ ap bytes_of n.all ∙ (bytes_part later (b ∷ n.gone)).1

  pub content_is : content told ≡ bytes_of n.gone ++ (block_spelling b ++ rest)
  unfolding rest
  content_is = sym (take-append-drop known.end (content told)) ∙ ap (λ (z : List ℕ). z ++ drop known.end (content told)) file_is ∙ regroup (bytes_of n.gone) (block_spelling b) rest_in (drop known.end (content told))
    where
      regroup : (x y z w : List ℕ) → ((x ++ y) ++ z) ++ w ≡ x ++ (y ++ (z ++ w))
      regroup x y z w = simp append_assoc

  pub stands : Stands b (drop place (content told)) rest
  stands = record {
    fits = rights.0.fits;
    spelled = ap (drop place) content_is ∙ drop_at (bytes_of n.gone) (block_spelling b ++ rest) place (sym n.place_is);
  }

  ends : place + (long_of b + 8) ≤ known.end
  ends = omega (arith, n.place_is, long_file told known n.knows, ap length file_is, length-append (bytes_of n.gone ++ block_spelling b) rest_in, length-append (bytes_of n.gone) (block_spelling b), length-block b)

  pub all_stand : AllStand (content told) (front_of n.gone).records
  all_stand = subst (λ (bytes : List ℕ). AllStand bytes (front_of n.gone).records) (sym content_is) (each_stands (bytes_of n.gone) (block_spelling b ++ rest) (front_of n.gone) (record { blocks = n.gone; right = rights.1; spelled = refl; said = refl }))

  -- behind it
  walked_on : (next : ℕ) (more : List Transaction) → next ≡ place + (long_of b + 8) → (after_in (front_of n.gone) b b.inside).history.transactions ≡ more → WalkedTo told known next more
  walked_on next more is said = record {
    knows = n.knows;
    later = later;
    gone = b ∷ n.gone;
    all = n.all;
    place_is = omega (arith, is, n.place_is, length-append (bytes_of n.gone) (block_spelling b), length-block b);
    said = said;
  }

  walked_on_gone : (next : ℕ) (more : List Transaction) (is : next ≡ place + (long_of b + 8)) (said : (after_in (front_of n.gone) b b.inside).history.transactions ≡ more) → (walked_on next more is said).gone ≡ b ∷ n.gone
  unfolding walked_on
  walked_on_gone next more is said = refl

-- the head that was read is the next one's
head_is : (b : Block) (head : TxnHead) → Some head ≡ Some (txn_head_of b) → head ≡ txn_head_of b
head_is b head e = cc

next_place : (told : Told) (known : OpenFile) (place : ℕ) (b : Block) (head : TxnHead) → known.end < 2 ^ 64 → place + (long_of b + 8) ≤ known.end → head ≡ txn_head_of b → behind place head ≡ place + (long_of b + 8)
next_place told known place b head lt le is = omega (arith, lt, le, ap (λ (h : TxnHead). h.length) is)

-- what is said of a head that was read
abbrev pub Tells : Told → ℕ → Option TxnHead → Type 0
Tells told place head = (b : Block) (more : List ℕ) → Stands b (drop place (content told)) more → head ≡ Some (txn_head_of b)

pub no_head : {X : Type 0} (told : Told) (known : OpenFile) (place : ℕ) (ts : List Transaction) → WalkedTo told known place ts → place < known.end → Tells told place None → X
no_head told known place ts w lt tells =
    let n = next_is told known place ts w lt in
    absurd (let e : None ≡ Some (txn_head_of n.1) = tells n.1 (rest told known place ts n.0 n.1 n.2) (stands told known place ts n.0 n.1 n.2) in cc)

pub walked_all : (told : Told) (known : OpenFile) (place : ℕ) (ts : List Transaction) → WalkedTo told known place ts → known.end ≤ place → (history_at told known.end).transactions ≡ ts
walked_all told known place ts w le = by_last (last_of w.later)
  where
    by_last : (w.later ≡ []) ⊎ ((ys : List Block) × (y : Block) × (w.later ≡ ys ++ y ∷ [])) → (history_at told known.end).transactions ≡ ts
    by_last (inl none) =
        ap (λ (f : Front). f.history.transactions) w.knows.file.said ∙ ap (λ (z : List Block). (front_of z).history.transactions) (w.all ∙ ap (λ (z : List Block). z ++ w.gone) none) ∙ w.said
    by_last (inr s) =
        let n : NextIs told known place ts s.0 s.1 = record { knows = w.knows; gone = w.gone; all = w.all ∙ ap (λ (z : List Block). z ++ w.gone) s.2 ∙ append_assoc s.0 (s.1 ∷ []) w.gone; place_is = w.place_is; said = w.said } in
        absurd (omega (arith, ends told known place ts s.0 s.1 n, le))

-- by whether the block counts, what its front says behind it
pub skipped_said : (front : Front) (b : Block) (i : Inside) → FitsInside b.status i → (b.status == 117) ≡ true → (after_in front b i).history.transactions ≡ front.history.transactions
unfolding after_in
skipped_said front b (Skipped bytes) fits undone = refl
skipped_said front b (Records ds) fits undone = absurd (false≢true (sym fits.0 ∙ undone))

pub counted_said : (front : Front) (b : Block) (i : Inside) → FitsInside b.status i → (b.status == 117) ≡ false → (ds : List Data) × (i ≡ Records ds) × ((after_in front b i).history.transactions ≡ front.history.transactions ++ transaction_of front.records b ds ∷ [])
unfolding after_in
counted_said front b (Skipped bytes) fits counted = absurd (false≢true (sym counted ∙ fits))
counted_said front b (Records ds) fits counted = (ds, refl, refl)

-- ---- the log

abbrev between : List Transaction → ℕ → ℕ → List Transaction
between ts floor at = filter (λ (x : Transaction). nat_lt floor x.tid) (filter (λ (x : Transaction). nat_le x.tid at) ts)

abbrev pub rows_of : List Transaction → ℕ → ℕ → List LogRow
rows_of ts floor at = map log_row (between ts floor at)

-- each of those before the place has cost two calls
pub record Logged (told : Told) (known : OpenFile) (place at : ℕ) (rows : List LogRow) (calls now : ℕ) : Type 0 where
  pub ts : List Transaction
  pub walked : WalkedTo told known place ts
  pub rows_are : rows ≡ rows_of ts known.floor at
  pub within : now ≤ calls + 2 * length walked.gone

pub logged_none : (told : Told) (known : OpenFile) (at calls : ℕ) (rows : List LogRow) → Knows told known → rows ≡ [] → Logged told known 4 at rows calls calls
logged_none told known at calls rows k none = record { ts = []; walked = walked_none told known k; rows_are = none; within = omega arith }

pub logged_costs : (told : Told) (known : OpenFile) (place at : ℕ) (rows : List LogRow) (calls now : ℕ) → Logged told known place at rows calls now → CostsLog told known.end calls now
logged_costs told known place at rows calls now l = record {
  blocks = l.walked.knows.file.blocks;
  right = l.walked.knows.file.right;
  spelled = l.walked.knows.file.spelled;
  within = omega (arith, l.within, ap length l.walked.all, length-append l.walked.later l.walked.gone);
}

between_more : (ts : List Transaction) (x : Transaction) (floor at : ℕ) → between (ts ++ x ∷ []) floor at ≡ between ts floor at ++ between (x ∷ []) floor at
between_more ts x floor at =
    ap (λ (zs : List Transaction). filter (λ (y : Transaction). nat_lt floor y.tid) zs) (filter-append (λ (y : Transaction). nat_le y.tid at) ts (x ∷ []))
    ∙ filter-append (λ (y : Transaction). nat_lt floor y.tid) (filter (λ (y : Transaction). nat_le y.tid at) ts) (filter (λ (y : Transaction). nat_le y.tid at) (x ∷ []))

rows_more : (ts : List Transaction) (x : Transaction) (floor at : ℕ) → rows_of (ts ++ x ∷ []) floor at ≡ rows_of ts floor at ++ rows_of (x ∷ []) floor at
rows_more ts x floor at = ap (map log_row) (between_more ts x floor at) ∙ map-append log_row (between ts floor at) (between (x ∷ []) floor at)

one_row : (x : Transaction) (floor : ℕ) (b c : Bool) → nat_lt floor x.tid ≡ c → cond (c && b) (log_row x ∷ []) [] ≡ map log_row (filter (λ (y : Transaction). nat_lt floor y.tid) (cond b (x ∷ []) []))
one_row x floor true true e = sym (ap (λ (c : Bool). map log_row (cond c (x ∷ []) [])) e)
one_row x floor true false e = sym (ap (λ (c : Bool). map log_row (cond c (x ∷ []) [])) e)
one_row x floor false true e = refl
one_row x floor false false e = refl

-- what is said of the rows behind a transaction
abbrev pub AddsRow : Told → ℕ → TxnHead → ℕ → ℕ → List LogRow → List LogRow → Type 0
AddsRow told place head floor at old new = (b : Block) (more : List ℕ) → Stands b (drop place (content told)) more → head ≡ txn_head_of b → new ≡ old ++ cond (is_logged floor at head) (row_of b ∷ []) []

pub adds_none : (rows : List LogRow) (u : Bool) (r : LogRow) → u ≡ false → rows ≡ rows ++ cond u (r ∷ []) []
adds_none rows u r e = rw e (sym (append-nil rows))

pub adds_one : (rows new : List LogRow) (u : Bool) (r : LogRow) → u ≡ true → new ≡ rows ++ r ∷ [] → new ≡ rows ++ cond u (r ∷ []) []
adds_one rows new u r e added = rw e added

pub the_row : (b : Block) (head : TxnHead) (texts : TxnTexts) → head ≡ txn_head_of b → Some texts ≡ Some b.texts → (let r : LogRow = record { tid = head.tid; user = texts.user; description = texts.description } in r) ≡ row_of b
the_row b head texts is e =
    let same : texts ≡ b.texts = cc in
    ap₂ (λ (h : TxnHead) (t : TxnTexts). let r : LogRow = record { tid = h.tid; user = t.user; description = t.description } in r) is same

pub no_texts : {X : Type 0} (b : Block) → None ≡ Some b.texts → X
no_texts b e = absurd cc

pub logged_more : (told : Told) (known : OpenFile) (place at next : ℕ) (rows more : List LogRow) (head : TxnHead) (calls now costs : ℕ) → known.end < 2 ^ 64 → Logged told known place at rows calls now → place < known.end → Tells told place (Some head) → AddsRow told place head known.floor at rows more
    → next ≡ behind place head → costs ≤ now + 2 → Logged told known next at more calls costs
logged_more told known place at next rows more head calls now costs lt64 l lt tells adds is le =
    let n = next_is told known place l.ts l.walked lt in
    let same : length n.2.gone ≡ length l.walked.gone = ap length (next_is_gone told known place l.ts l.walked lt) in
    let b = n.1 in
    let there = stands told known place l.ts n.0 b n.2 in
    let h : head ≡ txn_head_of b = head_is b head (tells b (rest told known place l.ts n.0 b n.2) there) in
    let to : next ≡ place + (long_of b + 8) = is ∙ next_place told known place b head lt64 (ends told known place l.ts n.0 b n.2) h in
    let added : more ≡ rows ++ cond (is_logged known.floor at (txn_head_of b)) (row_of b ∷ []) [] = adds b (rest told known place l.ts n.0 b n.2) there h ∙ ap (λ (g : TxnHead). rows ++ cond (is_logged known.floor at g) (row_of b ∷ []) []) h in
    go n.0 b n.2 to added (omega (arith, same, l.within, le)) (b.status == 117) refl
  where
    go : (later : List Block) (b : Block) (n : NextIs told known place l.ts later b) → next ≡ place + (long_of b + 8) → more ≡ rows ++ cond (is_logged known.floor at (txn_head_of b)) (row_of b ∷ []) [] → costs ≤ calls + 2 + 2 * length n.gone → (t : Bool) → (b.status == 117) ≡ t → Logged told known next at more calls costs
    go later b n to added cost true undone = record {
      ts = l.ts;
      walked = walked_on told known place l.ts later b n next l.ts to (skipped_said (front_of n.gone) b b.inside (rights told known place l.ts later b n).0.fits.inside undone ∙ n.said);
      rows_are = added ∙ ap (λ (u : Bool). rows ++ cond (cond u false (nat_lt known.floor b.tid && nat_le b.tid at)) (row_of b ∷ []) []) undone ∙ append-nil rows ∙ l.rows_are;
      within = omega (arith, cost, ap length (walked_on_gone told known place l.ts later b n next l.ts to (skipped_said (front_of n.gone) b b.inside (rights told known place l.ts later b n).0.fits.inside undone ∙ n.said)));
    }
    go later b n to added cost false counted =
        let c = counted_said (front_of n.gone) b b.inside (rights told known place l.ts later b n).0.fits.inside counted in
        let x = transaction_of (front_of n.gone).records b c.0 in
        record {
          ts = l.ts ++ x ∷ [];
          walked = walked_on told known place l.ts later b n next (l.ts ++ x ∷ []) to (c.2 ∙ ap (λ (z : List Transaction). z ++ x ∷ []) n.said);
          rows_are = added ∙ ap (λ (u : Bool). rows ++ cond (cond u false (nat_lt known.floor b.tid && nat_le b.tid at)) (row_of b ∷ []) []) counted ∙ ap₂ (λ (p q : List LogRow). p ++ q) l.rows_are (one_row x known.floor (nat_le b.tid at) (nat_lt known.floor b.tid) refl) ∙ sym (rows_more l.ts x known.floor at);
          within = omega (arith, cost, ap length (walked_on_gone told known place l.ts later b n next (l.ts ++ x ∷ []) to (c.2 ∙ ap (λ (z : List Transaction). z ++ x ∷ []) n.said)));
        }

pub logged_all : (told : Told) (known : OpenFile) (place at : ℕ) (rows : List LogRow) (calls now : ℕ) → Knows told known → Logged told known place at rows calls now → known.end ≤ place → rows ≡ map log_row (unpacked (upto (history_at told known.end) at))
logged_all told known place at rows calls now k l le =
    l.rows_are ∙ ap (λ (ts : List Transaction). rows_of ts known.floor at) (sym (walked_all told known place l.ts l.walked le)) ∙ ap (λ (n : ℕ). rows_of (history_at told known.end).transactions n at) k.floor_is
