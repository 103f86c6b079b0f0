-- The blocks of a file that a walk has left, and the transactions that they say.
use Rattle.std.proofs.Common.{◌≡◌, ℕ, ◌+◌, ◌<◌, ◌≤◌, true, List, [], ◌∷◌, ◌++◌, length, drop, flat_map, Option, Some, None, IfSome, refl, sym, ap, subst, ◌∙◌, append_assoc, append-nil, arith}
use Rattle.std.specs.Option.{ForSome, option_map}
use Rattle.std.specs.List.{list_all}
use Rattle.std.proofs.lemmas.List.{length-append, drop_at}
use Rattle.std.proofs.lemmas.Bool.{eq-eqb, ne_eqb, false≢true}
use Rattle.zbase.specs.History.{Transaction, Value}
use Rattle.zbase.specs.Values.{Revision, last}
use Rattle.zbase.specs.declared.ids.Row.{Row}
use Rattle.zdisk.specs.Disk.{Told, content}
use Rattle.fs_record.specs.declared.heads.TxnHead.{TxnHead}
use Rattle.fs_record.specs.File.{AreRight, Earlier, Front, IsRight, after_in, bytes_of, fault_in, fault_of, front_of, has_body, rows, transaction_of, values_of}
use Rattle.fs_record.specs.Fits.{FitsInside}
use Rattle.fs_record.specs.Opening.{Cut, SplitsAt, Stands}
use Rattle.fs_record.specs.Spelling.{Block, Data, Inside, Records, Skipped, block_spelling, long_of, txn_head_of}
use Rattle.fs_record.specs.SpellingLaws.{length-block}
use Rattle.fs_record.specs.Standing.{IsRevision}
use Rattle.fs_record.specs.StandingLaws.{each_stands, passed}
use Rattle.fs_record.specs.declared.body.TxnTexts.{TxnTexts}
use Rattle.fs_record.specs.declared.damage.Damage.TheVariants.{BadBack, BadPrev, BadTid}
use Rattle.fs_scan.specs.Ahead.{IsAhead, Shown, StandIn, unread}
use Rattle.fs_scan.specs.Present.{AllStand}
use Rattle.replay.specs.SecondWalk.{Left, Nexts, Second, moved, onto, said_by, said_in}
use Rattle.fs_scan.specs.Wholes.{records_in, transaction_in}
use Rattle.fs_scan.specs.declared.wholes.OidValue.{OidValue}
use Rattle.fs_scan.specs.declared.wholes.Whole.{Whole}

-- ---- what reading a transaction says

abbrev pub HasHead : Option Told → ℕ → Option TxnHead → Type 0
HasHead disk at head = IfSome disk (λ told. (b : Block) (more : List ℕ) → Stands b (drop at (content told)) more → head ≡ Some (txn_head_of b))

abbrev pub HasTexts : Option Told → ℕ → TxnHead → Option TxnTexts → Type 0
HasTexts disk at h texts = IfSome disk (λ told. (b : Block) (more : List ℕ) → Stands b (drop at (content told)) more → h ≡ txn_head_of b → texts ≡ Some b.texts)

abbrev pub HasValues : Option Told → ℕ → TxnHead → Option (List OidValue) → Type 0
HasValues disk at h found = IfSome disk (λ told. (b : Block) (ds : List Data) (more : List ℕ) (records : List Earlier) → Stands b (drop at (content told)) more → b.inside ≡ Records ds → h ≡ txn_head_of b → AllStand (content told) records → list_all (has_body (rows records)) ds ≡ true → option_map records_in found ≡ Some (values_of records ds))

-- ---- blocks behind others

grown : (gone left : List Block) → bytes_of (onto gone left) ≡ bytes_of gone ++ flat_map block_spelling left
grown gone [] = sym (append-nil (bytes_of gone))
grown gone (b ∷ bs) = grown (b ∷ gone) bs ∙ append_assoc (bytes_of gone) (block_spelling b) (flat_map block_spelling bs)

right_below : (gone left : List Block) → AreRight (onto gone left) → AreRight gone
right_below gone [] right = right
right_below gone (b ∷ bs) right = (right_below (b ∷ gone) bs right).1

-- the next one is right
right_next : (gone : List Block) (b : Block) (bs : List Block) → AreRight (onto gone (b ∷ bs)) → IsRight (front_of gone) b
right_next gone b bs right = (right_below (b ∷ gone) bs right).0

one_more : (gone : List Block) (b : Block) (i : Inside) (more : List Transaction) → (after_in (front_of gone) b i).history.transactions ++ more ≡ (front_of gone).history.transactions ++ said_in gone b i more
unfolding after_in
one_more gone b (Records ds) more = append_assoc (front_of gone).history.transactions (transaction_of (front_of gone).records b ds ∷ []) more
one_more gone b (Skipped bytes) more = refl

-- what is said by all blocks
all_said : (gone left : List Block) → (front_of (onto gone left)).history.transactions ≡ (front_of gone).history.transactions ++ said_by gone left
all_said gone [] = sym (append-nil (front_of gone).history.transactions)
all_said gone (b ∷ bs) = all_said (b ∷ gone) bs ∙ one_more gone b b.inside (said_by (b ∷ gone) bs)

-- the blocks, oldest first
abbrev unrolled : List Block → List Block → List Block
unrolled [] left = left
unrolled (b ∷ bs) left = unrolled bs (b ∷ left)

rolled : (bs left : List Block) → onto [] (unrolled bs left) ≡ onto bs left
rolled [] left = refl
rolled (b ∷ bs) left = rolled bs (b ∷ left)

-- ---- a walk that has not begun

none_gone : (bytes : List ℕ) (front : Front) (end long : ℕ) (ahead : Shown) → Cut bytes front end → long ≡ length bytes → StandIn bytes ahead → Left bytes (record { place = 4; end = end; long = long; ahead = ahead }) front.history.transactions
none_gone bytes front end long ahead cut is there =
    let s = cut.1 in
    let blocks = s.is_file.blocks in
    let same : onto [] (unrolled blocks []) ≡ blocks = rolled blocks [] in
    let spelled : bytes_of (onto [] (unrolled blocks [])) ≡ s.file = ap bytes_of same ∙ sym s.is_file.spelled in
    record {
      gone = [];
      left = unrolled blocks [];
      rest = cut.0;
      right = subst AreRight (sym same) s.is_file.right;
      joined = s.joined ∙ ap (λ (x : List ℕ). x ++ cut.0) (sym spelled);
      here = refl;
      end = s.at ∙ sym (ap length spelled);
      said = ap (λ (f : Front). f.history.transactions) (s.is_file.said ∙ ap front_of (sym same)) ∙ all_said [] (unrolled blocks []);
      long = is;
      ahead = there;
    }

pub begun : (disk : Option Told) (end long : ℕ) (ahead : Shown) → IfSome disk (λ told. long ≡ length (content told)) → IfSome disk (λ told. StandIn (content told) ahead)
    → IfSome disk (λ told. (front : Front) → Cut (content told) front end → Left (content told) (record { place = 4; end = end; long = long; ahead = ahead }) front.history.transactions)
begun None end long ahead is there = tt
begun (Some told) end long ahead is there = λ front cut. none_gone (content told) front end long ahead cut is there

pub none_ahead : (disk : Option Told) (ahead : Shown) → ahead ≡ unread → IfSome disk (λ told. StandIn (content told) ahead)
none_ahead None ahead is = tt
none_ahead (Some told) ahead is = rw is refl

-- ---- the block where the walk goes on

pub record Next (bytes : List ℕ) (s : Second) (xs : List Transaction) : Type 0 where
  pub gone : List Block
  pub block : Block
  pub ys : List Transaction
  pub more : List ℕ
  pub stands : Stands block (drop s.place bytes) more
  pub right : IsRight (front_of gone) block
  pub splits : SplitsAt bytes s.place (front_of gone) (drop s.place bytes)
  pub fits : s.place + (long_of block + 8) ≤ s.end
  pub said : xs ≡ said_in gone block block.inside ys
  pub behind : (ahead : Shown) → StandIn bytes ahead → Left bytes (moved (s.place + (long_of block + 8)) ahead s) ys

next_of : (bytes : List ℕ) (s : Second) (xs : List Transaction) (l : Left bytes s xs) (b : Block) (bs : List Block) → l.left ≡ b ∷ bs → Next bytes s xs
next_of bytes s xs l b bs is =
    let right : AreRight (onto (b ∷ l.gone) bs) = subst (λ (left : List Block). AreRight (onto l.gone left)) is l.right in
    let spelled : bytes_of (onto l.gone l.left) ≡ bytes_of (onto (b ∷ l.gone) bs) = ap (λ (left : List Block). bytes_of (onto l.gone left)) is in
    let here = bytes_of l.gone in
    let more = flat_map block_spelling bs ++ l.rest in
    let all : bytes_of (onto (b ∷ l.gone) bs) ≡ (here ++ block_spelling b) ++ flat_map block_spelling bs = grown (b ∷ l.gone) bs in
    let joined : bytes ≡ here ++ (block_spelling b ++ more) =
    l.joined ∙ ap (λ (x : List ℕ). x ++ l.rest) (spelled ∙ all) ∙ append_assoc (here ++ block_spelling b) (flat_map block_spelling bs) l.rest ∙ append_assoc here (block_spelling b) more in
    let dropped : drop s.place bytes ≡ block_spelling b ++ more = ap (drop s.place) joined ∙ drop_at here (block_spelling b ++ more) s.place (sym l.here) in
    let one = right_next l.gone b bs right in
    let long = length-block b in
    record {
      gone = l.gone;
      block = b;
      ys = said_by (b ∷ l.gone) bs;
      more = more;
      stands = record { fits = one.fits; spelled = dropped };
      right = one;
      splits = record { file = here; is_file = record { blocks = l.gone; right = (right_below (b ∷ l.gone) bs right).1; spelled = refl; said = refl }; joined = joined ∙ ap (λ (x : List ℕ). here ++ x) (sym dropped); at = l.here };
      fits = omega (arith, l.here, l.end, ap length (spelled ∙ all), length-append (here ++ block_spelling b) (flat_map block_spelling bs), length-append here (block_spelling b), long);
      said = l.said ∙ ap (said_by l.gone) is;
      behind = λ ahead there. record {
        gone = b ∷ l.gone;
        left = bs;
        rest = l.rest;
        right = right;
        joined = l.joined ∙ ap (λ (x : List ℕ). x ++ l.rest) spelled;
        here = omega (arith, l.here, length-append here (block_spelling b), long);
        end = l.end ∙ ap length spelled;
        said = refl;
        long = l.long;
        ahead = there;
      };
    }

pub next_block : (bytes : List ℕ) (s : Second) (xs : List Transaction) → Left bytes s xs → s.place < s.end → Next bytes s xs
next_block bytes s xs l before = by_left l.left refl
  where
    by_left : (left : List Block) → l.left ≡ left → Next bytes s xs
    by_left [] is = absurd (omega (arith, before, l.here, l.end, ap (λ (left : List Block). length (bytes_of (onto l.gone left))) is))
    by_left (b ∷ bs) is = next_of bytes s xs l b bs is

-- behind the end no transaction is left
pub none_left : (bytes : List ℕ) (s : Second) (xs : List Transaction) → Left bytes s xs → s.end ≤ s.place → xs ≡ []
none_left bytes s xs l past = by_left l.left refl
  where
    by_left : (left : List Block) → l.left ≡ left → xs ≡ []
    by_left [] is = l.said ∙ ap (said_by l.gone) is
    by_left (b ∷ bs) is = absurd (omega (arith, past, (next_of bytes s xs l b bs is).fits))

-- one that was undone says nothing
undone_says : (gone : List Block) (b : Block) (i : Inside) (ys : List Transaction) → FitsInside b.status i → b.status ≡ 117 → said_in gone b i ys ≡ ys
undone_says gone b (Skipped bytes) ys fits undone = refl
undone_says gone b (Records ds) ys fits undone = absurd (false≢true (sym fits.0 ∙ eq-eqb b.status 117 undone))

-- ---- where the disk tells

-- these transactions are left
abbrev pub IsLeft : Option Told → Second → Type 0
IsLeft disk s = ForSome disk (λ told. (xs : List Transaction) × Left (content told) s xs)

-- what was left of a walk is left of another
abbrev pub Leaves : Option Told → Second → Second → Type 0
Leaves disk old now = IfSome disk (λ told. (xs : List Transaction) → Left (content told) old xs → Left (content told) now xs)

pub same_left : (disk : Option Told) (old now : Second) → IsLeft disk old → Leaves disk old now → IsLeft disk now
same_left None old now left leaves = λ told is. absurd cc
same_left (Some one) old now left leaves = λ told is. subst (λ (t : Told). (xs : List Transaction) × Left (content t) now xs) (the_same one told is) (let l = left one refl in (l.0, leaves l.0 l.1))
  where
    the_same : (a b : Told) → Some a ≡ Some b → a ≡ b
    the_same a b is = cc

pub leaves_itself : (disk : Option Told) (old : Second) → Leaves disk old old
leaves_itself None old = tt
leaves_itself (Some told) old = λ xs l. l

pub left_long : (disk : Option Told) (s : Second) → IsLeft disk s → ForSome disk (λ told. s.long ≡ length (content told))
left_long disk s left = λ told is. (left told is).1.long

pub left_ahead : (disk : Option Told) (s : Second) → IsLeft disk s → IsAhead disk s.ahead
left_ahead None s left = tt
left_ahead (Some told) s left = (left told refl).1.ahead

-- what is said of the head that was read there
abbrev pub Heads : Option Told → ℕ → TxnHead → Type 0
Heads disk at h = IfSome disk (λ told. (b : Block) (more : List ℕ) → Stands b (drop at (content told)) more → h ≡ txn_head_of b)

pub heads_of : (disk : Option Told) (at : ℕ) (h : TxnHead) → HasHead disk at (Some h) → Heads disk at h
heads_of None at h has = tt
heads_of (Some told) at h has = λ b more s. the_same h (txn_head_of b) (has b more s)
  where
    the_same : (a b : TxnHead) → Some a ≡ Some b → a ≡ b
    the_same a b is = cc

-- a transaction stands there
pub some_head : (disk : Option Told) (s : Second) → IsLeft disk s → s.place < s.end → HasHead disk s.place None → IfSome disk (λ told. ⊥)
some_head None s left before none = tt
some_head (Some told) s left before none =
    let l = left told refl in
    let n = next_block (content told) s l.0 l.1 before in
    never (txn_head_of n.block) (none n.block n.more n.stands)
  where
    never : (h : TxnHead) → None ≡ Some h → ⊥
    never h is = cc

-- and ends no farther
pub short_enough : (disk : Option Told) (s : Second) (h : TxnHead) → IsLeft disk s → s.place < s.end → Heads disk s.place h → s.end < s.place + (h.length + 8) → IfSome disk (λ told. ⊥)
short_enough None s h left before heads far = tt
short_enough (Some told) s h left before heads far =
    let l = left told refl in
    let n = next_block (content told) s l.0 l.1 before in
    omega (arith, n.fits, far, ap (λ (g : TxnHead). g.length) (heads n.block n.more n.stands))

-- ---- its records

records_of : (status : ℕ) (i : Inside) → FitsInside status i → (status ≡ 117 → ⊥) → (ds : List Data) × (i ≡ Records ds)
records_of status (Records ds) fits counted = (ds, refl)
records_of status (Skipped bytes) fits counted = absurd (false≢true (sym (ne_eqb status 117 counted) ∙ fits))

right_bodies : (place t : ℕ) (rs : List Row) (b : Block) (ds : List Data) → fault_in place t rs b (Records ds) ≡ None → list_all (has_body rs) ds ≡ true
unfolding fault_in
right_bodies place t rs b ds e = (passed _ _ BadBack (passed _ _ BadPrev (passed _ _ BadTid e).1).1).0

all_stand : (bytes : List ℕ) (at : ℕ) (front : Front) (rest : List ℕ) → SplitsAt bytes at front rest → AllStand bytes front.records
all_stand bytes at front rest s oid place is = subst (λ (x : List ℕ). (r : Revision) × IsRevision x front.records oid place r) (sym s.joined) (each_stands s.file rest front s.is_file oid place is)

-- what is known of a transaction that counts
pub record Counted (bytes : List ℕ) (n : List Block) (b : Block) : Type 0 where
  pub ds : List Data
  pub inside : b.inside ≡ Records ds
  pub stand : AllStand bytes (front_of n).records
  pub bodies : list_all (has_body (rows (front_of n).records)) ds ≡ true

right_inside : (front : Front) (b : Block) (ds : List Data) → b.inside ≡ Records ds → fault_of front b ≡ None → fault_in front.place (last front.history) (rows front.records) b (Records ds) ≡ None
right_inside front b ds is right = subst (λ (i : Inside). fault_in front.place (last front.history) (rows front.records) b i ≡ None) is right

pub counted : (bytes : List ℕ) (s : Second) (xs : List Transaction) (n : Next bytes s xs) → (n.block.status ≡ 117 → ⊥) → Counted bytes n.gone n.block
counted bytes s xs n counts =
    let ds = records_of n.block.status n.block.inside n.right.fits.inside counts in
    record {
      ds = ds.0;
      inside = ds.1;
      stand = all_stand bytes s.place (front_of n.gone) (drop s.place bytes) n.splits;
      bodies = right_bodies (front_of n.gone).place (last (front_of n.gone).history) (rows (front_of n.gone).records) n.block ds.0 (right_inside (front_of n.gone) n.block ds.0 ds.1 n.right.right);
    }

-- its texts are read
pub some_texts : (disk given : Option Told) (s : Second) (h : TxnHead) → given ≡ disk → IsLeft disk s → s.place < s.end → Heads disk s.place h → HasTexts given s.place h None → IfSome disk (λ told. ⊥)
some_texts None given s h same left before heads none = tt
some_texts (Some told) given s h same left before heads none =
    let l = left told refl in
    let n = next_block (content told) s l.0 l.1 before in
    never n.block.texts (subst (λ (d : Option Told). HasTexts d s.place h None) same none n.block n.more n.stands (heads n.block n.more n.stands))
  where
    never : (texts : TxnTexts) → None ≡ Some texts → ⊥
    never texts is = cc

-- and its values
pub some_values : (disk given : Option Told) (s : Second) (h : TxnHead) → given ≡ disk → IsLeft disk s → s.place < s.end → Heads disk s.place h → (h.status ≡ 117 → ⊥) → HasValues given s.place h None → IfSome disk (λ told. ⊥)
some_values None given s h same left before heads counts none = tt
some_values (Some told) given s h same left before heads counts none =
    let l = left told refl in
    let n = next_block (content told) s l.0 l.1 before in
    let head = heads n.block n.more n.stands in
    let k = counted (content told) s l.0 n (λ undone. counts (ap (λ (g : TxnHead). g.status) head ∙ undone)) in
    never (values_of (front_of n.gone).records k.ds) (subst (λ (d : Option Told). HasValues d s.place h None) same none n.block k.ds n.more (front_of n.gone).records n.stands k.inside head k.stand k.bodies)
  where
    never : (values : List (ℕ × Value)) → option_map records_in None ≡ Some values → ⊥
    never values is = cc

-- what the transaction at a place says, whatever stands there
abbrev pub Means : Option Told → ℕ → Whole → Type 0
Means disk at whole = IfSome disk (λ told. (b : Block) (ds : List Data) (more : List ℕ) (records : List Earlier) → Stands b (drop at (content told)) more → b.inside ≡ Records ds → AllStand (content told) records → list_all (has_body (rows records)) ds ≡ true → transaction_in whole ≡ transaction_of records b ds)

-- a transaction of these texts
abbrev with_texts : ℕ → TxnTexts → List (ℕ × Value) → Transaction
with_texts t a xs = record { tid = t; user = a.user; description = a.description; extension = a.extension; records = xs }

pub means_it : (disk texted valued : Option Told) (at : ℕ) (h : TxnHead) (texts : TxnTexts) (values : List OidValue) → texted ≡ disk → valued ≡ disk → Heads disk at h → HasTexts texted at h (Some texts) → HasValues valued at h (Some values)
    → Means disk at (record { place = at; status = h.status; tid = h.tid; texts = texts; values = values })
means_it None texted valued at h texts values same still heads has_texts has_values = tt
means_it (Some told) texted valued at h texts values same still heads has_texts has_values = λ b ds more records stands inside all right.
    let head = heads b more stands in
    let said = the_texts texts b.texts (subst (λ (d : Option Told). HasTexts d at h (Some texts)) same has_texts b more stands head) in
    let given = the_values values (values_of records ds) (subst (λ (d : Option Told). HasValues d at h (Some values)) still has_values b ds more records stands inside head all right) in
    one_transaction h.tid b.tid texts b.texts (records_in values) (values_of records ds) (ap (λ (g : TxnHead). g.tid) head) said given
  where
    the_texts : (a b : TxnTexts) → Some a ≡ Some b → a ≡ b
    the_texts a b is = cc

    the_values : (a : List OidValue) (b : List (ℕ × Value)) → option_map records_in (Some a) ≡ Some b → records_in a ≡ b
    the_values a b is = cc

    one_transaction : (t u : ℕ) (a b : TxnTexts) (xs ys : List (ℕ × Value)) → t ≡ u → a ≡ b → xs ≡ ys → with_texts t a xs ≡ with_texts u b ys
    one_transaction t u a b xs ys same texts values = cc

-- ---- one step

pub goes_over : (disk : Option Told) (old now : Second) (ahead : Shown) (h : TxnHead) (behind : ℕ) → Leaves disk old now → now.place < now.end → Heads disk now.place h → IsAhead disk ahead → behind ≡ now.place + (h.length + 8) → h.status ≡ 117 → Leaves disk old (moved behind ahead now)
goes_over None old now ahead h behind leaves before heads there is undone = tt
goes_over (Some told) old now ahead h behind leaves before heads there is undone = λ xs l.
    let bytes = content told in
    let n = next_block bytes now xs (leaves xs l) before in
    let head = heads n.block n.more n.stands in
    let ys : xs ≡ n.ys = n.said ∙ undone_says n.gone n.block n.block.inside n.ys n.right.fits.inside (sym (ap (λ (g : TxnHead). g.status) head) ∙ undone) in
    let place : now.place + (long_of n.block + 8) ≡ behind = omega (arith, is, ap (λ (g : TxnHead). g.length) head) in
    subst (λ (zs : List Transaction). Left bytes (moved behind ahead now) zs) (sym ys) (subst (λ (p : ℕ). Left bytes (moved p ahead now) n.ys) place (n.behind ahead there))

pub comes : (disk given : Option Told) (old now : Second) (ahead : Shown) (h : TxnHead) (behind : ℕ) (whole : Whole) → given ≡ disk → Leaves disk old now → now.place < now.end → Heads disk now.place h → IsAhead disk ahead → behind ≡ now.place + (h.length + 8) → (h.status ≡ 117 → ⊥)
    → Means given now.place whole → IfSome disk (λ told. (xs : List Transaction) → Left (content told) old xs → Nexts (content told) (moved behind ahead now) xs (Some whole))
comes None given old now ahead h behind whole same leaves before heads there is counts means = tt
comes (Some told) given old now ahead h behind whole same leaves before heads there is counts means = λ xs l.
    let bytes = content told in
    let n = next_block bytes now xs (leaves xs l) before in
    let head = heads n.block n.more n.stands in
    let k = counted bytes now xs n (λ undone. counts (ap (λ (g : TxnHead). g.status) head ∙ undone)) in
    let says = subst (λ (d : Option Told). Means d now.place whole) same means in
    let x : transaction_in whole ≡ transaction_of (front_of n.gone).records n.block k.ds = says n.block k.ds n.more (front_of n.gone).records n.stands k.inside k.stand k.bodies in
    let said : xs ≡ transaction_of (front_of n.gone).records n.block k.ds ∷ n.ys = n.said ∙ ap (λ (i : Inside). said_in n.gone n.block i n.ys) k.inside in
    let place : now.place + (long_of n.block + 8) ≡ behind = omega (arith, is, ap (λ (g : TxnHead). g.length) head) in
    (n.ys, said ∙ ap (λ (t : Transaction). t ∷ n.ys) (sym x), subst (λ (p : ℕ). Left bytes (moved p ahead now) n.ys) place (n.behind ahead there))

pub comes_none : (disk : Option Told) (old now new : Second) → Leaves disk old now → now.end ≤ now.place → IfSome disk (λ told. (xs : List Transaction) → Left (content told) old xs → Nexts (content told) new xs None)
comes_none None old now new leaves past = tt
comes_none (Some told) old now new leaves past = λ xs l. none_left (content told) now xs (leaves xs l) past
