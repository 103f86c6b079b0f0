-- A walk back over the transactions of a store's file, from its end.
use Rattle.std.proofs.Common.{◌≡◌, ℕ, ◌+◌, ◌*◌, ◌<◌, ◌≤◌, ◌^◌, ◌==◌, Bool, true, false, cond, List, [], ◌∷◌, ◌++◌, find, length, drop, reverse, take, Option, Some, None, refl, sym, ap, subst, ◌∙◌, append_assoc, append-nil, arith, eqb-true, inl, inr}
use Rattle.std.specs.Prelude.{◌⊎◌, ◌&&◌, ◌-◌, IfSome, min, nat_lt}
use Rattle.std.specs.List.{AllByRecursion, list_all}
use Rattle.std.specs.Option.{ForSome, option_map, option_or}
use Rattle.std.proofs.lemmas.Bool.{false≢true}
use Rattle.std.proofs.lemmas.Bool.Decides.{nat_tests}
use Rattle.std.proofs.lemmas.List.{drop_at, length-append, reverse-append, take_at}
use Rattle.std.proofs.lemmas.List.Folds.{find-append}
use Rattle.evaluator.specs.declared.fact.Part.{Part}
use Rattle.evaluator.specs.Facts.{part_of}
use Rattle.zbase.specs.History.{History, Transaction, Value}
use Rattle.zbase.specs.HistoryLaws.{find_none}
use Rattle.zbase.specs.NumberLaws.{length-be64, same_be64}
use Rattle.zbase.specs.Numbers.{be64}
use Rattle.zbase.specs.Values.{last, transaction}
use Rattle.zbase.specs.declared.ids.Row.{Row}
use Rattle.zdisk.specs.Disk.{Told, bytes_at, content}
use Rattle.fs_record.specs.declared.damage.Damage.TheVariants.{BadBack, BadPrev, BadStatus, BadTail, BadTid, BadVersion}
use Rattle.fs_record.specs.declared.heads.TxnHead.{TxnHead}
use Rattle.fs_record.specs.File.{AreRight, Earlier, Front, bytes_of, fault_in, front_of, has_body, has_no_version, has_prev, is_counted, is_own, rows, transaction_of, values_of}
use Rattle.fs_record.specs.FileLaws.{file_history, rises}
use Rattle.fs_record.specs.Opening.{Stands}
use Rattle.fs_record.specs.Spelling.{Block, Data, Inside, Records, Skipped, block_spelling, inside_spelling, long_of, texts_spelling, txn_head, txn_head_of}
use Rattle.fs_record.specs.SpellingLaws.{length-block}
use Rattle.fs_record.specs.StandingLaws.{passed}
use Rattle.fs_scan.specs.declared.wholes.OidValue.{OidValue}
use Rattle.fs_scan.specs.Backs.{CostsBodies}
use Rattle.fs_scan.specs.Present.{AllStand}
use Rattle.fs_scan.specs.Wholes.{records_in}
use Rattle.fs_store.specs.declared.file.OpenFile.{OpenFile}
use Rattle.fs_store.specs.declared.seeking.TxnRecord.{TxnRecord}
use Rattle.fs_store.specs.Fronts.{history_at}
use Rattle.fs_store.specs.Knowing.{Knows}
use Rattle.fs_store.specs.Parts.{is_passed, is_with, records_of}
use Rattle.fs_store.specs.Seeking.{CostsLoads, CostsValues, CostsWalk, EndsAt, IsPassed, IsSought, SoughtIn, objects_of}
use Rattle.fs_store.specs.Finding.{CostsLoad}
use Rattle.fs_store.proofs.Walking.{NextIs, all_stand, content_is, counted_said, long_file, rest, rights, skipped_said, stands}

-- ---- the length at a record's end

-- what is said of the length that was read before the end
abbrev pub TellsLength : Told → ℕ → Option ℕ → Type 0
TellsLength told end long = (b : Block) (place : ℕ) → EndsAt (content told) place end b → long ≡ Some b.tail

-- a record down to its second length
before_tail : Block → List ℕ
before_tail b = (txn_head (txn_head_of b) ++ texts_spelling b.texts) ++ inside_spelling b.inside

spelled_tail : (b : Block) → block_spelling b ≡ before_tail b ++ be64 b.tail
unfolding block_spelling before_tail
spelled_tail b = refl

tail_there : (bytes : List ℕ) (place end : ℕ) (b : Block) → (e : EndsAt bytes place end b) → drop (end - 8) bytes ≡ be64 b.tail ++ e.more
tail_there bytes place end b e =
    let whole : bytes ≡ (e.front ++ before_tail b) ++ (be64 b.tail ++ e.more) = e.joined ∙ ap (λ (z : List ℕ). e.front ++ (z ++ e.more)) (spelled_tail b) ∙ regroup e.front (before_tail b) (be64 b.tail) e.more in
    let long : end - 8 ≡ length (e.front ++ before_tail b) = omega (arith, e.at, e.ends, length-append e.front (before_tail b), length-block b, ap length (spelled_tail b), length-append (before_tail b) (be64 b.tail), length-be64 b.tail) in
    ap (drop (end - 8)) whole ∙ drop_at (e.front ++ before_tail b) (be64 b.tail ++ e.more) (end - 8) (sym long)
  where
    regroup : (f p t m : List ℕ) → f ++ ((p ++ t) ++ m) ≡ (f ++ p) ++ (t ++ m)
    regroup f p t m = simp append_assoc

same_tail : (tail long : ℕ) (piece more : List ℕ) → tail < 2 ^ 64 → long < 2 ^ 64 → piece ≡ be64 tail → piece ≡ be64 long ++ more → long ≡ tail
same_tail tail long piece more fits lt is read = sym (same_be64 tail long [] more fits lt (append-nil (be64 tail) ∙ sym is ∙ read)).0

pub reads_length : (told : Told) (end long : ℕ) (piece : List ℕ) → piece ≡ bytes_at told (end - 8) (length piece) → length piece ≡ 8 → piece ≡ be64 long ++ drop 8 piece → long < 2 ^ 64 → TellsLength told end (Some long)
reads_length told end long piece there eight read lt = λ b place e.
    let is : piece ≡ be64 b.tail = there ∙ ap (λ (n : ℕ). take n (drop (end - 8) (content told))) eight ∙ ap (take 8) (tail_there (content told) place end b e) ∙ take_at (be64 b.tail) e.more 8 (length-be64 b.tail) in
    ap Some (same_tail b.tail long piece (drop 8 piece) e.fits.tail lt is read)

-- a record has a head and a second length, and ends within the file
within : (bytes : List ℕ) (place end : ℕ) (b : Block) → EndsAt bytes place end b → (31 ≤ end) × (end ≤ length bytes)
within bytes place end b e = (
  omega (arith, e.ends),
  omega (arith, e.at, e.ends, ap length e.joined, length-append e.front (block_spelling b ++ e.more), length-append (block_spelling b) e.more, length-block b),
)

pub no_length : (disk : Option Told) (len end : ℕ) → ForSome disk (λ told. len ≡ length (content told)) → (end < 8) ⊎ (len < end) → IfSome disk (λ told. TellsLength told end None)
no_length None len end whole short = tt
no_length (Some told) len end whole short = λ b place e. absurd (go b place e short)
  where
    go : (b : Block) (place : ℕ) → EndsAt (content told) place end b → (end < 8) ⊎ (len < end) → ⊥
    go b place e (inl less) = omega (arith, (within (content told) place end b e).0, less)
    go b place e (inr less) = omega (arith, (within (content told) place end b e).1, whole told refl, less)

-- ---- the record before the end

-- what is said of the record that was found before the end
abbrev pub TellsRecord : Told → ℕ → Option TxnRecord → Type 0
TellsRecord told end found = (b : Block) (place : ℕ) → EndsAt (content told) place end b → found ≡ Some (record { place = place; head = txn_head_of b })

-- what is said of the head that was read at the place
abbrev pub TellsHead : Told → ℕ → Option TxnHead → Type 0
TellsHead told place head = (b : Block) (more : List ℕ) → Stands b (drop place (content told)) more → head ≡ Some (txn_head_of b)

there : (bytes : List ℕ) (place end : ℕ) (b : Block) → (e : EndsAt bytes place end b) → Stands b (drop place bytes) e.more
there bytes place end b e = record { fits = e.fits; spelled = ap (drop place) e.joined ∙ drop_at e.front (block_spelling b ++ e.more) place (sym e.at) }

same_length : (long tail : ℕ) → Some long ≡ Some tail → long ≡ tail
same_length long tail e = cc

begins_at : (long end place tail long_b : ℕ) → long ≡ tail → tail ≡ long_b → end < 2 ^ 64 → end ≡ place + (long_b + 8) → min (long + 8) 18446744073709551615 ≡ long_b + 8
begins_at long end place tail long_b is own lt ends = omega (arith, is, own, lt, ends)

pub no_tail : (told : Told) (end : ℕ) → TellsLength told end None → TellsRecord told end None
no_tail told end tells = λ b place e. absurd (let none : None ≡ Some b.tail = tells b place e in cc)

pub too_long : (told : Told) (end long size : ℕ) → TellsLength told end (Some long) → end < 2 ^ 64 → size ≡ min (long + 8) 18446744073709551615 → end < size → TellsRecord told end None
too_long told end long size tells lt is less = λ b place e. absurd (omega (arith, begins_at long end place b.tail (long_of b) (same_length long b.tail (tells b place e)) e.tail lt e.ends, is, less, e.ends))

place_is : (told : Told) (end long size place : ℕ) (b : Block) (at : ℕ) → TellsLength told end (Some long) → end < 2 ^ 64 → size ≡ min (long + 8) 18446744073709551615 → place ≡ end - size → EndsAt (content told) at end b → place ≡ at
place_is told end long size place b at tells lt is here e = omega (arith, begins_at long end at b.tail (long_of b) (same_length long b.tail (tells b at e)) e.tail lt e.ends, is, here, e.ends)

pub no_head_there : (told : Told) (end long size place : ℕ) → TellsLength told end (Some long) → end < 2 ^ 64 → size ≡ min (long + 8) 18446744073709551615 → place ≡ end - size → TellsHead told place None → TellsRecord told end None
no_head_there told end long size place tells lt is here head = λ b at e.
    let p = place_is told end long size place b at tells lt is here e in
    absurd (let none : None ≡ Some (txn_head_of b) = head b e.more (subst (λ (n : ℕ). Stands b (drop n (content told)) e.more) (sym p) (there (content told) at end b e)) in cc)

record_of : ℕ → TxnHead → TxnRecord
record_of place head = record { place = place; head = head }

same_record : (p q : ℕ) (g h : TxnHead) → p ≡ q → Some g ≡ Some h → Some (record_of p g) ≡ Some (record_of q h)
same_record p q g h a b = cc

pub head_there : (told : Told) (end long size place : ℕ) (head : TxnHead) → TellsLength told end (Some long) → end < 2 ^ 64 → size ≡ min (long + 8) 18446744073709551615 → place ≡ end - size → TellsHead told place (Some head) → TellsRecord told end (Some (record { place = place; head = head }))
unfolding record_of
head_there told end long size place head tells lt is here read = λ b at e.
    let p = place_is told end long size place b at tells lt is here e in
    same_record place at head (txn_head_of b) p (read b e.more (subst (λ (n : ℕ). Stands b (drop n (content told)) e.more) (sym p) (there (content told) at end b e)))

-- ---- how far the walk has come back

-- Those that were passed stand behind the end, and don't have the id; each of them has cost two calls.
pub record WalkedBack (told : Told) (known : OpenFile) (end tid calls now : ℕ) : Type 0 where
  pub knows : Knows told known
  pub newer : List Block
  pub older : List Block
  pub all : knows.file.blocks ≡ newer ++ older
  pub end_is : end ≡ length (bytes_of older)
  pub same : transaction (history_at told known.end) tid ≡ transaction (front_of older).history tid
  pub passed : AllByRecursion (IsPassed tid) newer
  pub within : now ≤ calls + 2 * length newer

pub walk_first : (told : Told) (known : OpenFile) (tid calls : ℕ) → Knows told known → WalkedBack told known known.end tid calls calls
walk_first told known tid calls k = record {
  knows = k;
  newer = [];
  older = k.file.blocks;
  all = refl;
  end_is = sym (long_file told known k) ∙ ap length k.file.spelled;
  same = ap (λ (f : Front). transaction f.history tid) k.file.said;
  passed = tt;
  within = omega arith;
}

-- what the walk has cost where it ends
pub walk_costs : (told : Told) (known : OpenFile) (end tid calls now more : ℕ) → WalkedBack told known end tid calls now → more ≤ now + 2 → CostsWalk told known.end tid calls more
walk_costs told known end tid calls now more w le = record {
  newer = w.newer;
  older = w.older;
  right = subst AreRight w.all w.knows.file.right;
  spelled = w.knows.file.spelled ∙ ap bytes_of w.all;
  passed = w.passed;
  within = omega (arith, w.within, le);
}

-- a walk that wasn't begun
pub no_walk : (told : Told) (known : OpenFile) (tid calls : ℕ) → Knows told known → CostsWalk told known.end tid calls calls
no_walk told known tid calls k = walk_costs told known known.end tid calls calls calls (walk_first told known tid calls k) (omega arith)

-- ---- the block that stands there

right_tail : (place t : ℕ) (rs : List Row) (b : Block) (i : Inside) → fault_in place t rs b i ≡ None → b.tail ≡ long_of b
unfolding fault_in
right_tail place t rs b (Skipped bytes) e = eqb-true b.tail (long_of b) (passed (b.tail == long_of b) None BadTail e).0
right_tail place t rs b (Records ds) e =
    let own = passed (nat_lt t b.tid && list_all (is_own b.tid place) ds) _ BadTid e in
    let prev = passed (list_all (has_prev rs) ds) _ BadPrev own.1 in
    let body = passed (list_all (has_body rs) ds) _ BadBack prev.1 in
    let counted = passed (is_counted b.status) _ BadStatus body.1 in
    eqb-true b.tail (long_of b) (passed (b.tail == long_of b) (cond (list_all has_no_version ds) None (Some BadVersion)) BadTail counted.1).0

right_bodies : (place t : ℕ) (rs : List Row) (b : Block) (ds : List Data) → fault_in place t rs b (Records ds) ≡ None → list_all (has_body rs) ds ≡ true
unfolding fault_in
right_bodies place t rs b ds e = (passed _ _ BadBack (passed _ _ BadPrev (passed _ _ BadTid e).1).1).0

-- a transaction more, which has another id
skips : (ts : List Transaction) (x : Transaction) (tid : ℕ) → (x.tid == tid) ≡ false → find (λ (y : Transaction). y.tid == tid) (ts ++ x ∷ []) ≡ find (λ (y : Transaction). y.tid == tid) ts
skips ts x tid other = find-append (λ (y : Transaction). y.tid == tid) ts (x ∷ []) ∙ rw other (no_more (find (λ (y : Transaction). y.tid == tid) ts))
  where
    no_more : (f : Option Transaction) → option_or f None ≡ f
    no_more None = refl
    no_more (Some y) = refl

hits : (ts : List Transaction) (x : Transaction) (tid : ℕ) → find (λ (y : Transaction). y.tid == tid) ts ≡ None → (x.tid == tid) ≡ true → find (λ (y : Transaction). y.tid == tid) (ts ++ x ∷ []) ≡ Some x
hits ts x tid none own = find-append (λ (y : Transaction). y.tid == tid) ts (x ∷ []) ∙ rw (none, own) refl

same_found : (f g : TxnRecord) → Some f ≡ Some g → f ≡ g
same_found f g e = cc

module _ (told : Told) (known : OpenFile) (end tid calls now : ℕ) (w : WalkedBack told known end tid calls now) (b : Block) (bs : List Block) (e : w.older ≡ b ∷ bs) where
  next : NextIs told known (length (bytes_of bs)) (front_of bs).history.transactions w.newer b
  next = record { knows = w.knows; gone = bs; all = w.all ∙ ap (λ (z : List Block). w.newer ++ z) e; place_is = refl; said = refl }

  rights_here : AreRight (b ∷ bs)
  unfolding next
  rights_here = rights told known (length (bytes_of bs)) (front_of bs).history.transactions w.newer b next

  more_here : List ℕ
  more_here = rest told known (length (bytes_of bs)) (front_of bs).history.transactions w.newer b next

  stands_here : Stands b (drop (length (bytes_of bs)) (content told)) more_here
  unfolding more_here
  stands_here = stands told known (length (bytes_of bs)) (front_of bs).history.transactions w.newer b next

  ends_here : EndsAt (content told) (length (bytes_of bs)) end b
  unfolding more_here next
  ends_here = record {
    front = bytes_of bs;
    more = more_here;
    fits = rights_here.0.fits;
    joined = content_is told known (length (bytes_of bs)) (front_of bs).history.transactions w.newer b next;
    at = refl;
    ends = omega (arith, w.end_is, ap (λ (z : List Block). length (bytes_of z)) e, length-append (bytes_of bs) (block_spelling b), length-block b);
    tail = right_tail (front_of bs).place (last (front_of bs).history) (rows (front_of bs).records) b b.inside rights_here.0.right;
  }

  -- the record that was found is this one
  found_here : (f : TxnRecord) → TellsRecord told end (Some f) → f ≡ record { place = length (bytes_of bs); head = txn_head_of b }
  found_here f tells = same_found f (record { place = length (bytes_of bs); head = txn_head_of b }) (tells b (length (bytes_of bs)) ends_here)

  -- no transaction before it has an id from its own on
  older_none : (ds : List Data) → b.inside ≡ Records ds → b.tid ≤ tid → transaction (front_of bs).history tid ≡ None
  older_none ds is le =
      let right = subst (λ (i : Inside). fault_in (front_of bs).place (last (front_of bs).history) (rows (front_of bs).records) b i ≡ None) is rights_here.0.right in
      let above : last (front_of bs).history < b.tid = rises (front_of bs).place (last (front_of bs).history) (rows (front_of bs).records) b ds right in
      find_none tid 0 (front_of bs).history.transactions (file_history (bytes_of bs) (front_of bs) (record { blocks = bs; right = rights_here.1; spelled = refl; said = refl })) (omega (arith, above, le))

  here_same : transaction (history_at told known.end) tid ≡ transaction (front_of (b ∷ bs)).history tid
  here_same = w.same ∙ ap (λ (z : List Block). transaction (front_of z).history tid) e

  counted_here : (b.status == 117) ≡ false → (ds : List Data) × (b.inside ≡ Records ds) × (transaction (history_at told known.end) tid ≡ find (λ (y : Transaction). y.tid == tid) ((front_of bs).history.transactions ++ transaction_of (front_of bs).records b ds ∷ []))
  counted_here counted =
      let c = counted_said (front_of bs) b b.inside rights_here.0.fits.inside counted in
      (c.0, c.1, here_same ∙ ap (λ (ts : List Transaction). find (λ (y : Transaction). y.tid == tid) ts) c.2)

  -- it is the one that is looked for
  sought_here : (f : TxnRecord) → TellsRecord told end (Some f) → is_with tid f.head ≡ true → IsSought told known.end tid f
  unfolding next
  sought_here f tells own = go (b.status == 117) refl
    where
      same : f ≡ record { place = length (bytes_of bs); head = txn_head_of b }
      same = found_here f tells

      hit : is_with tid (txn_head_of b) ≡ true
      hit = sym (ap (λ (r : TxnRecord). is_with tid r.head) same) ∙ own

      go : (t : Bool) → (b.status == 117) ≡ t → IsSought told known.end tid f
      go true undone = absurd (false≢true (ap (λ (u : Bool). cond u false (b.tid == tid)) (sym undone) ∙ hit))
      go false counted =
          let c = counted_here counted in
          let tid_is : (b.tid == tid) ≡ true = ap (λ (u : Bool). cond u false (b.tid == tid)) (sym counted) ∙ hit in
          let own_id : b.tid ≡ tid = eqb-true b.tid tid tid_is in
          let right = subst (λ (i : Inside). fault_in (front_of bs).place (last (front_of bs).history) (rows (front_of bs).records) b i ≡ None) c.1 rights_here.0.right in
          record {
            written = b;
            ds = c.0;
            more = more_here;
            records = (front_of bs).records;
            stands = subst (λ (r : TxnRecord). Stands b (drop r.place (content told)) more_here) (sym same) stands_here;
            inside = c.1;
            head = ap (λ (r : TxnRecord). r.head) same;
            all = all_stand told known (length (bytes_of bs)) (front_of bs).history.transactions w.newer b next;
            bodies = right_bodies (front_of bs).place (last (front_of bs).history) (rows (front_of bs).records) b c.0 right;
            is = c.2 ∙ hits (front_of bs).history.transactions (transaction_of (front_of bs).records b c.0) tid (older_none c.0 c.1 (omega (arith, own_id))) tid_is;
          }

  -- it is older than the one that is looked for
  past_here : (f : TxnRecord) → TellsRecord told end (Some f) → is_with tid f.head ≡ false → is_passed tid f.head ≡ false → transaction (history_at told known.end) tid ≡ None
  past_here f tells other not_passed = go (b.status == 117) refl
    where
      same : f ≡ record { place = length (bytes_of bs); head = txn_head_of b }
      same = found_here f tells

      missed : is_with tid (txn_head_of b) ≡ false
      missed = sym (ap (λ (r : TxnRecord). is_with tid r.head) same) ∙ other

      older : is_passed tid (txn_head_of b) ≡ false
      older = sym (ap (λ (r : TxnRecord). is_passed tid r.head) same) ∙ not_passed

      go : (t : Bool) → (b.status == 117) ≡ t → transaction (history_at told known.end) tid ≡ None
      go true undone = absurd (false≢true (sym older ∙ ap (λ (u : Bool). cond u true (nat_lt tid b.tid)) undone))
      go false counted =
          let c = counted_here counted in
          let tid_not : (b.tid == tid) ≡ false = ap (λ (u : Bool). cond u false (b.tid == tid)) (sym counted) ∙ missed in
          let not_later : nat_lt tid b.tid ≡ false = ap (λ (u : Bool). cond u true (nat_lt tid b.tid)) (sym counted) ∙ older in
          c.2 ∙ skips (front_of bs).history.transactions (transaction_of (front_of bs).records b c.0) tid tid_not ∙ older_none c.0 c.1 (grind (arith, nat_tests, not_later))

  -- it is passed
  passed_here : (f : TxnRecord) (more : ℕ) → TellsRecord told end (Some f) → is_with tid f.head ≡ false → is_passed tid f.head ≡ true → more ≤ now + 2 → WalkedBack told known f.place tid calls more
  passed_here f more tells other passing le = record {
    knows = w.knows;
    newer = w.newer ++ b ∷ [];
    older = bs;
    all = w.all ∙ ap (λ (z : List Block). w.newer ++ z) e ∙ sym (append_assoc w.newer (b ∷ []) bs);
    end_is = ap (λ (r : TxnRecord). r.place) same;
    same = go (b.status == 117) refl;
    passed = one_more w.newer w.passed;
    within = omega (arith, w.within, le, length-append w.newer (b ∷ []));
  }
    where
      same : f ≡ record { place = length (bytes_of bs); head = txn_head_of b }
      same = found_here f tells

      missed : is_with tid (txn_head_of b) ≡ false
      missed = sym (ap (λ (r : TxnRecord). is_with tid r.head) same) ∙ other

      one_more : (xs : List Block) → AllByRecursion (IsPassed tid) xs → AllByRecursion (IsPassed tid) (xs ++ b ∷ [])
      one_more [] h = (sym (ap (λ (r : TxnRecord). is_passed tid r.head) same) ∙ passing, tt)
      one_more (x ∷ xs) h = (h.0, one_more xs h.1)

      go : (t : Bool) → (b.status == 117) ≡ t → transaction (history_at told known.end) tid ≡ transaction (front_of bs).history tid
      go true undone = here_same ∙ ap (λ (ts : List Transaction). find (λ (y : Transaction). y.tid == tid) ts) (skipped_said (front_of bs) b b.inside rights_here.0.fits.inside undone)
      go false counted =
          let c = counted_here counted in
          let tid_not : (b.tid == tid) ≡ false = ap (λ (u : Bool). cond u false (b.tid == tid)) (sym counted) ∙ missed in
          c.2 ∙ skips (front_of bs).history.transactions (transaction_of (front_of bs).records b c.0) tid tid_not

-- ---- what a turn of the walk finds

-- behind the magic a record stands before the end
some_older : (told : Told) (known : OpenFile) (end tid calls now : ℕ) → (w : WalkedBack told known end tid calls now) → 4 < end → (b : Block) × (bs : List Block) × (w.older ≡ b ∷ bs)
some_older told known end tid calls now w lt = go w.older refl
  where
    go : (older : List Block) → w.older ≡ older → (b : Block) × (bs : List Block) × (w.older ≡ b ∷ bs)
    go [] e = absurd (let four : length (bytes_of w.older) ≡ 4 = ap (λ (z : List Block). length (bytes_of z)) e in omega (arith, lt, w.end_is, four))
    go (b ∷ bs) e = (b, bs, e)

pub walk_none : {X : Type 0} (told : Told) (known : OpenFile) (end tid calls now : ℕ) → WalkedBack told known end tid calls now → 4 < end → TellsRecord told end None → X
walk_none told known end tid calls now w lt tells =
    let s = some_older told known end tid calls now w lt in
    absurd (let none : None ≡ Some _ = tells s.0 (length (bytes_of s.1)) (ends_here told known end tid calls now w s.0 s.1 s.2) in cc)

pub walk_found : (told : Told) (known : OpenFile) (end tid calls now : ℕ) (f : TxnRecord) → WalkedBack told known end tid calls now → 4 < end → TellsRecord told end (Some f) → is_with tid f.head ≡ true → IsSought told known.end tid f
walk_found told known end tid calls now f w lt tells own =
    let s = some_older told known end tid calls now w lt in
    sought_here told known end tid calls now w s.0 s.1 s.2 f tells own

pub walk_past : (told : Told) (known : OpenFile) (end tid calls now : ℕ) (f : TxnRecord) → WalkedBack told known end tid calls now → 4 < end → TellsRecord told end (Some f) → is_with tid f.head ≡ false → is_passed tid f.head ≡ false → transaction (history_at told known.end) tid ≡ None
walk_past told known end tid calls now f w lt tells other older =
    let s = some_older told known end tid calls now w lt in
    past_here told known end tid calls now w s.0 s.1 s.2 f tells other older

pub walk_on : (told : Told) (known : OpenFile) (end tid calls now more : ℕ) (f : TxnRecord) → WalkedBack told known end tid calls now → 4 < end → TellsRecord told end (Some f) → is_with tid f.head ≡ false → is_passed tid f.head ≡ true → more ≤ now + 2 → WalkedBack told known f.place tid calls more
walk_on told known end tid calls now more f w lt tells other passing le =
    let s = some_older told known end tid calls now w lt in
    passed_here told known end tid calls now w s.0 s.1 s.2 f more tells other passing le

pub walk_end : (told : Told) (known : OpenFile) (end tid calls now : ℕ) → WalkedBack told known end tid calls now → end ≤ 4 → transaction (history_at told known.end) tid ≡ None
walk_end told known end tid calls now w le = go w.older refl
  where
    go : (older : List Block) → w.older ≡ older → transaction (history_at told known.end) tid ≡ None
    go [] e = w.same ∙ ap (λ (z : List Block). transaction (front_of z).history tid) e
    go (b ∷ bs) e = absurd (omega (arith, le, w.end_is, ap (λ (z : List Block). length (bytes_of z)) e, length-append (bytes_of bs) (block_spelling b), length-block b))

-- ---- the values of the transaction that was found

-- what is said of the values that were read behind this head
abbrev pub GivesValues : Told → ℕ → TxnHead → Option (List OidValue) → Type 0
GivesValues told place head found = (b : Block) (ds : List Data) (more : List ℕ) (records : List Earlier) → Stands b (drop place (content told)) more → b.inside ≡ Records ds → head ≡ txn_head_of b → AllStand (content told) records → list_all (has_body (rows records)) ds ≡ true → option_map records_in found ≡ Some (values_of records ds)

-- and of what they cost
abbrev pub CostsBehind : Told → ℕ → TxnHead → ℕ → ℕ → Type 0
CostsBehind told place head calls more = (b : Block) (ds : List Data) (more' : List ℕ) (records : List Earlier) → Stands b (drop place (content told)) more' → b.inside ≡ Records ds → head ≡ txn_head_of b → AllStand (content told) records → list_all (has_body (rows records)) ds ≡ true → CostsBodies (content told) ds calls more

pub values_none : (told : Told) (end tid : ℕ) → SoughtIn told end tid None → None ≡ option_map records_of (transaction (history_at told end) tid)
values_none told end tid none = sym (ap (option_map records_of) none)

pub values_found : (told : Told) (end tid : ℕ) (f : TxnRecord) (values : Option (List OidValue)) → SoughtIn told end tid (Some f) → GivesValues told f.place f.head values → option_map records_in values ≡ option_map records_of (transaction (history_at told end) tid)
values_found told end tid f values s gives = gives s.written s.ds s.more s.records s.stands s.inside s.head s.all s.bodies ∙ sym (ap (option_map records_of) s.is)

pub values_cost : (told : Told) (end tid calls mid more : ℕ) (f : TxnRecord) (values : Option (List OidValue)) → SoughtIn told end tid (Some f) → GivesValues told f.place f.head values → CostsWalk told end tid calls mid → CostsBehind told f.place f.head (mid + 1) more → CostsValues told end tid values calls more
values_cost told end tid calls mid more f None s gives walk costs = absurd (let none : None ≡ Some _ = gives s.written s.ds s.more s.records s.stands s.inside s.head s.all s.bodies in cc)
values_cost told end tid calls mid more f (Some values) s gives walk costs = record {
  walked = mid;
  walk = walk;
  found = f;
  sought = s;
  values = costs s.written s.ds s.more s.records s.stands s.inside s.head s.all s.bodies;
}

-- ---- the loads of its parts

pub loads_more : (told : Told) (end tid calls now more oid : ℕ) (past : History) (value : Value) (parts new : List Part) (p : Part) → p ≡ part_of past (oid, value) → new ≡ parts ++ p ∷ []
    → CostsLoads told end (tid - 1) (objects_of (reverse parts)) calls now → CostsLoad told end oid (tid - 1) now more → CostsLoads told end (tid - 1) (objects_of (reverse new)) calls more
loads_more told end tid calls now more oid past value parts new p part push had load =
    let own : p.oid ≡ oid = ap (λ (q : Part). q.oid) part in
    let turned : reverse new ≡ p ∷ reverse parts = ap reverse push ∙ reverse-append parts (p ∷ []) in
    subst (λ (ps : List Part). CostsLoads told end (tid - 1) (objects_of ps) calls more) (sym turned) (now, had, subst (λ (o : ℕ). CostsLoad told end o (tid - 1) now more) (sym own) load)
