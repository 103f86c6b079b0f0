-- The block that is read is the one that stands there.
use Rattle.std.proofs.Common.{◌≡◌, ℕ, ◌+◌, ◌-◌, ◌^◌, ◌<◌, ◌≤◌, Bool, true, false, cond, ◌&&◌, eqb, leb, List, ◌++◌, length, take, drop, Option, Some, None, refl, sym, ap, subst, ◌∙◌, append_assoc, arith}
use Rattle.std.specs.Prelude.{option_map}
use Rattle.std.proofs.lemmas.List.{length-append, length-take, length-drop, take-append-drop, drop-drop}
use Rattle.std.proofs.lemmas.Bool.{le-leb, leb-true, false≢true}
use Rattle.zbase.specs.Numbers.{be64}
use Rattle.fs_record.specs.declared.heads.TxnHead.{TxnHead}
use Rattle.fs_record.specs.declared.body.TxnTexts.{TxnTexts}
use Rattle.fs_record.specs.Spelling.{txn_head, txn_head_of, Data, Inside, Records, Skipped, Block, block_spelling, long_of, texts_spelling, inside_spelling}
use Rattle.fs_record.specs.Fits.{FitsTxnHead, FitsInside, FitsBlock}
use Rattle.fs_record.specs.SpellingLaws.{same_txn_head, txn_head_from, same_parts, length-block, length-texts}
use Rattle.fs_record.specs.Opening.{NoBlock, Stands}
use Rattle.fs_record.specs.Reading.{u64_read, txn_head_read, records_read, texts_end, texts_read, area_read, inside_read, block_with, has_room, block_read}
use Rattle.fs_record.specs.HeadLaws.{IsBytes, IsBytes-drop, IsBytes-take, u64_stands, u64_below, txn_head_stands, txn_head_fits}
use Rattle.fs_record.specs.RecordLaws.{RecordsSay, records_say}

-- what is read at the front, or that no block stands there
abbrev pub BlockSays : List ℕ → Option (Block × List ℕ) → Type 0
BlockSays bytes None = NoBlock bytes
BlockSays bytes (Some found) = Stands found.0 bytes found.1

pub regroup : (h t i l x : List ℕ) → (((h ++ t) ++ i) ++ l) ++ x ≡ h ++ (t ++ (i ++ (l ++ x)))
regroup h t i l x = simp append_assoc

block_head : (bytes : List ℕ) (b : Block) (more : List ℕ) → IsBytes bytes → FitsBlock b → bytes ≡ block_spelling b ++ more → txn_head_read bytes ≡ txn_head_of b
unfolding block_spelling
block_head bytes b more bs fits e =
    let long : 23 ≤ length bytes = omega (arith, ap length e, length-append (block_spelling b) more, length-block b) in
    (same_txn_head (txn_head_read bytes) (txn_head_of b) (drop 23 bytes) (texts_spelling b.texts ++ (inside_spelling b.inside ++ (be64 b.tail ++ more))) (txn_head_fits bytes bs) fits.head
    (sym (txn_head_stands bytes bs long) ∙ e ∙ regroup (txn_head (txn_head_of b)) (texts_spelling b.texts) (inside_spelling b.inside) (be64 b.tail) more)).0

pub both : (a b : Bool) → a ≡ true → b ≡ true → (a && b) ≡ true
both a b p q = rw (p, q) refl

first_of_both : (a b : Bool) → (a && b) ≡ true → a ≡ true
first_of_both true b e = refl
first_of_both false b e = absurd (false≢true e)

second_of_both : (a b : Bool) → (a && b) ≡ true → b ≡ true
second_of_both true b e = e
second_of_both false b e = absurd (false≢true e)

no_room : (bytes : List ℕ) → IsBytes bytes → has_room (txn_head_read bytes) (length bytes) ≡ false → NoBlock bytes
no_room bytes bs none b more fits e =
    let h = block_head bytes b more bs fits e in
    let room : has_room (txn_head_of b) (length bytes) ≡ true = both (leb (texts_end (txn_head_of b)) (long_of b)) (leb (long_of b + 8) (length bytes))
    (le-leb (texts_end (txn_head_of b)) (long_of b) (omega (arith, length-texts b)))
    (le-leb (long_of b + 8) (length bytes) (omega (arith, ap length e, length-append (block_spelling b) more, length-block b))) in
    false≢true (sym none ∙ ap (λ (g : TxnHead). has_room g (length bytes)) h ∙ room)

-- the bytes begin with a transaction with this head, whatever its inside is taken for
pub record IsWhole (bytes : List ℕ) (h : TxnHead) : Type 0 where
  pub head : FitsTxnHead h
  pub size : long_of (block_with h bytes (Skipped (area_read h bytes))) ≡ h.length
  pub same : h ≡ txn_head_of (block_with h bytes (Skipped (area_read h bytes)))
  pub tail : u64_read h.length bytes < 2 ^ 64
  pub spelled : bytes ≡ block_spelling (block_with h bytes (Skipped (area_read h bytes))) ++ drop (h.length + 8) bytes

-- a list is its parts
cut4 : (u d e i : ℕ) (s : List ℕ) → s ≡ ((take u s ++ take d (drop u s)) ++ take e (drop (u + d) s)) ++ (take i (drop (u + d + e) s) ++ drop (u + d + e + i) s)
cut4 u d e i s =
    let a = sym (take-append-drop u s) in
    let b = sym (take-append-drop d (drop u s)) ∙ ap (λ (x : List ℕ). take d (drop u s) ++ x) (drop-drop d u s) in
    let c = sym (take-append-drop e (drop (u + d) s)) ∙ ap (λ (x : List ℕ). take e (drop (u + d) s) ++ x) (drop-drop e (u + d) s) in
    let f = sym (take-append-drop i (drop (u + d + e) s)) ∙ ap (λ (x : List ℕ). take i (drop (u + d + e) s) ++ x) (drop-drop i (u + d + e) s) in
    simp append_assoc (a ∙ ap (λ (x : List ℕ). take u s ++ x) (b ∙ ap (λ (x : List ℕ). take d (drop u s) ++ x) (c ∙ ap (λ (x : List ℕ). take e (drop (u + d) s) ++ x) f)))

put_together : (hd t i l x behind rest : List ℕ) → rest ≡ hd ++ behind → behind ≡ t ++ (i ++ (l ++ x)) → rest ≡ (((hd ++ t) ++ i) ++ l) ++ x
put_together hd t i l x behind rest a b = a ∙ ap (λ (z : List ℕ). hd ++ z) b ∙ sym (regroup hd t i l x)

the_from : (u d x : ℕ) → 23 + (u + d + x) ≡ 23 + u + d + x
the_from u d x = omega arith

the_end : (u d x long : ℕ) → 23 + u + d + x ≤ long → 23 + (u + d + x + (long - (23 + u + d + x))) ≡ long
the_end u d x long le = omega arith

pub whole_is : (bytes : List ℕ) (h : TxnHead) → bytes ≡ txn_head h ++ drop 23 bytes → FitsTxnHead h → 23 + h.user + h.description + h.extension ≤ h.length → h.length + 8 ≤ length bytes
    → drop h.length bytes ≡ be64 (u64_read h.length bytes) ++ drop (h.length + 8) bytes → u64_read h.length bytes < 2 ^ 64 → IsWhole bytes h
unfolding block_spelling
whole_is bytes h e fits within room t lt =
    let u = h.user in
    let d = h.description in
    let x = h.extension in
    let behind = drop 23 bytes in
    let i = h.length - texts_end h in
    let b = block_with h bytes (Skipped (area_read h bytes)) in
    let lb : length behind ≡ length bytes - 23 = length-drop 23 bytes in
    let area : take i (drop (u + d + x) behind) ≡ area_read h bytes = ap (λ (s : List ℕ). take i s) (drop-drop (u + d + x) 23 bytes ∙ ap (λ (n : ℕ). drop n bytes) (the_from u d x)) in
    let last : drop (u + d + x + i) behind ≡ be64 (u64_read h.length bytes) ++ drop (h.length + 8) bytes = drop-drop (u + d + x + i) 23 bytes ∙ ap (λ (n : ℕ). drop n bytes) (the_end u d x h.length within) ∙ t in
    let lu : length (take u behind) ≡ u = omega (arith, length-take u behind, lb) in
    let ld : length (take d (drop u behind)) ≡ d = omega (arith, length-take d (drop u behind), length-drop u behind, lb) in
    let lx : length (take x (drop (u + d) behind)) ≡ x = omega (arith, length-take x (drop (u + d) behind), length-drop (u + d) behind, lb) in
    let la : length (area_read h bytes) ≡ i = omega (arith, length-take i (drop (texts_end h) bytes), length-drop (texts_end h) bytes) in
    let size : long_of b ≡ h.length = omega (arith, length-append (take u behind) (take d (drop u behind)), length-append (take u behind ++ take d (drop u behind)) (take x (drop (u + d) behind)), lu, ld, lx, la) in
    let same : h ≡ txn_head_of b = txn_head_from h (txn_head_of b) refl (sym size) refl (sym lu) (sym ld) (sym lx) in
    let cut : behind ≡ texts_spelling b.texts ++ (area_read h bytes ++ (be64 (u64_read h.length bytes) ++ drop (h.length + 8) bytes)) = cut4 u d x i behind ∙ ap (λ (s : List ℕ). texts_spelling b.texts ++ (s ++ drop (u + d + x + i) behind)) area ∙ ap (λ (s : List ℕ). texts_spelling b.texts ++ (area_read h bytes ++ s)) last in
    record {
      head = fits;
      size = size;
      same = same;
      tail = lt;
      spelled = put_together (txn_head (txn_head_of b)) (texts_spelling b.texts) (area_read h bytes) (be64 (u64_read h.length bytes)) (drop (h.length + 8) bytes) behind bytes (e ∙ ap (λ (g : TxnHead). txn_head g ++ behind) same) cut;
    }

-- the inside counts by its spelling
with_inside : (tid status : ℕ) (texts : TxnTexts) (i j : Inside) (tail : ℕ) → inside_spelling i ≡ inside_spelling j → block_spelling (record { tid = tid; status = status; texts = texts; inside = i; tail = tail }) ≡ block_spelling (record { tid = tid; status = status; texts = texts; inside = j; tail = tail })
unfolding block_spelling
with_inside tid status texts i j tail e = rw e refl

pub inside_stands : (bytes : List ℕ) (h : TxnHead) (i : Inside) → IsWhole bytes h → inside_spelling i ≡ area_read h bytes → FitsInside h.status i → Stands (block_with h bytes i) bytes (drop (h.length + 8) bytes)
inside_stands bytes h i whole e fits =
    let same : h ≡ txn_head_of (block_with h bytes i) = whole.same ∙ ap (λ (s : List ℕ). record { tid = h.tid; length = 23 + length (texts_spelling (texts_read h (drop 23 bytes))) + length s; status = h.status; user = length (take h.user (drop 23 bytes)); description = length (take h.description (drop h.user (drop 23 bytes))); extension = length (take h.extension (drop (h.user + h.description) (drop 23 bytes))) }) (sym e) in
    record {
      fits = record { head = subst FitsTxnHead same whole.head; tail = whole.tail; inside = fits };
      spelled = whole.spelled ∙ ap (λ (s : List ℕ). s ++ drop (h.length + 8) bytes) (with_inside h.tid h.status (texts_read h (drop 23 bytes)) (Skipped (area_read h bytes)) i (u64_read h.length bytes) (sym e));
    }

no_records : (status : ℕ) (area : List ℕ) (i : Inside) → eqb status 117 ≡ false → FitsInside status i → area ≡ inside_spelling i → RecordsSay area None → ⊥
no_records status area (Records ds) u fits e lacks = lacks ds fits.1 e
no_records status area (Skipped bytes) u fits e lacks = false≢true (sym u ∙ fits)

no_inside : (bytes : List ℕ) (h : TxnHead) → IsWhole bytes h → eqb h.status 117 ≡ false → RecordsSay (area_read h bytes) None → NoBlock bytes
no_inside bytes h whole u lacks b more fits e =
    let skipped = block_with h bytes (Skipped (area_read h bytes)) in
    let s = same_parts skipped b (drop (h.length + 8) bytes) more (subst FitsTxnHead whole.same whole.head) whole.tail fits.head fits.tail (sym whole.spelled ∙ e) in
    no_records b.status (area_read h bytes) b.inside (ap (λ (n : ℕ). eqb n 117) (sym s.0.status) ∙ u) fits.inside s.0.inside lacks

records_inside : (bytes : List ℕ) (h : TxnHead) (o : Option (List Data)) → IsWhole bytes h → eqb h.status 117 ≡ false → RecordsSay (area_read h bytes) o
    → BlockSays bytes (option_map (λ (i : Inside). (block_with h bytes i, drop (h.length + 8) bytes)) (option_map Records o))
records_inside bytes h None whole u says = no_inside bytes h whole u says
records_inside bytes h (Some ds) whole u says = inside_stands bytes h (Records ds) whole (sym says.1) (u, says.0)

inside_by : (bytes : List ℕ) (h : TxnHead) (undone : Bool) (o : Option (List Data)) → IsWhole bytes h → eqb h.status 117 ≡ undone → RecordsSay (area_read h bytes) o
    → BlockSays bytes (option_map (λ (i : Inside). (block_with h bytes i, drop (h.length + 8) bytes)) (cond undone (Some (Skipped (area_read h bytes))) (option_map Records o)))
inside_by bytes h true o whole u says = inside_stands bytes h (Skipped (area_read h bytes)) whole refl u
inside_by bytes h false o whole u says = records_inside bytes h o whole u says

block_by_room : (bytes : List ℕ) (room : Bool) → IsBytes bytes → has_room (txn_head_read bytes) (length bytes) ≡ room
    → BlockSays bytes (cond room (option_map (λ (i : Inside). (block_with (txn_head_read bytes) bytes i, drop ((txn_head_read bytes).length + 8) bytes)) (inside_read (txn_head_read bytes).status (area_read (txn_head_read bytes) bytes))) None)
block_by_room bytes false bs e = no_room bytes bs e
block_by_room bytes true bs e =
    let h = txn_head_read bytes in
    let within : texts_end h ≤ h.length = leb-true _ _ (first_of_both _ _ e) in
    let room : h.length + 8 ≤ length bytes = leb-true _ _ (second_of_both _ _ e) in
    let area = area_read h bytes in
    let whole = whole_is bytes h (txn_head_stands bytes bs (omega arith)) (txn_head_fits bytes bs) within room (u64_stands h.length bytes bs room) (u64_below h.length bytes bs) in
    inside_by bytes h _ (records_read (length area) area) whole refl (records_say (length area) area (IsBytes-take _ _ (IsBytes-drop _ bytes bs)) (omega arith))

pub block_says : (bytes : List ℕ) → IsBytes bytes → BlockSays bytes (block_read bytes)
unfolding block_read
block_says bytes bs = block_by_room bytes _ bs refl
