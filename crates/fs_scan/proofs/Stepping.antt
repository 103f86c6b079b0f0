-- The damage of what stands, or the transaction.
use Rattle.std.proofs.Common.{◌≡◌, ℕ, ◌+◌, true, false, eqb, List, [], ◌++◌, length, drop, Some, None, refl, sym, ap, ◌∙◌, arith, inr}
use Rattle.std.specs.List.{flat_map}
use Rattle.std.proofs.lemmas.Bool.{eq-eqb, ne_eqb, false≢true}
use Rattle.fs_record.specs.declared.body.TxnTexts.{TxnTexts}
use Rattle.fs_record.specs.Spelling.{Data, Inside, Records, Skipped, Block, data_spelling, txn_head_of, block_spelling, long_of, texts_spelling, inside_spelling}
use Rattle.fs_record.specs.Fits.{FitsTxnHead, FitsInside, FitsBlock}
use Rattle.fs_record.specs.SpellingLaws.{same_parts, txn_head_from}
use Rattle.zbase.specs.declared.ids.Row.{Row}
use Rattle.fs_record.specs.declared.damage.Damage.{Damage}
use Rattle.fs_record.specs.declared.damage.Damage.TheVariants.{BadTail}
use Rattle.fs_record.specs.File.{fault_in}
use Rattle.fs_record.specs.Opening.{NoBlock, Stands}
use Rattle.fs_scan.specs.declared.judging.Marks.{Marks}
use Rattle.fs_scan.specs.declared.extent.Extent.{Extent}
use Rattle.fs_scan.specs.declared.extent.Extent.{Extent}
use Rattle.fs_scan.specs.Marked.{Marked, AreRecords, NoRecords, Read, places_from}
use Rattle.fs_record.specs.Reading.{texts_read}
use Rattle.fs_scan.specs.Extent.{area_in, block_in, IsWhole}
use Rattle.fs_scan.specs.Taking.{fault_by, Takes, IsDamageAt}

-- the inside counts by its spelling
spelled_alike : (tid status : ℕ) (texts : TxnTexts) (i j : Inside) (tail : ℕ) → inside_spelling i ≡ inside_spelling j → block_spelling (record { tid = tid; status = status; texts = texts; inside = i; tail = tail }) ≡ block_spelling (record { tid = tid; status = status; texts = texts; inside = j; tail = tail })
unfolding block_spelling
spelled_alike tid status texts i j tail e = rw e refl

head_fits : (rest : List ℕ) (w : Extent) (i : Inside) → IsWhole rest w → inside_spelling i ≡ area_in w rest → FitsTxnHead (txn_head_of (block_in w rest i))
head_fits rest w i whole e = record {
  tid = whole.head.tid;
  length = omega (arith, whole.head.length, whole.size, whole.long, ap length e);
  user = omega (arith, whole.user, whole.head.user);
  description = omega (arith, whole.description, whole.head.description);
  extension = omega (arith, whole.extension, whole.head.extension);
}

-- with an inside that is spelled so
inside_stands : (rest : List ℕ) (w : Extent) (i : Inside) → IsWhole rest w → inside_spelling i ≡ area_in w rest → FitsInside w.head.status i → Stands (block_in w rest i) rest (drop (w.long + 8) rest)
inside_stands rest w i whole e fits =
    let skipped = block_in w rest (Skipped (area_in w rest)) in
    let alike = spelled_alike w.head.tid w.head.status (texts_read w.head (drop 23 rest)) (Skipped (area_in w rest)) i w.tail (sym e) in
    record {
      fits = record { head = head_fits rest w i whole e; tail = whole.tail; inside = fits };
      spelled = whole.spelled ∙ ap (λ (s : List ℕ). s ++ drop (w.long + 8) rest) alike;
    }

-- what stands has an inside that is spelled so
pub only_inside : (rest : List ℕ) (w : Extent) (b : Block) (more : List ℕ) → IsWhole rest w → FitsBlock b → rest ≡ block_spelling b ++ more → (area_in w rest ≡ inside_spelling b.inside) × (w.head.status ≡ b.status)
only_inside rest w b more whole fits e =
    let s = same_parts (block_in w rest (Skipped (area_in w rest))) b (drop (w.long + 8) rest) more (head_fits rest w (Skipped (area_in w rest)) whole refl) whole.tail fits.head fits.tail (sym whole.spelled ∙ e) in
    (s.0.inside, s.0.status)

no_records_no_block : (status : ℕ) (area : List ℕ) (i : Inside) → (eqb status 117) ≡ false → FitsInside status i → area ≡ inside_spelling i → NoRecords area → ⊥
no_records_no_block status area (Records ds) u fits e lacks = lacks ds (record { fits = fits.1; spelled = e })
no_records_no_block status area (Skipped bytes) u fits e lacks = false≢true (sym u ∙ fits)

pub bad_length : (rest : List ℕ) (w : Extent) → IsWhole rest w → (w.head.status ≡ 117 → ⊥) → NoRecords (area_in w rest) → NoBlock rest
bad_length rest w whole u lacks b more fits e =
    let o = only_inside rest w b more whole fits e in
    no_records_no_block b.status (area_in w rest) b.inside (ap (λ (s : ℕ). eqb s 117) (sym o.1) ∙ ne_eqb w.head.status 117 u) fits.inside o.0 lacks

-- a skipped transaction
pub skipped_right : (rest : List ℕ) (w : Extent) (place t : ℕ) (rows : List Row) → IsWhole rest w → w.head.status ≡ 117 → w.tail ≡ w.head.length → Takes rest place t rows rows w
unfolding fault_in
skipped_right rest w place t rows whole u e =
    let b = block_in w rest (Skipped (area_in w rest)) in
    let tail : eqb w.tail (long_of b) ≡ true = eq-eqb _ _ (e ∙ sym whole.long ∙ sym whole.size) in
    record {
      whole = whole;
      inside = Skipped (area_in w rest);
      stands = inside_stands rest w (Skipped (area_in w rest)) whole refl (eq-eqb _ _ u);
      right = rw tail refl;
      size = whole.size;
      rows = refl;
    }

pub skipped_tail : (rest : List ℕ) (w : Extent) (place last : ℕ) (rows : List Row) → IsWhole rest w → w.head.status ≡ 117 → (w.tail ≡ w.head.length → ⊥) → IsDamageAt rest place last rows BadTail
unfolding fault_in
skipped_tail rest w place last rows whole u t =
    let b = block_in w rest (Skipped (area_in w rest)) in
    let tail : eqb w.tail (long_of b) ≡ false = ne_eqb _ _ (λ e. t (e ∙ whole.size ∙ whole.long)) in
    inr (b, drop (w.long + 8) rest, inside_stands rest w (Skipped (area_in w rest)) whole refl (eq-eqb _ _ u), rw tail refl)

-- a transaction with records
fault_is : (rest : List ℕ) (w : Extent) (place last : ℕ) (rows : List Row) (marks : Marks) (ds : List Data) → IsWhole rest w → flat_map data_spelling ds ≡ area_in w rest → Marked rows w.head.tid place marks ds
    → fault_in place last rows (block_in w rest (Records ds)) (Records ds) ≡ fault_by last w.head.tid w.head.status w.tail w.head.length marks
unfolding fault_in
fault_is rest w place last rows marks ds whole e m =
    let long : long_of (block_in w rest (Records ds)) ≡ w.head.length = ap (λ (s : List ℕ). 23 + length (texts_spelling (texts_read w.head (drop 23 rest))) + length s) e ∙ whole.size ∙ whole.long in
    rw (long, m.own, m.prev, m.back, m.version) refl

pub records_stand : (rest : List ℕ) (w : Extent) (ds : List Data) → IsWhole rest w → (w.head.status ≡ 117 → ⊥) → AreRecords (area_in w rest) ds → Stands (block_in w rest (Records ds)) rest (drop (w.long + 8) rest)
records_stand rest w ds whole u are = inside_stands rest w (Records ds) whole (sym are.spelled) (ne_eqb _ _ u, are.fits)

pub records_right : (rest : List ℕ) (w : Extent) (place t : ℕ) (old rows new : List Row) (marks : Marks) → IsWhole rest w → (w.head.status ≡ 117 → ⊥) → Read (area_in w rest) old [] rows (place + w.from) w.head.tid place marks
    → fault_by t w.head.tid w.head.status w.tail w.head.length marks ≡ None → new ≡ old ++ rows → Takes rest place t old new w
records_right rest w place t old rows new marks whole u r none added =
    let b = block_in w rest (Records r.ds) in
    record {
      whole = whole;
      inside = Records r.ds;
      stands = records_stand rest w r.ds whole u r.are;
      right = fault_is rest w place t old marks r.ds whole (sym r.are.spelled) r.marked ∙ none;
      size = ap (λ (s : List ℕ). 23 + length (texts_spelling (texts_read w.head (drop 23 rest))) + length s) (sym r.are.spelled) ∙ whole.size;
      rows = added ∙ ap (λ (s : List Row). old ++ s) r.rows ∙ ap (λ (n : ℕ). old ++ places_from n r.ds) (omega (arith, whole.from, whole.user, whole.description, whole.extension));
    }

pub records_wrong : (rest : List ℕ) (w : Extent) (place last : ℕ) (old begin rows : List Row) (marks : Marks) (kind : Damage) → IsWhole rest w → (w.head.status ≡ 117 → ⊥) → Read (area_in w rest) old begin rows (place + w.from) w.head.tid place marks
    → fault_by last w.head.tid w.head.status w.tail w.head.length marks ≡ Some kind → IsDamageAt rest place last old kind
records_wrong rest w place last old begin rows marks kind whole u r some =
    inr (block_in w rest (Records r.ds), drop (w.long + 8) rest, records_stand rest w r.ds whole u r.are, fault_is rest w place last old marks r.ds whole (sym r.are.spelled) r.marked ∙ some)

-- the head of what stands there
pub head_of_block : (rest : List ℕ) (w : Extent) (i : Inside) → IsWhole rest w → long_of (block_in w rest i) ≡ w.long → w.head ≡ txn_head_of (block_in w rest i)
head_of_block rest w i whole size = txn_head_from w.head (txn_head_of (block_in w rest i)) refl (sym (size ∙ whole.long)) refl (sym whole.user) (sym whole.description) (sym whole.extension)
