-- The head, the texts and the records of a transaction, read where it stands.
use Rattle.std.proofs.Common.{◌≡◌, ℕ, ◌+◌, ◌-◌, ◌<◌, ◌≤◌, ◌^◌, true, List, ◌++◌, length, take, drop, Option, Some, None, IfSome, refl, sym, ap, subst, ◌∙◌, append_assoc, append-nil, arith}
use Rattle.std.specs.Prelude.{min, MatchOption}
use Rattle.std.specs.Option.{ForSome, option_map}
use Rattle.std.specs.List.{list_all}
use Rattle.std.proofs.lemmas.List.{length-append, length-drop, take-append-drop, take_all, take_at, drop_at, drop-drop, drop_all}
use Rattle.zbase.specs.Numbers.{be64}
use Rattle.zdisk.specs.Disk.{Told, bytes_at, content}
use Rattle.fs_record.specs.declared.heads.TxnHead.{TxnHead}
use Rattle.fs_record.specs.declared.body.TxnTexts.{TxnTexts}
use Rattle.fs_record.specs.File.{Earlier, has_body, rows, values_of}
use Rattle.fs_record.specs.Fits.{FitsInside, FitsTxnHead}
use Rattle.fs_record.specs.Opening.{Stands}
use Rattle.fs_record.specs.Reading.{texts_end, texts_read}
use Rattle.fs_record.specs.Spelling.{Block, Data, Inside, Records, block_spelling, inside_spelling, long_of, texts_spelling, txn_head, txn_head_of}
use Rattle.fs_record.specs.SpellingLaws.{length-block, length-texts, length-txn_head, same_txn_head}
use Rattle.fs_scan.specs.declared.wholes.OidValue.{OidValue}
use Rattle.fs_scan.specs.Followed.{MeansValues}
use Rattle.fs_scan.specs.Marked.{AreRecords, NoRecords}
use Rattle.fs_scan.specs.Present.{AllStand}
use Rattle.fs_scan.specs.Wholes.{records_in}
use Rattle.fs_scan.specs.Backs.{CostsBodies}
use Rattle.fs_scan.proofs.ValuesRead.{CostAll, dearer, free}
use Rattle.fs_scan.proofs.Walking.{same_ds}

-- ---- the head

-- what is said of the head that was read there
abbrev pub HasHead : Option Told → ℕ → Option TxnHead → Type 0
HasHead disk at head = IfSome disk (λ told. (b : Block) (more : List ℕ) → Stands b (drop at (content told)) more → head ≡ Some (txn_head_of b))

-- a transaction that stands there ends within the file
within : (told : Told) (at : ℕ) (b : Block) (more : List ℕ) → Stands b (drop at (content told)) more → at + long_of b + 8 ≤ length (content told)
within told at b more s = omega (arith, ap length s.spelled, length-append (block_spelling b) more, length-block b, length-drop at (content told))

pub no_head : (disk : Option Told) (len at left : ℕ) → ForSome disk (λ told. len ≡ length (content told)) → left ≡ len - at → left < 23 → HasHead disk at None
no_head None len at left whole e few = tt
no_head (Some told) len at left whole e few = λ b more s. absurd (omega (arith, within told at b more s, whole told refl, e, few))

pub short_head : (disk : Option Told) (at : ℕ) → IfSome disk (λ told. length (content told) < at + 23) → HasHead disk at None
short_head None at short = tt
short_head (Some told) at short = λ b more s. absurd (omega (arith, within told at b more s, short))

-- bytes whose head was read
headed : (rest piece : List ℕ) (h : TxnHead) → piece ≡ take 23 rest → piece ≡ txn_head h ++ drop 23 piece → length piece ≡ 23 → rest ≡ txn_head h ++ drop 23 rest
headed rest piece h p read long =
    sym (take-append-drop 23 rest) ∙ ap (λ (x : List ℕ). x ++ drop 23 rest) (sym p ∙ read ∙ ap (λ (x : List ℕ). txn_head h ++ x) (drop_all 23 piece (omega arith)) ∙ append-nil (txn_head h))

regroup : (h t i l x : List ℕ) → (((h ++ t) ++ i) ++ l) ++ x ≡ (h ++ t) ++ (i ++ (l ++ x))
regroup h t i l x = simp append_assoc

-- the head and the texts, and what stands behind them
behind_texts : Block → List ℕ → List ℕ
behind_texts b more = inside_spelling b.inside ++ (be64 b.tail ++ more)

fronted : (b : Block) (rest more : List ℕ) → Stands b rest more → rest ≡ (txn_head (txn_head_of b) ++ texts_spelling b.texts) ++ behind_texts b more
unfolding block_spelling behind_texts
fronted b rest more s = s.spelled ∙ regroup (txn_head (txn_head_of b)) (texts_spelling b.texts) (inside_spelling b.inside) (be64 b.tail) more

pub reads_head : (disk : Option Told) (at : ℕ) (piece : List ℕ) (h : TxnHead) → IfSome disk (λ told. piece ≡ bytes_at told at (length piece)) → piece ≡ txn_head h ++ drop 23 piece → length piece ≡ 23 → FitsTxnHead h → HasHead disk at (Some h)
reads_head None at piece h there read long fits = tt
reads_head (Some told) at piece h there read long fits = λ b more s.
    let rest = drop at (content told) in
    let own = headed rest piece h (there ∙ ap (λ (n : ℕ). take n rest) long) read long in
    ap Some (same_txn_head h (txn_head_of b) (drop 23 rest) (texts_spelling b.texts ++ behind_texts b more) fits s.fits.head (sym own ∙ fronted b rest more s ∙ append_assoc (txn_head (txn_head_of b)) (texts_spelling b.texts) (behind_texts b more))).0

-- ---- the texts

-- what is said of the texts that were read behind this head
abbrev pub HasTexts : Option Told → ℕ → TxnHead → Option TxnTexts → Type 0
HasTexts disk at h texts = IfSome disk (λ told. (b : Block) (more : List ℕ) → Stands b (drop at (content told)) more → h ≡ txn_head_of b → texts ≡ Some b.texts)

end_of : (h : TxnHead) (b : Block) → h ≡ txn_head_of b → texts_end h ≡ 23 + length (texts_spelling b.texts)
end_of h b e = ap texts_end e ∙ (omega (arith, length-texts b))

pub no_texts : (disk : Option Told) (at size : ℕ) (h : TxnHead) → IfSome disk (λ told. length (content told) < at + size) → size ≡ texts_end h → HasTexts disk at h None
no_texts None at size h short is = tt
no_texts (Some told) at size h short is = λ b more s e. absurd (omega (arith, within told at b more s, end_of h b e, is, short))

made : List ℕ → List ℕ → List ℕ → TxnTexts
made u d x = record { user = u; description = d; extension = x }

same_made : (u u' d d' x x' : List ℕ) → u ≡ u' → d ≡ d' → x ≡ x' → made u d x ≡ made u' d' x'
same_made u u' d d' x x' a b c = cc

-- texts are read as they are spelled
texts_back : (b : Block) → texts_read (txn_head_of b) (texts_spelling b.texts) ≡ b.texts
unfolding made
texts_back b =
    let u = b.texts.user in
    let d = b.texts.description in
    let x = b.texts.extension in
    same_made (take (length u) ((u ++ d) ++ x)) u (take (length d) (drop (length u) ((u ++ d) ++ x))) d (take (length x) (drop (length u + length d) ((u ++ d) ++ x))) x
    (ap (take (length u)) (append_assoc u d x) ∙ take_at u (d ++ x) (length u) refl)
    (ap (take (length d)) (ap (drop (length u)) (append_assoc u d x) ∙ drop_at u (d ++ x) (length u) refl) ∙ take_at d x (length d) refl)
    (ap (take (length x)) (drop_at (u ++ d) x (length u + length d) (length-append u d)) ∙ take_all (length x) x (omega arith))

long_front : (b : Block) → length (txn_head (txn_head_of b) ++ texts_spelling b.texts) ≡ 23 + length (texts_spelling b.texts)
long_front b = omega (arith, length-append (txn_head (txn_head_of b)) (texts_spelling b.texts), length-txn_head (txn_head_of b))

pub reads_texts : (disk : Option Told) (at size : ℕ) (h : TxnHead) (piece : List ℕ) (texts : TxnTexts) → IfSome disk (λ told. piece ≡ bytes_at told at size) → size ≡ texts_end h → texts ≡ texts_read h (drop 23 piece) → HasTexts disk at h (Some texts)
reads_texts None at size h piece texts there is read = tt
reads_texts (Some told) at size h piece texts there is read = λ b more s e.
    let front = txn_head (txn_head_of b) ++ texts_spelling b.texts in
    let piece_is : piece ≡ front = there ∙ ap (take size) (fronted b (drop at (content told)) more s) ∙ take_at front (behind_texts b more) size (long_front b ∙ sym (is ∙ end_of h b e)) in
    let behind : drop 23 piece ≡ texts_spelling b.texts = ap (drop 23) piece_is ∙ drop_at (txn_head (txn_head_of b)) (texts_spelling b.texts) 23 (length-txn_head (txn_head_of b)) in
    ap Some (read ∙ ap (texts_read h) behind ∙ ap (λ (g : TxnHead). texts_read g (texts_spelling b.texts)) e ∙ texts_back b)

-- ---- the values

-- what is said of the values that were read behind this head
abbrev pub HasValues : Option Told → ℕ → TxnHead → Option (List OidValue) → Type 0
HasValues disk at h found = IfSome disk (λ told. (b : Block) (ds : List Data) (more : List ℕ) (records : List Earlier) → Stands b (drop at (content told)) more → b.inside ≡ Records ds → h ≡ txn_head_of b → AllStand (content told) records → list_all (has_body (rows records)) ds ≡ true → option_map records_in found ≡ Some (values_of records ds))

long_is : (h : TxnHead) (b : Block) → h ≡ txn_head_of b → h.length ≡ long_of b
long_is h b e = ap (λ (g : TxnHead). g.length) e

pub no_area : (disk : Option Told) (at : ℕ) (h : TxnHead) → h.length < texts_end h → HasValues disk at h None
no_area None at h less = tt
no_area (Some told) at h less = λ b ds more records s is e stand right. absurd (omega (arith, long_is h b e, end_of h b e, less))

pub short_area : (disk : Option Told) (at place size : ℕ) (h : TxnHead) → IfSome disk (λ told. length (content told) < place + size) → place ≡ min (at + texts_end h) 18446744073709551615 → size ≡ h.length - texts_end h → texts_end h ≤ h.length → HasValues disk at h None
short_area None at place size h short here long le = tt
short_area (Some told) at place size h short here long le = λ b ds more records s is e stand right. absurd (omega (arith, within told at b more s, long_is h b e, short, here, long, le))

fits_records : (status : ℕ) (i : Inside) (ds : List Data) (area : List ℕ) → FitsInside status i → i ≡ Records ds → area ≡ inside_spelling i → AreRecords area ds
fits_records status i ds area fits is spelled = record { fits = (subst (FitsInside status) is fits).1; spelled = spelled ∙ ap inside_spelling is }

found_values : (told : Told) (area : List ℕ) (found : Option (List OidValue)) (ds : List Data) (records : List Earlier) → AreRecords area ds → MatchOption found (NoRecords area) (MeansValues (Some told) area) → AllStand (content told) records → list_all (has_body (rows records)) ds ≡ true → option_map records_in found ≡ Some (values_of records ds)
found_values told area None ds records are none stand right = absurd (none ds are)
found_values told area (Some values) ds records are means stand right =
    let same : means.ds ≡ ds = same_ds area ds means.ds are means.are in
    ap Some (means.said records stand (subst (λ (xs : List Data). list_all (has_body (rows records)) xs ≡ true) (sym same) right) ∙ ap (values_of records) same)

taken_inside : (b : Block) (more : List ℕ) (size : ℕ) → length (inside_spelling b.inside) ≡ size → take size (behind_texts b more) ≡ inside_spelling b.inside
unfolding behind_texts
taken_inside b more size long = take_at (inside_spelling b.inside) (be64 b.tail ++ more) size long

-- what was read behind the texts is the records
area_records : (told : Told) (len at place size : ℕ) (h : TxnHead) (area : List ℕ) (b : Block) (ds : List Data) (more : List ℕ) → len ≡ length (content told) → len < 2 ^ 64 → area ≡ bytes_at told place size
    → place ≡ min (at + texts_end h) 18446744073709551615 → size ≡ h.length - texts_end h → Stands b (drop at (content told)) more → b.inside ≡ Records ds → h ≡ txn_head_of b → AreRecords area ds
area_records told len at place size h area b ds more whole lt there here long s is e =
    let end = end_of h b e in
    let front = txn_head (txn_head_of b) ++ texts_spelling b.texts in
    let rest = drop at (content told) in
    let place_is : place ≡ at + texts_end h = omega (arith, within told at b more s, whole, lt, here, end) in
    let dropped : drop place (content told) ≡ behind_texts b more =
    ap (λ (n : ℕ). drop n (content told)) place_is ∙ sym (drop-drop (texts_end h) at (content told)) ∙ ap (drop (texts_end h)) (fronted b rest more s) ∙ drop_at front (behind_texts b more) (texts_end h) (long_front b ∙ sym end) in
    let size_is : length (inside_spelling b.inside) ≡ size = omega (arith, long, long_is h b e, end) in
    fits_records b.status b.inside ds area s.fits.inside is (there ∙ ap (take size) dropped ∙ taken_inside b more size size_is)

pub reads_values : (disk moved : Option Told) (len at place size : ℕ) (h : TxnHead) (area : List ℕ) (found : Option (List OidValue)) → moved ≡ disk → ForSome disk (λ told. len ≡ length (content told)) → len < 2 ^ 64 → IfSome disk (λ told. area ≡ bytes_at told place size)
    → place ≡ min (at + texts_end h) 18446744073709551615 → size ≡ h.length - texts_end h → MatchOption found (NoRecords area) (MeansValues moved area) → HasValues disk at h found
reads_values None moved len at place size h area found same whole lt there here long says = tt
reads_values (Some told) moved len at place size h area found same whole lt there here long says = λ b ds more records s is e stand right.
    found_values told area found ds records (area_records told len at place size h area b ds more (whole told refl) lt there here long s is e)
    (subst (λ (d : Option Told). MatchOption found (NoRecords area) (MeansValues d area)) same says) stand right

-- ---- what they cost

-- what is said of it behind this head
abbrev pub HasCosts : Option Told → ℕ → TxnHead → ℕ → ℕ → Type 0
HasCosts disk at h calls now = IfSome disk (λ told. (b : Block) (ds : List Data) (more : List ℕ) (records : List Earlier) → Stands b (drop at (content told)) more → b.inside ≡ Records ds → h ≡ txn_head_of b → AllStand (content told) records → list_all (has_body (rows records)) ds ≡ true → CostsBodies (content told) ds calls now)

pub free_costs : (disk : Option Told) (at : ℕ) (h : TxnHead) (calls now : ℕ) → now ≤ calls → HasCosts disk at h calls now
free_costs None at h calls now le = tt
free_costs (Some told) at h calls now le = λ b ds more records s is e stand right. free (content told) ds calls now le

pub reads_costs : (disk moved : Option Told) (len at place size : ℕ) (h : TxnHead) (area : List ℕ) (calls mid now : ℕ) → moved ≡ disk → ForSome disk (λ told. len ≡ length (content told)) → len < 2 ^ 64 → IfSome disk (λ told. area ≡ bytes_at told place size)
    → place ≡ min (at + texts_end h) 18446744073709551615 → size ≡ h.length - texts_end h → mid ≤ calls → CostAll moved area mid now → HasCosts disk at h calls now
reads_costs None moved len at place size h area calls mid now same whole lt there here long le costs = tt
reads_costs (Some told) moved len at place size h area calls mid now same whole lt there here long le costs = λ b ds more records s is e stand right.
    dearer (content told) ds calls mid now le
    (subst (λ (d : Option Told). CostAll d area mid now) same costs ds records (area_records told len at place size h area b ds more (whole told refl) lt there here long s is e) stand right)
