-- What a transaction's status byte makes of it, and that a file is read as what it says, whatever bytes stand in its
-- texts and its data.
use Rattle.std.proofs.Common.{◌≡◌, ℕ, suc, zero, ◌+◌, ◌-◌, ◌≤◌, ◌<◌, ◌^◌, true, leb, List, [], ◌∷◌, ◌++◌, length, get_or, take, drop, Some, refl, sym, ap, subst, ◌∙◌, append_assoc, append-nil, arith}
use Rattle.std.specs.Prelude.{slice_set, option_map}
use Rattle.std.specs.Int.{w64, from_be_bytes}
use Rattle.std.specs.List.{flat_map, AllByRecursion}
use Rattle.std.proofs.lemmas.List.{length-append, take_at, drop_at, drop-drop}
use Rattle.std.proofs.lemmas.Bool.{le-leb}
use Rattle.std.proofs.lemmas.Nat.{from_be_bytes-to_be_bytes_2, from_be_bytes-to_be_bytes_8}
use Rattle.zbase.specs.NumberLaws.{length-be64}
use Rattle.zbase.specs.Numbers.{be64, be16}
use Rattle.fs_record.specs.declared.heads.TxnHead.{TxnHead}
use Rattle.fs_record.specs.declared.heads.DataHead.{DataHead}
use Rattle.fs_record.specs.declared.body.TxnTexts.{TxnTexts}
use Rattle.fs_record.specs.declared.body.Item.{Item}
use Rattle.fs_record.specs.declared.body.Body.{Body}
use Rattle.fs_record.specs.declared.body.Body.TheVariants.{Full, Back}
use Rattle.fs_record.specs.Spelling.{txn_head, data_head, txn_head_of, head_of, Data, Inside, Records, Skipped, Block, data_spelling, block_spelling, body_length, body_spelling, texts_spelling, inside_spelling}
use Rattle.fs_record.specs.SpellingLaws.{length-block, length-texts, length-txn_head, length-data_head, long_data, status_stands, txn_head_from, data_head_from, same_parts, same_block}
use Rattle.fs_record.specs.Fits.{FitsTxnHead, FitsDataHead, FitsBody, FitsData, FitsInside, FitsBlock}
use Rattle.fs_record.specs.File.{Front, IsFile, IsRight, AreRight, after, front_of, bytes_of, magic}
use Rattle.fs_record.specs.FileLaws.{file_place}
use Rattle.fs_record.specs.Opening.{is_end}
use Rattle.fs_record.specs.UniqueLaws.{not_end}
use Rattle.fs_record.specs.Reading.{u64_read, u16_read, txn_head_read, data_head_read, body_size, body_read, data_behind, record_with, record_read, read_on, records_read, texts_end, area_read, inside_read, block_with, has_room, block_by, block_read, Opens, judged, stepped, opening_behind, opening_of}
use Rattle.fs_record.specs.RecordLaws.{body_takes}
use Rattle.fs_record.specs.BlockLaws.{regroup, both, IsWhole, whole_is, inside_stands}
use Rattle.fs_record.specs.Written.{transaction}

-- ---- the status of a transaction that is written

-- Another status in its place makes the transaction with that status.
pub status_set : (start tid old new : ℕ) (texts : TxnTexts) (items : List Item) → slice_set (block_spelling (transaction start tid old texts items)) 16 new ≡ block_spelling (transaction start tid new texts items)
unfolding block_spelling txn_head be64
status_set start tid old new texts items = refl

pub status_at : (start tid status : ℕ) (texts : TxnTexts) (items : List Item) → get_or (block_spelling (transaction start tid status texts items)) 16 0 ≡ status
status_at start tid status texts items =
    let b = transaction start tid status texts items in
    ap (λ (x : List ℕ). get_or x 16 0) (sym (append-nil (block_spelling b))) ∙ status_stands b []

pub head_within : (b : Block) → 23 ≤ length (block_spelling b)
head_within b = omega (arith, length-block b)

-- ---- heads

pub txn_head_reads : (h : TxnHead) (more : List ℕ) → FitsTxnHead h → txn_head_read (txn_head h ++ more) ≡ h
unfolding txn_head be64 be16 u64_read u16_read
txn_head_reads h more fits =
    txn_head_from (txn_head_read (txn_head h ++ more)) h
    (from_be_bytes-to_be_bytes_8 h.tid fits.tid) (from_be_bytes-to_be_bytes_8 h.length fits.length) refl
    (from_be_bytes-to_be_bytes_2 h.user fits.user) (from_be_bytes-to_be_bytes_2 h.description fits.description) (from_be_bytes-to_be_bytes_2 h.extension fits.extension)

pub data_head_reads : (h : DataHead) (more : List ℕ) → FitsDataHead h → data_head_read (data_head h ++ more) ≡ h
unfolding data_head be64 be16 u64_read u16_read
data_head_reads h more fits =
    data_head_from (data_head_read (data_head h ++ more)) h
    (from_be_bytes-to_be_bytes_8 h.oid fits.oid) (from_be_bytes-to_be_bytes_8 h.tid fits.tid) (from_be_bytes-to_be_bytes_8 h.prev fits.prev)
    (from_be_bytes-to_be_bytes_8 h.start fits.start) (from_be_bytes-to_be_bytes_2 h.version fits.version) (from_be_bytes-to_be_bytes_8 h.length fits.length)

-- ---- data records

body_reads : (body : Body) (more : List ℕ) → FitsBody body → body_read (body_length body) (body_spelling body ++ more) ≡ body
unfolding be64 u64_read
body_reads (Full []) more fits = absurd (omega (arith, fits))
body_reads (Full (byte ∷ bytes)) more fits = ap Full (take_at (byte ∷ bytes) more (length (byte ∷ bytes)) refl)
body_reads (Back place) more fits = ap Back (from_be_bytes-to_be_bytes_8 place fits)

record_with_head : (d : Data) (more : List ℕ) → FitsData d → record_with (head_of d) (data_head (head_of d) ++ (body_spelling d.body ++ more)) ≡ Some (d, more)
record_with_head d more fits =
    let h = head_of d in
    let behind = body_spelling d.body ++ more in
    let size = body_size (body_length d.body) in
    let takes = body_takes d.body fits.body in
    let body : drop 42 (data_head h ++ behind) ≡ behind = drop_at (data_head h) behind 42 (length-data_head h) in
    let rest : drop (42 + size) (data_head h ++ behind) ≡ more = sym (drop-drop size 42 (data_head h ++ behind)) ∙ ap (drop size) body ∙ drop_at (body_spelling d.body) more size (sym takes) in
    rw (le-leb (42 + size) (length (data_head h ++ behind)) (omega (arith, takes, length-append (data_head h) behind, length-append (body_spelling d.body) more, length-data_head h)))
    (ap (λ (x : List ℕ). Some (data_behind h x, drop (42 + size) (data_head h ++ behind))) body
    ∙ ap (λ (x : List ℕ). Some (data_behind h behind, x)) rest
    ∙ ap (λ (b : Body). Some (with_body d b, more)) (body_reads d.body more fits.body))
  where
    with_body : Data → Body → Data
    with_body d b = record { oid = d.oid; tid = d.tid; prev = d.prev; start = d.start; version = d.version; body = b }

pub record_reads : (d : Data) (more : List ℕ) → FitsData d → record_read (data_spelling d ++ more) ≡ Some (d, more)
unfolding record_read data_spelling
record_reads d more fits =
    let behind = body_spelling d.body ++ more in
    ap (λ (x : List ℕ). record_with (data_head_read x) x) (append_assoc (data_head (head_of d)) (body_spelling d.body) more)
    ∙ ap (λ (h : DataHead). record_with h (data_head (head_of d) ++ behind)) (data_head_reads (head_of d) behind fits.head)
    ∙ record_with_head d more fits

records_reads : (most : ℕ) (ds : List Data) → AllByRecursion FitsData ds → length (flat_map data_spelling ds) ≤ most → records_read most (flat_map data_spelling ds) ≡ Some ds
unfolding records_read data_spelling data_head be64
records_reads zero [] fits le = refl
records_reads (suc most) [] fits le = refl
records_reads zero (d ∷ ds) fits le = absurd (omega (arith, le, long_data d fits.0.body, length-append (data_spelling d) (flat_map data_spelling ds)))
records_reads (suc most) (d ∷ ds) fits le =
    ap (read_on (records_read most)) (record_reads d (flat_map data_spelling ds) fits.0)
    ∙ ap (option_map (λ (es : List Data). d ∷ es)) (records_reads most ds fits.1 (omega (arith, le, long_data d fits.0.body, length-append (data_spelling d) (flat_map data_spelling ds))))

inside_reads : (status : ℕ) (i : Inside) → FitsInside status i → inside_read status (inside_spelling i) ≡ Some i
inside_reads status (Records ds) fits = rw fits.0 (ap (option_map Records) (records_reads (length (flat_map data_spelling ds)) ds fits.1 (omega arith)))
inside_reads status (Skipped area) fits = rw fits refl

-- ---- transactions

u64_reads : (at n : ℕ) (bytes more : List ℕ) → n < 2 ^ 64 → drop at bytes ≡ be64 n ++ more → u64_read at bytes ≡ n
unfolding u64_read be64
u64_reads at n bytes more lt e = ap (λ (x : List ℕ). from_be_bytes w64 (take 8 x)) e ∙ from_be_bytes-to_be_bytes_8 n lt

-- whatever bytes stand in the texts and the data
whole_stands : (b : Block) (more : List ℕ) → FitsBlock b → IsWhole (block_spelling b ++ more) (txn_head_of b)
unfolding block_spelling
whole_stands b more fits =
    let h = txn_head_of b in
    let bytes = block_spelling b ++ more in
    let behind = texts_spelling b.texts ++ (inside_spelling b.inside ++ (be64 b.tail ++ more)) in
    let e : bytes ≡ txn_head h ++ behind = regroup (txn_head h) (texts_spelling b.texts) (inside_spelling b.inside) (be64 b.tail) more in
    let front = (txn_head h ++ texts_spelling b.texts) ++ inside_spelling b.inside in
    let long : length front ≡ h.length = omega (arith, length-append (txn_head h ++ texts_spelling b.texts) (inside_spelling b.inside), length-append (txn_head h) (texts_spelling b.texts), length-txn_head h) in
    let last : drop h.length bytes ≡ be64 b.tail ++ more = ap (drop h.length) (append_assoc front (be64 b.tail) more) ∙ drop_at front (be64 b.tail ++ more) h.length long in
    let tail : u64_read h.length bytes ≡ b.tail = u64_reads h.length b.tail bytes more fits.tail last in
    let rest : drop (h.length + 8) bytes ≡ more = sym (drop-drop 8 h.length bytes) ∙ ap (drop 8) last ∙ drop_at (be64 b.tail) more 8 (length-be64 b.tail) in
    whole_is bytes h (e ∙ ap (λ (x : List ℕ). txn_head h ++ x) (sym (drop_at (txn_head h) behind 23 (length-txn_head h)) ∙ ap (drop 23) (sym e))) fits.head (omega (arith, length-texts b)) (omega (arith, length-append (block_spelling b) more, length-block b))
    (last ∙ ap (λ (n : ℕ). be64 n ++ more) (sym tail) ∙ ap (λ (x : List ℕ). be64 (u64_read h.length bytes) ++ x) (sym rest))
    (omega (arith, tail, fits.tail))

head_of_block : (b : Block) (more : List ℕ) → FitsBlock b → txn_head_read (block_spelling b ++ more) ≡ txn_head_of b
unfolding block_spelling
head_of_block b more fits =
    ap txn_head_read (regroup (txn_head (txn_head_of b)) (texts_spelling b.texts) (inside_spelling b.inside) (be64 b.tail) more)
    ∙ txn_head_reads (txn_head_of b) (texts_spelling b.texts ++ (inside_spelling b.inside ++ (be64 b.tail ++ more))) fits.head

-- A block is read as what it is.
pub block_reads : (b : Block) (more : List ℕ) → FitsBlock b → block_read (block_spelling b ++ more) ≡ Some (b, more)
unfolding block_read
block_reads b more fits =
    let h = txn_head_of b in
    let bytes = block_spelling b ++ more in
    let whole = whole_stands b more fits in
    let skipped = block_with h bytes (Skipped (area_read h bytes)) in
    let area : area_read h bytes ≡ inside_spelling b.inside = (same_parts skipped b (drop (h.length + 8) bytes) more (subst FitsTxnHead whole.same whole.head) whole.tail fits.head fits.tail (sym whole.spelled)).0.inside in
    let stands = inside_stands bytes h b.inside whole (sym area) fits.inside in
    let same = same_block (block_with h bytes b.inside) b (drop (h.length + 8) bytes) more stands.fits fits (sym stands.spelled) in
    let room : has_room h (length bytes) ≡ true = both (leb (texts_end h) h.length) (leb (h.length + 8) (length bytes)) (le-leb (texts_end h) h.length (omega (arith, length-texts b))) (le-leb (h.length + 8) (length bytes) (omega (arith, length-append (block_spelling b) more, length-block b))) in
    ap (λ (g : TxnHead). block_by g bytes) (head_of_block b more fits)
    ∙ rw room
    (ap (λ (a : List ℕ). option_map (λ (i : Inside). (block_with h bytes i, drop (h.length + 8) bytes)) (inside_read b.status a)) area
    ∙ ap (option_map (λ (i : Inside). (block_with h bytes i, drop (h.length + 8) bytes))) (inside_reads b.status b.inside fits.inside)
    ∙ ap (λ (c : Block). Some (c, drop (h.length + 8) bytes)) same.0
    ∙ ap (λ (x : List ℕ). Some (b, x)) same.1)

-- ---- files

-- what stands behind the four bytes with which a file begins
abbrev spelled_behind : List Block → List ℕ
spelled_behind [] = []
spelled_behind (b ∷ bs) = spelled_behind bs ++ block_spelling b

magic_stands : (bs : List Block) → bytes_of bs ≡ magic ++ spelled_behind bs
magic_stands [] = refl
magic_stands (b ∷ bs) = ap (λ (x : List ℕ). x ++ block_spelling b) (magic_stands bs) ∙ append_assoc magic (spelled_behind bs) (block_spelling b)

enough : (bs : List Block) → length bs ≤ length (bytes_of bs)
enough [] = omega arith
enough (b ∷ bs) = omega (arith, enough bs, length-append (bytes_of bs) (block_spelling b), length-block b)

-- a right block is read over
one_over : (most : ℕ) (front : Front) (b : Block) (rest : List ℕ) → IsRight front b → opening_behind (suc most) front (block_spelling b ++ rest) ≡ opening_behind most (after front b) rest
unfolding opening_behind
one_over most front b rest right =
    rw (not_end front b rest right)
    (ap (stepped (opening_behind most) front) (block_reads b rest right.fits) ∙ ap (judged (opening_behind most) front b rest) right.right)

all_over : (bs : List Block) (rest : List ℕ) (n most : ℕ) → AreRight bs → n ≡ length bs + most → opening_behind n (front_of []) (spelled_behind bs ++ rest) ≡ opening_behind most (front_of bs) rest
all_over [] rest n most right e =
    let same : n ≡ most = omega (arith, e) in
    ap (λ (k : ℕ). opening_behind k (front_of []) rest) same
all_over (b ∷ bs) rest n most right e =
    ap (opening_behind n (front_of [])) (append_assoc (spelled_behind bs) (block_spelling b) rest)
    ∙ all_over bs (block_spelling b ++ rest) n (suc most) right.1 (omega (arith, e))
    ∙ one_over most (front_of bs) b rest right.0

at_end : (most : ℕ) (front : Front) → opening_behind most front [] ≡ Opens front front.place
unfolding opening_behind is_end
at_end zero front = refl
at_end (suc most) front = refl

opens_blocks : (bs : List Block) → AreRight bs → opening_of (magic ++ spelled_behind bs) ≡ Opens (front_of bs) (front_of bs).place
unfolding opening_of
opens_blocks bs right =
    let n = length (magic ++ spelled_behind bs) in
    let most = n - length bs in
    ap (opening_behind n (front_of [])) (sym (append-nil (spelled_behind bs)))
    ∙ all_over bs [] n most right (omega (arith, enough bs, ap length (magic_stands bs)))
    ∙ at_end most (front_of bs)

-- A file opens to the front that it says, and nothing of it is cut.
pub reads_file : (file : List ℕ) (front : Front) → IsFile file front → opening_of file ≡ Opens front (length file)
reads_file file front is =
    ap opening_of (is.spelled ∙ magic_stands is.blocks)
    ∙ opens_blocks is.blocks is.right
    ∙ ap (λ (f : Front). Opens f f.place) (sym is.said)
    ∙ ap (Opens front) (file_place file front is)
