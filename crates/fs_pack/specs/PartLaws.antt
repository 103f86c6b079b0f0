-- The part of a file up to a pack: where its records stand, and what each object's value is there.
use Rattle.std.proofs.Common.{◌≡◌, ℕ, ◌+◌, ◌<◌, ◌≤◌, Bool, true, false, cond, List, [], ◌∷◌, ◌++◌, map, filter, flat_map, length, nat_le, None, refl, sym, ap, ap₂, subst, ◌∙◌, arith, append_assoc, append-nil, le-leb, leb-true, if◌then◌else◌}
use Rattle.std.proofs.lemmas.List.{map-append}
use Rattle.std.proofs.lemmas.List.Elements.{filter-append}
use Rattle.std.proofs.lemmas.Grind.{flat_map-append}
use Rattle.zbase.specs.History.{Value, Transaction, RisesFrom}
use Rattle.zbase.specs.Values.{last, last_after, newest, revisions_of, upto, value, value_of as newest_value}
use Rattle.zbase.specs.HistoryLaws.{last_after-append, rises_last}
use Rattle.zbase.specs.declared.ids.Row.{Row}
use Rattle.fs_record.specs.File.{AreRight, Earlier, Front, IsFile, after_in, bytes_of, front_of, longer, records_from, records_place, rows, transaction_of, values_of}
use Rattle.fs_record.specs.FileLaws.{file_history}
use Rattle.fs_record.specs.Spelling.{Block, Data, Inside, Records, Skipped, block_spelling, data_spelling}
use Rattle.fs_record.specs.StandingLaws.{RiseWithin, each_stands, file_kept}
use Rattle.fs_scan.specs.Present.{AllStand}
use Rattle.fs_scan.specs.Keeping.{starts}
use Rattle.packing.specs.Packed.{records_in}
use Rattle.fs_pack.specs.Entries.{Entry, entries, entry_in, said}
use Rattle.fs_pack.specs.EntryLaws.{said_entries, said_filter}
use Rattle.fs_pack.specs.KeepLaws.{meant_value}
use Rattle.fs_pack.specs.Marked.{meant}
use Rattle.fs_pack.specs.Numbered.{AreLast, AreNumbered, last_number, oids_of, placed_by}
use Rattle.fs_pack.specs.NumberedLaws.{ArePlaced, placed_last}
use Rattle.fs_pack.specs.Surveyed.{entries_to}
use Rattle.fs_index.specs.Places.{Slots}

-- ---- rows and records have the same objects

abbrev row_oids : List Row → List ℕ
row_oids rs = map (λ (r : Row). r.oid) rs

oids_from : (earlier : List Earlier) (place : ℕ) (ds : List Data) → row_oids (rows (records_from earlier place ds)) ≡ oids_of (values_of earlier ds)
oids_from earlier place [] = refl
oids_from earlier place (d ∷ ds) = ap (λ (os : List ℕ). d.oid ∷ os) (oids_from earlier (place + length (data_spelling d)) ds)

records_one : (x : Transaction) → records_in (x ∷ []) ≡ x.records
records_one x = append-nil x.records

oids_in : (front : Front) (b : Block) (i : Inside) → row_oids (rows (after_in front b i).records) ≡ row_oids (rows front.records) ++ oids_of (records_in (said (entry_in front b i)))
unfolding after_in
oids_in front b (Skipped bytes) = sym (append-nil (row_oids (rows front.records)))
oids_in front b (Records ds) =
    let new = records_from front.records (records_place front.place b) ds in
    ap row_oids (map-append (λ (e : Earlier). e.at) front.records new)
    ∙ map-append (λ (r : Row). r.oid) (rows front.records) (rows new)
    ∙ ap (λ (os : List ℕ). row_oids (rows front.records) ++ os) (oids_from front.records (records_place front.place b) ds ∙ ap oids_of (sym (records_one (transaction_of front.records b ds))))

pub oids_same : (bs : List Block) → row_oids (rows (front_of bs).records) ≡ oids_of (records_in (said (entries bs)))
oids_same [] = refl
oids_same (b ∷ bs) =
    oids_in (front_of bs) b b.inside
    ∙ ap (λ (os : List ℕ). os ++ oids_of (records_in (said (entry_in (front_of bs) b b.inside)))) (oids_same bs)
    ∙ sym (ap (λ (xs : List Transaction). oids_of (records_in xs)) (map-append (λ (e : Entry). e.said) (entries bs) (entry_in (front_of bs) b b.inside))
    ∙ ap oids_of (flat_map-append (λ (x : Transaction). x.records) (said (entries bs)) (said (entry_in (front_of bs) b b.inside)))
    ∙ map-append (λ (r : ℕ × Value). r.0) (records_in (said (entries bs))) (records_in (said (entry_in (front_of bs) b b.inside))))

-- ---- the part

-- the blocks up to the last that has an id up to t
abbrev pub blocks_to : ℕ → List Block → List Block
blocks_to t [] = []
blocks_to t (b ∷ bs) = if nat_le (last (front_of (b ∷ bs)).history) t then b ∷ bs else blocks_to t bs

pub right_to : (t : ℕ) (bs : List Block) → AreRight bs → AreRight (blocks_to t bs)
right_to t [] right = tt
right_to t (b ∷ bs) right = go (nat_le (last (front_of (b ∷ bs)).history) t) (right_to t bs right.1)
  where
    go : (c : Bool) → AreRight (blocks_to t bs) → AreRight (if c then b ∷ bs else blocks_to t bs)
    go true deeper = right
    go false deeper = deeper

pub bytes_to : (t : ℕ) (bs : List Block) → (more : List ℕ) × (bytes_of bs ≡ bytes_of (blocks_to t bs) ++ more)
bytes_to t [] = ([], sym (append-nil (bytes_of [])))
bytes_to t (b ∷ bs) = go (nat_le (last (front_of (b ∷ bs)).history) t) (bytes_to t bs)
  where
    go : (c : Bool) → (more : List ℕ) × (bytes_of bs ≡ bytes_of (blocks_to t bs) ++ more) → (more : List ℕ) × (bytes_of (b ∷ bs) ≡ bytes_of (if c then b ∷ bs else blocks_to t bs) ++ more)
    go true deeper = ([], sym (append-nil (bytes_of (b ∷ bs))))
    go false deeper = (deeper.0 ++ block_spelling b, ap (λ (x : List ℕ). x ++ block_spelling b) deeper.1 ∙ append_assoc (bytes_of (blocks_to t bs)) deeper.0 (block_spelling b))

rows_in : (front : Front) (b : Block) (i : Inside) → (more : List Row) × (rows (after_in front b i).records ≡ rows front.records ++ more)
unfolding after_in
rows_in front b (Skipped bytes) = ([], sym (append-nil (rows front.records)))
rows_in front b (Records ds) = (rows (records_from front.records (records_place front.place b) ds), map-append (λ (e : Earlier). e.at) front.records (records_from front.records (records_place front.place b) ds))

pub rows_to : (t : ℕ) (bs : List Block) → (more : List Row) × (rows (front_of bs).records ≡ rows (front_of (blocks_to t bs)).records ++ more)
rows_to t [] = ([], refl)
rows_to t (b ∷ bs) = go (nat_le (last (front_of (b ∷ bs)).history) t) (rows_to t bs)
  where
    go : (c : Bool) → (more : List Row) × (rows (front_of bs).records ≡ rows (front_of (blocks_to t bs)).records ++ more)
        → (more : List Row) × (rows (front_of (b ∷ bs)).records ≡ rows (front_of (if c then b ∷ bs else blocks_to t bs)).records ++ more)
    go true deeper = ([], sym (append-nil (rows (front_of (b ∷ bs)).records)))
    go false deeper =
        let one = rows_in (front_of bs) b b.inside in
        (deeper.0 ++ one.0, one.1 ∙ ap (λ (rs : List Row). rs ++ one.0) deeper.1 ∙ append_assoc (rows (front_of (blocks_to t bs)).records) deeper.0 one.0)

-- its transactions are those with ids up to t

all_to : (t n : ℕ) (es : List Entry) → RisesFrom n (said es) → last_after n (said es) ≤ t → entries_to t es ≡ es
all_to t n [] rise le = refl
all_to t n (e ∷ es) rise le =
    let low : e.said.tid ≤ t = omega (arith, rises_last e.said.tid (said es) rise.1, le) in
    rw (le-leb e.said.tid t low) (ap (λ (fs : List Entry). e ∷ fs) (all_to t e.said.tid es rise.1 le))

history_rises : (bs : List Block) → AreRight bs → RisesFrom 0 (said (entries bs))
history_rises bs right = subst (RisesFrom 0) (sym (said_entries bs)) (file_history (bytes_of bs) (front_of bs) (record { blocks = bs; right = right; spelled = refl; said = refl }))

-- a block behind the part adds no transaction to it
none_behind : (t : ℕ) (front : Front) (b : Block) (i : Inside) → nat_le (last (after_in front b i).history) t ≡ false → entries_to t (entry_in front b i) ≡ []
unfolding after_in
none_behind t front b (Skipped bytes) above = refl
none_behind t front b (Records ds) above =
    let x = transaction_of front.records b ds in
    let its : last (longer front.history b.status x) ≡ b.tid = last_after-append 0 front.history.transactions (x ∷ []) in
    ap (λ (c : Bool). let fs : List Entry = cond c (record { status = b.status; said = x } ∷ []) [] in fs) (ap (λ (n : ℕ). nat_le n t) (sym its) ∙ above)

pub entries_part_to : (t : ℕ) (bs : List Block) → AreRight bs → entries_to t (entries bs) ≡ entries (blocks_to t bs)
entries_part_to t [] right = refl
entries_part_to t (b ∷ bs) right = go (nat_le (last (front_of (b ∷ bs)).history) t) refl (entries_part_to t bs right.1)
  where
    go : (c : Bool) → nat_le (last (front_of (b ∷ bs)).history) t ≡ c → entries_to t (entries bs) ≡ entries (blocks_to t bs) → entries_to t (entries (b ∷ bs)) ≡ entries (if c then b ∷ bs else blocks_to t bs)
    go true is deeper =
        let low : last_after 0 (said (entries (b ∷ bs))) ≤ t = subst (λ (xs : List Transaction). last_after 0 xs ≤ t) (sym (said_entries (b ∷ bs))) (leb-true (last (front_of (b ∷ bs)).history) t is) in
        all_to t 0 (entries (b ∷ bs)) (history_rises (b ∷ bs) right) low
    go false is deeper =
        filter-append (λ (e : Entry). nat_le e.said.tid t) (entries bs) (entry_in (front_of bs) b b.inside)
        ∙ ap₂ (λ (es fs : List Entry). es ++ fs) deeper (none_behind t (front_of bs) b b.inside is)
        ∙ append-nil (entries (blocks_to t bs))

-- ---- values and places

pub part_value : (t : ℕ) (bs : List Block) → AreRight bs → (o : ℕ) → value (upto (front_of bs).history t) o ≡ meant (front_of (blocks_to t bs)).records o
part_value t bs right o =
    let part = blocks_to t bs in
    let same : (upto (front_of bs).history t).transactions ≡ (front_of part).history.transactions =
    ap (filter (λ (x : Transaction). nat_le x.tid t)) (sym (said_entries bs)) ∙ sym (said_filter (λ (x : Transaction). nat_le x.tid t) (entries bs)) ∙ ap said (entries_part_to t bs right) ∙ said_entries part in
    ap (λ (xs : List Transaction). newest_value (newest (flat_map revisions_of xs) o)) same
    ∙ meant_value (bytes_of part) (front_of part) (record { blocks = part; right = right_to t bs right; spelled = refl; said = refl }) o

-- the part's records stand in the whole file
pub part_stands : (t : ℕ) (bs : List Block) (rest bytes : List ℕ) → AreRight bs → bytes ≡ bytes_of bs ++ rest → AllStand bytes (front_of (blocks_to t bs)).records
part_stands t bs rest bytes right is =
    let part = blocks_to t bs in
    let more = bytes_to t bs in
    let whole : bytes ≡ bytes_of part ++ (more.0 ++ rest) = is ∙ ap (λ (x : List ℕ). x ++ rest) more.1 ∙ append_assoc (bytes_of part) more.0 rest in
    subst (λ (x : List ℕ). AllStand x (front_of part).records) (sym whole)
    (each_stands (bytes_of part) (more.0 ++ rest) (front_of part) (record { blocks = part; right = right_to t bs right; spelled = refl; said = refl }))

all_placed : (n end : ℕ) (es : List Earlier) → 0 < n → RiseWithin n end es → ArePlaced (rows es)
all_placed n end [] pos rise = tt
all_placed n end (e ∷ es) pos rise = (omega (arith, pos, rise.0), all_placed (e.at.place + 1) end es (omega arith) rise.2)

-- by the numbers of the part's last records one finds their places among those of the file
pub part_last : (t : ℕ) (bs : List Block) (places : List ℕ) (newest : Slots) → AreRight bs → places ≡ starts (rows (front_of bs).records)
    → AreNumbered newest (oids_of (records_in (said (entries_to t (entries bs))))) → AreLast places newest (front_of (blocks_to t bs)).records
part_last t bs places newest right is numbered = λ o.
    let part = blocks_to t bs in
    let file : IsFile (bytes_of part) (front_of part) = record { blocks = part; right = right_to t bs right; spelled = refl; said = refl } in
    let os : oids_of (records_in (said (entries_to t (entries bs)))) ≡ row_oids (rows (front_of part).records) = ap (λ (es : List Entry). oids_of (records_in (said es))) (entries_part_to t bs right) ∙ sym (oids_same part) in
    let more = rows_to t bs in
    let there : places ≡ starts (rows (front_of part).records) ++ starts more.0 = is ∙ ap starts more.1 ∙ map-append (λ (r : Row). r.place) (rows (front_of part).records) more.0 in
    ap (placed_by places) (numbered o ∙ ap (last_number o None 0) os)
    ∙ placed_last places o 0 None [] (rows (front_of part).records) (starts more.0) there (all_placed 4 (front_of part).place (front_of part).records (omega arith) (file_kept (bytes_of part) (front_of part) file).rise) refl
