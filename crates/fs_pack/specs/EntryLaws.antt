-- What a pack leaves of a file's transactions is what it leaves of the file's history.
use Rattle.std.proofs.Common.{◌≡◌, ℕ, ◌+◌, ◌<◌, ◌≤◌, ◌^◌, ◌==◌, Bool, true, false, cond, ◌&&◌, max, List, [], ◌∷◌, ◌++◌, Some, None, length, map, filter, nat_le, nat_lt, refl, sym, ap, ap₂, subst, ◌∙◌, arith, append-nil, leb-false, if◌then◌else◌, not}
use Rattle.std.specs.List.{AllByRecursion, list_all}
use Rattle.std.proofs.lemmas.List.{map-append}
use Rattle.std.proofs.lemmas.Bool.Decides.{nat_tests}
use Rattle.zbase.specs.History.{Value, Transaction, History, RisesFrom, IsHistory}
use Rattle.zbase.specs.Values.{last, last_after, upto}
use Rattle.zbase.specs.HistoryLaws.{rises_rest, rises_front}
use Rattle.fs_record.specs.declared.body.Body.{Body}
use Rattle.fs_record.specs.declared.body.Body.TheVariants.{Full, Back}
use Rattle.fs_record.specs.Spelling.{Block, Data, Inside, Records, Skipped, data_spelling, long_of}
use Rattle.fs_record.specs.Fits.{FitsBody, FitsData, FitsInside}
use Rattle.fs_record.specs.File.{Earlier, Front, IsFile, AreRight, after_in, bytes_of, fault_in, front_of, has_body, has_no_version, has_prev, is_counted, is_own, records_from, records_place, rows, value_at, value_of, values_of}
use Rattle.fs_record.specs.FileLaws.{file_history}
use Rattle.fs_record.specs.StandingLaws.{passed}
use Rattle.fs_record.specs.declared.damage.Damage.TheVariants.{BadTid, BadPrev, BadBack, BadStatus, BadTail, BadVersion}
use Rattle.packing.specs.Packed.{has_record, is_empty, packed, records_in, standing, thinned, with_records}
use Rattle.packing.specs.PackedLaws.{packed_rises, thinned_last}
use Rattle.fs_pack.specs.Entries.{Entry, as_packed, entries, entry_in, packed_entries, said}
use Rattle.fs_pack.specs.Spelled.{IsEntry, IsValue, file_of, file_size, floor_from}
use Rattle.packing.specs.Sizes.{full_size}
use Rattle.fs_pack.specs.SpelledLaws.{full_said, sized, spelled}

-- ---- entries say the file's history

said_in : (front : Front) (b : Block) (i : Inside) → (after_in front b i).history.transactions ≡ front.history.transactions ++ said (entry_in front b i)
unfolding after_in
said_in front b (Skipped bytes) = sym (append-nil front.history.transactions)
said_in front b (Records ds) = refl

pub said_entries : (bs : List Block) → said (entries bs) ≡ (front_of bs).history.transactions
said_entries [] = refl
said_entries (b ∷ bs) =
    map-append (λ (e : Entry). e.said) (entries bs) (entry_in (front_of bs) b b.inside)
    ∙ ap (λ (xs : List Transaction). xs ++ said (entry_in (front_of bs) b b.inside)) (said_entries bs)
    ∙ sym (said_in (front_of bs) b b.inside)

pub floor-append : (n : ℕ) (es fs : List Entry) → floor_from n (es ++ fs) ≡ floor_from (floor_from n es) fs
floor-append n [] fs = refl
floor-append n (e ∷ es) fs = floor-append (if e.status == 112 then e.said.tid else n) es fs

floor_in : (front : Front) (b : Block) (i : Inside) → (after_in front b i).history.floor ≡ floor_from front.history.floor (entry_in front b i)
unfolding after_in
floor_in front b (Skipped bytes) = refl
floor_in front b (Records ds) = refl

pub floor_entries : (bs : List Block) → floor_from 0 (entries bs) ≡ (front_of bs).history.floor
floor_entries [] = refl
floor_entries (b ∷ bs) =
    floor-append 0 (entries bs) (entry_in (front_of bs) b b.inside)
    ∙ ap (λ (n : ℕ). floor_from n (entry_in (front_of bs) b b.inside)) (floor_entries bs)
    ∙ sym (floor_in (front_of bs) b b.inside)

-- ---- each can be written

all_append : {X : Type 0} (P : X → Type 0) (xs ys : List X) → AllByRecursion P xs → AllByRecursion P ys → AllByRecursion P (xs ++ ys)
all_append P [] ys a b = b
all_append P (x ∷ xs) ys a b = (a.0, all_append P xs ys a.1 b)

-- no record's value is empty
abbrev NoneEmpty : List Earlier → Type 0
NoneEmpty = AllByRecursion (λ (e : Earlier). IsValue e.value)

value_there : (place : ℕ) (es : List Earlier) → NoneEmpty es → IsValue (value_at place es)
value_there place [] all = tt
value_there place (e ∷ es) all = go (e.at.place == place) (value_there place es all.1)
  where
    go : (b : Bool) → IsValue (value_at place es) → IsValue (if b then e.value else value_at place es)
    go true deeper = all.0
    go false deeper = deeper

value_meant : (es : List Earlier) (body : Body) → FitsBody body → NoneEmpty es → IsValue (value_of es body)
value_meant es (Full bytes) fits all = fits
value_meant es (Back place) fits all = go (place == 0)
  where
    go : (b : Bool) → IsValue (if b then None else value_at place es)
    go true = tt
    go false = value_there place es all

new_none : (earlier : List Earlier) (place : ℕ) (ds : List Data) → AllByRecursion FitsData ds → NoneEmpty earlier → NoneEmpty (records_from earlier place ds)
new_none earlier place [] fits all = tt
new_none earlier place (d ∷ ds) fits all = (value_meant earlier d.body fits.0.body all, new_none earlier (place + length (data_spelling d)) ds fits.1 all)

none_in : (front : Front) (b : Block) (i : Inside) → FitsInside b.status i → NoneEmpty front.records → NoneEmpty (after_in front b i).records
unfolding after_in
none_in front b (Skipped bytes) fits all = all
none_in front b (Records ds) fits all = all_append (λ (e : Earlier). IsValue e.value) front.records (records_from front.records (records_place front.place b) ds) all (new_none front.records (records_place front.place b) ds fits.1 all)

none_empty : (bs : List Block) → AreRight bs → NoneEmpty (front_of bs).records
none_empty [] right = tt
none_empty (b ∷ bs) right = none_in (front_of bs) b b.inside right.0.fits.inside (none_empty bs right.1)

abbrev FitsRecord : ℕ × Value → Type 0
FitsRecord r = (r.0 < 2 ^ 64) × IsValue r.1

values_fit : (earlier : List Earlier) (ds : List Data) → AllByRecursion FitsData ds → NoneEmpty earlier → AllByRecursion FitsRecord (values_of earlier ds)
values_fit earlier [] fits all = tt
values_fit earlier (d ∷ ds) fits all = ((fits.0.head.oid, value_meant earlier d.body fits.0.body all), values_fit earlier ds fits.1 all)

pub counts : (place t : ℕ) (rs : List _) (b : Block) (ds : List Data) → fault_in place t rs b (Records ds) ≡ None → is_counted b.status ≡ true
unfolding fault_in
counts place t rs b ds e =
    let a = passed (nat_lt t b.tid && list_all (is_own b.tid place) ds) _ BadTid e in
    let p = passed (list_all (has_prev rs) ds) _ BadPrev a.1 in
    let r = passed (list_all (has_body rs) ds) _ BadBack p.1 in
    (passed (is_counted b.status) (if b.tail == long_of b then if list_all has_no_version ds then None else Some BadVersion else Some BadTail) BadStatus r.1).0

entries_in : (bs : List Block) (b : Block) (i : Inside) → b.inside ≡ i → AreRight (b ∷ bs) → AllByRecursion IsEntry (entry_in (front_of bs) b i)
entries_in bs b (Skipped bytes) is right = tt
entries_in bs b (Records ds) is right =
    let fits : FitsInside b.status (Records ds) = subst (FitsInside b.status) is right.0.fits.inside in
    let clean : fault_in (front_of bs).place (last (front_of bs).history) (rows (front_of bs).records) b (Records ds) ≡ None = subst (λ (j : Inside). fault_in (front_of bs).place (last (front_of bs).history) (rows (front_of bs).records) b j ≡ None) is right.0.right in (
      record {
        counted = counts (front_of bs).place (last (front_of bs).history) (rows (front_of bs).records) b ds clean;
        tid = right.0.fits.head.tid;
        user = right.0.fits.head.user;
        description = right.0.fits.head.description;
        extension = right.0.fits.head.extension;
        records = values_fit (front_of bs).records ds fits.1 (none_empty bs right.1);
      },
      tt,
    )

pub are_entries : (bs : List Block) → AreRight bs → AllByRecursion IsEntry (entries bs)
are_entries [] right = tt
are_entries (b ∷ bs) right = all_append IsEntry (entries bs) (entry_in (front_of bs) b b.inside) (are_entries bs right.1) (entries_in bs b b.inside refl right)

-- ---- packed, they can be written too

standing_fit : (keep : ℕ → Bool) (rs later : List (ℕ × Value)) → AllByRecursion FitsRecord rs → AllByRecursion FitsRecord (standing keep rs later)
standing_fit keep [] later all = tt
standing_fit keep (r ∷ rs) later all = go (keep r.0 && not (has_record r.0 (rs ++ later))) (standing_fit keep rs later all.1)
  where
    go : (b : Bool) → AllByRecursion FitsRecord (standing keep rs later) → AllByRecursion FitsRecord (cond b (r ∷ standing keep rs later) (standing keep rs later))
    go true deeper = (all.0, deeper)
    go false deeper = deeper

pack_entry : (e : Entry) (rs : List (ℕ × Value)) → IsEntry e → AllByRecursion FitsRecord rs → IsEntry (as_packed (with_records e.said rs))
pack_entry e rs is fit = record { counted = refl; tid = is.tid; user = is.user; description = is.description; extension = is.extension; records = fit }

thinned_entries : (keep : ℕ → Bool) (es : List Entry) → AllByRecursion IsEntry es → AllByRecursion IsEntry (map as_packed (thinned keep (said es)))
thinned_entries keep [] all = tt
thinned_entries keep (e ∷ es) all = go (is_empty stand && not (is_empty (said es))) (thinned_entries keep es all.1)
  where
    stand : List (ℕ × Value)
    stand = standing keep e.said.records (records_in (said es))

    go : (b : Bool) → AllByRecursion IsEntry (map as_packed (thinned keep (said es))) → AllByRecursion IsEntry (map as_packed (cond b (thinned keep (said es)) (with_records e.said stand ∷ thinned keep (said es))))
    go true deeper = deeper
    go false deeper = (pack_entry e stand all.0 (standing_fit keep e.said.records (records_in (said es)) all.0.records), deeper)

all_filter : {X : Type 0} (P : X → Type 0) (f : X → Bool) (xs : List X) → AllByRecursion P xs → AllByRecursion P (filter f xs)
all_filter P f [] all = tt
all_filter P f (x ∷ xs) all = go (f x) (all_filter P f xs all.1)
  where
    go : (b : Bool) → AllByRecursion P (filter f xs) → AllByRecursion P (cond b (x ∷ filter f xs) (filter f xs))
    go true deeper = (all.0, deeper)
    go false deeper = deeper

pub packed_are_entries : (keep : ℕ → Bool) (t : ℕ) (es : List Entry) → AllByRecursion IsEntry es → AllByRecursion IsEntry (packed_entries keep t es)
packed_are_entries keep t es all =
    all_append IsEntry _ _
    (thinned_entries keep (filter (λ (e : Entry). nat_le e.said.tid t) es) (all_filter IsEntry (λ (e : Entry). nat_le e.said.tid t) es all))
    (all_filter IsEntry (λ (e : Entry). nat_lt t e.said.tid) es all)

-- ---- they say the packed history

pub said_filter : (f : Transaction → Bool) (es : List Entry) → said (filter (λ (e : Entry). f e.said) es) ≡ filter f (said es)
said_filter f [] = refl
said_filter f (e ∷ es) = go (f e.said) (said_filter f es)
  where
    go : (b : Bool) → said (filter (λ (g : Entry). f g.said) es) ≡ filter f (said es) → said (cond b (e ∷ filter (λ (g : Entry). f g.said) es) (filter (λ (g : Entry). f g.said) es)) ≡ cond b (e.said ∷ filter f (said es)) (filter f (said es))
    go true deeper = ap (λ (xs : List Transaction). e.said ∷ xs) deeper
    go false deeper = deeper

said_packed : (xs : List Transaction) → said (map as_packed xs) ≡ xs
said_packed [] = refl
said_packed (x ∷ xs) = ap (λ (ys : List Transaction). x ∷ ys) (said_packed xs)

pub said_packed_entries : (keep : ℕ → Bool) (t : ℕ) (es : List Entry) (h : History) → said es ≡ h.transactions → said (packed_entries keep t es) ≡ (packed keep h t).transactions
said_packed_entries keep t es h is =
    map-append (λ (e : Entry). e.said) (map as_packed (thinned keep (said (filter (λ (e : Entry). nat_le e.said.tid t) es)))) (filter (λ (e : Entry). nat_lt t e.said.tid) es)
    ∙ ap₂ (λ (xs ys : List Transaction). xs ++ ys)
    (said_packed (thinned keep (said (filter (λ (e : Entry). nat_le e.said.tid t) es))) ∙ ap (thinned keep) (said_filter (λ x. nat_le x.tid t) es ∙ ap (filter (λ x. nat_le x.tid t)) is))
    (said_filter (λ x. nat_lt t x.tid) es ∙ ap (filter (λ x. nat_lt t x.tid)) is)

-- ---- with its floor

floor_packed : (n : ℕ) (xs : List Transaction) → floor_from n (map as_packed xs) ≡ last_after n xs
floor_packed n [] = refl
floor_packed n (x ∷ xs) = floor_packed x.tid xs

not_le : (a b : ℕ) → b < a → nat_le a b ≡ false
not_le a b h = grind (arith, nat_tests)

pub none_up_to : (t n : ℕ) (es : List Entry) → RisesFrom n (said es) → t ≤ n → filter (λ (e : Entry). nat_le e.said.tid t) es ≡ []
none_up_to t n [] h le = refl
none_up_to t n (e ∷ es) h le = rw (not_le e.said.tid t (omega (arith, h.0, le))) (none_up_to t e.said.tid es h.1 (omega (arith, h.0, le)))

pub entries_part : (t n : ℕ) (es : List Entry) → RisesFrom n (said es) → filter (λ (e : Entry). nat_le e.said.tid t) es ++ filter (λ (e : Entry). nat_lt t e.said.tid) es ≡ es
entries_part t n [] h = refl
entries_part t n (e ∷ es) h = go (nat_le e.said.tid t) (nat_lt t e.said.tid) refl refl (entries_part t e.said.tid es h.1)
  where
    front : List Entry
    front = filter (λ (f : Entry). nat_le f.said.tid t) es

    rest : List Entry
    rest = filter (λ (f : Entry). nat_lt t f.said.tid) es

    go : (a b : Bool) → nat_le e.said.tid t ≡ a → nat_lt t e.said.tid ≡ b → front ++ rest ≡ es → cond a (e ∷ front) front ++ cond b (e ∷ rest) rest ≡ e ∷ es
    go true false p q deeper = ap (λ (fs : List Entry). e ∷ fs) deeper
    go false true p q deeper =
        let above : t < e.said.tid = leb-false e.said.tid t p in
        let none : front ≡ [] = none_up_to t e.said.tid es h.1 (omega (arith, above)) in
        ap (λ (fs : List Entry). fs ++ (e ∷ rest)) none ∙ ap (λ (fs : List Entry). e ∷ fs) (ap (λ (fs : List Entry). fs ++ rest) (sym none) ∙ deeper)
    go true true p q deeper = absurd (grind (arith, nat_tests))
    go false false p q deeper = absurd (grind (arith, nat_tests))

floor_up : (n m : ℕ) (es : List Entry) → RisesFrom m (said es) → n ≤ m → n ≤ floor_from n es
floor_up n m [] h le = omega arith
floor_up n m (e ∷ es) h le = go (e.status == 112) (floor_up e.said.tid e.said.tid es h.1 (omega arith)) (floor_up n e.said.tid es h.1 (omega (arith, h.0, le)))
  where
    go : (b : Bool) → e.said.tid ≤ floor_from e.said.tid es → n ≤ floor_from n es → n ≤ floor_from (if b then e.said.tid else n) es
    go true up same = omega (arith, up, h.0, le)
    go false up same = same

floor_max : (f g m : ℕ) (es : List Entry) → RisesFrom m (said es) → g ≤ m → f ≤ g → floor_from g es ≡ max (floor_from f es) g
floor_max f g m [] h le below = omega (arith, below)
floor_max f g m (e ∷ es) h le below = go (e.status == 112) (floor_up e.said.tid e.said.tid es h.1 (omega arith)) (floor_max f g e.said.tid es h.1 (omega (arith, h.0, le)) below)
  where
    go : (b : Bool) → e.said.tid ≤ floor_from e.said.tid es → floor_from g es ≡ max (floor_from f es) g → floor_from (if b then e.said.tid else g) es ≡ max (floor_from (if b then e.said.tid else f) es) g
    go true up same = omega (arith, up, h.0, le)
    go false up same = same

pub floor_last : (a m : ℕ) (es : List Entry) → RisesFrom m (said es) → a ≤ m → floor_from a es ≤ last_after m (said es)
floor_last a m [] h le = le
floor_last a m (e ∷ es) h le = go (e.status == 112) (floor_last e.said.tid e.said.tid es h.1 (omega arith)) (floor_last a e.said.tid es h.1 (omega (arith, h.0, le)))
  where
    go : (b : Bool) → floor_from e.said.tid es ≤ last_after e.said.tid (said es) → floor_from a es ≤ last_after e.said.tid (said es) → floor_from (if b then e.said.tid else a) es ≤ last_after e.said.tid (said es)
    go true here same = here
    go false here same = same

pub floor_packed_entries : (keep : ℕ → Bool) (t : ℕ) (es : List Entry) (h : History) → said es ≡ h.transactions → floor_from 0 es ≡ h.floor → IsHistory h → floor_from 0 (packed_entries keep t es) ≡ (packed keep h t).floor
floor_packed_entries keep t es h is at good =
    let front = filter (λ (e : Entry). nat_le e.said.tid t) es in
    let rest = filter (λ (e : Entry). nat_lt t e.said.tid) es in
    let rise : RisesFrom 0 (said es) = subst (RisesFrom 0) (sym is) good in
    let joined : front ++ rest ≡ es = entries_part t 0 es rise in
    let both : RisesFrom 0 (said front ++ said rest) = subst (RisesFrom 0) (sym (ap said joined) ∙ map-append (λ (e : Entry). e.said) front rest) rise in
    let g = last_after 0 (said front) in
    let up : g ≡ last (upto h t) = ap (last_after 0) (said_filter (λ x. nat_le x.tid t) es ∙ ap (filter (λ x. nat_le x.tid t)) is) in
    let old : floor_from (floor_from 0 front) rest ≡ h.floor = sym (floor-append 0 front rest) ∙ ap (floor_from 0) joined ∙ at in
    floor-append 0 (map as_packed (thinned keep (said front))) rest
    ∙ ap (λ (n : ℕ). floor_from n rest) (floor_packed 0 (thinned keep (said front)) ∙ thinned_last keep 0 (said front))
    ∙ floor_max (floor_from 0 front) g g rest (rises_rest 0 (said front) (said rest) both) (omega arith) (floor_last 0 0 front (rises_front 0 (said front) (said rest) both) (omega arith))
    ∙ ap₂ max old up

-- ---- a packed file is one of the packed history

pub packed_file : (bs : List Block) (keep : ℕ → Bool) (t : ℕ) → AreRight bs → full_size (packed keep (front_of bs).history t) < 2 ^ 64
    → (front : Front) × IsFile (file_of (packed_entries keep t (entries bs))) front × (front.history ≡ packed keep (front_of bs).history t)
packed_file bs keep t right short =
    let h = (front_of bs).history in
    let good : IsHistory h = file_history (bytes_of bs) (front_of bs) (record { blocks = bs; right = right; spelled = refl; said = refl }) in
    let es = packed_entries keep t (entries bs) in
    let says : said es ≡ (packed keep h t).transactions = said_packed_entries keep t (entries bs) h (said_entries bs) in
    let long : file_size es ≡ full_size (packed keep h t) = full_said es (packed keep h t) says in
    let new = spelled es (packed_are_entries keep t (entries bs) (are_entries bs right)) (subst (RisesFrom 0) (sym says) (packed_rises keep h t good)) (omega (arith, long, short)) in
    (new.0, new.1, new.2 ∙ ap₂ the_history (floor_packed_entries keep t (entries bs) h (said_entries bs) (floor_entries bs) good) says)
  where
    the_history : ℕ → List Transaction → History
    the_history floor xs = record { floor = floor; transactions = xs }

-- and as long as is told of that
pub packed_size : (bs : List Block) (keep : ℕ → Bool) (t : ℕ) → length (file_of (packed_entries keep t (entries bs))) ≡ full_size (packed keep (front_of bs).history t)
packed_size bs keep t =
    let h = (front_of bs).history in
    let es = packed_entries keep t (entries bs) in
    sized es ∙ full_said es (packed keep h t) (said_packed_entries keep t (entries bs) h (said_entries bs))
