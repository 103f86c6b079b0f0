-- The data records that a file's bytes say by the places that are kept, and one more behind them.
use Rattle.std.proofs.Common.{◌≡◌, ℕ, ◌+◌, ◌<◌, ◌≤◌, ◌^◌, Bool, true, false, ◌||◌, cond, Option, Some, None, List, [], ◌∷◌, ◌++◌, length, get_or, take, drop, refl, sym, ap, subst, ◌∙◌, append_assoc, append-nil, arith}
use Rattle.std.specs.Prelude.{◌==◌, ◌&&◌, if◌then◌else◌}
use Rattle.std.specs.Int.{w64, from_be_bytes, to_be_bytes}
use Rattle.std.specs.List.{list_any, flat_map, AllByRecursion}
use Rattle.std.proofs.lemmas.Bool.{eqb-true, eq-eqb, ne_eqb}
use Rattle.std.proofs.lemmas.List.{drop_at, take_at, drop-drop, length-append, length-drop, map-append, take_more, take-append-drop}
use Rattle.std.proofs.lemmas.Nat.{from_be_bytes-to_be_bytes_8}
use Rattle.zbase.specs.Numbers.{be64, be16}
use Rattle.zbase.specs.declared.ids.Row.{Row}
use Rattle.fs_record.specs.Fits.{FitsData}
use Rattle.fs_record.specs.Reading.{u64_read}
use Rattle.fs_record.specs.Spelling.{Data, data_head, data_spelling, head_of, body_length, body_spelling}
use Rattle.fs_record.specs.SpellingLaws.{long_data}
use Rattle.fs_record.specs.File.{is_row, last_place}
use Rattle.fs_index.specs.Places.{Slots, known, place_of}
use Rattle.fs_scan.specs.Keeping.{AreSaid, Keeping, KeepsMore, KeepsOn, NoneKept, PlacesRise, Readable, is_start, row_on, rows_on, starts}
use Rattle.fs_scan.specs.Marked.{places_from}
use Rattle.fs_scan.specs.Newest.{IsNewest, greatest_of, last_row, or_greater, place_in}

-- ---- the rule of back pointers: a record begins at the place, and the id there is the object's

one_earlier : (t : Bool) (bytes : List ℕ) (oid place p : ℕ) (b : Bool) → (p == place) ≡ t → ((u64_read p bytes == oid) && (p == place)) || (b && (u64_read place bytes == oid)) ≡ ((p == place) || b) && (u64_read place bytes == oid)
one_earlier true bytes oid place p b is = rw (eqb-true p place is, eq-eqb place place refl) (both (u64_read place bytes == oid) b)
  where
    both : (x y : Bool) → ((x && true) || (y && x)) ≡ ((true || y) && x)
    both true y = refl
    both false true = refl
    both false false = refl
one_earlier false bytes oid place p b is = rw is (neither (u64_read p bytes == oid) (b && (u64_read place bytes == oid)))
  where
    neither : (x y : Bool) → ((x && false) || y) ≡ y
    neither true y = refl
    neither false y = refl

-- An object has a record at a place among these exactly where one of them begins there, and the id that stands there is its.
pub earlier : (bytes : List ℕ) (oid place : ℕ) (ps : List ℕ) → list_any (is_row oid place) (rows_on bytes ps) ≡ (is_start ps place && (u64_read place bytes == oid))
earlier bytes oid place [] = refl
earlier bytes oid place (p ∷ ps) =
    ap (λ (b : Bool). ((u64_read p bytes == oid) && (p == place)) || b) (earlier bytes oid place ps)
    ∙ one_earlier (p == place) bytes oid place p (is_start ps place) refl

-- ---- ids that are read are those that were written

pub id_there : (bytes more : List ℕ) (oid place : ℕ) → oid < 2 ^ 64 → drop place bytes ≡ be64 oid ++ more → u64_read place bytes ≡ oid
unfolding u64_read be64
id_there bytes more oid place fits e =
    ap (from_be_bytes w64) (ap (take 8) e ∙ take_at (to_be_bytes w64 oid) more 8 refl) ∙ from_be_bytes-to_be_bytes_8 oid fits

-- what stands in a head behind the id
abbrev data_head_rest : Data → List ℕ
data_head_rest d = be64 d.tid ++ be64 d.prev ++ be64 d.start ++ be16 d.version ++ be64 (body_length d.body)

id_first : (bytes : List ℕ) (at : ℕ) (d : Data) (more : List ℕ) → FitsData d → drop at bytes ≡ data_spelling d ++ more → u64_read at bytes ≡ d.oid
unfolding data_spelling data_head be64
id_first bytes at d more fits e =
    id_there bytes (data_head_rest d ++ (body_spelling d.body ++ more)) d.oid at fits.head.oid
    (e ∙ append_assoc (data_head (head_of d)) (body_spelling d.body) more ∙ append_assoc (be64 d.oid) (data_head_rest d) (body_spelling d.body ++ more))

-- ---- records more

last_row-append : (o : ℕ) (found : Option ℕ) (rows : List Row) (row : Row) → last_row o found (rows ++ row ∷ []) ≡ (if row.oid == o then Some row.place else last_row o found rows)
last_row-append o found [] row = refl
last_row-append o found (r ∷ rows) row = last_row-append o (if r.oid == o then Some r.place else found) rows row

two_greatest : (a b : ℕ) (g : Option ℕ) → or_greater a (Some (or_greater b g)) ≡ or_greater b (Some (or_greater a g))
two_greatest a b None = omega arith
two_greatest a b (Some c) = omega arith

greatest-append : (rows : List Row) (row : Row) → greatest_of (rows ++ row ∷ []) ≡ Some (or_greater row.oid (greatest_of rows))
greatest-append [] row = refl
greatest-append (r ∷ rows) row = ap (λ (g : Option ℕ). Some (or_greater r.oid g)) (greatest-append rows row) ∙ ap (λ (n : ℕ). Some n) (two_greatest r.oid row.oid (greatest_of rows))

rows-append : (bytes : List ℕ) (ps : List ℕ) (place : ℕ) → rows_on bytes (ps ++ place ∷ []) ≡ rows_on bytes ps ++ row_on bytes place ∷ []
rows-append bytes ps place = map-append (row_on bytes) ps (place ∷ [])

readable-append : (bytes ps : List ℕ) (place : ℕ) → Readable bytes ps → place + 8 ≤ length bytes → Readable bytes (ps ++ place ∷ [])
readable-append bytes [] place r le = (le, tt)
readable-append bytes (p ∷ ps) place r le = (r.0, readable-append bytes ps place r.1 le)

-- a place put in an index where room was made
pub put_newest : (old kept new : Slots) (oid place : ℕ) → 0 < place → ((o : ℕ) → place_of kept o ≡ place_of old o) → ((o : ℕ) → place_of new o ≡ (if oid == o then known place else place_of kept o)) → (o : ℕ) → place_of new o ≡ (if oid == o then Some place else place_of old o)
put_newest old kept new oid place some same put o =
    put o
    ∙ ap (λ (f : Option ℕ). if oid == o then f else place_of kept o) (known_there place some)
    ∙ ap (λ (f : Option ℕ). if oid == o then Some place else f) (same o)
  where
    known_there : (place : ℕ) → 0 < place → known place ≡ Some place
    known_there place some = rw (ne_eqb place 0 (λ e. omega (arith, e, some))) refl

-- ---- the place of an object's last record, 0 for none

place_if : (t : Bool) (place : ℕ) (f : Option ℕ) → place_in (cond t (Some place) f) ≡ (if t then place else place_in f)
place_if true place f = refl
place_if false place f = refl

pub row_place : (o : ℕ) (f : Option ℕ) (rows : List Row) → place_in (last_row o f rows) ≡ last_place o (place_in f) rows
row_place o f [] = refl
row_place o f (r ∷ rows) = row_place o (if r.oid == o then Some r.place else f) rows ∙ ap (λ (n : ℕ). last_place o n rows) (place_if (r.oid == o) r.place f)

-- the place of an object's last record is that of the records that the bytes say
pub last_said : (bytes : List ℕ) (kept : Keeping) (oid : ℕ) → KeepsOn bytes kept → place_in (place_of kept.newest oid) ≡ last_place oid 0 (rows_on bytes kept.places)
last_said bytes kept oid keeps = ap place_in (keeps.newest_of oid) ∙ row_place oid None (rows_on bytes kept.places)

one_still : (bytes : List ℕ) (old new : Keeping) (row : Row) → new.places ≡ old.places ++ row.place ∷ [] → ((o : ℕ) → place_of new.newest o ≡ (if row.oid == o then Some row.place else place_of old.newest o)) → new.greatest ≡ Some (or_greater row.oid old.greatest)
    → KeepsOn bytes old → AreSaid bytes (row ∷ []) → KeepsOn bytes new
one_still bytes old new row places newest greatest kept said =
    let rows : rows_on bytes new.places ≡ rows_on bytes old.places ++ row ∷ [] = ap (rows_on bytes) places ∙ rows-append bytes old.places row.place ∙ ap (λ (o : ℕ). rows_on bytes old.places ++ record { oid = o; place = row.place } ∷ []) said.0.1 in
    record {
      readable = subst (Readable bytes) (sym places) (readable-append bytes old.places row.place kept.readable said.0.0);
      newest_of = λ o.
          newest o
          ∙ ap (λ (f : Option ℕ). if row.oid == o then Some row.place else f) (kept.newest_of o)
          ∙ sym (ap (last_row o None) rows ∙ last_row-append o None (rows_on bytes old.places) row);
      greatest_in =
          greatest ∙ ap (λ (g : Option ℕ). Some (or_greater row.oid g)) kept.greatest_in
          ∙ sym (ap greatest_of rows ∙ greatest-append (rows_on bytes old.places) row);
    }

-- what is kept behind one record more
pub one_more : (old new : Keeping) (row : Row) → new.places ≡ old.places ++ row.place ∷ [] → ((o : ℕ) → place_of new.newest o ≡ (if row.oid == o then Some row.place else place_of old.newest o)) → new.greatest ≡ Some (or_greater row.oid old.greatest) → KeepsMore old new (row ∷ [])
one_more old new row places newest greatest = record { places = places; still = λ bytes kept said. one_still bytes old new row places newest greatest kept said }

pub none_more : (kept : Keeping) → KeepsMore kept kept []
none_more kept = record { places = sym (append-nil kept.places); still = λ bytes keeps said. keeps }

said_first : (bytes : List ℕ) (xs ys : List Row) → AreSaid bytes (xs ++ ys) → AreSaid bytes xs × AreSaid bytes ys
said_first bytes [] ys said = (tt, said)
said_first bytes (row ∷ xs) ys said = let rest = said_first bytes xs ys said.1 in ((said.0, rest.0), rest.1)

pub more_behind : (old now new : Keeping) (xs ys : List Row) → KeepsMore old now xs → KeepsMore now new ys → KeepsMore old new (xs ++ ys)
more_behind old now new xs ys first second = record {
  places = second.places ∙ ap (λ (ps : List ℕ). ps ++ starts ys) first.places ∙ append_assoc old.places (starts xs) (starts ys) ∙ ap (λ (ps : List ℕ). old.places ++ ps) (sym (map-append (λ (row : Row). row.place) xs ys));
  still = λ bytes keeps said. let parts = said_first bytes xs ys said in second.still bytes (first.still bytes keeps parts.0) parts.1;
}

-- what is kept of nothing is what any bytes say there
pub none_said : (bytes : List ℕ) (kept : Keeping) → NoneKept kept → KeepsOn bytes kept
none_said bytes kept none = record {
  readable = subst (Readable bytes) (sym none.places) tt;
  newest_of = subst (λ (ps : List ℕ). IsNewest (rows_on bytes ps) kept.newest) (sym none.places) none.newest;
  greatest_in = none.greatest ∙ ap (λ (ps : List ℕ). greatest_of (rows_on bytes ps)) (sym none.places);
}

-- the records that stand in the bytes are said by them
pub all_said : (bytes : List ℕ) (at : ℕ) (ds : List Data) (more : List ℕ) → AllByRecursion FitsData ds → drop at bytes ≡ flat_map data_spelling ds ++ more → AreSaid bytes (places_from at ds)
all_said bytes at [] more fits e = tt
all_said bytes at (d ∷ ds) more fits e =
    let first : drop at bytes ≡ data_spelling d ++ (flat_map data_spelling ds ++ more) = e ∙ append_assoc (data_spelling d) (flat_map data_spelling ds) more in
    let next : drop (at + length (data_spelling d)) bytes ≡ flat_map data_spelling ds ++ more = sym (drop-drop (length (data_spelling d)) at bytes) ∙ ap (drop (length (data_spelling d))) first ∙ drop_at (data_spelling d) (flat_map data_spelling ds ++ more) (length (data_spelling d)) refl in (
      (omega (arith, long_data d fits.0.body, ap length first, length-append (data_spelling d) (flat_map data_spelling ds ++ more), length-drop at bytes), id_first bytes at d (flat_map data_spelling ds ++ more) fits.0 first),
      all_said bytes (at + length (data_spelling d)) ds more fits.1 next,
    )

pub same_rows : (bytes : List ℕ) (rows : List Row) → AreSaid bytes rows → rows_on bytes (starts rows) ≡ rows
same_rows bytes [] said = refl
same_rows bytes (row ∷ rows) said = ap (λ (o : ℕ). record { oid = o; place = row.place } ∷ rows_on bytes (starts rows)) said.0.1 ∙ ap (λ (rs : List Row). row ∷ rs) (same_rows bytes rows said.1)

-- the records that the bytes say, behind those of a transaction
pub rows_more : (bytes : List ℕ) (old new : Keeping) (rows : List Row) → KeepsMore old new rows → AreSaid bytes rows → rows_on bytes new.places ≡ rows_on bytes old.places ++ rows
rows_more bytes old new rows more said = ap (rows_on bytes) more.places ∙ map-append (row_on bytes) old.places (starts rows) ∙ ap (λ (rs : List Row). rows_on bytes old.places ++ rs) (same_rows bytes rows said)

-- ---- some of the records first

rise_front : (n : ℕ) (xs ys : List ℕ) → PlacesRise n (xs ++ ys) → PlacesRise n xs
rise_front n [] ys h = tt
rise_front n (place ∷ xs) ys h = (h.0, rise_front (place + 1) xs ys h.1)

one_on : (rows : List Row) (i : ℕ) (row any : Row) → i < length rows → row ≡ get_or rows i any → take i rows ++ row ∷ [] ≡ take (i + 1) rows
one_on rows i row any lt is = ap (λ (r : Row). take i rows ++ r ∷ []) is ∙ sym (take_more rows i any lt)

pub next_place : (old now : Keeping) (rows : List Row) (i : ℕ) (row any : Row) → PlacesRise 0 (old.places ++ starts rows) → KeepsMore old now (take i rows) → i < length rows → row ≡ get_or rows i any → PlacesRise 0 (now.places ++ row.place ∷ [])
next_place old now rows i row any h more lt is =
    let front : starts (take i rows) ++ row.place ∷ [] ≡ starts (take (i + 1) rows) = sym (map-append (λ (r : Row). r.place) (take i rows) (row ∷ [])) ∙ ap starts (one_on rows i row any lt is) in
    let one : now.places ++ row.place ∷ [] ≡ old.places ++ starts (take (i + 1) rows) = ap (λ (ps : List ℕ). ps ++ row.place ∷ []) more.places ∙ append_assoc old.places (starts (take i rows)) (row.place ∷ []) ∙ ap (λ (ps : List ℕ). old.places ++ ps) front in
    let parts : starts rows ≡ starts (take (i + 1) rows) ++ starts (drop (i + 1) rows) = ap starts (sym (take-append-drop (i + 1) rows)) ∙ map-append (λ (r : Row). r.place) (take (i + 1) rows) (drop (i + 1) rows) in
    let all : old.places ++ starts rows ≡ (old.places ++ starts (take (i + 1) rows)) ++ starts (drop (i + 1) rows) = ap (λ (ps : List ℕ). old.places ++ ps) parts ∙ sym (append_assoc old.places (starts (take (i + 1) rows)) (starts (drop (i + 1) rows))) in
    subst (PlacesRise 0) (sym one) (rise_front 0 (old.places ++ starts (take (i + 1) rows)) (starts (drop (i + 1) rows)) (subst (PlacesRise 0) all h))

pub next_more : (old now new : Keeping) (rows : List Row) (i : ℕ) (row any : Row) → KeepsMore old now (take i rows) → KeepsMore now new (row ∷ []) → i < length rows → row ≡ get_or rows i any → KeepsMore old new (take (i + 1) rows)
next_more old now new rows i row any more one lt is = subst (KeepsMore old new) (one_on rows i row any lt is) (more_behind old now new (take i rows) (row ∷ []) more one)
