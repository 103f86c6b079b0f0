-- The data records of a transaction, read one after another by pieces of the file.
use Rattle.std.proofs.Common.{◌≡◌, ℕ, zero, suc, ◌+◌, ◌-◌, ◌<◌, ◌≤◌, true, List, [], ◌∷◌, ◌++◌, length, take, drop, Option, Some, None, IfSome, refl, sym, ap, subst, ◌∙◌, append_assoc, arith, inl, inr}
use Rattle.std.specs.Prelude.{◌==◌, ◌&&◌, min}
use Rattle.std.specs.Option.{ForSome}
use Rattle.std.proofs.lemmas.Bool.{cases_lt}
use Rattle.std.proofs.lemmas.List.{drop-drop, drop-take, length-drop, length-take, take-append-drop, take-take, take_all}
use Rattle.zbase.specs.declared.ids.Row.{Row}
use Rattle.zdisk.specs.Disk.{Told, bytes_at, content}
use Rattle.fs_index.specs.Places.{place_of}
use Rattle.fs_record.specs.File.{is_right_body}
use Rattle.fs_record.specs.Spelling.{data_spelling}
use Rattle.fs_record.specs.declared.body.Body.TheVariants.{Back}
use Rattle.fs_scan.specs.Backs.{PointsTo}
use Rattle.fs_scan.specs.declared.data.Found.{Found}
use Rattle.fs_scan.specs.declared.extent.Frame.{Frame}
use Rattle.fs_scan.specs.declared.judging.Marks.{Marks}
use Rattle.fs_scan.specs.Extent.{FrameFits, area_at}
use Rattle.fs_scan.specs.Found.{DataStands, IsFront, NoData, body_in, data_in}
use Rattle.fs_scan.specs.Keeping.{Keeping, KeepsOn, Readable, rows_on}
use Rattle.fs_scan.specs.Marked.{NoRecords, Read}
use Rattle.fs_scan.specs.Newest.{place_in}
use Rattle.fs_scan.proofs.KeptPlaces.{last_said}
use Rattle.fs_scan.proofs.OneByOne.{ReadTo, all_read, begun, none_read, turn}

-- the first bytes of what is left are a front of it
pub front_of_left : (most left size : ℕ) (xs rest piece : List ℕ) → left ≤ length xs → rest ≡ take left xs → size ≡ min most left → piece ≡ take size xs → IsFront most left piece rest
front_of_left most left size xs rest piece room is cut read = record {
  long = omega (arith, ap length is, length-take left xs);
  taken = elim (cases_lt left most) [
    | inl lt ↦
        let all : size ≡ left = omega (arith, cut, lt) in
        read ∙ ap (λ (n : ℕ). take n xs) all ∙ sym (take_all most (take left xs) (omega (arith, length-take left xs, lt))) ∙ ap (take most) (sym is)
    | inr le ↦
        let whole : size ≡ most = omega (arith, cut, le) in
        read ∙ ap (λ (n : ℕ). take n xs) whole ∙ sym (take-take most left xs le) ∙ ap (take most) (sym is)
  ];
}

points_back : (n back : ℕ) (behind : List ℕ) → n ≡ 0 → body_in n back behind ≡ Back back
points_back zero back behind none = refl
points_back (suc n) back behind none = absurd (omega (arith, none))

module _ (bytes : List ℕ) (f : Frame) (fits : FrameFits f.place (length bytes - f.place) f) (at : ℕ) (begins : f.place + f.from ≤ at) (within : at ≤ f.place + f.long) where
  -- how far it is in the area
  passed : ℕ
  passed = at - (f.place + f.from)

  left_there : drop (at - (f.place + f.from)) (area_at f bytes) ≡ take (f.place + f.long - at) (drop at bytes)
  left_there =
      let i = at - (f.place + f.from) in
      let left = f.place + f.long - at in
      let size : f.long - f.from ≡ i + left = omega (arith, begins, within, fits.within) in
      let there : f.place + (f.from + i) ≡ at = omega (arith, begins) in
      ap (λ (n : ℕ). drop i (take n (drop f.from (drop f.place bytes)))) size
      ∙ drop-take i left (drop f.from (drop f.place bytes))
      ∙ ap (take left) (drop-drop i f.from (drop f.place bytes) ∙ drop-drop (f.from + i) f.place bytes ∙ ap (λ (n : ℕ). drop n bytes) there)

  pub front_there : (left size : ℕ) (piece : List ℕ) → left ≡ f.place + f.long - at → size ≡ min 50 left → piece ≡ take size (drop at bytes) → IsFront 50 left piece (drop (at - (f.place + f.from)) (area_at f bytes))
  front_there left size piece is cut read =
      front_of_left 50 left size (drop at bytes) (drop (at - (f.place + f.from)) (area_at f bytes)) piece (omega (arith, is, length-drop at bytes, fits.room, within)) (left_there ∙ ap (λ (n : ℕ). take n (drop at bytes)) (sym is)) cut read

  -- a record without data stands in the file as it does in the area
  points_there : (left size : ℕ) (piece : List ℕ) (found : Found) → left ≡ f.place + f.long - at → size ≡ min 50 left → piece ≡ take size (drop at bytes)
      → ((area : List ℕ) → IsFront 50 left piece area → DataStands (data_in found area) area (drop found.size area)) → found.head.length ≡ 0 → 0 < found.back → PointsTo bytes at found.back
  points_there left size piece found is cut taken stands none some =
      let rest = drop (at - (f.place + f.from)) (area_at f bytes) in
      let beyond = drop (f.place + f.long - at) (drop at bytes) in
      let s = stands rest (front_there left size piece is cut taken) in
      record {
        written = data_in found rest;
        behind = drop found.size rest ++ beyond;
        fits = s.fits;
        spelled = sym (take-append-drop (f.place + f.long - at) (drop at bytes)) ∙ ap (λ (x : List ℕ). x ++ beyond) (sym left_there ∙ s.spelled) ∙ append_assoc (data_spelling (data_in found rest)) (drop found.size rest) beyond;
        body = points_back found.head.length found.back (drop 42 rest) none;
        some = some;
      }

  long_area : length (area_at f bytes) ≡ f.long - f.from
  long_area = omega (arith, length-take (f.long - f.from) (drop f.from (drop f.place bytes)), length-drop f.from (drop f.place bytes), length-drop f.place bytes, fits.room, fits.within)

  module _ (kept : Keeping) (keeps : KeepsOn bytes kept) (old now : List Row) (marks : Marks) (read : ReadTo (area_at f bytes) (at - (f.place + f.from)) (rows_on bytes kept.places) old now (f.place + f.from) f.head.tid f.place marks) where
    pub one_on : (left size : ℕ) (piece : List ℕ) (found : Found) (new : List Row) (one both : Marks)
        → left ≡ f.place + f.long - at → size ≡ min 50 left → piece ≡ take size (drop at bytes)
        → ((area : List ℕ) → IsFront 50 left piece area → DataStands (data_in found area) area (drop found.size area)) → found.size ≤ left
        → one.own ≡ ((found.head.tid == f.head.tid) && (found.head.start == f.place)) → one.prev ≡ (found.head.prev == place_in (place_of kept.newest found.head.oid))
        → ((behind : List ℕ) → one.back ≡ is_right_body (rows_on bytes kept.places) found.head.oid (body_in found.head.length found.back behind)) → one.version ≡ (found.head.version == 0)
        → both.own ≡ (marks.own && one.own) → both.prev ≡ (marks.prev && one.prev) → both.back ≡ (marks.back && one.back) → both.version ≡ (marks.version && one.version)
        → new ≡ now ++ record { oid = found.head.oid; place = at } ∷ []
        → ReadTo (area_at f bytes) (at + found.size - (f.place + f.from)) (rows_on bytes kept.places) old new (f.place + f.from) f.head.tid f.place both
    one_on left size piece found new one both is cut taken stands room k1 k2 k3 k4 n1 n2 n3 n4 added =
        let area = area_at f bytes in
        let i = at - (f.place + f.from) in
        let rest = drop i area in
        let front = front_there left size piece is cut taken in
        let there : at ≡ f.place + f.from + i = omega (arith, begins) in
        let on : i + found.size ≡ at + found.size - (f.place + f.from) = omega (arith, begins) in
        subst (λ (n : ℕ). ReadTo area n (rows_on bytes kept.places) old new (f.place + f.from) f.head.tid f.place both) on
        (turn area rest i found (rows_on bytes kept.places) old now new (f.place + f.from) f.head.tid f.place marks one both read refl (stands rest front) (omega (arith, room, front.long))
        k1 (k2 ∙ ap (λ (n : ℕ). found.head.prev == n) (last_said bytes kept found.head.oid keeps)) (k3 (drop 42 rest)) k4 n1 n2 n3 n4
        (added ∙ ap (λ (n : ℕ). now ++ record { oid = found.head.oid; place = n } ∷ []) there))

    pub none_on : (left size : ℕ) (piece : List ℕ) → left ≡ f.place + f.long - at → size ≡ min 50 left → piece ≡ take size (drop at bytes) → ((area : List ℕ) → IsFront 50 left piece area → NoData area) → at < f.place + f.long → NoRecords (area_at f bytes)
    none_on left size piece is cut taken none lt =
        let area = area_at f bytes in
        let i = at - (f.place + f.from) in
        none_read area i (rows_on bytes kept.places) old now (f.place + f.from) f.head.tid f.place marks read (omega (arith, long_area, begins, lt)) (none (drop i area) (front_there left size piece is cut taken))

    pub all_on : at ≡ f.place + f.long → Read (area_at f bytes) (rows_on bytes kept.places) old now (f.place + f.from) f.head.tid f.place marks
    all_on end = all_read (area_at f bytes) (at - (f.place + f.from)) (rows_on bytes kept.places) old now (f.place + f.from) f.head.tid f.place marks read (omega (arith, long_area, end))

-- ---- the same, where the disk tells

abbrev pub ReadOn : Option Told → Frame → Keeping → List Row → ℕ → List Row → Marks → Type 0
ReadOn disk f kept old at now marks = IfSome disk (λ told. ReadTo (area_at f (content told)) (at - (f.place + f.from)) (rows_on (content told) kept.places) old now (f.place + f.from) f.head.tid f.place marks)

fit_there : (told : Told) (len : ℕ) (f : Frame) → ForSome (Some told) (λ told. len ≡ length (content told)) → FrameFits f.place (len - f.place) f → FrameFits f.place (length (content told) - f.place) f
fit_there told len f whole fits = subst (λ (n : ℕ). FrameFits f.place (n - f.place) f) (whole told refl) fits

pub points_told : (disk : Option Told) (len : ℕ) (f : Frame) → ForSome disk (λ told. len ≡ length (content told)) → FrameFits f.place (len - f.place) f → (at : ℕ) → f.place + f.from ≤ at → at ≤ f.place + f.long
    → (left size : ℕ) (piece : List ℕ) (found : Found) → left ≡ f.place + f.long - at → size ≡ min 50 left → IfSome disk (λ told. piece ≡ bytes_at told at size)
    → ((area : List ℕ) → IsFront 50 left piece area → DataStands (data_in found area) area (drop found.size area)) → IfSome disk (λ told. found.head.length ≡ 0 → 0 < found.back → PointsTo (content told) at found.back)
points_told None len f w fits at begins within left size piece found is cut taken stands = tt
points_told (Some told) len f w fits at begins within left size piece found is cut taken stands = points_there (content told) f (fit_there told len f w fits) at begins within left size piece found is cut taken stands

pub first_on : (disk : Option Told) (f : Frame) (kept : Keeping) (old : List Row) (marks : Marks) → marks.own ≡ true → marks.prev ≡ true → marks.back ≡ true → marks.version ≡ true → ReadOn disk f kept old (f.place + f.from) old marks
first_on None f kept old marks a b c d = tt
first_on (Some told) f kept old marks a b c d =
    subst (λ (n : ℕ). ReadTo (area_at f (content told)) n (rows_on (content told) kept.places) old old (f.place + f.from) f.head.tid f.place marks) (omega arith)
    (begun (area_at f (content told)) (rows_on (content told) kept.places) old (f.place + f.from) f.head.tid f.place marks a b c d)

pub readable_on : (disk : Option Told) (kept : Keeping) → IfSome disk (λ told. KeepsOn (content told) kept) → ForSome disk (λ told. Readable (content told) kept.places)
readable_on None kept keeps = λ told is. absurd cc
readable_on (Some t) kept keeps = λ told is. subst (λ (x : Told). Readable (content x) kept.places) (one t told is) keeps.readable
  where
    one : (a b : Told) → Some a ≡ Some b → a ≡ b
    one a b is = cc

module _ (disk : Option Told) (len : ℕ) (f : Frame) (whole : ForSome disk (λ told. len ≡ length (content told))) (fits : FrameFits f.place (len - f.place) f) (at : ℕ) (begins : f.place + f.from ≤ at) (within : at ≤ f.place + f.long) (kept : Keeping) (keeps : IfSome disk (λ told. KeepsOn (content told) kept)) (old now : List Row) (marks : Marks) (read : ReadOn disk f kept old at now marks) where
  pub one_told : (left size : ℕ) (piece : List ℕ) (found : Found) (new : List Row) (one both : Marks)
      → left ≡ f.place + f.long - at → size ≡ min 50 left → IfSome disk (λ told. piece ≡ bytes_at told at size)
      → ((area : List ℕ) → IsFront 50 left piece area → DataStands (data_in found area) area (drop found.size area)) → found.size ≤ left
      → one.own ≡ ((found.head.tid == f.head.tid) && (found.head.start == f.place)) → one.prev ≡ (found.head.prev == place_in (place_of kept.newest found.head.oid))
      → IfSome disk (λ told. (behind : List ℕ) → one.back ≡ is_right_body (rows_on (content told) kept.places) found.head.oid (body_in found.head.length found.back behind)) → one.version ≡ (found.head.version == 0)
      → both.own ≡ (marks.own && one.own) → both.prev ≡ (marks.prev && one.prev) → both.back ≡ (marks.back && one.back) → both.version ≡ (marks.version && one.version)
      → new ≡ now ++ record { oid = found.head.oid; place = at } ∷ []
      → ReadOn disk f kept old (at + found.size) new both
  one_told left size piece found new one both is cut taken stands room k1 k2 k3 k4 n1 n2 n3 n4 added = by_disk disk whole keeps read taken k3
    where
      by_disk : (d : Option Told) → ForSome d (λ told. len ≡ length (content told)) → IfSome d (λ told. KeepsOn (content told) kept) → ReadOn d f kept old at now marks → IfSome d (λ told. piece ≡ bytes_at told at size)
          → IfSome d (λ told. (behind : List ℕ) → one.back ≡ is_right_body (rows_on (content told) kept.places) found.head.oid (body_in found.head.length found.back behind)) → ReadOn d f kept old (at + found.size) new both
      by_disk None w k r t b = tt
      by_disk (Some told) w k r t b = one_on (content told) f (fit_there told len f w fits) at begins within kept k old now marks r left size piece found new one both is cut t stands room k1 k2 b k4 n1 n2 n3 n4 added

  pub none_told : (left size : ℕ) (piece : List ℕ) → left ≡ f.place + f.long - at → size ≡ min 50 left → IfSome disk (λ told. piece ≡ bytes_at told at size) → ((area : List ℕ) → IsFront 50 left piece area → NoData area) → at < f.place + f.long → IfSome disk (λ told. NoRecords (area_at f (content told)))
  none_told left size piece is cut taken none lt = by_disk disk whole keeps read taken
    where
      by_disk : (d : Option Told) → ForSome d (λ told. len ≡ length (content told)) → IfSome d (λ told. KeepsOn (content told) kept) → ReadOn d f kept old at now marks → IfSome d (λ told. piece ≡ bytes_at told at size) → IfSome d (λ told. NoRecords (area_at f (content told)))
      by_disk None w k r t = tt
      by_disk (Some told) w k r t = none_on (content told) f (fit_there told len f w fits) at begins within kept k old now marks r left size piece is cut t none lt

  pub all_told : at ≡ f.place + f.long → IfSome disk (λ told. Read (area_at f (content told)) (rows_on (content told) kept.places) old now (f.place + f.from) f.head.tid f.place marks)
  all_told end = by_disk disk whole keeps read
    where
      by_disk : (d : Option Told) → ForSome d (λ told. len ≡ length (content told)) → IfSome d (λ told. KeepsOn (content told) kept) → ReadOn d f kept old at now marks → IfSome d (λ told. Read (area_at f (content told)) (rows_on (content told) kept.places) old now (f.place + f.from) f.head.tid f.place marks)
      by_disk None w k r = tt
      by_disk (Some told) w k r = all_on (content told) f (fit_there told len f w fits) at begins within kept k old now marks r end
