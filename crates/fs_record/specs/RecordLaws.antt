-- The data records that are read are those that stand there.
use Rattle.std.proofs.Common.{◌≡◌, ℕ, suc, zero, ◌+◌, ◌<◌, ◌≤◌, Bool, true, false, cond, leb, List, [], ◌∷◌, ◌++◌, length, take, drop, Option, Some, None, refl, sym, ap, subst, ◌∙◌, append_assoc, arith}
use Rattle.std.specs.Prelude.{option_map}
use Rattle.std.specs.List.{flat_map, AllByRecursion}
use Rattle.std.proofs.lemmas.List.{length-append, length-take, length-drop, take-append-drop, drop-drop}
use Rattle.std.proofs.lemmas.Bool.{le-leb, leb-true, false≢true}
use Rattle.zbase.specs.NumberLaws.{length-be64}
use Rattle.fs_record.specs.declared.heads.DataHead.{DataHead}
use Rattle.fs_record.specs.declared.body.Body.{Body}
use Rattle.fs_record.specs.declared.body.Body.TheVariants.{Full, Back}
use Rattle.fs_record.specs.Spelling.{data_head, head_of, Data, data_spelling, body_length, body_spelling}
use Rattle.fs_record.specs.Fits.{FitsDataHead, FitsBody, FitsData}
use Rattle.fs_record.specs.SpellingLaws.{same_data_head, same_data, long_data, data_head_from}
use Rattle.fs_record.specs.Reading.{data_head_read, body_size, body_read, data_behind, record_read, read_on, records_read}
use Rattle.fs_record.specs.HeadLaws.{IsBytes, IsBytes-drop, IsBytes-behind, u64_stands, u64_below, data_head_stands, data_head_fits}

-- ---- one data record

-- what is read at the front, or that nothing stands there, whatever its fields say
abbrev pub RecordSays : List ℕ → Option (Data × List ℕ) → Type 0
RecordSays bytes None = (d : Data) (more : List ℕ) → FitsData d → bytes ≡ data_spelling d ++ more → ⊥
RecordSays bytes (Some found) = FitsData found.0 × (bytes ≡ data_spelling found.0 ++ found.1)

head_says : (bytes : List ℕ) (d : Data) (more : List ℕ) → IsBytes bytes → FitsData d → bytes ≡ data_spelling d ++ more → (data_head_read bytes ≡ head_of d) × (drop 42 bytes ≡ body_spelling d.body ++ more)
unfolding data_spelling
head_says bytes d more bs fits e =
    let long : 42 ≤ length bytes = omega (arith, long_data d fits.body, ap length e, length-append (data_spelling d) more) in
    same_data_head (data_head_read bytes) (head_of d) (drop 42 bytes) (body_spelling d.body ++ more) (data_head_fits bytes bs) fits.head
    (sym (data_head_stands bytes bs long) ∙ e ∙ append_assoc (data_head (head_of d)) (body_spelling d.body) more)

size_is : (n : ℕ) → 0 < n → body_size n ≡ n
size_is zero lt = absurd (omega arith)
size_is (suc n) lt = refl

pub body_takes : (body : Body) → FitsBody body → body_size (body_length body) ≡ length (body_spelling body)
body_takes (Full bytes) fits = size_is (length bytes) fits
body_takes (Back place) fits = sym (length-be64 place)

no_record : (bytes : List ℕ) → IsBytes bytes → leb (42 + body_size (data_head_read bytes).length) (length bytes) ≡ false → (d : Data) (more : List ℕ) → FitsData d → bytes ≡ data_spelling d ++ more → ⊥
no_record bytes bs none d more fits e =
    let r = head_says bytes d more bs fits e in
    let size : body_size (data_head_read bytes).length ≡ length (body_spelling d.body) = ap (λ (h : DataHead). body_size h.length) r.0 ∙ body_takes d.body fits.body in
    let room : 42 + body_size (data_head_read bytes).length ≤ length bytes = omega (arith, size, ap length r.1, length-append (body_spelling d.body) more, length-drop 42 bytes, long_data d fits.body, ap length e, length-append (data_spelling d) more) in
    false≢true (sym none ∙ le-leb _ _ room)

record BodyStands (n : ℕ) (behind : List ℕ) : Type 0 where
  fits : FitsBody (body_read n behind)
  len : body_length (body_read n behind) ≡ n
  spelled : behind ≡ body_spelling (body_read n behind) ++ drop (body_size n) behind

body_stands : (n : ℕ) (behind : List ℕ) → IsBytes behind → body_size n ≤ length behind → BodyStands n behind
body_stands zero behind bs room = record { fits = u64_below 0 behind bs; len = refl; spelled = u64_stands 0 behind bs room }
body_stands (suc n) behind bs room =
    let l : length (take (suc n) behind) ≡ suc n = omega (arith, length-take (suc n) behind) in
    record { fits = omega arith; len = l; spelled = sym (take-append-drop (suc n) behind) }

found_record : (bytes : List ℕ) (h : DataHead) → bytes ≡ data_head h ++ drop 42 bytes → FitsDataHead h → BodyStands h.length (drop 42 bytes) → RecordSays bytes (Some (data_behind h (drop 42 bytes), drop (42 + body_size h.length) bytes))
unfolding data_spelling
found_record bytes h e fits b =
    let d = data_behind h (drop 42 bytes) in
    let same : h ≡ head_of d = data_head_from h (head_of d) refl refl refl refl refl (sym b.len) in (
      record { head = subst FitsDataHead same fits; body = b.fits },
      e ∙ ap (λ (g : DataHead). data_head g ++ drop 42 bytes) same
          ∙ ap (λ (x : List ℕ). data_head (head_of d) ++ x) (b.spelled ∙ ap (λ (x : List ℕ). body_spelling d.body ++ x) (drop-drop (body_size h.length) 42 bytes))
          ∙ sym (append_assoc (data_head (head_of d)) (body_spelling d.body) (drop (42 + body_size h.length) bytes)),
    )

record_by : (bytes : List ℕ) (room : Bool) → IsBytes bytes → leb (42 + body_size (data_head_read bytes).length) (length bytes) ≡ room
    → RecordSays bytes (cond room (Some (data_behind (data_head_read bytes) (drop 42 bytes), drop (42 + body_size (data_head_read bytes).length) bytes)) None)
record_by bytes false bs e = no_record bytes bs e
record_by bytes true bs e =
    let room : 42 + body_size (data_head_read bytes).length ≤ length bytes = leb-true _ _ e in
    found_record bytes (data_head_read bytes) (data_head_stands bytes bs (omega arith)) (data_head_fits bytes bs) (body_stands (data_head_read bytes).length (drop 42 bytes) (IsBytes-drop 42 bytes bs) (omega (arith, length-drop 42 bytes)))

pub record_says : (bytes : List ℕ) → IsBytes bytes → RecordSays bytes (record_read bytes)
unfolding record_read
record_says bytes bs = record_by bytes _ bs refl

-- ---- data records

-- what is read, or that no records end exactly with the bytes
abbrev pub RecordsSay : List ℕ → Option (List Data) → Type 0
RecordsSay area None = (ds : List Data) → AllByRecursion FitsData ds → area ≡ flat_map data_spelling ds → ⊥
RecordsSay area (Some ds) = AllByRecursion FitsData ds × (area ≡ flat_map data_spelling ds)

none_first : (area : List ℕ) → RecordSays area None → 0 < length area → RecordsSay area None
none_first area lacks lt [] fits e = absurd (omega (arith, ap length e))
none_first area lacks lt (d ∷ ds) fits e = lacks d (flat_map data_spelling ds) fits.0 e

none_behind : (area more : List ℕ) (d : Data) → FitsData d → area ≡ data_spelling d ++ more → RecordsSay more None → RecordsSay area None
none_behind area more d fits e lacks [] all f = absurd (omega (arith, long_data d fits.body, ap length e, ap length f, length-append (data_spelling d) more))
none_behind area more d fits e lacks (g ∷ gs) all f =
    let s = same_data d g more (flat_map data_spelling gs) fits all.0 (sym e ∙ f) in
    lacks gs all.1 s.1

joined : (area more : List ℕ) (d : Data) (o : Option (List Data)) → FitsData d → area ≡ data_spelling d ++ more → RecordsSay more o → RecordsSay area (option_map (λ (ds : List Data). d ∷ ds) o)
joined area more d None fits e says = none_behind area more d fits e says
joined area more d (Some ds) fits e says = ((fits, says.0), e ∙ ap (λ (x : List ℕ). data_spelling d ++ x) says.1)

shorter : (area more : List ℕ) (d : Data) → FitsData d → area ≡ data_spelling d ++ more → length more < length area
shorter area more d fits e = omega (arith, long_data d fits.body, ap length e, length-append (data_spelling d) more)

-- reading says so of all shorter lists
abbrev ReadsBelow : ℕ → (List ℕ → Option (List Data)) → Type 0
ReadsBelow n read = (more : List ℕ) → IsBytes more → length more < n → RecordsSay more (read more)

first_read : (area : List ℕ) (read : List ℕ → Option (List Data)) (o : Option (Data × List ℕ)) → IsBytes area → 0 < length area → ReadsBelow (length area) read → RecordSays area o → RecordsSay area (read_on read o)
first_read area read None bs lt below says = none_first area says lt
first_read area read (Some found) bs lt below says =
    joined area found.1 found.0 (read found.1) says.0 says.1 (below found.1 (IsBytes-behind (data_spelling found.0) found.1 area says.1 bs) (shorter area found.1 found.0 says.0 says.1))

pub records_say : (most : ℕ) (area : List ℕ) → IsBytes area → length area ≤ most → RecordsSay area (records_read most area)
unfolding records_read
records_say zero [] bs le = (tt, refl)
records_say zero (byte ∷ bytes) bs le = absurd (omega arith)
records_say (suc most) [] bs le = (tt, refl)
records_say (suc most) (byte ∷ bytes) bs le =
    first_read (byte ∷ bytes) (records_read most) (record_read (byte ∷ bytes)) bs (omega arith) (λ more fits lt. records_say most more fits (omega arith)) (record_says (byte ∷ bytes) bs)
