-- Records that are kept: what a cache does to them, and that what is kept is what a store would load.
use Rattle.std.proofs.Common.{◌≡◌, ℕ, zero, suc, ◌+◌, ◌-◌, ◌<◌, ◌≤◌, Bool, true, false, cond, eqb, List, [], ◌∷◌, length, take, Contains, Option, Some, None, IfSome, Result, Ok, Err, IfOk, refl, sym, ap, subst, ◌∙◌, arith, inl, inr}
use Rattle.std.specs.Prelude.{slice_get}
use Rattle.std.specs.Map.{lookup, lookup_entry, remove_entry}
use Rattle.std.specs.Option.{option_map_or}
use Rattle.std.proofs.lemmas.Bool.{cases_eq, eqb-true, ne_eqb}
use Rattle.lru.specs.LruCache.{LruCache, promoted, put_entries}
use Rattle.lru.proofs.CallerLemmas.{Contains-put_entries, Contains-lookup}
use Rattle.zbase.specs.History.{Value}
use Rattle.zbase.specs.Values.{serial, serial_of, upto, value, value_of}
use Rattle.zdisk.specs.Disk.{Told}
use Rattle.fs_record.specs.File.{Front, last_place, rows, value_at}
use Rattle.fs_record.specs.Walks.{Passed}
use Rattle.fs_record.specs.WalkLaws.{leads, none, none_at_all, same, whole}
use Rattle.fs_scan.specs.Newest.{place_in}
use Rattle.fs_index.specs.Places.{place_of}
use Rattle.fs_store.specs.declared.file.OpenFile.{OpenFile}
use Rattle.fs_store.specs.declared.reads.Loaded.{Loaded}
use Rattle.fs_store.specs.declared.reads.Seen.{Seen}
use Rattle.fs_store.specs.Fronts.{file_at, front_at}
use Rattle.fs_store.specs.Knowing.{IsKnown, Knows}
use Rattle.fs_store.specs.Recent.{AreRead, Fits, IsWith, bytes_in, most_bytes, most_value, total}
use Rattle.fs_store.specs.Seeing.{IsLoaded, ReadIn, ReadOn, SeenIn, SeenOn}
use Rattle.fs_store.proofs.Tellings.{moved}

-- ---- how many bytes the values have together

pub total_removed : (test : ℕ → Bool) (es : List (ℕ × Loaded)) (e : ℕ × Loaded) → lookup_entry test es ≡ Some e → total (remove_entry test es) + bytes_in e.1.value ≡ total es
total_removed test [] e is = absurd cc
total_removed test (x ∷ xs) e is = go (total_removed test xs e) (test x.0) refl
  where
    here : x ≡ e → total xs + bytes_in e.1.value ≡ bytes_in x.1.value + total xs
    here one = omega (arith, ap (λ (y : ℕ × Loaded). bytes_in y.1.value) one)

    go : (lookup_entry test xs ≡ Some e → total (remove_entry test xs) + bytes_in e.1.value ≡ total xs) → (b : Bool) → test x.0 ≡ b → total (remove_entry test (x ∷ xs)) + bytes_in e.1.value ≡ total (x ∷ xs)
    go deeper true t = let found = rw t at is in let one : x ≡ e = cc in rw t (here one)
    go deeper false t = let found = rw t at is in rw t (omega (arith, deeper found))

total_at : (es : List (ℕ × Loaded)) (n : ℕ) (e : ℕ × Loaded) → slice_get es n ≡ Some e → n + 1 ≡ length es → total (take n es) + bytes_in e.1.value ≡ total es
total_at [] n e is long = absurd cc
total_at (x ∷ []) zero e is long = let one : x ≡ e = cc in omega (arith, ap (λ (y : ℕ × Loaded). bytes_in y.1.value) one)
total_at (x ∷ y ∷ xs) zero e is long = absurd (omega (arith, long))
total_at (x ∷ xs) (suc n) e is long = omega (arith, total_at xs n e is (omega (arith, long)))

pub total_last : (es : List (ℕ × Loaded)) (e : ℕ × Loaded) → slice_get es (length es - 1) ≡ Some e → total (take (length es - 1) es) + bytes_in e.1.value ≡ total es
total_last [] e is = absurd cc
total_last (x ∷ xs) e is = total_at (x ∷ xs) (length (x ∷ xs) - 1) e is (omega arith)

pub total_taken : (n : ℕ) (es : List (ℕ × Loaded)) → total (take n es) ≤ total es
total_taken zero es = omega arith
total_taken (suc n) [] = omega arith
total_taken (suc n) (x ∷ xs) = omega (arith, total_taken n xs)

pub total_without : (test : ℕ → Bool) (es : List (ℕ × Loaded)) → total (remove_entry test es) ≤ total es
total_without test [] = omega arith
total_without test (x ∷ xs) = go (total_without test xs) (test x.0) refl
  where
    go : total (remove_entry test xs) ≤ total xs → (b : Bool) → test x.0 ≡ b → total (remove_entry test (x ∷ xs)) ≤ total (x ∷ xs)
    go deeper true t = rw t (omega arith)
    go deeper false t = rw t (omega (arith, deeper))

pub total_promoted : (test : ℕ → Bool) (es : List (ℕ × Loaded)) → total (promoted test es) ≡ total es
total_promoted test es = go (lookup_entry test es) refl
  where
    go : (o : Option (ℕ × Loaded)) → lookup_entry test es ≡ o → total (option_map_or (λ e. e ∷ remove_entry test es) o es) ≡ total es
    go None is = refl
    go (Some e) is = omega (arith, total_removed test es e is)

pub total_put : (c : LruCache ℕ Loaded) (oid : ℕ) (loaded : Loaded) → total (put_entries eqb c oid loaded) ≤ total c.entries + bytes_in loaded.value
total_put c oid loaded = go (lookup_entry (eqb oid) c.entries)
  where
    go : (o : Option (ℕ × Loaded)) → total (option_map_or (λ e. (e.0, loaded) ∷ remove_entry (eqb oid) c.entries) o ((oid, loaded) ∷ take (c.cap - 1) c.entries)) ≤ total c.entries + bytes_in loaded.value
    go None = omega (arith, total_taken (c.cap - 1) c.entries)
    go (Some e) = omega (arith, total_without (eqb oid) c.entries)

-- ---- which they are

-- what a look-up for an object finds is kept by that object
pub found_by : (es : List (ℕ × Loaded)) (oid : ℕ) (loaded : Loaded) → lookup (eqb oid) es ≡ Some loaded → Contains es (oid, loaded)
found_by es oid loaded is =
    let there = Contains-lookup (eqb oid) es loaded is in
    subst (λ (k : ℕ). Contains es (k, loaded)) (sym (eqb-true oid there.0 there.2)) there.1

pub put_with : (c : LruCache ℕ Loaded) (oid : ℕ) (loaded : Loaded) → IsWith c.entries oid loaded (put_entries eqb c oid loaded)
put_with c oid loaded e there =
    elim (Contains-put_entries eqb c oid loaded e there) [
      | inl was ↦ inl was
      | inr put ↦ inr (pair e put.0 (elim put.1 [
        | inl own ↦ own
        | inr equal ↦ sym (eqb-true oid e.0 equal.2)
      ]))
    ]
  where
    pair : (e : ℕ × Loaded) → e.1 ≡ loaded → e.0 ≡ oid → e ≡ (oid, loaded)
    pair e p q = subst (λ (k : ℕ). e ≡ (k, loaded)) q (ap (λ (l : Loaded). (e.0, l)) p)

pub with_fewer : (old less new : List (ℕ × Loaded)) (oid : ℕ) (loaded : Loaded) → ((e : ℕ × Loaded) → Contains less e → Contains old e) → IsWith less oid loaded new → IsWith old oid loaded new
with_fewer old less new oid loaded fewer with e there =
    elim (with e there) [
      | inl was ↦ inl (fewer e was)
      | inr one ↦ inr one
    ]

-- what is found for an object, as a copy
pub found_one : {E : Type 0} (r : Result (Option Loaded) E) (es : List (ℕ × Loaded)) (oid place at : ℕ) (kept : Loaded) → Contains es (oid, kept) → IfOk r (λ copy. IfSome copy (λ c. (c ≡ kept) × (c.place ≡ place) × (c.serial ≤ at)))
    → IfOk r (λ found. IfSome found (λ loaded. Contains es (oid, loaded) × (loaded.place ≡ place) × (loaded.serial ≤ at)))
found_one (Ok (Some x)) es oid place at kept there is = (subst (λ (l : Loaded). Contains es (oid, l)) (sym is.0) there, is.1, is.2)
found_one (Ok None) es oid place at kept there is = tt
found_one (Err e) es oid place at kept there is = tt

pub fits_fewer : (old new : List (ℕ × Loaded)) (bytes : ℕ) → ((e : ℕ × Loaded) → Contains new e → Contains old e) → total new ≡ total old → Fits old bytes → Fits new bytes
fits_fewer old new bytes fewer same fits = (λ e there. fits.0 e (fewer e there), omega (arith, same, fits.1), fits.2)

-- no record is left where none comes out
some_at : (es : List (ℕ × Loaded)) (n : ℕ) → n < length es → slice_get es n ≡ None → ⊥
some_at [] n within is = omega (arith, within)
some_at (x ∷ xs) zero within is = cc
some_at (x ∷ xs) (suc n) within is = some_at xs n (omega (arith, within)) is

pub none_last : (es : List (ℕ × Loaded)) → slice_get es (length es - 1) ≡ None → es ≡ []
none_last [] is = refl
none_last (x ∷ xs) is = absurd (some_at (x ∷ xs) (length (x ∷ xs) - 1) (omega arith) is)

pub fits_left : (old new : List (ℕ × Loaded)) (bytes room : ℕ) → Fits old bytes → ((e : ℕ × Loaded) → Contains new e → Contains old e) → total new ≤ room → room ≤ most_bytes → Fits new room
fits_left old new bytes room fits fewer le most = (λ e there. fits.0 e (fewer e there), le, most)

pub fits_put : (old : List (ℕ × Loaded)) (c : LruCache ℕ Loaded) (oid : ℕ) (loaded : Loaded) (bytes room length : ℕ) → Fits old bytes → ((e : ℕ × Loaded) → Contains c.entries e → Contains old e)
    → total c.entries ≤ room → room + length ≤ most_bytes → length ≡ bytes_in loaded.value → length ≤ most_value → Fits (put_entries eqb c oid loaded) (room + length)
fits_put old c oid loaded bytes room length fits fewer le most is short = (each, omega (arith, total_put c oid loaded, le, is), most)
  where
    each : (e : ℕ × Loaded) → Contains (put_entries eqb c oid loaded) e → bytes_in e.1.value ≤ most_value
    each e there = elim (put_with c oid loaded e there) [
      | inl was ↦ fits.0 e (fewer e was)
      | inr own ↦ omega (arith, is, short, ap (λ (x : ℕ × Loaded). bytes_in x.1.value) own)
    ]

-- ---- that they are right

pub read_fewer : (o u : Option Told) (end : ℕ) (old new : List (ℕ × Loaded)) → u ≡ o → ((e : ℕ × Loaded) → Contains new e → Contains old e) → AreRead o end old → AreRead u end new
read_fewer o u end old new same fewer all e there = moved o u _ same (all e (fewer e there))

pub read_with : (o u : Option Told) (end oid : ℕ) (loaded : Loaded) (old new : List (ℕ × Loaded)) → u ≡ o → IsWith old oid loaded new → AreRead o end old → ReadOn o end oid loaded → AreRead u end new
read_with o u end oid loaded old new same with all one e there =
    elim (with e there) [
      | inl was ↦ moved o u _ same (all e was)
      | inr own ↦ subst (λ (x : ℕ × Loaded). ReadOn u end x.0 x.1) (sym own) (moved o u _ same one)
    ]

-- what was loaded is what was read, and seen
pub loaded_read : (o : Option Told) (end oid t : ℕ) (loaded : Loaded) → IfSome o (λ told. IsLoaded told end oid t loaded) → ReadOn o end oid loaded
loaded_read None end oid t loaded is = tt
loaded_read (Some told) end oid t loaded is = is.read

seen_in : (o : Option Told) (end oid : ℕ) (loaded : Loaded) → ReadOn o end oid loaded → SeenOn o end (record { oid = oid; serial = loaded.serial; place = loaded.place })
seen_in None end oid loaded r = tt
seen_in (Some told) end oid loaded r = record { at = r.at; passed = r.passed; serial_is = r.serial_is; place_is = r.place_is }

pub loaded_seen : (o : Option Told) (end oid t : ℕ) (loaded : Loaded) → IfSome o (λ told. IsLoaded told end oid t loaded) → SeenOn o end (record { oid = oid; serial = loaded.serial; place = loaded.place })
loaded_seen o end oid t loaded is = seen_in o end oid loaded (loaded_read o end oid t loaded is)

-- ---- what an earlier time says of an object, up to its record's transaction and later ones

-- what the object's record at the place means, where there is one
there : Front → ℕ → Value
there front place = cond (eqb place 0) None (value_at place front.records)

there_none : (front : Front) (place : ℕ) → place ≡ 0 → None ≡ there front place
unfolding there
there_none front place nothing = rw nothing refl

there_some : (front : Front) (place : ℕ) → 0 < place → value_at place front.records ≡ there front place
unfolding there
there_some front place positive = rw (ne_eqb place 0 (λ e. omega (arith, e, positive))) refl

says : (file : List ℕ) (front at : Front) (oid t : ℕ) → Passed file front at → serial at.history oid ≤ t
    → (value (upto at.history t) oid ≡ there front (last_place oid 0 (rows at.records))) × (serial (upto at.history t) oid ≡ serial at.history oid)
says file front at oid t p le =
    elim (cases_eq (last_place oid 0 (rows at.records)) 0) [
      | inl nothing ↦ (
        ap value_of (none file front at oid p nothing t) ∙ there_none front (last_place oid 0 (rows at.records)) nothing,
        ap serial_of (none file front at oid p nothing t) ∙ sym (ap serial_of (none_at_all file front at oid p nothing)),
      )
      | inr some ↦
          let positive : 0 < last_place oid 0 (rows at.records) = omega (arith, some) in
          let l = leads file [] front at oid p positive in
          let here = l.here t (omega (arith, le, l.serial_is)) in (
            ap value_of here ∙ there_some front (last_place oid 0 (rows at.records)) positive,
            ap serial_of here ∙ sym l.serial_is,
          )
    ]

-- what was seen is what was read, with some value
read_of : (file : List ℕ) (front : Front) (s : Seen) → SeenIn file front s.oid s.serial s.place → (v : Value) × ReadIn file front s.oid (record { value = v; serial = s.serial; place = s.place })
read_of file front s seen = (
  there front (last_place s.oid 0 (rows seen.at.records)),
  record {
    at = seen.at;
    passed = seen.passed;
    serial_is = seen.serial_is;
    place_is = seen.place_is;
    value_is = λ t le. sym (says file front seen.at s.oid t seen.passed (omega (arith, le, seen.serial_is))).0;
  },
)

-- what was seen is seen still, where what was read is read still
pub seen_still : (o u : Option Told) (end now : ℕ) → ((oid : ℕ) (loaded : Loaded) → ReadOn o end oid loaded → ReadOn u now oid loaded) → (s : Seen) → SeenOn o end s → SeenOn u now s
seen_still None u end now still s seen = seen_in u now s.oid (record { value = None; serial = s.serial; place = s.place }) (still s.oid (record { value = None; serial = s.serial; place = s.place }) tt)
seen_still (Some t) u end now still s seen =
    let r = read_of (file_at t end) (front_at t end) s seen in
    seen_in u now s.oid (record { value = r.0; serial = s.serial; place = s.place }) (still s.oid (record { value = r.0; serial = s.serial; place = s.place }) r.1)

-- What is kept is what is loaded, where the object's record still stands there and its transaction isn't later.
again : (told : Told) (known : OpenFile) (oid t : ℕ) (loaded : Loaded) → Knows told known → ReadIn (file_at told known.end) (front_at told known.end) oid loaded → loaded.place ≡ place_in (place_of known.index oid) → loaded.serial ≤ t → IsLoaded told known.end oid t loaded
again told known oid t loaded k r here le =
    let file = file_at told known.end in
    let front = front_at told known.end in
    let stands : last_place oid 0 (rows r.at.records) ≡ last_place oid 0 (rows front.records) = sym r.place_is ∙ here ∙ k.newest oid in
    let serials = same file front r.at oid r.passed stands in
    let then = says file front r.at oid t r.passed (omega (arith, le, r.serial_is)) in
    let now = says file front front oid t (whole file front k.file) (omega (arith, le, r.serial_is, serials)) in
    record {
      value_is = r.value_is t le ∙ then.0 ∙ ap (there front) stands ∙ sym now.0;
      serial_is = r.serial_is ∙ serials ∙ sym now.1;
      read = r;
    }

pub loaded_again : (o : Option Told) (known : OpenFile) (oid t : ℕ) (loaded : Loaded) → IsKnown o known → ReadOn o known.end oid loaded → loaded.place ≡ place_in (place_of known.index oid) → loaded.serial ≤ t → IfSome o (λ told. IsLoaded told known.end oid t loaded)
loaded_again None known oid t loaded k r here le = tt
loaded_again (Some told) known oid t loaded k r here le = again told known oid t loaded k.0 r here le
