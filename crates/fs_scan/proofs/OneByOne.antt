-- One record after another.
use Rattle.std.proofs.Common.{◌≡◌, ℕ, ◌+◌, ◌<◌, ◌≤◌, Bool, true, false, ◌&&◌, List, [], ◌∷◌, ◌++◌, length, drop, refl, sym, ap, subst, ◌∙◌, append_assoc, add-zero, arith}
use Rattle.std.specs.List.{list_all, flat_map, AllByRecursion}
use Rattle.std.proofs.lemmas.List.{length-append, length-drop, drop-drop, append-nil, drop_all}
use Rattle.std.proofs.lemmas.List.Folds.{list_all-append}
use Rattle.fs_record.specs.Spelling.{Data, data_spelling}
use Rattle.fs_record.specs.Fits.{FitsData}
use Rattle.fs_record.specs.SpellingLaws.{same_records}
use Rattle.zbase.specs.declared.ids.Row.{Row}
use Rattle.fs_record.specs.File.{is_own, has_prev, has_body, has_no_version, last_place, is_right_body}
use Rattle.fs_scan.specs.declared.data.Found.{Found}
use Rattle.std.specs.Prelude.{◌==◌}
use Rattle.fs_scan.specs.declared.judging.Marks.{Marks}
use Rattle.fs_scan.specs.Found.{DataStands, NoData, data_in, body_in}
use Rattle.fs_scan.specs.Marked.{Marked, places_from, AreRecords, NoRecords, Read}

-- the records up to at
pub record StandTo (area : List ℕ) (at : ℕ) (ds : List Data) : Type 0 where
  pub fits : AllByRecursion FitsData ds
  pub spelled : area ≡ flat_map data_spelling ds ++ drop at area
  pub at_end : at ≡ length (flat_map data_spelling ds)

-- and what was said of them
pub record ReadTo (area : List ℕ) (at : ℕ) (earlier begin now : List Row) (place tid start : ℕ) (marks : Marks) : Type 0 where
  pub ds : List Data
  pub stand : StandTo area at ds
  pub marked : Marked earlier tid start marks ds
  pub rows : now ≡ begin ++ places_from place ds

flat_map-append : (ds es : List Data) → flat_map data_spelling (ds ++ es) ≡ flat_map data_spelling ds ++ flat_map data_spelling es
flat_map-append [] es = refl
flat_map-append (d ∷ ds) es = ap (λ (x : List ℕ). data_spelling d ++ x) (flat_map-append ds es) ∙ sym (append_assoc (data_spelling d) (flat_map data_spelling ds) (flat_map data_spelling es))

pub fits-append : (ds : List Data) (d : Data) → AllByRecursion FitsData ds → FitsData d → AllByRecursion FitsData (ds ++ d ∷ [])
fits-append [] d h f = (f, tt)
fits-append (e ∷ ds) d h f = (h.0, fits-append ds d h.1 f)

places-append : (place : ℕ) (ds : List Data) (d : Data) → places_from place (ds ++ d ∷ []) ≡ places_from place ds ++ record { oid = d.oid; place = place + length (flat_map data_spelling ds) } ∷ []
places-append place [] d = ap (λ (n : ℕ). record { oid = d.oid; place = n } ∷ []) (sym (add-zero place))
places-append place (e ∷ ds) d =
    let l : place + length (data_spelling e) + length (flat_map data_spelling ds) ≡ place + length (data_spelling e ++ flat_map data_spelling ds) = omega (arith, length-append (data_spelling e) (flat_map data_spelling ds)) in
    let h : places_from (place + length (data_spelling e)) (ds ++ d ∷ []) ≡ places_from (place + length (data_spelling e)) ds ++ record { oid = d.oid; place = place + length (data_spelling e) + length (flat_map data_spelling ds) } ∷ [] = places-append (place + length (data_spelling e)) ds d in
    ap (λ (ps : List Row). record { oid = e.oid; place = place } ∷ ps) (h ∙ ap (λ (n : ℕ). places_from (place + length (data_spelling e)) ds ++ record { oid = d.oid; place = n } ∷ []) l)

pub none_yet : (area : List ℕ) → StandTo area 0 []
none_yet area = record { fits = tt; spelled = refl; at_end = refl }

pub begun : (area : List ℕ) (earlier begin : List Row) (place tid start : ℕ) (marks : Marks) → marks.own ≡ true → marks.prev ≡ true → marks.back ≡ true → marks.version ≡ true → ReadTo area 0 earlier begin begin place tid start marks
begun area earlier begin place tid start marks a b c d = record { ds = []; stand = none_yet area; marked = record { own = a; prev = b; back = c; version = d }; rows = sym (append-nil begin) }

-- one record more
pub stands_more : (area : List ℕ) (at size : ℕ) (ds : List Data) (d : Data) → StandTo area at ds → DataStands d (drop at area) (drop size (drop at area)) → size ≤ length (drop at area) → StandTo area (at + size) (ds ++ d ∷ [])
stands_more area at size ds d r s fits =
    let long : size ≡ length (data_spelling d) = omega (arith, ap length s.spelled, length-append (data_spelling d) (drop size (drop at area)), length-drop size (drop at area)) in
    let joined : flat_map data_spelling (ds ++ d ∷ []) ≡ flat_map data_spelling ds ++ data_spelling d = flat_map-append ds (d ∷ []) ∙ ap (λ (x : List ℕ). flat_map data_spelling ds ++ x) (append-nil (data_spelling d)) in
    record {
      fits = fits-append ds d r.fits s.fits;
      spelled = r.spelled ∙ ap (λ (x : List ℕ). flat_map data_spelling ds ++ x) (s.spelled ∙ ap (λ (x : List ℕ). data_spelling d ++ x) (drop-drop size at area)) ∙ sym (append_assoc (flat_map data_spelling ds) (data_spelling d) (drop (at + size) area)) ∙ ap (λ (x : List ℕ). x ++ drop (at + size) area) (sym joined);
      at_end = omega (arith, r.at_end, ap length joined, length-append (flat_map data_spelling ds) (data_spelling d));
    }

one_all : (b : Bool) → (b && true) ≡ b
one_all true = refl
one_all false = refl

both : (p : Data → Bool) (ds : List Data) (d : Data) (m one new : Bool) → m ≡ list_all p ds → one ≡ p d → new ≡ (m && one) → new ≡ list_all p (ds ++ d ∷ [])
both p ds d m one new e f g = rw (g, e, f, list_all-append p ds (d ∷ [])) (ap (λ (b : Bool). list_all p ds && b) (sym (one_all (p d))))

pub one_read : (area : List ℕ) (at size : ℕ) (earlier begin now after : List Row) (place tid start : ℕ) (m one new : Marks) (d : Data)
    → ReadTo area at earlier begin now place tid start m → DataStands d (drop at area) (drop size (drop at area)) → size ≤ length (drop at area)
    → Marked earlier tid start one (d ∷ [])
    → new.own ≡ (m.own && one.own) → new.prev ≡ (m.prev && one.prev) → new.back ≡ (m.back && one.back) → new.version ≡ (m.version && one.version)
    → after ≡ now ++ record { oid = d.oid; place = place + at } ∷ []
    → ReadTo area (at + size) earlier begin after place tid start new
one_read area at size earlier begin now after place tid start m one new d r s fits k a b c v e =
    record {
      ds = r.ds ++ d ∷ [];
      stand = stands_more area at size r.ds d r.stand s fits;
      marked = record {
        own = both (is_own tid start) r.ds d m.own one.own new.own r.marked.own (k.own ∙ one_all (is_own tid start d)) a;
        prev = both (has_prev earlier) r.ds d m.prev one.prev new.prev r.marked.prev (k.prev ∙ one_all (has_prev earlier d)) b;
        back = both (has_body earlier) r.ds d m.back one.back new.back r.marked.back (k.back ∙ one_all (has_body earlier d)) c;
        version = both has_no_version r.ds d m.version one.version new.version r.marked.version (k.version ∙ one_all (has_no_version d)) v;
      };
      rows = e ∙ ap (λ (x : List Row). x ++ record { oid = d.oid; place = place + at } ∷ []) r.rows ∙ append_assoc begin (places_from place r.ds) (record { oid = d.oid; place = place + at } ∷ []) ∙ ap (λ (x : List Row). begin ++ x) (ap (λ (n : ℕ). places_from place r.ds ++ record { oid = d.oid; place = place + n } ∷ []) r.stand.at_end ∙ sym (places-append place r.ds d));
    }

pub all_stand : (area : List ℕ) (at : ℕ) (ds : List Data) → StandTo area at ds → length area ≤ at → AreRecords area ds
all_stand area at ds r le = record { fits = r.fits; spelled = r.spelled ∙ ap (λ (x : List ℕ). flat_map data_spelling ds ++ x) (drop_all at area le) ∙ append-nil (flat_map data_spelling ds) }

pub all_read : (area : List ℕ) (at : ℕ) (earlier begin now : List Row) (place tid start : ℕ) (m : Marks) → ReadTo area at earlier begin now place tid start m → length area ≤ at → Read area earlier begin now place tid start m
all_read area at earlier begin now place tid start m r le = record { ds = r.ds; are = all_stand area at r.ds r.stand le; marked = r.marked; rows = r.rows }

pub tail_fits : (ds more : List Data) → AllByRecursion FitsData (ds ++ more) → AllByRecursion FitsData more
tail_fits [] more h = h
tail_fits (d ∷ ds) more h = tail_fits ds more h.1

none_left : (rest : List ℕ) (more : List Data) → AllByRecursion FitsData more → rest ≡ flat_map data_spelling more → 0 < length rest → NoData rest → ⊥
none_left rest [] fits e lt lacks = omega (arith, ap length e)
none_left rest (d ∷ ds) fits e lt lacks = lacks d (flat_map data_spelling ds) (record { fits = fits.0; spelled = e })

pub none_stand : (area : List ℕ) (at : ℕ) (ds : List Data) → StandTo area at ds → at < length area → NoData (drop at area) → NoRecords area
none_stand area at ds r lt lacks es are =
    let s = same_records ds es (drop at area) r.fits are.fits (sym r.spelled ∙ are.spelled) in
    none_left (drop at area) s.0 (tail_fits ds s.0 (subst (AllByRecursion FitsData) s.1 are.fits)) s.2 (omega (arith, length-drop at area)) lacks

pub none_read : (area : List ℕ) (at : ℕ) (earlier begin now : List Row) (place tid start : ℕ) (m : Marks) → ReadTo area at earlier begin now place tid start m → at < length area → NoData (drop at area) → NoRecords area
none_read area at earlier begin now place tid start m r = none_stand area at r.ds r.stand

pub turn : (area rest : List ℕ) (at : ℕ) (f : Found) (earlier begin now after : List Row) (place tid start : ℕ) (m one new : Marks)
    → ReadTo area at earlier begin now place tid start m → rest ≡ drop at area → DataStands (data_in f rest) rest (drop f.size rest) → f.size ≤ length rest
    → one.own ≡ ((f.head.tid == tid) && (f.head.start == start)) → one.prev ≡ (f.head.prev == last_place f.head.oid 0 earlier)
    → one.back ≡ is_right_body earlier f.head.oid (body_in f.head.length f.back (drop 42 rest)) → one.version ≡ (f.head.version == 0)
    → new.own ≡ (m.own && one.own) → new.prev ≡ (m.prev && one.prev) → new.back ≡ (m.back && one.back) → new.version ≡ (m.version && one.version)
    → after ≡ now ++ record { oid = f.head.oid; place = place + at } ∷ []
    → ReadTo area (at + f.size) earlier begin after place tid start new
turn area rest at f earlier begin now after place tid start m one new r e s fits k1 k2 k3 k4 n1 n2 n3 n4 a =
    let d = data_in f rest in
    one_read area at f.size earlier begin now after place tid start m one new d r
    (subst (λ (x : List ℕ). DataStands d x (drop f.size x)) e s)
    (subst (λ (x : List ℕ). f.size ≤ length x) e fits)
    (record {
      own = k1 ∙ sym (one_all (is_own tid start d));
      prev = k2 ∙ sym (one_all (has_prev earlier d));
      back = k3 ∙ sym (one_all (has_body earlier d));
      version = k4 ∙ sym (one_all (has_no_version d));
    })
    n1 n2 n3 n4 a
