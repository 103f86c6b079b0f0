-- From an object's newest record back to the one up to a transaction.
use Rattle.std.proofs.Common.{◌≡◌, ℕ, ◌+◌, ◌<◌, ◌≤◌, List, ◌++◌, drop, Option, Some, None, refl, sym, ap, subst, ◌∙◌, arith}
use Rattle.std.proofs.lemmas.List.{take-append-drop}
use Rattle.zbase.specs.Values.{Revision, serial_of, value_of}
use Rattle.zdisk.specs.Disk.{Told, content}
use Rattle.fs_record.specs.declared.heads.DataHead.{DataHead}
use Rattle.fs_record.specs.File.{last_place, rows, value_at}
use Rattle.fs_record.specs.Fits.{FitsData}
use Rattle.fs_record.specs.Spelling.{Data, data_spelling, head_of}
use Rattle.fs_record.specs.Walks.{LeadsBack, later_than}
use Rattle.fs_record.specs.WalkLaws.{whole, none, none_at_all, leads}
use Rattle.fs_scan.specs.Newest.{place_in}
use Rattle.fs_index.specs.Places.{place_of}
use Rattle.fs_store.specs.declared.file.OpenFile.{OpenFile}
use Rattle.fs_store.specs.Finding.{FoundAt, FoundNone, HasHead, WayBack}
use Rattle.fs_store.specs.Fronts.{file_at, front_at, history_at, records_at}
use Rattle.fs_store.specs.Knowing.{Knows}

-- what a read of a head tells
abbrev pub Tells : Told → ℕ → Option DataHead → Type 0
Tells told place head = (d : Data) (more : List ℕ) → FitsData d → drop place (content told) ≡ data_spelling d ++ more → head ≡ Some (head_of d)

abbrev pub way_first : (told : Told) (known : OpenFile) (oid t calls : ℕ) → Knows told known → WayBack told known.end oid t (place_in (place_of known.index oid)) calls calls
way_first told known oid t calls k = record { at = front_at told known.end; passed = whole (file_at told known.end) (front_at told known.end) k.file; place_is = k.newest oid; same = refl; within = omega arith }

pub leads_back : (told : Told) (end oid t place calls now : ℕ) (w : WayBack told end oid t place calls now) → 0 < place → LeadsBack (content told) (file_at told end) (front_at told end) w.at oid place
leads_back told end oid t place calls now w positive =
    subst (λ (p : ℕ). LeadsBack (content told) (file_at told end) (front_at told end) w.at oid p) (sym w.place_is)
    (subst (λ (bytes : List ℕ). LeadsBack bytes (file_at told end) (front_at told end) w.at oid (last_place oid 0 (rows w.at.records))) (take-append-drop end (content told))
    (leads (file_at told end) (drop end (content told)) (front_at told end) w.at oid w.passed (subst (λ (p : ℕ). 0 < p) w.place_is positive)))

none_not_some : {A X : Type 0} (a : A) → None ≡ Some a → X
none_not_some a e = absurd cc

some_same : {A : Type 0} (a b : A) → Some a ≡ Some b → a ≡ b
some_same a b e = cc

-- some record stands there
pub no_head : {X : Type 0} (told : Told) (end oid t place calls now : ℕ) → WayBack told end oid t place calls now → 0 < place → Tells told place None → X
no_head told end oid t place calls now w positive tells =
    let l = leads_back told end oid t place calls now w positive in
    none_not_some (head_of l.written) (tells l.written l.behind l.fits l.spelled)

pub head_there : (told : Told) (place : ℕ) (head : DataHead) → Tells told place (Some head) → HasHead (content told) place head
head_there told place head tells d more fits e = some_same head (head_of d) (tells d more fits e)

pub found_here : (told : Told) (end oid t place calls now : ℕ) (head : DataHead) → WayBack told end oid t place calls now → 0 < place → Tells told place (Some head) → head.tid ≤ t → FoundAt told end oid t place head
found_here told end oid t place calls now head w positive tells le =
    let l = leads_back told end oid t place calls now w positive in
    let is : head ≡ head_of l.written = head_there told place head tells l.written l.behind l.fits l.spelled in
    let tid : head.tid ≡ l.written.tid = ap (λ (h : DataHead). h.tid) is in
    record {
      is_place = l.is_place;
      above = positive;
      is_head = head_there told place head tells;
      newest_is = w.same ∙ l.here t (omega (arith, le, tid)) ∙ ap (λ (n : ℕ). let r : Revision = record { tid = n; oid = oid; value = value_at place (records_at told end) } in Some r) (sym tid);
      read = record {
        at = w.at;
        passed = w.passed;
        serial_is = tid ∙ sym l.serial_is;
        place_is = w.place_is;
        value_is = λ later le. sym (ap value_of (l.here later (omega (arith, le, tid))));
      };
    }

pub none_here : (told : Told) (end oid t place calls now : ℕ) → WayBack told end oid t place calls now → place ≡ 0 → FoundNone told end oid t
none_here told end oid t place calls now w zero = record {
  none = w.same ∙ none (file_at told end) (front_at told end) w.at oid w.passed (sym w.place_is ∙ zero) t;
  read = record {
    at = w.at;
    passed = w.passed;
    serial_is = sym (ap serial_of (none_at_all (file_at told end) (front_at told end) w.at oid w.passed (sym w.place_is ∙ zero)));
    place_is = sym zero ∙ w.place_is;
    value_is = λ later le. sym (ap value_of (none (file_at told end) (front_at told end) w.at oid w.passed (sym w.place_is ∙ zero) later));
  };
}

pub prev_before : (told : Told) (end oid t place calls now : ℕ) (head : DataHead) → WayBack told end oid t place calls now → 0 < place → Tells told place (Some head) → head.prev < place
prev_before told end oid t place calls now head w positive tells =
    let l = leads_back told end oid t place calls now w positive in
    let is : head ≡ head_of l.written = head_there told place head tells l.written l.behind l.fits l.spelled in
    omega (arith, l.before, ap (λ (h : DataHead). h.prev) is)

pub way_on : (told : Told) (end oid t place calls now more : ℕ) (head : DataHead) → WayBack told end oid t place calls now → 0 < place → Tells told place (Some head) → t < head.tid → more ≤ now + 1 → WayBack told end oid t head.prev calls more
way_on told end oid t place calls now more head w positive tells lt le =
    let l = leads_back told end oid t place calls now w positive in
    let is : head ≡ head_of l.written = head_there told place head tells l.written l.behind l.fits l.spelled in
    record {
      at = l.earlier;
      passed = l.passed;
      place_is = ap (λ (h : DataHead). h.prev) is ∙ l.previous;
      same = w.same ∙ l.there t (omega (arith, lt, ap (λ (h : DataHead). h.tid) is));
      within = omega (arith, w.within, le, l.fewer t (omega (arith, lt, ap (λ (h : DataHead). h.tid) is)));
    }

-- with one call more
pub way_costs : (told : Told) (end oid t place calls now more : ℕ) → WayBack told end oid t place calls now → more ≤ now + 1 → more ≤ calls + 1 + later_than (history_at told end) t oid
way_costs told end oid t place calls now more w le = omega (arith, w.within, le)
